-- What a look and an entry leave of a register.
use Rattle.std.proofs.Common.{◌≡◌, ℕ, List, length, refl, sym, ◌∙◌}
use mathlib.Core.List.{IsPrefix}
use Rattle.certificate_checker.specs.Deeds.{Deed}
use Rattle.deed_book.specs.Parts.{is_in_lane, part_of}
use Rattle.deed_book.specs.Rules.{IsAdded}
use Rattle.deed_book.specs.Registers.{Catches, EntersIn}
use Rattle.deed_book.proofs.Beginnings.{prefix_trans, same_passed}

module _ (lane_of : List ℕ → ℕ) (n written found : ℕ) (old seat mid : List Deed) (ours : IsPrefix old mid) (theirs : IsPrefix seat mid) (counts : length (part_of lane_of n old) ≡ written) where
  pub looked : (new : List Deed) → IsPrefix mid new → length (part_of lane_of n new) ≡ found → found ≡ written → Catches lane_of (record { number = n; deeds = old }) seat (record { number = n; deeds = new }) new
  looked new more shows same = record {
    number = refl;
    both = refl;
    known = prefix_trans old mid new ours more;
    seen = prefix_trans seat mid new theirs more;
    part = same_passed (is_in_lane lane_of n) old new (prefix_trans old mid new ours more) (shows ∙ (same ∙ sym counts));
  }

  pub entered : (write : Deed) (new : List Deed) → IsAdded lane_of n written write mid new → EntersIn lane_of (record { number = n; deeds = old }) seat write (record { number = n; deeds = new }) new
  entered write new added = record {
    before = added.before;
    number = refl;
    both = refl;
    behind = added.behind;
    known = prefix_trans old mid added.before ours added.known;
    seen = prefix_trans seat mid added.before theirs added.known;
    part = same_passed (is_in_lane lane_of n) old added.before (prefix_trans old mid added.before ours added.known) (added.counts ∙ sym counts);
  }
