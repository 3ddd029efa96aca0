-- A history that is acceptable stays so without calls that no hit reads.
use Rattle.std.proofs.Common.{◌≡◌, ◌≢◌, ℕ, ◌<◌, ◌≤◌, Bool, Some, List, ◌++◌, length, subst, inl, inr}
use Rattle.std.specs.Prelude.{All, filter, slice_get}
use Rattle.trace_file.specs.declared.act.Act.TheVariants.{Hit}
use Rattle.trace_file.specs.declared.call.Call.{Call}
use Rattle.certificate_checker.specs.Orders.{in_order}
use Rattle.certificate_checker.proofs.public_laws.Listing.{Member, all_member, filter_member, member_all, member_at, member_contained, member_filter, member_picked, pairs_filter, pairs_from}
use Rattle.certificate_finder.specs.Lists.{AreAllBelow}
use Rattle.history_window.specs.Standing.{Acceptable}
use Rattle.history_window.proofs.Ahead.{Once, ahead_filter, filter_ahead, first_member}
use Rattle.history_window.proofs.Keeping.{in_list, is_in, kept_calls, list_in, places, places_once, places_within}
use Rattle.history_window.proofs.Lining.{AgreesLine, IsLawfulLine, ReadsIn, agrees_to, lawful_to}
use Rattle.history_window.proofs.Picking.{IsLineOf, line_accepted}

-- all that a kept or a later hit reads in a line is kept, or later itself
abbrev pub KeepsReads : List Call → List ℕ → List ℕ → Type 0
KeepsReads history positions line = (hit : ℕ) (call : Call) (value : List ℕ) (moment : ℕ) → Member hit positions → slice_get history hit ≡ Some call → call.act ≡ Hit value moment → (r : ReadsIn history line hit call.key value moment) → Member r.put positions

module _ (history later : List Call) (P : ℕ → Type 0) (kept : List ℕ) (all : AreAllBelow P (length history) kept) where
  abbrev test : ℕ → Bool
  test = is_in (places history later kept)

  module _ (line : List ℕ) (once : Once line) (each : (p : ℕ) → p < length (history ++ later) → Member p line) (agrees : AgreesLine (history ++ later) line) (keeps : KeepsReads (history ++ later) (places history later kept) line) where
    -- the line without what is forgotten
    abbrev shown : List ℕ
    shown = filter test line

    shown_placed : (p : ℕ) → Member p shown → Member p (places history later kept)
    shown_placed p m = in_list (places history later kept) p (member_filter test line p m).1

    line_shown : IsLawfulLine (history ++ later) line → IsLineOf (history ++ later) (places history later kept) shown
    line_shown lawful = record {
      only = shown_placed;
      each = λ p m. filter_member test line p (each p (places_within history later P kept all p m)) (list_in (places history later kept) p m);
      once = pairs_filter test (λ (p q : ℕ). p ≢ q) line once;
      agrees = λ p q one other a. agrees p q one other (ahead_filter test line p q a);
      lawful = λ hit call value moment m found is.
          let r = lawful hit call value moment (member_filter test line hit m).0 found is in
          let passes = list_in (places history later kept) r.put (keeps hit call value moment (shown_placed hit m) found is r) in
          record {
            put = r.put;
            call = r.call;
            expires = r.expires;
            at = r.at;
            one_key = r.one_key;
            is = r.is;
            live = r.live;
            ahead = filter_ahead test line r.put hit r.ahead passes (member_filter test line hit m).1;
            last = λ other write at writes a. elim (r.last other write at writes (ahead_filter test line other hit a)) [
              | inl same ↦ inl same
              | inr sooner ↦ inr (filter_ahead test line other r.put sooner (member_filter test line other (first_member shown other hit a)).1 passes)
            ];
          };
    }

  pub shown_acceptable : ((line : List ℕ) → Once line → ((p : ℕ) → p < length (history ++ later) → Member p line) → AgreesLine (history ++ later) line → All (λ (call : Call). call.start ≤ call.end) (history ++ later) → KeepsReads (history ++ later) (places history later kept) line) → Acceptable (history ++ later) → Acceptable (in_order history kept ++ later)
  shown_acceptable keeps whole =
      let line = whole.0 in
      let a = whole.1 in
      let once = pairs_from (λ (p q : ℕ). p ≢ q) line a.spelled.once in
      let each : (p : ℕ) → p < length (history ++ later) → Member p line = λ p less. member_contained line p (a.spelled.each p less) in
      let agrees = agrees_to (history ++ later) line once a.agrees in
      let lawful = lawful_to (history ++ later) line once a.lawful in
      let chosen = places history later kept in
      subst Acceptable (kept_calls history later P kept all)
      (line_accepted (history ++ later) chosen (places_within history later P kept all) (places_once history later P kept all) (filter test line)
      (line_shown line once each agrees (keeps line once each agrees a.intervals) lawful)
      (member_all (λ (c : Call). c.start ≤ c.end) (in_order (history ++ later) chosen) (λ c m.
      let found = member_picked (slice_get (history ++ later)) chosen c m in
      all_member (λ (c : Call). c.start ≤ c.end) (history ++ later) c a.intervals (member_at (history ++ later) found.0 c found.2))))
