-- The live records of a log, and their entries.
use Rattle.std.proofs.Common.{◌≡◌, ◌<◌, ℕ, true, ◌&&◌, eqb, List, [], ◌∷◌, Option, Some, None, Contains, refl, sym, ap, subst, ◌∙◌}
use Rattle.std.specs.List.{cons_option, filter_map}
use Rattle.std.specs.Option.{option_map}
use Rattle.std.proofs.lemmas.Bool.{and_from, and_parts, eq-eqb, eqb-true}
use Rattle.record_pages.specs.Recs.{Rec}
use Rattle.klog_index.specs.declared.entry.Entry.{Entry}
use Rattle.klog_index.specs.Entries.{AreApart, is_in, is_place}
use Rattle.klog.specs.Log.{LogState}
use Rattle.klog.specs.Shown.{shown_on, live_on}
use Rattle.mover.specs.Oldest.{record_of}
use Rattle.mover.proofs.public_laws.Listing.{split, here, there}
use Rattle.mover.proofs.Firsts.{find_only, same_place}
use Rattle.std.proofs.Common.{◌⊎◌, inl, inr, arith}

-- the records that entries show
abbrev live_by : (Entry → Option Rec) → List Entry → List (Entry × Rec)
live_by shows es = filter_map (λ e. option_map (λ r. (e, r)) (shows e)) es

-- a live record is one that a listed entry shows
shown_live : (shows : Entry → Option Rec) (es : List Entry) (x : Entry × Rec) → Contains (live_by shows es) x → Contains es x.0 × (shows x.0 ≡ Some x.1)
shown_live shows [] x h = let lt : h.0 < 0 = h.1 in absurd (omega (arith, lt))
shown_live shows (e ∷ es) x h = step (shows e) refl h (shown_live shows es x)
  where
    step : (o : Option Rec) → shows e ≡ o → Contains (cons_option (option_map (λ r. (e, r)) o) (live_by shows es)) x → (Contains (live_by shows es) x → Contains es x.0 × (shows x.0 ≡ Some x.1)) → Contains (e ∷ es) x.0 × (shows x.0 ≡ Some x.1)
    step None at h rest = let it = rest h in (there x.0 e es it.0, it.1)
    step (Some r) at h rest = by_place (split x (e, r) (live_by shows es) h)
      where
        by_place : ((e, r) ≡ x) ⊎ Contains (live_by shows es) x → Contains (e ∷ es) x.0 × (shows x.0 ≡ Some x.1)
        by_place (inl first) = (here x.0 e es (ap (λ (y : Entry × Rec). y.0) first), subst (λ (y : Entry × Rec). shows y.0 ≡ Some y.1) first at)
        by_place (inr behind) = let it = rest behind in (there x.0 e es it.0, it.1)

-- entries of a set at one place lie at one place
at_one : (a b : Entry) → is_in a.set a.place b ≡ true → b.place ≡ a.place
at_one a b is =
    let both = and_parts (eqb b.set a.set) (is_place b.place a.place) is in
    let ends = and_parts (eqb b.place.segment a.place.segment && eqb b.place.page a.place.page) (eqb b.place.slot a.place.slot) both.1 in
    let starts = and_parts (eqb b.place.segment a.place.segment) (eqb b.place.page a.place.page) ends.0 in
    λ i. record {
      segment = eqb-true b.place.segment a.place.segment starts.0 i;
      page = eqb-true b.place.page a.place.page starts.1 i;
      slot = eqb-true b.place.slot a.place.slot ends.1 i;
    }

-- an entry is of its own set, at its own place
pub in_itself : (e : Entry) → is_in e.set e.place e ≡ true
in_itself e =
    and_from (eqb e.set e.set) (is_place e.place e.place) (eq-eqb e.set e.set refl)
    (and_from _ _ (and_from _ _ (eq-eqb e.place.segment e.place.segment refl) (eq-eqb e.place.page e.place.page refl)) (eq-eqb e.place.slot e.place.slot refl))

-- a live record is the record of its entry
pub record_is : (held : ℕ → Option (List ℕ)) (k : LogState) (e : Entry) (r : Rec) → AreApart k.entries → Contains (live_on held k) (e, r) → record_of e (live_on held k) ≡ Some r
record_is held k e r apart h =
    ap (option_map (λ (x : Entry × Rec). x.1)) (find_only (λ (x : Entry × Rec). is_in e.set e.place x.0) (live_on held k) (e, r) h (in_itself e) only)
  where
    same : (x : Entry × Rec) → x.0 ≡ e → shown_on held k x.0 ≡ Some x.1 → shown_on held k e ≡ Some r → x ≡ (e, r)
    same x entry at its = let value : Some x.1 ≡ Some r = sym at ∙ ap (shown_on held k) entry ∙ its in let record_ : x.1 ≡ r = cc in λ i. (entry i, record_ i)

    only : (x : Entry × Rec) → Contains (live_on held k) x → is_in e.set e.place x.0 ≡ true → x ≡ (e, r)
    only x listed is =
        let it = shown_live (shown_on held k) k.entries (e, r) h in
        let other = shown_live (shown_on held k) k.entries x listed in
        same x (same_place k.entries x.0 e apart other.0 it.0 (at_one e x.0 is)) other.1 it.1
