-- What the sets show stays of the sets, and current.
use Rattle.std.proofs.Common.{◌≡◌, ◌≢◌, ◌<◌, ℕ, Bool, true, false, cond, eqb, List, [], length, not, Option, All, refl, sym, ap, subst, ◌∙◌, arith}
use Rattle.std.specs.Prelude.{◌==◌}
use Rattle.std.specs.List.{enumerate_from}
use Rattle.std.proofs.lemmas.Bool.{eqb-true, eqb-false}
use Rattle.std.proofs.lemmas.Bool.Decides.{nat_tests}
use Rattle.std.proofs.lemmas.List.Elements.{All-nil, All-filter, filter_passes}
use Rattle.std.proofs.lemmas.List.FromFn.{length-enumerate_from, get_or-enumerate_from}
use Rattle.record_pages.specs.Recs.{Rec}
use Rattle.set_hash.specs.Fnv.{fnv1a}
use Rattle.set_hash.specs.Place.{placed_of}
use Rattle.kset.specs.declared.rewritten.Rewritten.TheVariants.{Written, Forgotten}
use Rattle.kset.specs.declared.set_read.SetRead.TheVariants.{Records, PageLost}
use Rattle.std.specs.Prelude.{Ok, Err}
use Rattle.kset.specs.Sets.{notes_of}
use Rattle.kset.specs.Pages.{AreSpelled, records_on}
use Rattle.kset.specs.Shown.{visible_from}
use Rattle.kset.specs.After.{with_set, is_forgetting, without_hash, after_strike}
use Rattle.kset.specs.Laws.{StrikesKeepSets, ReadingsKeepSets, RewritingsKeepSets, IsCurrent, StrikesKeepCurrent, ReadingsKeepCurrent, RewritingsKeepCurrent, FramesKeepSets}
use Rattle.record_pages.specs.declared.timed_value.TimedValue.{TimedValue}

-- what holds of what one set shows now, and of what each other shows, holds of what all show
all_with : {X : Type 0} (P : ℕ → X → Type 0) (visible : ℕ → List X) (set : ℕ) (shows : List X) → ((other : ℕ) → other ≢ set → All (P other) (visible other)) → All (P set) shows →
    (other : ℕ) → All (P other) (with_set visible set shows other)
all_with {X} P visible set shows others own other = step (eqb other set) refl
  where
    step : (b : Bool) → eqb other set ≡ b → All (P other) (cond b shows (visible other))
    step true same = subst (λ (s : ℕ). All (P s) shows) (sym (eqb-true other set same)) own
    step false differs = others other (eqb-false other set differs)

-- what holds of records holds of them with their slots
all_slots : (P : Rec → Type 0) (rs : List Rec) → All P rs → All (λ (x : ℕ × Rec). P x.1) (enumerate_from 0 rs)
all_slots P rs all = λ n d h.
    let within : n < length rs = subst (λ (len : ℕ). n < len) (length-enumerate_from 0 rs) h in
    subst (λ (x : ℕ × Rec). P x.1) (sym (get_or-enumerate_from 0 rs n d within)) (all n d.1 within)

pub strikes_keep : StrikesKeepSets
strikes_keep lanes sets set hash free notes visible all = all_with P visible set (after_strike free notes hash (visible set)) (λ other _. all other) (struck (is_forgetting free notes hash))
  where
    P : ℕ → ℕ × Rec → Type 0
    P s x = (placed_of lanes sets (fnv1a x.1.key)).set ≡ s

    struck : (b : Bool) → All (P set) (cond b [] (without_hash hash (visible set)))
    struck true = All-nil (P set)
    struck false = All-filter (λ (x : ℕ × Rec). not (fnv1a x.1.key == hash)) (P set) (visible set) (all set)

pub readings_keep : ReadingsKeepSets
readings_keep lanes sets set (Ok PageLost) visible all = all_with (λ s (x : ℕ × Rec). (placed_of lanes sets (fnv1a x.1.key)).set ≡ s) visible set [] (λ other _. all other) (All-nil _)
readings_keep lanes sets set (Ok (Records rs)) visible all = all
readings_keep lanes sets set (Err e) visible all = all

pub rewritings_keep : RewritingsKeepSets
rewritings_keep lanes sets set rs Written visible its all =
    all_with (λ s (x : ℕ × Rec). (placed_of lanes sets (fnv1a x.1.key)).set ≡ s) visible set (enumerate_from 0 rs) (λ other _. all other)
    (all_slots (λ (r : Rec). (placed_of lanes sets (fnv1a r.key)).set ≡ set) rs its)
rewritings_keep lanes sets set rs Forgotten visible its all = all_with (λ s (x : ℕ × Rec). (placed_of lanes sets (fnv1a x.1.key)).set ≡ s) visible set [] (λ other _. all other) (All-nil _)

-- a current record with another key is current if the current value of one key alone changed
other_key : (lanes sets : ℕ) (was is : List ℕ → Option TimedValue) (key : List ℕ) → ((k : List ℕ) → k ≢ key → is k ≡ was k) →
    (set : ℕ) (r : Rec) → IsCurrent lanes sets was set r → r.key ≢ key → IsCurrent lanes sets is set r
other_key lanes sets was is key same set r current differs = record { now = same r.key differs ∙ current.now; its = current.its }

pub strikes_keep_now : StrikesKeepCurrent
strikes_keep_now lanes sets was is key set free notes visible its same all =
    all_with (λ s (x : ℕ × Rec). IsCurrent lanes sets is s x.1) visible set (after_strike free notes (fnv1a key) (visible set)) elsewhere (struck (is_forgetting free notes (fnv1a key)))
  where
    -- in another set no record has the key
    elsewhere : (other : ℕ) → other ≢ set → All (λ (x : ℕ × Rec). IsCurrent lanes sets is other x.1) (visible other)
    elsewhere other differs = λ n d h.
        other_key lanes sets was is key same other _ (all other n d h)
        (λ e. differs (sym (all other n d h).its ∙ ap (λ (k : List ℕ). (placed_of lanes sets (fnv1a k)).set) e ∙ its))

    kept : (xs : List (ℕ × Rec)) → All (λ (x : ℕ × Rec). IsCurrent lanes sets was set x.1) xs → All (λ (x : ℕ × Rec). not (fnv1a x.1.key == fnv1a key) ≡ true) xs → All (λ (x : ℕ × Rec). IsCurrent lanes sets is set x.1) xs
    kept xs current tests = λ n d h. other_key lanes sets was is key same set _ (current n d h) (λ e. grind (arith, nat_tests, tests n d h, ap fnv1a e))

    struck : (b : Bool) → All (λ (x : ℕ × Rec). IsCurrent lanes sets is set x.1) (cond b [] (without_hash (fnv1a key) (visible set)))
    struck true = All-nil (λ (x : ℕ × Rec). IsCurrent lanes sets is set x.1)
    struck false =
        kept (without_hash (fnv1a key) (visible set))
        (All-filter (λ (x : ℕ × Rec). not (fnv1a x.1.key == fnv1a key)) (λ (x : ℕ × Rec). IsCurrent lanes sets was set x.1) (visible set) (all set))
        (filter_passes (λ (x : ℕ × Rec). not (fnv1a x.1.key == fnv1a key)) (visible set))

pub readings_keep_now : ReadingsKeepCurrent
readings_keep_now lanes sets current set (Ok PageLost) visible all = all_with (λ s (x : ℕ × Rec). IsCurrent lanes sets current s x.1) visible set [] (λ other _. all other) (All-nil _)
readings_keep_now lanes sets current set (Ok (Records rs)) visible all = all
readings_keep_now lanes sets current set (Err e) visible all = all

pub rewritings_keep_now : RewritingsKeepCurrent
rewritings_keep_now lanes sets current set rs Written visible its all =
    all_with (λ s (x : ℕ × Rec). IsCurrent lanes sets current s x.1) visible set (enumerate_from 0 rs) (λ other _. all other) (all_slots (IsCurrent lanes sets current set) rs its)
rewritings_keep_now lanes sets current set rs Forgotten visible its all = all_with (λ s (x : ℕ × Rec). IsCurrent lanes sets current s x.1) visible set [] (λ other _. all other) (All-nil _)

pub frames_keep : FramesKeepSets
frames_keep size was is k same = (
  λ spelled. subst (λ (pages : ℕ → Option (List ℕ)). AreSpelled size pages k) (sym same) spelled,
  ap shown same,
)
  where
    -- what shows by these pages
    shown : (ℕ → Option (List ℕ)) → ℕ → List (ℕ × Rec)
    shown pages set = visible_from (notes_of k set) 0 (records_on (pages set))
