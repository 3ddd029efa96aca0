-- When what a look finds expires.
use Rattle.std.proofs.Common.{◌≡◌, ℕ, List, Option, Some, None, refl, sym, ap, subst, ◌∙◌}
use Rattle.std.specs.Prelude.{IsSomeAnd, IfSome}
use Rattle.std.specs.Option.{option_map}
use Rattle.record_pages.specs.Expiry.{timed, value_at}
use Rattle.record_pages.specs.Recs.{Rec}
use Rattle.record_pages.specs.declared.timed_value.TimedValue.{TimedValue}
use Rattle.set_hash.specs.declared.placed.Placed.{Placed}
use Rattle.klog_index.specs.declared.entry.Entry.{Entry}
use Rattle.klog.specs.declared.located_in_log.LocatedInLog.TheVariants as log
use Rattle.klog.specs.Locate.{NamesNewest}
use Rattle.klog.specs.Shown.{newest_with, place_in}
use Rattle.kset.specs.declared.located_in_set.LocatedInSet.{LocatedInSet}
use Rattle.kset.specs.declared.located_in_set.LocatedInSet.TheVariants as set
use Rattle.kset.specs.Locate.{NamesFirst, looked_of as set_looked_of}
use Rattle.kset.specs.Look.{SetLookGives}
use Rattle.kset.specs.Sets.{SetsState, hit_in}
use Rattle.kset.specs.Shown.{first_visible}
use Rattle.mover.specs.Lane.{LaneState}
use Rattle.mover.specs.Timed.{set_timed, log_timed, flash_timed, expiry_at, expiry_at_memory}
use Rattle.mover.specs.Touch.{in_set}
use Rattle.mover.proofs.Expiring.{is_live_at}

-- a value that is given, with when it expires
timed_at : (moment : ℕ) (v : TimedValue) (buffer : List ℕ) (expires : ℕ) → value_at moment v ≡ Some buffer → v.expires ≡ expires → v ≡ timed buffer expires
timed_at moment v buffer expires gives is = (is_live_at moment v buffer gives).0 ∙ ap (timed buffer) is

-- what holds of each value holds of one that is there
pub if_some : {X : Type 0} (o : Option X) (P Q : X → Type 0) → ((x : X) → P x → Q x) → IfSome o P → IfSome o Q
if_some None P Q more h = tt
if_some (Some x) P Q more h = more x h

-- the newest record of the log is what flash has
pub log_hit_timed : (key : List ℕ) (moment : ℕ) (lane : LaneState) (buffer : List ℕ) (e : Entry) (expires : ℕ) → NamesNewest lane.live key moment buffer (log.Hit e expires) → flash_timed key lane ≡ Some (timed buffer expires)
log_hit_timed key moment lane buffer e expires named =
    ap (log_timed key lane) named.1 ∙ ap (λ (v : TimedValue). Some v) (timed_at moment named.0.value buffer expires named.2.0 named.2.1)

-- what a set locates is what its first visible record has
first_timed_in : (key : List ℕ) (moment : ℕ) (buffer : List ℕ) (n m : ℕ) (visible : List (ℕ × Rec)) (k new : SetsState) (l : LocatedInSet) → NamesFirst visible key l → SetLookGives visible key moment k m (set_looked_of l buffer) new →
    IfSome (expiry_at (in_set n l)) (λ expires. option_map (λ x. x.1.value) (first_visible visible key) ≡ Some (timed buffer expires))
first_timed_in key moment buffer n m visible k new (set.Hit slot expires) names gives = step (first_visible visible key) names gives
  where
    step : (o : Option (ℕ × Rec)) → IsSomeAnd o (λ x. (x.0 ≡ slot) × (x.1.value.expires ≡ expires)) → IsSomeAnd o (λ x. (value_at moment x.1.value ≡ Some buffer) × (new ≡ hit_in k m x.0)) →
        option_map (λ x. x.1.value) o ≡ Some (timed buffer expires)
    step None names gives = absurd names
    step (Some x) names gives = ap (λ (v : TimedValue). Some v) (timed_at moment x.1.value buffer expires gives.0 names.1)
first_timed_in key moment buffer n m visible k new set.Expired names gives = tt
first_timed_in key moment buffer n m visible k new set.Absent names gives = tt
first_timed_in key moment buffer n m visible k new set.Fault names gives = tt
first_timed_in key moment buffer n m visible k new set.Damaged names gives = tt

-- if the log has no record of the key, that is what flash has
pub set_hit_timed : (key : List ℕ) (moment : ℕ) (lane : LaneState) (buffer : List ℕ) (placed : Placed) (k new : SetsState) (l : LocatedInSet) → placed ≡ place_in lane.log.shape key → newest_with lane.live key ≡ None →
    NamesFirst (lane.visible placed.set) key l → SetLookGives (lane.visible placed.set) key moment k placed.set (set_looked_of l buffer) new →
    IfSome (expiry_at (in_set placed.set l)) (λ expires. flash_timed key lane ≡ Some (timed buffer expires))
set_hit_timed key moment lane buffer placed k new l is none names gives =
    let first : set_timed key lane ≡ option_map (λ x. x.1.value) (first_visible (lane.visible placed.set) key) =
    ap (λ (p : Placed). option_map (λ x. x.1.value) (first_visible (lane.visible p.set) key)) (sym is) in
    if_some (expiry_at (in_set placed.set l)) _ _ (λ expires it. ap (log_timed key lane) none ∙ first ∙ it)
    (first_timed_in key moment buffer placed.set placed.set (lane.visible placed.set) k new l names gives)

-- what a set locates is not in memory
pub not_in_memory : (n : ℕ) (l : LocatedInSet) → expiry_at_memory (in_set n l) ≡ None
not_in_memory n (set.Hit slot expires) = refl
not_in_memory n set.Expired = refl
not_in_memory n set.Absent = refl
not_in_memory n set.Fault = refl
not_in_memory n set.Damaged = refl
