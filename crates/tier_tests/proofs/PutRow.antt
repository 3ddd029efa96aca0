-- What a put leaves in memory, and what a commit leaves of other sets.
use Rattle.mover.specs.Flight.{flight_of}
use Rattle.std.proofs.Common.{◌≡◌, ◌≢◌, ◌≤◌, ℕ, zero, suc, Bool, true, false, cond, List, ◌∷◌, take, Option, Some, None, refl, sym, ap, subst, ◌∙◌, arith}
use Rattle.std.specs.Prelude.{nat_lt, length}
use Rattle.std.specs.Str.{bytes_eq}
use Rattle.std.specs.Cmp.Lexicographic.{bytes_decides}
use Rattle.std.proofs.lemmas.List.{get_or-set_other}
use Rattle.record_pages.specs.Recs.{Rec}
use Rattle.record_pages.specs.declared.pushed.Pushed.{Pushed}
use Rattle.record_pages.specs.declared.pushed.Pushed.TheVariants.{Declined, Logged, Full, IndexFull}
use Rattle.admission.specs.Chance.{is_admitted}
use Rattle.memory_cache.specs.declared.pair.Pair.{Pair}
use Rattle.memory_cache.specs.MemoryList.{MemoryList, value_in, without, after_put, pushed_out}
use Rattle.klog.specs.Append.{entering, is_full}
use Rattle.kset.specs.Notes.{no_notes}
use Rattle.kset.specs.Sets.{notes_of}
use Rattle.policy_laws.specs.declared.choice.Choice.{Choice}
use Rattle.mover.specs.Commit.{CommitLeaves}
use Rattle.mover.specs.declared.flight.Flight.{Flight}
use Rattle.mover.specs.Get.{Step}
use Rattle.mover.specs.Lane.{LaneState}
use Rattle.mover.specs.Put.{lane_appended, append_step, push_step, put_step, stored}
use Rattle.mover.specs.Store.{StoreState}
use Rattle.mover.specs.declared.committed.Committed.TheVariants as committed

-- an append changes nothing in memory
append_keeps : (size : ℕ) (r : Rec) (lane : LaneState) → (append_step size r lane).lane.memory ≡ lane.memory
append_keeps size r lane = step (nat_lt (length lane.log.entries) lane.log.shape.limit) (is_full size lane.log r)
  where
    full : Step Pushed
    full = record { reply = Full; lane = lane }

    logged : Step Pushed
    logged = record { reply = Logged; lane = lane_appended size lane r }

    none : Step Pushed
    none = record { reply = IndexFull; lane = lane }

    step : (room none_left : Bool) → (cond room (cond none_left full logged) none).lane.memory ≡ lane.memory
    step true true = refl
    step true false = refl
    step false none_left = refl

-- nor does what becomes of the pair that left it
push_keeps : (size admit word : ℕ) (out : Option Pair) (lane : LaneState) → (push_step size admit word out lane).lane.memory ≡ lane.memory
push_keeps size admit word None lane = refl
push_keeps size admit word (Some out) lane = step (is_admitted admit word)
  where
    declined : Step Pushed
    declined = record { reply = Declined; lane = lane }

    step : (admitted : Bool) → (cond admitted (append_step size (entering out.key out.value) lane) declined).lane.memory ≡ lane.memory
    step true = append_keeps size (entering out.key out.value) lane
    step false = refl

-- the first of pairs is found by its key
first_found : (n : ℕ) (p : Pair) (ps : List Pair) → 1 ≤ n → value_in p.key (take n (p ∷ ps)) ≡ Some p.value
first_found zero p ps some = absurd (omega (arith, some))
first_found (suc n) p ps some = let same : bytes_eq p.key p.key ≡ true = (bytes_decides p.key p.key).1 refl in simp same refl

-- after a put memory has the value
pub put_is_in_memory : (size admit word : ℕ) (p : Pair) (old new : LaneState) → 1 ≤ old.memory.capacity → new ≡ (put_step size admit p word old).lane → value_in p.key new.memory.pairs ≡ Some p.value
put_is_in_memory size admit word p old new roomy is =
    let memory : new.memory ≡ after_put p old.memory = ap (λ (l : LaneState). l.memory) is ∙ push_keeps size admit word (pushed_out p old.memory) (stored p old) in
    ap (λ (m : MemoryList). value_in p.key m.pairs) memory ∙ first_found old.memory.capacity p (without p.key old.memory.pairs) roomy

some_same : {X : Type 0} {x y : X} → Some x ≡ Some y → x ≡ y
some_same is = cc

-- a commit whose page was not written leaves what is noted of other sets
pub others_stay : {D : Type 0} (plan : List Choice) (number : ℕ) (old new : StoreState D) (f : Flight) (set : ℕ) → flight_of number old.flights ≡ Some f → set ≢ f.moving.set → CommitLeaves plan number old committed.Forgotten new → notes_of new.sets set ≡ notes_of old.sets set
others_stay plan number old new f set flies other leaves =
    let its : leaves.its ≡ f = some_same (sym leaves.flies ∙ flies) in
    let apart : set ≢ leaves.its.moving.set = subst (λ (x : Flight). set ≢ x.moving.set) (sym its) other in
    ap (λ (s : StoreState _). notes_of s.sets set) leaves.left ∙ get_or-set_other old.sets.notes leaves.its.moving.set set no_notes no_notes apart
