-- What a get that is done under a lane's lock answers, by what its store has, and after a put.
use Rattle.std.proofs.Common.{◌≡◌, ◌≤◌, ◌∙◌, ℕ, zero, suc, Bool, true, false, cond, List, ◌∷◌, take, Option, Some, None, refl, ap, arith}
use Rattle.std.specs.Prelude.{nat_lt, length}
use Rattle.std.specs.Str.{bytes_eq}
use Rattle.std.specs.Cmp.Lexicographic.{bytes_decides}
use Rattle.record_pages.specs.Expiry.{timed, value_at}
use Rattle.record_pages.specs.Recs.{Rec}
use Rattle.record_pages.specs.declared.pushed.Pushed.{Pushed}
use Rattle.record_pages.specs.declared.pushed.Pushed.TheVariants.{Declined, Logged, Full, IndexFull}
use Rattle.record_pages.specs.declared.tier.Tier.TheVariants.{Memory}
use Rattle.record_pages.specs.declared.timed_value.TimedValue.{TimedValue}
use Rattle.admission.specs.Chance.{is_admitted}
use Rattle.memory_cache.specs.declared.pair.Pair.{Pair}
use Rattle.memory_cache.specs.MemoryList.{MemoryList, value_in, without, after_put, pushed_out}
use Rattle.klog.specs.Append.{entering, is_full}
use Rattle.mover.specs.Get.{Step, answer_by}
use Rattle.mover.specs.Lane.{LaneState, lane_of}
use Rattle.mover.specs.Put.{lane_appended, append_step, push_step, put_step, stored}
use Rattle.mover.specs.Store.{StoreState}
use Rattle.history_recorder.specs.declared.operation.Operation.TheVariants.{Get, Put}
use Rattle.shared_cache.specs.Acts.{ActGives}
use Rattle.shared_cache.specs.declared.response.Response.{Response}
use Rattle.shared_cache.specs.declared.response.Response.TheVariants.{Got, Stored, Removed}

-- ---- a get

module _ {D : Type 0} (honest : D → Bool) (failures : D → ℕ) (held : D → ℕ → Option (List ℕ)) (size : ℕ) where
  -- what memory has is answered
  pub from_memory : (key : List ℕ) (moment : ℕ) (old new : StoreState D) (outcome : Response) (v : TimedValue) → ActGives honest failures held size (Get key moment) old outcome new → value_in key old.memory.pairs ≡ Some v → outcome ≡ Got (answer_by (value_at moment v) Memory)
  from_memory key moment old new (Got told) v gives has = ap Got (gives.in_memory v has)
  from_memory key moment old new (Stored pushed) v gives has = absurd gives
  from_memory key moment old new Removed v gives has = absurd gives

-- ---- a put

-- an append changes nothing in memory
append_keeps : (size : ℕ) (r : Rec) (lane : LaneState) → (append_step size r lane).lane.memory ≡ lane.memory
append_keeps size r lane = step (nat_lt (length lane.log.entries) lane.log.shape.limit) (is_full size lane.log r)
  where
    full : Step Pushed
    full = record { reply = Full; lane = lane }

    logged : Step Pushed
    logged = record { reply = Logged; lane = lane_appended size lane r }

    none : Step Pushed
    none = record { reply = IndexFull; lane = lane }

    step : (room none_left : Bool) → (cond room (cond none_left full logged) none).lane.memory ≡ lane.memory
    step true true = refl
    step true false = refl
    step false none_left = refl

-- nor does what becomes of the pair that left it
push_keeps : (size admit word : ℕ) (out : Option Pair) (lane : LaneState) → (push_step size admit word out lane).lane.memory ≡ lane.memory
push_keeps size admit word None lane = refl
push_keeps size admit word (Some out) lane = step (is_admitted admit word)
  where
    declined : Step Pushed
    declined = record { reply = Declined; lane = lane }

    step : (admitted : Bool) → (cond admitted (append_step size (entering out.key out.value) lane) declined).lane.memory ≡ lane.memory
    step true = append_keeps size (entering out.key out.value) lane
    step false = refl

-- the first of pairs is found by its key
first_found : (n : ℕ) (p : Pair) (ps : List Pair) → 1 ≤ n → value_in p.key (take n (p ∷ ps)) ≡ Some p.value
first_found zero p ps some = absurd (omega (arith, some))
first_found (suc n) p ps some = let same : bytes_eq p.key p.key ≡ true = (bytes_decides p.key p.key).1 refl in simp same refl

-- after a put memory has the value
put_is_in_memory : (size admit word : ℕ) (p : Pair) (old new : LaneState) → 1 ≤ old.memory.capacity → new ≡ (put_step size admit p word old).lane → value_in p.key new.memory.pairs ≡ Some p.value
put_is_in_memory size admit word p old new roomy is =
    let memory : new.memory ≡ after_put p old.memory = ap (λ (l : LaneState). l.memory) is ∙ push_keeps size admit word (pushed_out p old.memory) (stored p old) in
    ap (λ (m : MemoryList). value_in p.key m.pairs) memory ∙ first_found old.memory.capacity p (without p.key old.memory.pairs) roomy

module _ {D : Type 0} (honest : D → Bool) (failures : D → ℕ) (held : D → ℕ → Option (List ℕ)) (size : ℕ) (key value : List ℕ) (word expires : ℕ) where
  -- after a put memory has the value, if it has room for a pair
  pub put_is_kept : (old mid : StoreState D) (outcome : Response) → ActGives honest failures held size (Put key value word expires) old outcome mid → 1 ≤ old.memory.capacity → value_in key mid.memory.pairs ≡ Some (timed value expires)
  put_is_kept old mid (Got told) gives roomy = absurd gives
  put_is_kept old mid (Stored pushed) gives roomy = put_is_in_memory size old.layout.admit word (record { key = key; value = timed value expires }) (lane_of held old) (lane_of held mid) roomy gives.gives.1
  put_is_kept old mid Removed gives roomy = absurd gives
