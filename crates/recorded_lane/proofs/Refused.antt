-- When a put is refused, by what its result is and how much room there is.
use Rattle.std.proofs.Common.{◌≡◌, ◌<◌, ◌≤◌, ◌↔◌, ℕ, Bool, true, false, Result, Ok, Err, IsErrOf, refl, inl, inr, arith}
use Rattle.std.specs.Prelude.{IsTrue}
use Rattle.std.proofs.lemmas.Bool.{cases_lt}
use Rattle.recorded_lane.specs.declared.record_put_fault.RecordPutFault.{RecordPutFault}
use Rattle.recorded_lane.specs.declared.record_put_fault.RecordPutFault.TheVariants.{TooLarge, HistoryFull, OutOfMemory}
use Rattle.recorded_lane.specs.Lane.{max_calls}

-- ---- a result that is neither of the two

pub no_fault : {X : Type 0} (x : X) (fault : RecordPutFault) → IsErrOf (Ok x) fault → ⊥
no_fault x fault is = cc

-- an object that is not too large fits
pub fits : (large : Bool) (needed fit : ℕ) → (IsTrue large ↔ (fit < needed)) → large ≡ false → needed ≤ fit
fits large needed fit is not = elim (cases_lt fit needed) [
  | inl over ↦ let yes : large ≡ true = is.1 over in absurd cc
  | inr within ↦ within
]

-- ---- of the bytes that are needed, those that fit, and how many calls were recorded

pub large_large : {X : Type 0} (needed fit : ℕ) → fit < needed → IsErrOf {T = X} (Err TooLarge) TooLarge ↔ (fit < needed)
large_large needed fit large = ((λ is. large), (λ over. refl))

pub large_full : {X : Type 0} (needed fit calls : ℕ) → fit < needed → IsErrOf {T = X} (Err TooLarge) HistoryFull ↔ ((needed ≤ fit) × (max_calls ≤ calls))
large_full needed fit calls large = ((λ is. absurd cc), (λ both. let within = both.0 in absurd (omega (arith, within))))

pub full_large : {X : Type 0} (needed fit : ℕ) → needed ≤ fit → IsErrOf {T = X} (Err HistoryFull) TooLarge ↔ (fit < needed)
full_large needed fit within = ((λ is. absurd cc), (λ over. absurd (omega (arith, over))))

pub full_full : {X : Type 0} (needed fit calls : ℕ) → needed ≤ fit → max_calls ≤ calls → IsErrOf {T = X} (Err HistoryFull) HistoryFull ↔ ((needed ≤ fit) × (max_calls ≤ calls))
full_full needed fit calls within past = ((λ is. (within, past)), (λ both. refl))

pub other_large : {X : Type 0} (needed fit : ℕ) (result : Result X RecordPutFault) → (IsErrOf result TooLarge → ⊥) → needed ≤ fit → IsErrOf result TooLarge ↔ (fit < needed)
other_large needed fit result other within = ((λ is. absurd (other is)), (λ over. absurd (omega (arith, over))))

pub other_full : {X : Type 0} (needed fit calls : ℕ) (result : Result X RecordPutFault) → (IsErrOf result HistoryFull → ⊥) → calls < max_calls → IsErrOf result HistoryFull ↔ ((needed ≤ fit) × (max_calls ≤ calls))
other_full needed fit calls result other less = ((λ is. absurd (other is)), (λ both. let past = both.1 in absurd (omega (arith, past))))

-- ---- memory was refused

pub memory_large : {X : Type 0} (needed fit : ℕ) → needed ≤ fit → IsErrOf {T = X} (Err OutOfMemory) TooLarge ↔ (fit < needed)
memory_large needed fit within = ((λ is. absurd cc), (λ over. absurd (omega (arith, over))))

pub memory_full : {X : Type 0} (needed fit calls : ℕ) → calls < max_calls → IsErrOf {T = X} (Err OutOfMemory) HistoryFull ↔ ((needed ≤ fit) × (max_calls ≤ calls))
memory_full needed fit calls less = ((λ is. absurd cc), (λ both. let past = both.1 in absurd (omega (arith, past))))
