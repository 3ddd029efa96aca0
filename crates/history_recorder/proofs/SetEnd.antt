-- The call at a position gets its end.
use Rattle.std.proofs.Common.{◌≡◌, ◌<◌, ◌≤◌, ℕ, zero, suc, List, [], ◌∷◌, length, get_or, set, Some, sym, ap, refl, arith}
use Rattle.history_recorder.specs.declared.recorded_call.RecordedCall.{RecordedCall}
use Rattle.history_recorder.specs.Books.{ended_at}

-- it is set
pub set_is_ended : (calls : List RecordedCall) (position end : ℕ) (b : RecordedCall) → position < length calls → get_or calls position b ≡ b → set calls position (record { noted = b.noted; end = Some end }) ≡ ended_at position end calls
set_is_ended [] position end b within is = absurd (omega arith)
set_is_ended (c ∷ calls) zero end b within is = ap (λ (x : RecordedCall). record { noted = x.noted; end = Some end } ∷ calls) (sym is)
set_is_ended (c ∷ calls) (suc position) end b within is = ap (λ cs. c ∷ cs) (set_is_ended calls position end b (omega arith) is)

-- there is none
pub none_is_ended : (calls : List RecordedCall) (position end : ℕ) → length calls ≤ position → calls ≡ ended_at position end calls
none_is_ended [] position end past = refl
none_is_ended (c ∷ calls) zero end past = absurd (omega arith)
none_is_ended (c ∷ calls) (suc position) end past = ap (λ cs. c ∷ cs) (none_is_ended calls position end (omega arith))
