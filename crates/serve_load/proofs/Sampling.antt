-- Of which operations a time is added.
use Rattle.std.proofs.Common.{◌≡◌, ℕ, List, [], ◌∷◌, ◌++◌, Option, Some, None, inl, inr, refl, true, ap, ◌∙◌, arith}
use Rattle.std.specs.Prelude.{IsSome, min}
use Rattle.std.specs.declared.time.Instant.{Instant}
use Rattle.load.specs.Cells.{longest}
use Rattle.load.specs.declared.serve_operation.ServeOperation.{ServeOperation}
use Rattle.load.specs.declared.serve_operation.ServeOperation.TheVariants.{Get, Put, Remove}
use Rattle.serve_load.specs.declared.call_times.CallTimes.{CallTimes}
use Rattle.serve_load.specs.Times.{HasOneMore, IsNoted, IsNotedOnce, IsSampled, is_timed}

-- an operation whose begin is known is one of those that are timed
pub sampled : (number : ℕ) (operation : ServeOperation) (begin : Option Instant) (before after : CallTimes) → (IsSome begin → is_timed operation number ≡ true) → IsNotedOnce operation begin before.gets after.gets before.puts after.puts → IsSampled number operation before.gets after.gets before.puts after.puts
sampled number operation None before after one noted = inl noted
sampled number operation (Some begin) before after one noted = inr (one refl, (begin, noted))

-- a time that is cut at the longest is added as the whole time is
cut : (n time : ℕ) → time ≡ min n longest → min time longest ≡ min n longest
cut n time is = omega (arith, is)

one_more : (n time : ℕ) (before times : List ℕ) → time ≡ min n longest → HasOneMore time before times → HasOneMore n before times
one_more n time before times is more = record { added = λ few. more.added few ∙ ap (λ (t : ℕ). before ++ t ∷ []) (cut n time is); full = more.full }

pub noted_cut : (operation : ServeOperation) (n time : ℕ) (gets_before gets puts_before puts : List ℕ) → time ≡ min n longest → IsNoted operation time gets_before gets puts_before puts → IsNoted operation n gets_before gets puts_before puts
noted_cut (Get key) n time gets_before gets puts_before puts is noted = (one_more n time gets_before gets is noted.0, noted.1)
noted_cut (Put key) n time gets_before gets puts_before puts is noted = (noted.0, one_more n time puts_before puts is noted.1)
noted_cut (Remove key) n time gets_before gets puts_before puts is noted = noted
