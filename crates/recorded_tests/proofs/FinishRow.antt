-- The history of a cache that is over weighs what its passes list.
use Rattle.std.proofs.Common.{◌≡◌, ◌∙◌, ℕ, List, [], ◌∷◌, map, refl, sym, ap, arith}
use Rattle.std.specs.Prelude.{sum_by}
use Rattle.std.proofs.lemmas.List.Sums.{sum_by-cons}
use Rattle.trace_file.specs.declared.call.Call.{Call}
use Rattle.certificate_checker.specs.Lanes.{Stamped, stamped}
use Rattle.certificate_checker.proofs.public_laws.Laying.{call_in}
use Rattle.certificate_checker.proofs.public_laws.LaneLemmas.{calls_stamped}
use Rattle.shared_cache.specs.Finished.{IsFinished, done_of}
use Rattle.shared_cache.specs.Passes.{Ticket}

sum_by-map : {X Y : Type 0} (h : Y → ℕ) (f : X → Y) (xs : List X) → sum_by h (map f xs) ≡ sum_by (λ x. h (f x)) xs
sum_by-map h f [] = refl
sum_by-map h f (x ∷ xs) = let r = sum_by-map h f xs in let a = sum_by-cons h (f x) (map f xs) in let b = sum_by-cons (λ y. h (f y)) x xs in omega arith

-- however calls are weighed, the history weighs as much as what the passes list
pub weighs_alike : (h : Call → ℕ) (number : ℕ) (passes : List Ticket) (history : List Call) (certificate : List ℕ) → IsFinished number passes history certificate → sum_by h history ≡ sum_by (λ p. sum_by (λ l. h (done_of l).call) p.calls) passes
weighs_alike h number passes history certificate f =
    ap (sum_by h) (f.laid_out.calls ∙ sym (calls_stamped 0 f.lanes)) ∙ sum_by-map h call_in (stamped f.lanes) ∙ f.listed (λ (s : Stamped). h (call_in s))
