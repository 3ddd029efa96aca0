-- The done calls of a lane, by its calls and their ends.
use Rattle.std.proofs.Common.{◌≡◌, ℕ, ◌<◌, zero, suc, List, [], ◌∷◌, ◌++◌, length, get_or, Some, refl, sym, ap, ◌∙◌, arith}
use Rattle.std.specs.Prelude.{slice_get, option_map}
use Rattle.std.proofs.lemmas.Option.{same_Some, slice_get_read, slice_get-get_or}
use Rattle.trace_file.specs.declared.call.Call.{Call}
use Rattle.trace_file.specs.Ending.{ending_at, each_ending}
use Rattle.certificate_checker.specs.declared.done.Done.{Done}
use Rattle.certificate_checker.specs.Lanes.{calls_of}
use Rattle.history_recorder.specs.Done.{done_with, dones_in}

many : (calls : List Call) (ends : List ℕ) → length ends ≡ length calls → length (dones_in calls ends) ≡ length ends
many [] [] same = refl
many [] (end ∷ ends) same = sym same
many (call ∷ calls) [] same = refl
many (call ∷ calls) (end ∷ ends) same = ap suc (many calls ends (omega (arith, same)))

-- there are as many done calls as ends
pub as_many : (calls : List Call) (ends : List ℕ) (dones : List Done) → length ends ≡ length calls → dones_in calls ends ≡ dones → length ends ≡ length dones
as_many calls ends dones same is = sym (many calls ends same) ∙ ap length is

-- one more is one more
pub one_more : (calls : List Call) (ends : List ℕ) (call : Call) (end : ℕ) → length ends ≡ length calls → dones_in (calls ++ call ∷ []) (ends ++ end ∷ []) ≡ dones_in calls ends ++ done_with call end ∷ []
one_more [] [] call end same = refl
one_more [] (e ∷ ends) call end same = absurd (omega (arith, same))
one_more (c ∷ calls) [] call end same = absurd (omega (arith, same))
one_more (c ∷ calls) (e ∷ ends) call end same = ap (λ (ds : List Done). done_with c e ∷ ds) (one_more calls ends call end (omega (arith, same)))

at_place : (calls : List Call) (ends : List ℕ) (i : ℕ) (call : Call) (end : ℕ) → slice_get calls i ≡ Some call → slice_get ends i ≡ Some end → slice_get (dones_in calls ends) i ≡ Some (done_with call end)
at_place [] ends i call end here there = cc
at_place (c ∷ calls) [] i call end here there = cc
at_place (c ∷ calls) (e ∷ ends) zero call end here there = ap (λ (x : Call). Some (done_with x e)) (same_Some c call here) ∙ ap (λ (x : ℕ). Some (done_with call x)) (same_Some e end there)
at_place (c ∷ calls) (e ∷ ends) (suc i) call end here there = at_place calls ends i call end here there

-- a call that is kept with its point was done at that point, and ended as the ends have it
module _ (calls : List Call) (ends : List ℕ) (dones : List Done) (is : dones_in calls ends ≡ dones) (i : ℕ) (call : Call) (here : slice_get calls i ≡ Some call) (within : i < length ends) where
  there : (end : ℕ) → slice_get ends i ≡ Some end → slice_get dones i ≡ Some (done_with call end)
  there end at = ap (λ (ds : List Done). slice_get ds i) (sym is) ∙ at_place calls ends i call end here at

  pub call_there : (end : ℕ) (shown : Call) → end ≡ get_or ends i end → shown ≡ record call { end = end } → option_map (λ (d : Done). d.call) (slice_get dones i) ≡ Some shown
  call_there end shown at made = ap (option_map (λ (d : Done). d.call)) (there end (slice_get_read ends (length ends) i end refl within at)) ∙ ap Some (sym made)

  pub point_there : option_map (λ (d : Done). d.point) (slice_get dones i) ≡ Some call.end
  point_there = ap (option_map (λ (d : Done). d.point)) (there (get_or ends i 0) (slice_get-get_or ends i 0 within))

-- the calls, each with its end in place of its point
pub calls_ended : (calls : List Call) (ends : List ℕ) → each_ending calls ends ≡ calls_of (dones_in calls ends)
calls_ended [] ends = refl
calls_ended (call ∷ calls) [] = refl
calls_ended (call ∷ calls) (end ∷ ends) = ap (λ (cs : List Call). ending_at call end ∷ cs) (calls_ended calls ends)
