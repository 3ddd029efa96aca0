-- Recorded calls, kept with their point in the end's place.
use Rattle.std.proofs.Common.{◌≡◌, ◌-◌, List, [], ◌∷◌, length, map, take, refl, sym, ap, ◌∙◌}
use Rattle.std.proofs.lemmas.List.{length-map, take-map}
use Rattle.trace_file.specs.declared.call.Call.{Call}
use Rattle.recorded_lane.specs.declared.noted.Noted.{Noted}
use Rattle.recorded_lane.specs.Points.{at_point, noted_in}

-- what is kept is what was recorded
kept : (calls : List Call) → map at_point (map noted_in calls) ≡ calls
kept [] = refl
kept (c ∷ calls) = ap (λ (cs : List Call). c ∷ cs) (kept calls)

pub kept_are : (history : List Call) (calls : List Noted) → map noted_in history ≡ calls → history ≡ map at_point calls
kept_are history calls is = sym (kept history) ∙ ap (map at_point) is

-- a kept call less is a recorded call less
pub kept_without : (old new : List Call) (calls : List Noted) → map noted_in old ≡ calls → new ≡ take (length old - 1) old → map noted_in new ≡ take (length calls - 1) calls
kept_without old new calls is less =
    ap (map noted_in) less
    ∙ sym (take-map noted_in (length old - 1) old)
    ∙ ap (λ n. take (n - 1) (map noted_in old)) (sym (length-map old noted_in))
    ∙ ap (λ (cs : List Noted). take (length cs - 1) cs) is
