-- One number more for one setting more.
use Rattle.std.proofs.Common.{◌≡◌, ◌∙◌, ◌<◌, ◌≤◌, ◌+◌, ◌++◌, ◌∷◌, [], ℕ, List, Option, Some, ap, ap₂, arith, length, map, sym, take}
use Rattle.std.proofs.lemmas.List.{length-set, map_more, map-append, take_all, take_more_set}
use Rattle.std.proofs.Math.ListN.{get_or, set}
use Rattle.clap.specs.Words.{found_of, rows_of}
use Rattle.load.specs.declared.setting.Setting.{Setting}
use Rattle.load.specs.declared.setting.Setting.TheVariants.{Lanes}
use Rattle.command_line.specs.CommandLine.{number_found}
use Rattle.command_line.proofs.FoundLaws.{lacks}
use Rattle.command_line.proofs.asked_load.numbers_of.Goals as goal

one_more : (f : Setting → Option ℕ) (settings : List Setting) (numbers : List ℕ) (place n : ℕ) → length numbers ≡ length settings → place < length settings → map f (take place settings) ≡ map Some (take place numbers) → Some n ≡ f (get_or settings place Lanes) → map f (take (place + 1) settings) ≡ map Some (take (place + 1) (set numbers place n))
one_more f settings numbers place n len less before is =
    map_more f settings place Lanes less
    ∙ ap₂ (λ front last. front ++ last ∷ []) before (sym is)
    ∙ sym (map-append Some (take place numbers) (n ∷ []))
    ∙ sym (ap (map Some) (take_more_set numbers place n (omega arith)))

pub loop-place-preserved : goal.loop-place-preserved
loop-place-preserved g c = (
  length-set c.loop-place.numbers c.loop-place.place c.in-Some.number ∙ c.loop-place.invariant.0,
  one_more (number_found (rows_of (found_of c.args.found.now))) c.args.settings.now c.loop-place.numbers c.loop-place.place c.in-Some.number c.loop-place.invariant.0 (omega arith) c.loop-place.invariant.1 (sym c.in-Some.is ∙ c.number_of.ensures),
)

pub returns-clause-numbers : goal.returns-clause-numbers
returns-clause-numbers g c =
    let more : length c.args.settings.now ≤ c.loop-place.place = omega arith in
    let len = c.loop-place.invariant.0 in
    ap (map (number_found (rows_of (found_of c.args.found.now)))) (sym (take_all c.loop-place.place c.args.settings.now more))
    ∙ c.loop-place.invariant.1
    ∙ ap (map Some) (take_all c.loop-place.place c.loop-place.numbers (omega arith))

pub returns-in-None-clause-lacks : goal.returns-in-None-clause-lacks
returns-in-None-clause-lacks g c = lacks c.args.settings.now (rows_of (found_of c.args.found.now)) c.loop-place.place (omega arith) (sym c.number_of.ensures ∙ c.in-None.is)
