-- The bits join one after the other.
use Rattle.std.proofs.Common.{◌≡◌, ◌<◌, take, get_or, length, arith, sym, ap, ◌∙◌}
use Rattle.std.proofs.lemmas.List.{take_more}
use Rattle.std.proofs.lemmas.Grind.{common_steps}
use Rattle.sight_sketch.specs.Sketch.{Row, with_place, with_places}
use Rattle.sight_sketch.proofs.RowLaws.{with_places-none, with_places-push}
use Rattle.sight_sketch.proofs.bit_row.BitRow.set_all.Goals as goal

pub loop-number-init : goal.loop-number-init
loop-number-init c = with_places-none c.args.self.now

pub loop-number-preserved : goal.loop-number-preserved
loop-number-preserved c =
    let within : c.loop-number.number-index < length c.args.numbers = grind (arith, common_steps) in
    let number = get_or c.args.numbers c.loop-number.number-index 0 in
    let e : c.set.new.self ≡ with_place (with_places c.args.self.now (take c.loop-number.number-index c.args.numbers)) number =
    c.set.ensures ∙ ap (λ (r : Row). with_place r number) c.loop-number.invariant in
    e ∙ with_places-push c.args.self.now _ _ ∙ ap (with_places c.args.self.now) (sym (take_more c.args.numbers c.loop-number.number-index 0 within))

pub returns : goal.returns
returns c = grind (arith, common_steps)
