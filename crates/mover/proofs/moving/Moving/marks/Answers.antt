use Rattle.std.proofs.Common.{◌++◌, ◌∷◌, [], sym, ◌∙◌}
use Rattle.mover.specs.Flight.{records_of, fresh_mark}
use Rattle.mover.proofs.Committing.{map_more}
use Rattle.mover.proofs.moving.Moving.marks.Goals as goal

pub loop-number-preserved : goal.loop-number-preserved
loop-number-preserved c = λ shape.
    c.in_ok-push.ensures ∙ (λ i. c.loop-number.invariant shape i ++ c.of.ensures shape i ∷ [])
    ∙ sym (map_more (fresh_mark shape) (records_of c.args.self.now) c.loop-number.number c.record.result.now c.record.ensures)
