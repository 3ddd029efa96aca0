use Rattle.certificate_finder.proofs.OwnLemmas.{noted_more}
use Rattle.certificate_finder.proofs.owners.owners_of.Goals as goal

pub loop-position-preserved : goal.loop-position-preserved
loop-position-preserved c = noted_more c.args.steps.now c.loop-position.position c.loop-position.owners c.note.new.self c.owner_at-owner.result c.loop-position.invariant c.owner_at-owner.ensures c.in_ok-note.ensures
