use Rattle.trace_file.specs.Lent.{call_shown}
use Rattle.certificate_finder.proofs.FaultLemmas.{reversed_more}
use Rattle.certificate_finder.proofs.reversed.reversed_of.Goals as goal

pub loop-position-preserved : goal.loop-position-preserved
loop-position-preserved c = reversed_more c.args.history.now c.loop-position.position (call_shown c.at-call.result) c.loop-position.reversed.items c.list_if.new.positions.items c.at-call.ensures.call c.loop-position.invariant c.in_ok-list_if.ensures
