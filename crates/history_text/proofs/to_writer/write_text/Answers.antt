use Rattle.std.proofs.Common.{arith}
use Rattle.trace_file.specs.Lent.{call_shown}
use Rattle.history_text.specs.Writing.{named}
use Rattle.history_text.proofs.WritingLaws.{wrote_more, have_more, first_without, wrote_before}
use Rattle.history_text.proofs.to_writer.write_text.Goals as goal

pub loop-position-preserved : goal.loop-position-preserved
loop-position-preserved g c = record {
  wrote = wrote_more (named c.args.only) c.args.history.now c.loop-position.position (call_shown c.at-call.result) (omega arith) c.at-call.ensures.call _ _ _ c.loop-position.invariant.wrote c.in-Ok.ensures.ok;
  have = have_more (named c.args.only) c.args.history.now c.loop-position.position (call_shown c.at-call.result) (omega arith) c.at-call.ensures.call c.loop-position.invariant.have c.in-Ok.ensures.has;
}

pub returns-in-Err-clause-too_late : goal.returns-in-Err-clause-too_late
returns-in-Err-clause-too_late g c =
    first_without (named c.args.only) c.args.history.now c.loop-position.position (call_shown c.at-call.result) (omega arith) c.at-call.ensures.call (g.W.Write.contents c.args.writer.now) (g.W.Write.contents c.loop-position.writer) (g.W.Write.contents c.write_call.new.writer) c.loop-position.invariant.have c.in-Err.fault c.in-Err.ensures.err

pub returns-in-Err-clause-begun : goal.returns-in-Err-clause-begun
returns-in-Err-clause-begun g c =
    wrote_before (named c.args.only) c.args.history.now c.loop-position.position (call_shown c.at-call.result) (omega arith) c.at-call.ensures.call (g.W.Write.contents c.args.writer.now) (g.W.Write.contents c.loop-position.writer) (g.W.Write.contents c.write_call.new.writer) c.loop-position.invariant.wrote c.in-Err.fault c.in-Err.ensures.err
