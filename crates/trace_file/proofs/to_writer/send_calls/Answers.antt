use Rattle.std.proofs.Common.{arith}
use Rattle.trace_file.specs.Lent.{call_shown}
use Rattle.trace_file.specs.declared.version.Version.TheVariants.{Timed}
use Rattle.trace_file.specs.Text.{call_text}
use Rattle.trace_file.proofs.public_laws.SendLaws.{begun_items, sent_item}
use Rattle.trace_file.proofs.to_writer.send_calls.Goals as goal

pub returns-in-Err-clause-err : goal.returns-in-Err-clause-err
returns-in-Err-clause-err g c =
    begun_items (call_text Timed) (g.W.Write.contents c.args.writer.now) (g.W.Write.contents c.loop-position.writer) (g.W.Write.contents c.make_room.new.writer) c.args.buffer.now c.loop-position.buffer c.args.history.now c.loop-position.position c.loop-position.invariant c.in-Err.ensures.err

pub loop-position-preserved : goal.loop-position-preserved
loop-position-preserved g c =
    sent_item (call_text Timed) (g.W.Write.contents c.args.writer.now) (g.W.Write.contents c.loop-position.writer) (g.W.Write.contents c.make_room.new.writer) c.args.buffer.now c.loop-position.buffer c.make_room.new.buffer c.put_call.new.buffer c.args.history.now c.loop-position.position (call_shown c.at.result)
    (omega arith) c.at.ensures.call c.loop-position.invariant c.in-Ok.ensures.ok c.put_call.ensures
