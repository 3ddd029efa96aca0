use Rattle.std.proofs.Common.{arith, rules}
use Rattle.trace_file.specs.Text.{position_text}
use Rattle.trace_file.proofs.public_laws.SendLaws.{begun_items, sent_item}
use Rattle.trace_file.proofs.to_writer.send_positions.Goals as goal

pub returns-in-Err-clause-err : goal.returns-in-Err-clause-err
returns-in-Err-clause-err g c =
    begun_items position_text (g.W.Write.contents c.args.writer.now) (g.W.Write.contents c.loop-place.writer) (g.W.Write.contents c.make_room.new.writer) c.args.buffer.now c.loop-place.buffer c.args.certificate.now c.loop-place.place c.loop-place.invariant c.in-Err.ensures.err

pub loop-place-preserved : goal.loop-place-preserved
loop-place-preserved g c =
    sent_item position_text (g.W.Write.contents c.args.writer.now) (g.W.Write.contents c.loop-place.writer) (g.W.Write.contents c.make_room.new.writer) c.args.buffer.now c.loop-place.buffer c.make_room.new.buffer c.push.new.self c.args.certificate.now c.loop-place.place (c.at.result)
    (omega arith) c.at.ensures c.loop-place.invariant c.in-Ok.ensures.ok (search rules)
