use Rattle.std.proofs.lemmas.List.{take_rest}
use Rattle.trace_file.proofs.public_laws.SendLaws.{sent_more, sent_front}
use Rattle.trace_file.proofs.to_writer.write_whole.Goals as goal

pub loop-rest-preserved : goal.loop-rest-preserved
loop-rest-preserved g c =
    rw take_rest (sent_more (g.W.Write.contents c.args.writer.now) (g.W.Write.contents c.loop-rest.writer) (g.W.Write.contents c.write.new.self) c.args.bytes.now c.loop-rest.rest.now _ c.loop-rest.invariant
    (sent_front (g.W.Write.contents c.loop-rest.writer) (g.W.Write.contents c.write.new.self) c.loop-rest.rest.now c.in-Ok.count c.in-Ok.ensures.bytes))
