use Rattle.trace_file.proofs.public_laws.SendLaws.{begun_none}
use Rattle.trace_file.proofs.to_writer.write_trace.Goals as goal

pub returns-then-len-clause-begun : goal.returns-then-len-clause-begun
returns-then-len-clause-begun g c = begun_none (g.W.Write.contents c.args.writer.now) c.args.history.now c.args.certificate.now

pub returns-then-len-2-clause-begun : goal.returns-then-len-2-clause-begun
returns-then-len-2-clause-begun g c = begun_none (g.W.Write.contents c.args.writer.now) c.args.history.now c.args.certificate.now
