-- A time is added of an operation whose begin is known.
use Rattle.std.proofs.Common.{subst}
use Rattle.serve_load.specs.Times.{IsSampled}
use Rattle.serve_load.proofs.Sampling.{sampled}
use Rattle.serve_load.proofs.caller.Caller.make_next.Goals as goal

pub returns-clause-times : goal.returns-clause-times
returns-clause-times g c =
    let before = c.args.times.now in
    let after = c.note.new.self in
    subst (λ o. IsSampled c.args.number o before.gets after.gets before.puts after.puts) c.next-operation.ensures.operation (sampled c.args.number c.next-operation.result c.begin_of-begin.result before after c.begin_of-begin.ensures c.note.ensures)
