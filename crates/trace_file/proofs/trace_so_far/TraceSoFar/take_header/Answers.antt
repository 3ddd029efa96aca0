use Rattle.std.proofs.Common.{Option, refl, ◌∙◌, ap}
use Rattle.trace_file.specs.Given.{shown}
use Rattle.trace_file.specs.declared.header.Header.{Header}
use Rattle.trace_file.specs.Stream.{read_behind}
use Rattle.trace_file.proofs.Countings.{opened_now}
use Rattle.trace_file.proofs.public_laws.TraceLaws.{stopped_at_header}
use Rattle.trace_file.proofs.trace_so_far.TraceSoFar.take_header.Goals as goal

pub returns-in-Ok-clause-ok : goal.returns-in-Ok-clause-ok
returns-in-Ok-clause-ok c =
    opened_now c.in-Ok.header c.args.self.now (shown c.args.cursor) (shown c.in-Ok.behind) c.in-None.is c.requires.taken c.requires.at c.args.cursor.are_bytes c.in-Ok.ensures

pub returns-in-Err-Short-clause-ok : goal.returns-in-Err-Short-clause-ok
returns-in-Err-Short-clause-ok c = (refl, c.in-None.is, stopped_at_header (shown c.args.cursor) _ (rw c.in-Err-Short.field-0-is at c.in-Err-Short.ensures))

pub returns-in-Err-Fault-clause-err : goal.returns-in-Err-Fault-clause-err
returns-in-Err-Fault-clause-err c =
    let e = stopped_at_header (shown c.args.cursor) _ (rw c.in-Err-Fault.field-0-is at c.in-Err-Fault.ensures) in
    let h = c.args.self.now in
    λ known. ap (λ (o : Option Header). read_behind o h.history h.certificate (shown c.args.cursor)) c.in-None.is ∙ e
