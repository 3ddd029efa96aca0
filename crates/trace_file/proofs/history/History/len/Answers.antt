use Rattle.std.proofs.Common.{List, All, subst}
use Rattle.trace_file.specs.Calls.{IsCall}
use Rattle.trace_file.specs.declared.call.Call.{Call}
use Rattle.trace_file.proofs.public_laws.StoreLaws.{calls_in-lawful}
use Rattle.trace_file.proofs.history.History.len.Goals as goal

pub returns-clause-calls : goal.returns-clause-calls
returns-clause-calls c =
    subst (λ (calls : List Call). All IsCall calls) c.self.view_is (calls_in-lawful c.self.inside.store.items c.self.inside.entries.items c.self.invariant.lie)
