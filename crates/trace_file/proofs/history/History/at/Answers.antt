use Rattle.std.proofs.Common.{◌≡◌}
use Rattle.trace_file.specs.Lent.{call_shown}
use Rattle.trace_file.specs.Stored.{call_in}
use Rattle.trace_file.proofs.public_laws.StoreLaws.{lies_at, read_call}
use Rattle.trace_file.proofs.history.History.at.Goals as goal

pub lent-requires : goal.lent-requires
lent-requires c =
    let h = c.self.inside in
    lies_at h.store.items c.as_slice.result.now h.entries.items c.args.self.now c.args.position c.index.result.now c.self.view_is c.self.invariant.lie c.index.ensures c.requires c.as_slice.ensures.value

pub returns-clause-call : goal.returns-clause-call
returns-clause-call c =
    let h = c.self.inside in
    let shown : call_shown c.lent.result ≡ call_in h.store.items c.index.result.now = rw (← c.as_slice.ensures.value) c.lent.ensures.call in
    read_call h.store.items h.entries.items c.args.self.now c.args.position c.index.result.now _ c.self.view_is c.index.ensures c.requires shown
