use Rattle.std.proofs.Common.{rules}
use Rattle.trace_file.specs.Lent.{call_shown}
use Rattle.trace_file.proofs.public_laws.StoreLaws.{pushed_call}
use Rattle.trace_file.proofs.history.History.push_ref.Goals as goal

pub returns-clause-ok : goal.returns-clause-ok
returns-clause-ok c =
    let h = c.self.inside in
    let key = c.args.call.now.key.now in
    let value = c.value-value.result.now in
    pushed_call h.store.items c.put_behind.new.store.items key value h.entries.items c.put_behind.new.entries.items c.args.self.now c.of-entry.result (call_shown c.args.call.now)
    c.self.invariant.lie c.self.view_is c.in_ok-put_behind.ensures.store c.in_ok-put_behind.ensures.entries
    (rw c.value-value.ensures (c.of-entry.ensures.call h.store.items (search rules)))
