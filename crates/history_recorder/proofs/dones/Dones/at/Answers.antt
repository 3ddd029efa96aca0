use Rattle.std.proofs.Common.{◌<◌, length, arith}
use Rattle.history_recorder.proofs.DonesIn.{as_many, call_there}
use Rattle.history_recorder.proofs.dones.Dones.at.Goals as goal

pub at-call-requires : goal.at-call-requires
at-call-requires c =
    let h = c.self.inside in
    let kept = c.self.invariant in
    let many = as_many h.calls h.ends.items c.args.self.now c.self.invariant c.self.view_is in
    let within = c.requires in
    omega (arith, kept, many, within)

pub index-requires : goal.index-requires
index-requires c =
    let h = c.self.inside in
    let many = as_many h.calls h.ends.items c.args.self.now c.self.invariant c.self.view_is in
    let within = c.requires in
    let len = h.ends.ok.0 in
    omega (arith, many, within, len)

pub returns-clause-call : goal.returns-clause-call
returns-clause-call c =
    let h = c.self.inside in
    let many = as_many h.calls h.ends.items c.args.self.now c.self.invariant c.self.view_is in
    let within : c.args.number < length c.args.self.now = c.requires in
    call_there h.calls h.ends.items c.args.self.now c.self.view_is c.args.number _ c.at-call.ensures.call (omega (arith, many, within)) c.index.result.now _ c.index.ensures c.new.ensures.call
