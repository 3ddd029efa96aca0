use Rattle.std.proofs.Common.{◌<◌, length, arith}
use Rattle.history_recorder.proofs.DonesIn.{as_many, point_there}
use Rattle.history_recorder.proofs.dones.Dones.point.Goals as goal

pub at-requires : goal.at-requires
at-requires c =
    let h = c.self.inside in
    let kept = c.self.invariant in
    let many = as_many h.calls h.ends.items c.args.self.now c.self.invariant c.self.view_is in
    let within = c.requires in
    omega (arith, kept, many, within)

pub returns : goal.returns
returns c =
    let h = c.self.inside in
    let many = as_many h.calls h.ends.items c.args.self.now c.self.invariant c.self.view_is in
    let within : c.args.number < length c.args.self.now = c.requires in
    point_there h.calls h.ends.items c.args.self.now c.self.view_is c.args.number _ c.at.ensures.call (omega (arith, many, within))
