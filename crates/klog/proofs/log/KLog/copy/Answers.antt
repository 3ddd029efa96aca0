use Rattle.klog.proofs.KnownLaws.{none_failed, all_held}
use Rattle.klog.proofs.log.KLog.copy.Goals as goal

pub returns-in_default-clause-faults : goal.returns-in_default-clause-faults
returns-in_default-clause-faults g c = λ honest live.
    none_failed g.row.PAGE (g.D.PageDevice.held c.args.device.now) c.args.self.now c.args.entry.now c.fetch.result _ _ c.in_default.not-Record c.fetch.ensures.reads.faults
    (c.fetch.ensures.gives (g.D.PageDevice.held c.args.device.now) (all_held g.D.PageDevice.honest g.D.PageDevice.held c.args.device.now honest)) live
