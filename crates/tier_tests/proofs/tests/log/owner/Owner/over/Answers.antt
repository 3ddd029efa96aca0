use Rattle.std.proofs.Common.{ap, subst, sym}
use Rattle.klog.specs.Log.{LogState}
use Rattle.klog.specs.Names.{HasRoom}
use Rattle.tier_tests.proofs.tests.log.owner.Owner.over.Goals as goal

pub invariant_of-result : goal.invariant_of-result
invariant_of-result g c =
    let opened = c.in_ok-log.ensures in
    record {
      shape = ap (λ (k : LogState). k.shape) opened.opening;
      room = subst (λ (k : LogState). HasRoom (g.D.PageDevice.page_count c.args.device) k) (sym opened.opening) c.requires.room;
      spelled = λ honest. opened.spelled (g.D.PageDevice.held c.args.device);
    }
