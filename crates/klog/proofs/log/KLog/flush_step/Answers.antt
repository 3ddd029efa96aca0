use Rattle.std.proofs.Common.{rules}
use Rattle.klog.proofs.log.KLog.flush_step.Goals as goal

pub returns : goal.returns
returns g c = record {
  writes = search rules;
  shape = search rules;
  gives = search rules;
  idle = search rules;
  wrote = search rules;
  apart = search rules;
  spelled = λ honest h. c.seal.ensures.spelled (g.D.PageDevice.held c.args.device.now) h;
  shown = search rules;
}
