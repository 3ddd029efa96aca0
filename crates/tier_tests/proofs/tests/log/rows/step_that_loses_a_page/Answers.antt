use Rattle.klog.specs.Flush.{FlushGives}
use Rattle.klog.specs.declared.flushed.Flushed.{Flushed}
use Rattle.std.proofs.Common.{subst}
use Rattle.tier_tests.proofs.LogTakeLaws.{none_of_lost}
use Rattle.tier_tests.proofs.tests.log.rows.step_that_loses_a_page.Goals as goal

pub returns : goal.returns
returns g c = λ lost.
    none_of_lost c.args.log.now c.flush_step.new.self (subst (λ (a : Flushed). FlushGives c.args.log.now a c.flush_step.new.self) lost c.flush_step.ensures.gives).1
