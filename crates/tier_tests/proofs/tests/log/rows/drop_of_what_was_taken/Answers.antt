use Rattle.std.proofs.Common.{Contains, sym, subst}
use Rattle.klog.specs.Log.{LogState}
use Rattle.tier_tests.proofs.LogTakeLaws.{off_segment}
use Rattle.tier_tests.proofs.tests.log.rows.drop_of_what_was_taken.Goals as goal

pub returns : goal.returns
returns g c = λ other there apart.
    subst (λ (k : LogState). Contains k.entries other) (sym c.drop_taken.ensures.dropped) (off_segment c.args.log.now c.args.set c.args.taken.now other there apart)
