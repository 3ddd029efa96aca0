use Rattle.std.proofs.Common.{subst}
use Rattle.klog.specs.declared.fetched.Fetched.{Fetched}
use Rattle.klog.specs.Shown.{shown_on}
use Rattle.klog.specs.Fetch.{FetchGives}
use Rattle.klog.proofs.KnownLaws.{live_had}
use Rattle.klog.proofs.log.KLog.tell.Goals as goal

pub returns-in-Damaged-clause-tells : goal.returns-in-Damaged-clause-tells
returns-in-Damaged-clause-tells g c = λ known gives live.
    let k = c.args.self.now in
    let e = c.args.entry.now in
    subst (λ (f : Fetched). FetchGives g.row.PAGE k.shape e (shown_on known k e) f) c.in-Damaged.is
    (gives (live_had g.row.PAGE known k e live)) live
