use Rattle.klog.proofs.KnownLaws.{apart_gives}
use Rattle.klog.proofs.log.KLog.fetch.Goals as goal

pub returns-in-Some-clause-gives : goal.returns-in-Some-clause-gives
returns-in-Some-clause-gives g c = λ known knows had. c.fetch_buffered.ensures.gives known

pub returns-in-None-clause-gives : goal.returns-in-None-clause-gives
returns-in-None-clause-gives g c = λ known knows had.
    apart_gives g.row.PAGE known c.args.self.now c.args.entry.now c.fetch_stored.result c.in-None.ensures.none
    (c.fetch_stored.ensures.gives known knows) had
