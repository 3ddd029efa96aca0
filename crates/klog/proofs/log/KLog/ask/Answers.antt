use Rattle.klog.proofs.KnownLaws.{apart_gives}
use Rattle.klog.proofs.log.KLog.ask.Goals as goal

pub returns-in-Some-clause-tells : goal.returns-in-Some-clause-tells
returns-in-Some-clause-tells g c = λ known knows. c.tell.ensures.tells known (λ had. c.fetch_buffered-fetched.ensures.gives known)

pub returns-in-None-clause-tells : goal.returns-in-None-clause-tells
returns-in-None-clause-tells g c = λ known knows. c.tell-in-None.ensures.tells known
    (apart_gives g.row.PAGE known c.args.self.now c.args.entry.now c.fetch_stored-fetched.result c.in-None.ensures.none
    (c.fetch_stored-fetched.ensures.gives known knows))
