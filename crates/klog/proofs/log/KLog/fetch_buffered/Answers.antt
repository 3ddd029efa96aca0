use Rattle.klog.proofs.FetchLaws.{buffered_gives}
use Rattle.klog.proofs.log.KLog.fetch_buffered.Goals as goal

pub returns-clause-gives : goal.returns-clause-gives
returns-clause-gives g c = λ known.
    buffered_gives g.row.PAGE known c.args.buffer.now.pages c.args.self.now c.args.entry.now _ c.checked.result c.requires.buffer
    c.record_in.ensures.value c.checked.ensures.gives
