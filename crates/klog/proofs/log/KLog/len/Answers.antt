use Rattle.klog.proofs.LookLaws.{placed_live}
use Rattle.klog.proofs.log.KLog.len.Goals as goal

pub returns-clause-placed : goal.returns-clause-placed
returns-clause-placed g c = λ size held h. placed_live size held c.args.self.now h
