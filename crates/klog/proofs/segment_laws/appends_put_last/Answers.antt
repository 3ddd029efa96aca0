use Rattle.klog.proofs.PutLaws.{appends_put_last}
use Rattle.klog.proofs.segment_laws.appends_put_last.Goals as goal

pub returns : goal.returns
returns c = appends_put_last
