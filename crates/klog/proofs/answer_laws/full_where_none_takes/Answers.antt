use Rattle.klog.proofs.FullOnSegments.{full_where_none_takes}
use Rattle.klog.proofs.answer_laws.full_where_none_takes.Goals as goal

pub returns : goal.returns
returns c = full_where_none_takes
