use Rattle.klog.proofs.StepLaws.{entry_dies}
use Rattle.klog.proofs.segment_laws.entry_dies.Goals as goal

pub returns : goal.returns
returns c = entry_dies
