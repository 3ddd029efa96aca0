use Rattle.certificate_finder.proofs.Excluding.{no_witness}
use Rattle.certificate_finder.proofs.laws.witness_excludes.Goals as goal

pub returns : goal.returns
returns c = λ history witness certificate h accepted. no_witness history certificate accepted witness h
