use Rattle.certificate_finder.proofs.ByKeys.{by_keys}
use Rattle.certificate_finder.proofs.laws.lawful_by_keys.Goals as goal

pub returns : goal.returns
returns c = by_keys
