-- No bit of a zero is one.
use Rattle.bloom.proofs.public_laws.FilterLaws.{set_bits-zeros}
use Rattle.bloom.proofs.filter.Filter.clear.Goals as goal

pub returns : goal.returns
returns c = set_bits-zeros
