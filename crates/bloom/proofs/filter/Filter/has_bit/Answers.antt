-- The bit of the word is the one of the set.
use Rattle.std.proofs.Common.{◌<◌, ◌∙◌, ap, arith}
use Rattle.std.specs.FinSet.{contains}
use Rattle.bloom.proofs.public_laws.FilterLaws.{contains-at}
use Rattle.bloom.proofs.filter.Filter.has_bit.Goals as goal

pub returns : goal.returns
returns c =
    let in_range : c.args.bit < 256 = omega arith in
    contains-at _ _ in_range ∙ ap (λ s. contains s c.args.bit) c.self.view_is
