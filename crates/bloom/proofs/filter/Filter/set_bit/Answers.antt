-- The bit joins the set.
use Rattle.std.proofs.Common.{◌<◌, ◌∙◌, ap, arith}
use Rattle.std.specs.FinSet.{insert}
use Rattle.bloom.proofs.public_laws.FilterLaws.{set_bits-set}
use Rattle.bloom.proofs.filter.Filter.set_bit.Goals as goal

pub returns : goal.returns
returns c =
    let in_range : c.args.bit < 256 = omega arith in
    set_bits-set _ _ c.self.told in_range ∙ ap (λ s. insert s c.args.bit) c.self.view_is
