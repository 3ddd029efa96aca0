-- No bit of four words is one exactly when the words are zeros.
use Rattle.std.proofs.Common.{◌<◌, ◌^◌, get_or, ◌∙◌, sym, arith}
use Rattle.bloom.proofs.public_laws.FilterLaws.{tells-empty}
use Rattle.bloom.proofs.filter.Filter.is_empty.Goals as goal

pub returns : goal.returns
returns c =
    let words = c.self.inside.words in
    let first : get_or words 0 0 < 2 ^ 64 = omega arith in
    let second : get_or words 1 0 < 2 ^ 64 = omega arith in
    let third : get_or words 2 0 < 2 ^ 64 = omega arith in
    let fourth : get_or words 3 0 < 2 ^ 64 = omega arith in
    let told = tells-empty words c.self.told first second third fourth in (
      (λ t. sym c.self.view_is ∙ told.0 t),
      (λ none. told.1 (c.self.view_is ∙ none)),
    )
