use Rattle.std.proofs.Common.{nat_le, ◌&&◌, rules, tests}
use Rattle.std.proofs.lemmas.Iterator.{YieldsList-from_slice}
use Rattle.std.proofs.lemmas.Iterator.Search.{all_from_yields_List}
use Rattle.script_words.proofs.words.are_within.Goals as goal

pub returns : goal.returns
returns c =
    all_from_yields_List (λ b. nat_le c.args.least b && nat_le b c.args.greatest) _ _ _ c.all.ensures.ran (YieldsList-from_slice c.args.bytes.now cc) (λ x b q k. search (rules, tests))
