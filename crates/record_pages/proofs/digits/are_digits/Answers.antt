use Rattle.std.proofs.Common.{nat_le, ◌&&◌, rules, tests}
use Rattle.std.proofs.lemmas.Iterator.{YieldsList-from_slice}
use Rattle.std.proofs.lemmas.Iterator.Search.{all_from_yields_List}
use Rattle.record_pages.proofs.digits.are_digits.Goals as goal

pub returns : goal.returns
returns c =
    all_from_yields_List (λ b. nat_le 48 b && nat_le b 57) _ _ _ c.all.ensures.ran (YieldsList-from_slice c.args.bytes.now cc) (λ x b q k. search (rules, tests))
