use Rattle.std.proofs.lemmas.List.Elements.{All-contains}
use Rattle.klog.specs.Keeps.{IsHeld}
use Rattle.tier_tests.proofs.LogRowLaws.{left_by_readmit}
use Rattle.tier_tests.proofs.tests.log.rows.readmit_of_one_page.Goals as goal

pub returns : goal.returns
returns g c =
    let k = c.args.log.now in
    let e = c.args.entry.now in
    left_by_readmit g.row.PAGE k c.readmit.new.self e c.readmit.result c.names_tell_numbers.ensures
    (All-contains (IsHeld k) k.entries e c.len-count.ensures.kept.held c.requires.oldest.listed) c.readmit.ensures.leaves
