use Rattle.std.proofs.Common.{refl}
use Rattle.tier_tests.proofs.SetRowLaws.{foreign, off_foreign, hit_or_damaged, absent_or_damaged}
use Rattle.tier_tests.proofs.tests.sets.rows.look_off_the_page_of_another_set.Goals as goal

pub returns-in-Ok-clause-hit : goal.returns-in-Ok-clause-hit
returns-in-Ok-clause-hit g c = λ value.
    off_foreign _ _ _ c.requires.shows (c.in-Ok.ensures.foreign c.requires.honest (foreign c.args.placed.now.set _ c.requires.another)) refl (hit_or_damaged value)

pub returns-in-Ok-clause-absent : goal.returns-in-Ok-clause-absent
returns-in-Ok-clause-absent g c =
    off_foreign _ _ _ c.requires.shows (c.in-Ok.ensures.foreign c.requires.honest (foreign c.args.placed.now.set _ c.requires.another)) refl absent_or_damaged
