use Rattle.std.proofs.Common.{◌≡◌, false}
use Rattle.std.proofs.lemmas.Bool.{OnFalse_at}
use Rattle.kset.specs.Notes.{lets_show}
use Rattle.kset.specs.Sets.{notes_of}
use Rattle.tier_tests.proofs.SetAfterLaws.{none_shows}
use Rattle.tier_tests.proofs.tests.sets.rows.look_after_failed_rewrite.Goals as goal

pub returns-in-Ok : goal.returns-in-Ok
returns-in-Ok g c =
    let at = c.args.placed.now in
    let hidden : lets_show (notes_of c.rewrite.new.self at.set) at.hash ≡ false = none_shows c.args.sets.now c.rewrite.new.self at.set at.hash c.requires.place.set c.in-Forgotten.ensures.leaves in
    (OnFalse_at hidden c.in-Ok.ensures.denied).0

pub returns-in-Err : goal.returns-in-Err
returns-in-Err g c =
    let at = c.args.placed.now in
    let hidden : lets_show (notes_of c.rewrite.new.self at.set) at.hash ≡ false = none_shows c.args.sets.now c.rewrite.new.self at.set at.hash c.requires.place.set c.in-Forgotten.ensures.leaves in
    (OnFalse_at hidden c.in-Err.ensures.denied).0
