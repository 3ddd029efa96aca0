use Rattle.std.proofs.Common.{◌≡◌, ℕ, false, subst}
use Rattle.set_hash.specs.Fnv.{fnv1a}
use Rattle.kset.specs.Notes.{lets_show}
use Rattle.kset.specs.Pages.{page_records}
use Rattle.kset.specs.Sets.{notes_of}
use Rattle.tier_tests.proofs.SetAfterLaws.{none_is_read}
use Rattle.tier_tests.proofs.tests.sets.rows.read_after_strike.Goals as goal

pub returns-in-Ok : goal.returns-in-Ok
returns-in-Ok g c = λ records same.
    let d = g.D.PageDevice in
    let set = c.args.placed.now.set in
    let notes = notes_of c.strike.new.self set in
    let held = d.held c.args.device.now in
    let hidden : lets_show notes (fnv1a c.args.key.now) ≡ false = subst (λ (hash : ℕ). lets_show notes hash ≡ false) c.requires.hash c.strike.ensures.hidden in
    none_is_read notes c.args.key.now (page_records held c.strike.new.self set) c.in-Ok.read (d.failures c.args.device.now) (d.failures c.read_set.new.device) records hidden
    (c.in-Ok.ensures.gives c.requires.honest (c.strike.ensures.spelled held c.requires.spelled)) same
