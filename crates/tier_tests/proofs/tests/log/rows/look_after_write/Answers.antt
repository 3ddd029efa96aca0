use Rattle.std.proofs.Common.{◌≡◌, List, Some, None, subst, ◌∙◌}
use Rattle.std.specs.Prelude.{IsTrue}
use Rattle.std.specs.Option.{option_map}
use Rattle.record_pages.specs.Recs.{Rec}
use Rattle.klog_index.specs.declared.entry.Entry.{Entry}
use Rattle.klog.specs.Shown.{live_on, newest_with}
use Rattle.tier_tests.proofs.LogRowLaws.{at_moment, tells_hit, tells_expired, tells_absent, tells_whole}
use Rattle.tier_tests.proofs.tests.log.rows.look_after_write.Goals as goal

pub returns-in-Ok-clause-hit : goal.returns-in-Ok-clause-hit
returns-in-Ok-clause-hit g c = λ value is.
    let d = g.D.PageDevice in
    let step = c.flush_step in
    let was = live_on (d.held c.args.device.now) c.args.log.now in
    let now = live_on (d.held step.new.device) step.new.self in
    let honest : IsTrue (d.honest step.new.device) = c.in-Wrote.ensures.writes.honest ∙ c.requires.honest in
    let same : now ≡ was = c.in-Wrote.ensures.shown c.requires.honest c.requires.spelled in
    let given = c.in-Ok.ensures.gives honest (c.in-Wrote.ensures.spelled c.requires.honest c.requires.spelled) in
    let after = live_on (d.held c.look.new.device) c.look.new.self in
    subst (λ (live : List (Entry × Rec)). option_map (at_moment live c.args.key.now c.args.moment) (newest_with live c.args.key.now) ≡ Some (Some value)) same
    (tells_hit now c.args.key.now c.args.moment step.new.self c.in-Ok.looked c.look.new.self after given value is)

pub returns-in-Ok-clause-expired : goal.returns-in-Ok-clause-expired
returns-in-Ok-clause-expired g c = λ is.
    let d = g.D.PageDevice in
    let step = c.flush_step in
    let was = live_on (d.held c.args.device.now) c.args.log.now in
    let now = live_on (d.held step.new.device) step.new.self in
    let honest : IsTrue (d.honest step.new.device) = c.in-Wrote.ensures.writes.honest ∙ c.requires.honest in
    let same : now ≡ was = c.in-Wrote.ensures.shown c.requires.honest c.requires.spelled in
    let given = c.in-Ok.ensures.gives honest (c.in-Wrote.ensures.spelled c.requires.honest c.requires.spelled) in
    let after = live_on (d.held c.look.new.device) c.look.new.self in
    subst (λ (live : List (Entry × Rec)). option_map (at_moment live c.args.key.now c.args.moment) (newest_with live c.args.key.now) ≡ Some None) same
    (tells_expired now c.args.key.now c.args.moment step.new.self c.in-Ok.looked c.look.new.self after given is)

pub returns-in-Ok-clause-absent : goal.returns-in-Ok-clause-absent
returns-in-Ok-clause-absent g c = λ is.
    let d = g.D.PageDevice in
    let step = c.flush_step in
    let was = live_on (d.held c.args.device.now) c.args.log.now in
    let now = live_on (d.held step.new.device) step.new.self in
    let honest : IsTrue (d.honest step.new.device) = c.in-Wrote.ensures.writes.honest ∙ c.requires.honest in
    let same : now ≡ was = c.in-Wrote.ensures.shown c.requires.honest c.requires.spelled in
    let given = c.in-Ok.ensures.gives honest (c.in-Wrote.ensures.spelled c.requires.honest c.requires.spelled) in
    let after = live_on (d.held c.look.new.device) c.look.new.self in
    subst (λ (live : List (Entry × Rec)). newest_with live c.args.key.now ≡ None) same
    (tells_absent now c.args.key.now c.args.moment step.new.self c.in-Ok.looked c.look.new.self after given is)

pub returns-in-Ok-clause-whole : goal.returns-in-Ok-clause-whole
returns-in-Ok-clause-whole g c = λ is.
    let d = g.D.PageDevice in
    let step = c.flush_step in
    let now = live_on (d.held step.new.device) step.new.self in
    let honest : IsTrue (d.honest step.new.device) = c.in-Wrote.ensures.writes.honest ∙ c.requires.honest in
    let given = c.in-Ok.ensures.gives honest (c.in-Wrote.ensures.spelled c.requires.honest c.requires.spelled) in
    let after = live_on (d.held c.look.new.device) c.look.new.self in
    tells_whole now c.args.key.now c.args.moment step.new.self c.in-Ok.looked c.look.new.self after given is
