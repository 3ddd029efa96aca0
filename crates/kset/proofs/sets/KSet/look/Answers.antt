use Rattle.std.proofs.Common.{List, ℕ, refl, sym, subst, ap, ◌∙◌}
use Rattle.set_hash.specs.Fnv.{fnv1a}
use Rattle.kset.specs.declared.located_in_set.LocatedInSet.TheVariants.{Hit, Expired, Absent, Fault, Damaged}
use Rattle.kset.proofs.LocateLaws.{Locates, looks-hit, looks-told, looks-refused}
use Rattle.kset.proofs.sets.KSet.look.Goals as goal

pub locate-requires : goal.locate-requires
locate-requires g c = (assumption, (c.requires.page_size, (c.requires.room, (c.requires.place, c.requires.hash ∙ ap fnv1a (sym c.bytes.ensures.value)))))

pub returns-in-Ok : goal.returns-in-Ok
returns-in-Ok g c =
    let d = g.D.PageDevice in
    let at = c.args.placed.now in
    let device' = c.locate.new.device in
    let located = subst (λ (key : List ℕ). Locates g.row.PAGE d.page_count d.honest d.failures d.held at key c.args.moment c.args.self.now c.args.device.now c.empty-found.result (Hit c.in-Hit.slot c.in-Hit.expires) device' c.locate.new.found) c.bytes.ensures.value c.in-Hit.ensures in
    looks-hit g.row.PAGE d.page_count d.honest d.failures d.held at c.args.key.now c.args.moment c.args.self.now c.args.device.now c.empty-found.result
    device' c.locate.new.found c.in-Ok.value c.in-Hit.slot c.in-Hit.expires c.touch.new.self located (c.in-Ok.ensures.ok.0 ∙ c.bytes-in-Hit.ensures.value) c.touch.ensures.touched
    (record { sizes = c.touch.ensures.sizes; spelled = λ is spelled. c.touch.ensures.spelled (d.held device') (located.keeps.spelled is spelled) })

pub returns-in-Expired : goal.returns-in-Expired
returns-in-Expired g c =
    let d = g.D.PageDevice in
    let at = c.args.placed.now in
    let located = subst (λ (key : List ℕ). Locates g.row.PAGE d.page_count d.honest d.failures d.held at key c.args.moment c.args.self.now c.args.device.now c.empty-found.result Expired c.locate.new.device c.locate.new.found) c.bytes.ensures.value c.in-Expired.ensures in
    looks-told g.row.PAGE d.page_count d.honest d.failures d.held at c.args.key.now c.args.moment c.args.self.now c.args.device.now c.empty-found.result c.locate.new.device c.locate.new.found Expired refl located

pub returns-in-Absent : goal.returns-in-Absent
returns-in-Absent g c =
    let d = g.D.PageDevice in
    let at = c.args.placed.now in
    let located = subst (λ (key : List ℕ). Locates g.row.PAGE d.page_count d.honest d.failures d.held at key c.args.moment c.args.self.now c.args.device.now c.empty-found.result Absent c.locate.new.device c.locate.new.found) c.bytes.ensures.value c.in-Absent.ensures in
    looks-told g.row.PAGE d.page_count d.honest d.failures d.held at c.args.key.now c.args.moment c.args.self.now c.args.device.now c.empty-found.result c.locate.new.device c.locate.new.found Absent refl located

pub returns-in-Fault : goal.returns-in-Fault
returns-in-Fault g c =
    let d = g.D.PageDevice in
    let at = c.args.placed.now in
    let located = subst (λ (key : List ℕ). Locates g.row.PAGE d.page_count d.honest d.failures d.held at key c.args.moment c.args.self.now c.args.device.now c.empty-found.result Fault c.locate.new.device c.locate.new.found) c.bytes.ensures.value c.in-Fault.ensures in
    looks-told g.row.PAGE d.page_count d.honest d.failures d.held at c.args.key.now c.args.moment c.args.self.now c.args.device.now c.empty-found.result c.locate.new.device c.locate.new.found Fault refl located

pub returns-in-Damaged : goal.returns-in-Damaged
returns-in-Damaged g c =
    let d = g.D.PageDevice in
    let at = c.args.placed.now in
    let located = subst (λ (key : List ℕ). Locates g.row.PAGE d.page_count d.honest d.failures d.held at key c.args.moment c.args.self.now c.args.device.now c.empty-found.result Damaged c.locate.new.device c.locate.new.found) c.bytes.ensures.value c.in-Damaged.ensures in
    looks-told g.row.PAGE d.page_count d.honest d.failures d.held at c.args.key.now c.args.moment c.args.self.now c.args.device.now c.empty-found.result c.locate.new.device c.locate.new.found Damaged refl located

pub returns-in_default : goal.returns-in_default
returns-in_default g c =
    let d = g.D.PageDevice in
    let at = c.args.placed.now in
    let located = subst (λ (key : List ℕ). Locates g.row.PAGE d.page_count d.honest d.failures d.held at key c.args.moment c.args.self.now c.args.device.now c.empty-found.result (Hit c.in-Hit.slot c.in-Hit.expires) c.locate.new.device c.locate.new.found) c.bytes.ensures.value c.in-Hit.ensures in
    looks-refused g.row.PAGE d.page_count d.honest d.failures d.held at c.args.key.now c.args.moment c.args.self.now c.args.device.now c.empty-found.result c.locate.new.device c.locate.new.found c.in-Hit.slot c.in-Hit.expires _ located
