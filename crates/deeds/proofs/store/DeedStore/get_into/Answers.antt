-- The store after a get whose answer is a deed, and that a hit is live.
use Rattle.std.proofs.Common.{◌++◌, ◌∷◌, [], ap, ◌∙◌, Ok, subst}
use Rattle.std.specs.Prelude.{IsTrue}
use Rattle.record_pages.specs.declared.answer.Answer.{Answer}
use Rattle.mover.specs.Get.{answer_of}
use Rattle.trace_file.specs.declared.act.Act.{Act}
use Rattle.deeds.specs.Asked.{Asked, IsLiveHit, TellsExpiry}
use Rattle.deeds.proofs.Serves.{served_asked, served_noted, live_asked, live_then, expiry_told}
use Rattle.deeds.proofs.store.DeedStore.get_into.Goals as goal

pub invariant_of-self : goal.invariant_of-self
invariant_of-self g c =
    let d = g.D.PageDevice in
    let old : Asked g.row.D.Denot = record { store = c.self.inside.store; deeds = c.self.inside.trail.deeds } in
    let a = c.args in
    let new = c.get_into-seen.new.self in
    let answer : Answer = answer_of c.get_into-seen.result c.get_into-seen.new.found in
    let gets = c.get_into-seen.ensures.gets in
    let asked = served_asked g.row.PAGE d.honest d.failures d.held c.get_shows.ensures old c.self.invariant a.key.now a.moment new (Ok answer) gets in
    let live = live_then g.row.PAGE d.honest d.failures d.held c.get_shows.ensures old c.self.invariant a.key.now a.moment new c.found_is_held.ensures (Ok answer) gets in
    served_noted d.honest d.held (record { store = new; deeds = old.deeds }) asked a.key.now a.moment answer live _
    (c.then.ensures ∙ ap (λ (act : Act). old.deeds ++ record { key = a.key.now; act = act } ∷ []) c.act_seen.ensures)

pub returns-clause-live : goal.returns-clause-live
returns-clause-live g c =
    let d = g.D.PageDevice in
    let old : Asked g.row.D.Denot = record { store = c.self.inside.store; deeds = c.self.inside.trail.deeds } in
    let a = c.args in
    let answer : Answer = answer_of c.get_into-seen.result c.get_into-seen.new.found in
    subst (λ (s : Asked g.row.D.Denot). IsLiveHit (IsTrue (d.honest s.store.device)) s.deeds a.key.now a.moment answer) c.self.view_is
    (live_asked g.row.PAGE d.honest d.failures d.held c.get_shows.ensures old c.self.invariant a.key.now a.moment c.get_into-seen.new.self c.found_is_held.ensures answer c.get_into-seen.ensures.gets)

pub returns-clause-expires : goal.returns-clause-expires
returns-clause-expires g c =
    let d = g.D.PageDevice in
    let old : Asked g.row.D.Denot = record { store = c.self.inside.store; deeds = c.self.inside.trail.deeds } in
    subst (λ (s : Asked g.row.D.Denot). TellsExpiry (IsTrue (d.honest s.store.device)) s.deeds c.args.key.now c.get_into-seen.new.found c.get_into-seen.result) c.self.view_is
    (expiry_told d.honest d.held c.found_is_held.ensures old c.self.invariant c.args.key.now c.get_into-seen.new.found c.get_into-seen.result c.get_into-seen.ensures.expires)
