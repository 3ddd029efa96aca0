use Rattle.std.proofs.Common.{◌≡◌, ◌<◌, sym, ap, subst, ◌∙◌, rules, arith}
use Rattle.page_device.specs.Frames.{pages_from}
use Rattle.record_pages.specs.Lent.{record_shown}
use Rattle.klog_index.specs.declared.place.Place.{Place}
use Rattle.klog_index.specs.Entries.{IsFree}
use Rattle.klog.specs.Log.{LogState, shape_of}
use Rattle.klog.specs.Buffer.{page_for}
use Rattle.klog.specs.Shown.{IsSpelledOn, live_on}
use Rattle.klog.specs.Keeps.{IsLog}
use Rattle.klog.specs.Append.{put_on, entry_for}
use Rattle.klog.proofs.ShownLaws.{spelled_put, live_put}
use Rattle.klog.proofs.AppendLaws.{set_within, entry_free, log_put}
use Rattle.klog.proofs.log.KLog.put.Goals as goal

pub add-requires-clause-free : goal.add-requires-clause-free
add-requires-clause-free g c =
    let k = c.args.self.now in
    let r = record_shown c.args.added in
    let is : IsLog k = subst IsLog c.self.view_is c.self.invariant.0 in
    let place : (entry_for g.row.PAGE k r).place ≡ record { segment = c.name_of-segment.result; page = c.in-Some.spot.page; slot = c.in-Some.spot.slot } = search rules in
    subst (λ (p : Place). IsFree p c.self.inside.index.entries) place (subst (IsFree (entry_for g.row.PAGE k r).place) (sym (ap (λ (n : LogState). n.entries) c.self.view_is)) (entry_free g.row.PAGE k r is))

pub invariant_of-self-2 : goal.invariant_of-self-2
invariant_of-self-2 g c =
    let k = c.args.self.now in
    let r = record_shown c.args.added in
    let is : IsLog k = subst IsLog c.self.view_is c.self.invariant.0 in
    let set : (entry_for g.row.PAGE k r).set < k.shape.sets = set_within k.shape c.args.added.key.now is.some_sets in
    let at : page_for g.row.PAGE k.filling r < k.shape.segment_pages =
    let page : c.in-Some.spot.page ≡ page_for g.row.PAGE k.filling r = search rules in
    let pages = ap (λ (n : LogState). n.shape.segment_pages) c.self.view_is in
    omega (arith, page, pages, c.in-Some.ensures.within.0, c.self.invariant.4) in
    let is_put : record { shape = shape_of c.self.inside.layout; entries = c.add.new.self.entries; first = c.self.inside.first; stored = c.self.inside.stored; is_flushing = c.self.inside.is_flushing; done = c.self.inside.done; flushing = c.self.inside.flushing.pages; filling = c.push.new.self.pages } ≡ put_on g.row.PAGE k r = search rules in
    (subst IsLog (sym is_put) (log_put g.row.PAGE k r is c.requires.listed set at c.requires.number), search rules, search rules, search rules, search rules)

pub returns-clause-put : goal.returns-clause-put
returns-clause-put g c = search rules

pub returns-clause-spelled : goal.returns-clause-spelled
returns-clause-spelled g c = λ held h.
    let k = c.args.self.now in
    let is : IsLog k = subst IsLog c.self.view_is c.self.invariant.0 in
    subst (IsSpelledOn g.row.PAGE held) (sym (returns-clause-put g c)) (spelled_put g.row.PAGE (pages_from k.shape.sets held) k (record_shown c.args.added) is c.requires.small c.requires.lawful h)

pub returns-clause-shown : goal.returns-clause-shown
returns-clause-shown g c = λ held.
    let k = c.args.self.now in
    let is : IsLog k = subst IsLog c.self.view_is c.self.invariant.0 in
    ap (live_on held) (returns-clause-put g c) ∙ live_put g.row.PAGE held k (record_shown c.args.added) is
