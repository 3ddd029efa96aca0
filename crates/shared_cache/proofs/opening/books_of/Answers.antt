-- Each device has the layout's pages, those that are left too.
use Rattle.std.proofs.Common.{rules, ◌≤◌, ◌≡◌, ◌<◌, length, subst, arith}
use Rattle.std.specs.Prelude.{All}
use Rattle.std.proofs.lemmas.List.Elements.{All-head, All-tail}
use Rattle.record_pages.specs.Asked.{layout_pages}
use Rattle.shared_cache.proofs.opening.books_of.Goals as goal

pub new-requires : goal.new-requires
new-requires g c =
    let pages = λ (d : g.row.D.Denot). layout_pages c.args.layout.now ≤ g.D.PageDevice.page_count d in
    let all = subst (All pages) c.in-Some.ensures.items c.loop-device.invariant.room in
    let low : c.len-lane.result < c.args.layout.now.lanes = search rules in
    (omega arith, (c.requires.page_size, (low, All-head pages c.in-Some.device c.pop_front.new.self.items all)))

pub loop-device-preserved : goal.loop-device-preserved
loop-device-preserved g c =
    let pages = λ (d : g.row.D.Denot). layout_pages c.args.layout.now ≤ g.D.PageDevice.page_count d in
    let all = subst (All pages) c.in-Some.ensures.items c.loop-device.invariant.room in
    record {
      left = search rules;
      room = All-tail pages c.in-Some.device c.pop_front.new.self.items all;
    }
