use Rattle.std.proofs.Common.{inl, inr, arith, subst, sym, ap, ◌<◌, ◌∙◌}
use Rattle.std.proofs.lemmas.Option.{same_Some}
use Rattle.certificate_finder.specs.declared.zone.Zone.{Zone}
use Rattle.certificate_finder.proofs.TopLemmas.{top_kept, top_new, top_second}
use Rattle.certificate_finder.proofs.by_ends.next_top.Goals as goal
use Rattle.certificate_finder.proofs.by_ends.next_top.Goals.{then-top-via-then-top, then-top-via-else-top+then-second-zone}

pub returns-then-zone-first : goal.returns-then-zone-first
returns-then-zone-first c = top_new c.args.zones.now c.requires.sorted c.requires.fit c.args.index c.args.top c.item_at-zone.result c.item_at-first.result c.requires.top c.requires.later c.item_at-zone.ensures c.item_at-first.ensures c.if-zone-first.true

pub returns-then-top : goal.returns-then-top
returns-then-top c = top_second c.args.zones.now c.requires.sorted c.requires.fit c.args.index c.args.top c.item_at-zone.result c.item_at-first.result c.requires.top c.requires.later c.item_at-zone.ensures c.item_at-first.ensures c.if-zone-first.false (omega arith) (elim c.then-top.branch [
  | then-top-via-then-top w ↦ inl w.if-top.true
  | then-top-via-else-top+then-second-zone w ↦ inr (let l = w.if-second-zone.true in subst (λ (z : Zone). z.start < c.item_at-zone.result.start) (same_Some c.item_at-second.result c.requires.top.second (sym c.item_at-second.ensures ∙ c.requires.top.second_at)) l)
])

pub returns : goal.returns
returns c = top_kept c.args.zones.now c.requires.sorted c.requires.fit c.args.index c.args.top c.item_at-zone.result c.item_at-first.result c.requires.top c.requires.later c.item_at-zone.ensures c.item_at-first.ensures c.if-zone-first.false (omega arith) c.if-top.false (let e = ap (λ (z : Zone). z.start) (same_Some c.item_at-second.result c.requires.top.second (sym c.item_at-second.ensures ∙ c.requires.top.second_at)) in omega (arith, e))
