use Rattle.std.proofs.Common.{arith}
use Rattle.std.proofs.lemmas.Option.{slice_get_within}
use Rattle.certificate_finder.proofs.ZoneLemmas.{tells_zone}
use Rattle.certificate_finder.proofs.zoning.zone_of.Goals as goal

pub returns : goal.returns
returns c = record {
  step = c.item_at-step.result;
  at = c.item_at-step.ensures;
  told = tells_zone c.args.steps.now c.args.owners.now c.args.earliest.now c.args.latest.now c.args.position c.item_at-early.result c.item_at-late.result c.item_at-step.result c.item_at-first.result c.item_at-last.result c.requires.earliest c.requires.latest c.item_at-early.ensures c.item_at-late.ensures c.item_at-first.ensures c.item_at-last.ensures;
}

pub item_at-early-requires : goal.item_at-early-requires
item_at-early-requires c = let count = c.requires.earliest.count in omega arith

pub item_at-late-requires : goal.item_at-late-requires
item_at-late-requires c = let count = c.requires.latest.count in omega arith

pub item_at-first-requires : goal.item_at-first-requires
item_at-first-requires c = let e = c.requires.earliest.each c.args.position c.item_at-early.result c.item_at-early.ensures in slice_get_within c.args.steps.now c.item_at-early.result e.0 e.1.at

pub item_at-last-requires : goal.item_at-last-requires
item_at-last-requires c = let l = c.requires.latest.each c.args.position c.item_at-late.result c.item_at-late.ensures in slice_get_within c.args.steps.now c.item_at-late.result l.0 l.1.at
