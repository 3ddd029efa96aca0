use Rattle.std.proofs.Common.{◌-◌, subst, arith}
use Rattle.std.proofs.lemmas.Option.{slice_get_within}
use Rattle.certificate_finder.specs.Unreading.{end_rank}
use Rattle.certificate_finder.specs.Writing.{IsSplitBelow}
use Rattle.certificate_finder.proofs.TopLemmas.{first_starts_last, none_of_key, none_other, second_starts_last}
use Rattle.certificate_finder.proofs.by_ends.last_other.Goals as goal

pub item_at-first-requires : goal.item_at-first-requires
item_at-first-requires c = let t = c.requires.tops.each (c.zones_below-upto.result - 1) c.item_at-top.result c.item_at-top.ensures in slice_get_within c.args.zones.now c.item_at-top.result.first t.first t.first_at

pub item_at-second-requires : goal.item_at-second-requires
item_at-second-requires c = let t = c.requires.tops.each (c.zones_below-upto.result - 1) c.item_at-top.result c.item_at-top.ensures in slice_get_within c.args.zones.now c.item_at-top.result.second t.second t.second_at

pub returns-then-first-key : goal.returns-then-first-key
returns-then-first-key c =
    let t = c.requires.tops.each (c.zones_below-upto.result - 1) c.item_at-top.result c.item_at-top.ensures in
    none_of_key c.args.zones.now c.requires.sorted c.requires.fit c.args.key c.args.before c.args.write c.zones_below-upto.result (omega arith) (subst (λ r. IsSplitBelow end_rank c.args.zones.now r c.zones_below-upto.result) c.key_rank.ensures c.zones_below-upto.ensures) c.item_at-top.result c.item_at-first.result t (omega arith) c.item_at-first.ensures c.if-first-key.true

pub returns-then-first-write : goal.returns-then-first-write
returns-then-first-write c =
    let t = c.requires.tops.each (c.zones_below-upto.result - 1) c.item_at-top.result c.item_at-top.ensures in
    first_starts_last c.args.zones.now c.requires.sorted c.requires.fit c.args.key c.args.before c.args.write c.zones_below-upto.result (omega arith) (subst (λ r. IsSplitBelow end_rank c.args.zones.now r c.zones_below-upto.result) c.key_rank.ensures c.zones_below-upto.ensures) c.item_at-top.result c.item_at-first.result t (omega arith) c.item_at-first.ensures c.if-first-key.false c.if-first-write.true

pub returns-then-top : goal.returns-then-top
returns-then-top c =
    let t = c.requires.tops.each (c.zones_below-upto.result - 1) c.item_at-top.result c.item_at-top.ensures in
    none_other c.args.zones.now c.requires.sorted c.requires.fit c.args.key c.args.before c.args.write c.zones_below-upto.result (omega arith) (subst (λ r. IsSplitBelow end_rank c.args.zones.now r c.zones_below-upto.result) c.key_rank.ensures c.zones_below-upto.ensures) c.item_at-top.result c.item_at-first.result t (omega arith) c.item_at-first.ensures c.if-first-key.false c.if-first-write.false c.if-top.true

pub returns : goal.returns
returns c =
    let t = c.requires.tops.each (c.zones_below-upto.result - 1) c.item_at-top.result c.item_at-top.ensures in
    second_starts_last c.args.zones.now c.requires.sorted c.requires.fit c.args.key c.args.before c.args.write c.zones_below-upto.result (omega arith) (subst (λ r. IsSplitBelow end_rank c.args.zones.now r c.zones_below-upto.result) c.key_rank.ensures c.zones_below-upto.ensures) c.item_at-top.result c.item_at-first.result t (omega arith) c.item_at-first.ensures c.if-first-key.false c.if-first-write.false c.requires.distinct c.item_at-second.result c.item_at-second.ensures c.if-top.false
