use Rattle.std.proofs.Common.{◌+◌, arith}
use Rattle.certificate_finder.proofs.WriteLemmas.{first_here, first_later, first_of_end, first_of_key, later_within}
use Rattle.certificate_finder.proofs.EndLemmas.{found_at}
use Rattle.certificate_finder.proofs.writes.sooner.Goals as goal

pub returns-then-index-writes : goal.returns-then-index-writes
returns-then-index-writes c = let w = found_at c.args.writes.now c.args.index c.requires.within in first_of_end c.args.writes.now c.requires.sorted c.requires.fit c.args.index w.0 w.1 (omega arith)

pub returns-then-next-write : goal.returns-then-next-write
returns-then-next-write c = first_of_key c.args.writes.now c.requires.sorted c.requires.fit c.args.index c.item_at-write.result c.item_at-next.result c.item_at-write.ensures c.item_at-next.ensures c.if-next-write.true

pub item_at-later-requires : goal.item_at-later-requires
item_at-later-requires c = later_within c.args.writes.now (c.args.index + 1) c.item_at-best.result (c.requires.later.each (c.args.index + 1) c.item_at-best.result (omega arith) c.item_at-best.ensures)

pub item_at-best-requires : goal.item_at-best-requires
item_at-best-requires c = let count = c.requires.later.count in omega arith

pub returns-then-later-write : goal.returns-then-later-write
returns-then-later-write c = first_later c.args.writes.now c.requires.sorted c.requires.fit c.args.index c.item_at-best.result c.item_at-write.result c.item_at-next.result c.item_at-later.result c.item_at-write.ensures c.item_at-next.ensures c.if-next-write.false (c.requires.later.each (c.args.index + 1) c.item_at-best.result (omega arith) c.item_at-best.ensures) c.item_at-later.ensures c.if-later-write.true

pub returns-else-later-write : goal.returns-else-later-write
returns-else-later-write c = first_here c.args.writes.now c.requires.sorted c.requires.fit c.args.index c.item_at-best.result c.item_at-write.result c.item_at-next.result c.item_at-later.result c.item_at-write.ensures c.item_at-next.ensures c.if-next-write.false (c.requires.later.each (c.args.index + 1) c.item_at-best.result (omega arith) c.item_at-best.ensures) c.item_at-later.ensures c.if-later-write.false
