-- What the lane below was opened as, is what is promised.
use Rattle.c_lane.proofs.Opening.{opens}
use Rattle.c_lane.proofs.lane.CLane.open.Goals as goal

pub returns-in-Ok-with_layout-clause-opened : goal.returns-in-Ok-with_layout-clause-opened
returns-in-Ok-with_layout-clause-opened g c =
    let a = c.args in
    opens a.shape.now c.in-Some.layout a.seed.now a.number a.device c.in-Ok.boxed c.new-counted.result c.random-seed.result c.derive-table_seed.result c.words_of-words.result c.in-Ok-with_layout.lane
    c.in-Some.ensures.1 c.in-Ok.ensures c.new-counted.ensures c.random-seed.ensures c.words_of-words.ensures c.derive-table_seed.ensures c.in-Ok-with_layout.ensures
