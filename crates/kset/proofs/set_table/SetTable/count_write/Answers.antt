use Rattle.std.proofs.Common.{ap}
use Rattle.kset.specs.Sets.{next_write, tried}
use Rattle.kset.specs.Table.{table_of}
use Rattle.kset.proofs.set_table.SetTable.count_write.Goals as goal

pub returns-clause-number : goal.returns-clause-number
unfolding table_of
returns-clause-number c = ap next_write c.self.view_is

pub returns-clause-tried : goal.returns-clause-tried
unfolding table_of
returns-clause-tried c = ap tried c.self.view_is
