-- Words of zeros have no bit.
use Rattle.std.proofs.Common.{◌∙◌, ap}
use Rattle.sight_sketch.specs.Sketch.{row_of}
use Rattle.sight_sketch.proofs.RowLaws.{row-zeros}
use Rattle.sight_sketch.proofs.bit_row.BitRow.new.Goals as goal

pub returns : goal.returns
returns c = ap row_of (c.in_ok-words.ensures.items_if_clones_equal (λ y same. same)) ∙ row-zeros c.args.words
