-- 64 bits for each word.
use Rattle.std.proofs.Common.{◌*◌, ◌∙◌, ap, sym}
use Rattle.sight_sketch.specs.Sketch.{Row}
use Rattle.sight_sketch.proofs.RowLaws.{row-size}
use Rattle.sight_sketch.proofs.bit_row.BitRow.size.Goals as goal

pub returns-clause-size : goal.returns-clause-size
returns-clause-size c =
    let words = c.self.inside.words in
    ap (λ n. 64 * n) (c.len.ensures ∙ words.ok.0) ∙ sym (row-size words.items) ∙ ap (λ (r : Row). r.size) c.self.view_is
