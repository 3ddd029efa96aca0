-- Words of zeros have no bit.
use Rattle.std.proofs.Common.{◌≡◌, ℕ, List, length, replicate, ◌∙◌, ap, sym}
use Rattle.std.proofs.lemmas.List.{with_items_is, length-replicate}
use Rattle.std.specs.FinSet.{empty}
use Rattle.sight_sketch.specs.Sketch.{Row, row_of}
use Rattle.sight_sketch.proofs.RowLaws.{row-zeros, row-size}
use Rattle.sight_sketch.proofs.bit_row.BitRow.clear.Goals as goal

pub returns : goal.returns
returns c =
    let words = c.self.inside.words in
    let zeros : c.zero.new.words ≡ replicate (length words.items) 0 = c.zero.ensures ∙ ap (λ (ws : List ℕ). replicate (length ws) 0) c.deref_mut.ensures.value in
    let long : length c.zero.new.words ≡ words.len = ap length zeros ∙ length-replicate (length words.items) 0 ∙ sym words.ok.0 in
    ap row_of (with_items_is words c.zero.new.words long ∙ zeros)
    ∙ row-zeros (length words.items)
    ∙ ap (λ n. record { size = n; bits = empty }) (sym (row-size words.items) ∙ ap (λ (r : Row). r.size) c.self.view_is)
