-- The bit joins the row.
use Rattle.std.proofs.Common.{◌≡◌, ◌*◌, ◌/◌, ◌%◌, ◌^◌, ◌<◌, length, bit_or, ◌∙◌, ap, sym, subst}
use Rattle.std.proofs.Math.ListN.{set}
use Rattle.std.proofs.lemmas.List.{get_or_read}
use Rattle.sight_sketch.specs.Sketch.{Row, row_of}
use Rattle.sight_sketch.proofs.RowLaws.{row-size, row-set, with_bit, bit_low, word_low}
use Rattle.sight_sketch.proofs.bit_row.BitRow.set.Goals as goal

pub index_mut-requires : goal.index_mut-requires
index_mut-requires c =
    let words = c.self.inside.words in
    let size : c.size.result ≡ 64 * length words.items = c.size.ensures.size ∙ sym (ap (λ (r : Row). r.size) c.self.view_is) ∙ row-size words.items in
    subst (λ n. c.args.number % c.size.result / 64 < n) (sym words.ok.0) (word_low c.args.number c.size.result (length words.items) c.size.ensures.some size)

pub returns : goal.returns
returns c =
    let words = c.self.inside.words in
    let bit = c.args.number % c.size.result in
    let size : c.size.result ≡ 64 * length words.items = c.size.ensures.size ∙ sym (ap (λ (r : Row). r.size) c.self.view_is) ∙ row-size words.items in
    let low = bit_low c.args.number c.size.result (length words.items) c.size.ensures.some size in
    let within = word_low c.args.number c.size.result (length words.items) c.size.ensures.some size in
    let word = get_or_read words.items (bit / 64) c.index_mut.result.now within c.index_mut.ensures.value 0 in
    ap (λ w. row_of (set words.items (bit / 64) (bit_or w (1 * 2 ^ (bit % 64) % 2 ^ 64)))) word
    ∙ row-set words.items bit low
    ∙ ap (λ (r : Row). with_bit r bit) c.self.view_is
    ∙ ap (λ n. with_bit c.args.self.now (c.args.number % n)) c.size.ensures.size
