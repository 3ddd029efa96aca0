-- The bit of the word is the one of the row.
use Rattle.std.proofs.Common.{◌≡◌, ◌*◌, ◌/◌, ◌%◌, ◌^◌, ◌<◌, length, bit_and, nat_eq, ◌∙◌, ap, sym, subst}
use Rattle.std.proofs.lemmas.List.{get_or_read}
use Rattle.std.specs.FinSet.{contains}
use Rattle.sight_sketch.specs.Sketch.{Row}
use Rattle.sight_sketch.proofs.RowLaws.{row-size, row-contains, bit_low, word_low}
use Rattle.sight_sketch.proofs.bit_row.BitRow.has.Goals as goal

pub index-requires : goal.index-requires
index-requires c =
    let words = c.self.inside.words in
    let size : c.size.result ≡ 64 * length words.items = c.size.ensures.size ∙ sym (ap (λ (r : Row). r.size) c.self.view_is) ∙ row-size words.items in
    subst (λ n. c.args.number % c.size.result / 64 < n) (sym words.ok.0) (word_low c.args.number c.size.result (length words.items) c.size.ensures.some size)

pub returns : goal.returns
returns c =
    let words = c.self.inside.words in
    let bit = c.args.number % c.size.result in
    let size : c.size.result ≡ 64 * length words.items = c.size.ensures.size ∙ sym (ap (λ (r : Row). r.size) c.self.view_is) ∙ row-size words.items in
    let low = bit_low c.args.number c.size.result (length words.items) c.size.ensures.some size in
    let within = word_low c.args.number c.size.result (length words.items) c.size.ensures.some size in
    let word = get_or_read words.items (bit / 64) c.index.result.now within c.index.ensures 0 in
    ap (λ w. nat_eq (bit_and (w / 2 ^ (bit % 64)) 1) 1) word
    ∙ row-contains words.items bit low
    ∙ ap (λ (r : Row). contains r.bits bit) c.self.view_is
    ∙ ap (λ n. contains c.args.self.now.bits (c.args.number % n)) c.size.ensures.size
