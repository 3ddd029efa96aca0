-- What the map has after the change, read at a word of the same bytes.
use Rattle.std.proofs.Common.{◌≡◌, ℕ, cond, Some, None, List, arith}
use Rattle.std.proofs.lemmas.Grind.{common_steps}
use Rattle.std.specs.Str.{bytes_eq}
use Rattle.trace_file.specs.declared.lent_word.LentWord.{LentWord}
use Rattle.trace_file.specs.Numbers.{number_at}
use Rattle.trace_file.proofs.NumberLemmas.{keeps_other, keeps_numbers, are_numbers}
use Rattle.trace_file.proofs.numbering.number_word.Goals as goal

lent : List ℕ → LentWord
lent word = record { bytes = record { ref_ptr = (0, 0); now = word } }

pub returns-clause-others : goal.returns-clause-others
unfolding lent
returns-clause-others g c =
    let change : (q : List ℕ) → number_at c.insert.new.self q ≡ cond (bytes_eq c.args.bytes.now q) (Some c.args.new) (number_at c.args.numbers.now q) = λ q. grind (arith, common_steps, c.in_ok-insert.ensures.updates.0 (lent q)) in
    keeps_other (number_at c.args.numbers.now) (number_at c.insert.new.self) c.args.bytes.now c.args.new change

pub returns-clause-kept : goal.returns-clause-kept
unfolding lent
returns-clause-kept g c =
    let fresh : number_at c.args.numbers.now c.args.bytes.now ≡ None = grind (arith, common_steps, c.in_default.ensures.value) in
    let change : (q : List ℕ) → number_at c.insert.new.self q ≡ cond (bytes_eq c.args.bytes.now q) (Some c.args.new) (number_at c.args.numbers.now q) = λ q. grind (arith, common_steps, c.in_ok-insert.ensures.updates.0 (lent q)) in
    keeps_numbers (number_at c.args.numbers.now) (number_at c.insert.new.self) c.args.bytes.now c.args.new change fresh

pub returns-clause-numbers : goal.returns-clause-numbers
unfolding lent
returns-clause-numbers g c =
    let change : (q : List ℕ) → number_at c.insert.new.self q ≡ cond (bytes_eq c.args.bytes.now q) (Some c.args.new) (number_at c.args.numbers.now q) = λ q. grind (arith, common_steps, c.in_ok-insert.ensures.updates.0 (lent q)) in
    are_numbers (number_at c.args.numbers.now) (number_at c.insert.new.self) c.args.bytes.now c.args.new change c.requires
