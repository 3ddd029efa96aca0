-- The parts are those that one space each parts; they are words or not, and if there is no room for one there are more than nine.
use Rattle.std.proofs.Common.{◌≡◌, ◌<◌, ◌==◌, List, ℕ, Bor, map, length, true, false, Some, IfSome, sym, ap, ◌∙◌, rules, tests, arith, inl, inr}
use Rattle.std.specs.List.{slice_split, list_all}
use Rattle.std.proofs.lemmas.Bool.{cases_Bool}
use Rattle.std.proofs.lemmas.Iterator.Splits.{YieldsList-from_slice_split}
use Rattle.script_words.specs.Words.{is_word, words_of}
use Rattle.script_words.proofs.Taken.{all_taken, more_left}
use Rattle.script_words.proofs.words.words_in.Goals as goal

all_words : (line : List ℕ) (parts : List (List ℕ)) → parts ≡ slice_split (λ b. b == 32) line → list_all is_word parts ≡ true → words_of line ≡ Some parts
all_words line parts e h = let t : list_all is_word (slice_split (λ b. b == 32) line) ≡ true = sym (ap (list_all is_word) e) ∙ h in rw t (ap Some (sym e))

some_other : (line : List ℕ) (parts : List (List ℕ)) → parts ≡ slice_split (λ b. b == 32) line → list_all is_word parts ≡ false → IfSome (words_of line) (λ words. 9 < length words)
some_other line parts e h = let f : list_all is_word (slice_split (λ b. b == 32) line) ≡ false = sym (ap (list_all is_word) e) ∙ h in rw f tt

too_many : (line : List ℕ) → 9 < length (slice_split (λ b. b == 32) line) → IfSome (words_of line) (λ words. 9 < length words)
too_many line many = elim (cases_Bool (list_all is_word (slice_split (λ b. b == 32) line))) [
  | inl words ↦ rw words many
  | inr other ↦ rw other tt
]

pub returns-in_default-clause-none : goal.returns-in_default-clause-none
returns-in_default-clause-none c =
    let one = c.in_default.ensures.one_more in
    let full = c.in_default.ensures.full in
    let fewer = more_left c.new-parts.result.items c.extend.new.self.items one.1 c.new-parts.ensures one.6 one.2 one.3 one.5 one.4 (YieldsList-from_slice_split _ (λ b. b == 32) c.args.line.now c.split.ensures.rest c.split.ensures.done c.split.ensures.closure (λ x b q k. search (rules, tests))) in
    too_many c.args.line.now (omega (arith, full, fewer))

pub returns-then-are_words-clause-words : goal.returns-then-are_words-clause-words
returns-then-are_words-clause-words c =
    let ran = c.in-Ok.ensures.ran in
    let parts = all_taken c.new-parts.result.items c.extend.new.self.items ran.1 c.new-parts.ensures ran.3 ran.4 ran.2 (YieldsList-from_slice_split _ (λ b. b == 32) c.args.line.now c.split.ensures.rest c.split.ensures.done c.split.ensures.closure (λ x b q k. search (rules, tests))) in
    all_words c.args.line.now _ parts (sym (ap (λ (ps : List (Bor (List ℕ))). list_all is_word (map (λ (p : Bor (List ℕ)). p.now) ps)) c.deref.ensures.0) ∙ sym c.if-are_words.ensures)

pub returns-else-are_words-clause-none : goal.returns-else-are_words-clause-none
returns-else-are_words-clause-none c =
    let ran = c.in-Ok.ensures.ran in
    let parts = all_taken c.new-parts.result.items c.extend.new.self.items ran.1 c.new-parts.ensures ran.3 ran.4 ran.2 (YieldsList-from_slice_split _ (λ b. b == 32) c.args.line.now c.split.ensures.rest c.split.ensures.done c.split.ensures.closure (λ x b q k. search (rules, tests))) in
    some_other c.args.line.now _ parts (sym (ap (λ (ps : List (Bor (List ℕ))). list_all is_word (map (λ (p : Bor (List ℕ)). p.now) ps)) c.deref.ensures.0) ∙ sym c.if-are_words.ensures)
