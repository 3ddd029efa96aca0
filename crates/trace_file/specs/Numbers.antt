-- Numbers for words.
use Rattle.std.specs.Prelude.{◌≡◌, ℕ, ◌<◌, List, Option, Some}
use Rattle.std.specs.Str.{bytes_eq}
use Rattle.std.specs.HashMap.{get_by, HashMap}
use Rattle.trace_file.specs.declared.lent_word.LentWord.{LentWord}

-- the number that the map has for a word, by the word's bytes, whatever hasher it has
abbrev pub number_at : {S : Type 0} → HashMap LentWord ℕ S → List ℕ → Option ℕ
number_at numbers word = get_by (λ w. bytes_eq word w.bytes.now) numbers

-- words have numbers, no two the same one, and all below a limit
pub record AreNumbers (known : List ℕ → Option ℕ) (limit : ℕ) : Type 0 where
  pub below : (word : List ℕ) (number : ℕ) → known word ≡ Some number → number < limit
  pub apart : (word other : List ℕ) (number : ℕ) → known word ≡ Some number → known other ≡ Some number → word ≡ other

-- each word that had a number has it still
abbrev pub KeepsNumbers : (List ℕ → Option ℕ) → (List ℕ → Option ℕ) → Type 0
KeepsNumbers old new = (word : List ℕ) (number : ℕ) → old word ≡ Some number → new word ≡ Some number
