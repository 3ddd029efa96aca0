-- Laws of the definitions alone.
use Rattle.std.specs.Prelude.{◌≡◌, ℕ, ◌<◌, List, All, Some, Ok}
use Rattle.history_text.specs.declared.reading.Reading.{Reading}
use Rattle.history_text.specs.Coding.{bytes_of, word_of}
use Rattle.history_text.specs.Text.{TextRead, calls_of, text_of}

-- a word reads back as the bytes that it was written for
abbrev pub WordsReadBack : Type 0
WordsReadBack = (bytes : List ℕ) → All (λ b. b < 256) bytes → bytes_of (word_of bytes) ≡ Some bytes

-- other bytes have another word
abbrev pub WordsAreApart : Type 0
WordsAreApart = (one other : List ℕ) → All (λ b. b < 256) one → All (λ b. b < 256) other → word_of one ≡ word_of other → one ≡ other

-- what is read of bytes into a history is what they spell with no bound on the number of calls
abbrev pub TextsAreSpelled : Type 0
TextsAreSpelled = (how : Reading) (bytes : List ℕ) (read : TextRead) → text_of how bytes ≡ Ok read → calls_of how bytes ≡ Ok read
