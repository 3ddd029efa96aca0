-- What a reader tells of a word among keys, and of a line with its feed.
use Rattle.std.proofs.Common.{◌≡◌, ℕ, ◌+◌, ◌≤◌, ◌==◌, Bool, true, false, List, [], ◌∷◌, length, take, drop, nat_le, if◌then◌else◌, Option, Some, None, Ok, inl, inr, arith, refl}
use Rattle.std.specs.Prelude.{position, slice_index_or}
use Rattle.std.proofs.lemmas.Bool.{cases_Bool}
use Rattle.std.proofs.lemmas.Bool.Decides.{nat_tests}
use Rattle.memcached_text.specs.declared.exptime.Exptime.{Exptime}
use Rattle.memcached_text.specs.declared.reader_state.ReaderState.{ReaderState}
use Rattle.memcached_text.specs.declared.reader_state.ReaderState.TheVariants.{Line, Keys, SkipLine}
use Rattle.memcached_text.specs.Asked.{AskDelta, Changing}
use Rattle.memcached_text.specs.Requests.{request_of}
use Rattle.memcached_text.specs.Steps.{Told, TellKey, TellRequest, Outcome, is_feed, is_end, without_return, key_or, key_by, key_step, line_step, passing, decided, step_of}
use Rattle.memcached_text.specs.Words.{is_key}

-- a key that is told has 1 to 250 bytes
abbrev pub IsKeyTold : Told → Type 0
IsKeyTold (TellKey key exptime cas) = (1 ≤ length key) × (length key ≤ 250)
IsKeyTold _ = Unit {0}

either : (b : Bool) (x y : Outcome) → IsKeyTold x.told → IsKeyTold y.told → IsKeyTold (if b then x else y).told
either true x y one other = one
either false x y one other = other

word_told : (exptime : Option Exptime) (cas : Bool) (past : ℕ) (refused : ReaderState) (word : List ℕ) → IsKeyTold (key_or exptime cas past refused word).told
word_told exptime cas past refused word = elim (cases_Bool (is_key word)) [
  | inl key ↦ rw key (grind (arith, nat_tests, key), grind (arith, nat_tests, key))
  | inr other ↦ rw other tt
]

by_end : (exptime : Option Exptime) (cas : Bool) (bytes : List ℕ) (end : Option ℕ) → IsKeyTold (key_by exptime cas bytes end).told
by_end exptime cas bytes (Some n) =
    let word = without_return (take n bytes) in
    either (is_feed (slice_index_or bytes n 0)) _ _ (either (length word == 0) _ _ tt (word_told exptime cas (n + 1) Line word)) (word_told exptime cas (n + 1) SkipLine (take n bytes))
by_end exptime cas bytes None = either (nat_le (length bytes) 251) _ _ tt tt

pub keys_told : (most : ℕ) (exptime : Option Exptime) (cas : Bool) (bytes : List ℕ) → IsKeyTold (step_of most (Keys exptime cas) bytes).told
unfolding step_of passing decided key_step
keys_told most exptime cas bytes =
    let rest = drop (passing (Keys exptime cas) bytes).count bytes in
    by_end exptime cas rest (position is_end (take 252 rest))

-- a change of a number that a whole line asks for
pub line_told : (most : ℕ) (bytes : List ℕ) (at : ℕ) (delta : Changing) → (slice_index_or bytes 0 0 ≡ 128 → ⊥) → position is_feed (take 2049 bytes) ≡ Some at → request_of (without_return (take at bytes)) ≡ Ok (AskDelta delta) → (step_of most Line bytes).told ≡ TellRequest (AskDelta delta)
unfolding step_of passing decided line_step
line_told most [] at delta text there asked = cc
line_told most (b ∷ bs) at delta text there asked =
    let some : (length (b ∷ bs) == 0) ≡ false = grind (arith, nat_tests) in
    let other : (b == 128) ≡ false = grind (arith, nat_tests, text) in
    rw (some, other, there, asked) refl
