-- A cause goes on if what it was said of is asked for first.
use Rattle.std.proofs.Common.{◌≡◌, ◌∙◌, ℕ, suc, ◌<◌, ◌≤◌, ltb, Bool, true, false, ◌&&◌, if◌then◌else◌, List, length, Result, Ok, Err, ap, inl, inr, arith, refl}
use Rattle.std.specs.Prelude.{nat_lt}
use Rattle.std.proofs.lemmas.Bool.{cases_Bool}
use borrow.Author.Tests.{lt-ltb, ltb-true}
use Rattle.history_text.specs.declared.line_cause.LineCause.{LineCause}
use Rattle.history_text.specs.declared.line_cause.LineCause.TheVariants.{TooManyLines}
use Rattle.history_text.specs.declared.reading.Reading.{Reading}
use Rattle.history_text.specs.declared.text_fault.TextFault.{TextFault}
use Rattle.history_text.specs.declared.text_fault.TextFault.TheVariants.{Bad, OutOfMemory}
use Rattle.history_text.specs.Outcome.{IsRefused}
use Rattle.history_text.specs.Readings.{is_in_share, is_of_line}
use Rattle.history_text.specs.Spelled.{IsSaid, skipped_or}
use Rattle.history_text.specs.Spelling.{Spelled, ◌>>=◌, spelled_of}
use Rattle.history_text.specs.Text.{Text, TextRead, after_line, is_passed_over, number_of, of_history, passing, read_by, recorded, recorded_if}

pub said_on : {A B : Type 0} (said : Result A LineCause) (rest : A → Result B LineCause) (fault : TextFault) → IsSaid said fault → IsSaid (said >>= rest) fault
said_on said rest (Bad cause) is = ap (λ r. r >>= rest) is
said_on said rest OutOfMemory is = tt

pub not_less : (a b : ℕ) → b ≤ a → ltb a b ≡ false
not_less a b least = elim (cases_Bool (ltb a b)) [
  | inl less ↦ absurd (omega (arith, least, ltb-true a b less))
  | inr fails ↦ fails
]

pub said_caller : (text : Text) (number : ℕ) (s : Spelled) (fault : TextFault) → length text.calls < 268435456 → IsRefused (number_of text.callers s.caller) fault → IsSaid (recorded of_history text number s) fault
unfolding recorded
said_caller text number s (Bad cause) few is =
    let calls = lt-ltb (length text.calls) 268435456 few in
    let callers = not_less (number_of text.callers s.caller) 65536 is.1 in rw (calls, callers) (let same = is.0 in cc)
said_caller text number s OutOfMemory few is = tt

-- ---- a line that may be passed over

module _ (how : Reading) (read : TextRead) (cause : LineCause) where
  skips : (after : ℕ) (may : Bool) → (if may then Ok (suc read.skipped) else Err (Bad cause)) ≡ Ok after → (if may then Ok (read_by read.text (suc read.skipped)) else Err cause) ≡ Ok (read_by read.text after)
  skips after true is = let same = is in cc
  skips after false is = let same = is in cc

  stops : (told : TextFault) (may : Bool) → (if may then Ok (suc read.skipped) else Err (Bad cause)) ≡ Err told → IsSaid (if may then Ok (read_by read.text (suc read.skipped)) else Err cause) told
  stops (Bad told) true is = let same = is in cc
  stops (Bad told) false is = let same = is in cc
  stops OutOfMemory may is = tt

pub passed_over : (how : Reading) (read : TextRead) (said : Result Text LineCause) (fault : TextFault) (after : ℕ) → IsSaid said fault → skipped_or how read.skipped fault ≡ Ok after → passing how read said ≡ Ok (read_by read.text after)
passed_over how read said (Bad cause) after is skipped = rw is (skips how read cause after (how.skip_bad && is_of_line cause) skipped)
passed_over how read said OutOfMemory after is skipped = let same = skipped in cc

pub not_passed : (how : Reading) (read : TextRead) (said : Result Text LineCause) (fault told : TextFault) → IsSaid said fault → skipped_or how read.skipped fault ≡ Err told → IsSaid (passing how read said) told
not_passed how read said (Bad cause) told is skipped = rw is (stops how read cause told (how.skip_bad && is_of_line cause) skipped)
not_passed how read said OutOfMemory (Bad told) is skipped = let same = skipped in cc
not_passed how read said OutOfMemory OutOfMemory is skipped = tt

unskipped : (skip may : Bool) → may ≡ false → (skip && may) ≡ false
unskipped true may is = is
unskipped false may is = refl

pub never_passed : (how : Reading) (read : TextRead) (cause : LineCause) → is_of_line cause ≡ false → passing how read (Err cause) ≡ Err cause
never_passed how read cause is = rw (unskipped how.skip_bad (is_of_line cause) is) refl

pub stays_said : (how : Reading) (read : TextRead) (said : Result Text LineCause) (fault : TextFault) → IsSaid said fault → ((cause : LineCause) → fault ≡ Bad cause → is_of_line cause ≡ false) → IsSaid (passing how read said) fault
stays_said how read said (Bad cause) is never = ap (passing how read) is ∙ never_passed how read cause (never cause refl)
stays_said how read said OutOfMemory is never = tt

-- ---- a line, by what is asked of it

pub late_line : (how : Reading) (text : Text) (number : ℕ) (line : List ℕ) → length line ≤ 8192 → 9223372036854775807 < number → after_line of_history how text number line ≡ Err TooManyLines
unfolding after_line
late_line how text number line short late =
    let fits : nat_lt 8192 (length line) ≡ false = not_less 8192 (length line) short in
    let over : nat_lt 9223372036854775807 number ≡ true = lt-ltb 9223372036854775807 number late in
    rw (fits, over) refl

pub over_line : (how : Reading) (text : Text) (number : ℕ) (line : List ℕ) → length line ≤ 8192 → number ≤ 9223372036854775807 → is_passed_over line ≡ true → after_line of_history how text number line ≡ Ok text
unfolding after_line
over_line how text number line short few is =
    let fits : nat_lt 8192 (length line) ≡ false = not_less 8192 (length line) short in
    let early : nat_lt 9223372036854775807 number ≡ false = not_less 9223372036854775807 number few in
    rw (fits, early, is) refl

pub spelled_line : (how : Reading) (text : Text) (number : ℕ) (line : List ℕ) → length line ≤ 8192 → number ≤ 9223372036854775807 → is_passed_over line ≡ false → after_line of_history how text number line ≡ (spelled_of line >>= recorded_if of_history how text number)
unfolding after_line
spelled_line how text number line short few is =
    let fits : nat_lt 8192 (length line) ≡ false = not_less 8192 (length line) short in
    let early : nat_lt 9223372036854775807 number ≡ false = not_less 9223372036854775807 number few in
    rw (fits, early, is) refl

pub in_share : (how : Reading) (text : Text) (number : ℕ) (s : Spelled) → is_in_share how.share s.key ≡ true → recorded_if of_history how text number s ≡ recorded of_history text number s
unfolding recorded_if
in_share how text number s is = rw is refl

pub out_of_share : (how : Reading) (text : Text) (number : ℕ) (s : Spelled) → is_in_share how.share s.key ≡ false → recorded_if of_history how text number s ≡ Ok text
unfolding recorded_if
out_of_share how text number s is = rw is refl

-- it spells this call
pub spells : (how : Reading) (text : Text) (number : ℕ) (line : List ℕ) (s : Spelled) → length line ≤ 8192 → number ≤ 9223372036854775807 → is_passed_over line ≡ false → spelled_of line ≡ Ok s → after_line of_history how text number line ≡ recorded_if of_history how text number s
spells how text number line s short few none is =
    spelled_line how text number line short few none ∙ ap (λ (said : Result Spelled LineCause). said >>= recorded_if of_history how text number) is
