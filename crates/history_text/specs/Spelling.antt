-- The call that a line spells, or the first cause why it spells none.
use Rattle.std.specs.Prelude.{ℕ, ◌^◌, Bool, true, false, not, ◌&&◌, ◌||◌, ◌==◌, nat_lt, nat_le, List, [], length, if◌then◌else◌, Option, Some, None, option_and_then, ok_or, Result, Ok, Err, codes, slice_index_or}
use Rattle.std.specs.Str.{bytes_eq}
use Rattle.record_pages.specs.Expiry.{never}
use Rattle.script_words.specs.Words.{words_of, number_below}
use Rattle.trace_file.specs.declared.act.Act.{Act}
use Rattle.trace_file.specs.declared.act.Act.TheVariants as acts
use Rattle.history_text.specs.declared.line_cause.LineCause.{LineCause}
use Rattle.history_text.specs.declared.line_cause.LineCause.TheVariants.{NotWords, BadStart, BadEnd, BadKind, WrongCount, NoReturn, BadKeyCode, BadKeyLen, BadValueCode, BadValueLen, BadExpiry, BadMoment}
use Rattle.trace_file.specs.declared.call_kind.CallKind.{CallKind}
use Rattle.trace_file.specs.declared.call_kind.CallKind.TheVariants.{Put, Hit, Miss, Remove}
use Rattle.history_text.specs.declared.line_head.LineHead.{LineHead}
use Rattle.history_text.specs.Coding.{bytes_of}

infixl 10 ◌>>=◌
abbrev pub ◌>>=◌ : {A B : Type 0} → Result A LineCause → (A → Result B LineCause) → Result B LineCause
(Ok x) >>= f = f x
(Err e) >>= f = Err e

-- the value if the test holds, otherwise the cause
abbrev pub where_so : {A : Type 0} → Bool → A → LineCause → Result A LineCause
where_so test x cause = if test then Ok x else Err cause

-- the word of a line at an index
abbrev pub word : List (List ℕ) → ℕ → List ℕ
word words i = slice_index_or words i []

-- a number below 2 ^ 63
abbrev pub stamp_of : List ℕ → Option ℕ
stamp_of text = number_below (2 ^ 63) text

-- an end: - of what never returned, which precedes nothing
unfoldable pub end_of : List ℕ → Result ℕ LineCause
end_of text = if bytes_eq text (codes "-") then Ok never else ok_or (stamp_of text) BadEnd

-- what a call did, without its value and time
abbrev pub kind_of : List ℕ → Result CallKind LineCause
kind_of text =
    if bytes_eq text (codes "put") then Ok Put
    else (if bytes_eq text (codes "hit") then Ok Hit
    else (if bytes_eq text (codes "miss") then Ok Miss
    else (if bytes_eq text (codes "remove") then Ok Remove else Err BadKind)))

-- a line of a kind can have this many words: the last, a time, may be left out
abbrev pub has_words : CallKind → ℕ → Bool
has_words Put count = (count == 6) || (count == 7)
has_words Hit count = (count == 6) || (count == 7)
has_words Miss count = count == 5
has_words Remove count = count == 5

-- a call of this kind is known by what it returned
abbrev pub returns : CallKind → Bool
returns Put = false
returns Hit = true
returns Miss = true
returns Remove = false

-- start, end and kind
unfoldable pub head_of : List (List ℕ) → Result LineHead LineCause
head_of words = do
  start ← ok_or (stamp_of (word words 1)) BadStart
  end ← end_of (word words 2)
  kind ← kind_of (word words 3)
  counted ← where_so (has_words kind (length words)) kind WrongCount
  where_so (not (returns kind && (end == never))) (record { start = start; end = end; kind = kind }) NoReturn

-- a key of 1 to 255 bytes
unfoldable pub key_of : List ℕ → Result (List ℕ) LineCause
key_of text = do
  bytes ← ok_or (bytes_of text) BadKeyCode
  where_so (nat_lt 0 (length bytes) && nat_le (length bytes) 255) bytes BadKeyLen

-- a value of at most 2,048 bytes
unfoldable pub value_of : List ℕ → Result (List ℕ) LineCause
value_of text = do
  bytes ← ok_or (bytes_of text) BadValueCode
  where_so (nat_le (length bytes) 2048) bytes BadValueLen

-- the time of the seventh word, or another if there is no such word
unfoldable pub time_at : List (List ℕ) → ℕ → LineCause → Result ℕ LineCause
time_at words other cause = if nat_le (length words) 6 then Ok other else ok_or (stamp_of (word words 6)) cause

-- what the call did. If no time is named, a put never expires, and a hit was at 0
unfoldable pub act_of : CallKind → List (List ℕ) → Result Act LineCause
act_of Put words = do
  value ← value_of (word words 5)
  expires ← time_at words never BadExpiry
  Ok (acts.Put value expires)
act_of Hit words = do
  value ← value_of (word words 5)
  moment ← time_at words 0 BadMoment
  Ok (acts.Hit value moment)
act_of Miss words = Ok acts.Miss
act_of Remove words = Ok acts.Remove

-- a call with its caller's name
pub record Spelled : Type 0 where
  pub caller : List ℕ
  pub start : ℕ
  pub end : ℕ
  pub key : List ℕ
  pub act : Act

-- CALLER START END, and put KEY VALUE [EXPIRES], hit KEY VALUE [MOMENT], miss KEY, or remove KEY
unfoldable pub spelled_of_words : List (List ℕ) → Result Spelled LineCause
spelled_of_words words = do
  head ← head_of words
  key ← key_of (word words 4)
  act ← act_of head.kind words
  Ok (record { caller = word words 0; start = head.start; end = head.end; key = key; act = act })

-- the words of a line that has as many as a call can have
abbrev pub line_words : List ℕ → Option (List (List ℕ))
line_words line = option_and_then (λ words. if nat_le 5 (length words) && nat_le (length words) 7 then Some words else None) (words_of line)

-- the call that a line spells
unfoldable pub spelled_of : List ℕ → Result Spelled LineCause
spelled_of line = do
  words ← ok_or (line_words line) NotWords
  spelled_of_words words
