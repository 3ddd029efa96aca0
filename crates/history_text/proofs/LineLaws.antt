-- Taking the next line of a reader.
use Rattle.std.proofs.Common.{◌≡◌, ℕ, ◌-◌, ◌≤◌, ◌++◌, ◌∷◌, true, false, eqb, if◌then◌else◌, inl, inr, List, [], length, arith, Option, Some, None, refl, sym, ap, subst, ◌∙◌}
use Rattle.std.specs.Io.KnownBytes.{IsAtEnd, Keeps, prepend_known}
use Rattle.std.proofs.lemmas.Bool.{cases_Bool}
use Rattle.script_words.specs.declared.line_read.LineRead.{LineRead}
use Rattle.script_words.specs.declared.line_read.LineRead.TheVariants.{Line, TooLong, End}
use Rattle.script_words.specs.Lines.{Ahead, GivesNext, TakesWithin, feeds, is_ready_within, after_line as behind}
use Rattle.script_words.proofs.public_laws.NextLine.{reads, through, through_after}
use Rattle.history_text.specs.Reading.{GivesLine, IsAhead, TakesOff}

-- how often a reader is asked before a line can be taken: each read brings a byte, or is the last
abbrev pub reads_left : Ahead → ℕ
reads_left ahead = if ahead.over then 0 else 12289 - length ahead.bytes

-- what was taken of the bytes read ahead is the first line of all that was left
pub gives : (old mid new : Ahead) (unread left : Option (List ℕ)) (read : LineRead) (line : List ℕ) → is_ready_within 8192 mid ≡ true → IsAhead mid left → Keeps (prepend_known old.bytes unread) (prepend_known mid.bytes left) → TakesWithin 8192 mid read line new → GivesLine (prepend_known old.bytes unread) read line (prepend_known new.bytes left)
gives old mid new None left read line ready ahead kept takes = tt
gives old mid new (Some xs) None read line ready ahead kept takes = absurd kept
gives old mid new (Some xs) (Some rest) read line ready ahead kept takes =
    subst (λ (bytes : List ℕ). GivesNext 8192 bytes read line (Some (new.bytes ++ rest))) kept (reads 8192 mid new rest line read ready ahead takes)

-- whether the reader reported its end is as it was
same_over : (old new : Ahead) (read : LineRead) (line : List ℕ) → TakesWithin 8192 old read line new → new.over ≡ old.over
same_over old new Line line takes = ap (λ (a : Ahead). a.over) takes.3
same_over old new TooLong line takes = ap (λ (a : Ahead). a.over) takes.1
same_over old new End line takes = ap (λ (a : Ahead). a.over) takes.1

pub still_ahead : (old new : Ahead) (left : Option (List ℕ)) (read : LineRead) (line : List ℕ) → IsAhead old left → TakesWithin 8192 old read line new → IsAhead new left
still_ahead old new left read line ahead takes = λ over. ahead (sym (same_over old new read line takes) ∙ over)

pub ahead_same : (mid new : Ahead) (left : Option (List ℕ)) → new ≡ mid → IsAhead mid left → IsAhead new left
ahead_same mid new left same ahead = subst (λ (a : Ahead). IsAhead a left) (sym same) ahead

-- if nothing is left and a line can be taken, the reader reported its end
over_last : (mid : Ahead) → mid.bytes ≡ [] → is_ready_within 8192 mid ≡ true → mid.over ≡ true
over_last mid none ready = elim (cases_Bool mid.over) [
  | inl over ↦ over
  | inr going ↦ let bad : false ≡ true = rw (going, none) at ready in cc
]

-- what is taken last is taken at the reader's end
pub at_end : (mid new : Ahead) (left : Option (List ℕ)) (read : LineRead) (line : List ℕ) → is_ready_within 8192 mid ≡ true → IsAhead mid left → TakesWithin 8192 mid read line new → read ≡ End → IsAtEnd left
at_end mid new left Line line ready ahead takes bad = cc
at_end mid new left TooLong line ready ahead takes bad = cc
at_end mid new left End line ready ahead takes same = ahead (over_last mid takes.0 ready)

-- a first line has one line feed at most
through_one : (bytes : List ℕ) → feeds (through bytes) ≤ 1
through_one [] = omega arith
through_one (b ∷ bs) = elim (cases_Bool (eqb b 10)) [
  | inl feed ↦ rw (feed, feed) (omega arith)
  | inr other ↦ rw (other, other) (through_one bs)
]

-- what was taken, and what is left of the bytes read ahead
pub takes_off : (old mid new : Ahead) (unread left : Option (List ℕ)) (read : LineRead) (line : List ℕ) → length mid.bytes ≤ 12288 → Keeps (prepend_known old.bytes unread) (prepend_known mid.bytes left) → TakesWithin 8192 mid read line new → TakesOff (prepend_known old.bytes unread) new.bytes left
takes_off old mid new unread left Line line few kept takes =
    let rest : new.bytes ≡ behind mid.bytes = ap (λ (a : Ahead). a.bytes) takes.3 in
    let whole : through mid.bytes ++ new.bytes ≡ mid.bytes = ap (λ zs. through mid.bytes ++ zs) rest ∙ sym (through_after mid.bytes) in
    record {
      front = through mid.bytes;
      keeps = subst (λ (bytes : List ℕ). Keeps (prepend_known old.bytes unread) (prepend_known bytes left)) (sym whole) kept;
      few = omega (arith, ap length whole, few);
      one = through_one mid.bytes;
    }
takes_off old mid new unread left TooLong line few kept takes =
    let same : new.bytes ≡ mid.bytes = ap (λ (a : Ahead). a.bytes) takes.1 in
    record {
      front = [];
      keeps = subst (λ (bytes : List ℕ). Keeps (prepend_known old.bytes unread) (prepend_known bytes left)) (sym same) kept;
      few = omega (arith, ap length same, few);
      one = omega arith;
    }
takes_off old mid new unread left End line few kept takes =
    let same : new.bytes ≡ mid.bytes = ap (λ (a : Ahead). a.bytes) takes.1 in
    record {
      front = [];
      keeps = subst (λ (bytes : List ℕ). Keeps (prepend_known old.bytes unread) (prepend_known bytes left)) (sym same) kept;
      few = omega (arith, ap length same, few);
      one = omega arith;
    }

-- ---- reading once more

pub keeps_self : (known : Option (List ℕ)) → Keeps known known
keeps_self None = tt
keeps_self (Some xs) = refl

pub keeps_on : (a b c : Option (List ℕ)) → Keeps a b → Keeps b c → Keeps a c
keeps_on None b c p q = tt
keeps_on (Some xs) None c p q = absurd p
keeps_on (Some xs) (Some ys) None p q = absurd q
keeps_on (Some xs) (Some ys) (Some zs) p q = q ∙ p
