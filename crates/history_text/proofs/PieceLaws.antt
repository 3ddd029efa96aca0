-- Lines of a text that are taken piece by piece.
use Rattle.std.proofs.Common.{◌≡◌, ◌≢◌, ℕ, suc, ◌+◌, ◌<◌, ◌≤◌, ◌++◌, ◌∷◌, Bool, true, false, ◌&&◌, nat_lt, List, [], length, Option, Some, None, IfErr, IfSome, Result, Ok, Err, sym, ap, ap₂, ◌∙◌, refl, add-one, append_assoc, arith, subst, inl, inr}
use Rattle.std.specs.Io.KnownBytes.{Consumes, IsAtEnd, Keeps, prepend_known}
use Rattle.std.proofs.lemmas.Bool.{cases_Bool}
use Rattle.std.proofs.lemmas.List.{append-nil, length-append}
use borrow.Author.Tests.{lt-ltb}
use Rattle.script_words.specs.declared.line_read.LineRead.TheVariants.{Line, TooLong, End}
use Rattle.script_words.specs.declared.read_line_fault.ReadLineFault as line_faults
use Rattle.script_words.specs.declared.read_line_fault.ReadLineFault.TheVariants as line_kinds
use Rattle.script_words.specs.Lines.{Ahead, feeds, lines_of, first_line, after_line as behind_line}
use Rattle.script_words.proofs.public_laws.NextLine.{feeds-append, next_lines}
use Rattle.trace_file.specs.declared.call.Call.{Call}
use Rattle.history_text.specs.declared.line_cause.LineCause.{LineCause}
use Rattle.history_text.specs.declared.line_cause.LineCause.TheVariants as causes
use Rattle.history_text.specs.declared.bad_line.BadLine.{BadLine}
use Rattle.history_text.specs.declared.reading.Reading.{Reading}
use Rattle.history_text.specs.declared.text_fault.TextFault.{TextFault}
use Rattle.history_text.specs.declared.text_fault.TextFault.TheVariants as taking
use Rattle.history_text.specs.declared.read_text_fault.ReadTextFault.{ReadTextFault}
use Rattle.history_text.specs.declared.read_text_fault.ReadTextFault.TheVariants.{Bad, CountFull, OutOfMemory, ReadFault}
use Rattle.history_text.specs.Outcome.{fault_at, of_read_line}
use Rattle.history_text.specs.Laws.{TextsAreSpelled}
use Rattle.history_text.specs.Pieces.{AreFirst, GoesOn, HasBefore, IsBadFrom, IsFaultFrom, LeftAfter, Progress, StopsAt, TakesPiece}
use Rattle.history_text.specs.Reading.{GivesLine, TakesNone, TakesOff}
use Rattle.history_text.specs.Readings.{is_in_share, is_of_line}
use Rattle.history_text.specs.Spelled.{IsSaid}
use Rattle.history_text.specs.Spelling.{Spelled, spelled_of, ◌>>=◌}
use Rattle.history_text.proofs.public_laws.Going.{first_then, goes_through, read_then}
use Rattle.history_text.specs.Text.{Room, Text, TextRead, after_line, by_line, call_by, endless, is_passed_over, no_text, noted, number_of, of_history, passing, read_by, read_from, recorded, recorded_if, text_by, with_line}

-- ---- what a line says, whichever calls the text held

-- a text grew by these calls and lines, at most one, and would have grown so with other calls too
pub record Grows (held text : Text) (other : List Call → List ℕ → Result Text LineCause) : Type 0 where
  pub calls : List Call
  pub lines : List ℕ
  pub calls_are : text.calls ≡ held.calls ++ calls
  pub lines_are : text.lines ≡ held.lines ++ lines
  pub as_many : length lines ≡ length calls
  pub one : length calls ≤ 1
  pub spelled : (before : List Call) (places : List ℕ) → other before places ≡ Ok (text_by (before ++ calls) (places ++ lines) text.callers)

-- what is said with the calls of a text is said with others too, unless there are too many
pub record Same (held : Text) (said : Result Text LineCause) (other : List Call → List ℕ → Result Text LineCause) : Type 0 where
  pub ok : (text : Text) → said ≡ Ok text → Grows held text other
  pub err : (cause : LineCause) → said ≡ Err cause → cause ≢ causes.TooManyCalls → (before : List Call) (places : List ℕ) → other before places ≡ Err cause

same_err : (held : Text) (cause : LineCause) → Same held (Err cause) (λ before places. Err cause)
same_err held cause = record {
  ok = λ text is. cc;
  err = λ other is apart before places. is;
}

stays : (held text : Text) → held ≡ text → Grows held text (λ before places. Ok (text_by before places held.callers))
stays held text is = subst (λ (t : Text). Grows held t (λ before places. Ok (text_by before places held.callers))) is (record {
  calls = [];
  lines = [];
  calls_are = sym (append-nil held.calls);
  lines_are = sym (append-nil held.lines);
  as_many = refl;
  one = omega arith;
  spelled = λ before places. ap₂ (λ (cs : List Call) (ls : List ℕ). Ok (text_by cs ls held.callers)) (sym (append-nil before)) (sym (append-nil places));
})

same_ok : (held : Text) → Same held (Ok held) (λ before places. Ok (text_by before places held.callers))
same_ok held = record {
  ok = λ text is. stays held text (let e = is in cc);
  err = λ cause is apart before places. cc;
}

pushed : (held text : Text) (number : ℕ) (call : Call) (callers : List (List ℕ)) → text_by (held.calls ++ call ∷ []) (held.lines ++ number ∷ []) callers ≡ text → Grows held text (λ before places. Ok (text_by (before ++ call ∷ []) (places ++ number ∷ []) callers))
pushed held text number call callers is = subst (λ (t : Text). Grows held t (λ before places. Ok (text_by (before ++ call ∷ []) (places ++ number ∷ []) callers))) is (record {
  calls = call ∷ [];
  lines = number ∷ [];
  calls_are = refl;
  lines_are = refl;
  as_many = refl;
  one = omega arith;
  spelled = λ before places. refl;
})

same_pushed : (held : Text) (number : ℕ) (call : Call) (callers : List (List ℕ)) → Same held (Ok (text_by (held.calls ++ call ∷ []) (held.lines ++ number ∷ []) callers)) (λ before places. Ok (text_by (before ++ call ∷ []) (places ++ number ∷ []) callers))
same_pushed held number call callers = record {
  ok = λ text is. pushed held text number call callers (let e = is in cc);
  err = λ cause is apart before places. cc;
}

full : (held : Text) (other : List Call → List ℕ → Result Text LineCause) → Same held (Err causes.TooManyCalls) other
full held other = record {
  ok = λ text is. cc;
  err = λ cause is apart before places. absurd (apart (let e = is in cc));
}

same_recorded : (held : Text) (number : ℕ) (s : Spelled) → Same held (recorded of_history held number s) (λ before places. recorded endless (text_by before places held.callers) number s)
unfolding recorded
same_recorded held number s = elim (cases_Bool (of_history (length held.calls))) [
  | inl room ↦ elim (cases_Bool (nat_lt (number_of held.callers s.caller) 65536)) [
    | inl few ↦ rw (room, few) (same_pushed held number (call_by (number_of held.callers s.caller) s) (noted held.callers s.caller))
    | inr many ↦ rw (room, many) (same_err held causes.TooManyCallers)
  ]
  | inr none ↦ rw none (full held (λ before places. recorded endless (text_by before places held.callers) number s))
]

same_recorded_if : (how : Reading) (held : Text) (number : ℕ) (s : Spelled) → Same held (recorded_if of_history how held number s) (λ before places. recorded_if endless how (text_by before places held.callers) number s)
unfolding recorded_if
same_recorded_if how held number s = elim (cases_Bool (is_in_share how.share s.key)) [
  | inl in_share ↦ rw in_share (same_recorded held number s)
  | inr out ↦ rw out (same_ok held)
]

same_spelled : (how : Reading) (held : Text) (number : ℕ) (said : Result Spelled LineCause) → Same held (said >>= recorded_if of_history how held number) (λ before places. said >>= recorded_if endless how (text_by before places held.callers) number)
same_spelled how held number (Ok s) = same_recorded_if how held number s
same_spelled how held number (Err cause) = same_err held cause

same_line : (how : Reading) (held : Text) (number : ℕ) (line : List ℕ) → Same held (after_line of_history how held number line) (λ before places. after_line endless how (text_by before places held.callers) number line)
unfolding after_line
same_line how held number line = elim (cases_Bool (nat_lt 8192 (length line))) [
  | inl long ↦ rw long (same_err held causes.TooLong)
  | inr short ↦ elim (cases_Bool (nat_lt 9223372036854775807 number)) [
    | inl late ↦ rw (short, late) (same_err held causes.TooManyLines)
    | inr early ↦ elim (cases_Bool (is_passed_over line)) [
      | inl over ↦ rw (short, early, over) (same_ok held)
      | inr other ↦ rw (short, early, other) (same_spelled how held number (spelled_of line))
    ]
  ]
]

-- ---- what is read after a line

-- the same of what was read, with so many lines passed over
pub record Taken (how : Reading) (held : Text) (skipped number : ℕ) (line : List ℕ) (text : Text) (after : ℕ) : Type 0 where
  pub calls : List Call
  pub lines : List ℕ
  pub calls_are : text.calls ≡ held.calls ++ calls
  pub lines_are : text.lines ≡ held.lines ++ lines
  pub as_many : length lines ≡ length calls
  pub one : length calls ≤ 1
  pub spelled : (before : List Call) (places : List ℕ) → with_line endless how (read_by (text_by before places held.callers) skipped) number line ≡ Ok (read_by (text_by (before ++ calls) (places ++ lines) text.callers) after)

-- a cause that may be passed over is not that there are too many calls
not_many : (cause : LineCause) → is_of_line cause ≡ true → cause ≢ causes.TooManyCalls
not_many cause of_line same =
    let bad : is_of_line causes.TooManyCalls ≡ true = ap is_of_line (sym same) ∙ of_line in cc

both_first : (a b : Bool) → (a && b) ≡ true → b ≡ true
both_first true b is = is
both_first false b is = cc

module _ (how : Reading) (held : Text) (skipped : ℕ) (other : List Call → List ℕ → Result Text LineCause) where
  abbrev pub Passes : Text → ℕ → (List Call) → (List ℕ) → Type 0
  Passes text after calls lines = (before : List Call) (places : List ℕ) → passing how (read_by (text_by before places held.callers) skipped) (other before places) ≡ Ok (read_by (text_by (before ++ calls) (places ++ lines) text.callers) after)

  -- a text that grew, with as many lines passed over as before, or one more
  pub record Passed (text : Text) (after : ℕ) : Type 0 where
    pub calls : List Call
    pub lines : List ℕ
    pub calls_are : text.calls ≡ held.calls ++ calls
    pub lines_are : text.lines ≡ held.lines ++ lines
    pub as_many : length lines ≡ length calls
    pub one : length calls ≤ 1
    pub spelled : Passes text after calls lines

  grown : (text : Text) (after : ℕ) → skipped ≡ after → Grows held text other → Passed text after
  grown text after is grows = record {
    calls = grows.calls;
    lines = grows.lines;
    calls_are = grows.calls_are;
    lines_are = grows.lines_are;
    as_many = grows.as_many;
    one = grows.one;
    spelled = λ before places. ap (passing how (read_by (text_by before places held.callers) skipped)) (grows.spelled before places) ∙ ap (λ n. Ok (read_by (text_by (before ++ grows.calls) (places ++ grows.lines) text.callers) n)) is;
  }

  passed_over : (cause : LineCause) → (how.skip_bad && is_of_line cause) ≡ true → ((before : List Call) (places : List ℕ) → other before places ≡ Err cause) → (text : Text) (after : ℕ) → held ≡ text → suc skipped ≡ after → Passed text after
  passed_over cause may says text after same counted = subst (λ (t : Text). Passed t after) same (subst (λ n. Passed held n) counted (record {
    calls = [];
    lines = [];
    calls_are = sym (append-nil held.calls);
    lines_are = sym (append-nil held.lines);
    as_many = refl;
    one = omega arith;
    spelled = λ before places.
        ap (passing how (read_by (text_by before places held.callers) skipped)) (says before places)
        ∙ (rw may refl)
        ∙ ap₂ (λ (cs : List Call) (ls : List ℕ). Ok (read_by (text_by cs ls held.callers) (suc skipped))) (sym (append-nil before)) (sym (append-nil places));
  }))

  pub passes : (said : Result Text LineCause) → Same held said other → (text : Text) (after : ℕ) → passing how (read_by held skipped) said ≡ Ok (read_by text after) → Passed text after
  passes (Ok t) same text after is =
      let both : read_by t skipped ≡ read_by text after = cc in
      let at = ap (λ (r : TextRead). r.text) both in
      let counted = ap (λ (r : TextRead). r.skipped) both in
      grown text after counted (same.ok text (ap Ok at))
  passes (Err cause) same text after is = elim (cases_Bool (how.skip_bad && is_of_line cause)) [
    | inl may ↦
        let so : Ok (read_by held (suc skipped)) ≡ Ok (read_by text after) = rw may at is in
        let both : read_by held (suc skipped) ≡ read_by text after = cc in
        let at = ap (λ (r : TextRead). r.text) both in
        let counted = ap (λ (r : TextRead). r.skipped) both in
        passed_over cause may (same.err cause refl (not_many cause (both_first how.skip_bad (is_of_line cause) may))) text after at counted
    | inr fails ↦
        let bad : Err cause ≡ Ok (read_by text after) = rw fails at is in cc
  ]

  pub stopped : (said : Result Text LineCause) → Same held said other → (cause : LineCause) → passing how (read_by held skipped) said ≡ Err cause → cause ≢ causes.TooManyCalls → (before : List Call) (places : List ℕ) → passing how (read_by (text_by before places held.callers) skipped) (other before places) ≡ Err cause
  stopped (Ok t) same cause is apart before places = cc
  stopped (Err said) same cause is apart before places = elim (cases_Bool (how.skip_bad && is_of_line said)) [
    | inl may ↦
        let bad : Ok (read_by held (suc skipped)) ≡ Err cause = rw may at is in cc
    | inr fails ↦
        let so : Err said ≡ Err cause = rw fails at is in
        let at : said ≡ cause = cc in
        let says = same.err said refl (λ many. apart (sym at ∙ many)) before places in
        ap (passing how (read_by (text_by before places held.callers) skipped)) says ∙ (rw fails so)
  ]

pub taken_is : (how : Reading) (held : Text) (skipped number : ℕ) (line : List ℕ) (text : Text) (after : ℕ) → with_line of_history how (read_by held skipped) number line ≡ Ok (read_by text after) → Taken how held skipped number line text after
taken_is how held skipped number line text after is =
    let passed = passes how held skipped (λ before places. after_line endless how (text_by before places held.callers) number line) (after_line of_history how held number line) (same_line how held number line) text after is in
    record {
      calls = passed.calls;
      lines = passed.lines;
      calls_are = passed.calls_are;
      lines_are = passed.lines_are;
      as_many = passed.as_many;
      one = passed.one;
      spelled = passed.spelled;
    }

pub stops_other : (how : Reading) (held : Text) (skipped number : ℕ) (line : List ℕ) (cause : LineCause) → with_line of_history how (read_by held skipped) number line ≡ Err cause → cause ≢ causes.TooManyCalls → (before : List Call) (places : List ℕ) → with_line endless how (read_by (text_by before places held.callers) skipped) number line ≡ Err cause
stops_other how held skipped number line cause is apart before places =
    stopped how held skipped (λ before places. after_line endless how (text_by before places held.callers) number line) (after_line of_history how held number line) (same_line how held number line) cause is apart before places

-- ---- the first line of what is left

abbrev pub bad : ℕ → LineCause → BadLine
bad number cause = record { number = number; cause = cause }

-- what the rest spells is what its first line and then the others spell
next : (room : Room) (how : Reading) (read : TextRead) (number : ℕ) (rest line : List ℕ) (said : Result TextRead LineCause) → rest ≢ [] → line ≡ first_line rest → with_line room how read number line ≡ said → read_from room how read number (lines_of rest) ≡ by_line number said (λ r. read_from room how r (suc number) (lines_of (behind_line rest)))
next room how read number rest line said some is gives =
    ap (read_from room how read number) (next_lines rest some)
    ∙ ap (λ (r : Result TextRead LineCause). by_line number r (λ t. read_from room how t (suc number) (lines_of (behind_line rest)))) (ap (with_line room how read number) (sym is) ∙ gives)

pub goes_line : (room : Room) (how : Reading) (left rest : Option (List ℕ)) (read other : TextRead) (number : ℕ) (line : List ℕ) → GivesLine left Line line rest → with_line room how read number line ≡ Ok other → GoesOn room how left read number rest other (number + 1)
goes_line room how None rest read other number line given gives = tt
goes_line room how (Some bytes) None read other number line given gives =
    let none : None ≡ Some (behind_line bytes) = given.2 in cc
goes_line room how (Some bytes) (Some more) read other number line given gives =
    let same : more ≡ behind_line bytes = (let e = given.2 in cc) in
    let whole = next room how read number bytes line (Ok other) given.0 given.1 gives in
    let on : read_from room how read number (lines_of bytes) ≡ read_from room how other (number + 1) (lines_of (behind_line bytes)) = rw add-one whole in
    on ∙ ap (λ xs. read_from room how other (number + 1) (lines_of xs)) (sym same)

stops_line : (room : Room) (how : Reading) (bytes line : List ℕ) (rest : Option (List ℕ)) (read : TextRead) (number : ℕ) (cause : LineCause) → GivesLine (Some bytes) Line line rest → with_line room how read number line ≡ Err cause → read_from room how read number (lines_of bytes) ≡ Err (bad number cause)
stops_line room how bytes line rest read number cause given gives =
    next room how read number bytes line (Err cause) given.0 given.1 gives

-- a line that is too long is a fault whatever it says
too_long : (room : Room) (how : Reading) (read : TextRead) (number : ℕ) (line : List ℕ) → 8192 < length line → with_line room how read number line ≡ Err causes.TooLong
unfolding after_line
too_long room how read number line long =
    let over = lt-ltb 8192 (length line) long in
    elim (cases_Bool how.skip_bad) [
      | inl may ↦ rw (over, may) refl
      | inr fails ↦ rw (over, fails) refl
    ]

long_line : (room : Room) (how : Reading) (bytes line : List ℕ) (rest : Option (List ℕ)) (read : TextRead) (number : ℕ) → GivesLine (Some bytes) TooLong line rest → read_from room how read number (lines_of bytes) ≡ Err (bad number causes.TooLong)
long_line room how bytes line rest read number given =
    next room how read number bytes (first_line bytes) (Err causes.TooLong) given.0 refl (too_long room how read number (first_line bytes) given.1)

-- ---- what was consumed

consume : (all left unread : Option (List ℕ)) (lines bytes : List ℕ) → Consumes all left lines → Keeps left (prepend_known bytes unread) → Consumes all unread (lines ++ bytes)
consume None left unread lines bytes taken keeps = tt
consume (Some xs) None unread lines bytes taken keeps = absurd taken
consume (Some xs) (Some rest) None lines bytes taken keeps = absurd keeps
consume (Some xs) (Some rest) (Some ys) lines bytes taken keeps =
    taken ∙ ap (λ zs. lines ++ zs) (sym keeps) ∙ sym (append_assoc lines bytes ys)

consume_on : (all left unread : Option (List ℕ)) (lines more : List ℕ) → Consumes all left lines → Consumes left unread more → Consumes all unread (lines ++ more)
consume_on None left unread lines more taken then = tt
consume_on (Some xs) None unread lines more taken then = absurd taken
consume_on (Some xs) (Some rest) None lines more taken then = absurd then
consume_on (Some xs) (Some rest) (Some ys) lines more taken then =
    taken ∙ ap (λ zs. lines ++ zs) then ∙ sym (append_assoc lines more ys)

none_taken : (left : Option (List ℕ)) → Consumes left left []
none_taken None = tt
none_taken (Some bytes) = refl

regroup : (left unread : Option (List ℕ)) (front ahead : List ℕ) → Keeps left (prepend_known (front ++ ahead) unread) → Keeps left (prepend_known front (prepend_known ahead unread))
regroup None unread front ahead keeps = tt
regroup (Some rest) None front ahead keeps = absurd keeps
regroup (Some rest) (Some ys) front ahead keeps = sym (append_assoc front ahead ys) ∙ keeps

off_one : (left unread : Option (List ℕ)) (front ahead : List ℕ) → Keeps left (prepend_known (front ++ ahead) unread) → Consumes left (prepend_known ahead unread) front
off_one left unread front ahead keeps =
    consume left left (prepend_known ahead unread) [] front (none_taken left) (regroup left unread front ahead keeps)

-- ---- the faults of a line

-- a bad line is not before the first one
by_line_least : (number : ℕ) (said : Result TextRead LineCause) (rest : TextRead → Result TextRead BadLine) (first : BadLine) → ((r : TextRead) → rest r ≡ Err first → suc number ≤ first.number) → by_line number said rest ≡ Err first → number ≤ first.number
by_line_least number (Ok r) rest first later is = let more = later r is in omega (arith, more)
by_line_least number (Err cause) rest first later is =
    let same : bad number cause ≡ first = cc in
    let at = ap (λ (b : BadLine). b.number) same in omega (arith, at)

least : (room : Room) (how : Reading) (read : TextRead) (number : ℕ) (lines : List (List ℕ)) (first : BadLine) → read_from room how read number lines ≡ Err first → number ≤ first.number
least room how read number [] first is = cc
least room how read number (line ∷ lines) first is =
    by_line_least number (with_line room how read number line) (λ r. read_from room how r (suc number) lines) first (λ r later. least room how r (suc number) lines first later) is

least_of : (number : ℕ) (said : Result TextRead BadLine) → ((first : BadLine) → said ≡ Err first → number ≤ first.number) → IfErr said (λ first. number + 0 ≤ first.number)
least_of number (Ok r) later = tt
least_of number (Err first) later = let most = later first refl in omega (arith, most)

good : (how : Reading) (left : Option (List ℕ)) (read : TextRead) (number : ℕ) → IfSome left (λ bytes. IfErr (read_from of_history how read number (lines_of bytes)) (λ first. number + feeds [] ≤ first.number))
good how None read number = tt
good how (Some bytes) read number =
    least_of number (read_from of_history how read number (lines_of bytes)) (λ first is. least of_history how read number (lines_of bytes) first is)

pub not_read : (number : ℕ) (fault : TextFault) → fault_at number fault ≡ ReadFault → ⊥
not_read number (taking.Bad cause) is = cc
not_read number taking.OutOfMemory is = cc

read_failed : (fault : line_faults.ReadLineFault) → of_read_line fault ≡ ReadFault → fault ≡ line_kinds.ReadFault
read_failed line_kinds.OutOfMemory is = cc
read_failed line_kinds.ReadFault is = refl

-- a bad line has this number
abbrev pub IsNumbered : ℕ → ReadTextFault → Type 0
IsNumbered number (Bad first) = first.number ≡ number
IsNumbered number ReadFault = Unit {0}
IsNumbered number OutOfMemory = Unit {0}
IsNumbered number CountFull = Unit {0}

-- how far a text was read, by its parts
abbrev pub at : Reading → ℕ → ℕ → Ahead → Progress
at how number skipped ahead = record { reading = how; number = number; skipped = skipped; ahead = ahead }

module _ (how : Reading) (number skipped : ℕ) (begun : Ahead) (held : Text) (left unread : Option (List ℕ)) (ahead : Ahead) where
  -- a line that was taken is bad, or too long, or memory was refused
  pub left_off : (fault : ReadTextFault) → (fault ≡ ReadFault → ⊥) → TakesOff left ahead.bytes unread → LeftAfter left (at how number skipped begun) held unread fault
  left_off fault other takes = record {
    lines = [];
    ahead = takes.front ++ ahead.bytes;
    taken = consume left left unread [] (takes.front ++ ahead.bytes) (none_taken left) takes.keeps;
    good = good how left (read_by held skipped) number;
    few = takes.few;
    unfed = λ is. absurd (other is);
  }

  -- no line could be taken
  pub left_none : (fault : line_faults.ReadLineFault) → TakesNone left ahead.bytes unread fault → LeftAfter left (at how number skipped begun) held unread (of_read_line fault)
  left_none fault takes = record {
    lines = [];
    ahead = ahead.bytes;
    taken = consume left left unread [] ahead.bytes (none_taken left) takes.keeps;
    good = good how left (read_by held skipped) number;
    few = takes.few;
    unfed = λ is. takes.unfed (read_failed fault is);
  }

pub long_fault : (how : Reading) (number skipped : ℕ) (begun : Ahead) (held : Text) (left rest : Option (List ℕ)) (line : List ℕ) → GivesLine left TooLong line rest → IsFaultFrom left (at how number skipped begun) held (Bad (bad number causes.TooLong))
long_fault how number skipped begun held None rest line given = tt
long_fault how number skipped begun held (Some bytes) rest line given = record {
  first = long_line of_history how bytes line rest (read_by held skipped) number given;
  spelled = λ apart before places. long_line endless how bytes line rest (read_by (text_by before places held.callers) skipped) number given;
}

pub bad_fault : (how : Reading) (number skipped : ℕ) (begun : Ahead) (held : Text) (left rest : Option (List ℕ)) (line : List ℕ) (fault : TextFault) → GivesLine left Line line rest → IsSaid (with_line of_history how (read_by held skipped) number line) fault → IsFaultFrom left (at how number skipped begun) held (fault_at number fault)
bad_fault how number skipped begun held left rest line taking.OutOfMemory given said = tt
bad_fault how number skipped begun held None rest line (taking.Bad cause) given said = tt
bad_fault how number skipped begun held (Some bytes) rest line (taking.Bad cause) given said = record {
  first = stops_line of_history how bytes line rest (read_by held skipped) number cause given said;
  spelled = λ apart before places. stops_line endless how bytes line rest (read_by (text_by before places held.callers) skipped) number cause given (stops_other how held skipped number line cause said apart before places);
}

-- ---- lines after lines

read_one : (room : Room) (how : Reading) (read other : TextRead) (number : ℕ) (line : List ℕ) → with_line room how read number line ≡ Ok other → read_from room how read number (line ∷ []) ≡ Ok other
read_one room how read other number line gives =
    ap (λ (said : Result TextRead LineCause). by_line number said (λ r. read_from room how r (suc number) [])) gives

first_one : (left rest : Option (List ℕ)) (line : List ℕ) → GivesLine left Line line rest → AreFirst left (line ∷ []) rest
first_one None rest line given = tt
first_one (Some bytes) None line given =
    let none : None ≡ Some (behind_line bytes) = given.2 in cc
first_one (Some bytes) (Some more) line given =
    let same : more ≡ behind_line bytes = (let e = given.2 in cc) in
    next_lines bytes given.0 ∙ ap₂ (λ (l r : List ℕ). l ∷ lines_of r) (sym given.1) (sym same)

first_none : (left rest : Option (List ℕ)) → Keeps left rest → AreFirst left [] rest
first_none None rest kept = tt
first_none (Some bytes) None kept = absurd kept
first_none (Some bytes) (Some others) kept = ap lines_of (sym kept)

-- ---- pieces

-- a line is a piece
pub line_piece : (how : Reading) (number skipped after : ℕ) (begun ahead : Ahead) (held text : Text) (left unread : Option (List ℕ)) (line : List ℕ) → GivesLine left Line line (prepend_known ahead.bytes unread) → TakesOff left ahead.bytes unread → with_line of_history how (read_by held skipped) number line ≡ Ok (read_by text after) → TakesPiece left (at how number skipped begun) held (prepend_known ahead.bytes unread) (at how (number + 1) after ahead) text
line_piece how number skipped after begun ahead held text left unread line given takes gives =
    let taken = taken_is how held skipped number line text after gives in
    let one = takes.one in
    record {
      calls = taken.calls;
      lines = taken.lines;
      calls_are = taken.calls_are;
      lines_are = taken.lines_are;
      as_many = taken.as_many;
      same = refl;
      goes_on = goes_line of_history how left (prepend_known ahead.bytes unread) (read_by held skipped) (read_by text after) number line given gives;
      spelled = λ before places. goes_line endless how left (prepend_known ahead.bytes unread) (read_by (text_by before places held.callers) skipped) (read_by (text_by (before ++ taken.calls) (places ++ taken.lines) text.callers) after) number line given (taken.spelled before places);
      bytes = takes.front;
      taken = off_one left unread takes.front ahead.bytes takes.keeps;
      low = omega (arith, one);
      front = line ∷ [];
      first = first_one left (prepend_known ahead.bytes unread) line given;
      number_is = refl;
      read = read_one of_history how (read_by held skipped) (read_by text after) number line gives;
      good = λ before places. read_one endless how (read_by (text_by before places held.callers) skipped) (read_by (text_by (before ++ taken.calls) (places ++ taken.lines) text.callers) after) number line (taken.spelled before places);
    }

pub line_one : (how : Reading) (number skipped after : ℕ) (held text : Text) (line : List ℕ) → with_line of_history how (read_by held skipped) number line ≡ Ok (read_by text after) → length text.calls ≤ length held.calls + 1
line_one how number skipped after held text line gives =
    let taken = taken_is how held skipped number line text after gives in
    let one = taken.one in
    let len = ap length taken.calls_are ∙ length-append held.calls taken.calls in omega (arith, one, len)

goes_nowhere : (room : Room) (how : Reading) (left rest : Option (List ℕ)) (read : TextRead) (number : ℕ) → Keeps left rest → GoesOn room how left read number rest read number
goes_nowhere room how None rest read number kept = tt
goes_nowhere room how (Some bytes) None read number kept = absurd kept
goes_nowhere room how (Some bytes) (Some others) read number kept =
    ap (λ xs. read_from room how read number (lines_of xs)) (sym kept)

kept_all : (left rest : Option (List ℕ)) → Keeps left rest → Consumes left rest []
kept_all None rest kept = tt
kept_all (Some bytes) None kept = absurd kept
kept_all (Some bytes) (Some others) kept = sym kept

-- no line is a piece
pub no_piece : (old new : Progress) (held : Text) (left rest : Option (List ℕ)) → Keeps left rest → new.reading ≡ old.reading → new.number ≡ old.number → new.skipped ≡ old.skipped → TakesPiece left old held rest new held
no_piece old new held left rest kept reads number skipped = record {
  calls = [];
  lines = [];
  calls_are = sym (append-nil held.calls);
  lines_are = sym (append-nil held.lines);
  as_many = refl;
  same = reads;
  goes_on = subst (λ n. GoesOn of_history old.reading left (read_by held old.skipped) old.number rest (read_by held n) new.number) (sym skipped) (subst (λ n. GoesOn of_history old.reading left (read_by held old.skipped) old.number rest (read_by held old.skipped) n) (sym number) (goes_nowhere of_history old.reading left rest (read_by held old.skipped) old.number kept));
  spelled = λ before places.
      subst (λ n. GoesOn endless old.reading left (read_by (text_by before places held.callers) old.skipped) old.number rest (read_by (text_by (before ++ []) (places ++ []) held.callers) n) new.number) (sym skipped)
      (subst (λ n. GoesOn endless old.reading left (read_by (text_by before places held.callers) old.skipped) old.number rest (read_by (text_by (before ++ []) (places ++ []) held.callers) old.skipped) n) (sym number)
      (subst (λ (cs : List Call). GoesOn endless old.reading left (read_by (text_by before places held.callers) old.skipped) old.number rest (read_by (text_by cs (places ++ []) held.callers) old.skipped) old.number) (sym (append-nil before))
      (subst (λ (ls : List ℕ). GoesOn endless old.reading left (read_by (text_by before places held.callers) old.skipped) old.number rest (read_by (text_by before ls held.callers) old.skipped) old.number) (sym (append-nil places))
      (goes_nowhere endless old.reading left rest (read_by (text_by before places held.callers) old.skipped) old.number kept))));
  bytes = [];
  taken = kept_all left rest kept;
  low = omega (arith, number);
  front = [];
  first = first_none left rest kept;
  number_is = omega (arith, number);
  read = ap (λ n. Ok (read_by held n)) (sym skipped);
  good = λ before places.
      ap (λ n. Ok (read_by (text_by before places held.callers) n)) (sym skipped)
      ∙ ap₂ (λ (cs : List Call) (ls : List ℕ). Ok (read_by (text_by cs ls held.callers) new.skipped)) (sym (append-nil before)) (sym (append-nil places));
}

-- at the end nothing is left to take, and nothing is read ahead
end_left : (left unread : Option (List ℕ)) (line front ahead : List ℕ) → GivesLine left End line (prepend_known ahead unread) → Keeps left (prepend_known (front ++ ahead) unread) → Keeps left (prepend_known ahead unread)
end_left None unread line front ahead given keeps = tt
end_left (Some bytes) None line front ahead given keeps = absurd keeps
end_left (Some bytes) (Some ys) line [] ahead given keeps = keeps
end_left (Some bytes) (Some ys) line (b ∷ front) ahead given keeps =
    let bad : b ∷ ((front ++ ahead) ++ ys) ≡ [] = keeps ∙ given in cc

pub end_piece : (how : Reading) (number skipped : ℕ) (begun ahead : Ahead) (held : Text) (left unread : Option (List ℕ)) (line : List ℕ) → GivesLine left End line (prepend_known ahead.bytes unread) → TakesOff left ahead.bytes unread → TakesPiece left (at how number skipped begun) held (prepend_known ahead.bytes unread) (at how number skipped ahead) held
end_piece how number skipped begun ahead held left unread line given takes =
    no_piece (at how number skipped begun) (at how number skipped ahead) held left (prepend_known ahead.bytes unread) (end_left left unread line takes.front ahead.bytes given takes.keeps) refl refl refl

pub end_rest : (left unread : Option (List ℕ)) (line front ahead : List ℕ) → GivesLine left End line (prepend_known ahead unread) → Keeps left (prepend_known (front ++ ahead) unread) → IfSome left (λ bytes. IsAtEnd (prepend_known ahead unread))
end_rest None unread line front ahead given keeps = tt
end_rest (Some bytes) None line front ahead given keeps = absurd keeps
end_rest (Some bytes) (Some ys) line front ahead given keeps =
    let kept : ahead ++ ys ≡ bytes = end_left (Some bytes) (Some ys) line front ahead given keeps in kept ∙ given

pub then_end : (left mid rest : Option (List ℕ)) (old between : Progress) (held text : Text) → TakesPiece left old held mid between text → IfSome mid (λ bytes. IsAtEnd rest) → IfSome left (λ bytes. IsAtEnd rest)
then_end None mid rest old between held text piece then = tt
then_end (Some bytes) None rest old between held text piece then = absurd piece.goes_on
then_end (Some bytes) (Some others) rest old between held text piece then = then

-- two pieces are one
pub then_piece : (left mid rest : Option (List ℕ)) (old between new : Progress) (held text other : Text) → TakesPiece left old held mid between text → TakesPiece mid between text rest new other → TakesPiece left old held rest new other
then_piece left mid rest old between new held text other one two =
    let low = one.low in
    let more = two.low in
    let many = one.as_many in
    let others = two.as_many in
    let one_number = one.number_is in
    let two_number = two.number_is in
    record {
      calls = one.calls ++ two.calls;
      lines = one.lines ++ two.lines;
      calls_are = two.calls_are ∙ ap (λ cs. cs ++ two.calls) one.calls_are ∙ append_assoc held.calls one.calls two.calls;
      lines_are = two.lines_are ∙ ap (λ ls. ls ++ two.lines) one.lines_are ∙ append_assoc held.lines one.lines two.lines;
      as_many = length-append one.lines two.lines ∙ ap₂ (λ m n. m + n) many others ∙ sym (length-append one.calls two.calls);
      same = two.same ∙ one.same;
      goes_on = goes_through of_history old.reading left mid rest (read_by held old.skipped) (read_by text between.skipped) (read_by other new.skipped) old.number between.number new.number one.goes_on (subst (λ h. GoesOn of_history h mid (read_by text between.skipped) between.number rest (read_by other new.skipped) new.number) one.same two.goes_on);
      spelled = λ before places.
          subst (λ (cs : List Call). GoesOn endless old.reading left (read_by (text_by before places held.callers) old.skipped) old.number rest (read_by (text_by cs (places ++ (one.lines ++ two.lines)) other.callers) new.skipped) new.number) (append_assoc before one.calls two.calls)
          (subst (λ (ls : List ℕ). GoesOn endless old.reading left (read_by (text_by before places held.callers) old.skipped) old.number rest (read_by (text_by ((before ++ one.calls) ++ two.calls) ls other.callers) new.skipped) new.number) (append_assoc places one.lines two.lines)
          (goes_through endless old.reading left mid rest (read_by (text_by before places held.callers) old.skipped) (read_by (text_by (before ++ one.calls) (places ++ one.lines) text.callers) between.skipped) (read_by (text_by ((before ++ one.calls) ++ two.calls) ((places ++ one.lines) ++ two.lines) other.callers) new.skipped) old.number between.number new.number (one.spelled before places) (subst (λ h. GoesOn endless h mid (read_by (text_by (before ++ one.calls) (places ++ one.lines) text.callers) between.skipped) between.number rest (read_by (text_by ((before ++ one.calls) ++ two.calls) ((places ++ one.lines) ++ two.lines) other.callers) new.skipped) new.number) one.same (two.spelled (before ++ one.calls) (places ++ one.lines)))));
      bytes = one.bytes ++ two.bytes;
      taken = consume_on left mid rest one.bytes two.bytes one.taken two.taken;
      low = omega (arith, feeds-append one.bytes two.bytes, low, more);
      front = one.front ++ two.front;
      first = first_then left mid rest one.front two.front one.first two.first;
      number_is = omega (arith, one_number, two_number, length-append one.front two.front);
      read = read_then of_history old.reading (read_by held old.skipped) (read_by text between.skipped) (Ok (read_by other new.skipped)) old.number between.number one.front two.front one_number one.read
          (subst (λ h. read_from of_history h (read_by text between.skipped) between.number two.front ≡ Ok (read_by other new.skipped)) one.same two.read);
      good = λ before places.
          subst (λ (cs : List Call). read_from endless old.reading (read_by (text_by before places held.callers) old.skipped) old.number (one.front ++ two.front) ≡ Ok (read_by (text_by cs (places ++ (one.lines ++ two.lines)) other.callers) new.skipped)) (append_assoc before one.calls two.calls)
          (subst (λ (ls : List ℕ). read_from endless old.reading (read_by (text_by before places held.callers) old.skipped) old.number (one.front ++ two.front) ≡ Ok (read_by (text_by ((before ++ one.calls) ++ two.calls) ls other.callers) new.skipped)) (append_assoc places one.lines two.lines)
          (read_then endless old.reading (read_by (text_by before places held.callers) old.skipped) (read_by (text_by (before ++ one.calls) (places ++ one.lines) text.callers) between.skipped) (Ok (read_by (text_by ((before ++ one.calls) ++ two.calls) ((places ++ one.lines) ++ two.lines) other.callers) new.skipped)) old.number between.number one.front two.front one_number (one.good before places)
          (subst (λ h. read_from endless h (read_by (text_by (before ++ one.calls) (places ++ one.lines) text.callers) between.skipped) between.number two.front ≡ Ok (read_by (text_by ((before ++ one.calls) ++ two.calls) ((places ++ one.lines) ++ two.lines) other.callers) new.skipped)) one.same (two.good (before ++ one.calls) (places ++ one.lines)))));
    }

fault_some : (bytes : List ℕ) (mid : Option (List ℕ)) (old between : Progress) (held text : Text) (first : BadLine) → TakesPiece (Some bytes) old held mid between text → IfSome mid (λ others. IsBadFrom others between text first) → IsBadFrom bytes old held first
fault_some bytes None old between held text first piece then = absurd piece.goes_on
fault_some bytes (Some others) old between held text first piece then = record {
  first = piece.goes_on ∙ subst (λ h. read_from of_history h (read_by text between.skipped) between.number (lines_of others) ≡ Err first) piece.same then.first;
  spelled = λ apart before places. piece.spelled before places ∙ subst (λ h. read_from endless h (read_by (text_by (before ++ piece.calls) (places ++ piece.lines) text.callers) between.skipped) between.number (lines_of others) ≡ Err first) piece.same (then.spelled apart (before ++ piece.calls) (places ++ piece.lines));
}

-- a fault after a piece
pub then_fault : (left mid : Option (List ℕ)) (old between : Progress) (held text : Text) (fault : ReadTextFault) → TakesPiece left old held mid between text → IsFaultFrom mid between text fault → IsFaultFrom left old held fault
then_fault None mid old between held text (Bad first) piece then = tt
then_fault (Some bytes) mid old between held text (Bad first) piece then = fault_some bytes mid old between held text first piece then
then_fault left mid old between held text ReadFault piece then = tt
then_fault left mid old between held text OutOfMemory piece then = tt
then_fault left mid old between held text CountFull piece then = absurd then

err_more : (said : Result TextRead BadLine) (a b : ℕ) → b ≤ a → IfErr said (λ first. a ≤ first.number) → IfErr said (λ first. b ≤ first.number)
err_more (Ok r) a b less is = tt
err_more (Err first) a b less is = omega (arith, less, is)

good_on : (left mid : Option (List ℕ)) (how : Reading) (read between : TextRead) (number among : ℕ) (lines more : List ℕ) → GoesOn of_history how left read number mid between among → number + feeds lines ≤ among → IfSome mid (λ bytes. IfErr (read_from of_history how between among (lines_of bytes)) (λ first. among + feeds more ≤ first.number)) → IfSome left (λ bytes. IfErr (read_from of_history how read number (lines_of bytes)) (λ first. number + feeds (lines ++ more) ≤ first.number))
good_on None mid how read between number among lines more goes low then = tt
good_on (Some bytes) None how read between number among lines more goes low then = absurd goes
good_on (Some bytes) (Some others) how read between number among lines more goes low then =
    let less : number + feeds (lines ++ more) ≤ among + feeds more = omega (arith, feeds-append lines more, low) in
    subst (λ (said : Result TextRead BadLine). IfErr said (λ first. number + feeds (lines ++ more) ≤ first.number)) (sym goes) (err_more (read_from of_history how between among (lines_of others)) (among + feeds more) (number + feeds (lines ++ more)) less then)

-- how far it was read at a fault after a piece
pub then_left : (left mid unread : Option (List ℕ)) (old between : Progress) (held text : Text) (fault : ReadTextFault) → TakesPiece left old held mid between text → LeftAfter mid between text unread fault → LeftAfter left old held unread fault
then_left left mid unread old between held text fault piece then = record {
  lines = piece.bytes ++ then.lines;
  ahead = then.ahead;
  taken = subst (λ bytes. Consumes left unread bytes) (sym (append_assoc piece.bytes then.lines then.ahead)) (consume_on left mid unread piece.bytes (then.lines ++ then.ahead) piece.taken then.taken);
  good = good_on left mid old.reading (read_by held old.skipped) (read_by text between.skipped) old.number between.number piece.bytes then.lines piece.goes_on piece.low (subst (λ h. IfSome mid (λ bytes. IfErr (read_from of_history h (read_by text between.skipped) between.number (lines_of bytes)) (λ first. between.number + feeds then.lines ≤ first.number))) piece.same then.good);
  few = then.few;
  unfed = then.unfed;
}

pub piece_least : (left rest : Option (List ℕ)) (old new : Progress) (held text : Text) → TakesPiece left old held rest new text → length held.calls ≤ length text.calls
piece_least left rest old new held text piece =
    let len = ap length piece.calls_are ∙ length-append held.calls piece.calls in omega (arith, len)

keeps_self : (known : Option (List ℕ)) → Keeps known known
keeps_self None = tt
keeps_self (Some xs) = refl

pub begins : (left : Option (List ℕ)) (old : Progress) (held : Text) → TakesPiece left old held left old held
begins left old held = no_piece old old held left left (keeps_self left) refl refl refl

-- ---- what a text has at a bad line

-- the next line is bad, and the text stayed as it was
pub stops_here : (left : Option (List ℕ)) (old : Progress) (held text : Text) (fault : ReadTextFault) → (fault ≢ OutOfMemory → held ≡ text) → IsNumbered old.number fault → IsFaultFrom left old held fault → HasBefore left old held text fault
stops_here left old held text (Bad first) same at is = subst (λ (t : Text). StopsAt left old held t first) (same (λ e. cc)) (record {
  at = old;
  rest = left;
  piece = begins left old held;
  fault = is;
  number_is = at;
})
stops_here left old held text ReadFault same at is = tt
stops_here left old held text OutOfMemory same at is = tt
stops_here left old held text CountFull same at is = absurd is

-- the same after a piece
pub then_stop : (left mid : Option (List ℕ)) (old between : Progress) (held text other : Text) (fault : ReadTextFault) → TakesPiece left old held mid between text → HasBefore mid between text other fault → HasBefore left old held other fault
then_stop left mid old between held text other (Bad first) piece then = record {
  at = then.at;
  rest = then.rest;
  piece = then_piece left mid then.rest old between then.at held text other piece then.piece;
  fault = then.fault;
  number_is = then.number_is;
}
then_stop left mid old between held text other ReadFault piece then = tt
then_stop left mid old between held text other OutOfMemory piece then = tt
then_stop left mid old between held text other CountFull piece then = absurd then

pub is_numbered : (number : ℕ) (fault : TextFault) → IsNumbered number (fault_at number fault)
is_numbered number (taking.Bad cause) = refl
is_numbered number taking.OutOfMemory = tt

pub not_refused : (number : ℕ) (fault : TextFault) (first : BadLine) → fault_at number fault ≡ Bad first → fault ≢ taking.OutOfMemory
not_refused number fault first is refused =
    let both : OutOfMemory ≡ Bad first = sym (ap (fault_at number) refused) ∙ is in cc

pub unrefused : (number : ℕ) (fault : TextFault) → fault_at number fault ≢ OutOfMemory → fault ≢ taking.OutOfMemory
unrefused number fault other is = other (ap (fault_at number) is)

-- ---- what is read into a history is what the lines spell

line_same : (how : Reading) (read other : TextRead) (number : ℕ) (line : List ℕ) → with_line of_history how read number line ≡ Ok other → with_line endless how read number line ≡ Ok other
line_same how read other number line is =
    let taken = taken_is how read.text read.skipped number line other.text other.skipped is in
    taken.spelled read.text.calls read.text.lines ∙ ap₂ (λ (cs : List Call) (ls : List ℕ). Ok (read_by (text_by cs ls other.text.callers) other.skipped)) (sym taken.calls_are) (sym taken.lines_are)

by_same : (number : ℕ) (said other : Result TextRead LineCause) (rest more : TextRead → Result TextRead BadLine) (last : TextRead) → ((r : TextRead) → said ≡ Ok r → other ≡ Ok r) → ((r : TextRead) → rest r ≡ Ok last → more r ≡ Ok last) → by_line number said rest ≡ Ok last → by_line number other more ≡ Ok last
by_same number (Ok r) other rest more last same later is =
    ap (λ (s : Result TextRead LineCause). by_line number s more) (same r refl) ∙ later r is
by_same number (Err cause) other rest more last same later is = cc

lines_same : (how : Reading) (read last : TextRead) (number : ℕ) (lines : List (List ℕ)) → read_from of_history how read number lines ≡ Ok last → read_from endless how read number lines ≡ Ok last
lines_same how read last number [] is = is
lines_same how read last number (line ∷ lines) is =
    by_same number (with_line of_history how read number line) (with_line endless how read number line) (λ r. read_from of_history how r (suc number) lines) (λ r. read_from endless how r (suc number) lines) last (λ r said. line_same how read r number line said) (λ r later. lines_same how r last (suc number) lines later) is

pub texts_spelled : TextsAreSpelled
texts_spelled how bytes read is = lines_same how (read_by no_text 0) read 1 (lines_of bytes) is
