-- A script as far as it has run.
use Rattle.std.proofs.Common.{◌≡◌, ◌≢◌, ℕ, Bool, true, false, ◌||◌, ltb, inl, inr, subst, ◌+◌, ◌<◌, ◌≤◌, List, [], ◌∷◌, ◌++◌, length, take, Option, Some, None, IfSome, sym, ap, ◌∙◌, refl, arith, append_assoc}
use Rattle.std.specs.Io.KnownBytes.{Appends, Consumes, IsAtEnd, Keeps}
use Rattle.std.specs.List.{concat}
use Rattle.std.proofs.lemmas.Bool.{cases_Bool}
use Rattle.std.proofs.lemmas.List.{append-nil, length-append, length_push}
use Rattle.std.proofs.lemmas.List.Folds.{concat-append}
use Rattle.std.proofs.Math.Seq.{take-append_seam}
use borrow.Author.Tests.{lt-ltb, ltb-false}
use Rattle.script_words.specs.declared.line_read.LineRead.{LineRead}
use Rattle.script_words.specs.declared.line_read.LineRead.TheVariants.{Line, TooLong, End}
use Rattle.scripts.specs.declared.script_fault.ScriptFault.{ScriptFault}
use Rattle.scripts.specs.declared.script_fault.ScriptFault.TheVariants.{OutOfMemory, ReadFault, WriteFault}
use Rattle.scripts.specs.declared.scripted.Scripted.{Scripted}
use Rattle.scripts.specs.declared.scripted.Scripted.TheVariants.{Ended, BadLine}
use Rattle.scripts.specs.declared.turn.Turn.{Turn}
use Rattle.scripts.specs.declared.turn.Turn.TheVariants.{GoesOn, Ends}
use Rattle.script_words.specs.Lines.{Ahead, GivesNext, Takes, lines_of, first_line, after_line, feeds, is_ready}
use Rattle.script_words.proofs.public_laws.NextLine.{next_lines, feeds-append, through, through_after, one_feed, ready_line, reads}
use Rattle.scripts.specs.Own.{Opened}
use Rattle.scripts.specs.Script.{LineReply, Transcript, bad_line, reply_to_line, reply_to_read, transcript, script_of, then_rest, by_turn, IsWhole, WroteAt, WroteWholeLines, WroteLinesBefore}
use Rattle.scripts.specs.Reading.{Answers, Moves}

-- the lines so far, their bytes and what they wrote; the rest writes what is left of the whole
pub record Stands (page : ℕ) (bytes rest : List ℕ) (over : Bool) (start now : Option (List ℕ)) (number : ℕ) (lane : Option Opened) : Type 0 where
  pub lines : List (List ℕ)
  pub done : List (List ℕ)
  pub front : List ℕ
  pub as_many : length done ≡ length lines
  pub bytes_are : bytes ≡ front ++ rest
  pub lines_are : lines_of bytes ≡ lines ++ lines_of rest
  -- if the reader is not over, each of them ended at a line feed
  pub fed : over ≡ false → feeds front ≡ length done
  pub wrote : Appends start now (concat done)
  pub replies : (script_of page bytes).replies ≡ done ++ (transcript page number lane (lines_of rest)).replies
  pub ending : (script_of page bytes).ending ≡ (transcript page number lane (lines_of rest)).ending

-- the bytes read ahead and those that are unread are the rest
abbrev pub Left : ℕ → Option (List ℕ) → Ahead → Option (List ℕ) → Option (List ℕ) → ℕ → Option Opened → List ℕ → Type 0
Left page unread ahead start now number lane bytes =
    (rest : List ℕ) × (unread ≡ Some rest) × Stands page bytes (ahead.bytes ++ rest) ahead.over start now number lane

pub record Ran (page : ℕ) (all unread : Option (List ℕ)) (ahead : Ahead) (start now : Option (List ℕ)) (number : ℕ) (lane : Option Opened) : Type 0 where
  pub few : number ≤ 4294967296
  pub over : ahead.over ≡ true → IsAtEnd unread
  pub known : IfSome all (Left page unread ahead start now number lane)

-- ---- known bytes

appends_none : (known : Option (List ℕ)) → Appends known known []
appends_none None = tt
appends_none (Some xs) = sym (append-nil xs)

appends_more : (a b c : Option (List ℕ)) (xs ys : List ℕ) → Appends a b xs → Appends b c ys → Appends a c (xs ++ ys)
appends_more None b c xs ys h k = tt
appends_more (Some us) None c xs ys h k = absurd h
appends_more (Some us) (Some vs) None xs ys h k = absurd k
appends_more (Some us) (Some vs) (Some ws) xs ys h k = k ∙ ap (λ zs. zs ++ ys) h ∙ append_assoc us xs ys

keeps_self : (known : Option (List ℕ)) → Keeps known known
keeps_self None = tt
keeps_self (Some xs) = refl

any_known : (known : Option (List ℕ)) → IfSome known (λ bytes. Unit {0})
any_known None = tt
any_known (Some xs) = tt

appends_kept : (a b c : Option (List ℕ)) (xs : List ℕ) → Appends a b xs → Keeps b c → Appends a c xs
appends_kept None b c xs h k = tt
appends_kept (Some us) None c xs h k = absurd h
appends_kept (Some us) (Some vs) None xs h k = absurd k
appends_kept (Some us) (Some vs) (Some ws) xs h k = k ∙ h

if_known : (known : Option (List ℕ)) (P Q : List ℕ → Type 0) → ((bytes : List ℕ) → P bytes → Q bytes) → IfSome known P → IfSome known Q
if_known None P Q f h = tt
if_known (Some xs) P Q f h = f xs h

at_end : (known : Option (List ℕ)) (rest : List ℕ) → known ≡ Some rest → IsAtEnd known → rest ≡ []
at_end None rest is last = cc
at_end (Some xs) rest is last = let same : xs ≡ rest = cc in sym same ∙ last

-- ---- one read, and what it is in the whole

or_true : (b : Bool) → (b || true) ≡ true
or_true true = refl
or_true false = refl

-- a line that is too long is bad, whatever it says
long_line : (page number : ℕ) (lane : Option Opened) (line : List ℕ) → 4096 < length line → reply_to_line page number lane line ≡ bad_line number lane
long_line page number lane line long =
    let over = lt-ltb 4096 (length line) long in
    rw (over, or_true (ltb 4294967295 number)) refl

-- a line that goes on has an allowed number
on_time : (page number : ℕ) (lane : Option Opened) (line : List ℕ) → (reply_to_line page number lane line).turn ≡ GoesOn → number ≤ 4294967295
on_time page number lane line goes = elim (cases_Bool (ltb 4294967295 number)) [
  | inl late ↦ let bad : Ends BadLine ≡ GoesOn = rw late at goes in cc
  | inr early ↦ ltb-false _ _ early
]

-- the whole after a line is the line's reply, and then the rest
step : (page number : ℕ) (lane : Option Opened) (rest : List ℕ) → rest ≢ [] → (r : LineReply) → reply_to_line page number lane (first_line rest) ≡ r → transcript page number lane (lines_of rest) ≡ then_rest r.text (by_turn r.turn (transcript page (number + 1) r.opened (lines_of (after_line rest))))
step page number lane rest some r is =
    ap (transcript page number lane) (next_lines rest some)
    ∙ ap (λ (x : LineReply). then_rest x.text (by_turn x.turn (transcript page (number + 1) x.opened (lines_of (after_line rest))))) is

-- the rest writes this text, and ends so
pub record Stops (rest : Transcript) (text : List ℕ) (ending : Scripted) : Type 0 where
  pub ended : rest.ending ≡ ending
  pub wrote : concat rest.replies ≡ text

stop : (text : List ℕ) (turn : Turn) (tail : Transcript) (ending : Scripted) (whole : Transcript) → whole ≡ then_rest text (by_turn turn tail) → turn ≡ Ends ending → Stops whole text ending
stop text turn tail ending whole is ends = record {
  ended = ap (λ (t : Transcript). t.ending) is ∙ ap (λ (x : Turn). (by_turn x tail).ending) ends;
  wrote = ap (λ (t : Transcript). concat t.replies) is ∙ ap (λ (x : Turn). text ++ concat (by_turn x tail).replies) ends ∙ append-nil text;
}

stops : (page number : ℕ) (lane : Option Opened) (read : LineRead) (rest line : List ℕ) (new : Option (List ℕ)) (ending : Scripted) → GivesNext 4096 rest read line new → (reply_to_read page number lane read line).turn ≡ Ends ending → Stops (transcript page number lane (lines_of rest)) (reply_to_read page number lane read line).text ending
stops page number lane Line rest line new ending h ends =
    let r = reply_to_line page number lane line in
    stop r.text r.turn (transcript page (number + 1) r.opened (lines_of (after_line rest))) ending _ (step page number lane rest h.0 r (ap (reply_to_line page number lane) (sym h.1))) ends
stops page number lane TooLong rest line new ending h ends =
    let r = bad_line number lane in
    stop r.text r.turn (transcript page (number + 1) r.opened (lines_of (after_line rest))) ending _ (step page number lane rest h.0 r (long_line page number lane (first_line rest) h.1)) ends
stops page number None End rest line new ending h ends =
    let r = bad_line number None in
    stop r.text r.turn (transcript page number None []) ending _ (ap (λ bytes. transcript page number None (lines_of bytes)) h) ends
stops page number (Some lane) End rest line new ending h ends =
    let is = ap (λ bytes. transcript page number (Some lane) (lines_of bytes)) h in
    record {
      ended = ap (λ (t : Transcript). t.ending) is ∙ (let same : Ended ≡ ending = cc in same);
      wrote = ap (λ (t : Transcript). concat t.replies) is;
    }

-- the rest writes this text, and goes on with another rest
pub record Goes (rest : Transcript) (text : List ℕ) (tail : Transcript) : Type 0 where
  pub replies : rest.replies ≡ text ∷ tail.replies
  pub ending : rest.ending ≡ tail.ending

goes : (page number : ℕ) (lane : Option Opened) (read : LineRead) (rest line : List ℕ) (new : Option (List ℕ)) → GivesNext 4096 rest read line new → (reply_to_read page number lane read line).turn ≡ GoesOn → (new ≡ Some (after_line rest)) × Goes (transcript page number lane (lines_of rest)) (reply_to_read page number lane read line).text (transcript page (number + 1) (reply_to_read page number lane read line).opened (lines_of (after_line rest)))
goes page number lane Line rest line new h on =
    let r = reply_to_line page number lane line in
    let is = step page number lane rest h.0 r (ap (reply_to_line page number lane) (sym h.1)) in
    let tail = transcript page (number + 1) r.opened (lines_of (after_line rest)) in (
      h.2,
      record {
        replies = ap (λ (t : Transcript). t.replies) is ∙ ap (λ (x : Turn). r.text ∷ (by_turn x tail).replies) on;
        ending = ap (λ (t : Transcript). t.ending) is ∙ ap (λ (x : Turn). (by_turn x tail).ending) on;
      },
    )
goes page number lane TooLong rest line new h on = let bad : Ends BadLine ≡ GoesOn = on in cc
goes page number None End rest line new h on = let bad : Ends BadLine ≡ GoesOn = on in cc
goes page number (Some lane) End rest line new h on = let bad : Ends Ended ≡ GoesOn = on in cc

read_on_time : (page number : ℕ) (lane : Option Opened) (read : LineRead) (line : List ℕ) → (reply_to_read page number lane read line).turn ≡ GoesOn → number ≤ 4294967295
read_on_time page number lane Line line on = on_time page number lane line on
read_on_time page number lane TooLong line on = let bad : Ends BadLine ≡ GoesOn = on in cc
read_on_time page number None End line on = let bad : Ends BadLine ≡ GoesOn = on in cc
read_on_time page number (Some lane) End line on = let bad : Ends Ended ≡ GoesOn = on in cc

-- ---- the script starts, goes on and ends

pub starts : (page : ℕ) (all start : Option (List ℕ)) → Ran page all all (record { bytes = []; over = false }) start start 1 None
starts page None start = record { few = omega arith; over = λ bad. cc; known = tt }
starts page (Some bytes) start = record {
  few = omega arith;
  over = λ bad. cc;
  known = (
    bytes,
    refl,
    record {
      lines = [];
      done = [];
      front = [];
      as_many = refl;
      bytes_are = refl;
      lines_are = refl;
      fed = λ going. refl;
      wrote = appends_none start;
      replies = refl;
      ending = refl;
    },
  );
}

-- known bytes that only moved
moved : (old new : Ahead) (unread left : Option (List ℕ)) (rest : List ℕ) → Moves old unread new left → unread ≡ Some rest → (behind : List ℕ) × (left ≡ Some behind) × (new.bytes ++ behind ≡ old.bytes ++ rest)
moved old new None left rest moves is = cc
moved old new (Some xs) None rest moves is = absurd moves.kept
moved old new (Some xs) (Some ys) rest moves is = let same : xs ≡ rest = cc in (ys, refl, moves.kept ∙ ap (λ zs. old.bytes ++ zs) same)

-- ---- the replies so far

so_many : (page number : ℕ) (lane : Option Opened) (bytes rest : List ℕ) (done : List (List ℕ)) → (script_of page bytes).replies ≡ done ++ (transcript page number lane (lines_of rest)).replies → length done ≤ length (script_of page bytes).replies
so_many page number lane bytes rest done is =
    let tail = (transcript page number lane (lines_of rest)).replies in
    omega (arith, ap length is, length-append done tail)

so_far : (page number : ℕ) (lane : Option Opened) (bytes rest : List ℕ) (done : List (List ℕ)) → (script_of page bytes).replies ≡ done ++ (transcript page number lane (lines_of rest)).replies → (count : ℕ) → count ≡ length done → done ≡ take count (script_of page bytes).replies
so_far page number lane bytes rest done is count as_many =
    let tail = (transcript page number lane (lines_of rest)).replies in
    sym (ap (λ n. take n (script_of page bytes).replies) as_many ∙ ap (take (length done)) is ∙ take-append_seam done tail)

-- taking a line leaves the end where it was
goes_over : (ahead new : Ahead) (read : LineRead) (line : List ℕ) → Takes ahead read line new → new.over ≡ ahead.over
goes_over ahead new Line line takes = ap (λ (a : Ahead). a.over) takes.3
goes_over ahead new TooLong line takes = ap (λ (a : Ahead). a.over) takes.1
goes_over ahead new End line takes = ap (λ (a : Ahead). a.over) takes.1

-- what goes on is a line
line_goes : (page number : ℕ) (lane : Option Opened) (read : LineRead) (line : List ℕ) → (reply_to_read page number lane read line).turn ≡ GoesOn → read ≡ Line
line_goes page number lane Line line on = refl
line_goes page number lane TooLong line on = let bad : Ends BadLine ≡ GoesOn = on in cc
line_goes page number None End line on = let bad : Ends BadLine ≡ GoesOn = on in cc
line_goes page number (Some lane) End line on = let bad : Ends Ended ≡ GoesOn = on in cc

goes_some : (page number : ℕ) (lane : Option Opened) (read : LineRead) (line rest : List ℕ) (new : Option (List ℕ)) → GivesNext 4096 rest read line new → (reply_to_read page number lane read line).turn ≡ GoesOn → rest ≢ []
goes_some page number lane Line line rest new h on = h.0
goes_some page number lane TooLong line rest new h on = h.0
goes_some page number None End line rest new h on = let bad : Ends BadLine ≡ GoesOn = on in cc
goes_some page number (Some lane) End line rest new h on = let bad : Ends Ended ≡ GoesOn = on in cc

-- if more may come, a line that was taken ended at a line feed
whole_line : (ahead new : Ahead) (rest line : List ℕ) (read : LineRead) → is_ready ahead ≡ true → Takes ahead read line new → read ≡ Line → ahead.over ≡ false → 0 < feeds (ahead.bytes ++ rest)
whole_line ahead new rest line Line ready takes is going = elim (ready_line 4096 ahead ready (omega (arith, ap length takes.1, takes.2))) [
  | inl fed ↦ omega (arith, fed, feeds-append ahead.bytes rest)
  | inr over ↦ let bad : true ≡ false = sym over ∙ going in cc
]
whole_line ahead new rest line TooLong ready takes is going = cc
whole_line ahead new rest line End ready takes is going = cc

module _ {page : ℕ} {all unread : Option (List ℕ)} {ahead : Ahead} {start now : Option (List ℕ)} {number : ℕ} {lane : Option Opened} (ran : Ran page all unread ahead start now number lane) where
  -- more was read ahead, and nothing was written
  pub read_on : (new : Ahead) (left after : Option (List ℕ)) → Moves ahead unread new left → Keeps now after → Ran page all left new start after number lane
  read_on new left after moves kept = record {
    few = ran.few;
    over = moves.over ran.over;
    known = if_known all (Left page unread ahead start now number lane) (Left page left new start after number lane) (λ bytes h.
        let to = moved ahead new unread left h.0 moves h.1 in
        let s = h.2 in (
          to.0,
          to.1,
          subst (λ rest. Stands page bytes rest new.over start after number lane) (sym to.2) (record {
            lines = s.lines;
            done = s.done;
            front = s.front;
            as_many = s.as_many;
            bytes_are = s.bytes_are;
            lines_are = s.lines_are;
            fed = λ going. s.fed (moves.going going);
            wrote = appends_kept start now after (concat s.done) s.wrote kept;
            replies = s.replies;
            ending = s.ending;
          }),
        )) ran.known;
  }

  -- a script that is given up at a failed read wrote the replies of the lines that were whole in what it read
  pub unread_on : (after : Option (List ℕ)) → feeds ahead.bytes ≡ 0 → ahead.over ≡ false → Keeps now after → IfSome all (λ bytes. WroteWholeLines page bytes unread start after)
  unread_on after unfed going kept = if_known all (Left page unread ahead start now number lane) (λ bytes. WroteWholeLines page bytes unread start after) (λ bytes h.
      let s = h.2 in
      let count : feeds (s.front ++ ahead.bytes) ≡ length s.done = feeds-append s.front ahead.bytes ∙ omega (arith, s.fed going, unfed) in
      let read : bytes ≡ (s.front ++ ahead.bytes) ++ h.0 = s.bytes_are ∙ sym (append_assoc s.front ahead.bytes h.0) in
      record {
        read = s.front ++ ahead.bytes;
        was_read = subst (λ u. Consumes (Some bytes) u (s.front ++ ahead.bytes)) (sym h.1) read;
        within = omega (arith, count, so_many page number lane bytes (ahead.bytes ++ h.0) s.done s.replies);
        wrote = subst (λ texts. Appends start after (concat texts)) (so_far page number lane bytes (ahead.bytes ++ h.0) s.done s.replies (feeds (s.front ++ ahead.bytes)) count) (appends_kept start now after (concat s.done) s.wrote kept);
      }) ran.known

  -- a script that meets a want of memory wrote the replies of the lines before
  pub given_up : (after : Option (List ℕ)) → length ahead.bytes ≤ 8192 → Keeps now after → IfSome all (λ bytes. WroteLinesBefore page bytes unread start after)
  given_up after few kept = if_known all (Left page unread ahead start now number lane) (λ bytes. WroteLinesBefore page bytes unread start after) (λ bytes h.
      let s = h.2 in
      let count = sym s.as_many in
      record {
        before = s.lines;
        behind = ahead.bytes;
        rest = h.0;
        unread_is = h.1;
        lines = s.lines_are;
        few = few;
        within = omega (arith, count, so_many page number lane bytes (ahead.bytes ++ h.0) s.done s.replies);
        wrote = subst (λ texts. Appends start after (concat texts)) (so_far page number lane bytes (ahead.bytes ++ h.0) s.done s.replies (length s.lines) count) (appends_kept start now after (concat s.done) s.wrote kept);
      }) ran.known

  -- what was read ends the script
  pub ends : (new : Ahead) (after : Option (List ℕ)) (next : Option Opened) (ending : Scripted) → is_ready ahead ≡ true → Answers page number lane next ahead new now after (Ends ending) → IfSome all (λ bytes. IsWhole start after ending (script_of page bytes))
  ends new after next ending ready a = if_known all (Left page unread ahead start now number lane) (λ bytes. IsWhole start after ending (script_of page bytes)) (λ bytes h.
      let s = h.2 in
      let rest = ahead.bytes ++ h.0 in
      let got = reads 4096 ahead new h.0 a.line a.read ready (λ over. at_end unread h.0 h.1 (ran.over over)) a.takes in
      let stopped = stops page number lane a.read rest a.line (Some (new.bytes ++ h.0)) ending got (sym a.turn_is) in
      let text = (reply_to_read page number lane a.read a.line).text in
      let tail = transcript page number lane (lines_of rest) in
      let whole : concat s.done ++ text ≡ concat (script_of page bytes).replies = ap (λ t. concat s.done ++ t) (sym stopped.wrote) ∙ sym (ap concat s.replies ∙ concat-append s.done tail.replies) in
      record {
        ended = sym (s.ending ∙ stopped.ended);
        wrote = subst (Appends start after) whole (appends_more start now after (concat s.done) text s.wrote a.wrote);
      }) ran.known

  -- what was read goes on
  pub goes_on : (new : Ahead) (after : Option (List ℕ)) (next : Option Opened) → is_ready ahead ≡ true → Answers page number lane next ahead new now after GoesOn → Ran page all unread new start after (number + 1) next
  goes_on new after next ready a = record {
    few = let small = read_on_time page number lane a.read a.line (sym a.turn_is) in omega (arith, small);
    over = λ over. ran.over (sym (goes_over ahead new a.read a.line a.takes) ∙ over);
    known = if_known all (Left page unread ahead start now number lane) (Left page unread new start after (number + 1) next) (λ bytes h.
        let s = h.2 in
        let rest = ahead.bytes ++ h.0 in
        let r = reply_to_read page number lane a.read a.line in
        let got = reads 4096 ahead new h.0 a.line a.read ready (λ over. at_end unread h.0 h.1 (ran.over over)) a.takes in
        let on = goes page number lane a.read rest a.line (Some (new.bytes ++ h.0)) got (sym a.turn_is) in
        let behind : after_line rest ≡ new.bytes ++ h.0 = let same : Some (new.bytes ++ h.0) ≡ Some (after_line rest) = on.0 in cc in
        let is_line = line_goes page number lane a.read a.line (sym a.turn_is) in
        let tail = λ (l : Option Opened). transcript page (number + 1) l (lines_of (after_line rest)) in
        let more : concat s.done ++ r.text ≡ concat (s.done ++ r.text ∷ []) = ap (λ t. concat s.done ++ t) (sym (append-nil r.text)) ∙ sym (concat-append s.done (r.text ∷ [])) in (
          h.0,
          h.1,
          subst (λ left. Stands page bytes left new.over start after (number + 1) next) behind (record {
            lines = s.lines ++ first_line rest ∷ [];
            done = s.done ++ r.text ∷ [];
            front = s.front ++ through rest;
            as_many = omega (arith, length_push s.done r.text, length_push s.lines (first_line rest), s.as_many);
            bytes_are = s.bytes_are ∙ ap (λ zs. s.front ++ zs) (through_after rest) ∙ sym (append_assoc s.front (through rest) (after_line rest));
            lines_are = s.lines_are ∙ ap (λ ls. s.lines ++ ls) (next_lines rest (goes_some page number lane a.read a.line rest (Some (new.bytes ++ h.0)) got (sym a.turn_is))) ∙ sym (append_assoc s.lines (first_line rest ∷ []) (lines_of (after_line rest)));
            fed = λ going.
                let was : ahead.over ≡ false = sym (goes_over ahead new a.read a.line a.takes) ∙ going in
                let some = whole_line ahead new h.0 a.line a.read ready a.takes is_line was in
                feeds-append s.front (through rest) ∙ omega (arith, one_feed rest some, s.fed was, length_push s.done r.text);
            wrote = subst (Appends start after) more (appends_more start now after (concat s.done) r.text s.wrote a.wrote);
            replies = s.replies ∙ ap (λ texts. s.done ++ texts) (on.1.replies ∙ ap (λ (l : Option Opened). r.text ∷ (tail l).replies) (sym a.next_is)) ∙ sym (append_assoc s.done (r.text ∷ []) (tail next).replies);
            ending = s.ending ∙ on.1.ending ∙ ap (λ (l : Option Opened). (tail l).ending) (sym a.next_is);
          }),
        )) ran.known;
  }

-- a script that is given up while it reads
pub stops_reading : (page : ℕ) (all unread : Option (List ℕ)) (ahead : Ahead) (start now : Option (List ℕ)) (number : ℕ) (lane : Option Opened) → Ran page all unread ahead start now number lane → (new : Ahead) (left after : Option (List ℕ)) (fault : ScriptFault) → Moves ahead unread new left → Keeps now after → length new.bytes ≤ 8192 → (fault ≡ ReadFault → (feeds new.bytes ≡ 0) × (new.over ≡ false)) → IfSome all (λ bytes. WroteAt page bytes left start after fault)
stops_reading page all unread ahead start now number lane ran new left after OutOfMemory moves kept few unfed = given_up (read_on ran new left after moves kept) after few (keeps_self after)
stops_reading page all unread ahead start now number lane ran new left after ReadFault moves kept few unfed = let both = unfed refl in unread_on (read_on ran new left after moves kept) after both.0 both.1 (keeps_self after)
stops_reading page all unread ahead start now number lane ran new left after WriteFault moves kept few unfed = any_known all

-- a script that is given up while it answers
pub stops_answering : (page : ℕ) (all unread : Option (List ℕ)) (ahead : Ahead) (start now : Option (List ℕ)) (number : ℕ) (lane : Option Opened) → Ran page all unread ahead start now number lane → (after : Option (List ℕ)) (fault : ScriptFault) → length ahead.bytes ≤ 8192 → (fault ≡ OutOfMemory → Keeps now after) → fault ≢ ReadFault → IfSome all (λ bytes. WroteAt page bytes unread start after fault)
stops_answering page all unread ahead start now number lane ran after OutOfMemory few kept other = given_up ran after few (kept refl)
stops_answering page all unread ahead start now number lane ran after ReadFault few kept other = absurd (other refl)
stops_answering page all unread ahead start now number lane ran after WriteFault few kept other = any_known all
