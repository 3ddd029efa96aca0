-- What was written as the script ran is in the inner writer once all was written out.
use Rattle.std.proofs.Common.{◌≡◌, ℕ, List, [], ◌++◌, append-nil, Option, Some, None, Result, Ok, Err, IfOk, IfErr, IfSome, sym, ap, ◌∙◌, subst}
use Rattle.std.specs.Io.Buffered.{writer_contents, writer_inner, writer_buffer}
use Rattle.std.specs.Io.KnownBytes.{Appends, Keeps, append_known}
use Rattle.scripts.specs.declared.script_fault.ScriptFault.{ScriptFault}
use Rattle.scripts.specs.declared.script_fault.ScriptFault.TheVariants as faults
use Rattle.scripts.specs.declared.scripted.Scripted.{Scripted}
use Rattle.scripts.specs.declared.scripted.Scripted.TheVariants.{Ended, BadLine, BadConfig}
use Rattle.scripts.specs.Script.{Transcript, IsWhole, WroteAt, WroteLinesBefore, WroteWholeLines, script_of}
use Rattle.command_line.specs.declared.ending.Ending.{Ending}
use Rattle.command_line.specs.Endings.{ending_of_script}
use Rattle.command_line.specs.Outcomes.{IsAllWritten, IsAnswered}
use Rattle.command_line.proofs.answering.answer_script.Goals as goal

appends_kept : (a b c : Option (List ℕ)) (xs : List ℕ) → Appends a b xs → Keeps b c → Appends a c xs
appends_kept None b c xs h k = tt
appends_kept (Some us) None c xs h k = absurd h
appends_kept (Some us) (Some vs) None xs h k = absurd k
appends_kept (Some us) (Some vs) (Some ws) xs h k = k ∙ h

all_written : (old mid new : Option (List ℕ)) (end : Scripted) (whole : Transcript) → IsWhole old mid end whole → Keeps mid new → IsAllWritten old new (ending_of_script (Ok end)) whole
all_written old mid new end whole h kept = record {
  ended = ap (λ (e : Scripted). ending_of_script (Ok e)) h.ended;
  wrote = appends_kept old mid new _ h.wrote kept;
}

whole_written : (page : ℕ) (bytes : List ℕ) (unread old mid new : Option (List ℕ)) → WroteWholeLines page bytes unread old mid → Keeps mid new → WroteWholeLines page bytes unread old new
whole_written page bytes unread old mid new h kept = record {
  read = h.read;
  was_read = h.was_read;
  within = h.within;
  wrote = appends_kept old mid new _ h.wrote kept;
}

before_written : (page : ℕ) (bytes : List ℕ) (unread old mid new : Option (List ℕ)) → WroteLinesBefore page bytes unread old mid → Keeps mid new → WroteLinesBefore page bytes unread old new
before_written page bytes unread old mid new h kept = record {
  before = h.before;
  behind = h.behind;
  rest = h.rest;
  unread_is = h.unread_is;
  lines = h.lines;
  few = h.few;
  within = h.within;
  wrote = appends_kept old mid new _ h.wrote kept;
}

by_outcome : (page : ℕ) (bytes : List ℕ) (unread old mid new : Option (List ℕ)) (outcome : Result Scripted ScriptFault) → IfOk outcome (λ e. IsWhole old mid e (script_of page bytes)) → IfErr outcome (λ fault. WroteAt page bytes unread old mid fault) → Keeps mid new → IsAnswered page bytes unread old new (ending_of_script outcome)
by_outcome page bytes unread old mid new (Ok Ended) ok err kept = all_written old mid new Ended _ ok kept
by_outcome page bytes unread old mid new (Ok BadLine) ok err kept = all_written old mid new BadLine _ ok kept
by_outcome page bytes unread old mid new (Ok BadConfig) ok err kept = all_written old mid new BadConfig _ ok kept
by_outcome page bytes unread old mid new (Err faults.OutOfMemory) ok err kept = before_written page bytes unread old mid new err kept
by_outcome page bytes unread old mid new (Err faults.ReadFault) ok err kept = whole_written page bytes unread old mid new err kept
by_outcome page bytes unread old mid new (Err faults.WriteFault) ok err kept = tt

answered : (page : ℕ) (known unread old mid new : Option (List ℕ)) (outcome : Result Scripted ScriptFault) (ending : Ending) → IfOk outcome (λ e. IfSome known (λ bytes. IsWhole old mid e (script_of page bytes))) → IfErr outcome (λ fault. IfSome known (λ bytes. WroteAt page bytes unread old mid fault)) → Keeps mid new → ending ≡ ending_of_script outcome → IfSome known (λ bytes. IsAnswered page bytes unread old new ending)
answered page None unread old mid new outcome ending ok err kept is = tt
answered page (Some bytes) unread old mid new outcome ending ok err kept is =
    subst (λ (e : Ending). IsAnswered page bytes unread old new e) (sym is) (by_outcome page bytes unread old mid new outcome ok err kept)

-- a writer with nothing in its buffer holds what its inner one does
emptied : (mid inner : Option (List ℕ)) (buffer : List ℕ) → Keeps mid (append_known inner buffer) → buffer ≡ [] → Keeps mid inner
emptied None inner buffer h none = tt
emptied (Some xs) None buffer h none = h
emptied (Some xs) (Some ys) buffer h none = sym (append-nil ys) ∙ ap (λ b. ys ++ b) (sym none) ∙ h

pub returns-in-Ok : goal.returns-in-Ok
returns-in-Ok g c =
    let kept = emptied _ (g.W.Write.contents (writer_inner c.flush.new.self)) (writer_buffer c.flush.new.self) c.flush.ensures.bytes c.in-Ok.ensures.ok in
    answered g.row.PAGE (g.R.Read.remaining c.args.reader.now) (g.R.Read.remaining c.run_script_with_hasher-outcome.new.reader) (writer_contents g.W.Write.contents c.args.writer.now) (writer_contents g.W.Write.contents c.run_script_with_hasher-outcome.new.writer) (g.W.Write.contents (writer_inner c.flush.new.self)) c.run_script_with_hasher-outcome.result c.of_script.result c.run_script_with_hasher-outcome.ensures.ok c.run_script_with_hasher-outcome.ensures.err kept c.of_script.ensures
