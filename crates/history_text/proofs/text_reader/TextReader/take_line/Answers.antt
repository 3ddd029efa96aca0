-- Each way out: by what the line is.
use Rattle.std.proofs.Common.{◌≡◌, ℕ, ◌+◌, List, IfSome, Ok, ap, refl, sym, subst, ◌∙◌}
use Rattle.std.specs.Io.KnownBytes.{IsAtEnd, prepend_known}
use Rattle.history_text.specs.declared.line_cause.LineCause.TheVariants.{TooLong}
use Rattle.history_text.specs.declared.read_text_fault.ReadTextFault.TheVariants.{Bad}
use Rattle.history_text.specs.Outcome.{fault_at, of_read_line}
use Rattle.history_text.specs.Pieces.{HasBefore, IsFaultFrom, LeftAfter, Progress, TakesPiece, left_of}
use Rattle.history_text.specs.Spelled.{IsSaid}
use Rattle.history_text.specs.Text.{of_history, read_by, text_by, with_line}
use Rattle.history_text.proofs.PieceLaws.{at, bad, bad_fault, end_piece, end_rest, is_numbered, left_none, left_off, line_one, line_piece, long_fault, not_read, not_refused, stops_here, unrefused}
use Rattle.history_text.proofs.text_reader.TextReader.take_line.Goals as goal

pub returns-in-Ok-TooLong-clause-fault : goal.returns-in-Ok-TooLong-clause-fault
returns-in-Ok-TooLong-clause-fault g c =
    let given = rw c.in-Ok-TooLong.field-0-is at c.in-Ok-TooLong.ensures.given in
    let unread = g.R.Read.remaining c.args.reader.now in
    let held = text_by c.args.text.now.history c.args.text.now.lines.items c.args.text.now.callers in
    subst (λ (p : Progress). IsFaultFrom (left_of p unread) p held (Bad (bad c.self.inside.number TooLong))) c.self.view_is (long_fault c.self.inside.reading c.self.inside.number c.self.inside.skipped c.self.inside.ahead held (prepend_known c.self.inside.ahead.bytes unread) (prepend_known c.next_line.new.ahead.bytes (g.R.Read.remaining c.next_line.new.reader)) c.next_line.new.line.items given)

pub returns-in-Ok-TooLong-clause-left : goal.returns-in-Ok-TooLong-clause-left
returns-in-Ok-TooLong-clause-left g c =
    let unread = g.R.Read.remaining c.args.reader.now in
    let left = g.R.Read.remaining c.next_line.new.reader in
    let held = text_by c.args.text.now.history c.args.text.now.lines.items c.args.text.now.callers in
    subst (λ (p : Progress). LeftAfter (left_of p unread) p held left (Bad (bad c.self.inside.number TooLong))) c.self.view_is (left_off c.self.inside.reading c.self.inside.number c.self.inside.skipped c.self.inside.ahead held (prepend_known c.self.inside.ahead.bytes unread) left c.next_line.new.ahead (Bad (bad c.self.inside.number TooLong)) (λ is. cc) c.in-Ok-TooLong.ensures.off)

pub returns-in-Ok-End-clause-piece : goal.returns-in-Ok-End-clause-piece
returns-in-Ok-End-clause-piece g c =
    let given = rw c.in-Ok-End.field-0-is at c.in-Ok-End.ensures.given in
    let unread = g.R.Read.remaining c.args.reader.now in
    let left = g.R.Read.remaining c.next_line.new.reader in
    let held = text_by c.args.text.now.history c.args.text.now.lines.items c.args.text.now.callers in
    subst (λ (p : Progress). TakesPiece (left_of p unread) p held (prepend_known c.next_line.new.ahead.bytes left) (at c.self.inside.reading c.self.inside.number c.self.inside.skipped c.next_line.new.ahead) held) c.self.view_is (end_piece c.self.inside.reading c.self.inside.number c.self.inside.skipped c.self.inside.ahead c.next_line.new.ahead held (prepend_known c.self.inside.ahead.bytes unread) left c.next_line.new.line.items given c.in-Ok-End.ensures.off)

pub returns-in-Ok-End-clause-over : goal.returns-in-Ok-End-clause-over
returns-in-Ok-End-clause-over g c = λ _.
    let given = rw c.in-Ok-End.field-0-is at c.in-Ok-End.ensures.given in
    let unread = g.R.Read.remaining c.args.reader.now in
    let left = g.R.Read.remaining c.next_line.new.reader in
    subst (λ (p : Progress). IfSome (left_of p unread) (λ _. IsAtEnd (prepend_known c.next_line.new.ahead.bytes left))) c.self.view_is (end_rest (prepend_known c.self.inside.ahead.bytes unread) left c.next_line.new.line.items c.in-Ok-End.ensures.off.front c.next_line.new.ahead.bytes given c.in-Ok-End.ensures.off.keeps)

pub returns-in-Err-clause-left : goal.returns-in-Err-clause-left
returns-in-Err-clause-left g c =
    let unread = g.R.Read.remaining c.args.reader.now in
    let left = g.R.Read.remaining c.next_line.new.reader in
    let held = text_by c.args.text.now.history c.args.text.now.lines.items c.args.text.now.callers in
    rw c.from.ensures (subst (λ (p : Progress). LeftAfter (left_of p unread) p held left (of_read_line c.in-Err.fault)) c.self.view_is (left_none c.self.inside.reading c.self.inside.number c.self.inside.skipped c.self.inside.ahead held (prepend_known c.self.inside.ahead.bytes unread) left c.next_line.new.ahead c.in-Err.fault c.in-Err.ensures.stop))

pub returns-in-Ok-clause-piece : goal.returns-in-Ok-clause-piece
returns-in-Ok-clause-piece g c =
    let given = rw c.in-Ok-Line.field-0-is at c.in-Ok-Line.ensures.given in
    let unread = g.R.Read.remaining c.args.reader.now in
    let left = g.R.Read.remaining c.next_line.new.reader in
    let held = text_by c.args.text.now.history c.args.text.now.lines.items c.args.text.now.callers in
    let text = text_by c.take_or_skip.new.self.history c.take_or_skip.new.self.lines.items c.take_or_skip.new.self.callers in
    let gives : with_line of_history c.self.inside.reading (read_by held c.self.inside.skipped) c.self.inside.number c.next_line.new.line.items ≡ Ok (read_by text c.in-Ok.skipped) = ap (with_line of_history c.self.inside.reading (read_by held c.self.inside.skipped) c.self.inside.number) (sym c.deref.ensures.value) ∙ c.in-Ok.ensures.ok in
    subst (λ (p : Progress). TakesPiece (left_of p unread) p held (prepend_known c.next_line.new.ahead.bytes left) (at c.self.inside.reading (c.self.inside.number + 1) c.in-Ok.skipped c.next_line.new.ahead) text) c.self.view_is (line_piece c.self.inside.reading c.self.inside.number c.self.inside.skipped c.in-Ok.skipped c.self.inside.ahead c.next_line.new.ahead held text (prepend_known c.self.inside.ahead.bytes unread) left c.next_line.new.line.items given c.in-Ok-Line.ensures.off gives)

pub returns-in-Ok-clause-one : goal.returns-in-Ok-clause-one
returns-in-Ok-clause-one g c =
    let held = text_by c.args.text.now.history c.args.text.now.lines.items c.args.text.now.callers in
    let text = text_by c.take_or_skip.new.self.history c.take_or_skip.new.self.lines.items c.take_or_skip.new.self.callers in
    line_one c.self.inside.reading c.self.inside.number c.self.inside.skipped c.in-Ok.skipped held text c.deref.result.now c.in-Ok.ensures.ok

pub returns-in-Err-take_or_skip-clause-fault : goal.returns-in-Err-take_or_skip-clause-fault
returns-in-Err-take_or_skip-clause-fault g c =
    let given = rw c.in-Ok-Line.field-0-is at c.in-Ok-Line.ensures.given in
    let unread = g.R.Read.remaining c.args.reader.now in
    let left = g.R.Read.remaining c.next_line.new.reader in
    let held = text_by c.args.text.now.history c.args.text.now.lines.items c.args.text.now.callers in
    let said = subst (λ (bytes : List ℕ). IsSaid (with_line of_history c.self.inside.reading (read_by held c.self.inside.skipped) c.self.inside.number bytes) c.in-Err-take_or_skip.fault) c.deref.ensures.value c.in-Err-take_or_skip.ensures.bad in
    rw c.fault_at.ensures (subst (λ (p : Progress). IsFaultFrom (left_of p unread) p held (fault_at c.self.inside.number c.in-Err-take_or_skip.fault)) c.self.view_is (bad_fault c.self.inside.reading c.self.inside.number c.self.inside.skipped c.self.inside.ahead held (prepend_known c.self.inside.ahead.bytes unread) (prepend_known c.next_line.new.ahead.bytes left) c.next_line.new.line.items c.in-Err-take_or_skip.fault given said))

pub returns-in-Err-take_or_skip-clause-left : goal.returns-in-Err-take_or_skip-clause-left
returns-in-Err-take_or_skip-clause-left g c =
    let unread = g.R.Read.remaining c.args.reader.now in
    let left = g.R.Read.remaining c.next_line.new.reader in
    let held = text_by c.args.text.now.history c.args.text.now.lines.items c.args.text.now.callers in
    rw c.fault_at.ensures (subst (λ (p : Progress). LeftAfter (left_of p unread) p held left (fault_at c.self.inside.number c.in-Err-take_or_skip.fault)) c.self.view_is (left_off c.self.inside.reading c.self.inside.number c.self.inside.skipped c.self.inside.ahead held (prepend_known c.self.inside.ahead.bytes unread) left c.next_line.new.ahead (fault_at c.self.inside.number c.in-Err-take_or_skip.fault) (not_read c.self.inside.number c.in-Err-take_or_skip.fault) c.in-Ok-Line.ensures.off))

pub returns-in-Ok-TooLong-clause-stop : goal.returns-in-Ok-TooLong-clause-stop
returns-in-Ok-TooLong-clause-stop g c =
    let given = rw c.in-Ok-TooLong.field-0-is at c.in-Ok-TooLong.ensures.given in
    let unread = g.R.Read.remaining c.args.reader.now in
    let held = text_by c.args.text.now.history c.args.text.now.lines.items c.args.text.now.callers in
    let left = prepend_known c.self.inside.ahead.bytes unread in
    let before = at c.self.inside.reading c.self.inside.number c.self.inside.skipped c.self.inside.ahead in
    let fault = long_fault c.self.inside.reading c.self.inside.number c.self.inside.skipped c.self.inside.ahead held left (prepend_known c.next_line.new.ahead.bytes (g.R.Read.remaining c.next_line.new.reader)) c.next_line.new.line.items given in
    subst (λ (p : Progress). HasBefore (left_of p unread) p held held (Bad (bad c.self.inside.number TooLong))) c.self.view_is (stops_here left before held held (Bad (bad c.self.inside.number TooLong)) (λ _. refl) refl fault)

pub returns-in-Err-take_or_skip-clause-stop : goal.returns-in-Err-take_or_skip-clause-stop
returns-in-Err-take_or_skip-clause-stop g c =
    let given = rw c.in-Ok-Line.field-0-is at c.in-Ok-Line.ensures.given in
    let unread = g.R.Read.remaining c.args.reader.now in
    let left = prepend_known c.self.inside.ahead.bytes unread in
    let rest = prepend_known c.next_line.new.ahead.bytes (g.R.Read.remaining c.next_line.new.reader) in
    let held = text_by c.args.text.now.history c.args.text.now.lines.items c.args.text.now.callers in
    let text = text_by c.take_or_skip.new.self.history c.take_or_skip.new.self.lines.items c.take_or_skip.new.self.callers in
    let said = subst (λ (bytes : List ℕ). IsSaid (with_line of_history c.self.inside.reading (read_by held c.self.inside.skipped) c.self.inside.number bytes) c.in-Err-take_or_skip.fault) c.deref.ensures.value c.in-Err-take_or_skip.ensures.bad in
    let before = at c.self.inside.reading c.self.inside.number c.self.inside.skipped c.self.inside.ahead in
    let fault = bad_fault c.self.inside.reading c.self.inside.number c.self.inside.skipped c.self.inside.ahead held left rest c.next_line.new.line.items c.in-Err-take_or_skip.fault given said in
    rw c.fault_at.ensures (subst (λ (p : Progress). HasBefore (left_of p unread) p held text (fault_at c.self.inside.number c.in-Err-take_or_skip.fault)) c.self.view_is (stops_here left before held text (fault_at c.self.inside.number c.in-Err-take_or_skip.fault) (λ other. ap (λ t. text_by t.history t.lines.items t.callers) (sym (c.in-Err-take_or_skip.ensures.kept (unrefused c.self.inside.number c.in-Err-take_or_skip.fault other)))) (is_numbered c.self.inside.number c.in-Err-take_or_skip.fault) fault))

pub returns-in-Err-take_or_skip-clause-kept : goal.returns-in-Err-take_or_skip-clause-kept
returns-in-Err-take_or_skip-clause-kept g c = λ first is. c.in-Err-take_or_skip.ensures.kept (not_refused c.self.inside.number c.in-Err-take_or_skip.fault first (sym c.fault_at.ensures ∙ is))
