-- A line, by what is asked of it in turn.
use Rattle.std.proofs.Common.{◌≡◌, ◌∙◌, ◌≤◌, ◌<◌, true, false, Result, ap, arith, refl, subst, sym}
use Rattle.history_text.specs.declared.line_cause.LineCause.{LineCause}
use Rattle.history_text.specs.Readings.{is_in_share}
use Rattle.history_text.specs.Spelled.{IsSaid, spelled_by}
use Rattle.history_text.specs.Spelling.{spelled_of}
use Rattle.history_text.specs.Text.{Text, after_line, of_history, passing, read_by, recorded_if, text_by}
use Rattle.history_text.proofs.Saying.{in_share, late_line, never_passed, not_passed, out_of_share, over_line, passed_over, said_on, spelled_line, spells, stays_said}
use Rattle.history_text.specs.declared.line_cause.LineCause.TheVariants.{TooManyLines}
use Rattle.history_text.proofs.text_history.TextHistory.take_or_skip.Goals as goal

pub returns-then-number-gt-MAX_LINES-clause-bad : goal.returns-then-number-gt-MAX_LINES-clause-bad
returns-then-number-gt-MAX_LINES-clause-bad g c =
    let self = c.args.self.now in
    let text = text_by self.history self.lines.items self.callers in
    let read = read_by text c.args.skipped in
    let late : 9223372036854775807 < c.args.number = c.if-number-gt-MAX_LINES.true in
    ap (passing c.args.reading read) (late_line c.args.reading text c.args.number c.args.line.now c.requires.short late) ∙ never_passed c.args.reading read TooManyLines refl

pub returns-then-is_passed_over-clause-ok : goal.returns-then-is_passed_over-clause-ok
returns-then-is_passed_over-clause-ok g c =
    let self = c.args.self.now in
    let text = text_by self.history self.lines.items self.callers in
    let early = c.if-number-gt-MAX_LINES.false in
    let few : c.args.number ≤ 9223372036854775807 = omega (arith, early) in
    ap (passing c.args.reading (read_by text c.args.skipped)) (over_line c.args.reading text c.args.number c.args.line.now c.requires.short few (sym c.is_passed_over.ensures ∙ c.if-is_passed_over.true))

pub returns-in-Ok-skip_or-clause-ok : goal.returns-in-Ok-skip_or-clause-ok
returns-in-Ok-skip_or-clause-ok g c =
    let self = c.args.self.now in
    let how = c.args.reading in
    let text = text_by self.history self.lines.items self.callers in
    let line = c.args.line.now in
    let early = c.if-number-gt-MAX_LINES.false in
    let few : c.args.number ≤ 9223372036854775807 = omega (arith, early) in
    let same = spelled_line how text c.args.number line c.requires.short few (sym c.is_passed_over.ensures ∙ c.if-is_passed_over.false) in
    let said = subst (λ (r : Result Text LineCause). IsSaid r c.in-Err.fault) (sym same) (said_on (spelled_of line) (recorded_if of_history how text c.args.number) c.in-Err.fault c.in-Err.ensures.bad) in
    passed_over how (read_by text c.args.skipped) (after_line of_history how text c.args.number line) c.in-Err.fault c.in-Ok-skip_or.skipped said (sym c.in-Ok-skip_or.ensures)

pub returns-in-Err-skip_or-clause-bad : goal.returns-in-Err-skip_or-clause-bad
returns-in-Err-skip_or-clause-bad g c =
    let self = c.args.self.now in
    let how = c.args.reading in
    let text = text_by self.history self.lines.items self.callers in
    let line = c.args.line.now in
    let early = c.if-number-gt-MAX_LINES.false in
    let few : c.args.number ≤ 9223372036854775807 = omega (arith, early) in
    let same = spelled_line how text c.args.number line c.requires.short few (sym c.is_passed_over.ensures ∙ c.if-is_passed_over.false) in
    let said = subst (λ (r : Result Text LineCause). IsSaid r c.in-Err.fault) (sym same) (said_on (spelled_of line) (recorded_if of_history how text c.args.number) c.in-Err.fault c.in-Err.ensures.bad) in
    not_passed how (read_by text c.args.skipped) (after_line of_history how text c.args.number line) c.in-Err.fault c.in-Err-skip_or.fault said (sym c.in-Err-skip_or.ensures)

pub returns-then-not-has-clause-ok : goal.returns-then-not-has-clause-ok
returns-then-not-has-clause-ok g c =
    let self = c.args.self.now in
    let how = c.args.reading in
    let text = text_by self.history self.lines.items self.callers in
    let early = c.if-number-gt-MAX_LINES.false in
    let few : c.args.number ≤ 9223372036854775807 = omega (arith, early) in
    let s = spelled_by c.in-Ok.spelling c.take_line.new.key.items c.take_line.new.value.items in
    let spelled = spells how text c.args.number c.args.line.now s c.requires.short few (sym c.is_passed_over.ensures ∙ c.if-is_passed_over.false) c.in-Ok.ensures.ok in
    let none : is_in_share how.share c.take_line.new.key.items ≡ false = ap (is_in_share how.share) (sym c.deref.ensures.value) ∙ sym c.has.ensures ∙ c.if-not-has.true in
    ap (passing how (read_by text c.args.skipped)) (spelled ∙ out_of_share how text c.args.number s none)

pub returns-in-Ok-record-clause-ok : goal.returns-in-Ok-record-clause-ok
returns-in-Ok-record-clause-ok g c =
    let self = c.args.self.now in
    let how = c.args.reading in
    let text = text_by self.history self.lines.items self.callers in
    let early = c.if-number-gt-MAX_LINES.false in
    let few : c.args.number ≤ 9223372036854775807 = omega (arith, early) in
    let s = spelled_by c.in-Ok.spelling c.take_line.new.key.items c.take_line.new.value.items in
    let spelled = spells how text c.args.number c.args.line.now s c.requires.short few (sym c.is_passed_over.ensures ∙ c.if-is_passed_over.false) c.in-Ok.ensures.ok in
    let some : is_in_share how.share c.take_line.new.key.items ≡ true = ap (is_in_share how.share) (sym c.deref.ensures.value) ∙ sym c.has.ensures ∙ c.if-not-has.false in
    ap (passing how (read_by text c.args.skipped)) (spelled ∙ in_share how text c.args.number s some ∙ c.in-Ok-record.ensures.ok)

pub returns-in-Err-record-clause-bad : goal.returns-in-Err-record-clause-bad
returns-in-Err-record-clause-bad g c =
    let self = c.args.self.now in
    let how = c.args.reading in
    let text = text_by self.history self.lines.items self.callers in
    let early = c.if-number-gt-MAX_LINES.false in
    let few : c.args.number ≤ 9223372036854775807 = omega (arith, early) in
    let s = spelled_by c.in-Ok.spelling c.take_line.new.key.items c.take_line.new.value.items in
    let spelled = spells how text c.args.number c.args.line.now s c.requires.short few (sym c.is_passed_over.ensures ∙ c.if-is_passed_over.false) c.in-Ok.ensures.ok in
    let some : is_in_share how.share c.take_line.new.key.items ≡ true = ap (is_in_share how.share) (sym c.deref.ensures.value) ∙ sym c.has.ensures ∙ c.if-not-has.false in
    let said = subst (λ (r : Result Text LineCause). IsSaid r c.in-Err-record.fault) (sym (spelled ∙ in_share how text c.args.number s some)) c.in-Err-record.ensures.bad in
    stays_said how (read_by text c.args.skipped) (after_line of_history how text c.args.number c.args.line.now) c.in-Err-record.fault said c.in-Err-record.ensures.full
