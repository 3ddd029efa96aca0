-- Each way out, and each turn, by what the lines so far have written.
use Rattle.std.proofs.Common.{◌≡◌, true, subst, rules}
use Rattle.std.specs.Option.{option_map}
use Rattle.scripts.specs.Own.{seen_of}
use Rattle.script_words.specs.Lines.{is_ready}
use Rattle.scripts.specs.declared.turn.Turn.{Turn}
use Rattle.scripts.specs.Reading.{Answers}
use Rattle.scripts.proofs.Session.{starts, read_on, goes_on, ends, stops_reading, stops_answering}
use Rattle.scripts.proofs.script.run_script_with_hasher.Goals as goal

pub loop-number-init : goal.loop-number-init
loop-number-init g c =
    let all = g.R.Read.remaining c.args.reader.now in
    let start = g.W.Write.contents c.args.writer.now in
    rw c.new-ahead.ensures (starts g.row.PAGE all start)

pub returns-in-Err-clause-err : goal.returns-in-Err-clause-err
returns-in-Err-clause-err g c =
    let h = c.in-Err.ensures in
    stops_reading _ _ _ _ _ _ _ _ c.loop-number.invariant c.make_ready.new.ahead _ _ c.in-Err.fault h.moves h.kept h.few h.unfed

pub returns-in-Err-answer_next-clause-err : goal.returns-in-Err-answer_next-clause-err
returns-in-Err-answer_next-clause-err g c =
    let h = c.in_default.ensures in
    let ran = read_on c.loop-number.invariant c.make_ready.new.ahead _ _ h.moves h.kept in
    stops_answering _ _ _ _ _ _ _ _ ran _ c.in-Err-answer_next.fault h.few c.in-Err-answer_next.ensures.memory c.in-Err-answer_next.ensures.err

pub returns-in-Ok-Ends-clause-ok : goal.returns-in-Ok-Ends-clause-ok
returns-in-Ok-Ends-clause-ok g c =
    let h = c.in_default.ensures in
    let ran = read_on c.loop-number.invariant c.make_ready.new.ahead _ _ h.moves h.kept in
    let ready : is_ready c.make_ready.new.ahead ≡ true = search rules in
    let answered = subst (λ (t : Turn). Answers g.row.PAGE c.loop-number.number (option_map seen_of c.loop-number.lane) (option_map seen_of c.answer_next.new.lane) c.make_ready.new.ahead c.answer_next.new.ahead (g.W.Write.contents c.make_ready.new.writer) (g.W.Write.contents c.answer_next.new.writer) t) c.in-Ok-Ends.field-0-is c.in-Ok-Ends.ensures.ok in
    ends ran c.answer_next.new.ahead _ (option_map seen_of c.answer_next.new.lane) c.in-Ok-Ends.ending ready answered

pub loop-number-preserved : goal.loop-number-preserved
loop-number-preserved g c =
    let h = c.in_default.ensures in
    let ran = read_on c.loop-number.invariant c.make_ready.new.ahead _ _ h.moves h.kept in
    let ready : is_ready c.make_ready.new.ahead ≡ true = search rules in
    let answered = subst (λ (t : Turn). Answers g.row.PAGE c.loop-number.number (option_map seen_of c.loop-number.lane) (option_map seen_of c.answer_next.new.lane) c.make_ready.new.ahead c.answer_next.new.ahead (g.W.Write.contents c.make_ready.new.writer) (g.W.Write.contents c.answer_next.new.writer) t) c.in-Ok-GoesOn.field-0-is c.in-Ok-GoesOn.ensures.ok in
    goes_on ran c.answer_next.new.ahead _ (option_map seen_of c.answer_next.new.lane) ready answered
