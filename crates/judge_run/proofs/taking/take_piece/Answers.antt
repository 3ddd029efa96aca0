-- A piece is read, and its calls stand after the hits that waited.
use Rattle.std.proofs.Common.{◌≡◌, ◌<◌, [], List, ℕ, ap, ap₂, Option, IsSomeAnd, arith, length, slice_get, refl, subst, sym}
use Rattle.std.proofs.lemmas.Option.{slice_get_read, slice_get_within}
use Rattle.trace_file.specs.declared.call.Call.{Call}
use Rattle.certificate_checker.proofs.public_laws.Lookups.{some_and}
use Rattle.history_text.specs.declared.read_text_fault.ReadTextFault.{ReadTextFault}
use Rattle.history_text.specs.declared.bad_line.BadLine.{BadLine}
use Rattle.history_text.specs.declared.read_text_fault.ReadTextFault.TheVariants.{Bad}
use Rattle.history_text.specs.Pieces.{HasBefore, IsFaultFrom, Progress, TakesPiece, left_of}
use Rattle.history_text.specs.Text.{Text, text_by}
use Rattle.judge_run.specs.declared.scope.Scope.{Scope}
use Rattle.judge_run.specs.Scopes.{text_scoped}
use Rattle.judge_run.specs.Streams.{IsFirstOf, IsStreamFault, judged_of, piece_size}
use Rattle.judge_run.proofs.CountLaws.{more_read}
use Rattle.judge_run.proofs.TakingLaws.{as_many, before, before_fault, early_at, enough_judged, few_judged, first_told, full_judged, below, taken}
use Rattle.judge_run.proofs.taking.take_piece.Goals as goal

-- nothing is held before a piece
none_held : (calls : List Call) (lines : List ℕ) (callers : List (List ℕ)) → calls ≡ [] → lines ≡ [] → text_by calls lines callers ≡ text_by [] [] callers
none_held calls lines callers no_calls no_lines = ap₂ (λ (cs : List Call) (ls : List ℕ). text_by cs ls callers) no_calls no_lines

from_none : (left rest : Option (List ℕ)) (old new : Progress) (calls : List Call) (lines : List ℕ) (callers : List (List ℕ)) (piece : Text) → calls ≡ [] → lines ≡ [] → TakesPiece left old (text_by calls lines callers) rest new piece → TakesPiece left old (text_by [] [] callers) rest new piece
from_none left rest old new calls lines callers piece no_calls no_lines = subst (λ (held : Text). TakesPiece left old held rest new piece) (none_held calls lines callers no_calls no_lines)

fault_from_none : (left : Option (List ℕ)) (old : Progress) (calls : List Call) (lines : List ℕ) (callers : List (List ℕ)) (fault : ReadTextFault) → calls ≡ [] → lines ≡ [] → IsFaultFrom left old (text_by calls lines callers) fault → IsFaultFrom left old (text_by [] [] callers) fault
fault_from_none left old calls lines callers fault no_calls no_lines = subst (λ (held : Text). IsFaultFrom left old held fault) (none_held calls lines callers no_calls no_lines)

stop_from_none : (left : Option (List ℕ)) (old : Progress) (calls : List Call) (lines : List ℕ) (callers : List (List ℕ)) (piece : Text) (fault : ReadTextFault) → calls ≡ [] → lines ≡ [] → HasBefore left old (text_by calls lines callers) piece fault → HasBefore left old (text_by [] [] callers) piece fault
stop_from_none left old calls lines callers piece fault no_calls no_lines = subst (λ (held : Text). HasBefore left old held piece fault) (none_held calls lines callers no_calls no_lines)

-- the place of a call has a line
within : (scope : Scope) (left rest : Option (List ℕ)) (old new : Progress) (callers : List (List ℕ)) (piece judged : Text) → TakesPiece left old (text_by [] [] callers) rest new piece → judged ≡ text_scoped scope piece → (place bound : ℕ) → IsSomeAnd (slice_get judged.calls place) (λ (call : Call). call.start < bound) → place < length judged.lines
within scope left rest old new callers piece judged takes is place bound at =
    let found = some_and (slice_get judged.calls place) (λ (call : Call). call.start < bound) at in
    let less = slice_get_within judged.calls place found.0 found.1 in
    let many = as_many scope left rest old new callers piece judged takes is in
    omega (arith, less, many)

pub index-requires : goal.index-requires
index-requires g c =
    let left = left_of c.args.lines.now (g.R.Read.remaining c.args.reader.now) in
    let rest = left_of c.take_calls.new.self (g.R.Read.remaining c.take_calls.new.reader) in
    let stream = c.args.stream.now in
    let piece = text_by c.take_calls.new.text.history c.take_calls.new.text.lines.items c.take_calls.new.text.callers in
    let judged = text_by c.widen.new.history piece.lines piece.callers in
    let takes = from_none left rest c.args.lines.now c.take_calls.new.self stream.text.history stream.text.lines.items stream.text.callers piece c.requires.held.1.no_calls c.requires.held.1.no_lines c.in-Ok.ensures.piece in
    let is : judged ≡ text_scoped c.args.rule.scope piece = ap (λ (cs : List Call). text_by cs piece.lines piece.callers) c.in-Ok-widen.ensures in
    let there : c.in-Some.late < length piece.lines = within c.args.rule.scope left rest c.args.lines.now c.take_calls.new.self stream.text.callers piece judged takes is c.in-Some.late stream.bound c.in-Some.ensures.some.0 in
    omega (arith, there, c.take_calls.new.text.lines.ok.0)

pub returns-in-Err-Bad-clause-fault : goal.returns-in-Err-Bad-clause-fault
returns-in-Err-Bad-clause-fault g c = λ known held.
    let scope = c.args.rule.scope in
    let window = c.args.rule.window in
    let least = c.args.rule.least in
    let left = left_of c.args.lines.now (g.R.Read.remaining c.args.reader.now) in
    let stream = c.args.stream.now in
    let kept = text_by stream.kept.history stream.kept.lines.items stream.text.callers in
    let piece = text_by c.take_calls.new.text.history c.take_calls.new.text.lines.items c.take_calls.new.text.callers in
    let none = judged_of stream in
    let bad = c.in-Err-Bad.bad in
    let fault = subst (λ (f : ReadTextFault). IsFaultFrom left c.args.lines.now none f) c.in-Err-Bad.field-0-is c.in-Err-Bad.ensures.fault in
    let stop = subst (λ (f : ReadTextFault). HasBefore left c.args.lines.now none piece f) c.in-Err-Bad.field-0-is c.in-Err-Bad.ensures.stop in
    first_told scope window least known left c.args.lines.now kept stream.waiting.history stream.waiting.lines.items piece stream.bound stream.latest stream.forgotten bad c.first_fault.result held.going
    (fault_from_none left c.args.lines.now stream.text.history stream.text.lines.items kept.callers (Bad bad) c.requires.held.1.no_calls c.requires.held.1.no_lines fault)
    (stop_from_none left c.args.lines.now stream.text.history stream.text.lines.items kept.callers piece (Bad bad) c.requires.held.1.no_calls c.requires.held.1.no_lines stop)
    (few_judged scope piece (text_scoped scope piece) stream.text.history c.most_of-most.result (piece_size least stream.kept.history stream.waiting.history) refl c.requires.held.1.no_calls (below (length piece.calls) _ (c.in-Err-Bad.ensures.unfilled bad c.in-Err-Bad.field-0-is)) c.most_of-most.ensures.size)
    (subst (λ (b : BadLine). IsFirstOf (text_scoped scope piece) stream.bound b c.first_fault.result) c.in-Err-Bad.bad-is c.first_fault.ensures)

pub returns-in-Some-clause-fault : goal.returns-in-Some-clause-fault
returns-in-Some-clause-fault g c = λ known held.
    let scope = c.args.rule.scope in
    let window = c.args.rule.window in
    let least = c.args.rule.least in
    let left = left_of c.args.lines.now (g.R.Read.remaining c.args.reader.now) in
    let rest = left_of c.take_calls.new.self (g.R.Read.remaining c.take_calls.new.reader) in
    let stream = c.args.stream.now in
    let kept = text_by stream.kept.history stream.kept.lines.items stream.text.callers in
    let piece = text_by c.take_calls.new.text.history c.take_calls.new.text.lines.items c.take_calls.new.text.callers in
    let judged = text_by c.widen.new.history piece.lines piece.callers in
    let takes = from_none left rest c.args.lines.now c.take_calls.new.self stream.text.history stream.text.lines.items kept.callers piece c.requires.held.1.no_calls c.requires.held.1.no_lines c.in-Ok.ensures.piece in
    let is : judged ≡ text_scoped scope piece = ap (λ (cs : List Call). text_by cs piece.lines piece.callers) c.in-Ok-widen.ensures in
    let there = within scope left rest c.args.lines.now c.take_calls.new.self kept.callers piece judged takes is c.in-Some.late stream.bound c.in-Some.ensures.some.0 in
    subst (λ fault. IsStreamFault scope window least known fault) (sym c.before_window.ensures) (before_fault scope window least known c.index.result.now
    (before scope window least known left rest c.args.lines.now c.take_calls.new.self kept stream.waiting.history stream.waiting.lines.items piece judged stream.bound stream.latest stream.forgotten held.going takes is
    c.index.result.now (few_judged scope piece judged stream.text.history c.most_of-most.result (piece_size least stream.kept.history stream.waiting.history) is c.requires.held.1.no_calls c.in-Ok.ensures.few c.most_of-most.ensures.size) (early_at judged stream.bound c.in-Some.late c.index.result.now c.in-Some.ensures.some.0 c.in-Some.ensures.some.1 (slice_get_read judged.lines (length judged.lines) c.in-Some.late c.index.result.now refl there c.index.ensures))))

pub returns-in-Ok-put_before-clause-taken : goal.returns-in-Ok-put_before-clause-taken
returns-in-Ok-put_before-clause-taken g c = λ known held.
    let scope = c.args.rule.scope in
    let window = c.args.rule.window in
    let least = c.args.rule.least in
    let left = left_of c.args.lines.now (g.R.Read.remaining c.args.reader.now) in
    let rest = left_of c.take_calls.new.self (g.R.Read.remaining c.take_calls.new.reader) in
    let stream = c.args.stream.now in
    let kept = text_by stream.kept.history stream.kept.lines.items stream.text.callers in
    let piece = text_by c.take_calls.new.text.history c.take_calls.new.text.lines.items c.take_calls.new.text.callers in
    let judged = text_by c.widen.new.history piece.lines piece.callers in
    let takes = from_none left rest c.args.lines.now c.take_calls.new.self stream.text.history stream.text.lines.items kept.callers piece c.requires.held.1.no_calls c.requires.held.1.no_lines c.in-Ok.ensures.piece in
    let is : judged ≡ text_scoped scope piece = ap (λ (cs : List Call). text_by cs piece.lines piece.callers) c.in-Ok-widen.ensures in
    let text = c.put_before.new.text in
    taken scope window least known left rest c.args.lines.now c.take_calls.new.self kept stream.waiting.history stream.waiting.lines.items piece judged stream.bound stream.latest stream.forgotten held.going takes is
    (text_by text.history text.lines.items text.callers) c.last_end-stream.result c.in-Ok.over
    (λ is_on. enough_judged scope piece judged stream.text.history least c.most_of-most.result is c.requires.held.1.no_calls (c.in-Ok.ensures.full is_on) c.most_of-most.ensures.least)
    (λ is_on. full_judged scope piece judged stream.text.history c.most_of-most.result (piece_size least stream.kept.history stream.waiting.history) is c.requires.held.1.no_calls (c.in-Ok.ensures.full is_on) c.most_of-most.ensures.size)
    c.in_default-first_before.ensures.none c.last_end-stream.ensures c.in-Ok-put_before.ensures

pub returns-in-Ok-put_before-clause-more : goal.returns-in-Ok-put_before-clause-more
returns-in-Ok-put_before-clause-more g c = λ is_on.
    let stream = c.args.stream.now in
    let left = left_of c.args.lines.now (g.R.Read.remaining c.args.reader.now) in
    let rest = left_of c.take_calls.new.self (g.R.Read.remaining c.take_calls.new.reader) in
    let piece = text_by c.take_calls.new.text.history c.take_calls.new.text.lines.items c.take_calls.new.text.callers in
    let full = c.in-Ok.ensures.full is_on in
    let some = c.most_of-most.ensures.some in
    let less : length stream.text.history < length c.take_calls.new.text.history = omega (arith, full, some) in
    more_read left rest c.args.lines.now c.take_calls.new.self (judged_of stream) piece c.in-Ok.ensures.piece less
