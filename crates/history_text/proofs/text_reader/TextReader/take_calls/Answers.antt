-- Line after line, one piece grows.
use Rattle.std.proofs.Common.{◌≡◌, ap, arith, length}
use Rattle.history_text.specs.Pieces.{left_of}
use Rattle.history_text.specs.Text.{text_by}
use Rattle.history_text.proofs.PieceLaws.{begins, piece_least, then_fault, then_left, then_piece, then_stop}
use Rattle.history_text.proofs.text_reader.TextReader.take_calls.Goals as goal

pub loop-alloc-init : goal.loop-alloc-init
loop-alloc-init g c = record {
  ahead = c.requires;
  held_is = c.len-held.ensures.count;
  least = omega arith;
  few = omega arith;
  piece = begins (left_of c.args.self.now (g.R.Read.remaining c.args.reader.now)) c.args.self.now (text_by c.args.text.now.history c.args.text.now.lines.items c.args.text.now.callers);
}

pub loop-alloc-preserved : goal.loop-alloc-preserved
loop-alloc-preserved g c =
    let held = text_by c.args.text.now.history c.args.text.now.lines.items c.args.text.now.callers in
    let text = text_by c.loop-alloc.text.history c.loop-alloc.text.lines.items c.loop-alloc.text.callers in
    let other = text_by c.take_line.new.text.history c.take_line.new.text.lines.items c.take_line.new.text.callers in
    let left = left_of c.args.self.now (g.R.Read.remaining c.args.reader.now) in
    let mid = left_of c.loop-alloc.self (g.R.Read.remaining c.loop-alloc.reader) in
    let rest = left_of c.take_line.new.self (g.R.Read.remaining c.take_line.new.reader) in
    let more = piece_least mid rest c.loop-alloc.self c.take_line.new.self text other c.in-Ok-true.ensures.piece in
    let least = c.loop-alloc.invariant.least in
    let held_is = c.loop-alloc.invariant.held_is in
    let one = c.in-Ok-true.ensures.one in
    let count = c.len.ensures.count in
    let test = c.loop-alloc-test.true in
    record {
      ahead = c.in-Ok-true.ensures.ahead;
      held_is = held_is;
      least = omega (arith, least, more);
      few = omega (arith, held_is, one, count, test);
      piece = then_piece left mid rest c.args.self.now c.loop-alloc.self c.take_line.new.self held text other c.loop-alloc.invariant.piece c.in-Ok-true.ensures.piece;
    }

pub returns-in-Ok-false-clause-piece : goal.returns-in-Ok-false-clause-piece
returns-in-Ok-false-clause-piece g c =
    then_piece (left_of c.args.self.now (g.R.Read.remaining c.args.reader.now)) (left_of c.loop-alloc.self (g.R.Read.remaining c.loop-alloc.reader)) (left_of c.take_line.new.self (g.R.Read.remaining c.take_line.new.reader)) c.args.self.now c.loop-alloc.self c.take_line.new.self (text_by c.args.text.now.history c.args.text.now.lines.items c.args.text.now.callers) (text_by c.loop-alloc.text.history c.loop-alloc.text.lines.items c.loop-alloc.text.callers) (text_by c.take_line.new.text.history c.take_line.new.text.lines.items c.take_line.new.text.callers) c.loop-alloc.invariant.piece c.in-Ok-false.ensures.piece

pub returns-in-Err-clause-fault : goal.returns-in-Err-clause-fault
returns-in-Err-clause-fault g c =
    then_fault (left_of c.args.self.now (g.R.Read.remaining c.args.reader.now)) (left_of c.loop-alloc.self (g.R.Read.remaining c.loop-alloc.reader)) c.args.self.now c.loop-alloc.self (text_by c.args.text.now.history c.args.text.now.lines.items c.args.text.now.callers) (text_by c.loop-alloc.text.history c.loop-alloc.text.lines.items c.loop-alloc.text.callers) c.in-Err.fault c.loop-alloc.invariant.piece c.in-Err.ensures.fault

pub returns-in-Err-clause-left : goal.returns-in-Err-clause-left
returns-in-Err-clause-left g c =
    then_left (left_of c.args.self.now (g.R.Read.remaining c.args.reader.now)) (left_of c.loop-alloc.self (g.R.Read.remaining c.loop-alloc.reader)) (g.R.Read.remaining c.take_line.new.reader) c.args.self.now c.loop-alloc.self (text_by c.args.text.now.history c.args.text.now.lines.items c.args.text.now.callers) (text_by c.loop-alloc.text.history c.loop-alloc.text.lines.items c.loop-alloc.text.callers) c.in-Err.fault c.loop-alloc.invariant.piece c.in-Err.ensures.left

pub returns-in-Err-clause-stop : goal.returns-in-Err-clause-stop
returns-in-Err-clause-stop g c =
    then_stop (left_of c.args.self.now (g.R.Read.remaining c.args.reader.now)) (left_of c.loop-alloc.self (g.R.Read.remaining c.loop-alloc.reader)) c.args.self.now c.loop-alloc.self (text_by c.args.text.now.history c.args.text.now.lines.items c.args.text.now.callers) (text_by c.loop-alloc.text.history c.loop-alloc.text.lines.items c.loop-alloc.text.callers) (text_by c.take_line.new.text.history c.take_line.new.text.lines.items c.take_line.new.text.callers) c.in-Err.fault c.loop-alloc.invariant.piece c.in-Err.ensures.stop

pub returns-in-Err-clause-unfilled : goal.returns-in-Err-clause-unfilled
returns-in-Err-clause-unfilled g c = λ bad is.
    let same : length c.take_line.new.text.history ≡ length c.loop-alloc.text.history = ap (λ t. length t.history) (c.in-Err.ensures.kept bad is) in
    let held_is = c.loop-alloc.invariant.held_is in
    let least = c.loop-alloc.invariant.least in
    let count = c.len.ensures.count in
    let test = c.loop-alloc-test.true in
    omega (arith, same, held_is, least, count, test)
