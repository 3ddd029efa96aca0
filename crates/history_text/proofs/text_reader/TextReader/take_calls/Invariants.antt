use Rattle.std.proofs.Common.{◌-◌, ◌+◌, ◌^◌, ◌≤◌, ◌≡◌, length}
use Rattle.history_text.specs.Pieces.{TakesPiece, left_of}
use Rattle.history_text.specs.Reading.{IsAhead}
use Rattle.history_text.specs.Text.{text_by}
use Rattle.history_text.proofs.text_reader.TextReader.take_calls.Given as goal

-- the lines so far are a piece
abbrev pub invariant-loop-alloc : goal.invariant-loop-alloc
invariant-loop-alloc g l = record {
  ahead : IsAhead l.self.ahead (g.R.Read.remaining l.reader);
  held_is : l.held ≡ length l.fn.text.history;
  least : length l.fn.text.history ≤ length l.text.history;
  few : length l.text.history ≤ length l.fn.text.history + l.most;
  piece : TakesPiece (left_of l.fn.self (g.R.Read.remaining l.fn.reader)) l.fn.self (text_by l.fn.text.history l.fn.text.lines.items l.fn.text.callers) (left_of l.self (g.R.Read.remaining l.reader)) l.self (text_by l.text.history l.text.lines.items l.text.callers);
}

abbrev pub decreases-loop-alloc : goal.decreases-loop-alloc
decreases-loop-alloc g l = (2 ^ 63 + 1) - l.self.number
