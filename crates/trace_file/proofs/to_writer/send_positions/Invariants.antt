use Rattle.std.proofs.Common.{◌++◌, take}
use Rattle.std.specs.List.{flat_map}
use Rattle.trace_file.specs.Sending.{Sent}
use Rattle.trace_file.specs.Text.{position_text}
use Rattle.trace_file.proofs.to_writer.send_positions.Given as goal

abbrev pub invariant-loop-place : goal.invariant-loop-place
invariant-loop-place g l = Sent (g.W.Write.contents l.initial.writer) (g.W.Write.contents l.writer) (l.initial.buffer ++ flat_map position_text (take l.place l.certificate)) l.buffer
