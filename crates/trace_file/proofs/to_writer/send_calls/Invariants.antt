use Rattle.std.proofs.Common.{◌++◌, take}
use Rattle.std.specs.List.{flat_map}
use Rattle.trace_file.specs.Sending.{Sent}
use Rattle.trace_file.specs.declared.version.Version.TheVariants.{Timed}
use Rattle.trace_file.specs.Text.{call_text}
use Rattle.trace_file.proofs.to_writer.send_calls.Given as goal

abbrev pub invariant-loop-position : goal.invariant-loop-position
invariant-loop-position g l = Sent (g.W.Write.contents l.initial.writer) (g.W.Write.contents l.writer) (l.initial.buffer ++ flat_map (call_text Timed) (take l.position l.history)) l.buffer
