-- What was written, and then flushed.
use Rattle.std.proofs.Common.{ℕ, List, Option, Some, None, ◌∙◌}
use Rattle.std.specs.Prelude.{take}
use Rattle.std.specs.Io.KnownBytes.{Appends, Keeps}
use Rattle.history_text.specs.Writing.{written}
use Rattle.judge_run.specs.declared.shown.Shown.{Shown}
use Rattle.judge_run.specs.declared.shown.Shown.TheVariants.{Whole, BadTrace, TooLate}
use Rattle.judge_run.specs.Showing.{HasShown, bad_trace_text}

appended : (old mid new : Option (List ℕ)) (bytes : List ℕ) → Appends old mid bytes → Keeps mid new → Appends old new bytes
appended None mid new bytes wrote kept = tt
appended (Some xs) None new bytes wrote kept = absurd wrote
appended (Some xs) (Some ys) None bytes wrote kept = absurd kept
appended (Some xs) (Some ys) (Some zs) bytes wrote kept = kept ∙ wrote

pub shown_and_kept : (known only old mid new : Option (List ℕ)) (shown : Shown) → HasShown known only shown old mid → Keeps mid new → HasShown known only shown old new
shown_and_kept known only old mid new Whole has kept = record {
  trace = has.trace;
  read = has.read;
  have = has.have;
  wrote = appended old mid new (written only has.trace.history) has.wrote kept;
}
shown_and_kept known only old mid new (BadTrace fault) has kept = record {
  other = has.other;
  read = has.read;
  wrote = appended old mid new (bad_trace_text fault) has.wrote kept;
}
shown_and_kept known only old mid new (TooLate position) has kept = record {
  trace = has.trace;
  read = has.read;
  first = has.first;
  wrote = appended old mid new (written only (take position has.trace.history)) has.wrote kept;
}
