-- How often a reader is asked before a line can be taken.
use Rattle.std.proofs.Common.{ℕ, ◌-◌, length, if◌then◌else◌}
use Rattle.script_words.specs.Lines.{Ahead}

-- each read brings a byte, or is the last
abbrev pub reads_left : Ahead → ℕ
reads_left ahead = if ahead.over then 0 else 8193 - length ahead.bytes
