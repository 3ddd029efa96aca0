-- Each number of the load is in its setting's range, and the numbers are those at their places.
use Rattle.std.proofs.Common.{◌∷◌, [], lit<, sym}
use Rattle.load.specs.declared.setting.Setting.TheVariants.{Callers, Operations, Keys, ValueBytes, Gets, Removes, Workers, Seed, Ttl}
use Rattle.load.specs.Settings.{layout_settings, settings}
use Rattle.load.proofs.Ranges.{in_front, placed, within}
use Rattle.load.proofs.numbers.load_with.Goals as goal

pub layout_with-requires-clause-admitted : goal.layout_with-requires-clause-admitted
layout_with-requires-clause-admitted c =
    in_front layout_settings (Callers ∷ Operations ∷ Keys ∷ ValueBytes ∷ Gets ∷ Removes ∷ Workers ∷ Seed ∷ Ttl ∷ []) c.args.numbers.now c.requires

pub invariant_of-result : goal.invariant_of-result
invariant_of-result c =
    let within_at = within settings c.args.numbers.now c.requires in
    record {
      callers_range = within_at 8 (lit< tt);
      operations_range = within_at 9 (lit< tt);
      keys_range = within_at 10 (lit< tt);
      value_bytes_range = (within_at 11 (lit< tt)).1;
      gets_range = (within_at 12 (lit< tt)).1;
      removes_range = (within_at 13 (lit< tt)).1;
      workers_range = within_at 14 (lit< tt);
      ttl_range = (within_at 16 (lit< tt)).1;
    }

pub returns-clause-numbers : goal.returns-clause-numbers
returns-clause-numbers c =
    let is = c.layout_with.ensures in
    rw (is.lanes, is.sets, is.memory, is.segments, is.segment_pages, is.entries, is.threshold, is.admit) (sym (placed c.args.numbers.now 0 17 (sym c.told-numbers)))
