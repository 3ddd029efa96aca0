-- A write is entered, or its key is removed: a key is always one.
use Rattle.std.proofs.Common.{refl}
use Rattle.service_cache.proofs.Answering.{no_key}
use Rattle.service_cache.proofs.lane.put.enter_or_remove.Goals as goal

pub enter-requires : goal.enter-requires
enter-requires g c = c.requires.ours

pub returns-in-Ok-clause-entered : goal.returns-in-Ok-clause-entered
returns-in-Ok-clause-entered g c = c.in-Ok.ensures.entered

pub returns-in-Ok-clause-stays : goal.returns-in-Ok-clause-stays
returns-in-Ok-clause-stays g c = refl

pub returns-in-Ok-clause-full : goal.returns-in-Ok-clause-full
returns-in-Ok-clause-full g c = c.in-Ok.ensures.full

pub returns-in-Ok-clause-removed : goal.returns-in-Ok-clause-removed
returns-in-Ok-clause-removed g c = tt

pub returns-in-Ok-clause-refused : goal.returns-in-Ok-clause-refused
returns-in-Ok-clause-refused g c = tt

pub unreachable-requires : goal.unreachable-requires
unreachable-requires g c =
    let why = c.in-Err-remove.ensures in
    no_key c.args.key.now c.in-Err-remove.field-0 why.empty why.too_long why.memory c.requires.key

pub returns-in-Ok-remove-clause-entered : goal.returns-in-Ok-remove-clause-entered
returns-in-Ok-remove-clause-entered g c = tt

pub returns-in-Ok-remove-clause-stays : goal.returns-in-Ok-remove-clause-stays
returns-in-Ok-remove-clause-stays g c = tt

pub returns-in-Ok-remove-clause-full : goal.returns-in-Ok-remove-clause-full
returns-in-Ok-remove-clause-full g c = c.in-Err.ensures.full

pub returns-in-Ok-remove-clause-removed : goal.returns-in-Ok-remove-clause-removed
returns-in-Ok-remove-clause-removed g c = c.in-Ok-remove.ensures.removed

pub returns-in-Ok-remove-clause-refused : goal.returns-in-Ok-remove-clause-refused
returns-in-Ok-remove-clause-refused g c = c.in-Err.ensures.refused

pub remove-requires : goal.remove-requires
remove-requires g c = assumption
