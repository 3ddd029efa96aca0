-- A put pushes out what leaves for its key.
use Rattle.std.proofs.Common.{rules, ◌∙◌, ap, sym}
use Rattle.std.specs.Prelude.{option_map}
use Rattle.memory_cache.specs.declared.pair.Pair.{Pair}
use Rattle.memory_cache.proofs.Leaving.{is_leaving}
use Rattle.memory_cache.proofs.cache.MemoryCache.leaving.Goals as goal

pub returns-then-len-capacity-clause-key : goal.returns-then-len-capacity-clause-key
returns-then-len-capacity-clause-key c = search rules

pub returns-then-len-capacity-clause-pushed : goal.returns-then-len-capacity-clause-pushed
returns-then-len-capacity-clause-pushed c = λ value.
    returns-then-len-capacity-clause-key c
    ∙ ap (option_map (λ (p : Pair). p.key)) (sym (is_leaving (record { key = c.args.key.now; value = value }) c.args.self.now c.len.ensures.bounded))

pub returns-clause-key : goal.returns-clause-key
returns-clause-key c = search rules

pub returns-clause-pushed : goal.returns-clause-pushed
returns-clause-pushed c = λ value.
    returns-clause-key c
    ∙ ap (option_map (λ (p : Pair). p.key)) (sym (is_leaving (record { key = c.args.key.now; value = value }) c.args.self.now c.len.ensures.bounded))
