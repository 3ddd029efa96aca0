use Rattle.std.specs.Prelude.{IsTrue}
use Rattle.memory_cache.specs.declared.pair.Pair.{Pair}
use Rattle.memory_cache.proofs.KeepingLaws.{all_without, all_entered, all_to_front}
use Rattle.std.proofs.lemmas.List.Elements.{All-take}
use Rattle.memory_cache.proofs.laws.memory_keeps_all.Goals as goal

pub returns-clause-put : goal.returns-clause-put
returns-clause-put c = λ test pair list one all. All-take (λ (p : Pair). IsTrue (test p)) list.capacity _ (all_entered (λ (p : Pair). IsTrue (test p)) pair list.pairs one all)

pub returns-clause-got : goal.returns-clause-got
returns-clause-got c = λ test key list all. all_to_front (λ (p : Pair). IsTrue (test p)) key list.pairs all

pub returns-clause-removed : goal.returns-clause-removed
returns-clause-removed c = λ test key list all. all_without (λ (p : Pair). IsTrue (test p)) key list.pairs all
