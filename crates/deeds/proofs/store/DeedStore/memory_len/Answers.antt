-- The answer is that of the store inside.
use Rattle.std.proofs.Common.{ap, ◌∙◌, length}
use Rattle.deeds.specs.Asked.{Asked}
use Rattle.deeds.proofs.store.DeedStore.memory_len.Goals as goal

pub returns : goal.returns
returns g c = c.memory_len.ensures ∙ ap (λ (s : Asked g.row.D.Denot). length s.store.memory.pairs) c.self.view_is
