use Rattle.std.proofs.Common.{arith, ◌<◌}
use Rattle.deed_book.proofs.book.NamedBook.register.Goals as goal

pub overflow_add-self : goal.overflow_add-self
overflow_add-self g c =
    let within : c.self.inside.given < g.L.KeyLanes.lanes = rw c.self.view_is c.requires in
    omega (arith, within, c.self.invariant.few)
