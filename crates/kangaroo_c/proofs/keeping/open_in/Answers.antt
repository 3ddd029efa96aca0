-- A lane that was opened over the pages that are lent, and put into the place.
use Rattle.std.proofs.Common.{ℕ, List, length, subst, ◌∙◌}
use Rattle.c_lane.specs.Opening.{CanOpen, Opens}
use Rattle.kangaroo_c.proofs.Telling.{opened_in}
use Rattle.kangaroo_c.proofs.keeping.open_in.Goals as goal

pub returns-in-Ok : goal.returns-in-Ok
returns-in-Ok c =
    let a = c.args in
    let lent = c.new-device.ensures ∙ c.into_lent.ensures in
    opened_in a.shape.now a.seed.now a.number a.pages.pages c.in-Ok.lane c.of.result a.place.now.lane c.put_in.result c.put_in.new.place.lane c.requires
    (subst (λ (p : List (List ℕ)). CanOpen a.shape.now (length p)) lent c.in-Ok.ensures.can)
    (subst (λ (p : List (List ℕ)). Opens a.shape.now a.seed.now a.number p c.in-Ok.lane) lent c.in-Ok.ensures.opened)
    c.of.ensures.home c.put_in.ensures
