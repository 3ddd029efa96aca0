use Rattle.std.proofs.Common.{◌<◌, length, subst, sym, ◌∙◌}
use Rattle.shared_cache.specs.Passes.{Ticket}
use Rattle.shared_cache.proofs.Passing.{former_within}
use Rattle.shared_cache.proofs.books.Pass.former.Goals as goal

pub at-requires : goal.at-requires
at-requires c =
    let p = c.self.inside in
    rw c.listed.ensures (subst (λ (t : Ticket). c.in-Some.place < length t.calls) c.self.view_is (former_within _ _ _ (sym (c.self.invariant.pass.noted _ c.requires) ∙ c.in-Some.is)))
