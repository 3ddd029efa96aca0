use Rattle.std.proofs.Common.{◌≡◌, ◌∙◌, ap, sym, rules}
use Rattle.shared_cache.specs.Listed.{calls_listed}
use Rattle.shared_cache.specs.Passes.{Ticket}
use Rattle.shared_cache.proofs.Keeping.{kept_ended, listed_ended}
use Rattle.shared_cache.proofs.books.Pass.end.Goals as goal

pub invariant_of-self : goal.invariant_of-self
invariant_of-self c = rw c.set_end.ensures (kept_ended _ _ _ _ _ c.self.invariant (search rules))

pub returns-clause-calls : goal.returns-clause-calls
returns-clause-calls c =
    let p = c.self.inside in
    let were : calls_listed p.bytes.items p.calls.items ≡ c.args.self.now.calls = ap (λ (t : Ticket). t.calls) c.self.view_is ∙ c.draw_end-end.ensures.calls in
    let end : c.draw_end-end.result ≡ p.seat.seen = c.draw_end-end.ensures.end ∙ ap (λ (t : Ticket). t.sight.seen) (sym c.self.view_is) in
    rw (c.set_end.ensures, end, ← were) (listed_ended p.bytes.items p.seat.seen p.calls.items)
