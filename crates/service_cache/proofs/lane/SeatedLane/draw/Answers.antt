-- The generator gives its next word, and nothing else changes.
use Rattle.std.proofs.Common.{◌∙◌, ap}
use Rattle.rand_pcg.specs.Lcg.{Lcg}
use Rattle.service_lane.specs.Words.{next_word}
use Rattle.service_cache.specs.Seated.{Seated, drawn}
use Rattle.service_cache.proofs.lane.SeatedLane.draw.Goals as goal

pub invariant_of-self : goal.invariant_of-self
invariant_of-self g c = c.self.invariant

pub returns-clause-word : goal.returns-clause-word
returns-clause-word g c = ap (λ p. p.0) c.next_word.ensures ∙ ap (λ (s : Seated g.row.D.Denot). next_word s.words) c.self.view_is

pub returns-clause-leaves : goal.returns-clause-leaves
returns-clause-leaves g c =
    let i = c.self.inside in
    let lane : Lcg → Seated g.row.D.Denot = λ words. record { serving = i.lane; register = i.register; words = words } in
    ap lane (ap (λ p. p.1) c.next_word.ensures) ∙ ap drawn c.self.view_is
