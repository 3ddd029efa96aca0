use Rattle.std.proofs.Common.{refl}
use Rattle.mover.proofs.public_laws.Keeping.{kept_flash}
use Rattle.mover.proofs.store.Store.drop_taken.Goals as goal

pub invariant_of-self : goal.invariant_of-self
invariant_of-self g c =
    let s = c.self.inside in
    let d = g.D.PageDevice in
    kept_flash g.row.PAGE d.page_count d.honest d.held (record { layout = s.layout; device = s.device; memory = s.memory; log = s.log; sets = s.sets; flights = s.flights; moves = s.moves }) c.self.invariant
    s.device c.drop_taken.new.self s.sets c.drop_taken.ensures.shape refl refl refl (λ _. c.drop_taken.ensures.spelled (d.held s.device)) (λ _ spelled. spelled) (λ _ placed. placed)
