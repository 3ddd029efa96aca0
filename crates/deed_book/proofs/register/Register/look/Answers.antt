use Rattle.std.proofs.Common.{◌≡◌, ℕ, List, length, ap, sym, subst}
use Rattle.certificate_checker.specs.Deeds.{Deed}
use Rattle.deed_book.specs.Registers.{Registered}
use Rattle.deed_book.specs.Parts.{part_of}
use mathlib.Core.List.{IsPrefix}
use Rattle.deed_book.proofs.Stepping.{looked}
use Rattle.deed_book.proofs.register.Register.look.Goals as goal

pub returns-clause-seen : goal.returns-clause-seen
returns-clause-seen g c =
    let lane_of = g.L.KeyLanes.lane_of in
    let new = c.load-found.new.seen.log in
    let shows : length (part_of lane_of c.self.inside.number new) ≡ c.load-found.result =
    subst (λ (k : ℕ). length (part_of lane_of k new) ≡ c.load-found.result) (ap (λ w. w.key) c.self.invariant.word) c.load-found.ensures.6.1 in
    let ours : IsPrefix c.self.inside.seen.log c.joined-seen.result.log = subst (λ (r : Registered). IsPrefix r.deeds c.joined-seen.result.log) (sym c.self.view_is) c.joined-seen.ensures.ours in
    let theirs : IsPrefix c.seat.inside.seen.log c.joined-seen.result.log = subst (λ (l : List Deed). IsPrefix l c.joined-seen.result.log) (sym c.seat.view_is) c.joined-seen.ensures.theirs in
    rw (c.again.ensures, ← c.self.view_is, ← c.seat.view_is) (looked lane_of c.self.inside.number c.self.inside.written c.load-found.result c.self.inside.seen.log c.seat.inside.seen.log c.joined-seen.result.log ours theirs c.self.invariant.counts new c.load-found.ensures.5 shows c.if-found-self.false)
