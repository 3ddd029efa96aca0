use Rattle.std.proofs.Common.{◌≡◌, ◌==◌, ℕ, Bool, List, sym, ◌∙◌, ap, subst}
use Rattle.std.specs.Prelude.{MatchBool}
use Rattle.std.proofs.lemmas.Bool.{eq-eqb}
use Rattle.certificate_checker.specs.Deeds.{Deed}
use Rattle.deed_book.specs.Rules.{IsAdded}
use Rattle.deed_book.specs.Registers.{Registered}
use Rattle.deed_book.proofs.Adding.{enters_moves}
use mathlib.Core.List.{IsPrefix}
use Rattle.deed_book.proofs.Stepping.{entered}
use Rattle.deed_book.proofs.register.Register.enter.Goals as goal

pub compare_exchange-found-requires : goal.compare_exchange-found-requires
compare_exchange-found-requires g c =
    let word = c.self.invariant.word in
    let pen = c.no_pen-pen.ensures in
    let book = c.joined-seen.ensures.book ∙ sym (ap (λ w. w.book) word) in
    let ours : g.L.KeyLanes.lane_of c.entry.inside.offer.ask.key ≡ c.self.inside.number =
    ap (λ (d : Deed). g.L.KeyLanes.lane_of d.key) c.entry.view_is ∙ (c.requires ∙ sym (ap (λ (r : Registered). r.number) c.self.view_is)) in (
      ap (λ w. w.tracked) word,
      book,
      pen.0 ∙ book,
      c.entry.invariant.0 ∙ sym c.joined-seen.ensures.alone,
      rw (ap (λ w. w.key) word, pen.1, c.entry.invariant.1) (enters_moves g.L.KeyLanes.lanes g.L.KeyLanes.lane_of c.joined-seen.result.log c.entry.inside.offer.ask c.self.inside.number c.self.inside.written c.self.invariant.within ours),
    )

pub returns-clause-entered : goal.returns-clause-entered
returns-clause-entered g c =
    let lane_of = g.L.KeyLanes.lane_of in
    let mid = c.joined-seen.result.log in
    let new = c.compare_exchange-found.new.seen.log in
    let same : (c.compare_exchange-found.result == c.self.inside.written) ≡ Bool.true = eq-eqb c.compare_exchange-found.result c.self.inside.written c.if-found-written.false in
    let told : IsAdded lane_of c.self.inside.head.key c.self.inside.written c.entry.inside.offer.ask mid new =
    subst (λ (b : Bool). MatchBool b (IsAdded lane_of c.self.inside.head.key c.self.inside.written c.entry.inside.offer.ask mid new) (Unit {0})) same c.compare_exchange-found.ensures.7 in
    let added : IsAdded lane_of c.self.inside.number c.self.inside.written c.entry.inside.offer.ask mid new =
    subst (λ (k : ℕ). IsAdded lane_of k c.self.inside.written c.entry.inside.offer.ask mid new) (ap (λ w. w.key) c.self.invariant.word) told in
    let ours : IsPrefix c.self.inside.seen.log c.joined-seen.result.log = subst (λ (r : Registered). IsPrefix r.deeds c.joined-seen.result.log) (sym c.self.view_is) c.joined-seen.ensures.ours in
    let theirs : IsPrefix c.seat.inside.seen.log c.joined-seen.result.log = subst (λ (l : List Deed). IsPrefix l c.joined-seen.result.log) (sym c.seat.view_is) c.joined-seen.ensures.theirs in
    rw (c.again.ensures, ← c.self.view_is, ← c.seat.view_is, ← c.entry.view_is) (entered lane_of c.self.inside.number c.self.inside.written c.compare_exchange-found.result c.self.inside.seen.log c.seat.inside.seen.log mid ours theirs c.self.invariant.counts c.entry.inside.offer.ask new added)
