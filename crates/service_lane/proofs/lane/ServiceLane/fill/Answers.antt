-- A fill is stale exactly if its lease has ended.
use Rattle.std.proofs.Common.{◌≡◌, ◌↔◌, ℕ, List, Result, Ok, Err, subst, sym, refl}
use Rattle.record_pages.specs.declared.put_fault.PutFault.TheVariants.{TooLarge}
use Rattle.service_lane.specs.declared.filled.Filled.TheVariants.{Stored}
use Rattle.service_lane.specs.Leases.{HoldsLease}
use Rattle.service_lane.specs.Serving.{Serving}
use Rattle.service_lane.proofs.lane.ServiceLane.fill.Goals as goal

-- what was stored was not refused, told by this result or that
stored_large : {A B E P Q : Type 0} (r : Result A E) (s : Result B E) (x : A) (y : B) (e : E) → r ≡ Ok x → s ≡ Ok y → ((r ≡ Err e) ↔ P) → (s ≡ Err e) ↔ (Q × P)
stored_large r s x y e r_is s_is large = (λ is. absurd (cc), λ both. let no = large.1 both.1 in absurd (cc))

-- what was refused was refused so, told by this result or that
refused_large : {A B E P Q : Type 0} (r : Result A E) (s : Result B E) (f e : E) → Q → r ≡ Err f → s ≡ Err f → ((r ≡ Err e) ↔ P) → (s ≡ Err e) ↔ (Q × P)
refused_large r s f e q r_is s_is large = (λ is. (q, large.0 (cc)), λ both. let so = large.1 both.1 in cc)

pub returns-in-Ok-clause-stale : goal.returns-in-Ok-clause-stale
returns-in-Ok-clause-stale g c =
    let a = c.args in
    let held : HoldsLease c.self.inside.slots c.bytes.result.now a.lease = c.holds.ensures.0 c.if-not-holds.false in
    let holds = subst (λ (s : Serving g.row.D.Denot). HoldsLease s.slots a.key a.lease) c.self.view_is (subst (λ (k : List ℕ). HoldsLease c.self.inside.slots k a.lease) c.bytes.ensures.value held) in
    (λ stale. absurd (cc), λ ended. absurd (ended holds))

pub returns-in-Ok-clause-filled : goal.returns-in-Ok-clause-filled
returns-in-Ok-clause-filled g c =
    let a = c.args in
    let held : HoldsLease c.self.inside.slots c.bytes.result.now a.lease = c.holds.ensures.0 c.if-not-holds.false in
    let holds = subst (λ (s : Serving g.row.D.Denot). HoldsLease s.slots a.key a.lease) c.self.view_is (subst (λ (k : List ℕ). HoldsLease c.self.inside.slots k a.lease) c.bytes.ensures.value held) in
    c.in-Ok.ensures.filled holds

pub returns-in-Ok-clause-refused : goal.returns-in-Ok-clause-refused
returns-in-Ok-clause-refused g c = tt

pub returns-in-Ok-clause-large : goal.returns-in-Ok-clause-large
returns-in-Ok-clause-large g c =
    let a = c.args in
    let held : HoldsLease c.self.inside.slots c.bytes.result.now a.lease = c.holds.ensures.0 c.if-not-holds.false in
    let holds = subst (λ (s : Serving g.row.D.Denot). HoldsLease s.slots a.key a.lease) c.self.view_is (subst (λ (k : List ℕ). HoldsLease c.self.inside.slots k a.lease) c.bytes.ensures.value held) in
    stored_large c.fill_held.result (Ok (Stored c.in-Ok.pushed)) c.in-Ok.pushed (Stored c.in-Ok.pushed) TooLarge c.in-Ok.is refl c.fill_held.ensures.large

pub returns-in-Err-clause-stale : goal.returns-in-Err-clause-stale
returns-in-Err-clause-stale g c =
    let a = c.args in
    let held : HoldsLease c.self.inside.slots c.bytes.result.now a.lease = c.holds.ensures.0 c.if-not-holds.false in
    let holds = subst (λ (s : Serving g.row.D.Denot). HoldsLease s.slots a.key a.lease) c.self.view_is (subst (λ (k : List ℕ). HoldsLease c.self.inside.slots k a.lease) c.bytes.ensures.value held) in
    (λ stale. absurd (cc), λ ended. absurd (ended holds))

pub returns-in-Err-clause-filled : goal.returns-in-Err-clause-filled
returns-in-Err-clause-filled g c = tt

pub returns-in-Err-clause-refused : goal.returns-in-Err-clause-refused
returns-in-Err-clause-refused g c = c.in-Err.ensures.refused

pub returns-in-Err-clause-large : goal.returns-in-Err-clause-large
returns-in-Err-clause-large g c =
    let a = c.args in
    let held : HoldsLease c.self.inside.slots c.bytes.result.now a.lease = c.holds.ensures.0 c.if-not-holds.false in
    let holds = subst (λ (s : Serving g.row.D.Denot). HoldsLease s.slots a.key a.lease) c.self.view_is (subst (λ (k : List ℕ). HoldsLease c.self.inside.slots k a.lease) c.bytes.ensures.value held) in
    refused_large c.fill_held.result (Err c.in-Err.fault) c.in-Err.fault TooLarge holds c.in-Err.is refl c.fill_held.ensures.large

pub invariant_of-self : goal.invariant_of-self
invariant_of-self g c = c.self.invariant

pub returns-then-not-holds-clause-refused : goal.returns-then-not-holds-clause-refused
returns-then-not-holds-clause-refused g c = tt

pub returns-then-not-holds-clause-stale : goal.returns-then-not-holds-clause-stale
returns-then-not-holds-clause-stale g c =
    let a = c.args in
    let ended : HoldsLease a.self.now.slots a.key a.lease → ⊥ = λ held.
    (let here = subst (λ (s : Serving g.row.D.Denot). HoldsLease s.slots a.key a.lease) (sym c.self.view_is) held in
    let yes = c.holds.ensures.1 (subst (λ (k : List ℕ). HoldsLease c.self.inside.slots k a.lease) (sym c.bytes.ensures.value) here) in
    let no = c.if-not-holds.true in
    absurd (cc)) in
    (λ stale. ended, λ told. refl)

pub returns-then-not-holds-clause-large : goal.returns-then-not-holds-clause-large
returns-then-not-holds-clause-large g c =
    let a = c.args in
    let ended : HoldsLease a.self.now.slots a.key a.lease → ⊥ = λ held.
    (let here = subst (λ (s : Serving g.row.D.Denot). HoldsLease s.slots a.key a.lease) (sym c.self.view_is) held in
    let yes = c.holds.ensures.1 (subst (λ (k : List ℕ). HoldsLease c.self.inside.slots k a.lease) (sym c.bytes.ensures.value) here) in
    let no = c.if-not-holds.true in
    absurd (cc)) in
    (λ large. absurd (cc), λ both. absurd (ended both.0))

pub fill_held-requires : goal.fill_held-requires
fill_held-requires g c = assumption
