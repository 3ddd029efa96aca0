use Rattle.std.proofs.Common.{rules, ◌≡◌, ap, ◌∙◌, sym, Option, None, Some, ◌∷◌, ◌++◌, [], List, ℕ, map, append-nil}
use Rattle.shared_cache.proofs.Ends.{more_ended, calls, ended, many_closed, taken, unclaimed, weighed}
use Rattle.shared_cache.proofs.lane_claims.LaneClaims.close.Goals as goal

pub loop-end-preserved : goal.loop-end-preserved
loop-end-preserved c =
    let p : c.loop-end.ends.items ≡ Some c.in-Some-end.end ∷ c.pop_front.new.self.items = c.in-Some.ensures.items ∙ ap (λ (s : Option ℕ). s ∷ c.pop_front.new.self.items) c.in-Some-end.is in
    more_ended _ _ _ _ (rw p at c.loop-end.invariant) ∙ ap (λ (all : List ℕ). map Some all ++ c.pop_front.new.self.items) (sym c.in-Ok-push.ensures.items)

pub of-requires : goal.of-requires
of-requires c =
    let p : c.loop-end.ends.items ≡ [] = search rules in
    let is : c.self.inside.ends.items ≡ map Some c.loop-end.all.items = sym c.from-ends.ensures.0 ∙ c.loop-end.invariant ∙ ap (λ (left : List (Option ℕ)). map Some c.loop-end.all.items ++ left) p ∙ append-nil (map Some c.loop-end.all.items) in
    many_closed _ c.self.inside.ends.items c.loop-end.all.items c.self.invariant.many c.self.invariant.claimed is

pub returns-clause-weighed : goal.returns-clause-weighed
returns-clause-weighed c =
    let p : c.loop-end.ends.items ≡ [] = search rules in
    let is : c.self.inside.ends.items ≡ map Some c.loop-end.all.items = sym c.from-ends.ensures.0 ∙ c.loop-end.invariant ∙ ap (λ (left : List (Option ℕ)). map Some c.loop-end.all.items ++ left) p ∙ append-nil (map Some c.loop-end.all.items) in
    λ h. rw (c.of.ensures, ← c.self.view_is) (weighed _ c.self.inside.ends.items c.loop-end.all.items c.self.invariant.many c.self.invariant.claimed is h)

pub returns-clause-calls : goal.returns-clause-calls
returns-clause-calls c =
    let p : c.loop-end.ends.items ≡ [] = search rules in
    let is : c.self.inside.ends.items ≡ map Some c.loop-end.all.items = sym c.from-ends.ensures.0 ∙ c.loop-end.invariant ∙ ap (λ (left : List (Option ℕ)). map Some c.loop-end.all.items ++ left) p ∙ append-nil (map Some c.loop-end.all.items) in
    rw (c.of.ensures, ← c.self.view_is) (calls _ c.self.inside.ends.items c.loop-end.all.items c.self.invariant.many c.self.invariant.claimed is)

pub returns-clause-ended : goal.returns-clause-ended
returns-clause-ended c =
    let p : c.loop-end.ends.items ≡ [] = search rules in
    let is : c.self.inside.ends.items ≡ map Some c.loop-end.all.items = sym c.from-ends.ensures.0 ∙ c.loop-end.invariant ∙ ap (λ (left : List (Option ℕ)). map Some c.loop-end.all.items ++ left) p ∙ append-nil (map Some c.loop-end.all.items) in
    rw c.of.ensures (ended _ c.self.inside.ends.items c.loop-end.all.items c.self.invariant.many c.self.invariant.claimed is)

pub returns-clause-taken : goal.returns-clause-taken
returns-clause-taken c =
    let p : c.loop-end.ends.items ≡ [] = search rules in
    let is : c.self.inside.ends.items ≡ map Some c.loop-end.all.items = sym c.from-ends.ensures.0 ∙ c.loop-end.invariant ∙ ap (λ (left : List (Option ℕ)). map Some c.loop-end.all.items ++ left) p ∙ append-nil (map Some c.loop-end.all.items) in
    rw (← c.self.view_is) (taken _ c.self.inside.ends.items c.loop-end.all.items c.self.invariant.many c.self.invariant.claimed is)

pub returns-in_default-end-clause-refused : goal.returns-in_default-end-clause-refused
returns-in_default-end-clause-refused c =
    let none : c.in-Some.end ≡ None = search rules in
    let is = sym c.from-ends.ensures.0 ∙ c.loop-end.invariant ∙ ap (λ (left : List (Option ℕ)). map Some c.loop-end.all.items ++ left) (c.in-Some.ensures.items ∙ ap (λ (e : Option ℕ). e ∷ c.pop_front.new.self.items) none) in
    rw (← c.self.view_is) (unclaimed c.self.inside.recorded c.self.inside.ends.items c.loop-end.all.items c.pop_front.new.self.items c.self.invariant.many is c.len-in_default-end.result (search rules))
