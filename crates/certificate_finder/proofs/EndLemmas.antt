-- The calls that end first and start last, of those that go with a write.
use Rattle.std.proofs.Common.{◌≡◌, ℕ, ◌+◌, ◌<◌, ◌≤◌, ◌⊎◌, zero, suc, Some, List, [], ◌∷◌, ◌++◌, length, get_or, set, refl, sym, ap, ◌∙◌, subst, arith, inl, inr}
use Rattle.std.specs.Prelude.{slice_get}
use Rattle.std.proofs.lemmas.Bool.{cases_eq}
use Rattle.std.proofs.lemmas.List.{get_or-set_same, get_or-set_other, length-set, length_push}
use Rattle.std.proofs.lemmas.Option.{get_or_from_slice_get, slice_get_within, slice_get-get_or}
use Rattle.certificate_finder.specs.declared.numbered_call.NumberedCall.{NumberedCall}
use Rattle.certificate_finder.specs.Zones.{AreEarliest, AreLatest, ArePositions, Goes}
use Rattle.certificate_finder.proofs.Listing.{same_at}
use Rattle.certificate_finder.proofs.StepLemmas.{at_front, at_push}

-- what is within a list is there
pub found_at : {X : Type 0} (xs : List X) (k : ℕ) → k < length xs → (x : X) × (slice_get xs k ≡ Some x)
found_at [] k less = absurd (omega arith)
found_at (x ∷ xs) zero less = (x, refl)
found_at (x ∷ xs) (suc k) less = found_at xs k (omega arith)

-- what is at an index after a write there, and elsewhere
pub at_set_same : {X : Type 0} (xs : List X) (i : ℕ) (v : X) (k : ℕ) (x : X) → k ≡ i → slice_get (set xs i v) k ≡ Some x → x ≡ v
at_set_same xs i v k x same at =
    let within = slice_get_within (set xs i v) k x at in
    let len = length-set xs i v in
    let here : get_or (set xs i v) i x ≡ v = get_or-set_same xs i v x (omega arith) in
    sym (get_or_from_slice_get (set xs i v) k x x at) ∙ ap (λ q. get_or (set xs i v) q x) same ∙ here

pub at_set_other : {X : Type 0} (xs : List X) (i : ℕ) (v : X) (k : ℕ) (x : X) → (k ≡ i → ⊥) → slice_get (set xs i v) k ≡ Some x → slice_get xs k ≡ Some x
at_set_other xs i v k x other at =
    let within = slice_get_within (set xs i v) k x at in
    let len = length-set xs i v in
    slice_get-get_or xs k x (omega arith) ∙ ap Some (sym (get_or-set_other xs i k v x other) ∙ get_or_from_slice_get (set xs i v) k x x at)

pub positions_more : (upto : ℕ) (positions : List ℕ) → ArePositions upto positions → ArePositions (upto + 1) (positions ++ upto ∷ [])
positions_more upto positions had = record {
  len = let l = length_push positions upto in let c = had.len in omega arith;
  each = λ k p at. elim (cases_eq k upto) [
    | inl same ↦ sym (at_push positions upto p k at (same ∙ sym had.len)) ∙ sym same
    | inr other ↦ had.each k p (at_front positions upto p k at (λ last. other (last ∙ had.len)))
  ];
}

pub positions_begin : ArePositions 0 []
positions_begin = record { len = refl; each = λ k p at. absurd (let within = slice_get_within {A = ℕ} [] k p at in omega arith) }

-- ---- the best call of those that go with a write, for any order of calls

-- a call goes with a write, as far as the calls below a position tell
abbrev pub GoesBelow : List ℕ → ℕ → ℕ → ℕ → Type 0
GoesBelow owners upto write position = (position ≡ write) ⊎ ((position < upto) × (slice_get owners position ≡ Some write))

pub record IsBestCall (R : NumberedCall → NumberedCall → Type 0) (steps : List NumberedCall) (owners : List ℕ) (upto write position : ℕ) : Type 0 where
  pub step : NumberedCall
  pub at : slice_get steps position ≡ Some step
  pub goes : Goes owners write position
  pub best : (other : ℕ) (call : NumberedCall) → slice_get steps other ≡ Some call → GoesBelow owners upto write other → R step call

pub record BestSoFar (R : NumberedCall → NumberedCall → Type 0) (steps : List NumberedCall) (owners : List ℕ) (upto : ℕ) (bests : List ℕ) : Type 0 where
  pub count : length bests ≡ length steps
  pub each : (write position : ℕ) → slice_get bests write ≡ Some position → IsBestCall R steps owners upto write position

module _ (R : NumberedCall → NumberedCall → Type 0) (same_best : (s : NumberedCall) → R s s) (join : (a b c : NumberedCall) → R a b → R b c → R a c) (steps : List NumberedCall) (owners : List ℕ) where
  pub best_begins : (bests : List ℕ) → ArePositions (length steps) bests → BestSoFar R steps owners 0 bests
  best_begins bests are = record {
    count = are.len;
    each = λ w p at.
        let is : p ≡ w = are.each w p at in
        let within = slice_get_within bests w p at in
        let count = are.len in
        let here = found_at steps p (omega arith) in
        record {
          step = here.0;
          at = here.1;
          goes = inl is;
          best = λ q call at_q goes. elim goes [
            | inl own ↦ subst (λ c. R here.0 c) (same_at steps p q here.0 call (is ∙ sym own) here.1 at_q) (same_best here.0)
            | inr below ↦ let less = below.0 in absurd (omega arith)
          ];
        };
  }

  module _ (upto owner known : ℕ) (step known_step : NumberedCall) (bests : List ℕ) (had : BestSoFar R steps owners upto bests) (at : slice_get steps upto ≡ Some step) (owned : slice_get owners upto ≡ Some owner) (known_at : slice_get bests owner ≡ Some known) (known_is : slice_get steps known ≡ Some known_step) where
    -- what goes with a write as far as one call more tells
    below : (w q : ℕ) → GoesBelow owners (upto + 1) w q → GoesBelow owners upto w q ⊎ ((q ≡ upto) × (w ≡ owner))
    below w q goes = elim goes [
      | inl own ↦ inl (inl own)
      | inr less ↦ elim (cases_eq q upto) [
        | inl same ↦ inr (same, same_at owners q upto w owner same less.1 owned)
        | inr other ↦ inl (inr (let l = less.0 in let k : q < upto = omega arith in k, less.1))
      ]
    ]

    pub best_taken : R step known_step → BestSoFar R steps owners (upto + 1) (set bests owner upto)
    best_taken better = record {
      count = length-set bests owner upto ∙ had.count;
      each = λ w p at_w. elim (cases_eq w owner) [
        | inl same ↦
            let is : p ≡ upto = at_set_same bests owner upto w p same at_w in
            let old = had.each owner known known_at in
            let old_step : old.step ≡ known_step = same_at steps known known old.step known_step refl old.at known_is in
            record {
              step = step;
              at = ap (slice_get steps) is ∙ at;
              goes = inr (ap (slice_get owners) is ∙ owned ∙ ap Some (sym same));
              best = λ q call at_q goes. elim (below w q goes) [
                | inl before ↦
                    let r : R old.step call = old.best q call at_q (subst (λ v. GoesBelow owners upto v q) same before) in
                    join step known_step call better (subst (λ s. R s call) old_step r)
                | inr here ↦ subst (λ c. R step c) (same_at steps upto q step call (sym here.0) at at_q) (same_best step)
              ];
            }
        | inr other ↦
            let old = had.each w p (at_set_other bests owner upto w p other at_w) in
            record {
              step = old.step;
              at = old.at;
              goes = old.goes;
              best = λ q call at_q goes. elim (below w q goes) [
                | inl before ↦ old.best q call at_q before
                | inr here ↦ absurd (other here.1)
              ];
            }
      ];
    }

    pub best_kept : R known_step step → BestSoFar R steps owners (upto + 1) bests
    best_kept better = record {
      count = had.count;
      each = λ w p at_w.
          let old = had.each w p at_w in
          record {
            step = old.step;
            at = old.at;
            goes = old.goes;
            best = λ q call at_q goes. elim (below w q goes) [
              | inl before ↦ old.best q call at_q before
              | inr here ↦
                  let is : p ≡ known = same_at bests w owner p known here.1 at_w known_at in
                  let one : old.step ≡ known_step = same_at steps p known old.step known_step is old.at known_is in
                  let c : step ≡ call = same_at steps upto q step call (sym here.0) at at_q in
                  subst (λ s. R s call) (sym one) (subst (λ t. R known_step t) c better)
            ];
          };
    }

-- ---- the two orders

abbrev pub EndsBefore : NumberedCall → NumberedCall → Type 0
EndsBefore a b = a.end ≤ b.end

abbrev pub StartsBehind : NumberedCall → NumberedCall → Type 0
StartsBehind a b = b.start ≤ a.start

pub ends_self : (s : NumberedCall) → EndsBefore s s
ends_self s = omega arith

pub ends_join : (a b c : NumberedCall) → EndsBefore a b → EndsBefore b c → EndsBefore a c
ends_join a b c one other = omega arith

pub starts_self : (s : NumberedCall) → StartsBehind s s
starts_self s = omega arith

pub starts_join : (a b c : NumberedCall) → StartsBehind a b → StartsBehind b c → StartsBehind a c
starts_join a b c one other = omega arith

to_below : (steps : List NumberedCall) (owners : List ℕ) (upto w q : ℕ) (call : NumberedCall) → slice_get steps q ≡ Some call → length steps ≤ upto → Goes owners w q → GoesBelow owners upto w q
to_below steps owners upto w q call at all goes = elim goes [
  | inl own ↦ inl own
  | inr owned ↦ inr (let within = slice_get_within steps q call at in let l : q < upto = omega arith in l, owned)
]

pub are_earliest : (steps : List NumberedCall) (owners : List ℕ) (upto : ℕ) (bests : List ℕ) → BestSoFar EndsBefore steps owners upto bests → length steps ≤ upto → AreEarliest steps owners bests
are_earliest steps owners upto bests had all = record {
  count = had.count;
  each = λ w p at.
      let b = had.each w p at in
      (b.step, record { at = b.at; goes = b.goes; least = λ q call at_q goes. b.best q call at_q (to_below steps owners upto w q call at_q all goes) });
}

pub are_latest : (steps : List NumberedCall) (owners : List ℕ) (upto : ℕ) (bests : List ℕ) → BestSoFar StartsBehind steps owners upto bests → length steps ≤ upto → AreLatest steps owners bests
are_latest steps owners upto bests had all = record {
  count = had.count;
  each = λ w p at.
      let b = had.each w p at in
      (b.step, record { at = b.at; goes = b.goes; greatest = λ q call at_q goes. b.best q call at_q (to_below steps owners upto w q call at_q all goes) });
}

pub known_within : (R : NumberedCall → NumberedCall → Type 0) (steps : List NumberedCall) (owners : List ℕ) (upto : ℕ) (bests : List ℕ) → BestSoFar R steps owners upto bests → (owner known : ℕ) (lent : List ℕ) → lent ≡ bests → slice_get lent owner ≡ Some known → known < length steps
known_within R steps owners upto bests had owner known lent same at =
    let b = had.each owner known (ap (λ xs. slice_get xs owner) (sym same) ∙ at) in
    slice_get_within steps known b.step b.at
