-- The calls of a history in numbers.
use Rattle.std.proofs.Common.{◌≡◌, ℕ, ◌+◌, ◌*◌, ◌^◌, ◌<◌, Option, Some, None, List, [], ◌∷◌, ◌++◌, length, refl, sym, ap, ◌∙◌, subst, arith, inl, inr}
use Rattle.std.specs.Prelude.{All, slice_get}
use Rattle.std.proofs.lemmas.Bool.{cases_eq}
use Rattle.std.proofs.lemmas.List.{get_or_append_left, get_or_push, length_push}
use Rattle.std.proofs.lemmas.List.Elements.{All-nil, All-push}
use Rattle.std.proofs.lemmas.Option.{get_or_from_slice_get, slice_get_within, slice_get-get_or, same_Some}
use Rattle.trace_file.specs.Calls.{IsCall, value_of}
use Rattle.trace_file.specs.declared.call.Call.{Call}
use Rattle.certificate_finder.specs.declared.numbered_call.NumberedCall.{NumberedCall}
use Rattle.trace_file.specs.Numbers.{AreNumbers, KeepsNumbers}
use Rattle.certificate_finder.specs.Steps.{AreSteps, IsFit, IsStep}
use Rattle.certificate_finder.proofs.Listing.{same_at}

-- a call with its numbers
pub record IsNumbered (known : List ℕ → Option ℕ) (call : Call) (step : NumberedCall) : Type 0 where
  pub is : IsStep call step
  pub key : known call.key ≡ Some step.key
  pub value : known (value_of call.act) ≡ Some step.value

pub record StepsSoFar (history : List Call) (upto : ℕ) (steps : List NumberedCall) (known : List ℕ → Option ℕ) : Type 0 where
  pub count : length steps ≡ upto
  pub numbers : AreNumbers known (2 * upto)
  pub each : (p : ℕ) (call : Call) (step : NumberedCall) → slice_get history p ≡ Some call → slice_get steps p ≡ Some step → IsNumbered known call step
  pub fit : All IsFit steps

-- what is at an index of a list with one more: the new one, or one from before
pub at_push : {X : Type 0} (xs : List X) (y x : X) (k : ℕ) → slice_get (xs ++ y ∷ []) k ≡ Some x → k ≡ length xs → y ≡ x
at_push xs y x k at last = sym (get_or_push xs y x k (sym last)) ∙ get_or_from_slice_get (xs ++ y ∷ []) k x x at

pub at_front : {X : Type 0} (xs : List X) (y x : X) (k : ℕ) → slice_get (xs ++ y ∷ []) k ≡ Some x → (k ≡ length xs → ⊥) → slice_get xs k ≡ Some x
at_front xs y x k at other =
    let within = slice_get_within (xs ++ y ∷ []) k x at in
    let all = length_push xs y in
    let less : k < length xs = omega arith in
    slice_get-get_or xs k x less ∙ ap Some (sym (get_or_append_left xs (y ∷ []) x k less) ∙ get_or_from_slice_get (xs ++ y ∷ []) k x x at)

pub steps_begin : (history : List Call) (known : List ℕ → Option ℕ) → ((word : List ℕ) → known word ≡ None) → StepsSoFar history 0 [] known
steps_begin history known none = record {
  count = refl;
  numbers = record { below = λ w n has. let no = none w in absurd (cc); apart = λ w o n one other. let no = none w in absurd (cc) };
  each = λ p call step at none_at. absurd (let within = slice_get_within {A = NumberedCall} [] p step none_at in omega arith);
  fit = All-nil IsFit;
}

pub steps_go_on : (history : List Call) (upto : ℕ) (steps : List NumberedCall) (known more most : List ℕ → Option ℕ) (call : Call) (step : NumberedCall) → StepsSoFar history upto steps known → upto < 2 ^ 31 → slice_get history upto ≡ Some call → IsCall call → IsStep call step → more call.key ≡ Some step.key → KeepsNumbers known more → KeepsNumbers more most → AreNumbers more (2 * upto + 1) → AreNumbers most (2 * upto + 1 + 1) → most (value_of call.act) ≡ Some step.value → StepsSoFar history (upto + 1) (steps ++ step ∷ []) most
steps_go_on history upto steps known more most call step had few at is_call is key kept kept_more numbers_more numbers value = record {
  count = let l = length_push steps step in let c = had.count in omega arith;
  numbers = subst (λ n. AreNumbers most n) (let e : 2 * upto + 1 + 1 ≡ 2 * (upto + 1) = omega arith in e) numbers;
  each = λ p a s at_a at_s. elim (cases_eq p upto) [
    | inl same ↦
        let c = same_at history upto p call a (sym same) at at_a in
        let t = at_push steps step s p at_s (same ∙ sym had.count) in
        subst (λ b. IsNumbered most b s) c (subst (λ u. IsNumbered most call u) t (record { is = is; key = kept_more call.key step.key key; value = value }))
    | inr other ↦
        let count = had.count in
        let old = had.each p a s at_a (at_front steps step s p at_s (λ last. other (last ∙ count))) in
        record { is = old.is; key = kept_more a.key s.key (kept a.key s.key old.key); value = kept_more (value_of a.act) s.value (kept (value_of a.act) s.value old.value) }
  ];
  fit = All-push IsFit steps step had.fit (record {
    key = let b = numbers_more.below call.key step.key key in omega arith;
    value = let b = numbers.below (value_of call.act) step.value value in omega arith;
    start = let s = is_call.start in let e = is.start in omega arith;
    end = let s = is_call.end in let e = is.end in omega arith;
    time = let s = is_call.time in let e = is.time in omega arith;
  });
}

pub steps_end : (history : List Call) (upto : ℕ) (steps : List NumberedCall) (known : List ℕ → Option ℕ) → StepsSoFar history upto steps known → upto ≡ length history → AreSteps history steps
steps_end history upto steps known had all = record {
  count = had.count ∙ all;
  each = λ p a s at_a at_s. (had.each p a s at_a at_s).is;
  alike = λ p q a b s t at_a at_b at_s at_t.
      let one = had.each p a s at_a at_s in
      let other = had.each q b t at_b at_t in
      record {
        keys = (
          λ same. had.numbers.apart a.key b.key s.key one.key (other.key ∙ ap Some (sym same)),
          λ same. same_Some s.key t.key (sym one.key ∙ ap known same ∙ other.key),
        );
        values = (
          λ same. had.numbers.apart (value_of a.act) (value_of b.act) s.value one.value (other.value ∙ ap Some (sym same)),
          λ same. same_Some s.value t.value (sym one.value ∙ ap known same ∙ other.value),
        );
      };
  fit = had.fit;
}
