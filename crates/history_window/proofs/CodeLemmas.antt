-- The calls of a history in numbers.
use Rattle.std.proofs.Common.{◌≡◌, ℕ, ◌+◌, ◌*◌, ◌^◌, ◌<◌, Option, Some, List, [], ◌∷◌, ◌++◌, length, sym, ap, ◌∙◌, subst, arith, inl, inr}
use Rattle.std.specs.Prelude.{All, slice_get}
use Rattle.std.proofs.lemmas.Bool.{cases_eq}
use Rattle.std.proofs.lemmas.List.{length_push}
use Rattle.std.proofs.lemmas.List.Elements.{All-push}
use Rattle.std.proofs.lemmas.Option.{same_Some}
use Rattle.trace_file.specs.Calls.{IsCall, value_of}
use Rattle.trace_file.specs.declared.call.Call.{Call}
use Rattle.trace_file.specs.Numbers.{AreNumbers, KeepsNumbers}
use Rattle.history_window.specs.declared.coded_call.CodedCall.{CodedCall}
use Rattle.history_window.specs.Codes.{AreCodes, IsCode, IsFitCode}
use Rattle.history_window.proofs.ListLemmas.{at_front, at_push, same_at}

-- a call with its numbers
pub record IsNumbered (known : List ℕ → Option ℕ) (position : ℕ) (call : Call) (code : CodedCall) : Type 0 where
  pub is : IsCode position call code
  pub key : known call.key ≡ Some code.key
  pub word : ℕ
  pub has : known (value_of call.act) ≡ Some word
  pub value : code.value ≡ code.key * 2 ^ 32 + word

pub record CodesSoFar (history : List Call) (upto : ℕ) (codes : List CodedCall) (known : List ℕ → Option ℕ) : Type 0 where
  pub count : length codes ≡ upto
  pub numbers : AreNumbers known (2 * upto)
  pub each : (p : ℕ) (call : Call) (code : CodedCall) → slice_get history p ≡ Some call → slice_get codes p ≡ Some code → IsNumbered known p call code
  pub fit : All IsFitCode codes

pub codes_go_on : (history : List Call) (upto : ℕ) (codes : List CodedCall) (known more most : List ℕ → Option ℕ) (call : Call) (code : CodedCall) (word : ℕ) → CodesSoFar history upto codes known → upto < 2 ^ 31 → slice_get history upto ≡ Some call → IsCall call → IsCode upto call code → more call.key ≡ Some code.key → KeepsNumbers known more → KeepsNumbers more most → AreNumbers more (2 * upto + 1) → AreNumbers most (2 * upto + 1 + 1) → most (value_of call.act) ≡ Some word → code.value ≡ code.key * 2 ^ 32 + word → CodesSoFar history (upto + 1) (codes ++ code ∷ []) most
codes_go_on history upto codes known more most call code word had few at is_call is key kept kept_more numbers_more numbers has value = record {
  count = let l = length_push codes code in let c = had.count in omega arith;
  numbers = subst (λ n. AreNumbers most n) (let e : 2 * upto + 1 + 1 ≡ 2 * (upto + 1) = omega arith in e) numbers;
  each = λ p a s at_a at_s. elim (cases_eq p upto) [
    | inl same ↦
        let c = same_at history upto p call a (sym same) at at_a in
        let t = at_push codes code s p at_s (same ∙ sym had.count) in
        subst (λ b. IsNumbered most p b s) c (subst (λ u. IsNumbered most p call u) t (subst (λ q. IsNumbered most q call code) (sym same) (record { is = is; key = kept_more call.key code.key key; word = word; has = has; value = value })))
    | inr other ↦
        let count = had.count in
        let old = had.each p a s at_a (at_front codes code s p at_s (λ last. other (last ∙ count))) in
        record { is = old.is; key = kept_more a.key s.key (kept a.key s.key old.key); word = old.word; has = kept_more (value_of a.act) old.word (kept (value_of a.act) old.word old.has); value = old.value }
  ];
  fit = All-push IsFitCode codes code had.fit (record {
    position = let e = is.place in omega (arith, e, few);
    key = let b = numbers_more.below call.key code.key key in omega (arith, b, few);
    value = let a = numbers_more.below call.key code.key key in let b = numbers.below (value_of call.act) word has in omega (arith, a, b, few, value);
    start = let s = is_call.start in let e = is.start in omega (arith, s, e);
    end = let s = is_call.end in let e = is.end in omega (arith, s, e);
  });
}

value_key : (k l v w n m : ℕ) → n ≡ k * 2 ^ 32 + v → m ≡ l * 2 ^ 32 + w → v < 2 ^ 32 → w < 2 ^ 32 → n ≡ m → k ≡ l
value_key k l v w n m a b small other same = omega arith

value_word : (k l v w n m : ℕ) → n ≡ k * 2 ^ 32 + v → m ≡ l * 2 ^ 32 + w → v < 2 ^ 32 → w < 2 ^ 32 → n ≡ m → v ≡ w
value_word k l v w n m a b small other same = omega arith

value_same : (k l v w n m : ℕ) → n ≡ k * 2 ^ 32 + v → m ≡ l * 2 ^ 32 + w → k ≡ l → v ≡ w → n ≡ m
value_same k l v w n m a b keys words = omega arith

pub codes_end : (history : List Call) (upto : ℕ) (codes : List CodedCall) (known : List ℕ → Option ℕ) → CodesSoFar history upto codes known → upto ≡ length history → upto < 2 ^ 31 → AreCodes history codes
codes_end history upto codes known had all few = record {
  count = had.count ∙ all;
  each = λ p a s at_a at_s. (had.each p a s at_a at_s).is;
  alike = λ p q a b s t at_a at_b at_s at_t.
      let one = had.each p a s at_a at_s in
      let other = had.each q b t at_b at_t in
      let low = had.numbers.below (value_of a.act) one.word one.has in
      let small : one.word < 2 ^ 32 = omega (arith, low, few) in
      let low' = had.numbers.below (value_of b.act) other.word other.has in
      let small' : other.word < 2 ^ 32 = omega (arith, low', few) in
      let from : s.key ≡ t.key → a.key ≡ b.key = λ same. had.numbers.apart a.key b.key s.key one.key (other.key ∙ ap Some (sym same)) in
      let to : a.key ≡ b.key → s.key ≡ t.key = λ same. same_Some s.key t.key (sym one.key ∙ ap known same ∙ other.key) in
      record {
        keys = (from, to);
        values = (
          λ same. (
            from (value_key s.key t.key one.word other.word s.value t.value one.value other.value small small' same),
            had.numbers.apart (value_of a.act) (value_of b.act) one.word one.has (other.has ∙ ap Some (sym (value_word s.key t.key one.word other.word s.value t.value one.value other.value small small' same))),
          ),
          λ both. value_same s.key t.key one.word other.word s.value t.value one.value other.value (to both.0) (same_Some one.word other.word (sym one.has ∙ ap known both.1 ∙ other.has)),
        );
      };
  fit = had.fit;
}
