-- A word that is repeated, from one to the next.
use Rattle.std.proofs.Common.{◌≡◌, ◌∙◌, ◌≤◌, ◌<◌, ◌+◌, ◌*◌, ◌/◌, ◌++◌, ◌↔◌, ℕ, zero, suc, List, [], ap, ap₂, arith, drop, length, length-append, length-drop, refl, sym, take}
use Rattle.std.specs.List.{repeat}
use Rattle.std.proofs.Math.Seq.{take-append-add}
use Rattle.std.proofs.lemmas.List.{append_cancel_left, length-take-le, take-append-drop, take-append-le}
use Rattle.serve_load.specs.Objects.{repeated}

-- bytes are a word, over and over, cut where they end
abbrev pub IsRepeated : List ℕ → List ℕ → Type 0
IsRepeated word bytes = bytes ≡ repeated word (length bytes)

length-repeat : (word : List ℕ) (k : ℕ) → length word ≡ 8 → length (repeat k word) ≡ k * 8
length-repeat word zero len = refl
length-repeat word (suc k) len = let rest = length-repeat word k len in let both = length-append word (repeat k word) in omega (arith, len, rest, both)

-- it is as long as it is asked for
pub length-repeated : (word : List ℕ) (n : ℕ) → length word ≡ 8 → length (repeated word n) ≡ n
length-repeated word n len =
    let enough = length-repeat word (n / 8 + 1) len in
    length-take-le n (repeat (n / 8 + 1) word) (omega (arith, enough))

times : (m n : ℕ) → n ≡ 8 + m → n / 8 + 1 ≡ suc (m / 8 + 1)
times m n e = omega (arith, e)

-- one word more
pub longer : (word : List ℕ) (m n : ℕ) → length word ≡ 8 → n ≡ 8 + m → repeated word n ≡ word ++ repeated word m
longer word m n len e =
    let count : take n (repeat (n / 8 + 1) word) ≡ take n (word ++ repeat (m / 8 + 1) word) = ap (λ k. take n (repeat k word)) (times m n e) in
    let there : n ≡ length word + m = omega (arith, len, e) in
    count ∙ ap (λ k. take k (word ++ repeat (m / 8 + 1) word)) there ∙ take-append-add word (repeat (m / 8 + 1) word) m

-- less than a word
pub shorter : (word : List ℕ) (n : ℕ) → length word ≡ 8 → n < 8 → repeated word n ≡ take n word
shorter word n len less =
    let once : n / 8 + 1 ≡ 1 = omega (arith, less) in
    ap (λ k. take n (repeat k word)) once ∙ take-append-le n word [] (omega (arith, len, less))

module _ (word rest front back : List ℕ) (len : length word ≡ 8) (more : 8 ≤ length rest) (in_front : front ≡ take 8 rest) (behind : back ≡ drop 8 rest) where
  split : rest ≡ front ++ back
  split = sym (take-append-drop 8 rest) ∙ ap₂ (λ a b. a ++ b) (sym in_front) (sym behind)

  whole : length rest ≡ 8 + length back
  whole = let e = ap length behind in let k = length-drop 8 rest in omega (arith, e, k, more)

  -- bytes that begin with the word go on so exactly if they are repeated
  pub goes_on : front ≡ word → IsRepeated word rest ↔ IsRepeated word back
  goes_on is = (
    λ h. append_cancel_left word back (repeated word (length back)) (ap (λ f. f ++ back) (sym is) ∙ sym split ∙ h ∙ longer word (length back) (length rest) len whole),
    λ h. split ∙ ap₂ (λ a b. a ++ b) is h ∙ sym (longer word (length back) (length rest) len whole),
  )
