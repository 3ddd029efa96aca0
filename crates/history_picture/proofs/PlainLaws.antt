-- Texts of which each byte is plain.
use Rattle.std.proofs.Common.{◌≡◌, ℕ, zero, suc, ◌+◌, ◌/◌, ◌%◌, ◌<◌, List, [], ◌∷◌, ◌++◌, Bool, true, false, ◌&&◌, refl, sym, ap, ◌∙◌, arith, take, drop, replicate}
use Rattle.std.specs.Prelude.{◌==◌, if◌then◌else◌, nat_lt}
use Rattle.std.specs.List.{flat_map, list_all}
use Rattle.std.specs.Fmt.{decimal, digits, digits_onto, digit_glyph}
use Rattle.std.proofs.lemmas.List.{take-append-drop}
use Rattle.std.proofs.lemmas.List.Folds.{list_all-append}
use Rattle.std.proofs.lemmas.Bool.{lt-ltb}
use Rattle.history_picture.specs.Plain.{IsPlain, is_plain}

both : (a b : Bool) → (a && b) ≡ true → (a ≡ true) × (b ≡ true)
both true b h = (refl, h)
both false b h = absurd cc

of_both : (a b : Bool) → a ≡ true → b ≡ true → (a && b) ≡ true
of_both true b p q = q
of_both false b p q = absurd cc

-- a test of the text
pub plain_lit : (text : List ℕ) → list_all is_plain text ≡ true → IsPlain text
plain_lit text h = record { each = h }

tested : (text : List ℕ) → IsPlain text → list_all is_plain text ≡ true
tested text h = h.each

-- no bytes are plain
pub plain_nil : IsPlain []
plain_nil = plain_lit [] refl

-- a plain text after another
pub plain_append : (a b : List ℕ) → IsPlain a → IsPlain b → IsPlain (a ++ b)
plain_append a b p q = plain_lit (a ++ b) (list_all-append is_plain a b ∙ of_both (list_all is_plain a) (list_all is_plain b) (tested a p) (tested b q))

-- one byte more
pub plain_cons : (byte : ℕ) (text : List ℕ) → is_plain byte ≡ true → IsPlain text → IsPlain (byte ∷ text)
plain_cons byte text p q = plain_lit (byte ∷ text) (of_both (is_plain byte) (list_all is_plain text) p (tested text q))

-- a front of a plain text
pub plain_take : (n : ℕ) (text : List ℕ) → IsPlain text → IsPlain (take n text)
plain_take n text p =
    let e : (list_all is_plain (take n text) && list_all is_plain (drop n text)) ≡ true =
    sym (list_all-append is_plain (take n text) (drop n text)) ∙ ap (list_all is_plain) (take-append-drop n text) ∙ tested text p in
    plain_lit (take n text) (both (list_all is_plain (take n text)) (list_all is_plain (drop n text)) e).0

-- copies of a plain byte
pub plain_replicate : (n byte : ℕ) → is_plain byte ≡ true → IsPlain (replicate n byte)
plain_replicate zero byte p = plain_nil
plain_replicate (suc n) byte p = plain_cons byte (replicate n byte) p (plain_replicate n byte p)

-- plain texts one after the other
pub plain_flat_map : {X : Type 0} (f : X → List ℕ) (xs : List X) → ((x : X) → IsPlain (f x)) → IsPlain (flat_map f xs)
plain_flat_map {X} f [] p = plain_nil
plain_flat_map {X} f (x ∷ xs) p = plain_append (f x) (flat_map f xs) (p x) (plain_flat_map f xs p)

in_range : (byte : ℕ) → 31 < byte → byte < 127 → is_plain byte ≡ true
in_range byte low high =
    let l : nat_lt 31 byte ≡ true = lt-ltb 31 byte low in
    let h : nat_lt byte 127 ≡ true = lt-ltb byte 127 high in
    rw (l, h) refl

glyph_by : (small : Bool) (d : ℕ) → nat_lt d 10 ≡ small → d < 16 → (upper : Bool) → is_plain (if small then 48 + d else (if upper then 55 + d else 87 + d)) ≡ true
glyph_by true d e less upper = in_range (48 + d) (omega arith) (omega arith)
glyph_by false d e less true = in_range (55 + d) (omega arith) (omega arith)
glyph_by false d e less false = in_range (87 + d) (omega arith) (omega arith)

-- a digit
pub glyph_plain : (upper : Bool) (d : ℕ) → d < 16 → is_plain (digit_glyph upper d) ≡ true
glyph_plain upper d less = glyph_by (nat_lt d 10) d refl less upper

digits_plain : (k n : ℕ) (acc : List ℕ) → IsPlain acc → IsPlain (digits_onto k 10 false n acc)
digits_plain zero n acc p = p
digits_plain (suc k) n acc p =
    let one : IsPlain (digit_glyph false (n % 10) ∷ acc) = plain_cons (digit_glyph false (n % 10)) acc (glyph_plain false (n % 10) (omega arith)) p in
    elim (n / 10 == 0) as (λ b. IsPlain (if b then digit_glyph false (n % 10) ∷ acc else digits_onto k 10 false (n / 10) (digit_glyph false (n % 10) ∷ acc))) [
      | true ↦ one
      | false ↦ digits_plain k (n / 10) (digit_glyph false (n % 10) ∷ acc) one
    ]

-- a number
pub plain_decimal : (n : ℕ) → IsPlain (decimal n)
unfolding digits
plain_decimal n = digits_plain 64 n [] plain_nil
