-- Calls at positions, and the tests of their keys.
use Rattle.std.proofs.Common.{◌≡◌, ℕ, ◌≤◌, Bool, true, false, ◌&&◌, not, Some, None, List, nat_eq, refl, sym, ap, ◌∙◌, subst, arith, inl, inr}
use Rattle.std.specs.Prelude.{slice_get}
use Rattle.std.specs.Cmp.Lexicographic.{pointwise, bytes_decides}
use Rattle.std.specs.Option.{option_map_or}
use Rattle.std.proofs.lemmas.Bool.{and_from, and_parts, not-true, not_from_false}
use Rattle.std.proofs.lemmas.Option.{same_Some}
use Rattle.trace_file.specs.declared.act.Act.{Act}
use Rattle.trace_file.specs.declared.act.Act.TheVariants.{Put, Remove, Hit, Miss}
use Rattle.trace_file.specs.declared.call.Call.{Call}
use Rattle.certificate_checker.specs.Deeds.{Deed, deed_of}
use Rattle.certificate_checker.specs.Latest.{IsWrite}
use Rattle.certificate_checker.specs.Orders.{Precedes}
use Rattle.certificate_finder.specs.Spots.{AreOfOne, is_at, is_miss, is_of}
use Rattle.certificate_finder.specs.Turns.{end_at, start_at}
use Rattle.history_window.specs.Windows.{HasLate, IsBefore}

pub write_is_no_miss : (act : Act) → IsWrite act → is_miss act ≡ false
write_is_no_miss (Put value expires) w = refl
write_is_no_miss Remove w = refl
write_is_no_miss (Hit value moment) w = absurd w
write_is_no_miss Miss w = absurd w

pub of_key : (key : List ℕ) (deed : Deed) → deed.key ≡ key → is_miss deed.act ≡ false → is_of key deed ≡ true
of_key key deed same no_miss = and_from (pointwise nat_eq deed.key key) (not (is_miss deed.act)) ((bytes_decides deed.key key).1 same) (not_from_false (is_miss deed.act) no_miss)

pub key_of : (key : List ℕ) (deed : Deed) → is_of key deed ≡ true → (deed.key ≡ key) × (is_miss deed.act ≡ false)
key_of key deed h =
    let both = and_parts (pointwise nat_eq deed.key key) (not (is_miss deed.act)) h in
    ((bytes_decides deed.key key).0 both.0, not-true (is_miss deed.act) both.1)

-- the call of a key at a position
pub call_of : (history : List Call) (key : List ℕ) (p : ℕ) → is_at history key p ≡ true → (call : Call) × (slice_get history p ≡ Some call) × (call.key ≡ key) × (is_miss call.act ≡ false)
call_of history key p h =
    elim (slice_get history p) as (λ o. slice_get history p ≡ o → option_map_or (λ call. is_of key (deed_of call)) o false ≡ true → (call : Call) × (slice_get history p ≡ Some call) × (call.key ≡ key) × (is_miss call.act ≡ false)) [
      | None ↦ λ is no. cc
      | Some call ↦ λ is test. let both = key_of key (deed_of call) test in (call, is, both.0, both.1)
    ] refl h

pub at_of : (history : List Call) (key : List ℕ) (p : ℕ) (call : Call) → slice_get history p ≡ Some call → call.key ≡ key → is_miss call.act ≡ false → is_at history key p ≡ true
at_of history key p call at one_key no_miss = rw at (of_key key (deed_of call) one_key no_miss)

-- two calls of one key, neither a miss
pub of_one : (history : List Call) (p q : ℕ) (a b : Call) → slice_get history p ≡ Some a → slice_get history q ≡ Some b → a.key ≡ b.key → is_miss a.act ≡ false → is_miss b.act ≡ false → AreOfOne history p q
of_one history p q a b at_p at_q same no_miss no_other = record { key = b.key; first = at_of history b.key p a at_p same no_miss; second = at_of history b.key q b at_q refl no_other }

pub one_of : (history : List Call) (p q : ℕ) → AreOfOne history p q → (a : Call) × (b : Call) × (slice_get history p ≡ Some a) × (slice_get history q ≡ Some b) × (a.key ≡ b.key) × (is_miss a.act ≡ false) × (is_miss b.act ≡ false)
one_of history p q one =
    let a = call_of history one.key p one.first in
    let b = call_of history one.key q one.second in
    (a.0, b.0, a.1, b.1, a.2 ∙ sym b.2, a.3, b.3)

pub one_joined : (history : List Call) (p q r : ℕ) → AreOfOne history p q → AreOfOne history q r → AreOfOne history p r
one_joined history p q r one other =
    let a = one_of history p q one in
    let b = one_of history q r other in
    let same = same_Some a.1 b.0 (sym a.3 ∙ b.2) in
    of_one history p r a.0 b.1 a.2 b.3 (a.4 ∙ ap (λ (c : Call). c.key) same ∙ b.4) a.5 b.6

-- whether two calls are of one key, and neither is a miss
abbrev pub joins : List Call → ℕ → ℕ → Bool
joins history p q = option_map_or (λ (call : Call). is_at history call.key p && is_at history call.key q) (slice_get history q) false

pub joins_from : (history : List Call) (p q : ℕ) → AreOfOne history p q → joins history p q ≡ true
joins_from history p q one =
    let b = one_of history p q one in
    let first = at_of history b.1.key p b.0 b.2 b.4 b.5 in
    let second = at_of history b.1.key q b.1 b.3 refl b.6 in
    ap (λ o. option_map_or (λ (call : Call). is_at history call.key p && is_at history call.key q) o false) b.3 ∙ and_from (is_at history b.1.key p) (is_at history b.1.key q) first second

pub joins_to : (history : List Call) (p q : ℕ) → joins history p q ≡ true → AreOfOne history p q
joins_to history p q h =
    elim (slice_get history q) as (λ o. option_map_or (λ (call : Call). is_at history call.key p && is_at history call.key q) o false ≡ true → AreOfOne history p q) [
      | None ↦ λ no. cc
      | Some call ↦ λ test. let both = and_parts (is_at history call.key p) (is_at history call.key q) test in record { key = call.key; first = both.0; second = both.1 }
    ] h

pub start_is : (history : List Call) (p : ℕ) (call : Call) → slice_get history p ≡ Some call → start_at history p ≡ call.start
start_is history p call at = rw at refl

pub end_is : (history : List Call) (p : ℕ) (call : Call) → slice_get history p ≡ Some call → end_at history p ≡ call.end
end_is history p call at = rw at refl

-- ---- the call at a position precedes the call at another

pub precedes_of : (history : List Call) (p q : ℕ) (one other : Call) → slice_get history p ≡ Some one → slice_get history q ≡ Some other → IsBefore history p q → Precedes one other
precedes_of history p q one other at_p at_q before =
    let till = end_is history p one at_p in
    let from = start_is history q other at_q in
    omega (arith, before, till, from)

pub before_of : (history : List Call) (p q : ℕ) (one other : Call) → slice_get history p ≡ Some one → slice_get history q ≡ Some other → Precedes one other → IsBefore history p q
before_of history p q one other at_p at_q before =
    let till = end_is history p one at_p in
    let from = start_is history q other at_q in
    omega (arith, before, till, from)

-- a hit that some late put has the value of does not precede the cut
pub late_begun : (history : List Call) (key value : List ℕ) (cut hit : ℕ) → start_at history cut ≤ end_at history cut → HasLate history key value cut hit → ¬ IsBefore history hit cut
late_begun history key value cut hit span late before = elim late.late [
  | inl same ↦ late.begun (subst (λ p. IsBefore history hit p) (sym same) before)
  | inr after ↦ late.begun (omega (arith, before, span, after))
]

-- ---- hits, puts and writes are apart

pub no_write : (act : Act) (value : List ℕ) (moment : ℕ) → act ≡ Hit value moment → ¬ IsWrite act
no_write act value moment e writes = let none : IsWrite (Hit value moment) = subst IsWrite e writes in none

pub put_writes : (act : Act) (value : List ℕ) (expires : ℕ) → act ≡ Put value expires → IsWrite act
put_writes act value expires e = subst IsWrite (sym e) tt

pub same_value : (act : Act) (value other : List ℕ) (moment another : ℕ) → act ≡ Hit value moment → act ≡ Hit other another → value ≡ other
same_value act value other moment another e f =
    let both : Hit value moment ≡ Hit other another = sym e ∙ f in
    let same : value ≡ other = cc in
    same
