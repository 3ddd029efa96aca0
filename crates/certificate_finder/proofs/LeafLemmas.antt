-- Where puts stand by when they can last be read, and which of them a hit can have read.
use Rattle.std.proofs.Common.{◌≡◌, ℕ, ◌+◌, ◌^◌, ◌<◌, ◌≤◌, true, false, ltb, Some, None, Option, List, [], ◌∷◌, ◌++◌, length, refl, sym, ap, ◌∙◌, subst, arith, inl, inr}
use Rattle.std.specs.Prelude.{All, Contains, map, option_map, slice_get, slice_index, IsTrue}
use Rattle.std.specs.List.{AllWithin}
use Rattle.std.specs.List.Sorted.{IsNonDecreasingBy, IsPermutation}
use Rattle.std.specs.Option.{option_map_or}
use Rattle.std.proofs.lemmas.Bool.{cases_eq, cases_lt, ltb-true}
use Rattle.std.proofs.lemmas.Bool.Decides.{nat_tests}
use Rattle.std.proofs.lemmas.List.{length-map}
use Rattle.std.proofs.lemmas.List.Sorted.{Contains-permutation, length_permutation}
use Rattle.std.proofs.lemmas.List.{length_push}
use Rattle.std.proofs.lemmas.Option.{get_or_from_slice_get, slice_get_within, slice_get-map}
use Rattle.record_pages.specs.Expiry.{is_live}
use Rattle.certificate_finder.specs.declared.put.Put.{Put}
use Rattle.certificate_finder.specs.declared.numbered_call.NumberedCall.{NumberedCall}
use Rattle.certificate_finder.specs.Leaves.{AreEnds, AreLeavesOf, IsBelow, itself}
use Rattle.certificate_finder.specs.Putting.{AreInOrder, CanRead, GivesAt, IsFitPut, expiry_at, last_rank, put_rank, value_rank}
use Rattle.certificate_finder.specs.Steps.{IsFit}
use Rattle.certificate_finder.specs.Trees.{AreLeaves, IsFrom}
use Rattle.certificate_finder.specs.Writing.{IsSplit}
use Rattle.certificate_finder.proofs.EndLemmas.{found_at}
use Rattle.certificate_finder.proofs.Listing.{all_at, all_from_at, contains_at, index_of, same_at}
use Rattle.certificate_finder.proofs.StepLemmas.{at_front, at_push}

-- ---- ranks in order

not_ltb : (a b : ℕ) → ltb a b ≡ false → b ≤ a
not_ltb a b h = grind (arith, nat_tests)

-- where a binary search parts the ranks
pub below_from_point : (ends : List ℕ) (rank i : ℕ) → i ≤ length ends → AllWithin (λ y. ltb (itself y) rank ≡ true) ends 0 i → AllWithin (λ y. ltb (itself y) rank ≡ false) ends i (length ends) → IsBelow ends rank i
below_from_point ends rank i le low high = record {
  bound = le;
  low = λ k end less at. ltb-true end rank (subst (λ y. ltb y rank ≡ true) (get_or_from_slice_get ends k end end at) (low k end (omega arith) less));
  high = λ k end more at. not_ltb end rank (subst (λ y. ltb y rank ≡ false) (get_or_from_slice_get ends k end end at) (high k end more (slice_get_within ends k end at)));
}

pub are_ends : (puts : List Put) (made ends : List ℕ) → made ≡ map last_rank puts → IsPermutation made ends → IsNonDecreasingBy itself ends → AreEnds puts ends
are_ends puts made ends is moved sorted = record {
  count = let a = length_permutation made ends moved in let b = ap length is in let c = length-map puts last_rank in omega arith;
  sorted = sorted;
  all = λ k put at. Contains-permutation made ends (last_rank put) moved (contains_at made k (last_rank put) (ap (λ m. slice_get m k) is ∙ slice_get-map last_rank puts k ∙ ap (λ o. option_map last_rank o) at));
}

-- a rank that is listed is not below another one, if its leaf is not before that one's
leaf_after : (ends : List ℕ) (rank limit leaf from : ℕ) → Contains ends rank → IsBelow ends rank leaf → IsBelow ends limit from → from ≤ leaf → limit ≤ rank
leaf_after ends rank limit leaf from has is other le = elim (cases_lt rank limit) [
  | inr not ↦ omega arith
  | inl less ↦
      let k = index_of ends rank has in
      elim (cases_lt k.0 from) [
        | inr late ↦ let h = other.high k.0 rank (omega arith) k.1 in absurd (omega arith)
        | inl early ↦ elim (cases_lt k.0 leaf) [
          | inl low ↦ let h = is.low k.0 rank low k.1 in absurd (omega arith)
          | inr high ↦ absurd (omega arith)
        ]
      ]
]

leaf_before : (ends : List ℕ) (rank limit leaf from : ℕ) → IsBelow ends rank leaf → IsBelow ends limit from → limit ≤ rank → from ≤ leaf
leaf_before ends rank limit leaf from is other le = elim (cases_lt leaf from) [
  | inr not ↦ omega arith
  | inl less ↦
      let bound = other.bound in
      let e = found_at ends leaf (omega arith) in
      let low = other.low leaf e.0 less e.1 in
      let high = is.high leaf e.0 (omega arith) e.1 in
      absurd (omega arith)
]

-- ---- leaves

pub leaves_begin : (puts : List Put) (ends : List ℕ) → AreLeavesOf puts ends 0 []
leaves_begin puts ends = record { count = refl; each = λ k leaf put at at_leaf. absurd (let within = slice_get_within {A = ℕ} [] k leaf at_leaf in omega arith) }

pub leaves_more : (puts : List Put) (ends leaves : List ℕ) (upto leaf : ℕ) (put : Put) → AreLeavesOf puts ends upto leaves → slice_get puts upto ≡ Some put → IsBelow ends (last_rank put) leaf → AreLeavesOf puts ends (upto + 1) (leaves ++ leaf ∷ [])
leaves_more puts ends leaves upto leaf put had at is = record {
  count = let l = length_push leaves leaf in let c = had.count in omega arith;
  each = λ k other p at_p at_other. elim (cases_eq k upto) [
    | inl same ↦
        let e = at_push leaves leaf other k at_other (same ∙ sym had.count) in
        let q = same_at puts upto k put p (sym same) at at_p in
        subst (λ l. IsBelow ends (last_rank p) l) e (subst (λ x. IsBelow ends (last_rank x) leaf) q is)
    | inr before ↦ had.each k other p at_p (at_front leaves leaf other k at_other (λ last. before (last ∙ had.count)))
  ];
}

pub leaves_within : (puts : List Put) (ends leaves : List ℕ) (width : ℕ) → AreEnds puts ends → AreLeavesOf puts ends (length puts) leaves → length puts < width → AreLeaves (length puts) width leaves
leaves_within puts ends leaves width are of more = record {
  count = of.count;
  within = all_from_at (λ leaf. leaf < width) leaves (λ k leaf at.
      let within = slice_get_within leaves k leaf at in
      let count = of.count in
      let p = found_at puts k (omega arith) in
      let bound = (of.each k leaf p.0 p.1 at).bound in
      let all = are.count in
      omega arith);
}

pub expiry_is : (puts : List Put) (k : ℕ) (put : Put) → slice_get puts k ≡ Some put → expiry_at puts k ≡ put.expires
expiry_is puts k put at = ap (λ o. option_map_or (λ (p : Put). p.expires) o 0) at

expiry_small : (o : Option Put) → ((put : Put) → o ≡ Some put → put.expires < 2 ^ 64) → option_map_or (λ (p : Put). p.expires) o 0 < 2 ^ 64
expiry_small None each = omega arith
expiry_small (Some put) each = each put refl

pub expiries_small : (puts : List Put) → All IsFitPut puts → (k : ℕ) → expiry_at puts k < 2 ^ 64
expiries_small puts fit k = expiry_small (slice_get puts k) (λ put at. let f : IsFitPut put = all_at IsFitPut puts k put fit at in f.expires)

-- ---- what a hit can have read

-- between two ranks of one key and value
same_key : (k v s l w t u r : ℕ) → v < 2 ^ 32 → w < 2 ^ 32 → s < 2 ^ 64 → t < 2 ^ 64 → u < 2 ^ 64 → r < 2 ^ 64 → value_rank k v s ≤ value_rank l w t → value_rank l w u ≤ value_rank k v r → l ≡ k
same_key k v s l w t u r a b c d e f low high = omega arith

same_value : (k v s w t u r : ℕ) → s < 2 ^ 64 → t < 2 ^ 64 → u < 2 ^ 64 → r < 2 ^ 64 → value_rank k v s ≤ value_rank k w t → value_rank k w u ≤ value_rank k v r → w ≡ v
same_value k v s w t u r c d e f low high = omega arith

module _ (puts : List Put) (ends leaves : List ℕ) (order : AreInOrder puts) (are : AreEnds puts ends) (of : AreLeavesOf puts ends (length puts) leaves) (hit : NumberedCall) (fit : IsFit hit) (upto leaf : ℕ) (split : IsSplit put_rank puts (value_rank hit.key hit.value hit.end) upto) (below : IsBelow ends (value_rank hit.key hit.value hit.start) leaf) where
  leaf_of : (k : ℕ) (put : Put) → slice_get puts k ≡ Some put → IsBelow ends (last_rank put) (slice_index leaves k)
  leaf_of k put at =
      let within = slice_get_within puts k put at in
      let count = of.count in
      let l = found_at leaves k (omega arith) in
      subst (λ x. IsBelow ends (last_rank put) x) (sym (get_or_from_slice_get leaves k l.0 0 l.1)) (of.each k l.0 put at l.1)

  can_read : (put : Put) → IsFitPut put → put_rank put ≤ value_rank hit.key hit.value hit.end → value_rank hit.key hit.value hit.start ≤ last_rank put → CanRead hit put
  can_read put small low high =
      let key : put.key ≡ hit.key = same_key hit.key hit.value hit.start put.key put.value put.dead put.start hit.end fit.value small.value fit.start small.dead small.start fit.end high low in
      let low' : value_rank hit.key put.value put.start ≤ value_rank hit.key hit.value hit.end = subst (λ k. value_rank k put.value put.start ≤ value_rank hit.key hit.value hit.end) key low in
      let high' : value_rank hit.key hit.value hit.start ≤ value_rank hit.key put.value put.dead = subst (λ k. value_rank hit.key hit.value hit.start ≤ value_rank k put.value put.dead) key high in
      let value : put.value ≡ hit.value = same_value hit.key hit.value hit.start put.value put.dead put.start hit.end fit.start small.dead small.start fit.end high' low' in
      let low'' : value_rank hit.key hit.value put.start ≤ value_rank hit.key hit.value hit.end = subst (λ v. value_rank hit.key v put.start ≤ value_rank hit.key hit.value hit.end) value low' in
      let high'' : value_rank hit.key hit.value hit.start ≤ value_rank hit.key hit.value put.dead = subst (λ v. value_rank hit.key hit.value hit.start ≤ value_rank hit.key v put.dead) value high' in
      record { key = key; value = value; begun = omega arith; stands = omega arith }

  -- a put from the hit's leaf on that has entered and is live
  pub from_gives : (k : ℕ) → IsFrom puts leaves upto leaf hit.time k → GivesAt puts hit k
  from_gives k from =
      let entered = from.entered in
      let bound = split.bound in
      let p = found_at puts k (omega arith) in
      let low = split.low k p.0 entered p.1 in
      let high = leaf_after ends (last_rank p.0) (value_rank hit.key hit.value hit.start) (slice_index leaves k) leaf (are.all k p.0 p.1) (leaf_of k p.0 p.1) below from.from in
      record {
        put = p.0;
        at = p.1;
        reads = can_read p.0 (all_at IsFitPut puts k p.0 order.fit p.1) low high;
        live = subst (λ e. IsTrue (is_live e hit.time)) (expiry_is puts k p.0 p.1) from.live;
      }

  enters : (put : Put) → CanRead hit put → put_rank put ≤ value_rank hit.key hit.value hit.end
  enters put reads =
      let begun = reads.begun in
      subst (λ k. value_rank k put.value put.start ≤ value_rank hit.key hit.value hit.end) (sym reads.key) (subst (λ v. value_rank hit.key v put.start ≤ value_rank hit.key hit.value hit.end) (sym reads.value) (omega arith))

  lasts : (put : Put) → CanRead hit put → value_rank hit.key hit.value hit.start ≤ last_rank put
  lasts put reads =
      let stands = reads.stands in
      subst (λ k. value_rank hit.key hit.value hit.start ≤ value_rank k put.value put.dead) (sym reads.key) (subst (λ v. value_rank hit.key hit.value hit.start ≤ value_rank hit.key v put.dead) (sym reads.value) (omega arith))

  pub gives_from : (k : ℕ) → GivesAt puts hit k → IsFrom puts leaves upto leaf hit.time k
  gives_from k gives = record {
    entered = elim (cases_lt k upto) [
      | inl less ↦ less
      | inr not ↦
          let above = split.high k gives.put (omega arith) gives.at in
          let low = enters gives.put gives.reads in
          absurd (omega arith)
    ];
    from = leaf_before ends (last_rank gives.put) (value_rank hit.key hit.value hit.start) (slice_index leaves k) leaf (leaf_of k gives.put gives.at) below (lasts gives.put gives.reads);
    live = subst (λ e. IsTrue (is_live e hit.time)) (sym (expiry_is puts k gives.put gives.at)) gives.live;
  }
