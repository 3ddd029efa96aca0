-- The writes of a history, and which of them ends first after a call.
use Rattle.std.proofs.Common.{◌≡◌, ◌≢◌, ℕ, ◌+◌, ◌-◌, ◌^◌, ◌<◌, ◌≤◌, Some, None, List, length, get_or, set, refl, sym, ap, ◌∙◌, subst, arith, inl, inr}
use Rattle.std.specs.Prelude.{All, slice_get}
use Rattle.std.specs.List.Sorted.{IsNonDecreasingBy, IsPermutation}
use Rattle.std.proofs.lemmas.Bool.{cases_eq, cases_lt}
use Rattle.std.proofs.lemmas.List.{get_or-set_same, get_or-set_other, length-set}
use Rattle.std.proofs.lemmas.List.Elements.{All-weaker}
use Rattle.std.proofs.lemmas.Option.{get_or_from_slice_get, slice_get_within, slice_get-get_or}
use Rattle.certificate_finder.specs.declared.numbered_call.NumberedCall.{NumberedCall}
use Rattle.certificate_finder.specs.declared.write.Write.{Write}
use Rattle.certificate_finder.specs.Lists.{TellsOne, Lists}
use Rattle.certificate_finder.specs.Steps.{IsFit}
use Rattle.certificate_finder.specs.Writing.{AreWrites, AreSoonest, EndsFirst, IsFirstOver, IsSplit, TellsWrite, Writing, key_rank, write_rank}
use Rattle.certificate_finder.proofs.Listing.{all_at, all_from_at, contains_at, same_at, lists_permuted}
use Rattle.certificate_finder.proofs.Ranking.{rank_at, key_le}

-- the listed writes, sorted
pub are_writes : (steps : List NumberedCall) (xs ys : List Write) → All IsFit steps → Lists steps Writing TellsWrite (length steps) xs → IsPermutation xs ys → IsNonDecreasingBy write_rank ys → AreWrites steps ys
are_writes steps xs ys fit had moved sorted =
    let lists = lists_permuted steps Writing TellsWrite (length steps) xs ys moved had in
    record {
      lists = lists;
      sorted = sorted;
      fit = All-weaker (TellsOne steps Writing TellsWrite) (λ w. w.start < 2 ^ 64) (λ w one. let f : IsFit one.step = all_at IsFit steps one.position one.step fit one.at in let e : w.start ≡ one.step.start = one.told.start in omega arith) ys lists.sound;
    }

-- ---- the one that ends first

module _ (writes : List Write) (sorted : IsNonDecreasingBy write_rank writes) (fit : All (λ w. w.start < 2 ^ 64) writes) where
  -- after a write of another key no write of the key comes
  no_more : (index k : ℕ) (write next other : Write) → slice_get writes index ≡ Some write → slice_get writes (index + 1) ≡ Some next → next.key ≢ write.key → index < k → slice_get writes k ≡ Some other → other.key ≢ write.key
  no_more index k write next other at next_at differs less other_at same =
      let one = rank_at write_rank writes index (index + 1) write next sorted (omega arith) at next_at in
      let two = rank_at write_rank writes (index + 1) k next other sorted (omega arith) next_at other_at in
      let a = key_le write.key write.start next.key next.start (all_at (λ w. w.start < 2 ^ 64) writes (index + 1) next fit next_at) one in
      let b = key_le next.key next.start other.key other.start (all_at (λ w. w.start < 2 ^ 64) writes k other fit other_at) two in
      differs (omega arith)

  pub first_alone : (index : ℕ) (write : Write) → slice_get writes index ≡ Some write → ((k : ℕ) (other : Write) → index < k → slice_get writes k ≡ Some other → other.key ≢ write.key) → EndsFirst writes index index
  first_alone index write at none = record {
    write = write;
    first = write;
    at = at;
    best_at = at;
    later = omega arith;
    key = refl;
    least = λ k other le other_at key. elim (cases_eq k index) [
      | inl same ↦ let is = same_at writes index k write other (sym same) at other_at in subst (λ (o : Write). write.end ≤ o.end) is (omega arith)
      | inr later ↦ absurd (none k other (omega arith) other_at key)
    ];
  }

  pub first_of_end : (index : ℕ) (write : Write) → slice_get writes index ≡ Some write → index + 1 ≡ length writes → EndsFirst writes index index
  first_of_end index write at end = first_alone index write at (λ k other less other_at. let within = slice_get_within writes k other other_at in absurd (omega arith))

  pub first_of_key : (index : ℕ) (write next : Write) → slice_get writes index ≡ Some write → slice_get writes (index + 1) ≡ Some next → next.key ≢ write.key → EndsFirst writes index index
  first_of_key index write next at next_at differs = first_alone index write at (λ k other less other_at. no_more index k write next other at next_at differs less other_at)

  pub first_later : (index best : ℕ) (write next later : Write) → slice_get writes index ≡ Some write → slice_get writes (index + 1) ≡ Some next → next.key ≡ write.key → EndsFirst writes (index + 1) best → slice_get writes best ≡ Some later → later.end < write.end → EndsFirst writes index best
  first_later index best write next later at next_at key had later_at sooner =
      let is_next = same_at writes (index + 1) (index + 1) had.write next refl had.at next_at in
      let is_later = same_at writes best best had.first later refl had.best_at later_at in
      let same_key : had.write.key ≡ write.key = ap (λ (w : Write). w.key) is_next ∙ key in
      let same_end : had.first.end ≡ later.end = ap (λ (w : Write). w.end) is_later in
      record {
        write = write;
        first = had.first;
        at = at;
        best_at = had.best_at;
        later = let le = had.later in omega arith;
        key = had.key ∙ same_key;
        least = λ k other le other_at other_key. elim (cases_eq k index) [
          | inl same ↦ let is = same_at writes index k write other (sym same) at other_at in subst (λ (o : Write). had.first.end ≤ o.end) is (omega arith)
          | inr more ↦ had.least k other (omega arith) other_at (other_key ∙ sym same_key)
        ];
      }

  pub first_here : (index best : ℕ) (write next later : Write) → slice_get writes index ≡ Some write → slice_get writes (index + 1) ≡ Some next → next.key ≡ write.key → EndsFirst writes (index + 1) best → slice_get writes best ≡ Some later → write.end ≤ later.end → EndsFirst writes index index
  first_here index best write next later at next_at key had later_at sooner =
      let is_next = same_at writes (index + 1) (index + 1) had.write next refl had.at next_at in
      let is_later = same_at writes best best had.first later refl had.best_at later_at in
      let same_key : had.write.key ≡ write.key = ap (λ (w : Write). w.key) is_next ∙ key in
      let same_end : had.first.end ≡ later.end = ap (λ (w : Write). w.end) is_later in
      record {
        write = write;
        first = write;
        at = at;
        best_at = at;
        later = omega arith;
        key = refl;
        least = λ k other le other_at other_key. elim (cases_eq k index) [
          | inl same ↦ let is = same_at writes index k write other (sym same) at other_at in subst (λ (o : Write). write.end ≤ o.end) is (omega arith)
          | inr more ↦ let least = had.least k other (omega arith) other_at (other_key ∙ sym same_key) in omega arith
        ];
      }

  -- ---- the write over a call

  low_start : (index k key end : ℕ) (write : Write) → IsSplit write_rank writes (key_rank key end) index → slice_get writes k ≡ Some write → write.key ≡ key → end < write.start → index ≤ k
  low_start index k key end write split at same behind = elim (cases_lt k index) [
    | inl less ↦ let low : key_rank write.key write.start ≤ key_rank key end = split.low k write less at in absurd (omega arith)
    | inr not ↦ omega arith
  ]

  pub none_past : (index key end : ℕ) → IsSplit write_rank writes (key_rank key end) index → index ≡ length writes → IsFirstOver writes key end None
  none_past index key end split last = all_from_at (λ w. w.key ≡ key → ¬ (end < w.start)) writes (λ k w at same behind.
      let from = low_start index k key end w split at same behind in
      let within = slice_get_within writes k w at in
      omega arith)

  pub none_other : (index key end : ℕ) (write : Write) → IsSplit write_rank writes (key_rank key end) index → slice_get writes index ≡ Some write → write.key ≢ key → end < 2 ^ 64 → IsFirstOver writes key end None
  none_other index key end write split at differs small = all_from_at (λ w. w.key ≡ key → ¬ (end < w.start)) writes (λ k w w_at same behind.
      let from = low_start index k key end w split w_at same behind in
      let high = split.high index write (omega arith) at in
      let start = all_at (λ w. w.start < 2 ^ 64) writes index write fit at in
      let a = key_le key end write.key write.start start (omega arith) in
      let le = rank_at write_rank writes index k write w sorted from at w_at in
      let b = key_le write.key write.start w.key w.start (all_at (λ w. w.start < 2 ^ 64) writes k w fit w_at) le in
      differs (omega arith))

  pub some_over : (index best key end : ℕ) (write first : Write) → IsSplit write_rank writes (key_rank key end) index → slice_get writes index ≡ Some write → write.key ≡ key → EndsFirst writes index best → slice_get writes best ≡ Some first → IsFirstOver writes key end (Some first)
  some_over index best key end write first split at same had first_at =
      let is_write = same_at writes index index had.write write refl had.at at in
      let is_first = same_at writes best best had.first first refl had.best_at first_at in
      let write_key : had.write.key ≡ key = ap (λ (w : Write). w.key) is_write ∙ same in
      let first_key : first.key ≡ key = ap (λ (w : Write). w.key) (sym is_first) ∙ had.key ∙ write_key in
      let high = split.high best first had.later first_at in
      record {
        listed = contains_at writes best first first_at;
        of_key = first_key;
        behind = omega arith;
        least = all_from_at (λ w. w.key ≡ key → end < w.start → first.end ≤ w.end) writes (λ k w w_at key_is behind.
            let from = low_start index k key end w split w_at key_is behind in
            subst (λ (f : Write). f.end ≤ w.end) is_first (had.least k w from w_at (key_is ∙ sym write_key)));
      }

-- ---- one more index is done

pub soonest_more : (writes : List Write) (from index best : ℕ) (soonest : List ℕ) → AreSoonest writes (index + 1) soonest → index < length writes → EndsFirst writes index best → AreSoonest writes index (set soonest index best)
soonest_more writes from index best soonest had within first = record {
  count = length-set soonest index best ∙ had.count;
  each = λ k other le at. elim (cases_eq k index) [
    | inl same ↦
        let here : get_or (set soonest index best) index other ≡ best = get_or-set_same soonest index best other (let e = had.count in omega arith) in
        let there : get_or (set soonest index best) k other ≡ other = get_or_from_slice_get (set soonest index best) k other other at in
        let is : best ≡ other = sym here ∙ ap (λ q. get_or (set soonest index best) q other) (sym same) ∙ there in
        subst (λ o. EndsFirst writes k o) is (subst (λ q. EndsFirst writes q best) (sym same) first)
    | inr more ↦
        let in' = slice_get_within (set soonest index best) k other at in
        let len = length-set soonest index best in
        let there : get_or (set soonest index best) k other ≡ other = get_or_from_slice_get (set soonest index best) k other other at in
        let old : get_or soonest k other ≡ other = sym (get_or-set_other soonest index k best other more) ∙ there in
        had.each k other (omega arith) (slice_get-get_or soonest k other (omega arith) ∙ ap Some old)
  ];
}

pub soonest_begin : (writes : List Write) (soonest : List ℕ) → length soonest ≡ length writes → AreSoonest writes (length writes - 0) soonest
soonest_begin writes soonest len = record { count = len; each = λ k best le at. absurd (let within = slice_get_within soonest k best at in omega arith) }

-- the invariant of the loop, as the next index wants it
pub soonest_next : (writes : List Write) (done : ℕ) (lent soonest : List ℕ) → lent ≡ soonest → done < length writes → AreSoonest writes (length writes - done) soonest → AreSoonest writes (length writes - 1 - done + 1) lent
soonest_next writes done lent soonest same less had =
    let e : length writes - done ≡ length writes - 1 - done + 1 = omega arith in
    subst (λ s. AreSoonest writes (length writes - 1 - done + 1) s) (sym same) (subst (λ n. AreSoonest writes n soonest) e had)

pub soonest_end : (writes : List Write) (done best : ℕ) (lent soonest : List ℕ) → lent ≡ soonest → done < length writes → AreSoonest writes (length writes - done) soonest → EndsFirst writes (length writes - 1 - done) best → AreSoonest writes (length writes - (done + 1)) (set soonest (length writes - 1 - done) best)
soonest_end writes done best lent soonest same less had first =
    let e : length writes - done ≡ length writes - 1 - done + 1 = omega arith in
    let f : length writes - 1 - done ≡ length writes - (done + 1) = omega arith in
    subst (λ n. AreSoonest writes n (set soonest (length writes - 1 - done) best)) f (soonest_more writes 0 (length writes - 1 - done) best soonest (subst (λ n. AreSoonest writes n soonest) e had) (omega arith) first)

pub later_within : (writes : List Write) (index best : ℕ) → EndsFirst writes index best → best < length writes
later_within writes index best first = slice_get_within writes best first.first first.best_at
