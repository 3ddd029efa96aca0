-- Values that nobody put, and the least ranks of the calls of each key.
use Rattle.std.proofs.Common.{◌≡◌, ℕ, ◌+◌, ◌*◌, ◌^◌, ◌<◌, ◌≤◌, ◌⊎◌, ◌↔◌, leb, min, Some, List, length, replicate, set, refl, sym, ap, ◌∙◌, subst, arith, inl, inr}
use Rattle.std.specs.Prelude.{All, Contains, IsTrue, slice_get}
use Rattle.std.specs.List.Sorted.{IsNonDecreasingBy, IsPermutation}
use Rattle.std.proofs.lemmas.Bool.{cases_eq, cases_lt, le-leb, leb-true}
use Rattle.std.proofs.lemmas.List.{get_or-replicate, length-replicate, length-set}
use Rattle.std.proofs.lemmas.Option.{get_or_from_slice_get, same_Some, slice_get_within}
use Rattle.certificate_finder.specs.declared.numbered_call.NumberedCall.{NumberedCall}
use Rattle.certificate_finder.specs.Leaves.{itself}
use Rattle.certificate_finder.specs.Lists.{Lists, TellsOne}
use Rattle.certificate_finder.specs.Putting.{Putting}
use Rattle.certificate_finder.specs.Steps.{IsFit}
use Rattle.certificate_finder.specs.WarmSteps.{ArePairs, AreLeast, HasRank, IsFirstOf, IsLeast, IsRankIf, IsTurn, IsUnlisted, IsWarmStep, IsWriteEnd, ReadsUnput, TellsPair, no_rank, pair_of, turn_at}
use Rattle.certificate_finder.proofs.EndLemmas.{at_set_other, at_set_same, found_at}
use Rattle.certificate_finder.proofs.Listing.{all_at, index_of, lists_permuted, same_at}

-- ---- pairs

pub are_pairs : (steps : List NumberedCall) (made pairs : List ℕ) → Lists steps Putting TellsPair (length steps) made → IsPermutation made pairs → IsNonDecreasingBy itself pairs → ArePairs steps pairs
are_pairs steps made pairs lists moved sorted = record { lists = lists_permuted steps Putting TellsPair (length steps) made pairs moved lists; sorted = sorted }

same_numbers : (k v l w : ℕ) → v < 2 ^ 32 → w < 2 ^ 32 → k * 4294967296 + v ≡ l * 4294967296 + w → (k ≡ l) × (v ≡ w)
same_numbers k v l w a b e = (omega arith, omega arith)

module _ (steps : List NumberedCall) (pairs : List ℕ) (are : ArePairs steps pairs) where
  -- a hit whose pair is not listed reads what nobody put, and the other way round
  pub unput_of : (step : NumberedCall) → IsUnlisted pairs step → ReadsUnput steps step
  unput_of step un = record {
    kind = un.0;
    unput = λ q put at puts key value.
        let told = are.lists.complete q put (slice_get_within steps q put at) at puts in
        let pair : pair_of put ≡ pair_of step = ap (λ k. k * 4294967296 + put.value) key ∙ ap (λ v. step.key * 4294967296 + v) value in
        un.1 (subst (λ n. Contains pairs n) (told.told ∙ pair) told.listed);
  }

  pub unlisted_of : All IsFit steps → (p : ℕ) (step : NumberedCall) → slice_get steps p ≡ Some step → ReadsUnput steps step → IsUnlisted pairs step
  unlisted_of fit p step at reads = (
    reads.kind,
    λ has.
        let k = index_of pairs (pair_of step) has in
        let one = all_at (TellsOne steps Putting TellsPair) pairs k.0 (pair_of step) are.lists.sound k.1 in
        let a = all_at IsFit steps p step fit at in
        let b = all_at IsFit steps one.position one.step fit one.at in
        let same = same_numbers step.key step.value one.step.key one.step.value a.value b.value one.told in
        reads.unput one.position one.step one.at one.is_wanted (sym same.0) (sym same.1),
  )

-- ---- the least ranks of the calls of each key

pub rank_once : (wanted : Type 0) (value one other : ℕ) → IsRankIf wanted value one → IsRankIf wanted value other → one ≡ other
rank_once wanted value one other a b = elim a [
  | inl x ↦ elim b [ inl y ↦ x.1 ∙ sym y.1 | inr y ↦ absurd (y.0 x.0) ]
  | inr x ↦ elim b [ inl y ↦ absurd (x.0 y.0) | inr y ↦ x.1 ∙ sym y.1 ]
]

none_at : (keys key rank : ℕ) → slice_get (replicate keys no_rank) key ≡ Some rank → rank ≡ no_rank
none_at keys key rank at =
    let within = slice_get_within (replicate keys no_rank) key rank at in
    let len : length (replicate keys no_rank) ≡ keys = length-replicate keys no_rank in
    sym (get_or_from_slice_get (replicate keys no_rank) key rank rank at) ∙ get_or-replicate keys key no_rank rank (omega arith)

module _ (R : ℕ → NumberedCall → ℕ → Type 0) (once : (p : ℕ) (s : NumberedCall) (a b : ℕ) → R p s a → R p s b → a ≡ b) (steps : List NumberedCall) where
  pub least_begins : (least : List ℕ) (keys : ℕ) → All (λ step. step.key < keys) steps → least ≡ replicate keys no_rank → AreLeast R steps 0 least
  least_begins least keys fit none = record {
    keys = subst (λ n. All (λ step. step.key < n) steps) (sym (ap length none ∙ length-replicate keys no_rank)) fit;
    each = λ key rank at. record { below = λ p s r less at_s of_key is. absurd (omega arith); is = inl (none_at keys key rank (ap (λ xs. slice_get xs key) (sym none) ∙ at)) };
  }

  pub least_all : (upto : ℕ) (least : List ℕ) → AreLeast R steps upto least → length steps ≤ upto → AreLeast R steps (length steps) least
  least_all upto least had all = record {
    keys = had.keys;
    each = λ key rank at.
        let old = had.each key rank at in
        record { below = λ p s r less at_s of_key is. old.below p s r (omega arith) at_s of_key is; is = old.is };
  }

  module _ (upto : ℕ) (step : NumberedCall) (rank known new : ℕ) (least : List ℕ) (had : AreLeast R steps upto least) (at : slice_get steps upto ≡ Some step) (is : R upto step rank) (known_at : slice_get least step.key ≡ Some known) (new_is : new ≡ min known rank) where
    low_known : new ≤ known
    low_known = omega (arith, new_is)

    low_rank : new ≤ rank
    low_rank = omega (arith, new_is)

    one_of : (new ≡ known) ⊎ (new ≡ rank)
    one_of = elim (cases_lt rank known) [ inl less ↦ inr (omega (arith, new_is)) | inr not ↦ inl (omega (arith, new_is)) ]

    -- the least of the call's key
    here : IsLeast R steps (upto + 1) step.key new
    here =
        let old = had.each step.key known known_at in
        record {
          below = λ p s r less at_s of_key is_r. elim (cases_eq p upto) [
            | inl same ↦
                let it : s ≡ step = same_at steps p upto s step same at_s at in
                let e : r ≡ rank = once upto step r rank (subst (λ q. R q step r) same (subst (λ t. R p t r) it is_r)) is in
                let l = low_rank in omega (arith, e, l)
            | inr other ↦ let b = old.below p s r (omega arith) at_s of_key is_r in let l = low_known in omega (arith, b, l)
          ];
          is = elim one_of [
            | inl same ↦ subst (λ n. (n ≡ no_rank) ⊎ HasRank R steps step.key n) (sym same) old.is
            | inr same ↦ subst (λ n. (n ≡ no_rank) ⊎ HasRank R steps step.key n) (sym same) (inr (record { position = upto; step = step; at = at; of_key = refl; is = is }))
          ];
        }

    pub least_more : AreLeast R steps (upto + 1) (set least step.key new)
    least_more = record {
      keys = subst (λ n. All (λ s. s.key < n) steps) (sym (length-set least step.key new)) had.keys;
      each = λ key r at_r. elim (cases_eq key step.key) [
        | inl same ↦
            let e : r ≡ new = at_set_same least step.key new key r same at_r in
            subst (λ k. IsLeast R steps (upto + 1) k r) (sym same) (subst (λ n. IsLeast R steps (upto + 1) step.key n) (sym e) here)
        | inr other ↦
            let old = had.each key r (at_set_other least step.key new key r other at_r) in
            record {
              below = λ p s n less at_s of_key is_n. elim (cases_eq p upto) [
                | inl same ↦ absurd (other (sym of_key ∙ ap (λ (t : NumberedCall). t.key) (same_at steps p upto s step same at_s at)))
                | inr before ↦ old.below p s n (omega arith) at_s of_key is_n
              ];
              is = old.is;
            }
      ];
    }

-- ---- the first hit of a key whose value nobody put

-- what a hit is whose turn is the first of its key
pub first_test : (pairs turns ends : List ℕ) (position : ℕ) (step : NumberedCall) (turn first end : ℕ) → IsUnlisted pairs step → turn ≡ turn_at position step → slice_get turns step.key ≡ Some first → turn ≡ first → slice_get ends step.key ≡ Some end → IsTrue (leb step.start end) ↔ IsFirstOf pairs turns ends position step
first_test pairs turns ends position step turn first end un is found same end_at = (
  λ test. record { unput = un; turn = found ∙ ap Some (sym same ∙ is); end = end; end_at = end_at; unwritten = leb-true step.start end test },
  λ it. le-leb step.start end (let e : it.end ≡ end = same_Some it.end end (sym it.end_at ∙ end_at) in let u = it.unwritten in omega (arith, e, u)),
)

small_turn : (start position : ℕ) → start < 2 ^ 64 → position < 2 ^ 31 → start * 4294967296 + position < no_rank
small_turn start position fit few = omega arith

module _ (steps : List NumberedCall) (pairs turns ends : List ℕ) (fit : All IsFit steps) (few : length steps < 2 ^ 31) (are : ArePairs steps pairs) (first_turns : AreLeast (IsTurn pairs) steps (length steps) turns) (first_ends : AreLeast IsWriteEnd steps (length steps) ends) (position : ℕ) where
  pub warm_of : (step : NumberedCall) → slice_get steps position ≡ Some step → IsFirstOf pairs turns ends position step → IsWarmStep steps position
  warm_of step at is = record {
    step = step;
    at = at;
    unput = unput_of steps pairs are step is.unput;
    unwritten = λ q write at_q writes key.
        let l = first_ends.each step.key is.end is.end_at in
        let b = l.below q write write.end (slice_get_within steps q write at_q) at_q key (inl (writes, refl)) in
        let u = is.unwritten in
        omega arith;
    first = λ q hit at_q reads key.
        let l = first_turns.each step.key (turn_at position step) is.turn in
        l.below q hit (turn_at q hit) (slice_get_within steps q hit at_q) at_q key (inl (unlisted_of steps pairs are fit q hit at_q reads, refl));
  }

  module _ (warm : IsWarmStep steps position) where
    step_fit : IsFit warm.step
    step_fit = all_at IsFit steps position warm.step fit warm.at

    unlisted : IsUnlisted pairs warm.step
    unlisted = unlisted_of steps pairs are fit position warm.step warm.at warm.unput

    within : position < length steps
    within = slice_get_within steps position warm.step warm.at

    small : turn_at position warm.step < no_rank
    small = let s = step_fit.start in let p = within in small_turn warm.step.start position s (omega arith)

    -- the least turn of its key is its own
    turn_is : (turn : ℕ) → slice_get turns warm.step.key ≡ Some turn → turn ≡ turn_at position warm.step
    turn_is turn found =
        let l = first_turns.each warm.step.key turn found in
        let low : turn ≤ turn_at position warm.step = l.below position warm.step (turn_at position warm.step) within warm.at refl (inl (unlisted, refl)) in
        let s = small in
        elim l.is [
          | inl none ↦ absurd (omega (arith, none, low, s))
          | inr has ↦ elim has.is [
            | inl one ↦
                let first : turn_at position warm.step ≤ turn_at has.position has.step = warm.first has.position has.step has.at (unput_of steps pairs are has.step one.0) has.of_key in
                let e : turn ≡ turn_at has.position has.step = one.1 in
                omega (arith, first, e, low)
            | inr none ↦ let e : turn ≡ no_rank = none.1 in absurd (omega (arith, e, low, s))
          ]
        ]

    end_is : (end : ℕ) → slice_get ends warm.step.key ≡ Some end → warm.step.start ≤ end
    end_is end found =
        let l = first_ends.each warm.step.key end found in
        let s = step_fit.start in
        elim l.is [
          | inl none ↦ omega (arith, none, s)
          | inr has ↦ elim has.is [
            | inl one ↦
                let u = warm.unwritten has.position has.step has.at one.0 has.of_key in
                let e : end ≡ has.step.end = one.1 in
                omega (arith, u, e)
            | inr none ↦ let e : end ≡ no_rank = none.1 in omega (arith, e, s)
          ]
        ]

    first_of_warm : IsFirstOf pairs turns ends position warm.step
    first_of_warm =
        let t = found_at turns warm.step.key (all_at (λ (s : NumberedCall). s.key < length turns) steps position warm.step first_turns.keys warm.at) in
        let e = found_at ends warm.step.key (all_at (λ (s : NumberedCall). s.key < length ends) steps position warm.step first_ends.keys warm.at) in
        record {
          unput = unlisted;
          turn = t.1 ∙ ap Some (turn_is t.0 t.1);
          end = e.0;
          end_at = e.1;
          unwritten = end_is e.0 e.1;
        }

    pub first_from : (step : NumberedCall) → slice_get steps position ≡ Some step → IsFirstOf pairs turns ends position step
    first_from step at = subst (λ s. IsFirstOf pairs turns ends position s) (same_at steps position position warm.step step refl warm.at at) first_of_warm
