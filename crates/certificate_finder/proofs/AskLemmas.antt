-- The hits of a history in the order of their ends, and what each can have read.
use Rattle.std.proofs.Common.{◌≡◌, ℕ, ◌+◌, ◌*◌, ◌<◌, ◌≤◌, Some, List, length, replicate, set, sym, ap, ◌∙◌, subst, arith, inl, inr}
use Rattle.std.specs.Prelude.{All, slice_get}
use Rattle.std.specs.List.Sorted.{IsNonDecreasingBy, IsPermutation}
use Rattle.std.proofs.lemmas.Bool.{cases_eq, cases_lt}
use Rattle.std.proofs.lemmas.List.{get_or-replicate, length-replicate, length-set}
use Rattle.std.proofs.lemmas.Option.{get_or_from_slice_get, slice_get_within}
use Rattle.certificate_finder.specs.declared.best.Best.{Best}
use Rattle.certificate_finder.specs.declared.best.Best.TheVariants.{Empty}
use Rattle.certificate_finder.specs.declared.put.Put.{Put}
use Rattle.certificate_finder.specs.declared.ranked.Ranked.{Ranked}
use Rattle.certificate_finder.specs.declared.readable.Readable.{Readable}
use Rattle.certificate_finder.specs.declared.tree_shape.TreeShape.{TreeShape}
use Rattle.certificate_finder.specs.declared.numbered_call.NumberedCall.{NumberedCall}
use Rattle.certificate_finder.specs.Asking.{AreAsked, AreReadings, Asking, TellsHit}
use Rattle.certificate_finder.specs.Bests.{AreAmong}
use Rattle.certificate_finder.specs.Lists.{Lists, TellsOne}
use Rattle.certificate_finder.specs.Putting.{GivesAt, put_rank, value_rank}
use Rattle.certificate_finder.specs.Readings.{Says}
use Rattle.certificate_finder.specs.Trees.{IsTree}
use Rattle.certificate_finder.specs.Writing.{IsSplit}
use Rattle.certificate_finder.proofs.EndLemmas.{at_set_other, at_set_same, found_at}
use Rattle.certificate_finder.proofs.Listing.{all_at, all_from_at, index_of, lists_permuted, same_at}
use Rattle.certificate_finder.proofs.Ranking.{rank_at}
use Rattle.certificate_finder.proofs.TreeLemmas.{tree_begins}

pub are_asked : (steps : List NumberedCall) (xs ys : List Ranked) → Lists steps Asking TellsHit (length steps) xs → IsPermutation xs ys → IsNonDecreasingBy (λ (hit : Ranked). hit.rank) ys → AreAsked steps ys
are_asked steps xs ys had moved sorted = record { lists = lists_permuted steps Asking TellsHit (length steps) xs ys moved had; sorted = sorted }

-- the hits below an index have their readings, and the puts below another one have entered the tree
pub record ReadSoFar (steps : List NumberedCall) (puts : List Put) (leaves : List ℕ) (shape : TreeShape) (asked : List Ranked) (index taken : ℕ) (nodes : List Best) (readings : List Readable) : Type 0 where
  pub bound : taken ≤ length puts
  pub low : (k j : ℕ) (put : Put) (hit : Ranked) → k < taken → index ≤ j → slice_get puts k ≡ Some put → slice_get asked j ≡ Some hit → put_rank put ≤ hit.rank
  pub nodes_count : length nodes ≡ 2 * shape.width
  pub among : All (AreAmong puts) nodes
  pub tree : IsTree puts leaves shape taken nodes
  pub count : length readings ≡ length steps
  pub done : (j : ℕ) (hit : Ranked) (step : NumberedCall) (reading : Readable) → j < index → slice_get asked j ≡ Some hit → slice_get steps hit.position ≡ Some step → slice_get readings hit.position ≡ Some reading → Says (GivesAt puts step) reading

-- before the first hit no put has entered
empty_at : (n k : ℕ) (best : Best) → slice_get (replicate n Empty) k ≡ Some best → best ≡ Empty
empty_at n k best at =
    let within = slice_get_within (replicate n Empty) k best at in
    let len : length (replicate n Empty) ≡ n = length-replicate n Empty in
    sym (get_or_from_slice_get (replicate n Empty) k best best at) ∙ get_or-replicate n k Empty best (omega arith)

pub read_begins : (steps : List NumberedCall) (puts : List Put) (leaves : List ℕ) (shape : TreeShape) (asked : List Ranked) (nodes : List Best) (readings : List Readable) → nodes ≡ replicate (2 * shape.width) Empty → length readings ≡ length steps → ReadSoFar steps puts leaves shape asked 0 0 nodes readings
read_begins steps puts leaves shape asked nodes readings is count =
    let empty : (k : ℕ) (best : Best) → slice_get nodes k ≡ Some best → best ≡ Empty = λ k best at. empty_at (2 * shape.width) k best (ap (λ ns. slice_get ns k) (sym is) ∙ at) in
    record {
      bound = omega arith;
      low = λ k j put hit less le put_at at. absurd (omega arith);
      nodes_count = ap length is ∙ length-replicate (2 * shape.width) Empty;
      among = all_from_at (λ b. AreAmong puts b) nodes (λ k best at. subst (λ b. AreAmong puts b) (sym (empty k best at)) tt);
      tree = tree_begins puts leaves shape nodes empty;
      count = count;
      done = λ j hit step reading less at step_at r_at. absurd (omega arith);
    }

module _ (steps : List NumberedCall) (puts : List Put) (leaves : List ℕ) (shape : TreeShape) (asked : List Ranked) (are : AreAsked steps asked) where
  -- the call of a hit that asks
  pub call_of : (j : ℕ) (hit : Ranked) → slice_get asked j ≡ Some hit → (step : NumberedCall) × (slice_get steps hit.position ≡ Some step) × (hit.rank ≡ value_rank step.key step.value step.end)
  call_of j hit at =
      let t = all_at (TellsOne steps Asking TellsHit) asked j hit are.lists.sound at in
      (t.step, ap (slice_get steps) t.told.is_at ∙ t.at, t.told.rank)

  module _ (index taken : ℕ) (nodes : List Best) (readings : List Readable) (had : ReadSoFar steps puts leaves shape asked index taken nodes readings) (hit : Ranked) (at : slice_get asked index ≡ Some hit) (upto : ℕ) (split : IsSplit put_rank puts hit.rank upto) where
    -- the puts that had entered begin no later than this hit ends
    pub goes_up : taken ≤ upto
    goes_up = elim (cases_lt upto taken) [
      | inr not ↦ omega arith
      | inl less ↦
          let bound = had.bound in
          let p = found_at puts upto (omega arith) in
          let low = had.low upto index p.0 hit less (omega arith) p.1 at in
          let high = split.high upto p.0 (omega arith) p.1 in
          absurd (omega arith)
    ]

    pub read_more : (step : NumberedCall) (reading : Readable) (new : List Best) → slice_get steps hit.position ≡ Some step → length new ≡ length nodes → All (AreAmong puts) new → IsTree puts leaves shape upto new → Says (GivesAt puts step) reading → ReadSoFar steps puts leaves shape asked (index + 1) upto new (set readings hit.position reading)
    read_more step reading new step_at len among tree says = record {
      bound = split.bound;
      low = λ k j put other less le put_at other_at.
          let a = split.low k put less put_at in
          let b = rank_at (λ (h : Ranked). h.rank) asked index j hit other are.sorted (omega arith) at other_at in
          omega arith;
      nodes_count = len ∙ had.nodes_count;
      among = among;
      tree = tree;
      count = length-set readings hit.position reading ∙ had.count;
      done = λ j other s r less other_at s_at r_at. elim (cases_eq other.position hit.position) [
        | inl same ↦
            let is : r ≡ reading = at_set_same readings hit.position reading other.position r same r_at in
            let e : step ≡ s = same_at steps hit.position other.position step s (sym same) step_at s_at in
            subst (λ x. Says (GivesAt puts s) x) (sym is) (subst (λ x. Says (GivesAt puts x) reading) e says)
        | inr apart ↦ elim (cases_eq j index) [
          | inl here ↦ absurd (apart (ap (λ (h : Ranked). h.position) (same_at asked j index other hit here other_at at)))
          | inr before ↦ had.done j other s r (omega arith) other_at s_at (at_set_other readings hit.position reading other.position r apart r_at)
        ]
      ];
    }

  pub all_read : (index taken : ℕ) (nodes : List Best) (readings : List Readable) → ReadSoFar steps puts leaves shape asked index taken nodes readings → length asked ≤ index → AreReadings steps puts readings
  all_read index taken nodes readings had all = record {
    count = had.count;
    each = λ p step reading at at_reading asks.
        let t = are.lists.complete p step (slice_get_within steps p step at) at asks in
        let k = index_of asked t.item t.listed in
        let within = slice_get_within asked k.0 t.item k.1 in
        let here : p ≡ t.item.position = sym t.told.is_at in
        had.done k.0 t.item step reading (omega arith) k.1 (ap (slice_get steps) (sym here) ∙ at) (ap (slice_get readings) (sym here) ∙ at_reading);
  }
