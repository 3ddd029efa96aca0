-- What candidates that are kept by rank meet.
use Rattle.std.proofs.Common.{◌≡◌, ◌≢◌, ℕ, zero, suc, ◌+◌, ◌<◌, ◌≤◌, List, [], ◌∷◌, length, map, get_or, AllPairs, ◌↔◌, inl, inr, ⊎_elim, refl, sym, ap, subst, ◌∙◌, Some, Result, Ok, Err, IfOk, zero-add, add-zero, arith}
use Rattle.std.proofs.lemmas.List.{length-map}
use Rattle.std.proofs.lemmas.Option.{slice_get_within}
use Rattle.std.proofs.lemmas.List.Elements.{All-from_recursion, All-map}
use Rattle.std.proofs.lemmas.List.Kept.{AllPairs-cons}
use Rattle.std.proofs.lemmas.List.Sums.{sum_by-cons}
use Rattle.std.specs.List.{AllByRecursion, Contains, sum_by, slice_get, enumerate_from}
use Rattle.std.specs.Option.{option_map_or}
use Rattle.record_pages.specs.Sizes.{max_set_records}
use Rattle.policy_laws.specs.declared.item.Item.{Item}
use Rattle.policy_laws.specs.declared.job.Job.{Job}
use Rattle.policy_laws.specs.declared.candidate.Candidate.{Candidate}
use Rattle.policy_laws.specs.declared.choice.Choice.{Choice}
use Rattle.policy_laws.specs.Laws.{IsLawful, AllFit, size_at}
use Rattle.policy_laws.specs.Rank.{FitsBehind, KeepsByRank, choice_of, by_rank, fitting, candidates_by, plan_by_rank}
use Rattle.policy_laws.proofs.ListLaws.{total, Pairs, pairs_from, Among, Ranks, Differ, All_map, All-ranked_from, among-ranked_from, length-ranked_from, total-ranked_from, Pairs_differ-ranked_from, Pairs_ranks-ranked_from, Apart-none}
use Rattle.policy_laws.proofs.FittingLaws.{All-fitting, Pairs-fitting, total-fitting, length-fitting, all_fitting, exactly_fitting}

-- ---- the words of lists and their recursions

pairs_to : (R : Candidate → Candidate → Type 0) (xs : List Candidate) → Pairs R xs → AllPairs R xs
pairs_to R [] pairs = λ i j d before within. absurd (omega arith)
pairs_to R (x ∷ xs) pairs = AllPairs-cons R x xs (All-from_recursion (R x) xs pairs.0) (pairs_to R xs pairs.1)

contains_from : (z : Candidate) (xs : List Candidate) → Among z xs → Contains xs z
contains_from z [] h = absurd h
contains_from z (x ∷ xs) h =
    ⊎_elim (λ e. (zero, omega arith, e)) (λ later. let c = contains_from z xs later in (suc c.0, omega arith, c.2)) h

among_at : (z : Candidate) (xs : List Candidate) (k : ℕ) → k < length xs → get_or xs k z ≡ z → Among z xs
among_at z [] k within is = absurd (omega arith)
among_at z (x ∷ xs) zero within is = inl is
among_at z (x ∷ xs) (suc k) within is = inr (among_at z xs k (omega arith) is)

among_from : (z : Candidate) (xs : List Candidate) → Contains xs z → Among z xs
among_from z xs c = among_at z xs c.0 c.1 c.2

all_among : (xs : List Candidate) → AllByRecursion (λ z. Among z xs) xs
all_among [] = tt
all_among (x ∷ xs) = (inl refl, All_map (λ z. Among z xs) (λ z. Among z (x ∷ xs)) (λ z h. inr h) xs (all_among xs))

-- ---- the kept of all candidates

-- what fits of the candidates by rank is what is kept of them
pub keeps_by_rank : (room : ℕ) (all : List Candidate) → AllPairs (λ a b. a.item ≢ b.item) all → KeepsByRank room all (plan_by_rank room all)
keeps_by_rank room all differ = record {
  those = fitting room max_set_records (by_rank all);
  by_rank = record {
    among = All-from_recursion (Contains all) those (All_map (λ z. Among z all) (Contains all) (λ z. contains_from z all) those (All-fitting (λ z. Among z all) room max_set_records (by_rank all) (All-ranked_from (λ z. Among z all) [] all tt (all_among all))));
    ordered = pairs_to Ranks those (Pairs-fitting Ranks room max_set_records (by_rank all) ranks);
    exactly = All-from_recursion _ all (All_map (λ z. Among z all) _ exact all (all_among all));
  };
  listed = refl;
}
  where
    those : List Candidate
    those = fitting room max_set_records (by_rank all)

    ranks : Pairs Ranks (by_rank all)
    ranks = Pairs_ranks-ranked_from [] all tt (pairs_from Differ all differ) (Apart-none all)

    exact : (x : Candidate) → Among x all → Contains (fitting room max_set_records (by_rank all)) x ↔ FitsBehind room (fitting room max_set_records (by_rank all)) x
    exact x h =
        let e = exactly_fitting room max_set_records (by_rank all) ranks x (among-ranked_from x [] all (inr h)) in
        let there : Contains (fitting room max_set_records (by_rank all)) x → FitsBehind room (fitting room max_set_records (by_rank all)) x =
        λ c. let f = e.0 (among_from x (fitting room max_set_records (by_rank all)) c) in record { within = f.0; few = f.1 } in
        (there, (λ fit. contains_from x (fitting room max_set_records (by_rank all)) (e.1 (fit.within, fit.few))))

-- ---- candidates of items

-- the candidates of items numbered from n on
abbrev numbered : (ℕ → Item → Candidate) → ℕ → List Item → List Candidate
numbered candidate n items = map (λ (p : ℕ × Item). candidate p.0 p.1) (enumerate_from n items)

-- what a policy's candidates have of their items
pub record HasItems (candidate : ℕ → Item → Candidate) : Type 0 where
  pub number : (n : ℕ) (item : Item) → (candidate n item).item ≡ n
  pub size : (n : ℕ) (item : Item) → (candidate n item).size ≡ item.size

-- a candidate has the number and the size of an item
abbrev IsOf : List Item → Candidate → Type 0
IsOf all c = (c.item < length all) × (size_at all c.item ≡ c.size)

next : (n k : ℕ) → n + 1 + k ≡ n + suc k
next n k = omega arith

module _ (candidate : ℕ → Item → Candidate) (has : HasItems candidate) where
  length-numbered : (n : ℕ) (items : List Item) → length (numbered candidate n items) ≡ length items
  length-numbered n [] = refl
  length-numbered n (x ∷ xs) = ap suc (length-numbered (n + 1) xs)

  total-numbered : (n : ℕ) (items : List Item) → total (numbered candidate n items) ≡ sum_by (λ (item : Item). item.size) items
  total-numbered n [] = refl
  total-numbered n (x ∷ xs) =
      sum_by-cons (λ (c : Candidate). c.size) (candidate n x) (numbered candidate (n + 1) xs)
      ∙ ap (λ k. k + total (numbered candidate (n + 1) xs)) (has.size n x)
      ∙ ap (λ k. x.size + k) (total-numbered (n + 1) xs)
      ∙ sym (sum_by-cons (λ (item : Item). item.size) x xs)

  from_n : (n : ℕ) (items : List Item) → AllByRecursion (λ c. n ≤ c.item) (numbered candidate n items)
  from_n n [] = tt
  from_n n (x ∷ xs) = (subst (λ k. n ≤ k) (sym (has.number n x)) (omega arith), All_map (λ c. n + 1 ≤ c.item) (λ c. n ≤ c.item) (λ c h. omega arith) _ (from_n (n + 1) xs))

  differ-numbered : (n : ℕ) (items : List Item) → Pairs Differ (numbered candidate n items)
  differ-numbered n [] = tt
  differ-numbered n (x ∷ xs) =
      (All_map (λ c. n + 1 ≤ c.item) (Differ (candidate n x)) (λ c h e. let same = has.number n x in absurd (omega arith)) _ (from_n (n + 1) xs), differ-numbered (n + 1) xs)

  -- an item stands at its number among all
  stands : (all : List Item) (n : ℕ) (items : List Item) → ((k : ℕ) → slice_get all (n + k) ≡ slice_get items k) → AllByRecursion (IsOf all) (numbered candidate n items)
  stands all n [] same = tt
  stands all n (x ∷ xs) same =
      let here : slice_get all n ≡ Some x = ap (slice_get all) (sym (add-zero n)) ∙ same zero in
      let at : IsOf all (candidate n x) = (
        subst (λ k. k < length all) (sym (has.number n x)) (slice_get_within all n x here),
        ap (size_at all) (has.number n x) ∙ ap (λ o. option_map_or (λ (item : Item). item.size) o 0) here ∙ sym (has.size n x),
      ) in
      (at, stands all (n + 1) xs (λ k. ap (slice_get all) (next n k) ∙ same (suc k)))

  -- each number has its candidate
  has_number : (n k : ℕ) (items : List Item) → k < length items → (z : Candidate) × Among z (numbered candidate n items) × (z.item ≡ n + k)
  has_number n k [] within = absurd (omega arith)
  has_number n zero (x ∷ xs) within = (candidate n x, inl refl, has.number n x ∙ (omega arith))
  has_number n (suc k) (x ∷ xs) within = let r = has_number (n + 1) k xs (omega arith) in (r.0, inr r.1, r.2 ∙ (omega arith))

-- ---- choices of candidates

map_differ : (ks : List Candidate) → Pairs Differ ks → AllPairs (λ (a b : Choice). a.item ≢ b.item) (map choice_of ks)
map_differ [] pairs = λ i j d before within. absurd (omega arith)
map_differ (k ∷ ks) pairs =
    AllPairs-cons (λ (a b : Choice). a.item ≢ b.item) (choice_of k) (map choice_of ks)
    (All-map (λ (b : Choice). k.item ≢ b.item) choice_of ks (All-from_recursion (Differ k) ks pairs.0))
    (map_differ ks pairs.1)

map_total : (items : List Item) (ks : List Candidate) → AllByRecursion (IsOf items) ks → sum_by (λ (choice : Choice). size_at items choice.item) (map choice_of ks) ≡ total ks
map_total items [] all = refl
map_total items (k ∷ ks) all =
    sum_by-cons (λ (choice : Choice). size_at items choice.item) (choice_of k) (map choice_of ks)
    ∙ ap (λ n. n + sum_by (λ (choice : Choice). size_at items choice.item) (map choice_of ks)) all.0.1
    ∙ ap (λ n. k.size + n) (map_total items ks all.1)
    ∙ sym (sum_by-cons (λ (c : Candidate). c.size) k ks)

map_contains : (z : Candidate) (n : ℕ) (ks : List Candidate) → Among z ks → z.item ≡ n → Contains (map (λ (choice : Choice). choice.item) (map choice_of ks)) n
map_contains z n [] h is = absurd h
map_contains z n (k ∷ ks) h is =
    ⊎_elim (λ e. (zero, omega arith, ap (λ c. c.item) e ∙ is)) (λ later. let c = map_contains z n ks later is in (suc c.0, omega arith, c.2)) h

-- ---- the laws

-- a plan that keeps items by rank is lawful
pub lawful_by_rank : (candidate : ℕ → Item → Candidate) → HasItems candidate → (job : Job) → IsLawful job (plan_by_rank job.room (candidates_by candidate job.items))
lawful_by_rank candidate has job =
    let items : List Item = job.items in
    let all : List Candidate = numbered candidate 0 items in
    let ks : List Candidate = fitting job.room max_set_records (by_rank all) in
    let of_items : AllByRecursion (IsOf items) all = stands candidate has items 0 items (λ k. ap (slice_get items) (zero-add k)) in
    let kept : AllByRecursion (IsOf items) ks = All-fitting (IsOf items) job.room max_set_records (by_rank all) (All-ranked_from (IsOf items) [] all tt of_items) in
    let differ : Pairs Differ (by_rank all) = Pairs_differ-ranked_from [] all tt (differ-numbered candidate has 0 items) (Apart-none all) in
    record {
      in_range = All-map (λ (choice : Choice). choice.item < length items) choice_of ks (All-from_recursion _ ks (All_map (IsOf items) (λ c. c.item < length items) (λ c h. h.0) ks kept));
      distinct = map_differ ks (Pairs-fitting Differ job.room max_set_records (by_rank all) differ);
      within = rw (map_total items ks kept) (total-fitting job.room max_set_records (by_rank all));
      few = rw length-map (length-fitting job.room max_set_records (by_rank all));
      all_kept = λ fit number within. kept_all candidate has job fit number within;
    }
  where
    kept_all : (candidate : ℕ → Item → Candidate) → HasItems candidate → (job : Job) → AllFit job → (number : ℕ) → number < length job.items →
        Contains (map (λ (choice : Choice). choice.item) (plan_by_rank job.room (candidates_by candidate job.items))) number
    kept_all candidate has job fit number within =
        let all : List Candidate = numbered candidate 0 job.items in
        let bytes : total (by_rank all) ≡ sum_by (λ (item : Item). item.size) job.items = total-ranked_from [] all ∙ zero-add (total all) ∙ total-numbered candidate has 0 job.items in
        let count : length (by_rank all) ≡ length job.items = length-ranked_from [] all ∙ zero-add (length all) ∙ length-numbered candidate has 0 job.items in
        let fits : fitting job.room max_set_records (by_rank all) ≡ by_rank all = all_fitting job.room max_set_records (by_rank all) (subst (λ n. n ≤ job.room) (sym bytes) fit.within) (subst (λ n. n ≤ max_set_records) (sym count) fit.few) in
        let z = has_number candidate has 0 number job.items within in
        map_contains z.0 number (fitting job.room max_set_records (by_rank all)) (subst (Among z.0) (sym fits) (among-ranked_from z.0 [] all (inr z.1))) (z.2 ∙ zero-add number)

-- ---- what a policy ensures that keeps its candidates by rank

module _ {E : Type 0} (candidate : ℕ → Item → Candidate) (has : HasItems candidate) (job : Job) (given : List Candidate) (are : given ≡ candidates_by candidate job.items) where
  pub chosen_lawful : (result : Result (List Choice) E) → IfOk result (λ plan. plan ≡ plan_by_rank job.room given) → IfOk result (IsLawful job)
  chosen_lawful (Ok plan) is = subst (IsLawful job) (sym (is ∙ ap (plan_by_rank job.room) are)) (lawful_by_rank candidate has job)
  chosen_lawful (Err e) is = tt

  pub chosen_by_rank : (result : Result (List Choice) E) → IfOk result (λ plan. plan ≡ plan_by_rank job.room given) →
      IfOk result (KeepsByRank job.room (candidates_by candidate job.items))
  chosen_by_rank (Ok plan) is =
      subst (KeepsByRank job.room (candidates_by candidate job.items)) (sym (is ∙ ap (plan_by_rank job.room) are))
      (keeps_by_rank job.room (candidates_by candidate job.items) (pairs_to Differ _ (differ-numbered candidate has 0 job.items)))
  chosen_by_rank (Err e) is = tt

  pub chosen_plan : (result : Result (List Choice) E) → IfOk result (λ plan. plan ≡ plan_by_rank job.room given) →
      IfOk result (λ plan. plan ≡ plan_by_rank job.room (candidates_by candidate job.items))
  chosen_plan (Ok plan) is = is ∙ ap (plan_by_rank job.room) are
  chosen_plan (Err e) is = tt
