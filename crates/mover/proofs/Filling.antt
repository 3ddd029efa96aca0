-- The records of a plan that fits, fit on a page.
use Rattle.std.proofs.Common.{Bool, true, false, not, filter, cond, ◌≡◌, ◌<◌, ◌≤◌, ◌+◌, ℕ, List, [], ◌∷◌, ◌++◌, length, map, take, fold, Option, Some, None, All, get_or, refl, sym, ap, subst, ◌∙◌, arith}
use Rattle.std.specs.Prelude.{IsTrue, slice_get, sum_by}
use Rattle.std.specs.Option.{option_map, option_map_or}
use Rattle.std.proofs.lemmas.Bool.{and_from, le-leb}
use Rattle.std.proofs.lemmas.List.{length-map, map-append, length-take, take_more, append-nil}
use Rattle.std.proofs.lemmas.List.Elements.{filter-append}
use Rattle.std.proofs.lemmas.List.Filters.{sum_by-filter_both, length-filter_both}
use Rattle.std.proofs.lemmas.List.Elements.{All-head, All-tail}
use Rattle.std.proofs.lemmas.List.Sums.{sum_by-take-le}
use Rattle.std.proofs.lemmas.Option.{get_or_from_slice_get, slice_get_within, slice_get-get_or, slice_get-map, none-some}
use Rattle.record_pages.specs.Expiry.{lasting}
use Rattle.record_pages.specs.Sizes.{room, max_set_records}
use Rattle.record_pages.specs.Recs.{Rec, rec, size, sizes, fit}
use Rattle.policy_laws.specs.declared.item.Item.{Item}
use Rattle.policy_laws.specs.declared.choice.Choice.{Choice}
use Rattle.policy_laws.specs.Laws.{size_at}
use Rattle.klog.specs.declared.taken_record.TakenRecord.{TakenRecord}
use Rattle.kset.specs.declared.set_record.SetRecord.{SetRecord}
use Rattle.mover.specs.declared.moving.Moving.{Moving}
use Rattle.mover.specs.Flight.{records_of}
use Rattle.mover.specs.Job.{old_item, fresh_item, items_of, job_of}
use Rattle.mover.specs.Commit.{planned, IsFitting}

-- items have the sizes of their records
pub sized : (moving : Moving) → map (λ (i : Item). i.size) (items_of moving) ≡ map size (records_of moving)
sized moving =
    map-append (λ (i : Item). i.size) (map old_item moving.visible) (map fresh_item moving.taken)
    ∙ (λ i. old moving.visible i ++ fresh moving.taken i)
    ∙ sym (map-append size (map (λ (x : SetRecord). x.stored) moving.visible) (map (λ (t : TakenRecord). t.stored) moving.taken))
  where
    old : (xs : List SetRecord) → map (λ (i : Item). i.size) (map old_item xs) ≡ map size (map (λ (x : SetRecord). x.stored) xs)
    old [] = refl
    old (x ∷ xs) = ap (λ ns. size x.stored ∷ ns) (old xs)

    fresh : (ts : List TakenRecord) → map (λ (i : Item). i.size) (map fresh_item ts) ≡ map size (map (λ (t : TakenRecord). t.stored) ts)
    fresh [] = refl
    fresh (t ∷ ts) = ap (λ ns. size t.stored ∷ ns) (fresh ts)

-- sums of the same numbers
sum_same : {C : Type 0} (f h : C → ℕ) (cs : List C) (n : ℕ) → All (λ c. f c ≡ h c) cs → fold (λ a c. a + f c) n cs ≡ fold (λ a c. a + h c) n cs
sum_same f h [] n same = refl
sum_same {C} f h (c ∷ cs) n same = sum_same f h cs (n + f c) (All-tail (λ (x : C). f x ≡ h x) c cs same) ∙ ap (λ m. fold (λ a x. a + h x) (n + m) cs) (All-head (λ (x : C). f x ≡ h x) c cs same)

-- there are as many
pub as_many : (moving : Moving) → length (items_of moving) ≡ length (records_of moving)
as_many moving = sym (length-map (items_of moving) (λ (i : Item). i.size)) ∙ ap length (sized moving) ∙ length-map (records_of moving) size

-- the size of an item is that of the record which a choice of it plans
size_of : (moving : Moving) (c : Choice) → c.item < length (items_of moving) → size_at (items_of moving) c.item ≡ size (planned (records_of moving) c)
size_of moving c lt =
    let rs = records_of moving in
    let within : c.item < length rs = omega (arith, as_many moving, lt) in
    let both : option_map (λ (i : Item). i.size) (slice_get (items_of moving) c.item) ≡ option_map size (slice_get rs c.item) =
    sym (slice_get-map (λ (i : Item). i.size) (items_of moving) c.item) ∙ ap (λ ns. slice_get ns c.item) (sized moving) ∙ slice_get-map size rs c.item in
    one (slice_get (items_of moving) c.item) (size (planned rs c)) (both ∙ ap (option_map size) (slice_get-get_or rs c.item (rec [] (lasting []) 0) within))
  where
    one : (o : Option Item) (n : ℕ) → option_map (λ (i : Item). i.size) o ≡ Some n → option_map_or (λ (i : Item). i.size) o 0 ≡ n
    one (Some i) n e = cc
    one None n e = absurd (none-some n e)

-- a sum over a mapped list
sum_through : {C R : Type 0} (p : C → R) (f : R → ℕ) (h : C → ℕ) (cs : List C) (n : ℕ) → All (λ c. h c ≡ f (p c)) cs → fold (λ a r. a + f r) n (map p cs) ≡ fold (λ a c. a + h c) n cs
sum_through p f h [] n same = refl
sum_through {C} {R} p f h (c ∷ cs) n same =
    sum_through p f h cs (n + f (p c)) (All-tail (λ (c : C). h c ≡ f (p c)) c cs same)
    ∙ ap (λ m. fold (λ a c. a + h c) (n + m) cs) (sym (All-head (λ (c : C). h c ≡ f (p c)) c cs same))

-- the records of a plan take what its items take
pub planned_sizes : (page : ℕ) (moving : Moving) (plan : List Choice) → IsFitting (job_of page moving) plan →
    sum_by (λ (c : Choice). size (planned (records_of moving) c)) plan ≡ sum_by (λ (c : Choice). size_at (items_of moving) c.item) plan
planned_sizes page moving plan is =
    sum_same (λ (c : Choice). size (planned (records_of moving) c)) (λ (c : Choice). size_at (items_of moving) c.item) plan 0 (λ i d lt. sym (size_of moving (get_or plan i d) (is.in_range i d lt)))

-- what is kept of a list is no more
kept_few : {X : Type 0} (p : X → Bool) (xs : List X) → length (filter p xs) ≤ length xs
kept_few p xs = let both = length-filter_both p (λ x. not (p x)) (λ x. refl) xs in omega (arith, both)

kept_less : {X : Type 0} (p : X → Bool) (f : X → ℕ) (xs : List X) → sum_by f (filter p xs) ≤ sum_by f xs
kept_less p f xs = let both = sum_by-filter_both p (λ x. not (p x)) (λ x. refl) f xs in omega (arith, both)

-- each choice of a plan that fits is of a record
pub chosen_within : (page : ℕ) (moving : Moving) (plan : List Choice) (n : ℕ) (c : Choice) → IsFitting (job_of page moving) plan → slice_get plan n ≡ Some c → c.item < length (records_of moving)
chosen_within page moving plan n c is at =
    let within = is.in_range n c (slice_get_within plan n c at) in
    let same : get_or plan n c ≡ c = get_or_from_slice_get plan n c c at in
    subst (λ (x : Choice). x.item < length (records_of moving)) same (omega (arith, within, as_many moving))

-- what is kept of a plan's front, and one more
pub kept_more : {X : Type 0} (p : X → Bool) (xs : List X) (n : ℕ) (x : X) → slice_get xs n ≡ Some x → p x ≡ true → filter p (take (n + 1) xs) ≡ filter p (take n xs) ++ x ∷ []
kept_more p xs n x at passes =
    ap (filter p) (take_more xs n x (slice_get_within xs n x at) ∙ ap (λ y. take n xs ++ y ∷ []) (get_or_from_slice_get xs n x x at))
    ∙ filter-append p (take n xs) (x ∷ []) ∙ ap (λ b. filter p (take n xs) ++ cond b (x ∷ []) []) passes

-- or one less
pub kept_less_more : {X : Type 0} (p : X → Bool) (xs : List X) (n : ℕ) (x : X) → slice_get xs n ≡ Some x → p x ≡ false → filter p (take (n + 1) xs) ≡ filter p (take n xs)
kept_less_more p xs n x at fails =
    ap (filter p) (take_more xs n x (slice_get_within xs n x at) ∙ ap (λ y. take n xs ++ y ∷ []) (get_or_from_slice_get xs n x x at))
    ∙ filter-append p (take n xs) (x ∷ []) ∙ ap (λ b. filter p (take n xs) ++ cond b (x ∷ []) []) fails ∙ append-nil (filter p (take n xs))

-- the records that are kept of a plan's front, and one more, fit
pub next_fits : (page : ℕ) (moving : Moving) (plan : List Choice) (p : Choice → Bool) (n : ℕ) (c : Choice) (r : Rec) (old : List Rec) → IsFitting (job_of page moving) plan → slice_get plan n ≡ Some c → p c ≡ true →
    old ≡ map (planned (records_of moving)) (filter p (take n plan)) → r ≡ planned (records_of moving) c → IsTrue (fit page (old ++ r ∷ []))
next_fits page moving plan p n c r old is at passes so_far this =
    let q = planned (records_of moving) in
    let front = filter p (take (n + 1) plan) in
    let now : old ++ r ∷ [] ≡ map q front = (λ i. so_far i ++ this i ∷ []) ∙ sym (map-append q (filter p (take n plan)) (c ∷ [])) ∙ ap (map q) (sym (kept_more p plan n c at passes)) in
    let sum : sizes (map q front) ≡ sum_by (λ (x : Choice). size (q x)) front = sum_through q size (λ (x : Choice). size (q x)) front 0 (λ i d lt. refl) in
    let kept : sum_by (λ (x : Choice). size (q x)) front ≤ sum_by (λ (x : Choice). size (q x)) (take (n + 1) plan) = kept_less p (λ (x : Choice). size (q x)) (take (n + 1) plan) in
    let taken : sum_by (λ (x : Choice). size (q x)) (take (n + 1) plan) ≤ sum_by (λ (x : Choice). size (q x)) plan = sum_by-take-le (λ (x : Choice). size (q x)) plan (n + 1) in
    let whole = planned_sizes page moving plan is in
    let within = is.within in
    let long : length front ≤ length (take (n + 1) plan) = kept_few p (take (n + 1) plan) in
    let longer : length (take (n + 1) plan) ≤ length plan = simp length-take (omega arith) in
    let few = is.few in
    let count = length-map front q in
    subst (λ rs. IsTrue (fit page rs)) (sym now) (and_from _ _ (le-leb (sizes (map q front)) (room page) (omega (arith, sum, kept, taken, whole, within)))
    (le-leb (length (map q front)) max_set_records (omega (arith, long, longer, few, count))))

-- the record of a choice, with its prediction, is what the choice plans
pub planned_as : (moving : Moving) (c : Choice) (x r : Rec) → slice_get (records_of moving) c.item ≡ Some x → r ≡ rec x.key x.value c.prediction → r ≡ planned (records_of moving) c
planned_as moving c x r at is =
    let same : get_or (records_of moving) c.item (rec [] (lasting []) 0) ≡ x = get_or_from_slice_get (records_of moving) c.item x (rec [] (lasting []) 0) at in
    is ∙ (λ i. rec (sym same i).key (sym same i).value c.prediction)

-- one choice more is kept
pub kept_next : (moving : Moving) (plan : List Choice) (p : Choice → Bool) (n : ℕ) (c : Choice) (r : Rec) (old new : List Rec) → slice_get plan n ≡ Some c → p c ≡ true → old ≡ map (planned (records_of moving)) (filter p (take n plan)) → r ≡ planned (records_of moving) c →
    new ≡ old ++ r ∷ [] → new ≡ map (planned (records_of moving)) (filter p (take (n + 1) plan))
kept_next moving plan p n c r old new at passes so_far this is =
    let q = planned (records_of moving) in
    is ∙ (λ i. so_far i ++ this i ∷ []) ∙ sym (map-append q (filter p (take n plan)) (c ∷ [])) ∙ ap (map q) (sym (kept_more p plan n c at passes))

-- or is not
pub kept_same : (moving : Moving) (plan : List Choice) (p : Choice → Bool) (n : ℕ) (c : Choice) (old new : List Rec) → slice_get plan n ≡ Some c → p c ≡ false → old ≡ map (planned (records_of moving)) (filter p (take n plan)) → new ≡ old →
    new ≡ map (planned (records_of moving)) (filter p (take (n + 1) plan))
kept_same moving plan p n c old new at fails so_far is = is ∙ so_far ∙ ap (map (planned (records_of moving))) (sym (kept_less_more p plan n c at fails))
