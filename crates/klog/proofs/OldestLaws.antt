-- The last of the entries tells whether the oldest segment has one, and the walk from there which is the first that is not passed over.
use Rattle.std.proofs.Common.{◌≡◌, ◌≢◌, ℕ, zero, suc, ◌+◌, ◌-◌, ◌<◌, ◌≤◌, ◌⊎◌, inl, inr, Bool, true, false, cond, not, List, [], ◌∷◌, length, get_or, filter, reverse, take, Option, Some, None, refl, sym, ap, subst, ◌∙◌, arith}
use Rattle.std.specs.Prelude.{All, AllPairs, Contains, find}
use Rattle.std.specs.List.{last_or, prefix_len}
use Rattle.std.proofs.lemmas.Bool.{cases_eq, eq-eqb, eqb-true, false≢true}
use Rattle.std.proofs.lemmas.Grind.{reverse_onto}
use Rattle.std.proofs.lemmas.List.{reverse-reverse}
use Rattle.std.proofs.lemmas.List.Elements.{All-head, All-tail, All-push, All-contains, All-contains_itself, filter_passes}
use Rattle.std.proofs.lemmas.List.Quantifiers.{all_pairs_push}
use Rattle.klog_index.specs.declared.entry.Entry.{Entry}
use Rattle.klog_index.specs.Entries.{is_of_any, is_of_segment, without}
use Rattle.klog_index.specs.First.{IsBefore, NoneOfSegment, IsFirstOf, first_but, oldest_but}
use Rattle.klog.specs.Log.{LogState}
use Rattle.klog.specs.Names.{name_of, number_of, segment_of}
use Rattle.klog.specs.Keeps.{IsHeld, IsBehind, IsLog}
use Rattle.klog.specs.Moves.{SomeOfSegment, IsNextToMove}
use Rattle.klog.proofs.KilledLaws.{listed_at}
use Rattle.klog.proofs.LookLaws.{kept_of}
use Rattle.klog.proofs.RingLaws.{number_again, name_again, number_from}

last_there : (e : Entry) (es : List Entry) (d : Entry) → Some (get_or (e ∷ es) (length es) d) ≡ last_or (Some e) es
last_there e [] d = refl
last_there e (x ∷ es) d = last_there x es d

-- the last of some entries
lasts : (es : List Entry) (e : Entry) → last_or None es ≡ Some e → (d : Entry) → (0 < length es) × (get_or es (length es - 1) d ≡ e)
lasts [] e is d = absurd cc
lasts (x ∷ es) e is d =
    let at : length (x ∷ es) - 1 ≡ length es = omega arith in
    let there : Some (get_or (x ∷ es) (length es) d) ≡ Some e = last_there x es d ∙ is in
    (omega arith, ap (λ (n : ℕ). get_or (x ∷ es) n d) at ∙ cc)

-- each entry is the last one, or lies after it
each_behind : (k : LogState) (e : Entry) → IsLog k → last_or None k.entries ≡ Some e → (i : ℕ) (d : Entry) → i < length k.entries →
    (get_or k.entries i d ≡ e) ⊎ IsBehind k (get_or k.entries i d).place e.place
each_behind k e log last i d lt =
    let at = lasts k.entries e last d in
    elim (cases_eq i (length k.entries - 1)) [
      | inl same ↦ inl (ap (λ (n : ℕ). get_or k.entries n d) same ∙ at.1)
      | inr away ↦ inr (subst (λ (y : Entry). IsBehind k (get_or k.entries i d).place y.place) at.1
          (log.ordered i (length k.entries - 1) d (omega (arith, lt, away)) (omega (arith, lt))))
    ]

-- the last one is listed
last_listed : (k : LogState) (e : Entry) → last_or None k.entries ≡ Some e → Contains k.entries e
last_listed k e last = let at = lasts k.entries e last e in (length k.entries - 1, omega (arith, at.0), at.1)

last_held : (k : LogState) (e : Entry) → IsLog k → last_or None k.entries ≡ Some e → IsHeld k e
last_held k e log last = let at = lasts k.entries e last e in subst (IsHeld k) at.1 (log.held (length k.entries - 1) e (omega (arith, at.0)))

-- of no entry if there is none
pub none_last : (v k : LogState) (o : Option Entry) (segment : ℕ) → v ≡ k → o ≡ last_or None v.entries → o ≡ None → NoneOfSegment segment k.entries
none_last v k o segment same told none = λ i d lt. absurd (no_entry k.entries (ap (λ (q : LogState). last_or None q.entries) (sym same) ∙ sym told ∙ none) i lt)
  where
    no_entry : (es : List Entry) → last_or None es ≡ None → (i : ℕ) → i < length es → ⊥
    no_entry [] is i lt = omega (arith, lt)
    no_entry (x ∷ es) is i lt = let there = last_there x es x ∙ is in absurd cc

-- the first number's name tells it
first_again : (k : LogState) → number_of k (name_of k k.first) ≡ k.first
first_again k = number_again k k.first (omega arith) (omega arith)

-- of none in the oldest segment if the last one is of another
pub other_last : (v k : LogState) (o : Option Entry) (e : Entry) → v ≡ k → o ≡ last_or None v.entries → o ≡ Some e → IsLog k → segment_of k e ≢ k.first → NoneOfSegment (name_of k k.first) k.entries
other_last v k o e same told some log away = λ i d lt named.
    let last : last_or None k.entries ≡ Some e = ap (λ (q : LogState). last_or None q.entries) (sym same) ∙ sym told ∙ some in
    let own : segment_of k (get_or k.entries i d) ≡ k.first = ap (number_of k) named ∙ first_again k in
    let from : k.first ≤ segment_of k e = number_from k e.place.segment in
    elim (each_behind k e log last i d lt) [
      | inl is ↦ away (sym (ap (segment_of k) is) ∙ own)
      | inr behind ↦ elim behind [ inl less ↦ omega (arith, less, own, from) | inr on ↦ away (on.0 ∙ own) ]
    ]

-- a place is not before itself, nor before one that is before it
not_before : (p q : Entry) → IsBefore q.place p.place → ¬ IsBefore p.place q.place
not_before p q before after = elim before [
  | inl less ↦ elim after [ inl more ↦ omega (arith, less, more) | inr on ↦ omega (arith, less, on.0) ]
  | inr at ↦ elim after [ inl more ↦ omega (arith, more, at.0) | inr on ↦ omega (arith, at.1, on.1) ]
]

not_itself : (p : Entry) → ¬ IsBefore p.place p.place
not_itself p before = not_before p p before before

-- some is of the oldest segment if the last one is
pub some_last : (v k : LogState) (o : Option Entry) (e : Entry) → v ≡ k → o ≡ last_or None v.entries → o ≡ Some e → IsLog k → segment_of k e ≡ k.first → (e.place.segment ≡ name_of k k.first) × SomeOfSegment (name_of k k.first) k.entries
some_last v k o e same told some log at =
    let last : last_or None k.entries ≡ Some e = ap (λ (q : LogState). last_or None q.entries) (sym same) ∙ sym told ∙ some in
    let named : e.place.segment ≡ name_of k k.first = sym (name_again k e.place.segment (last_held k e log last).name) ∙ ap (name_of k) at in
    (named, record { its = e; listed = last_listed k e last; of_segment = named })

-- ---- lists turned round

-- what is so of all is so of them turned round
all_back : {X : Type 0} (P : X → Type 0) (xs : List X) → All P xs → All P (reverse xs)
all_back P [] all = all
all_back P (x ∷ xs) all = subst (All P) (sym (reverse_onto xs x [])) (All-push P (reverse xs) x (all_back P xs (All-tail P x xs all)) (All-head P x xs all))

in_back : {X : Type 0} (xs : List X) (x : X) → Contains xs x → Contains (reverse xs) x
in_back xs x there =
    All-contains (Contains (reverse xs)) xs x
    (subst (All (Contains (reverse xs))) (reverse-reverse xs) (all_back (Contains (reverse xs)) (reverse xs) (All-contains_itself (reverse xs)))) there

from_back : {X : Type 0} (xs : List X) (x : X) → Contains (reverse xs) x → Contains xs x
from_back xs x there = All-contains (Contains xs) (reverse xs) x (all_back (Contains xs) xs (All-contains_itself xs)) there

-- of two the later one is the older
older_first : {X : Type 0} (R : X → X → Type 0) (xs : List X) → AllPairs R xs → AllPairs (λ a b. R b a) (reverse xs)
older_first R [] pairs = λ i j d less lt. absurd (omega (arith, lt))
older_first R (x ∷ xs) pairs =
    let behind : All (R x) xs = λ i d lt. pairs 0 (suc i) d (omega arith) (omega (arith, lt)) in
    subst (AllPairs (λ a b. R b a)) (sym (reverse_onto xs x []))
    (all_pairs_push (λ a b. R b a) (reverse xs) x (older_first R xs (λ i j d less lt. pairs (suc i) (suc j) d (omega (arith, less)) (omega (arith, lt)))) (λ i d lt. all_back (R x) xs behind i d lt))

-- one of a list is the first, or one after it
first_or : {X : Type 0} (x y : X) (ys : List X) → Contains (y ∷ ys) x → (y ≡ x) ⊎ Contains ys x
first_or {X} x y ys there = step there.0 there.1 there.2
  where
    step : (i : ℕ) → i < length (y ∷ ys) → get_or (y ∷ ys) i x ≡ x → (y ≡ x) ⊎ Contains ys x
    step zero lt at = inl at
    step (suc i) lt at = inr (i, omega (arith, lt), at)

-- one that passes is kept
kept_in : {X : Type 0} (q : X → Bool) (xs : List X) (x : X) → q x ≡ true → Contains xs x → Contains (filter q xs) x
kept_in q [] x is there = absurd (omega (arith, there.1))
kept_in {X} q (y ∷ ys) x is there = elim (first_or x y ys there) [
  | inl at ↦ subst (λ (b : Bool). Contains (cond b (y ∷ filter q ys) (filter q ys)) x) (sym (ap q at ∙ is)) (0, omega arith, at)
  | inr later ↦ step (q y) (kept_in q ys x is later)
]
  where
    step : (b : Bool) → Contains (filter q ys) x → Contains (cond b (y ∷ filter q ys) (filter q ys)) x
    step true there = (suc there.0, omega (arith, there.1), there.2)
    step false there = there

free_from : (b : Bool) → not b ≡ true → b ≡ false
free_from true is = absurd (false≢true is)
free_from false is = refl

-- ---- the walk from the oldest entry on

module _ (k : LogState) (passed : List ℕ) where
  -- the entry is the first of these of the oldest segment that is not passed over
  record IsNext (es : List Entry) (e : Entry) : Type 0 where
    listed : Contains es e
    named : e.place.segment ≡ name_of k k.first
    free : is_of_any passed e ≡ false
    least : (y : Entry) → Contains es y → y.place.segment ≡ name_of k k.first → is_of_any passed y ≡ false → ¬ IsBefore y.place e.place

  -- what the walk tells: the first of them, or that all are passed over
  abbrev Tells : List Entry → Option Entry → Type 0
  Tells es (Some e) = IsNext es e
  Tells es None = (y : Entry) → Contains es y → y.place.segment ≡ name_of k k.first → is_of_any passed y ≡ true

  -- one of the same segment that lies after another is not before it
  not_behind : (x y : Entry) → IsBehind k y.place x.place → x.place.segment ≡ y.place.segment → ¬ IsBefore y.place x.place
  not_behind x y behind same =
      let numbers : number_of k x.place.segment ≡ number_of k y.place.segment = ap (number_of k) same in
      elim behind [ inl less ↦ absurd (omega (arith, less, numbers)) | inr on ↦ not_before y x on.1 ]

  -- one more that is passed over
  passes_one : (x : Entry) (es : List Entry) → is_of_any passed x ≡ true → (o : Option Entry) → Tells es o → Tells (x ∷ es) o
  passes_one x es over None all = λ y there at. elim (first_or y x es there) [
    | inl is ↦ ap (is_of_any passed) (sym is) ∙ over
    | inr later ↦ all y later at
  ]
  passes_one x es over (Some e) next = record {
    listed = (suc next.listed.0, omega (arith, next.listed.1), next.listed.2);
    named = next.named;
    free = next.free;
    least = λ y there at clear. elim (first_or y x es there) [
      | inl is ↦ absurd (false≢true (sym clear ∙ ap (is_of_any passed) (sym is) ∙ over))
      | inr later ↦ next.least y later at clear
    ];
  }

  -- what the walk tells of entries that stand oldest first
  walk_tells : (es : List Entry) → All (IsHeld k) es → AllPairs (λ a b. IsBehind k b.place a.place) es → Tells es (first_but (name_of k k.first) passed es)
  walk_tells [] held pairs = λ y there at. absurd (omega (arith, there.1))
  walk_tells (x ∷ es) held pairs =
      by_segment (walk_tells es (All-tail (IsHeld k) x es held) (λ i j d less lt. pairs (suc i) (suc j) d (omega (arith, less)) (omega (arith, lt)))) (is_of_segment (name_of k k.first) x) refl
    where
      name : ℕ
      name = name_of k k.first

      behind : (y : Entry) → Contains es y → IsBehind k y.place x.place
      behind y there = All-contains (λ (z : Entry). IsBehind k z.place x.place) es y (λ i d lt. pairs 0 (suc i) d (omega arith) (omega (arith, lt))) there

      -- of another segment, and so are all after it
      away : is_of_segment name x ≡ false → (y : Entry) → Contains (x ∷ es) y → y.place.segment ≡ name → ⊥
      away other y there at = elim (first_or y x es there) [
        | inl is ↦ false≢true (sym other ∙ eq-eqb x.place.segment name (ap (λ (z : Entry). z.place.segment) is ∙ at))
        | inr later ↦
            let own : number_of k y.place.segment ≡ k.first = ap (number_of k) at ∙ first_again k in
            let from : k.first ≤ number_of k x.place.segment = number_from k x.place.segment in
            elim (behind y later) [
              | inl less ↦ omega (arith, less, own, from)
              | inr on ↦
                  let named : x.place.segment ≡ name = sym (name_again k x.place.segment (All-head (IsHeld k) x es held).name) ∙ ap (name_of k) (on.0 ∙ own) in
                  false≢true (sym other ∙ eq-eqb x.place.segment name named)
            ]
      ]

      by_set : Tells es (first_but name passed es) → is_of_segment name x ≡ true → (b : Bool) → is_of_any passed x ≡ b
          → Tells (x ∷ es) (cond (not b) (Some x) (find (λ e. not (is_of_any passed e)) (take (prefix_len (is_of_segment name) es) es)))
      by_set rest own true over = passes_one x es over (find (λ e. not (is_of_any passed e)) (take (prefix_len (is_of_segment name) es) es)) rest
      by_set rest own false clear =
          let named : x.place.segment ≡ name = eqb-true x.place.segment name own in
          record {
            listed = (0, omega arith, refl);
            named = named;
            free = clear;
            least = λ y there at free. elim (first_or y x es there) [
              | inl is ↦ subst (λ (z : Entry). ¬ IsBefore z.place x.place) is (not_itself x)
              | inr later ↦ not_behind x y (behind y later) (named ∙ sym at)
            ];
          }

      by_segment : Tells es (first_but name passed es) → (b : Bool) → is_of_segment name x ≡ b → Tells (x ∷ es) (find (λ e. not (is_of_any passed e)) (take (cond b (1 + prefix_len (is_of_segment name) es) 0) (x ∷ es)))
      by_segment rest true own =
          let more : suc (prefix_len (is_of_segment name) es) ≡ 1 + prefix_len (is_of_segment name) es = omega arith in
          subst (λ n. Tells (x ∷ es) (find (λ e. not (is_of_any passed e)) (take n (x ∷ es)))) more (by_set rest own (is_of_any passed x) refl)
      by_segment rest false other = λ y there at. absurd (away other y there at)

  -- so does the index of its entries
  oldest_tells : IsLog k → Tells (reverse k.entries) (oldest_but (name_of k k.first) passed k.entries)
  oldest_tells log = walk_tells (reverse k.entries) (all_back (IsHeld k) k.entries log.held) (older_first (λ (a b : Entry). IsBehind k a.place b.place) k.entries log.ordered)

  -- one that is found is the first that is not passed over
  pub found_first : (e : Entry) → IsLog k → oldest_but (name_of k k.first) passed k.entries ≡ Some e → IsFirstOf (name_of k k.first) (without (is_of_any passed) k.entries) e
  found_first e log is =
      let next : IsNext (reverse k.entries) e = subst (Tells (reverse k.entries)) is (oldest_tells log) in
      let clear : not (is_of_any passed e) ≡ true = ap not next.free in
      record {
        listed = kept_in (λ y. not (is_of_any passed y)) k.entries e clear (from_back k.entries e next.listed);
        of_segment = next.named;
        least = λ i d lt at.
            let es : List Entry = without (is_of_any passed) k.entries in
            let y : Entry = get_or es i d in
            let here : Contains es y = listed_at es i d lt in
            next.least y (in_back k.entries y (kept_of (λ z. not (is_of_any passed z)) k.entries y here)) at
            (free_from (is_of_any passed y) (All-contains (λ z. not (is_of_any passed z) ≡ true) es y (filter_passes (λ z. not (is_of_any passed z)) k.entries) here));
      }

  -- it is a live one, of a set of the lane
  pub found_next : (e : Entry) → IsLog k → 0 < k.stored → oldest_but (name_of k k.first) passed k.entries ≡ Some e → IsNextToMove passed k e
  found_next e log stored is =
      let next : IsNext (reverse k.entries) e = subst (Tells (reverse k.entries)) is (oldest_tells log) in
      let listed : Contains k.entries e = from_back k.entries e next.listed in
      record {
        its = record { some = stored; listed = listed; oldest = ap (number_of k) next.named ∙ first_again k };
        set = (All-contains (IsHeld k) k.entries e log.held listed).set;
        not_passed = next.free;
      }

  -- if none is found no other is of the oldest segment
  pub none_other : IsLog k → oldest_but (name_of k k.first) passed k.entries ≡ None → NoneOfSegment (name_of k k.first) (without (is_of_any passed) k.entries)
  none_other log is = λ i d lt at.
      let all = subst (Tells (reverse k.entries)) is (oldest_tells log) in
      let es : List Entry = without (is_of_any passed) k.entries in
      let y : Entry = get_or es i d in
      let here : Contains es y = listed_at es i d lt in
      let over : is_of_any passed y ≡ true = all y (in_back k.entries y (kept_of (λ z. not (is_of_any passed z)) k.entries y here)) at in
      false≢true (sym (free_from (is_of_any passed y) (All-contains (λ z. not (is_of_any passed z) ≡ true) es y (filter_passes (λ z. not (is_of_any passed z)) k.entries) here)) ∙ over)
