-- Taking up the calls that are shown.
use Rattle.std.proofs.Common.{◌≡◌, ℕ, suc, ◌+◌, ◌<◌, ◌≤◌, List, [], ◌∷◌, ◌++◌, ◌⊎◌, inl, inr, refl, sym, subst, ◌∙◌, arith, length, take, get_or, Option, Some, None, length-append}
use Rattle.std.specs.Prelude.{◌≢◌, ◌-◌, All, AllPairs, Contains, IsSomeAnd, slice_get, slice_index_or, true, ◌==◌}
use Rattle.std.specs.List.{list_any}
use Rattle.std.proofs.lemmas.Bool.{eqb-true}
use Rattle.std.proofs.lemmas.List.Folds.{Any-from_list_any}
use Rattle.std.specs.List.Sorted.{IsPermutation, IsNonDecreasingBy}
use Rattle.std.proofs.lemmas.List.Kept.{AllPairs-cons}
use Rattle.std.proofs.lemmas.List.Quantifiers.{all_pairs_push}
use Rattle.std.proofs.lemmas.List.{take_more, append-nil}
use Rattle.std.proofs.lemmas.List.Elements.{All-nil, All-push, All-append, All-weaker, All-contains_itself, Contains-append_left, Contains-append_right, Contains-append_cases, Contains-push}
use Rattle.std.proofs.lemmas.List.Sorted.{All-permutation, Contains-permutation, IsPermutation-sym}
use Rattle.trace_file.specs.declared.call.Call.{Call}
use Rattle.history_picture.specs.Chosen.{AreAdded, AreChosen, HaveOneKey, IsTakenNew, IsTakenUp, distance}
use Rattle.history_picture.specs.Nearest.{AreNearest, IsOther, gap_from}
use Rattle.history_picture.specs.Shown.{AreShown, AreTaken, IsLeftOut, MayBeShown, started}
use Rattle.history_picture.proofs.Nearing.{once_permuted, same_some, some_within}

-- none were looked at yet
pub chosen_none : (history : List Call) → AreChosen history [] []
chosen_none history = record {
  few = omega arith;
  each = All-nil (Contains []);
  there = All-nil (λ position. position < length history);
  once = λ i j d less inside. absurd (omega (arith, inside));
  marked = All-nil (λ mark. mark < length history → Contains [] mark);
}

-- a position that is not among others differs from each of them
pub once_push : (xs : List ℕ) (x : ℕ) → AllPairs (λ one other. one ≢ other) xs → ¬ Contains xs x → AllPairs (λ one other. one ≢ other) (xs ++ x ∷ [])
once_push xs x once new = all_pairs_push (λ one other. one ≢ other) xs x once (λ k d less same. new (subst (Contains xs) same (All-contains_itself xs k d less)))

chosen_front : (history : List Call) (front shown : List ℕ) (mark : ℕ) → mark < length history → ¬ Contains shown mark → AreChosen history front shown → AreChosen history (front ++ mark ∷ []) (shown ++ mark ∷ [])
chosen_front history front shown mark inside new c = record {
  few = omega (arith, c.few, length-append shown (mark ∷ []), length-append front (mark ∷ []));
  each = All-push (Contains (front ++ mark ∷ [])) shown mark (All-weaker (Contains front) (Contains (front ++ mark ∷ [])) (λ x h. Contains-append_left front (mark ∷ []) x h) shown c.each) (Contains-push front mark);
  there = All-push (λ position. position < length history) shown mark c.there inside;
  once = once_push shown mark c.once new;
  marked = All-push (λ m. m < length history → Contains (shown ++ mark ∷ []) m) front mark (All-weaker (λ m. m < length history → Contains shown m) (λ m. m < length history → Contains (shown ++ mark ∷ []) m) (λ m h less. Contains-append_left shown (mark ∷ []) m (h less)) front c.marked) (λ less. Contains-push shown mark);
}

kept_front : (history : List Call) (front shown : List ℕ) (mark : ℕ) → (mark < length history → Contains shown mark) → AreChosen history front shown → AreChosen history (front ++ mark ∷ []) shown
kept_front history front shown mark has c = record {
  few = omega (arith, c.few, length-append front (mark ∷ []));
  each = All-weaker (Contains front) (Contains (front ++ mark ∷ [])) (λ x h. Contains-append_left front (mark ∷ []) x h) shown c.each;
  there = c.there;
  once = c.once;
  marked = All-push (λ m. m < length history → Contains shown m) front mark c.marked has;
}

-- the next position was taken up
pub chosen_more : (history : List Call) (marks shown : List ℕ) (i : ℕ) → i < length marks → get_or marks i 0 < length history → ¬ Contains shown (get_or marks i 0) → AreChosen history (take i marks) shown → AreChosen history (take (i + 1) marks) (shown ++ get_or marks i 0 ∷ [])
chosen_more history marks shown i less inside new c =
    subst (λ front. AreChosen history front (shown ++ get_or marks i 0 ∷ [])) (sym (take_more marks i 0 less)) (chosen_front history (take i marks) shown (get_or marks i 0) inside new c)

-- the next position has no call, or was taken up before
pub kept_more : (history : List Call) (marks shown : List ℕ) (i : ℕ) → i < length marks → (get_or marks i 0 < length history → Contains shown (get_or marks i 0)) → AreChosen history (take i marks) shown → AreChosen history (take (i + 1) marks) shown
kept_more history marks shown i less has c =
    subst (λ front. AreChosen history front shown) (sym (take_more marks i 0 less)) (kept_front history (take i marks) shown (get_or marks i 0) has c)

some_key : (first other : Option Call) (call : Call) → first ≡ Some call → IsSomeAnd first (λ next. IsSomeAnd other (λ it. it.key ≡ next.key)) → IsSomeAnd other (λ it. it.key ≡ call.key)
some_key first other call at h = rw at at h

no_key : (first other : Option Call) → first ≡ None → IsSomeAnd first (λ next. IsSomeAnd other (λ it. it.key ≡ next.key)) → ⊥
no_key first other none h = rw none at h

module _ (history : List Call) (first most : ℕ) (call : Call) (at : slice_get history first ≡ Some call) where
  other_from : (old : List ℕ) (other : ℕ) → HaveOneKey history other first → ¬ Contains old other → IsOther history call.key old other
  other_from old other one out = (some_key (slice_get history first) (slice_get history other) call at one, out)

  one_key : (old : List ℕ) (other : ℕ) → IsOther history call.key old other → HaveOneKey history other first
  one_key old other is = rw at is.0

  as_distance : (position : ℕ) → gap_from call (slice_get history position) ≡ distance history first position
  as_distance position = rw at refl

  -- the nearest calls of the first one's key were added
  pub added : (old new near : List ℕ) (room : ℕ) → length old ≤ most → room ≡ most - length old → new ≡ old ++ near → AreNearest history call old room near → AreAdded history first most old new
  added old new near room within left is n = record {
    added = near;
    is = is;
    few = subst (λ xs. length xs ≤ most) (sym is) (omega (arith, length-append old near, n.few, within, left));
    of_key = All-weaker (IsOther history call.key old) (λ position. HaveOneKey history position first) (one_key old) near n.each;
    fresh = All-weaker (IsOther history call.key old) (λ position. ¬ Contains old position) (λ x h. h.1) near n.each;
    once = n.once;
    rest = λ other less one out.
        let not_old : ¬ Contains old other = λ h. out (subst (λ xs. Contains xs other) (sym is) (Contains-append_left old near other h)) in
        let not_near : ¬ Contains near other = λ h. out (subst (λ xs. Contains xs other) (sym is) (Contains-append_right old near other h)) in
        let r = n.rest other less (other_from old other one not_old) not_near in (
          subst (λ xs. length xs ≡ most) (sym is) (omega (arith, length-append old near, r.0, within, left)),
          All-weaker (λ one. gap_from call (slice_get history one) ≤ gap_from call (slice_get history other)) (λ one. distance history first one ≤ distance history first other)
              (λ x h. subst (λ z. z ≤ distance history first other) (as_distance x) (subst (λ z. gap_from call (slice_get history x) ≤ z) (as_distance other) h)) near r.1,
        );
  }

-- no calls were added, since the first one is not there
pub added_none : (history : List Call) (first most : ℕ) (old : List ℕ) → length old ≤ most → slice_get history first ≡ None → AreAdded history first most old old
added_none history first most old few none = record {
  added = [];
  is = sym (append-nil old);
  few = few;
  of_key = All-nil (λ position. HaveOneKey history position first);
  fresh = All-nil (λ position. ¬ Contains old position);
  once = λ i j d less inside. absurd (omega (arith, inside));
  rest = λ other less one out. absurd (no_key (slice_get history first) (slice_get history other) none one);
}

-- a position that is found is there
pub among : (xs : List ℕ) (x : ℕ) → list_any (λ one. one == x) xs ≡ true → Contains xs x
among xs x h =
    let found = Any-from_list_any (λ one. one == x) xs h in
    (found.0, found.2, subst (λ z. slice_index_or xs found.0 z ≡ z) (eqb-true found.1 x found.4) found.3)

-- a position that has a call was looked at
pub new_is_up : (history : List Call) (mark : ℕ) (old new : List ℕ) → mark < length history → IsTakenNew mark old new → IsTakenUp history mark old new
new_is_up history mark old new inside (inl (has, same)) = inl ((λ less. has), same)
new_is_up history mark old new inside (inr (fresh, more)) = inr (inside, fresh, more)

-- a position without a call was looked at
pub none_is_up : (history : List Call) (mark : ℕ) (old : List ℕ) → length history ≤ mark → IsTakenUp history mark old old
none_is_up history mark old beyond = inl ((λ less. absurd (omega (arith, less, beyond))), refl)

-- the next position was looked at
pub taken_more : (history : List Call) (marks old new : List ℕ) (i : ℕ) → i < length marks → AreChosen history (take i marks) old → IsTakenUp history (get_or marks i 0) old new → AreChosen history (take (i + 1) marks) new
taken_more history marks old new i less c (inl (has, same)) = subst (AreChosen history (take (i + 1) marks)) (sym same) (kept_more history marks old i less has c)
taken_more history marks old new i less c (inr (inside, fresh, more)) = subst (AreChosen history (take (i + 1) marks)) (sym more) (chosen_more history marks old i less inside fresh c)

-- numbers that differ, and others that differ from them
pub once_append : (xs ys : List ℕ) → AllPairs (λ one other. one ≢ other) xs → AllPairs (λ one other. one ≢ other) ys → All (λ y. ¬ Contains xs y) ys → AllPairs (λ one other. one ≢ other) (xs ++ ys)
once_append [] ys p q r = q
once_append (x ∷ xs) ys p q r =
    AllPairs-cons (λ one other. one ≢ other) x (xs ++ ys) (All-append (λ y. x ≢ y) xs ys (λ k d less. p 0 (suc k) d (omega arith) (omega (arith, less)))
    (All-weaker (λ y. ¬ Contains (x ∷ xs) y) (λ y. x ≢ y) (λ y h same. h (0, omega arith, same)) ys r))
    (once_append xs ys (λ i j d less inside. p (suc i) (suc j) d (omega (arith, less)) (omega (arith, inside))) q
    (All-weaker (λ y. ¬ Contains (x ∷ xs) y) (λ y. ¬ Contains xs y) (λ y h c. h (suc c.0, omega (arith, c.1), c.2)) ys r))

-- a call of the key is there
has_call : (first other : Option Call) → IsSomeAnd first (λ next. IsSomeAnd other (λ it. it.key ≡ next.key)) → IsSomeAnd other (λ it. Unit {0})
has_call None other h = absurd h
has_call (Some next) None h = absurd h
has_call (Some next) (Some it) h = tt

module _ (history : List Call) (marks old all : List ℕ) (first most : ℕ) (c : AreChosen history marks old) (at : slice_get marks 0 ≡ Some first) (a : AreAdded history first most old all) where
  near_only : (one other : ℕ) → All (λ one. distance history first one ≤ distance history first other) a.added → ¬ Contains marks one → Contains old one ⊎ Contains a.added one → distance history first one ≤ distance history first other
  near_only one other near never (inl (k, less, is)) = absurd (never (subst (Contains marks) is (c.each k one less)))
  near_only one other near never (inr (k, less, is)) = subst (λ z. distance history first z ≤ distance history first other) is (near k one less)

  same_first : (one : ℕ) → slice_get marks 0 ≡ Some one → one ≡ first
  same_first one is = same_some one first (sym is ∙ at)

  -- what was taken up and added is shown
  pub shown_added : AreTaken history marks most all
  shown_added = record {
    few = a.few;
    there = subst (All (λ position. position < length history)) (sym a.is) (All-append (λ position. position < length history) old a.added c.there
        (All-weaker (λ x. HaveOneKey history x first) (λ position. position < length history) (λ x h. some_within history x (λ it. Unit {0}) (has_call (slice_get history first) (slice_get history x) h)) a.added a.of_key));
    once = subst (AllPairs (λ one other. one ≢ other)) (sym a.is) (once_append old a.added c.once a.once a.fresh);
    marked = All-weaker (λ m. m < length history → Contains old m) (λ m. m < length history → Contains all m) (λ m h less. subst (λ xs. Contains xs m) (sym a.is) (Contains-append_left old a.added m (h less))) marks c.marked;
    each = subst (All (MayBeShown history marks)) (sym a.is) (All-append (MayBeShown history marks) old a.added (All-weaker (Contains marks) (MayBeShown history marks) (λ x h. inl h) old c.each) (All-weaker (λ x. HaveOneKey history x first) (MayBeShown history marks) (λ x h. inr (rw at h)) a.added a.of_key));
    nearest = λ one other is less key out.
        let same : one ≡ first = same_first one is in
        let r = a.rest other less (subst (HaveOneKey history other) same key) out in
        subst (λ f. IsLeftOut history marks most all f other) (sym same) (r.0, λ it inside never. near_only it other r.1 never (Contains-append_cases old a.added it (subst (λ xs. Contains xs it) a.is inside)));
  }

none_is_some : (one : ℕ) → None ≡ Some one → ⊥
none_is_some one e = cc

none_some : (one : ℕ) {m : Option ℕ} → m ≡ None → m ≡ Some one → ⊥
none_some one none is = none_is_some one (sym none ∙ is)

-- what was taken up is shown, if nothing matters
pub shown_alone : (history : List Call) (marks old : List ℕ) (most : ℕ) → length marks ≤ most → slice_get marks 0 ≡ None → AreChosen history marks old → AreTaken history marks most old
shown_alone history marks old most room none c = record {
  few = omega (arith, c.few, room);
  there = c.there;
  once = c.once;
  marked = c.marked;
  each = All-weaker (Contains marks) (MayBeShown history marks) (λ x h. inl h) old c.each;
  nearest = λ one other is less key out. absurd (none_some one none is);
}

left_out_too : (history : List Call) (marks old new : List ℕ) (most first other : ℕ) → IsPermutation new old → length new ≡ length old → IsLeftOut history marks most old first other → IsLeftOut history marks most new first other
left_out_too history marks old new most first other p same l = (omega (arith, l.0, same), λ one inside never. l.1 one (Contains-permutation new old one p inside) never)

-- in another order the same are shown
pub shown_sorted : (history : List Call) (marks old new : List ℕ) (most : ℕ) → AreTaken history marks most old → IsPermutation old new → length new ≡ length old → IsNonDecreasingBy (started history) new → AreShown history marks most new
shown_sorted history marks old new most a p same rising = record {
  taken = record {
    few = omega (arith, a.few, same);
    there = All-permutation (λ position. position < length history) old new p a.there;
    once = once_permuted old new p a.once;
    marked = All-weaker (λ m. m < length history → Contains old m) (λ m. m < length history → Contains new m) (λ m h less. Contains-permutation old new m p (h less)) marks a.marked;
    each = All-permutation (MayBeShown history marks) old new p a.each;
    nearest = λ first other is less key out. left_out_too history marks old new most first other (IsPermutation-sym old new p) same (a.nearest first other is less key (λ h. out (Contains-permutation old new other p h)));
  };
  by_start = rising;
}
