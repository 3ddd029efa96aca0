-- The entry at a place, found among others, and the live record with it.
use Rattle.std.proofs.Common.{◌≡◌, suc, Bool, true, false, cond, List, [], ◌∷◌, ◌++◌, get_or, filter, map, Option, Some, None, All, refl, sym, ap, subst, ◌∙◌, inl, inr, arith}
use Rattle.std.specs.Prelude.{Contains, find, AllPairs, reverse}
use Rattle.std.specs.List.{cons_option}
use Rattle.std.specs.Option.{option_map}
use Rattle.std.proofs.lemmas.Bool.{cases_Bool}
use Rattle.std.proofs.lemmas.List.{append-nil}
use Rattle.std.proofs.lemmas.List.Elements.{All-head, All-tail, All-cons, All-nil, filter-append}
use Rattle.std.proofs.lemmas.List.Kept.{AllPairs-cons}
use Rattle.record_pages.specs.Recs.{Rec}
use Rattle.klog_index.specs.declared.entry.Entry.{Entry}
use Rattle.klog.specs.Segments.{LogRecord, live_record}
use Rattle.klog.proofs.LiveLaws.{live_by}
use Rattle.klog.proofs.Numbered.{aged-cons}

-- at most one of the entries is of a kind
abbrev pub IsOne : (Entry → Bool) → List Entry → Type 0
IsOne q es = AllPairs (λ a b. q a ≡ true → q b ≡ true → ⊥) es

one-head : (q : Entry → Bool) (e : Entry) (es : List Entry) → IsOne q (e ∷ es) → q e ≡ true → All (λ x. q x ≡ false) es
one-head q e es one is = λ i d lt. elim (cases_Bool (q (get_or es i d))) [
  | inl also ↦ absurd (one 0 (suc i) d (omega arith) (omega (arith, lt)) is also)
  | inr not_so ↦ not_so
]

one-tail : (q : Entry → Bool) (e : Entry) (es : List Entry) → IsOne q (e ∷ es) → IsOne q es
one-tail q e es one = λ i j d lt lj. one (suc i) (suc j) d (omega (arith, lt)) (omega (arith, lj))

pub find-here : (q : Entry → Bool) (e : Entry) (es : List Entry) → q e ≡ true → find q (e ∷ es) ≡ Some e
find-here q e es is = ap (λ (b : Bool). cond b (Some e) (find q es)) is

pub find-later : (q : Entry → Bool) (e : Entry) (es : List Entry) → q e ≡ false → find q (e ∷ es) ≡ find q es
find-later q e es is = ap (λ (b : Bool). cond b (Some e) (find q es)) is

-- none is found if none is of the kind, and if none is found none is
pub find-none : (q : Entry → Bool) (es : List Entry) → All (λ e. q e ≡ false) es → find q es ≡ None
find-none q [] none = refl
find-none q (e ∷ es) none =
    find-later q e es (All-head (λ e. q e ≡ false) e es none) ∙ find-none q es (All-tail (λ e. q e ≡ false) e es none)

pub none-find : (q : Entry → Bool) (es : List Entry) → find q es ≡ None → All (λ e. q e ≡ false) es
none-find q [] none = All-nil (λ e. q e ≡ false)
none-find q (e ∷ es) none = elim (cases_Bool (q e)) [
  | inl is ↦ let found : Some e ≡ None = sym (find-here q e es is) ∙ none in absurd cc
  | inr is ↦ All-cons (λ e. q e ≡ false) e es is (none-find q es (sym (find-later q e es is) ∙ none))
]

-- what is found is listed, and of the kind
pub found-is : (q : Entry → Bool) (es : List Entry) (e : Entry) → find q es ≡ Some e → Contains es e × (q e ≡ true)
found-is q [] e found = absurd cc
found-is q (x ∷ es) e found = elim (cases_Bool (q x)) [
  | inl is ↦
      let same : Some x ≡ Some e = sym (find-here q x es is) ∙ found in
      let at : x ≡ e = cc in
      ((0, omega arith, at), subst (λ (y : Entry). q y ≡ true) at is)
  | inr is ↦
      let rest = found-is q es e (sym (find-later q x es is) ∙ found) in
      ((suc rest.0.0, omega (arith, rest.0.1), rest.0.2), rest.1)
]

-- ---- what is found among entries of which some are kept

pub kept-none : (q keep : Entry → Bool) (es : List Entry) → find q es ≡ None → find q (filter keep es) ≡ None
kept-none q keep [] none = refl
kept-none q keep (e ∷ es) none = elim (cases_Bool (q e)) [
  | inl is ↦ let found : Some e ≡ None = sym (find-here q e es is) ∙ none in absurd cc
  | inr is ↦
      let rest = kept-none q keep es (sym (find-later q e es is) ∙ none) in
      elim (cases_Bool (keep e)) [
        | inl k ↦ ap (λ (b : Bool). find q (cond b (e ∷ filter keep es) (filter keep es))) k ∙ find-later q e (filter keep es) is ∙ rest
        | inr k ↦ ap (λ (b : Bool). find q (cond b (e ∷ filter keep es) (filter keep es))) k ∙ rest
      ]
]

-- the one that is found is found still if it is kept, and none if it is not
pub kept-some : (q keep : Entry → Bool) (es : List Entry) (e : Entry) → IsOne q es → find q es ≡ Some e → find q (filter keep es) ≡ cond (keep e) (Some e) None
kept-some q keep [] e one found = absurd cc
kept-some q keep (x ∷ es) e one found = elim (cases_Bool (q x)) [
  | inl is ↦
      let same : Some x ≡ Some e = sym (find-here q x es is) ∙ found in
      let at : x ≡ e = cc in
      let none : find q (filter keep es) ≡ None = kept-none q keep es (find-none q es (one-head q x es one is)) in
      let here : find q (filter keep (x ∷ es)) ≡ cond (keep x) (Some x) None = elim (cases_Bool (keep x)) [
        | inl k ↦
            ap (λ (b : Bool). find q (cond b (x ∷ filter keep es) (filter keep es))) k ∙ find-here q x (filter keep es) is
            ∙ sym (ap (λ (b : Bool). cond b (Some x) None) k)
        | inr k ↦
            ap (λ (b : Bool). find q (cond b (x ∷ filter keep es) (filter keep es))) k ∙ none
            ∙ sym (ap (λ (b : Bool). cond b (Some x) None) k)
      ] in
      here ∙ ap (λ (y : Entry). cond (keep y) (Some y) None) at
  | inr is ↦
      let rest = kept-some q keep es e (one-tail q x es one) (sym (find-later q x es is) ∙ found) in
      elim (cases_Bool (keep x)) [
        | inl k ↦ ap (λ (b : Bool). find q (cond b (x ∷ filter keep es) (filter keep es))) k ∙ find-later q x (filter keep es) is ∙ rest
        | inr k ↦ ap (λ (b : Bool). find q (cond b (x ∷ filter keep es) (filter keep es))) k ∙ rest
      ]
]

-- ---- the live records of a kind of entry

live-none : (q : Entry → Bool) (shows : Entry → Option Rec) (es : List Entry) → All (λ e. q e ≡ false) es → filter (λ x. q x.0) (live_by shows es) ≡ []
live-none q shows [] none = refl
live-none q shows (e ∷ es) none = step (shows e) refl (live-none q shows es (All-tail (λ e. q e ≡ false) e es none)) (All-head (λ e. q e ≡ false) e es none)
  where
    step : (o : Option Rec) → shows e ≡ o → filter (λ x. q x.0) (live_by shows es) ≡ [] → q e ≡ false → filter (λ x. q x.0) (live_by shows (e ∷ es)) ≡ []
    step (Some r) at rest is = simp (at, is) rest
    step None at rest is = simp at rest

-- none is live of a kind of which no entry is
pub live-of-none : (q : Entry → Bool) (shows : Entry → Option Rec) (es : List Entry) → find q es ≡ None → filter (λ x. q x.0) (live_by shows es) ≡ []
live-of-none q shows es none = live-none q shows es (none-find q es none)

-- one is live of a kind of which one entry is
pub live-of-one : (q : Entry → Bool) (shows : Entry → Option Rec) (es : List Entry) (e : Entry) (r : Rec) → IsOne q es → find q es ≡ Some e → shows e ≡ Some r → filter (λ x. q x.0) (live_by shows es) ≡ (e, r) ∷ []
live-of-one q shows [] e r one found at = absurd cc
live-of-one q shows (x ∷ es) e r one found at = elim (cases_Bool (q x)) [
  | inl is ↦
      let same : Some x ≡ Some e = sym (find-here q x es is) ∙ found in
      let here : x ≡ e = cc in
      let none = live-none q shows es (one-head q x es one is) in
      subst (λ (y : Entry). filter (λ x. q x.0) (live_by shows (y ∷ es)) ≡ (e, r) ∷ []) (sym here)
      (simp (at, subst (λ (y : Entry). q y ≡ true) here is) (ap (λ (xs : List (Entry × Rec)). (e, r) ∷ xs) none))
  | inr is ↦ past (shows x) refl is (live-of-one q shows es e r (one-tail q x es one) (sym (find-later q x es is) ∙ found) at)
]
  where
    past : (o : Option Rec) → shows x ≡ o → q x ≡ false → filter (λ x. q x.0) (live_by shows es) ≡ (e, r) ∷ [] → filter (λ x. q x.0) (live_by shows (x ∷ es)) ≡ (e, r) ∷ []
    past (Some y) here is rest = simp (here, is) rest
    past None here is rest = simp here rest

-- what holds of all entries holds of the entries of live records
pub All-live : (P : Entry → Type 0) (shows : Entry → Option Rec) (es : List Entry) → All P es → All (λ x. P x.0) (live_by shows es)
All-live P shows [] all = All-nil (λ x. P x.0)
All-live P shows (e ∷ es) all = step (shows e) refl (All-head P e es all) (All-live P shows es (All-tail P e es all))
  where
    step : (o : Option Rec) → shows e ≡ o → P e → All (λ x. P x.0) (live_by shows es) → All (λ x. P x.0) (live_by shows (e ∷ es))
    step (Some r) at here rest = subst (λ (o : Option Rec). All (λ x. P x.0) (cons_option (option_map (λ r. (e, r)) o) (live_by shows es))) (sym at) (All-cons (λ x. P x.0) (e, r) (live_by shows es) here rest)
    step None at here rest = subst (λ (o : Option Rec). All (λ x. P x.0) (cons_option (option_map (λ r. (e, r)) o) (live_by shows es))) (sym at) rest

-- so does what holds of each and each later one
pub AllPairs-live : (R : Entry → Entry → Type 0) (shows : Entry → Option Rec) (es : List Entry) → AllPairs R es → AllPairs (λ x y. R x.0 y.0) (live_by shows es)
AllPairs-live R shows [] all = λ i j d lt lj. absurd (omega (arith, lj))
AllPairs-live R shows (e ∷ es) all = step (shows e) refl (AllPairs-live R shows es (λ i j d lt lj. all (suc i) (suc j) d (omega (arith, lt)) (omega (arith, lj))))
  where
    later : All (λ x. R e x.0) (live_by shows es)
    later = All-live (R e) shows es (λ i d lt. all 0 (suc i) d (omega arith) (omega (arith, lt)))

    step : (o : Option Rec) → shows e ≡ o → AllPairs (λ x y. R x.0 y.0) (live_by shows es) → AllPairs (λ x y. R x.0 y.0) (live_by shows (e ∷ es))
    step (Some r) at rest = subst (λ (o : Option Rec). AllPairs (λ x y. R x.0 y.0) (cons_option (option_map (λ r. (e, r)) o) (live_by shows es))) (sym at) (AllPairs-cons (λ x y. R x.0 y.0) (e, r) (live_by shows es) later rest)
    step None at rest = subst (λ (o : Option Rec). AllPairs (λ x y. R x.0 y.0) (cons_option (option_map (λ r. (e, r)) o) (live_by shows es))) (sym at) rest

-- ---- lists of live records of which some are kept

pub filter-same : {X : Type 0} (p q : X → Bool) (xs : List X) → All (λ x. p x ≡ q x) xs → filter p xs ≡ filter q xs
filter-same p q [] same = refl
filter-same p q (x ∷ xs) same =
    ap (λ (b : Bool). cond b (x ∷ filter p xs) (filter p xs)) (All-head (λ x. p x ≡ q x) x xs same)
    ∙ ap (λ (ys : List _). cond (q x) (x ∷ ys) ys) (filter-same p q xs (All-tail (λ x. p x ≡ q x) x xs same))

-- those of a kind that stay, taken as entries or as records
pub page_kept : (on keep : Entry × Rec → Bool) (stays : LogRecord → Bool) (xs : List (Entry × Rec)) → All (λ x. on x ≡ true → keep x ≡ stays (live_record x)) xs
    → map live_record (reverse (filter on (filter keep xs))) ≡ filter stays (map live_record (reverse (filter on xs)))
page_kept on keep stays [] same = refl
page_kept on keep stays (x ∷ xs) same =
    by_tests (on x) (keep x) refl refl (All-head (λ x. on x ≡ true → keep x ≡ stays (live_record x)) x xs same)
    (page_kept on keep stays xs (All-tail (λ x. on x ≡ true → keep x ≡ stays (live_record x)) x xs same))
  where
    aged : (Entry × Rec → Bool) → List (Entry × Rec) → List LogRecord
    aged p ys = map live_record (reverse (filter p ys))

    more : (b : Bool) → stays (live_record x) ≡ b → filter stays (aged on xs ++ live_record x ∷ []) ≡ filter stays (aged on xs) ++ cond b (live_record x ∷ []) []
    more b is = filter-append stays (aged on xs) (live_record x ∷ []) ∙ ap (λ (t : Bool). filter stays (aged on xs) ++ cond t (live_record x ∷ []) []) is

    by_tests : (a b : Bool) → on x ≡ a → keep x ≡ b → (on x ≡ true → keep x ≡ stays (live_record x)) → aged on (filter keep xs) ≡ filter stays (aged on xs)
        → aged on (filter keep (x ∷ xs)) ≡ filter stays (aged on (x ∷ xs))
    by_tests true true is kept same' rest =
        ap (λ (t : Bool). aged on (cond t (x ∷ filter keep xs) (filter keep xs))) kept
        ∙ ap (λ (t : Bool). map live_record (reverse (cond t (x ∷ filter on (filter keep xs)) (filter on (filter keep xs))))) is
        ∙ aged-cons live_record x (filter on (filter keep xs))
        ∙ ap (λ (ys : List LogRecord). ys ++ live_record x ∷ []) rest
        ∙ sym (more true (sym (same' is) ∙ kept))
        ∙ sym (ap (filter stays) (ap (λ (t : Bool). map live_record (reverse (cond t (x ∷ filter on xs) (filter on xs)))) is ∙ aged-cons live_record x (filter on xs)))
    by_tests true false is kept same' rest =
        ap (λ (t : Bool). aged on (cond t (x ∷ filter keep xs) (filter keep xs))) kept
        ∙ rest
        ∙ sym (append-nil (filter stays (aged on xs)))
        ∙ sym (more false (sym (same' is) ∙ kept))
        ∙ sym (ap (filter stays) (ap (λ (t : Bool). map live_record (reverse (cond t (x ∷ filter on xs) (filter on xs)))) is ∙ aged-cons live_record x (filter on xs)))
    by_tests false true is kept same' rest =
        ap (λ (t : Bool). aged on (cond t (x ∷ filter keep xs) (filter keep xs))) kept
        ∙ ap (λ (t : Bool). map live_record (reverse (cond t (x ∷ filter on (filter keep xs)) (filter on (filter keep xs))))) is
        ∙ rest
        ∙ sym (ap (filter stays) (ap (λ (t : Bool). map live_record (reverse (cond t (x ∷ filter on xs) (filter on xs)))) is))
    by_tests false false is kept same' rest =
        ap (λ (t : Bool). aged on (cond t (x ∷ filter keep xs) (filter keep xs))) kept
        ∙ rest
        ∙ sym (ap (filter stays) (ap (λ (t : Bool). map live_record (reverse (cond t (x ∷ filter on xs) (filter on xs)))) is))
