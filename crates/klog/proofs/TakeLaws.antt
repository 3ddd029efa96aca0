-- What is taken of a set's live records.
use Rattle.std.proofs.Common.{◌≡◌, ℕ, zero, suc, ◌+◌, ◌<◌, ◌≤◌, ◌⊎◌, inl, inr, true, List, [], ◌∷◌, ◌++◌, length, take, drop, map, Option, Some, None, Bool, false, All, Contains, slice_get, refl, sym, ap, subst, ◌∙◌, arith}
use Rattle.std.specs.Prelude.{IsSome, IsSomeAnd, IsTrue, IfOk, Result, Ok, Err}
use Rattle.std.specs.declared.alloc.AllocError.{AllocError}
use Rattle.std.proofs.lemmas.Bool.{false≢true}
use Rattle.std.proofs.lemmas.List.{take_more, take_all, length_push}
use Rattle.std.proofs.lemmas.List.Elements.{All-filter, All-weaker, All-head, All-tail, All-contains, All-contains_itself, All-take}
use Rattle.std.proofs.lemmas.Option.{slice_get_within, get_or_from_slice_get, same_Some}
use Rattle.page_device.specs.Device.{faults_after}
use Rattle.page_device.specs.Lending.{ReadsOrStops}
use Rattle.page_device.specs.Frames.{pages_from}
use Rattle.record_pages.specs.Recs.{Rec}
use Rattle.klog_index.specs.declared.entry.Entry.{Entry}
use Rattle.klog_index.specs.Entries.{is_of, of_set}
use Rattle.klog.specs.declared.gathered.Gathered.{Gathered}
use Rattle.klog.specs.declared.taken_record.TakenRecord.{TakenRecord}
use Rattle.klog.specs.Log.{LogState}
use Rattle.klog.specs.Shown.{shown_on, live_on, CanStandFor, IsLive, IsLiveOn, IsSpelledOn}
use Rattle.klog.specs.Known.{is_buffered, AreBuffered, ShowsIfHad}
use Rattle.klog.specs.Moves.{most_taken, taken_entries, taken_as, taken_of, AreCopies}
use Rattle.klog.specs.Take.{Copies, is_missing, is_lost_page}
use Rattle.klog.proofs.CallLaws.{stops_on}
use Rattle.klog.proofs.LiveLaws.{live_by, live_by-kept}
use Rattle.klog.proofs.KnownLaws.{shows_live, shows_weaker}
use Rattle.klog.proofs.LookLaws.{got, got_early, kept_of, dropped_at, dropped_past}

-- ---- what is left of the device where a copy was wanted, after others that were had
module _ {D : Type 0} {pages : D → ℕ} {honest : D → Bool} {failures : D → ℕ} {held : D → ℕ → Option (List ℕ)} {old mid new : D} where
  -- the copy was had
  pub reads_had : (o : Option TakenRecord) (t : TakenRecord) → o ≡ Some t → ReadsOrStops pages honest failures held mid (is_missing (Ok o)) new
      → ReadsOrStops pages honest failures held old false mid → ReadsOrStops pages honest failures held old false new
  reads_had o t is then before = stops_on (subst (λ (o : Option TakenRecord). ReadsOrStops pages honest failures held mid (is_missing (Ok o)) new) is then) before

  -- its page was lost
  pub reads_lost : (o : Option TakenRecord) → o ≡ None → ReadsOrStops pages honest failures held mid (is_missing (Ok o)) new
      → ReadsOrStops pages honest failures held old false mid → ReadsOrStops pages honest failures held old true new
  reads_lost o is then before = stops_on (subst (λ (o : Option TakenRecord). ReadsOrStops pages honest failures held mid (is_missing (Ok o)) new) is then) before

-- and where memory was refused
pub reads_wanted : {D : Type 0} {pages : D → ℕ} {honest : D → Bool} {failures : D → ℕ} {held : D → ℕ → Option (List ℕ)} {old new : D} (r : Result Gathered AllocError) (e : AllocError) → r ≡ Err e → ReadsOrStops pages honest failures held old false new
    → ReadsOrStops pages honest failures held old (is_lost_page r) new
reads_wanted {pages = pages} {honest = honest} {failures = failures} {held = held} {old = old} {new = new} r e is all = subst (λ (r : Result Gathered AllocError). ReadsOrStops pages honest failures held old (is_lost_page r) new) (sym is) all

-- no call of the device failed if memory was refused
pub faults_wanted : (r : Result Gathered AllocError) (e : AllocError) {before after : ℕ} → r ≡ Err e → after ≡ before → after ≡ faults_after before (is_lost_page r)
faults_wanted r e {before = before} {after = after} is same = subst (λ (r : Result Gathered AllocError). after ≡ faults_after before (is_lost_page r)) (sym is) same

-- what holds of all that is gathered holds if memory was refused
pub wanted_if_ok : (P : Gathered → Type 0) (r : Result Gathered AllocError) (e : AllocError) → r ≡ Err e → IfOk r P
wanted_if_ok P r e is = subst (λ (r : Result Gathered AllocError). IfOk r P) (sym is) tt

-- ---- a turn: the entry that stands so far after the newest of the set
abbrev pub AtTurn : LogState → ℕ → ℕ → Entry → Type 0
AtTurn k set behind e = slice_get (of_set set k.entries) behind ≡ Some e

-- the first of those that are left stands there
pub turn_at : (k : LogState) (set behind : ℕ) (e : Entry) (now rest : List Entry) → now ≡ drop behind (of_set set k.entries) → now ≡ e ∷ rest → AtTurn k set behind e
turn_at k set behind e now rest left is = (dropped_at (of_set set k.entries) behind e rest (sym left ∙ is)).0

-- and the others stand after it
pub turn_rest : (k : LogState) (set behind : ℕ) (e : Entry) (now rest : List Entry) → now ≡ drop behind (of_set set k.entries) → now ≡ e ∷ rest → rest ≡ drop (behind + 1) (of_set set k.entries)
turn_rest k set behind e now rest left is =
    let next : suc behind ≡ behind + 1 = omega arith in
    sym (dropped_at (of_set set k.entries) behind e rest (sym left ∙ is)).1 ∙ ap (λ (n : ℕ). drop n (of_set set k.entries)) next

pub turn_listed : (k : LogState) (set behind : ℕ) (e : Entry) → AtTurn k set behind e → Contains k.entries e
turn_listed k set behind e at = kept_of (is_of set) k.entries e (got (of_set set k.entries) behind e at)

pub turn_live : (bytes : ℕ) (held : ℕ → Option (List ℕ)) (k : LogState) (set behind : ℕ) (e : Entry) → AtTurn k set behind e → IsSpelledOn bytes held k → IsLiveOn bytes held k e
turn_live bytes held k set behind e at spelled = All-contains (IsLive bytes (pages_from k.shape.sets held) k) k.entries e spelled.live (turn_listed k set behind e at)

pub turn_taken : (k : LogState) (set behind : ℕ) (e : Entry) → behind < most_taken → AtTurn k set behind e → Contains (taken_entries k set) e
turn_taken k set behind e lt at = got (taken_entries k set) behind e (got_early (of_set set k.entries) most_taken behind e lt at)

pub turn_buffered : (k : LogState) (set behind : ℕ) (e : Entry) → behind < most_taken → AtTurn k set behind e → AreBuffered k (taken_entries k set) → IsTrue (is_buffered k e)
turn_buffered k set behind e lt at all = All-contains (λ e. IsTrue (is_buffered k e)) (taken_entries k set) e all (turn_taken k set behind e lt at)

-- ---- records that were copied

-- what stands at a place of a list to which one is added: it stood there before, or it is the one that is added
slice_get_push : {X : Type 0} (xs : List X) (y x : X) (i : ℕ) → slice_get (xs ++ y ∷ []) i ≡ Some x → (slice_get xs i ≡ Some x) ⊎ ((i ≡ length xs) × (y ≡ x))
slice_get_push [] y x zero at = inr (refl, same_Some y x at)
slice_get_push [] y x (suc i) at = absurd cc
slice_get_push (z ∷ xs) y x zero at = inl at
slice_get_push (z ∷ xs) y x (suc i) at = elim (slice_get_push xs y x i at) [ inl before ↦ inl before | inr last ↦ inr (omega (arith, last.0), last.1) ]

-- what stood at a place stands there still, and after all of it stands what is added
slice_get_still : {X : Type 0} (xs : List X) (y x : X) (i : ℕ) → slice_get xs i ≡ Some x → slice_get (xs ++ y ∷ []) i ≡ Some x
slice_get_still [] y x i at = absurd cc
slice_get_still (z ∷ xs) y x zero at = at
slice_get_still (z ∷ xs) y x (suc i) at = slice_get_still xs y x i at

slice_get_last : {X : Type 0} (xs : List X) (y : X) → slice_get (xs ++ y ∷ []) (length xs) ≡ Some y
slice_get_last [] y = refl
slice_get_last (z ∷ xs) y = slice_get_last xs y

-- one record more
copies_push : (bytes : ℕ) (held : ℕ → Option (List ℕ)) (k : LogState) (es : List Entry) (rs : List TakenRecord) (e : Entry) (t : TakenRecord) → AreCopies bytes held k es rs → ShowsIfHad bytes held k e (λ r. t ≡ taken_as k (e, r))
    → AreCopies bytes held k (es ++ e ∷ []) (rs ++ t ∷ [])
copies_push bytes held k es rs e t h copies = record {
  count = length_push rs t ∙ ap (λ (n : ℕ). n + 1) h.count ∙ sym (length_push es e);
  each = λ i x at. elim (slice_get_push es e x i at) [
    | inl before ↦ shows_weaker bytes held k x (λ r. slice_get rs i ≡ Some (taken_as k (x, r))) (λ r. slice_get (rs ++ t ∷ []) i ≡ Some (taken_as k (x, r))) (λ r is. slice_get_still rs t (taken_as k (x, r)) i is) (h.each i x before)
    | inr last ↦
        subst (λ (x : Entry). ShowsIfHad bytes held k x (λ r. slice_get (rs ++ t ∷ []) i ≡ Some (taken_as k (x, r)))) last.1
        (shows_weaker bytes held k e (λ r. t ≡ taken_as k (e, r)) (λ r. slice_get (rs ++ t ∷ []) i ≡ Some (taken_as k (e, r)))
        (λ r is. ap (slice_get (rs ++ t ∷ [])) (last.0 ∙ sym h.count) ∙ slice_get_last rs t ∙ ap Some is) copies)
  ];
}

-- the same of a turn
pub turn_more : (bytes : ℕ) (held : ℕ → Option (List ℕ)) (k : LogState) (set behind : ℕ) (e : Entry) (t : TakenRecord) (rs : List TakenRecord) → AtTurn k set behind e
    → AreCopies bytes held k (take behind (of_set set k.entries)) rs → ShowsIfHad bytes held k e (λ r. t ≡ taken_as k (e, r)) → AreCopies bytes held k (take (behind + 1) (of_set set k.entries)) (rs ++ t ∷ [])
turn_more bytes held k set behind e t rs at before copies =
    let es = of_set set k.entries in
    let more : take (behind + 1) es ≡ take behind es ++ e ∷ [] =
    take_more es behind e (slice_get_within es behind e at) ∙ ap (λ (x : Entry). take behind es ++ x ∷ []) (get_or_from_slice_get es behind e e at) in
    subst (λ (xs : List Entry). AreCopies bytes held k xs (rs ++ t ∷ [])) (sym more) (copies_push bytes held k (take behind es) rs e t before copies)

-- ---- what is taken of the live records, if all of them are known

-- copies of live entries are their records
live_copies : (bytes : ℕ) (held : ℕ → Option (List ℕ)) (k : LogState) (es : List Entry) (rs : List TakenRecord) → All (IsLiveOn bytes held k) es → AreCopies bytes held k es rs → rs ≡ map (taken_as k) (live_by (shown_on held k) es)
live_copies bytes held k [] [] live h = refl
live_copies bytes held k [] (t ∷ rs) live h = absurd (omega (arith, h.count))
live_copies bytes held k (e ∷ es) [] live h = absurd (omega (arith, h.count))
live_copies bytes held k (e ∷ es) (t ∷ rs) live h =
    let rest : rs ≡ map (taken_as k) (live_by (shown_on held k) es) =
    live_copies bytes held k es rs (All-tail (IsLiveOn bytes held k) e es live) (record { count = omega (arith, h.count); each = λ i x at. h.each (suc i) x at }) in
    step (shown_on held k e) refl (shows_live bytes held k e (λ r. Some t ≡ Some (taken_as k (e, r))) (All-head (IsLiveOn bytes held k) e es live) (h.each 0 e refl)) rest
  where
    step : (o : Option Rec) → shown_on held k e ≡ o → IsSomeAnd o (λ r. Some t ≡ Some (taken_as k (e, r))) → rs ≡ map (taken_as k) (live_by (shown_on held k) es) → t ∷ rs ≡ map (taken_as k) (live_by (shown_on held k) (e ∷ es))
    step (Some r) is first rest = simp is (ap (λ (x : TakenRecord). x ∷ rs) (same_Some t (taken_as k (e, r)) first) ∙ ap (λ (ts : List TakenRecord). taken_as k (e, r) ∷ ts) rest)
    step None is first rest = absurd first

-- if each entry shows a record, the first of them are as many live records
take_live : (shows : Entry → Option Rec) (n : ℕ) (es : List Entry) → All (λ e. IsSome (shows e)) es → take n (live_by shows es) ≡ live_by shows (take n es)
take_live shows zero es all = refl
take_live shows (suc n) [] all = refl
take_live shows (suc n) (e ∷ es) all = step (shows e) refl (All-head (λ e. IsSome (shows e)) e es all) (take_live shows n es (All-tail (λ e. IsSome (shows e)) e es all))
  where
    step : (o : Option Rec) → shows e ≡ o → IsSome (shows e) → take n (live_by shows es) ≡ live_by shows (take n es) → take (suc n) (live_by shows (e ∷ es)) ≡ live_by shows (e ∷ take n es)
    step (Some r) is some rest = simp is (ap (λ (xs : List (Entry × Rec)). (e, r) ∷ xs) rest)
    step None is some rest = absurd (false≢true (subst (λ (o : Option Rec). IsSome o) is some))

-- what is some value of which something holds is some value
pub some_known : (o : Option Rec) (P : Rec → Type 0) → IsSomeAnd o P → IsSome o
some_known (Some r) P h = refl
some_known None P h = absurd h

-- the live records that are taken
taken_first : (bytes : ℕ) (held : ℕ → Option (List ℕ)) (k : LogState) (set : ℕ) → IsSpelledOn bytes held k
    → map (taken_as k) (live_by (shown_on held k) (taken_entries k set)) ≡ taken_of k set (live_on held k)
taken_first bytes held k set spelled =
    let all : All (λ e. IsSome (shown_on held k e)) k.entries =
    All-weaker (IsLiveOn bytes held k) (λ e. IsSome (shown_on held k e)) (λ e live. some_known (shown_on held k e) (CanStandFor bytes k.shape e) live) k.entries spelled.live in
    ap (map (taken_as k)) (sym (take_live (shown_on held k) most_taken (of_set set k.entries) (All-filter (is_of set) (λ e. IsSome (shown_on held k e)) k.entries all)))
    ∙ ap (λ (xs : List (Entry × Rec)). map (taken_as k) (take most_taken xs)) (live_by-kept (is_of set) (shown_on held k) k.entries)

-- if none stands further on, those so far are all that are taken
pub taken_all : (k : LogState) (set behind : ℕ) (now : List Entry) → now ≡ drop behind (of_set set k.entries) → now ≡ [] → behind ≤ most_taken → take behind (of_set set k.entries) ≡ taken_entries k set
taken_all k set behind now left none le =
    let es = of_set set k.entries in
    let short : length es ≤ behind = dropped_past es behind (sym left ∙ none) in
    take_all behind es short ∙ sym (take_all most_taken es (omega (arith, short, le)))

-- so what lies behind records that are taken gives which they are
pub taken_of_copies : (bytes : ℕ) (held : ℕ → Option (List ℕ)) (k : LogState) (set : ℕ) (rs : List TakenRecord) → AreCopies bytes held k (taken_entries k set) rs → IsSpelledOn bytes held k → rs ≡ taken_of k set (live_on held k)
taken_of_copies bytes held k set rs copies spelled =
    live_copies bytes held k (taken_entries k set) rs (All-take (IsLiveOn bytes held k) most_taken (of_set set k.entries) (All-filter (is_of set) (IsLiveOn bytes held k) k.entries spelled.live)) copies
    ∙ taken_first bytes held k set spelled

-- what is copied at a turn, on the device as it was
pub turn_copies : (bytes : ℕ) (held held' : ℕ → Option (List ℕ)) (k : LogState) (e : Entry) (o o' : Result (Option TakenRecord) AllocError) → held' ≡ held → o ≡ o' → Copies bytes held' k e o → Copies bytes held k e o'
turn_copies bytes held held' k e o o' same is h = subst (Copies bytes held k e) is (subst (λ (x : ℕ → Option (List ℕ)). Copies bytes x k e o) same h)

-- if an entry is live a page of it that is lost was a failure
pub turn_fails : (bytes : ℕ) (held held' : ℕ → Option (List ℕ)) (k : LogState) (e : Entry) (o : Option TakenRecord) (start before now : ℕ) → held' ≡ held → o ≡ None → before ≡ start
    → (IsLiveOn bytes held' k e → now ≡ faults_after before (is_missing (Ok o))) → IsLiveOn bytes held k e → now ≡ faults_after start true
turn_fails bytes held held' k e o start before now same is began h live =
    subst (λ (x : ℕ → Option (List ℕ)). IsLiveOn bytes x k e → now ≡ faults_after before (is_missing (Ok o))) same h live
    ∙ ap (λ (o : Option TakenRecord). faults_after before (is_missing (Ok o))) is
    ∙ ap (λ (n : ℕ). faults_after n true) began

-- an entry that is to be taken is an entry
pub listed_taken : (k : LogState) (set : ℕ) (e : Entry) → Contains (taken_entries k set) e → Contains k.entries e
listed_taken k set e h =
    kept_of (is_of set) k.entries e (All-contains (Contains (of_set set k.entries)) (taken_entries k set) e (All-take (Contains (of_set set k.entries)) most_taken (of_set set k.entries) (All-contains_itself (of_set set k.entries))) h)
