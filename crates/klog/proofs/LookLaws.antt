-- What a look-up finds among the live records.
use Rattle.std.proofs.Common.{◌≡◌, ℕ, zero, suc, ◌+◌, ◌<◌, ◌≤◌, Bool, true, false, cond, ◌&&◌, eqb, List, [], ◌∷◌, ◌++◌, length, get_or, take, drop, filter, Option, Some, None, All, Contains, slice_get, drop-cons, refl, sym, ap, subst, ◌∙◌, arith}
use Rattle.std.specs.Prelude.{IsSomeAnd, IsTrue, find}
use Rattle.std.specs.List.{cons_option}
use Rattle.std.specs.Option.{option_map}
use Rattle.std.specs.Cmp.Lexicographic.{same_text}
use Rattle.std.proofs.lemmas.Bool.{and_from, and_parts, eq-eqb, eqb-true, false≢true}
use Rattle.std.proofs.lemmas.List.{take_all, take-append-drop}
use Rattle.std.proofs.lemmas.List.Elements.{All-filter, All-cons, All-nil, All-head, All-tail, All-more, All-contains, All-contains_itself, All-take, filter_passes}
use Rattle.std.proofs.lemmas.Option.{slice_get_within, get_or_from_slice_get}
use Rattle.record_pages.specs.Expiry.{value_at}
use Rattle.record_pages.specs.Recs.{Rec}
use Rattle.record_pages.specs.Looking.{has_key}
use Rattle.klog_index.specs.declared.entry.Entry.{Entry}
use Rattle.klog_index.specs.Entries.{is_of, has_tag, of_set, of_tag}
use Rattle.set_hash.specs.declared.placed.Placed.{Placed}
use Rattle.klog.specs.Log.{Shape, LogState}
use Rattle.klog.specs.Shown.{shown_on, live_on, ArePlaced, newest_with, place_in, CanStandFor, IsLiveOn, IsSpelledOn}
use Rattle.klog.specs.Fetch.{IsPlaceOf}
use Rattle.klog.specs.Find.{with_tag}
use Rattle.klog.specs.Look.{lowered_in, ShowsOther, IsReached, ComesToPage}
use Rattle.klog.specs.Known.{is_buffered, AreBuffered, ShowsIfHad}
use Rattle.klog.proofs.LiveLaws.{live_by, live_by-kept, length-kept}
use Rattle.klog.proofs.KnownLaws.{shows_live}

-- the entry shows a record with another key
abbrev OtherBy : (Entry → Option Rec) → List ℕ → Entry → Type 0
OtherBy shows key e = IsSomeAnd (shows e) (λ r. has_key key r ≡ false)

-- what holds of each entry's record holds of each live record
pub All-live : (P : Entry × Rec → Type 0) (shows : Entry → Option Rec) (es : List Entry) → All (λ e. (r : Rec) → shows e ≡ Some r → P (e, r)) es → All P (live_by shows es)
All-live P shows [] h = All-nil P
All-live P shows (e ∷ es) h =
    step (shows e) refl (All-live P shows es (All-tail (λ e. (r : Rec) → shows e ≡ Some r → P (e, r)) e es h)) (All-head (λ e. (r : Rec) → shows e ≡ Some r → P (e, r)) e es h)
  where
    step : (o : Option Rec) → shows e ≡ o → All P (live_by shows es) → ((r : Rec) → shows e ≡ Some r → P (e, r)) → All P (cons_option (option_map (λ r. (e, r)) (shows e)) (live_by shows es))
    step (Some r) at rest here = rw at (All-cons P (e, r) (live_by shows es) (here r at) rest)
    step None at rest here = rw at rest

-- live records are placed
pub placed_live : (bytes : ℕ) (held : ℕ → Option (List ℕ)) (k : LogState) → IsSpelledOn bytes held k → ArePlaced k.shape (live_on held k)
placed_live bytes held k h =
    All-live (λ x. ((place_in k.shape x.1.key).set ≡ x.0.set) × ((place_in k.shape x.1.key).tag ≡ x.0.tag)) (shown_on held k) k.entries
    (λ i d lt r at.
    let can : CanStandFor bytes k.shape (get_or k.entries i d) r = subst (λ (o : Option Rec). IsSomeAnd o (CanStandFor bytes k.shape (get_or k.entries i d))) at (h.live i d lt) in
    (can.set_is, can.tag_is))

-- the first that passes a test is the first of those that pass another one, if none passes the first alone
find-kept : (p q : Entry × Rec → Bool) (xs : List (Entry × Rec)) → All (λ x. p x ≡ true → q x ≡ true) xs → find p (filter q xs) ≡ find p xs
find-kept p q [] h = refl
find-kept p q (x ∷ xs) h =
    step (q x) (p x) refl refl (find-kept p q xs (All-tail (λ x. p x ≡ true → q x ≡ true) x xs h)) (All-head (λ x. p x ≡ true → q x ≡ true) x xs h)
  where
    step : (a b : Bool) → q x ≡ a → p x ≡ b → find p (filter q xs) ≡ find p xs → (p x ≡ true → q x ≡ true) → find p (filter q (x ∷ xs)) ≡ find p (x ∷ xs)
    step true true qx px rest here = simp (qx, px) refl
    step true false qx px rest here = simp (qx, px) rest
    step false true qx px rest here = absurd (false≢true (sym qx ∙ here px))
    step false false qx px rest here = simp (qx, px) rest

-- a live record with a key is of the key's set and tag
of_its_tag : (bytes : ℕ) (shape : Shape) (key : List ℕ) (e : Entry) (r : Rec) → CanStandFor bytes shape e r → has_key key r ≡ true → has_tag (place_in shape key).set (place_in shape key).tag e ≡ true
of_its_tag bytes shape key e r can has =
    let same : r.key ≡ key = same_text r.key key (sym has) in
    and_from _ _
    (eq-eqb e.set (place_in shape key).set (sym can.set_is ∙ ap (λ (k : List ℕ). (place_in shape k).set) same))
    (eq-eqb e.tag (place_in shape key).tag (sym can.tag_is ∙ ap (λ (k : List ℕ). (place_in shape k).tag) same))

-- so only the entries of that set and tag are searched for it
pub newest_of_tag : (bytes : ℕ) (held : ℕ → Option (List ℕ)) (k : LogState) (key : List ℕ) → IsSpelledOn bytes held k
    → newest_with (live_by (shown_on held k) (of_tag (place_in k.shape key).set (place_in k.shape key).tag k.entries)) key ≡ newest_with (live_on held k) key
newest_of_tag bytes held k key h =
    let kind : Entry → Bool = has_tag (place_in k.shape key).set (place_in k.shape key).tag in
    let each : All (λ e. (r : Rec) → shown_on held k e ≡ Some r → has_key key r ≡ true → kind e ≡ true) k.entries =
    λ i d lt r at has. of_its_tag bytes k.shape key (get_or k.entries i d) r (subst (λ (o : Option Rec). IsSomeAnd o (CanStandFor bytes k.shape (get_or k.entries i d))) at (h.live i d lt)) has in
    ap (λ (xs : List (Entry × Rec)). find (λ x. has_key key x.1) xs) (live_by-kept kind (shown_on held k) k.entries)
    ∙ find-kept (λ x. has_key key x.1) (λ x. kind x.0) (live_on held k) (All-live (λ x. has_key key x.1 ≡ true → kind x.0 ≡ true) (shown_on held k) k.entries each)

-- if the entries before one show other keys, and it shows the key, its record is the newest with the key
newest_at : (shows : Entry → Option Rec) (key : List ℕ) (front : List Entry) (e : Entry) (r : Rec) (back : List Entry) → All (OtherBy shows key) front → shows e ≡ Some r → has_key key r ≡ true
    → newest_with (live_by shows (front ++ e ∷ back)) key ≡ Some (e, r)
newest_at shows key [] e r back none at has = simp (at, has) refl
newest_at shows key (x ∷ front) e r back none at has =
    step (shows x) refl (All-head (OtherBy shows key) x front none) (newest_at shows key front e r back (All-tail (OtherBy shows key) x front none) at has)
  where
    step : (o : Option Rec) → shows x ≡ o → IsSomeAnd (shows x) (λ r. has_key key r ≡ false) → newest_with (live_by shows (front ++ e ∷ back)) key ≡ Some (e, r)
        → newest_with (live_by shows (x ∷ (front ++ e ∷ back))) key ≡ Some (e, r)
    step (Some y) is here rest = let other : has_key key y ≡ false = subst (λ (o : Option Rec). IsSomeAnd o (λ r. has_key key r ≡ false)) is here in simp (is, other) rest
    step None is here rest = simp is rest

-- if all entries show other keys, none is the newest with the key
newest_none : (shows : Entry → Option Rec) (key : List ℕ) (es : List Entry) → All (OtherBy shows key) es → newest_with (live_by shows es) key ≡ None
newest_none shows key [] none = refl
newest_none shows key (x ∷ es) none =
    step (shows x) refl (All-head (OtherBy shows key) x es none) (newest_none shows key es (All-tail (OtherBy shows key) x es none))
  where
    step : (o : Option Rec) → shows x ≡ o → IsSomeAnd (shows x) (λ r. has_key key r ≡ false) → newest_with (live_by shows es) key ≡ None → newest_with (live_by shows (x ∷ es)) key ≡ None
    step (Some y) is here rest = let other : has_key key y ≡ false = subst (λ (o : Option Rec). IsSomeAnd o (λ r. has_key key r ≡ false)) is here in simp (is, other) rest
    step None is here rest = simp is rest

-- ---- a turn of the search: the entry that stands so far after the newest with its set and tag
abbrev pub AtTurn : LogState → ℕ → ℕ → ℕ → Entry → Type 0
AtTurn k set tag behind e = slice_get (of_tag set tag k.entries) behind ≡ Some e

-- if a list is left from a place on, its first one stands at that place, and the others from the next one on
pub dropped_at : {X : Type 0} (xs : List X) (n : ℕ) (x : X) (rest : List X) → drop n xs ≡ x ∷ rest → (slice_get xs n ≡ Some x) × (drop (suc n) xs ≡ rest)
dropped_at [] zero x rest is = absurd cc
dropped_at [] (suc n) x rest is = absurd cc
dropped_at (y ∷ xs) zero x rest is = (cc, cc)
dropped_at (y ∷ xs) (suc n) x rest is = let h = dropped_at xs n x rest is in (h.0, h.1)

-- if none is left the list ends before that place
pub dropped_past : {X : Type 0} (xs : List X) (n : ℕ) → drop n xs ≡ [] → length xs ≤ n
dropped_past [] n is = omega arith
dropped_past (y ∷ xs) zero is = absurd cc
dropped_past (y ∷ xs) (suc n) is = omega (arith, dropped_past xs n is)

-- the first of those that are left stands there
pub turn_at : (k : LogState) (set tag behind : ℕ) (e : Entry) (now rest : List Entry) → now ≡ drop behind (of_tag set tag k.entries) → now ≡ e ∷ rest → AtTurn k set tag behind e
turn_at k set tag behind e now rest left is = (dropped_at (of_tag set tag k.entries) behind e rest (sym left ∙ is)).0

-- and the others stand after it
pub turn_rest : (k : LogState) (set tag behind : ℕ) (e : Entry) (now rest : List Entry) → now ≡ drop behind (of_tag set tag k.entries) → now ≡ e ∷ rest → rest ≡ drop (behind + 1) (of_tag set tag k.entries)
turn_rest k set tag behind e now rest left is =
    let next : suc behind ≡ behind + 1 = omega arith in
    sym (dropped_at (of_tag set tag k.entries) behind e rest (sym left ∙ is)).1 ∙ ap (λ (n : ℕ). drop n (of_tag set tag k.entries)) next

-- the entries of a set that have a tag
tag_of_set : (set tag : ℕ) (es : List Entry) → with_tag tag (of_set set es) ≡ of_tag set tag es
tag_of_set set tag [] = refl
tag_of_set set tag (e ∷ es) =
    let later = tag_of_set set tag es in
    elim (is_of set e) as (λ b. with_tag tag (cond b (e ∷ of_set set es) (of_set set es)) ≡ cond (b && eqb e.tag tag) (e ∷ of_tag set tag es) (of_tag set tag es)) [
      | true ↦ ap (λ (xs : List Entry). cond (eqb e.tag tag) (e ∷ xs) xs) later
      | false ↦ later
    ]

-- all are left at first
pub all_left : (v k : LogState) (set tag : ℕ) (left : List Entry) → v ≡ k → left ≡ of_set set v.entries → with_tag tag left ≡ drop 0 (of_tag set tag k.entries)
all_left v k set tag left same is = ap (with_tag tag) (is ∙ ap (λ (q : LogState). of_set set q.entries) same) ∙ tag_of_set set tag k.entries

-- what is found at a place is there
pub got : {X : Type 0} (xs : List X) (i : ℕ) (x : X) → slice_get xs i ≡ Some x → Contains xs x
got xs i x e = (i, slice_get_within xs i x e, get_or_from_slice_get xs i x x e)

-- what is kept of a list is of it
pub kept_of : {X : Type 0} (p : X → Bool) (xs : List X) (x : X) → Contains (filter p xs) x → Contains xs x
kept_of p xs x h = All-contains (Contains xs) (filter p xs) x (All-filter p (Contains xs) xs (All-contains_itself xs)) h

pub turn_listed : (k : LogState) (set tag behind : ℕ) (e : Entry) → AtTurn k set tag behind e → Contains k.entries e
turn_listed k set tag behind e at = kept_of (has_tag set tag) k.entries e (got (of_tag set tag k.entries) behind e at)

-- it has the set and the tag of the key
pub turn_its : (k : LogState) (key : List ℕ) (placed : Placed) (behind : ℕ) (e : Entry) → placed ≡ place_in k.shape key → AtTurn k placed.set placed.tag behind e → IsPlaceOf k.shape key e
turn_its k key placed behind e is at =
    let tests : has_tag placed.set placed.tag e ≡ true =
    All-contains (λ (x : Entry). has_tag placed.set placed.tag x ≡ true) (of_tag placed.set placed.tag k.entries) e (filter_passes (has_tag placed.set placed.tag) k.entries)
    (got (of_tag placed.set placed.tag k.entries) behind e at) in
    let both = and_parts (eqb e.set placed.set) (eqb e.tag placed.tag) tests in (
      sym (ap (λ (p : Placed). p.set) is) ∙ sym (eqb-true e.set placed.set both.0),
      sym (ap (λ (p : Placed). p.tag) is) ∙ sym (eqb-true e.tag placed.tag both.1),
    )

pub turn_buffered : (k : LogState) (set tag behind : ℕ) (e : Entry) → AtTurn k set tag behind e → AreBuffered k (of_tag set tag k.entries) → IsTrue (is_buffered k e)
turn_buffered k set tag behind e at all = All-contains (λ e. IsTrue (is_buffered k e)) (of_tag set tag k.entries) e all (got (of_tag set tag k.entries) behind e at)

-- the entries before it lie in buffers if all do
pub turn_before : (k : LogState) (set tag behind : ℕ) → AreBuffered k (of_tag set tag k.entries) → AreBuffered k (take behind (of_tag set tag k.entries))
turn_before k set tag behind all = All-take (λ e. IsTrue (is_buffered k e)) behind (of_tag set tag k.entries) all

-- what stands early in a list is among the first
pub got_early : {X : Type 0} (xs : List X) (n i : ℕ) (x : X) → i < n → slice_get xs i ≡ Some x → slice_get (take n xs) i ≡ Some x
got_early [] n i x lt e = absurd cc
got_early (y ∷ xs) zero i x lt e = absurd (omega (arith, lt))
got_early (y ∷ xs) (suc n) zero x lt e = e
got_early (y ∷ xs) (suc n) (suc i) x lt e = got_early xs n i x (omega (arith, lt)) e

-- the first ones of one more are the first ones
take_less : {X : Type 0} (n : ℕ) (xs : List X) → take n (take (suc n) xs) ≡ take n xs
take_less zero xs = refl
take_less (suc n) [] = refl
take_less {X} (suc n) (x ∷ xs) = ap (λ (ys : List X). x ∷ ys) (take_less n xs)

-- what holds of the first ones and one more holds of the first ones, and of that one
pub first_ones : {X : Type 0} (P : X → Type 0) (xs : List X) (n : ℕ) (x : X) → slice_get xs n ≡ Some x → All P (take (n + 1) xs) → All P (take n xs) × P x
first_ones {X} P xs n x at all =
    let next : n + 1 ≡ suc n = omega arith in
    let more : All P (take (suc n) xs) = subst (λ (m : ℕ). All P (take m xs)) next all in
    (subst (All P) (take_less n xs) (All-take P n (take (suc n) xs) more), All-contains P (take (suc n) xs) x more (got (take (suc n) xs) n x (got_early xs (suc n) n x (omega arith) at)))

-- the same of the entries with a tag
pub turn_first : (P : Entry → Type 0) (k : LogState) (set tag behind : ℕ) (e : Entry) → AtTurn k set tag behind e → All P (take (behind + 1) (of_tag set tag k.entries)) → All P (take behind (of_tag set tag k.entries)) × P e
turn_first P k set tag behind e at all = first_ones P (of_tag set tag k.entries) behind e at all

-- the search came to it
pub turn_reached : (bytes : ℕ) (held : ℕ → Option (List ℕ)) (k : LogState) (set tag : ℕ) (key : List ℕ) (behind : ℕ) (e : Entry) → AtTurn k set tag behind e
    → All (ShowsOther bytes held k key) (take behind (of_tag set tag k.entries)) → IsReached bytes held k set tag key e
turn_reached bytes held k set tag key behind e at newer = record { behind = behind; at = at; newer = newer }

pub reached_listed : (bytes : ℕ) (held : ℕ → Option (List ℕ)) (k : LogState) (set tag : ℕ) (key : List ℕ) (e : Entry) → IsReached bytes held k set tag key e → Contains (of_tag set tag k.entries) e
reached_listed bytes held k set tag key e h = got (of_tag set tag k.entries) h.behind e h.at

-- one entry more shows another key
pub turn_other : (bytes : ℕ) (held : ℕ → Option (List ℕ)) (k : LogState) (set tag : ℕ) (key : List ℕ) (behind : ℕ) (e : Entry) → AtTurn k set tag behind e
    → All (ShowsOther bytes held k key) (take behind (of_tag set tag k.entries)) → ShowsOther bytes held k key e → All (ShowsOther bytes held k key) (take (behind + 1) (of_tag set tag k.entries))
turn_other bytes held k set tag key behind e at newer other =
    All-more (ShowsOther bytes held k key) (of_tag set tag k.entries) behind e (slice_get_within (of_tag set tag k.entries) behind e at) newer
    (subst (ShowsOther bytes held k key) (sym (get_or_from_slice_get (of_tag set tag k.entries) behind e e at)) other)

-- if none stands further on, all entries of the set and tag show other keys
pub turns_over : (bytes : ℕ) (held : ℕ → Option (List ℕ)) (k : LogState) (set tag : ℕ) (key : List ℕ) (n : ℕ) → length (of_tag set tag k.entries) ≤ n
    → All (ShowsOther bytes held k key) (take n (of_tag set tag k.entries)) → All (ShowsOther bytes held k key) (of_tag set tag k.entries)
turns_over bytes held k set tag key n le newer = subst (All (ShowsOther bytes held k key)) (take_all n (of_tag set tag k.entries) le) newer

-- ---- what is found among the live records, if all of them are known

-- an entry of a log that is spelled is live
pub spelled_live : (bytes : ℕ) (held : ℕ → Option (List ℕ)) (k : LogState) (set tag : ℕ) → IsSpelledOn bytes held k → All (IsLiveOn bytes held k) (of_tag set tag k.entries)
spelled_live bytes held k set tag spelled = All-filter (has_tag set tag) (IsLiveOn bytes held k) k.entries spelled.live

-- and shows another key if that is so of what is known
spelled_other : (bytes : ℕ) (held : ℕ → Option (List ℕ)) (k : LogState) (key : List ℕ) (es : List Entry) → All (IsLiveOn bytes held k) es → All (ShowsOther bytes held k key) es → All (OtherBy (shown_on held k) key) es
spelled_other bytes held k key es live others = λ i d lt. shows_live bytes held k (get_or es i d) (λ r. has_key key r ≡ false) (live i d lt) (others i d lt)

-- the entry at a place of a list, with what stands before and after it
split_at : (es : List Entry) (n : ℕ) (e : Entry) → slice_get es n ≡ Some e → es ≡ take n es ++ e ∷ drop (n + 1) es
split_at es n e at =
    let next : suc n ≡ n + 1 = omega arith in
    sym (take-append-drop n es)
    ∙ ap (λ (ys : List Entry). take n es ++ ys) (drop-cons es n e (slice_get_within es n e at) ∙ ap (λ (x : Entry). x ∷ drop (suc n) es) (get_or_from_slice_get es n e e at) ∙ ap (λ (m : ℕ). e ∷ drop m es) next)

newest_in : (bytes : ℕ) (held : ℕ → Option (List ℕ)) (k : LogState) (key : List ℕ) (placed : Placed) → placed ≡ place_in k.shape key → IsSpelledOn bytes held k
    → newest_with (live_by (shown_on held k) (of_tag placed.set placed.tag k.entries)) key ≡ newest_with (live_on held k) key
newest_in bytes held k key placed is spelled =
    ap (λ (p : Placed). newest_with (live_by (shown_on held k) (of_tag p.set p.tag k.entries)) key) is ∙ newest_of_tag bytes held k key spelled

-- if the search came to an entry that shows the key, its record is the newest live one of the key
pub hit_newest : (bytes : ℕ) (held : ℕ → Option (List ℕ)) (k : LogState) (key : List ℕ) (placed : Placed) (e : Entry) (P : Rec → Type 0) → placed ≡ place_in k.shape key → IsSpelledOn bytes held k
    → IsReached bytes held k placed.set placed.tag key e → ShowsIfHad bytes held k e (λ r. (has_key key r ≡ true) × P r) → (r : Rec) × (newest_with (live_on held k) key ≡ Some (e, r)) × P r
hit_newest bytes held k key placed e P is spelled reached shows =
    let es = of_tag placed.set placed.tag k.entries in
    let behind = reached.behind in
    let live = spelled_live bytes held k placed.set placed.tag spelled in
    let newer : All (OtherBy (shown_on held k) key) (take behind es) = spelled_other bytes held k key (take behind es) (All-take (IsLiveOn bytes held k) behind es live) reached.newer in
    let here : IsLiveOn bytes held k e = All-contains (IsLiveOn bytes held k) es e live (reached_listed bytes held k placed.set placed.tag key e reached) in
    let hit : (r : Rec) × (shown_on held k e ≡ Some r) × (has_key key r ≡ true) × P r =
    known (shown_on held k e) refl (shows_live bytes held k e (λ r. (has_key key r ≡ true) × P r) here shows) in (
      hit.0,
      sym (newest_in bytes held k key placed is spelled)
          ∙ ap (λ (xs : List Entry). newest_with (live_by (shown_on held k) xs) key) (split_at es behind e reached.at)
          ∙ newest_at (shown_on held k) key (take behind es) e hit.0 (drop (behind + 1) es) newer hit.1 hit.2,
      hit.3,
    )
  where
    known : (o : Option Rec) → shown_on held k e ≡ o → IsSomeAnd o (λ r. (has_key key r ≡ true) × P r) → (r : Rec) × (shown_on held k e ≡ Some r) × (has_key key r ≡ true) × P r
    known (Some r) at h = (r, at, h.0, h.1)
    known None at h = absurd h

-- if all entries with the set and tag show other keys, no live record has the key
pub absent_none : (bytes : ℕ) (held : ℕ → Option (List ℕ)) (k : LogState) (key : List ℕ) (placed : Placed) → placed ≡ place_in k.shape key → IsSpelledOn bytes held k
    → All (ShowsOther bytes held k key) (of_tag placed.set placed.tag k.entries) → newest_with (live_on held k) key ≡ None
absent_none bytes held k key placed is spelled others =
    let es = of_tag placed.set placed.tag k.entries in
    sym (newest_in bytes held k key placed is spelled)
    ∙ newest_none (shown_on held k) key es (spelled_other bytes held k key es (spelled_live bytes held k placed.set placed.tag spelled) others)

-- the records that entries show, before one that shows a record, that one's, and those after
live_split : (shows : Entry → Option Rec) (front : List Entry) (e : Entry) (r : Rec) (back : List Entry) → shows e ≡ Some r
    → live_by shows (front ++ e ∷ back) ≡ live_by shows front ++ (e, r) ∷ live_by shows back
live_split shows [] e r back at = simp at refl
live_split shows (x ∷ front) e r back at = step (shows x) refl (live_split shows front e r back at)
  where
    step : (o : Option Rec) → shows x ≡ o → live_by shows (front ++ e ∷ back) ≡ live_by shows front ++ (e, r) ∷ live_by shows back
        → live_by shows (x ∷ (front ++ e ∷ back)) ≡ live_by shows (x ∷ front) ++ (e, r) ∷ live_by shows back
    step (Some y) is rest = simp is (ap (λ (xs : List (Entry × Rec)). (x, y) ∷ xs) rest)
    step None is rest = simp is rest

-- if the search comes to an entry that lies in no buffer, it comes to a page
pub comes_to_page : (bytes : ℕ) (held : ℕ → Option (List ℕ)) (k : LogState) (key : List ℕ) (placed : Placed) (e : Entry) → placed ≡ place_in k.shape key → IsSpelledOn bytes held k
    → IsReached bytes held k placed.set placed.tag key e → is_buffered k e ≡ false → ComesToPage k key (live_on held k)
comes_to_page bytes held k key placed e is spelled reached stored =
    let es = of_tag placed.set placed.tag k.entries in
    let behind = reached.behind in
    let live = spelled_live bytes held k placed.set placed.tag spelled in
    let newer : All (OtherBy (shown_on held k) key) (take behind es) = spelled_other bytes held k key (take behind es) (All-take (IsLiveOn bytes held k) behind es live) reached.newer in
    let here : IsLiveOn bytes held k e = All-contains (IsLiveOn bytes held k) es e live (reached_listed bytes held k placed.set placed.tag key e reached) in
    let its : (r : Rec) × (shown_on held k e ≡ Some r) = known (shown_on held k e) refl here in
    record {
      newer = live_by (shown_on held k) (take behind es);
      at = (e, its.0);
      older = live_by (shown_on held k) (drop (behind + 1) es);
      split = ap (λ (p : Placed). filter (λ x. has_tag p.set p.tag x.0) (live_on held k)) (sym is)
          ∙ sym (live_by-kept (has_tag placed.set placed.tag) (shown_on held k) k.entries)
          ∙ ap (live_by (shown_on held k)) (split_at es behind e reached.at)
          ∙ live_split (shown_on held k) (take behind es) e its.0 (drop (behind + 1) es) its.1;
      stored = stored;
      others = newest_none (shown_on held k) key (take behind es) newer;
    }
  where
    known : (o : Option Rec) → shown_on held k e ≡ o → IsSomeAnd o (CanStandFor bytes k.shape e) → (r : Rec) × (shown_on held k e ≡ Some r)
    known (Some r) at h = (r, at)
    known None at h = absurd h

-- if none is left, none stands further on
pub got_none : (k : LogState) (set tag behind : ℕ) (now : List Entry) → now ≡ drop behind (of_tag set tag k.entries) → now ≡ [] → length (of_tag set tag k.entries) ≤ behind
got_none k set tag behind now left none = dropped_past (of_tag set tag k.entries) behind (sym left ∙ none)

-- all were seen when as many were asked for as there are entries
pub all_seen : (v k : LogState) (set tag n : ℕ) → v ≡ k → length v.entries ≤ n → length (of_tag set tag k.entries) ≤ n
all_seen v k set tag n is le = omega (arith, length-kept (has_tag set tag) k.entries, ap (λ (k : LogState). length k.entries) is)

-- an entry of a set with a tag is of the set
set_of_tag : (set tag : ℕ) (es : List Entry) (e : Entry) → Contains (of_tag set tag es) e → e.set ≡ set
set_of_tag set tag es e h =
    eqb-true e.set set (and_parts (eqb e.set set) (eqb e.tag tag) (All-contains (λ e. has_tag set tag e ≡ true) (of_tag set tag es) e (filter_passes (has_tag set tag) es) h)).0

-- so if it is lowered it is lowered in the set
pub lowered_there : (k k' : LogState) (set tag : ℕ) (e : Entry) → Contains (of_tag set tag k.entries) e → k' ≡ lowered_in k e.set e.place → k' ≡ lowered_in k set e.place
lowered_there k k' set tag e listed is = is ∙ ap (λ (n : ℕ). lowered_in k n e.place) (set_of_tag set tag k.entries e listed)
