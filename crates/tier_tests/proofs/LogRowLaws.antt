-- Entries that are left if others are dropped.
use Rattle.std.proofs.Common.{◌≡◌, ℕ, Bool, true, false, cond, not, eqb, List, [], ◌∷◌, length, map, filter, Option, Some, All, Contains, slice_get, refl, sym, ap, subst, ◌∙◌, arith}
use Rattle.std.specs.Prelude.{◌≢◌, find, IsSomeAnd, None, IsTrue, Result, Ok, Err}
use Rattle.std.specs.Option.{option_map}
use Rattle.std.specs.declared.alloc.AllocError.{AllocError}
use Rattle.std.proofs.lemmas.Bool.{and_parts, eq-eqb, eqb-true, false≢true}
use Rattle.std.proofs.lemmas.List.{length-map}
use Rattle.std.proofs.lemmas.List.Elements.{All-cons, All-nil, All-weaker, All-contains, Contains-append_right}
use Rattle.std.proofs.lemmas.Option.{slice_get_within}
use Rattle.klog_index.specs.declared.entry.Entry.{Entry}
use Rattle.klog_index.specs.Entries.{is_on, is_in, has_tag, of_tag, without, lowered, with_lowered}
use Rattle.record_pages.specs.Expiry.{value_at}
use Rattle.record_pages.specs.Recs.{Rec}
use Rattle.record_pages.specs.declared.looked.Looked.{Looked}
use Rattle.record_pages.specs.declared.looked.Looked.TheVariants as looked
use Rattle.klog.specs.declared.set_taken.SetTaken.{SetTaken}
use Rattle.klog.specs.declared.set_taken.SetTaken.TheVariants as taken
use Rattle.klog.specs.declared.readmitted.Readmitted.{Readmitted}
use Rattle.klog.specs.declared.readmitted.Readmitted.TheVariants as answers
use Rattle.klog.specs.Log.{LogState, with_list, filling_buffer}
use Rattle.klog.specs.Buffer.{can_add}
use Rattle.klog.specs.Names.{name_of, segment_of, flushed_number}
use Rattle.klog.specs.Keeps.{IsHeld}
use Rattle.klog.specs.Laws.{NamesTellNumbers}
use Rattle.klog.specs.Known.{no_pages, is_buffered, AreBuffered}
use Rattle.klog.specs.Append.{entering, entry_for, sealed, taker}
use Rattle.klog.specs.Look.{LooksAt, LogLookGives, GivesAt, GivesRecord, lowered_in}
use Rattle.klog.specs.declared.located_in_log.LocatedInLog.{LocatedInLog}
use Rattle.klog.specs.Locate.{looked_of, log_after, LogLocates}
use Rattle.klog.specs.Calls.{LogLooks}
use Rattle.set_hash.specs.declared.placed.Placed.{Placed}
use Rattle.tier_tests.specs.Telling.{looked_by}
use Rattle.klog.specs.Moves.{TakeLeaves, ReadmitLeaves, without_entry, is_taken, dropped}
use Rattle.klog.specs.declared.taken_record.TakenRecord.{TakenRecord}
use Rattle.klog.specs.declared.flushed.Flushed.{Flushed}
use Rattle.klog.specs.Flush.{is_page_lost, is_on_page, live_flushed}
use Rattle.klog.specs.Shown.{newest_with, IsSpelledOn}
use Rattle.record_pages.specs.Looking.{has_key}

each : (p : Entry → Bool) (es : List Entry) → All (λ x. p x ≡ true → Contains (filter p es) x) es
each p [] = All-nil (λ x. p x ≡ true → Contains [] x)
each p (x ∷ es) = step (p x) refl (each p es)
  where
    step : (b : Bool) → p x ≡ b → All (λ y. p y ≡ true → Contains (filter p es) y) es → All (λ y. p y ≡ true → Contains (filter p (x ∷ es)) y) (x ∷ es)
    step true is rest =
        subst (λ (b : Bool). All (λ y. p y ≡ true → Contains (cond b (x ∷ filter p es) (filter p es)) y) (x ∷ es)) (sym is)
        (All-cons (λ y. p y ≡ true → Contains (x ∷ filter p es) y) x es (λ q. (0, omega arith, refl))
        (All-weaker (λ y. p y ≡ true → Contains (filter p es) y) (λ y. p y ≡ true → Contains (x ∷ filter p es) y) (λ y h q. Contains-append_right (x ∷ []) (filter p es) y (h q)) es rest))
    step false is rest =
        subst (λ (b : Bool). All (λ y. p y ≡ true → Contains (cond b (x ∷ filter p es) (filter p es)) y) (x ∷ es)) (sym is)
        (All-cons (λ y. p y ≡ true → Contains (filter p es) y) x es (λ q. absurd (false≢true (sym is ∙ q))) rest)

-- an entry that passes the test is kept
pub kept : (p : Entry → Bool) (es : List Entry) (e : Entry) → Contains es e → p e ≡ true → Contains (filter p es) e
kept p es e h is = All-contains (λ x. p x ≡ true → Contains (filter p es) x) es e (each p es) h is

-- two entries lie on different pages
abbrev pub AreOnOthers : Entry → Entry → Type 0
AreOnOthers a b = a.place.page ≡ b.place.page → a.place.segment ≢ b.place.segment

on_it : (segment page : ℕ) (e : Entry) → is_on segment page e ≡ true → (e.place.segment ≡ segment) × (e.place.page ≡ page)
on_it segment page e h =
    let both = and_parts (eqb e.place.segment segment) (eqb e.place.page page) h in
    (eqb-true e.place.segment segment both.0, eqb-true e.place.page page both.1)

-- if a page's entries are dropped, one that is not on it stays
pub off_page : (segment page : ℕ) (es : List Entry) (other : Entry) → Contains es other → (other.place.page ≡ page → other.place.segment ≢ segment) → Contains (without (is_on segment page) es) other
off_page segment page es other there apart = kept (λ e. not (is_on segment page e)) es other there (step (is_on segment page other) refl)
  where
    step : (b : Bool) → is_on segment page other ≡ b → not (is_on segment page other) ≡ true
    step false is = ap not is
    step true is = absurd (apart (on_it segment page other is).1 (on_it segment page other is).0)

-- and if one is gone, one on another page stays
pub one_page : (segment page : ℕ) (es : List Entry) (gone other : Entry) → Contains es gone → Contains es other → (Contains (without (is_on segment page) es) gone → ⊥) → AreOnOthers other gone
    → Contains (without (is_on segment page) es) other
one_page segment page es gone other was there lost apart = step (is_on segment page gone) refl
  where
    step : (b : Bool) → is_on segment page gone ≡ b → Contains (without (is_on segment page) es) other
    step false is = absurd (lost (kept (λ e. not (is_on segment page e)) es gone was (ap not is)))
    step true is =
        let at = on_it segment page gone is in
        off_page segment page es other there (λ same_page same_segment. apart (same_page ∙ sym at.1) (same_segment ∙ sym at.0))

pub left_by_take : (old new : LogState) (set : ℕ) (a : SetTaken) → TakeLeaves old set (Ok a) new → (gone other : Entry) → Contains old.entries gone → Contains old.entries other
    → (Contains new.entries gone → ⊥) → AreOnOthers other gone → Contains new.entries other
left_by_take old new set taken.PageLost h gone other was there lost apart =
    subst (λ (k : LogState). Contains k.entries other) (sym h.left)
    (one_page (name_of old (segment_of old h.entry)) h.entry.place.page old.entries gone other was there (λ q. lost (subst (λ (k : LogState). Contains k.entries gone) (sym h.left) q)) apart)
left_by_take old new set (taken.Records rs) h gone other was there lost apart = subst (λ (k : LogState). Contains k.entries other) (sym h.0) there

-- an entry on another page is not at the entry's place
off_place : (e other : Entry) → AreOnOthers other e → (b : Bool) → is_in e.set e.place other ≡ b → not (is_in e.set e.place other) ≡ true
off_place e other apart false is = ap not is
off_place e other apart true is = absurd (apart page segment)
  where
    segment : other.place.segment ≡ e.place.segment
    segment = grind (arith, and_parts, eqb-true)

    page : other.place.page ≡ e.place.page
    page = grind (arith, and_parts, eqb-true)

-- the log that takes a record has the same entries, and the same numbers
pub taker_entries : (bytes : ℕ) (k : LogState) (r : Rec) → (taker bytes k r).entries ≡ k.entries
taker_entries bytes k r = step (can_add bytes (filling_buffer k) r)
  where
    step : (b : Bool) → (cond b k (sealed k)).entries ≡ k.entries
    step true = refl
    step false = refl

pub left_by_readmit : (bytes : ℕ) (old new : LogState) (e : Entry) (a : Readmitted) → NamesTellNumbers → IsHeld old e → ReadmitLeaves bytes old e a new
    → (other : Entry) → Contains old.entries other → AreOnOthers other e → Contains new.entries other
left_by_readmit bytes old new e a names held leaves other there apart = step a leaves
  where
    name : name_of old (segment_of old e) ≡ e.place.segment
    name = (names old e.place.segment held.name).2

    page_gone : Contains (without (is_on (name_of old (segment_of old e)) e.place.page) old.entries) other
    page_gone = off_page (name_of old (segment_of old e)) e.place.page old.entries other there (λ page segment. apart page (segment ∙ name))

    entry_gone : Contains (without_entry old e).entries other
    entry_gone = kept (λ x. not (is_in e.set e.place x)) old.entries other there (off_place e other apart (is_in e.set e.place other) refl)

    step : (a : Readmitted) → ReadmitLeaves bytes old e a new → Contains new.entries other
    step answers.Fault h = subst (λ (k : LogState). Contains k.entries other) (sym h) page_gone
    step answers.Damaged h = subst (λ (k : LogState). Contains k.entries other) (sym h) page_gone
    step answers.Dropped h = subst (λ (k : LogState). Contains k.entries other) (sym h.left) entry_gone
    step answers.Readmitted h =
        let r : Rec = entering h.its.key h.its.value in
        let k : LogState = without_entry old e in
        subst (λ (k : LogState). Contains k.entries other) (sym h.added)
        (Contains-append_right (entry_for bytes (taker bytes k r) r ∷ []) (taker bytes k r).entries other (subst (λ (es : List Entry). Contains es other) (sym (taker_entries bytes k r)) entry_gone))

-- no entry with a tag is left if those with it are dropped
pub none_with : (set tag : ℕ) (es : List Entry) → of_tag set tag (without (has_tag set tag) es) ≡ []
none_with set tag [] = refl
none_with set tag (x ∷ es) = step (has_tag set tag x) refl (none_with set tag es)
  where
    step : (b : Bool) → has_tag set tag x ≡ b → of_tag set tag (without (has_tag set tag) es) ≡ [] → of_tag set tag (without (has_tag set tag) (x ∷ es)) ≡ []
    step true is rest = simp is rest
    step false is rest = simp is rest

-- so none is left after a strike
pub none_left : (old new : LogState) (set tag : ℕ) → new ≡ with_list old (without (has_tag set tag) old.entries) → of_tag set tag new.entries ≡ []
none_left old new set tag is = subst (λ (k : LogState). of_tag set tag k.entries ≡ []) (sym is) (none_with set tag old.entries)

pub none_to_read : (k : LogState) (es : List Entry) → es ≡ [] → AreBuffered k es
none_to_read k es none = subst (λ (es : List Entry). AreBuffered k es) (sym none) (All-nil (λ e. IsTrue (is_buffered k e)))

no_slot : (es : List Entry) (i : ℕ) (e : Entry) → es ≡ [] → slice_get es i ≡ Some e → ⊥
no_slot es i e none at = let within = slice_get_within es i e at in let empty : length es ≡ 0 = ap length none in omega (arith, within, empty)

-- if no entry has the tag a look answers Absent
pub absent_where_none : (bytes : ℕ) (k new : LogState) (set tag : ℕ) (key : List ℕ) (moment : ℕ) (result : Result Looked AllocError) (nc : Type 0) → of_tag set tag k.entries ≡ []
    → LooksAt bytes no_pages k set tag key moment result new nc → result ≡ Ok looked.Absent
absent_where_none bytes k new set tag key moment (Ok (looked.Hit value)) nc none at = absurd (no_slot (of_tag set tag k.entries) at.reached.behind at.entry none at.reached.at)
absent_where_none bytes k new set tag key moment (Ok looked.Absent) nc none at = refl
absent_where_none bytes k new set tag key moment (Ok looked.Expired) nc none at = absurd (no_slot (of_tag set tag k.entries) at.reached.behind at.entry none at.reached.at)
absent_where_none bytes k new set tag key moment (Ok looked.Fault) nc none at = absurd (no_slot (of_tag set tag k.entries) at.reached.behind at.entry none at.reached.at)
absent_where_none bytes k new set tag key moment (Ok looked.Damaged) nc none at = absurd (no_slot (of_tag set tag k.entries) at.reached.behind at.entry none at.reached.at)
absent_where_none bytes k new set tag key moment (Err x) nc none at = absurd (no_slot (of_tag set tag k.entries) at.reached.behind at.entry none at.reached.at)

-- entries of other sets stay if taken records are dropped
pub off_set : (k : LogState) (set : ℕ) (ts : List TakenRecord) (other : Entry) → Contains k.entries other → other.set ≢ set → Contains (dropped k set ts).entries other
off_set k set ts other there apart = kept (λ e. not (is_taken k set ts e)) k.entries other there (step (is_taken k set ts other) refl)
  where
    step : (b : Bool) → is_taken k set ts other ≡ b → not (is_taken k set ts other) ≡ true
    step false is = ap not is
    step true is = absurd (apart (eqb-true other.set set (and_parts (eqb other.set set) _ is).0))

-- the first that passes a test is the first still of those that are kept, if it is one of them
first_kept : (p q : Entry × Rec → Bool) (xs : List (Entry × Rec)) (x : Entry × Rec) → find p xs ≡ Some x → q x ≡ true → find p (filter q xs) ≡ Some x
first_kept p q [] x at is = at
first_kept p q (y ∷ ys) x at is = step (p y) (q y) refl refl (λ h. first_kept p q ys x h is)
  where
    step : (a b : Bool) → p y ≡ a → q y ≡ b → (find p ys ≡ Some x → find p (filter q ys) ≡ Some x) → find p (filter q (y ∷ ys)) ≡ Some x
    step true true py qy later = let here : Some y ≡ Some x = grind (arith, at, py) in simp (qy, py) here
    step true false py qy later = let here : Some y ≡ Some x = grind (arith, at, py) in let same : y ≡ x = cc in absurd (false≢true (sym qy ∙ ap q same ∙ is))
    step false true py qy later = let here : find p ys ≡ Some x = grind (arith, at, py) in simp (qy, py) (later here)
    step false false py qy later = let here : find p ys ≡ Some x = grind (arith, at, py) in simp qy (later here)

-- what is the newest of a key is the newest after a step of flushing, if it is not on the page that may be lost
pub newest_still : (old : LogState) (a : Flushed) (live seen : List (Entry × Rec)) (key : List ℕ) (x : Entry × Rec) → seen ≡ live_flushed old a live → newest_with live key ≡ Some x
    → is_on_page old (flushed_number old) old.done x.0 ≡ false → newest_with seen key ≡ Some x
newest_still old a live seen key x is at apart = subst (λ (xs : List (Entry × Rec)). newest_with xs key ≡ Some x) (sym is) (step (is_page_lost a))
  where
    step : (b : Bool) → newest_with (cond b (filter (λ x. not (is_on_page old (flushed_number old) old.done x.0)) live) live) key ≡ Some x
    step true = first_kept (λ x. has_key key x.1) (λ x. not (is_on_page old (flushed_number old) old.done x.0)) live x at (ap not apart)
    step false = at

-- so a look after it does not answer that it is absent
pub not_absent : (live : List (Entry × Rec)) (key : List ℕ) (moment : ℕ) (x : Entry × Rec) (old : LogState) (a : Looked) (new : LogState) (after : List (Entry × Rec)) → newest_with live key ≡ Some x
    → LogLookGives live key moment old a new after → ◌≡◌ {A = Result Looked AllocError} (Ok a) (Ok looked.Absent) → ⊥
not_absent live key moment x old looked.Absent new after there h is = let none : None ≡ Some x = sym h.0 ∙ there in grind (arith, none)
not_absent live key moment x old (looked.Hit value) new after there h is = grind (arith, is)
not_absent live key moment x old looked.Expired new after there h is = grind (arith, is)
not_absent live key moment x old looked.Fault new after there h is = grind (arith, is)
not_absent live key moment x old looked.Damaged new after there h is = absurd h

-- and a hit is its value
pub is_its_hit : (live : List (Entry × Rec)) (key : List ℕ) (moment : ℕ) (x : Entry × Rec) (old : LogState) (a : Looked) (new : LogState) (after : List (Entry × Rec)) → newest_with live key ≡ Some x
    → LogLookGives live key moment old a new after → (value : List ℕ) → ◌≡◌ {A = Result Looked AllocError} (Ok a) (Ok (looked.Hit value)) → value_at moment x.1.value ≡ Some value
is_its_hit live key moment x old (looked.Hit value) new after there h wanted is =
    let its = subst (λ (o : Option (Entry × Rec)). IsSomeAnd o (GivesRecord live moment value old new after)) there h in
    let same : value ≡ wanted = grind (arith, is) in its.its ∙ ap Some same
is_its_hit live key moment x old looked.Expired new after there h wanted is = grind (arith, is)
is_its_hit live key moment x old looked.Absent new after there h wanted is = grind (arith, is)
is_its_hit live key moment x old looked.Fault new after there h wanted is = grind (arith, is)
is_its_hit live key moment x old looked.Damaged new after there h wanted is = absurd h

-- what a look after a page was written answers, is of the records that were live before
module _ (live : List (Entry × Rec)) (key : List ℕ) (moment : ℕ) where
  -- what the newest record of the key has at the moment
  abbrev pub at_moment : Entry × Rec → Option (List ℕ)
  at_moment x = value_at moment x.1.value

  -- an answer that is given
  abbrev pub Answers : Looked → Looked → Type 0
  Answers a wanted = ◌≡◌ {A = Result (Option Looked) AllocError} (Ok (Some a)) (Ok (Some wanted))

  hit_of : (o : Option (Entry × Rec)) (value : List ℕ) (old new : LogState) (after : List (Entry × Rec)) → IsSomeAnd o (GivesRecord live moment value old new after) → option_map at_moment o ≡ Some (Some value)
  hit_of None value old new after h = absurd h
  hit_of (Some x) value old new after h = ap Some h.its

  expired_of : (o : Option (Entry × Rec)) → IsSomeAnd o (λ x. at_moment x ≡ None) → option_map at_moment o ≡ Some None
  expired_of None h = absurd h
  expired_of (Some x) h = ap Some h

  pub tells_hit : (old : LogState) (a : Looked) (new : LogState) (after : List (Entry × Rec)) → LogLookGives live key moment old a new after → (value : List ℕ) → Answers a (looked.Hit value) → option_map at_moment (newest_with live key) ≡ Some (Some value)
  tells_hit old (looked.Hit v) new after h value is = let same : v ≡ value = cc in hit_of (newest_with live key) v old new after h ∙ ap (λ (x : List ℕ). Some (Some x)) same
  tells_hit old looked.Expired new after h value is = absurd cc
  tells_hit old looked.Absent new after h value is = absurd cc
  tells_hit old looked.Fault new after h value is = absurd cc
  tells_hit old looked.Damaged new after h value is = absurd h

  pub tells_expired : (old : LogState) (a : Looked) (new : LogState) (after : List (Entry × Rec)) → LogLookGives live key moment old a new after → Answers a looked.Expired → option_map at_moment (newest_with live key) ≡ Some None
  tells_expired old (looked.Hit v) new after h is = absurd cc
  tells_expired old looked.Expired new after h is = expired_of (newest_with live key) h.0
  tells_expired old looked.Absent new after h is = absurd cc
  tells_expired old looked.Fault new after h is = absurd cc
  tells_expired old looked.Damaged new after h is = absurd h

  pub tells_absent : (old : LogState) (a : Looked) (new : LogState) (after : List (Entry × Rec)) → LogLookGives live key moment old a new after → Answers a looked.Absent → newest_with live key ≡ None
  tells_absent old (looked.Hit v) new after h is = absurd cc
  tells_absent old looked.Expired new after h is = absurd cc
  tells_absent old looked.Absent new after h is = h.0
  tells_absent old looked.Fault new after h is = absurd cc
  tells_absent old looked.Damaged new after h is = absurd h

  pub tells_whole : (old : LogState) (a : Looked) (new : LogState) (after : List (Entry × Rec)) → LogLookGives live key moment old a new after → Answers a looked.Damaged → ⊥
  tells_whole old (looked.Hit v) new after h is = absurd cc
  tells_whole old looked.Expired new after h is = absurd cc
  tells_whole old looked.Absent new after h is = absurd cc
  tells_whole old looked.Fault new after h is = absurd cc
  tells_whole old looked.Damaged new after h is = h

-- what a look answers of a record that the buffers tell of
pub answer_by : (o : Option (List ℕ)) (old : LogState) (set : ℕ) (e : Entry) (new : LogState) (nc : Type 0) (a : Looked) → GivesAt o old set e new nc a → (a ≡ looked_by o) × nc
answer_by (Some value) old set e new nc a gives = (gives.hit, gives.uncalled)
answer_by None old set e new nc a gives = (gives.expired, gives.uncalled)

-- what is of a list is of the mapped one as it is mapped
mapped : (f : Entry → Entry) (es : List Entry) → All (λ x. Contains (map f es) (f x)) es
mapped f [] = All-nil (λ x. Contains [] (f x))
mapped f (x ∷ es) =
    All-cons (λ y. Contains (f x ∷ map f es) (f y)) x es (0, omega arith, refl)
    (All-weaker (λ y. Contains (map f es) (f y)) (λ y. Contains (f x ∷ map f es) (f y)) (λ y h. Contains-append_right (f x ∷ []) (map f es) (f y) h) es (mapped f es))

-- if entries of a kind are lowered, an entry stays as its kind says
lowered_by : (p : Entry → Bool) (es : List Entry) (e : Entry) (b : Bool) → p e ≡ b → Contains es e → Contains (with_lowered p es) (cond b (lowered e) e)
lowered_by p es e b is h =
    subst (λ (c : Bool). Contains (with_lowered p es) (cond c (lowered e) e)) is
    (All-contains (λ x. Contains (with_lowered p es) (cond (p x) (lowered x) x)) es e (mapped (λ x. cond (p x) (lowered x) x) es) h)

-- an entry is of its set and lies at its place
in_itself : (e : Entry) → is_in e.set e.place e ≡ true
in_itself e = simp (eq-eqb e.set e.set refl, eq-eqb e.place.segment e.place.segment refl, eq-eqb e.place.page e.place.page refl, eq-eqb e.place.slot e.place.slot refl) refl

-- a touched entry is lowered
pub touched_lowered : (old new : LogState) (e : Entry) → new ≡ lowered_in old e.set e.place → Contains old.entries e → Contains new.entries (lowered e)
touched_lowered old new e is h = subst (λ (k : LogState). Contains k.entries (lowered e)) (sym is) (lowered_by (is_in e.set e.place) old.entries e true (in_itself e) h)

-- one at another place stays
pub untouched : (old new : LogState) (e other : Entry) → new ≡ lowered_in old e.set e.place → Contains old.entries other → is_in e.set e.place other ≡ false → Contains new.entries other
untouched old new e other is h apart = subst (λ (k : LogState). Contains k.entries other) (sym is) (lowered_by (is_in e.set e.place) old.entries other false apart h)

-- and there are as many
pub as_many : (old new : LogState) (e : Entry) → new ≡ lowered_in old e.set e.place → length new.entries ≡ length old.entries
as_many old new e is = ap (λ (k : LogState). length k.entries) is ∙ length-map old.entries (λ x. cond (is_in e.set e.place x) (lowered x) x)

module _ {D : Type 0} {size : ℕ} {pages : D → ℕ} {honest : D → Bool} {failures : D → ℕ} {held : D → ℕ → Option (List ℕ)} {placed : Placed} {key : List ℕ} {moment : ℕ} {k : LogState} {device : D} {was : List ℕ} {f : LocatedInLog} {device' : D} {buffer : List ℕ} where
  -- what is located is what a look-up answers, if the log is left with the entry of a hit touched
  pub looks_of : (new : LogState) → LogLocates size pages honest failures held placed key moment k device was f device' buffer → new ≡ log_after f k → new.shape ≡ k.shape → ((on : ℕ → Option (List ℕ)) → IsSpelledOn size on k → IsSpelledOn size on new)
      → LogLooks size pages honest failures held placed key moment k device (Ok (looked_of f buffer)) new device'
  looks_of new h is shape spelled =
      subst (λ (n : LogState). n.shape ≡ k.shape → ((on : ℕ → Option (List ℕ)) → IsSpelledOn size on k → IsSpelledOn size on n) → LogLooks size pages honest failures held placed key moment k device (Ok (looked_of f buffer)) n device') (sym is)
      (λ same kept. record {
        reads = h.reads;
        shape = same;
        leaves = h.leaves;
        buffered = h.buffered;
        in_buffers = h.in_buffers;
        looks_at = h.looks_at;
        gives = h.gives;
        spelled = λ on was. subst (λ (now : ℕ → Option (List ℕ)). IsSpelledOn size now (log_after f k)) (sym (h.reads.same on)) (kept (held device) was);
      })
      shape spelled
