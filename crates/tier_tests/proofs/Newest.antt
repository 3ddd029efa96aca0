-- A record that was just appended lies in the buffer that is filled.
use Rattle.std.proofs.Common.{◌≡◌, ℕ, ◌<◌, ◌≤◌, ◌^◌, Bool, true, false, cond, ◌||◌, ◌&&◌, ◌==◌, List, [], ◌∷◌, length, get_or, take, Option, Some, None, All, slice_get, refl, sym, ap, subst, ◌∙◌, arith}
use Rattle.std.specs.Prelude.{IsTrue}
use Rattle.std.specs.List.{filter_map, cons_option}
use Rattle.std.specs.Option.{option_map}
use Rattle.std.specs.Cmp.Lexicographic.{nat_list_eq_equiv}
use Rattle.std.proofs.lemmas.Bool.{and_from, eq-eqb}
use Rattle.std.proofs.lemmas.List.Elements.{All-cons, All-nil}
use Rattle.record_pages.specs.Bounded.{IsKey, IsValue}
use Rattle.record_pages.specs.Sizes.{object_size, room}
use Rattle.record_pages.specs.Recs.{Rec}
use Rattle.record_pages.specs.declared.timed_value.TimedValue.{TimedValue}
use Rattle.set_hash.specs.declared.placed.Placed.{Placed}
use Rattle.klog_index.specs.declared.entry.Entry.{Entry}
use Rattle.klog_index.specs.Entries.{has_tag, of_tag}
use Rattle.klog.specs.declared.appended.Appended.TheVariants as answers
use Rattle.klog.specs.Log.{Shape, LogState, filling_buffer}
use Rattle.klog.specs.Buffer.{can_add, record_in}
use Rattle.klog.specs.Names.{segment_of, flushed_number, filled_number}
use Rattle.klog.specs.Shown.{record_on, shown, shown_on, live_on, place_in}
use Rattle.klog.specs.Known.{no_pages, is_buffered}
use Rattle.klog.specs.Append.{entering, entry_for, put_on, sealed, taker, AppendGives, live_appended}
use Rattle.klog.specs.Look.{ShowsOther, IsInBuffers}

-- entries, each with the record that it shows
abbrev live_by : (Entry → Option Rec) → List Entry → List (Entry × Rec)
live_by f es = filter_map (λ e. option_map (λ r. (e, r)) (f e)) es

-- the first live record is what its entry shows
first_shown : (f : Entry → Option Rec) (es : List Entry) (e : Entry) (r : Rec) (rest : List (Entry × Rec)) → live_by f es ≡ (e, r) ∷ rest → f e ≡ Some r
first_shown f [] e r rest is = let none : 0 ≡ length ((e, r) ∷ rest) = ap length is in absurd (omega (arith, none))
first_shown f (x ∷ es) e r rest is = step (λ h. first_shown f es e r rest h) (f x) refl is
  where
    step : (live_by f es ≡ (e, r) ∷ rest → f e ≡ Some r) → (o : Option Rec) → f x ≡ o → cons_option (option_map (λ y. (x, y)) (f x)) (live_by f es) ≡ (e, r) ∷ rest → f e ≡ Some r
    step later (Some y) at h =
        let here : (x, y) ∷ live_by f es ≡ (e, r) ∷ rest = subst (λ (o : Option Rec). cons_option (option_map (λ y. (x, y)) o) (live_by f es) ≡ (e, r) ∷ rest) at h in
        let same : (x, y) ≡ (e, r) = ap (λ (xs : List (Entry × Rec)). get_or xs 0 (e, r)) here in
        ap f (sym (ap (λ (p : Entry × Rec). p.0) same)) ∙ at ∙ ap Some (ap (λ (p : Entry × Rec). p.1) same)
    step later None at h = later (subst (λ (o : Option Rec). cons_option (option_map (λ y. (x, y)) o) (live_by f es) ≡ (e, r) ∷ rest) at h)

-- what an entry shows if nothing is known of any page lies in a buffer
in_a_buffer : (k : LogState) (e : Entry) (r : Rec) → shown_on no_pages k e ≡ Some r → IsTrue (is_buffered k e)
unfolding shown record_on
in_a_buffer k e r = step (segment_of k e == filled_number k) (k.is_flushing && segment_of k e == flushed_number k)
  where
    step : (a b : Bool) → cond a (record_in k.filling e.place.page e.place.slot) (cond b (record_in k.flushing e.place.page e.place.slot) None) ≡ Some r → IsTrue (a || b)
    step true b is = refl
    step false true is = refl
    step false false is = cc

-- the log that takes a record has the same numbers
taker_shape : (bytes : ℕ) (k : LogState) (r : Rec) → (taker bytes k r).shape ≡ k.shape
taker_shape bytes k r = step (can_add bytes (filling_buffer k) r)
  where
    step : (b : Bool) → (cond b k (sealed k)).shape ≡ k.shape
    step true = refl
    step false = refl

module _ (bytes : ℕ) (t : LogState) (key : List ℕ) (value : TimedValue) where
  abbrev r : Rec
  r = entering key value

  abbrev e : Entry
  e = entry_for bytes t r

  abbrev k : LogState
  k = put_on bytes t r

  its_tag : has_tag (place_in t.shape key).set (place_in t.shape key).tag e ≡ true
  its_tag = and_from _ _ (eq-eqb e.set e.set refl) (eq-eqb e.tag e.tag refl)

  first : of_tag (place_in t.shape key).set (place_in t.shape key).tag k.entries ≡ e ∷ of_tag (place_in t.shape key).set (place_in t.shape key).tag t.entries
  first = rw its_tag refl

  -- a record that was put on the filled segment, and which its entry shows, is what the buffers tell of its key
  told_by_filled : object_size key value.value ≤ room bytes → IsKey key → IsValue value.value → value.expires < 2 ^ 64 → shown_on no_pages k e ≡ Some r → IsInBuffers bytes k (place_in t.shape key).set (place_in t.shape key).tag key e r
  told_by_filled small is_key is_value fits shows = record {
    reached = record { behind = 0; at = ap (λ (xs : List Entry). slice_get xs 0) first; newer = All-nil (ShowsOther bytes no_pages k key) };
    buffered = subst (λ (xs : List Entry). All (λ x. IsTrue (is_buffered k x)) (take 1 xs)) (sym first) (All-cons (λ x. IsTrue (is_buffered k x)) e [] (in_a_buffer k e r shows) (All-nil (λ x. IsTrue (is_buffered k x))));
    shows = shows;
    its = record { set_is = refl; tag_is = refl; small = small; lawful = record { key = is_key; value = is_value; expires = fits; pred = omega arith } };
    has = nat_list_eq_equiv.refl key;
  }

-- an append that added its record makes it what the buffers tell of its key
pub told_after_append : (bytes : ℕ) (old new : LogState) (key : List ℕ) (value : TimedValue) (placed : Placed) → object_size key value.value ≤ room bytes → IsKey key → IsValue value.value → value.expires < 2 ^ 64
    → placed ≡ place_in old.shape key
    → AppendGives bytes old (entering key value) answers.Appended new
    → live_on no_pages new ≡ live_appended bytes old (entering key value) answers.Appended (live_on no_pages old)
    → IsInBuffers bytes new placed.set placed.tag key (entry_for bytes (taker bytes old (entering key value)) (entering key value)) (entering key value)
told_after_append bytes old new key value placed small is_key is_value fits place gives live =
    let r : Rec = entering key value in
    let t : LogState = taker bytes old r in
    let e : Entry = entry_for bytes t r in
    let shows : shown_on no_pages (put_on bytes t r) e ≡ Some r =
    subst (λ (k : LogState). shown_on no_pages k e ≡ Some r) gives.added (first_shown (shown_on no_pages new) new.entries e r (live_on no_pages old) live) in
    let same : place_in t.shape key ≡ placed = ap (λ (s : Shape). place_in s key) (taker_shape bytes old r) ∙ sym place in
    subst (λ (k : LogState). IsInBuffers bytes k placed.set placed.tag key e r) (sym gives.added)
    (subst (λ (p : Placed). IsInBuffers bytes (put_on bytes t r) p.set p.tag key e r) same (told_by_filled bytes t key value small is_key is_value fits shows))
