-- A place that was taken is not used again while its segment is held.
use Rattle.std.proofs.Common.{◌≡◌, ◌≢◌, ℕ, suc, Bool, true, false, cond, ◌+◌, ◌==◌, List, [], ◌∷◌, length, Option, Some, None, All, refl, sym, ap, subst, ◌∙◌, arith}
use Rattle.std.specs.Prelude.{IsSome, nat_lt, nat_le, ◌^◌, ◌||◌}
use Rattle.std.proofs.lemmas.Bool.{cond_both, false≢true}
use Rattle.std.proofs.lemmas.List.Elements.{All-weaker, All-head, All-tail}
use Rattle.record_pages.specs.Recs.{Rec}
use Rattle.klog_index.specs.declared.entry.Entry.{Entry}
use Rattle.klog_index.specs.declared.place.Place.{Place}
use Rattle.klog.specs.Buffer.{record_in, can_add, pages_with}
use Rattle.klog.specs.Log.{LogState, filling_buffer, with_list}
use Rattle.klog.specs.Names.{name_of, number_of, segment_of, filled_number, flushed_number}
use Rattle.klog.specs.Keeps.{IsHeld, IsLog}
use Rattle.klog.specs.Append.{put_on, entry_for, sealed, taker, appended, is_full}
use Rattle.klog.specs.Flush.{moved_on, without_next}
use Rattle.klog.specs.declared.flushed.Flushed.TheVariants as flushed
use Rattle.klog.proofs.BufferLaws.{free_at, still_in}
use Rattle.klog.proofs.ShownLaws.{entry_number}
use Rattle.klog.specs.Shown.{shown, shown_on, CanStandFor, IsLiveOn, IsSpelled}
use Rattle.klog.specs.Laws.{KeepsPlace, AppendKeepsPlaces, FlushKeepsPlaces, ListKeepsPlaces, FreeingKeepsPlaces, LiveAreAsMany, FramesKeepLog}
use Rattle.klog.proofs.RingLaws.{number_again}
use Rattle.klog.proofs.LiveLaws.{live_by}
use Rattle.klog.proofs.MoveLaws.{segment_freed, filled_freed}
use Rattle.klog.proofs.TakeLaws.{some_known}

some_none : (o : Option Rec) → IsSome o → o ≡ None → ⊥
some_none (Some r) is none = absurd cc
some_none None is none = absurd cc

some_is : (o : Option Rec) (r : Rec) → o ≡ Some r → IsSome o
some_is o r is = subst (λ q. IsSome q) (sym is) cc

some_of : (o : Option Rec) → IsSome o → (r : Rec) × (o ≡ Some r)
some_of (Some r) is = (r, cc)
some_of None is = absurd cc

-- a record that enters does not lie where an entry that is held lies, live or not
fresh : (bytes : ℕ) (k : LogState) (r : Rec) (e : Entry) → IsLog k → IsHeld k e → (entry_for bytes k r).place ≢ e.place
fresh bytes k r e is held same =
    let at : segment_of k e ≡ filled_number k = ap (λ (p : Place). number_of k p.segment) (sym same) ∙ entry_number bytes k r is in
    some_none _ (held.filled at) (ap (λ (p : Place). record_in k.filling p.page p.slot) (sym same) ∙ free_at bytes k.filling r)

-- an entry stays held when a record is added
stays_put : (bytes : ℕ) (k : LogState) (r : Rec) (e : Entry) → IsHeld k e → IsHeld (put_on bytes k r) e
stays_put bytes k r e h = record {
  set = h.set;
  name = h.name;
  page = h.page;
  segment = h.segment;
  filled = λ at.
      let was = some_of (record_in k.filling e.place.page e.place.slot) (h.filled at) in
      some_is (record_in (pages_with bytes k.filling r) e.place.page e.place.slot) was.0 (still_in bytes k.filling r e.place.page e.place.slot was.0 was.1);
}

-- when the filled segment is sealed
pub stays_sealed : (k : LogState) (e : Entry) → k.is_flushing ≡ false → IsHeld k e → IsHeld (sealed k) e
stays_sealed k e idle h =
    let was : filled_number k ≡ flushed_number k = ap (λ (t : Bool). cond t (flushed_number k + 1) (flushed_number k)) idle in
    record {
      set = h.set;
      name = h.name;
      page = h.page;
      segment = omega (arith, h.segment, was);
      filled = λ at. absurd (omega (arith, h.segment, was, at));
    }

-- when a page is done
stays_moved : (k : LogState) (e : Entry) → k.is_flushing ≡ true → IsHeld k e → IsHeld (moved_on k) e
stays_moved k e on h =
    let was : filled_number k ≡ flushed_number k + 1 = ap (λ (t : Bool). cond t (flushed_number k + 1) (flushed_number k)) on in
    cond_both (k.done + 1 == length k.flushing) (record k { stored = k.stored + 1; is_flushing = false; done = 0; flushing = [] }) (record k { done = k.done + 1 }) (λ k'. IsHeld k' e)
    (λ _. record { set = h.set; name = h.name; page = h.page; segment = omega (arith, h.segment, was); filled = λ at. h.filled (omega (arith, at, was)) })
    (λ _. record { set = h.set; name = h.name; page = h.page; segment = h.segment; filled = h.filled })

-- when entries are dropped or lowered
stays_list : (k : LogState) (es : List Entry) (e : Entry) → IsHeld k e → IsHeld (with_list k es) e
stays_list k es e h = record { set = h.set; name = h.name; page = h.page; segment = h.segment; filled = h.filled }

-- after any append the entry is held, of the same segment, and what entered lies elsewhere
record Stays (k' : LogState) (e : Entry) (bytes : ℕ) (k : LogState) (r : Rec) : Type 0 where
  pub held : IsHeld k' e
  pub number : segment_of k' e ≡ segment_of k e
  pub elsewhere : (entry_for bytes (taker bytes k r) r).place ≢ e.place

stays_append : (bytes : ℕ) (k : LogState) (r : Rec) (e : Entry) → IsLog k → IsHeld k e → is_full bytes k r ≡ false → Stays (appended bytes k r) e bytes k r
stays_append bytes k r e is h room = by_case (can_add bytes (filling_buffer k) r) refl
  where
    by_case : (t : Bool) → can_add bytes (filling_buffer k) r ≡ t → Stays (appended bytes k r) e bytes k r
    by_case true can =
        let same : taker bytes k r ≡ k = ap (λ (t : Bool). cond t k (sealed k)) can in
        subst (λ q. Stays (put_on bytes q r) e bytes k r) (sym same) (record { held = stays_put bytes k r e h; number = refl; elsewhere = subst (λ q. (entry_for bytes q r).place ≢ e.place) (sym same) (fresh bytes k r e is h) })
    by_case false cannot =
        let same : taker bytes k r ≡ sealed k = ap (λ (t : Bool). cond t k (sealed k)) cannot in
        let rest : (k.is_flushing || nat_le (2 ^ 62) (filled_number k)) ≡ false = sym (ap (λ (t : Bool). cond t (nat_lt (2 ^ 62) (filled_number k)) (k.is_flushing || nat_le (2 ^ 62) (filled_number k))) cannot) ∙ room in
        let idle : k.is_flushing ≡ false = first_false k.is_flushing _ rest in
        let h' = stays_sealed k e idle h in
        subst (λ q. Stays (put_on bytes q r) e bytes k r) (sym same) (record { held = stays_put bytes (sealed k) r e h'; number = refl; elsewhere = subst (λ q. (entry_for bytes q r).place ≢ e.place) (sym same) (fresh_sealed idle) })
      where
        first_false : (a b : Bool) → (a || b) ≡ false → a ≡ false
        first_false true b x = absurd cc
        first_false false b x = refl

        fresh_sealed : k.is_flushing ≡ false → (entry_for bytes (sealed k) r).place ≢ e.place
        fresh_sealed idle same' =
            let own : segment_of (sealed k) (entry_for bytes (sealed k) r) ≡ filled_number (sealed k) = number_again (sealed k) (filled_number (sealed k)) (omega arith) (omega (arith, is.stored_fits)) in
            let at : segment_of (sealed k) e ≡ filled_number (sealed k) = ap (λ (p : Place). number_of (sealed k) p.segment) (sym same') ∙ own in
            some_none _ ((stays_sealed k e idle h).filled at) (ap (λ (p : Place). record_in [] p.page p.slot) (sym same') ∙ free_at bytes [] r)

pub append_keeps : AppendKeepsPlaces
append_keeps bytes k r e is h room = let stays = stays_append bytes k r e is h room in ((stays.held, stays.number), stays.elsewhere)

-- when entries are dropped or lowered
pub list_keeps : ListKeepsPlaces
list_keeps k es e h = (stays_list k es e h, refl)

-- a page that is done leaves the numbers
moved_number : (k : LogState) (e : Entry) → segment_of (moved_on k) e ≡ segment_of k e
moved_number k e =
    cond_both (k.done + 1 == length k.flushing) (record k { stored = k.stored + 1; is_flushing = false; done = 0; flushing = [] }) (record k { done = k.done + 1 }) (λ k'. segment_of k' e ≡ segment_of k e)
    (λ _. refl)
    (λ _. refl)

-- after any step of flushing
pub flush_keeps : FlushKeepsPlaces
flush_keeps k k' flushed.Nothing e h g = subst (λ q. KeepsPlace k q e) (sym g.same) (h, refl)
flush_keeps k k' flushed.Sealed e h g = subst (λ q. KeepsPlace k q e) (sym g.left) (stays_sealed k e g.idle h, refl)
flush_keeps k k' flushed.LogFull e h g = subst (λ q. KeepsPlace k q e) (sym g.same) (h, refl)
flush_keeps k k' flushed.Wrote e h g = subst (λ q. KeepsPlace k q e) (sym g.1) (stays_moved k e g.0.0 h, moved_number k e)
flush_keeps k k' flushed.PageLost e h g = subst (λ q. KeepsPlace k q e) (sym g.1) (stays_moved (without_next k) e g.0.0 (stays_list k _ e h), moved_number (without_next k) e)

-- when the oldest segment is freed, and the entry is of another one
pub freeing_keeps : FreeingKeepsPlaces
freeing_keeps k e log h some other =
    let named : e.place.segment ≢ name_of k k.first = λ same. other (ap (number_of k) same ∙ number_again k k.first (omega arith) (omega arith)) in
    let same = segment_freed k e log h named in (
      record {
        set = h.set;
        name = h.name;
        page = h.page;
        segment = omega (arith, same, h.segment, filled_freed k some);
        filled = λ at. h.filled (sym same ∙ at ∙ filled_freed k some);
      },
      same,
    )

-- ---- as many live records as entries

pub as_many : LiveAreAsMany
as_many bytes held k h = count (shown_on held k) k.entries (All-weaker (IsLiveOn bytes held k) (λ e. IsSome (shown_on held k e)) (λ e live. some_known (shown_on held k e) (CanStandFor bytes k.shape e) live) k.entries h.live)
  where
    count : (shows : Entry → Option Rec) (es : List Entry) → All (λ e. IsSome (shows e)) es → length (live_by shows es) ≡ length es
    count shows [] all = refl
    count shows (e ∷ es) all = step (shows e) refl (All-head (λ e. IsSome (shows e)) e es all) (count shows es (All-tail (λ e. IsSome (shows e)) e es all))
      where
        step : (o : Option Rec) → shows e ≡ o → IsSome (shows e) → length (live_by shows es) ≡ length es → length (live_by shows (e ∷ es)) ≡ length (e ∷ es)
        step (Some r) is some rest = simp is (ap (λ (n : ℕ). suc n) rest)
        step None is some rest = absurd (false≢true (subst (λ (o : Option Rec). IsSome o) is some))

-- a log on whose pages nothing changed is spelled, and the same records are live
pub frames_keep : FramesKeepLog
frames_keep bytes was is k same = (
  λ spelled. subst (λ (pages : ℕ → Option (List ℕ)). IsSpelled bytes pages k) (sym same) spelled,
  ap (λ (pages : ℕ → Option (List ℕ)). live_by (shown pages k) k.entries) same,
)
