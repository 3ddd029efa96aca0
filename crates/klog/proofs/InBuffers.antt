-- What the buffers tell of a key is what a look-up answers.
use Rattle.std.proofs.Common.{refl, ◌≡◌, ℕ, ◌+◌, ◌<◌, true, false, List, Option, Some, None, take, slice_get, ⊎_elim, sym, ap, subst, ◌∙◌, arith}
use Rattle.std.specs.Prelude.{IsSomeAnd, IfOk, IsTrue, Result, Ok, Err}
use Rattle.std.specs.declared.alloc.AllocError.{AllocError}
use Rattle.std.proofs.lemmas.Bool.{OnFalse_from, cases_order, false≢true}
use Rattle.std.proofs.lemmas.List.Elements.{All-contains}
use Rattle.record_pages.specs.Expiry.{value_at}
use Rattle.record_pages.specs.Recs.{Rec}
use Rattle.record_pages.specs.Looking.{has_key}
use Rattle.klog_index.specs.declared.entry.Entry.{Entry}
use Rattle.klog_index.specs.Entries.{of_tag}
use Rattle.record_pages.specs.declared.looked.Looked.{Looked}
use Rattle.record_pages.specs.declared.looked.Looked.TheVariants as looked
use Rattle.klog.specs.Log.{LogState}
use Rattle.klog.specs.Shown.{shown_on, CanStandFor, IsLiveOn}
use Rattle.klog.specs.Known.{no_pages, is_buffered, IsPageKnown, IsHad, ShowsIfHad}
use Rattle.klog.specs.Look.{ShowsOther, IsReached, LooksAt, lowered_in, IsInBuffers, GivesAt, GivesBuffered}
use Rattle.klog.proofs.LookLaws.{got, got_early, reached_listed}

module _ (bytes : ℕ) (k : LogState) (set tag : ℕ) (key : List ℕ) (moment : ℕ) (e : Entry) (r : Rec) (here : IsInBuffers bytes k set tag key e r) where
  abbrev es : List Entry
  es = of_tag set tag k.entries

  abbrev behind : ℕ
  behind = here.reached.behind

  -- what lies in a buffer is had, whatever is known of the pages
  had : (x : Entry) → IsTrue (is_buffered k x) → IsHad no_pages k x
  had x is = OnFalse_from (is_buffered k x) (IsPageKnown no_pages k x) (λ apart. absurd (false≢true (sym apart ∙ is)))

  -- an entry up to this one lies in a buffer
  early : (x : Entry) (i : ℕ) → i < behind + 1 → slice_get es i ≡ Some x → IsTrue (is_buffered k x)
  early x i lt at = All-contains (λ y. IsTrue (is_buffered k y)) (take (behind + 1) es) x here.buffered (got (take (behind + 1) es) i x (got_early es (behind + 1) i x lt at))

  here_had : IsHad no_pages k e
  here_had = had e (early e behind (omega arith) here.reached.at)

  -- it shows no other key
  not_other : ShowsOther bytes no_pages k key e → ⊥
  not_other other = false≢true (sym shown_other ∙ here.has)
    where
      shown_other : has_key key r ≡ false
      shown_other = (subst (λ (o : Option Rec). IsSomeAnd o (λ x. CanStandFor bytes k.shape e x × (has_key key x ≡ false))) here.shows (other here_had)).1

  -- so the search does not come to an entry after it
  not_past : (x : Entry) (h : IsReached bytes no_pages k set tag key x) → behind < h.behind → ⊥
  not_past x h lt =
      not_other (All-contains (ShowsOther bytes no_pages k key) (take h.behind es) e h.newer (got (take h.behind es) behind e (got_early es h.behind behind e lt here.reached.at)))

  -- an entry before it shows another key
  other_before : (x : Entry) (h : IsReached bytes no_pages k set tag key x) → h.behind < behind → ShowsOther bytes no_pages k key x
  other_before x h lt = All-contains (ShowsOther bytes no_pages k key) (take behind es) x here.reached.newer (got (take behind es) h.behind x (got_early es behind h.behind x lt h.at))

  before_had : (x : Entry) (h : IsReached bytes no_pages k set tag key x) → h.behind < behind → IsHad no_pages k x
  before_had x h lt = had x (early x h.behind (omega (arith, lt)) h.at)

  -- the entry at its place is this one
  same_entry : (x : Entry) (h : IsReached bytes no_pages k set tag key x) → h.behind ≡ behind → x ≡ e
  same_entry x h same = some_same (sym h.at ∙ ap (slice_get es) same ∙ here.reached.at)
    where
      some_same : {X : Type 0} {x y : X} → Some x ≡ Some y → x ≡ y
      some_same is = cc

  -- a record has the key and has not
  both : (o : Option Rec) (C D : Rec → Type 0) → IsSomeAnd o (λ x. C x × (has_key key x ≡ false)) → IsSomeAnd o (λ x. C x × ((has_key key x ≡ true) × D x)) → ⊥
  both (Some x) C D one other = false≢true (sym one.1 ∙ other.1.0)
  both None C D one other = one

  -- an entry that was come to and shows the key is this one, and what it shows is its record
  its_own : (D : Rec → Type 0) (x : Entry) (h : IsReached bytes no_pages k set tag key x) → ShowsIfHad bytes no_pages k x (λ y. (has_key key y ≡ true) × D y) → (x ≡ e) × D r
  its_own D x h shows =
      ⊎_elim (λ same. found (same_entry x h same))
      (⊎_elim
      (λ lt. absurd (both (shown_on no_pages k x) (CanStandFor bytes k.shape x) D (other_before x h lt (before_had x h lt)) (shows (before_had x h lt))))
      (λ gt. absurd (not_past x h gt)))
      (cases_order h.behind behind)
    where
      found : x ≡ e → (x ≡ e) × D r
      found is =
          let its = subst (λ (y : Entry). ShowsIfHad bytes no_pages k y (λ z. (has_key key z ≡ true) × D z)) is shows in
          (is, (subst (λ (o : Option Rec). IsSomeAnd o (λ z. CanStandFor bytes k.shape e z × ((has_key key z ≡ true) × D z))) here.shows (its here_had)).1.1)

  buffered_as : (x : Entry) → x ≡ e → IsTrue (is_buffered k x)
  buffered_as x is = subst (λ (y : Entry). IsTrue (is_buffered k y)) (sym is) (early e behind (omega arith) here.reached.at)

  -- a hit is its record
  hit : (new : LogState) (value : List ℕ) (nc : Type 0) → LooksAt bytes no_pages k set tag key moment (Ok (looked.Hit value)) new nc → GivesBuffered moment k set e r new nc (looked.Hit value)
  hit new value nc at =
      let own = its_own (λ y. value_at moment y.value ≡ Some value) at.entry at.reached at.shows in
      subst (λ (o : Option (List ℕ)). GivesAt o k set e new nc (looked.Hit value)) (sym own.1) (record {
        hit = refl;
        lowered = at.lowered ∙ ap (λ (x : Entry). lowered_in k set x.place) own.0;
        uncalled = at.uncalled (buffered_as at.entry own.0);
      })

  -- and what has expired is its record
  expired : (new : LogState) (nc : Type 0) → LooksAt bytes no_pages k set tag key moment (Ok looked.Expired) new nc → GivesBuffered moment k set e r new nc looked.Expired
  expired new nc at =
      let own = its_own (λ y. value_at moment y.value ≡ None) at.entry at.reached at.shows in
      subst (λ (o : Option (List ℕ)). GivesAt o k set e new nc looked.Expired) (sym own.1) (record {
        expired = refl;
        stays = at.stays;
        uncalled = at.uncalled (buffered_as at.entry own.0);
      })

  -- no fault is met
  not_unbuffered : (x : Entry) (h : IsReached bytes no_pages k set tag key x) → is_buffered k x ≡ false → ⊥
  not_unbuffered x h apart =
      ⊎_elim (λ same. absurd (false≢true (sym apart ∙ early x h.behind (omega (arith, same)) h.at)))
      (⊎_elim (λ lt. absurd (false≢true (sym apart ∙ early x h.behind (omega (arith, lt)) h.at))) (λ gt. not_past x h gt))
      (cases_order h.behind behind)

  -- and none is damaged
  weaker : (x : Entry) → ShowsOther bytes no_pages k key x → IsHad no_pages k x → IsLiveOn bytes no_pages k x
  weaker x other is = by_case (shown_on no_pages k x) (other is)
    where
      by_case : (o : Option Rec) → IsSomeAnd o (λ y. CanStandFor bytes k.shape x y × (has_key key y ≡ false)) → IsSomeAnd o (CanStandFor bytes k.shape x)
      by_case (Some y) h = h.0
      by_case None h = h

  not_damaged : (x : Entry) (h : IsReached bytes no_pages k set tag key x) → (IsLiveOn bytes no_pages k x → ⊥) → ⊥
  not_damaged x h dead =
      ⊎_elim
      (λ same. dead (subst (λ (y : Entry). IsLiveOn bytes no_pages k y) (sym (same_entry x h same)) (subst (λ (o : Option Rec). IsSomeAnd o (CanStandFor bytes k.shape e)) (sym here.shows) here.its)))
      (⊎_elim (λ lt. dead (weaker x (other_before x h lt) (before_had x h lt))) (λ gt. not_past x h gt))
      (cases_order h.behind behind)

  by_result : (new : LogState) (nc : Type 0) (result : Result Looked AllocError) → LooksAt bytes no_pages k set tag key moment result new nc
      → IfOk result (GivesBuffered moment k set e r new nc)
  by_result new nc (Ok (looked.Hit value)) at = hit new value nc at
  by_result new nc (Ok looked.Expired) at = expired new nc at
  by_result new nc (Ok looked.Absent) at = absurd (not_other (All-contains (ShowsOther bytes no_pages k key) es e at (reached_listed bytes no_pages k set tag key e here.reached)))
  by_result new nc (Ok looked.Fault) at = absurd (not_unbuffered at.entry at.reached at.stored)
  by_result new nc (Ok looked.Damaged) at = absurd (not_damaged at.entry at.reached at.dead)
  by_result new nc (Err x) at = tt

pub told_by_buffers : (bytes : ℕ) (k new : LogState) (set tag : ℕ) (key : List ℕ) (moment : ℕ) (e : Entry) (r : Rec) (result : Result Looked AllocError) (nc : Type 0)
    → LooksAt bytes no_pages k set tag key moment result new nc → IsInBuffers bytes k set tag key e r
    → IfOk result (GivesBuffered moment k set e r new nc)
told_by_buffers bytes k new set tag key moment e r result nc at here = by_result bytes k set tag key moment e r here new nc result at
