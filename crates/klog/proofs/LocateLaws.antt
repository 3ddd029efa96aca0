-- What a search for a key gives, by what it shows of each answer.
use Rattle.std.proofs.Common.{◌≡◌, ℕ, true, List, Option, Some, None, All, Bool, refl, sym, ap, subst, ◌∙◌}
use Rattle.std.specs.Prelude.{IsSomeAnd, Ok, Err}
use Rattle.std.specs.Bool.{OnFalse}
use Rattle.std.specs.declared.alloc.AllocError.{AllocError}
use Rattle.std.proofs.lemmas.List.Elements.{All-contains}
use Rattle.page_device.specs.Lending.{OnlyReads}
use Rattle.record_pages.specs.Expiry.{value_at}
use Rattle.record_pages.specs.Recs.{Rec}
use Rattle.record_pages.specs.Looking.{has_key}
use Rattle.klog_index.specs.declared.entry.Entry.{Entry}
use Rattle.klog_index.specs.Entries.{is_in, of_tag}
use Rattle.set_hash.specs.declared.placed.Placed.{Placed}
use Rattle.klog.specs.declared.located_in_log.LocatedInLog.{LocatedInLog}
use Rattle.klog.specs.declared.located_in_log.LocatedInLog.TheVariants as located
use Rattle.klog.specs.Log.{LogState}
use Rattle.klog.specs.Shown.{live_on, place_in, IsLiveOn, IsSpelledOn}
use Rattle.klog.specs.Find.{HasLive}
use Rattle.klog.specs.Known.{no_pages, AreHeldBy, AreBuffered}
use Rattle.klog.specs.Look.{is_log_fault, lowered_in, LogLookLeaves, GivesRecord, LogLookGives, ShowsOther, ExpiredAt, FailsAt, DamagedAt, LooksAt}
use Rattle.klog.specs.Locate.{looked_of, is_hit, log_after, IsOfTag, NamesReached, NamesNewest, LogLocates}
use Rattle.klog.specs.Calls.{LogLooks}
use Rattle.klog.proofs.LiveLaws.{live_on-lowered, spelled_lowered}
use Rattle.klog.proofs.KnownLaws.{all_held, shows_weaker}
use Rattle.klog.proofs.LookLaws.{spelled_live, reached_listed, hit_newest, absent_none, comes_to_page, lowered_there}
use Rattle.klog.proofs.InBuffers.{told_by_buffers}

-- what a search shows of each answer, whatever else is known of the pages
abbrev pub FindsAt : ℕ → (ℕ → Option (List ℕ)) → LogState → ℕ → ℕ → List ℕ → ℕ → List ℕ → Type 0 → LocatedInLog → Type 0
FindsAt bytes held k set tag key moment buffer not_called (located.Hit e expires) = NamesReached bytes held k set tag key moment buffer (located.Hit e expires)
FindsAt bytes held k set tag key moment buffer not_called located.Expired = ExpiredAt bytes held k set tag key moment k not_called
FindsAt bytes held k set tag key moment buffer not_called located.Absent = All (ShowsOther bytes held k key) (of_tag set tag k.entries)
FindsAt bytes held k set tag key moment buffer not_called located.Fault = FailsAt bytes held k set tag key
FindsAt bytes held k set tag key moment buffer not_called located.Damaged = DamagedAt bytes held k set tag key

module _ (bytes : ℕ) (held : ℕ → Option (List ℕ)) (k : LogState) (key : List ℕ) (moment : ℕ) (placed : Placed) (buffer : List ℕ) (nc : Type 0) where
  -- the entry of a hit is named
  names_reached : (f : LocatedInLog) → FindsAt bytes held k placed.set placed.tag key moment buffer nc f → NamesReached bytes held k placed.set placed.tag key moment buffer f
  names_reached (located.Hit e expires) at = at
  names_reached located.Expired at = tt
  names_reached located.Absent at = tt
  names_reached located.Fault at = tt
  names_reached located.Damaged at = tt

  -- and what is shown lies behind a look-up's answer
  looks_by : (f : LocatedInLog) → IsOfTag k placed.set placed.tag nc f → FindsAt bytes held k placed.set placed.tag key moment buffer nc f
      → LooksAt bytes held k placed.set placed.tag key moment (Ok (looked_of f buffer)) (log_after f k) nc
  looks_by (located.Hit e expires) its at = record {
    entry = e;
    reached = at.0;
    lowered = lowered_there k (lowered_in k e.set e.place) placed.set placed.tag e its.0 refl;
    shows = shows_weaker bytes held k e (λ r. (has_key key r ≡ true) × HasLive moment buffer expires r) (λ r. (has_key key r ≡ true) × (value_at moment r.value ≡ Some buffer)) (λ r live. (live.0, live.1.0)) at.1;
    uncalled = its.1;
  }
  looks_by located.Expired its at = at
  looks_by located.Absent its at = at
  looks_by located.Fault its at = at
  looks_by located.Damaged its at = at

  -- and if all live records are known the entry is that of the newest
  names_newest : placed ≡ place_in k.shape key → IsSpelledOn bytes held k → (f : LocatedInLog) → FindsAt bytes held k placed.set placed.tag key moment buffer nc f → NamesNewest (live_on held k) key moment buffer f
  names_newest is spelled (located.Hit e expires) at = hit_newest bytes held k key placed e (HasLive moment buffer expires) is spelled at.0 at.1
  names_newest is spelled located.Expired at = tt
  names_newest is spelled located.Absent at = tt
  names_newest is spelled located.Fault at = tt
  names_newest is spelled located.Damaged at = tt

  -- so the answer is by the live records
  gives_by : (held' : ℕ → Option (List ℕ)) → held' ≡ held → placed ≡ place_in k.shape key → IsSpelledOn bytes held k → (f : LocatedInLog) → FindsAt bytes held k placed.set placed.tag key moment buffer nc f
      → LogLookGives (live_on held k) key moment k (looked_of f buffer) (log_after f k) (live_on held' (log_after f k))
  gives_by held' same is spelled (located.Hit e expires) at =
      let new = lowered_in k e.set e.place in
      let newest = hit_newest bytes held k key placed e (HasLive moment buffer expires) is spelled at.0 at.1 in
      subst (λ (o : Option (Entry × Rec)). IsSomeAnd o (GivesRecord (live_on held k) moment buffer k new (live_on held' new))) (sym newest.1) (record {
        its = newest.2.0;
        lowered = refl;
        left = ap (λ (h : ℕ → Option (List ℕ)). live_on h new) same ∙ live_on-lowered held k (is_in e.set e.place);
      })
  gives_by held' same is spelled located.Expired at =
      let newest = hit_newest bytes held k key placed at.entry (λ r. value_at moment r.value ≡ None) is spelled at.reached at.shows in (
        subst (λ (o : Option (Entry × Rec)). IsSomeAnd o (λ x. value_at moment x.1.value ≡ None)) (sym newest.1) newest.2,
        record { log = refl; left = ap (λ (h : ℕ → Option (List ℕ)). live_on h k) same },
      )
  gives_by held' same is spelled located.Absent at =
      (absent_none bytes held k key placed is spelled at, record { log = refl; left = ap (λ (h : ℕ → Option (List ℕ)). live_on h k) same })
  gives_by held' same is spelled located.Fault at = (
    comes_to_page bytes held k key placed at.entry is spelled at.reached at.stored,
    record { log = refl; left = ap (λ (h : ℕ → Option (List ℕ)). live_on h k) same },
  )
  gives_by held' same is spelled located.Damaged at =
      absurd (at.dead (All-contains (IsLiveOn bytes held k) (of_tag placed.set placed.tag k.entries) at.entry (spelled_live bytes held k placed.set placed.tag spelled)
      (reached_listed bytes held k placed.set placed.tag key at.entry at.reached)))

-- what a hit leaves, and all else
leaves_by : (k : LogState) (set tag : ℕ) (buffer : List ℕ) (nc : Type 0) (f : LocatedInLog) → IsOfTag k set tag nc f → LogLookLeaves k set tag (Ok (looked_of f buffer)) (log_after f k) nc
leaves_by k set tag buffer nc (located.Hit e expires) its = record {
  entry = e;
  listed = its.0;
  lowered = lowered_there k (lowered_in k e.set e.place) set tag e its.0 refl;
  uncalled = its.1;
}
leaves_by k set tag buffer nc located.Expired its = refl
leaves_by k set tag buffer nc located.Absent its = refl
leaves_by k set tag buffer nc located.Fault its = refl
leaves_by k set tag buffer nc located.Damaged its = refl

-- a log keeps its shape and stays spelled when the entry of a hit is touched
shape_after : (f : LocatedInLog) (k : LogState) → (log_after f k).shape ≡ k.shape
shape_after (located.Hit e expires) k = refl
shape_after located.Expired k = refl
shape_after located.Absent k = refl
shape_after located.Fault k = refl
shape_after located.Damaged k = refl

spelled_after : (bytes : ℕ) (held : ℕ → Option (List ℕ)) (k : LogState) (f : LocatedInLog) → IsSpelledOn bytes held k → IsSpelledOn bytes held (log_after f k)
spelled_after bytes held k (located.Hit e expires) h = spelled_lowered bytes held k (is_in e.set e.place) h
spelled_after bytes held k located.Expired h = h
spelled_after bytes held k located.Absent h = h
spelled_after bytes held k located.Fault h = h
spelled_after bytes held k located.Damaged h = h

module _ {D : Type 0} {size : ℕ} {pages : D → ℕ} {honest : D → Bool} {failures : D → ℕ} {held : D → ℕ → Option (List ℕ)} {placed : Placed} {key : List ℕ} {moment : ℕ} {k : LogState} {device : D} {was : List ℕ} {f : LocatedInLog} {device' : D} {buffer : List ℕ} where
  -- so a search that shows this of its answer locates
  pub locates : placed ≡ place_in k.shape key
      → OnlyReads pages honest failures held device (is_log_fault (Ok (looked_of f buffer))) device'
      → IsOfTag k placed.set placed.tag (device' ≡ device) f
      → OnFalse (is_hit f) (buffer ≡ was)
      → (AreBuffered k (of_tag placed.set placed.tag k.entries) → device' ≡ device)
      → ((known : ℕ → Option (List ℕ)) → AreHeldBy honest held device known → FindsAt size known k placed.set placed.tag key moment buffer (device' ≡ device) f)
      → LogLocates size pages honest failures held placed key moment k device was f device' buffer
  locates is reads its stays buffered at = record {
    reads = reads;
    listed = its;
    leaves = leaves_by k placed.set placed.tag buffer (device' ≡ device) f its;
    stays = stays;
    buffered = buffered;
    in_buffers = λ e r here.
        told_by_buffers size k (log_after f k) placed.set placed.tag key moment e r (Ok (looked_of f buffer)) (device' ≡ device) (looks no_pages (λ page. tt)) here;
    names_at = λ known knows. names_reached size known k key moment placed buffer (device' ≡ device) f (at known knows);
    looks_at = looks;
    names = λ on spelled. names_newest size (held device) k key moment placed buffer (device' ≡ device) is spelled f (at (held device) (all_held honest held device on));
    gives = λ on spelled. gives_by size (held device) k key moment placed buffer (device' ≡ device) (held device') (reads.same on) is spelled f (at (held device) (all_held honest held device on));
  }
    where
      looks : (known : ℕ → Option (List ℕ)) → AreHeldBy honest held device known → LooksAt size known k placed.set placed.tag key moment (Ok (looked_of f buffer)) (log_after f k) (device' ≡ device)
      looks known knows = looks_by size known k key moment placed buffer (device' ≡ device) f its (at known knows)

  -- what is located is what a look-up answers, once the entry of a hit is touched
  answers : LogLocates size pages honest failures held placed key moment k device was f device' buffer
      → LogLooks size pages honest failures held placed key moment k device (Ok (looked_of f buffer)) (log_after f k) device'
  answers h = record {
    reads = h.reads;
    shape = shape_after f k;
    leaves = h.leaves;
    buffered = h.buffered;
    in_buffers = h.in_buffers;
    looks_at = h.looks_at;
    gives = h.gives;
    spelled = λ on spelled. subst (λ (now : ℕ → Option (List ℕ)). IsSpelledOn size now (log_after f k)) (sym (h.reads.same on)) (spelled_after size (held device) k f spelled);
  }

  -- the same of a key with these bytes, and of the value that they make
  pub looks : (key' value : List ℕ) (new : LogState) → key ≡ key' → buffer ≡ value → new ≡ log_after f k
      → LogLocates size pages honest failures held placed key moment k device was f device' buffer
      → LogLooks size pages honest failures held placed key' moment k device (Ok (looked_of f value)) new device'
  looks key' value new same_key same_value is h =
      subst (λ (n : LogState). LogLooks size pages honest failures held placed key' moment k device (Ok (looked_of f value)) n device') (sym is)
      (subst (λ (v : List ℕ). LogLooks size pages honest failures held placed key' moment k device (Ok (looked_of f v)) (log_after f k) device') same_value
      (subst (λ (q : List ℕ). LogLooks size pages honest failures held placed q moment k device (Ok (looked_of f buffer)) (log_after f k) device') same_key (answers h)))

module _ {D : Type 0} {size : ℕ} {pages : D → ℕ} {honest : D → Bool} {failures : D → ℕ} {held : D → ℕ → Option (List ℕ)} {placed : Placed} {key : List ℕ} {moment : ℕ} {k : LogState} {device : D} {was : List ℕ} {e : Entry} {expires : ℕ} {device' : D} {buffer : List ℕ} where
  -- if memory for the value of a hit is refused the log stays
  pub wants : (key' : List ℕ) (err : AllocError) → key ≡ key'
      → LogLocates size pages honest failures held placed key moment k device was (located.Hit e expires) device' buffer
      → LogLooks size pages honest failures held placed key' moment k device (Err err) k device'
  wants key' err same_key h = subst (λ (q : List ℕ). LogLooks size pages honest failures held placed q moment k device (Err err) k device') same_key (record {
    reads = h.reads;
    shape = refl;
    leaves = refl;
    buffered = h.buffered;
    in_buffers = λ e r here. tt;
    looks_at = λ known knows.
        let at = h.names_at known knows in
        record {
          entry = e;
          reached = at.0;
          shows = shows_weaker size known k e (λ r. (has_key key r ≡ true) × HasLive moment buffer expires r) (λ r. has_key key r ≡ true) (λ r both. both.0) at.1;
        };
    gives = λ on spelled. tt;
    spelled = λ on spelled. subst (λ (now : ℕ → Option (List ℕ)). IsSpelledOn size now k) (sym (h.reads.same on)) spelled;
  })
