-- What a put and a flush step give, tier by tier.
use Rattle.std.proofs.Common.{◌≡◌, ◌<◌, ℕ, List, ◌∷◌, length, Option, Some, None, true, false, not, refl, sym, ap, subst, ◌∙◌, arith}
use Rattle.std.specs.Prelude.{IfSome, All, nat_lt}
use Rattle.std.specs.Str.{bytes_eq}
use Rattle.std.proofs.lemmas.Bool.{lt-ltb, le-ltb}
use Rattle.std.proofs.lemmas.List.Elements.{All-filter, All-cons, All-take, All-contains}
use Rattle.page_device.specs.Frames.{pages_before}
use Rattle.record_pages.specs.Recs.{Rec}
use Rattle.record_pages.specs.declared.pushed.Pushed.{Pushed}
use Rattle.record_pages.specs.declared.layout.Layout.{Layout}
use Rattle.set_hash.specs.declared.placed.Placed.{Placed}
use Rattle.memory_cache.specs.declared.pair.Pair.{Pair}
use Rattle.memory_cache.specs.MemoryList.{MemoryList, after_put, pushed_out, entered, without}
use Rattle.klog_index.specs.declared.entry.Entry.{Entry}
use Rattle.klog.specs.declared.appended.Appended.{Appended}
use Rattle.klog.specs.declared.appended.Appended.TheVariants as answers
use Rattle.klog.specs.declared.flushed.Flushed.{Flushed}
use Rattle.klog.specs.Log.{LogState}
use Rattle.klog.specs.Shown.{live_on, place_in}
use Rattle.klog.specs.Append.{AppendGives, live_appended, appended, entry_for, taker}
use Rattle.klog.specs.Flush.{FlushGives, live_flushed}
use Rattle.kset.specs.Sets.{set_count, notes_of}
use Rattle.kset.specs.Pages.{records_on}
use Rattle.kset.specs.Shown.{visible_in, visible_from}
use Rattle.mover.specs.Store.{StoreState}
use Rattle.mover.specs.Lane.{LaneState, lane_of}
use Rattle.mover.specs.Strike.{struck_at}
use Rattle.mover.specs.Put.{append_step, push_step, put_step, IsStep, pushed_as}
use Rattle.mover.specs.Flush.{LaneFlushes}
use Rattle.mover.proofs.public_laws.Listing.{got}

-- what holds of a pair that is put and of each in memory holds of each after the put
pub all_put : (P : Pair → Type 0) (old new : MemoryList) (p : Pair) → new ≡ after_put p old → P p → All P old.pairs → All P new.pairs
all_put P old new p after it all =
    subst (λ (m : MemoryList). All P m.pairs) (sym after) (All-take P old.capacity (entered p old.pairs) (all_entered P p old.pairs it all))
  where
    all_entered : (P : Pair → Type 0) (p : Pair) (pairs : List Pair) → P p → All P pairs → All P (entered p pairs)
    all_entered P p pairs it all = All-cons P p (without p.key pairs) it (All-filter (λ x. not (bytes_eq p.key x.key)) P pairs all)

-- and of the one that is pushed out
pub out_of_put : (P : Pair → Type 0) (old : MemoryList) (p : Pair) (out : Option Pair) → out ≡ pushed_out p old → P p → All P old.pairs → IfSome out P
out_of_put P old p None is it all = tt
out_of_put P old p (Some x) is it all =
    All-contains P (entered p old.pairs) x (All-cons P p (without p.key old.pairs) it (All-filter (λ y. not (bytes_eq p.key y.key)) P old.pairs all))
    (got (entered p old.pairs) old.capacity x (sym is))

-- an append to the log is one to the lane
pub append_told : {D : Type 0} (held : D → ℕ → Option (List ℕ)) (size : ℕ) (s : StoreState D) (k : LogState) (r : Rec) (answer : Appended) → AppendGives size s.log r answer k →
    live_on (held s.device) k ≡ live_appended size s.log r answer (live_on (held s.device) s.log) → IsStep (append_step size r (lane_of held s)) (pushed_as answer) (lane_of held (record s { log = k }))
append_told {D} held size s k r answer gives shown = step answer gives shown
  where
    lane_as : (log : LogState) (live : List (Entry × Rec)) → k ≡ log → live_on (held s.device) k ≡ live → lane_of held (record s { log = k }) ≡ record (lane_of held s) { log = log; live = live }
    lane_as log live e f = λ i. record {
      memory = s.memory;
      log = e i;
      live = f i;
      sets = s.sets;
      flights = s.flights;
      visible = visible_in (held s.device) s.sets;
      moves = s.moves;
    }

    listed : length s.log.entries < s.log.shape.limit → nat_lt (length s.log.entries) s.log.shape.limit ≡ true
    listed lt = lt-ltb _ _ lt

    full : length s.log.entries ≡ s.log.shape.limit → nat_lt (length s.log.entries) s.log.shape.limit ≡ false
    full e = le-ltb _ _ (omega (arith, e))

    step : (answer : Appended) → AppendGives size s.log r answer k → live_on (held s.device) k ≡ live_appended size s.log r answer (live_on (held s.device) s.log) →
        IsStep (append_step size r (lane_of held s)) (pushed_as answer) (lane_of held (record s { log = k }))
    step answers.IndexFull gives shown = rw (full gives.0) (refl, lane_as s.log (live_on (held s.device) s.log) gives.1 shown)
    step answers.Full gives shown = rw (listed gives.listed, gives.full) (refl, lane_as s.log (live_on (held s.device) s.log) gives.same shown)
    step answers.Appended gives shown =
        rw (listed gives.listed, gives.room) (refl, lane_as (appended size s.log r) ((entry_for size (taker size s.log r) r, r) ∷ live_on (held s.device) s.log) gives.added shown)

-- what is stored in memory, struck, and pushed out is a put
pub put_told : {D : Type 0} (held : D → ℕ → Option (List ℕ)) (size word : ℕ) (p : Pair) (s between struck : StoreState D) (out : Option Pair) (at : Placed) (pushed : Pushed) (new : LaneState) →
    between ≡ record s { memory = after_put p s.memory } → out ≡ pushed_out p s.memory → at ≡ place_in s.log.shape p.key → lane_of held struck ≡ struck_at at (lane_of held between) →
    struck.layout ≡ between.layout → IsStep (push_step size struck.layout.admit word out (lane_of held struck)) pushed new → IsStep (put_step size s.layout.admit p word (lane_of held s)) pushed new
put_told {D} held size word p s between struck out at pushed new stored pushed_is placed lane layout is =
    let admit : struck.layout.admit ≡ s.layout.admit = ap (λ (l : Layout). l.admit) (layout ∙ ap (λ (x : StoreState D). x.layout) stored) in
    let lane_is : lane_of held struck ≡ struck_at (place_in s.log.shape p.key) (lane_of held (record s { memory = after_put p s.memory })) =
    lane ∙ (λ i. struck_at (placed i) (lane_of held (stored i))) in
    subst (λ (o : Option Pair). IsStep (push_step size s.layout.admit word o (struck_at (place_in s.log.shape p.key) (lane_of held (record s { memory = after_put p s.memory })))) pushed new) pushed_is
    (subst (λ (l : LaneState). IsStep (push_step size s.layout.admit word out l) pushed new) lane_is
    (subst (λ (n : ℕ). IsStep (push_step size n word out (lane_of held struck)) pushed new) admit is))

-- a flush step of the log is one of the lane
pub lane_flushed : {D : Type 0} (held : D → ℕ → Option (List ℕ)) (s : StoreState D) (d : D) (k : LogState) (flushed : Flushed) → FlushGives s.log flushed k →
    pages_before (set_count s.sets) (held d) ≡ pages_before (set_count s.sets) (held s.device) → live_on (held d) k ≡ live_flushed s.log flushed (live_on (held s.device) s.log) →
    LaneFlushes (lane_of held s) flushed (lane_of held (record s { device = d; log = k }))
lane_flushed held s d k flushed gives apart shown = (
  gives,
  λ i. record {
    memory = s.memory;
    log = k;
    live = shown i;
    sets = s.sets;
    flights = s.flights;
    visible = λ set. visible_from (notes_of s.sets set) 0 (records_on (apart i set));
    moves = s.moves;
  },
)
