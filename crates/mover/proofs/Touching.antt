-- What a look gives once what it located is touched.
use Rattle.std.proofs.Common.{◌≡◌, ℕ, Bool, true, false, List, Option, Some, None, refl, sym, ap, subst, ◌∙◌}
use Rattle.std.specs.Prelude.{IsTrue, IsSome, Ok, Err, ◌<◌}
use Rattle.std.specs.Bool.{OnFalse}
use Rattle.std.specs.declared.alloc.AllocError.{AllocError}
use Rattle.std.proofs.lemmas.Option.{none-some}
use Rattle.std.proofs.lemmas.Bool.{false≢true}
use Rattle.page_device.specs.Device.{faults_after}
use Rattle.record_pages.specs.Expiry.{value_at}
use Rattle.record_pages.specs.declared.answer.Answer.{Answer}
use Rattle.record_pages.specs.declared.looked.Looked.{Looked}
use Rattle.record_pages.specs.declared.looked.Looked.TheVariants as look
use Rattle.set_hash.specs.declared.placed.Placed.{Placed}
use Rattle.memory_cache.specs.MemoryList.{value_in}
use Rattle.klog.specs.declared.located_in_log.LocatedInLog.{LocatedInLog}
use Rattle.klog.specs.Locate.{LogLocates, log_after, looked_of as log_looked_of}
use Rattle.klog.specs.Shown.{place_in, IsSpelledOn}
use Rattle.kset.specs.declared.located_in_set.LocatedInSet.{LocatedInSet}
use Rattle.kset.specs.declared.located_in_set.LocatedInSet.TheVariants as set
use Rattle.kset.specs.Locate.{SetLocates, sets_after, is_hit as is_set_hit, looked_of as set_looked_of, IsSlot}
use Rattle.kset.specs.Notes.{lets_show}
use Rattle.kset.specs.Pages.{AreSpelledOn}
use Rattle.kset.specs.Sets.{notes_of}
use Rattle.mover.specs.declared.located.Located.{Located}
use Rattle.mover.specs.declared.located.Located.TheVariants as at
use Rattle.mover.specs.Calls.{StoreGets}
use Rattle.mover.specs.Get.{NeedsSetPage, answer_of_log, answer_of_set, is_fault}
use Rattle.mover.specs.Lane.{lane_of}
use Rattle.mover.specs.Store.{StoreState, OnlyReads}
use Rattle.mover.specs.Touch.{answer_at, has_value, touched, in_set, IsOfSets, LooksInLog, LooksInSet, LooksBelow}
use Rattle.mover.proofs.Getting.{log_told, log_leaves, record_told, set_told, set_leaves, set_faulty, asked_page_at, asks_log, asks_set, leaves_after, log_absent_gives, reads_after, get_below}
use Rattle.mover.proofs.Telling.{log_faulty, ended_leaves, ended_in_buffers, ended_gives, not_in_buffers}

-- what a set locates is answered as a set's answer is
pub in_set_answer : (n : ℕ) (l : LocatedInSet) (buffer : List ℕ) → answer_of_set (set_looked_of l buffer) ≡ answer_at (in_set n l) buffer
in_set_answer n (set.Hit slot expires) buffer = refl
in_set_answer n set.Expired buffer = refl
in_set_answer n set.Absent buffer = refl
in_set_answer n set.Fault buffer = refl
in_set_answer n set.Damaged buffer = refl

-- and its touch is that of the sets
pub in_set_touched : {D : Type 0} (key : List ℕ) (n : ℕ) (l : LocatedInSet) (s : StoreState D) → record s { sets = sets_after l n s.sets } ≡ touched key (in_set n l) s
in_set_touched key n (set.Hit slot expires) s = refl
in_set_touched key n set.Expired s = refl
in_set_touched key n set.Absent s = refl
in_set_touched key n set.Fault s = refl
in_set_touched key n set.Damaged s = refl

-- it can be touched
pub in_set_can : (n : ℕ) (l : LocatedInSet) (sets : ℕ) → IsSlot l → n < sets → IsOfSets (in_set n l) sets
in_set_can n (set.Hit slot expires) sets is within = (within, is)
in_set_can n set.Expired sets is within = tt
in_set_can n set.Absent sets is within = tt
in_set_can n set.Fault sets is within = tt
in_set_can n set.Damaged sets is within = tt

-- the buffer stays if no value is located
pub in_set_stays : (n : ℕ) (l : LocatedInSet) (same : Type 0) → OnFalse (is_set_hit l) same → OnFalse (has_value (in_set n l)) same
in_set_stays n (set.Hit slot expires) same stays = tt
in_set_stays n set.Expired same stays = stays
in_set_stays n set.Absent same stays = stays
in_set_stays n set.Fault same stays = stays
in_set_stays n set.Damaged same stays = stays

-- what the log locates, of the store
pub log_looks : {D : Type 0} (size : ℕ) (pages : D → ℕ) (honest : D → Bool) (failures : D → ℕ) (held : D → ℕ → Option (List ℕ)) (s : StoreState D) (placed : Placed) (key : List ℕ) (moment : ℕ) (d : D) (was : List ℕ) (located : LocatedInLog) (buffer : List ℕ) →
    (IsTrue (honest s.device) → IsSpelledOn size (held s.device) s.log) → LogLocates size pages honest failures held placed key moment s.log s.device was located d buffer →
    LooksInLog size honest failures held placed key moment s (log_looked_of located buffer) (record s { device = d; log = log_after located s.log })
log_looks size pages honest failures held s placed key moment d was located buffer spelled l =
    let looked = log_looked_of located buffer in
    let after = log_after located s.log in
    record {
      reads = record { layout = refl; honesty = l.reads.honest; failed_once = l.reads.faults; same = l.reads.same };
      leaves = log_leaves s d after placed looked l.leaves;
      unasked = record { asks_not = l.buffered };
      in_buffers = λ e r here. record_told (value_at moment r.value) s d after placed.set e looked (l.in_buffers e r here);
      tells = λ on. log_told held s d key moment (l.reads.same on) after looked (l.gives on (spelled on));
    }

-- what a set locates, of the store
pub set_looks : {D : Type 0} (size : ℕ) (pages : D → ℕ) (honest : D → Bool) (failures : D → ℕ) (held : D → ℕ → Option (List ℕ)) (s : StoreState D) (placed : Placed) (key : List ℕ) (moment : ℕ) (d : D) (was : List ℕ) (located : LocatedInSet) (buffer : List ℕ) → placed ≡ place_in s.log.shape key →
    (IsTrue (honest s.device) → AreSpelledOn size (held s.device) s.sets) → SetLocates size pages honest failures held placed key moment s.sets s.device was located d buffer →
    LooksInSet honest failures held placed key moment s (answer_of_set (set_looked_of located buffer)) (record s { device = d; sets = sets_after located placed.set s.sets })
set_looks size pages honest failures held s placed key moment d was located buffer is spelled l =
    let looked = set_looked_of located buffer in
    let after = sets_after located placed.set s.sets in
    let needs : looked ≡ look.Fault → NeedsSetPage key (lane_of held s) = λ failed.
    subst (λ (p : Placed). lets_show (notes_of s.sets p.set) p.hash ≡ true) is (asked_page_at (lets_show (notes_of s.sets placed.set) placed.hash) located buffer _ l.denied failed) in
    record {
      reads = record { layout = refl; honesty = l.reads.honest; failed_once = l.reads.faults ∙ ap (faults_after (failures s.device)) (sym (set_faulty looked)); same = l.reads.same };
      leaves = set_leaves s d after placed.set looked l.leaves;
      unasked = record { asks_not = λ no. (subst (λ b. OnFalse b ((located ≡ set.Absent) × (d ≡ s.device))) no l.denied).1 };
      gives = λ on. set_told held s d key moment (l.reads.same on) after placed.set looked (ap (λ (p : Placed). p.set) is) (l.gives on (spelled on)) (l.shown on) needs;
    }

module _ {D : Type 0} (size : ℕ) (honest : D → Bool) (failures : D → ℕ) (held : D → ℕ → Option (List ℕ)) (placed : Placed) (key : List ℕ) (moment : ℕ) (old : StoreState D) (is : placed ≡ place_in old.log.shape key) where
  -- what the log has of a key ends the look below memory
  pub below_by_log : (looked : Looked) (answer : Answer) (new : StoreState D) → answer_of_log looked ≡ Some answer → LooksInLog size honest failures held placed key moment old looked new → LooksBelow size honest failures held key moment old answer new
  below_by_log looked answer new ends l = record {
    reads = subst (λ b. OnlyReads honest failures held old b new) (log_faulty looked answer ends) l.reads;
    leaves = ended_leaves key old new placed is looked answer ends l.leaves;
    unasked = record { asks_not = λ asks. l.unasked.asks_not (asks_log key old placed is asks) };
    in_buffers = ended_in_buffers size key moment old new placed is looked l.in_buffers answer ends;
    gives = λ on. ended_gives key moment (lane_of held old) (lane_of held new) looked answer ends (l.tells on);
  }

  -- if the log has nothing of it, its set's answer does
  pub below_by_set : (mid : StoreState D) (answer : Answer) (new : StoreState D) → LooksInLog size honest failures held placed key moment old look.Absent mid → LooksInSet honest failures held placed key moment mid answer new →
      LooksBelow size honest failures held key moment old answer new
  below_by_set mid answer new l q = record {
    reads = reads_after honest failures held old mid new look.Absent (is_fault (Ok answer)) refl l.reads q.reads;
    leaves = leaves_after key old mid placed is answer new l.leaves q.leaves;
    unasked = record { asks_not = λ asks. q.unasked.asks_not (asks_set key old mid placed is l.leaves asks) ∙ l.unasked.asks_not (asks_log key old placed is asks) };
    in_buffers = not_in_buffers size key moment old mid placed is look.Absent l.in_buffers refl answer new;
    gives = λ on. log_absent_gives key moment (lane_of held old) (lane_of held mid) (lane_of held new) look.Absent answer refl (l.tells on) (q.gives (l.reads.honesty ∙ on));
  }

-- what is not there is not something
not_some : {X : Type 0} (o : Option X) → o ≡ None → IsSome o → ⊥
not_some None is some = false≢true some
not_some (Some x) is some = none-some x (sym is)

-- if memory has nothing of a key, a look below it is the get
module _ {D : Type 0} (size : ℕ) (honest : D → Bool) (failures : D → ℕ) (held : D → ℕ → Option (List ℕ)) (key : List ℕ) (moment : ℕ) (old : StoreState D) (absent : value_in key old.memory.pairs ≡ None) where
  pub below_gets : (answer : Answer) (new : StoreState D) → LooksBelow size honest failures held key moment old answer new → StoreGets size honest failures held key moment old (Ok answer) new
  below_gets answer new l = record {
    reads = l.reads;
    leaves = l.leaves;
    out_of_memory = tt;
    in_memory = λ v is. absurd (none-some v (sym absent ∙ is));
    unread = λ some. absurd (not_some (value_in key old.memory.pairs) absent some);
    in_buffers = λ e r none here. l.in_buffers e r here;
    unasked = l.unasked;
    gives = λ on. get_below key moment answer (lane_of held old) (lane_of held new) absent (l.gives on);
  }

  -- it is so too if the answer had no memory, and nothing was touched
  pub short_gets : (e : AllocError) (located : Located) (buffer : List ℕ) (mid : StoreState D) → has_value located ≡ true → mid ≡ record old { device = mid.device } →
      LooksBelow size honest failures held key moment old (answer_at located buffer) (touched key located mid) → StoreGets size honest failures held key moment old (Err e) mid
  short_gets e located buffer mid has unchanged l = record {
    reads = calm located has l.reads;
    leaves = tt;
    out_of_memory = unchanged;
    in_memory = λ v is. tt;
    unread = λ some. absurd (not_some (value_in key old.memory.pairs) absent some);
    in_buffers = λ e r none here. tt;
    unasked = record { asks_not = λ asks. device located ∙ l.unasked.asks_not asks };
    gives = λ on. tt;
  }
    where
      device : (l : Located) → mid.device ≡ (touched key l mid).device
      device (at.Memory expires) = refl
      device (at.Log e expires) = refl
      device (at.Set set slot expires) = refl
      device (at.Miss cause) = refl

      calm : (l : Located) → has_value l ≡ true → OnlyReads honest failures held old (is_fault (Ok (answer_at l buffer))) (touched key l mid) → OnlyReads honest failures held old false mid
      calm (at.Memory expires) has reads = record { layout = reads.layout; honesty = reads.honesty; failed_once = reads.failed_once; same = reads.same }
      calm (at.Log e expires) has reads = record { layout = reads.layout; honesty = reads.honesty; failed_once = reads.failed_once; same = reads.same }
      calm (at.Set set slot expires) has reads = record { layout = reads.layout; honesty = reads.honesty; failed_once = reads.failed_once; same = reads.same }
      calm (at.Miss cause) has reads = absurd cc
