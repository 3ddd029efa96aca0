-- That copies stay what their keys have, and what a live copy gives.
use Rattle.std.proofs.Common.{◌≡◌, ◌≢◌, ℕ, eqb, Bool, true, false, List, [], ◌∷◌, ◌++◌, Option, Some, None, Ok, ap, sym, ◌∙◌, refl, subst, cond, inl, inr, ⊎_elim}
use Rattle.std.specs.Prelude.{IsTrue, IfSome, option_and_then}
use Rattle.std.proofs.lemmas.Bool.Decides.{eqb_tells}
use Rattle.std.proofs.lemmas.Option.{none-some}
use Rattle.std.proofs.lemmas.List.Elements.{All-contains, All-from_recursion}
use Rattle.record_pages.specs.Expiry.{is_live, timed}
use Rattle.record_pages.specs.declared.answer.Answer.{Answer}
use Rattle.record_pages.specs.declared.answer.Answer.TheVariants as answers
use Rattle.record_pages.specs.declared.tier.Tier.{Tier}
use Rattle.record_pages.specs.declared.tier.Tier.TheVariants.{Memory, Log, Set}
use Rattle.record_pages.specs.declared.timed_value.TimedValue.{TimedValue}
use Rattle.memory_cache.specs.declared.pair.Pair.{Pair}
use Rattle.memory_cache.specs.MemoryList.{after_get, after_put, after_remove, entered, without, value_in}
use Rattle.memory_cache.specs.Laws.{FoundIsHeld}
use Rattle.mover.specs.Calls.{StoreGets}
use Rattle.mover.specs.Get.{answer_of}
use Rattle.mover.specs.declared.answer_kind.AnswerKind.{AnswerKind}
use Rattle.mover.specs.declared.answer_kind.AnswerKind.TheVariants as kinds
use Rattle.mover.specs.declared.copy_fate.CopyFate.{CopyFate}
use Rattle.mover.specs.Store.{StoreState}
use Rattle.mover.proofs.public_laws.Listing.{got, split}
use Rattle.mover.proofs.public_laws.Showing.{without_key}
use Rattle.certificate_checker.specs.Deeds.{Deed}
use Rattle.certificate_checker.specs.Current.{current, given_at}
use Rattle.certificate_checker.specs.Latest.{IsLive}
use Rattle.certificate_checker.proofs.public_laws.LatestLemmas.{live_is}
use Rattle.deeds.specs.Sound.{act_of}
use Rattle.deeds.proofs.public_laws.Copying.{current_put, current_removed, current_kept, current_raised, read_keeps}
use Rattle.service_lane.specs.Asked.{AreCurrent, TellsExpiry}
use Rattle.service_lane.specs.Copies.{CopyList, CopyAsked, copied_pairs, copies_for, no_copies, copy_gone, copy_raised, copy_made, copy_pushed, answer_counted, if_live, live_copy, copy_in, HitLeaves, PutsBackIf, GetsCopied}
use Rattle.service_lane.specs.declared.copied.Copied.TheVariants.{Nothing, Made}
use Rattle.service_lane.specs.declared.new_copy.NewCopy.{NewCopy}

-- the copies are what their keys have
abbrev pub AreRight : List Deed → Option CopyList → Type 0
AreRight deeds copies = AreCurrent deeds (copied_pairs copies)

-- no copies are right
none_right : (deeds : List Deed) → AreRight deeds None
none_right deeds p here = All-contains (λ (q : Pair). current deeds q.key ≡ Some q.value) [] p (All-from_recursion (λ (q : Pair). current deeds q.key ≡ Some q.value) [] tt) here

-- so are copies of which none is held
pub none_held : (deeds : List Deed) (copies : Option CopyList) → copied_pairs copies ≡ [] → AreRight deeds copies
none_held deeds copies none = subst (AreCurrent deeds) (sym none) (none_right deeds)

-- after a deed that leaves the other keys what they have, once the copy of its key is gone
pub gone_right : (before after : List Deed) (key : List ℕ) (old new : Option CopyList) → ((k : List ℕ) → k ≢ key → current after k ≡ current before k) → new ≡ copy_gone key old → AreRight before old → AreRight after new
gone_right before after key None new others is right = subst (AreRight after) (sym is) (none_right after)
gone_right before after key (Some c) new others is right = subst (AreRight after) (sym is) (current_removed before after key c.held (after_remove key c.held) others refl right)

-- after a copy came to the front
pub raised_right : (deeds : List Deed) (key : List ℕ) (old new : Option CopyList) → new ≡ copy_raised key old → AreRight deeds old → AreRight deeds new
raised_right deeds key None new is right = subst (AreRight deeds) (sym is) (none_right deeds)
raised_right deeds key (Some c) new is right = subst (AreRight deeds) (sym is) (current_raised deeds key c.held (after_get key c.held) refl right)

-- after a copy was made of what its key has
made_right : (deeds : List Deed) (p : Pair) (old new : Option CopyList) → current deeds p.key ≡ Some p.value → new ≡ copy_made p old → AreRight deeds old → AreRight deeds new
made_right deeds p None new its is right = subst (AreRight deeds) (sym is) (none_right deeds)
made_right deeds p (Some c) new its is right = subst (AreRight deeds) (sym is) (current_put deeds deeds p c.held (after_put p c.held) its (λ k other. refl) refl right)

-- the copy that goes for a copy of what its key has, is what its own key has
pub pushed_right : (deeds : List Deed) (p q : Pair) (copies : Option CopyList) → current deeds p.key ≡ Some p.value → copy_pushed p copies ≡ Some q → AreRight deeds copies → current deeds q.key ≡ Some q.value
pushed_right deeds p q None its goes right = absurd (none-some q goes)
pushed_right deeds p q (Some c) its goes right =
    ⊎_elim (λ first. subst (λ (x : Pair). current deeds x.key ≡ Some x.value) first its) (λ behind. right q (without_key p.key c.held.pairs q behind).0)
    (split q p (without p.key c.held.pairs) (got (entered p c.held.pairs) c.held.capacity q goes))

-- after a hit was counted
counted_right : (deeds : List Deed) (answer : Answer) (copies : Option CopyList) → AreRight deeds copies → AreRight deeds (answer_counted answer copies)
counted_right deeds (answers.Hit value Memory) copies right = right
counted_right deeds (answers.Hit value Log) None right = right
counted_right deeds (answers.Hit value Log) (Some c) right = right
counted_right deeds (answers.Hit value Set) None right = right
counted_right deeds (answers.Hit value Set) (Some c) right = right
counted_right deeds (answers.Miss cause) copies right = right

-- what is told of a hit is what its key has
told_current : (honest : Type 0) (deeds : List Deed) (key found : List ℕ) (tier : Tier) (expires : ℕ) → TellsExpiry honest deeds key found (kinds.Hit tier expires) → honest → current deeds key ≡ Some (timed found expires)
told_current honest deeds key found Memory expires told is = told
told_current honest deeds key found Log expires told is = told is
told_current honest deeds key found Set expires told is = told is

-- after an answer of the store
left_right : (honest : Type 0) (deeds : List Deed) (key : List ℕ) (kind : AnswerKind) (found : List ℕ) (made : Option NewCopy) (old new : Option CopyList) → HitLeaves made key kind found old new → TellsExpiry honest deeds key found kind → honest → AreRight deeds old → AreRight deeds new
left_right honest deeds key kind found None old new leaves told is right = subst (AreRight deeds) (sym leaves) (counted_right deeds (answer_of kind found) old right)
left_right honest deeds key (kinds.Hit tier expires) found (Some made) old new leaves told is right =
    let answer : Answer = answer_of (kinds.Hit tier expires) found in
    made_right deeds (record { key = key; value = timed found expires }) (answer_counted answer old) new (told_current honest deeds key found tier expires told is) leaves.leaves.copies (counted_right deeds answer old right)
left_right honest deeds key (kinds.Miss cause) found (Some made) old new leaves told is right = absurd leaves

-- and once the answer is a deed
pub got_right : (honest : Type 0) (deeds after : List Deed) (key : List ℕ) (moment : ℕ) (kind : AnswerKind) (found : List ℕ) (made : Option NewCopy) (old new : Option CopyList) → after ≡ deeds ++ record { key = key; act = act_of moment (answer_of kind found) } ∷ [] → HitLeaves made key kind found old new → TellsExpiry honest deeds key found kind → honest → AreRight deeds old → AreRight after new
got_right honest deeds after key moment kind found made old new more leaves told is right =
    current_kept deeds after (copied_pairs new) (λ k. ap (λ ds. current ds k) more ∙ read_keeps deeds key moment (answer_of kind found) k) (left_right honest deeds key kind found made old new leaves told is right)

-- and so is the copy that was pushed out
pub gone_current : (honest : Type 0) (deeds after : List Deed) (key : List ℕ) (moment : ℕ) (kind : AnswerKind) (found : List ℕ) (made : NewCopy) (old new : Option CopyList) → after ≡ deeds ++ record { key = key; act = act_of moment (answer_of kind found) } ∷ [] → HitLeaves (Some made) key kind found old new → TellsExpiry honest deeds key found kind → (honest → AreRight deeds old) → IfSome made.pushed (λ q. honest → current after q.key ≡ Some q.value)
gone_current honest deeds after key moment (kinds.Miss cause) found made old new more leaves told right = absurd leaves
gone_current honest deeds after key moment (kinds.Hit tier expires) found made old new more leaves told right = by made.pushed leaves.pushed
  where
    by : (pushed : Option Pair) → pushed ≡ copy_pushed (record { key = key; value = timed found expires }) old → IfSome pushed (λ q. honest → current after q.key ≡ Some q.value)
    by None is = tt
    by (Some q) is =
        λ its.
        ap (λ ds. current ds q.key) more ∙ read_keeps deeds key moment (answer_of (kinds.Hit tier expires) found) q.key
        ∙ pushed_right deeds (record { key = key; value = timed found expires }) q old (told_current honest deeds key found tier expires told its) (sym is) (right its)

-- ---- what a live copy gives

if_live_is : (moment : ℕ) (v w : TimedValue) → if_live moment v ≡ Some w → (v ≡ w) × (is_live v.expires moment ≡ true)
if_live_is moment v w is = by (is_live v.expires moment) refl is
  where
    by : (b : Bool) → is_live v.expires moment ≡ b → cond {A = Option TimedValue} b (Some v) None ≡ Some w → (v ≡ w) × (is_live v.expires moment ≡ true)
    by true live same = (cc, live)
    by false live same = absurd (cc)

-- a live copy is held, and live
live_copy_is : (key : List ℕ) (moment : ℕ) (c : CopyList) (w : TimedValue) → live_copy key moment c ≡ Some w → (value_in key c.held.pairs ≡ Some w) × (is_live w.expires moment ≡ true)
live_copy_is key moment c w is = by (value_in key c.held.pairs) refl is
  where
    by : (o : Option TimedValue) → value_in key c.held.pairs ≡ o → option_and_then (if_live moment) o ≡ Some w → (value_in key c.held.pairs ≡ Some w) × (is_live w.expires moment ≡ true)
    by None at same = absurd (cc)
    by (Some v) at same =
        let both = if_live_is moment v w same in
        (at ∙ ap (λ (x : TimedValue). Some x) both.0, subst (λ (x : TimedValue). is_live x.expires moment ≡ true) both.0 both.1)

module _ (found_held : FoundIsHeld) (deeds : List Deed) (key : List ℕ) (moment : ℕ) (c : CopyList) (value : List ℕ) (expires : ℕ) (is : live_copy key moment c ≡ Some (timed value expires)) (right : AreRight deeds (Some c)) where
  -- it is what its key has
  pub copy_current : current deeds key ≡ Some (timed value expires)
  copy_current = right (record { key = key; value = timed value expires }) (found_held key (timed value expires) c.held (live_copy_is key moment c (timed value expires) is).0)

  -- and so its key's latest value
  pub copy_live : IsLive deeds key value moment
  copy_live = live_is key value moment deeds (ap (given_at moment) copy_current ∙ gives (live_copy_is key moment c (timed value expires) is).1)
    where
      gives : is_live expires moment ≡ true → given_at moment (Some (timed value expires)) ≡ Some value
      gives live = rw live refl

-- ---- a get of the store

module _ {D : Type 0} (size : ℕ) (honest : D → Bool) (failures : D → ℕ) (held : D → ℕ → Option (List ℕ)) (key : List ℕ) (moment : ℕ) (found : List ℕ) (old new : CopyAsked D) where
  -- after which no copy was made
  pub got_uncopied : (kind : AnswerKind) → copy_in key moment old.copies ≡ None → StoreGets size honest failures held key moment old.store (Ok (answer_of kind found)) new.store → HitLeaves None key kind found old.copies new.copies → GetsCopied size honest failures held Nothing key moment (answer_of kind found) old new
  got_uncopied kind none gets leaves = (record { none = none; gets = gets }, leaves)

  -- after which a copy was made, and the one that went for it went back
  pub got_copied : (kind : AnswerKind) (between : StoreState D) (made : NewCopy) (fate : Option CopyFate) → copy_in key moment old.copies ≡ None → StoreGets size honest failures held key moment old.store (Ok (answer_of kind found)) between → TellsExpiry (IsTrue (honest old.store.device)) old.deeds key found kind → HitLeaves (Some made) key kind found old.copies new.copies → PutsBackIf size held made.pushed between fate new.store → GetsCopied size honest failures held (Made fate) key moment (answer_of kind found) old new
  got_copied (kinds.Hit tier expires) between made fate none gets told leaves back =
      record {
        between = between;
        answers = record { none = none; gets = gets };
        value = found;
        expires = expires;
        current = told_current (IsTrue (honest old.store.device)) old.deeds key found tier expires told;
        leaves = leaves.leaves;
        pushes = subst (λ (pushed : Option Pair). PutsBackIf size held pushed between fate new.store) leaves.pushed back;
      }
  got_copied (kinds.Miss cause) between made fate none gets told leaves back = absurd leaves

-- ---- copies that are kept

not_zero : (n : ℕ) → (n ≡ 0 → ⊥) → eqb n 0 ≡ false
not_zero n other = elim (eqb_tells n 0) [ inl same ↦ absurd (other same.1) | inr is ↦ is.0 ]

-- if neither number is 0 there are copies
pub some_kept : (every objects : ℕ) → (every ≡ 0 → ⊥) → (objects ≡ 0 → ⊥) → copies_for every objects ≡ Some (no_copies every objects)
some_kept every objects one two =
    ap (λ (b : Bool). cond {A = Option CopyList} b None (cond {A = Option CopyList} (eqb objects 0) None (Some (no_copies every objects)))) (not_zero every one)
    ∙ ap (λ (b : Bool). cond {A = Option CopyList} b None (Some (no_copies every objects))) (not_zero objects two)
