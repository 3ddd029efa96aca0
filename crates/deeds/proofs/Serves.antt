-- Each call of a store keeps what is true of it and of what was asked of it.
use Rattle.std.proofs.Common.{◌≡◌, ℕ, Bool, List, [], ◌∷◌, ◌++◌, Option, Some, None, Result, Ok, Err, refl, ap, sym, ◌∙◌, subst, inl}
use Rattle.std.specs.Prelude.{IsTrue, IfOk}
use Rattle.std.specs.declared.alloc.AllocError.{AllocError}
use Rattle.record_pages.specs.Expiry.{timed}
use Rattle.record_pages.specs.declared.answer.Answer.{Answer}
use Rattle.record_pages.specs.declared.answer.Answer.TheVariants as answers
use Rattle.record_pages.specs.declared.tier.Tier.{Tier}
use Rattle.record_pages.specs.declared.tier.Tier.TheVariants.{Memory, Log, Set}
use Rattle.record_pages.specs.declared.layout.Layout.{Layout}
use Rattle.memory_cache.specs.declared.pair.Pair.{Pair}
use Rattle.trace_file.specs.declared.act.Act.TheVariants.{Put, Remove, Hit, Miss}
use Rattle.certificate_checker.specs.Deeds.{Deed}
use Rattle.certificate_checker.specs.Current.{current}
use Rattle.certificate_checker.specs.Latest.{IsLive}
use Rattle.certificate_checker.proofs.public_laws.Growing.{lawful-push}
use Rattle.mover.specs.Store.{StoreState, opening_with}
use Rattle.mover.specs.Lane.{lane_of}
use Rattle.mover.specs.Laws.{IsInOrder, StepsInOrder, OpeningShowsNothing, GetShows}
use Rattle.mover.specs.Visible.{IsShown, TellsVisible}
use Rattle.deeds.specs.Sound.{act_of}
use Rattle.deeds.proofs.public_laws.Sounding.{no_deed, put_gives, sound_by, sound_put, sound_remove, none_some, some_same, hit_is, still_in_order}
use Rattle.deeds.specs.Asked.{Asked, AreCurrent, IsServed, IsLiveHit, TellsExpiry}
use Rattle.mover.specs.declared.answer_kind.AnswerKind.{AnswerKind}
use Rattle.mover.specs.declared.answer_kind.AnswerKind.TheVariants as kinds
use Rattle.mover.specs.Timed.{TellsExpiry as StoreTells, expiry_in_memory, expiry_of, first_timed}
use Rattle.mover.proofs.public_laws.Showing.{timed_visible}
use Rattle.certificate_checker.proofs.public_laws.LatestLemmas.{live_is, live_found}
use Rattle.certificate_checker.specs.Current.{given_at}
use Rattle.record_pages.specs.Expiry.{value_at}
use Rattle.record_pages.specs.declared.timed_value.TimedValue.{TimedValue}
use Rattle.memory_cache.specs.MemoryList.{MemoryList, after_put, after_remove}
use Rattle.memory_cache.specs.Laws.{FoundIsHeld}
use Rattle.mover.specs.Get.{answer_by}
use Rattle.mover.specs.Calls.{StoreGets}
use Rattle.deeds.proofs.Remembering.{IsFewer, fewer_got}
use Rattle.deeds.proofs.public_laws.Copying.{current_put, current_removed, read_keeps, write_keeps}
use Rattle.mover.proofs.public_laws.Beginning.{same_lane_held}

-- ---- hits that are live

-- what memory answers is what its pair gives
by_memory : (o : Option (List ℕ)) (value : List ℕ) → answers.Hit value Memory ≡ answer_by o Memory → o ≡ Some value
by_memory None value is = absurd (cc)
by_memory (Some other) value is = cc

module _ {D : Type 0} (size : ℕ) (honest : D → Bool) (failures : D → ℕ) (held : D → ℕ → Option (List ℕ)) (found : FoundIsHeld) (old : Asked D) (served : IsServed honest held old) (key : List ℕ) (moment : ℕ) where
  -- a hit in memory, on any device
  memory_live : (value : List ℕ) (new : StoreState D) → StoreGets size honest failures held key moment old.store (Ok (answers.Hit value Memory)) new → IsLive old.deeds key value moment
  memory_live value new gets =
      let v : TimedValue = timed value gets.leaves.expires in
      let has : current old.deeds key ≡ Some v = served.memory (record { key = key; value = v }) (found key v old.store.memory gets.leaves.its) in
      let gives : value_at moment v ≡ Some value = by_memory (value_at moment v) value (gets.in_memory v gets.leaves.its) in
      live_is key value moment old.deeds (ap (given_at moment) has ∙ gives)

  -- a hit in any tier
  live_hit : (answer : Answer) (new : StoreState D) → StoreGets size honest failures held key moment old.store (Ok answer) new → (IsTrue (honest old.store.device) → TellsVisible key moment (lane_of held old.store) answer) → IsLiveHit (IsTrue (honest old.store.device)) old.deeds key moment answer
  live_hit (answers.Hit value Memory) new gets tells = memory_live value new gets
  live_hit (answers.Hit value Log) new gets tells = λ is. live_is key value moment old.deeds (hit_is old.deeds key value moment moment (lane_of held old.store) (answers.Hit value Log) (served.sound is) (tells is) refl)
  live_hit (answers.Hit value Set) new gets tells = λ is. live_is key value moment old.deeds (hit_is old.deeds key value moment moment (lane_of held old.store) (answers.Hit value Set) (served.sound is) (tells is) refl)
  live_hit (answers.Miss cause) new gets tells = tt

-- ---- what is true of every store, after each call

module _ {D : Type 0} (honest : D → Bool) (held : D → ℕ → Option (List ℕ)) where
  -- a store that was just opened
  pub served_opened : (store : StoreState D) (strikes : ℕ) (layout : Layout) (device : D) → OpeningShowsNothing → store ≡ opening_with strikes layout device → IsServed honest held (record { store = store; deeds = [] })
  served_opened store strikes layout device law told =
      let first = law strikes (held device) layout in
      let order : IsInOrder (lane_of held store) = subst (λ (s : StoreState D). IsInOrder (lane_of held s)) (sym told) first.0 in
      let nothing : (p : Pair) → ¬ IsShown (lane_of held store) p = subst (λ (s : StoreState D). (p : Pair) → ¬ IsShown (lane_of held s) p) (sym told) first.1 in
      record {
        memory = λ p here. absurd (nothing p (inl (inl here)));
        order = λ is. order;
        sound = λ is p shown. absurd (nothing p shown);
        lawful = λ is before after deed value moment split. absurd (no_deed before after deed split);
      }

  module _ (old : Asked D) (served : IsServed honest held old) (new : StoreState D) (honesty : honest new.device ≡ honest old.store.device) where
    -- a step that is no deed
    pub served_step : (struck : Option (List ℕ)) → IsFewer 0 old.store new → (IsTrue (honest old.store.device) → StepsInOrder struck None (lane_of held old.store) (lane_of held new)) → IsServed honest held (record { store = new; deeds = old.deeds })
    served_step struck fewer steps = record {
      memory = λ p here. served.memory p (fewer p here);
      order = λ is. (steps (subst IsTrue honesty is)).order;
      sound = λ is.
          let was = subst IsTrue honesty is in
          sound_by struck None old.deeds old.deeds (lane_of held old.store) (lane_of held new) (λ p no. absurd (none_some no)) (λ p other. refl) (served.sound was) (steps was).shows;
      lawful = λ is. served.lawful (subst IsTrue honesty is);
    }

    -- a copy that is put back, of what its key has
    pub served_put_back : (p : Pair) → (IsTrue (honest old.store.device) → current old.deeds p.key ≡ Some p.value) → new.memory ≡ old.store.memory → (IsTrue (honest old.store.device) → StepsInOrder None (Some p) (lane_of held old.store) (lane_of held new)) →
        IsServed honest held (record { store = new; deeds = old.deeds })
    served_put_back p has leaves steps = record {
      memory = subst (λ (m : MemoryList). AreCurrent old.deeds m.pairs) (sym leaves) served.memory;
      order = λ is. (steps (subst IsTrue honesty is)).order;
      sound = λ is.
          let was = subst IsTrue honesty is in
          sound_by None (Some p) old.deeds old.deeds (lane_of held old.store) (lane_of held new) (λ q it. subst (λ (x : Pair). current old.deeds x.key ≡ Some x.value) (some_same it) (has was)) (λ q other. refl) (served.sound was) (steps was).shows;
      lawful = λ is. served.lawful (subst IsTrue honesty is);
    }

    -- a put
    pub served_put : (key value : List ℕ) (expires : ℕ) (deeds : List Deed) → deeds ≡ old.deeds ++ record { key = key; act = Put value expires } ∷ [] → new.memory ≡ after_put (record { key = key; value = timed value expires }) old.store.memory → (IsTrue (honest old.store.device) → StepsInOrder (Some key) (Some (record { key = key; value = timed value expires })) (lane_of held old.store) (lane_of held new)) → IsServed honest held (record { store = new; deeds = deeds })
    served_put key value expires deeds more leaves steps =
        let d : Deed = record { key = key; act = Put value expires } in
        let put : Pair = record { key = key; value = timed value expires } in
        subst (λ (ds : List Deed). IsServed honest held (record { store = new; deeds = ds })) (sym more) (record {
          memory = current_put old.deeds (old.deeds ++ d ∷ []) put old.store.memory new.memory (put_gives old.deeds d key value expires refl refl) (write_keeps old.deeds d) leaves served.memory;
          order = λ is. (steps (subst IsTrue honesty is)).order;
          sound = λ is.
              let was = subst IsTrue honesty is in
              sound_put old.deeds d key value expires (lane_of held old.store) (lane_of held new) refl refl (served.sound was) (steps was).shows;
          lawful = λ is. lawful-push old.deeds d (served.lawful (subst IsTrue honesty is)) (λ other asked hit. let both : Put value expires ≡ Hit other asked = hit in absurd (cc));
        })

    -- a removal
    pub served_removed : (key : List ℕ) (deeds : List Deed) → deeds ≡ old.deeds ++ record { key = key; act = Remove } ∷ [] → new.memory ≡ after_remove key old.store.memory → (IsTrue (honest old.store.device) → StepsInOrder (Some key) None (lane_of held old.store) (lane_of held new)) → IsServed honest held (record { store = new; deeds = deeds })
    served_removed key deeds more leaves steps =
        let d : Deed = record { key = key; act = Remove } in
        subst (λ (ds : List Deed). IsServed honest held (record { store = new; deeds = ds })) (sym more) (record {
          memory = current_removed old.deeds (old.deeds ++ d ∷ []) key old.store.memory new.memory (write_keeps old.deeds d) leaves served.memory;
          order = λ is. (steps (subst IsTrue honesty is)).order;
          sound = λ is.
              let was = subst IsTrue honesty is in
              sound_remove old.deeds d key (lane_of held old.store) (lane_of held new) refl (served.sound was) (steps was).shows;
          lawful = λ is. lawful-push old.deeds d (served.lawful (subst IsTrue honesty is)) (λ value asked hit. let both : Remove ≡ Hit value asked = hit in absurd (cc));
        })

-- ---- answers that are noted

-- a hit that is live gives its value
live_gives : (honest : Type 0) (deeds : List Deed) (key : List ℕ) (moment : ℕ) (answer : Answer) → IsLiveHit honest deeds key moment answer → honest → (value : List ℕ) (asked : ℕ) → act_of moment answer ≡ Hit value asked → given_at asked (current deeds key) ≡ Some value
live_gives honest deeds key moment (answers.Hit found tier) live is value asked hit =
    let both : Hit found moment ≡ Hit value asked = hit in
    let same : found ≡ value = cc in
    let as_asked : moment ≡ asked = cc in
    subst (λ (m : ℕ). given_at m (current deeds key) ≡ Some value) as_asked (live_found key found moment deeds (in_tier tier live) ∙ ap (λ (v : List ℕ). Some v) same)
  where
    in_tier : (t : Tier) → IsLiveHit honest deeds key moment (answers.Hit found t) → IsLive deeds key found moment
    in_tier Memory h = h
    in_tier Log h = h is
    in_tier Set h = h is
live_gives honest deeds key moment (answers.Miss cause) live is value asked hit = let no : Miss ≡ Hit value asked = hit in absurd (cc)

-- a store of which an answer is noted that was live
pub served_noted : {D : Type 0} (honest : D → Bool) (held : D → ℕ → Option (List ℕ)) (s : Asked D) → IsServed honest held s → (key : List ℕ) (moment : ℕ) (answer : Answer) → IsLiveHit (IsTrue (honest s.store.device)) s.deeds key moment answer → (deeds : List Deed) → deeds ≡ s.deeds ++ record { key = key; act = act_of moment answer } ∷ [] →
    IsServed honest held (record { store = s.store; deeds = deeds })
served_noted honest held s served key moment answer live deeds more =
    let d : Deed = record { key = key; act = act_of moment answer } in
    subst (λ (ds : List Deed). IsServed honest held (record { store = s.store; deeds = ds })) (sym more) (record {
      memory = λ p here. read_keeps s.deeds key moment answer p.key ∙ served.memory p here;
      order = served.order;
      sound = λ is p shown. read_keeps s.deeds key moment answer p.key ∙ served.sound is p shown;
      lawful = λ is. lawful-push s.deeds d (served.lawful is) (live_gives (IsTrue (honest s.store.device)) s.deeds key moment answer live is);
    })

-- ---- gets

module _ {D : Type 0} (size : ℕ) (honest : D → Bool) (failures : D → ℕ) (held : D → ℕ → Option (List ℕ)) (shows : GetShows) (old : Asked D) (served : IsServed honest held old) (key : List ℕ) (moment : ℕ) (new : StoreState D) where
  -- a store that was asked
  pub served_asked : (result : Result Answer AllocError) → StoreGets size honest failures held key moment old.store result new → IsServed honest held (record { store = new; deeds = old.deeds })
  served_asked result gets = served_step honest held old served new gets.reads.honesty None (fewer_got size old.store key result new gets.leaves gets.out_of_memory) (λ is. steps result gets is)
    where
      steps : (r : Result Answer AllocError) → StoreGets size honest failures held key moment old.store r new → IsTrue (honest old.store.device) → StepsInOrder None None (lane_of held old.store) (lane_of held new)
      steps (Ok answer) g is = (shows key moment (lane_of held old.store) (lane_of held new) answer (served.order is) (g.gives is)).0
      steps (Err e) g is = still_in_order (lane_of held old.store) (lane_of held new) (served.order is) (same_lane_held held old.store new g.out_of_memory (g.reads.same is))

  -- a hit, by the store before it
  pub live_asked : FoundIsHeld → (answer : Answer) → StoreGets size honest failures held key moment old.store (Ok answer) new → IsLiveHit (IsTrue (honest old.store.device)) old.deeds key moment answer
  live_asked found answer gets = live_hit size honest failures held found old served key moment answer new gets (λ is. (shows key moment (lane_of held old.store) (lane_of held new) answer (served.order is) (gets.gives is)).1)

  -- and by the store after it
  pub live_then : FoundIsHeld → (result : Result Answer AllocError) → StoreGets size honest failures held key moment old.store result new → IfOk result (λ answer. IsLiveHit (IsTrue (honest new.device)) old.deeds key moment answer)
  live_then found (Ok answer) gets = subst (λ (b : Bool). IsLiveHit (IsTrue b) old.deeds key moment answer) (sym gets.reads.honesty) (live_asked found answer gets)
  live_then found (Err e) gets = tt

-- ---- expiries

module _ {D : Type 0} (honest : D → Bool) (held : D → ℕ → Option (List ℕ)) (found : FoundIsHeld) (old : Asked D) (served : IsServed honest held old) (key buffer : List ℕ) where
  shown : (expires : ℕ) (is : IsTrue (honest old.store.device)) → first_timed key (lane_of held old.store) ≡ Some (timed buffer expires) → current old.deeds key ≡ Some (timed buffer expires)
  shown expires is first =
      let v : TimedValue = timed buffer expires in
      served.sound is (record { key = key; value = v }) (inl (timed_visible key (lane_of held old.store) v first))

  -- what is told of a hit is what its key has
  pub expiry_told : (seen : AnswerKind) → StoreTells honest held key old.store (expiry_in_memory seen) (expiry_of seen) buffer → TellsExpiry (IsTrue (honest old.store.device)) old.deeds key buffer seen
  expiry_told (kinds.Hit Memory expires) tells =
      let v : TimedValue = timed buffer expires in
      served.memory (record { key = key; value = v }) (found key v old.store.memory tells.memory)
  expiry_told (kinds.Hit Log expires) tells = λ is. shown expires is (tells.lane is)
  expiry_told (kinds.Hit Set expires) tells = λ is. shown expires is (tells.lane is)
  expiry_told (kinds.Miss cause) tells = tt
