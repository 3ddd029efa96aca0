-- What a search for a key in its set finds, exit by exit, and a look-up by it.
use Rattle.std.proofs.Common.{◌≡◌, ℕ, ◌<◌, Bool, true, false, List, Option, Some, None, Result, Ok, refl, sym, ap, subst, ◌∙◌}
use Rattle.std.proofs.lemmas.Bool.{false≢true, OnTrue_at, OnFalse_at, OnTrue_from, OnFalse_from}
use Rattle.std.specs.Prelude.{IsSome, IsSomeAnd, IsTrue, Err}
use Rattle.std.specs.Bool.{OnFalse}
use Rattle.std.specs.declared.alloc.AllocError.{AllocError}
use Rattle.page_device.specs.Device.{IsKnown, faults_after}
use Rattle.page_device.specs.Lending.{OnlyReads}
use Rattle.record_pages.specs.Expiry.{value_at}
use Rattle.record_pages.specs.Recs.{Rec}
use Rattle.record_pages.specs.PageText.{SetPageParts}
use Rattle.record_pages.specs.Reading.{set_page_at}
use Rattle.record_pages.specs.declared.looked.Looked.{Looked}
use Rattle.record_pages.specs.declared.looked.Looked.TheVariants as looked
use Rattle.set_hash.specs.Fnv.{fnv1a}
use Rattle.set_hash.specs.declared.placed.Placed.{Placed}
use Rattle.kset.specs.declared.located_in_set.LocatedInSet.{LocatedInSet}
use Rattle.kset.specs.declared.located_in_set.LocatedInSet.TheVariants.{Hit, Expired, Absent, Fault, Damaged}
use Rattle.kset.specs.Notes.{Notes, lets_show}
use Rattle.kset.specs.Sets.{SetsState, set_count, notes_of, hit_in}
use Rattle.kset.specs.Pages.{AreSpelledOn, page_records}
use Rattle.kset.specs.Shown.{first_visible, visible_in}
use Rattle.kset.specs.Telling.{page_if_of, SetPageTells}
use Rattle.kset.specs.After.{IsForeign}
use Rattle.kset.specs.Keeps.{KeepsSets}
use Rattle.kset.specs.Look.{is_set_fault, SetLookLeaves, SetLookGives}
use Rattle.kset.specs.Locate.{looked_of, is_hit, sets_after, IsSlot, NamesFirst, SetLocates}
use Rattle.kset.specs.Calls.{SetLooks}
use Rattle.kset.proofs.LookLaws.{Says, told_of, first_visible-hidden}
use Rattle.kset.proofs.public_laws.ShownLaws.{shown-hit}

-- what visible records say of a key is what a look-up gives
gives : (visible : List (ℕ × Rec)) (key : List ℕ) (moment : ℕ) (buffer : List ℕ) (set : ℕ) (k : SetsState) (found : LocatedInSet) → Says visible key moment buffer found →
    SetLookGives visible key moment k set (looked_of found buffer) (sets_after found set k)
gives visible key moment buffer set k (Hit slot expires) says = noted (first_visible visible key) says
  where
    noted : (o : Option (ℕ × Rec)) → IsSomeAnd o (λ x. (x.0 ≡ slot) × (x.1.value.expires ≡ expires) × (value_at moment x.1.value ≡ Some buffer)) →
        IsSomeAnd o (λ x. (value_at moment x.1.value ≡ Some buffer) × (hit_in k set slot ≡ hit_in k set x.0))
    noted None h = h
    noted (Some x) h = (h.2, ap (hit_in k set) (sym h.0))
gives visible key moment buffer set k Expired says = (says, refl)
gives visible key moment buffer set k Absent says = (says, refl)
gives visible key moment buffer set k Fault says = absurd says
gives visible key moment buffer set k Damaged says = says

-- and names the first of them
names : (visible : List (ℕ × Rec)) (key : List ℕ) (moment : ℕ) (buffer : List ℕ) (found : LocatedInSet) → Says visible key moment buffer found → NamesFirst visible key found
names visible key moment buffer (Hit slot expires) says = first (first_visible visible key) says
  where
    first : (o : Option (ℕ × Rec)) → IsSomeAnd o (λ x. (x.0 ≡ slot) × (x.1.value.expires ≡ expires) × (value_at moment x.1.value ≡ Some buffer)) → IsSomeAnd o (λ x. (x.0 ≡ slot) × (x.1.value.expires ≡ expires))
    first None h = h
    first (Some x) h = (h.0, h.1)
names visible key moment buffer Expired says = tt
names visible key moment buffer Absent says = tt
names visible key moment buffer Fault says = tt
names visible key moment buffer Damaged says = tt

-- a page tells of no failure of the device
told_fault : (key : List ℕ) (moment : ℕ) (buffer : List ℕ) (read : Option SetPageParts) (found : LocatedInSet) → SetPageTells key moment buffer read found → is_set_fault (Ok (looked_of found buffer)) ≡ false
told_fault key moment buffer read (Hit slot expires) told = refl
told_fault key moment buffer read Expired told = refl
told_fault key moment buffer read Absent told = refl
told_fault key moment buffer None Fault told = absurd told
told_fault key moment buffer (Some p) Fault told = absurd told
told_fault key moment buffer read Damaged told = refl

-- it tells of a slot that a page can have
told_slot : (key : List ℕ) (moment : ℕ) (buffer : List ℕ) (read : Option SetPageParts) (found : LocatedInSet) → SetPageTells key moment buffer read found → IsSlot found
told_slot key moment buffer None (Hit slot expires) told = absurd told
told_slot key moment buffer (Some p) (Hit slot expires) told = told.0
told_slot key moment buffer read Expired told = tt
told_slot key moment buffer read Absent told = tt
told_slot key moment buffer read Fault told = tt
told_slot key moment buffer read Damaged told = tt

-- no page is damaged
told_none : (key : List ℕ) (moment : ℕ) (buffer : List ℕ) (found : LocatedInSet) → SetPageTells key moment buffer None found → found ≡ Damaged
told_none key moment buffer (Hit slot expires) told = absurd told
told_none key moment buffer Expired told = absurd told
told_none key moment buffer Absent told = absurd told
told_none key moment buffer Fault told = absurd told
told_none key moment buffer Damaged told = refl

-- off a page that is known to be foreign nothing else is said
told_foreign : (set : ℕ) (known : Option (List ℕ)) (bytes key : List ℕ) (moment : ℕ) (buffer : List ℕ) (found : LocatedInSet) → IsForeign set known → IsKnown known bytes →
    SetPageTells key moment buffer (page_if_of set (set_page_at bytes)) found → found ≡ Damaged
told_foreign set None bytes key moment buffer found foreign same told = absurd foreign
told_foreign set (Some there) bytes key moment buffer found foreign same told =
    told_none key moment buffer found (subst (λ (o : Option SetPageParts). SetPageTells key moment buffer o found) (ap (λ (b : List ℕ). page_if_of set (set_page_at b)) same ∙ foreign) told)

-- a slot that a page can have is left to be touched, and otherwise nothing
leaves : (set : ℕ) (k : SetsState) (buffer : List ℕ) (found : LocatedInSet) → IsSlot found → SetLookLeaves k set (Ok (looked_of found buffer)) (sets_after found set k)
leaves set k buffer (Hit slot expires) within = record { slot = slot; within = within; noted = refl }
leaves set k buffer Expired within = refl
leaves set k buffer Absent within = refl
leaves set k buffer Fault within = refl
leaves set k buffer Damaged within = refl

-- a touch of what is located shows nothing and hides nothing
shown_after : (held : ℕ → Option (List ℕ)) (set : ℕ) (k : SetsState) (found : LocatedInSet) → set < set_count k → visible_in held (sets_after found set k) ≡ visible_in held k
shown_after held set k (Hit slot expires) within = shown-hit held k set slot within
shown_after held set k Expired within = refl
shown_after held set k Absent within = refl
shown_after held set k Fault within = refl
shown_after held set k Damaged within = refl

module _ {D : Type 0} (size : ℕ) (pages : D → ℕ) (honest : D → Bool) (failures : D → ℕ) (held : D → ℕ → Option (List ℕ)) (at : Placed) (key : List ℕ) (moment : ℕ) (k : SetsState) (device : D) (was : List ℕ) where
  abbrev pub Locates : LocatedInSet → D → List ℕ → Type 0
  Locates found device' buffer = SetLocates size pages honest failures held at key moment k device was found device' buffer

  abbrev pub Looks : Result Looked AllocError → SetsState → D → Type 0
  Looks result new device' = SetLooks size pages honest failures held at key moment k device result new device'

  -- a key that the filter denies
  pub locates-denied : (notes : Notes) → at.hash ≡ fnv1a key → notes ≡ notes_of k at.set → false ≡ lets_show notes at.hash → Locates Absent device was
  locates-denied notes hashed noted denies =
      let hidden : lets_show (notes_of k at.set) at.hash ≡ false = sym (denies ∙ ap (λ (n : Notes). lets_show n at.hash) noted) in
      record {
        reads = record { pages = refl; honest = refl; faults = refl; same = λ _. refl };
        keeps = record { sizes = refl; spelled = λ _ spelled. spelled };
        leaves = refl;
        slot = tt;
        stays = refl;
        denied = let same : (Absent ≡ Absent) × (device ≡ device) = (refl, refl) in OnFalse_from _ _ (λ _. same);
        names = λ _ _. tt;
        gives = λ _ _. (first_visible-hidden (notes_of k at.set) key (sym (ap (lets_show (notes_of k at.set)) hashed) ∙ hidden) 0 (page_records (held device) k at.set), refl);
        foreign = λ _ _. OnTrue_from _ _ (λ shows. absurd (false≢true (sym hidden ∙ shows)));
        shown = λ _. refl;
      }

  -- what is kept when pages were only read
  keeps : (device' : D) → (IsTrue (honest device) → held device' ≡ held device) → KeepsSets size (honest device) (held device) k (held device') k
  keeps device' same = record { sizes = refl; spelled = λ is spelled. subst (λ (h : ℕ → Option (List ℕ)). AreSpelledOn size h k) (sym (same is)) spelled }

  -- what a page tells that was read
  pub locates-told : (notes : Notes) (device' : D) (bytes buffer : List ℕ) (found : LocatedInSet) → at.hash ≡ fnv1a key → notes ≡ notes_of k at.set → true ≡ lets_show notes at.hash → at.set < set_count k →
      OnlyReads pages honest failures held device false device' → (IsTrue (honest device) → IsKnown (held device at.set) bytes) →
      SetPageTells key moment buffer (page_if_of at.set (set_page_at bytes)) found → OnFalse (is_hit found) (buffer ≡ was) → Locates found device' buffer
  locates-told notes device' bytes buffer found hashed noted lets within reads known told stays =
      let shows : true ≡ lets_show (notes_of k at.set) at.hash = lets ∙ ap (λ (n : Notes). lets_show n at.hash) noted in
      let slot : IsSlot found = told_slot key moment buffer _ found told in
      let says : IsTrue (honest device) → AreSpelledOn size (held device) k → Says (visible_in (held device) k at.set) key moment buffer found =
      λ is spelled. told_of size (set_count k) at.set (held device) bytes key moment buffer at.hash (notes_of k at.set) found hashed shows within (spelled at.set) (known is) told in
      record {
        reads = record {
          pages = reads.pages;
          honest = reads.honest;
          faults = reads.faults ∙ ap (faults_after (failures device)) (sym (told_fault key moment buffer _ found told));
          same = reads.same;
        };
        keeps = keeps device' reads.same;
        leaves = leaves at.set k buffer found slot;
        slot = slot;
        stays = stays;
        denied = OnFalse_from _ _ (λ hidden. absurd (false≢true (sym hidden ∙ sym shows)));
        names = λ is spelled. names (visible_in (held device) k at.set) key moment buffer found (says is spelled);
        gives = λ is spelled. gives (visible_in (held device) k at.set) key moment buffer at.set k found (says is spelled);
        foreign = λ is foreign.
            let damaged : OnFalse (is_set_fault (Ok (looked_of found buffer))) (found ≡ Damaged) =
            OnFalse_from _ _ (λ _. told_foreign at.set (held device at.set) bytes key moment buffer found foreign (known is) told) in
            OnTrue_from _ _ (λ _. damaged);
        shown = λ is. shown_after (held device') at.set k found within ∙ ap (λ (h : ℕ → Option (List ℕ)). visible_in h k) (reads.same is);
      }

  -- a look-up that touches the slot of a hit
  pub looks-hit : (device' : D) (buffer value : List ℕ) (slot expires : ℕ) (new : SetsState) → Locates (Hit slot expires) device' buffer → value ≡ buffer → new ≡ hit_in k at.set slot →
      KeepsSets size (honest device) (held device) k (held device') new → Looks (Ok (looked.Hit value)) new device'
  looks-hit device' buffer value slot expires new l same touched kept =
      let noted : SetLookGives (visible_in (held device) k at.set) key moment k at.set (looked.Hit buffer) (hit_in k at.set slot) → SetLookGives (visible_in (held device) k at.set) key moment k at.set (looked.Hit value) new =
      λ gives. subst (λ (n : SetsState). SetLookGives (visible_in (held device) k at.set) key moment k at.set (looked.Hit value) n) (sym touched)
      (subst (λ (v : List ℕ). SetLookGives (visible_in (held device) k at.set) key moment k at.set (looked.Hit v) (hit_in k at.set slot)) (sym same) gives) in
      record {
        reads = l.reads;
        keeps = kept;
        leaves = record { slot = slot; within = l.slot; noted = touched };
        denied = OnFalse_from _ _ (λ hidden. let absent : (Hit slot expires ≡ Absent) × (device' ≡ device) = OnFalse_at hidden l.denied in absurd (not_absent absent.0));
        gives = λ is spelled. noted (l.gives is spelled);
        foreign = λ is foreign. OnTrue_from _ _ (λ shows. let damaged : Hit slot expires ≡ Damaged = OnTrue_at shows (l.foreign is foreign) in absurd (not_damaged damaged));
        short = λ _ _. tt;
        shown = λ is. ap (visible_in (held device')) touched ∙ l.shown is;
      }
    where
      not_absent : Hit slot expires ≡ Absent → ⊥
      not_absent e = cc

      not_damaged : Hit slot expires ≡ Damaged → ⊥
      not_damaged e = cc

-- a value of which something is true is there
some_of : (P : ℕ × Rec → Type 0) (o : Option (ℕ × Rec)) → IsSomeAnd o P → IsSome o
some_of P None h = absurd h
some_of P (Some x) h = refl

module _ {D : Type 0} (size : ℕ) (pages : D → ℕ) (honest : D → Bool) (failures : D → ℕ) (held : D → ℕ → Option (List ℕ)) (at : Placed) (key : List ℕ) (moment : ℕ) (k : SetsState) (device : D) (was : List ℕ) (device' : D) (buffer : List ℕ) where
  -- a look-up that touches nothing
  pub looks-told : (found : LocatedInSet) → sets_after found at.set k ≡ k → SetLocates size pages honest failures held at key moment k device was found device' buffer →
      SetLooks size pages honest failures held at key moment k device (Ok (looked_of found buffer)) k device'
  looks-told found stays l =
      let answer : LocatedInSet → Result Looked AllocError = λ (f : LocatedInSet). Ok (looked_of f buffer) in
      record {
        reads = l.reads;
        keeps = l.keeps;
        leaves = subst (λ (n : SetsState). SetLookLeaves k at.set (Ok (looked_of found buffer)) n) stays l.leaves;
        denied = OnFalse_from _ _ (λ hidden.
            let absent : (found ≡ Absent) × (device' ≡ device) = OnFalse_at hidden l.denied in
            let both : (answer found ≡ Ok looked.Absent) × (device' ≡ device) = (ap answer absent.0, absent.1) in
            both);
        gives = λ is spelled. subst (λ (n : SetsState). SetLookGives (visible_in (held device) k at.set) key moment k at.set (looked_of found buffer) n) stays (l.gives is spelled);
        foreign = λ is foreign. OnTrue_from _ _ (λ shows.
            let damaged : OnFalse (is_set_fault (answer found)) (found ≡ Damaged) = OnTrue_at shows (l.foreign is foreign) in
            let told : OnFalse (is_set_fault (answer found)) (answer found ≡ Ok looked.Damaged) = OnFalse_from _ _ (λ fault. ap answer (OnFalse_at fault damaged)) in
            told);
        short = λ _ _. tt;
        shown = λ is. subst (λ (n : SetsState). visible_in (held device') n ≡ visible_in (held device) k) stays (l.shown is);
      }

  -- a look-up that memory refuses
  pub looks-refused : (slot expires : ℕ) (e : AllocError) → SetLocates size pages honest failures held at key moment k device was (Hit slot expires) device' buffer →
      SetLooks size pages honest failures held at key moment k device (Err e) k device'
  looks-refused slot expires e l = record {
    reads = l.reads;
    keeps = l.keeps;
    leaves = refl;
    denied = OnFalse_from _ _ (λ hidden. let absent : (Hit slot expires ≡ Absent) × (device' ≡ device) = OnFalse_at hidden l.denied in absurd (not_absent absent.0));
    gives = λ _ _. tt;
    foreign = λ is foreign. OnTrue_from _ _ (λ shows. let damaged : Hit slot expires ≡ Damaged = OnTrue_at shows (l.foreign is foreign) in absurd (not_damaged damaged));
    short = λ is spelled. some_of _ (first_visible (visible_in (held device) k at.set) key) (l.names is spelled);
    shown = λ is. ap (λ (h : ℕ → Option (List ℕ)). visible_in h k) (l.reads.same is);
  }
    where
      not_absent : Hit slot expires ≡ Absent → ⊥
      not_absent e = cc

      not_damaged : Hit slot expires ≡ Damaged → ⊥
      not_damaged e = cc
