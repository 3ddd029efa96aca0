-- What a deed adds to the writes of a slot, and why the key of a lease that has not ended was not written.
use Rattle.std.proofs.Common.{◌≡◌, ℕ, ◌+◌, ◌<◌, ◌≤◌, ◌/◌, ◌^◌, Bool, true, false, List, [], ◌∷◌, ◌++◌, length, replicate, refl, ap, sym, ◌∙◌, subst, cond, ltb, eqb, get_or, set, arith, inl, inr, true≢false}
use Rattle.std.specs.Prelude.{filter, ◌&&◌}
use Rattle.std.specs.List.{AllByRecursion}
use Rattle.std.proofs.lemmas.Bool.{ltb-true, ltb-false, eq-eqb}
use Rattle.std.proofs.lemmas.Nat.{mod_below}
use Rattle.key_hash.specs.declared.random_seed.RandomSeed.{RandomSeed}
use Rattle.record_pages.specs.declared.answer.Answer.{Answer}
use Rattle.record_pages.specs.declared.answer.Answer.TheVariants as answers
use Rattle.deeds.specs.Sound.{act_of}
use Rattle.std.proofs.lemmas.Bool.Decides.{eqb_tells}
use Rattle.std.proofs.lemmas.List.{length-replicate, get_or-replicate, get_or-set_same, get_or-set_other, length-set, length-append}
use Rattle.std.proofs.lemmas.List.Elements.{filter-append, All-from_recursion}
use Rattle.trace_file.specs.declared.act.Act.{Act}
use Rattle.trace_file.specs.declared.act.Act.TheVariants.{Put, Remove, Hit, Miss}
use Rattle.certificate_checker.specs.Deeds.{Deed}
use Rattle.certificate_checker.specs.Latest.{IsWrite, Writes}
use Rattle.service_lane.specs.declared.lease.Lease.{Lease}
use Rattle.service_lane.specs.Leases.{LeaseSlots, hash_by, no_writes, slot_of, slot_for, is_write, writes_slot, writes_in, most_writes, shown_writes, one_more, AreCounted, with_write, HoldsLease, IsUnwrittenSince}

-- ---- one deed more

-- a deed that writes the slot is one more
one_push : (seed : RandomSeed) (count slot : ℕ) (deeds : List Deed) (d : Deed) → writes_slot seed count slot d ≡ true → writes_in seed count slot (deeds ++ d ∷ []) ≡ writes_in seed count slot deeds + 1
one_push seed count slot deeds d is =
    ap length (filter-append (writes_slot seed count slot) deeds (d ∷ [])) ∙ length-append (filter (writes_slot seed count slot) deeds) (filter (writes_slot seed count slot) (d ∷ [])) ∙ ap (λ b. writes_in seed count slot deeds + length (cond b (d ∷ []) [])) is

-- another adds none
none_push : (seed : RandomSeed) (count slot : ℕ) (deeds : List Deed) (d : Deed) → writes_slot seed count slot d ≡ false → writes_in seed count slot (deeds ++ d ∷ []) ≡ writes_in seed count slot deeds
none_push seed count slot deeds d is =
    let here : writes_in seed count slot (deeds ++ d ∷ []) ≡ writes_in seed count slot deeds + 0 =
    ap length (filter-append (writes_slot seed count slot) deeds (d ∷ [])) ∙ length-append (filter (writes_slot seed count slot) deeds) (filter (writes_slot seed count slot) (d ∷ [])) ∙ ap (λ b. writes_in seed count slot deeds + length (cond b (d ∷ []) [])) is in
    omega (arith, here)

-- what is shown of one write more
shown_more : (n : ℕ) → shown_writes (n + 1) ≡ one_more (shown_writes n)
shown_more n = step (ltb n most_writes) (ltb (n + 1) most_writes) refl refl
  where
    step : (b c : Bool) → ltb n most_writes ≡ b → ltb (n + 1) most_writes ≡ c → cond c (n + 1) most_writes ≡ one_more (cond b n most_writes)
    step true true e f = sym (ap (λ x. cond x (n + 1) n) e)
    step true false e f =
        let below = ltb-true n most_writes e in
        let above = ltb-false (n + 1) most_writes f in
        let most : most_writes ≡ n + 1 = omega (arith, below, above) in
        most ∙ sym (ap (λ x. cond x (n + 1) n) e)
    step false true e f =
        let above = ltb-false n most_writes e in
        let below = ltb-true (n + 1) most_writes f in
        absurd (omega (arith, above, below))
    step false false e f = refl

-- each of this many slots shows its writes
abbrev AreShown : RandomSeed → ℕ → List Deed → List ℕ → Type 0
AreShown seed count deeds writes = (slot : ℕ) → slot < count → get_or writes slot 0 ≡ shown_writes (writes_in seed count slot deeds)

-- ---- what the slots show

pub counted_opening : (lane : ℕ) (seed : RandomSeed) (count : ℕ) (deeds : List Deed) (slots : LeaseSlots) → deeds ≡ [] → slots ≡ no_writes lane seed count → AreCounted deeds slots
counted_opening lane seed count deeds slots none zeros slot within =
    let shown : slots.writes ≡ replicate count 0 = ap (λ (s : LeaseSlots). s.writes) zeros in
    let few : slot < count = subst (λ n. slot < n) (ap length shown ∙ length-replicate count 0) within in
    ap (λ s. get_or s slot 0) shown ∙ get_or-replicate count slot 0 0 few ∙ ap (λ ds. shown_writes (writes_in slots.seed (length slots.writes) slot ds)) (sym none)

-- after a deed that does not write
pub counted_read : (deeds after : List Deed) (d : Deed) (slots : LeaseSlots) → after ≡ deeds ++ d ∷ [] → is_write d.act ≡ false → AreCounted deeds slots → AreCounted after slots
counted_read deeds after d slots more reads were slot within =
    were slot within ∙ ap shown_writes (sym (ap (writes_in slots.seed (length slots.writes) slot) more ∙ none_push slots.seed (length slots.writes) slot deeds d (ap (λ b. b && eqb (slot_for slots d.key) slot) reads)))

-- if deeds and slots stay
pub counted_kept : (deeds after : List Deed) (slots now : LeaseSlots) → after ≡ deeds → now ≡ slots → AreCounted deeds slots → AreCounted after now
counted_kept deeds after slots now deeds_stay slots_stay were = subst (λ (s : LeaseSlots). AreCounted after s) (sym slots_stay) (subst (λ (ds : List Deed). AreCounted ds slots) (sym deeds_stay) were)

-- after an answer
pub counted_got : (deeds after : List Deed) (key : List ℕ) (moment : ℕ) (answer : Answer) (slots : LeaseSlots) → after ≡ deeds ++ record { key = key; act = act_of moment answer } ∷ [] → AreCounted deeds slots → AreCounted after slots
counted_got deeds after key moment (answers.Hit value tier) slots more were = counted_read deeds after (record { key = key; act = Hit value moment }) slots more refl were
counted_got deeds after key moment (answers.Miss cause) slots more were = counted_read deeds after (record { key = key; act = Miss }) slots more refl were

-- after a write of a key, which its slot counts
counted_in : (deeds after : List Deed) (d : Deed) (slots now : LeaseSlots) → after ≡ deeds ++ d ∷ [] → is_write d.act ≡ true → now ≡ with_write slots d.key → slot_for slots d.key < length slots.writes → AreCounted deeds slots → AreCounted after now
counted_in deeds after d slots now more writes is within were =
    let seed = slots.seed in
    let old = slots.writes in
    let count = length old in
    let k = slot_of seed count d.key in
    let seen = one_more (get_or old k 0) in
    let shown : now.writes ≡ set old k seen = ap (λ (s : LeaseSlots). s.writes) is in
    let same_seed : now.seed ≡ seed = ap (λ (s : LeaseSlots). s.seed) is in
    let same_length : length now.writes ≡ count = ap length shown ∙ length-set old k seen in
    let wrote : (slot : ℕ) → writes_slot seed count slot d ≡ eqb k slot = λ slot. ap (λ b. b && eqb k slot) writes in
    let counts : AreShown seed count after now.writes =
    λ slot few.
    elim (eqb_tells k slot) [
      | inl same ↦
          let at : get_or now.writes slot 0 ≡ seen = ap (λ s. get_or s slot 0) shown ∙ subst (λ n. get_or (set old k seen) n 0 ≡ seen) same.1 (get_or-set_same old k seen 0 within) in
          let one : writes_in seed count slot after ≡ writes_in seed count slot deeds + 1 = ap (writes_in seed count slot) more ∙ one_push seed count slot deeds d (wrote slot ∙ same.0) in
          at ∙ ap one_more (ap (λ n. get_or old n 0) same.1 ∙ were slot few) ∙ sym (shown_more (writes_in seed count slot deeds)) ∙ ap shown_writes (sym one)
      | inr other ↦
          let at : get_or now.writes slot 0 ≡ get_or old slot 0 = ap (λ s. get_or s slot 0) shown ∙ get_or-set_other old k slot seen 0 (λ e. other.1 (sym e)) in
          let none : writes_in seed count slot after ≡ writes_in seed count slot deeds = ap (writes_in seed count slot) more ∙ none_push seed count slot deeds d (wrote slot ∙ other.0) in
          at ∙ were slot few ∙ ap shown_writes (sym none)
    ] in
    subst (λ r. AreShown r (length now.writes) after now.writes) (sym same_seed) (subst (λ n. AreShown seed n after now.writes) (sym same_length) counts)

-- so it is if there is no slot
pub counted_write : (deeds after : List Deed) (d : Deed) (slots now : LeaseSlots) → after ≡ deeds ++ d ∷ [] → is_write d.act ≡ true → now ≡ with_write slots d.key → AreCounted deeds slots → AreCounted after now
counted_write deeds after d slots now more writes is were = step (ltb 0 (length slots.writes)) refl
  where
    step : (b : Bool) → ltb 0 (length slots.writes) ≡ b → AreCounted after now
    step true some = counted_in deeds after d slots now more writes is (mod_below (hash_by slots.seed d.key / 2 ^ 32) (length slots.writes) (ltb-true 0 (length slots.writes) some)) were
    step false none =
        let k = slot_for slots d.key in
        let seen = one_more (get_or slots.writes k 0) in
        let same : length now.writes ≡ length slots.writes = ap (λ (s : LeaseSlots). length s.writes) is ∙ length-set slots.writes k seen in
        let few = ltb-false 0 (length slots.writes) none in
        λ slot within. absurd (omega (arith, same, few, within))

-- ---- leases that have not ended

write_is : (act : Act) → IsWrite act → is_write act ≡ true
write_is (Put value expires) w = refl
write_is Remove w = refl
write_is (Hit value moment) w = absurd w
write_is Miss w = absurd w

-- what writes the key writes its slot
wrote_slot : (seed : RandomSeed) (count : ℕ) (key : List ℕ) (d : Deed) → Writes d key → writes_slot seed count (slot_of seed count key) d ≡ true
wrote_slot seed count key d w = ap (λ b. b && eqb (slot_of seed count d.key) (slot_of seed count key)) (write_is d.act w.1) ∙ eq-eqb (slot_of seed count d.key) (slot_of seed count key) (ap (slot_of seed count) w.0)

-- if no deed writes the slot, none writes the key
none_wrote : (seed : RandomSeed) (count : ℕ) (key : List ℕ) (deeds : List Deed) → writes_in seed count (slot_of seed count key) deeds ≡ 0 → AllByRecursion (λ deed. ¬ Writes deed key) deeds
none_wrote seed count key [] zero_is = tt
none_wrote seed count key (d ∷ deeds) zero_is = step (writes_slot seed count (slot_of seed count key) d) refl (none_wrote seed count key deeds)
  where
    counted : Bool → ℕ
    counted b = length (cond b (d ∷ filter (writes_slot seed count (slot_of seed count key)) deeds) (filter (writes_slot seed count (slot_of seed count key)) deeds))

    step : (b : Bool) → writes_slot seed count (slot_of seed count key) d ≡ b → (writes_in seed count (slot_of seed count key) deeds ≡ 0 → AllByRecursion (λ deed. ¬ Writes deed key) deeds) → AllByRecursion (λ deed. ¬ Writes deed key) (d ∷ deeds)
    step true e behind = let found : counted true ≡ 0 = subst (λ b. counted b ≡ 0) e zero_is in absurd (omega (arith, found))
    step false e behind = (λ w. true≢false (sym (wrote_slot seed count key d w) ∙ e), behind (subst (λ b. counted b ≡ 0) e zero_is))

-- fewer writes are shown than the most, so all are shown
all_shown : (n shown : ℕ) → shown ≡ shown_writes n → shown < most_writes → n ≡ shown
all_shown n shown is few = step (ltb n most_writes) refl
  where
    step : (b : Bool) → ltb n most_writes ≡ b → n ≡ shown
    step true e = sym (is ∙ ap (λ b. cond b n most_writes) e)
    step false e = let most : shown ≡ most_writes = is ∙ ap (λ b. cond b n most_writes) e in absurd (omega (arith, most, few))

-- after each front in which the slot had as many writes as a lease says that has not ended, the key was not written
pub unwritten : (deeds : List Deed) (slots : LeaseSlots) (key : List ℕ) (lease : Lease) → 1 ≤ length slots.writes → AreCounted deeds slots → HoldsLease slots key lease → IsUnwrittenSince slots deeds key lease.writes
unwritten deeds slots key lease some counted holds front after split at =
    let seed = slots.seed in
    let count = length slots.writes in
    let k = slot_for slots key in
    let within : k < count = mod_below (hash_by seed key / 2 ^ 32) count some in
    let all : writes_in seed count k deeds ≡ lease.writes = all_shown (writes_in seed count k deeds) lease.writes (sym (ap (λ (l : Lease). l.writes) holds.same) ∙ counted k within) holds.few in
    let parts : writes_in seed count k deeds ≡ writes_in seed count k front + writes_in seed count k after = ap (writes_in seed count k) split ∙ ap length (filter-append (writes_slot seed count k) front after) ∙ length-append (filter (writes_slot seed count k) front) (filter (writes_slot seed count k) after) in
    All-from_recursion (λ deed. ¬ Writes deed key) after (none_wrote seed count key after (omega (arith, all, parts, at)))
