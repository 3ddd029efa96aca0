-- Windows of small histories of one key.
use Rattle.std.proofs.Common.{◌≡◌, ◌≢◌, ℕ, ◌<◌, ◌≤◌, zero, suc, Some, None, List, [], ◌∷◌, refl, sym, ap, ◌∙◌, subst, arith, inl, inr, ◌⊎◌}
use Rattle.std.specs.Prelude.{Contains, slice_get}
use Rattle.std.proofs.lemmas.Bool.{cases_eq}
use Rattle.std.proofs.lemmas.Option.{none-some, same_Some}
use Rattle.record_pages.specs.Expiry.{never}
use Rattle.trace_file.specs.declared.act.Act.TheVariants.{Put, Hit}
use Rattle.trace_file.specs.declared.call.Call.{Call}
use Rattle.certificate_checker.specs.Latest.{IsWrite}
use Rattle.certificate_checker.proofs.public_laws.Listing.{Member, contained_member, member_all, member_contained, pairs_to}
use Rattle.certificate_finder.specs.Turns.{IsHit, WritesAt, end_at, start_at}
use Rattle.history_window.specs.Settled.{IsSettledHit}
use Rattle.history_window.specs.Windows.{HasEarly, HasLate, IsBefore, IsCut, IsLastCut, IsPut, IsWindow, ReadsLate, Stays}
use Rattle.history_window.proofs.CallLemmas.{late_begun, no_write}

-- a put and a hit of a value at one key, with their starts and ends
abbrev key : List ℕ
key = 7 ∷ []

abbrev put : ℕ → ℕ → ℕ → Call
put value start end = record { caller = 0; start = start; end = end; key = key; act = Put (value ∷ []) never }

abbrev hit : ℕ → ℕ → ℕ → Call
hit value start end = record { caller = 0; start = start; end = end; key = key; act = Hit (value ∷ []) start }

-- ---- what is at a position

no_write_at : (history : List Call) (p : ℕ) (value : List ℕ) (moment : ℕ) (call : Call) → slice_get history p ≡ Some call → call.act ≡ Hit value moment → ¬ WritesAt history p key
no_write_at history p value moment call at is writes =
    let mine = same_Some writes.call call (sym writes.at ∙ at) in
    no_write writes.call.act value moment (ap (λ (c : Call). c.act) mine ∙ is) writes.writes.1

no_hit_at : (history : List Call) (p : ℕ) (call : Call) → slice_get history p ≡ Some call → IsWrite call.act → (value : List ℕ) (moment : ℕ) → ¬ IsHit history p key value moment
no_hit_at history p call at writes value moment hits =
    let mine = same_Some hits.call call (sym hits.at ∙ at) in
    no_write call.act value moment (ap (λ (c : Call). c.act) (sym mine) ∙ hits.is) writes

nothing_at : (history : List Call) (p : ℕ) (call : Call) → slice_get history p ≡ None → ¬ (slice_get history p ≡ Some call)
nothing_at history p call none some = none-some call (sym none ∙ some)

hit_value : (history : List Call) (p : ℕ) (call : Call) (value other : List ℕ) (moment another : ℕ) → slice_get history p ≡ Some call → call.act ≡ Hit value moment → IsHit history p key other another → value ≡ other
hit_value history p call value other moment another at is hits =
    let mine = same_Some hits.call call (sym hits.at ∙ at) in
    let both : Hit value moment ≡ Hit other another = sym is ∙ ap (λ (c : Call). c.act) (sym mine) ∙ hits.is in
    let same : value ≡ other = cc in
    same

put_value : (history : List Call) (p : ℕ) (call : Call) (value other : List ℕ) (expires : ℕ) → slice_get history p ≡ Some call → call.act ≡ Put value expires → IsPut history key other p → value ≡ other
put_value history p call value other expires at is puts =
    let mine = same_Some puts.call call (sym puts.at ∙ at) in
    let both : Put value expires ≡ Put other puts.puts.expires = sym is ∙ ap (λ (c : Call). c.act) (sym mine) ∙ puts.puts.is in
    let same : value ≡ other = cc in
    same

-- a key has one last cut
one_last : (bound : ℕ) (history : List Call) (one other : ℕ) → ((p : ℕ) → start_at history p ≤ end_at history p) → IsLastCut bound history key one → IsLastCut bound history key other → other ≡ one
one_last bound history one other spans first second = elim (cases_eq other one) [
  | inl same ↦ same
  | inr apart ↦
      let back = first.last other second.is apart in
      let on = second.last one first.is (λ e. apart (sym e)) in
      let span = spans one in
      let other_span = spans other in
      absurd (omega (arith, back, on, span, other_span))
]

-- ---- a put that was replaced, and a hit of it, are forgotten

abbrev replaced : List Call
replaced = put 1 0 1 ∷ hit 1 2 3 ∷ put 2 4 5 ∷ []

replaced_spans : (p : ℕ) → start_at replaced p ≤ end_at replaced p
replaced_spans zero = omega arith
replaced_spans (suc zero) = omega arith
replaced_spans (suc (suc zero)) = omega arith
replaced_spans (suc (suc (suc n))) = omega arith

replaced_cut : IsLastCut 6 replaced key 2
replaced_cut = record {
  is = record {
    writes = record { call = put 2 4 5; at = refl; writes = (refl, tt) };
    over = omega arith;
    alone = alone;
    clear = clear;
  };
  last = last;
}
  where
    alone : (other : ℕ) → WritesAt replaced other key → other ≢ 2 → IsBefore replaced other 2 ⊎ IsBefore replaced 2 other
    alone zero writes apart = inl (omega arith)
    alone (suc zero) writes apart = absurd (no_write_at replaced 1 (1 ∷ []) 2 (hit 1 2 3) refl refl writes)
    alone (suc (suc zero)) writes apart = absurd (apart refl)
    alone (suc (suc (suc n))) writes apart = absurd (nothing_at replaced (suc (suc (suc n))) writes.call refl writes.at)

    clear : (h : ℕ) (value : List ℕ) (moment : ℕ) → IsHit replaced h key value moment → ¬ IsBefore replaced h 2 → ¬ IsBefore replaced 2 h → HasEarly replaced key value 2 h → ¬ HasLate replaced key value 2 h
    clear zero value moment hits not follows early late = no_hit_at replaced 0 (put 1 0 1) refl tt value moment hits
    clear (suc zero) value moment hits not follows early late = not (omega arith)
    clear (suc (suc zero)) value moment hits not follows early late = no_hit_at replaced 2 (put 2 4 5) refl tt value moment hits
    clear (suc (suc (suc n))) value moment hits not follows early late = nothing_at replaced (suc (suc (suc n))) hits.call refl hits.at

    last : (other : ℕ) → IsCut 6 replaced key other → other ≢ 2 → IsBefore replaced other 2
    last zero cut apart = omega arith
    last (suc zero) cut apart = omega arith
    last (suc (suc zero)) cut apart = absurd (apart refl)
    last (suc (suc (suc n))) cut apart = absurd (nothing_at replaced (suc (suc (suc n))) cut.writes.call refl cut.writes.at)

replaced_window : IsWindow 6 replaced (2 ∷ [])
replaced_window = record {
  each = member_all (Stays 6 replaced) (2 ∷ []) each;
  all = all;
  rise = pairs_to (λ (p q : ℕ). p < q) (2 ∷ []) (λ q m. absurd m, tt);
  below = member_all (λ p. p < 3) (2 ∷ []) (λ p m. elim m [ inl same ↦ omega (arith, same) | inr later ↦ absurd later ]);
}
  where
    each : (p : ℕ) → Member p (2 ∷ []) → Stays 6 replaced p
    each p m = elim m [
      | inl same ↦ subst (Stays 6 replaced) (sym same) (record { call = put 2 4 5; at = refl; no_miss = refl; uncut = λ cut last. inl (sym (one_last 6 replaced 2 cut replaced_spans replaced_cut last)) })
      | inr later ↦ absurd later
    ]

    goes : (p : ℕ) (call : Call) → slice_get replaced p ≡ Some call → p ≢ 2 → ¬ IsBefore replaced 2 p → ¬ ReadsLate replaced call.key 2 p → call.key ≡ key → ¬ Stays 6 replaced p
    goes p call at apart follows reads same stays =
        let mine = same_Some stays.call call (sym stays.at ∙ at) in
        let keys : stays.call.key ≡ call.key = ap (λ (c : Call). c.key) mine in
        elim (stays.uncut 2 (subst (λ k. IsLastCut 6 replaced k 2) (sym (keys ∙ same)) replaced_cut)) [
          | inl same_place ↦ apart same_place
          | inr rest ↦ elim rest [ inl after ↦ follows after | inr late ↦ reads (subst (λ k. ReadsLate replaced k 2 p) keys late) ]
        ]

    all : (p : ℕ) → p < 3 → Stays 6 replaced p → Contains (2 ∷ []) p
    all zero less stays = absurd (goes 0 (put 1 0 1) refl (λ e. omega (arith, e)) (λ after. omega (arith, after)) (λ reads. no_hit_at replaced 0 (put 1 0 1) refl tt reads.value reads.moment reads.is) refl stays)
    all (suc zero) less stays = absurd (goes 1 (hit 1 2 3) refl (λ e. omega (arith, e)) (λ after. omega (arith, after)) (λ reads. late_begun replaced key reads.value 2 1 (omega arith) reads.late (omega arith)) refl stays)
    all (suc (suc zero)) less stays = contained_member (2 ∷ []) 2 (inl refl)
    all (suc (suc (suc n))) less stays = absurd (omega (arith, less))

-- ---- a put stays, so that a later hit can read it

abbrev alone_there : List Call
alone_there = put 1 0 1 ∷ []

no_empty_window : ¬ IsWindow 2 alone_there []
no_empty_window window =
    let stays : Stays 2 alone_there 0 = record { call = put 1 0 1; at = refl; no_miss = refl; uncut = λ cut last. inl (only cut last.is.writes) } in
    member_contained [] 0 (window.all 0 (omega arith) stays)
  where
    only : (p : ℕ) → WritesAt alone_there p key → 0 ≡ p
    only zero writes = refl
    only (suc n) writes = absurd (nothing_at alone_there (suc n) writes.call refl writes.at)

-- ---- beside a put a hit of its value stays, and a hit of what was there before does not

abbrev beside : List Call
beside = put 1 0 1 ∷ put 2 2 6 ∷ hit 1 3 4 ∷ hit 2 3 5 ∷ []

beside_spans : (p : ℕ) → start_at beside p ≤ end_at beside p
beside_spans zero = omega arith
beside_spans (suc zero) = omega arith
beside_spans (suc (suc zero)) = omega arith
beside_spans (suc (suc (suc zero))) = omega arith
beside_spans (suc (suc (suc (suc n)))) = omega arith

-- no put of another value than 1 precedes the second put
early_is : (value : List ℕ) (h : ℕ) → HasEarly beside key value 1 h → (1 ∷ []) ≡ value
early_is value h early = go early.put early.is early.early
  where
    go : (p : ℕ) → IsPut beside key value p → IsBefore beside p 1 → (1 ∷ []) ≡ value
    go zero is before = put_value beside 0 (put 1 0 1) (1 ∷ []) value never refl refl is
    go (suc zero) is before = absurd (omega (arith, before))
    go (suc (suc zero)) is before = absurd (omega (arith, before))
    go (suc (suc (suc zero))) is before = absurd (omega (arith, before))
    go (suc (suc (suc (suc n)))) is before = absurd (nothing_at beside (suc (suc (suc (suc n)))) is.call refl is.at)

-- and it is the only late one
late_is : (value : List ℕ) (h : ℕ) → HasLate beside key value 1 h → (2 ∷ []) ≡ value
late_is value h late = elim late.late [
  | inl same ↦ put_value beside 1 (put 2 2 6) (2 ∷ []) value never refl refl (subst (IsPut beside key value) same late.is)
  | inr after ↦ go late.put late.is after
]
  where
    go : (p : ℕ) → IsPut beside key value p → IsBefore beside 1 p → (2 ∷ []) ≡ value
    go zero is after = absurd (omega (arith, after))
    go (suc zero) is after = absurd (omega (arith, after))
    go (suc (suc zero)) is after = absurd (omega (arith, after))
    go (suc (suc (suc zero))) is after = absurd (omega (arith, after))
    go (suc (suc (suc (suc n)))) is after = absurd (nothing_at beside (suc (suc (suc (suc n)))) is.call refl is.at)

-- the first byte of a value
abbrev head_of : List ℕ → ℕ
head_of [] = 0
head_of (x ∷ xs) = x

values_apart : (value : List ℕ) → (1 ∷ []) ≡ value → (2 ∷ []) ≡ value → ⊥
values_apart value one two =
    let heads : head_of (1 ∷ []) ≡ head_of (2 ∷ []) = ap head_of (one ∙ sym two) in
    omega (arith, heads)

beside_cut : IsLastCut 7 beside key 1
beside_cut = record {
  is = record {
    writes = record { call = put 2 2 6; at = refl; writes = (refl, tt) };
    over = omega arith;
    alone = alone;
    clear = λ h value moment hits not follows early late. values_apart value (early_is value h early) (late_is value h late);
  };
  last = last;
}
  where
    alone : (other : ℕ) → WritesAt beside other key → other ≢ 1 → IsBefore beside other 1 ⊎ IsBefore beside 1 other
    alone zero writes apart = inl (omega arith)
    alone (suc zero) writes apart = absurd (apart refl)
    alone (suc (suc zero)) writes apart = absurd (no_write_at beside 2 (1 ∷ []) 3 (hit 1 3 4) refl refl writes)
    alone (suc (suc (suc zero))) writes apart = absurd (no_write_at beside 3 (2 ∷ []) 3 (hit 2 3 5) refl refl writes)
    alone (suc (suc (suc (suc n)))) writes apart = absurd (nothing_at beside (suc (suc (suc (suc n)))) writes.call refl writes.at)

    last : (other : ℕ) → IsCut 7 beside key other → other ≢ 1 → IsBefore beside other 1
    last zero cut apart = omega arith
    last (suc zero) cut apart = absurd (apart refl)
    last (suc (suc zero)) cut apart = absurd (no_write_at beside 2 (1 ∷ []) 3 (hit 1 3 4) refl refl cut.writes)
    last (suc (suc (suc zero))) cut apart = absurd (no_write_at beside 3 (2 ∷ []) 3 (hit 2 3 5) refl refl cut.writes)
    last (suc (suc (suc (suc n)))) cut apart = absurd (nothing_at beside (suc (suc (suc (suc n)))) cut.writes.call refl cut.writes.at)

new_hit_stays : Stays 7 beside 3
new_hit_stays = record {
  call = hit 2 3 5;
  at = refl;
  no_miss = refl;
  uncut = λ cut last.
      let same = one_last 7 beside 1 cut beside_spans beside_cut last in
      let late : HasLate beside key (2 ∷ []) 1 3 = record { put = 1; is = record { call = put 2 2 6; at = refl; puts = record { one_key = refl; expires = never; is = refl } }; late = inl refl; begun = λ before. omega (arith, before) } in
      let reads : ReadsLate beside key 1 3 = record { value = 2 ∷ []; moment = 3; is = record { call = hit 2 3 5; at = refl; one_key = refl; is = refl }; late = late } in
      inr (inr (subst (λ c. ReadsLate beside key c 3) (sym same) reads));
}

old_hit_goes : ¬ Stays 7 beside 2
old_hit_goes stays =
    let mine = same_Some stays.call (hit 1 3 4) (sym stays.at) in
    let keys : stays.call.key ≡ key = ap (λ (c : Call). c.key) mine in
    elim (stays.uncut 1 (subst (λ k. IsLastCut 7 beside k 1) (sym keys) beside_cut)) [
      | inl same ↦ omega (arith, same)
      | inr rest ↦ elim rest [
        | inl after ↦ omega (arith, after)
        | inr late ↦
            let reads = subst (λ k. ReadsLate beside k 1 2) keys late in
            values_apart reads.value (hit_value beside 2 (hit 1 3 4) (1 ∷ []) reads.value 3 reads.moment refl refl reads.is) (late_is reads.value 2 reads.late)
      ]
    ]

-- ---- two callers put one value side by side: a hit after that is settled

abbrev loaded : List Call
loaded = put 1 0 2 ∷ put 1 1 3 ∷ hit 1 4 5 ∷ []

loaded_hit : IsSettledHit 6 loaded 2
loaded_hit = record {
  key = key;
  value = 1 ∷ [];
  moment = 4;
  is = record { call = hit 1 4 5; at = refl; one_key = refl; is = refl };
  over = omega arith;
  settled = record {
    act = Put (1 ∷ []) never;
    ended = ended;
    alike = λ write last. alike write last.writes;
  };
}
  where
    ended : (p : ℕ) → WritesAt loaded p key → end_at loaded p < 6
    ended zero writes = omega arith
    ended (suc zero) writes = omega arith
    ended (suc (suc zero)) writes = omega arith
    ended (suc (suc (suc n))) writes = omega arith

    alike : (p : ℕ) (writes : WritesAt loaded p key) → writes.call.act ≡ Put (1 ∷ []) never
    alike zero writes = ap (λ (c : Call). c.act) (same_Some writes.call (put 1 0 2) (sym writes.at))
    alike (suc zero) writes = ap (λ (c : Call). c.act) (same_Some writes.call (put 1 1 3) (sym writes.at))
    alike (suc (suc zero)) writes = absurd (no_write_at loaded 2 (1 ∷ []) 4 (hit 1 4 5) refl refl writes)
    alike (suc (suc (suc n))) writes = absurd (nothing_at loaded (suc (suc (suc n))) writes.call refl writes.at)
