-- Deeds key by key, without misses.
use Rattle.std.proofs.Common.{◌≡◌, ◌↔◌, ℕ, Bool, true, false, ◌&&◌, not, cond, Option, Some, None, List, [], ◌∷◌, ◌++◌, nat_eq, refl, sym, ap, ◌∙◌, subst}
use Rattle.std.specs.Prelude.{filter, fold}
use Rattle.std.specs.Cmp.Lexicographic.{pointwise, bytes_decides}
use Rattle.std.proofs.lemmas.List.Elements.{filter-append}
use Rattle.record_pages.specs.declared.timed_value.TimedValue.{TimedValue}
use Rattle.trace_file.specs.declared.act.Act.{Act}
use Rattle.trace_file.specs.declared.act.Act.TheVariants.{Put, Remove, Hit, Miss}
use Rattle.certificate_checker.specs.Current.{after_deed, current, given_at}
use Rattle.certificate_checker.specs.Deeds.{Deed}
use Rattle.certificate_checker.specs.Latest.{IsWrite, IsLive, IsLawful}
use Rattle.certificate_checker.proofs.public_laws.LatestLemmas.{deed_kept, live_found, live_is}
use Rattle.certificate_finder.specs.Spots.{is_miss, is_of}

-- ---- tests

pub write_is_no_miss : (act : Act) → IsWrite act → is_miss act ≡ false
write_is_no_miss (Put value expires) w = refl
write_is_no_miss Remove w = refl
write_is_no_miss (Hit value moment) w = absurd w
write_is_no_miss Miss w = absurd w

pub hit_is_no_miss : (act : Act) (value : List ℕ) (moment : ℕ) → act ≡ Hit value moment → is_miss act ≡ false
hit_is_no_miss act value moment e = ap is_miss e

both_true : (a b : Bool) → (a && b) ≡ true → (a ≡ true) × (b ≡ true)
both_true true b h = (refl, h)
both_true false b h = cc

not_true : (b : Bool) → not b ≡ true → b ≡ false
not_true true h = cc
not_true false h = refl

pub of_key : (key : List ℕ) (deed : Deed) → deed.key ≡ key → is_miss deed.act ≡ false → is_of key deed ≡ true
of_key key deed same no_miss = let yes : pointwise nat_eq deed.key key ≡ true = (bytes_decides deed.key key).1 same in rw (yes, no_miss) refl

pub key_of : (key : List ℕ) (deed : Deed) → is_of key deed ≡ true → (deed.key ≡ key) × (is_miss deed.act ≡ false)
key_of key deed h =
    let both = both_true (pointwise nat_eq deed.key key) (not (is_miss deed.act)) h in
    ((bytes_decides deed.key key).0 both.0, not_true (is_miss deed.act) both.1)

-- ---- a key's value, by the deeds that are of it

not_of : (key : List ℕ) (value : Option TimedValue) (deed : Deed) → is_of key deed ≡ false → after_deed key value deed ≡ value
not_of key value deed test =
    deed_kept key value deed (λ writes. let yes = of_key key deed writes.0 (write_is_no_miss deed.act writes.1) in let no : true ≡ false = sym yes ∙ test in cc)

pub of_key_alone : (key : List ℕ) (value : Option TimedValue) (deeds : List Deed) → fold (after_deed key) value deeds ≡ fold (after_deed key) value (filter (is_of key) deeds)
of_key_alone key value [] = refl
of_key_alone key value (deed ∷ deeds) =
    elim (is_of key deed) as (λ b. is_of key deed ≡ b → fold (after_deed key) value (deed ∷ deeds) ≡ fold (after_deed key) value (cond b (deed ∷ filter (is_of key) deeds) (filter (is_of key) deeds))) [
      | true ↦ λ test. of_key_alone key (after_deed key value deed) deeds
      | false ↦ λ test. ap (λ v. fold (after_deed key) v deeds) (not_of key value deed test) ∙ of_key_alone key value deeds
    ] refl

-- ---- a filtered list that is split comes from a list that is

record Unfiltered {X : Type 0} (p : X → Bool) (xs before : List X) (x : X) (after : List X) : Type 0 where
  pub front : List X
  pub back : List X
  pub split : xs ≡ front ++ x ∷ back
  pub passes : p x ≡ true
  pub ahead : filter p front ≡ before

no_split : {Y : Type 0} (before after : List Y) (y : Y) → [] ≡ before ++ y ∷ after → ⊥
no_split [] after y e = cc
no_split (z ∷ before) after y e = cc

dropped : {X : Type 0} (p : X → Bool) (y : X) (ys before : List X) (x : X) (after : List X) → p y ≡ false → Unfiltered p ys before x after → Unfiltered p (y ∷ ys) before x after
dropped p y ys before x after test u = record { front = y ∷ u.front; back = u.back; split = ap (λ zs. y ∷ zs) u.split; passes = u.passes; ahead = rw test u.ahead }

kept : {X : Type 0} (p : X → Bool) (y : X) (ys before : List X) (x : X) (after : List X) → p y ≡ true → Unfiltered p ys before x after → Unfiltered p (y ∷ ys) (y ∷ before) x after
kept p y ys before x after test u = record { front = y ∷ u.front; back = u.back; split = ap (λ zs. y ∷ zs) u.split; passes = u.passes; ahead = rw test (ap (λ zs. y ∷ zs) u.ahead) }

first_kept : {X : Type 0} (p : X → Bool) (y : X) (ys : List X) → p y ≡ true → (before : List X) (x : X) (after : List X) → y ∷ filter p ys ≡ before ++ x ∷ after → ((front : List X) → filter p ys ≡ front ++ x ∷ after → Unfiltered p ys front x after) → Unfiltered p (y ∷ ys) before x after
first_kept p y ys test [] x after e on =
    let same : y ≡ x = cc in
    record { front = []; back = ys; split = ap (λ z. z ∷ ys) same; passes = ap p (sym same) ∙ test; ahead = refl }
first_kept p y ys test (z ∷ before) x after e on =
    let same : y ≡ z = cc in
    let rest : filter p ys ≡ before ++ x ∷ after = cc in
    subst (λ w. Unfiltered p (y ∷ ys) (w ∷ before) x after) same (kept p y ys before x after test (on before rest))

unfiltered : {X : Type 0} (p : X → Bool) (xs before : List X) (x : X) (after : List X) → filter p xs ≡ before ++ x ∷ after → Unfiltered p xs before x after
unfiltered p [] before x after e = absurd (no_split before after x e)
unfiltered {X} p (y ∷ ys) before x after e =
    elim (p y) as (λ b. p y ≡ b → cond b (y ∷ filter p ys) (filter p ys) ≡ before ++ x ∷ after → Unfiltered p (y ∷ ys) before x after) [
      | true ↦ λ test same. first_kept p y ys test before x after same (λ front rest. unfiltered p ys front x after rest)
      | false ↦ λ test same. dropped p y ys before x after test (unfiltered p ys before x after same)
    ] refl e

-- ---- lawful key by key

pub each_key : (deeds : List Deed) → IsLawful deeds → (key : List ℕ) → IsLawful (filter (is_of key) deeds)
each_key deeds lawful key before after deed value moment split hit =
    let u = unfiltered (is_of key) deeds before deed after split in
    let mine = key_of key deed u.passes in
    let live = live_found deed.key value moment u.front (lawful u.front u.back deed value moment u.split hit) in
    let here : given_at moment (current u.front key) ≡ Some value = ap (λ k. given_at moment (current u.front k)) (sym mine.0) ∙ live in
    let same : current u.front key ≡ current before key = of_key_alone key None u.front ∙ ap (λ ds. current ds key) u.ahead in
    subst (λ k. IsLive before k value moment) (sym mine.0) (live_is key value moment before (ap (given_at moment) (sym same) ∙ here))

pub all_keys : (deeds : List Deed) → ((key : List ℕ) → IsLawful (filter (is_of key) deeds)) → IsLawful deeds
all_keys deeds lawful before after deed value moment split hit =
    let test = is_of deed.key in
    let passes : test deed ≡ true = of_key deed.key deed refl (hit_is_no_miss deed.act value moment hit) in
    let filtered : filter test deeds ≡ filter test before ++ deed ∷ filter test after = ap (filter test) split ∙ filter-append test before (deed ∷ after) ∙ rw passes refl in
    let live = live_found deed.key value moment (filter test before) (lawful deed.key (filter test before) (filter test after) deed value moment filtered hit) in
    live_is deed.key value moment before (ap (given_at moment) (of_key_alone deed.key None before) ∙ live)

pub by_keys : (deeds : List Deed) → IsLawful deeds ↔ ((key : List ℕ) → IsLawful (filter (is_of key) deeds))
by_keys deeds = (each_key deeds, all_keys deeds)
