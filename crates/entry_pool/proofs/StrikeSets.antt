-- What is struck in sets, by the chains of a pool.
use Rattle.std.proofs.Common.{◌≡◌, ◌≢◌, ℕ, zero, suc, ◌+◌, ◌*◌, ◌<◌, ◌≤◌, Bool, true, false, cond, eqb, List, [], ◌∷◌, length, get_or, set, replicate, ⊎_elim, refl, sym, ap, subst, ◌∙◌, arith}
use Rattle.std.specs.Prelude.{◌&&◌, ◌||◌, nat_le}
use Rattle.std.specs.Ordering.{nat_cmp}
use Rattle.std.specs.Cmp.{nat_cmp_total}
use Rattle.std.specs.FinSet.{FinSet, empty, contains, insert, len, contains-empty, len-empty, len-insert}
use Rattle.std.proofs.lemmas.Bool.{cases_eq, eqb-true, le-leb, lt-ltb, le-ltb}
use Rattle.std.proofs.lemmas.List.{get_or-set_same, get_or-set_other, length-set}
use Rattle.record_pages.proofs.public_laws.PassingLaws.{same_numbers, contains-insert_nat}
use lib.Seq.{ext_get_or, set-get_or}
use Rattle.entry_pool.specs.StrikeChains.{Pool, walk, noted, chain_of, marks_of, is_among, total, IsOpened, Pushes, Clears}
use Rattle.entry_pool.specs.Struck.{Struck, struck_at, with_struck, none_struck, strike_count, has_place, can_strike, set_of, sets_from}
use Rattle.entry_pool.specs.StrikePool.{struck_by, IsStruck}

length-sets : (n at : ℕ) (f : ℕ → FinSet nat_cmp) → length (sets_from at n f) ≡ n
length-sets zero at f = refl
length-sets (suc n) at f = ap suc (length-sets n (at + 1) f)

get-sets : (n at i : ℕ) (f : ℕ → FinSet nat_cmp) → i < n → get_or (sets_from at n f) i empty ≡ f (at + i)
get-sets zero at i f lt = absurd (omega (arith, lt))
get-sets (suc n) at zero f lt = let e : at ≡ at + 0 = omega arith in ap f e
get-sets (suc n) at (suc i) f lt = get-sets n (at + 1) i f (omega (arith, lt)) ∙ (let e : (at + 1) + i ≡ at + suc i = omega arith in ap f e)

at-row : (n row : ℕ) (f : ℕ → FinSet nat_cmp) → row < n → get_or (sets_from 0 n f) row empty ≡ f row
at-row n row f lt = get-sets n 0 row f lt ∙ (let e : 0 + row ≡ row = omega arith in ap f e)

-- if one set has something else, and the others what they had
sets-set : (n row : ℕ) (f g : ℕ → FinSet nat_cmp) (v : FinSet nat_cmp) → row < n → g row ≡ v → ((other : ℕ) → other ≢ row → g other ≡ f other) →
    sets_from 0 n g ≡ set (sets_from 0 n f) row v
sets-set n row f g v within own others =
    ext_get_or empty (sets_from 0 n g) (set (sets_from 0 n f) row v)
    (length-sets n 0 g ∙ sym (length-sets n 0 f) ∙ sym (length-set (sets_from 0 n f) row v))
    (λ i lt.
    let all = length-sets n 0 g in
    let there : i < n = omega (arith, lt, all) in
    let old = length-sets n 0 f in
    let held : row < length (sets_from 0 n f) = omega (arith, within, old) in
    at-row n i g there ∙ ⊎_elim
    (λ same. ap g same ∙ own ∙ sym (get_or-set_same (sets_from 0 n f) row v empty held) ∙ ap (λ (k : ℕ). get_or (set (sets_from 0 n f) row v) k empty) (sym same))
    (λ differs. others i differs ∙ sym (at-row n i f there) ∙ sym (get_or-set_other (sets_from 0 n f) row i v empty differs))
    (cases_eq i row))

-- nothing is struck in any set
sets-none : (n at : ℕ) (f : ℕ → FinSet nat_cmp) → ((set : ℕ) → f set ≡ empty) → sets_from at n f ≡ replicate n empty
sets-none zero at f none = refl
sets-none (suc n) at f none = ap (λ (s : FinSet nat_cmp). s ∷ sets_from (at + 1) n f) (none at) ∙ ap (λ (ss : List (FinSet nat_cmp)). empty ∷ ss) (sets-none n (at + 1) f none)

-- a hash is in the set of these exactly if it is one of them
pub among-set : (xs : List ℕ) (q : ℕ) → contains (set_of xs) q ≡ is_among q xs
among-set [] q = contains-empty nat_cmp q
among-set (x ∷ xs) q = contains-insert_nat (set_of xs) x q ∙ ap (λ b. eqb q x || b) (among-set xs q)

-- as many hashes as sets have nodes
count-sets : (counts : List ℕ) (n at : ℕ) (f : ℕ → FinSet nat_cmp) → length counts ≡ n → ((i : ℕ) → i < n → len (f (at + i)) ≡ get_or counts i 0) → strike_count (sets_from at n f) ≡ total counts
count-sets [] zero at f e each = refl
count-sets [] (suc n) at f e each = absurd (omega (arith, e))
count-sets (x ∷ xs) zero at f e each = absurd (omega (arith, e))
count-sets (x ∷ xs) (suc n) at f e each =
    let here : at ≡ at + 0 = omega arith in
    let first : len (f at) ≡ x = ap (λ (k : ℕ). len (f k)) here ∙ each 0 (omega arith) in
    let later : strike_count (sets_from (at + 1) n f) ≡ total xs =
    count-sets xs n (at + 1) f (omega (arith, e)) (λ i lt. (let there : (at + 1) + i ≡ at + suc i = omega arith in ap (λ (k : ℕ). len (f k)) there) ∙ each (suc i) (omega (arith, lt))) in
    let a = len (f at) in
    let s = strike_count (sets_from (at + 1) n f) in
    let t = total xs in
    let sum : a + s ≡ x + t = omega (arith, first, later) in
    sum

walk-length : (n : ℕ) (links : List ℕ) (first : ℕ) → length (walk n links first) ≡ n
walk-length zero links first = refl
walk-length (suc n) links first = ap suc (walk-length n links (get_or links first 0))

noted-length : (nodes hashes : List ℕ) → length (noted hashes nodes) ≡ length nodes
noted-length [] hashes = refl
noted-length (x ∷ xs) hashes = ap suc (noted-length xs hashes)

pub marks-length : (p : Pool) (row : ℕ) → length (marks_of p row) ≡ get_or p.counts row 0
unfolding chain_of marks_of
marks-length p row = noted-length (walk (get_or p.counts row 0) p.links (get_or p.firsts row 0)) p.hashes ∙ walk-length (get_or p.counts row 0) p.links (get_or p.firsts row 0)

-- sets that have eight at most have that many together at most
total-most : (xs : List ℕ) → ((i : ℕ) → get_or xs i 0 ≤ 8) → total xs ≤ 8 * length xs
total-most [] each = omega arith
total-most (x ∷ xs) each =
    let first : x ≤ 8 = each 0 in
    let later = total-most xs (λ i. each (suc i)) in
    let t = total xs in
    let n = length xs in
    let sum : x + t ≤ 8 * suc n = omega (arith, first, later) in
    sum

-- and fewer if one of them has fewer
total-less : (xs : List ℕ) (row : ℕ) → ((i : ℕ) → get_or xs i 0 ≤ 8) → row < length xs → get_or xs row 0 < 8 → total xs < 8 * length xs
total-less [] row each within few = absurd (omega (arith, within))
total-less (x ∷ xs) zero each within few =
    let later = total-most xs (λ i. each (suc i)) in
    let t = total xs in
    let n = length xs in
    let sum : x + t < 8 * suc n = omega (arith, few, later) in
    sum
total-less (x ∷ xs) (suc row) each within few =
    let first : x ≤ 8 = each 0 in
    let later = total-less xs row (λ i. each (suc i)) (omega (arith, within)) few in
    let t = total xs in
    let n = length xs in
    let sum : x + t < 8 * suc n = omega (arith, first, later) in
    sum

or-true : (b : Bool) → (b || true) ≡ true
or-true true = refl
or-true false = refl

and-false : (b : Bool) → (b && false) ≡ false
and-false true = refl
and-false false = refl

same_or : (q_is_k has : Bool) → (q_is_k ≡ true → has ≡ true) → has ≡ (q_is_k || has)
same_or true has within = within refl
same_or false has within = refl

-- what is there joins no set
insert-known : (s : FinSet nat_cmp) (k : ℕ) → contains s k ≡ true → insert s k ≡ s
insert-known s k is =
    same_numbers _ _ (λ q. contains-insert_nat s k q ∙ sym (same_or _ _ (λ e. ap (contains s) (eqb-true q k e) ∙ is)))

-- the number of a set's members, with one that is not there
len-insert_new : (s : FinSet nat_cmp) (k : ℕ) → contains s k ≡ false → len (insert s k) ≡ len s + 1
len-insert_new s k new = len-insert nat_cmp_total s k ∙ ap (λ b. cond b (len s) (len s + 1)) new

-- a hash that is there needs no room
strike-known : (free : Bool) (s : FinSet nat_cmp) (k : ℕ) → contains s k ≡ true → len s ≤ 8 → true ≡ can_strike free s k
strike-known free s k is few =
    sym (ap (λ b. (free || b) && nat_le (len (insert s k)) 8) is ∙ ap (λ b. b && nat_le (len (insert s k)) 8) (or-true free)
    ∙ ap (λ (t : FinSet nat_cmp). nat_le (len t) 8) (insert-known s k is) ∙ le-leb (len s) 8 few)

-- one that is not there needs a free place, and that the set has fewer than eight
strike-new : (s : FinSet nat_cmp) (k : ℕ) → contains s k ≡ false → len s < 8 → true ≡ can_strike true s k
strike-new s k new few = sym (ap (λ n. nat_le n 8) (len-insert_new s k new) ∙ le-leb (len s + 1) 8 (omega (arith, few)))

strike-full : (free : Bool) (s : FinSet nat_cmp) (k : ℕ) → contains s k ≡ false → len s ≡ 8 → false ≡ can_strike free s k
strike-full free s k new full =
    sym (ap (λ n. (free || contains s k) && nat_le n 8) (len-insert_new s k new ∙ ap (λ n. n + 1) full) ∙ and-false (free || contains s k))

strike-none : (s : FinSet nat_cmp) (k : ℕ) → contains s k ≡ false → false ≡ can_strike false s k
strike-none s k new = sym (ap (λ b. b && nat_le (len (insert s k)) 8) new)

module _ (p : Pool) (is : IsStruck p) where
  pub sets-length : length (struck_by p).sets ≡ length p.firsts
  unfolding struck_by
  sets-length = length-sets (length p.firsts) 0 (λ row. set_of (marks_of p row))

  pub row-lt : (row : ℕ) → row < length (struck_by p).sets → row < length p.firsts
  row-lt row lt = let all = sets-length in omega (arith, lt, all)

  hashes-at : (row : ℕ) → row < length p.firsts → struck_at (struck_by p) row ≡ set_of (marks_of p row)
  unfolding struck_by
  hashes-at row lt = at-row (length p.firsts) row (λ r. set_of (marks_of p r)) lt

  pub has-struck : (row hash : ℕ) → row < length p.firsts → is_among hash (marks_of p row) ≡ contains (struck_at (struck_by p) row) hash
  has-struck row hash lt = sym (among-set (marks_of p row) hash) ∙ ap (λ (s : FinSet nat_cmp). contains s hash) (sym (hashes-at row lt))

  row-count : (row : ℕ) → row < length p.firsts → len (struck_at (struck_by p) row) ≡ get_or p.counts row 0
  row-count row lt = ap len (hashes-at row lt) ∙ is.once row ∙ marks-length p row

  count-all : strike_count (struck_by p).sets ≡ total p.counts
  unfolding struck_by
  count-all = count-sets p.counts (length p.firsts) 0 (λ row. set_of (marks_of p row)) is.sound.rows
      (λ i lt. (let e : 0 + i ≡ i = omega arith in ap (λ (k : ℕ). len (set_of (marks_of p k))) e) ∙ is.once i ∙ marks-length p i)

  places-are : (struck_by p).places ≡ length p.links
  unfolding struck_by
  places-are = refl

  has-free : 0 < p.free_count → has_place (struck_by p) ≡ true
  has-free some =
      let count = count-all in
      let places = places-are in
      let all = is.sound.all in
      lt-ltb (strike_count (struck_by p).sets) (struck_by p).places (omega (arith, count, places, all, some))

  has-none : p.free_count ≡ 0 → has_place (struck_by p) ≡ false
  has-none none =
      let count = count-all in
      let places = places-are in
      let all = is.sound.all in
      le-ltb (strike_count (struck_by p).sets) (struck_by p).places (omega (arith, count, places, all, none))

  -- with as many places as all sets can fill, one is free while a set has fewer than eight
  some-free : (row : ℕ) → row < length p.firsts → get_or p.counts row 0 < 8 → 8 * length (struck_by p).sets ≤ (struck_by p).places → 0 < p.free_count
  some-free row lt few ample =
      let rows = is.sound.rows in
      let less = total-less p.counts row is.sound.few (omega (arith, lt, rows)) few in
      let places = places-are in
      let sets = sets-length in
      let all = is.sound.all in
      omega (arith, less, places, sets, all, ample, rows)

-- a hash that is struck in a set needs no room, and joins nothing
pub record AddsKnown (v : Struck) (row hash : ℕ) : Type 0 where
  pub room : true ≡ can_strike (has_place v) (struck_at v row) hash
  pub ample : 8 * length v.sets ≤ v.places → true ≡ can_strike true (struck_at v row) hash
  pub added : v ≡ with_struck v row (insert (struck_at v row) hash)

-- there is no room for it
pub record AddsNone (v : Struck) (row hash : ℕ) : Type 0 where
  pub room : false ≡ can_strike (has_place v) (struck_at v row) hash
  pub ample : 8 * length v.sets ≤ v.places → false ≡ can_strike true (struck_at v row) hash

-- there is room for it
pub record AddsNew (v : Struck) (row hash : ℕ) (new : Struck) : Type 0 where
  pub room : true ≡ can_strike (has_place v) (struck_at v row) hash
  pub ample : 8 * length v.sets ≤ v.places → true ≡ can_strike true (struck_at v row) hash
  pub added : new ≡ with_struck v row (insert (struck_at v row) hash)

module _ (p : Pool) (is : IsStruck p) (row hash : ℕ) (lt : row < length p.firsts) where
  few : len (struck_at (struck_by p) row) ≤ 8
  few = let count = row-count p is row lt in let most = is.sound.few row in omega (arith, count, most)

  pub adds-known : (v : Struck) → struck_by p ≡ v → true ≡ is_among hash (marks_of p row) → AddsKnown v row hash
  adds-known v e there =
      let u = struck_by p in
      let known : contains (struck_at u row) hash ≡ true = sym (has-struck p is row hash lt) ∙ sym there in
      let same : set u.sets row (insert (struck_at u row) hash) ≡ u.sets =
      ap (set u.sets row) (insert-known (struck_at u row) hash known) ∙ set-get_or u.sets row empty in
      subst (λ (x : Struck). AddsKnown x row hash) e
      (record {
        room = strike-known (has_place u) (struck_at u row) hash known few;
        ample = λ _. strike-known true (struck_at u row) hash known few;
        added = λ i. record { places = u.places; sets = sym same i };
      })

  new_in : false ≡ is_among hash (marks_of p row) → contains (struck_at (struck_by p) row) hash ≡ false
  new_in absent = sym (has-struck p is row hash lt) ∙ sym absent

  pub adds-full : (v : Struck) → struck_by p ≡ v → false ≡ is_among hash (marks_of p row) → get_or p.counts row 0 ≡ 8 → AddsNone v row hash
  adds-full v e absent full =
      let u = struck_by p in
      let new = new_in absent in
      let eight = row-count p is row lt ∙ full in
      subst (λ (x : Struck). AddsNone x row hash) e
      (record { room = strike-full (has_place u) (struck_at u row) hash new eight; ample = λ _. strike-full true (struck_at u row) hash new eight })

  pub adds-none : (v : Struck) → struck_by p ≡ v → false ≡ is_among hash (marks_of p row) → get_or p.counts row 0 < 8 → p.free_count ≡ 0 → AddsNone v row hash
  adds-none v e absent fewer none =
      let u = struck_by p in
      subst (λ (x : Struck). AddsNone x row hash) e
      (record {
        room = strike-none (struck_at u row) hash (new_in absent) ∙ sym (ap (λ b. can_strike b (struck_at u row) hash) (has-none p is none));
        ample = λ ample. absurd (let some = some-free p is row lt fewer ample in omega (arith, some, none));
      })

  pub adds-new : (q : Pool) (v : Struck) → struck_by p ≡ v → Pushes p q row hash → false ≡ is_among hash (marks_of p row) → get_or p.counts row 0 < 8 → 0 < p.free_count → AddsNew v row hash (struck_by q)
  unfolding struck_by
  adds-new q v e pushes absent fewer some =
      let u = struck_by p in
      let new = new_in absent in
      let count = row-count p is row lt in
      let room = strike-new (struck_at u row) hash new (omega (arith, count, fewer)) in
      let f : ℕ → FinSet nat_cmp = λ r. set_of (marks_of p r) in
      let g : ℕ → FinSet nat_cmp = λ r. set_of (marks_of q r) in
      let sets : sets_from 0 (length q.firsts) g ≡ set (sets_from 0 (length p.firsts) f) row (insert (struck_at u row) hash) =
      ap (λ (n : ℕ). sets_from 0 n g) pushes.sizes.sets
      ∙ sets-set (length p.firsts) row f g (insert (struck_at u row) hash) lt
      (ap set_of pushes.own ∙ ap (λ (s : FinSet nat_cmp). insert s hash) (sym (hashes-at p is row lt)))
      (λ other differs. ap set_of (pushes.others other differs)) in
      subst (λ (x : Struck). AddsNew x row hash (struck_by q)) e
      (record {
        room = room ∙ sym (ap (λ b. can_strike b (struck_at u row) hash) (has-free p is some));
        ample = λ _. room;
        added = λ i. record { places = pushes.sizes.places i; sets = sets i };
      })

  pub clears-to : (q : Pool) (v : Struck) → struck_by p ≡ v → Clears p q row → struck_by q ≡ with_struck v row empty
  unfolding struck_by
  clears-to q v e clears =
      let f : ℕ → FinSet nat_cmp = λ r. set_of (marks_of p r) in
      let g : ℕ → FinSet nat_cmp = λ r. set_of (marks_of q r) in
      let sets : sets_from 0 (length q.firsts) g ≡ set (sets_from 0 (length p.firsts) f) row empty =
      ap (λ (n : ℕ). sets_from 0 n g) clears.sizes.sets
      ∙ sets-set (length p.firsts) row f g empty lt (ap set_of clears.own) (λ other differs. ap set_of (clears.others other differs)) in
      subst (λ (x : Struck). struck_by q ≡ with_struck x row empty) e (λ i. record { places = clears.sizes.places i; sets = sets i })

-- what is struck stays a set of distinct hashes
pub pushed-struck : (p q : Pool) (row hash : ℕ) → IsStruck p → Pushes p q row hash → false ≡ is_among hash (marks_of p row) → IsStruck q
pushed-struck p q row hash is pushes absent =
    let sized = pushes.sizes.sets in
    let most = is.sets in
    record {
      sound = pushes.sound;
      once = λ r. ⊎_elim
          (λ same. subst (λ (k : ℕ). len (set_of (marks_of q k)) ≡ length (marks_of q k)) (sym same)
          (ap (λ (xs : List ℕ). len (set_of xs)) pushes.own
          ∙ len-insert_new (set_of (marks_of p row)) hash (among-set (marks_of p row) hash ∙ sym absent)
          ∙ ap (λ n. n + 1) (is.once row) ∙ (let n = length (marks_of p row) in let e : n + 1 ≡ suc n = omega arith in e) ∙ sym (ap length pushes.own)))
          (λ differs. let same = pushes.others r differs in ap (λ (xs : List ℕ). len (set_of xs)) same ∙ is.once r ∙ sym (ap length same))
          (cases_eq r row);
      sets = omega (arith, sized, most);
    }

pub cleared-struck : (p q : Pool) (row : ℕ) → IsStruck p → Clears p q row → IsStruck q
cleared-struck p q row is clears =
    let sized = clears.sizes.sets in
    let most = is.sets in
    record {
      sound = clears.sound;
      once = λ r. ⊎_elim
          (λ same. subst (λ (k : ℕ). len (set_of (marks_of q k)) ≡ length (marks_of q k)) (sym same)
          (ap (λ (xs : List ℕ). len (set_of xs)) clears.own ∙ len-empty nat_cmp ∙ sym (ap length clears.own)))
          (λ differs. let same = clears.others r differs in ap (λ (xs : List ℕ). len (set_of xs)) same ∙ is.once r ∙ sym (ap length same))
          (cases_eq r row);
      sets = omega (arith, sized, most);
    }

module _ (p : Pool) (sets places : ℕ) (most : sets ≤ 65536) (opened : IsOpened p sets places) where
  pub opened-struck : IsStruck p
  opened-struck =
      let all = opened.sets_are in
      record {
        sound = opened.sound;
        once = λ r. let none = opened.none r in ap (λ (xs : List ℕ). len (set_of xs)) none ∙ len-empty nat_cmp ∙ sym (ap length none);
        sets = omega (arith, all, most);
      }

  pub opened-none : struck_by p ≡ none_struck sets places
  unfolding struck_by
  opened-none =
      let none : sets_from 0 (length p.firsts) (λ r. set_of (marks_of p r)) ≡ replicate sets empty =
      sets-none (length p.firsts) 0 (λ r. set_of (marks_of p r)) (λ r. ap set_of (opened.none r)) ∙ ap (λ (n : ℕ). replicate n empty) opened.sets_are in
      λ i. record { places = opened.places_are i; sets = none i }
