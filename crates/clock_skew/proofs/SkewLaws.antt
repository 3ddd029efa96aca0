-- What is accepted for a history as it was stays accepted as it was recorded, with wider calls.
use Rattle.std.proofs.Common.{◌≡◌, ℕ, ◌+◌, ◌-◌, ◌<◌, ◌≤◌, zero, suc, Some, List, [], ◌∷◌, ◌++◌, length, map, refl, sym, ap, ◌∙◌, subst, arith, inl, inr, ◌⊎◌}
use Rattle.std.specs.Prelude.{All, IsTrue, slice_get, nat_le, nat_lt, eqb}
use Rattle.std.specs.List.{filter_map, cons_option}
use Rattle.std.proofs.lemmas.Bool.{cases_lt, cond-true, cond-false, le-leb, lt-leb, lt-ltb, ltb-true, eqb-true, eq-eqb, or_cases, or_left, or_right}
use Rattle.record_pages.specs.Expiry.{is_live, never}
use Rattle.trace_file.specs.Calls.{IsCall}
use Rattle.trace_file.specs.declared.act.Act.{Act}
use Rattle.trace_file.specs.declared.act.Act.TheVariants as acts
use Rattle.trace_file.specs.declared.call.Call.{Call}
use Rattle.certificate_checker.specs.Acceptance.{IsAccepted}
use Rattle.certificate_checker.specs.Deeds.{Deed, deed_of}
use Rattle.certificate_checker.specs.Latest.{IsLawful, IsLive, IsWrite, Writes}
use Rattle.certificate_checker.specs.Orders.{Precedes, in_order}
use Rattle.certificate_checker.proofs.public_laws.Listing.{Member, Pairs, all_member, member_all, pairs_from, pairs_to}
use Rattle.clock_skew.specs.Skewed.{AreNear, AreSeen, IsActSeen, IsSeen}
use Rattle.clock_skew.specs.Widening.{act_widened, last_stamp, later, widened}

-- ---- what is wider than something else

-- what is live with the one expiry is live with the other
abbrev IsLongerLived : ℕ → ℕ → Type 0
IsLongerLived expires wide = (moment : ℕ) → IsTrue (is_live expires moment) → (asked : ℕ) → asked ≤ moment → IsTrue (is_live wide asked)

abbrev IsWiderAct : Act → Act → Type 0
IsWiderAct (acts.Put value expires) (acts.Put other wide) = (value ≡ other) × IsLongerLived expires wide
IsWiderAct acts.Remove acts.Remove = Unit {0}
IsWiderAct (acts.Hit value moment) (acts.Hit other early) = (value ≡ other) × (early ≤ moment)
IsWiderAct acts.Miss acts.Miss = Unit {0}
IsWiderAct _ _ = ⊥

record IsWiderDeed (truth wide : Deed) : Type 0 where
  key : truth.key ≡ wide.key
  act : IsWiderAct truth.act wide.act

record IsWider (truth wide : Call) : Type 0 where
  deed : IsWiderDeed (deed_of truth) (deed_of wide)
  interval : truth.start ≤ truth.end → wide.start ≤ wide.end
  small : wide.start ≤ last_stamp
  start : wide.start ≤ truth.start
  end : (stamp : ℕ) → stamp ≤ last_stamp → wide.end < stamp → truth.end < stamp

-- each of these is wider than the one at its place
abbrev Are : {X : Type 0} → (X → X → Type 0) → List X → List X → Type 0
Are R [] [] = Unit {0}
Are R (x ∷ xs) (w ∷ ws) = R x w × Are R xs ws
Are R _ _ = ⊥

-- ---- a widened call is wider than the true one

later_is : (skew stamp : ℕ) → ((later skew stamp ≡ stamp + skew) × (stamp + skew ≤ last_stamp)) ⊎ ((later skew stamp ≡ last_stamp) × (last_stamp < stamp + skew))
later_is skew stamp = elim (cases_lt last_stamp (stamp + skew)) [
  | inl less ↦ inr (cond-false (nat_le (stamp + skew) last_stamp) (stamp + skew) last_stamp (lt-leb (stamp + skew) last_stamp less), less)
  | inr most ↦ inl (cond-true (nat_le (stamp + skew) last_stamp) (stamp + skew) last_stamp (le-leb (stamp + skew) last_stamp most), most)
]

live_before : (wide asked : ℕ) → asked < wide → IsTrue (is_live wide asked)
live_before wide asked less = or_left (nat_lt asked wide) (eqb wide never) (lt-ltb asked wide less)

live_ever : (wide asked : ℕ) → wide ≡ never → IsTrue (is_live wide asked)
live_ever wide asked is = or_right (nat_lt asked wide) (eqb wide never) (eq-eqb wide never is)

lives_longer : (skew expires seen : ℕ) → expires ≤ seen + skew → IsLongerLived expires (later skew seen)
lives_longer skew expires seen near = λ moment live asked before. elim (later_is skew seen) [
  | inr most ↦ live_ever (later skew seen) asked most.0
  | inl sum ↦ elim (or_cases (nat_lt moment expires) (eqb expires never) live) [
    | inl less ↦ let l = ltb-true moment expires less in live_before (later skew seen) asked (omega (arith, sum.0, l, before, near))
    | inr ever ↦ let e = eqb-true expires never ever in live_ever (later skew seen) asked (omega (arith, sum.0, sum.1, e, near))
  ]
]

wider_act : (skew : ℕ) (truth seen : Act) → IsActSeen skew truth seen → IsWiderAct truth (act_widened skew seen)
wider_act skew (acts.Put value expires) (acts.Put other wide) is = (is.0, lives_longer skew expires wide is.1.below)
wider_act skew acts.Remove acts.Remove is = tt
wider_act skew (acts.Hit value moment) (acts.Hit other early) is = (is.0, let b = is.1.above in omega arith)
wider_act skew acts.Miss acts.Miss is = tt
wider_act skew _ _ is = absurd is

wide_interval : (skew truth_start truth_end start end : ℕ) → AreNear skew truth_start start → AreNear skew truth_end end → start < last_stamp + 1 → truth_start ≤ truth_end → start - skew ≤ later skew end
wide_interval skew truth_start truth_end start end near_start near_end small orderly =
    let a = near_start.above in
    let b = near_end.below in
    elim (later_is skew end) [
      | inl sum ↦ omega (arith, sum.0, a, b, orderly)
      | inr most ↦ omega (arith, most.0, small)
    ]

wide_end : (skew truth_end end stamp : ℕ) → AreNear skew truth_end end → stamp ≤ last_stamp → later skew end < stamp → truth_end < stamp
wide_end skew truth_end end stamp near small less =
    let b = near.below in
    elim (later_is skew end) [
      | inl sum ↦ omega (arith, sum.0, b, less)
      | inr most ↦ omega (arith, most.0, small, less)
    ]

wider_call : (skew : ℕ) (truth seen : Call) → IsCall seen → IsSeen skew truth seen → IsWider truth (widened skew seen)
wider_call skew truth seen fit is =
    let low = fit.start in
    let near = is.start.above in
    record {
      deed = record { key = is.key; act = wider_act skew truth.act seen.act is.act };
      interval = λ orderly. wide_interval skew truth.start truth.end seen.start seen.end is.start is.end (omega arith) orderly;
      small = omega arith;
      start = omega arith;
      end = λ stamp most less. wide_end skew truth.end seen.end stamp is.end most less;
    }

wider_calls : (skew : ℕ) (truth seen : List Call) → ((call : Call) → Member call seen → IsCall call) → AreSeen skew truth seen → Are IsWider truth (map (widened skew) seen)
wider_calls skew [] [] fit are = tt
wider_calls skew (call ∷ truth) (recorded ∷ seen) fit are = (wider_call skew call recorded (fit recorded (inl refl)) are.0, wider_calls skew truth seen (λ c m. fit c (inr m)) are.1)
wider_calls skew _ _ fit are = absurd are

-- ---- lists whose elements are wider

are_length : {X : Type 0} (R : X → X → Type 0) (xs ws : List X) → Are R xs ws → length xs ≡ length ws
are_length R [] [] are = refl
are_length R (x ∷ xs) (w ∷ ws) are = let same = are_length R xs ws are.1 in omega arith
are_length R _ _ are = absurd are

are_member : {X : Type 0} (R : X → X → Type 0) (xs ws : List X) (w : X) → Are R xs ws → Member w ws → (x : X) × Member x xs × R x w
are_member R [] [] w are member = absurd member
are_member R (x ∷ xs) (v ∷ ws) w are member = elim member [
  | inl here ↦ (x, inl refl, subst (R x) (sym here) are.0)
  | inr there ↦ let found = are_member R xs ws w are.1 there in (found.0, inr found.1, found.2)
]
are_member R _ _ w are member = absurd are

are_at : {X : Type 0} (R : X → X → Type 0) (xs ws : List X) (p : ℕ) → Are R xs ws → p < length xs → (x w : X) × (slice_get xs p ≡ Some x) × (slice_get ws p ≡ Some w) × R x w
are_at R [] [] p are less = absurd (omega arith)
are_at R (x ∷ xs) (w ∷ ws) zero are less = (x, w, refl, refl, are.0)
are_at R (x ∷ xs) (w ∷ ws) (suc p) are less = are_at R xs ws p are.1 (omega arith)
are_at R _ _ p are less = absurd are

are_pairs : {X : Type 0} (R Q P : X → X → Type 0) (xs ws : List X) → ((x y w v : X) → R x w → R y v → Q x y → P w v) → Are R xs ws → Pairs Q xs → Pairs P ws
are_pairs R Q P [] [] each are pairs = tt
are_pairs R Q P (x ∷ xs) (w ∷ ws) each are pairs = (
  λ v member. let found = are_member R xs ws v are.1 member in each x found.0 w v are.0 found.2 (pairs.0 found.0 found.1),
  are_pairs R Q P xs ws each are.1 pairs.1,
)
are_pairs R Q P _ _ each are pairs = absurd are

are_map : {X Y : Type 0} (f : X → Y) (R : X → X → Type 0) (Q : Y → Y → Type 0) (xs ws : List X) → ((x w : X) → R x w → Q (f x) (f w)) → Are R xs ws → Are Q (map f xs) (map f ws)
are_map f R Q [] [] each are = tt
are_map f R Q (x ∷ xs) (w ∷ ws) each are = (each x w are.0, are_map f R Q xs ws each are.1)
are_map f R Q _ _ each are = absurd are

-- the wider of those at these places
are_placed : {X : Type 0} (R : X → X → Type 0) (xs ws : List X) (places : List ℕ) → Are R xs ws → ((p : ℕ) → Member p places → p < length xs) → Are R (filter_map (slice_get xs) places) (filter_map (slice_get ws) places)
are_placed R xs ws [] are within = tt
are_placed R xs ws (p ∷ places) are within =
    let found = are_at R xs ws p are (within p (inl refl)) in
    let rest = are_placed R xs ws places are (λ q m. within q (inr m)) in
    subst (λ o. Are R (cons_option o (filter_map (slice_get xs) places)) (cons_option (slice_get ws p) (filter_map (slice_get ws) places))) (sym found.2)
    (subst (λ o. Are R (cons_option (Some found.0) (filter_map (slice_get xs) places)) (cons_option o (filter_map (slice_get ws) places))) (sym found.3) (found.4, rest))

-- a list that is parted is parted alike on the other side
record Parted {X : Type 0} (R : X → X → Type 0) (others before : List X) (at : X) (after : List X) : Type 0 where
  front : List X
  here : X
  back : List X
  split : others ≡ front ++ here ∷ back
  fronts : Are R front before
  is : R here at
  backs : Are R back after

part_left : {X : Type 0} (R : X → X → Type 0) (xs before : List X) (at : X) (after : List X) → Are R xs (before ++ at ∷ after) → Parted R xs before at after
part_left R [] [] at after are = absurd are
part_left R [] (b ∷ before) at after are = absurd are
part_left R (x ∷ xs) [] at after are = record { front = []; here = x; back = xs; split = refl; fronts = tt; is = are.0; backs = are.1 }
part_left R (x ∷ xs) (b ∷ before) at after are =
    let rest = part_left R xs before at after are.1 in
    record { front = x ∷ rest.front; here = rest.here; back = rest.back; split = ap (λ l. x ∷ l) rest.split; fronts = (are.0, rest.fronts); is = rest.is; backs = rest.backs }

-- the relation, turned
abbrev turned : {X : Type 0} → (X → X → Type 0) → X → X → Type 0
turned R w x = R x w

are_turned : {X : Type 0} (R : X → X → Type 0) (xs ws : List X) → Are R xs ws → Are (turned R) ws xs
are_turned R [] [] are = tt
are_turned R (x ∷ xs) (w ∷ ws) are = (are.0, are_turned R xs ws are.1)
are_turned R _ _ are = absurd are

-- ---- wider deeds of lawful ones are lawful

hit_of : (act : Act) (value : List ℕ) (moment : ℕ) → IsWiderAct act (acts.Hit value moment) → (late : ℕ) × (act ≡ acts.Hit value late) × (moment ≤ late)
hit_of (acts.Put other expires) value moment is = absurd is
hit_of acts.Remove value moment is = absurd is
hit_of (acts.Hit other late) value moment is = (late, ap (λ v. acts.Hit v late) is.0, is.1)
hit_of acts.Miss value moment is = absurd is

put_of : (wide : Act) (value : List ℕ) (expires : ℕ) → IsWiderAct (acts.Put value expires) wide → (late : ℕ) × (wide ≡ acts.Put value late) × IsLongerLived expires late
put_of (acts.Put other late) value expires is = (late, ap (λ v. acts.Put v late) (sym is.0), is.1)
put_of acts.Remove value expires is = absurd is
put_of (acts.Hit other late) value expires is = absurd is
put_of acts.Miss value expires is = absurd is

write_of : (act wide : Act) → IsWiderAct act wide → IsWrite wide → IsWrite act
write_of (acts.Put value expires) wide is writes = tt
write_of acts.Remove wide is writes = tt
write_of (acts.Hit value moment) (acts.Put other late) is writes = absurd is
write_of (acts.Hit value moment) acts.Remove is writes = absurd is
write_of (acts.Hit value moment) (acts.Hit other early) is writes = absurd writes
write_of (acts.Hit value moment) acts.Miss is writes = absurd writes
write_of acts.Miss (acts.Put other late) is writes = absurd is
write_of acts.Miss acts.Remove is writes = absurd is
write_of acts.Miss (acts.Hit other early) is writes = absurd is
write_of acts.Miss acts.Miss is writes = absurd writes

module _ (front before : List Deed) (are : Are IsWiderDeed front before) (here deed : Deed) (is : IsWiderDeed here deed) where
  unwritten : (after back : List Deed) → Are (turned IsWiderDeed) after back → All (λ d. ¬ Writes d here.key) back → All (λ d. ¬ Writes d deed.key) after
  unwritten after back wide none = member_all (λ d. ¬ Writes d deed.key) after (λ d member writes.
      let found = are_member IsWiderDeed back after d (are_turned (turned IsWiderDeed) after back wide) member in
      all_member (λ e. ¬ Writes e here.key) back found.0 none found.1 (found.2.key ∙ writes.0 ∙ sym is.key, write_of found.0.act d.act found.2.act writes.1))

  live_still : (value : List ℕ) (late moment : ℕ) → moment ≤ late → IsLive front here.key value late → IsLive before deed.key value moment
  live_still value late moment early live =
      let latest = live.latest in
      let wide = subst (λ l. Are (turned IsWiderDeed) before l) latest.split (are_turned IsWiderDeed front before are) in
      let part = part_left (turned IsWiderDeed) before latest.before latest.put latest.after wide in
      let put = put_of part.here.act value live.expires (subst (λ a. IsWiderAct a part.here.act) latest.value_put part.is.act) in
      record {
        expires = put.0;
        latest = record {
          before = part.front;
          put = part.here;
          after = part.back;
          split = part.split;
          at_key = sym part.is.key ∙ latest.at_key ∙ is.key;
          value_put = put.1;
          not_written = unwritten part.back latest.after part.backs latest.not_written;
        };
        live = put.2 late live.live moment early;
      }

wide_lawful : (deeds wide : List Deed) → Are IsWiderDeed deeds wide → IsLawful deeds → IsLawful wide
wide_lawful deeds wide are lawful = λ before after deed value moment split act.
    let part = part_left IsWiderDeed deeds before deed after (subst (Are IsWiderDeed deeds) split are) in
    let hit = hit_of part.here.act value moment (subst (IsWiderAct part.here.act) act part.is.act) in
    live_still part.front before part.fronts part.here deed part.is value hit.0 moment hit.2
    (lawful part.front part.back part.here value hit.0 part.split hit.1)

-- ---- what is accepted stays accepted

pub stays_accepted : (skew : ℕ) (truth seen : List Call) (certificate : List ℕ) → All IsCall seen → AreSeen skew truth seen → IsAccepted truth certificate → IsAccepted (map (widened skew) seen) certificate
stays_accepted skew truth seen certificate fit are accepted =
    let wide = map (widened skew) seen in
    let wider = wider_calls skew truth seen (λ call member. all_member IsCall seen call fit member) are in
    let count = are_length IsWider truth wide wider in
    let spelled = accepted.spelled in
    let placed = are_placed IsWider truth wide certificate wider (λ p member. all_member (λ q. q < length truth) certificate p spelled.positions member) in
    record {
      intervals = member_all (λ call. call.start ≤ call.end) wide (λ call member.
          let found = are_member IsWider truth wide call wider member in
          found.2.interval (all_member (λ c. c.start ≤ c.end) truth found.0 accepted.intervals found.1));
      spelled = record {
        positions = member_all (λ p. p < length wide) certificate (λ p member. let less = all_member (λ q. q < length truth) certificate p spelled.positions member in omega arith);
        each = λ p less. spelled.each p (omega arith);
        once = spelled.once;
      };
      agrees = pairs_to (λ earlier later. ¬ Precedes later earlier) (in_order wide certificate)
          (are_pairs IsWider (λ earlier later. ¬ Precedes later earlier) (λ earlier later. ¬ Precedes later earlier) (in_order truth certificate) (in_order wide certificate) stays_apart placed
          (pairs_from (λ earlier later. ¬ Precedes later earlier) (in_order truth certificate) accepted.agrees));
      lawful = wide_lawful (map deed_of (in_order truth certificate)) (map deed_of (in_order wide certificate)) (are_map deed_of IsWider IsWiderDeed (in_order truth certificate) (in_order wide certificate) (λ x w is. is.deed) placed) accepted.lawful;
    }
  where
    stays_apart : (x y w v : Call) → IsWider x w → IsWider y v → ¬ Precedes y x → ¬ Precedes v w
    stays_apart x y w v one other apart before = let e = other.end w.start one.small before in let s = one.start in apart (omega arith)
