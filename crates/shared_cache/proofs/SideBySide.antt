-- What came of lanes that were gone through side by side, put together.
use Rattle.std.proofs.Common.{◌≡◌, ◌≢◌, ◌∙◌, ℕ, zero, suc, ◌+◌, ◌<◌, ◌≤◌, List, [], ◌∷◌, ◌++◌, length, map, take, drop, get_or, Option, Some, None, Result, Ok, Err, slice_get, All, sym, refl, ap, subst, inl, inr, arith, sum_by, append_assoc, length-append}
use Rattle.std.specs.Prelude.{IfNone, IfOk, IfSome, IsSomeAnd}
use Rattle.std.proofs.lemmas.List.{length-map, take-take, take_more}
use Rattle.std.proofs.lemmas.List.Elements.{All-cons, All-nil}
use Rattle.std.proofs.lemmas.List.Sums.{sum_by-append}
use mathlib.Core.List.{map-append}
use Rattle.std.proofs.lemmas.Option.{slice_get-get_or, slice_get_within, same_Some, get_or_from_slice_get}
use Rattle.recorded_lane.specs.declared.noted.Noted.{Noted}
use Rattle.recorded_lane.specs.Points.{noted_in}
use Rattle.history_recorder.proofs.public_laws.Indexing.{at_so, all_by_index}
use Rattle.history_recorder.proofs.public_laws.Stamps.{found_before, found_left, found_right}
use Rattle.certificate_checker.specs.declared.done.Done.{Done}
use Rattle.certificate_checker.specs.Lanes.{Stamped, stamp, stamped_from}
use Rattle.shared_cache.specs.declared.finish_fault.FinishFault.{FinishFault}
use Rattle.shared_cache.specs.declared.finish_fault.FinishFault.TheVariants as ends
use Rattle.shared_cache.specs.declared.lane_left.LaneLeft.{LaneLeft}
use Rattle.shared_cache.specs.declared.lane_fault.LaneFault.{LaneFault}
use Rattle.shared_cache.specs.declared.lane_fault.LaneFault.TheVariants.{OutOfMemory, Strange, Unlisted}
use Rattle.shared_cache.specs.declared.list_place.ListPlace.{ListPlace}
use Rattle.shared_cache.specs.Listed.{Listed}
use Rattle.shared_cache.specs.Passes.{Ticket}
use Rattle.shared_cache.specs.Blames.{AreOwn, IsFirstStrange, IsOwn, IsStrange, IsUnlisted, calls_in, recorded_at}
use Rattle.shared_cache.specs.Claimed.{IsEnded, noted_of, recorded_of}
use Rattle.shared_cache.specs.Settled.{AreNumbered, AreOwnOf, AreSettled, FindsFirst, IsEarlier, IsFaultOf, IsFirstOpen, IsFirstPlace, IsNoneStrange, IsNotBehind, IsNotOwn, IsOutAt, IsOwnOf, IsPlace, IsRefused, LeavesOpen, Settles, all_in, index_of, place_in, recorded_in}
use Rattle.shared_cache.proofs.Blaming.{recorded_past}
use Rattle.shared_cache.specs.Finished.{weigh_calls, weigh_passes}
use Rattle.shared_cache.proofs.Weighing.{all_past, lane_and_past, none_past, sum_by-map, weigh_in, weigh_past}

abbrev Came : Type 0
Came = Result (List Done) LaneFault

-- ---- what came of a lane, by its number

settled_for : (number : ℕ) (lists : List (List Listed)) (cs : List (List Noted)) (rs : List Came) (i k : ℕ) (c : List Noted) → AreSettled number lists cs rs → k ≡ number + i → slice_get cs i ≡ Some c → (r : Came) × (slice_get rs i ≡ Some r) × Settles k c lists r
settled_for number lists [] rs i k c all is at = absurd cc
settled_for number lists (x ∷ cs) [] i k c all is at = absurd all
settled_for number lists (x ∷ cs) (r ∷ rs) zero k c all is at =
    let same : number ≡ k = omega arith in
    (r, refl, subst (λ m. Settles m c lists r) same (subst (λ (y : List Noted). Settles number y lists r) (same_Some x c at) all.0))
settled_for number lists (x ∷ cs) (r ∷ rs) (suc i) k c all is at = settled_for (suc number) lists cs rs i k c all.1 (omega arith) at

settled_at : (number : ℕ) (lists : List (List Listed)) (cs : List (List Noted)) (rs : List Came) (i k : ℕ) (r : Came) → AreSettled number lists cs rs → k ≡ number + i → slice_get rs i ≡ Some r → (c : List Noted) × (slice_get cs i ≡ Some c) × Settles k c lists r
settled_at number lists [] [] i k r all is at = absurd cc
settled_at number lists [] (x ∷ rs) i k r all is at = absurd all
settled_at number lists (c ∷ cs) [] i k r all is at = absurd all
settled_at number lists (c ∷ cs) (x ∷ rs) zero k r all is at =
    let same : number ≡ k = omega arith in
    (c, refl, subst (λ m. Settles m c lists r) same (subst (λ (y : Came). Settles number c lists y) (same_Some x r at) all.0))
settled_at number lists (c ∷ cs) (x ∷ rs) (suc i) k r all is at = settled_at (suc number) lists cs rs i k r all.1 (omega arith) at

-- the calls of a lane
recorded_nth : (recorded : List (List Noted)) (lane position : ℕ) (c : List Noted) → slice_get recorded lane ≡ Some c → recorded_at recorded lane position ≡ slice_get c position
recorded_nth [] lane position c at = absurd cc
recorded_nth (x ∷ recorded) zero position c at = ap (λ (y : List Noted). slice_get y position) (same_Some x c at)
recorded_nth (x ∷ recorded) (suc lane) position c at = recorded_nth recorded lane position c at

recorded_from : (recorded : List (List Noted)) (lane position : ℕ) (n : Noted) → recorded_at recorded lane position ≡ Some n → (c : List Noted) × (slice_get recorded lane ≡ Some c) × (slice_get c position ≡ Some n)
recorded_from [] lane position n at = absurd cc
recorded_from (x ∷ recorded) zero position n at = (x, refl, at)
recorded_from (x ∷ recorded) (suc lane) position n at = recorded_from recorded lane position n at

-- ---- places

calls_to : (lists : List (List Listed)) (n : ℕ) (p : List Listed) → slice_get lists n ≡ Some p → length (all_in (take (suc n) lists)) ≡ length (all_in (take n lists)) + length p
calls_to [] n p at = absurd cc
calls_to (x ∷ lists) zero p at =
    let a = length-append x [] in
    let b : length x ≡ length p = ap (λ (y : List Listed). length y) (same_Some x p at) in
    omega (arith, a, b)
calls_to (x ∷ lists) (suc n) p at =
    let rest = calls_to lists n p at in
    let a = length-append x (all_in (take (suc n) lists)) in
    let b = length-append x (all_in (take n lists)) in
    omega (arith, a, b, rest)

calls_grow : (lists : List (List Listed)) (m n : ℕ) → m ≤ n → length (all_in (take m lists)) ≤ length (all_in (take n lists))
calls_grow [] zero n le = omega arith
calls_grow [] (suc m) zero le = absurd (omega arith)
calls_grow [] (suc m) (suc n) le = omega arith
calls_grow (p ∷ lists) zero n le = omega arith
calls_grow (p ∷ lists) (suc m) zero le = absurd (omega arith)
calls_grow (p ∷ lists) (suc m) (suc n) le =
    let rest = calls_grow lists m n (omega arith) in
    let a = length-append p (all_in (take m lists)) in
    let b = length-append p (all_in (take n lists)) in
    omega (arith, a, b, rest)

index_before : (lists : List (List Listed)) (p q : ListPlace) → IsPlace lists p → IsNotBehind p q → index_of lists p ≤ index_of lists q
index_before lists p q is (inl less) =
    let a = calls_to lists p.pass is.calls is.there in
    let b = calls_grow lists (suc p.pass) q.pass (omega arith) in
    let c = is.within in
    omega (arith, a, b, c)
index_before lists p q is (inr same) =
    let a : length (all_in (take p.pass lists)) ≡ length (all_in (take q.pass lists)) = ap (λ n. length (all_in (take n lists))) same.0 in
    omega (arith, a, same.1)

-- ---- the first of some places

behind_not : (p q r : ListPlace) → IsNotBehind p q → IsNotBehind q r → IsNotBehind p r
behind_not p q r (inl a) (inl b) = inl (omega arith)
behind_not p q r (inl a) (inr b) = inl (omega (arith, a, b.0))
behind_not p q r (inr a) (inl b) = inl (omega (arith, a.0, b))
behind_not p q r (inr a) (inr b) = inr (a.0 ∙ b.0, omega (arith, a.1, b.1))

abbrev came : ListPlace → Came
came p = Err (Strange p)

same_place : (p q : ListPlace) → came p ≡ came q → p ≡ q
same_place p q e = cc

-- what came of one lane more
pub came_next : (rs : List Came) (i : ℕ) (r : Came) → i < length rs → r ≡ get_or rs i r → take (i + 1) rs ≡ take i rs ++ r ∷ []
came_next rs i r low at = take_more rs i r low ∙ ap (λ (x : Came). take i rs ++ x ∷ []) (sym at)

strange_is : (r : Came) (p : ListPlace) → place_in r ≡ Some p → r ≡ came p
strange_is (Ok dones) p is = absurd cc
strange_is (Err OutOfMemory) p is = absurd cc
strange_is (Err (Strange place)) p is = ap came (same_Some place p is)
strange_is (Err (Unlisted position)) p is = absurd cc

not_strange : (r : Came) (q : ListPlace) → place_in r ≡ None → r ≢ came q
not_strange (Ok dones) q is same = absurd cc
not_strange (Err OutOfMemory) q is same = absurd cc
not_strange (Err (Strange place)) q is same = absurd cc
not_strange (Err (Unlisted position)) q is same = absurd cc

-- a strange one more
pub first_came : (other : Option ListPlace) (done : List Came) (first : Option ListPlace) (place new : ListPlace) → FindsFirst other done first → IsEarlier first place new → IsFirstPlace other (done ++ Err (Strange place) ∷ []) new
first_came other done None place new none is = record {
  is = inr (length done, found_right done (came place ∷ []) (length done) 0 (omega arith) ∙ ap (λ (p : ListPlace). Some (came p)) (sym is));
  before_other = λ q at. let no : None ≡ Some q = sym none.0 ∙ at in absurd cc;
  before = λ lane q at. elim (found_before done (came place) (came q) lane at) [
    | inl early ↦ absurd (none.1 lane q early)
    | inr last ↦
        let same = is ∙ same_place place q last.1 in
        inr (ap (λ (p : ListPlace). p.pass) same, let call = ap (λ (p : ListPlace). p.call) same in omega arith)
  ];
}
first_came other done (Some first) place new found is = record {
  is = elim is.0 [
    | inl same ↦ elim found.is [
      | inl at ↦ inl (at ∙ ap (λ (p : ListPlace). Some p) (sym same))
      | inr there ↦ inr (there.0, found_left done (came place ∷ []) there.0 (came first) there.1 ∙ ap (λ (p : ListPlace). Some (came p)) (sym same))
    ]
    | inr same ↦ inr (length done, found_right done (came place ∷ []) (length done) 0 (omega arith) ∙ ap (λ (p : ListPlace). Some (came p)) (sym same))
  ];
  before_other = λ q at. behind_not new first q is.1 (found.before_other q at);
  before = λ lane q at. elim (found_before done (came place) (came q) lane at) [
    | inl early ↦ behind_not new first q is.1 (found.before lane q early)
    | inr last ↦ subst (IsNotBehind new) (same_place place q last.1) is.2
  ];
}

-- or another
pub first_stays : (other : Option ListPlace) (done : List Came) (first : Option ListPlace) (r : Came) → FindsFirst other done first → ((q : ListPlace) → r ≢ Err (Strange q)) → FindsFirst other (done ++ r ∷ []) first
first_stays other done None r found other_one = (found.0, λ lane q at. elim (found_before done r (came q) lane at) [ inl early ↦ found.1 lane q early | inr last ↦ other_one q last.1 ])
first_stays other done (Some p) r found other_one = record {
  is = elim found.is [ inl at ↦ inl at | inr there ↦ inr (there.0, found_left done (r ∷ []) there.0 (came p) there.1) ];
  before_other = found.before_other;
  before = λ lane q at. elim (found_before done r (came q) lane at) [ inl early ↦ found.before lane q early | inr last ↦ absurd (other_one q last.1) ];
}

-- the next of what came of lanes
pub next_strange : (other : Option ListPlace) (rs : List Came) (i : ℕ) (r : Came) (first : Option ListPlace) (place new : ListPlace) → i < length rs → r ≡ get_or rs i r → FindsFirst other (take i rs) first → place_in r ≡ Some place
    → IsEarlier first place new → FindsFirst other (take (i + 1) rs) (Some new)
next_strange other rs i r first place new low at found is earlier =
    rw (came_next rs i r low at, strange_is r place is) (first_came other (take i rs) first place new found earlier)

pub next_plain : (other : Option ListPlace) (rs : List Came) (i : ℕ) (r : Came) (first : Option ListPlace) → i < length rs → r ≡ get_or rs i r → FindsFirst other (take i rs) first → place_in r ≡ None → FindsFirst other (take (i + 1) rs) first
next_plain other rs i r first low at found is = subst (λ ls. FindsFirst other ls first) (sym (came_next rs i r low at)) (first_stays other (take i rs) first r found (λ q. not_strange r q is))

-- ---- each lane's own

taken_at : (xs : List Listed) (n k : ℕ) (l : Listed) → slice_get (take n xs) k ≡ Some l → (k < n) × (slice_get xs k ≡ Some l)
taken_at [] n k l at = absurd (no_call n k l at)
  where
    no_call : (n k : ℕ) (l : Listed) → slice_get (take n []) k ≢ Some l
    no_call zero k l at = absurd cc
    no_call (suc n) k l at = absurd cc
taken_at (x ∷ xs) zero k l at = absurd cc
taken_at (x ∷ xs) (suc n) zero l at = (omega arith, at)
taken_at (x ∷ xs) (suc n) (suc k) l at = let r = taken_at xs n k l at in (omega (arith, r.0), r.1)

own_take : (lane : ℕ) (c : List Noted) (calls : List Listed) (n : ℕ) → AreOwnOf lane c calls → AreOwnOf lane c (take n calls)
own_take lane c calls n own = λ k l at of.
    let there = taken_at calls n k l at in
    rw (take-take k n calls (omega (arith, there.0))) (own k l there.1 of)

own_shorter : (lane : ℕ) (c : List Noted) (calls : List Listed) (m n : ℕ) → m ≤ n → AreOwnOf lane c (take n calls) → AreOwnOf lane c (take m calls)
own_shorter lane c calls m n le own = subst (AreOwnOf lane c) (take-take m n calls le) (own_take lane c (take n calls) m own)

within_take : (lanes : ℕ) (calls : List Listed) (n : ℕ) → All (λ l. l.lane < lanes) calls → All (λ l. l.lane < lanes) (take n calls)
within_take lanes calls n all = all_by_index (λ (l : Listed). l.lane < lanes) (take n calls) (λ k l at. at_so (λ (l : Listed). l.lane < lanes) calls k l all (taken_at calls n k l at).1)

own_before : (lane : ℕ) (c : List Noted) (lists : List (List Listed)) (n : ℕ) (r : Came) → Settles lane c lists r → r ≢ Err OutOfMemory → ((q : ListPlace) → r ≡ Err (Strange q) → n ≤ index_of lists q) → AreOwnOf lane c (take n (all_in lists))
own_before lane c lists n (Ok dones) is told behind = own_take lane c (all_in lists) n is.own
own_before lane c lists n (Err OutOfMemory) is told behind = absurd (told refl)
own_before lane c lists n (Err (Strange q)) is told behind = own_shorter lane c (all_in lists) n (index_of lists q) (behind q refl) is.first.before
own_before lane c lists n (Err (Unlisted position)) is told behind = own_take lane c (all_in lists) n is.own

own_all : (recorded : List (List Noted)) (calls : List Listed) → ((lane : ℕ) (c : List Noted) → slice_get recorded lane ≡ Some c → AreOwnOf lane c calls) → All (λ l. l.lane < length recorded) calls → AreOwn recorded calls
own_all recorded calls each within = λ k l at.
    let low = at_so (λ (l : Listed). l.lane < length recorded) calls k l within at in
    let there = slice_get-get_or recorded l.lane [] low in
    let own = each l.lane (get_or recorded l.lane []) there k l at refl in
    record { stands = recorded_nth recorded l.lane l.position (get_or recorded l.lane []) there ∙ own.stands; once = own.once }

split_at : (passes : List Ticket) (n : ℕ) (p : Ticket) → slice_get passes n ≡ Some p → passes ≡ take n passes ++ p ∷ drop (suc n) passes
split_at [] n p at = absurd cc
split_at (x ∷ passes) zero p at = ap (λ (y : Ticket). y ∷ passes) (same_Some x p at)
split_at (x ∷ passes) (suc n) p at = ap (λ (ps : List Ticket). x ∷ ps) (split_at passes n p at)

-- the lists of passes
abbrev pub lists_of : List Ticket → List (List Listed)
lists_of passes = map (λ p. p.calls) passes

pub all_of : (passes : List Ticket) → all_in (lists_of passes) ≡ calls_in passes
all_of [] = refl
all_of (p ∷ passes) = ap (λ (ls : List Listed). p.calls ++ ls) (all_of passes)

front_of : (passes : List Ticket) (n : ℕ) → all_in (take n (lists_of passes)) ≡ calls_in (take n passes)
front_of [] zero = refl
front_of [] (suc n) = refl
front_of (p ∷ passes) zero = refl
front_of (p ∷ passes) (suc n) = ap (λ (ls : List Listed). p.calls ++ ls) (front_of passes n)

list_at : (passes : List Ticket) (n : ℕ) (p : Ticket) → slice_get passes n ≡ Some p → slice_get (lists_of passes) n ≡ Some p.calls
list_at [] n p at = absurd cc
list_at (x ∷ passes) zero p at = ap (λ (y : Ticket). Some y.calls) (same_Some x p at)
list_at (x ∷ passes) (suc n) p at = list_at passes n p at

module _ (lists : List (List Listed)) (recorded : List (List Noted)) (settled : List Came) (all : AreSettled 0 lists recorded settled) (told : ¬ IsRefused settled) where
  told_at : (lane : ℕ) (r : Came) → slice_get settled lane ≡ Some r → r ≢ Err OutOfMemory
  told_at lane r at refused = told (lane, r, slice_get_within settled lane r at, get_or_from_slice_get settled lane r r at, refused)

  each_before : (n : ℕ) → ((lane : ℕ) (q : ListPlace) → slice_get settled lane ≡ Some (Err (Strange q)) → n ≤ index_of lists q) → (lane : ℕ) (c : List Noted) → slice_get recorded lane ≡ Some c → AreOwnOf lane c (take n (all_in lists))
  each_before n behind lane c at =
      let came = settled_for 0 lists recorded settled lane lane c all (omega arith) at in
      own_before lane c lists n came.0 came.2 (told_at lane came.0 came.1) (λ q is. behind lane q (came.1 ∙ ap (λ (r : Came). Some r) is))

  -- a strange call of a lane is no lane's own
  strange_call : (lane : ℕ) (c : List Noted) (before : List Listed) (l : Listed) → slice_get recorded lane ≡ Some c → l.lane ≡ lane → ¬ IsOwnOf c before l → ¬ IsOwn recorded before l
  strange_call lane c before l at of strange own =
      let here : slice_get recorded l.lane ≡ Some c = ap (slice_get recorded) of ∙ at in
      strange (record { stands = sym (recorded_nth recorded l.lane l.position c here) ∙ own.stands; once = own.once })

  -- nor is one of no lane
  outside_call : (before : List Listed) (l : Listed) → length recorded ≤ l.lane → ¬ IsOwn recorded before l
  outside_call before l past own = let none = sym (recorded_past recorded l.lane l.position past) ∙ own.stands in absurd cc

  within_to : (other : Option ListPlace) (p : ListPlace) → IfNone other (All (λ l. l.lane < length recorded) (all_in lists)) → IfSome other (IsOutAt (length recorded) lists) → IsPlace lists p
      → ((q : ListPlace) → other ≡ Some q → IsNotBehind p q) → All (λ l. l.lane < length recorded) (take (index_of lists p) (all_in lists))
  within_to None p none some place_is before = within_take (length recorded) (all_in lists) (index_of lists p) none
  within_to (Some q) p none some place_is before =
      let le = index_before lists p q place_is (before q refl) in
      subst (All (λ l. l.lane < length recorded)) (take-take (index_of lists p) (index_of lists q) (all_in lists) le)
      (within_take (length recorded) (take (index_of lists q) (all_in lists)) (index_of lists p) some.first.before)

  first_is : (other : Option ListPlace) (p : ListPlace) → IfNone other (All (λ l. l.lane < length recorded) (all_in lists)) → IfSome other (IsOutAt (length recorded) lists) → IsFirstPlace other settled p
      → (l : Listed) × IsPlace lists p × (slice_get (all_in lists) (index_of lists p) ≡ Some l) × (¬ IsOwn recorded (take (index_of lists p) (all_in lists)) l)
  first_is other p none some first = elim first.is [ inl at ↦ out other some at | inr there ↦ strange there.0 there.1 ]
    where
      out : (other : Option ListPlace) → IfSome other (IsOutAt (length recorded) lists) → other ≡ Some p
          → (l : Listed) × IsPlace lists p × (slice_get (all_in lists) (index_of lists p) ≡ Some l) × (¬ IsOwn recorded (take (index_of lists p) (all_in lists)) l)
      out None some at = absurd cc
      out (Some q) some at =
          let is = subst (IsOutAt (length recorded) lists) (same_Some q p at) some in
          (is.first.call, is.place_is, is.first.at, outside_call (take (index_of lists p) (all_in lists)) is.first.call is.first.past)

      strange : (lane : ℕ) → slice_get settled lane ≡ Some (came p)
          → (l : Listed) × IsPlace lists p × (slice_get (all_in lists) (index_of lists p) ≡ Some l) × (¬ IsOwn recorded (take (index_of lists p) (all_in lists)) l)
      strange lane at =
          let of = settled_at 0 lists recorded settled lane lane (came p) all (omega arith) at in
          let is = of.2 in
          (is.first.call, is.place_is, is.first.at, strange_call lane of.0 (take (index_of lists p) (all_in lists)) is.first.call of.1 is.first.of is.first.strange)

  -- the first place is that of the first call that is not its lane's own
  pub strange_first : (other : Option ListPlace) (p : ListPlace) → IfNone other (All (λ l. l.lane < length recorded) (all_in lists)) → IfSome other (IsOutAt (length recorded) lists) → IsFirstPlace other settled p
      → IsPlace lists p × IsFirstStrange recorded (all_in lists) (index_of lists p)
  strange_first other p none some first =
      let is = first_is other p none some first in
      let n = index_of lists p in (
        is.1,
        record {
          call = is.0;
          at = is.2;
          before = own_all recorded (take n (all_in lists)) (each_before n (λ lane q there. index_before lists p q is.1 (first.before lane q there))) (within_to other p none some is.1 first.before_other);
          strange = is.3;
        },
      )

-- it is in the pass there
pub strange_pass : (recorded : List (List Noted)) (passes : List Ticket) (place : ListPlace) (pass : Ticket) → IsPlace (lists_of passes) place → IsFirstStrange recorded (all_in (lists_of passes)) (index_of (lists_of passes) place)
    → slice_get passes place.pass ≡ Some pass → IsStrange recorded passes pass.caller place.call
strange_pass recorded passes place pass is first at =
    let same : is.calls ≡ pass.calls = same_Some is.calls pass.calls (sym is.there ∙ list_at passes place.pass pass at) in
    let index : index_of (lists_of passes) place ≡ length (calls_in (take place.pass passes)) + place.call = ap (λ (ls : List Listed). length ls + place.call) (front_of passes place.pass) in
    record {
      before = take place.pass passes;
      pass = pass;
      after = drop (suc place.pass) passes;
      order = split_at passes place.pass pass at;
      of = refl;
      within = subst (λ (ls : List Listed). place.call < length ls) same is.within;
      first = subst (λ n. IsFirstStrange recorded (calls_in passes) n) index (subst (λ ls. IsFirstStrange recorded ls (index_of (lists_of passes) place)) (all_of passes) first);
    }

pub place_within : (passes : List Ticket) (place : ListPlace) → IsPlace (lists_of passes) place → place.pass < length passes
place_within passes place is = let low = slice_get_within (lists_of passes) place.pass is.calls is.there in let many = length-map passes (λ (p : Ticket). p.calls) in omega (arith, low, many)

abbrev pub AreIn : ℕ → List (List Listed) → Type 0
AreIn lanes lists = All (λ l. l.lane < lanes) (all_in lists)

pub strange_end : (order : List Ticket) (recorded : List (List Noted)) (settled : List Came) (other : Option ListPlace) (p : ListPlace) (caller : ℕ) → AreSettled 0 (lists_of order) recorded settled → ¬ IsRefused settled
    → IfNone other (AreIn (length recorded) (lists_of order)) → IfSome other (IsOutAt (length recorded) (lists_of order)) → IsFirstPlace other settled p → IsSomeAnd (slice_get order p.pass) (λ q. q.caller ≡ caller) → IsStrange recorded order caller p.call
strange_end order recorded settled other p caller all told none some first has = by_pass (slice_get order p.pass) refl has
  where
    by_pass : (o : Option Ticket) → slice_get order p.pass ≡ o → IsSomeAnd o (λ q. q.caller ≡ caller) → IsStrange recorded order caller p.call
    by_pass (Some pass) at same =
        let is = strange_first (lists_of order) recorded settled all told other p none some first in
        subst (λ n. IsStrange recorded order n p.call) same (strange_pass recorded order p pass is.0 is.1 at)
    by_pass None at same = absurd same

pub strange_within : (order : List Ticket) (recorded : List (List Noted)) (settled : List Came) (other : Option ListPlace) (p : ListPlace) → AreSettled 0 (lists_of order) recorded settled → ¬ IsRefused settled
    → IfNone other (AreIn (length recorded) (lists_of order)) → IfSome other (IsOutAt (length recorded) (lists_of order)) → IsFirstPlace other settled p → p.pass < length order
strange_within order recorded settled other p all told none some first = place_within order p (strange_first (lists_of order) recorded settled all told other p none some first).0

pub none_outside : (X : Type 0) (other : Option ListPlace) → other ≡ None → IfNone other X → X
none_outside X other is x = subst (λ o. IfNone o X) is x

pub as_many_settled : (number : ℕ) (lists : List (List Listed)) (cs : List (List Noted)) (rs : List Came) → AreSettled number lists cs rs → length rs ≡ length cs
as_many_settled number lists [] [] all = refl
as_many_settled number lists [] (r ∷ rs) all = absurd all
as_many_settled number lists (c ∷ cs) [] all = absurd all
as_many_settled number lists (c ∷ cs) (r ∷ rs) all = ap suc (as_many_settled (suc number) lists cs rs all.1)

-- ---- if each lane is settled

pub as_recorded : (number : ℕ) (lists : List (List Listed)) (cs : List (List Noted)) (lanes : List (List Done)) → AreSettled number lists cs (map Ok lanes) → recorded_of lanes ≡ cs
as_recorded number lists [] [] all = refl
as_recorded number lists [] (d ∷ lanes) all = absurd all
as_recorded number lists (c ∷ cs) [] all = absurd all
as_recorded number lists (c ∷ cs) (d ∷ lanes) all =
    let one = all.0.same in
    let rest = as_recorded (suc number) lists cs lanes all.1 in
    λ i. one i ∷ rest i

pub all_ended : (number : ℕ) (lists : List (List Listed)) (cs : List (List Noted)) (lanes : List (List Done)) → AreSettled number lists cs (map Ok lanes) → All (All IsEnded) lanes
all_ended number lists cs [] all = All-nil (All IsEnded)
all_ended number lists [] (d ∷ lanes) all = absurd all
all_ended number lists (c ∷ cs) (d ∷ lanes) all = All-cons (All IsEnded) d lanes all.0.ended (all_ended (suc number) lists cs lanes all.1)

weighed_from : (h : Stamped → ℕ) (number : ℕ) (lists : List (List Listed)) (cs : List (List Noted)) (lanes : List (List Done)) (past : ℕ) → AreSettled number lists cs (map Ok lanes) → past ≡ number + length lanes
    → All (λ l. l.lane < past) (all_in lists) → sum_by h (stamped_from number lanes) ≡ weigh_past h number (all_in lists)
weighed_from h number lists cs [] past all is within =
    let same : past ≡ number = omega arith in
    sym (none_past h number (all_in lists) (subst (λ n. All (λ (l : Listed). l.lane < n) (all_in lists)) same within))
weighed_from h number lists [] (d ∷ lanes) past all is within = absurd all
weighed_from h number lists (c ∷ cs) (d ∷ lanes) past all is within =
    let a = sum_by-append h (map (stamp number) d) (stamped_from (suc number) lanes) in
    let b = sum_by-map h (stamp number) d in
    let one = all.0.weighed (λ e. h (stamp number e)) in
    let rest = weighed_from h (suc number) lists cs lanes past all.1 (omega arith) within in
    let step = lane_and_past h number (all_in lists) in
    omega (arith, a, b, one, rest, step)

pub weighed_all : (h : Stamped → ℕ) (lists : List (List Listed)) (cs : List (List Noted)) (lanes : List (List Done)) → AreSettled 0 lists cs (map Ok lanes) → All (λ l. l.lane < length cs) (all_in lists)
    → sum_by h (stamped_from 0 lanes) ≡ weigh_past h 0 (all_in lists)
weighed_all h lists cs lanes all within =
    let many : length lanes ≡ length cs = sym (length-map lanes (λ (l : List Done). map noted_of l)) ∙ ap length (as_recorded 0 lists cs lanes all) in
    weighed_from h 0 lists cs lanes (length cs) all (omega arith) within

-- they weigh what the passes list
pub listed_all : (h : Stamped → ℕ) (order : List Ticket) (cs : List (List Noted)) (lanes : List (List Done)) → AreSettled 0 (lists_of order) cs (map Ok lanes) → AreIn (length cs) (lists_of order) → sum_by h (stamped_from 0 lanes) ≡ weigh_passes h order
listed_all h order cs lanes all within =
    weighed_all h (lists_of order) cs lanes all within ∙ all_past h (all_in (lists_of order)) ∙ ap (λ (ls : List Listed). weigh_calls h ls) (all_of order) ∙ weigh_in h order

-- ---- if one is not

front_ok : (done : List (List Done)) (rest : List Came) (k : ℕ) → k < length done → (d : List Done) × (slice_get (map Ok done ++ rest) k ≡ Some (Ok d))
front_ok [] rest k low = absurd (omega (arith, low))
front_ok (d ∷ done) rest zero low = (d, refl)
front_ok (d ∷ done) rest (suc k) low = front_ok done rest k (omega (arith, low))

pub unlisted : (lists : List (List Listed)) (cs : List (List Noted)) (settled : List Came) (lane position : ℕ) → AreSettled 0 lists cs settled → IsFirstOpen settled lane position → IsUnlisted cs (all_in lists) lane position
unlisted lists cs settled lane position all first =
    let many = length-map {B = Came} first.done (λ d. Ok d) in
    let here : slice_get settled lane ≡ Some (Err (Unlisted position)) = rw first.split (found_right (map Ok first.done) (Err (Unlisted position) ∷ first.rest) lane 0 (omega (arith, many, first.number))) in
    let of = settled_at 0 lists cs settled lane lane (Err (Unlisted position)) all (omega arith) here in
    let is = of.2 in
    record {
      call = is.call;
      stands = recorded_nth cs lane position of.0 of.1 ∙ is.stands;
      free = is.free;
      lanes_before = λ l p n less stands.
          let front = front_ok first.done (Err (Unlisted position) ∷ first.rest) l (omega (arith, less, first.number)) in
          let there : slice_get settled l ≡ Some (Ok front.0) = rw first.split front.1 in
          let its = settled_at 0 lists cs settled l l (Ok front.0) all (omega arith) there in
          let call = recorded_from cs l p n stands in
          let same : call.0 ≡ its.0 = same_Some call.0 its.0 (sym call.1 ∙ its.1) in
          its.2.listed p (slice_get_within its.0 p n (subst (λ (c : List Noted). slice_get c p ≡ Some n) same call.2));
      before = is.before;
    }

-- why the lanes are not ended
pub not_ended : (order : List Ticket) (cs : List (List Noted)) (settled : List Came) (fault : FinishFault) → AreSettled 0 (lists_of order) cs settled → LeavesOpen settled fault → IsNotOwn cs order fault
not_ended order cs settled ends.OutOfMemory all why = tt
not_ended order cs settled (ends.Unlisted lane position) all why = subst (λ ls. IsUnlisted cs ls lane position) (all_of order) (unlisted (lists_of order) cs settled lane position all why)
not_ended order cs settled (ends.MissingPass caller) all why = absurd why
not_ended order cs settled (ends.Strange caller call) all why = absurd why
not_ended order cs settled (ends.LaneLost lane) all why = absurd why

-- the next is none of those
open_one : (settled : List Came) (done : List (List Done)) (r : Came) (rest : List Came) → map Ok done ++ r ∷ rest ≡ settled → slice_get settled (length done) ≡ Some r
open_one settled done r rest is =
    let many = length-map {B = Came} done (λ d. Ok d) in
    rw (← is) (found_right (map Ok done) (r ∷ rest) (length done) 0 (omega (arith, many)))

pub never_strange : (settled : List Came) (done : List (List Done)) (r : Came) (rest : List Came) (q : ListPlace) → map Ok done ++ r ∷ rest ≡ settled → IsNoneStrange settled → r ≢ Err (Strange q)
never_strange settled done r rest q is none same = none (length done) q (open_one settled done r rest is ∙ ap (λ (x : Came). Some x) same)

pub few_done : (settled : List Came) (done : List (List Done)) (rest : List Came) → map Ok done ++ rest ≡ settled → length done ≤ length settled
few_done settled done rest is = let a = ap length is in let b = length-append (map Ok done) rest in let c = length-map {B = Came} done (λ d. Ok d) in omega (arith, a, b, c)

pub first_open : (settled : List Came) (done : List (List Done)) (fault : LaneFault) (rest : List Came) (lane : ℕ) (why : FinishFault) → map Ok done ++ Err fault ∷ rest ≡ settled → lane ≡ length done → IsFaultOf lane fault why → LeavesOpen settled why
first_open settled done OutOfMemory rest lane why is at fault = rw fault tt
first_open settled done (Unlisted position) rest lane why is at fault = rw fault (record { done = done; rest = rest; split = sym is; number = at })
first_open settled done (Strange place) rest lane why is at fault = absurd fault

pub one_settled : (settled : List Came) (done : List (List Done)) (d : List Done) (rest : List Came) → map Ok done ++ Ok d ∷ rest ≡ settled → map Ok (done ++ d ∷ []) ++ rest ≡ settled
one_settled settled done d rest is = ap (λ (rs : List Came). rs ++ rest) (map-append {B = Came} (λ d. Ok d) done (d ∷ [])) ∙ append_assoc (map Ok done) (Ok d ∷ []) rest ∙ is

-- ---- each lane for itself

pub settled_by : (number : ℕ) (lists : List (List Listed)) (ls : List LaneLeft) (rs : List Came) → AreNumbered number ls → length rs ≡ length ls
    → ((i : ℕ) (l : LaneLeft) (d : Came) → i < length ls → slice_get ls i ≡ Some l → Settles l.lane (map noted_in l.recorded) lists (get_or rs i d)) → AreSettled number lists (recorded_in ls) rs
settled_by number lists [] [] numbered many each = tt
settled_by number lists [] (r ∷ rs) numbered many each = absurd cc
settled_by number lists (l ∷ ls) [] numbered many each = absurd cc
settled_by number lists (l ∷ ls) (r ∷ rs) numbered many each = (
  subst (λ n. Settles n (map noted_in l.recorded) lists r) numbered.0 (each 0 l r (omega arith) refl),
  settled_by (suc number) lists ls rs numbered.1 (omega arith) (λ i m d low at. each (suc i) m d (omega arith) at),
)

pub both_ok : {T E : Type 0} (P Q S : T → Type 0) (r : Result T E) → IfOk r P → IfOk r Q → ((x : T) → P x → Q x → S x) → IfOk r S
both_ok P Q S (Ok x) p q f = f x p q
both_ok P Q S (Err e) p q f = tt
