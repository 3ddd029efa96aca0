-- Which of the next calls of lanes is the first.
use Rattle.std.proofs.Common.{◌≡◌, ℕ, ◌+◌, ◌<◌, ◌≤◌, Option, Some, None, List, length, get_or, refl, sym, ap, ◌∙◌, subst, arith, inl, inr}
use Rattle.std.specs.Prelude.{slice_get, option_map}
use Rattle.std.proofs.lemmas.Bool.{cases_eq}
use Rattle.std.proofs.lemmas.Option.{none-some, same_Some, slice_get_within, slice_get_read, slice_get-get_or}
use Rattle.certificate_checker.specs.declared.done.Done.{Done}
use Rattle.certificate_checker.specs.Lanes.{Stamped, stamp, ComesFirst}
use Rattle.history_recorder.specs.declared.lane_head.LaneHead.{LaneHead}
use Rattle.history_recorder.specs.declared.next_call.NextCall.{NextCall}
use Rattle.history_recorder.specs.Merging.{IsNext, IsFirst, IsFirstBelow}

-- ---- by point and lane

pub never_itself : (s : Stamped) → ¬ ComesFirst s s
never_itself s first = elim first [ inl less ↦ omega (arith, less) | inr tied ↦ let l = tied.1 in omega (arith, l) ]

pub first_through : (a b c : Stamped) → ComesFirst a b → ComesFirst b c → ComesFirst a c
first_through a b c one other = elim one [
  | inl less ↦ elim other [ inl more ↦ inl (omega (arith, less, more)) | inr tied ↦ let e = tied.0 in inl (omega (arith, less, e)) ]
  | inr same ↦
      let e = same.0 in
      let l = same.1 in
      elim other [ inl more ↦ inl (omega (arith, e, more)) | inr tied ↦ let m = tied.1 in inr (e ∙ tied.0, omega (arith, l, m)) ]
]

-- ---- next calls

-- the call whose point was read
pointed : (o : Option Done) (point : ℕ) → option_map (λ (d : Done). d.point) o ≡ Some point → (done : Done) × (o ≡ Some done) × (done.point ≡ point)
pointed None point is = absurd (none-some point is)
pointed (Some done) point is = (done, refl, same_Some done.point point is)

-- the next call of a lane, by its point as the code reads it
pub next_read : (lanes : List (List Done)) (heads : List LaneHead) (number : ℕ) (lane : List Done) (head : LaneHead) (point : ℕ) → number < length lanes → number < length heads → lane ≡ get_or lanes number lane → option_map (λ (d : Done). d.point) (slice_get lane (get_or heads number head).listed) ≡ Some point → (done : Done) × IsNext lanes heads number done × (done.point ≡ point)
next_read lanes heads number lane head point in_lanes in_heads is next =
    let read = pointed (slice_get lane (get_or heads number head).listed) point next in (
      read.0,
      record {
        lane = lane;
        head = get_or heads number head;
        in_lanes = slice_get_read lanes (length lanes) number lane refl in_lanes is;
        in_heads = slice_get-get_or heads number head in_heads;
        is = read.1;
      },
      read.2,
    )

-- the first next call, as the code reads it of a copy of the heads
pub first_read : (lanes : List (List Done)) (copy heads : List LaneHead) (found first : Option NextCall) → copy ≡ heads → found ≡ first → IsFirstBelow lanes copy (length lanes) found → IsFirstBelow lanes heads (length lanes) first
first_read lanes copy heads found first same is of_copy =
    subst (λ r. IsFirstBelow lanes heads (length lanes) r) is (subst (λ (hs : List LaneHead). IsFirstBelow lanes hs (length lanes) found) same of_copy)

-- a lane has one next call
pub same_next : (lanes : List (List Done)) (heads : List LaneHead) (number : ℕ) (a b : Done) → IsNext lanes heads number a → IsNext lanes heads number b → a ≡ b
same_next lanes heads number a b one other =
    let l : one.lane ≡ other.lane = (let both : Some one.lane ≡ Some other.lane = sym one.in_lanes ∙ other.in_lanes in cc) in
    let h : one.head ≡ other.head = (let both : Some one.head ≡ Some other.head = sym one.in_heads ∙ other.in_heads in cc) in
    let both : Some a ≡ Some b = sym one.is ∙ (λ i. slice_get (l i) (h i).listed) ∙ other.is in
    cc

module _ (lanes : List (List Done)) (heads : List LaneHead) (number : ℕ) where
  -- a lane with no call left has none
  none_left : (lane : List Done) (head : LaneHead) → slice_get lanes number ≡ Some lane → slice_get heads number ≡ Some head → length lane ≤ head.listed → (done : Done) → ¬ IsNext lanes heads number done
  none_left lane head in_lanes in_heads through done next =
      let l : next.lane ≡ lane = (let both : Some next.lane ≡ Some lane = sym next.in_lanes ∙ in_lanes in cc) in
      let h : next.head ≡ head = (let both : Some next.head ≡ Some head = sym next.in_heads ∙ in_heads in cc) in
      let len = ap length l in
      let listed = ap (λ (x : LaneHead). x.listed) h in
      let less = slice_get_within next.lane next.head.listed done next.is in
      omega (arith, len, listed, less, through)

  -- one lane more
  one_more : (P : ℕ → Done → Type 0) → ((other : ℕ) (d : Done) → other < number → IsNext lanes heads other d → P other d) → ((d : Done) → IsNext lanes heads number d → P number d) → (other : ℕ) (d : Done) → other < number + 1 → IsNext lanes heads other d → P other d
  one_more P below here other d less next = elim (cases_eq other number) [
    | inl same ↦ subst (λ n. P n d) (sym same) (here d (subst (λ n. IsNext lanes heads n d) same next))
    | inr ne ↦ below other d (omega arith) next
  ]

  pub still_first : (first : Option NextCall) (lane : List Done) (head : LaneHead) → slice_get lanes number ≡ Some lane → slice_get heads number ≡ Some head → length lane ≤ head.listed → IsFirstBelow lanes heads number first → IsFirstBelow lanes heads (number + 1) first
  still_first None lane head in_lanes in_heads through none =
      λ other d less next. one_more (λ n e. ⊥) (λ n e below is. none n e below is) (none_left lane head in_lanes in_heads through) other d less next
  still_first (Some next) lane head in_lanes in_heads through first = record {
    done = first.done;
    is_next = first.is_next;
    point = first.point;
    below = let less = first.below in omega (arith, less);
    first = one_more (λ n e. ¬ ComesFirst (stamp n e) (stamp next.lane first.done)) first.first (λ d is. absurd (none_left lane head in_lanes in_heads through d is));
  }

  -- the call of this lane is not before itself
  not_itself : (done : Done) → IsNext lanes heads number done → (d : Done) → IsNext lanes heads number d → ¬ ComesFirst (stamp number d) (stamp number done)
  not_itself done next d is first =
      let same = same_next lanes heads number d done is next in
      never_itself (stamp number done) (subst (λ e. ComesFirst (stamp number e) (stamp number done)) same first)

  -- this lane has the only next call so far
  pub only_one : (done : Done) (point : ℕ) → IsNext lanes heads number done → done.point ≡ point → IsFirstBelow lanes heads number None → IsFirstBelow lanes heads (number + 1) (Some (record { lane = number; point = point }))
  only_one done point next is none = record {
    done = done;
    is_next = next;
    point = is;
    below = omega arith;
    first = one_more (λ n e. ¬ ComesFirst (stamp n e) (stamp number done)) (λ n e below has. absurd (none n e below has)) (not_itself done next);
  }

  -- the call of this lane is before the first so far
  pub new_first : (done : Done) (point : ℕ) (held : NextCall) → IsNext lanes heads number done → done.point ≡ point → point < held.point → IsFirst lanes heads number held → IsFirst lanes heads (number + 1) (record { lane = number; point = point })
  new_first done point held next is less first = record {
    done = done;
    is_next = next;
    point = is;
    below = omega arith;
    first = one_more (λ n e. ¬ ComesFirst (stamp n e) (stamp number done)) (λ n e below has earlier. let at = first.point in first.first n e below has (first_through (stamp n e) (stamp number done) (stamp held.lane first.done) earlier (inl (omega (arith, is, less, at))))) (not_itself done next);
  }

  -- the first so far is not after the call of this lane
  pub same_first : (done : Done) (point : ℕ) (held : NextCall) → IsNext lanes heads number done → done.point ≡ point → held.point ≤ point → IsFirst lanes heads number held → IsFirst lanes heads (number + 1) held
  same_first done point held next is enough first =
      let at = first.point in
      let below = first.below in
      record {
        done = first.done;
        is_next = first.is_next;
        point = first.point;
        below = omega (arith, below);
        first = one_more (λ n e. ¬ ComesFirst (stamp n e) (stamp held.lane first.done)) first.first (λ d has earlier.
            let same = ap (λ (e : Done). e.point) (same_next lanes heads number d done has next) in
            elim earlier [ inl less ↦ omega (arith, less, same, is, enough, at) | inr tied ↦ let l = tied.1 in omega (arith, l, below) ]);
      }
