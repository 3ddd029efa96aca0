-- A certificate that lists what the heads count, and one call more.
use Rattle.std.proofs.Common.{◌≡◌, ◌≢◌, ℕ, ◌+◌, ◌-◌, ◌<◌, ◌≤◌, ◌^◌, zero, suc, Some, None, List, [], ◌∷◌, ◌++◌, length, get_or, set, take, drop, refl, sym, ap, ◌∙◌, subst, arith, inl, inr, ◌⊎◌, length-set, append-nil}
use Rattle.std.specs.Prelude.{slice_get, All, AllPairs, Contains, IsSomeAnd}
use Rattle.std.specs.List.{flat_map}
use Rattle.std.proofs.lemmas.Bool.{cases_eq, cases_lt}
use Rattle.std.proofs.lemmas.List.{take_all, drop_all}
use Rattle.std.proofs.lemmas.List.Elements.{All-nil, All-push, Contains-append_left, Contains-push, filter_map-append}
use Rattle.std.proofs.lemmas.List.Quantifiers.{all_pairs_push}
use Rattle.std.proofs.lemmas.Option.{slice_get_within}
use Rattle.certificate_checker.specs.declared.done.Done.{Done}
use Rattle.trace_file.specs.declared.call.Call.{Call}
use Rattle.certificate_checker.specs.Orders.{IsOrder}
use Rattle.certificate_checker.specs.Lanes.{calls_of, PointsRise, Stamped, stamp, stamped, ComesFirst, IsLaidOut}
use Rattle.certificate_checker.proofs.public_laws.Accepting.{found_at}
use Rattle.certificate_checker.proofs.public_laws.Listing.{member_at, all_member, pairs_from, pairs_at}
use Rattle.history_recorder.specs.declared.lane_head.LaneHead.{LaneHead}
use Rattle.history_recorder.specs.declared.next_call.NextCall.{NextCall}
use Rattle.history_recorder.specs.Merging.{first_of, stamped_at, ListsAll, AreHeads, AtTheFirst, IsNext, IsFirst, IsFirstBelow, ListsNext, IsListed, ListsSoFar}
use Rattle.history_recorder.proofs.public_laws.Stamps.{set_here, set_there, as_many, mark_of, place_of}
use Rattle.history_recorder.proofs.Firsts.{never_itself, first_through}

-- ---- listed positions

-- the stamped call at a listed position is of the head's lane
listed_mark : (lanes : List (List Done)) (heads : List LaneHead) → AreHeads lanes heads → (p : ℕ) (l : IsListed heads p) → (d : Done) × (slice_get (stamped lanes) p ≡ Some (stamp l.number d))
listed_mark lanes heads are p l =
    let counted = slice_get_within heads l.number l.head l.found in
    let count = are.count in
    let lane = found_at lanes l.number (omega (arith, counted, count)) in
    let within = are.within l.number l.head lane.0 l.found lane.1 in
    let from = l.from_first in
    let before = l.before_next in
    let call = found_at lane.0 (p - l.head.first) (omega (arith, within, from, before)) in
    let first = are.first l.number l.head l.found in (
      call.0,
      mark_of lanes l.number (p - l.head.first) p lane.0 call.0 lane.1 call.1 (omega (arith, first, from)),
    )

pub listed_within : (lanes : List (List Done)) (heads : List LaneHead) → AreHeads lanes heads → (p : ℕ) → IsListed heads p → p < length (flat_map calls_of lanes)
listed_within lanes heads are p l =
    let mark = listed_mark lanes heads are p l in
    let within = slice_get_within (stamped lanes) p (stamp l.number mark.0) mark.1 in
    let many = as_many 0 lanes in
    omega (arith, within, many)

-- the position of a next call
pub next_mark : (lanes : List (List Done)) (heads : List LaneHead) → AreHeads lanes heads → (number : ℕ) (done : Done) (next : IsNext lanes heads number done) → slice_get (stamped lanes) (next.head.first + next.head.listed) ≡ Some (stamp number done)
next_mark lanes heads are number done next =
    let first = are.first number next.head next.in_heads in
    mark_of lanes number next.head.listed (next.head.first + next.head.listed) next.lane done next.in_lanes next.is (ap (λ n. n + next.head.listed) first)

pub next_within : (lanes : List (List Done)) (heads : List LaneHead) → AreHeads lanes heads → (number : ℕ) (done : Done) (next : IsNext lanes heads number done) → next.head.first + next.head.listed < length (flat_map calls_of lanes)
next_within lanes heads are number done next =
    let within = slice_get_within (stamped lanes) (next.head.first + next.head.listed) (stamp number done) (next_mark lanes heads are number done next) in
    let many = as_many 0 lanes in
    omega (arith, within, many)

-- a position fits its type if there are few calls
pub position_fits : (lanes : List (List Done)) (heads : List LaneHead) (certificate : List ℕ) (next : NextCall) → ListsSoFar lanes heads certificate → IsFirst lanes heads (length lanes) next → length (flat_map calls_of lanes) ≤ 2 ^ 28 → IsSomeAnd (slice_get heads next.lane) (λ head. head.first + head.listed < 2 ^ 32)
position_fits lanes heads certificate next so_far first few =
    let within = next_within lanes heads so_far.are_heads next.lane first.done first.is_next in
    let found = first.is_next.in_heads in
    rw found (omega (arith, within, few))

-- ---- the calls that are left

-- how many calls of the lanes are not listed
abbrev pub left : List (List Done) → List LaneHead → ℕ
left [] heads = 0
left (lane ∷ lanes) [] = 0
left (lane ∷ lanes) (head ∷ heads) = (length lane - head.listed) + left lanes heads

pub left_less : (lanes : List (List Done)) (heads : List LaneHead) (number : ℕ) (lane : List Done) (head : LaneHead) → slice_get lanes number ≡ Some lane → slice_get heads number ≡ Some head → head.listed < length lane → left lanes (set heads number (record { first = head.first; listed = head.listed + 1 })) < left lanes heads
left_less [] heads number lane head in_lanes in_heads less = cc
left_less (one ∷ lanes) [] number lane head in_lanes in_heads less = cc
left_less (one ∷ lanes) (other ∷ heads) zero lane head in_lanes in_heads less =
    let l : one ≡ lane = cc in
    let h : other ≡ head = cc in
    let len = ap length l in
    let listed = ap (λ (x : LaneHead). x.listed) h in
    omega (arith, len, listed, less)
left_less (one ∷ lanes) (other ∷ heads) (suc number) lane head in_lanes in_heads less =
    let rest = left_less lanes heads number lane head in_lanes in_heads less in
    omega (arith, rest)

-- ---- one call more

module _ (lanes : List (List Done)) (old new : List LaneHead) (certificate : List ℕ) (next : NextCall) (position : ℕ) (rise : All PointsRise lanes) (so_far : ListsSoFar lanes old certificate) (first : IsFirst lanes old (length lanes) next) (moved : ListsNext old new next.lane position) where
  same_head : moved.head ≡ first.is_next.head
  same_head = let both : Some moved.head ≡ Some first.is_next.head = sym moved.found ∙ first.is_next.in_heads in cc

  -- the position is that of the next call
  at : position ≡ first.is_next.head.first + first.is_next.head.listed
  at = moved.at ∙ (λ i. (same_head i).first + (same_head i).listed)

  mark : slice_get (stamped lanes) position ≡ Some (stamp next.lane first.done)
  mark = ap (slice_get (stamped lanes)) at ∙ next_mark lanes old so_far.are_heads next.lane first.done first.is_next

  -- the heads after it
  here : slice_get new next.lane ≡ Some (record { first = moved.head.first; listed = moved.head.listed + 1 })
  here =
      ap (λ heads. slice_get heads next.lane) moved.moved
      ∙ set_here old next.lane (record { first = moved.head.first; listed = moved.head.listed + 1 }) moved.head moved.found

  there : (number : ℕ) → number ≢ next.lane → slice_get new number ≡ slice_get old number
  there number ne =
      ap (λ heads. slice_get heads number) moved.moved
      ∙ set_there old next.lane number (record { first = moved.head.first; listed = moved.head.listed + 1 }) ne

  here_is : (head : LaneHead) → slice_get new next.lane ≡ Some head → (head.first ≡ first.is_next.head.first) × (head.listed ≡ first.is_next.head.listed + 1)
  here_is head is =
      let same : head ≡ record { first = moved.head.first; listed = moved.head.listed + 1 } = (let both : Some head ≡ Some (record { first = moved.head.first; listed = moved.head.listed + 1 }) = sym is ∙ here in cc) in (
        ap (λ (h : LaneHead). h.first) same ∙ ap (λ (h : LaneHead). h.first) same_head,
        ap (λ (h : LaneHead). h.listed) same ∙ ap (λ (h : LaneHead). h.listed + 1) same_head,
      )

  are_heads : AreHeads lanes new
  are_heads = record {
    count =
        ap length moved.moved
        ∙ length-set old next.lane (record { first = moved.head.first; listed = moved.head.listed + 1 })
        ∙ so_far.are_heads.count;
    first = λ number head is. elim (cases_eq number next.lane) [
      | inl same ↦
          (here_is head (subst (λ n. slice_get new n ≡ Some head) same is)).0
          ∙ so_far.are_heads.first next.lane first.is_next.head first.is_next.in_heads
          ∙ ap (first_of lanes) (sym same)
      | inr ne ↦ so_far.are_heads.first number head (sym (there number ne) ∙ is)
    ];
    within = λ number head lane is found. elim (cases_eq number next.lane) [
      | inl same ↦
          let l : first.is_next.lane ≡ lane = (let both : Some first.is_next.lane ≡ Some lane = sym first.is_next.in_lanes ∙ ap (slice_get lanes) (sym same) ∙ found in cc) in
          let len = ap length l in
          let less = slice_get_within first.is_next.lane first.is_next.head.listed first.done first.is_next.is in
          let listed = (here_is head (subst (λ n. slice_get new n ≡ Some head) same is)).1 in
          omega (arith, len, less, listed)
      | inr ne ↦ so_far.are_heads.within number head lane (sym (there number ne) ∙ is) found
    ];
  }

  -- ---- what is listed then

  listed_before : (p : ℕ) → IsListed new p → IsListed old p ⊎ (p ≡ position)
  listed_before p l = elim (cases_eq l.number next.lane) [
    | inl same ↦
        let head = here_is l.head (subst (λ n. slice_get new n ≡ Some l.head) same l.found) in
        let begins = head.0 in
        let listed = head.1 in
        let from = l.from_first in
        let before = l.before_next in
        let place = at in
        elim (cases_eq p position) [
          | inl e ↦ inr e
          | inr ne ↦ inl (record {
            number = next.lane;
            head = first.is_next.head;
            found = first.is_next.in_heads;
            from_first = omega (arith, begins, from);
            before_next = omega (arith, begins, listed, before, place, ne);
          })
        ]
    | inr ne ↦ inl (record {
      number = l.number;
      head = l.head;
      found = sym (there l.number ne) ∙ l.found;
      from_first = l.from_first;
      before_next = l.before_next;
    })
  ]

  still_listed : (p : ℕ) → IsListed old p → IsListed new p
  still_listed p l = elim (cases_eq l.number next.lane) [
    | inl same ↦
        let h : l.head ≡ moved.head = (let both : Some l.head ≡ Some moved.head = sym l.found ∙ ap (slice_get old) same ∙ moved.found in cc) in
        let begins = ap (λ (x : LaneHead). x.first) h in
        let listed = ap (λ (x : LaneHead). x.listed) h in
        let from = l.from_first in
        let before = l.before_next in
        record {
          number = next.lane;
          head = record { first = moved.head.first; listed = moved.head.listed + 1 };
          found = here;
          from_first = omega (arith, begins, from);
          before_next = omega (arith, begins, listed, before);
        }
    | inr ne ↦ record {
      number = l.number;
      head = l.head;
      found = there l.number ne ∙ l.found;
      from_first = l.from_first;
      before_next = l.before_next;
    }
  ]

  now_listed : IsListed new position
  now_listed =
      let place = moved.at in
      record {
        number = next.lane;
        head = record { first = moved.head.first; listed = moved.head.listed + 1 };
        found = here;
        from_first = omega (arith, place);
        before_next = omega (arith, place);
      }

  not_yet : ¬ IsListed old position
  not_yet l =
      let other = listed_mark lanes old so_far.are_heads position l in
      let same : l.number ≡ next.lane = (let both : Some (stamp l.number other.0) ≡ Some (stamp next.lane first.done) = sym other.1 ∙ mark in let stamps : stamp l.number other.0 ≡ stamp next.lane first.done = cc in ap (λ (s : Stamped). s.lane) stamps) in
      let h : l.head ≡ first.is_next.head = (let both : Some l.head ≡ Some first.is_next.head = sym l.found ∙ ap (slice_get old) same ∙ first.is_next.in_heads in cc) in
      let begins = ap (λ (x : LaneHead). x.first) h in
      let listed = ap (λ (x : LaneHead). x.listed) h in
      let before = l.before_next in
      let place = at in
      omega (arith, begins, listed, before, place)

  -- ---- what is next then

  next_before : (number : ℕ) (d : Done) → IsNext lanes new number d → IsNext lanes old number d ⊎ ((number ≡ next.lane) × (first.done.point < d.point))
  next_before number d n = elim (cases_eq number next.lane) [
    | inl same ↦
        let l : n.lane ≡ first.is_next.lane = (let both : Some n.lane ≡ Some first.is_next.lane = sym n.in_lanes ∙ ap (slice_get lanes) same ∙ first.is_next.in_lanes in cc) in
        let listed = (here_is n.head (subst (λ k. slice_get new k ≡ Some n.head) same n.in_heads)).1 in
        let found : slice_get first.is_next.lane n.head.listed ≡ Some d = subst (λ lane. slice_get lane n.head.listed ≡ Some d) l n.is in
        let rises : PointsRise first.is_next.lane = all_member PointsRise lanes first.is_next.lane rise (member_at lanes next.lane first.is_next.lane first.is_next.in_lanes) in
        let R : Done → Done → Type 0 = λ a b. a.point < b.point in
        inr (same, pairs_at R first.is_next.lane first.is_next.head.listed n.head.listed first.done d (omega (arith, listed)) first.is_next.is found (pairs_from R first.is_next.lane rises))
    | inr ne ↦ inl (record {
      lane = n.lane;
      head = n.head;
      in_lanes = n.in_lanes;
      in_heads = sym (there number ne) ∙ n.in_heads;
      is = n.is;
    })
  ]

  -- a next call comes after the one that is listed
  after_this : (number : ℕ) (d : Done) → IsNext lanes new number d → ¬ ComesFirst (stamp number d) (stamp next.lane first.done)
  after_this number d n earlier = elim (next_before number d n) [
    | inl before ↦
        let less = slice_get_within lanes number before.lane before.in_lanes in
        first.first number d less before earlier
    | inr later ↦
        never_itself (stamp next.lane first.done) (first_through (stamp next.lane first.done) (stamp number d) (stamp next.lane first.done) (inl later.1) earlier)
  ]

  -- and after those before it
  after_those : (s : Stamped) → ((number : ℕ) (d : Done) → IsNext lanes old number d → ¬ ComesFirst (stamp number d) s) → (number : ℕ) (d : Done) → IsNext lanes new number d → ¬ ComesFirst (stamp number d) s
  after_those s before number d n earlier = elim (next_before number d n) [
    | inl old_next ↦ before number d old_next earlier
    | inr later ↦ before next.lane first.done first.is_next (first_through (stamp next.lane first.done) (stamp number d) s (inl later.1) earlier)
  ]

  -- ---- the certificate

  stamped_more : stamped_at lanes (certificate ++ position ∷ []) ≡ stamped_at lanes certificate ++ stamp next.lane first.done ∷ []
  stamped_more =
      let one : stamped_at lanes (position ∷ []) ≡ stamp next.lane first.done ∷ [] = rw mark refl in
      filter_map-append (slice_get (stamped lanes)) certificate (position ∷ []) ∙ ap (λ s. stamped_at lanes certificate ++ s) one

  pub lists_more : ListsSoFar lanes new (certificate ++ position ∷ [])
  lists_more = record {
    are_heads = are_heads;
    only = All-push (IsListed new) certificate position (λ k d less. still_listed (get_or certificate k d) (so_far.only k d less)) now_listed;
    each = λ p l. elim (listed_before p l) [
      | inl before ↦ Contains-append_left certificate (position ∷ []) p (so_far.each p before)
      | inr same ↦ subst (Contains (certificate ++ position ∷ [])) (sym same) (Contains-push certificate position)
    ];
    once = all_pairs_push (λ p q. p ≢ q) certificate position so_far.once (λ k d less e. not_yet (subst (IsListed old) e (so_far.only k d less)));
    by_point = subst (AllPairs (λ (a b : Stamped). ¬ ComesFirst b a)) (sym stamped_more) (all_pairs_push (λ (a b : Stamped). ¬ ComesFirst b a) (stamped_at lanes certificate) (stamp next.lane first.done) so_far.by_point (λ k d less. so_far.before_next k d less next.lane first.done first.is_next));
    before_next = subst (All (λ (s : Stamped). (number : ℕ) (d : Done) → IsNext lanes new number d → ¬ ComesFirst (stamp number d) s)) (sym stamped_more) (All-push (λ (s : Stamped). (number : ℕ) (d : Done) → IsNext lanes new number d → ¬ ComesFirst (stamp number d) s) (stamped_at lanes certificate) (stamp next.lane first.done) (λ k d less. after_those (get_or (stamped_at lanes certificate) k d) (so_far.before_next k d less)) after_this);
  }

  pub fewer_left : left lanes new < left lanes old
  fewer_left =
      let less = slice_get_within first.is_next.lane first.is_next.head.listed first.done first.is_next.is in
      let listed = ap (λ (x : LaneHead). x.listed) same_head in
      subst (λ heads. left lanes heads < left lanes old) (sym moved.moved) (left_less lanes old next.lane first.is_next.lane moved.head first.is_next.in_lanes moved.found (omega (arith, less, listed)))

pub moved_len : (old new : List LaneHead) (number position : ℕ) → ListsNext old new number position → length new ≡ length old
moved_len old new number position moved =
    ap length moved.moved
    ∙ length-set old number (record { first = moved.head.first; listed = moved.head.listed + 1 })

-- what is written over a whole list is all of it
pub all_written : (old new : List LaneHead) (len : ℕ) → len ≡ length old → length new ≡ length old → take len (new ++ drop (length new) old) ≡ new
all_written old new len counted same =
    let none : drop (length new) old ≡ [] = drop_all (length new) old (omega (arith, same)) in
    let all : new ++ drop (length new) old ≡ new = ap (λ rest. new ++ rest) none ∙ append-nil new in
    ap (take len) all ∙ take_all len new (omega (arith, counted, same))

-- ---- the beginning and the end

pub lists_none : (lanes : List (List Done)) (heads : List LaneHead) → AtTheFirst lanes heads → ListsSoFar lanes heads []
lists_none lanes heads start = record {
  are_heads = start.are_heads;
  only = All-nil (IsListed heads);
  each = λ p l.
      let none = all_member (λ (h : LaneHead). h.listed ≡ 0) heads l.head start.none_listed (member_at heads l.number l.head l.found) in
      let from = l.from_first in
      let before = l.before_next in
      absurd (omega (arith, none, from, before));
  once = λ i j d less within. absurd (let no : j < 0 = within in omega arith);
  by_point = λ i j d less within. absurd (let no : j < 0 = within in omega arith);
  before_next = All-nil (λ (s : Stamped). (number : ℕ) (d : Done) → IsNext lanes heads number d → ¬ ComesFirst (stamp number d) s);
}

pub lists_all : (lanes : List (List Done)) (heads : List LaneHead) (certificate : List ℕ) → ListsSoFar lanes heads certificate → IsFirstBelow lanes heads (length lanes) None → ListsAll lanes certificate
lists_all lanes heads certificate so_far none = record {
  spelled = record {
    positions = λ k d less. listed_within lanes heads so_far.are_heads (get_or certificate k d) (so_far.only k d less);
    each = λ p less.
        let place = place_of lanes p less in
        let is = place.is in
        let numbered = slice_get_within lanes place.number place.lane place.found in
        let count = so_far.are_heads.count in
        let head = found_at heads place.number (omega (arith, numbered, count)) in
        let first = so_far.are_heads.first place.number head.0 head.1 in
        elim (cases_lt place.place head.0.listed) [
          | inl listed ↦ so_far.each p (record {
            number = place.number;
            head = head.0;
            found = head.1;
            from_first = omega (arith, first, is);
            before_next = omega (arith, first, is, listed);
          })
          | inr waits ↦
              let within = place.within in
              let call = found_at place.lane head.0.listed (omega (arith, waits, within)) in
              absurd (none place.number call.0 numbered (record {
                lane = place.lane;
                head = head.0;
                in_lanes = place.found;
                in_heads = head.1;
                is = call.1;
              }))
        ];
    once = so_far.once;
  };
  by_point = so_far.by_point;
}

pub laid_out : (lanes : List (List Done)) (history : List Call) (certificate : List ℕ) → history ≡ flat_map calls_of lanes → ListsAll lanes certificate → IsLaidOut lanes history certificate
laid_out lanes history certificate calls lists = record {
  calls = calls;
  spelled = subst (λ h. IsOrder h certificate) (sym calls) lists.spelled;
  by_point = lists.by_point;
}
