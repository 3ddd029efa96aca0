-- What the hits of a history read that is accepted after some deeds.
use Rattle.std.proofs.Common.{◌≡◌, ◌≢◌, ℕ, ◌+◌, ◌-◌, ◌<◌, ◌≤◌, Some, List, [], ◌∷◌, ◌++◌, length, refl, sym, ap, ◌∙◌, subst, arith, inl, inr, ◌⊎◌}
use Rattle.std.specs.Prelude.{All, filter, IsTrue, eqb, map, nat_lt, slice_get}
use Rattle.std.proofs.lemmas.Bool.{cases_lt, eq-eqb, or_right}
use Rattle.std.proofs.lemmas.List.{length-append, map-append}
use Rattle.std.proofs.lemmas.List.Elements.{filter_map-append}
use Rattle.std.proofs.lemmas.Option.{same_Some, slice_get_within}
use Rattle.record_pages.specs.Expiry.{is_live, never}
use Rattle.trace_file.specs.declared.act.Act.TheVariants.{Put, Hit}
use Rattle.trace_file.specs.declared.call.Call.{Call}
use Rattle.certificate_checker.specs.Deeds.{Deed, deed_of}
use Rattle.certificate_checker.specs.Latest.{IsLawful, Writes}
use Rattle.certificate_checker.specs.Orders.{Precedes, in_order}
use Rattle.certificate_checker.proofs.public_laws.Listing.{Member, all_member, contained_member, filter_member, member_all, member_at, member_contained, member_either, member_filter, member_left, member_map, member_picked, member_right, pairs_append, pairs_filter, pairs_from}
use Rattle.certificate_finder.specs.WarmLaws.{AreNew, IsAcceptedAfter}
use Rattle.certificate_finder.specs.Warming.{PutsAt}
use Rattle.history_window.specs.Standing.{Acceptable}
use Rattle.history_window.proofs.Ahead.{Ahead, Once, ahead_across, ahead_append, ahead_either, ahead_filter, ahead_right, ahead_strict, filter_ahead, first_member, second_member}
use Rattle.history_window.proofs.CallLemmas.{no_write, put_writes}
use Rattle.history_window.proofs.Keeping.{at_history, at_whole, in_later, in_list, is_in, list_in, look_right}
use Rattle.history_window.proofs.Lining.{AgreesLine, IsLawfulLine, ReadsIn, agrees_to, lawful_to}
use Rattle.history_window.proofs.Picking.{in_run, line_accepted, look_after, run, run_from, run_once, run_picks, same_picks}

-- a deed as a call before all others
done_by : Deed → Call
done_by deed = record { caller = 0; start = 0; end = 0; key = deed.key; act = deed.act }

deeds_back : (past : List Deed) → map deed_of (map done_by past) ≡ past
unfolding done_by
deeds_back [] = refl
deeds_back (deed ∷ past) = ap (λ ds. deed ∷ ds) (deeds_back past)

ever_live : (moment : ℕ) → IsTrue (is_live never moment)
ever_live moment = or_right (nat_lt moment never) (eqb never never) (eq-eqb never never refl)

module _ (past : List Deed) (all : List Call) (certificate : List ℕ) (new : AreNew past all) (a : IsAcceptedAfter past all certificate) where
  deeds : List Call
  deeds = map done_by past

  pub joined : List Call
  joined = all ++ deeds

  pub front : List ℕ
  front = run (length all) (length deeds)

  pub line : List ℕ
  line = front ++ certificate

  below : (p : ℕ) → Member p certificate → p < length all
  below p m = all_member (λ q. q < length all) certificate p a.spelled.positions m

  pub listed : (p : ℕ) → p < length all → Member p certificate
  listed p less = member_contained certificate p (a.spelled.each p less)

  front_from : (p : ℕ) → Member p front → length all ≤ p
  unfolding front
  front_from p m = (run_from (length all) (length deeds) p m).0

  once : Once certificate
  once = pairs_from (λ (p q : ℕ). p ≢ q) certificate a.spelled.once

  once_line : Once line
  unfolding line front
  once_line = pairs_append (λ (p q : ℕ). p ≢ q) front certificate (run_once (length all) (length deeds)) once (λ p q m n same.
      let from = front_from p m in
      let less = below q n in
      omega (arith, from, less, same))

  in_turn : map deed_of (in_order joined line) ≡ past ++ map deed_of (in_order all certificate)
  unfolding joined line front deeds
  in_turn =
      ap (map deed_of) (filter_map-append (slice_get joined) front certificate
      ∙ ap (λ (cs : List Call). cs ++ in_order joined certificate) (run_picks all deeds)
      ∙ ap (λ (cs : List Call). deeds ++ cs) (same_picks all deeds certificate below))
      ∙ map-append deed_of deeds (in_order all certificate)
      ∙ ap (λ (ds : List Deed). ds ++ map deed_of (in_order all certificate)) (deeds_back past)

  lawful : IsLawfulLine joined line
  lawful = lawful_to joined line once_line (subst IsLawful (sym in_turn) a.lawful)

  pub agrees : AgreesLine all certificate
  agrees = agrees_to all certificate once a.agrees

  -- what a hit reads
  pub reads : (p : ℕ) (call : Call) (value : List ℕ) (moment : ℕ) → slice_get all p ≡ Some call → call.act ≡ Hit value moment → ReadsIn joined line p call.key value moment
  unfolding joined line
  reads p call value moment at is = lawful p call value moment (member_right front certificate p (listed p (slice_get_within all p call at))) (at_whole all deeds p call at) is

  -- calls of the history stand in the line as in the certificate
  in_certificate : (p q : ℕ) → p < length all → Ahead line p q → Ahead certificate p q
  unfolding line
  in_certificate p q less ahead = elim (ahead_append front certificate p q ahead) [
    | inl early ↦ let from = front_from p (first_member front p q early) in absurd (omega (arith, from, less))
    | inr rest ↦ elim rest [
      | inl across ↦ let from = front_from p across.0 in absurd (omega (arith, from, less))
      | inr late ↦ late
    ]
  ]

  -- none of them stands ahead of a deed of the past
  not_ahead : (p q : ℕ) → p < length all → length all ≤ q → ¬ Ahead line p q
  not_ahead p q less from ahead =
      let high = below q (second_member certificate p q (in_certificate p q less ahead)) in
      omega (arith, from, high)

  pub put_at : (p : ℕ) (call : Call) → p < length all → slice_get joined p ≡ Some call → slice_get all p ≡ Some call
  unfolding joined
  put_at p call less at = at_history all deeds p call less at

  pub at_joined : (p : ℕ) (call : Call) → slice_get all p ≡ Some call → slice_get joined p ≡ Some call
  unfolding joined
  at_joined p call at = at_whole all deeds p call at

  in_front : (q p : ℕ) → length all ≤ q → Ahead line q p → Member q front
  unfolding line
  in_front q p from ahead = elim (member_either front certificate q (first_member line q p ahead)) [
    | inl m ↦ m
    | inr m ↦ let less = below q m in absurd (omega (arith, from, less))
  ]

  across : (q p : ℕ) → Member q front → p < length all → Ahead line q p
  unfolding line
  across q p m less = ahead_across front certificate q p m (listed p less)

  -- a value of the past is the last one there of a key
  pub record Comes (key value : List ℕ) : Type 0 where
    pub put : ℕ
    pub call : Call
    pub expires : ℕ
    pub at : slice_get joined put ≡ Some call
    pub from : length all ≤ put
    pub there : Member put front
    pub one_key : call.key ≡ key
    pub is : call.act ≡ Put value expires
    pub last : (other : ℕ) (write : Call) → slice_get joined other ≡ Some write → Member other front → Writes (deed_of write) key → (other ≡ put) ⊎ Ahead line other put

  pub comes_of : (p : ℕ) (key value : List ℕ) (moment : ℕ) → p < length all → (r : ReadsIn joined line p key value moment) → length all ≤ r.put → Comes key value
  comes_of p key value moment less r from = record {
    put = r.put;
    call = r.call;
    expires = r.expires;
    at = r.at;
    from = from;
    there = in_front r.put p from r.ahead;
    one_key = r.one_key;
    is = r.is;
    last = λ other write at m writes. r.last other write at writes (across other p m less);
  }

  writes_of : (key value : List ℕ) (c : Comes key value) → Writes (deed_of c.call) key
  writes_of key value c = (c.one_key, put_writes c.call.act value c.expires c.is)

  pub one_value : (key value other : List ℕ) → Comes key value → Comes key other → value ≡ other
  one_value key value other one two =
      let same : one.put ≡ two.put = elim (two.last one.put one.call one.at one.there (writes_of key value one)) [
        | inl e ↦ e
        | inr ahead ↦ elim (one.last two.put two.call two.at two.there (writes_of key other two)) [
          | inl e ↦ sym e
          | inr back ↦ absurd (ahead_strict line one.put two.put once_line ahead back)
        ]
      ] in
      let calls = same_Some one.call two.call (sym one.at ∙ ap (slice_get joined) same ∙ two.at) in
      let acts : Put value one.expires ≡ Put other two.expires = sym one.is ∙ ap (λ (c : Call). c.act) calls ∙ two.is in
      cc

  -- no put of the history puts it again
  pub not_again : (key value : List ℕ) → Comes key value → All (λ call. ¬ PutsAt key value call) all
  unfolding joined deeds done_by
  not_again key value c =
      let source = member_map done_by past c.call (in_later all deeds c.put c.call c.from c.at) in
      let keys : source.0.key ≡ key = ap (λ (d : Call). d.key) (sym source.2) ∙ c.one_key in
      subst (λ k. All (λ call. ¬ PutsAt k value call) all) keys (new source.0 value c.expires (contained_member past source.0 source.1) (ap (λ (d : Call). d.act) (sym source.2) ∙ c.is))

  -- a hit does not precede what it reads of the history
  pub begun : (p : ℕ) (call : Call) (key value : List ℕ) (moment : ℕ) → slice_get all p ≡ Some call → (r : ReadsIn joined line p key value moment) → r.put < length all → ¬ Precedes call r.call
  begun p call key value moment at r less = agrees r.put p r.call call (in_certificate r.put p less r.ahead) (put_at r.put r.call less r.at) at

  -- no write of its key precedes a hit that reads a value of the past
  pub unwritten : (p : ℕ) (call : Call) (key value : List ℕ) (moment : ℕ) → slice_get all p ≡ Some call → call.act ≡ Hit value moment → (r : ReadsIn joined line p key value moment) → length all ≤ r.put → (q : ℕ) (write : Call) → slice_get all q ≡ Some write → Writes (deed_of write) key → ¬ Precedes write call
  unfolding line
  unwritten p call key value moment at is r from q write there writes before =
      let less_p = slice_get_within all p call at in
      let less_q = slice_get_within all q write there in
      elim (ahead_either certificate q p (listed q less_q) (listed p less_p) apart) [
        | inl first ↦ elim (r.last q write (at_joined q write there) writes (ahead_right front certificate q p first)) [
          | inl same ↦ omega (arith, same, from, less_q)
          | inr sooner ↦ not_ahead q r.put less_q from sooner
        ]
        | inr later ↦ agrees p q call write later at there before
      ]
    where
      apart : q ≢ p
      apart same =
          let mine = same_Some write call (sym there ∙ ap (slice_get all) same ∙ at) in
          no_write call.act value moment is (subst (λ (c : Call). Writes (deed_of c) key) mine writes).1

  -- it reads of the history or of the past, and not of both
  pub one_way : (p : ℕ) (key value other : List ℕ) (moment another : ℕ) (r : ReadsIn joined line p key value moment) (s : ReadsIn joined line p key other another) → r.put < length all → length all ≤ s.put → ⊥
  one_way p key value other moment another r s less from = elim (s.last r.put r.call r.at (r.one_key, put_writes r.call.act value r.expires r.is) r.ahead) [
    | inl same ↦ omega (arith, same, less, from)
    | inr before ↦ not_ahead r.put s.put less from before
  ]

  -- ---- the history with puts in place of the past

  -- a put is added for a value of the past
  pub record IsTruly (put : Call) : Type 0 where
    pub value : List ℕ
    pub comes : Comes put.key value
    pub is : put.act ≡ Put value never
    pub start : put.start ≡ 0

  module _ (puts : List Call) (count : ℕ) (few : count ≤ length puts) (truly : (j : ℕ) (put : Call) → j < count → slice_get puts j ≡ Some put → IsTruly put) (apart : (i j : ℕ) (one other : Call) → i < count → j < count → slice_get puts i ≡ Some one → slice_get puts j ≡ Some other → one.key ≡ other.key → i ≡ j) (chosen : List ℕ) (chosen_below : (p : ℕ) → Member p chosen → p < length all) where
    abbrev whole : List Call
    whole = all ++ puts

    abbrev added : List ℕ
    added = run (length all) count

    abbrev rest : List ℕ
    rest = filter (is_in chosen) certificate

    -- each hit that is chosen reads a put that is chosen, or a value of the past of a key of which a put was added
    abbrev pub AreClosed : Type 0
    AreClosed = (p : ℕ) (call : Call) (value : List ℕ) (moment : ℕ) → Member p chosen → slice_get all p ≡ Some call → call.act ≡ Hit value moment → (r : ReadsIn joined line p call.key value moment) → (r.put < length all → Member r.put chosen) × (length all ≤ r.put → (j : ℕ) × (put : Call) × (j < count) × (slice_get puts j ≡ Some put) × (put.key ≡ call.key))

    added_from : (p : ℕ) → Member p added → (length all ≤ p) × (p < length all + count)
    added_from p m = run_from (length all) count p m

    added_put : (p : ℕ) (call : Call) → Member p added → slice_get whole p ≡ Some call → (j : ℕ) × (p ≡ length all + j) × (j < count) × (slice_get puts j ≡ Some call)
    added_put p call m at =
        let both = added_from p m in
        let low = both.0 in
        let high = both.1 in
        (p - length all, omega (arith, low), omega (arith, low, high), sym (look_right all puts p (p - length all) (omega (arith, low))) ∙ at)

    rest_chosen : (p : ℕ) → Member p rest → Member p chosen
    rest_chosen p m = in_list chosen p (member_filter (is_in chosen) certificate p m).1

    in_rest : (p : ℕ) → Member p chosen → Member p rest
    in_rest p m = filter_member (is_in chosen) certificate p (listed p (chosen_below p m)) (list_in chosen p m)

    new_once : Once (added ++ rest)
    new_once = pairs_append (λ (p q : ℕ). p ≢ q) added rest (run_once (length all) count) (pairs_filter (is_in chosen) (λ (p q : ℕ). p ≢ q) certificate once) (λ p q m n same.
        let from = (added_from p m).0 in
        let less = chosen_below q (rest_chosen q n) in
        omega (arith, from, less, same))

    at_all : (p : ℕ) (call : Call) → Member p rest → slice_get whole p ≡ Some call → slice_get all p ≡ Some call
    at_all p call m at = at_history all puts p call (chosen_below p (rest_chosen p m)) at

    zero_start : (p : ℕ) (call : Call) → Member p added → slice_get whole p ≡ Some call → call.start ≡ 0
    zero_start p call m at =
        let put = added_put p call m at in
        (truly put.0 call put.2 put.3).start

    new_agrees : AgreesLine whole (added ++ rest)
    new_agrees p q one other ahead at_p at_q before = elim (ahead_append added rest p q ahead) [
      | inl early ↦ let start = zero_start p one (first_member added p q early) at_p in omega (arith, start, before)
      | inr late ↦ elim late [
        | inl both ↦ let start = zero_start p one both.0 at_p in omega (arith, start, before)
        | inr within ↦ agrees p q one other (ahead_filter (is_in chosen) certificate p q within) (at_all p one (first_member rest p q within) at_p) (at_all q other (second_member rest p q within) at_q) before
      ]
    ]

    module _ (closed : AreClosed) (p : ℕ) (call : Call) (value : List ℕ) (moment : ℕ) (m : Member p rest) (at : slice_get all p ≡ Some call) (is : call.act ≡ Hit value moment) where
      abbrev r : ReadsIn joined line p call.key value moment
      r = reads p call value moment at is

      less_p : p < length all
      less_p = chosen_below p (rest_chosen p m)

      -- a write of the key that stands ahead of it there stood ahead before
      sooner : (other : ℕ) (write : Call) → Ahead rest other p → slice_get whole other ≡ Some write → Writes (deed_of write) call.key → (other ≡ r.put) ⊎ Ahead line other r.put
      unfolding line
      sooner other write ahead there writes =
          let here = at_all other write (first_member rest other p ahead) there in
          r.last other write (at_joined other write here) writes (ahead_right front certificate other p (ahead_filter (is_in chosen) certificate other p ahead))

      from_all : r.put < length all → ReadsIn whole (added ++ rest) p call.key value moment
      from_all less =
          let chosen_put = (closed p call value moment (rest_chosen p m) at is r).0 less in
          let there = put_at r.put r.call less r.at in
          record {
            put = r.put;
            call = r.call;
            expires = r.expires;
            at = at_whole all puts r.put r.call there;
            one_key = r.one_key;
            is = r.is;
            live = r.live;
            ahead = ahead_right added rest r.put p (filter_ahead (is_in chosen) certificate r.put p (in_certificate r.put p less r.ahead) (list_in chosen r.put chosen_put) (list_in chosen p (rest_chosen p m)));
            last = λ other write at_other writes ahead. elim (ahead_append added rest other p ahead) [
              | inl early ↦ let from = (added_from p (second_member added other p early)).0 in let less_here = less_p in absurd (omega (arith, from, less_here))
              | inr late ↦ elim late [
                | inl both ↦ inr (ahead_across added rest other r.put both.0 (in_rest r.put chosen_put))
                | inr within ↦ elim (sooner other write within at_other writes) [
                  | inl same ↦ inl same
                  | inr before ↦
                      let other_chosen = rest_chosen other (first_member rest other p within) in
                      inr (ahead_right added rest other r.put (filter_ahead (is_in chosen) certificate other r.put (in_certificate other r.put (chosen_below other other_chosen) before) (list_in chosen other other_chosen) (list_in chosen r.put chosen_put)))
                ]
              ]
            ];
          }

      from_past : length all ≤ r.put → ReadsIn whole (added ++ rest) p call.key value moment
      from_past from =
          let put = (closed p call value moment (rest_chosen p m) at is r).1 from in
          let j = put.0 in
          let made = truly j put.1 put.2 put.3 in
          let same_value : made.value ≡ value = one_value call.key made.value value (subst (λ k. Comes k made.value) put.4 made.comes) (comes_of p call.key value moment less_p r from) in
          let less_j = put.2 in
          let there : Member (length all + j) added = in_run (length all) count (length all + j) (omega arith) (omega (arith, less_j)) in
          record {
            put = length all + j;
            call = put.1;
            expires = never;
            at = look_after all puts j put.1 put.3;
            one_key = put.4;
            is = made.is ∙ ap (λ v. Put v never) same_value;
            live = ever_live moment;
            ahead = ahead_across added rest (length all + j) p there m;
            last = λ other write at_other writes ahead. elim (ahead_append added rest other p ahead) [
              | inl early ↦ let low = (added_from p (second_member added other p early)).0 in let less_here = less_p in absurd (omega (arith, low, less_here))
              | inr late ↦ elim late [
                | inl both ↦
                    let one = added_put other write both.0 at_other in
                    let same = apart one.0 j write put.1 one.2 less_j one.3 put.3 (writes.0 ∙ sym put.4) in
                    inl (one.1 ∙ ap (λ n. length all + n) same)
                | inr within ↦
                    let less_other = chosen_below other (rest_chosen other (first_member rest other p within)) in
                    absurd (elim (sooner other write within at_other writes) [
                      | inl same ↦ omega (arith, same, from, less_other)
                      | inr before ↦ not_ahead other r.put less_other from before
                    ])
              ]
            ];
          }

    new_lawful : AreClosed → IsLawfulLine whole (added ++ rest)
    new_lawful closed p call value moment m at is = elim (member_either added rest p m) [
      | inl put ↦
          let one = added_put p call put at in
          let made = truly one.0 call one.2 one.3 in
          let both : Put made.value never ≡ Hit value moment = sym made.is ∙ is in
          absurd cc
      | inr here ↦
          let found = at_all p call here at in
          elim (cases_lt (reads p call value moment found is).put (length all)) [
            | inl less ↦ from_all closed p call value moment here found is less
            | inr from ↦ from_past closed p call value moment here found is from
          ]
    ]

    -- what is chosen is acceptable with the puts
    pub closed_acceptable : AreClosed → (places : List ℕ) → Once places → ((p : ℕ) → Member p places → Member p added ⊎ Member p chosen) → ((p : ℕ) → Member p added → Member p places) → ((p : ℕ) → Member p chosen → Member p places) → Acceptable (in_order whole places)
    closed_acceptable closed places distinct only puts_there chosen_there =
        line_accepted whole places
        (λ p m. elim (only p m) [
          | inl put ↦ let high = (added_from p put).1 in let long = length-append all puts in let f = few in omega (arith, high, long, f)
          | inr here ↦ let less = chosen_below p here in let long = length-append all puts in omega (arith, less, long)
        ])
        distinct (added ++ rest)
        (record {
          only = λ p m. elim (member_either added rest p m) [ inl put ↦ puts_there p put | inr here ↦ chosen_there p (rest_chosen p here) ];
          each = λ p m. elim (only p m) [ inl put ↦ member_left added rest p put | inr here ↦ member_right added rest p (in_rest p here) ];
          once = new_once;
          agrees = new_agrees;
          lawful = new_lawful closed;
        })
        (member_all (λ (c : Call). c.start ≤ c.end) (in_order whole places) (λ c m.
        let at = member_picked (slice_get whole) places c m in
        elim (only at.0 at.1) [
          | inl put ↦ let start = zero_start at.0 c put at.2 in omega (arith, start)
          | inr here ↦ all_member (λ (d : Call). d.start ≤ d.end) all c a.intervals (member_at all at.0 c (at_history all puts at.0 c (chosen_below at.0 here) at.2))
        ]))
