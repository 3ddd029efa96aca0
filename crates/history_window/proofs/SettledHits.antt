-- What is acceptable without settled hits is so with them.
use Rattle.std.proofs.Common.{◌≡◌, ◌≢◌, ℕ, ◌<◌, ◌≤◌, ◌&&◌, Bool, true, false, not, Some, None, List, ◌++◌, length, refl, sym, ap, ◌∙◌, subst, arith, inl, inr}
use Rattle.std.specs.Prelude.{All, filter, nat_lt, slice_get}
use Rattle.std.specs.List.{filter_map, list_any}
use Rattle.std.specs.Cmp.Lexicographic.{bytes_decides}
use Rattle.std.specs.Option.{option_map_or}
use Rattle.std.specs.Str.{bytes_eq}
use Rattle.std.proofs.lemmas.Bool.{and_from, and_parts, cases_Bool, cases_lt, lt-ltb, ltb-true, not-true, not_from_false}
use Rattle.std.proofs.lemmas.List.{length-append}
use Rattle.std.proofs.lemmas.Option.{same_Some, slice_get_within}
use Rattle.trace_file.specs.declared.act.Act.TheVariants.{Put, Hit}
use Rattle.trace_file.specs.declared.call.Call.{Call}
use Rattle.certificate_checker.specs.Deeds.{deed_of}
use Rattle.certificate_checker.specs.Latest.{Writes}
use Rattle.certificate_checker.specs.Orders.{Precedes, in_order}
use Rattle.certificate_checker.proofs.public_laws.Accepting.{found_at}
use Rattle.certificate_checker.proofs.public_laws.Listing.{Member, all_member, filter_member, member_all, member_at, member_contained, member_either, member_filter, member_left, member_right, pairs_append, pairs_filter, pairs_from}
use Rattle.certificate_finder.specs.Spots.{is_miss}
use Rattle.certificate_finder.specs.Turns.{WritesAt}
use Rattle.history_window.specs.Laws.{LinesAreAcceptable}
use Rattle.history_window.specs.Settled.{AreUnsettled, IsLastWrite, IsSettled, IsSettledHit}
use Rattle.history_window.specs.Standing.{Acceptable, MayFollow}
use Rattle.history_window.specs.Windows.{IsBefore}
use Rattle.history_window.proofs.Ahead.{Ahead, Once, ahead_across, ahead_append, ahead_filter, ahead_left, filter_ahead, first_member, second_member}
use Rattle.history_window.proofs.CallLemmas.{end_is, precedes_of, put_writes}
use Rattle.history_window.proofs.Joining.{apart, joined_acceptable, lapses_both, order_of, tail_reads}
use Rattle.history_window.proofs.Keeping.{at_history, at_whole, holds_kept, in_list, is_in, kept_below, kept_calls, late_placed, list_in, places, places_once, places_within, starts_late}
use Rattle.history_window.proofs.Lining.{AgreesLine, IsLawfulLine, ReadsIn, agrees_to, lawful_to, unreplaced}
use Rattle.history_window.proofs.Picking.{IsLineOf, line_of, run, run_from}
use Rattle.history_window.proofs.SettledLemmas.{IsLastOf, act_is, any_of, is_write_of, last_of, of_any, of_write, write_of, write_unsettled}

module _ (bound : ℕ) (history later : List Call) (kept : List ℕ) (unsettled : AreUnsettled bound history kept) (late : All (MayFollow bound history) later) (line : List ℕ) (once : Once line) (below : (p : ℕ) → Member p line → p < length history) (each : (p : ℕ) → p < length history → Member p line) (intervals : All (λ call. call.start ≤ call.end) history) (agrees : AgreesLine history line) (lawful : IsLawfulLine history line) (whole_line : List ℕ) (is : IsLineOf (history ++ later) (places history later kept) whole_line) (lapses : All (λ (call : Call). call.start ≤ call.end) later) where
  abbrev Left : ℕ → Type 0
  Left p = ¬ IsSettledHit bound history p

  abbrev is_gone : ℕ → Bool
  is_gone p = not (is_in kept p)

  abbrev gone : List ℕ
  gone = filter is_gone line

  lapse : (p : ℕ) (call : Call) → slice_get history p ≡ Some call → call.start ≤ call.end
  lapse p call at = all_member (λ (c : Call). c.start ≤ c.end) history call intervals (member_at history p call at)

  listed : (p : ℕ) (call : Call) → slice_get history p ≡ Some call → Member p line
  listed p call at = each p (slice_get_within history p call at)

  gone_left : (p : ℕ) → Member p gone → ¬ Member p kept
  gone_left p m old =
      let stays : is_in kept p ≡ false = not-true (is_in kept p) (member_filter is_gone line p m).1 in
      let both : true ≡ false = sym (list_in kept p old) ∙ stays in
      cc

  -- ---- keys of which some hit is forgotten

  abbrev goes_at : List ℕ → ℕ → Bool
  goes_at key p = option_map_or (λ (call : Call). bytes_eq call.key key) (slice_get history p) false

  abbrev has_gone : List ℕ → Bool
  has_gone key = list_any (goes_at key) gone

  record HasGone (key : List ℕ) : Type 0 where
    hit : ℕ
    call : Call
    goes : Member hit gone
    at : slice_get history hit ≡ Some call
    one_key : call.key ≡ key

  goes_is : (key : List ℕ) (p : ℕ) → Member p gone → goes_at key p ≡ true → HasGone key
  goes_is key p m h =
      elim (slice_get history p) as (λ o. slice_get history p ≡ o → option_map_or (λ (call : Call). bytes_eq call.key key) o false ≡ true → HasGone key) [
        | None ↦ λ found no'. cc
        | Some call ↦ λ found test. record { hit = p; call = call; goes = m; at = found; one_key = (bytes_decides call.key key).0 test }
      ] refl h

  has_gone_is : (key : List ℕ) → has_gone key ≡ true → HasGone key
  has_gone_is key h = let found = any_of (goes_at key) gone h in goes_is key found.0 found.1 found.2

  is_has_gone : (key : List ℕ) → HasGone key → has_gone key ≡ true
  is_has_gone key has = of_any (goes_at key) gone has.hit has.goes (ap (λ o. option_map_or (λ (call : Call). bytes_eq call.key key) o false) has.at ∙ (bytes_decides has.call.key key).1 has.one_key)

  settled_of : (key : List ℕ) → HasGone key → ¬ ¬ IsSettled bound history key
  settled_of key has not = gone_left has.hit has.goes (holds_kept history later Left kept unsettled has.hit (slice_get_within history has.hit has.call has.at) (λ hit.
      let keys : hit.key ≡ key = sym hit.is.one_key ∙ ap (λ (c : Call). c.key) (same_Some hit.is.call has.call (sym hit.is.at ∙ has.at)) ∙ has.one_key in
      not (subst (IsSettled bound history) keys hit.settled)))

  gone_over : (p : ℕ) (call : Call) → Member p gone → slice_get history p ≡ Some call → call.end < bound
  gone_over p call m at = elim (cases_lt call.end bound) [
    | inl less ↦ less
    | inr enough ↦ absurd (gone_left p m (holds_kept history later Left kept unsettled p (slice_get_within history p call at) (λ hit.
        let over = hit.over in
        let till = end_is history p call at in
        omega (arith, over, till, enough))))
  ]

  -- ---- first the hits that are forgotten and the writes of their keys, then the others

  abbrev is_source : ℕ → Bool
  is_source p = option_map_or (λ (call : Call). nat_lt call.start bound && has_gone call.key) (slice_get history p) false

  record IsSource (p : ℕ) : Type 0 where
    call : Call
    at : slice_get history p ≡ Some call
    early : call.start < bound
    has : HasGone call.key

  source_is : (p : ℕ) → is_source p ≡ true → IsSource p
  source_is p h =
      elim (slice_get history p) as (λ o. slice_get history p ≡ o → option_map_or (λ (call : Call). nat_lt call.start bound && has_gone call.key) o false ≡ true → IsSource p) [
        | None ↦ λ found no'. cc
        | Some call ↦ λ found test. let both = and_parts (nat_lt call.start bound) (has_gone call.key) test in record { call = call; at = found; early = ltb-true call.start bound both.0; has = has_gone_is call.key both.1 }
      ] refl h

  is_source_of : (key : List ℕ) (p : ℕ) (call : Call) → HasGone key → slice_get history p ≡ Some call → call.key ≡ key → call.start < bound → is_source p ≡ true
  is_source_of key p call has at one_key early =
      ap (λ o. option_map_or (λ (c : Call). nat_lt c.start bound && has_gone c.key) o false) at
      ∙ and_from (nat_lt call.start bound) (has_gone call.key) (lt-ltb call.start bound early) (is_has_gone call.key (subst HasGone (sym one_key) has))

  write_over : (key : List ℕ) (p : ℕ) → HasGone key → (wrote : WritesAt history p key) → wrote.call.end < bound
  write_over key p has wrote = elim (cases_lt wrote.call.end bound) [
    | inl less ↦ less
    | inr enough ↦ absurd (settled_of key has (λ settled.
        let over = settled.ended p wrote in
        let till = end_is history p wrote.call wrote.at in
        omega (arith, over, till, enough)))
  ]

  -- each write of such a key starts early enough
  write_source : (key : List ℕ) (p : ℕ) → HasGone key → WritesAt history p key → is_source p ≡ true
  write_source key p has wrote =
      let over = write_over key p has wrote in
      let span : wrote.call.start ≤ wrote.call.end = all_member (λ (c : Call). c.start ≤ c.end) history wrote.call intervals (member_at history p wrote.call wrote.at) in
      is_source_of key p wrote.call has wrote.at wrote.writes.0 (omega (arith, over, span))

  abbrev front : List ℕ
  front = filter is_source line

  abbrev goes_last : ℕ → Bool
  goes_last p = not (is_source p)

  abbrev tail : List ℕ
  tail = filter goes_last whole_line

  no_source : (p : ℕ) → Member p tail → is_source p ≡ true → ⊥
  no_source p m source =
      let stays : is_source p ≡ false = not-true (is_source p) (member_filter goes_last whole_line p m).1 in
      let both : true ≡ false = sym source ∙ stays in
      cc

  front_source : (p : ℕ) → Member p front → IsSource p
  front_source p m = source_is p (member_filter is_source line p m).1

  front_below : (p : ℕ) → Member p front → p < length history
  front_below p m = below p (member_filter is_source line p m).0

  front_call : (p : ℕ) (call : Call) → Member p front → slice_get (history ++ later) p ≡ Some call → slice_get history p ≡ Some call
  front_call p call m at = at_history history later p call (front_below p m) at

  front_early : (p : ℕ) (call : Call) → Member p front → slice_get history p ≡ Some call → call.start < bound
  front_early p call m at = let source = front_source p m in subst (λ (c : Call). c.start < bound) (same_Some source.call call (sym source.at ∙ at)) source.early

  front_has : (p : ℕ) (call : Call) → Member p front → slice_get history p ≡ Some call → HasGone call.key
  front_has p call m at = let source = front_source p m in subst (λ (c : Call). HasGone c.key) (same_Some source.call call (sym source.at ∙ at)) source.has

  tail_placed : (p : ℕ) → Member p tail → Member p (places history later kept)
  tail_placed p m = is.only p (member_filter goes_last whole_line p m).0

  -- each write of such a key stands in the front
  source_first : (key : List ℕ) (p : ℕ) → HasGone key → WritesAt history p key → Member p front
  source_first key p has wrote = filter_member is_source line p (listed p wrote.call wrote.at) (write_source key p has wrote)

  -- such a key has a write
  has_write : (key : List ℕ) → HasGone key → ¬ ¬ ((p : ℕ) × WritesAt history p key)
  has_write key has not = gone_left has.hit has.goes (holds_kept history later Left kept unsettled has.hit (slice_get_within history has.hit has.call has.at) (λ settled.
      let r = lawful has.hit settled.is.call settled.value settled.moment (listed has.hit settled.is.call settled.is.at) settled.is.at settled.is.is in
      let keys : settled.is.call.key ≡ key = ap (λ (c : Call). c.key) (same_Some settled.is.call has.call (sym settled.is.at ∙ has.at)) ∙ has.one_key in
      not (r.put, record { call = r.call; at = r.at; writes = (r.one_key ∙ keys, put_writes r.call.act settled.value r.expires r.is) })))

  -- and each call of such a key in the tail starts at the stamp or later
  tail_starts : (key : List ℕ) (q : ℕ) (call : Call) → HasGone key → Member q tail → slice_get (history ++ later) q ≡ Some call → call.key ≡ key → bound ≤ call.start
  tail_starts key q call has n at one_key = elim (member_either kept (run (length history) (length later)) q (tail_placed q n)) [
    | inl old ↦ elim (cases_lt call.start bound) [
      | inl early ↦ absurd (no_source q n (is_source_of key q call has (at_history history later q call (kept_below history later Left kept unsettled q old) at) one_key early))
      | inr enough ↦ enough
    ]
    | inr new ↦
        let past = run_from (length history) (length later) q new in
        elim (cases_lt call.start bound) [
          | inl early ↦ absurd (has_write key has (λ w.
              let from = starts_late history later bound q w.0 call key late past.0 at one_key w.1 (write_over key w.0 has w.1) in
              omega (arith, from, early)))
          | inr enough ↦ enough
        ]
  ]

  -- what is forgotten stands in the front
  gone_source : (p : ℕ) → p < length history → Member p gone → is_source p ≡ true
  gone_source p less m =
      let call = found_at history p less in
      let over = gone_over p call.0 m call.1 in
      let span : call.0.start ≤ call.0.end = all_member (λ (c : Call). c.start ≤ c.end) history call.0 intervals (member_at history p call.0 call.1) in
      is_source_of call.0.key p call.0 (record { hit = p; call = call.0; goes = m; at = call.1; one_key = refl }) call.1 refl (omega (arith, over, span))

  -- ---- an order of all calls

  both_once : Once (front ++ tail)
  both_once = pairs_append (λ (p q : ℕ). p ≢ q) front tail (pairs_filter is_source (λ (p q : ℕ). p ≢ q) line once) (pairs_filter goes_last (λ (p q : ℕ). p ≢ q) whole_line is.once)
      (λ p q m n same. no_source q n (ap is_source (sym same) ∙ (member_filter is_source line p m).1))

  both_below : (p : ℕ) → Member p (front ++ tail) → p < length (history ++ later)
  both_below p m = elim (member_either front tail p m) [
    | inl old ↦ let less = front_below p old in let long = length-append history later in omega (arith, less, long)
    | inr new ↦ places_within history later Left kept unsettled p (tail_placed p new)
  ]

  both_each : (p : ℕ) → p < length (history ++ later) → Member p (front ++ tail)
  both_each p less = elim (cases_Bool (is_source p)) [
    | inl source ↦
        let it = source_is p source in
        member_left front tail p (filter_member is_source line p (listed p it.call it.at) source)
    | inr other ↦ elim (cases_lt p (length history)) [
      | inl early ↦ elim (cases_Bool (is_in kept p)) [
        | inl stays ↦
            let placed = is.each p (member_left kept (run (length history) (length later)) p (in_list kept p stays)) in
            member_right front tail p (filter_member goes_last whole_line p placed (not_from_false (is_source p) other))
        | inr goes ↦ absurd (let source = gone_source p early (filter_member is_gone line p (each p early) (not_from_false (is_in kept p) goes)) in let both : true ≡ false = sym source ∙ other in cc)
      ]
      | inr past ↦
          let call = found_at (history ++ later) p less in
          let placed = is.each p (late_placed history later Left kept unsettled p call.0 past call.1) in
          member_right front tail p (filter_member goes_last whole_line p placed (not_from_false (is_source p) other))
    ]
  ]

  -- ---- it agrees with time key by key

  across : (p q : ℕ) (one other : Call) → Member p front → Member q tail → slice_get (history ++ later) p ≡ Some one → slice_get (history ++ later) q ≡ Some other → one.key ≡ other.key → is_miss one.act ≡ false → is_miss other.act ≡ false → ¬ Precedes other one
  across p q one other m n at_p at_q same_key no_miss no_other before =
      let here = front_call p one m at_p in
      let early = front_early p one m here in
      let enough = tail_starts one.key q other (front_has p one m here) n at_q (sym same_key) in
      let span : other.start ≤ other.end = all_member (λ (c : Call). c.start ≤ c.end) (history ++ later) other (lapses_both history later intervals lapses) (member_at (history ++ later) q other at_q) in
      omega (arith, before, early, enough, span)

  -- ---- it is lawful

  front_lawful : IsLawfulLine (history ++ later) front
  front_lawful hit call value moment m at hits =
      let here = front_call hit call m at in
      let r = lawful hit call value moment (listed hit call here) here hits in
      let passes = write_source call.key r.put (front_has hit call m here) (record { call = r.call; at = r.at; writes = (r.one_key, put_writes r.call.act value r.expires r.is) }) in
      record {
        put = r.put;
        call = r.call;
        expires = r.expires;
        at = at_whole history later r.put r.call r.at;
        one_key = r.one_key;
        is = r.is;
        live = r.live;
        ahead = filter_ahead is_source line r.put hit r.ahead passes (member_filter is_source line hit m).1;
        last = λ other write at_other writes a.
            let there = first_member front other hit a in
            elim (r.last other write (front_call other write there at_other) writes (ahead_filter is_source line other hit a)) [
              | inl same ↦ inl same
              | inr sooner ↦ inr (filter_ahead is_source line other r.put sooner (member_filter is_source line other there).1 passes)
            ];
      }

  -- ---- a hit of the tail that reads a write of the front

  module _ (hit : ℕ) (call : Call) (value : List ℕ) (moment : ℕ) (m : Member hit tail) (at : slice_get (history ++ later) hit ≡ Some call) (hits : call.act ≡ Hit value moment) (r : ReadsIn (history ++ later) whole_line hit call.key value moment) (source : IsSource r.put) where
    put_at : slice_get history r.put ≡ Some r.call
    put_at = at_history history later r.put r.call (slice_get_within history r.put source.call source.at) r.at

    wrote : WritesAt history r.put call.key
    wrote = record { call = r.call; at = put_at; writes = (r.one_key, put_writes r.call.act value r.expires r.is) }

    has : HasGone call.key
    has = subst HasGone (ap (λ (c : Call). c.key) (same_Some source.call r.call (sym source.at ∙ put_at)) ∙ r.one_key) source.has

    put_over : r.call.end < bound
    put_over = write_over call.key r.put has (record { call = r.call; at = put_at; writes = (r.one_key, put_writes r.call.act value r.expires r.is) })

    -- the last write of the key in the first line
    final : (last : ℕ) × IsLastOf (is_write_of history call.key) line last
    final = last_of (is_write_of history call.key) line r.put (listed r.put r.call put_at) (of_write history call.key r.put wrote)

    final_wrote : WritesAt history final.0 call.key
    final_wrote = write_of history call.key final.0 final.1.passes

    final_last : IsLastWrite history call.key final.0
    final_last = record {
      writes = final_wrote;
      last = λ other writes before.
          let less = precedes_of history final.0 other final_wrote.call writes.call final_wrote.at writes.at before in
          elim (final.1.behind other (listed other writes.call writes.at) (of_write history call.key other writes)) [
            | inl same ↦
                let mine = same_Some writes.call final_wrote.call (sym writes.at ∙ ap (slice_get history) same ∙ final_wrote.at) in
                let span = lapse final.0 final_wrote.call final_wrote.at in
                let e = ap (λ (c : Call). c.start) mine in
                omega (arith, less, span, e)
            | inr sooner ↦ agrees other final.0 writes.call final_wrote.call sooner writes.at final_wrote.at less
          ];
    }

    -- no write of the key follows what the hit reads and precedes the hit
    none_between : (write : ℕ) (wrote_it : WritesAt history write call.key) → IsBefore history r.put write → ¬ Precedes wrote_it.call call
    none_between write wrote_it before after =
        let there = at_whole history later write wrote_it.call wrote_it.at in
        let less = slice_get_within history write wrote_it.call wrote_it.at in
        let stays = holds_kept history later Left kept unsettled write less (write_unsettled bound history write wrote_it.call wrote_it.at wrote_it.writes.1) in
        let placed = is.each write (member_left kept (run (length history) (length later)) write stays) in
        unreplaced (history ++ later) whole_line is.once is.agrees hit write call wrote_it.call call.key value moment r at hits there wrote_it.writes
        (member_filter goes_last whole_line hit m).0 placed (lapse r.put r.call put_at)
        (precedes_of history r.put write r.call wrote_it.call put_at wrote_it.at before) after

    -- so it is a last write
    put_last : IsLastWrite history call.key r.put
    put_last = record {
      writes = wrote;
      last = λ other writes before.
          let over = write_over call.key other has writes in
          let enough = tail_starts call.key hit call has m at refl in
          none_between other writes before (omega (arith, over, enough));
    }

    final_is : final_wrote.call.act ≡ Put value r.expires
    unfolding put_last wrote final_wrote final_last
    final_is = act_is final_wrote.call.act value r.expires (λ not. settled_of call.key has (λ settled. not (settled.alike final.0 final_last ∙ sym (settled.alike r.put put_last) ∙ r.is)))

    none_later : (other : ℕ) (write : Call) → slice_get (history ++ later) other ≡ Some write → Writes (deed_of write) call.key → Member other tail → ¬ Ahead whole_line other r.put
    unfolding wrote
    none_later other write at_other writes n sooner = elim (member_either kept (run (length history) (length later)) other (tail_placed other n)) [
      | inl old ↦ no_source other n (write_source call.key other has (record { call = write; at = at_history history later other write (kept_below history later Left kept unsettled other old) at_other; writes = writes }))
      | inr new ↦
          let past = run_from (length history) (length later) other new in
          let from = starts_late history later bound other r.put write call.key late past.0 at_other writes.0 wrote put_over in
          let over = put_over in
          is.agrees other r.put write r.call sooner at_other r.at (omega (arith, from, over))
    ]

    source_reads : ReadsIn (history ++ later) (front ++ tail) hit call.key value moment
    source_reads =
        let first = source_first call.key final.0 has final_wrote in
        record {
          put = final.0;
          call = final_wrote.call;
          expires = r.expires;
          at = at_whole history later final.0 final_wrote.call final_wrote.at;
          one_key = final_wrote.writes.0;
          is = final_is;
          live = r.live;
          ahead = ahead_across front tail final.0 hit first m;
          last = λ other write at_other writes a. elim (ahead_append front tail other hit a) [
            | inl early ↦ absurd (apart (history ++ later) front tail both_once hit (second_member front other hit early) m)
            | inr rest ↦ elim rest [
              | inl both ↦
                  let here = front_call other write both.0 at_other in
                  elim (final.1.behind other (listed other write here) (of_write history call.key other (record { call = write; at = here; writes = writes }))) [
                    | inl same ↦ inl same
                    | inr sooner ↦ inr (ahead_left front tail other final.0 (filter_ahead is_source line other final.0 sooner (member_filter is_source line other both.0).1 (member_filter is_source line final.0 first).1))
                  ]
              | inr second ↦
                  let n = first_member tail other hit second in
                  absurd (elim (r.last other write at_other writes (ahead_filter goes_last whole_line other hit second)) [
                    | inl same ↦ no_source other n (ap is_source same ∙ write_source call.key r.put has wrote)
                    | inr sooner ↦ none_later other write at_other writes n sooner
                  ])
            ]
          ];
        }

  kept_reads : (hit : ℕ) (call : Call) (value : List ℕ) (moment : ℕ) → Member hit tail → (r : ReadsIn (history ++ later) whole_line hit call.key value moment) → is_source r.put ≡ false → ReadsIn (history ++ later) tail hit call.key value moment
  kept_reads hit call value moment m r other_one =
      let passes = not_from_false (is_source r.put) other_one in
      record {
        put = r.put;
        call = r.call;
        expires = r.expires;
        at = r.at;
        one_key = r.one_key;
        is = r.is;
        live = r.live;
        ahead = filter_ahead goes_last whole_line r.put hit r.ahead passes (member_filter goes_last whole_line hit m).1;
        last = λ other write at_other writes a. elim (r.last other write at_other writes (ahead_filter goes_last whole_line other hit a)) [
          | inl same ↦ inl same
          | inr sooner ↦ inr (filter_ahead goes_last whole_line other r.put sooner (member_filter goes_last whole_line other (first_member tail other hit a)).1 passes)
        ];
      }

  tail_hits : (hit : ℕ) (call : Call) (value : List ℕ) (moment : ℕ) → Member hit tail → slice_get (history ++ later) hit ≡ Some call → call.act ≡ Hit value moment → ReadsIn (history ++ later) (front ++ tail) hit call.key value moment
  tail_hits hit call value moment m at hits =
      let r = is.lawful hit call value moment (member_filter goes_last whole_line hit m).0 at hits in
      elim (cases_Bool (is_source r.put)) [
        | inl source ↦ source_reads hit call value moment m at hits r (source_is r.put source)
        | inr other ↦ tail_reads (history ++ later) front tail both_once hit call.key value moment m (kept_reads hit call value moment m r other)
      ]

  both_acceptable : LinesAreAcceptable → Acceptable (history ++ later)
  both_acceptable lines_are =
      joined_acceptable (history ++ later) front tail both_once
      (λ p q one other a at_p at_q. agrees p q one other (ahead_filter is_source line p q a) (front_call p one (first_member front p q a) at_p) (front_call q other (second_member front p q a) at_q))
      (λ p q one other a. is.agrees p q one other (ahead_filter goes_last whole_line p q a))
      across lines_are (order_of (history ++ later) (front ++ tail) both_once both_below both_each) (lapses_both history later intervals lapses) front_lawful tail_hits

-- a history is acceptable if it is acceptable without its settled hits, and so is what it was when they were settled
pub settled_acceptable : LinesAreAcceptable → (bound : ℕ) (history later : List Call) (kept : List ℕ) → AreUnsettled bound history kept → All (MayFollow bound history) later → Acceptable history → Acceptable (in_order history kept ++ later) → Acceptable (history ++ later)
settled_acceptable lines_are bound history later kept unsettled late past shown =
    let line = past.0 in
    let a = past.1 in
    let once = pairs_from (λ (p q : ℕ). p ≢ q) line a.spelled.once in
    let chosen = places history later kept in
    let P : ℕ → Type 0 = λ p. ¬ IsSettledHit bound history p in
    let made = subst Acceptable (sym (kept_calls history later P kept unsettled)) shown in
    both_acceptable bound history later kept unsettled late line once
    (λ p m. all_member (λ q. q < length history) line p a.spelled.positions m)
    (λ p less. member_contained line p (a.spelled.each p less))
    a.intervals (agrees_to history line once a.agrees) (lawful_to history line once a.lawful)
    (filter_map (slice_get chosen) made.0)
    (line_of (history ++ later) chosen (places_within history later P kept unsettled) (places_once history later P kept unsettled) made.0 made.1)
    (member_all (λ (c : Call). c.start ≤ c.end) later (λ c m. all_member (λ (d : Call). d.start ≤ d.end) (in_order history kept ++ later) c shown.1.intervals (member_right (in_order history kept) later c m)))
    lines_are
