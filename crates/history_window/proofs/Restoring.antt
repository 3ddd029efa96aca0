-- What a window forgets can be put before what it keeps.
use Rattle.std.proofs.Common.{◌≡◌, ◌≢◌, ℕ, ◌<◌, ◌≤◌, false, Some, List, ◌++◌, length, refl, sym, ap, ◌∙◌, subst, arith, inl, inr, ◌⊎◌}
use Rattle.std.specs.Prelude.{All, slice_get}
use Rattle.std.proofs.lemmas.Bool.{cases_eq, cases_lt}
use Rattle.std.proofs.lemmas.Option.{same_Some, slice_get_within}
use Rattle.trace_file.specs.declared.act.Act.{Act}
use Rattle.trace_file.specs.declared.act.Act.TheVariants.{Put, Remove, Hit, Miss}
use Rattle.trace_file.specs.declared.call.Call.{Call}
use Rattle.certificate_checker.specs.Latest.{IsWrite}
use Rattle.certificate_checker.specs.Orders.{Precedes}
use Rattle.certificate_checker.proofs.public_laws.Listing.{Member, all_member, member_at, member_either}
use Rattle.certificate_finder.specs.Spots.{is_miss}
use Rattle.certificate_finder.specs.Turns.{IsHit}
use Rattle.history_window.specs.Standing.{MayFollow}
use Rattle.history_window.specs.Windows.{IsBefore, IsLastCut, IsPut, IsWindow, ReadsLate, Stays}
use Rattle.history_window.proofs.Ahead.{Ahead, Once, ahead_either, ahead_joined}
use Rattle.history_window.proofs.CallLemmas.{before_of, end_is, late_begun, no_write, precedes_of, put_writes, start_is}
use Rattle.history_window.proofs.Lining.{AgreesLine, IsLawfulLine, ReadsIn, ahead_of_write, unreplaced}
use Rattle.history_window.proofs.Picking.{run, run_from}
use Rattle.history_window.proofs.Keeping.{at_history, in_later, kept_below, kept_holds, places, starts_late, holds_kept}

-- a call outlives a cut of its key
abbrev Outlives : List Call → List ℕ → ℕ → ℕ → Type 0
Outlives history key cut p = (p ≡ cut) ⊎ (IsBefore history cut p ⊎ ReadsLate history key cut p)

module _ (bound : ℕ) (history : List Call) (line : List ℕ) (once : Once line) (each : (p : ℕ) → p < length history → Member p line) (intervals : All (λ call. call.start ≤ call.end) history) (agrees : AgreesLine history line) (lawful : IsLawfulLine history line) where
  lapse : (p : ℕ) (call : Call) → slice_get history p ≡ Some call → call.start ≤ call.end
  lapse p call at = all_member (λ (c : Call). c.start ≤ c.end) history call intervals (member_at history p call at)

  listed : (p : ℕ) (call : Call) → slice_get history p ≡ Some call → Member p line
  listed p call at = each p (slice_get_within history p call at)

  -- ---- a call that starts after the end of a kept hit beside the cut

  module _ (p q : ℕ) (one other : Call) (at_p : slice_get history p ≡ Some one) (at_q : slice_get history q ≡ Some other) (same_key : other.key ≡ one.key) (before : Precedes other one) (cut : ℕ) (last : IsLastCut bound history one.key cut) (reads : ReadsLate history one.key cut q) where
    abbrev write : Call
    write = last.is.writes.call

    cut_at : slice_get history cut ≡ Some write
    cut_at = last.is.writes.at

    not_before_cut : ¬ IsBefore history q cut
    not_before_cut =
        let from = start_is history cut write cut_at in
        let till = end_is history cut write cut_at in
        let span = lapse cut write cut_at in
        late_begun history one.key reads.value cut q (omega (arith, from, till, span)) reads.late

    begun : write.start ≤ other.end
    begun = elim (cases_lt other.end write.start) [
      | inl less ↦ absurd (not_before_cut (before_of history q cut other write at_q cut_at less))
      | inr le ↦ le
    ]

    -- the cut stands ahead of the kept hit
    cut_ahead : one.start ≤ write.end → Ahead line cut q
    cut_ahead beside =
        let mine = same_Some reads.is.call other (sym reads.is.at ∙ at_q) in
        let is = ap (λ (c : Call). c.act) (sym mine) ∙ reads.is.is in
        let r = subst (λ key. ReadsIn history line q key reads.value reads.moment) same_key (lawful q other reads.value reads.moment (listed q other at_q) at_q is) in
        elim (cases_eq r.put cut) [
          | inl same ↦ subst (λ z. Ahead line z q) same r.ahead
          | inr apart ↦ elim (last.is.alone r.put (record { call = r.call; at = r.at; writes = (r.one_key, put_writes r.call.act reads.value r.expires r.is) }) apart) [
            | inl early ↦
                let follows : ¬ IsBefore history cut q = λ after.
                let less = precedes_of history cut q write other cut_at at_q after in
                let span = lapse q other at_q in
                omega (arith, less, span, before, beside) in
                absurd (last.is.clear q reads.value reads.moment reads.is not_before_cut follows
                (record {
                  put = r.put;
                  is = record { call = r.call; at = r.at; puts = record { one_key = r.one_key; expires = r.expires; is = r.is } };
                  early = early;
                  unreplaced = λ another writes first second.
                      unreplaced history line once agrees q another other writes.call one.key reads.value reads.moment r at_q is writes.at writes.writes
                      (listed q other at_q) (listed another writes.call writes.at) (lapse r.put r.call r.at)
                      (precedes_of history r.put another r.call writes.call r.at writes.at first) (precedes_of history another q writes.call other writes.at at_q second);
                })
                reads.late)
            | inr after ↦
                let ahead : Ahead line cut r.put = elim (ahead_either line cut r.put (listed cut write cut_at) (listed r.put r.call r.at) (λ e. apart (sym e))) [
                  | inl first ↦ first
                  | inr later ↦ absurd (agrees r.put cut r.call write later r.at cut_at (precedes_of history cut r.put write r.call cut_at r.at after))
                ] in
                ahead_joined line cut r.put q once ahead r.ahead
          ]
        ]

    hit_outlives : (value : List ℕ) (moment : ℕ) → one.act ≡ Hit value moment → one.start ≤ write.end → Outlives history one.key cut p
    hit_outlives value moment is beside =
        let r = lawful p one value moment (listed p one at_p) at_p is in
        let late : ¬ IsBefore history p r.put = λ early. agrees r.put p r.call one r.ahead r.at at_p (precedes_of history p r.put one r.call at_p r.at early) in
        let hit : IsHit history p one.key value moment = record { call = one; at = at_p; one_key = refl; is = is } in
        let put : IsPut history one.key value r.put = record { call = r.call; at = r.at; puts = record { one_key = r.one_key; expires = r.expires; is = r.is } } in
        elim (cases_eq r.put cut) [
          | inl same ↦ inr (inr (record { value = value; moment = moment; is = hit; late = record { put = r.put; is = put; late = inl same; begun = late } }))
          | inr apart ↦ elim (last.is.alone r.put (record { call = r.call; at = r.at; writes = (r.one_key, put_writes r.call.act value r.expires r.is) }) apart) [
            | inl early ↦
                let no : p ≢ cut = λ same.
                let mine = same_Some one write (sym at_p ∙ ap (slice_get history) same ∙ cut_at) in
                no_write write.act value moment (ap (λ (c : Call). c.act) (sym mine) ∙ is) last.is.writes.writes.1 in
                let first = ahead_of_write history line once agrees p cut write one.key value moment r cut_at last.is.writes.writes (listed p one at_p) (listed cut write cut_at) no (λ e. apart (sym e)) (precedes_of history r.put cut r.call write r.at cut_at early) in
                absurd (agrees p q one other (ahead_joined line p cut q once first (cut_ahead beside)) at_p at_q before)
            | inr after ↦ inr (inr (record { value = value; moment = moment; is = hit; late = record { put = r.put; is = put; late = inr after; begun = late } }))
          ]
        ]

    write_outlives : IsWrite one.act → Outlives history one.key cut p
    write_outlives writes = elim (cases_eq p cut) [
      | inl same ↦ inl same
      | inr apart ↦ elim (last.is.alone p (record { call = one; at = at_p; writes = (refl, writes) }) apart) [
        | inl early ↦
            let less = precedes_of history p cut one write at_p cut_at early in
            let span = lapse p one at_p in
            let from = begun in
            absurd (omega (arith, less, span, before, from))
        | inr after ↦ inr (inl after)
      ]
    ]

    act_outlives : (act : Act) → one.act ≡ act → is_miss act ≡ false → one.start ≤ write.end → Outlives history one.key cut p
    act_outlives (Put value expires) is no_miss beside = write_outlives (subst IsWrite (sym is) tt)
    act_outlives Remove is no_miss beside = write_outlives (subst IsWrite (sym is) tt)
    act_outlives (Hit value moment) is no_miss beside = hit_outlives value moment is beside
    act_outlives Miss is no_miss beside = cc

    pub outlives : is_miss one.act ≡ false → Outlives history one.key cut p
    outlives no_miss = elim (cases_lt write.end one.start) [
      | inl after ↦ inr (inl (before_of history cut p write one cut_at at_p after))
      | inr beside ↦ act_outlives one.act refl no_miss beside
    ]

  module _ (later : List Call) (kept : List ℕ) (window : IsWindow bound history kept) (late : All (MayFollow bound history) later) (lapses : All (λ (call : Call). call.start ≤ call.end) later) where
    forgets : (p : ℕ) (call : Call) → slice_get history p ≡ Some call → ¬ Member p kept → ¬ Stays bound history p
    forgets p call at not stays = not (holds_kept history later (Stays bound history) kept window p (slice_get_within history p call at) stays)

    -- a call of the key of a forgotten one that ends before that one starts is forgotten too
    pub not_before : (p q : ℕ) (one other : Call) → slice_get history p ≡ Some one → ¬ Member p kept → Member q (places history later kept) → slice_get (history ++ later) q ≡ Some other → one.key ≡ other.key → is_miss one.act ≡ false → ¬ Precedes other one
    not_before p q one other at_p not m at_q same_key no_miss before =
        forgets p one at_p not (record {
          call = one;
          at = at_p;
          no_miss = no_miss;
          uncut = λ cut last.
              let write = last.is.writes.call in
              let cut_at = last.is.writes.at in
              elim (member_either kept (run (length history) (length later)) q m) [
                | inl old ↦
                    let here = at_history history later q other (kept_below history later (Stays bound history) kept window q old) at_q in
                    let stays = kept_holds history later (Stays bound history) kept window q old in
                    let mine = same_Some stays.call other (sym stays.at ∙ here) in
                    let keys : stays.call.key ≡ one.key = ap (λ (c : Call). c.key) mine ∙ sym same_key in
                    let span = lapse q other here in
                    elim (stays.uncut cut (subst (λ key. IsLastCut bound history key cut) (sym keys) last)) [
                      | inl same ↦
                          let it = same_Some other write (sym here ∙ ap (slice_get history) same ∙ cut_at) in
                          inr (inl (before_of history cut p write one cut_at at_p (subst (λ (c : Call). Precedes c one) it before)))
                      | inr rest ↦ elim rest [
                        | inl after ↦
                            let less = precedes_of history cut q write other cut_at here after in
                            inr (inl (before_of history cut p write one cut_at at_p (omega (arith, less, span, before))))
                        | inr reads ↦ outlives p q one other at_p here (sym same_key) before cut last (subst (λ key. ReadsLate history key cut q) keys reads) no_miss
                      ]
                    ]
                | inr new ↦
                    let past = run_from (length history) (length later) q new in
                    let over = last.is.over in
                    let till = end_is history cut write cut_at in
                    let from = starts_late history later bound q cut other one.key late past.0 at_q (sym same_key) last.is.writes (omega (arith, over, till)) in
                    let span : other.start ≤ other.end = all_member (λ (c : Call). c.start ≤ c.end) later other lapses (in_later history later q other past.0 at_q) in
                    inr (inl (before_of history cut p write one cut_at at_p (omega (arith, from, span, over, till, before))))
              ];
        })

    -- a forgotten hit reads a forgotten put
    pub reads_forgotten : (hit : ℕ) (call : Call) (value : List ℕ) (moment : ℕ) → slice_get history hit ≡ Some call → call.act ≡ Hit value moment → ¬ Member hit kept → (r : ReadsIn history line hit call.key value moment) → ¬ Member r.put kept
    reads_forgotten hit call value moment at is not r old =
        let stays = kept_holds history later (Stays bound history) kept window r.put old in
        let mine = same_Some stays.call r.call (sym stays.at ∙ r.at) in
        let keys : stays.call.key ≡ call.key = ap (λ (c : Call). c.key) mine ∙ r.one_key in
        let put : IsPut history call.key value r.put = record { call = r.call; at = r.at; puts = record { one_key = r.one_key; expires = r.expires; is = r.is } } in
        let begun : ¬ IsBefore history hit r.put = λ early. agrees r.put hit r.call call r.ahead r.at at (precedes_of history hit r.put call r.call at r.at early) in
        let mine_is : IsHit history hit call.key value moment = record { call = call; at = at; one_key = refl; is = is } in
        forgets hit call at not (record {
          call = call;
          at = at;
          no_miss = ap is_miss is;
          uncut = λ cut last.
              let write = last.is.writes.call in
              let cut_at = last.is.writes.at in
              elim (stays.uncut cut (subst (λ key. IsLastCut bound history key cut) (sym keys) last)) [
                | inl same ↦ inr (inr (record { value = value; moment = moment; is = mine_is; late = record { put = r.put; is = put; late = inl same; begun = begun } }))
                | inr rest ↦ elim rest [
                  | inl after ↦ inr (inr (record { value = value; moment = moment; is = mine_is; late = record { put = r.put; is = put; late = inr after; begun = begun } }))
                  | inr reads ↦
                      let it = same_Some reads.is.call r.call (sym reads.is.at ∙ r.at) in
                      absurd (no_write r.call.act reads.value reads.moment (ap (λ (c : Call). c.act) (sym it) ∙ reads.is.is) (put_writes r.call.act value r.expires r.is))
                ]
              ];
        })
