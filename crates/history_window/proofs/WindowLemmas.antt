-- The window of a history, by its calls in numbers.
use Rattle.std.proofs.Common.{◌≡◌, ℕ, ◌^◌, ◌<◌, ◌≤◌, false, ◌||◌, List, length, refl, sym, ap, ◌∙◌, subst, arith, inl, inr}
use Rattle.std.specs.Prelude.{All, Contains}
use Rattle.std.proofs.lemmas.Bool.{cases_eq, cases_lt}
use Rattle.std.proofs.lemmas.List.Elements.{All-weaker}
use Rattle.trace_file.specs.Calls.{value_of}
use Rattle.trace_file.specs.declared.call.Call.{Call}
use Rattle.certificate_finder.specs.Lists.{AreAllBelow}
use Rattle.certificate_finder.specs.Spots.{is_miss}
use Rattle.certificate_finder.specs.Turns.{start_at}
use Rattle.history_window.specs.declared.coded_call.CodedCall.{CodedCall}
use Rattle.history_window.specs.Acts.{is_reading, is_writing}
use Rattle.history_window.specs.Codes.{AreCodes, AreSound, IsFitCode}
use Rattle.history_window.specs.Cuts.{IsAlone, IsCutCode, IsLastCode, IsLateFrom, StaysAt, StaysCode}
use Rattle.history_window.specs.Ranks.{turn_of}
use Rattle.history_window.specs.Reaches.{IsEarlyEnd}
use Rattle.history_window.specs.Tables.{first_turn}
use Rattle.history_window.specs.Windows.{HasEarly, HasLate, IsCut, IsLastCut, Stays}
use Rattle.history_window.proofs.AloneLemmas.{span_of, turn_start}
use Rattle.history_window.proofs.ListLemmas.{all_of, same_at}
use Rattle.history_window.proofs.MatchLemmas.{IsAt, apart_place, are_sound, at_index, at_of, before_from, before_to, code_is, code_of, end_same, hit_from, hit_to, key_from, key_to, listed, no_miss_of, of_no_miss, place_apart, place_same, put_from, put_to, put_wrote, same_call, start_same, value_from, value_to, writes_from, writes_to}

turn_later : (k l s t p q : ℕ) → p < 2 ^ 32 → k ≡ l → s < t → turn_of k s p ≤ turn_of l t q
turn_later k l s t p q small e less = omega (arith, small, e, less)

module _ (history : List Call) (codes : List CodedCall) (are : AreCodes history codes) (spans : All (λ call. call.start ≤ call.end) history) (bound : ℕ) where
  sound : AreSound codes
  sound = are_sound history codes are spans

  abbrev At : ℕ → Call → CodedCall → Type 0
  At = IsAt history codes

  module _ (cut : ℕ) (cut_call : Call) (w : CodedCall) (here : At cut cut_call w) where
    has_cut : Contains codes w
    has_cut = listed history codes are cut cut_call w here

    cut_span : w.start ≤ w.end
    cut_span = span_of codes sound w has_cut

    module _ (hit : ℕ) (hit_call : Call) (h : CodedCall) (there : At hit hit_call h) (one_key : hit_call.key ≡ cut_call.key) where
      early_from : (value : List ℕ) → value_of hit_call.act ≡ value → HasEarly history cut_call.key value cut hit → (end : ℕ) × IsEarlyEnd codes h end × (end < w.start)
      early_from value same early =
          let put = code_of history codes are early.put early.is.call early.is.at in
          let from = put_from history codes are early.put early.is.call put.0 put.1 cut_call.key value early.is in (
            put.0.end,
            record {
              put = put.0;
              listed = listed history codes are early.put early.is.call put.0 put.1;
              puts = from.0;
              value = value_from history codes are early.put hit early.is.call hit_call put.0 h put.1 there (from.1 ∙ sym one_key) (from.2 ∙ sym same);
              unreplaced = λ write has wrote key before over.
                  let at = at_of history codes are write has in
                  let keys = key_to history codes are at.0 hit at.1 hit_call write h at.2 there key ∙ one_key in
                  early.unreplaced at.0 (writes_to history codes are at.0 at.1 write at.2 cut_call.key wrote keys) (before_to history codes are early.put at.0 early.is.call at.1 put.0 write put.1 at.2 before) (before_to history codes are at.0 hit at.1 hit_call write h at.2 there over);
              is = refl;
            },
            before_from history codes are early.put cut early.is.call cut_call put.0 w put.1 here early.early,
          )

      early_to : (end : ℕ) → IsEarlyEnd codes h end → end < w.start → HasEarly history cut_call.key (value_of hit_call.act) cut hit
      early_to end early less =
          let at = at_of history codes are early.put early.listed in
          let both = value_to history codes are at.0 hit at.1 hit_call early.put h at.2 there early.value in
          let same = early.is in
          record {
            put = at.0;
            is = put_to history codes are at.0 at.1 early.put at.2 cut_call.key (value_of hit_call.act) early.puts (both.0 ∙ one_key) both.1;
            early = before_to history codes are at.0 cut at.1 cut_call early.put w at.2 here (omega (arith, same, less));
            unreplaced = λ write writes before over.
                let o = code_of history codes are write writes.call writes.at in
                let from = writes_from history codes are write writes.call o.0 o.1 cut_call.key writes in
                let key = key_from history codes are write hit writes.call hit_call o.0 h o.1 there (from.1 ∙ sym one_key) in
                early.unreplaced o.0 (listed history codes are write writes.call o.0 o.1) from.0 key (before_from history codes are at.0 write at.1 writes.call early.put o.0 at.2 o.1 before) (before_from history codes are write hit writes.call hit_call o.0 h o.1 there over);
          }

      late_from : (value : List ℕ) → value_of hit_call.act ≡ value → HasLate history cut_call.key value cut hit → IsLateFrom codes h w.start
      late_from value same late =
          let put = code_of history codes are late.put late.is.call late.is.at in
          let from = put_from history codes are late.put late.is.call put.0 put.1 cut_call.key value late.is in
          record {
            start = put.0.start;
            late = record {
              put = put.0;
              listed = listed history codes are late.put late.is.call put.0 put.1;
              puts = from.0;
              value = value_from history codes are late.put hit late.is.call hit_call put.0 h put.1 there (from.1 ∙ sym one_key) (from.2 ∙ sym same);
              begun = elim (cases_lt h.end put.0.start) [
                | inl less ↦ absurd (late.begun (before_to history codes are hit late.put hit_call late.is.call h put.0 there put.1 less))
                | inr enough ↦ enough
              ];
              is = refl;
            };
            enough = elim late.late [
              | inl place ↦
                  let e = ap (start_at history) place in
                  let a = start_same history codes are late.put late.is.call put.0 put.1 in
                  let b = start_same history codes are cut cut_call w here in
                  omega (arith, e, a, b)
              | inr after ↦
                  let less = before_from history codes are cut late.put cut_call late.is.call w put.0 here put.1 after in
                  let span = cut_span in
                  omega (arith, less, span)
            ];
          }

      late_to : IsAlone codes w → IsLateFrom codes h w.start → HasLate history cut_call.key (value_of hit_call.act) cut hit
      late_to alone late =
          let put = late.late.put in
          let at = at_of history codes are put late.late.listed in
          let both = value_to history codes are at.0 hit at.1 hit_call put h at.2 there late.late.value in
          let keys : at.1.key ≡ cut_call.key = both.0 ∙ one_key in
          let wrote = writes_from history codes are at.0 at.1 put at.2 cut_call.key (put_wrote history codes are at.0 at.1 put at.2 cut_call.key late.late.puts keys) in
          let same = late.late.is in
          let enough = late.enough in
          let begun = late.late.begun in
          record {
            put = at.0;
            is = put_to history codes are at.0 at.1 put at.2 cut_call.key (value_of hit_call.act) late.late.puts keys both.1;
            late = elim (cases_eq at.0 cut) [
              | inl place ↦ inl place
              | inr apart ↦ elim (alone put late.late.listed wrote.0 (key_from history codes are at.0 cut at.1 cut_call put w at.2 here keys) (place_apart history codes are at.0 cut at.1 cut_call put w at.2 here apart)) [
                | inl before ↦ let span = span_of codes sound put late.late.listed in absurd (omega (arith, before, span, same, enough))
                | inr after ↦ inr (before_to history codes are cut at.0 cut_call at.1 w put here at.2 after)
              ]
            ];
            begun = λ before. let less = before_from history codes are hit at.0 hit_call at.1 h put there at.2 before in omega (arith, less, begun);
          }

    -- ---- a cut

    cut_to : IsCutCode codes bound w → IsCut bound history cut_call.key cut
    cut_to is = record {
      writes = writes_to history codes are cut cut_call w here cut_call.key is.writes refl;
      over = let e = end_same history codes are cut cut_call w here in let over = is.over in omega (arith, e, over);
      alone = λ other writes apart.
          let o = code_of history codes are other writes.call writes.at in
          let from = writes_from history codes are other writes.call o.0 o.1 cut_call.key writes in
          elim (is.alone o.0 (listed history codes are other writes.call o.0 o.1) from.0 (key_from history codes are other cut writes.call cut_call o.0 w o.1 here from.1) (place_apart history codes are other cut writes.call cut_call o.0 w o.1 here apart)) [
            | inl before ↦ inl (before_to history codes are other cut writes.call cut_call o.0 w o.1 here before)
            | inr after ↦ inr (before_to history codes are cut other cut_call writes.call w o.0 here o.1 after)
          ];
      clear = λ hit value moment hits beside also early late.
          let h = code_of history codes are hit hits.call hits.at in
          let from = hit_from history codes are hit hits.call h.0 h.1 cut_call.key value moment hits in
          let e = early_from hit hits.call h.0 h.1 from.1 value from.2 early in
          let l = late_from hit hits.call h.0 h.1 from.1 value from.2 late in
          is.clear h.0 e.0 l.start (listed history codes are hit hits.call h.0 h.1) from.0 (key_from history codes are hit cut hits.call cut_call h.0 w h.1 here from.1) e.1 l.late e.2 l.enough;
    }

    alone_from : IsCut bound history cut_call.key cut → IsAlone codes w
    alone_from is other has writes key apart =
        let at = at_of history codes are other has in
        let keys = key_to history codes are at.0 cut at.1 cut_call other w at.2 here key in
        elim (is.alone at.0 (writes_to history codes are at.0 at.1 other at.2 cut_call.key writes keys) (apart_place history codes are at.0 cut at.1 cut_call other w at.2 here apart)) [
          | inl before ↦ inl (before_from history codes are at.0 cut at.1 cut_call other w at.2 here before)
          | inr after ↦ inr (before_from history codes are cut at.0 cut_call at.1 w other here at.2 after)
        ]

    cut_from : IsCut bound history cut_call.key cut → IsCutCode codes bound w
    cut_from is =
        let wrote = writes_from history codes are cut cut_call w here cut_call.key is.writes in
        record {
          writes = wrote.0;
          over = let e = end_same history codes are cut cut_call w here in let over = is.over in omega (arith, e, over);
          alone = alone_from is;
          clear = λ hit end start has reads key early late less enough.
              let at = at_of history codes are hit has in
              let keys = key_to history codes are at.0 cut at.1 cut_call hit w at.2 here key in
              let read = hit_to history codes are at.0 at.1 hit at.2 cut_call.key reads keys in
              is.clear at.0 (value_of at.1.act) read.0 read.1
              (λ before. let b = before_from history codes are at.0 cut at.1 cut_call hit w at.2 here before in let s = late.is in let begun = late.begun in omega (arith, b, s, begun, enough))
              (λ after. early.unreplaced w has_cut wrote.0 (sym key) (let e = early.is in omega (arith, e, less)) (before_from history codes are cut at.0 cut_call at.1 w hit here at.2 after))
              (early_to at.0 at.1 hit at.2 keys end early less)
              (late_to at.0 at.1 hit at.2 keys (alone_from is) (record { start = start; late = late; enough = enough }));
        }

  -- ---- the last cut

  last_to : (cut : ℕ) (cut_call : Call) (w : CodedCall) → At cut cut_call w → IsLastCode codes bound w.key w → IsLastCut bound history cut_call.key cut
  last_to cut cut_call w here is = record {
    is = cut_to cut cut_call w here is.is;
    last = λ other cuts apart.
        let call = cuts.writes.call in
        let o = code_of history codes are other call cuts.writes.at in
        let has = listed history codes are other call o.0 o.1 in
        let from = writes_from history codes are other call o.0 o.1 cut_call.key cuts.writes in
        let its = cut_from other call o.0 o.1 (subst (λ k. IsCut bound history k other) (sym from.1) cuts) in
        let key = key_from history codes are other cut call cut_call o.0 w o.1 here from.1 in
        elim (is.is.alone o.0 has from.0 key (place_apart history codes are other cut call cut_call o.0 w o.1 here apart)) [
          | inl before ↦ before_to history codes are other cut call cut_call o.0 w o.1 here before
          | inr after ↦
              let start = turn_start o.0.key w.key o.0.start w.start o.0.position w.position (all_of IsFitCode codes o.0 sound.fit has).position (all_of IsFitCode codes w sound.fit is.listed).position key (is.last o.0 has its key) in
              let span = span_of codes sound w is.listed in
              absurd (omega (arith, after, start, span))
        ];
  }

  last_from : (cut : ℕ) (cut_call : Call) (w : CodedCall) → At cut cut_call w → IsLastCut bound history cut_call.key cut → IsLastCode codes bound w.key w
  last_from cut cut_call w here last = record {
    listed = listed history codes are cut cut_call w here;
    is = cut_from cut cut_call w here last.is;
    of_key = refl;
    last = λ other has is key.
        let at = at_of history codes are other has in
        elim (cases_eq at.0 cut) [
          | inl same ↦ let e = ap first_turn (same_at codes at.0 cut other w same at.2.there here.there) in omega (arith, e)
          | inr apart ↦
              let cuts = subst (λ k. IsCut bound history k at.0) (key_to history codes are at.0 cut at.1 cut_call other w at.2 here key) (cut_to at.0 at.1 other at.2 is) in
              let before = before_from history codes are at.0 cut at.1 cut_call other w at.2 here (last.last at.0 cuts apart) in
              let span = span_of codes sound other has in
              turn_later other.key w.key other.start w.start other.position w.position (all_of IsFitCode codes other sound.fit has).position key (omega (arith, before, span))
        ];
  }

  -- ---- what stays

  module _ (p : ℕ) (call : Call) (code : CodedCall) (here : At p call code) where
    kinds : (code.writes || code.reads) ≡ (is_writing call.act || is_reading call.act)
    kinds = let is = code_is history codes are p call code here in ap (λ b. b || code.reads) is.writes ∙ ap (λ b. is_writing call.act || b) is.reads

    stays_to : StaysCode codes bound code → Stays bound history p
    stays_to is = record {
      call = call;
      at = here.at;
      no_miss = no_miss_of call.act (sym kinds ∙ is.no_miss);
      uncut = λ cut last.
          let cut_call = last.is.writes.call in
          let o = code_of history codes are cut cut_call last.is.writes.at in
          let from = writes_from history codes are cut cut_call o.0 o.1 call.key last.is.writes in
          let lasts = last_from cut cut_call o.0 o.1 (subst (λ k. IsLastCut bound history k cut) (sym from.1) last) in
          let key = key_from history codes are cut p cut_call call o.0 code o.1 here from.1 in
          elim (is.uncut o.0 (subst (λ k. IsLastCode codes bound k o.0) key lasts)) [
            | inl same ↦ inl (place_same history codes are p cut call cut_call code o.0 here o.1 same)
            | inr rest ↦ elim rest [
              | inl before ↦ inr (inl (before_to history codes are cut p cut_call call o.0 code o.1 here before))
              | inr reads ↦
                  let read = hit_to history codes are p call code here call.key reads.0 refl in
                  let late = late_to cut cut_call o.0 o.1 p call code here (sym from.1) lasts.is.alone reads.1 in
                  inr (inr (record { value = value_of call.act; moment = read.0; is = read.1; late = subst (λ k. HasLate history k (value_of call.act) cut p) from.1 late }))
            ]
          ];
    }

    stays_from : Stays bound history p → StaysCode codes bound code
    stays_from stays =
        let mine : stays.call ≡ call = same_call history codes are p call code here stays.call stays.at in
        let own : stays.call.key ≡ call.key = ap (λ (c : Call). c.key) mine in
        record {
          no_miss = kinds ∙ of_no_miss call.act (subst (λ (c : Call). is_miss c.act ≡ false) mine stays.no_miss);
          uncut = λ w last.
              let at = at_of history codes are w last.listed in
              let keys = key_to history codes are at.0 p at.1 call w code at.2 here last.of_key in
              let cuts = last_to at.0 at.1 w at.2 (subst (λ k. IsLastCode codes bound k w) (sym last.of_key) last) in
              elim (stays.uncut at.0 (subst (λ k. IsLastCut bound history k at.0) (keys ∙ sym own) cuts)) [
                | inl same ↦ inl ((code_is history codes are p call code here).place ∙ same ∙ sym (code_is history codes are at.0 at.1 w at.2).place)
                | inr rest ↦ elim rest [
                  | inl before ↦ inr (inl (before_from history codes are at.0 p at.1 call w code at.2 here before))
                  | inr reads ↦
                      let from = hit_from history codes are p call code here stays.call.key reads.value reads.moment reads.is in
                      let late = late_from at.0 at.1 w at.2 p call code here (sym keys) reads.value from.2 (subst (λ k. HasLate history k reads.value at.0 p) (own ∙ sym keys) reads.late) in
                      inr (inr (from.0, late))
                ]
              ];
        }

  pub same_window : (kept : List ℕ) → AreAllBelow (StaysAt codes bound) (length codes) kept → AreAllBelow (Stays bound history) (length history) kept
  same_window kept had = record {
    each = All-weaker (StaysAt codes bound) (Stays bound history) (λ p one. let found = at_index history codes are p one.code one.at in stays_to p found.0 one.code found.1 one.stays) kept had.each;
    all = λ p less stays.
        let code = code_of history codes are p stays.call stays.at in
        let count = are.count in
        had.all p (omega (arith, less, count)) (record { code = code.0; at = code.1.there; stays = stays_from p stays.call code.0 code.1 stays });
    rise = had.rise;
    below = subst (λ n. All (λ p. p < n) kept) are.count had.below;
  }
