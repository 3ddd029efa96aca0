-- Writes that run alone.
use Rattle.std.proofs.Common.{◌≡◌, ◌≢◌, ℕ, ◌^◌, ◌<◌, ◌≤◌, true, List, refl, sym, ap, ◌∙◌, subst, arith, inl, inr}
use Rattle.std.specs.Prelude.{Contains}
use Rattle.std.specs.List.{filter_map}
use Rattle.std.proofs.lemmas.Bool.{cases_eq, cases_lt}
use Rattle.std.proofs.lemmas.List.Sorted.{Contains-permutation}
use Rattle.history_window.specs.declared.coded_call.CodedCall.{CodedCall}
use Rattle.history_window.specs.declared.peak.Peak.{Peak}
use Rattle.history_window.specs.declared.tables.WriteTables.{WriteTables}
use Rattle.history_window.specs.Codes.{AreSound, IsFitCode}
use Rattle.history_window.specs.Cuts.{IsAlone}
use Rattle.history_window.specs.Peaks.{IsCovered}
use Rattle.history_window.specs.Ranks.{IsUpto, turn_of}
use Rattle.history_window.specs.Tables.{AreWriteTables, first_turn, last_turn, write_span, write_turn}
use Rattle.history_window.proofs.BlockLemmas.{made_from, made_to}
use Rattle.history_window.proofs.ListLemmas.{all_of, index_of, moved_from, same_at}

-- ---- turns

-- what comes between two turns of a key is of that key
pub turn_key : (k l s t r p q u : ℕ) → s < 2 ^ 64 → t < 2 ^ 64 → r < 2 ^ 64 → p < 2 ^ 32 → q < 2 ^ 32 → u < 2 ^ 32 → turn_of k s p ≤ turn_of l t q → turn_of l t q ≤ turn_of k r u → l ≡ k
turn_key k l s t r p q u a b c d e f low high = omega (arith, a, b, c, d, e, f, low, high)

turn_within : (k l s t p : ℕ) → p < 2 ^ 32 → k ≡ l → s ≤ t → turn_of k s p ≤ turn_of l t 4294967295
turn_within k l s t p small e le = omega (arith, small, e, le)

turn_beyond : (k l s t p : ℕ) → k ≡ l → t < s → turn_of l t 4294967295 < turn_of k s p
turn_beyond k l s t p e less = omega (arith, e, less)

pub turn_start : (k l s t p q : ℕ) → p < 2 ^ 32 → q < 2 ^ 32 → k ≡ l → turn_of k s p ≤ turn_of l t q → s ≤ t
turn_start k l s t p q a b e le = omega (arith, a, b, e, le)

turn_place : (k l s t p q : ℕ) → p < 2 ^ 32 → q < 2 ^ 32 → turn_of k s p ≡ turn_of l t q → p ≡ q
turn_place k l s t p q a b e = omega (arith, a, b, e)

-- ---- codes

same_code : (codes : List CodedCall) → AreSound codes → (one other : CodedCall) → Contains codes one → Contains codes other → one.position ≡ other.position → one ≡ other
same_code codes sound one other has also same =
    let i = index_of codes one has in
    let j = index_of codes other also in
    same_at codes i.0 j.0 one other (sym (sound.placed i.0 one i.1) ∙ same ∙ sound.placed j.0 other j.1) i.1 j.1

pub same_turn : (codes : List CodedCall) → AreSound codes → (one other : CodedCall) → Contains codes one → Contains codes other → first_turn one ≡ first_turn other → one ≡ other
same_turn codes sound one other has also same =
    same_code codes sound one other has also (turn_place one.key other.key one.start other.start one.position other.position (all_of IsFitCode codes one sound.fit has).position (all_of IsFitCode codes other sound.fit also).position same)

pub span_of : (codes : List CodedCall) → AreSound codes → (code : CodedCall) → Contains codes code → code.start ≤ code.end
span_of codes sound code has = all_of (λ (c : CodedCall). c.start ≤ c.end) codes code sound.spans has

module _ (codes : List CodedCall) (sound : AreSound codes) (tables : WriteTables) (are : AreWriteTables codes tables) (code : CodedCall) (has : Contains codes code) (wrote : code.writes ≡ true) where
  abbrev fit_of : (other : CodedCall) → Contains codes other → IsFitCode other
  fit_of other also = all_of IsFitCode codes other sound.fit also

  abbrev span_peak : CodedCall → Peak
  span_peak write = record { foot = first_turn write; height = last_turn write }

  span_to : (write : CodedCall) → Contains codes write → write.writes ≡ true → Contains tables.spans.items.items (span_peak write)
  span_to write also writes = Contains-permutation (filter_map write_span codes) tables.spans.items.items (span_peak write) are.spans.moved (made_to (λ (c : CodedCall). c.writes) span_peak codes write also writes)

  span_from : (peak : Peak) → Contains tables.spans.items.items peak → (write : CodedCall) × Contains codes write × (write.writes ≡ true) × (span_peak write ≡ peak)
  span_from peak also = made_from (λ (c : CodedCall). c.writes) span_peak codes peak (moved_from (filter_map write_span codes) tables.spans.items.items peak are.spans.moved also)

  turn_to : (write : CodedCall) → Contains codes write → write.writes ≡ true → Contains tables.turns.items (first_turn write)
  turn_to write also writes = Contains-permutation (filter_map write_turn codes) tables.turns.items (first_turn write) are.turns.moved (made_to (λ (c : CodedCall). c.writes) first_turn codes write also writes)

  turn_from : (turn : ℕ) → Contains tables.turns.items turn → (write : CodedCall) × Contains codes write × (write.writes ≡ true) × (first_turn write ≡ turn)
  turn_from turn also = made_from (λ (c : CodedCall). c.writes) first_turn codes turn (moved_from (filter_map write_turn codes) tables.turns.items turn are.turns.moved also)

  -- the write's own turn is there
  pub own_upto : IsUpto tables.turns.items (last_turn code) (first_turn code)
  own_upto = record { listed = turn_to code has wrote; low = turn_within code.key code.key code.start code.end code.position (fit_of code has).position refl (span_of codes sound code has) }

  pub covered_not_alone : IsCovered tables.spans.items.items (first_turn code) → ¬ IsAlone codes code
  covered_not_alone covered alone =
      let from = span_from covered.peak covered.listed in
      let other = from.0 in
      let fit = fit_of code has in
      let also = fit_of other from.1 in
      let low : first_turn other < first_turn code = subst (λ n. n < first_turn code) (sym (ap (λ (p : Peak). p.foot) from.3)) covered.low in
      let high : first_turn code ≤ last_turn other = subst (λ n. first_turn code ≤ n) (sym (ap (λ (p : Peak). p.height) from.3)) covered.high in
      let le : first_turn other ≤ first_turn code = omega (arith, low) in
      let key = turn_key other.key code.key other.start code.start other.end other.position code.position 4294967295 also.start fit.start also.end also.position fit.position (omega arith) le high in
      let apart : other.position ≢ code.position = λ same. (let e : first_turn other ≡ first_turn code = ap first_turn (same_code codes sound other code from.1 has same) in omega (arith, low, e)) in
      elim (alone other from.1 from.2 (sym key) apart) [
        | inl before ↦ let far = turn_beyond code.key other.key code.start other.end code.position key before in omega (arith, far, high)
        | inr after ↦
            let start = turn_start other.key code.key other.start code.start other.position code.position also.position fit.position (sym key) le in
            let span = span_of codes sound code has in
            omega (arith, start, span, after)
      ]

  module _ (top : ℕ) (found : IsUpto tables.turns.items (last_turn code) top) (greatest : (n : ℕ) → IsUpto tables.turns.items (last_turn code) n → n ≤ top) where
    pub alone_top : IsAlone codes code → top ≡ first_turn code
    alone_top alone =
        let from = turn_from top found.listed in
        let other = from.0 in
        let fit = fit_of code has in
        let also = fit_of other from.1 in
        let least : first_turn code ≤ top = greatest (first_turn code) own_upto in
        let low : first_turn code ≤ first_turn other = subst (λ n. first_turn code ≤ n) (sym from.3) least in
        let high : first_turn other ≤ last_turn code = subst (λ n. n ≤ last_turn code) (sym from.3) found.low in
        let key = turn_key code.key other.key code.start other.start code.end code.position other.position 4294967295 fit.start also.start fit.end fit.position also.position (omega arith) low high in
        elim (cases_eq other.position code.position) [
          | inl same ↦ sym from.3 ∙ ap first_turn (same_code codes sound other code from.1 has same)
          | inr apart ↦ elim (alone other from.1 from.2 key apart) [
            | inl before ↦
                let start = turn_start code.key other.key code.start other.start code.position other.position fit.position also.position (sym key) low in
                let span = span_of codes sound other from.1 in
                absurd (omega (arith, start, span, before))
            | inr after ↦ let far = turn_beyond other.key code.key other.start code.end other.position key after in absurd (omega (arith, far, high))
          ]
        ]

    pub top_alone : ¬ IsCovered tables.spans.items.items (first_turn code) → top ≡ first_turn code → IsAlone codes code
    top_alone clear is = λ other also writes key apart.
        let fit = fit_of code has in
        let fits = fit_of other also in
        elim (cases_lt (first_turn other) (first_turn code)) [
          | inl less ↦ elim (cases_lt other.end code.start) [
            | inl before ↦ inl before
            | inr not' ↦ absurd (clear (record { peak = span_peak other; listed = span_to other also writes; low = less; high = turn_within code.key other.key code.start other.end code.position fit.position (sym key) not' }))
          ]
          | inr enough ↦ elim (cases_lt code.end other.start) [
            | inl after ↦ inr after
            | inr not' ↦
                let le : first_turn other ≤ top = greatest (first_turn other) (record { listed = turn_to other also writes; low = turn_within other.key code.key other.start code.end other.position fits.position key not' }) in
                let same : first_turn other ≡ first_turn code = omega (arith, le, is, enough) in
                absurd (apart (turn_place other.key code.key other.start code.start other.position code.position fits.position fit.position same))
          ]
        ]
