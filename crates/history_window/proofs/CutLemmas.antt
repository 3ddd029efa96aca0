-- The cuts of a history in numbers, and the calls that stay.
use Rattle.std.proofs.Common.{◌≡◌, ◌≢◌, ℕ, ◌+◌, ◌*◌, ◌^◌, ◌<◌, ◌≤◌, ◌%◌, Bool, true, ◌||◌, Some, List, [], ◌∷◌, ◌++◌, length, refl, sym, ap, ◌∙◌, subst, arith, inl, inr, ◌⊎◌}
use Rattle.std.specs.Prelude.{Contains, IsTrue, slice_get}
use Rattle.std.proofs.lemmas.Bool.{cases_eq}
use Rattle.std.proofs.lemmas.List.Elements.{All-nil, All-push, Contains-append_left, Contains-push}
use Rattle.std.proofs.lemmas.List.Sorted.{All-permutation, Contains-permutation}
use Rattle.std.proofs.lemmas.Option.{slice_get_within}
use Rattle.certificate_finder.specs.Lists.{AreAllBelow, GrowsIf}
use Rattle.history_window.specs.declared.coded_call.CodedCall.{CodedCall}
use Rattle.history_window.specs.declared.cuts.Cuts.{Cuts}
use Rattle.history_window.specs.declared.peaks.Peaks.{Peaks}
use Rattle.history_window.specs.Codes.{AreSound, IsFitCode}
use Rattle.history_window.specs.Cuts.{AreCuts, AreCutTurns, IsClear, IsCutCode, IsCutTurn, IsLastCode, IsLateFrom, StaysAt, StaysCode}
use Rattle.history_window.specs.Peaks.{IsCovered}
use Rattle.history_window.specs.Ranks.{AreSorted, IsUpto, rank_of, turn_of}
use Rattle.history_window.specs.Reaches.{AreBlocks, IsLateStart, IsSomeBlock}
use Rattle.history_window.specs.Tables.{first_turn}
use Rattle.history_window.proofs.ActLemmas.{all_below_if}
use Rattle.history_window.proofs.AloneLemmas.{same_turn, turn_key}
use Rattle.history_window.proofs.BlockLemmas.{between_keys, less_same_key, same_key_le, same_key_less}
use Rattle.history_window.proofs.ListLemmas.{all_of, index_of, same_at}

-- ---- whether hits leave a write clear

module _ (codes : List CodedCall) (sound : AreSound codes) (blocks : Peaks) (are : AreBlocks codes blocks) (code : CodedCall) (fits : IsFitCode code) where
  pub clear_from : ¬ IsCovered blocks.items.items (rank_of code.key code.start) → IsClear codes code
  clear_from never hit end start has reads key early late less enough =
      let one = are.complete hit has (record { reads = reads; end = end; start = start; early = early; late = late }) in
      let first = one.is.first end early in
      let last = one.is.last start late in
      let low : one.is.end < code.start = omega (arith, first, less) in
      let high : code.start ≤ one.is.start = omega (arith, last, enough) in
      let foot : rank_of hit.key one.is.end < rank_of code.key code.start = less_same_key hit.key code.key one.is.end code.start key low in
      let height : rank_of code.key code.start ≤ rank_of hit.key one.is.start = omega (arith, key, high) in
      never (record {
        peak = one.peak;
        listed = one.listed;
        low = subst (λ n. n < rank_of code.key code.start) (sym one.is.foot) foot;
        high = subst (λ n. rank_of code.key code.start ≤ n) (sym one.is.height) height;
      })

  pub clear_to : IsClear codes code → ¬ IsCovered blocks.items.items (rank_of code.key code.start)
  clear_to clear covered =
      let some = all_of (λ p. IsSomeBlock codes p) blocks.items.items covered.peak are.sound covered.listed in
      let hit = some.hit in
      let is = some.is in
      let put_fits : IsFitCode is.late.put = all_of IsFitCode codes is.late.put sound.fit is.late.listed in
      let put_small = put_fits.start in
      let put_start = is.late.is in
      let small : is.start < 2 ^ 64 = omega (arith, put_small, put_start) in
      let low : rank_of hit.key is.end < rank_of code.key code.start = subst (λ n. n < rank_of code.key code.start) is.foot covered.low in
      let high : rank_of code.key code.start ≤ rank_of hit.key is.start = subst (λ n. rank_of code.key code.start ≤ n) is.height covered.high in
      let key = between_keys hit.key code.key is.end code.start is.start code.start fits.start small low high in
      clear hit is.end is.start some.listed is.reads key is.early is.late (same_key_less hit.key code.key is.end code.start key low) (same_key_le code.key hit.key code.start is.start (sym key) high)

-- ---- the turns of the cuts

pub cuts_begin : (codes : List CodedCall) (bound : ℕ) → AreCutTurns codes bound 0 []
cuts_begin codes bound = record { sound = All-nil (IsCutTurn codes bound); complete = λ k code less at cut. absurd (omega (arith, less)) }

pub cuts_more : (codes : List CodedCall) (bound upto : ℕ) (code : CodedCall) (old new : List ℕ) (test : Bool) → AreCutTurns codes bound upto old → slice_get codes upto ≡ Some code → Contains codes code → (IsTrue test → IsCutCode codes bound code) → (IsCutCode codes bound code → IsTrue test) → GrowsIf test (first_turn code) old new → AreCutTurns codes bound (upto + 1) new
cuts_more codes bound upto code old new test had at has yes' back grows = elim grows [
  | inl more ↦ subst (λ turns. AreCutTurns codes bound (upto + 1) turns) (sym more.1) (record {
    sound = All-push (IsCutTurn codes bound) old (first_turn code) had.sound (record { code = code; listed = has; cut = yes' more.0; is = refl });
    complete = λ k other less at_k cut. elim (cases_eq k upto) [
      | inl here ↦
          let e : code ≡ other = sym (same_at codes k upto other code here at_k at) in
          subst (λ (c : CodedCall). Contains (old ++ first_turn code ∷ []) (first_turn c)) e (Contains-push old (first_turn code))
      | inr apart ↦ Contains-append_left old (first_turn code ∷ []) (first_turn other) (had.complete k other (omega (arith, less, apart)) at_k cut)
    ];
  })
  | inr same ↦ subst (λ turns. AreCutTurns codes bound (upto + 1) turns) (sym same.1) (record {
    sound = had.sound;
    complete = λ k other less at_k cut. elim (cases_eq k upto) [
      | inl here ↦ absurd (same.0 (back (subst (IsCutCode codes bound) (same_at codes k upto other code here at_k at) cut)))
      | inr apart ↦ had.complete k other (omega (arith, less, apart)) at_k cut
    ];
  })
]

pub are_cuts : (codes : List CodedCall) (made : List ℕ) (cuts : Cuts) → AreCutTurns codes cuts.bound (length codes) made → AreSorted made cuts.turns.items → AreCuts codes cuts
are_cuts codes made cuts had are = record {
  sound = All-permutation (IsCutTurn codes cuts.bound) made cuts.turns.items are.moved had.sound;
  complete = λ code has cut.
      let k = index_of codes code has in
      Contains-permutation made cuts.turns.items (first_turn code) are.moved (had.complete k.0 code (slice_get_within codes k.0 code k.1) k.1 cut);
  rise = are.rise;
}

-- ---- the last cut of a key

place_of_turn : (r p n : ℕ) → p < 2 ^ 32 → r * 2 ^ 32 + p ≡ n → n % 4294967296 ≡ p
place_of_turn r p n small e = omega (arith, small, e)

below_last : (k l s p : ℕ) → s < 2 ^ 64 → p < 2 ^ 32 → k ≡ l → turn_of k s p ≤ turn_of l 18446744073709551615 4294967295
below_last k l s p a b e = omega (arith, a, b, e)

module _ (codes : List CodedCall) (sound : AreSound codes) (cuts : Cuts) (are : AreCuts codes cuts) (key : ℕ) where
  abbrev limit : ℕ
  limit = turn_of key 18446744073709551615 4294967295

  cut_upto : (cut : CodedCall) → Contains codes cut → IsCutCode codes cuts.bound cut → cut.key ≡ key → IsUpto cuts.turns.items limit (first_turn cut)
  cut_upto cut has is same =
      let fits = all_of IsFitCode codes cut sound.fit has in
      record { listed = are.complete cut has is; low = below_last cut.key key cut.start cut.position fits.start fits.position same }

  pub no_cut : ((n : ℕ) → ¬ IsUpto cuts.turns.items limit n) → (cut : CodedCall) → Contains codes cut → IsCutCode codes cuts.bound cut → cut.key ≢ key
  no_cut none cut has is same = none (first_turn cut) (cut_upto cut has is same)

  module _ (top : ℕ) (found : IsUpto cuts.turns.items limit top) (greatest : (n : ℕ) → IsUpto cuts.turns.items limit n → n ≤ top) where
    it : IsCutTurn codes cuts.bound top
    it = all_of (IsCutTurn codes cuts.bound) cuts.turns.items top are.sound found.listed

    place_is : top % 4294967296 ≡ it.code.position
    place_is = place_of_turn (rank_of it.code.key it.code.start) it.code.position top (all_of IsFitCode codes it.code sound.fit it.listed).position it.is

    pub place_within : top % 4294967296 < length codes
    place_within =
        let k = index_of codes it.code it.listed in
        let within = slice_get_within codes k.0 it.code k.1 in
        let placed = sound.placed k.0 it.code k.1 in
        let is = place_is in
        omega (arith, within, placed, is)

    module _ (cut : CodedCall) (at : slice_get codes (top % 4294967296) ≡ Some cut) where
      cut_is : it.code ≡ cut
      cut_is =
          let k = index_of codes it.code it.listed in
          same_at codes k.0 (top % 4294967296) it.code cut (sym (sound.placed k.0 it.code k.1) ∙ sym place_is) k.1 at

      turn_is : first_turn cut ≡ top
      turn_is = ap first_turn (sym cut_is) ∙ it.is

      has_cut : Contains codes cut
      has_cut = subst (Contains codes) cut_is it.listed

      pub other_key : cut.key ≢ key → (other : CodedCall) → Contains codes other → IsCutCode codes cuts.bound other → other.key ≢ key
      other_key apart other has is same =
          let fits = all_of IsFitCode codes other sound.fit has in
          let mine = all_of IsFitCode codes cut sound.fit has_cut in
          let le = greatest (first_turn other) (cut_upto other has is same) in
          let low : turn_of key other.start other.position ≤ first_turn cut = subst (λ k. turn_of k other.start other.position ≤ first_turn cut) same (subst (λ n. first_turn other ≤ n) (sym turn_is) le) in
          let high : first_turn cut ≤ limit = subst (λ n. n ≤ limit) (sym turn_is) found.low in
          apart (turn_key key cut.key other.start cut.start 18446744073709551615 other.position cut.position 4294967295 fits.start mine.start (omega arith) fits.position mine.position (omega arith) low high)

      pub last_is : cut.key ≡ key → IsLastCode codes cuts.bound key cut
      last_is same = record {
        listed = has_cut;
        is = subst (IsCutCode codes cuts.bound) cut_is it.cut;
        of_key = same;
        last = λ other has is of_key. subst (λ n. first_turn other ≤ n) (sym turn_is) (greatest (first_turn other) (cut_upto other has is of_key));
      }

-- ---- whether a call stays

-- what a last cut leaves of a call
abbrev pub IsLeft : List CodedCall → CodedCall → CodedCall → Type 0
IsLeft codes cut code = (code.position ≡ cut.position) ⊎ ((cut.end < code.start) ⊎ ((code.reads ≡ true) × IsLateFrom codes code cut.start))

module _ (codes : List CodedCall) (sound : AreSound codes) (bound : ℕ) (code : CodedCall) where
  -- a key has one last cut
  one_cut : (one other : CodedCall) → IsLastCode codes bound code.key one → IsLastCode codes bound code.key other → one ≡ other
  one_cut one other first second =
      let le = second.last one first.listed first.is first.of_key in
      let ge = first.last other second.listed second.is second.of_key in
      same_turn codes sound one other first.listed second.listed (omega (arith, le, ge))

  pub stays_uncut : (code.writes || code.reads) ≡ true → ((cut : CodedCall) → Contains codes cut → IsCutCode codes bound cut → cut.key ≢ code.key) → StaysCode codes bound code
  stays_uncut no_miss none = record { no_miss = no_miss; uncut = λ cut last. absurd (none cut last.listed last.is last.of_key) }

  pub stays_left : (cut : CodedCall) → (code.writes || code.reads) ≡ true → IsLastCode codes bound code.key cut → IsLeft codes cut code → StaysCode codes bound code
  stays_left cut no_miss last is = record { no_miss = no_miss; uncut = λ other also. subst (λ (c : CodedCall). IsLeft codes c code) (one_cut cut other last also) is }

pub late_enough : (codes : List CodedCall) (code : CodedCall) (stamp start : ℕ) → ((n : ℕ) → IsLateStart codes code n → n ≤ start) → IsLateFrom codes code stamp → stamp ≤ start
late_enough codes code stamp start last late =
    let le = last late.start late.late in
    let enough = late.enough in
    omega (arith, le, enough)

-- a call more is listed, if it stays
pub stays_more : (codes : List CodedCall) (bound upto : ℕ) (code : CodedCall) (old new : List ℕ) (test : Bool) → slice_get codes upto ≡ Some code → AreAllBelow (StaysAt codes bound) upto old → GrowsIf test upto old new → (IsTrue test → StaysCode codes bound code) → (StaysCode codes bound code → IsTrue test) → AreAllBelow (StaysAt codes bound) (upto + 1) new
stays_more codes bound upto code old new test at had grows yes' back =
    all_below_if (StaysAt codes bound) test upto old new had grows
    (λ passes. record { code = code; at = at; stays = yes' passes })
    (λ is. back (subst (StaysCode codes bound) (same_at codes upto upto is.code code refl is.at at) is.stays))
