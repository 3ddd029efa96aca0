-- Between which stamps a write is blocked by a hit.
use Rattle.std.proofs.Common.{◌≡◌, ℕ, ◌+◌, ◌^◌, ◌<◌, ◌≤◌, Bool, true, cond, Option, Some, None, List, [], ◌∷◌, ◌++◌, length, refl, sym, ap, ◌∙◌, subst, arith, inl, inr}
use Rattle.std.specs.Prelude.{All, Contains, MatchOption, slice_get}
use Rattle.std.specs.List.{filter_map}
use Rattle.std.proofs.lemmas.Bool.{cases_eq, cases_lt}
use Rattle.std.proofs.lemmas.List.Elements.{All-nil, All-push, Contains-append_left, Contains-push}
use Rattle.std.proofs.lemmas.List.Sorted.{All-permutation, Contains-permutation}
use Rattle.std.proofs.lemmas.Option.{cond_some, slice_get_within}
use Rattle.history_window.specs.declared.coded_call.CodedCall.{CodedCall}
use Rattle.history_window.specs.declared.peak.Peak.{Peak}
use Rattle.history_window.specs.declared.peaks.Peaks.{Peaks}
use Rattle.history_window.specs.declared.tables.HitTables.{HitTables}
use Rattle.history_window.specs.Codes.{IsFitCode}
use Rattle.history_window.specs.Peaks.{ArePeaks, IsHeightBefore}
use Rattle.history_window.specs.Ranks.{IsStampFrom, IsStampUpto, rank_of}
use Rattle.history_window.specs.Reaches.{AreBlocks, AreBlocksBelow, IsBlock, IsBlocked, IsBlocking, IsEarlyEnd, IsLastOver, IsLateStart, IsOverStart, IsSomeBlock}
use Rattle.history_window.specs.Tables.{AreHitTables, put_end, put_start, write_over}
use Rattle.history_window.proofs.ListLemmas.{all_of, index_of, moved_from, picked_from, picked_to, same_at}

-- ---- what is made of the calls that pass a test

pub made_from : {Y : Type 0} (test : CodedCall → Bool) (make : CodedCall → Y) (codes : List CodedCall) (y : Y) → Contains (filter_map (λ c. cond (test c) (Some (make c)) None) codes) y → (c : CodedCall) × Contains codes c × (test c ≡ true) × (make c ≡ y)
made_from test make codes y has =
    let found = picked_from (λ c. cond (test c) (Some (make c)) None) codes y has in
    let both = cond_some (test found.0) (make found.0) y found.2 in
    (found.0, found.1, both.0, both.1)

pub made_to : {Y : Type 0} (test : CodedCall → Bool) (make : CodedCall → Y) (codes : List CodedCall) (c : CodedCall) → Contains codes c → test c ≡ true → Contains (filter_map (λ d. cond (test d) (Some (make d)) None) codes) (make c)
made_to {Y} test make codes c has passes =
    let is : cond (test c) (Some (make c)) None ≡ Some (make c) = ap (λ b. cond b (Some (make c)) None) passes in
    picked_to (λ d. cond (test d) (Some (make d)) None) codes c (make c) has is

-- ---- ranks

rank_word : (k l s t : ℕ) → s < 2 ^ 64 → t < 2 ^ 64 → rank_of k s ≡ rank_of l t → k ≡ l
rank_word k l s t a b e = omega (arith, a, b, e)

rank_stamp : (k l s t : ℕ) → s < 2 ^ 64 → t < 2 ^ 64 → rank_of k s ≡ rank_of l t → s ≡ t
rank_stamp k l s t a b e = omega (arith, a, b, e)

pub same_key_less : (k l s t : ℕ) → k ≡ l → rank_of k s < rank_of l t → s < t
same_key_less k l s t e less = omega (arith, e, less)

pub less_same_key : (k l s t : ℕ) → k ≡ l → s < t → rank_of k s < rank_of l t
less_same_key k l s t e less = omega (arith, e, less)

pub same_key_le : (k l s t : ℕ) → k ≡ l → rank_of k s ≤ rank_of l t → s ≤ t
same_key_le k l s t e le = omega (arith, e, le)

-- what starts on a track before a stamp of another one, and is not below that one, is on it
pub between_keys : (k l e s start t : ℕ) → s < 2 ^ 64 → start < 2 ^ 64 → rank_of k e < rank_of l s → rank_of l t ≤ rank_of k start → k ≡ l
between_keys k l e s start t a b low high = omega (arith, a, b, low, high)

module _ (codes : List CodedCall) (fit : All IsFitCode codes) (tables : HitTables) (are : AreHitTables codes tables) (code : CodedCall) (fits : IsFitCode code) where
  -- ---- the last start of a write that was over

  abbrev over_peak : CodedCall → Peak
  over_peak write = record { foot = rank_of write.key write.end; height = rank_of write.key write.start }

  over_to : (write : CodedCall) → Contains codes write → write.writes ≡ true → Contains tables.overs.items.items (over_peak write)
  over_to write has writes = Contains-permutation (filter_map write_over codes) tables.overs.items.items (over_peak write) are.overs.moved (made_to (λ (c : CodedCall). c.writes) over_peak codes write has writes)

  over_from : (peak : Peak) → Contains tables.overs.items.items peak → (write : CodedCall) × Contains codes write × (write.writes ≡ true) × (over_peak write ≡ peak)
  over_from peak has = made_from (λ (c : CodedCall). c.writes) over_peak codes peak (moved_from (filter_map write_over codes) tables.overs.items.items peak are.overs.moved has)

  -- a write that was over has its peak before the call
  over_height : (start : ℕ) (is : IsOverStart codes code start) → IsHeightBefore tables.overs.items.items (rank_of code.key code.start) (rank_of is.write.key is.write.start)
  over_height start is = record {
    peak = over_peak is.write;
    listed = over_to is.write is.listed is.writes;
    low = less_same_key is.write.key code.key is.write.end code.start is.key is.over;
    is = refl;
  }

  pub none_over : ((n : ℕ) → ¬ IsHeightBefore tables.overs.items.items (rank_of code.key code.start) n) → IsLastOver codes code 0
  none_over none = record {
    most = λ start is. absurd (none (rank_of is.write.key is.write.start) (over_height start is));
    is = inl refl;
  }

  module _ (top : ℕ) (found : IsHeightBefore tables.overs.items.items (rank_of code.key code.start) top) (greatest : (n : ℕ) → IsHeightBefore tables.overs.items.items (rank_of code.key code.start) n → n ≤ top) where
    pub some_over : (stamp : ℕ) → stamp < 2 ^ 64 → top ≡ rank_of code.key stamp → IsLastOver codes code stamp
    some_over stamp small is =
        let from = over_from found.peak found.listed in
        let write = from.0 in
        let write_fits : IsFitCode write = all_of IsFitCode codes write fit from.1 in
        let height : rank_of write.key write.start ≡ rank_of code.key stamp = ap (λ (p : Peak). p.height) from.3 ∙ found.is ∙ is in
        let key = rank_word write.key code.key write.start stamp write_fits.start small height in
        let foot : rank_of write.key write.end < rank_of code.key code.start = subst (λ n. n < rank_of code.key code.start) (sym (ap (λ (p : Peak). p.foot) from.3)) found.low in
        record {
          most = λ start one.
              let le = greatest (rank_of one.write.key one.write.start) (over_height start one) in
              let le' = same_key_le one.write.key code.key one.write.start stamp one.key (subst (λ n. rank_of one.write.key one.write.start ≤ n) is le) in
              let same = one.is in
              omega (arith, le', same);
          is = inr (record {
            write = write;
            listed = from.1;
            writes = from.2;
            key = key;
            over = same_key_less write.key code.key write.end code.start key foot;
            is = rank_stamp write.key code.key write.start stamp write_fits.start small height;
          });
        }

    pub other_over : ((stamp : ℕ) → stamp < 2 ^ 64 → ¬ (top ≡ rank_of code.key stamp)) → IsLastOver codes code 0
    other_over apart = record {
      most = λ start one.
          let from = over_from found.peak found.listed in
          let write = from.0 in
          let write_fits : IsFitCode write = all_of IsFitCode codes write fit from.1 in
          let height : rank_of write.key write.start ≡ top = ap (λ (p : Peak). p.height) from.3 ∙ found.is in
          let foot : rank_of write.key write.end < rank_of code.key code.start = subst (λ n. n < rank_of code.key code.start) (sym (ap (λ (p : Peak). p.foot) from.3)) found.low in
          let le = greatest (rank_of one.write.key one.write.start) (over_height start one) in
          let le' : rank_of code.key one.write.start ≤ rank_of write.key write.start = subst (λ n. rank_of code.key one.write.start ≤ n) (sym height) (subst (λ k. rank_of k one.write.start ≤ top) one.key le) in
          let key = between_keys write.key code.key write.end code.start write.start one.write.start fits.start write_fits.start foot le' in
          absurd (apart write.start write_fits.start (sym height ∙ ap (λ k. rank_of k write.start) key));
      is = inl refl;
    }

  -- ---- the first end of a put that was not replaced

  end_to : (put : CodedCall) → Contains codes put → put.puts ≡ true → Contains tables.ends.items (rank_of put.value put.end)
  end_to put has puts = Contains-permutation (filter_map put_end codes) tables.ends.items (rank_of put.value put.end) are.ends.moved (made_to (λ (c : CodedCall). c.puts) (λ (c : CodedCall). rank_of c.value c.end) codes put has puts)

  end_from : (n : ℕ) → Contains tables.ends.items n → (put : CodedCall) × Contains codes put × (put.puts ≡ true) × (rank_of put.value put.end ≡ n)
  end_from n has = made_from (λ (c : CodedCall). c.puts) (λ (c : CodedCall). rank_of c.value c.end) codes n (moved_from (filter_map put_end codes) tables.ends.items n are.ends.moved has)

  module _ (over : ℕ) (last : IsLastOver codes code over) where
    pub early_of : (stamp : ℕ) → IsStampFrom tables.ends.items code.value over stamp → IsEarlyEnd codes code stamp
    early_of stamp is =
        let from = end_from (rank_of code.value stamp) is.listed in
        let put = from.0 in
        let put_fits : IsFitCode put = all_of IsFitCode codes put fit from.1 in
        let same = rank_stamp put.value code.value put.end stamp put_fits.end is.small from.3 in
        record {
          put = put;
          listed = from.1;
          puts = from.2;
          value = rank_word put.value code.value put.end stamp put_fits.end is.small from.3;
          unreplaced = λ write has writes key before done.
              let most = last.most write.start (record { write = write; listed = has; writes = writes; key = key; over = done; is = refl }) in
              let high = is.high in
              omega (arith, most, high, same, before);
          is = same;
        }

    pub of_early : (stamp : ℕ) → IsEarlyEnd codes code stamp → IsStampFrom tables.ends.items code.value over stamp
    of_early stamp is =
        let put_fits : IsFitCode is.put = all_of IsFitCode codes is.put fit is.listed in
        let small = put_fits.end in
        let same = is.is in
        record {
          small = omega (arith, small, same);
          listed = subst (λ s. Contains tables.ends.items (rank_of code.value s)) same (subst (λ v. Contains tables.ends.items (rank_of v is.put.end)) is.value (end_to is.put is.listed is.puts));
          high = elim (cases_lt stamp over) [
            | inr enough ↦ enough
            | inl less ↦ elim last.is [
              | inl none ↦ omega (arith, none)
              | inr one ↦
                  let start = one.is in
                  let before : is.put.end < one.write.start = omega (arith, start, less, same) in
                  absurd (is.unreplaced one.write one.listed one.writes one.key before one.over)
            ]
          ];
        }

  -- ---- the last start of a put that the hit does not precede

  start_to : (put : CodedCall) → Contains codes put → put.puts ≡ true → Contains tables.starts.items (rank_of put.value put.start)
  start_to put has puts = Contains-permutation (filter_map put_start codes) tables.starts.items (rank_of put.value put.start) are.starts.moved (made_to (λ (c : CodedCall). c.puts) (λ (c : CodedCall). rank_of c.value c.start) codes put has puts)

  start_from : (n : ℕ) → Contains tables.starts.items n → (put : CodedCall) × Contains codes put × (put.puts ≡ true) × (rank_of put.value put.start ≡ n)
  start_from n has = made_from (λ (c : CodedCall). c.puts) (λ (c : CodedCall). rank_of c.value c.start) codes n (moved_from (filter_map put_start codes) tables.starts.items n are.starts.moved has)

  pub late_of : (stamp : ℕ) → IsStampUpto tables.starts.items code.value code.end stamp → IsLateStart codes code stamp
  late_of stamp is =
      let from = start_from (rank_of code.value stamp) is.listed in
      let put = from.0 in
      let put_fits : IsFitCode put = all_of IsFitCode codes put fit from.1 in
      let same = rank_stamp put.value code.value put.start stamp put_fits.start is.small from.3 in
      let low = is.low in
      record {
        put = put;
        listed = from.1;
        puts = from.2;
        value = rank_word put.value code.value put.start stamp put_fits.start is.small from.3;
        begun = omega (arith, low, same);
        is = same;
      }

  pub of_late : (stamp : ℕ) → IsLateStart codes code stamp → IsStampUpto tables.starts.items code.value code.end stamp
  of_late stamp is =
      let put_fits : IsFitCode is.put = all_of IsFitCode codes is.put fit is.listed in
      let small = put_fits.start in
      let same = is.is in
      let begun = is.begun in
      record {
        small = omega (arith, small, same);
        listed = subst (λ s. Contains tables.starts.items (rank_of code.value s)) same (subst (λ v. Contains tables.starts.items (rank_of v is.put.start)) is.value (start_to is.put is.listed is.puts));
        low = omega (arith, begun, same);
      }

-- ---- both, hit by hit

pub block_is : (codes : List CodedCall) (code : CodedCall) (end start foot height : ℕ) → code.reads ≡ true → IsEarlyEnd codes code end → ((n : ℕ) → IsEarlyEnd codes code n → end ≤ n) → IsLateStart codes code start → ((n : ℕ) → IsLateStart codes code n → n ≤ start) → foot ≡ rank_of code.key end → height ≡ rank_of code.key start → IsBlock codes code (record { foot = foot; height = height })
block_is codes code end start foot height reads early first late last foot_is height_is = record { reads = reads; end = end; start = start; early = early; late = late; first = first; last = last; foot = foot_is; height = height_is }

pub blocks_begin : (codes : List CodedCall) → AreBlocksBelow codes 0 []
blocks_begin codes = record { sound = All-nil (IsSomeBlock codes); complete = λ k hit less at blocks. absurd (omega (arith, less)) }

module _ (codes : List CodedCall) (upto : ℕ) (code : CodedCall) (at : slice_get codes upto ≡ Some code) (has : Contains codes code) (old new : List Peak) (had : AreBlocksBelow codes upto old) where
  block_none : ¬ IsBlocking codes code → new ≡ old → AreBlocksBelow codes (upto + 1) new
  block_none none same = subst (λ peaks. AreBlocksBelow codes (upto + 1) peaks) (sym same) (record {
    sound = had.sound;
    complete = λ k hit less at_k blocks. elim (cases_eq k upto) [
      | inl here ↦ absurd (none (subst (IsBlocking codes) (same_at codes k upto hit code here at_k at) blocks))
      | inr apart ↦ had.complete k hit (omega (arith, less, apart)) at_k blocks
    ];
  })

  block_one : (peak : Peak) → IsBlock codes code peak → new ≡ old ++ peak ∷ [] → AreBlocksBelow codes (upto + 1) new
  block_one peak is same = subst (λ peaks. AreBlocksBelow codes (upto + 1) peaks) (sym same) (record {
    sound = All-push (IsSomeBlock codes) old peak had.sound (record { hit = code; listed = has; is = is });
    complete = λ k hit less at_k blocks. elim (cases_eq k upto) [
      | inl here ↦
          let e : code ≡ hit = sym (same_at codes k upto hit code here at_k at) in
          subst (IsBlocked codes (old ++ peak ∷ [])) e (record { peak = peak; listed = Contains-push old peak; is = is })
      | inr apart ↦
          let one = had.complete k hit (omega (arith, less, apart)) at_k blocks in
          record { peak = one.peak; listed = Contains-append_left old (peak ∷ []) one.peak one.listed; is = one.is }
    ];
  })

  pub blocks_more : (block : Option Peak) → MatchOption block (¬ IsBlocking codes code) (IsBlock codes code) → MatchOption block (new ≡ old) (λ one. new ≡ old ++ one ∷ []) → AreBlocksBelow codes (upto + 1) new
  blocks_more None none same = block_none none same
  blocks_more (Some peak) is same = block_one peak is same

pub are_blocks : (codes : List CodedCall) (made : List Peak) (blocks : Peaks) → AreBlocksBelow codes (length codes) made → ArePeaks made blocks → AreBlocks codes blocks
are_blocks codes made blocks had are = record {
  sound = All-permutation (IsSomeBlock codes) made blocks.items.items are.moved had.sound;
  complete = λ hit has is.
      let k = index_of codes hit has in
      let one = had.complete k.0 hit (slice_get_within codes k.0 hit k.1) k.1 is in
      record { peak = one.peak; listed = Contains-permutation made blocks.items.items one.peak are.moved one.listed; is = one.is };
  raised = are.raised;
}
