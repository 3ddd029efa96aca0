-- The heads of lanes of which no call is listed, lane by lane.
use Rattle.std.proofs.Common.{◌≡◌, ℕ, ◌+◌, ◌≤◌, suc, Some, List, [], ◌∷◌, ◌++◌, length, get_or, refl, sym, ap, ◌∙◌, arith, inl, inr, length-append}
use Rattle.std.specs.Prelude.{slice_get}
use Rattle.std.specs.List.{flat_map}
use Rattle.std.proofs.lemmas.Option.{slice_get-get_or}
use Rattle.certificate_checker.specs.declared.done.Done.{Done}
use Rattle.certificate_checker.specs.Lanes.{calls_of}
use Rattle.history_recorder.specs.declared.lane_head.LaneHead.{LaneHead}
use Rattle.history_recorder.specs.Merging.{first_of, AtTheFirst}
use Rattle.history_recorder.proofs.public_laws.Stamps.{found_before, first_none, first_after, first_within}

-- the heads of the first lanes, and where the next one begins
pub record StartsBelow (lanes : List (List Done)) (heads : List LaneHead) (limit first : ℕ) : Type 0 where
  pub count : length heads ≡ limit
  pub begins : first ≡ first_of lanes limit
  pub each : (number : ℕ) (head : LaneHead) → slice_get heads number ≡ Some head → (head.first ≡ first_of lanes number) × (head.listed ≡ 0)

pub no_heads : (lanes : List (List Done)) → StartsBelow lanes [] 0 0
no_heads lanes = record { count = refl; begins = sym (first_none lanes); each = λ number head is. absurd (cc) }

module _ (lanes : List (List Done)) (heads : List LaneHead) (limit first : ℕ) (lane : List Done) (starts : StartsBelow lanes heads limit first) (found : slice_get lanes limit ≡ Some lane) where
  -- the head of one lane more
  pub head_more : StartsBelow lanes (heads ++ record { first = first; listed = 0 } ∷ []) (limit + 1) (first + length lane)
  head_more = record {
    count = let count = starts.count in omega (arith, count, length-append heads (record { first = first; listed = 0 } ∷ []));
    begins =
        let begins = starts.begins in
        let after = first_after lanes limit lane found in
        let next : suc limit ≡ limit + 1 = omega arith in
        let sum : first + length lane ≡ first_of lanes (suc limit) = omega (arith, begins, after) in
        sum ∙ ap (first_of lanes) next;
    each = λ number head is. elim (found_before heads (record { first = first; listed = 0 }) head number is) [
      | inl old ↦ starts.each number head old
      | inr last ↦ (
        sym (ap (λ (h : LaneHead). h.first) last.1) ∙ starts.begins ∙ ap (first_of lanes) (sym (last.0 ∙ starts.count)),
        sym (ap (λ (h : LaneHead). h.listed) last.1),
      )
    ];
  }

  -- the lane ends within the calls
  pub ends_within : first + length lane ≤ length (flat_map calls_of lanes)
  ends_within =
      let begins = starts.begins in
      let after = first_after lanes limit lane found in
      let within = first_within lanes (suc limit) in
      omega (arith, begins, after, within)

pub all_start : (lanes : List (List Done)) (heads : List LaneHead) (first : ℕ) → StartsBelow lanes heads (length lanes) first → AtTheFirst lanes heads
all_start lanes heads first starts = record {
  are_heads = record {
    count = starts.count;
    first = λ number head is. (starts.each number head is).0;
    within = λ number head lane is found. let none = (starts.each number head is).1 in omega (arith, none);
  };
  none_listed = λ k d less. (starts.each k (get_or heads k d) (slice_get-get_or heads k d less)).1;
}
