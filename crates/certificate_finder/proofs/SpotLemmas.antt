-- The points of a line's calls, and the spots sorted by them.
use Rattle.std.proofs.Common.{◌≡◌, ◌≢◌, ℕ, ◌+◌, ◌-◌, ◌*◌, ◌/◌, ◌<◌, ◌≤◌, max, false, Some, List, [], ◌∷◌, ◌++◌, length, take, get_or, set, refl, sym, ap, ◌∙◌, subst, arith, inl, inr}
use Rattle.std.specs.Prelude.{All, AllPairs, slice_get}
use Rattle.std.specs.Option.{option_map, option_map_or}
use Rattle.std.specs.List.Sorted.{IsNonDecreasingBy, IsPermutation}
use Rattle.std.proofs.lemmas.Bool.{cases_eq}
use Rattle.std.proofs.lemmas.List.{length-map, map_push, length-set, length-take-le, get_or-set_other, get_or-set_same, get_or-take, take_all}
use Rattle.std.proofs.lemmas.List.Elements.{All-nil, All-push, All-weaker}
use Rattle.std.proofs.lemmas.List.Sorted.{All-permutation, IsPermutation-map, length_permutation}
use Rattle.std.proofs.lemmas.Option.{get_or_from_slice_get, slice_get-map, slice_get_within, slice_get-get_or, same_Some}
use Rattle.trace_file.specs.declared.act.Act.{Act}
use Rattle.trace_file.specs.declared.act.Act.TheVariants.{Put, Remove, Hit, Miss}
use Rattle.trace_file.specs.declared.call.Call.{Call}
use Rattle.certificate_checker.specs.Acceptance.{IsAccepted}
use Rattle.certificate_checker.specs.Orders.{IsOrder}
use Rattle.certificate_checker.proofs.public_laws.Lookups.{take_next}
use Rattle.trace_file.specs.declared.call_kind.CallKind.TheVariants as kinds
use Rattle.certificate_finder.specs.declared.ranked.Ranked.{Ranked}
use Rattle.certificate_finder.specs.declared.numbered_call.NumberedCall.{NumberedCall}
use Rattle.certificate_finder.specs.declared.zone.Zone.{Zone}
use Rattle.certificate_finder.specs.Lists.{TellsOne}
use Rattle.certificate_finder.specs.Writing.{Writing}
use Rattle.certificate_finder.specs.Lining.{AreGrouped, ArePlaces, AreSpots, AreTurned, HavePoints, InLine, IsLine, IsNextPoint, place_at, positions_in, turn_at, turn_of}
use Rattle.certificate_finder.specs.Owning.{AreOwners}
use Rattle.certificate_finder.specs.Points.{IsPoint}
use Rattle.certificate_finder.specs.Spots.{AreOfOne, is_miss}
use Rattle.trace_file.specs.Kinds.{kind_of}
use Rattle.certificate_finder.specs.Steps.{AreSteps, IsStep}
use Rattle.certificate_finder.specs.Turns.{start_at}
use Rattle.certificate_finder.specs.Zones.{AreDistinct, ArePositions, AreZones, FollowOn, TellsZone}
use Rattle.certificate_finder.proofs.CrossingLemmas.{keys_rise}
use Rattle.certificate_finder.proofs.EndLemmas.{found_at, positions_begin, positions_more}
use Rattle.certificate_finder.proofs.FindLemmas.{call_at, step_at}
use Rattle.certificate_finder.proofs.Listing.{all_at, all_from_at, contains_at, index_of, pair_at, pairs_from_at, same_at}
use Rattle.certificate_finder.proofs.Merging.{order_permuted}
use Rattle.certificate_finder.proofs.Placing.{call_of, line_accepted, of_one, one_joined, one_of, one_turned, start_is}
use Rattle.certificate_finder.proofs.Points.{point_alone, point_next, points_more}
use Rattle.certificate_finder.proofs.Ranking.{rank_at}
use Rattle.certificate_finder.proofs.StepLemmas.{at_front, at_push}
use Rattle.certificate_finder.proofs.TurnLemmas.{are_turns, before_no_miss, fits, no_miss_of, placed, rising_at}
use Rattle.certificate_finder.proofs.Zones.{line_fits}

-- ---- positions

pub position_order : (history : List Call) (count : ℕ) (positions : List ℕ) → count ≡ length history → ArePositions count positions → IsOrder history positions
position_order history count positions same are =
    let len = are.len in
    record {
      positions = all_from_at (λ p. p < length history) positions (λ k p at. let e = are.each k p at in let within = slice_get_within positions k p at in omega arith);
      each = λ p less.
          let f = found_at positions p (omega arith) in
          let e : f.0 ≡ p = are.each p f.0 f.1 in
          contains_at positions p p (f.1 ∙ ap Some e);
      once = pairs_from_at (λ p q. p ≢ q) positions (λ i j p q less one other same_pq. let a = are.each i p one in let b = are.each j q other in absurd (omega arith));
    }

-- the ranked call of a position of a line
pub ranked_of : (line : List Ranked) (k p : ℕ) → slice_get (positions_in line) k ≡ Some p → (r : Ranked) × (slice_get line k ≡ Some r) × (r.position ≡ p)
ranked_of line k p at =
    let within = slice_get_within (positions_in line) k p at in
    let len = length-map line (λ (r : Ranked). r.position) in
    let f = found_at line k (omega arith) in
    let here : slice_get (positions_in line) k ≡ Some f.0.position = slice_get-map (λ (r : Ranked). r.position) line k ∙ ap (option_map (λ (r : Ranked). r.position)) f.1 in
    (f.0, f.1, same_Some f.0.position p (sym here ∙ at))

-- ---- what a line by turns is

act_no_miss : (act : Act) → kind_of act ≢ kinds.Miss → is_miss act ≡ false
act_no_miss (Put value expires) h = refl
act_no_miss Remove h = refl
act_no_miss (Hit value moment) h = refl
act_no_miss Miss h = absurd (h refl)

miss_of : (call : Call) (step : NumberedCall) → IsStep call step → step.kind ≢ kinds.Miss → is_miss call.act ≡ false
miss_of call step is some = act_no_miss call.act (λ m. some (is.kind ∙ m))

-- two calls with one key number, neither a miss
joined : (history : List Call) (steps : List NumberedCall) → AreSteps history steps → (p q : ℕ) (s t : NumberedCall) (c : Call) → slice_get steps p ≡ Some s → slice_get steps q ≡ Some t → slice_get history q ≡ Some c → s.kind ≢ kinds.Miss → is_miss c.act ≡ false → s.key ≡ t.key → AreOfOne history p q
joined history steps are p q s t c at_s at_t at_c some other key =
    let a = call_at history steps are p s at_s in
    let alike = are.alike p q a.0 c s t a.1 at_c at_s at_t in
    of_one history p q a.0 c a.1 at_c (alike.keys.0 key) (miss_of a.0 s a.2 some) other

module _ (history : List Call) (steps : List NumberedCall) (are : AreSteps history steps) (owners : List ℕ) (own : AreOwners steps owners) (zones : List Zone) (zs : AreZones steps owners zones) (places : List ℕ) (pl : ArePlaces (length steps) zones (length zones) places) (line : List Ranked) (is : IsLine steps owners places (length zones) line) where
  pub line_order : IsOrder history (positions_in line)
  line_order = order_permuted history (positions_in is.listed) (positions_in line) (IsPermutation-map (λ (r : Ranked). r.position) is.listed line is.moved) (position_order history (length steps) (positions_in is.listed) are.count is.positions)

  turns_rise : (i j p q : ℕ) → i ≤ j → slice_get (positions_in line) i ≡ Some p → slice_get (positions_in line) j ≡ Some q → turn_at steps owners places (length zones) p ≤ turn_at steps owners places (length zones) q
  turns_rise i j p q le one other =
      let a = ranked_of line i p one in
      let b = ranked_of line j q other in
      let le' = rank_at (λ (r : Ranked). r.rank) line i j a.0 b.0 is.sorted le a.1 b.1 in
      let ra : a.0.rank ≡ turn_at steps owners places (length zones) p = all_at (λ (r : Ranked). r.rank ≡ turn_at steps owners places (length zones) r.position) line i a.0 is.ranks a.1 ∙ ap (turn_at steps owners places (length zones)) a.2 in
      let rb : b.0.rank ≡ turn_at steps owners places (length zones) q = all_at (λ (r : Ranked). r.rank ≡ turn_at steps owners places (length zones) r.position) line j b.0 is.ranks b.1 ∙ ap (turn_at steps owners places (length zones)) b.2 in
      omega arith

  pub line_in_turn : AllPairs (λ p q. turn_at steps owners places (length zones) p ≤ turn_at steps owners places (length zones) q) (positions_in line)
  line_in_turn = pairs_from_at (λ p q. turn_at steps owners places (length zones) p ≤ turn_at steps owners places (length zones) q) (positions_in line) (λ i j p q less one other. turns_rise i j p q (omega arith) one other)

  step_of : (k p : ℕ) → slice_get (positions_in line) k ≡ Some p → (s : NumberedCall) × (slice_get steps p ≡ Some s)
  step_of k p at =
      let within : p < length history = all_at (λ q. q < length history) (positions_in line) k p line_order.positions at in
      let count = are.count in
      found_at steps p (omega arith)

  pub line_grouped : AreGrouped history (positions_in line)
  line_grouped = record {
    each = λ i j k p q r ij jk at_p at_q at_r one.
        let a = call_of history one.key p one.first in
        let c = call_of history one.key r one.second in
        let both = one_of history p r a.0 c.0 a.1 c.1 one in
        let s = step_at history steps are p a.0 a.1 in
        let u = step_at history steps are r c.0 c.1 in
        let t = step_of j q at_q in
        let some : s.0.kind ≢ kinds.Miss = λ m. no_miss_of a.0.act both.1 (sym s.2.kind ∙ m) in
        let other : u.0.kind ≢ kinds.Miss = λ m. no_miss_of c.0.act both.2 (sym u.2.kind ∙ m) in
        let le_pq = turns_rise i j p q ij at_p at_q in
        let le_qr = turns_rise j k q r jk at_q at_r in
        let mid : t.0.kind ≢ kinds.Miss = before_no_miss history steps are owners own zones zs places pl q r t.0 u.0 t.1 u.1 other le_qr in
        let alike = are.alike p r a.0 c.0 s.0 u.0 a.1 c.1 s.1 u.1 in
        let key : s.0.key ≡ u.0.key = alike.keys.1 both.0 in
        let zp = placed history steps are owners own zones zs places pl p s.0 s.1 some in
        let zq = placed history steps are owners own zones zs places pl q t.0 t.1 mid in
        let zr = placed history steps are owners own zones zs places pl r u.0 u.1 other in
        let pq = rising_at history steps are owners own zones zs places pl p q s.0 t.0 s.1 t.1 some mid le_pq in
        let qr = rising_at history steps are owners own zones zs places pl q r t.0 u.0 t.1 u.1 mid other le_qr in
        let low = keys_rise zones zs.sorted zs.fit (place_at owners places p) (place_at owners places q) zp.zone zq.zone pq zp.zone_at zq.zone_at in
        let high = keys_rise zones zs.sorted zs.fit (place_at owners places q) (place_at owners places r) zq.zone zr.zone qr zq.zone_at zr.zone_at in
        let kp : zp.zone.key ≡ s.0.key = zp.tells.key ∙ zp.one_key in
        let kq : zq.zone.key ≡ t.0.key = zq.tells.key ∙ zq.one_key in
        let kr : zr.zone.key ≡ u.0.key = zr.tells.key ∙ zr.one_key in
        let same : t.0.key ≡ u.0.key = omega arith in
        joined history steps are q r t.0 u.0 c.0 t.1 u.1 c.1 mid both.2 same;
  }

  pub line_neighbours : (k p q : ℕ) (s t : NumberedCall) → slice_get (positions_in line) k ≡ Some p → slice_get (positions_in line) (k + 1) ≡ Some q → slice_get steps p ≡ Some s → slice_get steps q ≡ Some t → t.kind ≢ kinds.Miss → s.key ≡ t.key → AreOfOne history p q
  line_neighbours k p q s t at_p at_q at_s at_t some key =
      let le = turns_rise k (k + 1) p q (omega arith) at_p at_q in
      let other = before_no_miss history steps are owners own zones zs places pl p q s t at_s at_t some le in
      let c = call_at history steps are q t at_t in
      joined history steps are p q s t c.0 at_s at_t c.1 other (miss_of c.0 t c.2 some) key

  -- a line by turns, with spots, is accepted
  pub spots_accepted : (spots : List Ranked) → AllPairs FollowOn zones → All (λ (call : Call). call.start ≤ call.end) history → AreSpots history line spots → IsAccepted history (positions_in spots)
  spots_accepted spots follow intervals sp =
      let order : IsOrder history (positions_in sp.listed) = subst (λ ps. IsOrder history ps) (sym sp.same) line_order in
      let in_turn : AllPairs (λ p q. turn_at steps owners places (length zones) p ≤ turn_at steps owners places (length zones) q) (positions_in sp.listed) = subst (λ ps. AllPairs (λ p q. turn_at steps owners places (length zones) p ≤ turn_at steps owners places (length zones) q) ps) (sym sp.same) line_in_turn in
      line_accepted (λ (r : Ranked). r.position) (λ (r : Ranked). r.rank) history (λ p. get_or owners p 0) (turn_at steps owners places (length zones)) sp.listed spots
      (are_turns history steps are owners own zones zs places pl) order in_turn intervals
      (line_fits (λ (r : Ranked). r.position) history (turn_at steps owners places (length zones)) sp.listed order in_turn (fits history steps are owners own zones zs places pl follow intervals))
      sp.points sp.places sp.moved sp.sorted

-- ---- the points, call by call

pub spots_begin : (history : List Call) (line : List Ranked) → HavePoints history line [] 0 0
spots_begin history line = record {
  same = refl;
  points = λ k d less. absurd (omega arith);
  places = λ k r at. absurd (let within = slice_get_within {A = Ranked} [] k r at in omega arith);
  last = λ k p none at. absurd (omega arith);
  none = λ e. refl;
}

div_is : (n k : ℕ) → k < 4294967296 → (n * 4294967296 + k) / 4294967296 ≡ n
div_is n k less = omega arith

module _ (history : List Call) (steps : List NumberedCall) (are : AreSteps history steps) (line : List Ranked) (inline : InLine history steps (positions_in line)) where
  -- the point of one call more
  next_is : (spots : List Ranked) (upto point next p : ℕ) (step before : NumberedCall) → HavePoints history line spots upto point → slice_get (positions_in line) upto ≡ Some p → slice_get steps p ≡ Some step → (upto ≡ 0 → before ≡ step) → ((q : ℕ) → 0 < upto → slice_get (positions_in line) (upto - 1) ≡ Some q → slice_get steps q ≡ Some before) → IsNextPoint step before point next → IsPoint (AreOfOne history) (start_at history) (take upto (positions_in line)) p next
  next_is spots upto point next p step before had at at_step first later chosen =
      let c = call_at history steps are p step at_step in
      let start : start_at history p ≡ step.start = start_is history p c.0 c.1 ∙ sym c.2.start in
      elim (cases_eq upto 0) [
        | inl zero' ↦
            let empty : take upto (positions_in line) ≡ [] = ap (λ n. take n (positions_in line)) zero' in
            let alone = point_alone (AreOfOne history) (start_at history) [] p (λ q has one. let less : has.0 < 0 = has.1 in omega arith) in
            let no_point = had.none zero' in
            let is : start_at history p ≡ next = elim chosen [
              | inl greater ↦ let e = greater.2 in omega arith
              | inr own ↦ let e = own.1 in omega arith
            ] in
            subst (λ ps. IsPoint (AreOfOne history) (start_at history) ps p next) (sym empty) (subst (λ n. IsPoint (AreOfOne history) (start_at history) [] p n) is alone)
        | inr some ↦
            let within = slice_get_within (positions_in line) upto p at in
            let l = found_at (positions_in line) (upto - 1) (omega arith) in
            let at_before = later l.0 (omega arith) l.1 in
            let pred : upto - 1 + 1 ≡ upto = omega arith in
            let at' : slice_get (positions_in line) (upto - 1 + 1) ≡ Some p = ap (slice_get (positions_in line)) pred ∙ at in
            let grown : take upto (positions_in line) ≡ take (upto - 1) (positions_in line) ++ l.0 ∷ [] = ap (λ n. take n (positions_in line)) (sym pred) ∙ take_next (positions_in line) (upto - 1) l.0 l.1 in
            elim chosen [
              | inl greater ↦
                  let one = inline.neighbours (upto - 1) l.0 p before step l.1 at' at_before at_step greater.0 (sym greater.1) in
                  let last = had.last (upto - 1) l.0 pred l.1 in
                  let joined = point_next (AreOfOne history) (start_at history) (one_turned history) (one_joined history) (take (upto - 1) (positions_in line)) l.0 p point last one in
                  let is : max (start_at history p) point ≡ next = ap (λ n. max n point) start ∙ sym greater.2 in
                  subst (λ ps. IsPoint (AreOfOne history) (start_at history) ps p next) (sym grown) (subst (λ n. IsPoint (AreOfOne history) (start_at history) (take (upto - 1) (positions_in line) ++ l.0 ∷ []) p n) is joined)
              | inr own ↦
                  let alone = point_alone (AreOfOne history) (start_at history) (take upto (positions_in line)) p (λ q has one.
                  let i = index_of (take upto (positions_in line)) q has in
                  let inside = slice_get_within (take upto (positions_in line)) i.0 q i.1 in
                  let len = length-take-le upto (positions_in line) (omega arith) in
                  let i_at : slice_get (positions_in line) i.0 ≡ Some q = slice_get-get_or (positions_in line) i.0 q (omega arith) ∙ ap Some (sym (get_or-take upto (positions_in line) i.0 q (omega arith)) ∙ get_or_from_slice_get (take upto (positions_in line)) i.0 q q i.1) in
                  let near = inline.grouped.each i.0 (upto - 1) upto q l.0 p (omega arith) (omega arith) i_at l.1 at one in
                  let b = call_at history steps are l.0 before at_before in
                  let both = one_of history l.0 p b.0 c.0 b.1 c.1 near in
                  let alike = are.alike l.0 p b.0 c.0 before step b.1 c.1 at_before at_step in
                  elim own.0 [
                    | inl miss ↦ no_miss_of c.0.act both.2 (sym c.2.kind ∙ miss)
                    | inr differs ↦ differs (sym (alike.keys.1 both.0))
                  ]) in
                  let is : start_at history p ≡ next = start ∙ sym own.1 in
                  subst (λ n. IsPoint (AreOfOne history) (start_at history) (take upto (positions_in line)) p n) is alone
            ]
      ]

  pub spots_go_on : (spots : List Ranked) (upto point next : ℕ) (turn : Ranked) (step before : NumberedCall) → HavePoints history line spots upto point → upto < 4294967296 → slice_get line upto ≡ Some turn → slice_get steps turn.position ≡ Some step → (upto ≡ 0 → before ≡ step) → ((q : ℕ) → 0 < upto → slice_get (positions_in line) (upto - 1) ≡ Some q → slice_get steps q ≡ Some before) → IsNextPoint step before point next → HavePoints history line (spots ++ record { position = turn.position; rank = next * 4294967296 + upto } ∷ []) (upto + 1) next
  spots_go_on spots upto point next turn step before had few at at_step first later chosen =
      let at_p : slice_get (positions_in line) upto ≡ Some turn.position = slice_get-map (λ (r : Ranked). r.position) line upto ∙ ap (option_map (λ (r : Ranked). r.position)) at in
      let is = next_is spots upto point next turn.position step before had at_p at_step first later chosen in
      let div : (next * 4294967296 + upto) / 4294967296 ≡ next = div_is next upto few in
      let within = slice_get_within line upto turn at in
      let len_line = length-map line (λ (r : Ranked). r.position) in
      let len_take = length-take-le upto (positions_in line) (omega arith) in
      let len_spots : length spots ≡ upto = sym (length-map spots (λ (r : Ranked). r.position)) ∙ ap length had.same ∙ len_take in
      record {
        same = map_push (λ (r : Ranked). r.position) spots (record { position = turn.position; rank = next * 4294967296 + upto }) ∙ ap (λ ps. ps ++ turn.position ∷ []) had.same ∙ sym (take_next (positions_in line) upto turn.position at_p);
        points = points_more (AreOfOne history) (start_at history) (λ (r : Ranked). r.position) (λ (r : Ranked). r.rank / 4294967296) spots (record { position = turn.position; rank = next * 4294967296 + upto }) had.points
            (subst (λ ps. IsPoint (AreOfOne history) (start_at history) ps turn.position ((next * 4294967296 + upto) / 4294967296)) (sym had.same) (subst (λ n. IsPoint (AreOfOne history) (start_at history) (take upto (positions_in line)) turn.position n) (sym div) is));
        places = λ k r at_r. elim (cases_eq k (length spots)) [
          | inl same ↦
              let e : record { position = turn.position; rank = next * 4294967296 + upto } ≡ r = at_push spots (record { position = turn.position; rank = next * 4294967296 + upto }) r k at_r same in
              let place : next * 4294967296 + upto ≡ (next * 4294967296 + upto) / 4294967296 * 4294967296 + k = ap (λ n. n * 4294967296 + upto) (sym div) ∙ ap (λ j. (next * 4294967296 + upto) / 4294967296 * 4294967296 + j) (sym (same ∙ len_spots)) in
              subst (λ (x : Ranked). x.rank ≡ x.rank / 4294967296 * 4294967296 + k) e place
          | inr other ↦ had.places k r (at_front spots (record { position = turn.position; rank = next * 4294967296 + upto }) r k at_r other)
        ];
        last = λ k q one at_q.
            let k_is : k ≡ upto = omega arith in
            let q_is : turn.position ≡ q = same_at (positions_in line) upto k turn.position q (sym k_is) at_p at_q in
            subst (λ n. IsPoint (AreOfOne history) (start_at history) (take n (positions_in line)) q next) (sym k_is) (subst (λ x. IsPoint (AreOfOne history) (start_at history) (take upto (positions_in line)) x next) q_is is);
        none = λ e. absurd (omega arith);
      }

  pub spots_end : (spots sorted : List Ranked) (upto point : ℕ) → HavePoints history line spots upto point → length line ≤ upto → IsPermutation spots sorted → IsNonDecreasingBy (λ (r : Ranked). r.rank) sorted → AreSpots history line sorted
  spots_end spots sorted upto point had all moved ascends =
      let len_line = length-map line (λ (r : Ranked). r.position) in
      record {
        listed = spots;
        same = had.same ∙ take_all upto (positions_in line) (omega arith);
        points = had.points;
        places = λ k d less. had.places k (get_or spots k d) (slice_get-get_or spots k d less);
        moved = moved;
        sorted = ascends;
      }

-- ---- the turns, call by call

pub turned_begin : (steps : List NumberedCall) (owners places : List ℕ) (zones : ℕ) → AreTurned steps owners places zones 0 []
turned_begin steps owners places zones = record { positions = positions_begin; ranks = All-nil (λ (r : Ranked). r.rank ≡ turn_at steps owners places zones r.position) }

pub turned_more : (steps : List NumberedCall) (owners places : List ℕ) (zones upto owner place : ℕ) (step : NumberedCall) (line : List Ranked) (rank : ℕ) → AreTurned steps owners places zones upto line → slice_get steps upto ≡ Some step → slice_get owners upto ≡ Some owner → slice_get places owner ≡ Some place → rank ≡ turn_of step.kind step.start place zones → AreTurned steps owners places zones (upto + 1) (line ++ record { position = upto; rank = rank } ∷ [])
turned_more steps owners places zones upto owner place step line rank had at owned placed is =
    let here : place_at owners places upto ≡ place = ap (λ o. get_or places o 0) (get_or_from_slice_get owners upto owner 0 owned) ∙ get_or_from_slice_get places owner place 0 placed in
    let turn : turn_at steps owners places zones upto ≡ turn_of step.kind step.start (place_at owners places upto) zones = ap (λ o. option_map_or (λ (s : NumberedCall). turn_of s.kind s.start (place_at owners places upto) zones) o 0) at in
    record {
      positions = subst (λ ps. ArePositions (upto + 1) ps) (sym (map_push (λ (r : Ranked). r.position) line (record { position = upto; rank = rank }))) (positions_more upto (positions_in line) had.positions);
      ranks = All-push (λ (r : Ranked). r.rank ≡ turn_at steps owners places zones r.position) line (record { position = upto; rank = rank }) had.ranks (is ∙ ap (λ p. turn_of step.kind step.start p zones) (sym here) ∙ sym turn);
    }

pub is_line : (steps : List NumberedCall) (owners places : List ℕ) (zones : ℕ) (xs ys : List Ranked) → AreTurned steps owners places zones (length steps) xs → IsPermutation xs ys → IsNonDecreasingBy (λ (r : Ranked). r.rank) ys → IsLine steps owners places zones ys
is_line steps owners places zones xs ys had moved sorted = record {
  listed = xs;
  positions = had.positions;
  moved = moved;
  ranks = All-permutation (λ (r : Ranked). r.rank ≡ turn_at steps owners places zones r.position) xs ys moved had.ranks;
  sorted = sorted;
}

pub line_within : (steps : List NumberedCall) (owners places : List ℕ) (zones : ℕ) (line : List Ranked) → IsLine steps owners places zones line → All (λ turn. turn.position < length steps) line
line_within steps owners places zones line is =
    All-permutation (λ (r : Ranked). r.position < length steps) is.listed line is.moved (all_from_at (λ (r : Ranked). r.position < length steps) is.listed (λ k r at.
    let here : slice_get (positions_in is.listed) k ≡ Some r.position = slice_get-map (λ (r : Ranked). r.position) is.listed k ∙ ap (option_map (λ (r : Ranked). r.position)) at in
    let e = is.positions.each k r.position here in
    let within = slice_get_within (positions_in is.listed) k r.position here in
    let len = is.positions.len in
    omega arith))

pub line_length : (steps : List NumberedCall) (owners places : List ℕ) (zones : ℕ) (line : List Ranked) → IsLine steps owners places zones line → length line ≡ length steps
line_length steps owners places zones line is = length_permutation is.listed line is.moved ∙ sym (length-map is.listed (λ (r : Ranked). r.position)) ∙ is.positions.len

-- ---- the places of zones

pub places_begin : (count : ℕ) (zones : List Zone) (places : List ℕ) → length places ≡ count → ArePlaces count zones 0 places
places_begin count zones places len = record { len = len; each = λ k zone less at. absurd (omega arith) }

pub places_more : (count : ℕ) (zones : List Zone) (upto : ℕ) (places : List ℕ) (zone : Zone) → AreDistinct zones → ArePlaces count zones upto places → slice_get zones upto ≡ Some zone → zone.write < count → ArePlaces count zones (upto + 1) (set places zone.write upto)
places_more count zones upto places zone distinct had at within = record {
  len = length-set places zone.write upto ∙ had.len;
  each = λ k z less at_z. elim (cases_eq k upto) [
    | inl same ↦
        let is = same_at zones upto k zone z (sym same) at at_z in
        let len = had.len in
        let all = length-set places zone.write upto in
        let here : slice_get (set places zone.write upto) zone.write ≡ Some upto = slice_get-get_or (set places zone.write upto) zone.write upto (omega arith) ∙ ap Some (get_or-set_same places zone.write upto upto (omega arith)) in
        ap (slice_get (set places zone.write upto)) (ap (λ (z : Zone). z.write) (sym is)) ∙ here ∙ ap Some (sym same)
    | inr other ↦
        let old = had.each k z (omega arith) at_z in
        let inside = slice_get_within places z.write k old in
        let all = length-set places zone.write upto in
        let apart : z.write ≢ zone.write = pair_at (λ (a b : Zone). a.write ≢ b.write) zones k upto z zone distinct (omega arith) at_z at in
        slice_get-get_or (set places zone.write upto) z.write k (omega arith) ∙ ap Some (get_or-set_other places zone.write z.write upto k apart ∙ get_or_from_slice_get places z.write k k old)
  ];
}

pub zones_in : (steps : List NumberedCall) (owners : List ℕ) (zones : List Zone) → AreZones steps owners zones → All (λ (zone : Zone). zone.write < length steps) zones
zones_in steps owners zones zs = All-weaker (TellsOne steps Writing (TellsZone steps owners)) (λ (zone : Zone). zone.write < length steps) (λ z one. let e : z.write ≡ one.position = one.told.write in let within = slice_get_within steps one.position one.step one.at in omega arith) zones zs.lists.sound

-- the whole way from zones to a certificate
pub accepted_by_spots : (history : List Call) (steps : List NumberedCall) (are : AreSteps history steps) (owners : List ℕ) (own : AreOwners steps owners) (zones : List Zone) (zs : AreZones steps owners zones) (placed places : List ℕ) → placed ≡ places → ArePlaces (length steps) zones (length zones) places → (line turns : List Ranked) → turns ≡ line → IsLine steps owners placed (length zones) line → (spots spotted : List Ranked) → spotted ≡ spots → AllPairs FollowOn zones → All (λ (call : Call). call.start ≤ call.end) history → (InLine history steps (positions_in turns) → AreSpots history turns spots) → (certificate : List ℕ) → certificate ≡ positions_in spotted → IsAccepted history certificate
accepted_by_spots history steps are owners own zones zs placed places same_places pl line turns same_turns is spots spotted same_spots follow intervals make certificate written =
    let pl' : ArePlaces (length steps) zones (length zones) placed = subst (λ p. ArePlaces (length steps) zones (length zones) p) (sym same_places) pl in
    let inline : InLine history steps (positions_in line) = record { neighbours = line_neighbours history steps are owners own zones zs placed pl' line is; grouped = line_grouped history steps are owners own zones zs placed pl' line is } in
    let sp : AreSpots history line spots = subst (λ t. AreSpots history t spots) same_turns (make (subst (λ t. InLine history steps (positions_in t)) (sym same_turns) inline)) in
    let accepted = spots_accepted history steps are owners own zones zs placed pl' line is spots follow intervals sp in
    subst (λ ps. IsAccepted history ps) (sym (written ∙ ap positions_in same_spots)) accepted

pub certificate_more : (spots : List Ranked) (index : ℕ) (spot : Ranked) (old new : List ℕ) → new ≡ old ++ spot.position ∷ [] → old ≡ positions_in (take index spots) → slice_get spots index ≡ Some spot → new ≡ positions_in (take (index + 1) spots)
certificate_more spots index spot old new written had at =
    written ∙ ap (λ ps. ps ++ spot.position ∷ []) had ∙ sym (ap positions_in (take_next spots index spot at) ∙ map_push (λ (r : Ranked). r.position) (take index spots) spot)
