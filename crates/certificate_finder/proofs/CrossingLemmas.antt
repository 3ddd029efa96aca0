-- Looking for zones that are crossed.
use Rattle.std.proofs.Common.{◌≡◌, ◌≢◌, ℕ, ◌+◌, ◌*◌, ◌^◌, ◌<◌, ◌≤◌, ◌⊎◌, Bool, true, false, ◌-◌, Some, List, [], ◌∷◌, ◌++◌, length, get_or, refl, replicate, set, sym, ap, ◌∙◌, subst, arith, inl, inr}
use Rattle.std.specs.Prelude.{All, AllPairs, Contains, map, slice_get}
use Rattle.std.specs.List.Sorted.{IsNonDecreasingBy}
use Rattle.std.specs.Option.{option_map}
use Rattle.std.proofs.lemmas.Bool.{cases_eq, cases_lt}
use Rattle.std.proofs.lemmas.List.{get_or-replicate, length-map, length-replicate, length-set, map_push}
use Rattle.std.proofs.lemmas.List.Elements.{All-nil, All-push, All-weaker, Contains-append_left, Contains-push}
use Rattle.std.proofs.lemmas.List.Quantifiers.{all_pairs_push}
use Rattle.std.proofs.lemmas.Option.{get_or_from_slice_get, slice_get-get_or, slice_get-map, slice_get_within}
use Rattle.certificate_finder.specs.declared.crossing.Crossing.{Crossing}
use Rattle.certificate_finder.specs.declared.zone.Zone.{Zone}
use Rattle.certificate_finder.specs.Deciding.{AreStill, IsCrossedNext, IsMarked}
use Rattle.certificate_finder.specs.Zones.{AreCrossedAt, AreCrossedNext, AreCrossing, AreCrossings, AreDistinct, FollowOn, GrowsByCrossing, IsFitZone, IsLastKey, zone_rank}
use Rattle.certificate_finder.proofs.EndLemmas.{at_set_other, at_set_same, found_at}
use Rattle.certificate_finder.proofs.Listing.{all_at, contains_at, index_of, pair_at, pairs_from_at, same_at}
use Rattle.certificate_finder.proofs.Ranking.{rank_at}

pub record IsHighest (zones : List Zone) (upto : ℕ) (high : Zone) : Type 0 where
  -- one of the zones so far
  pub index : ℕ
  pub below : index < upto
  pub at : slice_get zones index ≡ Some high
  -- none of its key comes after one of another key
  pub last : (k : ℕ) (zone : Zone) → k < upto → slice_get zones k ≡ Some zone → zone.key ≤ high.key
  -- none of its key starts later
  pub most : (k : ℕ) (zone : Zone) → k < upto → slice_get zones k ≡ Some zone → zone.key ≡ high.key → zone.start ≤ high.start

-- the keys of crossings
abbrev pub keys_of : List Crossing → List ℕ
keys_of crossings = map (λ (crossing : Crossing). crossing.one.key) crossings

-- the zones so far follow on, but those of the keys that are listed
pub record CrossingsSoFar (zones : List Zone) (crossings : List Crossing) (upto : ℕ) (high : Zone) : Type 0 where
  pub highest : IsHighest zones upto high
  pub each : All (AreCrossing zones) crossings
  pub below : All (λ (crossing : Crossing). crossing.one.key ≤ high.key) crossings
  pub rise : AllPairs (λ (one other : Crossing). one.one.key < other.one.key) crossings
  pub follow : (i j : ℕ) (earlier later : Zone) → i < j → j < upto → slice_get zones i ≡ Some earlier → slice_get zones j ≡ Some later → FollowOn earlier later ⊎ Contains (keys_of crossings) later.key

-- the keys that are marked so far have crossed zones, and the zones so far of the others that were stuck follow on
pub record StillSoFar (zones : List Zone) (stuck still : List Bool) (upto : ℕ) (high : Zone) : Type 0 where
  pub highest : IsHighest zones upto high
  pub count : length still ≡ length stuck
  pub crossed : (key : ℕ) → slice_get still key ≡ Some true → (slice_get stuck key ≡ Some true) × AreCrossedAt zones key
  pub follow : (i j : ℕ) (earlier later : Zone) → i < j → j < upto → slice_get zones i ≡ Some earlier → slice_get zones j ≡ Some later → slice_get stuck later.key ≡ Some true → slice_get still later.key ≡ Some false → FollowOn earlier later

zone_key_le : (k a l b : ℕ) → b < 2 ^ 65 → k * 2 ^ 65 + a ≤ l * 2 ^ 65 + b → k ≤ l
zone_key_le k a l b small le = omega arith

middle_le : (k a b c d : ℕ) → k * 2 ^ 65 + (a + b) ≤ k * 2 ^ 65 + (c + d) → a + b ≤ c + d
middle_le k a b c d le = omega arith

none_marked : (n k : ℕ) (flag : Bool) → slice_get (replicate n false) k ≡ Some flag → flag ≡ false
none_marked n k flag at =
    let within = slice_get_within (replicate n false) k flag at in
    let len : length (replicate n false) ≡ n = length-replicate n false in
    sym (get_or_from_slice_get (replicate n false) k flag flag at) ∙ get_or-replicate n k false flag (omega arith)

pub true_is_not : true ≡ false → ⊥
true_is_not same = cc

module _ (zones : List Zone) (sorted : IsNonDecreasingBy zone_rank zones) (fit : All IsFitZone zones) where
  pub keys_rise : (i j : ℕ) (earlier later : Zone) → i ≤ j → slice_get zones i ≡ Some earlier → slice_get zones j ≡ Some later → earlier.key ≤ later.key
  keys_rise i j earlier later le one other =
      let f : IsFitZone later = all_at IsFitZone zones j later fit other in
      let a = f.end in
      let b = f.start in
      zone_key_le earlier.key (earlier.end + earlier.start) later.key (later.end + later.start) (omega arith) (rank_at zone_rank zones i j earlier later sorted le one other)

  highest_begins : (zone : Zone) → slice_get zones 0 ≡ Some zone → IsHighest zones 1 zone
  highest_begins zone at = record {
    index = 0;
    below = omega arith;
    at = at;
    last = λ k other less other_at. let is = same_at zones 0 k zone other (omega arith) at other_at in subst (λ (o : Zone). o.key ≤ zone.key) is (omega arith);
    most = λ k other less other_at key. let is = same_at zones 0 k zone other (omega arith) at other_at in subst (λ (o : Zone). o.start ≤ zone.start) is (omega arith);
  }

  pub crossings_begin : (zone : Zone) → slice_get zones 0 ≡ Some zone → CrossingsSoFar zones [] 1 zone
  crossings_begin zone at = record {
    highest = highest_begins zone at;
    each = All-nil (AreCrossing zones);
    below = All-nil (λ (crossing : Crossing). crossing.one.key ≤ zone.key);
    rise = λ i j d less within. absurd (omega arith);
    follow = λ i j earlier later less within one other. absurd (omega arith);
  }

  -- one zone more follows on the earlier ones
  follows_on : (upto : ℕ) (high zone : Zone) → IsHighest zones upto high → slice_get zones upto ≡ Some zone → (zone.key ≡ high.key → high.start ≤ zone.end) → (k : ℕ) (other : Zone) → k < upto → slice_get zones k ≡ Some other → FollowOn other zone
  follows_on upto high zone had at enough k other less other_at key =
      let a = had.last k other less other_at in
      let b = keys_rise had.index upto high zone (let h = had.below in omega arith) had.at at in
      let same : zone.key ≡ high.key = omega arith in
      let c = had.most k other less other_at (key ∙ same) in
      let d = enough same in
      omega arith

  -- one zone more, if it takes the place of the highest
  highest_goes : (upto : ℕ) (high zone next : Zone) → IsHighest zones upto high → slice_get zones upto ≡ Some zone → ((next ≡ zone) ⊎ ((next ≡ high) × (zone.key ≡ high.key) × (zone.start ≤ high.start))) → (zone.key ≡ high.key → high.start ≤ next.start) → IsHighest zones (upto + 1) next
  highest_goes upto high zone next had at chosen above =
      let rises = keys_rise had.index upto high zone (let h = had.below in omega arith) had.at at in
      elim chosen [
        | inl taken ↦ subst (λ n. IsHighest zones (upto + 1) n) (sym taken) (record {
          index = upto;
          below = omega arith;
          at = at;
          last = λ k other less other_at. keys_rise k upto other zone (omega arith) other_at at;
          most = λ k other less other_at key. elim (cases_eq k upto) [
            | inl same ↦ let is = same_at zones upto k zone other (sym same) at other_at in subst (λ (o : Zone). o.start ≤ zone.start) is (omega arith)
            | inr before ↦
                let a = had.last k other (omega arith) other_at in
                let same : zone.key ≡ high.key = omega arith in
                let b = had.most k other (omega arith) other_at (key ∙ same) in
                let c = subst (λ (n : Zone). high.start ≤ n.start) taken (above same) in
                omega arith
          ];
        })
        | inr kept ↦ subst (λ n. IsHighest zones (upto + 1) n) (sym kept.0) (record {
          index = had.index;
          below = let h = had.below in omega arith;
          at = had.at;
          last = λ k other less other_at. elim (cases_eq k upto) [
            | inl same ↦ let is = same_at zones upto k zone other (sym same) at other_at in let key = kept.1 in subst (λ (o : Zone). o.key ≤ high.key) is (omega arith)
            | inr before ↦ had.last k other (omega arith) other_at
          ];
          most = λ k other less other_at key. elim (cases_eq k upto) [
            | inl same ↦ let is = same_at zones upto k zone other (sym same) at other_at in subst (λ (o : Zone). o.start ≤ high.start) is kept.2
            | inr before ↦ had.most k other (omega arith) other_at key
          ];
        })
      ]

  -- of two zones of a key the later one ends before the earlier one starts: they are crossed
  crossed_pair : AreDistinct zones → (i j : ℕ) (earlier later : Zone) → i < j → slice_get zones i ≡ Some earlier → slice_get zones j ≡ Some later → earlier.key ≡ later.key → later.end < earlier.start → AreCrossing zones (record { one = earlier; other = later })
  crossed_pair distinct i j earlier later before at other_at key less =
      let low = rank_at zone_rank zones i j earlier later sorted (omega arith) at other_at in
      let low' : earlier.key * 2 ^ 65 + (earlier.end + earlier.start) ≤ earlier.key * 2 ^ 65 + (later.end + later.start) = subst (λ k. earlier.key * 2 ^ 65 + (earlier.end + earlier.start) ≤ k * 2 ^ 65 + (later.end + later.start)) (sym key) low in
      let middles = middle_le earlier.key earlier.end earlier.start later.end later.start low' in
      record {
        one_listed = contains_at zones i earlier at;
        other_listed = contains_at zones j later other_at;
        key = key;
        apart = pair_at (λ (a b : Zone). a.write ≢ b.write) zones i j earlier later distinct before at other_at;
        forth = omega arith;
        back = less;
      }

  crossing_at : AreDistinct zones → (upto : ℕ) (high zone : Zone) → IsHighest zones upto high → slice_get zones upto ≡ Some zone → zone.key ≡ high.key → zone.end < high.start → AreCrossing zones (record { one = high; other = zone })
  crossing_at distinct upto high zone had at key less = crossed_pair distinct had.index upto high zone had.below had.at at (sym key) less

  -- zones of which no two are crossed follow on
  pub follow_uncrossed : AreDistinct zones → ((one other : Zone) → ¬ AreCrossing zones (record { one = one; other = other })) → AllPairs FollowOn zones
  follow_uncrossed distinct none = pairs_from_at FollowOn zones (λ i j earlier later before at other_at key. elim (cases_lt later.end earlier.start) [
    | inl less ↦ absurd (none earlier later (crossed_pair distinct i j earlier later before at other_at key less))
    | inr enough ↦ omega arith
  ])

  -- ---- the crossed zones of each key

  -- the key does not fall
  key_goes : (high zone next : Zone) → high.key ≤ zone.key → ((next ≡ zone) ⊎ ((next ≡ high) × (zone.key ≡ high.key) × (zone.start ≤ high.start))) → high.key ≤ next.key
  key_goes high zone next rises chosen = elim chosen [
    | inl taken ↦ subst (λ (n : Zone). high.key ≤ n.key) (sym taken) rises
    | inr kept ↦ subst (λ (n : Zone). high.key ≤ n.key) (sym kept.0) (omega arith)
  ]

  below_goes : (crossings : List Crossing) (high next : Zone) → high.key ≤ next.key → All (λ (crossing : Crossing). crossing.one.key ≤ high.key) crossings → All (λ (crossing : Crossing). crossing.one.key ≤ next.key) crossings
  below_goes crossings high next le had = All-weaker (λ (crossing : Crossing). crossing.one.key ≤ high.key) (λ (crossing : Crossing). crossing.one.key ≤ next.key) (λ crossing h. omega arith) crossings had

  -- those listed are of lesser keys, if the last one is not of the key
  lesser : (crossings : List Crossing) (upto : ℕ) (high : Zone) → CrossingsSoFar zones crossings upto high → (key : ℕ) → key ≡ high.key → ¬ IsLastKey crossings key → (k : ℕ) (crossing : Crossing) → slice_get crossings k ≡ Some crossing → crossing.one.key < key
  lesser crossings upto high had key same not k crossing at =
      let within = slice_get_within crossings k crossing at in
      let le = all_at (λ (c : Crossing). c.one.key ≤ high.key) crossings k crossing had.below at in
      elim (cases_eq (k + 1) (length crossings)) [
        | inl ends ↦ elim (cases_eq crossing.one.key key) [
          | inl is ↦ absurd (not (record { index = k; last = crossing; at = at; ends = ends; of_key = is }))
          | inr other ↦ omega arith
        ]
        | inr before ↦
            let last = found_at crossings (length crossings - 1) (omega arith) in
            let less = pair_at (λ (one other : Crossing). one.one.key < other.one.key) crossings k (length crossings - 1) crossing last.0 had.rise (omega arith) at last.1 in
            let most = all_at (λ (c : Crossing). c.one.key ≤ high.key) crossings (length crossings - 1) last.0 had.below last.1 in
            omega arith
      ]

  key_listed : (crossings : List Crossing) (k : ℕ) (crossing : Crossing) → slice_get crossings k ≡ Some crossing → Contains (keys_of crossings) crossing.one.key
  key_listed crossings k crossing at = contains_at (keys_of crossings) k crossing.one.key (slice_get-map (λ (c : Crossing). c.one.key) crossings k ∙ ap (option_map (λ (c : Crossing). c.one.key)) at)

  -- one zone more, which is crossed with the highest and listed with it
  crossing_listed : (crossings : List Crossing) (upto : ℕ) (high zone next : Zone) → AreDistinct zones → CrossingsSoFar zones crossings upto high → slice_get zones upto ≡ Some zone → AreCrossedNext high zone → ¬ IsLastKey crossings zone.key → high.key ≤ next.key → IsHighest zones (upto + 1) next → CrossingsSoFar zones (crossings ++ record { one = high; other = zone } ∷ []) (upto + 1) next
  crossing_listed crossings upto high zone next distinct had at crossed not le highest =
      let crossing : Crossing = record { one = high; other = zone } in
      let keys : keys_of (crossings ++ record { one = high; other = zone } ∷ []) ≡ keys_of crossings ++ high.key ∷ [] = map_push (λ (c : Crossing). c.one.key) crossings (record { one = high; other = zone }) in
      record {
        highest = highest;
        each = All-push (AreCrossing zones) crossings (record { one = high; other = zone }) had.each (crossing_at distinct upto high zone had.highest at crossed.0 crossed.1);
        below = All-push (λ (c : Crossing). c.one.key ≤ next.key) crossings (record { one = high; other = zone }) (below_goes crossings high next le had.below) le;
        rise = all_pairs_push (λ (one other : Crossing). one.one.key < other.one.key) crossings (record { one = high; other = zone }) had.rise (λ k d less.
            let same = crossed.0 in
            let l = lesser crossings upto high had zone.key same not k (get_or crossings k d) (slice_get-get_or crossings k d less) in
            omega arith);
        follow = λ i j earlier later less within one other. elim (cases_eq j upto) [
          | inl same ↦ inr (subst (λ ks. Contains ks later.key) (sym keys) (subst (λ key. Contains (keys_of crossings ++ high.key ∷ []) key) (sym crossed.0 ∙ ap (λ (z : Zone). z.key) (same_at zones upto j zone later (sym same) at other)) (Contains-push (keys_of crossings) high.key)))
          | inr before ↦ elim (had.follow i j earlier later less (omega arith) one other) [
            | inl on ↦ inl on
            | inr listed ↦ inr (subst (λ ks. Contains ks later.key) (sym keys) (Contains-append_left (keys_of crossings) (high.key ∷ []) later.key listed))
          ]
        ];
      }

  -- one zone more, which is not listed: it is not crossed, or its key is listed
  crossing_passed : (crossings : List Crossing) (upto : ℕ) (high zone next : Zone) → CrossingsSoFar zones crossings upto high → slice_get zones upto ≡ Some zone → (¬ AreCrossedNext high zone) ⊎ IsLastKey crossings zone.key → high.key ≤ next.key → IsHighest zones (upto + 1) next → CrossingsSoFar zones crossings (upto + 1) next
  crossing_passed crossings upto high zone next had at why le highest = record {
    highest = highest;
    each = had.each;
    below = below_goes crossings high next le had.below;
    rise = had.rise;
    follow = λ i j earlier later less within one other. elim (cases_eq j upto) [
      | inl same ↦
          let is = same_at zones upto j zone later (sym same) at other in
          elim why [
            | inl not_crossed ↦ inl (subst (λ l. FollowOn earlier l) is (follows_on upto high zone had.highest at (λ key. elim (cases_lt zone.end high.start) [
              | inl back ↦ absurd (not_crossed (key, back))
              | inr enough ↦ omega arith
            ]) i earlier (omega arith) one))
            | inr last ↦ inr (subst (λ key. Contains (keys_of crossings) key) (last.of_key ∙ ap (λ (z : Zone). z.key) is) (key_listed crossings last.index last.last last.at))
          ]
      | inr before ↦ had.follow i j earlier later less (omega arith) one other
    ];
  }

  pub crossings_go : (old new : List Crossing) (upto : ℕ) (high zone next : Zone) → AreDistinct zones → CrossingsSoFar zones old upto high → slice_get zones upto ≡ Some zone → GrowsByCrossing high zone old new → ((next ≡ zone) ⊎ ((next ≡ high) × (zone.key ≡ high.key) × (zone.start ≤ high.start))) → (zone.key ≡ high.key → high.start ≤ next.start) → CrossingsSoFar zones new (upto + 1) next
  crossings_go old new upto high zone next distinct had at grows chosen above =
      let highest = highest_goes upto high zone next had.highest at chosen above in
      let le = key_goes high zone next (keys_rise had.highest.index upto high zone (let h = had.highest.below in omega arith) had.highest.at at) chosen in
      elim grows [
        | inl more ↦ subst (λ cs. CrossingsSoFar zones cs (upto + 1) next) (sym more.2) (crossing_listed old upto high zone next distinct had at more.0 more.1 le highest)
        | inr same ↦ subst (λ cs. CrossingsSoFar zones cs (upto + 1) next) (sym same.1) (crossing_passed old upto high zone next had at same.0 le highest)
      ]

  -- of two crossed zones the key is listed
  all_listed : (crossings : List Crossing) (upto : ℕ) (high : Zone) → CrossingsSoFar zones crossings upto high → length zones ≤ upto → (key : ℕ) → AreCrossedAt zones key → Contains (keys_of crossings) key
  all_listed crossings upto high had all key at_key =
      let crossing = at_key.crossing in
      let one = index_of zones crossing.one at_key.crossed.one_listed in
      let other = index_of zones crossing.other at_key.crossed.other_listed in
      let one_in = slice_get_within zones one.0 crossing.one one.1 in
      let other_in = slice_get_within zones other.0 crossing.other other.1 in
      let forth = at_key.crossed.forth in
      let back = at_key.crossed.back in
      elim (cases_lt one.0 other.0) [
        | inl before ↦ elim (had.follow one.0 other.0 crossing.one crossing.other before (omega arith) one.1 other.1) [
          | inl on ↦ let le = on at_key.crossed.key in absurd (omega arith)
          | inr listed ↦ subst (λ k. Contains (keys_of crossings) k) (sym at_key.crossed.key ∙ at_key.of_key) listed
        ]
        | inr not_before ↦ elim (cases_eq one.0 other.0) [
          | inl same ↦ absurd (at_key.crossed.apart (ap (λ (z : Zone). z.write) (same_at zones one.0 other.0 crossing.one crossing.other same one.1 other.1)))
          | inr apart ↦ elim (had.follow other.0 one.0 crossing.other crossing.one (omega arith) (omega arith) other.1 one.1) [
            | inl on ↦ let le = on (sym at_key.crossed.key) in absurd (omega arith)
            | inr listed ↦ subst (λ k. Contains (keys_of crossings) k) at_key.of_key listed
          ]
        ]
      ]

  pub crossings_end : (crossings : List Crossing) (upto : ℕ) (high : Zone) → CrossingsSoFar zones crossings upto high → length zones ≤ upto → AreCrossings zones crossings
  crossings_end crossings upto high had all = record { each = had.each; rise = had.rise; all = all_listed crossings upto high had all }

  -- zones follow on if none are crossed
  pub follow_if_none : AreDistinct zones → (crossings : List Crossing) → AreCrossings zones crossings → length crossings ≡ 0 → AllPairs FollowOn zones
  follow_if_none distinct crossings are none = follow_uncrossed distinct (λ one other crossed.
      let listed = are.all one.key (record { crossing = record { one = one; other = other }; crossed = crossed; of_key = refl }) in
      let less : listed.0 < length (keys_of crossings) = listed.1 in
      let count : length (keys_of crossings) ≡ length crossings = length-map crossings (λ (c : Crossing). c.one.key) in
      absurd (omega arith))

  -- ---- the keys that are still stuck

  module _ (stuck : List Bool) where
    pub still_begins : (zone : Zone) → slice_get zones 0 ≡ Some zone → StillSoFar zones stuck (replicate (length stuck) false) 1 zone
    still_begins zone at = record {
      highest = highest_begins zone at;
      count = length-replicate (length stuck) false;
      crossed = λ key is. absurd (true_is_not (none_marked (length stuck) key true is));
      follow = λ i j earlier later less within one other. absurd (omega arith);
    }

    -- one zone more, whose key is marked
    still_marked : (still : List Bool) (upto : ℕ) (high zone next : Zone) → AreDistinct zones → StillSoFar zones stuck still upto high → slice_get zones upto ≡ Some zone → IsCrossedNext stuck high zone → IsHighest zones (upto + 1) next → StillSoFar zones stuck (set still zone.key true) (upto + 1) next
    still_marked still upto high zone next distinct had at next_crossed highest = record {
      highest = highest;
      count = length-set still zone.key true ∙ had.count;
      crossed = λ key is. elim (cases_eq key zone.key) [
        | inl same ↦ (
          ap (slice_get stuck) same ∙ next_crossed.stuck_is,
          record { crossing = record { one = high; other = zone }; crossed = crossing_at distinct upto high zone had.highest at next_crossed.key next_crossed.back; of_key = sym next_crossed.key ∙ sym same },
        )
        | inr other ↦ had.crossed key (at_set_other still zone.key true key true other is)
      ];
      follow = λ i j earlier later less within one other was not. elim (cases_eq later.key zone.key) [
        | inl same ↦ absurd (true_is_not (sym (at_set_same still zone.key true later.key false same not)))
        | inr apart ↦ elim (cases_eq j upto) [
          | inl last ↦ absurd (apart (ap (λ (z : Zone). z.key) (same_at zones j upto later zone last other at)))
          | inr before ↦ had.follow i j earlier later less (omega arith) one other was (at_set_other still zone.key true later.key false apart not)
        ]
      ];
    }

    -- one zone more, whose key is not marked now
    still_passed : (still : List Bool) (upto : ℕ) (high zone next : Zone) → StillSoFar zones stuck still upto high → slice_get zones upto ≡ Some zone → ¬ IsCrossedNext stuck high zone → IsHighest zones (upto + 1) next → StillSoFar zones stuck still (upto + 1) next
    still_passed still upto high zone next had at not_crossed highest = record {
      highest = highest;
      count = had.count;
      crossed = had.crossed;
      follow = λ i j earlier later less within one other was not. elim (cases_eq j upto) [
        | inl same ↦
            let is = same_at zones upto j zone later (sym same) at other in
            let was' : slice_get stuck zone.key ≡ Some true = subst (λ (z : Zone). slice_get stuck z.key ≡ Some true) (sym is) was in
            subst (λ l. FollowOn earlier l) is (follows_on upto high zone had.highest at (λ key. elim (cases_lt zone.end high.start) [
              | inl back ↦ absurd (not_crossed (record { key = key; back = back; stuck_is = was' }))
              | inr enough ↦ omega arith
            ]) i earlier (omega arith) one)
        | inr before ↦ had.follow i j earlier later less (omega arith) one other was not
      ];
    }

    pub still_goes : (still new : List Bool) (upto : ℕ) (high zone next : Zone) → AreDistinct zones → StillSoFar zones stuck still upto high → slice_get zones upto ≡ Some zone → IsMarked stuck high zone still new → ((next ≡ zone) ⊎ ((next ≡ high) × (zone.key ≡ high.key) × (zone.start ≤ high.start))) → (zone.key ≡ high.key → high.start ≤ next.start) → StillSoFar zones stuck new (upto + 1) next
    still_goes still new upto high zone next distinct had at marked chosen above =
        let highest = highest_goes upto high zone next had.highest at chosen above in
        elim marked [
          | inl yes_marked ↦ subst (λ flags. StillSoFar zones stuck flags (upto + 1) next) (sym yes_marked.1) (still_marked still upto high zone next distinct had at yes_marked.0 highest)
          | inr kept ↦ subst (λ flags. StillSoFar zones stuck flags (upto + 1) next) (sym kept.1) (still_passed still upto high zone next had at kept.0 highest)
        ]

    -- zones that follow on at a key are not crossed there
    uncrossed : (still : List Bool) (upto : ℕ) (high : Zone) → StillSoFar zones stuck still upto high → length zones ≤ upto → (key : ℕ) → slice_get still key ≡ Some false → slice_get stuck key ≡ Some true → ¬ AreCrossedAt zones key
    uncrossed still upto high had all key not was at_key =
        let crossing = at_key.crossing in
        let one = index_of zones crossing.one at_key.crossed.one_listed in
        let other = index_of zones crossing.other at_key.crossed.other_listed in
        let one_in = slice_get_within zones one.0 crossing.one one.1 in
        let other_in = slice_get_within zones other.0 crossing.other other.1 in
        let forth = at_key.crossed.forth in
        let back = at_key.crossed.back in
        let one_key : key ≡ crossing.one.key = sym at_key.of_key in
        let other_key : key ≡ crossing.other.key = one_key ∙ at_key.crossed.key in
        elim (cases_lt one.0 other.0) [
          | inl before ↦
              let le = had.follow one.0 other.0 crossing.one crossing.other before (omega arith) one.1 other.1 (subst (λ k. slice_get stuck k ≡ Some true) other_key was) (subst (λ k. slice_get still k ≡ Some false) other_key not) at_key.crossed.key in
              omega arith
          | inr not_before ↦ elim (cases_eq one.0 other.0) [
            | inl same ↦ at_key.crossed.apart (ap (λ (z : Zone). z.write) (same_at zones one.0 other.0 crossing.one crossing.other same one.1 other.1))
            | inr apart ↦
                let le = had.follow other.0 one.0 crossing.other crossing.one (omega arith) (omega arith) other.1 one.1 (subst (λ k. slice_get stuck k ≡ Some true) one_key was) (subst (λ k. slice_get still k ≡ Some false) one_key not) (sym at_key.crossed.key) in
                omega arith
          ]
        ]

    pub still_ends : (still : List Bool) (upto : ℕ) (high : Zone) → StillSoFar zones stuck still upto high → length zones ≤ upto → AreStill zones stuck still
    still_ends still upto high had all = record { count = had.count; crossed = had.crossed; none = uncrossed still upto high had all }

-- of no zones none are crossed
pub still_of_empty : (zones : List Zone) (stuck : List Bool) → length zones ≡ 0 → AreStill zones stuck (replicate (length stuck) false)
still_of_empty zones stuck none = record {
  count = length-replicate (length stuck) false;
  crossed = λ key is. absurd (true_is_not (none_marked (length stuck) key true is));
  none = λ key not was at_key. let less = at_key.crossed.one_listed.1 in omega arith;
}

pub crossings_of_empty : (zones : List Zone) → length zones ≡ 0 → AreCrossings zones []
crossings_of_empty zones none = record {
  each = All-nil (AreCrossing zones);
  rise = λ i j d less within. absurd (omega arith);
  all = λ key at_key. let less = at_key.crossed.one_listed.1 in absurd (omega arith);
}
