-- Hits that would cross two writes whichever put they read, in numbers and of their history.
use Rattle.std.proofs.Common.{◌≡◌, ℕ, ◌+◌, ◌<◌, ◌≤◌, Bool, true, false, Option, None, Some, List, [], ◌∷◌, ◌++◌, length, refl, sym, ap, ◌∙◌, subst, arith, inl, inr, get_or}
use Rattle.std.specs.Option.{option_map}
use Rattle.std.specs.Prelude.{◌≢◌, All, AllPairs, Contains, IsSomeAnd, IsTrue, MatchOption, slice_get}
use Rattle.std.proofs.lemmas.Bool.{cases_eq, cases_lt}
use Rattle.std.proofs.lemmas.List.{length-map, map_push}
use Rattle.std.proofs.lemmas.List.Elements.{All-contains, All-nil, All-push, All-weaker, Contains-append_left, Contains-push}
use Rattle.std.proofs.lemmas.List.Quantifiers.{all_pairs_push}
use Rattle.std.proofs.lemmas.Option.{same_Some, slice_get-map, slice_get_within}
use Rattle.record_pages.specs.Expiry.{is_live}
use Rattle.trace_file.specs.declared.call.Call.{Call}
use Rattle.certificate_checker.specs.Deeds.{deed_of}
use Rattle.certificate_checker.specs.Latest.{Writes}
use Rattle.certificate_checker.specs.Orders.{Precedes}
use Rattle.certificate_checker.proofs.public_laws.Listing.{all_member, member_contained, member_map}
use Rattle.certificate_checker.proofs.public_laws.Lookups.{and_some, some_and}
use Rattle.trace_file.specs.declared.call_kind.CallKind.TheVariants as kinds
use Rattle.certificate_finder.specs.declared.faults.CrossedWrites.{CrossedWrites}
use Rattle.certificate_finder.specs.declared.found.Found.TheVariants.{Rejected}
use Rattle.certificate_finder.specs.declared.numbered_call.NumberedCall.{NumberedCall}
use Rattle.certificate_finder.specs.declared.owning.Owners.{Owners}
use Rattle.certificate_finder.specs.declared.put.Put.{Put}
use Rattle.certificate_finder.specs.declared.ranked.Ranked.{Ranked}
use Rattle.certificate_finder.specs.declared.stamp.Stamp.TheVariants.{End}
use Rattle.certificate_finder.specs.declared.unread_hit.UnreadHit.{UnreadHit}
use Rattle.certificate_finder.specs.declared.witness.Witness.TheVariants.{Unread}
use Rattle.certificate_finder.specs.Choosing.{IsEarlierBy}
use Rattle.certificate_finder.specs.Faults.{AreUnreadHits, IsUnreadHit, unread_in}
use Rattle.certificate_finder.specs.Finding.{AreForward, IsFound}
use Rattle.certificate_finder.specs.Lining.{positions_in}
use Rattle.certificate_finder.specs.Offering.{AreByStamps, ReadsIn, stamp_at}
use Rattle.certificate_finder.specs.Owning.{AreKnownOwners, AreSingle, AreSureOwners, IsUnsure}
use Rattle.certificate_finder.specs.Putting.{ArePuts}
use Rattle.certificate_finder.specs.Reads.{CouldRead, HasSeveral}
use Rattle.trace_file.specs.Kinds.{IsWriting}
use Rattle.certificate_finder.specs.Steps.{AreSteps}
use Rattle.certificate_finder.specs.Trying.{AreSure}
use Rattle.certificate_finder.specs.Turns.{end_at}
use Rattle.certificate_finder.specs.Unreading.{AreReadsFrom, AreUnreadOf, AreUnreadUpto, HasOpen, IsBelow, IsCrossedIf, IsCrossedRead, IsFirstUnreadIn, IsFirstUnreadOf, IsLookedAt, IsPutFrom, IsShortUnread, IsUnreadIn, puts_in}
use Rattle.certificate_finder.specs.Witnesses.{AreCrossedIfRead, GoesIfRead, GoesWith, IsUnread, IsUnreadBy, PrecedesAt}
use Rattle.certificate_finder.specs.Zones.{AreUncrossed, Goes}
use Rattle.certificate_finder.proofs.EndLemmas.{found_at}
use Rattle.certificate_finder.proofs.FaultLemmas.{ends_earlier, some_read}
use Rattle.certificate_finder.proofs.FindLemmas.{call_at, could_by, goes_with, has_several, hit_at, reads_of, several_of, step_at, write_of, writing_of}
use Rattle.certificate_finder.proofs.FoundLemmas.{single_known, single_sure}
use Rattle.certificate_finder.proofs.Listing.{all_at, all_from_at, contains_at, index_of, pair_at, pairs_from_at, same_at}
use Rattle.certificate_finder.proofs.TryingLemmas.{are_sure}
use Rattle.certificate_finder.proofs.Settling.{goes_back, not_crossed, unread_several}

-- ---- the puts that a hit can have read

module _ (steps : List NumberedCall) (owners : List ℕ) (hit : ℕ) (puts : List Put) where
  pub reads_begin : (from : ℕ) → ((k : ℕ) (put : Put) → from ≤ k → slice_get puts k ≡ Some put → ¬ ReadsIn steps hit put.position) → AreReadsFrom steps owners hit puts from []
  reads_begin from none = record {
    each = All-nil (IsCrossedRead steps owners hit);
    all = λ k put low at reads. absurd (none k put low at reads);
    beyond = All-nil (IsPutFrom puts from);
    once = λ i j d less within. absurd (omega arith);
  }

  from_earlier : (link from : ℕ) (writes : CrossedWrites) → link ≤ from → IsPutFrom puts from writes → IsPutFrom puts link writes
  from_earlier link from writes back is = let le : from ≤ is.0 = is.2 in (is.0, is.1, omega arith, is.3, is.4)

  -- puts that the hit can't have read change nothing
  pub reads_skip : (link from : ℕ) (reads : List CrossedWrites) → link ≤ from → ((k : ℕ) (put : Put) → link ≤ k → k < from → slice_get puts k ≡ Some put → ¬ ReadsIn steps hit put.position) → AreReadsFrom steps owners hit puts from reads → AreReadsFrom steps owners hit puts link reads
  reads_skip link from reads back none had = record {
    each = had.each;
    all = λ k put low at can. elim (cases_lt k from) [
      | inl below ↦ absurd (none k put low below at can)
      | inr not ↦ had.all k put not at can
    ];
    beyond = All-weaker (IsPutFrom puts from) (IsPutFrom puts link) (λ writes is. from_earlier link from writes back is) reads had.beyond;
    once = had.once;
  }

  -- one put more is listed
  pub reads_more : AllPairs (λ (one other : Put). one.position ≢ other.position) puts → (index from : ℕ) (put : Put) (reads new : List CrossedWrites) (writes : CrossedWrites) → from ≡ index + 1 → slice_get puts index ≡ Some put → ReadsIn steps hit put.position → IsCrossedIf steps owners hit put.position writes → new ≡ reads ++ writes ∷ [] → AreReadsFrom steps owners hit puts from reads → AreReadsFrom steps owners hit puts index new
  reads_more distinct index from put reads new writes next at can crossed is had =
      let same = crossed.write in
      let positions : puts_in new ≡ puts_in reads ++ writes.one.write ∷ [] = ap puts_in is ∙ map_push (λ (w : CrossedWrites). w.one.write) reads writes in
      record {
        each = subst (All (IsCrossedRead steps owners hit)) (sym is) (All-push (IsCrossedRead steps owners hit) reads writes had.each (record {
          reads = subst (ReadsIn steps hit) (sym same) can;
          crossed = subst (λ p. IsCrossedIf steps owners hit p writes) (sym same) crossed;
        }));
        all = λ k other low at_k reads_it. subst (λ ps. Contains ps other.position) (sym positions) (elim (cases_eq k index) [
          | inl here ↦
              let e : other.position ≡ put.position = ap (λ (p : Put). p.position) (same_at puts k index other put here at_k at) in
              subst (Contains (puts_in reads ++ writes.one.write ∷ [])) (same ∙ sym e) (Contains-push (puts_in reads) writes.one.write)
          | inr apart ↦ Contains-append_left (puts_in reads) (writes.one.write ∷ []) other.position (had.all k other (omega arith) at_k reads_it)
        ]);
        beyond = subst (All (IsPutFrom puts index)) (sym is) (All-push (IsPutFrom puts index) reads writes (All-weaker (IsPutFrom puts from) (IsPutFrom puts index) (λ one is_from. from_earlier index from one (omega arith) is_from) reads had.beyond) (index, put, omega arith, at, sym same));
        once = subst (AllPairs (λ (one other : CrossedWrites). one.one.write ≢ other.one.write)) (sym is) (all_pairs_push (λ (one other : CrossedWrites). one.one.write ≢ other.one.write) reads writes had.once (λ k d less twice.
            let b = had.beyond k d less in
            let low : from ≤ b.0 = b.2 in
            pair_at (λ (one other : Put). one.position ≢ other.position) puts index b.0 put b.1 distinct (omega arith) at b.3 (sym (b.4 ∙ twice ∙ same))));
      }

  -- one put more was looked at
  module _ (index from : ℕ) (put : Put) (asked : NumberedCall) (next : from ≡ index + 1) (at : slice_get puts index ≡ Some put) (asked_at : slice_get steps hit ≡ Some asked) (can : IsTrue (is_live put.expires asked.time) → ReadsIn steps hit put.position) (live : ReadsIn steps hit put.position → IsTrue (is_live put.expires asked.time)) where
    looked_true : AllPairs (λ (one other : Put). one.position ≢ other.position) puts → (reads new : List CrossedWrites) → IsLookedAt steps owners hit put true reads new → AreReadsFrom steps owners hit puts from reads → AreReadsFrom steps owners hit puts index new
    looked_true distinct reads new looked had =
        let same : looked.0 ≡ asked = same_Some looked.0 asked (sym looked.1 ∙ asked_at) in
        elim looked.2 [
          | inl dead ↦ subst (AreReadsFrom steps owners hit puts index) (sym dead.1) (reads_skip index from reads (omega arith) (λ k other low less at_k reads_it.
              let e : other ≡ put = same_at puts k index other put (omega arith) at_k at in
              dead.0 (subst (λ (s : NumberedCall). IsTrue (is_live put.expires s.time)) (sym same) (live (subst (λ (p : Put). ReadsIn steps hit p.position) e reads_it)))) had)
          | inr listed ↦ reads_more distinct index from put reads new listed.1.0 next at (can (subst (λ (s : NumberedCall). IsTrue (is_live put.expires s.time)) same listed.0)) listed.1.1 listed.1.2 had
        ]

    pub looked_on : AllPairs (λ (one other : Put). one.position ≢ other.position) puts → (fits : Bool) (reads new : List CrossedWrites) → fits ≡ true → IsLookedAt steps owners hit put fits reads new → AreReadsFrom steps owners hit puts from reads → AreReadsFrom steps owners hit puts index new
    looked_on distinct fits reads new is looked had = looked_true distinct reads new (subst (λ b. IsLookedAt steps owners hit put b reads new) is looked) had

    looked_false : (reads new : List CrossedWrites) → IsLookedAt steps owners hit put false reads new → HasOpen steps owners hit
    looked_false reads new looked =
        let same : looked.0 ≡ asked = same_Some looked.0 asked (sym looked.1 ∙ asked_at) in
        record { put = put.position; reads = can (subst (λ (s : NumberedCall). IsTrue (is_live put.expires s.time)) same looked.2); open_is = looked.3 }

    pub looked_no : (fits : Bool) (reads new : List CrossedWrites) → fits ≡ false → IsLookedAt steps owners hit put fits reads new → HasOpen steps owners hit
    looked_no fits reads new is looked = looked_false reads new (subst (λ b. IsLookedAt steps owners hit put b reads new) is looked)

  -- all puts were looked at
  pub all_reads : ArePuts steps puts → (reads : List CrossedWrites) → AreReadsFrom steps owners hit puts 0 reads → IsUnreadIn steps owners hit reads
  all_reads are reads had = record {
    each = had.each;
    all = λ put can.
        let told = are.lists.complete put can.given (slice_get_within steps put can.given can.given_at) can.given_at can.reads.may.kind in
        let k = index_of puts told.item told.listed in
        let same = told.told.is_at in
        subst (Contains (puts_in reads)) same (had.all k.0 told.item (omega arith) k.1 (subst (ReadsIn steps hit) (sym same) can));
    once = had.once;
  }

-- ---- the hits whose puts would all be crossed

module _ (steps : List NumberedCall) (owners : List ℕ) (most : ℕ) (hits : List ℕ) where
  pub unread_begin : AreUnreadUpto steps owners most hits 0 []
  unread_begin = record {
    each = All-nil (IsShortUnread steps owners most);
    below = All-nil (IsBelow hits 0);
    all = λ hit is. let less : is.0 < 0 = is.1 in absurd (omega arith);
    order = λ i j d less within. absurd (omega arith);
  }

  still_below : (upto hit : ℕ) → IsBelow hits upto hit → IsBelow hits (upto + 1) hit
  still_below upto hit is = let less : is.0 < upto = is.1 in (is.0, omega arith, is.2)

  -- one hit more has a put that would not be crossed
  pub unread_pass : (upto hit : ℕ) (found : List UnreadHit) → slice_get hits upto ≡ Some hit → HasOpen steps owners hit → AreUnreadUpto steps owners most hits upto found → AreUnreadUpto steps owners most hits (upto + 1) found
  unread_pass upto hit found at open_it had = record {
    each = had.each;
    below = All-weaker (IsBelow hits upto) (IsBelow hits (upto + 1)) (still_below upto) (unread_in found) had.below;
    all = λ other is. let less : is.0 < upto + 1 = is.1 in elim (cases_eq is.0 upto) [
      | inl here ↦ inl (subst (HasOpen steps owners) (same_at hits upto is.0 hit other (sym here) at is.2) open_it)
      | inr apart ↦ had.all other (is.0, omega arith, is.2)
    ];
    order = had.order;
  }

  -- one hit more has none
  pub unread_more : (upto : ℕ) (found new : List UnreadHit) (one : UnreadHit) → AllPairs (IsEarlierBy (stamp_at End steps)) hits → slice_get hits upto ≡ Some one.hit → IsShortUnread steps owners most one → new ≡ found ++ one ∷ [] → AreUnreadUpto steps owners most hits upto found → AreUnreadUpto steps owners most hits (upto + 1) new
  unread_more upto found new one order at is same had =
      let positions : unread_in new ≡ unread_in found ++ one.hit ∷ [] = ap unread_in same ∙ map_push (λ (unread : UnreadHit). unread.hit) found one in
      record {
        each = subst (All (IsShortUnread steps owners most)) (sym same) (All-push (IsShortUnread steps owners most) found one had.each is);
        below = subst (All (IsBelow hits (upto + 1))) (sym positions) (All-push (IsBelow hits (upto + 1)) (unread_in found) one.hit (All-weaker (IsBelow hits upto) (IsBelow hits (upto + 1)) (still_below upto) (unread_in found) had.below) (upto, omega arith, at));
        all = λ other below. let less : below.0 < upto + 1 = below.1 in elim (cases_eq below.0 upto) [
          | inl here ↦
              let e : one.hit ≡ other = same_at hits upto below.0 one.hit other (sym here) at below.2 in
              inr (subst (λ ps. Contains ps other) (sym positions) (subst (Contains (unread_in found ++ one.hit ∷ [])) e (Contains-push (unread_in found) one.hit)))
          | inr apart ↦ elim (had.all other (below.0, omega arith, below.2)) [
            | inl open_it ↦ inl open_it
            | inr listed ↦ inr (subst (λ ps. Contains ps other) (sym positions) (Contains-append_left (unread_in found) (one.hit ∷ []) other listed))
          ]
        ];
        order = subst (AllPairs (IsEarlierBy (stamp_at End steps))) (sym positions) (all_pairs_push (IsEarlierBy (stamp_at End steps)) (unread_in found) one.hit had.order (λ k d less.
            let b = had.below k d less in
            pair_at (IsEarlierBy (stamp_at End steps)) hits b.0 upto (get_or (unread_in found) k d) one.hit order b.1 b.2 at));
      }

-- ---- the first of them

module _ (steps : List NumberedCall) (owners hits : List ℕ) where
  -- each hit below an index can have read a put that would not be crossed
  abbrev pub AreOpenUpto : ℕ → Type 0
  AreOpenUpto upto = (k hit : ℕ) → k < upto → slice_get hits k ≡ Some hit → HasOpen steps owners hit

  -- one hit more can
  pub open_more : (upto hit : ℕ) → AreOpenUpto upto → slice_get hits upto ≡ Some hit → HasOpen steps owners hit → AreOpenUpto (upto + 1)
  open_more upto hit had at open_it = λ k other less at_k. elim (cases_eq k upto) [
    | inl here ↦ subst (HasOpen steps owners) (same_at hits upto k hit other (sym here) at at_k) open_it
    | inr apart ↦ had k other (omega arith) at_k
  ]

  -- one can't
  pub open_ends : (upto : ℕ) (unread : UnreadHit) → AreOpenUpto upto → slice_get hits upto ≡ Some unread.hit → IsUnreadIn steps owners unread.hit unread.reads.items → IsFirstUnreadIn steps owners hits unread
  open_ends upto unread had at is = record { place = upto; at = at; is = is; before = had }

  -- all can
  pub open_all : (upto : ℕ) → length hits ≤ upto → AreOpenUpto upto → All (HasOpen steps owners) hits
  open_all upto long had = all_from_at (HasOpen steps owners) hits (λ k hit at. let within = slice_get_within hits k hit at in had k hit (omega arith) at)

-- all hits were looked at
pub all_unread : (steps : List NumberedCall) (owners : List ℕ) (most : ℕ) (unsure : List ℕ) (hits : List Ranked) (found : List UnreadHit) → AreByStamps End steps unsure hits → AreUnreadUpto steps owners most (positions_in hits) (length hits) found → AreUnreadOf steps owners most unsure found
all_unread steps owners most unsure hits found turned had =
    let count : length (positions_in hits) ≡ length hits = length-map hits (λ (r : Ranked). r.position) in
    record {
      each = had.each;
      among = All-weaker (IsBelow (positions_in hits) (length hits)) (Contains unsure) (λ hit is. (turned.same hit).1 (contains_at (positions_in hits) is.0 hit is.2)) (unread_in found) had.below;
      all = λ hit listed.
          let k = index_of (positions_in hits) hit ((turned.same hit).0 listed) in
          let within = slice_get_within (positions_in hits) k.0 hit k.1 in
          had.all hit (k.0, omega arith, k.1);
      order = had.order;
    }

-- the first of hits by their ends is the first of them all
pub first_of : (steps : List NumberedCall) (owners unsure : List ℕ) (hits : List Ranked) (unread : UnreadHit) → AreByStamps End steps unsure hits → IsFirstUnreadIn steps owners (positions_in hits) unread → IsFirstUnreadOf steps owners unsure unread
first_of steps owners unsure hits unread turned told = record {
  among = (turned.same unread.hit).1 (contains_at (positions_in hits) told.place unread.hit told.at);
  is = told.is;
  first = λ hit listed.
      let k = index_of (positions_in hits) hit ((turned.same hit).0 listed) in
      elim (cases_lt k.0 told.place) [
        | inl before ↦ inl (told.before k.0 hit before k.1)
        | inr behind ↦ elim (cases_eq k.0 told.place) [
          | inl same ↦ inr (inl (same_at (positions_in hits) k.0 told.place hit unread.hit same k.1 told.at))
          | inr apart ↦ inr (inr (pair_at (IsEarlierBy (stamp_at End steps)) (positions_in hits) told.place k.0 unread.hit hit turned.order (omega arith) told.at k.1))
        ]
      ];
}

-- if each of hits by their ends has a put that stands open, each of them all has
pub all_open : (steps : List NumberedCall) (owners unsure : List ℕ) (hits : List Ranked) → AreByStamps End steps unsure hits → All (HasOpen steps owners) (positions_in hits) → All (HasOpen steps owners) unsure
all_open steps owners unsure hits turned all = all_from_at (HasOpen steps owners) unsure (λ k hit at. All-contains (HasOpen steps owners) (positions_in hits) hit all ((turned.same hit).0 (contains_at unsure k hit at)))

-- whichever of the two was found of hits by their ends, it is so of them all
pub first_found : (steps : List NumberedCall) (owners unsure : List ℕ) (hits : List Ranked) (found : Option UnreadHit) → AreByStamps End steps unsure hits → MatchOption found (All (HasOpen steps owners) (positions_in hits)) (IsFirstUnreadIn steps owners (positions_in hits)) → MatchOption found (All (HasOpen steps owners) unsure) (IsFirstUnreadOf steps owners unsure)
first_found steps owners unsure hits None turned told = all_open steps owners unsure hits turned told
first_found steps owners unsure hits (Some unread) turned told = first_of steps owners unsure hits unread turned told

-- hits by their ends are those that can have read several puts
pub ranked_unsure : (steps : List NumberedCall) (unsure : List ℕ) (hits : List Ranked) → AreByStamps End steps unsure hits → All (IsUnsure steps) unsure → All (IsUnsure steps) (positions_in hits)
ranked_unsure steps unsure hits turned each = all_from_at (IsUnsure steps) (positions_in hits) (λ k hit at.
    All-contains (IsUnsure steps) unsure hit each ((turned.same hit).1 (contains_at (positions_in hits) k hit at)))

-- ---- by other calls that go with a write

module _ (G H : ℕ → ℕ → Type 0) (more : (write call : ℕ) → G write call → H write call) (history : List Call) where
  goes_weaker : (hit put call : ℕ) → GoesIfRead G hit put call → GoesIfRead H hit put call
  goes_weaker hit put call goes = elim goes [
    | inl same ↦ inl same
    | inr with ↦ inr (more put call with)
  ]

  crossed_weaker : (hit : ℕ) (writes : CrossedWrites) → AreCrossedIfRead G history hit writes → AreCrossedIfRead H history hit writes
  crossed_weaker hit writes c = record {
    key = c.key;
    apart = c.apart;
    one_writes = c.one_writes;
    other_writes = c.other_writes;
    one_early = goes_weaker hit writes.one.write writes.one.early c.one_early;
    one_late = goes_weaker hit writes.one.write writes.one.late c.one_late;
    other_early = more writes.other.write writes.other.early c.other_early;
    other_late = more writes.other.write writes.other.late c.other_late;
    forth = c.forth;
    back = c.back;
  }

  pub unread_weaker : (hit : ℕ) (reads : List CrossedWrites) → IsUnreadBy G history hit reads → IsUnreadBy H history hit reads
  unread_weaker hit reads is = record {
    call = is.call;
    value = is.value;
    moment = is.moment;
    at = is.at;
    is = is.is;
    each = All-weaker (AreCrossedIfRead G history hit) (AreCrossedIfRead H history hit) (crossed_weaker hit) reads is.each;
    only = is.only;
    all = is.all;
    once = is.once;
  }

-- ---- what that says of the history

-- the position of the hit at an index
unread_at : (found : List UnreadHit) (k : ℕ) (unread : UnreadHit) → slice_get found k ≡ Some unread → slice_get (unread_in found) k ≡ Some unread.hit
unread_at found k unread at = slice_get-map (λ (one : UnreadHit). one.hit) found k ∙ ap (option_map (λ (one : UnreadHit). one.hit)) at

module _ (history : List Call) (steps : List NumberedCall) (are : AreSteps history steps) (owners : List ℕ) (single : AreSingle steps owners) where
  -- what goes with a write in numbers goes with it in words
  goes_on : (write q : ℕ) → Goes owners write q → GoesWith history write q
  goes_on write q goes = elim goes [
    | inl same ↦ inl same
    | inr at ↦
        let within = slice_get_within owners q write at in
        let count = single.count in
        let s = found_at steps q (omega arith) in
        goes_with history steps are owners write q s.0 single s.1 (inr at)
  ]

  -- and what is unread by it in numbers is so in words
  pub unread_on : (hit : ℕ) (reads : List CrossedWrites) → IsUnreadBy (Goes owners) history hit reads → IsUnread history hit reads
  unread_on = unread_weaker (Goes owners) (GoesWith history) goes_on history

  precedes : (p q : ℕ) (s t : NumberedCall) → slice_get steps p ≡ Some s → slice_get steps q ≡ Some t → s.end < t.start → PrecedesAt history p q
  precedes p q s t at_s at_t less =
      let a = call_at history steps are p s at_s in
      let b = call_at history steps are q t at_t in
      let e = a.2.end in
      let f = b.2.start in
      and_some (slice_get history p) (λ first. IsSomeAnd (slice_get history q) (λ second. Precedes first second)) a.0 a.1 (and_some (slice_get history q) (λ second. Precedes a.0 second) b.0 b.1 (omega (arith, less, e, f)))

  crossed_call : (hit : ℕ) (writes : CrossedWrites) → IsCrossedRead steps owners hit writes → AreCrossedIfRead (Goes owners) history hit writes
  crossed_call hit writes is =
      let c = is.crossed in
      let v = call_at history steps are writes.one.write c.given c.given_at in
      let w = call_at history steps are writes.other.write c.other c.other_at in
      let alike = are.alike writes.other.write writes.one.write w.0 v.0 c.other c.given w.1 v.1 c.other_at c.given_at in
      let kind : c.given.kind ≡ kinds.Put = ap (λ (s : NumberedCall). s.kind) (same_Some c.given is.reads.given (sym c.given_at ∙ is.reads.given_at)) ∙ is.reads.reads.may.kind in
      let writing : IsWriting c.given.kind = subst IsWriting (sym kind) tt in
      record {
        key = v.0.key;
        apart = λ same. c.apart (sym same);
        one_writes = and_some (slice_get history writes.one.write) (λ write. Writes (deed_of write) v.0.key) v.0 v.1 (refl, write_of v.0.act (subst IsWriting v.2.kind writing));
        other_writes = and_some (slice_get history writes.other.write) (λ write. Writes (deed_of write) v.0.key) w.0 w.1 (alike.keys.0 c.key, write_of w.0.act (subst IsWriting w.2.kind c.writing));
        one_early = c.early_goes;
        one_late = c.late_goes;
        other_early = c.other_early_goes;
        other_late = c.other_late_goes;
        forth = precedes writes.one.early writes.other.late c.early c.other_late c.early_at c.other_late_at c.forth;
        back = precedes writes.other.early writes.one.late c.other_early c.late c.other_early_at c.late_at c.back;
      }

  reads_in : (hit put : ℕ) (s : NumberedCall) → slice_get steps hit ≡ Some s → s.kind ≡ kinds.Hit → CouldRead history hit put → ReadsIn steps hit put
  reads_in hit put s at kind could =
      let p = step_at history steps are put could.stands.has.put_call could.stands.has.put_at in
      record { asked = s; given = p.0; asked_at = at; given_at = p.1; kind = kind; reads = reads_of history steps are hit put s p.0 at p.1 could }

  pub is_unread : (hit : ℕ) (reads : List CrossedWrites) → IsUnsure steps hit → IsUnreadIn steps owners hit reads → IsUnreadBy (Goes owners) history hit reads
  is_unread hit reads unsure is =
      let c = call_at history steps are hit unsure.step unsure.at in
      let v = hit_at history steps are hit c.0 unsure.step c.2 unsure.kind in
      record {
        call = c.0;
        value = v.0;
        moment = v.1;
        at = c.1;
        is = v.2;
        each = All-weaker (IsCrossedRead steps owners hit) (AreCrossedIfRead (Goes owners) history hit) (crossed_call hit) reads is.each;
        only = All-weaker (IsCrossedRead steps owners hit) (λ (writes : CrossedWrites). CouldRead history hit writes.one.write) (λ writes read.
            let r = read.reads in
            could_by history steps are hit writes.one.write r.asked r.given r.asked_at r.given_at r.kind r.reads) reads is.each;
        all = λ put could. is.all put (reads_in hit put unsure.step unsure.at unsure.kind could);
        once = is.once;
      }

  -- ---- and back

  crossed_back : (hit : ℕ) (writes : CrossedWrites) → AreCrossedIfRead (Goes owners) history hit writes → IsCrossedIf steps owners hit writes.one.write writes
  crossed_back hit writes c =
      let v = some_and (slice_get history writes.one.write) (λ write. Writes (deed_of write) c.key) c.one_writes in
      let w = some_and (slice_get history writes.other.write) (λ write. Writes (deed_of write) c.key) c.other_writes in
      let s = step_at history steps are writes.one.write v.0 v.1 in
      let t = step_at history steps are writes.other.write w.0 w.1 in
      let alike = are.alike writes.other.write writes.one.write w.0 v.0 t.0 s.0 w.1 v.1 t.1 s.1 in
      let early = some_and (slice_get history writes.one.early) (λ first. IsSomeAnd (slice_get history writes.other.late) (λ second. Precedes first second)) c.forth in
      let other_late = some_and (slice_get history writes.other.late) (λ second. Precedes early.0 second) early.2 in
      let other_early = some_and (slice_get history writes.other.early) (λ first. IsSomeAnd (slice_get history writes.one.late) (λ second. Precedes first second)) c.back in
      let late = some_and (slice_get history writes.one.late) (λ second. Precedes other_early.0 second) other_early.2 in
      let e = step_at history steps are writes.one.early early.0 early.1 in
      let l = step_at history steps are writes.one.late late.0 late.1 in
      let oe = step_at history steps are writes.other.early other_early.0 other_early.1 in
      let ol = step_at history steps are writes.other.late other_late.0 other_late.1 in
      let a = e.2.end in
      let b = ol.2.start in
      let f = other_late.2 in
      let d = oe.2.end in
      let g = l.2.start in
      let h = late.2 in
      record {
        write = refl;
        apart = λ same. c.apart (sym same);
        given = s.0;
        other = t.0;
        early = e.0;
        late = l.0;
        other_early = oe.0;
        other_late = ol.0;
        given_at = s.1;
        other_at = t.1;
        early_at = e.1;
        late_at = l.1;
        other_early_at = oe.1;
        other_late_at = ol.1;
        writing = subst IsWriting (sym t.2.kind) (writing_of w.0.act w.2.1);
        key = alike.keys.1 (w.2.0 ∙ sym v.2.0);
        early_goes = c.one_early;
        late_goes = c.one_late;
        other_early_goes = c.other_early;
        other_late_goes = c.other_late;
        forth = omega (arith, a, b, f);
        back = omega (arith, d, g, h);
      }

  pub open_back : (hit : ℕ) (reads : List CrossedWrites) → HasOpen steps owners hit → ¬ IsUnreadBy (Goes owners) history hit reads
  open_back hit reads open_it is =
      let r = open_it.reads in
      let could = could_by history steps are hit open_it.put r.asked r.given r.asked_at r.given_at r.kind r.reads in
      let listed = member_map (λ (writes : CrossedWrites). writes.one.write) reads open_it.put (member_contained (puts_in reads) open_it.put (is.all open_it.put could)) in
      let crossed = crossed_back hit listed.0 (all_member (AreCrossedIfRead (Goes owners) history hit) reads listed.0 is.each listed.1) in
      open_it.open_is listed.0 (subst (λ p. IsCrossedIf steps owners hit p listed.0) (sym listed.2) crossed)

  -- these are all hits of the history that would cross two writes whichever of several puts they read
  pub unread_hits : (most : ℕ) (unsure : List ℕ) (found : List UnreadHit) → AreSure history owners → All (IsUnsure steps) unsure → ((hit : ℕ) → IsUnsure steps hit → Contains unsure hit) → AreUnreadOf steps owners most unsure found → AreUnreadHits history most found
  unread_hits most unsure found sure each all told =
      record {
        owners = owners;
        sure = sure;
        each = all_from_at (IsUnreadHit history owners most) found (λ k unread at.
            let short = all_at (IsShortUnread steps owners most) found k unread told.each at in
            let listed = All-contains (Contains unsure) (unread_in found) unread.hit told.among (contains_at (unread_in found) k unread.hit (unread_at found k unread at)) in
            let by_sure = is_unread unread.hit short.reads (All-contains (IsUnsure steps) unsure unread.hit each listed) short.is in
            record { reads = short.reads; is = unread_on unread.hit short.reads by_sure; by_sure = by_sure; first = short.first });
        several = All-weaker (Contains unsure) (HasSeveral history) (λ hit listed. has_several history steps are hit (All-contains (IsUnsure steps) unsure hit each listed)) (unread_in found) told.among;
        all = λ hit reads several is. elim (told.all hit (all hit (several_of history steps are hit several))) [
          | inl open_it ↦ absurd (open_back hit reads open_it is)
          | inr listed ↦ listed
        ];
        order = pairs_from_at (IsEarlierBy (end_at history)) (unread_in found) (λ i j p q less one other.
            ends_earlier history steps are p q (pair_at (IsEarlierBy (stamp_at End steps)) (unread_in found) i j p q told.order less one other));
      }

-- such hits of known owners
pub unread_known : (history : List Call) (steps : List NumberedCall) → AreSteps history steps → (owners : Owners) → AreKnownOwners steps (length steps) owners → (most : ℕ) (found : List UnreadHit) → AreUnreadOf steps owners.owners.items most owners.unsure.items found → AreUnreadHits history most found
unread_known history steps are owners own most found told =
    unread_hits history steps are owners.owners.items (single_known steps owners own) most owners.unsure.items found
    (are_sure history steps are owners.owners.items own.count own.owned)
    own.unsure.each
    (λ hit is. own.unsure.all hit (slice_get_within steps hit is.step is.at) is)
    told

-- ---- if each hit can have read a put, and no two writes are crossed

module _ (history : List Call) (steps : List NumberedCall) (are : AreSteps history steps) (owners unsure : List ℕ) (own : AreSureOwners steps (length steps) owners unsure) (un : AreUncrossed steps owners) where
  unread_back : (hit : ℕ) (reads : List CrossedWrites) → IsUnread history hit reads → IsUnreadBy (Goes owners) history hit reads
  unread_back = unread_weaker (GoesWith history) (Goes owners) (goes_back history steps are owners unsure own) history

  -- such a hit may have read several puts, and none of them stands open
  none_open : (hit : ℕ) (reads : List CrossedWrites) → IsUnread history hit reads → Contains unsure hit × (¬ HasOpen steps owners hit)
  none_open hit reads is =
      let unsure_is = several_of history steps are hit (unread_several history steps are owners unsure own (not_crossed history steps are owners unsure own un) hit reads is) in (
        own.all hit (slice_get_within steps hit unsure_is.step unsure_is.at) unsure_is,
        λ open_it. open_back history steps are owners (single_sure steps owners unsure own) hit reads open_it (unread_back hit reads is),
      )

  -- each can have read a put that stands open, so there is none
  pub none_unread : All (HasOpen steps owners) unsure → (hit : ℕ) (reads : List CrossedWrites) → ¬ IsUnread history hit reads
  none_unread all hit reads is =
      let none = none_open hit reads is in
      none.1 (All-contains (HasOpen steps owners) unsure hit all none.0)

  -- the first one is told
  pub found_unread : (unread : UnreadHit) → IsFirstUnreadOf steps owners unsure unread → AreForward history → IsFound history (Rejected (Unread unread))
  found_unread unread told forward =
      let single = single_sure steps owners unsure own in
      let unsure_is = All-contains (IsUnsure steps) unsure unread.hit own.are_unsure told.among in
      record {
        accepted = tt;
        rejected = unread_on history steps are owners single unread.hit unread.reads.items (is_unread history steps are owners single unread.hit unread.reads.items unsure_is told.is);
        first = record {
          forward = forward;
          some = some_read history steps are owners unsure own;
          uncrossed = not_crossed history steps are owners unsure own un;
          first = λ other reads other_is.
              let none = none_open other reads other_is in
              elim (told.first other none.0) [
                | inl open_it ↦ absurd (none.1 open_it)
                | inr rest ↦ elim rest [
                  | inl same ↦ inl same
                  | inr behind ↦ inr (ends_earlier history steps are unread.hit other behind)
                ]
              ];
        };
        undecided = tt;
      }
