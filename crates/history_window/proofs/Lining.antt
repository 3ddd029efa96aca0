-- Lawful lines of calls, by what stands ahead of what.
use Rattle.std.proofs.Common.{◌≡◌, ◌≢◌, ℕ, ◌≤◌, IsTrue, Some, List, ◌∷◌, ◌++◌, refl, sym, ap, ◌∙◌, subst, arith, inl, inr, ◌⊎◌}
use Rattle.std.specs.Prelude.{map, option_map, slice_get}
use Rattle.std.proofs.lemmas.List.{map-append}
use Rattle.std.proofs.lemmas.List.Elements.{filter_map-append}
use Rattle.std.proofs.lemmas.Option.{same_Some, slice_get-map}
use Rattle.record_pages.specs.declared.timed_value.TimedValue.{TimedValue}
use Rattle.record_pages.specs.Expiry.{is_live, timed}
use Rattle.trace_file.specs.declared.act.Act.TheVariants.{Put, Hit}
use Rattle.trace_file.specs.declared.call.Call.{Call}
use Rattle.certificate_checker.specs.Deeds.{Deed, deed_of}
use Rattle.certificate_checker.specs.Latest.{IsLatest, IsLawful, IsLive, Writes}
use Rattle.certificate_checker.specs.Orders.{Agrees, Precedes, in_order}
use Rattle.certificate_checker.proofs.public_laws.Laying.{picked-map}
use Rattle.certificate_checker.proofs.public_laws.Layouts.{picked_pairs}
use Rattle.certificate_checker.proofs.public_laws.Listing.{Member, all_member, member_all, member_either, member_map, member_picked, member_right, pairs_from, pairs_picked, pairs_to, picked_member}
use Rattle.history_window.proofs.Ahead.{Ahead, Once, ahead_across, ahead_either, ahead_left, ahead_pairs, ahead_right, ahead_split, ahead_strict, member_cut, pairs_ahead}
use Rattle.history_window.proofs.CallLemmas.{no_write}
use Rattle.history_window.proofs.Parting.{Parted, found_mapped, parted}

-- what a hit reads in a line: a put of its key and value, live at its moment, that stands ahead of it, and after each other write of the key that does
pub record ReadsIn (history : List Call) (line : List ℕ) (hit : ℕ) (key value : List ℕ) (moment : ℕ) : Type 0 where
  pub put : ℕ
  pub call : Call
  pub expires : ℕ
  pub at : slice_get history put ≡ Some call
  pub one_key : call.key ≡ key
  pub is : call.act ≡ Put value expires
  pub live : IsTrue (is_live expires moment)
  pub ahead : Ahead line put hit
  pub last : (other : ℕ) (write : Call) → slice_get history other ≡ Some write → Writes (deed_of write) key → Ahead line other hit → (other ≡ put) ⊎ Ahead line other put

-- each hit of a line reads so
abbrev pub IsLawfulLine : List Call → List ℕ → Type 0
IsLawfulLine history line = (hit : ℕ) (call : Call) (value : List ℕ) (moment : ℕ) → Member hit line → slice_get history hit ≡ Some call → call.act ≡ Hit value moment → ReadsIn history line hit call.key value moment

-- no call of a line stands after one that it precedes
abbrev pub AgreesLine : List Call → List ℕ → Type 0
AgreesLine history line = (p q : ℕ) (one other : Call) → Ahead line p q → slice_get history p ≡ Some one → slice_get history q ≡ Some other → ¬ Precedes other one

-- ---- deeds at positions

deeds_cut : (history : List Call) (xs ys : List ℕ) (p : ℕ) (call : Call) → slice_get history p ≡ Some call → map deed_of (in_order history (xs ++ p ∷ ys)) ≡ map deed_of (in_order history xs) ++ deed_of call ∷ map deed_of (in_order history ys)
deeds_cut history xs ys p call at =
    let calls : in_order history (xs ++ p ∷ ys) ≡ in_order history xs ++ call ∷ in_order history ys = filter_map-append (slice_get history) xs (p ∷ ys) ∙ rw at refl in
    ap (map deed_of) calls ∙ map-append deed_of (in_order history xs) (call ∷ in_order history ys)

-- a deed at positions is of a call at one of them
deed_from : (history : List Call) (positions : List ℕ) (deed : Deed) → Member deed (map deed_of (in_order history positions)) → (p : ℕ) × (call : Call) × Member p positions × (slice_get history p ≡ Some call) × (deed ≡ deed_of call)
deed_from history positions deed m =
    let call = member_map deed_of (in_order history positions) deed m in
    let p = member_picked (slice_get history) positions call.0 call.1 in
    (p.0, call.0, p.1, p.2, call.2)

-- ---- a line with a place before a hit cut out

module _ (line early between back : List ℕ) (put hit : ℕ) (split : line ≡ (early ++ put ∷ between) ++ hit ∷ back) where
  abbrev whole : List ℕ
  whole = (early ++ put ∷ between) ++ hit ∷ back

  front_ahead : (p : ℕ) → Member p (early ++ put ∷ between) → Ahead line p hit
  front_ahead p m = subst (λ l. Ahead l p hit) (sym split) (ahead_across (early ++ put ∷ between) (hit ∷ back) p hit m (inl refl))

  put_ahead : Ahead line put hit
  put_ahead = front_ahead put (member_right early (put ∷ between) put (inl refl))

  early_ahead : (p : ℕ) → Member p early → Ahead line p put
  early_ahead p m = subst (λ l. Ahead l p put) (sym split) (ahead_left (early ++ put ∷ between) (hit ∷ back) p put (ahead_across early (put ∷ between) p put m (inl refl)))

  between_behind : (p : ℕ) → Member p between → Ahead line put p
  between_behind p m = subst (λ l. Ahead l put p) (sym split) (ahead_left (early ++ put ∷ between) (hit ∷ back) put p (ahead_right early (put ∷ between) put p (inl (refl, m))))

  between_ahead : (p : ℕ) → Member p between → Ahead line p hit
  between_ahead p m = front_ahead p (member_right early (put ∷ between) p (inr m))

module _ (history : List Call) (line : List ℕ) (once : Once line) where
  -- ---- from lawful deeds

  -- a write that stands ahead of a hit is ahead of what the hit reads, or it itself
  last_write : (front back : List ℕ) (hit : ℕ) (key value : List ℕ) (moment : ℕ) (live : IsLive (map deed_of (in_order history front)) key value moment) (apart : Parted (slice_get (map deed_of history)) front live.latest.before live.latest.put live.latest.after) → line ≡ (apart.front ++ apart.at ∷ apart.back) ++ hit ∷ back → (other : ℕ) (write : Call) → slice_get history other ≡ Some write → Writes (deed_of write) key → Member other (apart.front ++ apart.at ∷ apart.back) → (other ≡ apart.at) ⊎ Ahead line other apart.at
  last_write front back hit key value moment live apart whole other write at writes there = elim (member_either apart.front (apart.at ∷ apart.back) other there) [
    | inl early ↦ inr (early_ahead line apart.front apart.back back apart.at hit whole other early)
    | inr rest ↦ elim rest [
      | inl same ↦ inl same
      | inr late ↦
          let deed : slice_get (map deed_of history) other ≡ Some (deed_of write) = slice_get-map deed_of history other ∙ ap (option_map deed_of) at in
          let member = picked_member (slice_get (map deed_of history)) apart.back other (deed_of write) late deed in
          absurd {A = (other ≡ apart.at) ⊎ Ahead line other apart.at} (all_member (λ (d : Deed). ¬ Writes d key) live.latest.after (deed_of write) live.latest.not_written (subst (Member (deed_of write)) apart.rest member) writes)
    ]
  ]

  reads_at : (front back : List ℕ) (hit : ℕ) (key value : List ℕ) (moment : ℕ) (live : IsLive (map deed_of (in_order history front)) key value moment) (apart : Parted (slice_get (map deed_of history)) front live.latest.before live.latest.put live.latest.after) → line ≡ front ++ hit ∷ back → ReadsIn history line hit key value moment
  reads_at front back hit key value moment live apart split =
      let put = found_mapped deed_of history apart.at live.latest.put apart.is in
      let whole : line ≡ (apart.front ++ apart.at ∷ apart.back) ++ hit ∷ back = split ∙ ap (λ l. l ++ hit ∷ back) apart.split in
      record {
        put = apart.at;
        call = put.0;
        expires = live.expires;
        at = put.1;
        one_key = ap (λ (d : Deed). d.key) put.2 ∙ live.latest.at_key;
        is = ap (λ (d : Deed). d.act) put.2 ∙ live.latest.value_put;
        live = live.live;
        ahead = put_ahead line apart.front apart.back back apart.at hit whole;
        last = λ other write at writes a. last_write front back hit key value moment live apart whole other write at writes (subst (Member other) apart.split (ahead_split line front back other hit split once a));
      }

  -- the positions of the deeds before and after the latest put
  apart_of : (front : List ℕ) (key : List ℕ) (value : TimedValue) (latest : IsLatest (map deed_of (in_order history front)) key value) → Parted (slice_get (map deed_of history)) front latest.before latest.put latest.after
  apart_of front key value latest = parted (slice_get (map deed_of history)) front latest.before latest.put latest.after (picked-map deed_of history front ∙ latest.split)

  pub lawful_to : IsLawful (map deed_of (in_order history line)) → IsLawfulLine history line
  lawful_to lawful hit call value moment m found is =
      let cut = member_cut line hit m in
      let deeds = ap (λ l. map deed_of (in_order history l)) cut.2 ∙ deeds_cut history cut.0 cut.1 hit call found in
      let live = lawful (map deed_of (in_order history cut.0)) (map deed_of (in_order history cut.1)) (deed_of call) value moment deeds is in
      let apart = apart_of cut.0 call.key (timed value live.expires) live.latest in
      reads_at cut.0 cut.1 hit call.key value moment live apart cut.2

  -- ---- to lawful deeds

  live_from : (front back : List ℕ) (hit : ℕ) (key value : List ℕ) (moment : ℕ) → line ≡ front ++ hit ∷ back → ReadsIn history line hit key value moment → IsLive (map deed_of (in_order history front)) key value moment
  live_from front back hit key value moment split r =
      let cut = member_cut front r.put (ahead_split line front back r.put hit split once r.ahead) in
      let whole : line ≡ (cut.0 ++ r.put ∷ cut.1) ++ hit ∷ back = split ∙ ap (λ l. l ++ hit ∷ back) cut.2 in
      record {
        expires = r.expires;
        latest = record {
          before = map deed_of (in_order history cut.0);
          put = deed_of r.call;
          after = map deed_of (in_order history cut.1);
          split = ap (λ l. map deed_of (in_order history l)) cut.2 ∙ deeds_cut history cut.0 cut.1 r.put r.call r.at;
          at_key = r.one_key;
          value_put = r.is;
          not_written = member_all (λ deed. ¬ Writes deed key) (map deed_of (in_order history cut.1)) (λ deed m writes.
              let of = deed_from history cut.1 deed m in
              let later = between_behind line cut.0 cut.1 back r.put hit whole of.0 of.2 in
              let early = between_ahead line cut.0 cut.1 back r.put hit whole of.0 of.2 in
              elim (r.last of.0 of.1 of.3 (subst (λ d. Writes d key) of.4 writes) early) [
                | inl same ↦ pairs_ahead (λ (p q : ℕ). p ≢ q) line r.put of.0 once later (sym same)
                | inr sooner ↦ ahead_strict line r.put of.0 once later sooner
              ]);
        };
        live = r.live;
      }

  pub lawful_from : IsLawfulLine history line → IsLawful (map deed_of (in_order history line))
  lawful_from lawful before after deed value moment split hit =
      let part = parted (slice_get (map deed_of history)) line before deed after (picked-map deed_of history line ∙ split) in
      let call = found_mapped deed_of history part.at deed part.is in
      let there : Member part.at line = subst (Member part.at) (sym part.split) (member_right part.front (part.at ∷ part.back) part.at (inl refl)) in
      let reads = lawful part.at call.0 value moment there call.1 (ap (λ (d : Deed). d.act) call.2 ∙ hit) in
      let live = live_from part.front part.back part.at call.0.key value moment part.split reads in
      subst (λ key. IsLive before key value moment) (ap (λ (d : Deed). d.key) call.2)
      (subst (λ deeds. IsLive deeds call.0.key value moment) (sym (picked-map deed_of history part.front) ∙ part.ahead) live)

  -- ---- and with time

  pub agrees_to : Agrees (in_order history line) → AgreesLine history line
  agrees_to agrees p q one other a at_p at_q =
      let pairs = picked_pairs (slice_get history) (λ (b c : Call). ¬ Precedes c b) line (pairs_from (λ (b c : Call). ¬ Precedes c b) (in_order history line) agrees) in
      pairs_ahead (λ p q. (b c : Call) → slice_get history p ≡ Some b → slice_get history q ≡ Some c → ¬ Precedes c b) line p q pairs a one other at_p at_q

  pub agrees_from : AgreesLine history line → Agrees (in_order history line)
  agrees_from agrees =
      let pairs = ahead_pairs (λ p q. (b c : Call) → slice_get history p ≡ Some b → slice_get history q ≡ Some c → ¬ Precedes c b) line (λ p q a b c at_p at_q. agrees p q b c a at_p at_q) in
      pairs_to (λ (b c : Call). ¬ Precedes c b) (in_order history line) (pairs_picked (slice_get history) (λ p q. (b c : Call) → slice_get history p ≡ Some b → slice_get history q ≡ Some c → ¬ Precedes c b) (λ (b c : Call). ¬ Precedes c b) line (λ p q b c at_p at_q known. known b c at_p at_q) pairs)

  -- a hit that reads what precedes a write of its key stands ahead of that write
  pub ahead_of_write : AgreesLine history line → (hit cut : ℕ) (write : Call) (key value : List ℕ) (moment : ℕ) (r : ReadsIn history line hit key value moment) → slice_get history cut ≡ Some write → Writes (deed_of write) key → Member hit line → Member cut line → hit ≢ cut → cut ≢ r.put → Precedes r.call write → Ahead line hit cut
  ahead_of_write agrees hit cut write key value moment r at writes there listed apart other before = elim (ahead_either line hit cut there listed apart) [
    | inl first ↦ first
    | inr later ↦
        absurd (elim (r.last cut write at writes later) [
          | inl same ↦ other same
          | inr sooner ↦ agrees cut r.put write r.call sooner at r.at before
        ])
  ]

  -- and no write of the key stands between that and the hit in time
  pub unreplaced : AgreesLine history line → (hit other : ℕ) (call write : Call) (key value : List ℕ) (moment : ℕ) (r : ReadsIn history line hit key value moment) → slice_get history hit ≡ Some call → call.act ≡ Hit value moment → slice_get history other ≡ Some write → Writes (deed_of write) key → Member hit line → Member other line → r.call.start ≤ r.call.end → Precedes r.call write → ¬ Precedes write call
  unreplaced agrees hit other call write key value moment r at_hit is at writes there listed span before after = elim (ahead_either line other hit listed there apart) [
    | inl first ↦ elim (r.last other write at writes first) [
      | inl same ↦
          let mine = same_Some write r.call (sym at ∙ ap (slice_get history) same ∙ r.at) in
          let self : Precedes r.call r.call = subst (λ (c : Call). Precedes r.call c) mine before in
          omega (arith, self, span)
      | inr sooner ↦ agrees other r.put write r.call sooner at r.at before
    ]
    | inr later ↦ agrees hit other call write later at_hit at after
  ]
    where
      apart : other ≢ hit
      apart same =
          let mine = same_Some write call (sym at ∙ ap (slice_get history) same ∙ at_hit) in
          no_write call.act value moment is (subst (λ (c : Call). Writes (deed_of c) key) mine writes).1
