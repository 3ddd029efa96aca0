-- What is acceptable stays so without the calls that a window forgets.
use Rattle.std.proofs.Common.{◌≡◌, ◌≢◌, ℕ, ◌<◌, ◌≤◌, Some, List, ◌++◌, length, refl, sym, ap, ◌∙◌, subst, arith, inl, inr}
use Rattle.std.specs.Prelude.{All, slice_get}
use Rattle.std.proofs.lemmas.Bool.{cases_eq, cases_lt}
use Rattle.std.proofs.lemmas.Option.{same_Some, slice_get_within}
use Rattle.trace_file.specs.declared.act.Act.TheVariants.{Put, Hit}
use Rattle.trace_file.specs.declared.call.Call.{Call}
use Rattle.certificate_checker.specs.Deeds.{deed_of}
use Rattle.certificate_checker.specs.Latest.{Writes}
use Rattle.certificate_checker.specs.Orders.{Precedes, in_order}
use Rattle.certificate_checker.proofs.public_laws.Listing.{Member, all_member, member_at, member_either, member_left}
use Rattle.certificate_finder.specs.Spots.{is_miss}
use Rattle.history_window.specs.Standing.{Acceptable, MayFollow}
use Rattle.history_window.specs.Windows.{IsBefore, IsLastCut, IsWindow, ReadsLate, Stays}
use Rattle.history_window.proofs.Ahead.{Once}
use Rattle.history_window.proofs.CallLemmas.{end_is, late_begun, no_write, precedes_of, put_writes, same_value, start_is}
use Rattle.history_window.proofs.Lining.{AgreesLine, ReadsIn, ahead_of_write, unreplaced}
use Rattle.history_window.proofs.Showing.{shown_acceptable}
use Rattle.history_window.proofs.Picking.{run, run_from}
use Rattle.history_window.proofs.Keeping.{at_history, at_whole, kept_holds, late_placed, places, starts_late, holds_kept}

module _ (bound : ℕ) (history later : List Call) (kept : List ℕ) (window : IsWindow bound history kept) (late : All (MayFollow bound history) later) (line : List ℕ) (once : Once line) (each : (p : ℕ) → p < length (history ++ later) → Member p line) (agrees : AgreesLine (history ++ later) line) (intervals : All (λ (call : Call). call.start ≤ call.end) (history ++ later)) where
  module _ (hit : ℕ) (call : Call) (value : List ℕ) (moment : ℕ) (placed : Member hit (places history later kept)) (found : slice_get (history ++ later) hit ≡ Some call) (is : call.act ≡ Hit value moment) (r : ReadsIn (history ++ later) line hit call.key value moment) where
    spans : (p : ℕ) (c : Call) → slice_get (history ++ later) p ≡ Some c → c.start ≤ c.end
    spans p c at = all_member (λ (d : Call). d.start ≤ d.end) (history ++ later) c intervals (member_at (history ++ later) p c at)

    -- the hit does not follow a cut that what it reads precedes
    not_after : (cut : ℕ) (last : IsLastCut bound history call.key cut) → cut ≢ r.put → Precedes r.call last.is.writes.call → hit ≢ cut → ¬ Precedes last.is.writes.call call
    not_after cut last other before apart =
        let write = last.is.writes.call in
        let at = at_whole history later cut write last.is.writes.at in
        let there = each hit (slice_get_within (history ++ later) hit call found) in
        let listed = each cut (slice_get_within (history ++ later) cut write at) in
        let first = ahead_of_write (history ++ later) line once agrees hit cut write call.key value moment r at last.is.writes.writes there listed apart other before in
        agrees hit cut call write first found at

    hit_apart : (cut : ℕ) → IsLastCut bound history call.key cut → hit ≢ cut
    hit_apart cut last same =
        let at = at_whole history later cut last.is.writes.call last.is.writes.at in
        let one = same_Some last.is.writes.call call (sym at ∙ ap (slice_get (history ++ later)) (sym same) ∙ found) in
        no_write call.act value moment is (subst (λ (c : Call). Writes (deed_of c) call.key) one last.is.writes.writes).1

    -- it reads no write that a cut forgets
    none_early : (cut : ℕ) (last : IsLastCut bound history call.key cut) → cut ≢ r.put → r.put < length history → ¬ IsBefore history r.put cut
    none_early cut last other below early =
        let write = last.is.writes.call in
        let put_at = at_history history later r.put r.call below r.at in
        let before = precedes_of history r.put cut r.call write put_at last.is.writes.at early in
        let apart = hit_apart cut last in
        let not = not_after cut last other before apart in
        elim (member_either kept (run (length history) (length later)) hit placed) [
          | inl old ↦
              let stays = kept_holds history later (Stays bound history) kept window hit old in
              let mine = same_Some stays.call call (sym (at_whole history later hit stays.call stays.at) ∙ found) in
              let same_key : call.key ≡ stays.call.key = ap (λ (c : Call). c.key) (sym mine) in
              let here : slice_get history hit ≡ Some call = stays.at ∙ ap Some mine in
              let follows : ¬ IsBefore history cut hit = λ after. not (precedes_of history cut hit write call last.is.writes.at here after) in
              elim (stays.uncut cut (subst (λ key. IsLastCut bound history key cut) same_key last)) [
                | inl same ↦ apart same
                | inr rest ↦ elim rest [
                  | inl after ↦ follows after
                  | inr reads ↦ reads_none cut last early put_at here follows (subst (λ key. ReadsLate history key cut hit) (sym same_key) reads)
                ]
              ]
          | inr new ↦
              let past = run_from (length history) (length later) hit new in
              let over = last.is.over in
              let till = end_is history cut write last.is.writes.at in
              let from = starts_late history later bound hit cut call call.key late past.0 found refl last.is.writes (omega (arith, over, till)) in
              not (omega (arith, from, over, till))
        ]
      where
        reads_none : (cut : ℕ) (last : IsLastCut bound history call.key cut) → IsBefore history r.put cut → slice_get history r.put ≡ Some r.call → slice_get history hit ≡ Some call → ¬ IsBefore history cut hit → ¬ ReadsLate history call.key cut hit
        reads_none cut last early put_at here follows reads =
            let one = same_Some reads.is.call call (sym reads.is.at ∙ here) in
            let act : call.act ≡ Hit reads.value reads.moment = ap (λ (c : Call). c.act) (sym one) ∙ reads.is.is in
            let same = same_value call.act value reads.value moment reads.moment is act in
            let write_at = last.is.writes.at in
            let write = last.is.writes.call in
            let from = start_is history cut write write_at in
            let till = end_is history cut write write_at in
            let span = spans cut write (at_whole history later cut write write_at) in
            last.is.clear hit reads.value reads.moment reads.is
            (late_begun history call.key reads.value cut hit (omega (arith, from, till, span)) reads.late) follows
            (record {
              put = r.put;
              is = record { call = r.call; at = put_at; puts = record { one_key = r.one_key; expires = r.expires; is = r.is ∙ ap (λ v. Put v r.expires) same } };
              early = early;
              unreplaced = λ other writes before after.
                  let there = at_whole history later other writes.call writes.at in
                  unreplaced (history ++ later) line once agrees hit other call writes.call call.key value moment r found is there writes.writes
                  (each hit (slice_get_within (history ++ later) hit call found)) (each other (slice_get_within (history ++ later) other writes.call there))
                  (spans r.put r.call r.at)
                  (precedes_of history r.put other r.call writes.call put_at writes.at before) (precedes_of history other hit writes.call call writes.at here after);
            })
            reads.late

    put_stays : r.put < length history → Stays bound history r.put
    put_stays below =
        let put_at = at_history history later r.put r.call below r.at in
        record {
          call = r.call;
          at = put_at;
          no_miss = ap is_miss r.is;
          uncut = λ cut given.
              let last = subst (λ key. IsLastCut bound history key cut) r.one_key given in
              elim (cases_eq r.put cut) [
                | inl same ↦ inl same
                | inr other ↦ elim (given.is.alone r.put (record { call = r.call; at = put_at; writes = (refl, put_writes r.call.act value r.expires r.is) }) other) [
                  | inl early ↦ absurd (none_early cut last (λ e. other (sym e)) below early)
                  | inr after ↦ inr (inl after)
                ]
              ];
        }

    put_placed : Member r.put (places history later kept)
    put_placed = elim (cases_lt r.put (length history)) [
      | inl below ↦ member_left kept (run (length history) (length later)) r.put (holds_kept history later (Stays bound history) kept window r.put below (put_stays below))
      | inr past ↦ late_placed history later (Stays bound history) kept window r.put r.call past r.at
    ]

-- a history without what a window forgets is acceptable if the whole one is
pub kept_acceptable : (bound : ℕ) (history later : List Call) (kept : List ℕ) → IsWindow bound history kept → All (MayFollow bound history) later → Acceptable (history ++ later) → Acceptable (in_order history kept ++ later)
kept_acceptable bound history later kept window late whole =
    shown_acceptable history later (Stays bound history) kept window (λ line once each agrees intervals. put_placed bound history later kept window late line once each agrees intervals) whole
