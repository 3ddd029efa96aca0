-- The puts of a history.
use Rattle.std.proofs.Common.{◌≡◌, ◌≢◌, ℕ, ◌^◌, ◌<◌, ◌≤◌, Option, Some, None, List, length, sym, ap, ◌∙◌, subst, arith}
use Rattle.std.specs.Prelude.{All, AllPairs, slice_get, MatchOption}
use Rattle.std.specs.List.Sorted.{IsNonDecreasingBy, IsPermutation}
use Rattle.std.proofs.lemmas.List.Elements.{All-weaker, All-contains}
use Rattle.std.proofs.lemmas.Option.{slice_get_within}
use Rattle.certificate_finder.specs.declared.put.Put.{Put}
use Rattle.certificate_finder.specs.declared.numbered_call.NumberedCall.{NumberedCall}
use Rattle.certificate_finder.specs.declared.write.Write.{Write}
use Rattle.certificate_finder.specs.Lists.{IsTold, Lists, TellsOne}
use Rattle.certificate_finder.specs.Putting.{ArePuts, EndsOver, IsFitPut, IsOver, IsPut, Putting, TellsPut, put_rank}
use Rattle.certificate_finder.specs.Steps.{IsFit}
use Rattle.certificate_finder.specs.Writing.{AreWrites, IsFirstOver, TellsWrite, Writing}
use Rattle.certificate_finder.proofs.Listing.{all_at, distinct_permuted, lists_permuted}

-- ---- until when a put can be read

module _ (steps : List NumberedCall) (writes : List Write) (are : AreWrites steps writes) where
  -- a write of a history is among the writes
  written : (q : ℕ) (other : NumberedCall) → slice_get steps q ≡ Some other → Writing other → IsTold TellsWrite writes q other
  written q other at writing = are.lists.complete q other (slice_get_within steps q other at) at writing

  pub dead_of_none : (p : ℕ) (step : NumberedCall) (put : Put) → IsFirstOver writes step.key step.end None → IsPut p step None put → TellsPut steps p step put
  dead_of_none p step put first is =
      let nothing : (q : ℕ) (other : NumberedCall) → slice_get steps q ≡ Some other → IsOver step other → ⊥
      = λ q other at over.
      let w = written q other at over.writes in
      let start : w.item.start ≡ other.start = w.told.start in
      let behind = over.behind in
      All-contains (λ (w : Write). w.key ≡ step.key → ¬ (step.end < w.start)) writes w.item first w.listed (w.told.key ∙ over.key) (omega arith) in
      record {
        is_at = is.is_at;
        key = is.key;
        value = is.value;
        start = is.start;
        expires = is.expires;
        dead = record {
          least = λ q other at over. absurd (nothing q other at over);
          by = subst (λ o. MatchOption o (put.dead ≡ 18446744073709551615) (EndsOver steps step put.dead)) (sym is.is_over.0) is.is_over.1;
        };
      }

  pub dead_of_some : (p : ℕ) (step : NumberedCall) (put : Put) (write : Write) → IsFirstOver writes step.key step.end (Some write) → IsPut p step (Some write) put → TellsPut steps p step put
  dead_of_some p step put write first is =
      let one : TellsOne steps Writing TellsWrite write = All-contains (TellsOne steps Writing TellsWrite) writes write are.lists.sound first.listed in
      let dead : put.dead ≡ write.end = is.is_over.1 in
      let end : write.end ≡ one.step.end = one.told.end in
      let start : write.start ≡ one.step.start = one.told.start in
      let behind = first.behind in
      let ends : EndsOver steps step put.dead write.position = record {
        other = one.step;
        at = ap (slice_get steps) one.told.is_at ∙ one.at;
        over = record { writes = one.is_wanted; key = sym one.told.key ∙ first.of_key; behind = omega arith };
        end = sym end ∙ sym dead;
      } in
      record {
        is_at = is.is_at;
        key = is.key;
        value = is.value;
        start = is.start;
        expires = is.expires;
        dead = record {
          least = λ q other at over.
              let w = written q other at over.writes in
              let w_start : w.item.start ≡ other.start = w.told.start in
              let w_end : w.item.end ≡ other.end = w.told.end in
              let w_behind = over.behind in
              let le = All-contains (λ (w : Write). w.key ≡ step.key → step.end < w.start → write.end ≤ w.end) writes w.item first.least w.listed (w.told.key ∙ over.key) (omega arith) in
              omega arith;
          by = subst (λ o. MatchOption o (put.dead ≡ 18446744073709551615) (EndsOver steps step put.dead)) (sym is.is_over.0) ends;
        };
      }

  pub dead_of : (p : ℕ) (step : NumberedCall) (put : Put) (over : Option Write) → IsFirstOver writes step.key step.end over → IsPut p step over put → TellsPut steps p step put
  dead_of p step put None first is = dead_of_none p step put first is
  dead_of p step put (Some write) first is = dead_of_some p step put write first is

-- a put's last stamp is in its range
dead_fits : (steps : List NumberedCall) (step : NumberedCall) (dead : ℕ) (over : Option ℕ) → All IsFit steps → MatchOption over (dead ≡ 18446744073709551615) (EndsOver steps step dead) → dead < 2 ^ 64
dead_fits steps step dead None fit by = omega arith
dead_fits steps step dead (Some q) fit by =
    let f : IsFit by.other = all_at IsFit steps q by.other fit by.at in
    let end : by.other.end ≡ dead = by.end in
    let a = f.end in
    omega arith

-- the listed puts, sorted
pub are_puts : (steps : List NumberedCall) (xs ys : List Put) → All IsFit steps → Lists steps Putting (TellsPut steps) (length steps) xs → AllPairs (λ one other. one.position ≢ other.position) xs → IsPermutation xs ys → IsNonDecreasingBy put_rank ys → ArePuts steps ys
are_puts steps xs ys fit had apart moved sorted =
    let lists = lists_permuted steps Putting (TellsPut steps) (length steps) xs ys moved had in
    record {
      lists = lists;
      in_order = record {
        sorted = sorted;
        fit = All-weaker (TellsOne steps Putting (TellsPut steps)) IsFitPut (λ w one.
            let f : IsFit one.step = all_at IsFit steps one.position one.step fit one.at in
            let e : w.start ≡ one.step.start = one.told.start in
            let v : w.value ≡ one.step.value = one.told.value in
            let x : w.expires ≡ one.step.time = one.told.expires in
            let a = f.start in
            let b = f.value in
            let d = f.time in
            record { value = omega arith; start = omega arith; expires = omega arith; dead = dead_fits steps one.step w.dead w.over fit one.told.dead.by }) ys lists.sound;
        distinct = distinct_permuted (λ (put : Put). put.position) xs ys moved apart;
      };
    }
