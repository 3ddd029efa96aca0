-- What a fill leaves of what its caller knows.
use Rattle.std.proofs.Common.{rules, ◌≡◌, ◌≢◌, ◌∙◌, ◌+◌, ℕ, List, Result, Ok, Err, ap, inl, inr, subst, sym, get_or, slice_set}
use Rattle.std.specs.Prelude.{IfOk, OnErr}
use Rattle.std.proofs.lemmas.List.{set-get_or}
use mathlib.Core.List.{IsPrefix}
use Rattle.certificate_checker.specs.Deeds.{Deed}
use Rattle.load.specs.declared.serve_load.ServeLoad.{ServeLoad}
use Rattle.service_lane.specs.declared.filled.Filled.{Filled}
use Rattle.service_lane.specs.declared.filled.Filled.TheVariants.{Stored, Stale}
use Rattle.service_cache.specs.Calls.{AddsLast, FillAdds}
use Rattle.service_cache.specs.declared.seat_fault.SeatPutFault.{SeatPutFault}
use Rattle.serve_load.specs.Calls.{Keeps, Looks, put_by, standing}
use Rattle.serve_load.specs.Words.{step_of_fill, word_after_fill}
use Rattle.serve_load.specs.declared.words.CallEnd.{CallEnd}

module _ (load : ServeLoad) (caller key number : ℕ) (leases : load.leases ≢ 0) (old mid : List ℕ) (known word : ℕ) (seen between new : List Deed) (write : Deed) (words : mid ≡ old) (seat : between ≡ seen) (put : write ≡ put_by load caller key number) (known_is : get_or mid key known ≡ known) where
  -- what is seen is still seen
  itself : IsPrefix seen seen
  itself = search rules

  -- the word and the list stay
  kept : word ≡ known → new ≡ between → Keeps (standing old seen) (standing (slice_set mid key word) new)
  kept same stays = record {
    words = ap (λ (w : ℕ). slice_set mid key w) (same ∙ sym known_is) ∙ set-get_or mid key known ∙ words;
    seen = subst (λ (s : List Deed). IsPrefix seen s) (sym (stays ∙ seat)) itself;
  }

  filled_so : (filled : Result Filled SeatPutFault) → word ≡ word_after_fill filled known number → IfOk filled (λ f. FillAdds between write f new) → OnErr filled (new ≡ between) → Looks load caller key number (step_of_fill filled) (standing old seen) (standing (slice_set mid key word) new)
  filled_so (Ok (Stored pushed)) is adds stays =
      inr (
        leases,
        record {
          word_is = ap (λ (m : List ℕ). slice_set m key word) words ∙ ap (λ (w : ℕ). slice_set old key w) is;
          entered = subst (λ (w : Deed). AddsLast seen w new) put (subst (λ (s : List Deed). AddsLast s write new) seat adds);
        },
      )
  filled_so (Ok Stale) is adds stays = inl (kept is adds)
  filled_so (Err fault) is adds stays = kept is stays

  -- a look-up that filled its key went as the fill did
  pub looks : (filled : Result Filled SeatPutFault) (step : CallEnd) → word ≡ word_after_fill filled known number → step ≡ step_of_fill filled → IfOk filled (λ f. FillAdds between write f new) → OnErr filled (new ≡ between) → Looks load caller key number step (standing old seen) (standing (slice_set mid key word) new)
  looks filled step is step_is adds stays = subst (λ (s : CallEnd). Looks load caller key number s (standing old seen) (standing (slice_set mid key word) new)) (sym step_is) (filled_so filled is adds stays)
