-- One call more of a caller.
use Rattle.std.proofs.Common.{◌≡◌, ◌∙◌, ◌+◌, ◌<◌, ℕ, suc, ap₂, arith, subst}
use Rattle.record_pages.specs.declared.layout.Layout.{Layout}
use Rattle.rand_pcg.specs.Lcg.{Lcg}
use Rattle.history_recorder.specs.declared.operation.Operation.{Operation}
use Rattle.load.specs.declared.load.Load.{Load}
use Rattle.load.specs.Operations.{next_of}
use Rattle.shared_cache.specs.Passes.{Ticket}
use Rattle.load_run.specs.Calls.{IsAt, IsCalled, IsStopped, operation_at}

module _ (layout : Layout) (load : Load) (first : Lcg) (number : ℕ) (old now : Ticket) (g : Lcg) (here : IsAt layout load first number old now g) where
  suc_is : suc number ≡ number + 1
  suc_is = omega arith

  pub one_more : (new : Ticket) (after : Lcg) → IsCalled layout (next_of load now.caller number g).operation now new → after ≡ (next_of load now.caller number g).generator → new.caller ≡ now.caller → IsAt layout load first (number + 1) old new after
  one_more new after called is same =
      let does : (next_of load now.caller number g).operation ≡ operation_at load old.caller first number =
      ap₂ (λ c x. (next_of load c number x).operation) here.caller here.at in
      let next : IsAt layout load first (suc number) old new after = record {
        caller = same ∙ here.caller;
        at = is ∙ ap₂ (λ c x. (next_of load c number x).generator) here.caller here.at;
        made = (now, here.made, subst (λ (o : Operation). IsCalled layout o now new) does called);
      } in
      subst (λ n. IsAt layout load first n old new after) suc_is next

  pub stopped : (new : Ticket) → number < load.operations → new.calls ≡ now.calls → IsStopped layout load first old new
  stopped new less same = record { number = number; before = now; less = less; made = here.made; left = same }
