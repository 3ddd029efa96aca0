-- A move that ends keeps the numbers of its store.
use Rattle.std.proofs.Common.{◌≡◌, ℕ, List, ap, refl}
use Rattle.policy_laws.specs.declared.choice.Choice.{Choice}
use Rattle.mover.specs.Store.{StoreState}
use Rattle.mover.specs.Commit.{CommitLeaves, after_abort}
use Rattle.mover.specs.declared.aborted.Aborted.{Aborted}
use Rattle.mover.specs.declared.aborted.Aborted.TheVariants as aborted
use Rattle.mover.specs.declared.committed.Committed.{Committed}
use Rattle.mover.specs.declared.committed.Committed.TheVariants as committed

module _ {D : Type 0} where
  pub commit_keeps_layout : (plan : List Choice) (number : ℕ) (old : StoreState D) (answer : Committed) (new : StoreState D) → CommitLeaves plan number old answer new → new.layout ≡ old.layout
  commit_keeps_layout plan number old committed.Written new leaves = ap (λ (s : StoreState D). s.layout) leaves.left
  commit_keeps_layout plan number old committed.Forgotten new leaves = ap (λ (s : StoreState D). s.layout) leaves.left
  commit_keeps_layout plan number old committed.StalePlan new leaves = ap (λ (s : StoreState D). s.layout) leaves
  commit_keeps_layout plan number old committed.BadPlan new leaves = ap (λ (s : StoreState D). s.layout) leaves

  pub abort_keeps_layout : (number : ℕ) (answer : Aborted) (s : StoreState D) → (after_abort number answer s).layout ≡ s.layout
  abort_keeps_layout number aborted.Aborted s = refl
  abort_keeps_layout number aborted.StalePlan s = refl
