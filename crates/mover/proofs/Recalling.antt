-- What memory has of a key, and what a get of it answers by that.
use Rattle.std.proofs.Common.{◌≡◌, ℕ, List, Option, Some, None, refl, subst}
use Rattle.std.specs.Prelude.{IsSomeAnd, option_map}
use Rattle.record_pages.specs.Expiry.{value_at}
use Rattle.record_pages.specs.declared.answer.Answer.TheVariants.{Hit, Miss}
use Rattle.record_pages.specs.declared.miss_cause.MissCause.TheVariants.{Expired}
use Rattle.record_pages.specs.declared.tier.Tier.TheVariants.{Memory}
use Rattle.record_pages.specs.declared.timed_value.TimedValue.{TimedValue}
use Rattle.memory_cache.specs.MemoryList.{after_get}
use Rattle.mover.specs.Asking.{RecallsBy}
use Rattle.mover.specs.Store.{StoreState}

-- of one value that is there, what it gives at the moment
same_value : {X : Type 0} (a b : X) → Some a ≡ Some b → a ≡ b
same_value a b is = cc

module _ {D : Type 0} (key : List ℕ) (moment : ℕ) (old : StoreState D) where
  -- a live value is a hit, and its pair comes to the front
  pub recalled_live : (o : Option TimedValue) (value : List ℕ) → Some (Some value) ≡ option_map (value_at moment) o →
      IsSomeAnd o (λ v. RecallsBy (value_at moment v) key old (Hit value Memory) (record old { memory = after_get key old.memory }))
  recalled_live None value is = absurd cc
  recalled_live (Some v) value is =
      subst (λ x. RecallsBy x key old (Hit value Memory) (record old { memory = after_get key old.memory })) (same_value (Some value) (value_at moment v) is) (refl, refl)

  -- one that has expired is a miss, and all stays
  pub recalled_expired : (o : Option TimedValue) → Some None ≡ option_map (value_at moment) o → IsSomeAnd o (λ v. RecallsBy (value_at moment v) key old (Miss Expired) old)
  recalled_expired None is = absurd cc
  recalled_expired (Some v) is = subst (λ x. RecallsBy x key old (Miss Expired) old) (same_value None (value_at moment v) is) (refl, refl)

-- if memory has nothing of a key there is no pair of it
pub recalled_absent : (moment : ℕ) (o : Option TimedValue) → None ≡ option_map (value_at moment) o → o ≡ None
recalled_absent moment None is = refl
recalled_absent moment (Some v) is = absurd cc
