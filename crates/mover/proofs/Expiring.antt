-- What a tier's first pair of a key gives at a moment ends a get.
use Rattle.std.proofs.Common.{◌≡◌, ℕ, Bool, true, false, cond, List, Option, Some, None, refl, sym, subst}
use Rattle.record_pages.specs.Expiry.{is_live, timed, value_at}
use Rattle.record_pages.specs.declared.answer.Answer.{Answer}
use Rattle.record_pages.specs.declared.answer.Answer.TheVariants.{Hit, Miss}
use Rattle.record_pages.specs.declared.miss_cause.MissCause.TheVariants.{Expired}
use Rattle.record_pages.specs.declared.tier.Tier.{Tier}
use Rattle.record_pages.specs.declared.timed_value.TimedValue.{TimedValue}
use Rattle.mover.specs.Lane.{LaneState}
use Rattle.mover.specs.Get.{StepGives, answer_by, found_step}

-- a value that is given is the pair's, and live
pub is_live_at : (moment : ℕ) (v : TimedValue) (value : List ℕ) → value_at moment v ≡ Some value → (v ≡ timed value v.expires) × (is_live v.expires moment ≡ true)
is_live_at moment v value is = by_test (is_live v.expires moment) refl is
  where
    same : (a b : List ℕ) → Some a ≡ Some b → a ≡ b
    same a b is = cc

    by_test : (b : Bool) → is_live v.expires moment ≡ b → cond b (Some v.value) None ≡ Some value → (v ≡ timed value v.expires) × (is_live v.expires moment ≡ true)
    by_test true live is = ((λ i. timed (same v.value value is i) v.expires), live)
    by_test false live is = absurd cc

pub found_hit : (o : Option (List ℕ)) (value : List ℕ) (tier : Tier) (needs : Type 0) (old new lane after : LaneState) → o ≡ Some value → new ≡ after → StepGives (found_step o tier lane after) needs old (Hit value tier) new
found_hit o value tier needs old new lane after is left = subst (λ p. StepGives (found_step p tier lane after) needs old (Hit value tier) new) (sym is) (refl, left)

pub found_expired : (o : Option (List ℕ)) (tier : Tier) (needs : Type 0) (old new lane after : LaneState) → o ≡ None → new ≡ lane → StepGives (found_step o tier lane after) needs old (Miss Expired) new
found_expired o tier needs old new lane after is left = subst (λ p. StepGives (found_step p tier lane after) needs old (Miss Expired) new) (sym is) (refl, left)

-- what holds of the lane before and of that after a hit holds of the one that is left
pub found_lane : (P : LaneState → Type 0) (o : Option (List ℕ)) (tier : Tier) (lane after : LaneState) → P lane → P after → P (found_step o tier lane after).lane
found_lane P (Some value) tier lane after old new = new
found_lane P None tier lane after old new = old

-- what holds of a hit and of what has expired holds of the answer
pub found_reply : (P : Answer → Type 0) (o : Option (List ℕ)) (tier : Tier) (lane after : LaneState) → P (Miss Expired) → ((value : List ℕ) → o ≡ Some value → P (Hit value tier)) → P (found_step o tier lane after).reply
found_reply P (Some value) tier lane after old new = new value refl
found_reply P None tier lane after old new = old

pub reply_by : (o : Option (List ℕ)) (tier : Tier) (lane after : LaneState) → (found_step o tier lane after).reply ≡ answer_by o tier
reply_by (Some value) tier lane after = refl
reply_by None tier lane after = refl
