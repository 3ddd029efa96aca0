-- What is replied to a call that is refused, and to a put; and the lane then.
use Rattle.std.proofs.Common.{◌≡◌, ◌≤◌, ◌<◌, ℕ, List, ltb, length, Result, Ok, Err, OnOk, IsErrOf, refl, sym, ap, ◌∙◌, inl, inr, arith}
use Rattle.std.proofs.lemmas.Bool.{cases_Bool, ltb-true, ltb-false, lt-ltb}
use Rattle.recorded_lane.specs.Lane.{Lane, max_calls}
use Rattle.scripts.specs.Own.{Pages, Opened, seen_of}
use Rattle.scripts.specs.Replies.{Reply, reply_to, unless_full}
use Rattle.script_words.specs.declared.command.Command.TheVariants.{Put}
use Rattle.record_pages.specs.Sizes.{object_size, room}
use Rattle.std.specs.Prelude.{codes}

stays_full : (o : Opened) (r : Reply) → max_calls ≤ length o.calls → (unless_full o r).opened ≡ o
stays_full o r full = elim (cases_Bool (ltb (length o.calls) max_calls)) [
  | inl less ↦ let below = ltb-true (length o.calls) max_calls less in absurd (omega (arith, full, below))
  | inr not_less ↦ rw not_less refl
]

-- what the script sees of the lane is what it saw
pub refused_full : (old new : Lane Pages) (r : Reply) → max_calls ≤ length old.calls → new ≡ old → seen_of new ≡ (unless_full (seen_of old) r).opened
refused_full old new r full same = ap seen_of same ∙ sym (stays_full (seen_of old) r full)

-- what holds where an append succeeds makes something else hold there
pub on_ok : {T E P Q : Type 0} (result : Result T E) → (P → Q) → OnOk result P → OnOk result Q
on_ok (Ok x) f p = f p
on_ok (Err e) f p = tt

pub no_err : {T E : Type 0} (x : T) (e : E) → IsErrOf (Ok x) e → ⊥
no_err x e is = cc

module _ (page : ℕ) (o : Opened) (key value : List ℕ) (word expires : ℕ) where
  pub stored_text : (room page < object_size key value → ⊥) → ((object_size key value ≤ room page) × (max_calls ≤ length o.calls) → ⊥) → (reply_to page o (Put key value word expires)).text ≡ codes "stored\n"
  stored_text not_large not_full = elim (cases_Bool (ltb (room page) (object_size key value))) [
    | inl large ↦ absurd (not_large (ltb-true (room page) (object_size key value) large))
    | inr fits ↦ elim (cases_Bool (ltb (length o.calls) max_calls)) [
      | inl less ↦ rw (fits, less) refl
      | inr full ↦ absurd (not_full (ltb-false (room page) (object_size key value) fits, ltb-false (length o.calls) max_calls full))
    ]
  ]

  pub large_text : room page < object_size key value → (reply_to page o (Put key value word expires)).text ≡ codes "too large\n"
  large_text large = rw (lt-ltb (room page) (object_size key value) large) refl

  pub full_text : (object_size key value ≤ room page) × (max_calls ≤ length o.calls) → (reply_to page o (Put key value word expires)).text ≡ codes "history full\n"
  full_text both = elim (cases_Bool (ltb (room page) (object_size key value))) [
    | inl large ↦ let over = ltb-true (room page) (object_size key value) large in absurd (omega (arith, over, both.0))
    | inr fits ↦ elim (cases_Bool (ltb (length o.calls) max_calls)) [
      | inl less ↦ let below = ltb-true (length o.calls) max_calls less in absurd (omega (arith, below, both.1))
      | inr full ↦ rw (fits, full) refl
    ]
  ]
