-- The item that a change of its number stores.
use Rattle.std.proofs.Common.{◌≡◌, ℕ, ◌-◌, ◌≤◌, Bool, true, cond, List, ◌++◌, length, take, replicate, Option, Some, sym, ap, ◌∙◌, arith}
use Rattle.std.specs.Fmt.{decimal}
use Rattle.std.specs.Option.{option_map}
use Rattle.std.proofs.lemmas.List.{take-replicate}
use Rattle.item_lane.specs.declared.counting.Delta.{Delta}
use Rattle.item_lane.specs.declared.head.Head.{Head}
use Rattle.item_lane.specs.declared.cache_item.CacheItem.{CacheItem}
use Rattle.item_lane.specs.declared.command_reply.CommandReply.TheVariants.{Number, Exists}
use Rattle.item_lane.specs.Cells.{kept_shown}
use Rattle.item_lane.specs.Numbers.{number_in, changed}
use Rattle.item_lane.specs.Choosing.{agrees, counted, number_plan, delta_plan}
use Rattle.item_lane.specs.Plans.{Plan, Keep, Store}

-- a plan by its parts
abbrev stores : Head → List ℕ → List ℕ → ℕ → Plan
stores head front back n = Store (record { head = head; bytes = front ++ back }) (Number n)

module _ (delta : Delta) (live : Option CacheItem) (item : CacheItem) (live_is : live ≡ Some item) (yes : agrees delta.compare item.head ≡ true) (old : ℕ) (number_is : number_in item.bytes.now ≡ Some old) where
  -- what is stored if the item holds this number
  planned : number_plan delta (kept_shown item) (Some old) ≡ delta_plan delta (option_map kept_shown live)
  planned =
      ap (number_plan delta (kept_shown item)) (sym number_is)
      ∙ ap (λ (b : Bool). cond b (number_plan delta (kept_shown item) (number_in item.bytes.now)) (Keep Exists)) (sym yes)
      ∙ ap (λ (o : Option CacheItem). delta_plan delta (option_map kept_shown o)) (sym live_is)

  pub number_put : (head : Head) (n : ℕ) (text spaces : List ℕ) (k most : ℕ) → head ≡ counted item.head delta.cas → n ≡ changed delta.change old → text ≡ decimal n → spaces ≡ replicate most 32 → k ≡ length item.bytes.now - length text → length item.bytes.now ≤ most →
      Store (record { head = head; bytes = text ++ take k spaces }) (Number n) ≡ delta_plan delta (option_map kept_shown live)
  number_put head n text spaces k most head_is n_is text_is spaces_are k_is short =
      let m = changed delta.change old in
      let len = length item.bytes.now in
      let written : text ≡ decimal m = text_is ∙ ap decimal n_is in
      let pad : k ≡ len - length (decimal m) = k_is ∙ ap (λ (t : List ℕ). len - length t) written in
      let back : take k spaces ≡ replicate (len - length (decimal m)) 32 = ap (take k) spaces_are ∙ take-replicate k most 32 (omega (arith, k_is, short)) ∙ ap (λ j. replicate j 32) pad in
      ap (λ (h : Head). stores h text (take k spaces) n) head_is
      ∙ ap (λ (t : List ℕ). stores (counted item.head delta.cas) t (take k spaces) n) written
      ∙ ap (λ (b : List ℕ). stores (counted item.head delta.cas) (decimal m) b n) back
      ∙ ap (stores (counted item.head delta.cas) (decimal m) (replicate (len - length (decimal m)) 32)) n_is
      ∙ planned
