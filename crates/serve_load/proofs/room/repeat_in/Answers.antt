-- One word more.
use Rattle.std.proofs.Common.{◌≡◌, ◌+◌, ◌-◌, ◌%◌, ◌≤◌, ◌<◌, ℕ, List, ap, arith, length, refl, rules, subst, sym, ◌∙◌, drop}
use borrow.Rule.Slice.PartMut.{put_mid}
use Rattle.serve_load.specs.Objects.{repeated}
use Rattle.serve_load.proofs.Refilling.{refilled, same_length}
use Rattle.serve_load.proofs.room.repeat_in.Goals as goal

-- what is left to write, with a part that is the word
rewritten : (word room part : List ℕ) (left k n : ℕ) → length word ≡ 8 → left ≤ length room → left % 8 ≡ 0 → 0 < left → length room ≡ n → drop left room ≡ repeated word (length room - left) → part ≡ word → k ≡ 8 → (left - 8 ≤ length (put_mid (left - 8) k room part)) × ((left - 8) % 8 ≡ 0) × (length (put_mid (left - 8) k room part) ≡ n) × (drop (left - 8) (put_mid (left - 8) k room part) ≡ repeated word (length (put_mid (left - 8) k room part) - (left - 8)))
rewritten word room part left k n len in_room even some is_n is same eight =
    let P : List ℕ → ℕ → Type 0 = λ p j. (left - 8 ≤ length (put_mid (left - 8) j room p)) × ((left - 8) % 8 ≡ 0) × (length (put_mid (left - 8) j room p) ≡ n) × (drop (left - 8) (put_mid (left - 8) j room p) ≡ repeated word (length (put_mid (left - 8) j room p) - (left - 8))) in
    let long = same_length word room left len in_room even some in
    let at_word : P word 8 = (
      omega (arith, long, in_room),
      omega (arith, even, some),
      long ∙ is_n,
      refilled word room left len in_room even some is ∙ ap (λ m. repeated word (m - (left - 8))) (sym long),
    ) in
    subst (λ p. P p k) (sym same) (subst (λ j. P word j) (sym eight) at_word)

pub loop-left-preserved : goal.loop-left-preserved
loop-left-preserved c =
    let len : length c.args.word.now ≡ 8 = search rules in
    let i = c.loop-left.invariant in
    rewritten c.args.word.now c.loop-left.room _ c.loop-left.left _ _ len i.0 i.1 (search rules) i.2 i.3 (c.copy_from_slice-in-loop-left.ensures.after ∙ c.as_slice.ensures) (omega arith)
