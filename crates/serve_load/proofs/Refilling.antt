-- A word that is written over and over, from the end to the front.
use Rattle.std.proofs.Common.{◌≡◌, ◌∙◌, ◌≤◌, ◌<◌, ◌+◌, ◌-◌, ◌%◌, ◌++◌, ℕ, List, ap, ap₂, arith, drop, length, length-append, length-drop, rules, subst, sym, take}
use Rattle.std.proofs.lemmas.List.{drop-drop, drop_at, length-take-le}
use borrow.Rule.Slice.PartMut.{put_mid}
use Rattle.serve_load.specs.Objects.{repeated}
use Rattle.serve_load.proofs.Repeating.{longer}

module _ (word room : List ℕ) (left : ℕ) (len : length word ≡ 8) (in_room : left ≤ length room) (even : left % 8 ≡ 0) (some : 0 < left) where
  eight : 8 + (left - 8) ≡ left
  eight = omega (arith, even, some)

  front : length (take (left - 8) room) ≡ left - 8
  front = length-take-le (left - 8) room (omega (arith, in_room))

  -- one word more before what was written
  pub refilled : drop left room ≡ repeated word (length room - left) → drop (left - 8) (put_mid (left - 8) 8 room word) ≡ repeated word (length room - (left - 8))
  refilled is =
      let rest : drop 8 (drop (left - 8) room) ≡ drop left room = drop-drop 8 (left - 8) room ∙ ap (λ k. drop k room) (let e = eight in omega (arith, e)) in
      let size : length room - (left - 8) ≡ 8 + (length room - left) = let e = eight in omega (arith, e, in_room) in
      drop_at (take (left - 8) room) (word ++ drop 8 (drop (left - 8) room)) (left - 8) front
      ∙ ap (λ r. word ++ r) (rest ∙ is)
      ∙ sym (longer word (length room - left) (length room - (left - 8)) len size)

  pub same_length : length (put_mid (left - 8) 8 room word) ≡ length room
  same_length =
      let a = length-append (take (left - 8) room) (word ++ drop 8 (drop (left - 8) room)) in
      let b = length-append word (drop 8 (drop (left - 8) room)) in
      let d = length-drop 8 (drop (left - 8) room) in
      let e = length-drop (left - 8) room in
      let f = front in
      let g = eight in
      omega (arith, a, b, d, e, f, g, len, in_room)
