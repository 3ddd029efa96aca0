-- What is read of a cell is what was written.
use Rattle.std.proofs.Common.{◌≡◌, ℕ, ◌+◌, ◌^◌, ◌<◌, Bool, true, false, ltb, eqb, List, ◌∷◌, ◌++◌, length, Option, Some, None, refl, sym, ap, ◌∙◌, append_assoc, arith}
use Rattle.std.specs.Prelude.{not, is_some, unwrap_or, IfSome, if◌then◌else◌}
use Rattle.std.specs.Int.{Width, w32, w64, byte_len, from_be_bytes, to_be_bytes}
use Rattle.std.proofs.lemmas.Bool.{le-ltb, eqb-true, eq-eqb}
use Rattle.std.proofs.lemmas.List.{take_at, drop_at, length-append}
use Rattle.std.proofs.lemmas.Nat.{from_be_bytes-to_be_bytes_4, from_be_bytes-to_be_bytes_8}
use Rattle.record_pages.specs.Reading.{number_at}
use Rattle.item_lane.specs.declared.head.Head.{Head}
use Rattle.item_lane.specs.Cells.{Kept, IsHead, if_so, marks_of, has_mark, flags_text, expiry_text, cell_text, marked_at, head_with, if_marked, decoded}

-- a number that was written is read
number_again : (w : Width) (n : ℕ) (rest : List ℕ) → length (to_be_bytes w n) ≡ byte_len w → from_be_bytes w (to_be_bytes w n) ≡ n → number_at w (to_be_bytes w n ++ rest) ≡ Some (n, rest)
number_again w n rest len again =
    let long : ltb (length (to_be_bytes w n ++ rest)) (byte_len w) ≡ false = le-ltb _ _ (omega (arith, length-append (to_be_bytes w n) rest)) in
    rw (long, take_at (to_be_bytes w n) rest (byte_len w) len, drop_at (to_be_bytes w n) rest (byte_len w) len, again) refl

again_64 : (n : ℕ) (rest : List ℕ) → n < 2 ^ 64 → number_at w64 (to_be_bytes w64 n ++ rest) ≡ Some (n, rest)
again_64 n rest lt = number_again w64 n rest refl (from_be_bytes-to_be_bytes_8 n lt)

again_32 : (n : ℕ) (rest : List ℕ) → n < 2 ^ 32 → number_at w32 (to_be_bytes w32 n ++ rest) ≡ Some (n, rest)
again_32 n rest lt = number_again w32 n rest refl (from_be_bytes-to_be_bytes_4 n lt)

-- the flags as they are read
abbrev flags_read : ℕ → Option ℕ
flags_read flags = if eqb flags 0 then None else Some flags

flags_again : (flags : ℕ) (rest : List ℕ) → flags < 2 ^ 32 → (marked_at (not (eqb flags 0)) (flags_text flags ++ rest) ≡ Some (flags_read flags, rest)) × (unwrap_or (flags_read flags) 0 ≡ flags)
flags_again flags rest lt = by (eqb flags 0) refl
  where
    by : (b : Bool) → eqb flags 0 ≡ b → (marked_at (not (eqb flags 0)) (flags_text flags ++ rest) ≡ Some (flags_read flags, rest)) × (unwrap_or (flags_read flags) 0 ≡ flags)
    by true is = (rw (is) refl, rw (is) (sym (eqb-true flags 0 is)))
    by false is = (rw (is, again_32 flags rest lt) refl, rw (is) refl)

expiry_again : (expires : Option ℕ) (rest : List ℕ) → IfSome expires (λ moment. moment < 2 ^ 32) → marked_at (is_some expires) (expiry_text expires ++ rest) ≡ Some (expires, rest)
expiry_again None rest lt = refl
expiry_again (Some moment) rest lt = rw (again_32 moment rest lt) refl

-- each mark is read as it was set
abbrev marks_for : Bool → Bool → Bool → Bool → ℕ
marks_for s w f e = if_so s 1 + if_so w 2 + if_so f 4 + if_so e 8

record AreRead (s w f e : Bool) : Type 0 where
  stale : has_mark 1 (marks_for s w f e) ≡ s
  won : has_mark 2 (marks_for s w f e) ≡ w
  flags : has_mark 4 (marks_for s w f e) ≡ f
  expires : has_mark 8 (marks_for s w f e) ≡ e

are_read : (s w f e : Bool) → AreRead s w f e
are_read true true true true = record { stale = refl; won = refl; flags = refl; expires = refl }
are_read true true true false = record { stale = refl; won = refl; flags = refl; expires = refl }
are_read true true false true = record { stale = refl; won = refl; flags = refl; expires = refl }
are_read true true false false = record { stale = refl; won = refl; flags = refl; expires = refl }
are_read true false true true = record { stale = refl; won = refl; flags = refl; expires = refl }
are_read true false true false = record { stale = refl; won = refl; flags = refl; expires = refl }
are_read true false false true = record { stale = refl; won = refl; flags = refl; expires = refl }
are_read true false false false = record { stale = refl; won = refl; flags = refl; expires = refl }
are_read false true true true = record { stale = refl; won = refl; flags = refl; expires = refl }
are_read false true true false = record { stale = refl; won = refl; flags = refl; expires = refl }
are_read false true false true = record { stale = refl; won = refl; flags = refl; expires = refl }
are_read false true false false = record { stale = refl; won = refl; flags = refl; expires = refl }
are_read false false true true = record { stale = refl; won = refl; flags = refl; expires = refl }
are_read false false true false = record { stale = refl; won = refl; flags = refl; expires = refl }
are_read false false false true = record { stale = refl; won = refl; flags = refl; expires = refl }
are_read false false false false = record { stale = refl; won = refl; flags = refl; expires = refl }

-- what is read by steps
chain : (m cas : ℕ) (flags expires : Option ℕ) (one two three rest : List ℕ) → number_at w64 one ≡ Some (cas, two) → marked_at (has_mark 4 m) two ≡ Some (flags, three) → marked_at (has_mark 8 m) three ≡ Some (expires, rest) →
    decoded (m ∷ one) ≡ if_marked m (record { head = head_with m cas flags expires; bytes = rest })
unfolding decoded
chain m cas flags expires one two three rest a b c = rw (a, b, c) refl

-- the head that is read is the one that was written
head_is : (h : Head) (m : ℕ) (flags : Option ℕ) → has_mark 1 m ≡ h.is_stale → has_mark 2 m ≡ h.is_won → unwrap_or flags 0 ≡ h.flags → head_with m h.cas flags h.expires ≡ h
head_is h m flags s w f = rw (s, w, f) refl

marked : (m : ℕ) (kept : Kept) → marks_of kept.head ≡ m → if_marked m kept ≡ Some kept
marked m kept e = rw (eq-eqb (marks_of kept.head) m e) refl

pub decoded_cell : (kept : Kept) → IsHead kept.head → decoded (cell_text kept) ≡ Some kept
decoded_cell kept is =
    let h = kept.head in
    let m = marks_of h in
    let three = expiry_text h.expires ++ kept.bytes in
    let two = flags_text h.flags ++ three in
    let one = to_be_bytes w64 h.cas ++ two in
    let read = are_read h.is_stale h.is_won (not (eqb h.flags 0)) (is_some h.expires) in
    let flags = flags_again h.flags three is.flags in
    let text : cell_text kept ≡ m ∷ one =
    ap (λ (t : List ℕ). m ∷ t) (append_assoc (to_be_bytes w64 h.cas) (flags_text h.flags ++ expiry_text h.expires) kept.bytes ∙ ap (λ (t : List ℕ). to_be_bytes w64 h.cas ++ t) (append_assoc (flags_text h.flags) (expiry_text h.expires) kept.bytes)) in
    let read_as = chain m h.cas (flags_read h.flags) h.expires one two three kept.bytes (again_64 h.cas two is.cas)
    (ap (λ (b : Bool). marked_at b two) read.flags ∙ flags.0) (ap (λ (b : Bool). marked_at b three) read.expires ∙ expiry_again h.expires kept.bytes is.expires) in
    let head = head_is h m (flags_read h.flags) read.stale read.won flags.1 in
    ap decoded text ∙ read_as ∙ ap (λ (g : Head). if_marked m (record { head = g; bytes = kept.bytes })) head ∙ marked m kept refl
