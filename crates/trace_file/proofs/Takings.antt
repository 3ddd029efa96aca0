-- Taking items one after the other, as the loops do.
use Rattle.std.proofs.Common.{◌≡◌, ℕ, suc, ◌+◌, ◌-◌, ◌<◌, ◌≤◌, List, [], ◌∷◌, ◌++◌, length, Ok, Err, sym, ap, subst, ◌∙◌, append_assoc, arith, All, inl, inr}
use Rattle.std.proofs.lemmas.List.Elements.{All-append, All-from_recursion}
use Rattle.std.specs.List.{flat_map}
use Rattle.std.proofs.lemmas.List.{length-append, length_push, get_or_past, flat_map_more}
use Rattle.std.proofs.lemmas.Bool.{cases_lt}
use Rattle.trace_file.specs.declared.item_fault.ItemFault.TheVariants.{Short, Fault}
use Rattle.trace_file.specs.declared.trace_fault.TraceFault.{TraceFault}
use Rattle.trace_file.specs.Reading.{Place, Read, ◌>>=◌, many_at}
use Rattle.trace_file.specs.Stream.{in_front, TakesItems, FailsAs}
use Rattle.trace_file.proofs.Formats.{IsBytes, IsFormat, first_in_front, put_in_front}

pub bytes_from_All : (bytes : List ℕ) → All (λ byte. byte < 256) bytes → IsBytes bytes
bytes_from_All bytes all i =
    elim (cases_lt i (length bytes)) [
      | inl lt ↦ all i 0 lt
      | inr le ↦ rw (get_or_past bytes i 0 le) (omega arith)
    ]

-- how far a loop over items has come
pub record TakenSoFar {A : Type 0} (item : Place → Read A) (text : A → List ℕ) (lawful : A → Type 0) (count : ℕ) (old new : List A) (p q : Place) : Type 0 where
  pub read : in_front new (many_at item (count - length new) q) ≡ in_front old (many_at item (count - length old) p)
  pub spelled : flat_map text new ++ q.bytes ≡ flat_map text old ++ p.bytes
  pub at : q.at + length (flat_map text old) ≡ p.at + length (flat_map text new)
  pub within : length new ≤ count
  pub are : All lawful old → All lawful new
  pub grown : length old ≤ length new
  pub onward : p.at ≤ q.at

module _ {A : Type 0} {item : Place → Read A} {text : A → List ℕ} {lawful : A → Type 0} (format : IsFormat item text lawful) {count : ℕ} {old new : List A} {p q : Place} (so_far : TakenSoFar item text lawful count old new p q) where
  take_next : (x : A) (r : Place) → length new < count → All (λ byte. byte < 256) q.bytes → item q ≡ Ok (x, r) → TakenSoFar item text lawful count old (new ++ x ∷ []) p r
  unfolding many_at
  take_next x r lt fits e =
      let took = format.takes q x r (bytes_from_All q.bytes fits) e in
      let t = took.0 in
      let longer : length (new ++ x ∷ []) ≡ length new + 1 = length_push new x in
      let k = count - length (new ++ x ∷ []) in
      let one : count - length new ≡ suc k = omega arith in
      let text-is : flat_map text (new ++ x ∷ []) ≡ flat_map text new ++ text x = sym (flat_map_more text [] new x) in
      let with_first : Read A → Read (List A) = λ r. r >>= λ first. many_at item k first.1 >>= λ others. Ok (first.0 ∷ others.0, others.1) in
      let step : many_at item (count - length new) q ≡ in_front (x ∷ []) (many_at item k r) =
      ap (λ (i : ℕ). many_at item i q) one ∙ ap with_first e ∙ first_in_front x (many_at item k r) in
      record {
        read = sym (put_in_front new (x ∷ []) (many_at item k r)) ∙ ap (in_front new) (sym step) ∙ so_far.read;
        spelled = ap (λ (b : List ℕ). b ++ r.bytes) text-is ∙ append_assoc (flat_map text new) (text x) r.bytes ∙ ap (λ (b : List ℕ). flat_map text new ++ b) (sym t.parts) ∙ so_far.spelled;
        at = omega (arith, t.at, so_far.at, ap length text-is, length-append (flat_map text new) (text x));
        within = omega (arith, longer, lt);
        are = λ before. All-append lawful new (x ∷ []) (so_far.are before) (All-from_recursion lawful (x ∷ []) (took.1, tt));
        grown = omega (arith, longer, so_far.grown);
        onward = omega (arith, t.at, so_far.onward);
      }

  -- one item more
  pub take_one : (now : List A) (x : A) (r : Place) → now ≡ new ++ x ∷ [] → length new < count → All (λ byte. byte < 256) q.bytes → item q ≡ Ok (x, r) → TakenSoFar item text lawful count old now p r
  take_one now x r grown lt fits e = subst (λ (xs : List A). TakenSoFar item text lawful count old xs p r) (sym grown) (take_next x r lt fits e)

  -- the bytes end within an item
  pub stop_short : length new < count → item q ≡ Err Short → TakesItems item text lawful count old new p q
  stop_short lt e = record { read = so_far.read; spelled = so_far.spelled; at = so_far.at; within = so_far.within; are = so_far.are; grown = so_far.grown; onward = so_far.onward; waits = λ h. e }

  -- all were taken
  pub stop_whole : count ≤ length new → TakesItems item text lawful count old new p q
  stop_whole le = record { read = so_far.read; spelled = so_far.spelled; at = so_far.at; within = so_far.within; are = so_far.are; grown = so_far.grown; onward = so_far.onward; waits = λ h. absurd (omega (arith, h, le)) }

  -- a fault was met
  pub stop_faulty : (f : TraceFault) → length new < count → item q ≡ Err (Fault f) → FailsAs f (in_front old (many_at item (count - length old) p))
  unfolding many_at
  stop_faulty f lt e h =
      let k = count - length new - 1 in
      let one : count - length new ≡ suc k = omega arith in
      let with_first : Read A → Read (List A) = λ r. r >>= λ first. many_at item k first.1 >>= λ others. Ok (first.0 ∷ others.0, others.1) in
      sym so_far.read ∙ ap (in_front new) (ap (λ (i : ℕ). many_at item i q) one ∙ ap with_first e)
