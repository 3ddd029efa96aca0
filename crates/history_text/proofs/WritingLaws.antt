-- Calls written line by line.
use Rattle.std.proofs.Common.{◌≡◌, ℕ, ◌+◌, ◌<◌, true, false, List, [], ◌∷◌, ◌++◌, All, length, take, drop, Option, Some, None, IsSomeAnd, refl, sym, ap, subst, ◌∙◌}
use Rattle.std.specs.Prelude.{slice_get}
use Rattle.std.specs.Io.KnownBytes.{Appends, Keeps}
use Rattle.std.proofs.KnownBytes.{Appends-trans}
use Rattle.std.proofs.lemmas.List.{append-nil, take-append-drop, take_more}
use Rattle.std.proofs.lemmas.List.Concat.{flat_map-append}
use Rattle.std.proofs.lemmas.List.Elements.{All-nil, All-cons, All-append}
use Rattle.std.proofs.lemmas.Option.{get_or_from_slice_get}
use Rattle.trace_file.specs.declared.call.Call.{Call}
use Rattle.trace_file.specs.Sending.{Sent, Begun}
use Rattle.trace_file.proofs.public_laws.SendLaws.{begun_behind, begun_more}
use Rattle.history_text.specs.declared.write_text_fault.WriteTextFault.{WriteTextFault}
use Rattle.history_text.specs.declared.write_text_fault.WriteTextFault.TheVariants.{TooLate, OutOfMemory, WriteFault}
use Rattle.history_text.specs.Writing.{line_where, written, is_chosen, has_text, HasTextWhere, StopsAt, IsFirstWithout, WroteBefore}

kept : (a b c : Option (List ℕ)) (bytes : List ℕ) → Appends a b bytes → Keeps b c → Appends a c bytes
kept None b c bytes p q = tt
kept (Some xs) None c bytes p q = absurd p
kept (Some xs) (Some ys) None bytes p q = absurd q
kept (Some xs) (Some ys) (Some zs) bytes p q = q ∙ p

module _ (only : Option (List ℕ)) (calls : List Call) (i : ℕ) (call : Call) (lt : i < length calls) (at : slice_get calls i ≡ Some call) where
  next : take (i + 1) calls ≡ take i calls ++ call ∷ []
  next = take_more calls i call lt ∙ ap (λ y. take i calls ++ y ∷ []) (get_or_from_slice_get calls i call call at)

  more : written only (take i calls) ++ line_where only call ≡ written only (take (i + 1) calls)
  more =
      ap (λ bytes. written only (take i calls) ++ bytes) (sym (append-nil (line_where only call)))
      ∙ sym (flat_map-append (line_where only) (take i calls) (call ∷ []))
      ∙ ap (written only) (sym next)

  -- the line of one call more was written
  pub wrote_more : (a b c : Option (List ℕ)) → Appends a b (written only (take i calls)) → Appends b c (line_where only call) → Appends a c (written only (take (i + 1) calls))
  wrote_more a b c p q = subst (Appends a c) more (Appends-trans a b c (written only (take i calls)) (line_where only call) p q)

  pub have_more : All (HasTextWhere only) (take i calls) → HasTextWhere only call → All (HasTextWhere only) (take (i + 1) calls)
  have_more all one = subst (All (HasTextWhere only)) (sym next) (All-append (HasTextWhere only) (take i calls) (call ∷ []) all (All-cons (HasTextWhere only) call [] one (All-nil (HasTextWhere only))))

  -- writing stops at this call
  pub first_without : (a b c : Option (List ℕ)) → All (HasTextWhere only) (take i calls) → (fault : WriteTextFault) → StopsAt only call i b c fault → IsFirstWithout only calls fault
  first_without a b c all (TooLate p) stops =
      let here : slice_get calls p ≡ Some call = ap (slice_get calls) stops.0 ∙ at in (
        subst (λ (o : Option Call). IsSomeAnd o (λ x. (is_chosen only x.key ≡ true) × (has_text x ≡ false))) (sym here) (stops.1, stops.2),
        subst (λ (n : ℕ). All (HasTextWhere only) (take n calls)) (sym stops.0) all,
      )
  first_without a b c all OutOfMemory stops = tt
  first_without a b c all WriteFault stops = tt

  pub wrote_before : (a b c : Option (List ℕ)) → Appends a b (written only (take i calls)) → (fault : WriteTextFault) → StopsAt only call i b c fault → WroteBefore only calls a c fault
  wrote_before a b c p (TooLate q) stops = subst (λ (n : ℕ). Appends a c (written only (take n calls))) (sym stops.0) (kept a b c (written only (take i calls)) p stops.3)
  wrote_before a b c p OutOfMemory stops = (i, kept a b c (written only (take i calls)) p stops)
  wrote_before a b c p WriteFault stops =
      let front = written only (take i calls) in
      let line = line_where only call in
      let back = written only (drop (i + 1) calls) in
      let sent : Sent a b (front ++ line) line = record { front = front; written = p; parts = refl } in
      let begun = begun_behind a c (front ++ line) back (begun_more a b c (front ++ line) line sent stops) in
      let whole : (front ++ line) ++ back ≡ written only calls =
      ap (λ bytes. bytes ++ back) more ∙ sym (flat_map-append (line_where only) (take (i + 1) calls) (drop (i + 1) calls)) ∙ ap (written only) (take-append-drop (i + 1) calls) in
      subst (Begun a c) whole begun
