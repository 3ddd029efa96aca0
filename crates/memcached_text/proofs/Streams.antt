-- The events of a stream are the same however it is cut.
use Rattle.std.proofs.Common.{◌≡◌, ℕ, zero, suc, ◌+◌, ◌<◌, ◌≤◌, true, false, cond, List, [], ◌∷◌, ◌++◌, length, drop, refl, sym, ap, ◌∙◌, arith, inl, inr, add-zero}
use Rattle.std.proofs.lemmas.Bool.{cases_Bool}
use Rattle.std.proofs.lemmas.List.{length-append, length-drop, drop-drop, drop-append-le}
use Rattle.memcached_text.specs.declared.reader_state.ReaderState.{ReaderState}
use Rattle.memcached_text.specs.Steps.{Outcome, Passing, Told, is_more, passing, decided, step_of, shifted, given_list, events_in, events_of}
use Rattle.memcached_text.proofs.StepLaws.{passing_within, step_shift, step_kept, some_given}
use Rattle.memcached_text.proofs.StepProgress.{decided_takes, decided_stays}

step_takes : (most : ℕ) (state : ReaderState) (bytes : List ℕ) → is_more (step_of most state bytes).told ≡ false → 1 ≤ (step_of most state bytes).taken
unfolding step_of
step_takes most state bytes given =
    let k = passing state bytes in
    let some = decided_takes most k.state (drop k.count bytes) given in
    omega (arith, some)

-- what is given takes a byte or more
pub takes : (most : ℕ) (state : ReaderState) (bytes : List ℕ) (o : Outcome) → o ≡ step_of most state bytes → is_more o.told ≡ false → 1 ≤ o.taken
takes most state bytes o is given = rw is (step_takes most state bytes (rw is at given))

step_some : (most : ℕ) (state : ReaderState) (bytes : List ℕ) → is_more (step_of most state bytes).told ≡ false → 0 < length bytes
unfolding step_of
step_some most state bytes given =
    let k = passing state bytes in
    let some = some_given most k.state (drop k.count bytes) given in
    let left = length-drop k.count bytes in
    omega (arith, some, left)

-- the events from a step on
abbrev events_by : ℕ → ℕ → Outcome → List ℕ → List Told
events_by n most o bytes = cond (is_more o.told) [] (o.told ∷ events_in n most o.state (drop o.taken bytes))

events_step : (n most : ℕ) (state : ReaderState) (bytes : List ℕ) → events_in (suc n) most state bytes ≡ events_by n most (step_of most state bytes) bytes
unfolding events_in
events_step n most state bytes = refl

given_tail : (n most : ℕ) (o : Outcome) (bytes : List ℕ) → is_more o.told ≡ false → events_by n most o bytes ≡ o.told ∷ events_in n most o.state (drop o.taken bytes)
given_tail n most o bytes given = rw given refl

fewer_left : (taken : ℕ) (bytes : List ℕ) → 1 ≤ taken → 0 < length bytes → length (drop taken bytes) < length bytes
fewer_left taken bytes some full = let left = length-drop taken bytes in omega (arith, left, some, full)

same_by : (n m most : ℕ) (o : Outcome) (bytes : List ℕ) → (is_more o.told ≡ false → events_in n most o.state (drop o.taken bytes) ≡ events_in m most o.state (drop o.taken bytes)) → events_by n most o bytes ≡ events_by m most o bytes
same_by n m most o bytes rest = elim (cases_Bool (is_more o.told)) [
  | inl none ↦ rw none refl
  | inr given ↦ rw given (ap (λ events. o.told ∷ events) (rest given))
]

-- no more events are counted than bytes
counted : (most n m : ℕ) (state : ReaderState) (bytes : List ℕ) → length bytes < n → length bytes < m → events_in n most state bytes ≡ events_in m most state bytes
counted most zero m state bytes less other = absurd (omega (arith, less))
counted most (suc n) zero state bytes less other = absurd (omega (arith, other))
counted most (suc n) (suc m) state bytes less other =
    let step = step_of most state bytes in
    let rest : is_more step.told ≡ false → events_in n most step.state (drop step.taken bytes) ≡ events_in m most step.state (drop step.taken bytes) =
    λ given.
    let fewer = fewer_left step.taken bytes (step_takes most state bytes given) (step_some most state bytes given) in
    counted most n m step.state (drop step.taken bytes) (omega (arith, fewer, less)) (omega (arith, fewer, other)) in
    events_step n most state bytes ∙ same_by n m most step bytes rest ∙ sym (events_step m most state bytes)

-- a step that gives nothing, or what is after it, has the same events
pub later : (most : ℕ) (state : ReaderState) (bytes more : List ℕ) → events_of most state (bytes ++ more) ≡ events_of most (passing state bytes).state (drop (passing state bytes).count bytes ++ more)
unfolding events_of
later most state bytes more =
    let k = passing state bytes in
    let left = drop k.count bytes ++ more in
    let step = step_of most k.state left in
    let within = passing_within state bytes in
    let whole = length-append bytes more in
    let part = length-append (drop k.count bytes) more in
    let shorter = length-drop k.count bytes in
    let joined : drop (k.count + step.taken) (bytes ++ more) ≡ drop step.taken left = sym (drop-drop step.taken k.count (bytes ++ more)) ∙ ap (drop step.taken) (drop-append-le k.count bytes more within) in
    let rest : is_more step.told ≡ false → events_in (length (bytes ++ more)) most step.state (drop step.taken left) ≡ events_in (length left) most step.state (drop step.taken left) =
    λ given.
    let fewer = fewer_left step.taken left (step_takes most k.state left given) (step_some most k.state left given) in
    counted most (length (bytes ++ more)) (length left) step.state (drop step.taken left) (omega (arith, fewer, whole, part, shorter)) fewer in
    events_step (length (bytes ++ more)) most state (bytes ++ more)
    ∙ ap (λ o. events_by (length (bytes ++ more)) most o (bytes ++ more)) (step_shift most state bytes more)
    ∙ ap (λ after. cond (is_more step.told) [] (step.told ∷ events_in (length (bytes ++ more)) most step.state after)) joined
    ∙ same_by (length (bytes ++ more)) (length left) most step left rest
    ∙ sym (events_step (length left) most k.state left)

-- a step that gives nothing takes what is passed over
none_step : (most : ℕ) (state : ReaderState) (bytes : List ℕ) → is_more (step_of most state bytes).told ≡ true → ((step_of most state bytes).taken ≡ (passing state bytes).count) × ((step_of most state bytes).state ≡ (passing state bytes).state)
unfolding step_of
none_step most state bytes none =
    let k = passing state bytes in
    let stays = decided_stays most k.state (drop k.count bytes) none in
    (ap (λ o. k.count + o.taken) stays ∙ add-zero k.count, ap (λ o. o.state) stays)

given_by : (most : ℕ) (state : ReaderState) (bytes more : List ℕ) → (step_of most state bytes).taken ≤ length bytes → is_more (step_of most state bytes).told ≡ false → events_of most state (bytes ++ more) ≡ (step_of most state bytes).told ∷ events_of most (step_of most state bytes).state (drop (step_of most state bytes).taken bytes ++ more)
unfolding events_of
given_by most state bytes more within given =
    let step = step_of most state bytes in
    let left = drop step.taken bytes ++ more in
    let joined : drop step.taken (bytes ++ more) ≡ left = drop-append-le step.taken bytes more within in
    let some = step_takes most state bytes given in
    let full = step_some most state bytes given in
    let whole = length-append bytes more in
    let part = length-append (drop step.taken bytes) more in
    let shorter = length-drop step.taken bytes in
    events_step (length (bytes ++ more)) most state (bytes ++ more)
    ∙ ap (λ o. events_by (length (bytes ++ more)) most o (bytes ++ more)) (step_kept most state bytes more given)
    ∙ given_tail (length (bytes ++ more)) most step (bytes ++ more) given
    ∙ ap (λ after. step.told ∷ events_in (length (bytes ++ more)) most step.state after) joined
    ∙ ap (λ events. step.told ∷ events) (counted most (length (bytes ++ more)) (suc (length left)) step.state left (omega (arith, some, full, whole, part, shorter)) (omega arith))

steady_at : (most : ℕ) (state : ReaderState) (bytes more : List ℕ) → (step_of most state bytes).taken ≤ length bytes → events_of most state (bytes ++ more) ≡ given_list (step_of most state bytes).told ++ events_of most (step_of most state bytes).state (drop (step_of most state bytes).taken bytes ++ more)
steady_at most state bytes more within = elim (cases_Bool (is_more (step_of most state bytes).told)) [
  | inl none ↦
      let stays = none_step most state bytes none in
      rw none (later most state bytes more ∙ ap (λ n. events_of most (passing state bytes).state (drop n bytes ++ more)) (sym stays.0) ∙ ap (λ s. events_of most s (drop (step_of most state bytes).taken bytes ++ more)) (sym stays.1))
  | inr given ↦ rw given (given_by most state bytes more within given)
]

-- the events of a stream are what its first bytes give, and then those of what they leave and what follows
pub steady : (most : ℕ) (state : ReaderState) (bytes more : List ℕ) (o : Outcome) → o ≡ step_of most state bytes → o.taken ≤ length bytes → events_of most state (bytes ++ more) ≡ given_list o.told ++ events_of most o.state (drop o.taken bytes ++ more)
steady most state bytes more o is within = rw is (steady_at most state bytes more (rw is at within))

-- a step in two parts
pub step_made : (most : ℕ) (state : ReaderState) (bytes : List ℕ) (k : Passing) (g : Outcome) → k ≡ passing state bytes → g ≡ decided most k.state (drop k.count bytes) → shifted k.count g ≡ step_of most state bytes
unfolding step_of
step_made most state bytes k g is gives = rw gives (rw is refl)
