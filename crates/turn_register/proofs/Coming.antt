-- A flush that is to come is seen from its moment on.
use Rattle.std.proofs.Common.{◌≡◌, ◌≢◌, ◌≤◌, ℕ, Bool, true, false, List, [], ◌∷◌, Option, Some, None, refl, sym, ap, subst, ◌∙◌, arith, cond, ◌⊎◌, inl, inr}
use Rattle.std.proofs.lemmas.Bool.{false≢true}
use Rattle.std.proofs.lemmas.Bool.Decides.{nat_tests}
use Rattle.turn_register.specs.declared.place.TurnPlace.{TurnPlace}
use Rattle.turn_register.specs.declared.place.TurnPlace.TheVariants as places
use Rattle.turn_register.specs.declared.turn.RegisterTurn.{RegisterTurn}
use Rattle.turn_register.specs.Delays.{is_due}
use Rattle.turn_register.specs.Places.{place_of}
use Rattle.turn_register.specs.Runs.{Shared, Access, Outside, Enters, Inside, OutsideAt, InsideAt, Fits, outside_after, inside_after, after, started, Runs}
use Rattle.turn_register.specs.Laws.{SetsLater, NoneSetsLater, FlushToComeIsSeen}
use Rattle.turn_register.specs.Turns.{next_by, next_turn, after_locked, after_flush}
use Rattle.turn_register.proofs.Sound.{of_after_flush, of_after_locked, access_sound, run_sound, starts_sound}
use Rattle.turn_register.proofs.Growing.{top_grows, reads_top}

-- a flush of at least this number is about to be made known
abbrev MadeAt : TurnPlace → ℕ → ℕ → Type 0
MadeAt places.Whole least top = Unit {0}
MadeAt places.Draw least top = Unit {0}
MadeAt places.SeePending least top = Unit {0}
MadeAt places.SeeFlushed least top = Unit {0}
MadeAt places.Lock least top = Unit {0}
MadeAt places.SeeLocked least top = Unit {0}
MadeAt places.Hide least top = Unit {0}
MadeAt places.DrawFlush least top = Unit {0}
MadeAt places.Show least top = least ≤ top
MadeAt places.Clear least top = least ≤ top
MadeAt places.SetLater least top = Unit {0}
MadeAt places.Unlock least top = Unit {0}

abbrev MadeBy : Option RegisterTurn → ℕ → ℕ → Type 0
MadeBy None least top = Unit {0}
MadeBy (Some t) least top = MadeAt (place_of t.at) least top

-- a flush is still to come at this moment, or one of at least this number was made
record Comes (moment least : ℕ) (s : Shared) : Type 0 where
  next : least ≤ s.next
  either : (s.pending ≡ moment) ⊎ (least ≤ s.top)
  made : MadeBy s.inside least s.top

made_next : (place : TurnPlace) (t : RegisterTurn) (read least top : ℕ) → place_of t.at ≡ place → MadeAt (place_of (next_by place t read).at) least top → MadeBy (Some (next_turn t read)) least top
made_next place t read least top at made = subst (λ (p : TurnPlace). MadeAt (place_of (next_by p t read).at) least top) (sym at) made

flush_made : (t : RegisterTurn) (least top : ℕ) → MadeAt (place_of (after_flush t).at) least top
flush_made t least top = of_after_flush (λ (u : RegisterTurn). MadeAt (place_of u.at) least top) t tt tt

locked_made : (t : RegisterTurn) (read least top : ℕ) → MadeAt (place_of (after_locked t read).at) least top
locked_made t read least top = of_after_locked (λ (u : RegisterTurn). MadeAt (place_of u.at) least top) t read tt (flush_made t least top)

module _ (moment least : ℕ) where
  outside_comes : (place : TurnPlace) (s : Shared) (read : ℕ) → Comes moment least s → OutsideAt place s read → Comes moment least (outside_after place s)
  outside_comes places.Draw s read comes fits = record { next = omega (arith, comes.next); either = comes.either; made = comes.made }
  outside_comes places.SeePending s read comes fits = comes
  outside_comes places.SeeFlushed s read comes fits = comes
  outside_comes places.Whole s read comes fits = absurd fits
  outside_comes places.Lock s read comes fits = absurd fits
  outside_comes places.SeeLocked s read comes fits = absurd fits
  outside_comes places.Hide s read comes fits = absurd fits
  outside_comes places.DrawFlush s read comes fits = absurd fits
  outside_comes places.Show s read comes fits = absurd fits
  outside_comes places.Clear s read comes fits = absurd fits
  outside_comes places.SetLater s read comes fits = absurd fits
  outside_comes places.Unlock s read comes fits = absurd fits

  inside_comes : (place : TurnPlace) (s : Shared) (t : RegisterTurn) (read : ℕ) → Comes moment least s → place_of t.at ≡ place → (place ≢ places.SetLater) → MadeAt place least s.top → InsideAt place s read →
      Comes moment least (inside_after place s t read)
  inside_comes places.SeeLocked s t read comes at other made fits =
      record { next = comes.next; either = comes.either; made = made_next places.SeeLocked t read least s.top at (locked_made t read least s.top) }
  inside_comes places.Hide s t read comes at other made fits = record { next = comes.next; either = comes.either; made = made_next places.Hide t read least s.top at tt }
  inside_comes places.DrawFlush s t read comes at other made fits =
      let drew : least ≤ read = omega (arith, comes.next, fits.0) in
      record { next = omega (arith, comes.next); either = inr drew; made = made_next places.DrawFlush t read least read at drew }
  inside_comes places.Show s t read comes at other made fits = record { next = comes.next; either = comes.either; made = made_next places.Show t read least s.top at made }
  inside_comes places.Clear s t read comes at other made fits = record { next = comes.next; either = inr made; made = made_next places.Clear t read least s.top at (flush_made t least s.top) }
  inside_comes places.SetLater s t read comes at other made fits = absurd (other refl)
  inside_comes places.Unlock s t read comes at other made fits = record { next = comes.next; either = comes.either; made = tt }
  inside_comes places.Whole s t read comes at other made fits = absurd fits
  inside_comes places.Draw s t read comes at other made fits = absurd fits
  inside_comes places.SeePending s t read comes at other made fits = absurd fits
  inside_comes places.SeeFlushed s t read comes at other made fits = absurd fits
  inside_comes places.Lock s t read comes at other made fits = absurd fits

  access_comes : (s : Shared) (access : Access) → Comes moment least s → (¬ SetsLater access) → Fits s access → Comes moment least (after s access)
  access_comes s (Outside t read) comes other fits = outside_comes (place_of t.at) s read comes fits
  access_comes s (Enters t) comes other fits = record { next = comes.next; either = comes.either; made = made_next places.Lock t 0 least s.top fits.0 tt }
  access_comes s (Inside t read) comes other fits =
      inside_comes (place_of t.at) s t read comes refl other (subst (λ (i : Option RegisterTurn). MadeBy i least s.top) fits.0 comes.made) fits.1

  run_comes : (run : List Access) (s end : Shared) → Comes moment least s → NoneSetsLater run → Runs s run end → Comes moment least end
  run_comes [] s end comes none runs = subst (Comes moment least) (sym runs) comes
  run_comes (access ∷ run) s end comes none runs = run_comes run (after s access) end (access_comes s access comes none.0 runs.0) none.1 runs.1

-- a flush was set that is to come
set_comes : (s : Shared) (flush : RegisterTurn) (read : ℕ) → place_of flush.at ≡ places.SetLater → Comes flush.word s.next (after s (Inside flush read))
set_comes s flush read at =
    subst (λ (p : TurnPlace). Comes flush.word s.next (inside_after p s flush read)) (sym at)
    (record { next = omega arith; either = inl refl; made = made_next places.SetLater flush read s.next s.top at tt })

-- whoever goes on after what is to come was read has not read one that is due
pending_by : (c : Bool) (t : RegisterTurn) → place_of (cond c (record t { at = 4 }) (record t { at = 3 })).at ≡ places.SeeFlushed → c ≡ false
pending_by true t at = absurd cc
pending_by false t at = refl

is_not_due : (turn : RegisterTurn) (pending : ℕ) → place_of turn.at ≡ places.SeePending → place_of (next_turn turn pending).at ≡ places.SeeFlushed → is_due pending turn.moment ≡ false
is_not_due turn pending at goes =
    pending_by (is_due pending turn.moment) turn (subst (λ (p : TurnPlace). place_of (next_by p turn pending).at ≡ places.SeeFlushed) at goes)

due : (pending moment : ℕ) → pending ≢ 0 → pending ≤ moment → is_due pending moment ≡ true
due pending moment some past = grind (arith, nat_tests)

pub comes_to_be_seen : FlushToComeIsSeen
comes_to_be_seen first before between rest s middle end flush turn later read pending flushed runs_before fits at some runs none fits_turn at_turn past goes runs_rest fits_later at_later =
    let set = after s (Inside flush read) in
    let sound_s = run_sound before (started first) s (starts_sound first) runs_before in
    let sound_set = access_sound s (Inside flush read) sound_s fits in
    let sound_middle = run_sound between set middle sound_set runs in
    let sound_end = run_sound rest middle end sound_middle runs_rest in
    let comes = run_comes flush.word s.next between set middle (set_comes s flush read at) none runs in
    let is : pending ≡ middle.pending = subst (λ (p : TurnPlace). OutsideAt p middle pending) at_turn fits_turn in
    let not_due = is_not_due turn pending at_turn goes in
    let grown : middle.top ≤ end.top = top_grows rest middle end sound_middle runs_rest in
    let reads : end.top ≤ flushed = reads_top end later flushed sound_end fits_later at_later in
    let made : s.next ≤ middle.top = elim comes.either [
      | inl still ↦ absurd (false≢true (sym not_due ∙ (ap (λ (p : ℕ). is_due p turn.moment) (is ∙ still) ∙ due flush.word turn.moment some past)))
      | inr done ↦ done
    ] in
    omega arith
