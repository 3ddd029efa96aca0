-- Numbers that are drawn grow, and so does the number that a flush drew last.
use Rattle.std.proofs.Common.{◌≡◌, ◌≤◌, ℕ, suc, List, [], ◌∷◌, sym, ap, subst, ◌∙◌, arith}
use Rattle.turn_register.specs.declared.place.TurnPlace.{TurnPlace}
use Rattle.turn_register.specs.declared.place.TurnPlace.TheVariants as places
use Rattle.turn_register.specs.declared.turn.RegisterTurn.{RegisterTurn}
use Rattle.turn_register.specs.Places.{place_of}
use Rattle.turn_register.specs.Runs.{Shared, Access, Outside, Enters, Inside, OutsideAt, InsideAt, Fits, outside_after, inside_after, after, started, Runs}
use Rattle.turn_register.specs.Laws.{Draws, NumbersDiffer, FlushIsSeen}
use Rattle.turn_register.proofs.Sound.{Sound, access_sound, run_sound, starts_sound}

-- no word goes back
pub record IsLater (s t : Shared) : Type 0 where
  pub next : s.next ≤ t.next
  pub top : s.top ≤ s.next → s.top ≤ t.top

outside_later : (place : TurnPlace) (s : Shared) (read : ℕ) → OutsideAt place s read → IsLater s (outside_after place s)
outside_later places.Draw s read fits = record { next = omega arith; top = λ below. omega arith }
outside_later places.SeePending s read fits = record { next = omega arith; top = λ below. omega arith }
outside_later places.SeeFlushed s read fits = record { next = omega arith; top = λ below. omega arith }
outside_later places.Whole s read fits = absurd fits
outside_later places.Lock s read fits = absurd fits
outside_later places.SeeLocked s read fits = absurd fits
outside_later places.Hide s read fits = absurd fits
outside_later places.DrawFlush s read fits = absurd fits
outside_later places.Show s read fits = absurd fits
outside_later places.Clear s read fits = absurd fits
outside_later places.SetLater s read fits = absurd fits
outside_later places.Unlock s read fits = absurd fits

inside_later : (place : TurnPlace) (s : Shared) (t : RegisterTurn) (read : ℕ) → InsideAt place s read → IsLater s (inside_after place s t read)
inside_later places.SeeLocked s t read fits = record { next = omega arith; top = λ below. omega arith }
inside_later places.Hide s t read fits = record { next = omega arith; top = λ below. omega arith }
inside_later places.DrawFlush s t read fits = record { next = omega arith; top = λ below. omega (arith, fits.0) }
inside_later places.Show s t read fits = record { next = omega arith; top = λ below. omega arith }
inside_later places.Clear s t read fits = record { next = omega arith; top = λ below. omega arith }
inside_later places.SetLater s t read fits = record { next = omega arith; top = λ below. omega arith }
inside_later places.Unlock s t read fits = record { next = omega arith; top = λ below. omega arith }
inside_later places.Whole s t read fits = absurd fits
inside_later places.Draw s t read fits = absurd fits
inside_later places.SeePending s t read fits = absurd fits
inside_later places.SeeFlushed s t read fits = absurd fits
inside_later places.Lock s t read fits = absurd fits

access_later : (s : Shared) (access : Access) → Fits s access → IsLater s (after s access)
access_later s (Outside t read) fits = outside_later (place_of t.at) s read fits
access_later s (Enters t) fits = record { next = omega arith; top = λ below. omega arith }
access_later s (Inside t read) fits = inside_later (place_of t.at) s t read fits.1

pub next_grows : (run : List Access) (s end : Shared) → Runs s run end → s.next ≤ end.next
next_grows [] s end runs = subst (λ (e : Shared). s.next ≤ e.next) (sym runs) (omega arith)
next_grows (access ∷ run) s end runs =
    let one : s.next ≤ (after s access).next = (access_later s access runs.0).next in
    let more : (after s access).next ≤ end.next = next_grows run (after s access) end runs.1 in
    omega arith

pub top_grows : (run : List Access) (s end : Shared) → Sound s → Runs s run end → s.top ≤ end.top
top_grows [] s end sound runs = subst (λ (e : Shared). s.top ≤ e.top) (sym runs) (omega arith)
top_grows (access ∷ run) s end sound runs =
    let one : s.top ≤ (after s access).top = (access_later s access runs.0).top sound.below in
    let more : (after s access).top ≤ end.top = top_grows run (after s access) end (access_sound s access sound runs.0) runs.1 in
    omega arith

-- a number that is drawn is the next one, and the next one is one more
drawn : (s : Shared) (access : Access) (n : ℕ) → Fits s access → Draws access n → (n ≡ s.next) × ((after s access).next ≡ suc s.next)
drawn s (Outside t read) n fits draws =
    let is = subst (λ (p : TurnPlace). OutsideAt p s read) draws.0 fits in
    (sym draws.1 ∙ is.0, ap (λ (p : TurnPlace). (outside_after p s).next) draws.0)
drawn s (Enters t) n fits draws = absurd draws
drawn s (Inside t read) n fits draws =
    let is = subst (λ (p : TurnPlace). InsideAt p s read) draws.0 fits.1 in
    (sym draws.1 ∙ is.0, ap (λ (p : TurnPlace). (inside_after p s t read).next) draws.0)

pub differ : NumbersDiffer
differ s end a b between n m fits_a draws_a runs fits_b draws_b =
    let first = drawn s a n fits_a draws_a in
    let second = drawn end b m fits_b draws_b in
    let grown : (after s a).next ≤ end.next = next_grows between (after s a) end runs in
    let is_n : n ≡ s.next = first.0 in
    let is_next : (after s a).next ≡ suc s.next = first.1 in
    let is_m : m ≡ end.next = second.0 in
    omega arith

-- whoever reads the number of the last flush reads at least what a flush drew
pub reads_top : (end : Shared) (turn : RegisterTurn) (flushed : ℕ) → Sound end → Fits end (Outside turn flushed) → place_of turn.at ≡ places.SeeFlushed → end.top ≤ flushed
reads_top end turn flushed sound fits at =
    let is : flushed ≡ end.flushed = subst (λ (p : TurnPlace). OutsideAt p end flushed) at fits in
    let seen : end.top ≤ end.flushed = sound.seen in
    omega arith

pub is_seen : FlushIsSeen
is_seen first before between s end flush turn n flushed runs_before fits at runs fits_turn at_turn =
    let sound = run_sound before (started first) s (starts_sound first) runs_before in
    let sound_after = access_sound s (Inside flush n) sound fits in
    let sound_end = run_sound between (after s (Inside flush n)) end sound_after runs in
    let drew : (after s (Inside flush n)).top ≡ n = ap (λ (p : TurnPlace). (inside_after p s flush n).top) at in
    let grown : (after s (Inside flush n)).top ≤ end.top = top_grows between (after s (Inside flush n)) end sound_after runs in
    let read : end.top ≤ flushed = reads_top end turn flushed sound_end fits_turn at_turn in
    omega arith
