-- What is so of the words at each access of a run.
use Rattle.std.proofs.Common.{◌≡◌, ◌<◌, ◌≤◌, ℕ, Bool, true, false, List, [], ◌∷◌, Option, Some, None, refl, sym, subst, arith, cond, ◌==◌, ◌&&◌, ◌||◌, not}
use Rattle.turn_register.specs.declared.place.TurnPlace.{TurnPlace}
use Rattle.turn_register.specs.declared.place.TurnPlace.TheVariants as places
use Rattle.turn_register.specs.declared.turn.RegisterTurn.{RegisterTurn}
use Rattle.turn_register.specs.Delays.{all_hidden, is_due}
use Rattle.turn_register.specs.Places.{place_of}
use Rattle.turn_register.specs.Runs.{Shared, Access, Outside, Enters, Inside, OutsideAt, InsideAt, Fits, outside_after, inside_after, after, started, Runs}
use Rattle.turn_register.specs.Turns.{at_place, writing, next_by, next_turn, after_locked, after_flush}

-- what is so while a turn has the lock, by its place
abbrev pub HeldAt : TurnPlace → RegisterTurn → ℕ → ℕ → Type 0
HeldAt places.Whole t flushed top = Unit {0}
HeldAt places.Draw t flushed top = Unit {0}
HeldAt places.SeePending t flushed top = Unit {0}
HeldAt places.SeeFlushed t flushed top = Unit {0}
HeldAt places.Lock t flushed top = Unit {0}
HeldAt places.SeeLocked t flushed top = Unit {0}
HeldAt places.Hide t flushed top = t.word ≡ all_hidden
HeldAt places.DrawFlush t flushed top = flushed ≡ all_hidden
HeldAt places.Show t flushed top = t.word ≡ top
HeldAt places.Clear t flushed top = Unit {0}
HeldAt places.SetLater t flushed top = Unit {0}
HeldAt places.Unlock t flushed top = Unit {0}

abbrev pub HeldBy : Option RegisterTurn → ℕ → ℕ → Type 0
HeldBy None flushed top = Unit {0}
HeldBy (Some t) flushed top = HeldAt (place_of t.at) t flushed top

-- the number that a flush drew last is below all that come, and whoever reads the number of the last flush reads at least it
pub record Sound (s : Shared) : Type 0 where
  pub limit : s.top < all_hidden
  pub below : s.top ≤ s.next
  pub seen : s.top ≤ s.flushed
  pub held : HeldBy s.inside s.flushed s.top

of_either : (P : RegisterTurn → Type 0) (c : Bool) (a b : RegisterTurn) → P a → P b → P (cond c a b)
of_either P true a b first second = first
of_either P false a b first second = second

-- what is so of a turn that goes on after a flush
pub of_after_flush : (P : RegisterTurn → Type 0) (t : RegisterTurn) → P (writing places.SetLater t.later t) → P (at_place places.Unlock t) → P (after_flush t)
of_after_flush P t first second = of_either P ((t.kind == 2) && not (t.later == 0)) (writing places.SetLater t.later t) (at_place places.Unlock t) first second

-- what is so of one that goes on in the hold of the lock
pub of_after_locked : (P : RegisterTurn → Type 0) (t : RegisterTurn) (read : ℕ) → P (writing places.Hide all_hidden t) → P (after_flush t) → P (after_locked t read)
of_after_locked P t read first second =
    of_either P (((t.kind == 2) && (t.later == 0)) || is_due read t.moment) (writing places.Hide all_hidden t) (after_flush t) first second

within : (a b c : ℕ) → a < c → b ≡ c → a ≤ b
within a b c less is = omega arith

-- what is so at the place where a turn that has the lock goes on
held_next : (place : TurnPlace) (t : RegisterTurn) (read flushed top : ℕ) → place_of t.at ≡ place → HeldAt (place_of (next_by place t read).at) (next_by place t read) flushed top →
    HeldBy (Some (next_turn t read)) flushed top
held_next place t read flushed top at held = subst (λ (p : TurnPlace). HeldAt (place_of (next_by p t read).at) (next_by p t read) flushed top) (sym at) held

flush_held : (t : RegisterTurn) (flushed top : ℕ) → HeldAt (place_of (after_flush t).at) (after_flush t) flushed top
flush_held t flushed top = of_after_flush (λ (u : RegisterTurn). HeldAt (place_of u.at) u flushed top) t tt tt

locked_held : (t : RegisterTurn) (read flushed top : ℕ) → HeldAt (place_of (after_locked t read).at) (after_locked t read) flushed top
locked_held t read flushed top = of_after_locked (λ (u : RegisterTurn). HeldAt (place_of u.at) u flushed top) t read refl (flush_held t flushed top)

outside_sound : (place : TurnPlace) (s : Shared) (read : ℕ) → Sound s → OutsideAt place s read → Sound (outside_after place s)
outside_sound places.Draw s read sound fits = record { limit = sound.limit; below = omega arith; seen = sound.seen; held = sound.held }
outside_sound places.SeePending s read sound fits = sound
outside_sound places.SeeFlushed s read sound fits = sound
outside_sound places.Whole s read sound fits = absurd fits
outside_sound places.Lock s read sound fits = absurd fits
outside_sound places.SeeLocked s read sound fits = absurd fits
outside_sound places.Hide s read sound fits = absurd fits
outside_sound places.DrawFlush s read sound fits = absurd fits
outside_sound places.Show s read sound fits = absurd fits
outside_sound places.Clear s read sound fits = absurd fits
outside_sound places.SetLater s read sound fits = absurd fits
outside_sound places.Unlock s read sound fits = absurd fits

inside_sound : (place : TurnPlace) (s : Shared) (t : RegisterTurn) (read : ℕ) → Sound s → place_of t.at ≡ place → HeldAt place t s.flushed s.top → InsideAt place s read → Sound (inside_after place s t read)
inside_sound places.SeeLocked s t read sound at held fits =
    record { limit = sound.limit; below = sound.below; seen = sound.seen; held = held_next places.SeeLocked t read s.flushed s.top at (locked_held t read s.flushed s.top) }
inside_sound places.Hide s t read sound at held fits =
    record { limit = sound.limit; below = sound.below; seen = within s.top t.word all_hidden sound.limit held; held = held_next places.Hide t read t.word s.top at held }
inside_sound places.DrawFlush s t read sound at held fits =
    record { limit = fits.1; below = omega (arith, fits.0); seen = within read s.flushed all_hidden fits.1 held; held = held_next places.DrawFlush t read s.flushed read at refl }
inside_sound places.Show s t read sound at held fits =
    record { limit = sound.limit; below = sound.below; seen = omega (arith, held); held = held_next places.Show t read t.word s.top at tt }
inside_sound places.Clear s t read sound at held fits =
    record { limit = sound.limit; below = sound.below; seen = sound.seen; held = held_next places.Clear t read s.flushed s.top at (flush_held t s.flushed s.top) }
inside_sound places.SetLater s t read sound at held fits =
    record { limit = sound.limit; below = sound.below; seen = sound.seen; held = held_next places.SetLater t read s.flushed s.top at tt }
inside_sound places.Unlock s t read sound at held fits = record { limit = sound.limit; below = sound.below; seen = sound.seen; held = tt }
inside_sound places.Whole s t read sound at held fits = absurd fits
inside_sound places.Draw s t read sound at held fits = absurd fits
inside_sound places.SeePending s t read sound at held fits = absurd fits
inside_sound places.SeeFlushed s t read sound at held fits = absurd fits
inside_sound places.Lock s t read sound at held fits = absurd fits

pub access_sound : (s : Shared) (access : Access) → Sound s → Fits s access → Sound (after s access)
access_sound s (Outside t read) sound fits = outside_sound (place_of t.at) s read sound fits
access_sound s (Enters t) sound fits =
    record { limit = sound.limit; below = sound.below; seen = sound.seen; held = held_next places.Lock t 0 s.flushed s.top fits.0 tt }
access_sound s (Inside t read) sound fits =
    inside_sound (place_of t.at) s t read sound refl (subst (λ (i : Option RegisterTurn). HeldBy i s.flushed s.top) fits.0 sound.held) fits.1

pub run_sound : (run : List Access) (s end : Shared) → Sound s → Runs s run end → Sound end
run_sound [] s end sound runs = subst Sound (sym runs) sound
run_sound (access ∷ run) s end sound runs = run_sound run (after s access) end (access_sound s access sound runs.0) runs.1

-- the words of a server that starts
pub starts_sound : (first : ℕ) → Sound (started first)
starts_sound first = record { limit = omega arith; below = omega arith; seen = omega arith; held = tt }
