-- What a strike does to a move in flight, and how one begins.
use Rattle.std.proofs.lemmas.List.Elements.{All-map}
use Rattle.std.proofs.Common.{◌≡◌, ◌<◌, ◌≤◌, ◌+◌, length, arith, ℕ, false, List, [], ◌∷◌, map, Option, Some, None, refl, ap, ◌∙◌}
use Rattle.std.specs.Prelude.{slice_get, All}
use Rattle.std.specs.Option.{option_map, option_map_or}
use Rattle.std.proofs.lemmas.Option.{slice_get-map}
use Rattle.record_pages.specs.Recs.{Rec}
use Rattle.klog.specs.Log.{Shape}
use Rattle.klog.specs.Moves.{most_taken}
use Rattle.record_pages.specs.Sizes.{max_set_records}
use Rattle.klog.specs.Shown.{place_in}
use Rattle.mover.specs.declared.mark.Mark.{Mark}
use Rattle.mover.specs.declared.moving.Moving.{Moving}
use Rattle.mover.specs.Flight.{Flight, records_of, mark_struck, flight_struck, fresh_mark, is_struck_by, IsFlightOf, AreOfSet}

-- a strike leaves the hashes of marks
pub hashes_stay : (hash : ℕ) (marks : List Mark) → map (λ (m : Mark). m.hash) (map (mark_struck hash) marks) ≡ map (λ (m : Mark). m.hash) marks
hashes_stay hash [] = refl
hashes_stay hash (m ∷ marks) = ap (λ ns. m.hash ∷ ns) (hashes_stay hash marks)

-- a move in flight stays one under a strike
pub struck_one : (hash : ℕ) (f : Flight) (shape : Shape) (moves : ℕ) → IsFlightOf shape moves f → IsFlightOf shape moves (flight_struck hash f)
struck_one hash f shape moves was = record {
  set = was.set;
  numbered = was.numbered;
  marked = hashes_stay hash f.marks ∙ was.marked;
  few = was.few;
}

-- so do the records of each stay of its set
pub struck_placed : (hash : ℕ) (shape : Shape) (fs : List Flight) → All (λ (f : Flight). AreOfSet shape f.moving) fs → All (λ (f : Flight). AreOfSet shape f.moving) (map (flight_struck hash) fs)
struck_placed hash shape fs was = All-map (λ (f : Flight). AreOfSet shape f.moving) (flight_struck hash) fs was

-- no mark of a move that just began is struck
pub none_struck : (shape : Shape) (rs : List Rec) (item : ℕ) → is_struck_by (map (fresh_mark shape) rs) item ≡ false
none_struck shape rs item = ap (λ (o : Option Mark). option_map_or (λ (m : Mark). m.struck) o false) (slice_get-map (fresh_mark shape) rs item) ∙ step (slice_get rs item)
  where
    step : (o : Option Rec) → option_map_or (λ (m : Mark). m.struck) (option_map (fresh_mark shape) o) false ≡ false
    step None = refl
    step (Some r) = refl

-- its marks are those of its records
pub fresh_hashes : (shape : Shape) (rs : List Rec) → map (λ (m : Mark). m.hash) (map (fresh_mark shape) rs) ≡ map (λ (r : Rec). (place_in shape r.key).hash) rs
fresh_hashes shape [] = refl
fresh_hashes shape (r ∷ rs) = ap (λ ns. (place_in shape r.key).hash ∷ ns) (fresh_hashes shape rs)

-- a move that begins is one of the store
pub flies_anew : (shape : Shape) (moves : ℕ) (moving : Moving) (marks : List Mark) → moving.set < shape.sets → moving.number ≡ moves + 1 → length (records_of moving) ≤ max_set_records + most_taken → marks ≡ map (fresh_mark shape) (records_of moving) →
    IsFlightOf shape (moves + 1) (record { moving = moving; marks = marks })
flies_anew shape moves moving marks set number few fresh = record {
  set = set;
  numbered = omega (arith, number);
  marked = ap (map (λ (m : Mark). m.hash)) fresh ∙ fresh_hashes shape (records_of moving);
  few = few;
}
