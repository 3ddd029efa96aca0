-- The marks of the moves in flight, under a strike.
use Rattle.std.proofs.lemmas.List.Elements.{All-map, All-weaker, All-contains}
use Rattle.std.proofs.Common.{◌≡◌, ◌≢◌, ℕ, Bool, true, false, ◌||◌, eqb, List, map, Option, Some, None, inl, inr, ⊎_elim, refl, sym, ap, subst, ◌∙◌}
use Rattle.std.specs.Prelude.{slice_get, All, Contains}
use Rattle.std.specs.Option.{option_map, option_map_or}
use Rattle.std.proofs.lemmas.Bool.{eq-eqb, false≢true}
use Rattle.std.proofs.lemmas.Option.{slice_get-map, none-some}
use Rattle.set_hash.specs.Fnv.{fnv1a}
use Rattle.record_pages.specs.Recs.{Rec}
use Rattle.memory_cache.specs.declared.pair.Pair.{Pair}
use Rattle.klog.specs.Log.{Shape}
use Rattle.klog.specs.Shown.{place_in}
use Rattle.mover.specs.declared.mark.Mark.{Mark}
use Rattle.mover.specs.Flight.{Flight, records_of, mark_struck, flight_struck, is_struck, IsUnstruck}
use Rattle.mover.specs.Lane.{LaneState}
use Rattle.mover.specs.Put.{put_step}
use Rattle.mover.specs.Strike.{removed}
use Rattle.mover.specs.Visible.{IsHeldInFlight, IsLogPlaced}
use Rattle.mover.specs.Laws.{AreMarked}
use Rattle.mover.proofs.public_laws.Listing.{in_map}
use Rattle.mover.proofs.Flying.{hashes_stay}
use Rattle.mover.proofs.public_laws.Showing.{ShowsOthers, ShowsIt, removed_sees, put_sees, put_flies}

-- the items of each move stay marked under a strike
pub struck_marked : (hash : ℕ) (shape : Shape) (fs : List Flight) → All (AreMarked shape) fs → All (AreMarked shape) (map (flight_struck hash) fs)
struck_marked hash shape fs was =
    All-map (AreMarked shape) (flight_struck hash) fs
    (All-weaker (AreMarked shape) (λ (f : Flight). AreMarked shape (flight_struck hash f)) (λ f marked. hashes_stay hash f.marks ∙ marked) fs was)

-- the mark of a record
mark_is : (shape : Shape) (f : Flight) → AreMarked shape f → (item : ℕ) (r : Rec) → slice_get (records_of f.moving) item ≡ Some r → option_map (λ (m : Mark). m.hash) (slice_get f.marks item) ≡ Some (fnv1a r.key)
mark_is shape f marked item r found =
    sym (slice_get-map (λ (m : Mark). m.hash) f.marks item) ∙ ap (λ ns. slice_get ns item) marked ∙ slice_get-map (λ (x : Rec). (place_in shape x.key).hash) (records_of f.moving) item
    ∙ ap (option_map (λ (x : Rec). (place_in shape x.key).hash)) found

-- what is not struck after a strike was not struck before it, and has another hash
clear_before : (hash : ℕ) (shape : Shape) (f : Flight) → AreMarked shape f → (r : Rec) → IsUnstruck (flight_struck hash f) r → IsUnstruck f r × (fnv1a r.key ≢ hash)
clear_before hash shape f marked r is = let it = step (slice_get f.marks is.item) refl (mark_is shape f marked is.item r is.found) in (record { item = is.item; found = is.found; not_struck = it.0 }, it.1)
  where
    parts : (m : Mark) (a b : Bool) → m.struck ≡ a → eqb m.hash hash ≡ b → (a || b) ≡ false → (m.struck ≡ false) × (m.hash ≢ hash)
    parts m true b at_a at_b e = absurd (false≢true (sym e))
    parts m false true at_a at_b e = absurd (false≢true (sym e))
    parts m false false at_a at_b e = (at_a, λ same. false≢true (sym at_b ∙ eq-eqb m.hash hash same))

    step : (o : Option Mark) → slice_get f.marks is.item ≡ o → option_map (λ (m : Mark). m.hash) o ≡ Some (fnv1a r.key) → (is_struck f is.item ≡ false) × (fnv1a r.key ≢ hash)
    step None at its = absurd (none-some (fnv1a r.key) its)
    step (Some m) at its =
        let hashed : m.hash ≡ fnv1a r.key = cc in
        let struck : slice_get (map (mark_struck hash) f.marks) is.item ≡ Some (mark_struck hash m) = slice_get-map (mark_struck hash) f.marks is.item ∙ ap (option_map (mark_struck hash)) at in
        let clear : (m.struck || eqb m.hash hash) ≡ false = sym (ap (λ (o : Option Mark). option_map_or (λ (x : Mark). x.struck) o false) struck) ∙ is.not_struck in
        let both = parts m m.struck (eqb m.hash hash) refl refl clear in
        (ap (λ (o : Option Mark). option_map_or (λ (x : Mark). x.struck) o false) at ∙ both.0, λ same. both.1 (hashed ∙ same))

-- what is in flight after a strike was so before it, and has another key
held_before : (key : List ℕ) (lane new : LaneState) (p : Pair) → All (AreMarked lane.log.shape) lane.flights → new.flights ≡ map (flight_struck (fnv1a key)) lane.flights → IsHeldInFlight new p → IsHeldInFlight lane p × (p.key ≢ key)
held_before key lane new p marked struck held =
    let was = in_map (flight_struck (fnv1a key)) lane.flights held.its (subst (λ (fs : List Flight). Contains fs held.its) struck held.flies) in
    let f : Flight = was.0 in
    let still = clear_before (fnv1a key) lane.log.shape f (All-contains (AreMarked lane.log.shape) lane.flights f marked was.1) held.item (subst (λ (g : Flight). IsUnstruck g held.item) (sym was.2) held.unstruck) in
    (record { its = f; flies = was.1; item = held.item; unstruck = still.0; pair = held.pair }, λ same. still.1 (ap fnv1a (ap (λ (q : Pair). q.key) held.pair ∙ same)))

-- a removal shows only other keys
pub removal_others : (key : List ℕ) (lane : LaneState) → IsLogPlaced lane → All (AreMarked lane.log.shape) lane.flights → ShowsOthers key lane (removed key lane)
removal_others key lane placed marked p (inl visible) = let kept = removed_sees key lane placed p visible in (inl kept.0, kept.1)
removal_others key lane placed marked p (inr held) = let kept = held_before key lane (removed key lane) p marked refl held in (inr kept.0, kept.1)

-- a put shows its pair, and otherwise only other keys
pub put_alone : (size admit word : ℕ) (put : Pair) (lane : LaneState) → IsLogPlaced lane → All (AreMarked lane.log.shape) lane.flights → ShowsIt put lane (put_step size admit put word lane).lane
put_alone size admit word put lane placed marked p (inl visible) =
    ⊎_elim (λ it. inl it) (λ kept. inr (inl kept.0, kept.1)) (put_sees size admit word put lane placed p visible)
put_alone size admit word put lane placed marked p (inr held) =
    let kept = held_before put.key lane (put_step size admit put word lane).lane p marked (put_flies size admit word put lane) held in
    inr (inr kept.0, kept.1)
