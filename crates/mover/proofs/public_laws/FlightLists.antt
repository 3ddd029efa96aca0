-- Lists of moves in flight.
use Rattle.std.proofs.Common.{◌≡◌, ◌≢◌, ◌<◌, ◌≤◌, ◌+◌, ℕ, zero, suc, Bool, true, false, cond, not, eqb, List, [], ◌∷◌, ◌++◌, length, filter, map, take, Some, None, Contains, refl, sym, ap, subst, ◌∙◌, arith, ◌||◌}
use Rattle.std.specs.Prelude.{All, AllPairs, remove, slice_get}
use Rattle.std.proofs.lemmas.Bool.{eq-eqb, eqb-true, ne_eqb, false≢true}
use Rattle.std.proofs.lemmas.List.Elements.{All-head, All-tail, All-push, All-filter, All-map, All-weaker, All-contains, All-nil, All-cons}
use Rattle.std.proofs.lemmas.List.Quantifiers.{all_pairs_push}
use Rattle.std.proofs.lemmas.List.Kept.{AllPairs-filter, AllPairs-cons}
use Rattle.std.proofs.lemmas.List.{length-append, length-map}
use Rattle.std.proofs.lemmas.Option.{none-some}
use Rattle.klog.specs.Log.{Shape}
use Rattle.mover.specs.Flight.{Flight, IsFlightOf, AreFlights, most_flights, flight_of, without_flight, sets_in_flight, flight_struck, is_any}
use Rattle.mover.proofs.public_laws.Listing.{found_in, found_passes}
use Rattle.mover.proofs.Flying.{struck_one}

-- numbers rise along a list of moves
abbrev pub AreRising : List Flight → Type 0
AreRising fs = AllPairs (λ (a b : Flight). a.moving.number < b.moving.number) fs

-- the move that is found has the number
pub number_of_found : (n : ℕ) (fs : List Flight) (f : Flight) → flight_of n fs ≡ Some f → f.moving.number ≡ n
number_of_found n fs f is = eqb-true f.moving.number n (found_passes (λ (g : Flight). eqb g.moving.number n) fs f is)

-- it is one of them
pub held_found : (n : ℕ) (fs : List Flight) (f : Flight) → flight_of n fs ≡ Some f → Contains fs f
held_found n fs f is = found_in (λ (g : Flight). eqb g.moving.number n) fs f is

rising_tail : (f : Flight) (fs : List Flight) → AreRising (f ∷ fs) → AreRising fs
rising_tail f fs rising = λ i j d less lt. rising (suc i) (suc j) d (omega (arith, less)) (omega (arith, lt))

rising_head : (f : Flight) (fs : List Flight) → AreRising (f ∷ fs) → All (λ (g : Flight). g.moving.number ≢ f.moving.number) fs
rising_head f fs rising = λ i d lt same. let less = rising 0 (suc i) d (omega arith) (omega (arith, lt)) in omega (arith, less, same)

-- none has the number
pub other_kept : (n : ℕ) (fs : List Flight) → All (λ (g : Flight). g.moving.number ≢ n) fs → without_flight n fs ≡ fs
other_kept n [] others = refl
other_kept n (f ∷ fs) others =
    ap (λ (b : Bool). cond (not b) (f ∷ without_flight n fs) (without_flight n fs)) (ne_eqb f.moving.number n (All-head (λ (g : Flight). g.moving.number ≢ n) f fs others))
    ∙ ap (λ (gs : List Flight). f ∷ gs) (other_kept n fs (All-tail (λ (g : Flight). g.moving.number ≢ n) f fs others))

-- the move at a place is the one with its number
pub found_at : (fs : List Flight) (at : ℕ) (f : Flight) → slice_get fs at ≡ Some f → AreRising fs → flight_of f.moving.number fs ≡ Some f
found_at [] at f is rising = absurd (none-some f is)
found_at (g ∷ fs) zero f is rising =
    let same : g ≡ f = cc in
    ap (λ (b : Bool). cond b (Some g) (flight_of f.moving.number fs)) (eq-eqb g.moving.number f.moving.number (ap (λ (h : Flight). h.moving.number) same)) ∙ is
found_at (g ∷ fs) (suc at) f is rising =
    let found = found_at fs at f is (rising_tail g fs rising) in
    let other = All-contains (λ (h : Flight). h.moving.number ≢ g.moving.number) fs f (rising_head g fs rising) (held_found f.moving.number fs f found) in
    ap (λ (b : Bool). cond b (Some g) (flight_of f.moving.number fs)) (ne_eqb g.moving.number f.moving.number (λ same. other (sym same))) ∙ found

-- the others are those with other numbers
pub removed_without : (fs : List Flight) (at : ℕ) (f : Flight) → slice_get fs at ≡ Some f → AreRising fs → remove fs at ≡ without_flight f.moving.number fs
removed_without [] at f is rising = absurd (none-some f is)
removed_without (g ∷ fs) zero f is rising =
    let same : g ≡ f = cc in
    let at : g.moving.number ≡ f.moving.number = ap (λ (h : Flight). h.moving.number) same in
    let others : All (λ (h : Flight). h.moving.number ≢ f.moving.number) fs = subst (λ n. All (λ (h : Flight). h.moving.number ≢ n) fs) at (rising_head g fs rising) in
    sym (ap (λ (b : Bool). cond (not b) (g ∷ without_flight f.moving.number fs) (without_flight f.moving.number fs)) (eq-eqb g.moving.number f.moving.number at) ∙ other_kept f.moving.number fs others)
removed_without (g ∷ fs) (suc at) f is rising =
    let found = found_at fs at f is (rising_tail g fs rising) in
    let other = All-contains (λ (h : Flight). h.moving.number ≢ g.moving.number) fs f (rising_head g fs rising) (held_found f.moving.number fs f found) in
    ap (λ (gs : List Flight). g ∷ gs) (removed_without fs at f is (rising_tail g fs rising))
    ∙ sym (ap (λ (b : Bool). cond (not b) (g ∷ without_flight f.moving.number fs) (without_flight f.moving.number fs)) (ne_eqb g.moving.number f.moving.number (λ same. other (sym same))))

-- the moves in flight have numbers that were given
pub flights_counted : (shape : Shape) (moves : ℕ) (fs : List Flight) → AreFlights shape moves fs → All (λ (f : Flight). f.moving.number ≤ moves) fs
flights_counted shape moves fs are = All-weaker (IsFlightOf shape moves) (λ (f : Flight). f.moving.number ≤ moves) (λ f is. is.numbered) fs are.each

-- no move has the next number
pub fresh_number : (moves : ℕ) (fs : List Flight) → All (λ (g : Flight). g.moving.number ≤ moves) fs → All (λ (g : Flight). g.moving.number ≢ moves + 1) fs
fresh_number moves fs counted = λ i d lt same. let le = counted i d lt in omega (arith, le, same)

-- a move after others of other numbers is found
pub found_last : (fs : List Flight) (f : Flight) → All (λ (g : Flight). g.moving.number ≢ f.moving.number) fs → flight_of f.moving.number (fs ++ f ∷ []) ≡ Some f
found_last [] f others = ap (λ (b : Bool). cond b (Some f) None) (eq-eqb f.moving.number f.moving.number refl)
found_last (g ∷ fs) f others =
    ap (λ (b : Bool). cond b (Some g) (flight_of f.moving.number (fs ++ f ∷ []))) (ne_eqb g.moving.number f.moving.number (All-head (λ (h : Flight). h.moving.number ≢ f.moving.number) g fs others))
    ∙ found_last fs f (All-tail (λ (h : Flight). h.moving.number ≢ f.moving.number) g fs others)

-- and taken out again it leaves them
pub without_last : (fs : List Flight) (f : Flight) → All (λ (g : Flight). g.moving.number ≢ f.moving.number) fs → without_flight f.moving.number (fs ++ f ∷ []) ≡ fs
without_last [] f others = ap (λ (b : Bool). cond (not b) (f ∷ []) []) (eq-eqb f.moving.number f.moving.number refl)
without_last (g ∷ fs) f others =
    ap (λ (b : Bool). cond (not b) (g ∷ without_flight f.moving.number (fs ++ f ∷ [])) (without_flight f.moving.number (fs ++ f ∷ []))) (ne_eqb g.moving.number f.moving.number (All-head (λ (h : Flight). h.moving.number ≢ f.moving.number) g fs others))
    ∙ ap (λ (gs : List Flight). g ∷ gs) (without_last fs f (All-tail (λ (h : Flight). h.moving.number ≢ f.moving.number) g fs others))

-- none has the number, so none is found
pub none_found : (n : ℕ) (fs : List Flight) → All (λ (f : Flight). f.moving.number ≢ n) fs → flight_of n fs ≡ None
none_found n [] others = refl
none_found n (f ∷ fs) others =
    ap (λ (b : Bool). cond b (Some f) (flight_of n fs)) (ne_eqb f.moving.number n (All-head (λ (g : Flight). g.moving.number ≢ n) f fs others))
    ∙ none_found n fs (All-tail (λ (g : Flight). g.moving.number ≢ n) f fs others)

-- the first that has it is found
pub found_here : (n : ℕ) (fs : List Flight) (at : ℕ) (f : Flight) → All (λ (g : Flight). g.moving.number ≢ n) (take at fs) → slice_get fs at ≡ Some f → f.moving.number ≡ n → flight_of n fs ≡ Some f
found_here n [] at f others is its = absurd (none-some f is)
found_here n (g ∷ fs) zero f others is its =
    let same : g ≡ f = cc in
    ap (λ (b : Bool). cond b (Some g) (flight_of n fs)) (eq-eqb g.moving.number n (ap (λ (h : Flight). h.moving.number) same ∙ its)) ∙ is
found_here n (g ∷ fs) (suc at) f others is its =
    ap (λ (b : Bool). cond b (Some g) (flight_of n fs)) (ne_eqb g.moving.number n (All-head (λ (h : Flight). h.moving.number ≢ n) g (take at fs) others))
    ∙ found_here n fs at f (All-tail (λ (h : Flight). h.moving.number ≢ n) g (take at fs) others) is its

-- if one is taken out, its mapped one is
pub map_removed : {X Y : Type 0} (f : X → Y) (xs : List X) (i : ℕ) → remove (map f xs) i ≡ map f (remove xs i)
map_removed f [] zero = refl
map_removed f [] (suc i) = refl
map_removed f (x ∷ xs) zero = refl
map_removed f (x ∷ xs) (suc i) = ap (λ ys. f x ∷ ys) (map_removed f xs i)

-- their sets stay under a strike
pub sets_struck : (hash : ℕ) (fs : List Flight) → sets_in_flight (map (flight_struck hash) fs) ≡ sets_in_flight fs
sets_struck hash [] = refl
sets_struck hash (f ∷ fs) = ap (λ ns. f.moving.set ∷ ns) (sets_struck hash fs)

-- no more are kept than there were
fewer : {X : Type 0} (p : X → Bool) (xs : List X) → length (filter p xs) ≤ length xs
fewer p [] = omega arith
fewer p (x ∷ xs) = step (p x) (fewer p xs)
  where
    step : (b : Bool) → length (filter p xs) ≤ length xs → length (cond b (x ∷ filter p xs) (filter p xs)) ≤ suc (length xs)
    step true le = omega (arith, le)
    step false le = omega (arith, le)

-- the moves that are left when one is over
pub flights_left : (shape : Shape) (moves n : ℕ) (fs : List Flight) → AreFlights shape moves fs → AreFlights shape moves (without_flight n fs)
flights_left shape moves n fs are = record {
  few = let le = fewer (λ (f : Flight). not (eqb f.moving.number n)) fs in omega (arith, le, are.few);
  each = All-filter (λ (f : Flight). not (eqb f.moving.number n)) (IsFlightOf shape moves) fs are.each;
  rising = AllPairs-filter (λ (a b : Flight). a.moving.number < b.moving.number) (λ (f : Flight). not (eqb f.moving.number n)) fs are.rising;
  apart = AllPairs-filter (λ (a b : Flight). a.moving.set ≢ b.moving.set) (λ (f : Flight). not (eqb f.moving.number n)) fs are.apart;
}

-- neither of two is true if one of them is not
neither : (a b : Bool) → (a || b) ≡ false → (a ≡ false) × (b ≡ false)
neither true b is = absurd (false≢true (sym is))
neither false b is = (refl, is)

-- no move is of a set that is none of theirs
other_sets : (set : ℕ) (fs : List Flight) → is_any set (sets_in_flight fs) ≡ false → All (λ (f : Flight). f.moving.set ≢ set) fs
other_sets set [] none = All-nil (λ (f : Flight). f.moving.set ≢ set)
other_sets set (f ∷ fs) none =
    let parts = neither (eqb f.moving.set set) (is_any set (sets_in_flight fs)) none in
    All-cons (λ (g : Flight). g.moving.set ≢ set) f fs (λ same. false≢true (sym parts.0 ∙ eq-eqb f.moving.set set same)) (other_sets set fs parts.1)

-- the moves with one more after them
pub flights_more : (shape : Shape) (moves : ℕ) (fs : List Flight) (f : Flight) → AreFlights shape moves fs → length fs < most_flights → IsFlightOf shape (moves + 1) f → f.moving.number ≡ moves + 1 → is_any f.moving.set (sets_in_flight fs) ≡ false →
    AreFlights shape (moves + 1) (fs ++ f ∷ [])
flights_more shape moves fs f are room its number none = record {
  few = let long = length-append fs (f ∷ []) in omega (arith, long, room);
  each = All-push (IsFlightOf shape (moves + 1)) fs f (All-weaker (IsFlightOf shape moves) (IsFlightOf shape (moves + 1)) (λ g is. record { set = is.set; numbered = let le = is.numbered in omega (arith, le); marked = is.marked; few = is.few }) fs are.each) its;
  rising = all_pairs_push (λ (a b : Flight). a.moving.number < b.moving.number) fs f are.rising (λ i d lt. let le = (are.each i d lt).numbered in omega (arith, le, number));
  apart = all_pairs_push (λ (a b : Flight). a.moving.set ≢ b.moving.set) fs f are.apart (other_sets f.moving.set fs none);
}

-- the moves under a strike
pub flights_struck : (shape : Shape) (moves hash : ℕ) (fs : List Flight) → AreFlights shape moves fs → AreFlights shape moves (map (flight_struck hash) fs)
flights_struck shape moves hash fs are = record {
  few = let long = length-map fs (flight_struck hash) in omega (arith, long, are.few);
  each = All-map (IsFlightOf shape moves) (flight_struck hash) fs (All-weaker (IsFlightOf shape moves) (λ (f : Flight). IsFlightOf shape moves (flight_struck hash f)) (λ f is. struck_one hash f shape moves is) fs are.each);
  rising = pairs_map (λ (a b : Flight). a.moving.number < b.moving.number) (flight_struck hash) fs are.rising;
  apart = pairs_map (λ (a b : Flight). a.moving.set ≢ b.moving.set) (flight_struck hash) fs are.apart;
}
  where
    pairs_map : {X : Type 0} (R : X → X → Type 0) (g : X → X) (xs : List X) → AllPairs (λ a b. R (g a) (g b)) xs → AllPairs R (map g xs)
    pairs_map R g [] pairs = λ i j d less lt. absurd (omega (arith, lt))
    pairs_map R g (x ∷ xs) pairs =
        AllPairs-cons R (g x) (map g xs) (All-map (R (g x)) g xs (λ i d lt. pairs 0 (suc i) d (omega arith) (omega (arith, lt))))
        (pairs_map R g xs (λ i j d less lt. pairs (suc i) (suc j) d (omega (arith, less)) (omega (arith, lt))))
