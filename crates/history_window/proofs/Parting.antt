-- A picked list that is split comes from a list that is.
use Rattle.std.proofs.Common.{◌≡◌, ℕ, zero, suc, Option, Some, None, List, [], ◌∷◌, ◌++◌, refl, ap, ◌∙◌, subst}
use Rattle.std.specs.Prelude.{map, slice_get}
use Rattle.std.specs.List.{cons_option, filter_map}

pub record Parted {X Y : Type 0} (h : X → Option Y) (xs : List X) (before : List Y) (y : Y) (after : List Y) : Type 0 where
  pub front : List X
  pub at : X
  pub back : List X
  pub split : xs ≡ front ++ at ∷ back
  pub is : h at ≡ Some y
  pub ahead : filter_map h front ≡ before
  pub rest : filter_map h back ≡ after

passed : {X Y : Type 0} (h : X → Option Y) (x : X) (xs : List X) (before : List Y) (y : Y) (after : List Y) → h x ≡ None → Parted h xs before y after → Parted h (x ∷ xs) before y after
passed h x xs before y after is p = record { front = x ∷ p.front; at = p.at; back = p.back; split = ap (λ zs. x ∷ zs) p.split; is = p.is; ahead = rw is p.ahead; rest = p.rest }

further : {X Y : Type 0} (h : X → Option Y) (x : X) (xs : List X) (z : Y) (before : List Y) (y : Y) (after : List Y) → h x ≡ Some z → Parted h xs before y after → Parted h (x ∷ xs) (z ∷ before) y after
further h x xs z before y after is p = record { front = x ∷ p.front; at = p.at; back = p.back; split = ap (λ zs. x ∷ zs) p.split; is = p.is; ahead = rw is (ap (λ ys. z ∷ ys) p.ahead); rest = p.rest }

no_split : {Y : Type 0} (before after : List Y) (y : Y) → [] ≡ before ++ y ∷ after → ⊥
no_split [] after y e = cc
no_split (z ∷ before) after y e = cc

parted_some : {X Y : Type 0} (h : X → Option Y) (x : X) (xs : List X) (z : Y) → h x ≡ Some z → (before : List Y) (y : Y) (after : List Y) → z ∷ filter_map h xs ≡ before ++ y ∷ after → ((front : List Y) → filter_map h xs ≡ front ++ y ∷ after → Parted h xs front y after) → Parted h (x ∷ xs) before y after
parted_some h x xs z is [] y after e on =
    let same : z ≡ y = cc in
    let rest : filter_map h xs ≡ after = cc in
    record { front = []; at = x; back = xs; split = refl; is = is ∙ ap Some same; ahead = refl; rest = rest }
parted_some h x xs z is (w ∷ before) y after e on =
    let same : z ≡ w = cc in
    let rest : filter_map h xs ≡ before ++ y ∷ after = cc in
    subst (λ v. Parted h (x ∷ xs) (v ∷ before) y after) same (further h x xs z before y after is (on before rest))

pub parted : {X Y : Type 0} (h : X → Option Y) (xs : List X) (before : List Y) (y : Y) (after : List Y) → filter_map h xs ≡ before ++ y ∷ after → Parted h xs before y after
parted h [] before y after e = absurd (no_split before after y e)
parted {X} {Y} h (x ∷ xs) before y after e =
    elim (h x) as (λ o. h x ≡ o → cons_option o (filter_map h xs) ≡ before ++ y ∷ after → Parted h (x ∷ xs) before y after) [
      | None ↦ λ is same. passed h x xs before y after is (parted h xs before y after same)
      | Some z ↦ λ is same. parted_some h x xs z is before y after same (λ front on. parted h xs front y after on)
    ] refl e

pub found_mapped : {X Y : Type 0} (f : X → Y) (xs : List X) (i : ℕ) (y : Y) → slice_get (map f xs) i ≡ Some y → (x : X) × (slice_get xs i ≡ Some x) × (f x ≡ y)
found_mapped f [] i y e = cc
found_mapped f (x ∷ xs) zero y e = (x, refl, let same : f x ≡ y = cc in same)
found_mapped f (x ∷ xs) (suc i) y e = found_mapped f xs i y e
