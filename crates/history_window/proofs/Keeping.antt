-- Calls that are kept of a history, and what comes after it, within the whole history.
use Rattle.std.proofs.Common.{◌≡◌, ◌≢◌, ℕ, ◌+◌, ◌-◌, ◌<◌, ◌≤◌, zero, suc, Bool, true, eqb, Some, List, [], ◌∷◌, ◌++◌, length, sym, ap, ◌∙◌, subst, arith, inl, inr}
use Rattle.std.specs.Prelude.{All, slice_get}
use Rattle.std.specs.List.{list_any}
use Rattle.std.proofs.lemmas.List.{length-append}
use Rattle.std.proofs.lemmas.List.Elements.{filter_map-append}
use Rattle.std.proofs.lemmas.Option.{slice_get_within}
use Rattle.trace_file.specs.declared.call.Call.{Call}
use Rattle.certificate_checker.specs.Deeds.{deed_of}
use Rattle.certificate_checker.specs.Latest.{Writes}
use Rattle.certificate_checker.specs.Orders.{in_order}
use Rattle.certificate_checker.proofs.public_laws.Listing.{Member, all_member, contained_member, member_at, member_contained, member_either, member_right, pairs_append, pairs_from, pairs_weaker}
use Rattle.certificate_checker.proofs.public_laws.Lookups.{any_from_contains, contains_from_any}
use Rattle.certificate_finder.specs.Lists.{AreAllBelow}
use Rattle.certificate_finder.specs.Turns.{WritesAt}
use Rattle.history_window.specs.Standing.{MayFollow}
use Rattle.history_window.proofs.Ahead.{Once}
use Rattle.history_window.proofs.Picking.{in_run, look_left, run, run_from, run_once, run_picks, same_picks}

-- whether a number is one of these
abbrev pub is_in : List ℕ → ℕ → Bool
is_in xs p = list_any (eqb p) xs

pub in_list : (xs : List ℕ) (p : ℕ) → is_in xs p ≡ true → Member p xs
in_list xs p h = member_contained xs p (contains_from_any xs p h)

pub list_in : (xs : List ℕ) (p : ℕ) → Member p xs → is_in xs p ≡ true
list_in xs p m = any_from_contains xs p (contained_member xs p m)

pub look_right : {X : Type 0} (xs ys : List X) (i j : ℕ) → i ≡ length xs + j → slice_get (xs ++ ys) i ≡ slice_get ys j
look_right [] ys i j e = let same : i ≡ j = omega arith in ap (slice_get ys) same
look_right (x ∷ xs) ys zero j e = absurd (omega arith)
look_right (x ∷ xs) ys (suc i) j e = look_right xs ys i j (omega arith)

-- the positions of what is kept and of what comes later
abbrev pub places : List Call → List Call → List ℕ → List ℕ
places history later kept = kept ++ run (length history) (length later)

module _ (history later : List Call) where
  pub at_whole : (p : ℕ) (call : Call) → slice_get history p ≡ Some call → slice_get (history ++ later) p ≡ Some call
  at_whole p call at = look_left history later p (slice_get_within history p call at) ∙ at

  pub at_history : (p : ℕ) (call : Call) → p < length history → slice_get (history ++ later) p ≡ Some call → slice_get history p ≡ Some call
  at_history p call less at = sym (look_left history later p less) ∙ at

  pub in_later : (p : ℕ) (call : Call) → length history ≤ p → slice_get (history ++ later) p ≡ Some call → Member call later
  in_later p call past at = member_at later (p - length history) call (sym (look_right history later p (p - length history) (omega (arith, past))) ∙ at)

  -- a later call of a key of which some write ended before the stamp starts at the stamp or later
  pub starts_late : (bound p write : ℕ) (call : Call) (key : List ℕ) → All (MayFollow bound history) later → length history ≤ p → slice_get (history ++ later) p ≡ Some call → call.key ≡ key → (wrote : WritesAt history write key) → wrote.call.end < bound → bound ≤ call.start
  starts_late bound p write call key late past at one_key wrote over = elim (all_member (MayFollow bound history) later call late (in_later p call past at)) [
    | inl from ↦ from
    | inr none ↦
        let till : bound ≤ wrote.call.end = all_member (λ (c : Call). Writes (deed_of c) call.key → bound ≤ c.end) history wrote.call none (member_at history write wrote.call wrote.at) (subst (Writes (deed_of wrote.call)) (sym one_key) wrote.writes) in
        absurd (omega (arith, over, till))
  ]

  module _ (P : ℕ → Type 0) (kept : List ℕ) (all : AreAllBelow P (length history) kept) where
    pub kept_below : (p : ℕ) → Member p kept → p < length history
    kept_below p m = all_member (λ q. q < length history) kept p all.below m

    pub kept_holds : (p : ℕ) → Member p kept → P p
    kept_holds p m = all_member P kept p all.each m

    pub holds_kept : (p : ℕ) → p < length history → P p → Member p kept
    holds_kept p less holds = member_contained kept p (all.all p less holds)

    pub kept_once : Once kept
    kept_once = pairs_weaker (λ (p q : ℕ). p < q) (λ (p q : ℕ). p ≢ q) kept (λ p q l m less same. omega (arith, less, same)) (pairs_from (λ (p q : ℕ). p < q) kept all.rise)

    pub places_within : (p : ℕ) → Member p (places history later kept) → p < length (history ++ later)
    places_within p m =
        let long = length-append history later in
        elim (member_either kept (run (length history) (length later)) p m) [
          | inl old ↦ let less = kept_below p old in omega (arith, less, long)
          | inr new ↦ let both = run_from (length history) (length later) p new in let less = both.1 in omega (arith, less, long)
        ]

    pub places_once : Once (places history later kept)
    places_once = pairs_append (λ (p q : ℕ). p ≢ q) kept (run (length history) (length later)) kept_once (run_once (length history) (length later)) (λ p q old new same.
        let less = kept_below p old in
        let both = run_from (length history) (length later) q new in
        let from = both.0 in
        omega (arith, less, from, same))

    -- a position of the whole history that is past its first part is kept
    pub late_placed : (p : ℕ) (call : Call) → length history ≤ p → slice_get (history ++ later) p ≡ Some call → Member p (places history later kept)
    late_placed p call past at =
        let less = slice_get_within (history ++ later) p call at in
        let long = length-append history later in
        member_right kept (run (length history) (length later)) p (in_run (length history) (length later) p past (omega (arith, less, long)))

    pub kept_calls : in_order (history ++ later) (places history later kept) ≡ in_order history kept ++ later
    kept_calls =
        filter_map-append (slice_get (history ++ later)) kept (run (length history) (length later))
        ∙ ap (λ calls. calls ++ in_order (history ++ later) (run (length history) (length later))) (same_picks history later kept kept_below)
        ∙ ap (λ calls. in_order history kept ++ calls) (run_picks history later)
