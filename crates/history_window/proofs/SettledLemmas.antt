-- What is acceptable without settled hits is so with them, and the other way round.
use Rattle.std.proofs.Common.{◌≡◌, ℕ, ◌&&◌, Bool, true, false, Some, None, List, [], ◌∷◌, ◌++◌, length, refl, sym, ap, ◌∙◌, inl, inr, ◌⊎◌}
use Rattle.std.specs.Prelude.{slice_get}
use Rattle.std.specs.List.{list_any}
use Rattle.std.specs.Cmp.Lexicographic.{bytes_decides}
use Rattle.std.specs.Option.{option_map_or}
use Rattle.std.specs.Str.{bytes_eq}
use Rattle.std.proofs.lemmas.Bool.{and_from, and_parts, cases_Bool, cases_eq, cases_lt, or_cases, or_left, or_right}
use Rattle.std.proofs.lemmas.Option.{same_Some}
use Rattle.trace_file.specs.declared.act.Act.{Act}
use Rattle.trace_file.specs.declared.act.Act.TheVariants.{Put, Remove, Hit, Miss}
use Rattle.trace_file.specs.declared.call.Call.{Call}
use Rattle.certificate_checker.specs.Latest.{IsWrite}
use Rattle.certificate_checker.specs.Orders.{in_order}
use Rattle.certificate_checker.proofs.public_laws.Listing.{Member, member_left}
use Rattle.certificate_finder.specs.Turns.{WritesAt}
use Rattle.history_window.specs.Settled.{AreUnsettled, IsSettledHit}
use Rattle.history_window.specs.Standing.{Acceptable}
use Rattle.history_window.specs.Acts.{is_writing}
use Rattle.history_window.proofs.Ahead.{Ahead}
use Rattle.history_window.proofs.CallLemmas.{no_write, put_writes}
use Rattle.history_window.proofs.Joining.{apart}
use Rattle.history_window.proofs.Keeping.{at_history, holds_kept, late_placed}
use Rattle.history_window.proofs.Picking.{run}
use Rattle.history_window.proofs.Showing.{shown_acceptable}
use Rattle.history_window.proofs.ActLemmas.{is_writing_of, writing_is}

-- a call that writes is no settled hit
pub write_unsettled : (bound : ℕ) (history : List Call) (p : ℕ) (call : Call) → slice_get history p ≡ Some call → IsWrite call.act → ¬ IsSettledHit bound history p
write_unsettled bound history p call at writes settled =
    let mine = same_Some settled.is.call call (sym settled.is.at ∙ at) in
    no_write call.act settled.value settled.moment (ap (λ (c : Call). c.act) (sym mine) ∙ settled.is.is) writes

-- ---- without them

pub unsettled_acceptable : (bound : ℕ) (history later : List Call) (kept : List ℕ) → AreUnsettled bound history kept → Acceptable (history ++ later) → Acceptable (in_order history kept ++ later)
unsettled_acceptable bound history later kept unsettled whole =
    let P : ℕ → Type 0 = λ p. ¬ IsSettledHit bound history p in
    shown_acceptable history later P kept unsettled (λ line once each agrees intervals hit call value moment placed found is r. elim (cases_lt r.put (length history)) [
      | inl below ↦
          let here = at_history history later r.put r.call below r.at in
          member_left kept (run (length history) (length later)) r.put (holds_kept history later P kept unsettled r.put below (write_unsettled bound history r.put r.call here (put_writes r.call.act value r.expires r.is)))
      | inr past ↦ late_placed history later P kept unsettled r.put r.call past r.at
    ]) whole

-- ---- tests of lists

pub any_of : (test : ℕ → Bool) (xs : List ℕ) → list_any test xs ≡ true → (x : ℕ) × Member x xs × (test x ≡ true)
any_of test [] h = cc
any_of test (x ∷ xs) h = elim (or_cases (test x) (list_any test xs) h) [
  | inl here ↦ (x, inl refl, here)
  | inr later ↦ let found = any_of test xs later in (found.0, inr found.1, found.2)
]

pub of_any : (test : ℕ → Bool) (xs : List ℕ) (x : ℕ) → Member x xs → test x ≡ true → list_any test xs ≡ true
of_any test [] x m passes = absurd m
of_any test (y ∷ xs) x m passes = elim m [
  | inl same ↦ or_left (test y) (list_any test xs) (ap test (sym same) ∙ passes)
  | inr later ↦ or_right (test y) (list_any test xs) (of_any test xs x later passes)
]

-- the last element that passes a test
pub record IsLastOf (test : ℕ → Bool) (xs : List ℕ) (last : ℕ) : Type 0 where
  pub listed : Member last xs
  pub passes : test last ≡ true
  pub behind : (x : ℕ) → Member x xs → test x ≡ true → (x ≡ last) ⊎ Ahead xs x last

pub last_of : (test : ℕ → Bool) (xs : List ℕ) (x : ℕ) → Member x xs → test x ≡ true → (last : ℕ) × IsLastOf test xs last
last_of test [] x m passes = absurd m
last_of test (y ∷ xs) x m passes = elim (cases_Bool (list_any test xs)) [
  | inl some ↦
      let any = any_of test xs some in
      let found = last_of test xs any.0 any.1 any.2 in (
        found.0,
        record {
          listed = inr found.1.listed;
          passes = found.1.passes;
          behind = λ z n yes'. elim n [
            | inl same ↦ inr (inl (same, found.1.listed))
            | inr later ↦ elim (found.1.behind z later yes') [ inl e ↦ inl e | inr a ↦ inr (inr a) ]
          ];
        },
      )
  | inr none ↦
      let none_of : (z : ℕ) → Member z xs → test z ≡ true → ⊥ = λ z n yes'. (let both : true ≡ false = sym (of_any test xs z n yes') ∙ none in cc) in
      let here : test y ≡ true = elim m [ inl same ↦ ap test (sym same) ∙ passes | inr later ↦ absurd (none_of x later passes) ] in (
        y,
        record {
          listed = inl refl;
          passes = here;
          behind = λ z n yes'. elim n [ inl same ↦ inl same | inr later ↦ absurd (none_of z later yes') ];
        },
      )
]

-- an act is known once it cannot be another one
pub act_is : (act : Act) (value : List ℕ) (expires : ℕ) → ¬ ¬ (act ≡ Put value expires) → act ≡ Put value expires
act_is (Put v e) value expires sure = elim (cases_Bool (bytes_eq v value)) [
  | inl same ↦ elim (cases_eq e expires) [
    | inl equal ↦ ap (λ w. Put w e) ((bytes_decides v value).0 same) ∙ ap (λ x. Put value x) equal
    | inr apart ↦ absurd (sure (λ it. apart (let one : e ≡ expires = cc in one)))
  ]
  | inr other ↦ absurd (sure (λ it.
      let one : v ≡ value = cc in
      let yes' = (bytes_decides v value).1 one in
      let both : true ≡ false = sym yes' ∙ other in
      cc))
]
act_is Remove value expires sure = absurd (sure (λ it. cc))
act_is (Hit v m) value expires sure = absurd (sure (λ it. cc))
act_is Miss value expires sure = absurd (sure (λ it. cc))

-- whether the call at a position writes a key
abbrev pub is_write_of : List Call → List ℕ → ℕ → Bool
is_write_of history key p = option_map_or (λ (call : Call). is_writing call.act && bytes_eq call.key key) (slice_get history p) false

pub write_of : (history : List Call) (key : List ℕ) (p : ℕ) → is_write_of history key p ≡ true → WritesAt history p key
write_of history key p h =
    elim (slice_get history p) as (λ o. slice_get history p ≡ o → option_map_or (λ (call : Call). is_writing call.act && bytes_eq call.key key) o false ≡ true → WritesAt history p key) [
      | None ↦ λ is no'. cc
      | Some call ↦
          λ is test.
          let both = and_parts (is_writing call.act) (bytes_eq call.key key) test in
          record { call = call; at = is; writes = ((bytes_decides call.key key).0 both.1, writing_is call.act both.0) }
    ] refl h

pub of_write : (history : List Call) (key : List ℕ) (p : ℕ) → WritesAt history p key → is_write_of history key p ≡ true
of_write history key p writes =
    ap (λ o. option_map_or (λ (call : Call). is_writing call.act && bytes_eq call.key key) o false) writes.at
    ∙ and_from (is_writing writes.call.act) (bytes_eq writes.call.key key) (is_writing_of writes.call.act writes.writes.1) ((bytes_decides writes.call.key key).1 writes.writes.0)
