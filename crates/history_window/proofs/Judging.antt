-- What is judged with the last piece of a stream stands for all calls that were read.
use Rattle.std.proofs.Common.{◌≡◌, ℕ, ◌+◌, ◌<◌, ◌≤◌, Bool, true, false, Some, List, [], ◌∷◌, ◌++◌, length, refl, sym, ap, ◌∙◌, subst, arith, inl, inr, append-nil, append_assoc}
use Rattle.std.specs.Prelude.{◌↔◌, slice_get}
use Rattle.std.specs.List.{filter_map}
use Rattle.std.proofs.lemmas.Bool.{cases_lt}
use Rattle.std.proofs.lemmas.List.{length-append}
use Rattle.std.proofs.lemmas.Option.{slice_get_within}
use Rattle.trace_file.specs.declared.act.Act.TheVariants.{Hit}
use Rattle.trace_file.specs.declared.call.Call.{Call}
use Rattle.certificate_checker.specs.Latest.{IsWrite}
use Rattle.certificate_checker.specs.Orders.{Precedes}
use Rattle.certificate_checker.proofs.public_laws.Accepting.{found_at}
use Rattle.certificate_checker.proofs.public_laws.Listing.{Member, all_member, member_either, member_map, picked_member}
use Rattle.certificate_finder.specs.Warming.{warm_put}
use Rattle.history_window.specs.Laws.{ForgettingGoesOn, WarmingFollows}
use Rattle.history_window.specs.Standing.{Acceptable}
use Rattle.history_window.specs.Streams.{ArePieces, ArePuts, IsLastOf, MayCome, Piece, PiecesExclude, PiecesStand, added_in, bound_after, calls_in, decided_in, judged_in}
use Rattle.history_window.proofs.CallLemmas.{no_write, put_writes}
use Rattle.history_window.proofs.Chosen.{all_acceptable, chosen_acceptable}
use Rattle.history_window.proofs.Keeping.{in_later}
use Rattle.history_window.proofs.Lining.{AgreesLine}
use Rattle.history_window.proofs.Picking.{look_left}
use Rattle.history_window.proofs.Pieces.{bound_grows, judged_stands, ready}
use Rattle.history_window.proofs.Placing.{ArePlaced, none_placed, placed}
use Rattle.history_window.proofs.Showing.{KeepsReads}

-- ---- the places of all pieces

module _ (all puts : List Call) (length_of : ℕ) (warm : Bool) where
  pub pieces_placed : (pieces : List Piece) → ArePieces length_of warm pieces → (rest : List Call) → all ≡ calls_in pieces ++ rest → (later : List Call) → puts ≡ added_in pieces ++ later → ArePlaced all puts true (bound_after length_of (calls_in pieces)) pieces
  pieces_placed [] are rest all_are later puts_are = none_placed all puts (bound_after length_of [])
  pieces_placed (piece ∷ earlier) are rest all_are later puts_are =
      placed all puts length_of warm true piece earlier are.1 (bound_after length_of (calls_in earlier))
      (pieces_placed earlier are.0 (piece.calls ++ rest) (all_are ∙ append_assoc (calls_in earlier) piece.calls rest) (piece.puts ++ later) (puts_are ∙ append_assoc (added_in earlier) piece.puts later))
      (bound_grows length_of (calls_in earlier) piece.calls) rest all_are later puts_are

  pub last_placed : (unended : Bool) (last : Piece) (earlier : List Piece) → IsLastOf length_of warm unended last earlier → (rest : List Call) → all ≡ calls_in (last ∷ earlier) ++ rest → (later : List Call) → puts ≡ added_in (last ∷ earlier) ++ later → ArePlaced all puts unended (bound_after length_of (calls_in (last ∷ earlier))) (last ∷ earlier)
  last_placed unended last earlier are rest all_are later puts_are =
      placed all puts length_of warm unended last earlier are.1 (bound_after length_of (calls_in earlier))
      (pieces_placed earlier are.0 (last.calls ++ rest) (all_are ∙ append_assoc (calls_in earlier) last.calls rest) (last.puts ++ later) (puts_are ∙ append_assoc (added_in earlier) last.puts later))
      (bound_grows length_of (calls_in earlier) last.calls) rest all_are later puts_are

-- ---- the puts that are added

-- each of these is made of a call
abbrev pub IsAdded : Call → Type 0
IsAdded call = (source : Call) × (call ≡ warm_put source)

puts_added : (warm : Bool) (calls : List Call) (lines : List ℕ) (puts : List Call) (put_lines : List ℕ) → ArePuts warm calls lines puts put_lines → (call : Call) → Member call puts → IsAdded call
puts_added true calls lines puts put_lines are call m =
    let source = member_map warm_put (filter_map (slice_get calls) are.0.hits.items) call (subst (Member call) are.2 m) in
    (source.0, source.2)
puts_added false calls lines puts put_lines are call m = absurd (subst (Member call) are.0 m)

pub added_puts : (length_of : ℕ) (warm : Bool) (pieces : List Piece) → ArePieces length_of warm pieces → (call : Call) → Member call (added_in pieces) → IsAdded call
added_puts length_of warm [] are call m = absurd m
added_puts length_of warm (piece ∷ earlier) are call m = elim (member_either (added_in earlier) piece.puts call m) [
  | inl before ↦ added_puts length_of warm earlier are.0 call before
  | inr here ↦ puts_added warm (piece.kept ++ piece.decided) (piece.kept_lines ++ piece.decided_lines) piece.puts piece.put_lines are.1.puts call here
]

pub last_added : (length_of : ℕ) (warm unended : Bool) (last : Piece) (earlier : List Piece) → IsLastOf length_of warm unended last earlier → (call : Call) → Member call (added_in (last ∷ earlier)) → IsAdded call
last_added length_of warm unended last earlier are call m = elim (member_either (added_in earlier) last.puts call m) [
  | inl before ↦ added_puts length_of warm earlier are.0 call before
  | inr here ↦ puts_added warm (last.kept ++ last.decided) (last.kept_lines ++ last.decided_lines) last.puts last.put_lines are.1.puts call here
]

-- ---- what decided hits read is decided

module _ (all puts : List Call) (unended : Bool) (bound : ℕ) (pieces : List Piece) (at : ArePlaced all puts unended bound pieces) (rest : List Call) (all_are : all ≡ calls_in pieces ++ rest) where
  abbrev whole : List Call
  whole = all ++ puts

  long_all : length all ≡ length (calls_in pieces) + length rest
  long_all = ap length all_are ∙ length-append (calls_in pieces) rest

  in_rest : (q : ℕ) (call : Call) → length (calls_in pieces) ≤ q → q < length all → slice_get whole q ≡ Some call → Member call rest
  in_rest q call from less there = in_later (calls_in pieces) rest q call from (ap (λ (cs : List Call). slice_get cs q) (sym all_are) ∙ sym (look_left all puts q less) ∙ there)

  -- what is not read yet starts after what is decided
  unread : (b : Bool) → b ≡ unended → MayCome b bound rest → (p q : ℕ) (call write : Call) (value : List ℕ) (moment : ℕ) → Member p at.done → p < length all → slice_get whole p ≡ Some call → call.act ≡ Hit value moment → length (calls_in pieces) ≤ q → q < length all → slice_get whole q ≡ Some write → Precedes call write
  unread true is may p q call write value moment m less here hits from less_q there =
      let soon = at.over (sym is) p call value moment m less here hits in
      let start : bound ≤ write.start = all_member (λ (c : Call). bound ≤ c.start) rest write may (in_rest q write from less_q there) in
      omega (arith, soon, start)
  unread false is may p q call write value moment m less here hits from less_q there =
      let long = long_all in
      let none = ap length may in
      absurd (omega (arith, long, none, from, less_q))

  pub decided_read : MayCome unended bound rest → (p q : ℕ) (call write : Call) (value : List ℕ) (moment : ℕ) → Member p at.done → p < length all → slice_get whole p ≡ Some call → call.act ≡ Hit value moment → q < length all → slice_get whole q ≡ Some write → IsWrite write.act → ¬ Precedes call write → Member q at.done
  decided_read may p q call write value moment m less here hits less_q there writes not = elim (cases_lt q (length (calls_in pieces))) [
    | inl read ↦ elim (at.each q read) [ inl done ↦ done | inr waits ↦ absurd (at.waits q write waits there writes) ]
    | inr from ↦ absurd (not (unread unended refl may p q call write value moment m less here hits from less_q there))
  ]

-- ---- the laws

module _ (goes_on : ForgettingGoesOn) (warming : WarmingFollows) (length_of : ℕ) (warm unended : Bool) (last : Piece) (earlier : List Piece) (are : IsLastOf length_of warm unended last earlier) where
  pub last_stands : Acceptable (judged_in last) ↔ Acceptable (decided_in (last ∷ earlier))
  last_stands = judged_stands length_of warm unended last earlier are.1 goes_on warming (ready length_of warm goes_on warming earlier last.bound last.kept last.kept_lines are.0 are.1.bound_is are.1.kept)

  module _ (later : List Call) where
    abbrev all : List Call
    all = calls_in (last ∷ earlier) ++ later

    abbrev puts : List Call
    puts = added_in (last ∷ earlier)

    places : ArePlaced all puts unended (bound_after length_of (calls_in (last ∷ earlier))) (last ∷ earlier)
    places = last_placed all puts length_of warm unended last earlier are later refl [] (sym (append-nil puts))

    all_long : length all ≡ length (calls_in (last ∷ earlier)) + length later
    all_long = length-append (calls_in (last ∷ earlier)) later

    long_whole : length (all ++ puts) ≡ length all + length puts
    long_whole = length-append all puts

    within : (p : ℕ) → Member p places.done → p < length (all ++ puts)
    within p m =
        let a = all_long in
        let w = long_whole in
        elim (places.done_only p m) [
          | inl less ↦ omega (arith, less, a, w)
          | inr both ↦ let high = both.1 in omega (arith, high, w)
        ]

    is_put : (p : ℕ) (call : Call) → length all ≤ p → slice_get (all ++ puts) p ≡ Some call → IsAdded call
    is_put p call from at = last_added length_of warm unended last earlier are call (in_later all puts p call from at)

    no_added_hit : (p : ℕ) (call : Call) (value : List ℕ) (moment : ℕ) → length all ≤ p → slice_get (all ++ puts) p ≡ Some call → ¬ (call.act ≡ Hit value moment)
    no_added_hit p call value moment from at hits =
        let added = is_put p call from at in
        let writes : IsWrite call.act = subst (λ (c : Call). IsWrite c.act) (sym added.1) tt in
        no_write call.act value moment hits writes

    keeps : MayCome unended (bound_after length_of (calls_in (last ∷ earlier))) later → (line : List ℕ) → AgreesLine (all ++ puts) line → KeepsReads (all ++ puts) places.done line
    keeps may line agrees hit call value moment m at is r =
        let less_put = slice_get_within (all ++ puts) r.put r.call r.at in
        let w = long_whole in
        elim (cases_lt r.put (length all)) [
          | inl less ↦ elim (cases_lt hit (length all)) [
            | inl early ↦ decided_read all puts unended (bound_after length_of (calls_in (last ∷ earlier))) (last ∷ earlier) places later refl may hit r.put call r.call value moment m early at is less r.at (put_writes r.call.act value r.expires r.is) (λ before. agrees r.put hit r.call call r.ahead r.at at before)
            | inr put ↦ absurd (no_added_hit hit call value moment put at is)
          ]
          | inr from ↦ places.puts r.put from (omega (arith, less_put, w))
        ]

    pub whole_decided : MayCome unended (bound_after length_of (calls_in (last ∷ earlier))) later → Acceptable (all ++ puts) → Acceptable (decided_in (last ∷ earlier))
    whole_decided may past = subst Acceptable places.done_are (chosen_acceptable (all ++ puts) places.done within places.done_once (keeps may) past)

pub pieces_exclude : ForgettingGoesOn → WarmingFollows → PiecesExclude
pieces_exclude goes_on warming length_of warm unended last earlier later are none may whole =
    none ((last_stands goes_on warming length_of warm unended last earlier are).1 (whole_decided goes_on warming length_of warm unended last earlier are later may whole))

-- at the end of the input all is decided
module _ (goes_on : ForgettingGoesOn) (warming : WarmingFollows) (length_of : ℕ) (warm : Bool) (last : Piece) (earlier : List Piece) (are : IsLastOf length_of warm false last earlier) where
  abbrev calls : List Call
  calls = calls_in (last ∷ earlier)

  abbrev added : List Call
  added = added_in (last ∷ earlier)

  pub end_placed : ArePlaced calls added false (bound_after length_of calls) (last ∷ earlier)
  end_placed = last_placed calls added length_of warm false last earlier are [] (sym (append-nil calls)) [] (sym (append-nil added))

  long_end : length (calls ++ added) ≡ length calls + length added
  long_end = length-append calls added

  pub end_within : (p : ℕ) → Member p end_placed.done → p < length (calls ++ added)
  end_within p m =
      let w = long_end in
      elim (end_placed.done_only p m) [
        | inl less ↦ omega (arith, less, w)
        | inr both ↦ let high = both.1 in omega (arith, high, w)
      ]

  none_waits : (p : ℕ) → ¬ Member p end_placed.wait
  none_waits p m =
      let call = found_at (calls ++ added) p (end_waits_within p m) in
      let there = picked_member (slice_get (calls ++ added)) end_placed.wait p call.0 m call.1 in
      subst (Member call.0) (end_placed.wait_are ∙ are.1.parted.2) there
    where
      end_waits_within : (p : ℕ) → Member p end_placed.wait → p < length (calls ++ added)
      end_waits_within p m = let less = end_placed.wait_only p m in let w = long_end in omega (arith, less, w)

  pub end_each : (p : ℕ) → p < length (calls ++ added) → Member p end_placed.done
  end_each p less = elim (cases_lt p (length calls)) [
    | inl read ↦ elim (end_placed.each p read) [ inl done ↦ done | inr waits ↦ absurd (none_waits p waits) ]
    | inr from ↦ let w = long_end in end_placed.puts p from (omega (arith, less, w))
  ]

  pub decided_whole : Acceptable (decided_in (last ∷ earlier)) → Acceptable (calls ++ added)
  decided_whole past = all_acceptable (calls ++ added) end_placed.done end_within end_placed.done_once end_each (subst Acceptable (sym end_placed.done_are) past)

  pub end_stands : Acceptable (judged_in last) ↔ Acceptable (calls ++ added)
  end_stands =
      let both = last_stands goes_on warming length_of warm false last earlier are in (
        λ past. decided_whole (both.0 past),
        λ past. both.1 (whole_decided goes_on warming length_of warm false last earlier are [] refl (subst (λ (cs : List Call). Acceptable (cs ++ added)) (sym (append-nil calls)) past)),
      )

pub pieces_stand : ForgettingGoesOn → WarmingFollows → PiecesStand
pieces_stand goes_on warming length_of warm last earlier are = end_stands goes_on warming length_of warm last earlier are
