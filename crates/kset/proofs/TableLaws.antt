-- Notes and strikes of all sets as one list.
use Rattle.std.proofs.Common.{◌≡◌, ℕ, zero, suc, ◌+◌, ◌*◌, ◌≤◌, Bool, true, false, ◌&&◌, not, cond, List, [], ◌∷◌, length, get_or, set, replicate, refl, sym, ap, ◌∙◌, arith}
use Rattle.std.specs.Prelude.{nat_lt}
use Rattle.std.specs.Ordering.{nat_cmp}
use Rattle.std.specs.FinSet.{FinSet, empty, contains, insert, len}
use lib.Seq.{set-get_or}
use Rattle.bloom.specs.Filter.{admits}
use Rattle.set_hash.specs.Place.{probes_of}
use Rattle.entry_pool.specs.Struck.{Struck, struck_at, with_struck, strike_count, has_place as has_room, can_strike}
use Rattle.kset.specs.Notes.{Notes, no_notes, lets_show, struck}
use Rattle.kset.specs.Sets.{SetsState, set_count, notes_of, with_notes, strikes_in, has_place, forgotten}
use Rattle.kset.specs.Table.{struck_notes, table_of, IsTable}

length-struck : (ns : List Notes) (ss : List (FinSet nat_cmp)) → length (struck_notes ns ss) ≡ length ns
length-struck [] ss = refl
length-struck (n ∷ ns) [] = ap suc (length-struck ns [])
length-struck (n ∷ ns) (s ∷ ss) = ap suc (length-struck ns ss)

get-struck : (ns : List Notes) (ss : List (FinSet nat_cmp)) (i : ℕ) → length ss ≡ length ns →
    get_or (struck_notes ns ss) i no_notes ≡ record (get_or ns i no_notes) { strikes = get_or ss i empty }
get-struck [] [] i same = refl
get-struck [] (s ∷ ss) i same = absurd (omega (arith, same))
get-struck (n ∷ ns) [] i same = absurd (omega (arith, same))
get-struck (n ∷ ns) (s ∷ ss) zero same = refl
get-struck (n ∷ ns) (s ∷ ss) (suc i) same = get-struck ns ss i (omega (arith, same))

set-struck : (ns : List Notes) (ss : List (FinSet nat_cmp)) (i : ℕ) (n : Notes) (s : FinSet nat_cmp) → length ss ≡ length ns →
    struck_notes (set ns i n) (set ss i s) ≡ set (struck_notes ns ss) i (record n { strikes = s })
set-struck [] [] i n s same = refl
set-struck [] (x ∷ ss) i n s same = absurd (omega (arith, same))
set-struck (m ∷ ns) [] i n s same = absurd (omega (arith, same))
set-struck (m ∷ ns) (x ∷ ss) zero n s same = refl
set-struck (m ∷ ns) (x ∷ ss) (suc i) n s same = ap (λ (rest : List Notes). record m { strikes = x } ∷ rest) (set-struck ns ss i n s (omega (arith, same)))

pub none-struck : (count : ℕ) → struck_notes (replicate count no_notes) (replicate count empty) ≡ replicate count no_notes
none-struck zero = refl
none-struck (suc count) = ap (λ (rest : List Notes). no_notes ∷ rest) (none-struck count)

count-struck : (ns : List Notes) (ss : List (FinSet nat_cmp)) → length ss ≡ length ns → strikes_in (struck_notes ns ss) ≡ strike_count ss
count-struck [] [] same = refl
count-struck [] (s ∷ ss) same = absurd (omega (arith, same))
count-struck (n ∷ ns) [] same = absurd (omega (arith, same))
count-struck (n ∷ ns) (s ∷ ss) same = ap (λ (rest : ℕ). len s + rest) (count-struck ns ss (omega (arith, same)))

-- the sets that a table notes
module _ (writes : ℕ) (notes : List Notes) (pool : Struck) (is : IsTable notes pool) (k : SetsState) (view : table_of writes notes pool ≡ k) where
  pub table-count : set_count k ≡ length notes
  unfolding table_of
  table-count = sym (ap set_count view) ∙ length-struck notes pool.sets

  -- what is noted of one of them
  pub table-notes : (row : ℕ) → notes_of k row ≡ record (get_or notes row no_notes) { strikes = struck_at pool row }
  unfolding table_of
  table-notes row = sym (ap (λ (x : SetsState). notes_of x row) view) ∙ get-struck notes pool.sets row is.same

  table-places : k.places ≡ pool.places
  unfolding table_of
  table-places = sym (ap (λ (x : SetsState). x.places) view)

  pub table-room : has_room pool ≡ has_place k
  unfolding table_of
  table-room = ap (λ (n : ℕ). nat_lt n pool.places) (sym (count-struck notes pool.sets is.same)) ∙ ap has_place view

  -- something else is noted of one of them, and struck in it
  pub table-with : (row : ℕ) (n : Notes) (s : FinSet nat_cmp) (pool' : Struck) → pool' ≡ with_struck pool row s → table_of writes (set notes row n) pool' ≡ with_notes k row (record n { strikes = s })
  unfolding table_of
  table-with row n s pool' is' =
      ap (table_of writes (set notes row n)) is'
      ∙ (λ i. record { writes = writes; places = pool.places; notes = set-struck notes pool.sets row n s is.same i })
      ∙ ap (λ (x : SetsState). with_notes x row (record n { strikes = s })) view

  -- the strikes alone
  pub table-struck : (row : ℕ) (s : FinSet nat_cmp) (pool' : Struck) → pool' ≡ with_struck pool row s → table_of writes notes pool' ≡ with_notes k row (record (get_or notes row no_notes) { strikes = s })
  table-struck row s pool' is' =
      ap (λ (ns : List Notes). table_of writes ns pool') (sym (set-get_or notes row no_notes)) ∙ table-with row (get_or notes row no_notes) s pool' is'

  -- or all but the strikes
  pub table-noted : (row : ℕ) (n : Notes) → table_of writes (set notes row n) pool ≡ with_notes k row (record n { strikes = struck_at pool row })
  table-noted row n =
      table-with row n (struck_at pool row) pool (λ i. record { places = pool.places; sets = sym (set-get_or pool.sets row empty) i })

  table-strikes : (row : ℕ) → (notes_of k row).strikes ≡ struck_at pool row
  table-strikes row = ap (λ (n : Notes). n.strikes) (table-notes row)

  pub table-filter : (row : ℕ) → (notes_of k row).filter ≡ (get_or notes row no_notes).filter
  table-filter row = ap (λ (n : Notes). n.filter) (table-notes row)

  -- what a filter denies or admits
  denies : (row hash : ℕ) (b : Bool) → b ≡ admits (get_or notes row no_notes).filter (probes_of hash) → admits (notes_of k row).filter (probes_of hash) ≡ b
  denies row hash b is' = ap (λ (f : FinSet nat_cmp). admits f (probes_of hash)) (table-filter row) ∙ sym is'

  pub shows-denied : (row hash : ℕ) → false ≡ admits (get_or notes row no_notes).filter (probes_of hash) → false ≡ lets_show (notes_of k row) hash
  shows-denied row hash denied = sym (ap (λ b. b && not (contains (notes_of k row).strikes hash)) (denies row hash false denied))

  pub shows-unstruck : (row hash : ℕ) (b : Bool) → true ≡ admits (get_or notes row no_notes).filter (probes_of hash) → b ≡ contains (struck_at pool row) hash → not b ≡ lets_show (notes_of k row) hash
  shows-unstruck row hash b admitted is' =
      ap not is' ∙ ap (λ (s : FinSet nat_cmp). not (contains s hash)) (sym (table-strikes row))
      ∙ sym (ap (λ a. a && not (contains (notes_of k row).strikes hash)) (denies row hash true admitted))

  -- a strike that the filter denies
  pub strike-denied : (row hash : ℕ) (free : Bool) → false ≡ admits (get_or notes row no_notes).filter (probes_of hash) → k ≡ with_notes k row (struck free (notes_of k row) hash)
  strike-denied row hash free denied =
      let n = notes_of k row in
      let same : with_notes k row n ≡ k = λ i. record { writes = k.writes; places = k.places; notes = set-get_or k.notes row no_notes i } in
      let stays : struck free n hash ≡ n =
      ap (λ b. cond (not b) n (cond (can_strike free n.strikes hash) (record n { strikes = insert n.strikes hash }) no_notes)) (denies row hash false denied) in
      sym (ap (with_notes k row) stays ∙ same)

  -- one that it admits, by whether there is room
  struck-by : (row hash : ℕ) (free room : Bool) → true ≡ admits (get_or notes row no_notes).filter (probes_of hash) → room ≡ can_strike free (struck_at pool row) hash →
      struck free (notes_of k row) hash ≡ cond room (record (notes_of k row) { strikes = insert (notes_of k row).strikes hash }) no_notes
  struck-by row hash free room admitted is' =
      let n = notes_of k row in
      ap (λ b. cond (not b) n (cond (can_strike free n.strikes hash) (record n { strikes = insert n.strikes hash }) no_notes)) (denies row hash true admitted)
      ∙ ap (λ b. cond b (record n { strikes = insert n.strikes hash }) no_notes) (ap (λ (s : FinSet nat_cmp). can_strike free s hash) (table-strikes row) ∙ sym is')

  pub strike-full : (row hash : ℕ) (free : Bool) → true ≡ admits (get_or notes row no_notes).filter (probes_of hash) → false ≡ can_strike free (struck_at pool row) hash →
      forgotten k row ≡ with_notes k row (struck free (notes_of k row) hash)
  strike-full row hash free admitted full = ap (with_notes k row) (sym (struck-by row hash free false admitted full))

  pub strike-added : (row hash : ℕ) (free : Bool) → true ≡ admits (get_or notes row no_notes).filter (probes_of hash) → true ≡ can_strike free (struck_at pool row) hash →
      (pool' : Struck) → pool' ≡ with_struck pool row (insert (struck_at pool row) hash) → table_of writes notes pool' ≡ with_notes k row (struck free (notes_of k row) hash)
  strike-added row hash free admitted room pool' is' =
      let n = notes_of k row in
      let g = get_or notes row no_notes in
      let added : record g { strikes = insert (struck_at pool row) hash } ≡ record n { strikes = insert n.strikes hash } =
      sym (ap (λ (m : Notes). record m { strikes = insert m.strikes hash }) (table-notes row)) in
      table-struck row (insert (struck_at pool row) hash) pool' is' ∙ ap (with_notes k row) (added ∙ sym (struck-by row hash free true admitted room))

  -- with room for eight strikes a set, the pool has it too
  pub table-ample : 8 * set_count k ≤ k.places → 8 * length pool.sets ≤ pool.places
  table-ample ample = let count = table-count in let same = is.same in let places = table-places in omega (arith, ample, count, same, places)
