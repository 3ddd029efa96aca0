-- A pool after a hash more is struck in a set, and after the last one is taken back.
use Rattle.std.proofs.Common.{◌≡◌, ◌≢◌, ℕ, ◌+◌, ◌-◌, ◌<◌, List, [], ◌∷◌, length, get_or, set, inl, ⊎_elim, refl, sym, ap, subst, ◌∙◌, arith}
use Rattle.std.proofs.lemmas.Bool.{cases_eq}
use Rattle.std.proofs.lemmas.List.{get_or-set_same, get_or-set_other, length-set}
use Rattle.entry_pool.specs.Chains.{IsIn, IsDistinct}
use Rattle.entry_pool.specs.StrikeChains.{Pool, walk, noted, chain_of, frees_of, marks_of, AreApart, IsSound, Pushes, Pops}
use Rattle.entry_pool.proofs.ChainMoves.{walk-more, walk-first, walk-frame, noted-frame, total-set, joined, left}

-- a set with no node has no hash
pub marks-none : (p : Pool) (row : ℕ) → get_or p.counts row 0 ≡ 0 → marks_of p row ≡ []
unfolding marks_of chain_of
marks-none p row none = ap (λ (n : ℕ). noted p.hashes (walk n p.links (get_or p.firsts row 0))) none

-- the first free node is one of the free nodes
free-first : (p : Pool) → 0 < p.free_count → frees_of p ≡ p.free ∷ walk (p.free_count - 1) p.links (get_or p.links p.free 0)
unfolding frees_of
free-first p room = walk-first p.free_count p.links p.free room

pub free-lt : (p : Pool) → IsSound p → 0 < p.free_count → p.free < length p.links
free-lt p sound room = sound.chains.free_within p.free (subst (λ (k : List ℕ). IsIn p.free k) (sym (free-first p room)) (inl refl))

-- the first node of a set is one of its nodes
chain-first : (p : Pool) (row : ℕ) → 0 < get_or p.counts row 0 →
    chain_of p row ≡ get_or p.firsts row 0 ∷ walk (get_or p.counts row 0 - 1) p.links (get_or p.links (get_or p.firsts row 0) 0)
unfolding chain_of
chain-first p row some = walk-first (get_or p.counts row 0) p.links (get_or p.firsts row 0) some

pub first-lt : (p : Pool) (row : ℕ) → IsSound p → 0 < get_or p.counts row 0 → get_or p.firsts row 0 < length p.links
first-lt p row sound some =
    sound.chains.within row (get_or p.firsts row 0) (subst (λ (k : List ℕ). IsIn (get_or p.firsts row 0) k) (sym (chain-first p row some)) (inl refl))

module _ (p : Pool) (row hash : ℕ) (sound : IsSound p) (within : row < length p.firsts) (few : get_or p.counts row 0 < 8) (room : 0 < p.free_count) where
  abbrev pub pushed : Pool
  pushed =
      record {
        firsts = set p.firsts row p.free;
        counts = set p.counts row (get_or p.counts row 0 + 1);
        links = set p.links p.free (get_or p.firsts row 0);
        hashes = set p.hashes p.free hash;
        free = get_or p.links p.free 0;
        free_count = p.free_count - 1;
      }

  row_lt : row < length p.counts
  row_lt = let same = sound.rows in omega (arith, within, same)

  x_in : IsIn p.free (frees_of p)
  x_in = subst (λ (k : List ℕ). IsIn p.free k) (sym (free-first p room)) (inl refl)

  x_lt : p.free < length p.links
  x_lt = free-lt p sound room

  apart : (t : ℕ) → ¬ IsIn p.free (chain_of p t)
  apart t h = sound.chains.free_apart t p.free h x_in

  own : chain_of pushed row ≡ p.free ∷ chain_of p row
  unfolding chain_of
  own =
      let n = get_or p.counts row 0 in
      let first = get_or p.firsts row 0 in
      ap (λ (m : ℕ). walk m pushed.links (get_or pushed.firsts row 0)) (get_or-set_same p.counts row (n + 1) 0 row_lt)
      ∙ ap (λ (x : ℕ). walk (n + 1) pushed.links x) (get_or-set_same p.firsts row p.free 0 within)
      ∙ walk-more n pushed.links p.free
      ∙ ap (λ (next : ℕ). p.free ∷ walk n pushed.links next) (get_or-set_same p.links p.free first 0 x_lt)
      ∙ ap (λ (rest : List ℕ). p.free ∷ rest) (walk-frame n p.links first p.free first (apart row))

  others : (t : ℕ) → t ≢ row → chain_of pushed t ≡ chain_of p t
  unfolding chain_of
  others t differs =
      ap (λ (m : ℕ). walk m pushed.links (get_or pushed.firsts t 0)) (get_or-set_other p.counts row t (get_or p.counts row 0 + 1) 0 differs)
      ∙ ap (λ (x : ℕ). walk (get_or p.counts t 0) pushed.links x) (get_or-set_other p.firsts row t p.free 0 differs)
      ∙ walk-frame (get_or p.counts t 0) p.links (get_or p.firsts t 0) p.free (get_or p.firsts row 0) (apart t)

  frees : frees_of p ≡ p.free ∷ frees_of pushed
  unfolding frees_of
  frees =
      let once : IsDistinct (p.free ∷ walk (p.free_count - 1) p.links (get_or p.links p.free 0)) = subst IsDistinct (free-first p room) sound.chains.free_once in
      free-first p room
      ∙ ap (λ (rest : List ℕ). p.free ∷ rest) (sym (walk-frame (p.free_count - 1) p.links (get_or p.links p.free 0) p.free (get_or p.firsts row 0) once.0))

  marks_own : marks_of pushed row ≡ hash ∷ marks_of p row
  unfolding marks_of
  marks_own =
      let x_there : p.free < length p.hashes = let same = sound.nodes in let lt = x_lt in omega (arith, lt, same) in
      ap (noted pushed.hashes) own
      ∙ ap (λ (v : ℕ). v ∷ noted pushed.hashes (chain_of p row)) (get_or-set_same p.hashes p.free hash 0 x_there)
      ∙ ap (λ (rest : List ℕ). hash ∷ rest) (noted-frame (chain_of p row) p.hashes p.free hash (apart row))

  marks_others : (t : ℕ) → t ≢ row → marks_of pushed t ≡ marks_of p t
  unfolding marks_of
  marks_others t differs = ap (noted pushed.hashes) (others t differs) ∙ noted-frame (chain_of p t) p.hashes p.free hash (apart t)

  pushed_sound : IsSound pushed
  pushed_sound =
      let n = get_or p.counts row 0 in
      let total = length-set p.links p.free (get_or p.firsts row 0) in
      let most = sound.bounded in
      let summed = total-set p.counts row (n + 1) row_lt in
      let all = sound.all in
      record {
        rows = length-set p.counts row (n + 1) ∙ sound.rows ∙ sym (length-set p.firsts row p.free);
        nodes = length-set p.hashes p.free hash ∙ sound.nodes ∙ sym total;
        chains = subst (λ (k : ℕ). AreApart (chain_of pushed) (frees_of pushed) k) (sym total)
            (joined (chain_of p) (chain_of pushed) (frees_of p) (frees_of pushed) (length p.links) row p.free frees own others sound.chains);
        few = λ t. ⊎_elim
            (λ same. let e : get_or pushed.counts t 0 ≡ n + 1 = ap (λ (k : ℕ). get_or pushed.counts k 0) same ∙ get_or-set_same p.counts row (n + 1) 0 row_lt in omega (arith, e, few))
            (λ differs. let e = get_or-set_other p.counts row t (n + 1) 0 differs in let old = sound.few t in omega (arith, e, old))
            (cases_eq t row);
        all = omega (arith, total, summed, all, room);
        bounded = omega (arith, total, most);
      }

  pub pushes : Pushes p pushed row hash
  pushes =
      record {
        sound = pushed_sound;
        sizes = record { sets = length-set p.firsts row p.free; places = length-set p.links p.free (get_or p.firsts row 0) };
        own = marks_own;
        others = marks_others;
        count = get_or-set_same p.counts row (get_or p.counts row 0 + 1) 0 row_lt;
        free = omega (arith, room);
      }

module _ (p : Pool) (row : ℕ) (sound : IsSound p) (within : row < length p.firsts) (some : 0 < get_or p.counts row 0) where
  abbrev pub popped : Pool
  popped =
      record {
        firsts = set p.firsts row (get_or p.links (get_or p.firsts row 0) 0);
        counts = set p.counts row (get_or p.counts row 0 - 1);
        links = set p.links (get_or p.firsts row 0) p.free;
        hashes = p.hashes;
        free = get_or p.firsts row 0;
        free_count = p.free_count + 1;
      }

  abbrev pub node : ℕ
  node = get_or p.firsts row 0

  taken_lt : row < length p.counts
  taken_lt = let same = sound.rows in omega (arith, within, same)

  node_in : IsIn node (chain_of p row)
  node_in = subst (λ (k : List ℕ). IsIn node k) (sym (chain-first p row some)) (inl refl)

  node_lt : node < length p.links
  node_lt = first-lt p row sound some

  elsewhere : (t : ℕ) → t ≢ row → ¬ IsIn node (chain_of p t)
  elsewhere t differs h = differs (sound.chains.apart t row node h node_in)

  rest : chain_of popped row ≡ walk (get_or p.counts row 0 - 1) p.links (get_or p.links node 0)
  unfolding chain_of
  rest =
      let n = get_or p.counts row 0 in
      let next = get_or p.links node 0 in
      let once : IsDistinct (node ∷ walk (n - 1) p.links next) = subst IsDistinct (chain-first p row some) (sound.chains.once row) in
      ap (λ (m : ℕ). walk m popped.links (get_or popped.firsts row 0)) (get_or-set_same p.counts row (n - 1) 0 taken_lt)
      ∙ ap (λ (x : ℕ). walk (n - 1) popped.links x) (get_or-set_same p.firsts row next 0 within)
      ∙ walk-frame (n - 1) p.links next node p.free once.0

  took : chain_of p row ≡ node ∷ chain_of popped row
  took = chain-first p row some ∙ ap (λ (xs : List ℕ). node ∷ xs) (sym rest)

  kept : (t : ℕ) → t ≢ row → chain_of popped t ≡ chain_of p t
  unfolding chain_of
  kept t differs =
      ap (λ (m : ℕ). walk m popped.links (get_or popped.firsts t 0)) (get_or-set_other p.counts row t (get_or p.counts row 0 - 1) 0 differs)
      ∙ ap (λ (x : ℕ). walk (get_or p.counts t 0) popped.links x) (get_or-set_other p.firsts row t (get_or p.links node 0) 0 differs)
      ∙ walk-frame (get_or p.counts t 0) p.links (get_or p.firsts t 0) node p.free (elsewhere t differs)

  freed : frees_of popped ≡ node ∷ frees_of p
  unfolding frees_of
  freed =
      walk-more p.free_count popped.links node
      ∙ ap (λ (next : ℕ). node ∷ walk p.free_count popped.links next) (get_or-set_same p.links node p.free 0 node_lt)
      ∙ ap (λ (xs : List ℕ). node ∷ xs) (walk-frame p.free_count p.links p.free node p.free (λ h. sound.chains.free_apart row node node_in h))

  marks_took : marks_of p row ≡ get_or p.hashes node 0 ∷ marks_of popped row
  unfolding marks_of
  marks_took = ap (noted p.hashes) took

  marks_kept : (t : ℕ) → t ≢ row → marks_of popped t ≡ marks_of p t
  unfolding marks_of
  marks_kept t differs = ap (noted p.hashes) (kept t differs)

  popped_sound : IsSound popped
  popped_sound =
      let n = get_or p.counts row 0 in
      let total = length-set p.links node p.free in
      let most = sound.bounded in
      let summed = total-set p.counts row (n - 1) taken_lt in
      let all = sound.all in
      record {
        rows = length-set p.counts row (n - 1) ∙ sound.rows ∙ sym (length-set p.firsts row (get_or p.links node 0));
        nodes = sound.nodes ∙ sym total;
        chains = subst (λ (k : ℕ). AreApart (chain_of popped) (frees_of popped) k) (sym total)
            (left (chain_of p) (chain_of popped) (frees_of p) (frees_of popped) (length p.links) row node freed took kept sound.chains);
        few = λ t. ⊎_elim
            (λ same. let e : get_or popped.counts t 0 ≡ n - 1 = ap (λ (k : ℕ). get_or popped.counts k 0) same ∙ get_or-set_same p.counts row (n - 1) 0 taken_lt in
            let old = sound.few row in omega (arith, e, old))
            (λ differs. let e = get_or-set_other p.counts row t (n - 1) 0 differs in let old = sound.few t in omega (arith, e, old))
            (cases_eq t row);
        all = omega (arith, total, summed, all, some);
        bounded = omega (arith, total, most);
      }

  pub pops : Pops p popped row
  pops =
      let counted = get_or-set_same p.counts row (get_or p.counts row 0 - 1) 0 taken_lt in
      record {
        sound = popped_sound;
        sizes = record { sets = length-set p.firsts row (get_or p.links node 0); places = length-set p.links node p.free };
        own = (get_or p.hashes node 0, marks_took);
        others = marks_kept;
        count = omega (arith, counted, some);
        free = refl;
      }

  -- a place more can be free
  pub pop-fits : p.free_count < length p.links
  pop-fits = let all = sound.all in let summed = total-set p.counts row 0 taken_lt in omega (arith, all, summed, some)

-- what is read of a pool before a hash more is struck
pub pushes_as : (p : Pool) (row hash first count next : ℕ) → IsSound p → row < length p.firsts → get_or p.counts row 0 < 8 → 0 < p.free_count →
    first ≡ get_or p.firsts row 0 → count ≡ get_or p.counts row 0 → next ≡ get_or p.links p.free 0 →
    Pushes p (record {
      firsts = set p.firsts row p.free;
      counts = set p.counts row (count + 1);
      links = set p.links p.free first;
      hashes = set p.hashes p.free hash;
      free = next;
      free_count = p.free_count - 1;
    }) row hash
pushes_as p row hash first count next sound within few room first_is count_is next_is =
    let with_first : ℕ → Pool = λ f. record {
      firsts = set p.firsts row p.free;
      counts = set p.counts row (get_or p.counts row 0 + 1);
      links = set p.links p.free f;
      hashes = set p.hashes p.free hash;
      free = get_or p.links p.free 0;
      free_count = p.free_count - 1;
    } in
    let with_count : ℕ → Pool = λ n. record {
      firsts = set p.firsts row p.free;
      counts = set p.counts row (n + 1);
      links = set p.links p.free first;
      hashes = set p.hashes p.free hash;
      free = get_or p.links p.free 0;
      free_count = p.free_count - 1;
    } in
    let with_next : ℕ → Pool = λ x. record {
      firsts = set p.firsts row p.free;
      counts = set p.counts row (count + 1);
      links = set p.links p.free first;
      hashes = set p.hashes p.free hash;
      free = x;
      free_count = p.free_count - 1;
    } in
    subst (λ (x : ℕ). Pushes p (with_next x) row hash) (sym next_is)
    (subst (λ (n : ℕ). Pushes p (with_count n) row hash) (sym count_is)
    (subst (λ (f : ℕ). Pushes p (with_first f) row hash) (sym first_is) (pushes p row hash sound within few room)))

-- what is read of a pool before the last hash of a set is taken back
pub pops_as : (p : Pool) (row first count next : ℕ) → IsSound p → row < length p.firsts → 0 < get_or p.counts row 0 →
    first ≡ get_or p.firsts row 0 → count ≡ get_or p.counts row 0 → next ≡ get_or p.links first 0 →
    Pops p (record {
      firsts = set p.firsts row next;
      counts = set p.counts row (count - 1);
      links = set p.links first p.free;
      hashes = p.hashes;
      free = first;
      free_count = p.free_count + 1;
    }) row
pops_as p row first count next sound within some first_is count_is next_is =
    let with_first : ℕ → Pool = λ f. record {
      firsts = set p.firsts row (get_or p.links f 0);
      counts = set p.counts row (get_or p.counts row 0 - 1);
      links = set p.links f p.free;
      hashes = p.hashes;
      free = f;
      free_count = p.free_count + 1;
    } in
    let with_count : ℕ → Pool = λ n. record {
      firsts = set p.firsts row (get_or p.links first 0);
      counts = set p.counts row (n - 1);
      links = set p.links first p.free;
      hashes = p.hashes;
      free = first;
      free_count = p.free_count + 1;
    } in
    let with_next : ℕ → Pool = λ x. record {
      firsts = set p.firsts row x;
      counts = set p.counts row (count - 1);
      links = set p.links first p.free;
      hashes = p.hashes;
      free = first;
      free_count = p.free_count + 1;
    } in
    subst (λ (x : ℕ). Pops p (with_next x) row) (sym next_is)
    (subst (λ (n : ℕ). Pops p (with_count n) row) (sym count_is)
    (subst (λ (f : ℕ). Pops p (with_first f) row) (sym first_is) (pops p row sound within some)))
