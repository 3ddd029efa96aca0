-- What is lent, taken apart, and as a vector over it owns it.
use mathlib.Core.Path.{◌≡◌, refl, ap, ◌∙◌}
use mathlib.Core.Bool.{Bool, true, false}
use mathlib.Core.List.{List, [], ◌∷◌, ◌++◌}
use Prim.Native.Nat.{ℕ, ◌+◌, ◌-◌, ◌*◌, ◌<◌, ◌≤◌, ◌^◌}
use native.Mathlib.Omega.{arith}
use lib.ListN.{length}
use seplogic.Ra.Ura.{Ura}
use base.Fraction.{full_share}
use base.Logic.{SProp, ent, emp, id⊢}
use base.Fml.{Fml, ftrue, froom, flft}
use mir.Syntax.{w32, w64, ty_array}
use mir.Val.{Val, vint, vptr, vstruct, vcons, vnil, of_list}
use prog.Memory.{Memory}
use prog.Routine.{Routine}
use contract.Monad.{Fun, fact, fact_i}
use contract.BorrowLft.{◌⊑◌, ⊑_refl}
use types.Logic.{Logic, sem}
use types.Kit.{Goal, Seq, Item, ‵, raw, given, ◌$◌, ◌∵◌, !, qed, move, drop, use0, use1, join, learn, rewrite, fsplit, fjoin, fpick, feq_l, feq_i, flt_l, flt_i, fpack, Step, step, done}
use denote.RattleType.{RattleType, Valss}
use denote.Array.{Array}
use denote.Index.{row}
use denote.Memory.{part_at}
use denote.Param.Laws.{Laws}
use denote.RawPtr.{Ptr, block_ptr, ptr_val, lies_at, in_a_block}
use denote.Steps.{nothing}
use denote.Struct.Owning.{shape}
use denote.Struct.Struct.{within}
use Rattle.std.specs.Mem.{type_size}
use Rattle.std_alloc.specs.Vec.Ownership.{owns_if, has_block, lodged}
use Rattle.std.specs.Allocator.{block_with_items}
use Rattle.std_alloc.proofs.OfLodged.{lodging}
use Rattle.std_alloc.proofs.RawLayout.{as_raw}
use Rattle.std_alloc.proofs.VecSteps.El.{El, R, elτ, sz}
use Rattle.std_alloc.proofs.VecSteps.Rows.{apart, whole}
use Rattle.std_collections.proofs.TreeMemory.Lodging.{Lodges, at_lodge}
use Rattle.kangaroo_c.specs.contracts.lent.Lent as Lent

-- the two words of a `Lent`
abbrev pub lent_val : Ptr → ℕ → Val
lent_val p n = vstruct (vcons (ptr_val p) (vcons (vint w32 n) vnil))

module _ (Y : RattleType) (L : Laws Y) where
  abbrev pub E : El
  E = lodging Y L

  abbrev pub Row : RattleType
  Row = Lent.the_row (R E)

  abbrev pub array : ℕ → List Y.Denot → ℕ → ℕ → Fml
  array n xs b o = part_at (Array (R E) n) full_share xs b o

module _ (R' : RattleType) {M : Type 1} {𝓤 : Ura M} {𝓛 : Logic 𝓤} {K : Type 0} {Γ : List (Item 𝓤)} {G : Goal 𝓤 𝓛.H} where
  -- a `Lent` is its two words and the array after them
  pub lent_had : K → (d : (Lent.the_row R').Denot) (vs : List Val)
      → ((b o : ℕ) → vs ≡ lent_val (block_ptr b o) d.count ∷ [] → d.count < 2 ^ 32 → d.count * type_size R' < 2 ^ 63
      → Seq K 𝓛 (‵ (part_at (Array R' d.count) full_share d.values b o) ∷ Γ) G)
      → Seq K 𝓛 (‵ ((Lent.the_row R').own_val d vs) ∷ Γ) G
  lent_had t d vs k =
      fsplit t $ fpick t (λ vss. fsplit t $ feq_l t (λ all. fsplit t $ feq_l t (λ e₀. fsplit t $ fsplit t $ feq_l t (λ e₁. flt_l t (λ fn. drop t $ fsplit t $ flt_l t (λ fit.
      in_a_block t d.at (λ p. lies_at (Array R' d.count) full_share p d.values) (id⊢ 𝓤 _) (λ b o e.
      k b o (all ∙ ((λ i. vstruct (of_list (e₀ i ++ (e₁ i ++ []))) ∷ []) ∙ ap (λ (p : Ptr). lent_val p d.count ∷ []) e)) fn fit)))))))

  pub lent_made : K → (b o n : ℕ) (xs : List R'.Denot) → n < 2 ^ 32 → n * type_size R' < 2 ^ 63
      → Step K 𝓛 (‵ ((Lent.the_row R').own_val (record { at = block_ptr b o; count = n; values = xs }) (lent_val (block_ptr b o) n ∷ [])) ∷ Γ) G
      (‵ (part_at (Array R' n) full_share xs b o) ∷ Γ) G
  lent_made t b o n xs fn fit = step (λ s.
      let w : Val = lent_val (block_ptr b o) n in
      flt_i t (n * type_size R') (2 ^ 63) fit $ fjoin t $
      nothing t $ flt_i t n (2 ^ 32) fn $ feq_i t (List Val) (vint w32 n ∷ []) (vint w32 n ∷ []) refl $ fjoin t $ fjoin t $
      feq_i t (List Val) (vptr b o ∷ []) (vptr b o ∷ []) refl $ fjoin t $ feq_i t (List Val) (w ∷ []) (w ∷ []) refl $ fjoin t $
      fpack t (Valss (shape (Lent.the_type R')).fields) (within (shape (Lent.the_type R')) (block_ptr b o, (n, tt)) (w ∷ [])) (vptr b o ∷ [], (vint w32 n ∷ [], tt)) $ fjoin t $ s)

module _ (Y : RattleType) (L : Laws Y) {M : Type 1} {𝓤 : Ura M} {𝓛 : Logic 𝓤} {K : Type 0} {Γ : List (Item 𝓤)} {G : Goal 𝓤 𝓛.H} where
  -- an array has as many values as its type says
  pub counted : K → (b o n : ℕ) (xs : List Y.Denot) → (length xs ≡ n → Seq K 𝓛 (‵ (array Y L n xs b o) ∷ Γ) G) → Seq K 𝓛 (‵ (array Y L n xs b o) ∷ Γ) G
  counted t b o n xs k =
      use1 𝓛 (given (length xs ≡ n) (‵ (row (R (E Y L)) full_share xs b o))) (apart (E Y L) 𝓛 full_share n xs b o) $ learn t (λ long.
      use1 𝓛 (‵ (array Y L n xs b o)) (whole (E Y L) 𝓛 full_share n xs b o long) $ k long)

module _ (Y : RattleType) (L : Laws Y) {M : Type 1} {𝓤 : Ura M} (𝓛 : Logic 𝓤) (b o n : ℕ) (xs : List Y.Denot) where
  abbrev from : ℕ
  from = o + n * sz (E Y L)

  -- the array is a block with no room after it, or nothing if it has no elements
  as_block : (y : Bool) → ent 𝓤 (sem 𝓛 (array Y L n xs b o)) (sem 𝓛 (owns_if y (block_with_items (λ _ _. ftrue) (R (E Y L)) (block_ptr b o) n n xs)))
  as_block false = qed 𝓛 (‵ (array Y L n xs b o) ∷ []) ∵ drop ! $ nothing ! $ done !
  as_block true =
      let none : 0 ≡ n - n = omega arith in
      qed 𝓛 (‵ (array Y L n xs b o) ∷ []) ∵ nothing ! $ use0 𝓛 (‵ (froom (ty_array (elτ (E Y L)) 0) b from)) (𝓛.laws.room_nil (elτ (E Y L)) b from) $
      rewrite ! 0 (λ (k : ℕ). ‵ (froom (ty_array (elτ (E Y L)) k) b from)) none refl $ as_raw ! (ty_array (elτ (E Y L)) (n - n)) b from $
      fjoin ! $ move ! (1 ∷ 0 ∷ []) $ fjoin ! $ done !

  -- the array as a vector of that capacity owns it
  as_lodged : n * sz (E Y L) < 2 ^ 63 → ent 𝓤 (sem 𝓛 (array Y L n xs b o)) (sem 𝓛 (lodged (R (E Y L)) (block_ptr b o) n n xs))
  as_lodged fit =
      let Block : Fml = owns_if (has_block n) (block_with_items (λ _ _. ftrue) (R (E Y L)) (block_ptr b o) n n xs) in
      qed 𝓛 (‵ (array Y L n xs b o) ∷ []) ∵ use1 𝓛 (‵ Block) (as_block (has_block n)) $ flt_i ! (n * sz (E Y L)) (2 ^ 63) fit $ fjoin ! $ done !

  -- what `lodge` is handed
  pub lodge_goes : (at_mem : Memory → SProp 𝓤) (run : Routine → Fun 𝓤) → n ≡ length xs → n < 2 ^ 32 → n * sz (E Y L) < 2 ^ 63
      → ent 𝓤 (sem 𝓛 (array Y L n xs b o)) ((Lodges Y 𝓛 at_mem run).pre (at_lodge Y 𝓛 at_mem run b o n n xs))
  lodge_goes at_mem run long few fit =
      let Asked : Type 0 = (n ≡ length xs) × (n ≤ n) × (n < 2 ^ 63) in
      qed 𝓛 (‵ (array Y L n xs b o) ∷ []) ∵ use1 𝓛 (‵ (lodged (R (E Y L)) (block_ptr b o) n n xs)) (as_lodged fit) $
      use0 𝓛 (raw (fact 𝓤 Asked)) (fact_i 𝓤 Asked (emp 𝓤) (long, omega arith, omega arith)) $ join ! $
      use0 𝓛 (raw (fact 𝓤 ([] ⊑ []))) (fact_i 𝓤 ([] ⊑ []) (emp 𝓤) (⊑_refl [])) $ join ! $
      nothing ! $ flt_i ! n (2 ^ 64) (omega arith) $ feq_i ! (List Val) (vint w64 n ∷ []) (vint w64 n ∷ []) refl $ fjoin ! $ fjoin ! $
      flt_i ! n (2 ^ 64) (omega arith) $ feq_i ! (List Val) (vint w64 n ∷ []) (vint w64 n ∷ []) refl $ fjoin ! $ fjoin ! $
      feq_i ! (List Val) (vptr b o ∷ []) (vptr b o ∷ []) refl $ fjoin ! $ nothing ! $ use0 𝓛 (‵ (flft [] full_share)) (𝓛.lfts.lft-nil full_share) $ join ! $ join ! $ done !
