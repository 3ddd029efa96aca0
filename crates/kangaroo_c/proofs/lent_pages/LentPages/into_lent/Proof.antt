-- `into_lent` moves the two words, and the pages go with them.
use mathlib.Core.Path.{refl, sym, subst}
use mathlib.Core.List.{List, [], ◌∷◌, ◌++◌}
use Prim.Native.Nat.{ℕ}
use seplogic.Ra.Ura.{Ura}
use mir.Val.{Val}
use base.Logic.{SProp, ent, emp, id⊢}
use base.Fml.{ftrue, fsep}
use prog.Memory.{Memory}
use prog.Routine.{Routine}
use prog.Wp.{WpFn, Tables}
use contract.Monad.{Fun}
use contract.Running.{tables, tables_of}
use sound.WpLaws.{WpFn-mono}
use types.Logic.{Logic}
use types.Kit.{‵, raw, ◌⊛◌, ◌$◌, ◌∵◌, !, qed, keep, drop, use1, split, join, fsplit, fjoin, suffices, done}
use types.Part.{whole, sub, agg}
use types.Run.{stop, fld, of_opd, no_more, and_then, returns, enter}
use types.ByLocal.{alloc_all, pass_all, free_all, look_at, get, get_in, sets}
use denote.Exit.{yes}
use denote.RattleType.{RattleType}
use denote.Array.{Array}
use denote.Builtin.{u8}
use denote.RawPtr.{block_ptr}
use denote.Signature.{Slot, plain}
use denote.Steps.{nothing}
use denote.Triple.Spec.{triple_of}
use denote.Triple.Table.{entered}
use denote.Triple.Walked.{says, Stays, stay_dropped, walk_of, ends_at, Goes-dropped, walk_Meets}
use Rattle.kangaroo_c.proofs.LentRow.{lent_val, lent_had, lent_made}
use Rattle.kangaroo_c.specs.contracts.lent.Lent as Lent
use Rattle.kangaroo_c.specs.contracts.lent_pages.LentPages as LentPages
use Rattle.kangaroo_c.specs.contracts.lent_pages.LentPages.into_lent as F
use Rattle.kangaroo_c.specs.contracts.lent_pages.LentPages.into_lent.Key.{name as #self}
use Rattle.kangaroo_c.proofs.lent_pages.LentPages.into_lent.Statement as stated
use Rattle.kangaroo_c.proofs.lent_pages.LentPages.into_lent.Code as code

abbrev From : Slot 0
From = plain (λ _. LentPages.the_row)

abbrev Page : RattleType
Page = Array u8 4096

abbrev To : RattleType
To = Lent.the_row Page

abbrev stayed : Stays (F.ended).signature.params (F.ended).kept
stayed = (stay_dropped From yes, tt)

module _ {M : Type 1} {𝓤 : Ura M} (𝓛 : Logic 𝓤) (at_mem : Memory → SProp 𝓤) (run : Routine → Fun 𝓤) (𝓣 : Tables 𝓤 𝓛.H) where
  open 𝓛 use {H}

  walk : (z : (walk_of 𝓛 F.ended stayed (F.clauses 𝓛 at_mem run)).Ghost)
      → ent 𝓤 ((walk_of 𝓛 F.ended stayed (F.clauses 𝓛 at_mem run)).pre z) (WpFn 𝓤 H 𝓣.C 𝓣.Λ code.function (z.0.4.0 ++ []) ((walk_of 𝓛 F.ended stayed (F.clauses 𝓛 at_mem run)).post z))
  walk z =
      let Post = (walk_of 𝓛 F.ended stayed (F.clauses 𝓛 at_mem run)).post z in
      let Run : List Val → SProp 𝓤 = λ vs. WpFn 𝓤 H 𝓣.C 𝓣.Λ code.function vs Post in
      let d = z.0.3.0 in let n : ℕ = d.count in
      let had : To.Denot = record { at = d.at; count = n; values = d.pages } in
      qed 𝓛 ((‵ ftrue ⊛ ‵ (fsep ((LentPages.the_row).own_val d z.0.4.0) ftrue)) ∷ raw (emp 𝓤) ∷ []) ∵ split ! $ drop ! $ fsplit ! $
      use1 𝓛 (‵ (To.own_val had z.0.4.0)) (id⊢ 𝓤 _) $
      lent_had Page ! had z.0.4.0 (λ b o e fn fit. keep ! (0 ∷ []) $
      let w : Val = lent_val (block_ptr b o) n in
      let made : To.Denot = record { at = block_ptr b o; count = n; values = d.pages } in
      suffices ! (Run (w ∷ [])) (subst (λ (vs : List Val). ent 𝓤 (Run (w ∷ [])) (Run (vs ++ []))) (sym e) (id⊢ 𝓤 (Run (w ∷ [])))) $
      lent_made Page ! b o n d.pages fn fit $
      enter ! 𝓣.C 𝓣.Λ code.function (w ∷ []) _ $ alloc_all ! (λ ls. pass_all ! refl ((tt, (tt, (record { fits = fn }, tt))), tt) $
      sets ! (of_opd ! (get_in ! (fld ! refl (stop !)) (sub ! 0 refl (whole !)))) refl (tt, tt) $
      sets ! (of_opd ! (get_in ! (fld ! refl (stop !)) (sub ! 1 refl (whole !)))) refl (tt, record { fits = fn }) $
      sets ! (of_opd ! (get ! refl)) refl (tt, tt) $
      sets ! (agg ! (and_then ! (get ! refl) (and_then ! (get ! refl) (no_more !)))) refl (tt, (tt, (record { fits = fn }, tt))) $ returns ! (look_at ! 0 refl) $ free_all ! refl $
      suffices ! _ (ends_at 𝓛 F.ended stayed (F.clauses 𝓛 at_mem run) z w made (tt, tt) (tt, tt)) $ says ! refl $
      nothing ! $ nothing ! $ fjoin ! $ join ! $ nothing ! $ join ! $ done !))

pub into_lent_spec : {M : Type 1} → stated.statement M
unfolding tables_of
into_lent_spec 𝓤 𝓛 𝓜 𝓡 wired =
    let 𝓣 : Tables 𝓤 𝓛.H = tables_of 𝓤 𝓛.H 𝓜 (tables 𝓤 𝓛.H 𝓜 𝓡 𝓡.env) in
    entered 𝓤 𝓛.H (triple_of 𝓛 F.signature (F.spec 𝓛 𝓜.mem 𝓡.returns)) 𝓣.C 𝓣.Λ #self code.function (code.unfolded 𝓤 𝓛.H 𝓜 𝓡 wired)
    (walk_Meets 𝓛 F.ended stayed (Goes-dropped 𝓛 0 From yes (λ κs x f. refl), tt) (F.clauses 𝓛 𝓜.mem 𝓡.returns) (WpFn 𝓤 𝓛.H 𝓣.C 𝓣.Λ code.function) (WpFn-mono 𝓤 𝓛.H 𝓛.laws 𝓣 code.function)
    (walk 𝓛 𝓜.mem 𝓡.returns 𝓣))
