-- `into_vec` hands the memory to `lodge`.
use mathlib.Core.Path.{◌≡◌, refl, sym, ap, subst, ◌∙◌}
use mathlib.Core.List.{List, [], ◌∷◌, ◌++◌}
use Prim.Native.Nat.{ℕ, ◌<◌, ◌^◌}
use native.Mathlib.Omega.{arith}
use lib.ListN.{length}
use seplogic.Ra.Ura.{Ura}
use mir.Syntax.{Fn}
use mir.MapTy.{inst_fn}
use mir.Val.{Val}
use base.Logic.{SProp, ent, emp, id⊢}
use base.Fml.{ftrue, fsep}
use prog.Memory.{Memory}
use prog.Routine.{Routine}
use prog.Wp.{WpFn, Tables}
use contract.Monad.{Fun, fact}
use contract.Running.{tables, tables_of}
use sound.WpLaws.{WpFn-mono, fm_of}
use types.Logic.{Logic}
use types.Kit.{‵, raw, ◌⊛◌, some, later, given, at_ret, ◌$◌, ◌∵◌, !, qed, keep, drop, use1, split, join, pick, learn, rewrite, fsplit, fjoin, await, suffices, done}
use types.Part.{whole, sub}
use types.Run.{stop, fld, of_opd, un, no_more, and_then, first, blocks, exec, returns, enter}
use types.ByLocal.{alloc_all, pass_all, free_all, look_at, get, get_in, sets, lands_last, env}
use denote.Exit.{no}
use denote.RattleType.{RattleType}
use denote.Param.Laws.{Laws, param_laws}
use denote.RawPtr.{block_ptr}
use denote.Signature.{plain}
use denote.Steps.{only, nothing}
use denote.Triple.Call.{calls_at_last}
use denote.Triple.Carry.{spared}
use denote.Triple.Clauses.{Ended, Clauses, closing}
use denote.Triple.Spec.{Meets, triple_of}
use denote.Triple.Statement.{Triple}
use denote.Triple.Table.{entered, run_framed}
use denote.Triple.Walked.{says, Stays, stay_dropped, walk_of, ends_at, Goes-dropped, walk_Meets}
use Rattle.std.proofs.mem.Timeless.{timeless, timeless_laws}
use Rattle.std_alloc.proofs.VecSteps.El.{args₁, R}
use Rattle.std_alloc.proofs.VecSteps.Shapes.{after}
use Rattle.std_alloc.proofs.vec.lodge.Met as lodge_met
use Rattle.std_alloc.specs.declared.vec.Vec.{Vec}
use Rattle.std_alloc.specs.declared.vec.lodged.Lodged.{Lodged}
use Rattle.std_collections.proofs.TreeMemory.Lodging.{row_laws, lodge_key, tells, Good, Lodges, at_lodge, Lodged_as, lodge_gives}
use Rattle.std_collections.proofs.TreeMemory.Lodging as Lodging
use Rattle.kangaroo_c.proofs.LentRow.{E, Row, lent_val, lent_had, counted, lodge_goes}
use Rattle.kangaroo_c.specs.contracts.lent.Lent.into_vec.Key.{name as #self}
use Rattle.kangaroo_c.proofs.lent.Lent.into_vec.Statement as stated
use Rattle.kangaroo_c.proofs.lent.Lent.into_vec.Code as code

module _ (Y : RattleType) (L : Laws Y) where
  abbrev fn' : Fn
  fn' = inst_fn (args₁ (E Y L)) code.function

  abbrev Made : RattleType
  Made = Lodging.Row (R (E Y L))

  abbrev ended : Ended
  ended = record { signature = record { lifetimes = 0; outlives = []; params = plain (λ _. Row Y L) ∷ []; result = plain (λ _. Made) }; kept = (no, tt) }

  abbrev stayed : Stays ended.signature.params ended.kept
  stayed = (stay_dropped (plain (λ _. Row Y L)) no, tt)

  abbrev spec : {M : Type 1} {𝓤 : Ura M} (𝓛 : Logic 𝓤) → Clauses 𝓤 ended
  spec {𝓤 = 𝓤} 𝓛 κs a = record {
    ghost = Unit {0};
    requires = λ _. emp 𝓤;
    ensures = λ _ r _. fact 𝓤 ((r.items ≡ a.0.values) × (length r.items < 2 ^ 32));
  }

  module _ {M : Type 1} {𝓤 : Ura M} (𝓛 : Logic 𝓤) (at_mem : Memory → SProp 𝓤) (run : Routine → Fun 𝓤) (𝓣 : Tables 𝓤 𝓛.H)
      (met : Triple 𝓤 (𝓣.C (lodge_key Y)) (Lodges Y 𝓛 at_mem run)) where
    open 𝓛 use {H}

    walk : (z : (walk_of 𝓛 ended stayed (spec 𝓛)).Ghost)
        → ent 𝓤 ((walk_of 𝓛 ended stayed (spec 𝓛)).pre z) (WpFn 𝓤 H 𝓣.C 𝓣.Λ fn' (z.0.4.0 ++ []) ((walk_of 𝓛 ended stayed (spec 𝓛)).post z))
    walk z =
        let d = z.0.3.0 in let n : ℕ = d.count in let xs = d.values in
        let Post : Val → SProp 𝓤 = (walk_of 𝓛 ended stayed (spec 𝓛)).post z in
        let Run : List Val → SProp 𝓤 = λ vs. WpFn 𝓤 H 𝓣.C 𝓣.Λ fn' vs Post in
        qed 𝓛 ((‵ ftrue ⊛ ‵ (fsep ((Row Y L).own_val d z.0.4.0) ftrue)) ∷ raw (emp 𝓤) ∷ []) ∵ split ! $ drop ! $ fsplit ! $
        lent_had (R (E Y L)) ! d z.0.4.0 (λ b o e fn fit. keep ! (0 ∷ []) $ counted Y L ! b o n xs (λ long.
        let us : List Val = lent_val (block_ptr b o) n ∷ [] in
        let wide : n < 2 ^ 64 = omega arith in
        let y = at_lodge Y 𝓛 at_mem run b o n n xs in
        suffices ! (Run us) (subst (λ (vs : List Val). ent 𝓤 (Run us) (Run (vs ++ []))) (sym e) (id⊢ 𝓤 (Run us))) $
        enter ! 𝓣.C 𝓣.Λ fn' us _ $ alloc_all ! (λ ls. pass_all ! refl ((tt, (tt, (record { fits = fn }, tt))), tt) $
        sets ! (of_opd ! (get_in ! (fld ! refl (stop !)) (sub ! 0 refl (whole !)))) refl (tt, tt) $
        sets ! (of_opd ! (get_in ! (fld ! refl (stop !)) (sub ! 1 refl (whole !)))) refl (tt, record { fits = fn }) $
        sets ! (un ! (get ! refl) (record { fits = wide })) refl (tt, record { fits = wide }) $
        first ! $ blocks ! $
        use1 𝓛 (raw ((Lodges Y 𝓛 at_mem run).pre y)) (lodge_goes Y L 𝓛 b o n xs at_mem run (sym long) fn fit) $
        calls_at_last ! (fm_of 𝓤 H 𝓛.laws 𝓣) (Lodges Y 𝓛 at_mem run) met y (and_then ! (get ! refl) (and_then ! (get ! refl) (and_then ! (get ! refl) (no_more !)))) (λ u.
        use1 𝓛 (later (some (λ (r : Vec Y.Denot Lodged). given (Lodged_as Y 𝓛 at_mem run b o n n xs r) (‵ (Made.own_val r (u ∷ [])))))) (lodge_gives Y 𝓛 at_mem run b o n n xs u) $
        await ! tt $ pick ! (λ r. learn ! (λ is. tells ! Made (row_laws (R (E Y L)) (param_laws 0 Y L)) r (u ∷ []) (λ w same good.
        let good' : Good Made u = subst (Good Made) (sym (ap only same)) good in
        rewrite ! 0 (λ (v : Val). ‵ (Made.own_val r (v ∷ []))) (sym (ap only same)) refl $
        lands_last ! refl good' $ exec ! 𝓣.C 𝓣.Λ (env fn'.locals ls) (after 4 fn'.body) (at_ret (env fn'.locals ls) Post) $
        sets ! (of_opd ! (get ! refl)) refl good' $ returns ! (look_at ! 0 refl) $ free_all ! refl $
        let few : length r.items < 2 ^ 32 = subst (λ (k : ℕ). k < 2 ^ 32) (sym (ap length is.0 ∙ long)) fn in
        suffices ! _ (ends_at 𝓛 ended stayed (spec 𝓛) z u r (tt, tt) (tt, tt)) $ says ! (is.0, few) $
        nothing ! $ nothing ! $ fjoin ! $ join ! $ nothing ! $ join ! $ done !)))))))

    meets : Meets 𝓛 ended.signature (WpFn 𝓤 H 𝓣.C 𝓣.Λ fn') (closing 𝓛 ended (spec 𝓛))
    meets = walk_Meets 𝓛 ended stayed (Goes-dropped 𝓛 0 (plain (λ _. Row Y L)) no (λ κs x f. refl), tt) (spec 𝓛) (WpFn 𝓤 H 𝓣.C 𝓣.Λ fn') (WpFn-mono 𝓤 H 𝓛.laws 𝓣 fn') walk

pub into_vec_spec : {M : Type 1} → stated.statement M
unfolding tables_of
into_vec_spec 𝓤 𝓛 𝓜 𝓡 wired Y L y =
    let A = 𝓛.A in
    let key = #self (args₁ (E Y L)) in
    let 𝓣 : Tables 𝓤 𝓛.H = tables_of 𝓤 𝓛.H 𝓜 (tables 𝓤 𝓛.H 𝓜 𝓡 𝓡.env) in
    spared 𝓛 (ended Y L).signature (𝓡.run (𝓡.env key)) (run_framed 𝓤 𝓛.H 𝓜 𝓡 (𝓡.env key)) 1 (Y.lives, tt) (closing 𝓛 (ended Y L) (spec Y L 𝓛))
    (entered 𝓤 𝓛.H (triple_of 𝓛 (ended Y L).signature (closing 𝓛 (ended Y L) (spec Y L 𝓛))) 𝓣.C 𝓣.Λ key (fn' Y L) (code.unfolded 𝓤 𝓛.H 𝓜 𝓡 wired (Y, tt))
    (meets Y L 𝓛 𝓜.mem 𝓡.returns 𝓣 (lodge_met.met 𝓤 𝓛 𝓜 𝓡 (code.calls-std_alloc::vec::lodge 𝓡.env wired) (timeless Y) (timeless_laws Y L))))
    ((y.0.0, y.0.1, tt, y.0.3, y.0.4), y.1)
