-- What is known of a key, call by call.
use Rattle.std.proofs.Common.{◌≡◌, ℕ, ◌+◌, ◌&&◌, max, Bool, true, false, cond, Some, List, refl, sym, ap, ◌∙◌, subst, arith, inl, inr}
use Rattle.std.specs.Prelude.{slice_get, ◌==◌}
use Rattle.std.specs.Cmp.Lexicographic.{bytes_decides}
use Rattle.std.specs.Str.{bytes_eq}
use Rattle.std.proofs.lemmas.Bool.{and_from, and_parts, cases_Bool, cases_eq, cases_lt, eq-eqb, eqb-true}
use Rattle.std.proofs.lemmas.Option.{same_Some}
use Rattle.trace_file.specs.declared.act.Act.{Act}
use Rattle.trace_file.specs.declared.act.Act.TheVariants.{Put, Remove, Hit, Miss}
use Rattle.trace_file.specs.declared.call.Call.{Call}
use Rattle.certificate_checker.specs.Latest.{IsWrite}
use Rattle.certificate_finder.specs.Turns.{WritesAt, end_at, start_at}
use Rattle.history_window.specs.declared.key_state.KeyState.{KeyState}
use Rattle.history_window.specs.Knowing.{FirstKnown, IsFlag, IsTop}
use Rattle.history_window.specs.States.{Changes, acts_match, after_first, no_state}
use Rattle.history_window.specs.Acts.{is_writing}
use Rattle.history_window.proofs.CallLemmas.{end_is, start_is}
use Rattle.history_window.proofs.ActLemmas.{is_writing_of, writing_is}

-- ---- the greatest, the least, and whether there is one

module _ (wanted : ℕ → Type 0) (measure : ℕ → ℕ) (upto : ℕ) where
  pub top_more : (top : ℕ) → IsTop wanted measure upto top → wanted upto → IsTop wanted measure (upto + 1) (max top (measure upto))
  top_more top had is = record {
    most = λ p less want. elim (cases_eq p upto) [
      | inl same ↦ let e = ap measure same in omega (arith, e)
      | inr other ↦ let le = had.most p (omega (arith, less, other)) want in omega (arith, le)
    ];
    is = elim (cases_lt top (measure upto)) [
      | inl less ↦ inr (upto, is, omega (arith, less))
      | inr enough ↦
          let same : top ≡ max top (measure upto) = omega (arith, enough) in
          elim had.is [ inl zero' ↦ inl (omega (arith, zero', same)) | inr found ↦ inr (found.0, found.1, found.2 ∙ same) ]
    ];
  }

  pub top_kept : (top : ℕ) → IsTop wanted measure upto top → ¬ wanted upto → IsTop wanted measure (upto + 1) top
  top_kept top had none = record {
    most = λ p less want. elim (cases_eq p upto) [
      | inl same ↦ absurd (none (subst wanted same want))
      | inr other ↦ had.most p (omega (arith, less, other)) want
    ];
    is = had.is;
  }

module _ (wanted : ℕ → Type 0) (upto : ℕ) where
  pub flag_more : wanted upto → IsFlag wanted (upto + 1) true
  flag_more is = record { sound = λ e. (upto, is); complete = λ p less want. refl }

  pub flag_kept : (flag : Bool) → IsFlag wanted upto flag → ¬ wanted upto → IsFlag wanted (upto + 1) flag
  flag_kept flag had none = record {
    sound = had.sound;
    complete = λ p less want. elim (cases_eq p upto) [
      | inl same ↦ absurd (none (subst wanted same want))
      | inr other ↦ had.complete p (omega (arith, less, other)) want
    ];
  }

-- ---- tests

pub match_is : (one other : Act) → acts_match one other ≡ true → one ≡ other
match_is (Put v e) (Put w f) h =
    let both = and_parts (bytes_eq v w) (e == f) h in
    ap (λ x. Put x e) ((bytes_decides v w).0 both.0) ∙ ap (λ n. Put w n) (eqb-true e f both.1)
match_is (Put v e) Remove h = cc
match_is (Put v e) (Hit w m) h = cc
match_is (Put v e) Miss h = cc
match_is Remove (Put w f) h = cc
match_is Remove Remove h = refl
match_is Remove (Hit w m) h = cc
match_is Remove Miss h = cc
match_is (Hit v m) other h = cc
match_is Miss other h = cc

pub is_match : (act : Act) → is_writing act ≡ true → acts_match act act ≡ true
is_match (Put v e) h = and_from (bytes_eq v v) (e == e) ((bytes_decides v v).1 refl) (eq-eqb e e refl)
is_match Remove h = refl
is_match (Hit v m) h = cc
is_match Miss h = cc

module _ (history : List Call) (upto : ℕ) (call : Call) (at : slice_get history upto ≡ Some call) where
  pub writes_here : is_writing call.act ≡ true → WritesAt history upto call.key
  writes_here test = record { call = call; at = at; writes = (refl, writing_is call.act test) }

  pub writes_not : (key : List ℕ) → (is_writing call.act && bytes_eq call.key key) ≡ false → ¬ WritesAt history upto key
  writes_not key h writes =
      let mine = same_Some writes.call call (sym writes.at ∙ at) in
      let wrote = is_writing_of call.act (subst (λ (c : Call). IsWrite c.act) mine writes.writes.1) in
      let same = (bytes_decides call.key key).1 (ap (λ (c : Call). c.key) (sym mine) ∙ writes.writes.0) in
      let both : true ≡ false = sym (and_from (is_writing call.act) (bytes_eq call.key key) wrote same) ∙ h in
      cc

-- what is known of each key after a call, by what is known of the call's key and of others
pub step_all : (Known : ℕ → List ℕ → KeyState → Type 0) (upto : ℕ) (test : Bool) (call : Call) (state : KeyState) (old new : List ℕ → KeyState) → Changes test call state old new → (test ≡ true → Known (upto + 1) call.key state) → ((key : List ℕ) → (test && bytes_eq call.key key) ≡ false → Known (upto + 1) key (old key)) → (key : List ℕ) → Known (upto + 1) key (new key)
step_all Known upto test call state old new change here there key = elim (cases_Bool (test && bytes_eq call.key key)) [
  | inl yes' ↦
      let both = and_parts test (bytes_eq call.key key) yes' in
      let is : new key ≡ state = change key ∙ ap (λ b. cond b state (old key)) yes' in
      subst (Known (upto + 1) key) (sym is) (subst (λ k. Known (upto + 1) k state) ((bytes_decides call.key key).0 both.1) (here both.0))
  | inr no' ↦
      let is : new key ≡ old key = change key ∙ ap (λ b. cond b state (old key)) no' in
      subst (Known (upto + 1) key) (sym is) (there key no')
]

-- ---- the first pass

pub first_begins : (history : List Call) (key : List ℕ) → FirstKnown history 0 key no_state
first_begins history key = record {
  start = record { most = λ p less want. absurd (omega (arith, less)); is = inl refl };
  end = record { most = λ p less want. absurd (omega (arith, less)); is = inl refl };
  rest = refl;
}

module _ (history : List Call) (upto : ℕ) (call : Call) (at : slice_get history upto ≡ Some call) (old new : List ℕ → KeyState) where
  pub first_next : ((key : List ℕ) → FirstKnown history upto key (old key)) → Changes (is_writing call.act) call (after_first (old call.key) call) old new → (key : List ℕ) → FirstKnown history (upto + 1) key (new key)
  first_next had change = step_all (FirstKnown history) upto (is_writing call.act) call (after_first (old call.key) call) old new change
      (λ test.
      let past = had call.key in
      let here = writes_here history upto call at test in
      record {
        start = subst (λ n. IsTop (λ p. WritesAt history p call.key) (start_at history) (upto + 1) (max (old call.key).start n)) (start_is history upto call at) (top_more (λ p. WritesAt history p call.key) (start_at history) upto (old call.key).start past.start here);
        end = subst (λ n. IsTop (λ p. WritesAt history p call.key) (end_at history) (upto + 1) (max (old call.key).end n)) (end_is history upto call at) (top_more (λ p. WritesAt history p call.key) (end_at history) upto (old call.key).end past.end here);
        rest = ap (λ (s : KeyState). record s { start = max (old call.key).start call.start; end = max (old call.key).end call.end }) past.rest;
      })
      (λ key no'.
      let past = had key in
      let none = writes_not history upto call at key no' in
      record {
        start = top_kept (λ p. WritesAt history p key) (start_at history) upto (old key).start past.start none;
        end = top_kept (λ p. WritesAt history p key) (end_at history) upto (old key).end past.end none;
        rest = past.rest;
      })
