-- One record more of a page, visible or not.
use Rattle.std.proofs.Common.{◌≡◌, ◌≢◌, ℕ, ◌+◌, Bool, true, false, cond, List, [], ◌∷◌, ◌++◌, sym, ap, ◌∙◌, append_assoc}
use Rattle.std.specs.FinSet.{contains}
use Rattle.record_pages.specs.Recs.{Rec}
use Rattle.set_hash.specs.Fnv.{fnv1a}
use Rattle.kset.specs.declared.set_record.SetRecord.{SetRecord}
use Rattle.kset.specs.Notes.{Notes, lets_show}
use Rattle.kset.specs.Shown.{visible_from, with_flag, with_flags}

-- what is visible from a slot on, with its flags
abbrev pub flagged : Notes → ℕ → List Rec → List SetRecord
flagged notes slot rs = with_flags notes (visible_from notes slot rs)

flagged_by : (notes : Notes) (slot : ℕ) (r : Rec) (rs : List Rec) (b : Bool) → lets_show notes (fnv1a r.key) ≡ b →
    flagged notes slot (r ∷ rs) ≡ with_flags notes (cond b ((slot, r) ∷ visible_from notes (slot + 1) rs) (visible_from notes (slot + 1) rs))
flagged_by notes slot r rs b is = ap (λ (v : Bool). with_flags notes (cond v ((slot, r) ∷ visible_from notes (slot + 1) rs) (visible_from notes (slot + 1) rs))) is

-- a record that is hidden adds nothing
pub hidden_adds : (notes : Notes) (slot : ℕ) (old new : List Rec) (r : Rec) (hash : ℕ) (shown all : List SetRecord) → old ≡ r ∷ new → hash ≡ fnv1a r.key → false ≡ lets_show notes hash →
    shown ++ flagged notes slot old ≡ all → shown ++ flagged notes (slot + 1) new ≡ all
hidden_adds notes slot old new r hash shown all is hashed hides so_far =
    let hidden : lets_show notes (fnv1a r.key) ≡ false = sym (hides ∙ ap (lets_show notes) hashed) in
    sym (ap (λ (rs : List Rec). shown ++ flagged notes slot rs) is ∙ ap (λ (xs : List SetRecord). shown ++ xs) (flagged_by notes slot r new false hidden)) ∙ so_far

-- a record that is visible comes first of those that were left
visible_first : (notes : Notes) (slot : ℕ) (old new : List Rec) (r : Rec) (hash : ℕ) → old ≡ r ∷ new → hash ≡ fnv1a r.key → true ≡ lets_show notes hash →
    flagged notes slot old ≡ with_flag notes (slot, r) ∷ flagged notes (slot + 1) new
visible_first notes slot old new r hash is hashed shows =
    let visible : lets_show notes (fnv1a r.key) ≡ true = sym (shows ∙ ap (lets_show notes) hashed) in
    ap (flagged notes slot) is ∙ flagged_by notes slot r new true visible

-- it is added with its flag
pub visible_adds : (notes : Notes) (slot : ℕ) (old new : List Rec) (r stored : Rec) (hash : ℕ) (hit : Bool) (shown more all : List SetRecord) → old ≡ r ∷ new → hash ≡ fnv1a r.key → true ≡ lets_show notes hash →
    stored ≡ r → hit ≡ contains notes.hits slot → more ≡ shown ++ record { stored = stored; hit = hit } ∷ [] → shown ++ flagged notes slot old ≡ all → more ++ flagged notes (slot + 1) new ≡ all
visible_adds notes slot old new r stored hash hit shown more all is hashed shows stored_is hit_is more_is so_far =
    let flag : ◌≡◌ {A = SetRecord} (record { stored = stored; hit = hit }) (with_flag notes (slot, r)) = λ i. record { stored = stored_is i; hit = hit_is i } in
    ap (λ (xs : List SetRecord). xs ++ flagged notes (slot + 1) new) more_is
    ∙ append_assoc shown (record { stored = stored; hit = hit } ∷ []) (flagged notes (slot + 1) new)
    ∙ ap (λ (x : SetRecord). shown ++ x ∷ flagged notes (slot + 1) new) flag
    ∙ sym (ap (λ (xs : List SetRecord). shown ++ xs) (visible_first notes slot old new r hash is hashed shows))
    ∙ so_far

not_nil : {X : Type 0} (xs : List X) (y : X) (ys : List X) → xs ++ y ∷ ys ≡ [] → ⊥
not_nil [] y ys e = absurd cc
not_nil (x ∷ xs) y ys e = absurd cc

-- then some record of the page is visible
pub some_visible : (notes : Notes) (slot : ℕ) (old new : List Rec) (r : Rec) (hash : ℕ) (shown : List SetRecord) (visible : List (ℕ × Rec)) → old ≡ r ∷ new → hash ≡ fnv1a r.key → true ≡ lets_show notes hash →
    shown ++ flagged notes slot old ≡ with_flags notes visible → visible ≢ []
some_visible notes slot old new r hash shown visible is hashed shows so_far none =
    not_nil shown (with_flag notes (slot, r)) (flagged notes (slot + 1) new)
    (sym (ap (λ (xs : List SetRecord). shown ++ xs) (visible_first notes slot old new r hash is hashed shows)) ∙ so_far ∙ ap (with_flags notes) none)
