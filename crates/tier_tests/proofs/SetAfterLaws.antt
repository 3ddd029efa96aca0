-- What is found of a set after its page was written, or could not be, and after a strike.
use Rattle.std.proofs.Common.{◌≡◌, ◌≢◌, ℕ, ◌<◌, true, false, cond, List, Option, Some, None, Result, Ok, All, refl, sym, ap, subst, ◌∙◌}
use Rattle.std.proofs.lemmas.Bool.{eq-eqb, false≢true}
use Rattle.std.proofs.lemmas.List.Elements.{All-map, All-same, All-weaker, filter_passes}
use Rattle.std.specs.List.{enumerate_from}
use Rattle.std.specs.Prelude.{IsSome}
use Rattle.std.specs.declared.alloc.AllocError.{AllocError}
use Rattle.set_hash.specs.Fnv.{fnv1a}
use Rattle.record_pages.specs.Looking.{first_with}
use Rattle.record_pages.specs.Recs.{Rec}
use Rattle.record_pages.specs.declared.looked.Looked.{Looked}
use Rattle.record_pages.specs.declared.looked.Looked.TheVariants as looked
use Rattle.kset.specs.declared.set_read.SetRead.{SetRead}
use Rattle.kset.specs.declared.set_read.SetRead.TheVariants as read
use Rattle.kset.specs.declared.set_record.SetRecord.{SetRecord}
use Rattle.kset.specs.After.{with_set}
use Rattle.kset.specs.Look.{SetLookGives}
use Rattle.kset.specs.Notes.{Notes, no_notes, lets_show}
use Rattle.kset.specs.ReadSet.{SetReadGives}
use Rattle.kset.specs.Sets.{SetsState, set_count, notes_of, forgotten, tried}
use Rattle.kset.specs.Shown.{is_visible, visible_from, first_visible, with_flag, with_flags}
use Rattle.kset.proofs.public_laws.NotesLaws.{notes_of-with, lets_show-empty}

ok_same : {A : Type 0} {x y : A} → ◌≡◌ {A = Result A AllocError} (Ok x) (Ok y) → x ≡ y
ok_same same = cc

some_ok : {A : Type 0} {x y : A} → ◌≡◌ {A = Result (Option A) AllocError} (Ok (Some x)) (Ok (Some y)) → x ≡ y
some_ok same = cc

-- if a set shows just these records, none of their keys is absent
pub written_is_there : (visible shown : ℕ → List (ℕ × Rec)) (rs : List Rec) (key : List ℕ) (moment : ℕ) (old new : SetsState) (set : ℕ) (found : Looked) →
    shown ≡ with_set visible set (enumerate_from 0 rs) → IsSome (first_with key rs) → SetLookGives (shown set) key moment old set found new → ◌≢◌ {A = Result (Option Looked) AllocError} (Ok (Some found)) (Ok (Some looked.Absent))
written_is_there visible shown rs key moment old new set found is there gives same =
    let own : shown set ≡ enumerate_from 0 rs = ap (λ (s : ℕ → List (ℕ × Rec)). s set) is ∙ ap (λ b. cond b (enumerate_from 0 rs) (visible set)) (eq-eqb set set refl) in
    let gone : SetLookGives (shown set) key moment old set looked.Absent new = subst (λ (l : Looked). SetLookGives (shown set) key moment old set l new) (some_ok same) gives in
    let none : first_with key rs ≡ None = ap (λ (s : List (ℕ × Rec)). first_visible s key) (sym own) ∙ gone.0 in
    false≢true (subst (λ (o : Option (ℕ × Rec)). IsSome o) none there)

-- no key can show in a set that is forgotten
pub none_shows : (k new : SetsState) (set hash : ℕ) → set < set_count k → new ≡ forgotten (tried k) set → lets_show (notes_of new set) hash ≡ false
none_shows k new set hash within left =
    ap (λ (s : SetsState). lets_show (notes_of s set) hash) left
    ∙ ap (λ (n : Notes). lets_show n hash) (notes_of-with (tried k) set no_notes within)
    ∙ lets_show-empty no_notes hash refl

-- of a key that can't show no record is visible
unseen : (notes : Notes) (key : List ℕ) (rs : List Rec) → lets_show notes (fnv1a key) ≡ false → All (λ (r : SetRecord). r.stored.key ≢ key) (with_flags notes (visible_from notes 0 rs))
unseen notes key rs hidden =
    All-map (λ (r : SetRecord). r.stored.key ≢ key) (with_flag notes) (visible_from notes 0 rs)
    (All-weaker (λ (x : ℕ × Rec). is_visible notes x ≡ true) (λ (x : ℕ × Rec). x.1.key ≢ key)
    (λ x shows same. false≢true (sym hidden ∙ ap (λ (k : List ℕ). lets_show notes (fnv1a k)) (sym same) ∙ shows))
    (visible_from notes 0 rs) (filter_passes (is_visible notes) (enumerate_from 0 rs)))

-- so none is read
pub none_is_read : (notes : Notes) (key : List ℕ) (rs : List Rec) (answer : SetRead) (before after : ℕ) (records : List SetRecord) →
    lets_show notes (fnv1a key) ≡ false → SetReadGives (with_flags notes (visible_from notes 0 rs)) answer before after →
    ◌≡◌ {A = Result SetRead AllocError} (Ok answer) (Ok (read.Records records)) → All (λ (r : SetRecord). r.stored.key ≢ key) records
none_is_read notes key rs answer before after records hidden gives same =
    let all : records ≡ with_flags notes (visible_from notes 0 rs) = subst (λ (a : SetRead). SetReadGives (with_flags notes (visible_from notes 0 rs)) a before after) (ok_same same) gives in
    All-same (λ (r : SetRecord). r.stored.key ≢ key) records (with_flags notes (visible_from notes 0 rs)) all (unseen notes key rs hidden)
