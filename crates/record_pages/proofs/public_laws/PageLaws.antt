-- What is read of a page is spelled so, and what is spelled so is read.
use Rattle.std.proofs.Common.{inl, inr, ◌≡◌, ℕ, ◌+◌, ◌-◌, ◌^◌, ◌<◌, ◌≤◌, Bool, true, false, cond, eqb, ltb, List, ◌++◌, length, replicate, Option, Some, None, refl, sym, ap, subst, ◌∙◌, append_assoc, arith, lit<}
use Rattle.std.specs.Prelude.{All}
use Rattle.std.specs.Int.{w16, w32, w64, to_be_bytes}
use Rattle.std.proofs.lemmas.Bool.{eqb-true, ltb-false, le-ltb}
use Rattle.std.proofs.lemmas.List.{length-append}
use Rattle.std.proofs.lemmas.List.Elements.{All-from_recursion, recursion_from_All}
use Rattle.record_pages.specs.Recs.{Rec, IsRecord}
use Rattle.record_pages.specs.declared.form.RecordForm.{RecordForm}
use Rattle.record_pages.specs.declared.form.RecordForm.TheVariants.{Timed, Lasting}
use Rattle.record_pages.specs.declared.form.SetForm.{SetForm}
use Rattle.record_pages.specs.declared.form.SetForm.TheVariants as set_forms
use Rattle.record_pages.specs.declared.form.PageForm.{PageForm}
use Rattle.record_pages.specs.declared.form.PageForm.TheVariants as page_forms
use Rattle.record_pages.specs.PageText.{CanSay, text_sizes, records_text, body_text, padded_to, records_form, set_magic, log_magic, set_head, log_head, set_text, log_text, SetPageParts, LogPageParts, IsSetPage, IsLogPage, SpellsSetForm, SpellsLogForm, SpellsSetPage, SpellsLogPage, SetPageTextsDiffer, LogPageTextsDiffer}
use Rattle.record_pages.specs.Reading.{◌>>=◌, form_within, limit_of, set_form_of, log_form_of, number_at, records_at, body_at, all_zero, set_page_at, log_page_at}
use Rattle.record_pages.proofs.FrontLaws.{IsBytes, bind_some, guard_some-then, some_is, Takes, Takes-then, wide16, wide32, wide64, number_takes, number_again, zeros_from, zeros_are}
use Rattle.record_pages.proofs.RecordLaws.{records_take, records_again, length-records_text}

-- ---- after the head

-- the bytes after a head hold these records and nothing else
pub record HoldsBody (form : PageForm) (bytes : List ℕ) (rs : List Rec) : Type 0 where
  pub each : All IsRecord rs
  pub said : All (CanSay (form_within form)) rs
  pub few : length rs ≤ limit_of form
  pub room : 2 + text_sizes (form_within form) rs ≤ length bytes
  pub text : bytes ≡ padded_to (length bytes) (body_text (form_within form) rs)

-- a page has at most 128 records
limit_small : (form : PageForm) → limit_of form ≤ 128
limit_small (page_forms.Set set_forms.Large) = omega arith
limit_small (page_forms.Set set_forms.Timed) = omega arith
limit_small (page_forms.Set set_forms.Lasting) = omega arith
limit_small (page_forms.Log form) = omega arith

-- a count, this many records, zeros
body_from : (form : PageForm) (bytes b1 rest : List ℕ) (rs : List Rec) → Takes bytes (to_be_bytes w16 (length rs)) b1 → Takes b1 (records_text (form_within form) rs) rest → length rs ≤ limit_of form → All IsRecord rs → All (CanSay (form_within form)) rs → rest ≡ replicate (length rest) 0 → HoldsBody form bytes rs
body_from form bytes b1 rest rs t0 t1 few each said zeros =
    let both = Takes-then bytes (to_be_bytes w16 (length rs)) b1 (records_text (form_within form) rs) rest t0 t1 in
    let len : length bytes ≡ length (body_text (form_within form) rs) + length rest = ap length both.parts ∙ length-append (body_text (form_within form) rs) rest in
    let text_len : length (body_text (form_within form) rs) ≡ 2 + text_sizes (form_within form) rs = omega (arith, length-records_text (form_within form) rs) in
    let gap : length rest ≡ length bytes - length (body_text (form_within form) rs) = omega (arith, len) in
    record {
      each = each;
      said = said;
      few = few;
      room = omega (arith, len, text_len);
      text = both.parts ∙ ap (λ (z : List ℕ). body_text (form_within form) rs ++ z) (zeros ∙ ap (λ (n : ℕ). replicate n 0) gap);
    }

abbrev last_of_body : List Rec × List ℕ → Option (List Rec)
last_of_body x = cond (all_zero x.1) (Some x.0) None

abbrev rest_of_body : PageForm → ℕ × List ℕ → Option (List Rec)
rest_of_body form count = cond (ltb (limit_of form) count.0) None (records_at (form_within form) count.0 count.1 >>= λ x. last_of_body x)

-- a test that stopped nothing
guard_passed : {A : Type 0} (b : Bool) (o : Option A) (y : A) → cond b None o ≡ Some y → (b ≡ false) × (o ≡ Some y)
guard_passed true o y e = absurd cc
guard_passed false o y e = (refl, e)

pub body_takes : (form : PageForm) (bytes : List ℕ) (rs : List Rec) → IsBytes bytes → body_at form bytes ≡ Some rs → HoldsBody form bytes rs
unfolding body_at
body_takes form bytes rs fits e =
    let a = bind_some (number_at w16 bytes) (rest_of_body form) rs e in
    let g = guard_passed (ltb (limit_of form) a.0.0) (records_at (form_within form) a.0.0 a.0.1 >>= λ x. last_of_body x) rs a.2 in
    let b = bind_some (records_at (form_within form) a.0.0 a.0.1) last_of_body rs g.1 in
    let z = guard_some-then (all_zero b.0.1) b.0.0 rs b.2 in
    let t0 = number_takes w16 (2 ^ 16) wide16 bytes a.0.0 a.0.1 fits a.1 in
    let t1 = records_take (form_within form) a.0.0 a.0.1 b.0 t0.0.rest_fits b.1 in
    let counted : Takes bytes (to_be_bytes w16 (length b.0.0)) a.0.1 = subst (λ (n : ℕ). Takes bytes (to_be_bytes w16 n) a.0.1) (sym t1.many) t0.0 in
    let few : length b.0.0 ≤ limit_of form = omega (arith, t1.many, ltb-false (limit_of form) a.0.0 g.0) in
    subst (HoldsBody form bytes) z.1 (body_from form bytes a.0.1 b.0.1 b.0.0 counted t1.takes few (All-from_recursion IsRecord b.0.0 t1.each) (All-from_recursion (CanSay (form_within form)) b.0.0 t1.said) (zeros_from b.0.1 z.0))

pub body_again : (form : PageForm) (rs : List Rec) (n : ℕ) → All IsRecord rs → All (CanSay (form_within form)) rs → length rs ≤ limit_of form → body_at form (to_be_bytes w16 (length rs) ++ (records_text (form_within form) rs ++ replicate n 0)) ≡ Some rs
unfolding body_at
body_again form rs n each said few =
    let passes : ltb (limit_of form) (length rs) ≡ false = le-ltb (limit_of form) (length rs) few in
    rw (number_again w16 (2 ^ 16) wide16 (length rs) (records_text (form_within form) rs ++ replicate n 0) (omega (arith, few, limit_small form)), passes, records_again (form_within form) rs (replicate n 0) (recursion_from_All IsRecord rs each) (recursion_from_All (CanSay (form_within form)) rs said), zeros_are n) refl

-- ---- a head and a body

-- a page is its head and its body, and the zeros of the body end the page
page_from : (form : PageForm) (bytes head rest : List ℕ) (rs : List Rec) → Takes bytes head rest → HoldsBody form rest rs → bytes ≡ padded_to (length bytes) (head ++ body_text (form_within form) rs)
page_from form bytes head rest rs t h =
    let body = body_text (form_within form) rs in
    let len : length bytes ≡ length head + length rest = ap length t.parts ∙ length-append head rest in
    let gap : length rest - length body ≡ length bytes - length (head ++ body) = omega (arith, len, length-append head body) in
    t.parts ∙ ap (λ (z : List ℕ). head ++ z) h.text ∙ sym (append_assoc head body (replicate (length rest - length body) 0))
    ∙ ap (λ (n : ℕ). (head ++ body) ++ replicate n 0) gap

-- the first four bytes are those of the form that is tested, or of one of the others
tested : {F : Type 0} (magic_of : F → ℕ) (magic : ℕ) (this form : F) (others : Option F) → (others ≡ Some form → magic ≡ magic_of form) → (b : Bool) → eqb magic (magic_of this) ≡ b → cond b (Some this) others ≡ Some form → magic ≡ magic_of form
tested magic_of magic this form others other true same e = eqb-true magic (magic_of this) same ∙ ap magic_of (some_is this form e)
tested magic_of magic this form others other false same e = other e

no_other : {F : Type 0} (magic_of : F → ℕ) (magic : ℕ) (form : F) → None ≡ Some form → magic ≡ magic_of form
no_other magic_of magic form e = absurd cc

set_magic_is : (magic : ℕ) (form : SetForm) → set_form_of magic ≡ Some form → magic ≡ set_magic form
set_magic_is magic form is =
    tested set_magic magic set_forms.Large form _
    (tested set_magic magic set_forms.Timed form _ (tested set_magic magic set_forms.Lasting form None (no_other set_magic magic form) (eqb magic (set_magic set_forms.Lasting)) refl) (eqb magic (set_magic set_forms.Timed)) refl)
    (eqb magic (set_magic set_forms.Large)) refl is

log_magic_is : (magic : ℕ) (form : RecordForm) → log_form_of magic ≡ Some form → magic ≡ log_magic form
log_magic_is magic form is =
    tested log_magic magic Timed form _ (tested log_magic magic Lasting form None (no_other log_magic magic form) (eqb magic (log_magic Lasting)) refl) (eqb magic (log_magic Timed)) refl is

-- ---- set pages

pub set_page_takes : (bytes : List ℕ) (p : SetPageParts) → IsBytes bytes → set_page_at bytes ≡ Some p → SpellsSetPage (length bytes) bytes p
unfolding set_page_at set_text
set_page_takes bytes p fits e =
    let a = bind_some (number_at w32 bytes) (λ magic. set_form_of magic.0 >>= λ form. number_at w32 magic.1 >>= λ set. number_at w64 set.1 >>= λ write. body_at (page_forms.Set form) write.1 >>= λ rs. Some (record { set = set.0; write = write.0; records = rs })) p e in
    let m = bind_some (set_form_of a.0.0) (λ form. number_at w32 a.0.1 >>= λ set. number_at w64 set.1 >>= λ write. body_at (page_forms.Set form) write.1 >>= λ rs. Some (record { set = set.0; write = write.0; records = rs })) p a.2 in
    let b = bind_some (number_at w32 a.0.1) (λ set. number_at w64 set.1 >>= λ write. body_at (page_forms.Set m.0) write.1 >>= λ rs. Some (record { set = set.0; write = write.0; records = rs })) p m.2 in
    let d = bind_some (number_at w64 b.0.1) (λ write. body_at (page_forms.Set m.0) write.1 >>= λ rs. Some (record { set = b.0.0; write = write.0; records = rs })) p b.2 in
    let f = bind_some (body_at (page_forms.Set m.0) d.0.1) (λ rs. Some (record { set = b.0.0; write = d.0.0; records = rs })) p d.2 in
    let t0 = number_takes w32 (2 ^ 32) wide32 bytes a.0.0 a.0.1 fits a.1 in
    let t1 = number_takes w32 (2 ^ 32) wide32 a.0.1 b.0.0 b.0.1 t0.0.rest_fits b.1 in
    let t2 = number_takes w64 (2 ^ 64) wide64 b.0.1 d.0.0 d.0.1 t1.0.rest_fits d.1 in
    let magic : Takes bytes (to_be_bytes w32 (set_magic m.0)) a.0.1 = subst (λ (n : ℕ). Takes bytes (to_be_bytes w32 n) a.0.1) (set_magic_is a.0.0 m.0 m.1) t0.0 in
    let two = Takes-then a.0.1 (to_be_bytes w32 b.0.0) b.0.1 (to_be_bytes w64 d.0.0) d.0.1 t1.0 t2.0 in
    let head = Takes-then bytes (to_be_bytes w32 (set_magic m.0)) a.0.1 (to_be_bytes w32 b.0.0 ++ to_be_bytes w64 d.0.0) d.0.1 magic two in
    let body = body_takes (page_forms.Set m.0) d.0.1 f.0 t2.0.rest_fits f.1 in
    let len : length bytes ≡ 16 + length d.0.1 = ap length head.parts ∙ length-append (set_head m.0 b.0.0 d.0.0) d.0.1 in
    let lawful : IsSetPage m.0 (length bytes) (record { set = b.0.0; write = d.0.0; records = f.0 }) = record { set_fits = t1.1; write_fits = t2.1; each = body.each; said = body.said; few = body.few; room = omega (arith, len, body.room) } in
    set_either m.0 (length bytes) bytes p (subst (SpellsSetForm m.0 (length bytes) bytes) (some_is (record { set = b.0.0; write = d.0.0; records = f.0 }) p f.2) (record { lawful = lawful; text = page_from (page_forms.Set m.0) bytes (set_head m.0 b.0.0 d.0.0) d.0.1 f.0 head body }))
  where
    set_either : (form : SetForm) (size : ℕ) (bytes : List ℕ) (p : SetPageParts) → SpellsSetForm form size bytes p → SpellsSetPage size bytes p
    set_either set_forms.Large size bytes p s = inl s
    set_either set_forms.Timed size bytes p s = inr (inl s)
    set_either set_forms.Lasting size bytes p s = inr (inr s)

set_page_again : (form : SetForm) (size : ℕ) (p : SetPageParts) → IsSetPage form size p → set_page_at (set_text form size p.set p.write p.records) ≡ Some p
unfolding set_page_at set_text
set_page_again form size p is =
    let a = to_be_bytes w32 (set_magic form) in
    let b = to_be_bytes w32 p.set in
    let d = to_be_bytes w64 p.write in
    let n = to_be_bytes w16 (length p.records) in
    let gap = size - length (set_head form p.set p.write ++ body_text (records_form form) p.records) in
    let body = n ++ (records_text (records_form form) p.records ++ replicate gap 0) in
    let regrouped : ((a ++ (b ++ d)) ++ (n ++ records_text (records_form form) p.records)) ++ replicate gap 0 ≡ a ++ (b ++ (d ++ body)) = simp append_assoc in
    ap set_page_at regrouped ∙ rw (number_again w32 (2 ^ 32) wide32 (set_magic form) (b ++ (d ++ body)) (set_magic_fits form), set_form form, number_again w32 (2 ^ 32) wide32 p.set (d ++ body) is.set_fits, number_again w64 (2 ^ 64) wide64 p.write body is.write_fits, body_again (page_forms.Set form) p.records gap is.each is.said is.few) refl
  where
    set_magic_fits : (form : SetForm) → set_magic form < 2 ^ 32
    set_magic_fits set_forms.Large = lit< tt
    set_magic_fits set_forms.Timed = lit< tt
    set_magic_fits set_forms.Lasting = lit< tt

    set_form : (form : SetForm) → set_form_of (set_magic form) ≡ Some form
    set_form set_forms.Large = refl
    set_form set_forms.Timed = refl
    set_form set_forms.Lasting = refl

pub set_page_only : (size : ℕ) (bytes : List ℕ) (p : SetPageParts) → SpellsSetPage size bytes p → set_page_at bytes ≡ Some p
set_page_only size bytes p (inl s) = ap set_page_at s.text ∙ set_page_again set_forms.Large size p s.lawful
set_page_only size bytes p (inr (inl s)) = ap set_page_at s.text ∙ set_page_again set_forms.Timed size p s.lawful
set_page_only size bytes p (inr (inr s)) = ap set_page_at s.text ∙ set_page_again set_forms.Lasting size p s.lawful

pub set_page_texts_differ : (size : ℕ) → SetPageTextsDiffer size
set_page_texts_differ size bytes p q is_p is_q = some_is p q (sym (set_page_only size bytes p is_p) ∙ set_page_only size bytes q is_q)

-- ---- log pages

pub log_page_takes : (bytes : List ℕ) (p : LogPageParts) → IsBytes bytes → log_page_at bytes ≡ Some p → SpellsLogPage (length bytes) bytes p
unfolding log_page_at log_text
log_page_takes bytes p fits e =
    let a = bind_some (number_at w32 bytes) (λ magic. log_form_of magic.0 >>= λ form. number_at w64 magic.1 >>= λ segment. number_at w16 segment.1 >>= λ page. body_at (page_forms.Log form) page.1 >>= λ rs. Some (record { segment = segment.0; page = page.0; records = rs })) p e in
    let m = bind_some (log_form_of a.0.0) (λ form. number_at w64 a.0.1 >>= λ segment. number_at w16 segment.1 >>= λ page. body_at (page_forms.Log form) page.1 >>= λ rs. Some (record { segment = segment.0; page = page.0; records = rs })) p a.2 in
    let b = bind_some (number_at w64 a.0.1) (λ segment. number_at w16 segment.1 >>= λ page. body_at (page_forms.Log m.0) page.1 >>= λ rs. Some (record { segment = segment.0; page = page.0; records = rs })) p m.2 in
    let d = bind_some (number_at w16 b.0.1) (λ page. body_at (page_forms.Log m.0) page.1 >>= λ rs. Some (record { segment = b.0.0; page = page.0; records = rs })) p b.2 in
    let f = bind_some (body_at (page_forms.Log m.0) d.0.1) (λ rs. Some (record { segment = b.0.0; page = d.0.0; records = rs })) p d.2 in
    let t0 = number_takes w32 (2 ^ 32) wide32 bytes a.0.0 a.0.1 fits a.1 in
    let t1 = number_takes w64 (2 ^ 64) wide64 a.0.1 b.0.0 b.0.1 t0.0.rest_fits b.1 in
    let t2 = number_takes w16 (2 ^ 16) wide16 b.0.1 d.0.0 d.0.1 t1.0.rest_fits d.1 in
    let magic : Takes bytes (to_be_bytes w32 (log_magic m.0)) a.0.1 = subst (λ (n : ℕ). Takes bytes (to_be_bytes w32 n) a.0.1) (log_magic_is a.0.0 m.0 m.1) t0.0 in
    let two = Takes-then a.0.1 (to_be_bytes w64 b.0.0) b.0.1 (to_be_bytes w16 d.0.0) d.0.1 t1.0 t2.0 in
    let head = Takes-then bytes (to_be_bytes w32 (log_magic m.0)) a.0.1 (to_be_bytes w64 b.0.0 ++ to_be_bytes w16 d.0.0) d.0.1 magic two in
    let body = body_takes (page_forms.Log m.0) d.0.1 f.0 t2.0.rest_fits f.1 in
    let len : length bytes ≡ 14 + length d.0.1 = ap length head.parts ∙ length-append (log_head m.0 b.0.0 d.0.0) d.0.1 in
    let lawful : IsLogPage m.0 (length bytes) (record { segment = b.0.0; page = d.0.0; records = f.0 }) = record { segment_fits = t1.1; page_fits = t2.1; each = body.each; said = body.said; few = body.few; room = omega (arith, len, body.room) } in
    log_either m.0 (length bytes) bytes p (subst (SpellsLogForm m.0 (length bytes) bytes) (some_is (record { segment = b.0.0; page = d.0.0; records = f.0 }) p f.2) (record { lawful = lawful; text = page_from (page_forms.Log m.0) bytes (log_head m.0 b.0.0 d.0.0) d.0.1 f.0 head body }))
  where
    log_either : (form : RecordForm) (size : ℕ) (bytes : List ℕ) (p : LogPageParts) → SpellsLogForm form size bytes p → SpellsLogPage size bytes p
    log_either Timed size bytes p s = inl s
    log_either Lasting size bytes p s = inr s

log_page_again : (form : RecordForm) (size : ℕ) (p : LogPageParts) → IsLogPage form size p → log_page_at (log_text form size p.segment p.page p.records) ≡ Some p
unfolding log_page_at log_text
log_page_again form size p is =
    let a = to_be_bytes w32 (log_magic form) in
    let b = to_be_bytes w64 p.segment in
    let d = to_be_bytes w16 p.page in
    let n = to_be_bytes w16 (length p.records) in
    let gap = size - length (log_head form p.segment p.page ++ body_text form p.records) in
    let body = n ++ (records_text form p.records ++ replicate gap 0) in
    let regrouped : ((a ++ (b ++ d)) ++ (n ++ records_text form p.records)) ++ replicate gap 0 ≡ a ++ (b ++ (d ++ body)) = simp append_assoc in
    ap log_page_at regrouped ∙ rw (number_again w32 (2 ^ 32) wide32 (log_magic form) (b ++ (d ++ body)) (log_magic_fits form), log_form form, number_again w64 (2 ^ 64) wide64 p.segment (d ++ body) is.segment_fits, number_again w16 (2 ^ 16) wide16 p.page body is.page_fits, body_again (page_forms.Log form) p.records gap is.each is.said is.few) refl
  where
    log_magic_fits : (form : RecordForm) → log_magic form < 2 ^ 32
    log_magic_fits Timed = lit< tt
    log_magic_fits Lasting = lit< tt

    log_form : (form : RecordForm) → log_form_of (log_magic form) ≡ Some form
    log_form Timed = refl
    log_form Lasting = refl

pub log_page_only : (size : ℕ) (bytes : List ℕ) (p : LogPageParts) → SpellsLogPage size bytes p → log_page_at bytes ≡ Some p
log_page_only size bytes p (inl s) = ap log_page_at s.text ∙ log_page_again Timed size p s.lawful
log_page_only size bytes p (inr s) = ap log_page_at s.text ∙ log_page_again Lasting size p s.lawful

pub log_page_texts_differ : (size : ℕ) → LogPageTextsDiffer size
log_page_texts_differ size bytes p q is_p is_q = some_is p q (sym (log_page_only size bytes p is_p) ∙ log_page_only size bytes q is_q)
