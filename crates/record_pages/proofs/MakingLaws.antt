-- What writes into a page leave there.
use Rattle.std.proofs.Common.{inl, inr, ◌≡◌, ℕ, suc, ◌+◌, ◌-◌, ◌*◌, ◌^◌, ◌<◌, ◌≤◌, List, [], ◌∷◌, ◌++◌, length, take, drop, replicate, get_or, Option, Some, true, refl, sym, ap, subst, ◌∙◌, append_assoc, arith}
use Rattle.std.specs.Prelude.{◌&&◌, is_some, IsTrue, All, nat_le, slice_get, slice_set}
use Rattle.std.specs.Option.{option_map_or}
use Rattle.std.specs.Int.{w16, to_be_bytes}
use Rattle.std.specs.List.{AllByRecursion}
use Rattle.std.proofs.Math.Seq.{take-append_seam}
use Rattle.std.proofs.lemmas.Grind.{get_or-set_at}
use Rattle.std.proofs.lemmas.Bool.{cases_eq, and_parts, and_from, leb-true, le-leb}
use Rattle.std.proofs.lemmas.List.{append-nil, take-append-drop, take-append-le, take_all, length-append, length-drop, take_more, get_or-set_other}
use Rattle.std.proofs.lemmas.Option.{slice_get_cases}
use Rattle.std.proofs.lemmas.List.Concat.{flat_map-append}
use Rattle.std.proofs.lemmas.List.Elements.{All-nil, All-push, All-from_recursion, recursion_from_All}
use Rattle.std.proofs.lemmas.List.Sums.{sum_by-cons, sum_by_push}
use Rattle.record_pages.specs.Sizes.{room, max_set_records, max_log_records}
use Rattle.record_pages.specs.Recs.{Rec, IsRecord, size, sizes, fit, fit_log}
use Rattle.record_pages.specs.PageText.{CanSay, record_text, records_text, body_text, padded_to, set_head, log_head, set_text, log_text, SpellsSetForm, SpellsLogForm}
use Rattle.record_pages.specs.declared.form.RecordForm.TheVariants.{Timed}
use Rattle.record_pages.specs.declared.form.SetForm.TheVariants.{Large}
use Rattle.record_pages.specs.Reading.{record_at, records_at, records_of}
use Rattle.record_pages.specs.Making.{HoldsRecords, IsInTheMaking, AreStarts, IsLogInTheMaking}
use Rattle.record_pages.proofs.RecordLaws.{records_again, record_from, length-records_text, said_all}

-- ---- records that fit

-- what fits is within the room, and at most this many
pub record Fits (most page : ℕ) (rs : List Rec) : Type 0 where
  pub room : sizes rs ≤ room page
  pub few : length rs ≤ most

parts : (most page : ℕ) (rs : List Rec) → IsTrue (nat_le (sizes rs) (room page) && nat_le (length rs) most) → Fits most page rs
parts most page rs e =
    let a = and_parts (nat_le (sizes rs) (room page)) (nat_le (length rs) most) e in
    record { room = leb-true _ _ a.0; few = leb-true _ _ a.1 }

pub fit_parts : (page : ℕ) (rs : List Rec) → IsTrue (fit page rs) → Fits max_set_records page rs
fit_parts page rs e = parts max_set_records page rs e

pub fit_log_parts : (page : ℕ) (rs : List Rec) → IsTrue (fit_log page rs) → Fits max_log_records page rs
fit_log_parts page rs e = parts max_log_records page rs e

pub fit_from : (page : ℕ) (rs : List Rec) → Fits max_set_records page rs → IsTrue (fit page rs)
fit_from page rs f = and_from (nat_le (sizes rs) (room page)) (nat_le (length rs) max_set_records) (le-leb _ _ f.room) (le-leb _ _ f.few)

-- ---- texts

pub records_text_push : (rs : List Rec) (r : Rec) → records_text Timed (rs ++ r ∷ []) ≡ records_text Timed rs ++ record_text Timed r
unfolding records_text
records_text_push rs r =
    flat_map-append (record_text Timed) rs (r ∷ []) ∙ ap (λ (t : List ℕ). records_text Timed rs ++ t) (append-nil (record_text Timed r))

-- ---- records that are written one after the other

-- four texts were written one after the other
pub four_puts : (t0 t1 t2 t3 t4 a b d e : List ℕ) → t1 ≡ t0 ++ a → t2 ≡ t1 ++ b → t3 ≡ t2 ++ d → t4 ≡ t3 ++ e → t4 ≡ t0 ++ (a ++ (b ++ (d ++ e)))
four_puts t0 t1 t2 t3 t4 a b d e e1 e2 e3 e4 =
    let flat : (((t0 ++ a) ++ b) ++ d) ++ e ≡ t0 ++ (a ++ (b ++ (d ++ e))) = simp append_assoc in
    e4 ∙ ap (λ (t : List ℕ). t ++ e) (e3 ∙ ap (λ (t : List ℕ). t ++ d) (e2 ∙ ap (λ (t : List ℕ). t ++ b) e1)) ∙ flat

-- the first records of a list were written after what stood before a place
pub record PutSoFar (xs : List Rec) (i at end : ℕ) (before after : List ℕ) : Type 0 where
  pub text : take end after ≡ take at before ++ records_text Timed (take i xs)
  pub end_is : end ≡ at + sizes (take i xs)
  pub each : All IsRecord (take i xs)

pub put_none : (xs : List Rec) (at : ℕ) (before : List ℕ) → PutSoFar xs 0 at at before before
unfolding records_text
put_none xs at before = record { text = sym (append-nil (take at before)); end_is = omega arith; each = All-nil IsRecord }

pub put_more : (xs : List Rec) (i at end : ℕ) (before after : List ℕ) (r : Rec) (end' : ℕ) (after' : List ℕ) → PutSoFar xs i at end before after → i < length xs → r ≡ get_or xs i r → IsRecord r
    → take end' after' ≡ take end after ++ record_text Timed r → end' ≡ end + size r → PutSoFar xs (i + 1) at end' before after'
put_more xs i at end before after r end' after' so_far lt is lawful text end'_is =
    let more : take (i + 1) xs ≡ take i xs ++ r ∷ [] = take_more xs i r lt ∙ ap (λ (q : Rec). take i xs ++ q ∷ []) (sym is) in
    let told : take end' after' ≡ take at before ++ records_text Timed (take i xs ++ r ∷ []) =
    text ∙ ap (λ (t : List ℕ). t ++ record_text Timed r) so_far.text ∙ append_assoc (take at before) (records_text Timed (take i xs)) (record_text Timed r)
    ∙ ap (λ (t : List ℕ). take at before ++ t) (sym (records_text_push (take i xs) r)) in
    record {
      text = told ∙ ap (λ (ys : List Rec). take at before ++ records_text Timed ys) (sym more);
      end_is = omega (arith, end'_is, so_far.end_is, sum_by_push size (take i xs) r, ap sizes more);
      each = subst (All IsRecord) (sym more) (All-push IsRecord (take i xs) r so_far.each lawful);
    }

-- ---- a page in the making

pub parsed : (page : ℕ) (bytes : List ℕ) (used count : ℕ) (rs : List Rec) → HoldsRecords page bytes used count rs → records_at Timed count bytes ≡ Some (rs, drop used bytes)
parsed page bytes used count rs h =
    ap (λ (n : ℕ). records_at Timed n bytes) h.count_is
    ∙ ap (records_at Timed (length rs)) (sym (take-append-drop used bytes) ∙ ap (λ (t : List ℕ). t ++ drop used bytes) h.text)
    ∙ records_again Timed rs (drop used bytes) (recursion_from_All IsRecord rs h.each) (said_all rs)

-- the records that a walk over the bytes would meet
pub shows : (page : ℕ) (bytes : List ℕ) (used count : ℕ) (rs : List Rec) → HoldsRecords page bytes used count rs → records_of Timed count bytes ≡ rs
shows page bytes used count rs h = ap (λ (o : Option (List Rec × List ℕ)). option_map_or (λ x. x.0) o []) (parsed page bytes used count rs h)

pub is_there : (page : ℕ) (bytes : List ℕ) (used count : ℕ) → IsInTheMaking page bytes used count → is_some (records_at Timed count bytes) ≡ true
is_there page bytes used count making =
    ap (λ (o : Option (List Rec × List ℕ)). is_some o) (parsed page bytes used count (records_of Timed count bytes) making)

pub in_the_making : (page : ℕ) (bytes : List ℕ) (used count : ℕ) (rs : List Rec) → HoldsRecords page bytes used count rs → IsInTheMaking page bytes used count
in_the_making page bytes used count rs h = subst (HoldsRecords page bytes used count) (sym (shows page bytes used count rs h)) h

pub holds_none : (page : ℕ) (bytes : List ℕ) → HoldsRecords page bytes 0 0 []
unfolding records_text
holds_none page bytes = record { text = refl; used_is = refl; count_is = refl; each = All-nil IsRecord; fits = fit_from page [] (record { room = omega arith; few = omega arith }) }

-- one record more
pub holds_push : (page : ℕ) (bytes : List ℕ) (used count : ℕ) (old : List Rec) (r : Rec) (bytes' : List ℕ) (used' : ℕ) → IsInTheMaking page bytes used count → records_of Timed count bytes ≡ old → IsRecord r → IsTrue (fit page (old ++ r ∷ []))
    → take used' bytes' ≡ take used bytes ++ record_text Timed r → used' ≡ used + size r → HoldsRecords page bytes' used' (count + 1) (old ++ r ∷ [])
holds_push page bytes used count old r bytes' used' making shown is fits text end =
    let h : HoldsRecords page bytes used count old = subst (HoldsRecords page bytes used count) shown making in
    record {
      text = text ∙ ap (λ (t : List ℕ). t ++ record_text Timed r) h.text ∙ sym (records_text_push old r);
      used_is = omega (arith, end, h.used_is, sum_by_push size old r);
      count_is = omega (arith, h.count_is, length-append old (r ∷ []));
      each = All-push IsRecord old r h.each is;
      fits = fits;
    }

-- a record is read where it begins
pub reads_from : (page : ℕ) (bytes : List ℕ) (used count : ℕ) (rs : List Rec) (slot start : ℕ) (r : Rec) → HoldsRecords page bytes used count rs → slice_get rs slot ≡ Some r → start ≡ sizes (take slot rs) → record_at Timed (drop start bytes) ≡ Some (r, records_text Timed (drop (suc slot) rs) ++ drop used bytes)
reads_from page bytes used count rs slot start r h at start_is =
    ap (λ (n : ℕ). record_at Timed (drop n bytes)) start_is
    ∙ ap (λ (t : List ℕ). record_at Timed (drop (sizes (take slot rs)) t)) (sym (take-append-drop used bytes) ∙ ap (λ (t : List ℕ). t ++ drop used bytes) h.text)
    ∙ record_from rs slot (drop used bytes) r (recursion_from_All IsRecord rs h.each) at

-- the record at a place, and that it is read there
pub record Stands (rs : List Rec) (slot : ℕ) (bytes : List ℕ) : Type 0 where
  pub r : Rec
  pub rest : List ℕ
  pub at : slice_get rs slot ≡ Some r
  pub read : record_at Timed bytes ≡ Some (r, rest)

pub stands : (page : ℕ) (bytes : List ℕ) (used count : ℕ) (rs : List Rec) (slot start : ℕ) → HoldsRecords page bytes used count rs → slot < length rs → start ≡ sizes (take slot rs) → Stands rs slot (take (length bytes - start) (drop start bytes))
stands page bytes used count rs slot start h within start_is = elim (slice_get_cases rs slot).1 [
  | inl x ↦ record {
    r = x.0;
    rest = records_text Timed (drop (suc slot) rs) ++ drop used bytes;
    at = x.2;
    read = ap (record_at Timed) (take_all (length bytes - start) (drop start bytes) (omega (arith, length-drop start bytes)))
        ∙ reads_from page bytes used count rs slot start x.0 h x.2 start_is;
  }
  | inr past ↦ absurd (omega (arith, past.0, within))
]

-- where a record more begins is noted
pub starts_push : (rs : List Rec) (starts : List ℕ) (r : Rec) → AreStarts rs starts → length rs < length starts → AreStarts (rs ++ r ∷ []) (slice_set starts (length rs) (sizes rs))
starts_push rs starts r old enough slot within = elim (cases_eq slot (length rs)) [
  | inl same ↦
      get_or-set_at starts (length rs) slot (sizes rs) 0 same enough
      ∙ ap sizes (sym (ap (λ (n : ℕ). take n (rs ++ r ∷ [])) same ∙ take-append_seam rs (r ∷ [])))
  | inr other ↦
      let lt : slot < length rs = omega (arith, within, other, length-append rs (r ∷ [])) in
      get_or-set_other starts (length rs) slot (sizes rs) 0 other ∙ old slot lt ∙ ap sizes (sym (take-append-le slot rs (r ∷ []) (omega (arith, lt))))
]

-- one record more on a log page
pub log_push : (rs : List Rec) (noted : List ℕ) (r : Rec) → IsLogInTheMaking rs noted → length rs < max_log_records → length rs < length noted → IsLogInTheMaking (rs ++ r ∷ []) (slice_set noted (length rs) (sizes rs))
log_push rs noted r old few enough = record { few = omega (arith, few, length-append rs (r ∷ [])); starts = starts_push rs noted r old.starts enough }

sizes_within : (rs : List Rec) → AllByRecursion IsRecord rs → sizes rs ≤ 2315 * length rs
sizes_within [] each = omega arith
sizes_within (r ∷ rs) each = omega (arith, each.0.key.1, each.0.value, sizes_within rs each.1, sum_by-cons size r rs)

-- what the records on a page take is far below 2 ^ 32
pub sizes_small : (page : ℕ) (rs : List Rec) → IsTrue (fit page rs) → All IsRecord rs → sizes rs < 2 ^ 32
sizes_small page rs fits each = omega (arith, (fit_parts page rs fits).few, sizes_within rs (recursion_from_All IsRecord rs each))

-- ---- whole pages

-- a header, records after it and zeros to the end were written
pub record Written (page : ℕ) (head new : List ℕ) (rs : List Rec) (at end : ℕ) (first front : List ℕ) : Type 0 where
  pub first_is : take at first ≡ head ++ to_be_bytes w16 (length rs)
  pub at_is : at ≡ length head + 2
  pub front_is : take end front ≡ take at first ++ records_text Timed rs
  pub end_is : end ≡ at + sizes rs
  pub new_is : new ≡ take end front ++ replicate (length front - end) 0
  pub whole : length front ≡ page
  pub fits : IsTrue (fit page rs)
  pub each : All IsRecord rs

pub written_text : (page : ℕ) (head new : List ℕ) (rs : List Rec) (at end : ℕ) (first front : List ℕ) → Written page head new rs at end first front → new ≡ padded_to page (head ++ body_text Timed rs)
written_text page head new rs at end first front w =
    let text : take end front ≡ head ++ body_text Timed rs = w.front_is ∙ ap (λ (t : List ℕ). t ++ records_text Timed rs) w.first_is ∙ append_assoc head (to_be_bytes w16 (length rs)) (records_text Timed rs) in
    let len : end ≡ length (head ++ body_text Timed rs) = omega (arith, w.end_is, w.at_is, length-append head (body_text Timed rs), length-records_text Timed rs) in
    let gap : length front - end ≡ page - length (head ++ body_text Timed rs) = omega (arith, len, w.whole) in
    w.new_is ∙ ap (λ (t : List ℕ). t ++ replicate (length front - end) 0) text ∙ ap (λ (n : ℕ). (head ++ body_text Timed rs) ++ replicate n 0) gap

pub set_page_written : (page set write : ℕ) (new : List ℕ) (rs : List Rec) (at end : ℕ) (first front : List ℕ) → 18 ≤ page → set < 2 ^ 32 → write < 2 ^ 64 → Written page (set_head Large set write) new rs at end first front → SpellsSetForm Large page new (record { set = set; write = write; records = rs })
unfolding set_text
set_page_written page set write new rs at end first front large set_fits write_fits w =
    let fits = fit_parts page rs w.fits in
    record {
      lawful = record { set_fits = set_fits; write_fits = write_fits; each = w.each; said = All-from_recursion (CanSay Timed) rs (said_all rs); few = fits.few; room = omega (arith, fits.room, large) };
      text = written_text page (set_head Large set write) new rs at end first front w;
    }

pub log_page_written : (page segment number : ℕ) (new : List ℕ) (rs : List Rec) (at end : ℕ) (first front : List ℕ) → 18 ≤ page → segment < 2 ^ 64 → number < 2 ^ 16 → length rs ≤ max_log_records → Written page (log_head Timed segment number) new rs at end first front → SpellsLogForm Timed page new (record { segment = segment; page = number; records = rs })
unfolding log_text
log_page_written page segment number new rs at end first front large segment_fits number_fits few w =
    let fits = fit_parts page rs w.fits in
    record {
      lawful = record { segment_fits = segment_fits; page_fits = number_fits; each = w.each; said = All-from_recursion (CanSay Timed) rs (said_all rs); few = few; room = omega (arith, fits.room, large) };
      text = written_text page (log_head Timed segment number) new rs at end first front w;
    }
