-- The records that are read are the records that were spelled, and what was spelled is read again.
use Rattle.std.proofs.Common.{lit<, ◌≡◌, ℕ, zero, suc, ◌+◌, ◌^◌, ◌<◌, ◌≤◌, true, false, cond, eqb, ltb, get_or, List, [], ◌∷◌, ◌++◌, length, take, drop, Option, Some, None, refl, sym, ap, subst, ◌∙◌, append_assoc, arith}
use Rattle.std.specs.Prelude.{◌||◌, is_some, slice_get}
use Rattle.std.specs.Option.{option_map_or}
use Rattle.std.proofs.lemmas.List.Sums.{sum_by-cons}
use Rattle.std.specs.List.{AllByRecursion}
use Rattle.std.specs.Int.{w16, w64, to_be_bytes, from_be_bytes}
use Rattle.std.proofs.lemmas.Bool.{eqb-false, ltb-false, or_parts, or_from, ne_eqb, le-ltb}
use Rattle.std.proofs.lemmas.List.{take_at, drop_at, take-append-drop, drop-drop, length-append, length-take, length-drop}
use Rattle.record_pages.specs.Recs.{Rec, rec, IsRecord, size, sizes}
use Rattle.record_pages.specs.Expiry.{never, timed}
use Rattle.record_pages.specs.PageText.{CanSay, expiry_text, overhead, record_text, records_text, text_sizes}
use Rattle.record_pages.specs.declared.form.RecordForm.{RecordForm}
use Rattle.record_pages.specs.declared.form.RecordForm.TheVariants.{Timed, Lasting}
use Rattle.record_pages.specs.Reading.{◌>>=◌, number_at, byte_at, expiry_at, is_bad, record_at, records_at, records_of}
use Rattle.record_pages.proofs.FrontLaws.{IsBytes, IsBytes-drop, IsBytes-take, bind_some, guard_some, some_is, Takes, Takes-then, wide16, wide64, number_takes, number_again, byte_takes}

-- the tests of a record that does not pass the end
pub record IsGood (k v p : ℕ) (rest : List ℕ) : Type 0 where
  pub some : 0 < k
  pub value : v ≤ 2048
  pub prediction : p ≤ 7
  pub whole : k + v ≤ length rest

good_from : (k v p : ℕ) (rest : List ℕ) → is_bad k v p rest ≡ false → IsGood k v p rest
good_from k v p rest e =
    let a = or_parts (eqb k 0 || ltb 2048 v || ltb 7 p) (ltb (length rest) (k + v)) e in
    let b = or_parts (eqb k 0 || ltb 2048 v) (ltb 7 p) a.0 in
    let d = or_parts (eqb k 0) (ltb 2048 v) b.0 in
    let not_zero = eqb-false k 0 d.0 in
    record {
      some = omega (arith, not_zero);
      value = ltb-false 2048 v d.1;
      prediction = ltb-false 7 p b.1;
      whole = ltb-false (length rest) (k + v) a.1;
    }

good_is : (k v p : ℕ) (rest : List ℕ) → IsGood k v p rest → is_bad k v p rest ≡ false
good_is k v p rest g =
    or_from _ _ (or_from _ _ (or_from _ _ (ne_eqb k 0 (λ e. omega (arith, g.some, e))) (le-ltb 2048 v g.value)) (le-ltb 7 p g.prediction)) (le-ltb (length rest) (k + v) g.whole)

-- ---- expiries

pub expiry_takes : (form : RecordForm) (bytes : List ℕ) (e : ℕ) (rest : List ℕ) → IsBytes bytes → expiry_at form bytes ≡ Some (e, rest) → Takes bytes (expiry_text form e) rest × (e < 2 ^ 64)
expiry_takes Timed bytes e rest fits is = number_takes w64 (2 ^ 64) wide64 bytes e rest fits is
expiry_takes Lasting bytes e rest fits is =
    subst (λ (y : ℕ × List ℕ). Takes bytes [] y.1 × (y.0 < 2 ^ 64)) (some_is (never, bytes) (e, rest) is) (record { parts = refl; rest_fits = fits }, lit< tt)

-- what is read can be said
can_say : (form : RecordForm) (bytes rest : List ℕ) (r : Rec) → expiry_at form bytes ≡ Some (r.value.expires, rest) → CanSay form r
can_say Timed bytes rest r is = tt
can_say Lasting bytes rest r is = sym (ap (λ (y : ℕ × List ℕ). y.0) (some_is (never, bytes) (r.value.expires, rest) is))

pub expiry_again : (form : RecordForm) (r : Rec) (rest : List ℕ) → r.value.expires < 2 ^ 64 → CanSay form r → expiry_at form (expiry_text form r.value.expires ++ rest) ≡ Some (r.value.expires, rest)
expiry_again Timed r rest fits said = number_again w64 (2 ^ 64) wide64 r.value.expires rest fits
expiry_again Lasting r rest fits said = ap (λ (e : ℕ). Some (e, rest)) (sym said)

abbrev body : ℕ → ℕ → ℕ → ℕ × List ℕ → Rec × List ℕ
body k v p e = (rec (take k e.1) (timed (take v (drop k e.1)) e.0) p, drop v (drop k e.1))

abbrev tested : ℕ → ℕ → ℕ → ℕ × List ℕ → Option (Rec × List ℕ)
tested k v p e = cond (is_bad k v p e.1) None (Some (body k v p e))

-- a record that was read
pub record WasRead (form : RecordForm) (bytes : List ℕ) (r : Rec) (rest : List ℕ) : Type 0 where
  pub takes : Takes bytes (record_text form r) rest
  pub lawful : IsRecord r
  pub said : CanSay form r

pub record_takes : (form : RecordForm) (bytes : List ℕ) (x : Rec × List ℕ) → IsBytes bytes → record_at form bytes ≡ Some x → WasRead form bytes x.0 x.1
unfolding record_at
record_takes form bytes x fits is =
    let a = bind_some (byte_at bytes) (λ k. number_at w16 k.1 >>= λ v. byte_at v.1 >>= λ p. expiry_at form p.1 >>= λ e. tested k.0 v.0 p.0 e) x is in
    let k = a.0 in
    let b = bind_some (number_at w16 k.1) (λ v. byte_at v.1 >>= λ p. expiry_at form p.1 >>= λ e. tested k.0 v.0 p.0 e) x a.2 in
    let v = b.0 in
    let d = bind_some (byte_at v.1) (λ p. expiry_at form p.1 >>= λ e. tested k.0 v.0 p.0 e) x b.2 in
    let p = d.0 in
    let f = bind_some (expiry_at form p.1) (λ e. tested k.0 v.0 p.0 e) x d.2 in
    let e = f.0 in
    let g = guard_some (is_bad k.0 v.0 p.0 e.1) (body k.0 v.0 p.0 e) x f.2 in
    let good = good_from k.0 v.0 p.0 e.1 g.0 in
    let t0 = byte_takes bytes k.0 k.1 fits a.1 in
    let t1 = number_takes w16 (2 ^ 16) wide16 k.1 v.0 v.1 t0.0.rest_fits b.1 in
    let t2 = byte_takes v.1 p.0 p.1 t1.0.rest_fits d.1 in
    let t3 = expiry_takes form p.1 e.0 e.1 t2.0.rest_fits f.1 in
    let key = take k.0 e.1 in
    let after = drop k.0 e.1 in
    let value = take v.0 after in
    let text = expiry_text form e.0 in
    let key_len : length key ≡ k.0 = omega (arith, length-take k.0 e.1, good.whole) in
    let value_len : length value ≡ v.0 = omega (arith, length-take v.0 after, length-drop k.0 e.1, good.whole) in
    let t4 : Takes e.1 key after = record { parts = sym {a = key ++ after} {b = e.1} (take-append-drop k.0 e.1); rest_fits = IsBytes-drop k.0 e.1 t3.0.rest_fits } in
    let t5 : Takes after value (drop v.0 after) = record { parts = sym {a = value ++ drop v.0 after} {b = after} (take-append-drop v.0 after); rest_fits = IsBytes-drop v.0 after t4.rest_fits } in
    let t45 = Takes-then e.1 key after value (drop v.0 after) t4 t5 in
    let t35 = Takes-then p.1 text e.1 (key ++ value) (drop v.0 after) t3.0 t45 in
    let t25 = Takes-then v.1 (p.0 ∷ []) p.1 (text ++ (key ++ value)) (drop v.0 after) t2.0 t35 in
    let t15 = Takes-then k.1 (to_be_bytes w16 v.0) v.1 ((p.0 ∷ []) ++ (text ++ (key ++ value))) (drop v.0 after) t1.0 t25 in
    let t05 = Takes-then bytes (k.0 ∷ []) k.1 (to_be_bytes w16 v.0 ++ ((p.0 ∷ []) ++ (text ++ (key ++ value)))) (drop v.0 after) t0.0 t15 in
    let whole : Takes bytes (record_text form (body k.0 v.0 p.0 e).0) (drop v.0 after) = subst (λ (m : ℕ). Takes bytes ((m ∷ []) ++ (to_be_bytes w16 (length value) ++ ((p.0 ∷ []) ++ (text ++ (key ++ value))))) (drop v.0 after)) (sym key_len) (subst (λ (m : ℕ). Takes bytes ((k.0 ∷ []) ++ (to_be_bytes w16 m ++ ((p.0 ∷ []) ++ (text ++ (key ++ value))))) (drop v.0 after)) (sym value_len) t05) in
    let is_record : IsRecord (body k.0 v.0 p.0 e).0 = record { key = (omega (arith, key_len, good.some), omega (arith, key_len, t0.1)); value = omega (arith, value_len, good.value); expires = t3.1; pred = good.prediction } in
    subst (λ (y : Rec × List ℕ). WasRead form bytes y.0 y.1) g.1 (record { takes = whole; lawful = is_record; said = can_say form p.1 e.1 (body k.0 v.0 p.0 e).0 f.1 })

pub record_again : (form : RecordForm) (r : Rec) (rest : List ℕ) → IsRecord r → CanSay form r → record_at form (record_text form r ++ rest) ≡ Some (r, rest)
unfolding record_at
record_again form r rest is said =
    let value = r.value.value in
    let tail = r.key ++ (value ++ rest) in
    let text = expiry_text form r.value.expires in
    let k = length r.key in
    let v = length value in
    let regrouped : record_text form r ++ rest ≡ k ∷ (to_be_bytes w16 v ++ (r.pred ∷ (text ++ tail))) =
    ap (λ (t : List ℕ). k ∷ t) (append_assoc (to_be_bytes w16 v) (r.pred ∷ (text ++ (r.key ++ value))) rest
    ∙ ap (λ (t : List ℕ). to_be_bytes w16 v ++ (r.pred ∷ t)) (append_assoc text (r.key ++ value) rest ∙ ap (λ (t : List ℕ). text ++ t) (append_assoc r.key value rest))) in
    let good : IsGood k v r.pred tail = record { some = is.key.0; value = is.value; prediction = is.pred; whole = omega (arith, length-append r.key (value ++ rest), length-append value rest) } in
    ap (record_at form) regrouped ∙ rw (number_again w16 (2 ^ 16) wide16 v (r.pred ∷ (text ++ tail)) (omega (arith, is.value)), expiry_again form r tail is.expires said, good_is k v r.pred tail good, take_at r.key (value ++ rest) k refl, drop_at r.key (value ++ rest) k refl, take_at value rest v refl, drop_at value rest v refl) refl

-- records that were read
pub record WereRead (form : RecordForm) (n : ℕ) (bytes : List ℕ) (rs : List Rec) (rest : List ℕ) : Type 0 where
  pub takes : Takes bytes (records_text form rs) rest
  pub many : length rs ≡ n
  pub each : AllByRecursion IsRecord rs
  pub said : AllByRecursion (CanSay form) rs

pub records_take : (form : RecordForm) (n : ℕ) (bytes : List ℕ) (x : List Rec × List ℕ) → IsBytes bytes → records_at form n bytes ≡ Some x → WereRead form n bytes x.0 x.1
unfolding records_at records_text
records_take form zero bytes x fits e =
    subst (λ (y : List Rec × List ℕ). WereRead form 0 bytes y.0 y.1) (some_is ([], bytes) x e) (record { takes = record { parts = refl; rest_fits = fits }; many = refl; each = tt; said = tt })
records_take form (suc n) bytes x fits e =
    let a = bind_some (record_at form bytes) (λ first. records_at form n first.1 >>= λ others. Some (first.0 ∷ others.0, others.1)) x e in
    let b = bind_some (records_at form n a.0.1) (λ others. Some (a.0.0 ∷ others.0, others.1)) x a.2 in
    let t = record_takes form bytes a.0 fits a.1 in
    let u = records_take form n a.0.1 b.0 t.takes.rest_fits b.1 in
    let both = Takes-then bytes (record_text form a.0.0) a.0.1 (records_text form b.0.0) b.0.1 t.takes u.takes in
    subst (λ (y : List Rec × List ℕ). WereRead form (suc n) bytes y.0 y.1) (some_is (a.0.0 ∷ b.0.0, b.0.1) x b.2) (record { takes = both; many = ap suc u.many; each = (t.lawful, u.each); said = (t.said, u.said) })

pub records_again : (form : RecordForm) (rs : List Rec) (rest : List ℕ) → AllByRecursion IsRecord rs → AllByRecursion (CanSay form) rs → records_at form (length rs) (records_text form rs ++ rest) ≡ Some (rs, rest)
unfolding records_at records_text
records_again form [] rest each said = refl
records_again form (r ∷ rs) rest each said =
    let regrouped : (record_text form r ++ records_text form rs) ++ rest ≡ record_text form r ++ (records_text form rs ++ rest) = append_assoc (record_text form r) (records_text form rs) rest in
    ap (records_at form (suc (length rs))) regrouped ∙ rw (record_again form r (records_text form rs ++ rest) each.0 said.0, records_again form rs rest each.1 said.1) refl

-- any record can be said with its expiry
pub said_all : (rs : List Rec) → AllByRecursion (CanSay Timed) rs
said_all [] = tt
said_all (r ∷ rs) = (tt, said_all rs)

length-expiry_text : (form : RecordForm) (e : ℕ) → 4 + length (expiry_text form e) ≡ overhead form
length-expiry_text Timed e = refl
length-expiry_text Lasting e = refl

-- how many bytes a record has in a form
abbrev pub text_size : RecordForm → Rec → ℕ
text_size form r = overhead form + length r.key + length r.value.value

pub length-record_text : (form : RecordForm) (r : Rec) → length (record_text form r) ≡ text_size form r
length-record_text form r =
    omega (arith, length-append (expiry_text form r.value.expires) (r.key ++ r.value.value), length-append r.key r.value.value, length-expiry_text form r.value.expires)

-- a record is read again where it begins
pub record_from : (rs : List Rec) (slot : ℕ) (tail : List ℕ) (r : Rec) → AllByRecursion IsRecord rs → slice_get rs slot ≡ Some r → record_at Timed (drop (sizes (take slot rs)) (records_text Timed rs ++ tail)) ≡ Some (r, records_text Timed (drop (suc slot) rs) ++ tail)
unfolding records_text
record_from [] slot tail r each e = absurd cc
record_from (x ∷ rs) zero tail r each e =
    ap (record_at Timed) (append_assoc (record_text Timed x) (records_text Timed rs) tail) ∙ record_again Timed x (records_text Timed rs ++ tail) each.0 tt ∙ ap (λ (y : Rec). Some (y, records_text Timed rs ++ tail)) (some_is x r e)
record_from (x ∷ rs) (suc n) tail r each e =
    let m = sizes (take n rs) in
    let rest = records_text Timed rs ++ tail in
    let split : drop (size x + m) ((record_text Timed x ++ records_text Timed rs) ++ tail) ≡ drop m rest =
    ap (drop (size x + m)) (append_assoc (record_text Timed x) (records_text Timed rs) tail) ∙ sym (drop-drop m (size x) (record_text Timed x ++ rest)) ∙ ap (drop m) (drop_at (record_text Timed x) rest (size x) (length-record_text Timed x)) in
    ap (λ (k : ℕ). record_at Timed (drop k ((record_text Timed x ++ records_text Timed rs) ++ tail))) (sum_by-cons size x (take n rs)) ∙ ap (record_at Timed) split ∙ record_from rs n tail r each.1 e

-- as many as were asked for
records_at-length : (form : RecordForm) (n : ℕ) (bytes : List ℕ) (x : List Rec × List ℕ) → records_at form n bytes ≡ Some x → length x.0 ≡ n
unfolding records_at
records_at-length form zero bytes x e = ap (λ (y : List Rec × List ℕ). length y.0) (sym (some_is ([], bytes) x e))
records_at-length form (suc n) bytes x e =
    let a = bind_some (record_at form bytes) (λ first. records_at form n first.1 >>= λ others. Some (first.0 ∷ others.0, others.1)) x e in
    let b = bind_some (records_at form n a.0.1) (λ others. Some (a.0.0 ∷ others.0, others.1)) x a.2 in
    ap (λ (y : List Rec × List ℕ). length y.0) (sym (some_is (a.0.0 ∷ b.0.0, b.0.1) x b.2)) ∙ ap suc (records_at-length form n a.0.1 b.0 b.1)

there : (n : ℕ) (o : Option (List Rec × List ℕ)) → ((x : List Rec × List ℕ) → o ≡ Some x → length x.0 ≡ n) → is_some o ≡ true → length (option_map_or {T = List Rec × List ℕ} (λ x. x.0) o []) ≡ n
there n None each e = absurd cc
there n (Some x) each e = each x refl

pub records_of-length : (form : RecordForm) (n : ℕ) (bytes : List ℕ) → is_some (records_at form n bytes) ≡ true → length (records_of form n bytes) ≡ n
records_of-length form n bytes e = there n (records_at form n bytes) (records_at-length form n bytes) e

pub length-records_text : (form : RecordForm) (rs : List Rec) → length (records_text form rs) ≡ text_sizes form rs
unfolding records_text
length-records_text form [] = refl
length-records_text form (r ∷ rs) =
    omega (arith, length-records_text form rs, length-append (record_text form r) (records_text form rs), length-record_text form r, sum_by-cons (text_size form) r rs)

pub sizes_timed : (rs : List Rec) → text_sizes Timed rs ≡ sizes rs
sizes_timed rs = refl

-- ---- a record that is known to be there

-- the lengths and the prediction that four bytes at the front give
abbrev pub key_len_of : List ℕ → ℕ
key_len_of bytes = get_or (take 4 bytes) 0 0

abbrev pub value_len_of : List ℕ → ℕ
value_len_of bytes = from_be_bytes w16 (get_or (take 4 bytes) 1 0 ∷ get_or (take 4 bytes) 2 0 ∷ [])

abbrev pub prediction_of : List ℕ → ℕ
prediction_of bytes = get_or (take 4 bytes) 3 0

-- what lies at the front if a record is there
pub record Lies (form : RecordForm) (bytes : List ℕ) : Type 0 where
  pub long : 4 ≤ length bytes
  pub expires : ℕ
  pub after : List ℕ
  pub expiry : expiry_at form (drop 4 bytes) ≡ Some (expires, after)
  pub good : IsGood (key_len_of bytes) (value_len_of bytes) (prediction_of bytes) after
  pub is : record_at form bytes ≡ Some (body (key_len_of bytes) (value_len_of bytes) (prediction_of bytes) (expires, after))

-- a record with four bytes and an expiry before its key
opened : (form : RecordForm) (k h l p : ℕ) (rest : List ℕ) → record_at form (k ∷ h ∷ l ∷ p ∷ rest) ≡ (expiry_at form rest >>= λ x. tested k (from_be_bytes w16 (h ∷ l ∷ [])) p x)
unfolding record_at
opened form k h l p rest =
    let long : ltb (length (h ∷ l ∷ p ∷ rest)) 2 ≡ false = le-ltb (length (h ∷ l ∷ p ∷ rest)) 2 (omega arith) in
    rw long refl

cut_short : (form : RecordForm) (k : ℕ) (rest : List ℕ) → length rest < 3 → record_at form (k ∷ rest) ≡ None
unfolding record_at
cut_short form k [] few = refl
cut_short form k (h ∷ []) few = refl
cut_short form k (h ∷ l ∷ []) few = refl
cut_short form k (h ∷ l ∷ p ∷ rest) few = absurd (omega (arith, few))

not_there : (form : RecordForm) (bytes : List ℕ) → record_at form bytes ≡ None → is_some (record_at form bytes) ≡ true → ⊥
not_there form bytes none e = let no : false ≡ true = ap is_some (sym none) ∙ e in absurd cc

no_bytes : (form : RecordForm) → record_at form [] ≡ None
unfolding record_at
no_bytes form = refl

there_is : {A : Type 0} (o : Option A) → is_some o ≡ true → (x : A) × (o ≡ Some x)
there_is None e = absurd cc
there_is (Some x) e = (x, refl)

pub lies : (form : RecordForm) (bytes : List ℕ) → is_some (record_at form bytes) ≡ true → Lies form bytes
lies form [] e = absurd (not_there form [] (no_bytes form) e)
lies form (k ∷ []) e = absurd (not_there form (k ∷ []) (cut_short form k [] (omega arith)) e)
lies form (k ∷ h ∷ []) e = absurd (not_there form (k ∷ h ∷ []) (cut_short form k (h ∷ []) (omega arith)) e)
lies form (k ∷ h ∷ l ∷ []) e = absurd (not_there form (k ∷ h ∷ l ∷ []) (cut_short form k (h ∷ l ∷ []) (omega arith)) e)
lies form (k ∷ h ∷ l ∷ p ∷ rest) e =
    let v = from_be_bytes w16 (h ∷ l ∷ []) in
    let y = there_is (record_at form (k ∷ h ∷ l ∷ p ∷ rest)) e in
    let f = bind_some (expiry_at form rest) (λ x. tested k v p x) y.0 (sym (opened form k h l p rest) ∙ y.1) in
    let g = guard_some (is_bad k v p f.0.1) (body k v p f.0) y.0 f.2 in
    record { long = omega arith; expires = f.0.0; after = f.0.1; expiry = f.1; good = good_from k v p f.0.1 g.0; is = y.1 ∙ ap (λ (z : Rec × List ℕ). Some z) (sym g.1) }

-- the parts that are cut from bytes where a record lies
pub record Cut (form : RecordForm) (bytes front mid back key after value rest : List ℕ) (e v : ℕ) : Type 0 where
  pub front_is : front ≡ take 4 bytes
  pub mid_is : mid ≡ drop 4 bytes
  pub expiry : expiry_at form mid ≡ Some (e, back)
  pub v_is : v ≡ from_be_bytes w16 (get_or front 1 0 ∷ get_or front 2 0 ∷ [])
  pub key_is : key ≡ take (get_or front 0 0) back
  pub after_is : after ≡ drop (get_or front 0 0) back
  pub value_is : value ≡ take v after
  pub rest_is : rest ≡ drop v after

-- what is cut as the expiry is what lies there
cut_same : (form : RecordForm) (bytes front mid back key after value rest : List ℕ) (e v : ℕ) (l : Lies form bytes) → Cut form bytes front mid back key after value rest e v → ◌≡◌ {A = ℕ × List ℕ} (l.expires, l.after) (e, back)
cut_same form bytes front mid back key after value rest e v l c = some_is (l.expires, l.after) (e, back) (sym l.expiry ∙ ap (expiry_at form) (sym c.mid_is) ∙ c.expiry)

pub cut_value : (form : RecordForm) (bytes front mid back key after value rest : List ℕ) (e v : ℕ) → is_some (record_at form bytes) ≡ true → Cut form bytes front mid back key after value rest e v
    → record_at form bytes ≡ Some (rec key (timed value e) (get_or front 3 0), rest)
cut_value form bytes front mid back key after value rest e v there c =
    let l = lies form bytes there in
    let same = cut_same form bytes front mid back key after value rest e v l c in
    rw (c.rest_is, c.value_is, c.key_is, c.after_is, c.v_is, c.front_is) (l.is ∙ ap (λ (x : ℕ × List ℕ). Some (body (key_len_of bytes) (value_len_of bytes) (prediction_of bytes) x)) same)

-- what is cut is long enough
pub cut_good : (form : RecordForm) (bytes front mid back : List ℕ) (e v : ℕ) → is_some (record_at form bytes) ≡ true → front ≡ take 4 bytes → mid ≡ drop 4 bytes → expiry_at form mid ≡ Some (e, back) → v ≡ from_be_bytes w16 (get_or front 1 0 ∷ get_or front 2 0 ∷ [])
    → IsGood (get_or front 0 0) v (get_or front 3 0) back
cut_good form bytes front mid back e v there front_is mid_is expiry v_is =
    let l = lies form bytes there in
    let same = some_is (l.expires, l.after) (e, back) (sym l.expiry ∙ ap (expiry_at form) (sym mid_is) ∙ expiry) in
    rw (v_is, front_is) (subst (λ (x : ℕ × List ℕ). IsGood (key_len_of bytes) (value_len_of bytes) (prediction_of bytes) x.1) same l.good)

-- an expiry is there
pub expiry_there : (form : RecordForm) (bytes mid : List ℕ) → is_some (record_at form bytes) ≡ true → mid ≡ drop 4 bytes → expiry_at form mid ≡ None → ⊥
expiry_there form bytes mid stands mid_is none =
    let l = lies form bytes stands in
    none_is (l.expires, l.after) (sym l.expiry ∙ ap (expiry_at form) (sym mid_is) ∙ none)
  where
    none_is : (x : ℕ × List ℕ) → Some x ≡ None → ⊥
    none_is x same = absurd cc

pub cut_lawful : (form : RecordForm) (bytes front mid back key after value rest : List ℕ) (e v : ℕ) → IsBytes bytes → is_some (record_at form bytes) ≡ true → Cut form bytes front mid back key after value rest e v → IsRecord (rec key (timed value e) (get_or front 3 0))
cut_lawful form bytes front mid back key after value rest e v fits there c =
    let good = cut_good form bytes front mid back e v there c.front_is c.mid_is c.expiry c.v_is in
    let small : get_or front 0 0 < 256 = rw c.front_is (IsBytes-take 4 bytes fits 0) in
    let key_len : length key ≡ get_or front 0 0 = omega (arith, ap length c.key_is, length-take (get_or front 0 0) back, good.whole) in
    let value_len : length value ≤ v = omega (arith, ap length c.value_is, length-take v after) in
    record {
      key = (omega (arith, key_len, good.some), omega (arith, key_len, small));
      value = omega (arith, value_len, good.value);
      expires = (expiry_takes form mid e back (subst IsBytes (sym c.mid_is) (IsBytes-drop 4 bytes fits)) c.expiry).1;
      pred = good.prediction;
    }
