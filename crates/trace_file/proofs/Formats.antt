-- A format: what is read is spelled so, what is spelled so is read, and a fault stays whatever follows.
use Rattle.std.proofs.Common.{◌≡◌, ℕ, zero, suc, ◌+◌, ◌^◌, ◌<◌, ◌≤◌, Bool, true, false, cond, ltb, List, [], ◌∷◌, ◌++◌, length, get_or, take, drop, Result, Ok, Err, refl, sym, ap, subst, ◌∙◌, append_assoc, arith, inl, inr}
use Rattle.std.specs.List.{flat_map, AllByRecursion}
use Rattle.std.specs.Int.{Width, w16, w32, w64, byte_len, from_be_bytes, to_be_bytes}
use Rattle.std.proofs.lemmas.Bool.{cases_lt, ltb-false, le-ltb}
use Rattle.std.proofs.lemmas.List.{append-nil, take_at, drop_at, take-append-drop, take-append-le, drop-append-le, length-append, length-take, get_or-drop, get_or-take, get_or_past}
use Rattle.std.proofs.lemmas.Nat.{be_bytes_2, be_bytes_4, be_bytes_8, from_be_bytes-to_be_bytes_2, from_be_bytes-to_be_bytes_4, from_be_bytes-to_be_bytes_8}
use Rattle.trace_file.specs.declared.item_fault.ItemFault.{ItemFault}
use Rattle.trace_file.specs.declared.item_fault.ItemFault.TheVariants.{Short, Fault}
use Rattle.trace_file.specs.declared.trace_fault.TraceFault.{TraceFault}
use Rattle.trace_file.specs.Outcome.{IsOfText}
use Rattle.trace_file.specs.Reading.{Place, place, Read, ◌>>=◌, bytes_at, number_at, first_at, byte_at, many_at}
use Rattle.trace_file.specs.Stream.{in_front}

abbrev pub IsBytes : List ℕ → Type 0
IsBytes bytes = (i : ℕ) → get_or bytes i 0 < 256

pub IsBytes-drop : (n : ℕ) (bytes : List ℕ) → IsBytes bytes → IsBytes (drop n bytes)
IsBytes-drop n bytes h i = rw get_or-drop (h (n + i))

pub IsBytes-take : (n : ℕ) (bytes : List ℕ) → IsBytes bytes → IsBytes (take n bytes)
IsBytes-take n bytes h i =
    elim (cases_lt i n) [
      | inl lt ↦ rw (get_or-take n bytes i 0 lt) (h i)
      | inr le ↦ rw (get_or_past (take n bytes) i 0 (omega (arith, length-take n bytes))) (omega arith)
    ]

-- the value of a step that did not stop
pub bind_ok : {A B : Type 0} (r : Result A ItemFault) (f : A → Result B ItemFault) (y : B) → (r >>= f) ≡ Ok y → (x : A) × (r ≡ Ok x) × (f x ≡ Ok y)
bind_ok (Ok x) f y e = (x, refl, e)
bind_ok (Err d) f y e = absurd cc

-- a test that did not stop
pub guard_ok : {A : Type 0} (b : Bool) (d : ItemFault) (x y : A) → cond b (Err d) (Ok x) ≡ Ok y → (b ≡ false) × (x ≡ y)
guard_ok true d x y e = absurd cc
guard_ok false d x y e = (refl, cc)

-- a test that stops short meets no fault
pub not_short : {A : Type 0} (b : Bool) (x : A) (f : TraceFault) → ◌≡◌ {A = Result A ItemFault} (cond b (Err Short) (Ok x)) (Err (Fault f)) → ⊥
not_short true x f e = cc
not_short false x f e = cc

-- a last step that only puts a value first meets no fault
not_last : {A : Type 0} (r : Read (List A)) (x : A) (f : TraceFault) → in_front (x ∷ []) r ≡ Err (Fault f) → r ≡ Err (Fault f)
not_last (Ok others) x f e = absurd cc
not_last (Err d) x f e = cc

pub same_fault : {A : Type 0} (d f : TraceFault) → ◌≡◌ {A = Result A ItemFault} (Err (Fault d)) (Err (Fault f)) → d ≡ f
same_fault d f e = cc

-- what stopped two steps
pub data Stopped {A B : Type 0} (r : Result A ItemFault) (f : A → Result B ItemFault) (d : ItemFault) : Type 0 where
  at_first : r ≡ Err d → Stopped r f d
  at_second : (x : A) → r ≡ Ok x → f x ≡ Err d → Stopped r f d

pub bind_err : {A B : Type 0} (r : Result A ItemFault) (f : A → Result B ItemFault) (d : ItemFault) → (r >>= f) ≡ Err d → Stopped r f d
bind_err (Ok x) f d e = at_second x refl e
bind_err (Err d') f d e = at_first cc

pub ok_is : {A : Type 0} (x y : A) → ◌≡◌ {A = Result A ItemFault} (Ok x) (Ok y) → x ≡ y
ok_is x y e = cc

-- the same place with more bytes after it
abbrev pub longer : Place → List ℕ → Place
longer p more = place p.at (p.bytes ++ more)

-- a text stands here, and the other place is after it
pub record Takes (p : Place) (text : List ℕ) (q : Place) : Type 0 where
  pub parts : p.bytes ≡ text ++ q.bytes
  pub at : q.at ≡ p.at + length text
  pub rest_fits : IsBytes q.bytes

pub Takes-then : (p : Place) (x : List ℕ) (q : Place) (y : List ℕ) (r : Place) → Takes p x q → Takes q y r → Takes p (x ++ y) r
Takes-then p x q y r a b = record {
  parts = a.parts ∙ ap (λ (t : List ℕ). x ++ t) b.parts ∙ sym (append_assoc x y r.bytes);
  at = omega (arith, a.at, b.at, length-append x y);
  rest_fits = b.rest_fits;
}

pub record IsFormat {A : Type 0} (read : Place → Read A) (text : A → List ℕ) (lawful : A → Type 0) : Type 0 where
  pub takes : (p : Place) (x : A) (q : Place) → IsBytes p.bytes → read p ≡ Ok (x, q) → Takes p (text x) q × lawful x
  pub again : (at : ℕ) (x : A) (rest : List ℕ) → lawful x → read (place at (text x ++ rest)) ≡ Ok (x, place (at + length (text x)) rest)
  pub stays : (p : Place) (f : TraceFault) (more : List ℕ) → IsBytes p.bytes → read p ≡ Err (Fault f) → read (longer p more) ≡ Err (Fault f)
  pub kind : (p : Place) (f : TraceFault) → read p ≡ Err (Fault f) → IsOfText f

module _ {A : Type 0} {read : Place → Read A} {text : A → List ℕ} {lawful : A → Type 0} (format : IsFormat read text lawful) where
  -- what was read stays, whatever follows
  pub read-longer : (p : Place) (x : A) (q : Place) (more : List ℕ) → IsBytes p.bytes → read p ≡ Ok (x, q) → read (longer p more) ≡ Ok (x, longer q more)
  read-longer p x q more fits e =
      let t = format.takes p x q fits e in
      let same : p.bytes ++ more ≡ text x ++ (q.bytes ++ more) = ap (λ (b : List ℕ). b ++ more) t.0.parts ∙ append_assoc (text x) q.bytes more in
      ap (λ (b : List ℕ). read (place p.at b)) same ∙ format.again p.at x (q.bytes ++ more) t.1 ∙ ap (λ (n : ℕ). Ok (x, place n (q.bytes ++ more))) (sym t.0.at)

  -- another condition that says the same
  pub same_lawful : (other : A → Type 0) → ((x : A) → lawful x → other x) → ((x : A) → other x → lawful x) → IsFormat read text other
  same_lawful other to from = record {
    takes = λ p x q fits e. ((format.takes p x q fits e).0, to x (format.takes p x q fits e).1);
    again = λ at x rest h. format.again at x rest (from x h);
    stays = format.stays;
    kind = format.kind;
  }

  -- another wording of the text
  pub same_text : (other : A → List ℕ) → ((x : A) → lawful x → text x ≡ other x) → IsFormat read other lawful
  same_text other same = record {
    takes = λ p x q fits e. let t = format.takes p x q fits e in (subst (λ (b : List ℕ). Takes p b q) (same x t.1) t.0, t.1);
    again = λ at x rest h. subst (λ (b : List ℕ). read (place at (b ++ rest)) ≡ Ok (x, place (at + length b) rest)) (same x h) (format.again at x rest h);
    stays = format.stays;
    kind = format.kind;
  }

-- a value that takes no bytes
pub pure_format : {A : Type 0} (y : A) → IsFormat (λ p. Ok (y, p)) (λ _. []) (λ x. y ≡ x)
pure_format {A} y = record {
  takes = λ p x q fits e.
      let same = ok_is (y, p) (x, q) e in
      let nothing : Takes p [] p = record { parts = refl; at = omega arith; rest_fits = fits } in
      (subst (λ (r : Place). Takes p [] r) (ap (λ (z : A × Place). z.1) same) nothing, ap (λ (z : A × Place). z.0) same);
  again = λ at x rest h. let n : at ≡ at + 0 = omega arith in ap (λ (z : A). Ok (z, place at rest)) h ∙ ap (λ (m : ℕ). Ok (x, place m rest)) n;
  stays = λ p f more fits e. absurd cc;
  kind = λ p f e. absurd cc;
}

-- one format after another: what the second reads says what the first read
module _ {A B : Type 0} (read : Place → Read A) (text : A → List ℕ) (lawful : A → Type 0)
    (read' : ℕ → A → Place → Read B) (text' : B → List ℕ) (lawful' : A → B → Type 0) (back : B → A)
    (first : IsFormat read text lawful) (second : (at : ℕ) (x : A) → IsFormat (read' at x) text' (lawful' x)) (only : (x : A) (y : B) → lawful x → lawful' x y → back y ≡ x) where
  abbrev both : Place → Read B
  both p = read p >>= λ x. read' p.at x.0 x.1

  abbrev both_lawful : B → Type 0
  both_lawful y = lawful (back y) × lawful' (back y) y

  then_takes : (p : Place) (y : B) (r : Place) → IsBytes p.bytes → both p ≡ Ok (y, r) → Takes p (text (back y) ++ text' y) r × both_lawful y
  then_takes p y r fits e =
      let a = bind_ok (read p) (λ x. read' p.at x.0 x.1) (y, r) e in
      let x = a.0.0 in
      let q = a.0.1 in
      let t = first.takes p x q fits a.1 in
      let u = (second p.at x).takes q y r t.0.rest_fits a.2 in
      let same : back y ≡ x = only x y t.1 u.1 in
      let joined = Takes-then p (text x) q (text' y) r t.0 u.0 in
      subst (λ (z : A). Takes p (text z ++ text' y) r × (lawful z × lawful' z y)) (sym same) (joined, (t.1, u.1))

  then_again : (at : ℕ) (y : B) (rest : List ℕ) → both_lawful y
      → both (place at ((text (back y) ++ text' y) ++ rest)) ≡ Ok (y, place (at + length (text (back y) ++ text' y)) rest)
  then_again at y rest h =
      let x = back y in
      let mid = at + length (text x) in
      let one = ap (λ (b : List ℕ). both (place at b)) (append_assoc (text x) (text' y) rest) in
      let two = ap (λ (r : Read A). r >>= λ z. read' at z.0 z.1) (first.again at x (text' y ++ rest) h.0) in
      let three = (second at x).again mid y rest h.1 in
      let n : mid + length (text' y) ≡ at + length (text x ++ text' y) = omega (arith, length-append (text x) (text' y)) in
      one ∙ two ∙ three ∙ ap (λ (m : ℕ). Ok (y, place m rest)) n

  then_stays : (p : Place) (f : TraceFault) (more : List ℕ) → IsBytes p.bytes → both p ≡ Err (Fault f) → both (longer p more) ≡ Err (Fault f)
  then_stays p f more fits e =
      elim (bind_err (read p) (λ x. read' p.at x.0 x.1) (Fault f) e) [
        | at_first e' ↦ ap (λ (r : Read A). r >>= λ z. read' p.at z.0 z.1) (first.stays p f more fits e')
        | at_second x e' g ↦
            ap (λ (r : Read A). r >>= λ z. read' p.at z.0 z.1) (read-longer first p x.0 x.1 more fits e')
            ∙ (second p.at x.0).stays x.1 f more (first.takes p x.0 x.1 fits e').0.rest_fits g
      ]

  then_kind : (p : Place) (f : TraceFault) → both p ≡ Err (Fault f) → IsOfText f
  then_kind p f e =
      elim (bind_err (read p) (λ x. read' p.at x.0 x.1) (Fault f) e) [
        | at_first e' ↦ first.kind p f e'
        | at_second x e' g ↦ (second p.at x.0).kind x.1 f g
      ]

  pub then_format : IsFormat (λ p. read p >>= λ x. read' p.at x.0 x.1) (λ y. text (back y) ++ text' y) (λ y. lawful (back y) × lawful' (back y) y)
  then_format = record { takes = then_takes; again = then_again; stays = then_stays; kind = then_kind }

-- a test before a format
module _ {A : Type 0} {read : Place → Read A} {text : A → List ℕ} {lawful : A → Type 0} (format : IsFormat read text lawful) where
  guard_takes : (b : Bool) (d : TraceFault) (p : Place) (x : A) (q : Place) → IsBytes p.bytes → cond b (Err (Fault d)) (read p) ≡ Ok (x, q) → Takes p (text x) q × ((b ≡ false) × lawful x)
  guard_takes true d p x q fits e = absurd cc
  guard_takes false d p x q fits e = let t = format.takes p x q fits e in (t.0, (refl, t.1))

  guard_stays : (b : Bool) (d : TraceFault) (p : Place) (f : TraceFault) (more : List ℕ) → IsBytes p.bytes → cond b (Err (Fault d)) (read p) ≡ Err (Fault f) → cond b (Err (Fault d)) (read (longer p more)) ≡ Err (Fault f)
  guard_stays true d p f more fits e = cc
  guard_stays false d p f more fits e = format.stays p f more fits e

  guard_kind : (b : Bool) (d : TraceFault) → IsOfText d → (p : Place) (f : TraceFault) → cond b (Err (Fault d)) (read p) ≡ Err (Fault f) → IsOfText f
  guard_kind true d is p f e = subst IsOfText (same_fault d f e) is
  guard_kind false d is p f e = format.kind p f e

  pub guard_format : (b : Bool) (d : TraceFault) → IsOfText d → IsFormat (λ p. cond b (Err (Fault d)) (read p)) text (λ x. (b ≡ false) × lawful x)
  guard_format b d of_text = record {
    takes = guard_takes b d;
    again = λ at x rest h. ap (λ (c : Bool). cond c (Err (Fault d)) (read (place at (text x ++ rest)))) h.0 ∙ format.again at x rest h.1;
    stays = guard_stays b d;
    kind = guard_kind b d of_text;
  }

-- ---- bytes and numbers

split_longer : (n : ℕ) (p : Place) (more : List ℕ) → n ≤ length p.bytes → bytes_at n (longer p more) ≡ Ok (take n p.bytes, place (p.at + n) (drop n p.bytes ++ more))
split_longer n p more le =
    let long : ltb (length (p.bytes ++ more)) n ≡ false = le-ltb _ _ (omega (arith, length-append p.bytes more)) in
    rw (long, take-append-le n p.bytes more le, drop-append-le n p.bytes more le) refl

bytes_takes : (n : ℕ) (p : Place) (x : List ℕ) (q : Place) → IsBytes p.bytes → bytes_at n p ≡ Ok (x, q) → Takes p x q × (IsBytes x × (length x ≡ n))
bytes_takes n p x q fits e =
    let g = guard_ok (ltb (length p.bytes) n) Short (take n p.bytes, place (p.at + n) (drop n p.bytes)) (x, q) e in
    let long : n ≤ length p.bytes = ltb-false _ _ g.0 in
    let len : length (take n p.bytes) ≡ n = omega (arith, length-take n p.bytes) in
    let t : Takes p (take n p.bytes) (place (p.at + n) (drop n p.bytes)) = record { parts = sym (take-append-drop n p.bytes); at = omega (arith, len); rest_fits = IsBytes-drop n p.bytes fits } in
    subst (λ (z : List ℕ × Place). Takes p z.0 z.1 × (IsBytes z.0 × (length z.0 ≡ n))) g.1 (t, (IsBytes-take n p.bytes fits, len))

bytes_again : (n at : ℕ) (x rest : List ℕ) → length x ≡ n → bytes_at n (place at (x ++ rest)) ≡ Ok (x, place (at + length x) rest)
bytes_again n at x rest len =
    let long : ltb (length (x ++ rest)) n ≡ false = le-ltb _ _ (omega (arith, len, length-append x rest)) in
    rw (long, take_at x rest n len, drop_at x rest n len, len) refl

-- n bytes
pub bytes_format : (n : ℕ) → IsFormat (bytes_at n) (λ bytes. bytes) (λ bytes. length bytes ≡ n)
bytes_format n = record {
  takes = λ p x q fits e. let t = bytes_takes n p x q fits e in (t.0, t.1.1);
  again = bytes_again n;
  stays = λ p f more fits e. absurd (not_short (ltb (length p.bytes) n) (take n p.bytes, place (p.at + n) (drop n p.bytes)) f e);
  kind = λ p f e. absurd (not_short (ltb (length p.bytes) n) (take n p.bytes, place (p.at + n) (drop n p.bytes)) f e);
}

-- numbers of a width
pub record IsWide (w : Width) (limit : ℕ) : Type 0 where
  pub len : (n : ℕ) → length (to_be_bytes w n) ≡ byte_len w
  pub back : (bytes : List ℕ) → length bytes ≡ byte_len w → IsBytes bytes → to_be_bytes w (from_be_bytes w bytes) ≡ bytes
  pub again : (n : ℕ) → n < limit → from_be_bytes w (to_be_bytes w n) ≡ n
  pub below : (bytes : List ℕ) → IsBytes bytes → from_be_bytes w bytes < limit

pub wide16 : IsWide w16 (2 ^ 16)
wide16 = record {
  len = λ n. refl;
  back = λ bytes len fits. be_bytes_2 bytes _ len fits refl;
  again = λ n lt. from_be_bytes-to_be_bytes_2 n lt;
  below = λ bytes fits. omega (arith, fits 0, fits 1);
}

pub wide32 : IsWide w32 (2 ^ 32)
wide32 = record {
  len = λ n. refl;
  back = λ bytes len fits. be_bytes_4 bytes _ len fits refl;
  again = λ n lt. from_be_bytes-to_be_bytes_4 n lt;
  below = λ bytes fits. omega (arith, fits 0, fits 1, fits 2, fits 3);
}

pub wide64 : IsWide w64 (2 ^ 64)
wide64 = record {
  len = λ n. refl;
  back = λ bytes len fits. be_bytes_8 bytes _ len fits refl;
  again = λ n lt. from_be_bytes-to_be_bytes_8 n lt;
  below = λ bytes fits. omega (arith, fits 0, fits 1, fits 2, fits 3, fits 4, fits 5, fits 6, fits 7);
}

module _ (w : Width) (limit : ℕ) (wide : IsWide w limit) where
  number_takes : (p : Place) (n : ℕ) (q : Place) → IsBytes p.bytes → number_at w p ≡ Ok (n, q) → Takes p (to_be_bytes w n) q × (n < limit)
  unfolding number_at
  number_takes p n q fits e =
      let a = bind_ok (bytes_at (byte_len w) p) (λ b. Ok (from_be_bytes w b.0, b.1)) (n, q) e in
      let b = a.0.0 in
      let t = bytes_takes (byte_len w) p b a.0.1 fits a.1 in
      let text : Takes p (to_be_bytes w (from_be_bytes w b)) a.0.1 = rw (wide.back b t.1.1 t.1.0) t.0 in
      subst (λ (z : ℕ × Place). Takes p (to_be_bytes w z.0) z.1 × (z.0 < limit)) (ok_is (from_be_bytes w b, a.0.1) (n, q) a.2) (text, wide.below b t.1.0)

  number_again : (at n : ℕ) (rest : List ℕ) → n < limit → number_at w (place at (to_be_bytes w n ++ rest)) ≡ Ok (n, place (at + length (to_be_bytes w n)) rest)
  unfolding number_at
  number_again at n rest lt =
      ap (λ (r : Read (List ℕ)). r >>= λ b. Ok (from_be_bytes w b.0, b.1)) (bytes_again (byte_len w) at (to_be_bytes w n) rest (wide.len n))
      ∙ ap (λ (m : ℕ). Ok (m, place (at + length (to_be_bytes w n)) rest)) (wide.again n lt)

  number_stays : (p : Place) (f : TraceFault) (more : List ℕ) → IsBytes p.bytes → number_at w p ≡ Err (Fault f) → number_at w (longer p more) ≡ Err (Fault f)
  unfolding number_at
  number_stays p f more fits e =
      elim (bind_err (bytes_at (byte_len w) p) (λ b. Ok (from_be_bytes w b.0, b.1)) (Fault f) e) [
        | at_first e' ↦ absurd (not_short (ltb (length p.bytes) (byte_len w)) (take (byte_len w) p.bytes, place (p.at + byte_len w) (drop (byte_len w) p.bytes)) f e')
        | at_second x e' g ↦ absurd cc
      ]

  number_kind : (p : Place) (f : TraceFault) → number_at w p ≡ Err (Fault f) → IsOfText f
  unfolding number_at
  number_kind p f e =
      elim (bind_err (bytes_at (byte_len w) p) (λ b. Ok (from_be_bytes w b.0, b.1)) (Fault f) e) [
        | at_first e' ↦ (bytes_format (byte_len w)).kind p f e'
        | at_second x e' g ↦ absurd cc
      ]

  pub number_format : IsFormat (number_at w) (to_be_bytes w) (λ n. n < limit)
  number_format = record { takes = number_takes; again = number_again; stays = number_stays; kind = number_kind }

first_takes : (at : ℕ) (bytes : List ℕ) (n : ℕ) (q : Place) → IsBytes bytes → first_at at bytes ≡ Ok (n, q) → Takes (place at bytes) (n ∷ []) q × (n < 256)
first_takes at [] n q fits e = absurd cc
first_takes at (b ∷ rest) n q fits e =
    subst (λ (z : ℕ × Place). Takes (place at (b ∷ rest)) (z.0 ∷ []) z.1 × (z.0 < 256)) (ok_is (b, place (at + 1) rest) (n, q) e)
    (record { parts = refl; at = refl; rest_fits = λ i. fits (suc i) }, fits 0)

first_stays : (at : ℕ) (bytes : List ℕ) (f : TraceFault) (more : List ℕ) → first_at at bytes ≡ Err (Fault f) → first_at at (bytes ++ more) ≡ Err (Fault f)
first_stays at [] f more e = absurd cc
first_stays at (b ∷ rest) f more e = absurd cc

first_kind : (at : ℕ) (bytes : List ℕ) (f : TraceFault) → first_at at bytes ≡ Err (Fault f) → IsOfText f
first_kind at [] f e = absurd cc
first_kind at (b ∷ rest) f e = absurd cc

-- one byte
pub byte_format : IsFormat byte_at (λ n. n ∷ []) (λ n. n < 256)
unfolding byte_at
byte_format = record { takes = takes'; again = again'; stays = stays'; kind = λ p f e. first_kind p.at p.bytes f e }
  where
    takes' : (p : Place) (n : ℕ) (q : Place) → IsBytes p.bytes → byte_at p ≡ Ok (n, q) → Takes p (n ∷ []) q × (n < 256)
    takes' p n q fits e = first_takes p.at p.bytes n q fits e

    again' : (at n : ℕ) (rest : List ℕ) → n < 256 → byte_at (place at ((n ∷ []) ++ rest)) ≡ Ok (n, place (at + 1) rest)
    again' at n rest lt = refl

    stays' : (p : Place) (f : TraceFault) (more : List ℕ) → IsBytes p.bytes → byte_at p ≡ Err (Fault f) → byte_at (longer p more) ≡ Err (Fault f)
    stays' p f more fits e = first_stays p.at p.bytes f more e

-- ---- many items

put_nothing : {A : Type 0} (r : Read (List A)) → in_front [] r ≡ r
put_nothing (Ok others) = refl
put_nothing (Err d) = refl

pub first_in_front : {A : Type 0} (x : A) (r : Read (List A)) → ◌>>=◌ {B = List A × Place} r (λ others. Ok (x ∷ others.0, others.1)) ≡ in_front (x ∷ []) r
first_in_front x (Ok others) = refl
first_in_front x (Err d) = refl

pub put_in_front : {A : Type 0} (xs ys : List A) (r : Read (List A)) → in_front xs (in_front ys r) ≡ in_front (xs ++ ys) r
put_in_front xs ys (Ok others) = ap (λ zs. Ok (zs, others.1)) (sym (append_assoc xs ys others.0))
put_in_front xs ys (Err d) = refl

module _ {A : Type 0} {item : Place → Read A} {text : A → List ℕ} {lawful : A → Type 0} (format : IsFormat item text lawful) where
  abbrev AreItems : ℕ → List A → Type 0
  AreItems n xs = (length xs ≡ n) × AllByRecursion lawful xs

  many_take : (n : ℕ) (p : Place) (xs : List A) (q : Place) → IsBytes p.bytes → many_at item n p ≡ Ok (xs, q) → Takes p (flat_map text xs) q × AreItems n xs
  unfolding many_at
  many_take zero p xs q fits e =
      let nothing : Takes p [] p = record { parts = refl; at = omega arith; rest_fits = fits } in
      subst (λ (z : List A × Place). Takes p (flat_map text z.0) z.1 × AreItems 0 z.0) (ok_is ([], p) (xs, q) e) (nothing, (refl, tt))
  many_take (suc n) p xs q fits e =
      let a = bind_ok (item p) (λ first. many_at item n first.1 >>= λ others. Ok (first.0 ∷ others.0, others.1)) (xs, q) e in
      let b = bind_ok (many_at item n a.0.1) (λ others. Ok (a.0.0 ∷ others.0, others.1)) (xs, q) a.2 in
      let t = format.takes p a.0.0 a.0.1 fits a.1 in
      let u = many_take n a.0.1 b.0.0 b.0.1 t.0.rest_fits b.1 in
      let joined = Takes-then p (text a.0.0) a.0.1 (flat_map text b.0.0) b.0.1 t.0 u.0 in
      subst (λ (z : List A × Place). Takes p (flat_map text z.0) z.1 × AreItems (suc n) z.0) (ok_is (a.0.0 ∷ b.0.0, b.0.1) (xs, q) b.2) (joined, (ap suc u.1.0, (t.1, u.1.1)))

  -- items that stand here are read before the others
  pub many_before : (xs : List A) (k at : ℕ) (rest : List ℕ) → AllByRecursion lawful xs
      → many_at item (length xs + k) (place at (flat_map text xs ++ rest)) ≡ in_front xs (many_at item k (place (at + length (flat_map text xs)) rest))
  unfolding many_at
  many_before [] k at rest each =
      let n : 0 + k ≡ k = omega arith in
      let m : at ≡ at + 0 = omega arith in
      ap (λ (i : ℕ). many_at item i (place at rest)) n ∙ ap (λ (i : ℕ). many_at item k (place i rest)) m ∙ sym (put_nothing (many_at item k (place (at + 0) rest)))
  many_before (x ∷ xs) k at rest each =
      let n : suc (length xs) + k ≡ suc (length xs + k) = omega arith in
      let mid = at + length (text x) in
      let end : mid + length (flat_map text xs) ≡ at + length (text x ++ flat_map text xs) = omega (arith, length-append (text x) (flat_map text xs)) in
      let with_first : Read A → Read (List A) = λ r. r >>= λ first. many_at item (length xs + k) first.1 >>= λ others. Ok (first.0 ∷ others.0, others.1) in
      ap (λ (i : ℕ). many_at item i (place at ((text x ++ flat_map text xs) ++ rest))) n
      ∙ ap (λ (b : List ℕ). with_first (item (place at b))) (append_assoc (text x) (flat_map text xs) rest)
      ∙ ap with_first (format.again at x (flat_map text xs ++ rest) each.0)
      ∙ first_in_front x (many_at item (length xs + k) (place mid (flat_map text xs ++ rest)))
      ∙ ap (in_front (x ∷ [])) (many_before xs k mid rest each.1)
      ∙ put_in_front (x ∷ []) xs (many_at item k (place (mid + length (flat_map text xs)) rest))
      ∙ ap (λ (i : ℕ). in_front (x ∷ xs) (many_at item k (place i rest))) end

  many_again : (n at : ℕ) (xs : List A) (rest : List ℕ) → AreItems n xs → many_at item n (place at (flat_map text xs ++ rest)) ≡ Ok (xs, place (at + length (flat_map text xs)) rest)
  unfolding many_at
  many_again n at xs rest h =
      let count : n ≡ length xs + 0 = omega (arith, h.0) in
      rw count (many_before xs 0 at rest h.1 ∙ ap (λ (ys : List A). Ok (ys, place (at + length (flat_map text xs)) rest)) (append-nil xs))

  many_stay : (n : ℕ) (p : Place) (f : TraceFault) (more : List ℕ) → IsBytes p.bytes → many_at item n p ≡ Err (Fault f) → many_at item n (longer p more) ≡ Err (Fault f)
  unfolding many_at
  many_stay zero p f more fits e = absurd cc
  many_stay (suc n) p f more fits e =
      elim (bind_err (item p) (λ first. many_at item n first.1 >>= λ others. Ok (first.0 ∷ others.0, others.1)) (Fault f) e) [
        | at_first e' ↦ ap (λ (r : Read A). r >>= λ first. many_at item n first.1 >>= λ others. Ok (first.0 ∷ others.0, others.1)) (format.stays p f more fits e')
        | at_second x e' g ↦
            ap (λ (r : Read A). r >>= λ first. many_at item n first.1 >>= λ others. Ok (first.0 ∷ others.0, others.1)) (read-longer format p x.0 x.1 more fits e')
            ∙ first_in_front x.0 (many_at item n (longer x.1 more))
            ∙ ap (in_front (x.0 ∷ [])) (many_stay n x.1 f more (format.takes p x.0 x.1 fits e').0.rest_fits (not_last (many_at item n x.1) x.0 f (sym (first_in_front x.0 (many_at item n x.1)) ∙ g)))
      ]

  many_kind : (n : ℕ) (p : Place) (f : TraceFault) → many_at item n p ≡ Err (Fault f) → IsOfText f
  unfolding many_at
  many_kind zero p f e = absurd cc
  many_kind (suc n) p f e =
      elim (bind_err (item p) (λ first. many_at item n first.1 >>= λ others. Ok (first.0 ∷ others.0, others.1)) (Fault f) e) [
        | at_first e' ↦ format.kind p f e'
        | at_second x e' g ↦ many_kind n x.1 f (not_last (many_at item n x.1) x.0 f (sym (first_in_front x.0 (many_at item n x.1)) ∙ g))
      ]

  -- n items
  pub many_format : (n : ℕ) → IsFormat (many_at item n) (flat_map text) (AreItems n)
  many_format n = record { takes = many_take n; again = many_again n; stays = many_stay n; kind = many_kind n }
