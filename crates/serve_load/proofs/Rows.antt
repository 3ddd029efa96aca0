-- Rows that are told one after another.
use Rattle.std.proofs.Common.{◌≡◌, ◌∙◌, ◌+◌, ◌<◌, ap, ℕ, List, [], ◌∷◌, ◌++◌, get_or, length, map, sym, take}
use Rattle.std.proofs.lemmas.List.{map-append, take_more}
use Rattle.std.proofs.lemmas.List.Sums.{fold-append}
use Rattle.figures.specs.declared.form.Form.{Form}
use Rattle.figures.specs.Figures.{Row, number, row, with_row, with_rows}

-- four rows after those that are told
pub fourth : (form : Form) (t0 t1 t2 t3 t4 : List ℕ) (a b d e : Row) → t1 ≡ with_row form t0 a → t2 ≡ with_row form t1 b → t3 ≡ with_row form t2 d → t4 ≡ with_row form t3 e → t4 ≡ with_rows form t0 (a ∷ b ∷ d ∷ e ∷ [])
fourth form t0 t1 t2 t3 t4 a b d e p q r s =
    s ∙ ap (λ t. with_row form t e) (r ∙ ap (λ t. with_row form t d) (q ∙ ap (λ t. with_row form t b) p))

-- rows after rows
pub then_rows : (form : Form) (t0 t1 t2 : List ℕ) (a b : List Row) → t1 ≡ with_rows form t0 a → t2 ≡ with_rows form t1 b → t2 ≡ with_rows form t0 (a ++ b)
then_rows form t0 t1 t2 a b p q = q ∙ ap (λ t. with_rows form t b) p ∙ sym (fold-append (with_row form) t0 a b)

pub third : (form : Form) (t0 t1 t2 t3 : List ℕ) (a b d : Row) → t1 ≡ with_row form t0 a → t2 ≡ with_row form t1 b → t3 ≡ with_row form t2 d → t3 ≡ with_rows form t0 (a ∷ b ∷ d ∷ [])
third form t0 t1 t2 t3 a b d p q r = r ∙ ap (λ t. with_row form t d) (q ∙ ap (λ t. with_row form t b) p)

-- a row of a number is one of its equal
pub renumbered : (form : Form) (t0 t1 name : List ℕ) (m n : ℕ) → t1 ≡ with_row form t0 (row name (number m)) → m ≡ n → t1 ≡ with_row form t0 (row name (number n))
renumbered form t0 t1 name m n p q = p ∙ ap (λ k. with_row form t0 (row name (number k))) q

-- three parts after one another
pub all_rows : (form : Form) (t0 t1 t2 t3 : List ℕ) (a b d : List Row) → t0 ≡ [] → t1 ≡ with_rows form t0 a → t2 ≡ with_rows form t1 b → t3 ≡ with_rows form t2 d → t3 ≡ with_rows form [] (a ++ (b ++ d))
all_rows form t0 t1 t2 t3 a b d z p q r = then_rows form t0 t1 t3 a (b ++ d) p (then_rows form t1 t2 t3 b d q r) ∙ ap (λ t. with_rows form t (a ++ (b ++ d))) z

-- one row more, of one element more
pub row_more : {X : Type 0} (form : Form) (f : X → Row) (xs : List X) (i : ℕ) (x : X) (t0 t1 t2 : List ℕ) → i < length xs → x ≡ get_or xs i x → t1 ≡ with_rows form t0 (map f (take i xs)) → t2 ≡ with_row form t1 (f x) → t2 ≡ with_rows form t0 (map f (take (i + 1) xs))
row_more {X} form f xs i x t0 t1 t2 less is p q =
    let more : take (i + 1) xs ≡ take i xs ++ x ∷ [] = take_more xs i x less ∙ ap (λ (y : X). take i xs ++ y ∷ []) (sym is) in
    q
    ∙ ap (λ t. with_row form t (f x)) p
    ∙ sym (fold-append (with_row form) t0 (map f (take i xs)) (f x ∷ []))
    ∙ ap (with_rows form t0) (sym (ap (map f) more ∙ map-append f (take i xs) (x ∷ [])))
