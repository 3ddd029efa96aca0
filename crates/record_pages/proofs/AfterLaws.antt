-- Reading records one after the other, as a loop does.
use Rattle.std.proofs.Common.{◌≡◌, ℕ, suc, ◌-◌, ◌+◌, ◌≤◌, ◌<◌, List, ◌∷◌, Option, Some, None, refl, arith}
use Rattle.std.specs.Option.{option_map}
use Rattle.record_pages.specs.Recs.{Rec}
use Rattle.record_pages.specs.declared.form.RecordForm.{RecordForm}
use Rattle.record_pages.specs.Reading.{◌>>=◌, record_at, records_at}

-- the bytes after this many records
abbrev pub behind : RecordForm → ℕ → List ℕ → Option (List ℕ)
behind form n bytes = option_map (λ x. x.1) (records_at form n bytes)

dropped : (r : Rec) (read : Option (List Rec × List ℕ)) → option_map {T = List Rec × List ℕ} (λ x. x.1) (read >>= λ x. Some (r ∷ x.0, x.1)) ≡ option_map (λ x. x.1) read
dropped r (Some x) = refl
dropped r None = refl

-- one record more
pub behind_one : (form : RecordForm) (n i : ℕ) (bytes : List ℕ) (r : Rec) (after : List ℕ) → i < n → record_at form bytes ≡ Some (r, after) → behind form (n - i) bytes ≡ behind form (n - (i + 1)) after
unfolding records_at
behind_one form n i bytes r after lt e =
    let k : n - i ≡ suc (n - (i + 1)) = omega arith in
    rw (k, e) (dropped r (records_at form (n - (i + 1)) after))

-- no record stands there
pub behind_none : (form : RecordForm) (n i : ℕ) (bytes : List ℕ) → i < n → record_at form bytes ≡ None → behind form (n - i) bytes ≡ None
unfolding records_at
behind_none form n i bytes lt e =
    let k : n - i ≡ suc (n - (i + 1)) = omega arith in
    rw (k, e) refl

pub behind_all : (form : RecordForm) (n i : ℕ) (bytes : List ℕ) → n ≤ i → behind form (n - i) bytes ≡ Some bytes
unfolding records_at
behind_all form n i bytes le = let k : n - i ≡ 0 = omega arith in rw k refl
