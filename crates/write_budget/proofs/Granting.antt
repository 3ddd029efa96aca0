-- What is granted, moment by moment.
use Rattle.std.proofs.Common.{◌≡◌, ℕ, suc, ◌+◌, ◌*◌, ◌-◌, ◌<◌, ◌≤◌, Bool, true, false, ◌&&◌, List, [], ◌∷◌, if◌then◌else◌, refl, ap, ◌∙◌, inl, inr, arith}
use Rattle.std.proofs.lemmas.Bool.{cases_lt, lt-leb, le-leb, lt-ltb, and_parts, and_right}
use Rattle.std.proofs.lemmas.Bool.Decides.{nat_tests}
use Rattle.std.specs.Prelude.{nat_le}
use Rattle.write_budget.specs.Bucket.{Bucket, price, room_of, filled, is_granted, after_asking}
use Rattle.write_budget.specs.Laws.{is_between, granted_between, IsWithinBudget, BackIsNothing, SavedIsGranted}

-- the credit that is left at a moment once a page was asked for
abbrev left : Bucket → ℕ → ℕ
left b now = if is_granted b now then filled b now - price else filled b now

-- the bucket at a moment that is not before the latest one, once a page was asked for
abbrev moved : Bucket → ℕ → Bucket
moved b now = record { pages = b.pages; latest = now; credit = left b now }

-- how many pages count of one moment
abbrev counted : ℕ → ℕ → Bucket → ℕ → ℕ
counted first last b now = if is_between first last now && is_granted b now then 1 else 0

back_granted : (b : Bucket) (now : ℕ) → now < b.latest → is_granted b now ≡ false
back_granted b now back = ap (λ t. t && nat_le price (filled b now)) (lt-leb b.latest now back)

back_same : (b : Bucket) (now : ℕ) → now < b.latest → after_asking b now ≡ b
back_same b now back = ap (λ t. if t then b else moved b now) (lt-ltb now b.latest back)

on_same : (b : Bucket) (now : ℕ) → b.latest ≤ now → after_asking b now ≡ moved b now
on_same b now on = ap (λ t. if t then b else moved b now) (lt-leb (suc now) b.latest (omega (arith, on)))

pub back_is_nothing : BackIsNothing
back_is_nothing b now back = (back_granted b now back, back_same b now back)

pub saved_is_granted : SavedIsGranted
saved_is_granted b now on enough =
    ap (λ t. t && nat_le price (filled b now)) (le-leb b.latest now on) ∙ le-leb price (filled b now) (omega (arith, enough))

-- ---- one moment

-- a page that counts was paid for
paid_by : (in_it given : Bool) (credit : ℕ) → (given ≡ true → price ≤ credit) →
    (if in_it && given then 1 else 0) * price + (if given then credit - price else credit) ≤ credit
paid_by true true credit has = let enough = has refl in omega (arith, enough)
paid_by false true credit has = let enough = has refl in omega (arith, enough)
paid_by true false credit has = omega arith
paid_by false false credit has = omega arith

paid : (first last : ℕ) (b : Bucket) (now : ℕ) → counted first last b now * price + left b now ≤ filled b now
paid first last b now = paid_by (is_between first last now) (is_granted b now) (filled b now) (λ is. enough ((and_parts (nat_le b.latest now) (nat_le price (filled b now)) is).1))
  where
    enough : nat_le price (filled b now) ≡ true → price ≤ filled b now
    enough is = grind (arith, nat_tests)

-- no page counts of a moment before the latest, or of one outside
none_back : (first last : ℕ) (b : Bucket) (now : ℕ) → now < b.latest → counted first last b now ≡ 0
none_back first last b now back =
    ap (λ (t : Bool). if t then 1 else 0) (and_right (is_between first last now) (is_granted b now) (back_granted b now back))

none_before : (first last : ℕ) (b : Bucket) (now : ℕ) → now < first → counted first last b now ≡ 0
none_before first last b now before = ap (λ (t : Bool). if (t && nat_le now last) && is_granted b now then 1 else 0) (lt-leb first now before)

none_after : (first last : ℕ) (b : Bucket) (now : ℕ) → last < now → counted first last b now ≡ 0
none_after first last b now past =
    ap (λ (t : Bool). if t && is_granted b now then 1 else 0) (and_right (nat_le first now) (nat_le now last) (lt-leb now last past))

-- ---- many moments

module _ (first last : ℕ) where
  abbrev many : Bucket → List ℕ → ℕ
  many = granted_between first last

  many_back : (b : Bucket) (now : ℕ) (nows : List ℕ) → now < b.latest → many b (now ∷ nows) ≡ many b nows
  many_back b now nows back =
      let none = none_back first last b now back in
      let same : many (after_asking b now) nows ≡ many b nows = ap (λ (n : Bucket). many n nows) (back_same b now back) in
      omega (arith, none, same)

  many_on : (b : Bucket) (now : ℕ) (nows : List ℕ) → b.latest ≤ now → many b (now ∷ nows) ≡ counted first last b now + many (moved b now) nows
  many_on b now nows on = ap (λ (n : Bucket). counted first last b now + many n nows) (on_same b now on)

  -- none counts once the time between is over
  over : (b : Bucket) (nows : List ℕ) → last < b.latest → many b nows ≡ 0
  over b [] past = refl
  over b (now ∷ nows) past = elim (cases_lt now b.latest) [
    | inl back ↦ many_back b now nows back ∙ over b nows past
    | inr on ↦
        let none : counted first last b now ≡ 0 = none_after first last b now (omega (arith, past, on)) in
        let rest : many (moved b now) nows ≡ 0 = over (moved b now) nows (omega (arith, past, on)) in
        let all = many_on b now nows on in
        omega (arith, none, rest, all)
  ]

times_parts : (pages a b : ℕ) → pages * (a + b) ≡ pages * a + pages * b
times_parts pages a b = grind arith

-- time is passed in two parts
time_parts : (pages from till end : ℕ) → from ≤ till → till ≤ end → pages * (end - from) ≡ pages * (till - from) + pages * (end - till)
time_parts pages from till end one two =
    let sum : end - from ≡ (till - from) + (end - till) = omega arith in
    ap (λ n. pages * n) sum ∙ times_parts pages (till - from) (end - till)

-- the second part is no longer than both
time_less : (pages from till end : ℕ) → from ≤ till → till ≤ end → pages * (end - till) ≤ pages * (end - from)
time_less pages from till end one two = let parts = time_parts pages from till end one two in omega (arith, parts)

-- what is granted up to a last moment was saved up at the latest one, or is given until the last
saved : (first last : ℕ) (b : Bucket) (nows : List ℕ) → b.latest ≤ last → granted_between first last b nows * price ≤ b.credit + b.pages * (last - b.latest)
saved first last b [] before = omega arith
saved first last b (now ∷ nows) before = elim (cases_lt now b.latest) [
  | inl back ↦
      let same = many_back first last b now nows back in
      let rest = saved first last b nows before in
      omega (arith, same, rest)
  | inr on ↦
      let all = many_on first last b now nows on in
      elim (cases_lt last now) [
        | inl past ↦
            let none = none_after first last b now past in
            let rest = over first last (moved b now) nows past in
            omega (arith, all, none, rest)
        | inr until ↦
            let pays = paid first last b now in
            let rest : granted_between first last (moved b now) nows * price ≤ left b now + b.pages * (last - now) = saved first last (moved b now) nows until in
            let parts = time_parts b.pages b.latest now last on until in
            omega (arith, all, pays, rest, parts)
      ]
]

pub within_budget : IsWithinBudget
within_budget b [] first last within order = omega arith
within_budget b (now ∷ nows) first last within order = elim (cases_lt now b.latest) [
  | inl back ↦
      let same = many_back first last b now nows back in
      let rest = within_budget b nows first last within order in
      omega (arith, same, rest)
  | inr on ↦
      let all = many_on first last b now nows on in
      let pays = paid first last b now in
      let fits : left b now ≤ room_of b.pages = omega (arith, pays) in
      elim (cases_lt now first) [
        | inl early ↦
            let none = none_before first last b now early in
            let rest : granted_between first last (moved b now) nows * price ≤ b.pages * (last - first) + room_of b.pages = within_budget (moved b now) nows first last fits order in
            omega (arith, all, none, rest)
        | inr begun ↦ elim (cases_lt last now) [
          | inl past ↦
              let none = none_after first last b now past in
              let rest = over first last (moved b now) nows past in
              omega (arith, all, none, rest)
          | inr until ↦
              let rest : granted_between first last (moved b now) nows * price ≤ left b now + b.pages * (last - now) = saved first last (moved b now) nows until in
              let less = time_less b.pages first now last begun until in
              omega (arith, all, pays, rest, less)
        ]
      ]
]
