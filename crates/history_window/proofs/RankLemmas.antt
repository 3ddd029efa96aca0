-- Look-ups among numbers in order.
use Rattle.std.proofs.Common.{◌≡◌, ℕ, ◌-◌, ◌*◌, ◌/◌, ◌%◌, ◌^◌, ◌<◌, ◌≤◌, Some, List, length, subst, arith, inl, inr}
use Rattle.std.specs.Prelude.{Contains, slice_get}
use Rattle.std.specs.List.Sorted.{IsNonDecreasingBy}
use Rattle.std.proofs.lemmas.Bool.{cases_lt}
use Rattle.std.proofs.lemmas.Option.{slice_get_within}
use Rattle.certificate_finder.specs.Leaves.{itself}
use Rattle.certificate_finder.specs.Writing.{IsSplit, IsSplitBelow}
use Rattle.history_window.specs.Ranks.{AreSorted, IsFrom, IsStampFrom, IsStampUpto, IsUpto, rank_of}
use Rattle.history_window.proofs.ListLemmas.{contains_at, in_order_at, index_of}

pub sorted_made : (want made ranks : List ℕ) → made ≡ want → AreSorted made ranks → AreSorted want ranks
sorted_made want made ranks is are = subst (λ xs. AreSorted xs ranks) is are

-- ---- the greatest up to a limit, and the least from it

module _ (ranks : List ℕ) (limit count : ℕ) (rise : IsNonDecreasingBy itself ranks) where
  pub none_upto : IsSplit itself ranks limit count → count ≡ 0 → (n : ℕ) → ¬ IsUpto ranks limit n
  none_upto split none n is =
      let k = index_of ranks n is.listed in
      let high : limit < n = split.high k.0 n (omega (arith, none)) k.1 in
      let low = is.low in
      omega (arith, high, low)

  pub some_upto : (top : ℕ) → IsSplit itself ranks limit count → 0 < count → slice_get ranks (count - 1) ≡ Some top → IsUpto ranks limit top × ((n : ℕ) → IsUpto ranks limit n → n ≤ top)
  some_upto top split some at = (
    record { listed = contains_at ranks (count - 1) top at; low = split.low (count - 1) top (omega (arith, some)) at },
    λ n is.
        let k = index_of ranks n is.listed in
        let low = is.low in
        let less : k.0 < count = elim (cases_lt k.0 count) [
          | inl before ↦ before
          | inr past ↦ let high : limit < n = split.high k.0 n past k.1 in absurd (omega (arith, low, high))
        ] in
        in_order_at itself ranks k.0 (count - 1) n top rise (omega (arith, less)) k.1 at,
  )

  pub none_from : IsSplitBelow itself ranks limit count → count ≡ length ranks → (n : ℕ) → ¬ IsFrom ranks limit n
  none_from split all n is =
      let k = index_of ranks n is.listed in
      let within = slice_get_within ranks k.0 n k.1 in
      let low : n < limit = split.low k.0 n (omega (arith, all, within)) k.1 in
      let high = is.high in
      omega (arith, high, low)

  pub some_from : (least : ℕ) → IsSplitBelow itself ranks limit count → slice_get ranks count ≡ Some least → IsFrom ranks limit least × ((n : ℕ) → IsFrom ranks limit n → least ≤ n)
  some_from least split at = (
    record { listed = contains_at ranks count least at; high = split.high count least (omega arith) at },
    λ n is.
        let k = index_of ranks n is.listed in
        let high = is.high in
        let past : count ≤ k.0 = elim (cases_lt k.0 count) [
          | inl before ↦ let low : n < limit = split.low k.0 n before k.1 in absurd (omega (arith, low, high))
          | inr after ↦ after
        ] in
        in_order_at itself ranks count k.0 least n rise past at k.1,
  )

-- ---- stamps of a word

rank_less : (word s t : ℕ) → s ≤ t → rank_of word s ≤ rank_of word t
rank_less word s t le = omega (arith, le)

less_rank : (word s t : ℕ) → rank_of word s ≤ rank_of word t → s ≤ t
less_rank word s t le = omega (arith, le)

-- between two ranks of a word are only ranks of it
rank_between : (word s t rank : ℕ) → t < 2 ^ 64 → rank_of word s ≤ rank → rank ≤ rank_of word t → (stamp : ℕ) × (stamp < 2 ^ 64) × (rank ≡ rank_of word stamp)
rank_between word s t rank small low high = (rank - word * 2 ^ 64, omega (arith, small, low, high), omega (arith, low))

module _ (ranks : List ℕ) (word limit : ℕ) (small : limit < 2 ^ 64) where
  pub none_last : ((n : ℕ) → ¬ IsUpto ranks (rank_of word limit) n) → (s : ℕ) → ¬ IsStampUpto ranks word limit s
  none_last none s is = none (rank_of word s) (record { listed = is.listed; low = rank_less word s limit is.low })

  pub other_last : (top : ℕ) → IsUpto ranks (rank_of word limit) top → ((n : ℕ) → IsUpto ranks (rank_of word limit) n → n ≤ top) → ((s : ℕ) → s < 2 ^ 64 → ¬ (top ≡ rank_of word s)) → (s : ℕ) → ¬ IsStampUpto ranks word limit s
  other_last top found greatest apart s is =
      let le = greatest (rank_of word s) (record { listed = is.listed; low = rank_less word s limit is.low }) in
      let mine = rank_between word s limit top small le found.low in
      apart mine.0 mine.1 mine.2

  pub some_last : (top stamp : ℕ) → IsUpto ranks (rank_of word limit) top → ((n : ℕ) → IsUpto ranks (rank_of word limit) n → n ≤ top) → stamp < 2 ^ 64 → top ≡ rank_of word stamp → IsStampUpto ranks word limit stamp × ((s : ℕ) → IsStampUpto ranks word limit s → s ≤ stamp)
  some_last top stamp found greatest fits is = (
    record {
      small = fits;
      listed = subst (Contains ranks) is found.listed;
      low = less_rank word stamp limit (subst (λ r. r ≤ rank_of word limit) is found.low);
    },
    λ s one. less_rank word s stamp (subst (λ r. rank_of word s ≤ r) is (greatest (rank_of word s) (record { listed = one.listed; low = rank_less word s limit one.low }))),
  )

  pub none_first : ((n : ℕ) → ¬ IsFrom ranks (rank_of word limit) n) → (s : ℕ) → ¬ IsStampFrom ranks word limit s
  none_first none s is = none (rank_of word s) (record { listed = is.listed; high = rank_less word limit s is.high })

  pub other_first : (least : ℕ) → IsFrom ranks (rank_of word limit) least → ((n : ℕ) → IsFrom ranks (rank_of word limit) n → least ≤ n) → ((s : ℕ) → s < 2 ^ 64 → ¬ (least ≡ rank_of word s)) → (s : ℕ) → ¬ IsStampFrom ranks word limit s
  other_first least found lowest apart s is =
      let le = lowest (rank_of word s) (record { listed = is.listed; high = rank_less word limit s is.high }) in
      let mine = rank_between word limit s least is.small found.high le in
      apart mine.0 mine.1 mine.2

  pub some_first : (least stamp : ℕ) → IsFrom ranks (rank_of word limit) least → ((n : ℕ) → IsFrom ranks (rank_of word limit) n → least ≤ n) → stamp < 2 ^ 64 → least ≡ rank_of word stamp → IsStampFrom ranks word limit stamp × ((s : ℕ) → IsStampFrom ranks word limit s → stamp ≤ s)
  some_first least stamp found lowest fits is = (
    record {
      small = fits;
      listed = subst (Contains ranks) is found.listed;
      high = less_rank word limit stamp (subst (λ r. rank_of word limit ≤ r) is found.high);
    },
    λ s one. less_rank word stamp s (subst (λ r. r ≤ rank_of word s) is (lowest (rank_of word s) (record { listed = one.listed; high = rank_less word limit s one.high }))),
  )

-- ---- the word of a rank

pub own_word : (word rank : ℕ) → rank / 18446744073709551616 ≡ word → (rank % 18446744073709551616 < 2 ^ 64) × (rank ≡ rank_of word (rank % 18446744073709551616))
own_word word rank is = (omega arith, omega (arith, is))

pub other_word : (word rank : ℕ) → (rank / 18446744073709551616 ≡ word → ⊥) → (s : ℕ) → s < 2 ^ 64 → ¬ (rank ≡ rank_of word s)
other_word word rank apart s small is = apart (omega (arith, small, is))
