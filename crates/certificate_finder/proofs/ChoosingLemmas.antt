-- The best of the puts that a hit can have read.
use Rattle.std.proofs.Common.{◌≡◌, ℕ, ◌+◌, ◌^◌, ◌<◌, ◌≤◌, ◌⊎◌, Some, None, Option, List, [], ◌∷◌, ◌++◌, length, refl, sym, ap, ◌∙◌, subst, arith, inl, inr}
use Rattle.std.specs.Prelude.{All, slice_get, IsTrue}
use Rattle.std.proofs.lemmas.Bool.{cases_eq, cases_lt}
use Rattle.std.proofs.lemmas.List.{length_push}
use Rattle.std.proofs.lemmas.Option.{slice_get_within}
use Rattle.record_pages.specs.Expiry.{is_live}
use Rattle.trace_file.specs.declared.call_kind.CallKind.TheVariants as kinds
use Rattle.certificate_finder.specs.declared.numbered_call.NumberedCall.{NumberedCall}
use Rattle.certificate_finder.specs.declared.offer.Offer.{Offer}
use Rattle.certificate_finder.specs.declared.put.Put.{Put}
use Rattle.certificate_finder.specs.declared.rule.Rule.{Rule}
use Rattle.certificate_finder.specs.Choosing.{IsChosen, IsOffer, Wins, WinsOver}
use Rattle.certificate_finder.specs.Lists.{TellsOne}
use Rattle.certificate_finder.specs.Offering.{AreLinksUpto, IsBestAmong, IsBestOffer, IsLink, IsWinner, IsWithPut, ReadsIn, times_in}
use Rattle.certificate_finder.specs.Owning.{IsUnsure, ReadsLive}
use Rattle.certificate_finder.specs.Putting.{ArePuts, CanRead, IsFitPut, Putting, TellsPut, last_rank, put_rank, value_rank}
use Rattle.certificate_finder.specs.Steps.{IsFit}
use Rattle.certificate_finder.specs.Writing.{IsSplit}
use Rattle.certificate_finder.proofs.Listing.{all_at, index_of, same_at}
use Rattle.certificate_finder.proofs.OwnLemmas.{can_read, read_by}
use Rattle.certificate_finder.proofs.StepLemmas.{at_front, at_push}

-- ---- going back over puts

pub links_begin : (puts : List Put) → AreLinksUpto puts 0 []
links_begin puts = record { count = refl; each = λ k link at. absurd (let within = slice_get_within {A = ℕ} [] k link at in omega arith) }

pub links_more : (puts : List Put) (upto link : ℕ) (links : List ℕ) → AreLinksUpto puts upto links → IsLink puts upto link → AreLinksUpto puts (upto + 1) (links ++ link ∷ [])
links_more puts upto link links had is = record {
  count = let l = length_push links link in let c = had.count in omega arith;
  each = λ k other at. elim (cases_eq k upto) [
    | inl same ↦
        let e = at_push links link other k at (same ∙ sym had.count) in
        subst (λ x. IsLink puts k x) e (subst (λ q. IsLink puts q link) (sym same) is)
    | inr apart ↦ had.each k other (at_front links link other k at (λ last. apart (last ∙ had.count)))
  ];
}

-- ---- which offer is better

pub wins_on : (a b c : Offer) → Wins a b → Wins b c → Wins a c
wins_on a b c one other = elim one [
  | inl less ↦ elim other [
    | inl more ↦ inl (omega arith)
    | inr rest ↦ let e = rest.0 in inl (omega arith)
  ]
  | inr same ↦ elim other [
    | inl more ↦ let e = same.0 in inl (omega arith)
    | inr rest ↦ inr (
      same.0 ∙ rest.0,
      elim same.1 [
        | inl later ↦ elim rest.1 [
          | inl more ↦ inl (omega arith)
          | inr equal ↦ let e = equal.0 in inl (omega arith)
        ]
        | inr equal ↦ elim rest.1 [
          | inl more ↦ let e = equal.0 in inl (omega arith)
          | inr last ↦ inr (equal.0 ∙ last.0, (let l = equal.1 in let m = last.1 in let r : c.put < a.put = omega arith in r))
        ]
      ],
    )
  ]
]

-- ---- the puts that a hit can have read

key_of : (pk pv ps pd hk hv hs he : ℕ) → pv < 2 ^ 32 → hv < 2 ^ 32 → ps < 2 ^ 64 → pd < 2 ^ 64 → hs < 2 ^ 64 → he < 2 ^ 64 → value_rank pk pv ps ≤ value_rank hk hv he → value_rank hk hv hs ≤ value_rank pk pv pd → pk ≡ hk
key_of pk pv ps pd hk hv hs he a b c d e f low high = omega arith

word_of : (k pv ps pd hv hs he : ℕ) → ps < 2 ^ 64 → pd < 2 ^ 64 → hs < 2 ^ 64 → he < 2 ^ 64 → value_rank k pv ps ≤ value_rank k hv he → value_rank k hv hs ≤ value_rank k pv pd → pv ≡ hv
word_of k pv ps pd hv hs he c d e f low high = omega arith

stamps_of : (k v a b : ℕ) → value_rank k v a ≤ value_rank k v b → a ≤ b
stamps_of k v a b le = omega arith

ranks_of : (k v a b : ℕ) → a ≤ b → value_rank k v a ≤ value_rank k v b
ranks_of k v a b le = omega arith

module _ (steps : List NumberedCall) (puts : List Put) (are : ArePuts steps puts) (fits : All IsFit steps) (hit : ℕ) (asked : NumberedCall) (at : slice_get steps hit ≡ Some asked) where
  fit : IsFit asked
  fit = all_at IsFit steps hit asked fits at

  -- what the put at an index tells of a call
  told_at : (k : ℕ) (put : Put) → slice_get puts k ≡ Some put → TellsOne steps Putting (TellsPut steps) put
  told_at k put at_k = all_at (TellsOne steps Putting (TellsPut steps)) puts k put are.lists.sound at_k

  reads_told : (k : ℕ) (put : Put) (at_k : slice_get puts k ≡ Some put) → ReadsIn steps hit put.position → ReadsLive steps asked (told_at k put at_k).step
  reads_told k put at_k reads =
      let t = told_at k put at_k in
      let given : reads.given ≡ t.step = same_at steps put.position t.position reads.given t.step t.told.is_at reads.given_at t.at in
      let one : reads.asked ≡ asked = same_at steps hit hit reads.asked asked refl reads.asked_at at in
      subst (λ s. ReadsLive steps s t.step) one (subst (λ g. ReadsLive steps reads.asked g) given reads.reads)

  can_at : (k : ℕ) (put : Put) → slice_get puts k ≡ Some put → ReadsIn steps hit put.position → CanRead asked put
  can_at k put at_k reads =
      let t = told_at k put at_k in
      can_read steps t.position t.step asked put fit.start t.told (reads_told k put at_k reads).may

  pub live_at : (k : ℕ) (put : Put) → slice_get puts k ≡ Some put → ReadsIn steps hit put.position → IsTrue (is_live put.expires asked.time)
  live_at k put at_k reads = subst (λ e. IsTrue (is_live e asked.time)) (sym (told_at k put at_k).told.expires) (reads_told k put at_k reads).live

  -- a put of a later rank than the hit's end has is none that it can have read
  pub not_begun : (k upto : ℕ) (put : Put) → IsSplit put_rank puts (value_rank asked.key asked.value asked.end) upto → upto ≤ k → slice_get puts k ≡ Some put → ¬ ReadsIn steps hit put.position
  not_begun k upto put split more at_k reads =
      let can = can_at k put at_k reads in
      let high = split.high k put more at_k in
      let high' : value_rank asked.key asked.value asked.end < value_rank asked.key asked.value put.start = subst (λ v. value_rank asked.key asked.value asked.end < value_rank asked.key v put.start) can.value (subst (λ q. value_rank asked.key asked.value asked.end < value_rank q put.value put.start) can.key high) in
      let low = ranks_of asked.key asked.value put.start asked.end can.begun in
      omega arith

  -- nor is one that can be read for less long than to the hit's start
  pub not_standing : (k : ℕ) (put : Put) → last_rank put < value_rank asked.key asked.value asked.start → slice_get puts k ≡ Some put → ¬ ReadsIn steps hit put.position
  not_standing k put less at_k reads =
      let can = can_at k put at_k reads in
      let less' : value_rank asked.key asked.value put.dead < value_rank asked.key asked.value asked.start = subst (λ v. value_rank asked.key v put.dead < value_rank asked.key asked.value asked.start) can.value (subst (λ q. value_rank q put.value put.dead < value_rank asked.key asked.value asked.start) can.key less) in
      let low = ranks_of asked.key asked.value asked.start put.dead can.stands in
      omega arith

  -- nor are those that its link passes over
  pub none_standing : (index link from : ℕ) (put : Put) → from ≡ index + 1 → IsLink puts index link → slice_get puts index ≡ Some put → last_rank put < value_rank asked.key asked.value asked.start → (k : ℕ) (other : Put) → link ≤ k → k < from → slice_get puts k ≡ Some other → ¬ ReadsIn steps hit other.position
  none_standing index link from put next is at_put less k other low high at_k = not_standing k other (let le = is.least k other put low (omega arith) at_k at_put in omega arith) at_k

  -- each other one that is live it can have read
  pub can_have_read : (k upto : ℕ) (put : Put) → asked.kind ≡ kinds.Hit → IsSplit put_rank puts (value_rank asked.key asked.value asked.end) upto → k < upto → slice_get puts k ≡ Some put → value_rank asked.key asked.value asked.start ≤ last_rank put → IsTrue (is_live put.expires asked.time) → ReadsIn steps hit put.position
  can_have_read k upto put kind split less at_k stands live =
      let f : IsFitPut put = all_at IsFitPut puts k put are.in_order.fit at_k in
      let begun = split.low k put less at_k in
      let key = key_of put.key put.value put.start put.dead asked.key asked.value asked.start asked.end f.value fit.value f.start f.dead fit.start fit.end begun stands in
      let begun' : value_rank asked.key put.value put.start ≤ value_rank asked.key asked.value asked.end = subst (λ q. value_rank q put.value put.start ≤ value_rank asked.key asked.value asked.end) key begun in
      let stands' : value_rank asked.key asked.value asked.start ≤ value_rank asked.key put.value put.dead = subst (λ q. value_rank asked.key asked.value asked.start ≤ value_rank q put.value put.dead) key stands in
      let value = word_of asked.key put.value put.start put.dead asked.value asked.start asked.end f.start f.dead fit.start fit.end begun' stands' in
      let low = stamps_of asked.key asked.value put.start asked.end (subst (λ v. value_rank asked.key v put.start ≤ value_rank asked.key asked.value asked.end) value begun') in
      let high = stamps_of asked.key asked.value asked.start put.dead (subst (λ v. value_rank asked.key asked.value asked.start ≤ value_rank asked.key v put.dead) value stands') in
      let r = read_by steps puts are asked fit k put at_k (record { put = put; at = at_k; reads = record { key = key; value = value; begun = low; stands = high }; live = live }) in
      record { asked = asked; given = r.0; asked_at = at; given_at = r.1; kind = kind; reads = r.2 }

  -- ---- the best offer so far

  module _ (owners : List ℕ) (rule : Rule) (upto : ℕ) where
    -- puts that the hit can't have read change nothing
    pub skip : (best : Option Offer) (link from : ℕ) → ((k : ℕ) (put : Put) → link ≤ k → k < from → slice_get puts k ≡ Some put → ¬ ReadsIn steps hit put.position) → IsBestOffer steps puts owners rule hit from upto best → IsBestOffer steps puts owners rule hit link upto best
    skip None link from none had = λ k put low less at_k. elim (cases_lt k from) [
      | inl below ↦ none k put low below at_k
      | inr not ↦ had k put (omega arith) less at_k
    ]
    skip (Some offer) link from none had = record {
      is = had.is;
      can = had.can;
      best = λ k put low less at_k reads apart. elim (cases_lt k from) [
        | inl below ↦ absurd (none k put low below at_k reads)
        | inr not ↦ had.best k put (omega arith) less at_k reads apart
      ];
    }

    module _ (index : ℕ) (put : Put) (at_put : slice_get puts index ≡ Some put) (offer : Offer) (put_is : offer.put ≡ put.position) (is : IsOffer rule (times_in steps) owners hit offer) (can : ReadsIn steps hit put.position) where
      can_offer : ReadsIn steps hit offer.put
      can_offer = subst (λ p. ReadsIn steps hit p) (sym put_is) can

      -- the put at this index is the offer's
      position_is : (k : ℕ) (other : Put) → k ≡ index → slice_get puts k ≡ Some other → other.position ≡ offer.put
      position_is k other same at_k = ap (λ (p : Put). p.position) (same_at puts k index other put same at_k at_put) ∙ sym put_is

      over : (known : Offer) → Wins known offer → (k : ℕ) (other : Put) → k ≡ index → slice_get puts k ≡ Some other → WinsOver rule (times_in steps) owners hit known other.position
      over known wins k other same at_k = record { rival = offer; is = is; put_is = sym (position_is k other same at_k); wins = wins }

      -- what loses to the best one so far loses to a better one
      passed : (known : Offer) (p : ℕ) → Wins offer known ⊎ (offer ≡ known) → WinsOver rule (times_in steps) owners hit known p → WinsOver rule (times_in steps) owners hit offer p
      passed known p better w = record {
        rival = w.rival;
        is = w.is;
        put_is = w.put_is;
        wins = elim better [
          | inl wins ↦ wins_on offer known w.rival wins w.wins
          | inr same ↦ subst (λ o. Wins o w.rival) (sym same) w.wins
        ];
      }

      winner_is : (best : Option Offer) (winner : Offer) → IsWinner best offer winner → IsBestOffer steps puts owners rule hit (index + 1) upto best → IsBestAmong steps puts owners rule hit index upto winner
      winner_is None winner same had = subst (λ w. IsBestAmong steps puts owners rule hit index upto w) (sym same) (record {
        is = is;
        can = can_offer;
        best = λ k other low less at_k reads apart. elim (cases_eq k index) [
          | inl here ↦ absurd (apart (position_is k other here at_k))
          | inr later ↦ absurd (had k other (omega arith) less at_k reads)
        ];
      })
      winner_is (Some known) winner won had = elim won [
        | inl kept ↦ subst (λ w. IsBestAmong steps puts owners rule hit index upto w) (sym kept.0) (record {
          is = had.is;
          can = had.can;
          best = λ k other low less at_k reads apart. elim (cases_eq k index) [
            | inl here ↦ over known kept.1 k other here at_k
            | inr later ↦ had.best k other (omega arith) less at_k reads apart
          ];
        })
        | inr taken ↦ subst (λ w. IsBestAmong steps puts owners rule hit index upto w) (sym taken.0) (record {
          is = is;
          can = can_offer;
          best = λ k other low less at_k reads apart. elim (cases_eq k index) [
            | inl here ↦ absurd (apart (position_is k other here at_k))
            | inr later ↦ elim (cases_eq other.position known.put) [
              | inl known_put ↦ elim taken.1 [
                | inl wins ↦ record { rival = known; is = had.is; put_is = sym known_put; wins = wins }
                | inr same ↦ absurd (apart (known_put ∙ ap (λ (o : Offer). o.put) (sym same)))
              ]
              | inr other_put ↦ passed known other.position taken.1 (had.best k other (omega arith) less at_k reads other_put)
            ]
          ];
        })
      ]

    -- one put more
    pub more : (index : ℕ) (put : Put) (best new : Option Offer) → slice_get puts index ≡ Some put → (IsTrue (is_live put.expires asked.time) → ReadsIn steps hit put.position) → IsWithPut steps owners rule hit put best new → IsBestOffer steps puts owners rule hit (index + 1) upto best → IsBestOffer steps puts owners rule hit index upto new
    more index put best new at_put can with had =
        let one : with.0 ≡ asked = same_at steps hit hit with.0 asked refl with.1 at in
        elim with.2 [
          | inl dead ↦ subst (λ b. IsBestOffer steps puts owners rule hit index upto b) (sym dead.1) (skip best index (index + 1) (λ k other low less at_k reads.
              let e : other ≡ put = same_at puts k index other put (omega arith) at_k at_put in
              let l = live_at k other at_k reads in
              dead.0 (subst (λ s. IsTrue (is_live put.expires s.time)) (sym one) (subst (λ (p : Put). IsTrue (is_live p.expires asked.time)) e l))) had)
          | inr live ↦
              let l = subst (λ (s : NumberedCall). IsTrue (is_live put.expires s.time)) one live.0 in
              subst (λ b. IsBestOffer steps puts owners rule hit index upto b) (sym live.1.5) (winner_is index put at_put live.1.0 live.1.2 live.1.3 (can l) best live.1.1 live.1.4 had)
        ]

  -- ---- the put that is chosen

  pub is_chosen : (owners : List ℕ) (rule : Rule) (offer : Offer) → IsBestAmong steps puts owners rule hit 0 (length puts) offer → IsChosen rule (ReadsIn steps) (times_in steps) owners hit offer.put
  is_chosen owners rule offer is = record {
    offer = offer;
    is = is.is;
    put_is = refl;
    can = is.can;
    best = λ other reads apart.
        let t = are.lists.complete other reads.given (slice_get_within steps other reads.given reads.given_at) reads.given_at reads.reads.may.kind in
        let k = index_of puts t.item t.listed in
        let here : t.item.position ≡ other = t.told.is_at in
        subst (λ p. WinsOver rule (times_in steps) owners hit offer p) here (is.best k.0 t.item (omega arith) (slice_get_within puts k.0 t.item k.1) k.1 (subst (λ p. ReadsIn steps hit p) (sym here) reads) (λ same. apart (sym here ∙ same)));
  }

  -- there is one, if there are several
  pub none_chosen : IsUnsure steps hit → ¬ ((k : ℕ) (put : Put) → 0 ≤ k → k < length puts → slice_get puts k ≡ Some put → ¬ ReadsIn steps hit put.position)
  none_chosen unsure none =
      let two = unsure.several in
      let t = are.lists.complete two.one two.first (slice_get_within steps two.one two.first two.one_at) two.one_at two.holds_one.may.kind in
      let k = index_of puts t.item t.listed in
      let here : two.one ≡ t.item.position = sym t.told.is_at in
      let reads : ReadsIn steps hit two.one = record { asked = unsure.step; given = two.first; asked_at = unsure.at; given_at = two.one_at; kind = unsure.kind; reads = two.holds_one } in
      none k.0 t.item (omega arith) (slice_get_within puts k.0 t.item k.1) k.1 (subst (λ p. ReadsIn steps hit p) here reads)

-- a put is a call
pub position_within : (steps : List NumberedCall) (puts : List Put) → ArePuts steps puts → (k : ℕ) (put : Put) → slice_get puts k ≡ Some put → put.position < length steps
position_within steps puts are k put at =
    let t = all_at (TellsOne steps Putting (TellsPut steps)) puts k put are.lists.sound at in
    let within = slice_get_within steps t.position t.step t.at in
    let here = t.told.is_at in
    omega arith
