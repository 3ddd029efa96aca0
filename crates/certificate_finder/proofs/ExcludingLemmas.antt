-- Why a hit can have read no put.
use Rattle.std.proofs.Common.{◌≡◌, ℕ, ◌+◌, ◌-◌, ◌^◌, ◌<◌, ◌≤◌, ◌⊎◌, zero, suc, Bool, true, false, Option, Some, None, List, [], ◌∷◌, ◌++◌, drop, get_or, length, take, refl, sym, ap, ◌∙◌, subst, arith, inl, inr}
use Rattle.std.specs.Prelude.{◌≢◌, All, AllPairs, Contains, map, nat_lt, slice_get, MatchOption}
use Rattle.std.proofs.lemmas.Bool.{cases_eq, cases_lt, ltb-false, ltb-true}
use Rattle.std.proofs.lemmas.List.{get_or-drop, length-drop, map_push, take_more}
use Rattle.std.proofs.lemmas.List.Elements.{All-nil, All-push, All-weaker, Contains-append_left, Contains-push}
use Rattle.std.proofs.lemmas.List.Quantifiers.{all_pairs_push}
use Rattle.std.proofs.lemmas.Option.{get_or_from_slice_get, slice_get_within}
use Rattle.certificate_finder.specs.declared.excluded.Excluded.{Excluded}
use Rattle.certificate_finder.specs.declared.excluded.Excuse.{Excuse}
use Rattle.certificate_finder.specs.declared.excluded.Excuse.TheVariants.{Later, Expired, Replaced}
use Rattle.certificate_finder.specs.declared.put.Put.{Put}
use Rattle.certificate_finder.specs.declared.numbered_call.NumberedCall.{NumberedCall}
use Rattle.certificate_finder.specs.Excluding.{AreExcluded, AreLike, ExcludesStep, IsExcludedStep, IsExcuse, excuse_by, excuse_of, excused, excused_between}
use Rattle.certificate_finder.specs.Lists.{TellsOne}
use Rattle.certificate_finder.specs.Owning.{ReadsNoLive}
use Rattle.certificate_finder.specs.Putting.{AreInOrder, ArePuts, EndsOver, IsFitPut, IsOver, Putting, TellsPut, put_rank, value_rank}
use Rattle.certificate_finder.specs.Witnesses.{NamePutsOnce}
use Rattle.certificate_finder.specs.Writing.{IsSplit, IsSplitBelow}
use Rattle.certificate_finder.proofs.EndLemmas.{found_at}
use Rattle.certificate_finder.proofs.Listing.{all_at, index_of, pair_at, same_at}
use Rattle.certificate_finder.proofs.OwnLemmas.{may_read}
use Rattle.certificate_finder.proofs.Ranking.{squeezed_key, squeezed_value}

-- a put below an index
abbrev pub NamesBelow : List Put → ℕ → Excluded → Type 0
NamesBelow puts upto excluded = (k : ℕ) × (put : Put) × (k < upto) × (slice_get puts k ≡ Some put) × (put.position ≡ excluded.put)

pub record ExcludedSoFar (steps : List NumberedCall) (puts : List Put) (hit : NumberedCall) (upto : ℕ) (excluded : List Excluded) : Type 0 where
  pub each : All (IsExcludedStep steps hit) excluded
  pub all : (k : ℕ) (put : Put) → k < upto → slice_get puts k ≡ Some put → put.key ≡ hit.key → put.value ≡ hit.value → Contains (map (λ one. one.put) excluded) put.position
  pub below : All (NamesBelow puts upto) excluded
  pub once : NamePutsOnce excluded

greater : (k v s : ℕ) → value_rank k v s < value_rank k v 0 → ⊥
greater k v s less = omega arith

lesser : (k v s : ℕ) → s < 2 ^ 64 → value_rank k v 18446744073709551615 < value_rank k v s → ⊥
lesser k v s small less = omega arith

-- no put before those of the hit's key and value is of them
pub excluded_begin : (steps : List NumberedCall) (puts : List Put) (hit : NumberedCall) (from : ℕ) → IsSplitBelow put_rank puts (value_rank hit.key hit.value 0) from → ExcludedSoFar steps puts hit from []
excluded_begin steps puts hit from split = record {
  each = All-nil (IsExcludedStep steps hit);
  all = λ k put less at key value. absurd (greater hit.key hit.value put.start (subst (λ v. value_rank hit.key v put.start < value_rank hit.key hit.value 0) value (subst (λ l. value_rank l put.value put.start < value_rank hit.key hit.value 0) key (split.low k put less at))));
  below = All-nil (NamesBelow puts from);
  once = λ i j d less within. absurd (omega arith);
}

-- a put between is of the key and value
pub is_like : (puts : List Put) (hit : NumberedCall) (from upto index : ℕ) (put : Put) → AreInOrder puts → hit.value < 2 ^ 32 → IsSplitBelow put_rank puts (value_rank hit.key hit.value 0) from → IsSplit put_rank puts (value_rank hit.key hit.value 18446744073709551615) upto → from ≤ index → index < upto → slice_get puts index ≡ Some put → (put.key ≡ hit.key) × (put.value ≡ hit.value)
is_like puts hit from upto index put are small below above le less at =
    let fit = all_at IsFitPut puts index put are.fit at in
    let low = below.high index put le at in
    let high = above.low index put less at in
    let key = squeezed_key hit.key hit.value 0 put.key put.value put.start 18446744073709551615 small fit.value (omega arith) fit.start (omega arith) low high in
    let low' = subst (λ k. value_rank hit.key hit.value 0 ≤ value_rank k put.value put.start) key low in
    let high' = subst (λ k. value_rank k put.value put.start ≤ value_rank hit.key hit.value 18446744073709551615) key high in
    (key, squeezed_value hit.key hit.value 0 put.value put.start 18446744073709551615 (omega arith) fit.start (omega arith) low' high')

ends_at : (steps : List NumberedCall) (step : NumberedCall) (dead write : ℕ) (over : Option ℕ) → over ≡ Some write → MatchOption over (dead ≡ 18446744073709551615) (EndsOver steps step dead) → EndsOver steps step dead write
ends_at steps step dead write over is by = subst (λ o. MatchOption o (dead ≡ 18446744073709551615) (EndsOver steps step dead)) is by

greatest : (steps : List NumberedCall) (step : NumberedCall) (dead : ℕ) (over : Option ℕ) → over ≡ None → MatchOption over (dead ≡ 18446744073709551615) (EndsOver steps step dead) → dead ≡ 18446744073709551615
greatest steps step dead over is by = subst (λ o. MatchOption o (dead ≡ 18446744073709551615) (EndsOver steps step dead)) is by

module _ (steps : List NumberedCall) (puts : List Put) (are : ArePuts steps puts) (hit : NumberedCall) (small : hit.start < 2 ^ 64) (none : ReadsNoLive steps hit) where
  excludes_later : (p : ℕ) (step : NumberedCall) (put : Put) → TellsPut steps p step put → hit.end < put.start → hit.end < step.start
  excludes_later p step put told less = let start : put.start ≡ step.start = told.start in omega arith

  excludes_replaced : (p : ℕ) (step : NumberedCall) (put : Put) (write : ℕ) → TellsPut steps p step put → put.over ≡ Some write → put.dead < hit.start → (other : NumberedCall) × (slice_get steps write ≡ Some other) × IsOver step other × (other.end < hit.start)
  excludes_replaced p step put write told over less =
      let ends = ends_at steps step put.dead write put.over over told.dead.by in
      let end : ends.other.end ≡ put.dead = ends.end in
      let before : ends.other.end < hit.start = omega arith in
      (ends.other, ends.at, ends.over, before)

  stands_still : (p : ℕ) (step : NumberedCall) (put : Put) → TellsPut steps p step put → (put.over ≡ None) ⊎ (hit.start ≤ put.dead) → hit.start ≤ put.dead
  stands_still p step put told (inl none_over) = let g : put.dead ≡ 18446744073709551615 = greatest steps step put.dead put.over none_over told.dead.by in omega (arith, small, g)
  stands_still p step put told (inr le) = le

  -- an excuse excludes the put
  excludes : (p : ℕ) (step : NumberedCall) (put : Put) (why : Excuse) → slice_get steps p ≡ Some step → Putting step → TellsPut steps p step put → put.key ≡ hit.key → put.value ≡ hit.value → IsExcuse put hit why → ExcludesStep steps hit step why
  excludes p step put Later at is told key value why = excludes_later p step put told why
  excludes p step put (Replaced write) at is told key value why = excludes_replaced p step put write told why.0 why.1
  excludes p step put Expired at is told key value why =
      none p step at (may_read steps p step hit put is told (record { key = key; value = value; begun = why.0; stands = stands_still p step put told why.1 }))

  still_below : (upto : ℕ) (excluded : Excluded) → NamesBelow puts upto excluded → NamesBelow puts (upto + 1) excluded
  still_below upto excluded is = let less : is.0 < upto = is.2 in (is.0, is.1, omega arith, is.3, is.4)

  pub excluded_more : (upto : ℕ) (put : Put) (why : Excuse) (excluded : List Excluded) → ExcludedSoFar steps puts hit upto excluded → slice_get puts upto ≡ Some put → (put.key ≡ hit.key) × (put.value ≡ hit.value) → IsExcuse put hit why → ExcludedSoFar steps puts hit (upto + 1) (excluded ++ record { put = put.position; why = why } ∷ [])
  excluded_more upto put why excluded had at like is =
      let t : TellsOne steps Putting (TellsPut steps) put = all_at (TellsOne steps Putting (TellsPut steps)) puts upto put are.lists.sound at in
      let new : Excluded = record { put = put.position; why = why } in
      let puts_of : map (λ (one : Excluded). one.put) (excluded ++ record { put = put.position; why = why } ∷ []) ≡ map (λ (one : Excluded). one.put) excluded ++ put.position ∷ [] = map_push (λ (one : Excluded). one.put) excluded (record { put = put.position; why = why }) in
      record {
        each = All-push (IsExcludedStep steps hit) excluded (record { put = put.position; why = why }) had.each (record {
          put = t.step;
          at = ap (slice_get steps) t.told.is_at ∙ t.at;
          like = record { kind = t.is_wanted; key = sym t.told.key ∙ like.0; value = sym t.told.value ∙ like.1 };
          why = excludes t.position t.step put why t.at t.is_wanted t.told like.0 like.1 is;
        });
        all = λ k other less other_at key value. subst (λ l. Contains l other.position) (sym puts_of) (elim (cases_eq k upto) [
          | inl same ↦ let e = same_at puts upto k put other (sym same) at other_at in subst (λ (o : Put). Contains (map (λ (one : Excluded). one.put) excluded ++ put.position ∷ []) o.position) e (Contains-push (map (λ (one : Excluded). one.put) excluded) put.position)
          | inr before ↦ Contains-append_left (map (λ (one : Excluded). one.put) excluded) (put.position ∷ []) other.position (had.all k other (omega arith) other_at key value)
        ]);
        below = All-push (NamesBelow puts (upto + 1)) excluded (record { put = put.position; why = why }) (All-weaker (NamesBelow puts upto) (NamesBelow puts (upto + 1)) (still_below upto) excluded had.below) (upto, put, omega arith, at, refl);
        once = all_pairs_push (λ (one other : Excluded). one.put ≢ other.put) excluded (record { put = put.position; why = why }) had.once (λ k d less same.
            let b = had.below k d less in
            pair_at (λ (one other : Put). one.position ≢ other.position) puts b.0 upto b.1 put are.in_order.distinct b.2 b.3 at (b.4 ∙ same));
      }

  -- no put after those of the hit's key and value is of them
  pub excluded_end : (index upto : ℕ) (excluded : List Excluded) → ExcludedSoFar steps puts hit index excluded → upto ≤ index → IsSplit put_rank puts (value_rank hit.key hit.value 18446744073709551615) upto → AreExcluded steps hit excluded
  excluded_end index upto excluded had all split = record {
    each = had.each;
    all = λ p step at like.
        let t = are.lists.complete p step (slice_get_within steps p step at) at like.kind in
        let k = index_of puts t.item t.listed in
        let fit = all_at IsFitPut puts k.0 t.item are.in_order.fit k.1 in
        let key = t.told.key ∙ like.key in
        let value = t.told.value ∙ like.value in
        elim (cases_lt k.0 upto) [
          | inl less ↦ subst (λ q. Contains (map (λ (one : Excluded). one.put) excluded) q) t.told.is_at (had.all k.0 t.item (omega arith) k.1 key value)
          | inr behind ↦ absurd (lesser hit.key hit.value t.item.start fit.start (subst (λ v. value_rank hit.key hit.value 18446744073709551615 < value_rank hit.key v t.item.start) value (subst (λ l. value_rank hit.key hit.value 18446744073709551615 < value_rank l t.item.value t.item.start) key (split.high k.0 t.item (omega arith) k.1))))
        ];
    once = had.once;
  }

-- ---- the puts of the key and value, by their indexes

apart : (k v rank : ℕ) → rank < value_rank k v 0 → value_rank k v 18446744073709551615 < rank → ⊥
apart k v rank low high = omega arith

pub from_upto : (puts : List Put) (hit : NumberedCall) (from upto : ℕ) → AreLike puts hit from upto → from ≤ upto
from_upto puts hit from upto like = elim (cases_lt upto from) [
  | inl less ↦
      let bound : from ≤ length puts = like.low.bound in
      let p = found_at puts upto (omega arith) in
      absurd (apart hit.key hit.value (put_rank p.0) (like.low.low upto p.0 less p.1) (like.high.high upto p.0 (omega arith) p.1))
  | inr le ↦ le
]

module _ (puts : List Put) (hit : NumberedCall) (from : ℕ) where
  pub excused_none : excused_between puts hit from from ≡ []
  excused_none = let none : from - from ≡ 0 = omega arith in ap (λ n. map (excused hit) (take n (drop from puts))) none

  pub excused_more : (index : ℕ) (put : Put) → from ≤ index → slice_get puts index ≡ Some put → excused_between puts hit from (index + 1) ≡ excused_between puts hit from index ++ excused hit put ∷ []
  excused_more index put le at =
      let within = slice_get_within puts index put at in
      let rest = length-drop from puts in
      let less : index - from < length (drop from puts) = omega arith in
      let next : index + 1 - from ≡ (index - from) + 1 = omega arith in
      let place : from + (index - from) ≡ index = omega arith in
      let here : get_or (drop from puts) (index - from) put ≡ put = get_or-drop from puts (index - from) put ∙ ap (λ k. get_or puts k put) place ∙ get_or_from_slice_get puts index put put at in
      ap (λ n. map (excused hit) (take n (drop from puts))) next
      ∙ ap (map (excused hit)) (take_more (drop from puts) (index - from) put less)
      ∙ ap (λ p. map (excused hit) (take (index - from) (drop from puts) ++ p ∷ [])) here
      ∙ map_push (excused hit) (take (index - from) (drop from puts)) put

-- the excuse is one
module _ (hit : NumberedCall) (put : Put) where
  excuse_is : (later gone : Bool) (over : Option ℕ) → nat_lt hit.end put.start ≡ later → nat_lt put.dead hit.start ≡ gone → put.over ≡ over → IsExcuse put hit (excuse_by later gone over)
  excuse_is true gone over l g o = ltb-true hit.end put.start l
  excuse_is false true None l g o = (ltb-false hit.end put.start l, inl o)
  excuse_is false true (Some write) l g o = (o, ltb-true put.dead hit.start g)
  excuse_is false false over l g o = (ltb-false hit.end put.start l, inr (ltb-false put.dead hit.start g))

  pub is_excuse : IsExcuse put hit (excuse_of hit put)
  is_excuse = excuse_is (nat_lt hit.end put.start) (nat_lt put.dead hit.start) put.over refl refl refl

-- all of them are excluded
module _ (steps : List NumberedCall) (puts : List Put) (are : ArePuts steps puts) (hit : NumberedCall) (small : hit.start < 2 ^ 64) (low : hit.value < 2 ^ 32) (none : ReadsNoLive steps hit) (from upto : ℕ) (like : AreLike puts hit from upto) where
  abbrev SoFar : ℕ → Type 0
  SoFar k = ExcludedSoFar steps puts hit k (excused_between puts hit from k)

  excluded_upto : (n : ℕ) → from + n ≤ upto → SoFar (from + n)
  excluded_upto zero le =
      let same : from ≡ from + 0 = omega arith in
      subst SoFar same (subst (ExcludedSoFar steps puts hit from) (sym (excused_none puts hit from)) (excluded_begin steps puts hit from like.low))
  excluded_upto (suc n) le =
      let less : from + n < upto = omega arith in
      let next : from + n + 1 ≡ from + suc n = omega arith in
      let bound : upto ≤ length puts = like.high.bound in
      let p = found_at puts (from + n) (omega arith) in
      subst SoFar next (subst (ExcludedSoFar steps puts hit (from + n + 1)) (sym (excused_more puts hit from (from + n) p.0 (omega arith) p.1))
      (excluded_more steps puts are hit small none (from + n) p.0 (excuse_of hit p.0) (excused_between puts hit from (from + n)) (excluded_upto n (omega arith)) p.1
      (is_like puts hit from upto (from + n) p.0 are.in_order low like.low like.high (omega arith) less p.1) (is_excuse hit p.0)))

  pub excluded_all : AreExcluded steps hit (excused_between puts hit from upto)
  excluded_all =
      let le = from_upto puts hit from upto like in
      let whole : from + (upto - from) ≡ upto = omega arith in
      excluded_end steps puts are hit small none upto upto (excused_between puts hit from upto) (subst SoFar whole (excluded_upto (upto - from) (omega arith))) (omega arith) like.high
