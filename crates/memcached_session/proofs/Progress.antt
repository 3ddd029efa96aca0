-- A step that is asked for takes a byte or more.
use Rattle.std.proofs.Common.{◌≡◌, ℕ, zero, suc, ◌≤◌, Bool, true, false, cond, List, Option, Some, None, arith, sym, ◌∙◌, refl}
use Rattle.memcached_text.specs.declared.reader_state.ReaderState.{ReaderState}
use Rattle.memcached_text.specs.Steps.{Told, Outcome, TellMore, TellRequest, TellData, TellTooLarge, TellKey, TellKeysEnd, TellRefused, TellForeign, is_more, step_of}
use Rattle.memcached_session.specs.declared.want.Need.TheVariants as needs
use Rattle.memcached_session.specs.Keyed.{KeyAsked, keyed_of}
use Rattle.memcached_session.specs.Wanting.{WantAlone, want_by, want_at, is_alone, is_keyed}

-- what was given took a byte or more
abbrev Takes : ℕ → Told → Type 0
Takes taken told = is_more told ≡ false → 1 ≤ taken

given_takes : (taken : ℕ) (told : Told) → Takes taken told → is_alone (want_by None taken told) ≡ true → 1 ≤ taken
given_takes zero TellMore some asked = absurd (grind arith)
given_takes (suc n) TellMore some asked = omega arith
given_takes taken (TellRequest asked) some alone = some refl
given_takes taken (TellData asked block) some alone = some refl
given_takes taken (TellTooLarge asked) some alone = some refl
given_takes taken (TellKey key exptime cas) some alone = some refl
given_takes taken TellKeysEnd some alone = some refl
given_takes taken (TellRefused refusal) some alone = some refl
given_takes taken TellForeign some alone = some refl

open_takes : (asked : Option KeyAsked) (taken : ℕ) (told : Told) → Takes taken told → is_alone (want_by asked taken told) ≡ true → 1 ≤ taken
open_takes None taken told some alone = given_takes taken told some alone
open_takes (Some key) taken told some alone = absurd (grind arith)

by_takes : (closed : Bool) (asked : Option KeyAsked) (taken : ℕ) (told : Told) → Takes taken told → is_alone (cond closed (WantAlone needs.Close) (want_by asked taken told)) ≡ true → 1 ≤ taken
by_takes false asked taken told some alone = open_takes asked taken told some alone
by_takes true asked taken told some alone = absurd (grind arith)

-- without a lane
pub alone_takes : (state : ReaderState) (bytes : List ℕ) (o : Outcome) → o ≡ step_of 2039 state bytes → (is_more o.told ≡ false → 1 ≤ o.taken) → is_alone (want_at state (step_of 2039 state bytes)) ≡ true → 1 ≤ o.taken
alone_takes state bytes o is some alone =
    let at : is_alone (want_at state o) ≡ true = rw is alone in
    by_takes _ (keyed_of o.told) o.taken o.told some at

-- with a lane
lane_given : (told : Told) (asked : KeyAsked) → keyed_of told ≡ Some asked → is_more told ≡ false
lane_given TellMore asked is = absurd (grind arith)
lane_given (TellRequest request) asked is = refl
lane_given (TellData request block) asked is = refl
lane_given (TellTooLarge request) asked is = refl
lane_given (TellKey key exptime cas) asked is = refl
lane_given TellKeysEnd asked is = refl
lane_given (TellRefused refusal) asked is = refl
lane_given TellForeign asked is = refl

pub lane_takes : (o : Outcome) (asked : KeyAsked) → keyed_of o.told ≡ Some asked → (is_more o.told ≡ false → 1 ≤ o.taken) → 1 ≤ o.taken
lane_takes o asked is some = some (lane_given o.told asked is)

-- nothing is asked of a lane if no key is
pub not_keyed : (state : ReaderState) (o : Outcome) → keyed_of o.told ≡ None → is_keyed (want_at state o) ≡ false
not_keyed state o none = grind arith

-- so such a step is not asked for with a lane
pub none_takes : (state : ReaderState) (bytes : List ℕ) (o : Outcome) (n : ℕ) → o ≡ step_of 2039 state bytes → None ≡ keyed_of o.told → is_keyed (want_at state (step_of 2039 state bytes)) ≡ true → 1 ≤ n
none_takes state bytes o n is none keyed =
    let at : is_keyed (want_at state o) ≡ true = rw is keyed in
    let no = not_keyed state o (sym none) in
    let never : false ≡ true = sym no ∙ at in
    absurd (grind arith)
