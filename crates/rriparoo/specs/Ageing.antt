-- How predictions change when a set is rewritten (RRIP, Jaleel et al. 2010; RRIParoo, McAllister et al. 2021).
use Rattle.std.specs.Prelude.{ℕ, ◌+◌, ◌-◌, ◌≤◌, max, Bool, not, ◌&&◌, List, map, fold, filter, if◌then◌else◌}
use Rattle.std.specs.Bool.{OnTrue}
use Rattle.policy_laws.specs.declared.item.Item.{Item}

-- an old item with a hit is promoted
abbrev pub is_promoted : Item → Bool
is_promoted item = not item.fresh && item.hit

-- an old item without a hit grows older
abbrev pub grows_older : Item → Bool
grows_older item = not item.fresh && not item.hit

-- the greatest of some numbers, or 0 of none
abbrev pub greatest : List ℕ → ℕ
greatest numbers = fold max 0 numbers

-- the farthest prediction of the items that grow older
abbrev pub farthest : List Item → ℕ
farthest items = greatest (map (λ item. item.prediction) (filter grows_older items))

-- the farthest of one item more, if that of the others is this
abbrev pub farther : ℕ → Item → ℕ
farther far item = if grows_older item then max far item.prediction else far

-- an item that grows older is no farther than this
abbrev pub IsWithin : ℕ → Item → Type 0
IsWithin far item = OnTrue (grows_older item) (item.prediction ≤ far)

-- the prediction that an item is written with, if the farthest that grows older has this one
abbrev pub aged : ℕ → Item → ℕ
aged far item =
    if item.fresh then item.prediction
    else (if item.hit then 0 else item.prediction + (7 - far))
