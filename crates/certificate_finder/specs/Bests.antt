-- Of some puts the two that expire last.
use Rattle.std.specs.Prelude.{◌≡◌, ◌≢◌, ℕ, ◌<◌, ◌≤◌, ◌⊎◌, List, length, IsTrue}
use Rattle.record_pages.specs.Expiry.{is_live}
use Rattle.certificate_finder.specs.declared.best.Best.{Best}
use Rattle.certificate_finder.specs.declared.best.Best.TheVariants.{Empty, One, Two}
use Rattle.certificate_finder.specs.declared.put.Put.{Put}
use Rattle.certificate_finder.specs.declared.readable.Readable.{Readable}
use Rattle.certificate_finder.specs.declared.readable.Readable.TheVariants as says
use Rattle.certificate_finder.specs.Putting.{expiry_at}

-- what it names are puts
abbrev pub AreAmong : List Put → Best → Type 0
AreAmong puts Empty = Unit {0}
AreAmong puts (One first) = first < length puts
AreAmong puts (Two first second) = (first < length puts) × (second < length puts)

-- of the puts that satisfy the condition, the one that expires last and the one of the others that does
pub record AreBoth (puts : List Put) (P : ℕ → Type 0) (first second : ℕ) : Type 0 where
  pub first_is : P first
  pub second_is : P second
  pub apart : first ≢ second
  pub most : expiry_at puts second ≤ expiry_at puts first
  pub next : (index : ℕ) → P index → index ≢ first → expiry_at puts index ≤ expiry_at puts second

-- of the puts that satisfy the condition, the two that expire last
abbrev pub IsBestOf : List Put → (ℕ → Type 0) → Best → Type 0
IsBestOf puts P Empty = (index : ℕ) → ¬ P index
IsBestOf puts P (One first) = P first × ((index : ℕ) → P index → index ≡ first)
IsBestOf puts P (Two first second) = AreBoth puts P first second

-- one put more
abbrev pub IsWith : List Put → Best → ℕ → Best → Type 0
IsWith puts Empty index new = new ≡ One index
IsWith puts (One first) index new =
    ((expiry_at puts first < expiry_at puts index) × (new ≡ Two index first))
    ⊎ ((expiry_at puts index ≤ expiry_at puts first) × (new ≡ Two first index))
IsWith puts (Two first second) index new =
    ((expiry_at puts first < expiry_at puts index) × (new ≡ Two index first))
    ⊎ (((expiry_at puts index ≤ expiry_at puts first) × (expiry_at puts second < expiry_at puts index) × (new ≡ Two first index))
    ⊎ ((expiry_at puts index ≤ expiry_at puts second) × (new ≡ Two first second)))

-- a put is live at a moment
abbrev pub IsLiveAt : List Put → ℕ → ℕ → Type 0
IsLiveAt puts moment index = IsTrue (is_live (expiry_at puts index) moment)

-- which of the two are live at a moment
abbrev pub SaysLive : List Put → ℕ → Best → Readable → Type 0
SaysLive puts moment Empty reading = reading ≡ says.Nothing
SaysLive puts moment (One first) reading =
    (IsLiveAt puts moment first × (reading ≡ says.One first))
    ⊎ ((¬ IsLiveAt puts moment first) × (reading ≡ says.Nothing))
SaysLive puts moment (Two first second) reading =
    (IsLiveAt puts moment second × (reading ≡ says.Several))
    ⊎ (((¬ IsLiveAt puts moment second) × IsLiveAt puts moment first × (reading ≡ says.One first))
    ⊎ ((¬ IsLiveAt puts moment second) × (¬ IsLiveAt puts moment first) × (reading ≡ says.Nothing)))
