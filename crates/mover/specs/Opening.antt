-- When a store opens, and when each refusal comes.
use Rattle.std.specs.Prelude.{◌≡◌, ℕ, None, Some}
use Rattle.record_pages.specs.Sizes.{IsPageSize}
use Rattle.record_pages.specs.Table.{first_faulty}
use Rattle.record_pages.specs.declared.config.Config.{Config}
use Rattle.mover.specs.declared.open_fault.OpenFault.{OpenFault}
use Rattle.mover.specs.declared.open_fault.OpenFault.TheVariants as faults
use Rattle.mover.specs.Store.{IsTooSmall}

-- a store of this configuration can be opened over a device of this many pages, memory aside
pub record CanServe (size : ℕ) (config : Config) (pages : ℕ) : Type 0 where
  pub numbers : first_faulty config ≡ None
  pub page_size : IsPageSize size
  pub large : ¬ IsTooSmall config pages

-- When each refusal comes, over a device of this many pages: the first of these tests that fails; want of memory after all.
abbrev pub RefusesStore : ℕ → Config → ℕ → OpenFault → Type 0
RefusesStore size config pages (faults.ConfigFault field) = first_faulty config ≡ Some field
RefusesStore size config pages faults.WrongPage = (first_faulty config ≡ None) × ¬ IsPageSize size
RefusesStore size config pages faults.DeviceTooSmall = (first_faulty config ≡ None) × IsPageSize size × IsTooSmall config pages
RefusesStore size config pages faults.OutOfMemory = CanServe size config pages
