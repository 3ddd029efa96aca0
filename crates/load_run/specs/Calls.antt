-- The calls that a caller makes.
use Rattle.std.specs.Prelude.{◌≡◌, ℕ, zero, suc, ◌<◌, ◌⊎◌}
use Rattle.record_pages.specs.declared.layout.Layout.{Layout}
use Rattle.rand_pcg.specs.Lcg.{Lcg, increment_of, started}
use Rattle.rand_pcg.specs.Pcg.{multiplier_64}
use Rattle.history_recorder.specs.declared.operation.Operation.{Operation}
use Rattle.load.specs.declared.load.Load.{Load}
use Rattle.load.specs.Operations.{next_of}
use Rattle.shared_cache.specs.declared.response.Response.{Response}
use Rattle.shared_cache.specs.Caches.{IsMade}
use Rattle.shared_cache.specs.Passes.{Ticket}

-- the generator that a caller begins with: its stream is the caller's number
abbrev pub first_generator : ℕ → ℕ → Lcg
first_generator seed caller = started 64 multiplier_64 seed (increment_of 64 caller)

-- a caller's generator before its operation of this number, from the one that it began with
abbrev pub generator_at : Load → ℕ → Lcg → ℕ → Lcg
generator_at load caller first zero = first
generator_at load caller first (suc number) = (next_of load caller number (generator_at load caller first number)).generator

-- a caller's operation of this number
abbrev pub operation_at : Load → ℕ → Lcg → ℕ → Operation
operation_at load caller first number = (next_of load caller number (generator_at load caller first number)).operation

-- a call of an operation was made, whatever it gave
pub record IsCalled (layout : Layout) (operation : Operation) (old new : Ticket) : Type 0 where
  pub outcome : Response
  pub made : IsMade layout operation old outcome new

-- the pass made the first so many of its caller's operations, one after the other, and no other call
abbrev pub Makes : Layout → Load → Lcg → ℕ → Ticket → Ticket → Type 0
Makes layout load first zero old new = new ≡ old
Makes layout load first (suc number) old new =
    (before : Ticket) × Makes layout load first number old before × IsCalled layout (operation_at load old.caller first number) before new

-- the pass made this many operations, and the next was refused, which left the calls that it lists
pub record IsStopped (layout : Layout) (load : Load) (first : Lcg) (old new : Ticket) : Type 0 where
  pub number : ℕ
  pub before : Ticket
  pub less : number < load.operations
  pub made : Makes layout load first number old before
  pub left : new.calls ≡ before.calls

-- a caller ended: it made all its operations, or stopped at the first that was refused
abbrev pub IsEnded : Layout → Load → Lcg → Ticket → Ticket → Type 0
IsEnded layout load first old new = Makes layout load first load.operations old new ⊎ IsStopped layout load first old new

-- the pass has made its caller's operations below this number, and this is the generator before the operation of the number
pub record IsAt (layout : Layout) (load : Load) (first : Lcg) (number : ℕ) (old now : Ticket) (generator : Lcg) : Type 0 where
  pub caller : now.caller ≡ old.caller
  pub at : generator ≡ generator_at load old.caller first number
  pub made : Makes layout load first number old now
