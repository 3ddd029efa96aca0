-- How many calls a run made, by the callers that stopped.
use Rattle.std.specs.Prelude.{◌≡◌, ℕ, ◌≤◌, ◌+◌, ◌*◌, ◌==◌, Bool, not, length}
use Rattle.load.specs.declared.load.Load.{Load}
use Rattle.shared_cache.specs.Passes.{Ticket}

-- the pass does not list this many calls
abbrev pub is_short : ℕ → Ticket → Bool
is_short operations pass = not (length pass.calls == operations)

-- this many calls were made, and this many callers stopped: each other caller made all its operations, so that these are all
-- calls if none stopped
pub record IsWhole (load : Load) (calls stopped : ℕ) : Type 0 where
  pub some : stopped ≤ load.callers
  pub least : load.callers * load.operations ≤ calls + stopped * load.operations
  pub all : stopped ≡ 0 → calls ≡ load.callers * load.operations
