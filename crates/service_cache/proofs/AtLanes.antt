-- What an answer under a lock says of the lease that was asked.
use Rattle.std.proofs.Common.{◌≡◌, ◌↔◌, Result, Ok, Err}
use Rattle.std.specs.Prelude.{IfOk}
use Rattle.service_lane.specs.declared.filled.Filled.{Filled}
use Rattle.service_lane.specs.declared.filled.Filled.TheVariants.{Stale}

-- what is so of an answer that is stale exactly then, is so of it if it is one
pub by_lease : {E : Type 0} (result : Result Filled E) (Ended : Type 0) (Was Is : Filled → Type 0) → ((result ≡ Ok Stale) ↔ Ended) → IfOk result Was → ((filled : Filled) → ((filled ≡ Stale) ↔ Ended) → Was filled → Is filled) → IfOk result Is
by_lease (Ok filled) Ended Was Is stale was make = make filled (λ is. stale.0 (cc), λ ended. let same = stale.1 ended in cc) was
by_lease (Err fault) Ended Was Is stale was make = tt
