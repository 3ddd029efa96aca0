-- What is reported of words that are refused.
use Rattle.std.proofs.Common.{◌≡◌, ◌⊎◌, [], ◌∷◌, inl, inr, subst, sym}
use Rattle.clap.specs.Words.{IsAmong, Kinds}
use Rattle.clap.specs.declared.error.kind.ErrorKind.{ErrorKind}
use Rattle.clap.specs.declared.error.kind.ErrorKind.TheVariants as kinds_of
use Rattle.command_line.specs.declared.line_fault.LineFault.{LineFault}
use Rattle.command_line.specs.declared.line_fault.LineFault.TheVariants.{OutOfMemory}
use Rattle.command_line.specs.CommandLine.{IsRefusal, IsToldOf, IsUsage}

-- want of memory is told of any words
pub memory : (kinds : Kinds) (fault : LineFault) → fault ≡ OutOfMemory → IsRefusal kinds fault
memory [] fault is = subst IsUsage (sym is) tt
memory (k ∷ ks) fault is = inl is

-- an error of a parse is one of those that the words have
pub of_error : (kinds : Kinds) (kind : ErrorKind) (fault : LineFault) → ((kind ≡ kinds_of.OutOfMemory) ⊎ IsAmong kind kinds) → (kind ≡ kinds_of.OutOfMemory → fault ≡ OutOfMemory) → IsToldOf kind fault → IsRefusal kinds fault
of_error kinds kind fault (inl is) lacks told = memory kinds fault (lacks is)
of_error [] kind fault (inr among) lacks told = absurd among
of_error (k ∷ ks) kind fault (inr among) lacks told = inr (kind, among, told)

-- words with no fault are told a usage
pub of_usage : (kinds : Kinds) (fault : LineFault) → kinds ≡ [] → IsUsage fault → IsRefusal kinds fault
of_usage kinds fault none told = subst (λ (ks : Kinds). IsRefusal ks fault) (sym none) told
