-- Commands that are plain.
use Rattle.std.proofs.Common.{◌≡◌, ◌∙◌, ap, false, true}
use Rattle.clap.specs.Words.{App, app_of}
use Rattle.clap.specs.declared.builder.command.Command.TheViews.{out-Command as fields_of}
use Rattle.clap.proofs.SimpleLemmas.{plain_fields}
use Rattle.clap.specs.declared.builder.command.Command.{Command}

-- a command that is plain has no global argument
pub local : (c : Command) (a : App) → app_of c ≡ a → a.top.is_plain ≡ true → (fields_of c).has_globals ≡ false
local c a is h = (plain_fields c (ap (λ (x : App). x.top.is_plain) is ∙ h)).globals

pub top : {a b : App} → a ≡ b → a.top ≡ b.top
top {a} {b} e = ap (λ (x : App). x.top) e
