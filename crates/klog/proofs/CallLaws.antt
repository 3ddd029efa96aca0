-- What calls that are lent a device leave of it.
use Rattle.std.proofs.Common.{◌≡◌, ℕ, List, Option, Bool, true, false, refl, sym, ap, subst, ◌∙◌, arith}
use Rattle.std.specs.Prelude.{IsTrue}
use Rattle.page_device.specs.Device.{faults_after}
use Rattle.page_device.specs.Lending.{OnlyReads, MayFail, ReadsOrStops}

-- a call of the device that failed was made for a record that lies on it
pub unbuffered : (b : Bool) (before now : ℕ) → (IsTrue b → now ≡ before) → now ≡ faults_after before true → b ≡ false
unbuffered true before now same failed = let at : now ≡ before = same refl in absurd (omega (arith, at, failed))
unbuffered false before now same failed = refl

module _ {D : Type 0} {pages : D → ℕ} {honest : D → Bool} {failures : D → ℕ} {held : D → ℕ → Option (List ℕ)} {old mid new : D} where
  -- a call that only reads, after others that only read and of which none failed
  pub reads_on : {failed : Bool} → OnlyReads pages honest failures held mid failed new → OnlyReads pages honest failures held old false mid → OnlyReads pages honest failures held old failed new
  reads_on {failed = failed} then before = record {
    pages = then.pages ∙ before.pages;
    honest = then.honest ∙ before.honest;
    faults = then.faults ∙ ap (λ (n : ℕ). faults_after n failed) before.faults;
    same = λ on. then.same (subst (λ (b : Bool). IsTrue b) (sym before.honest) on) ∙ before.same on;
  }

  -- and one that may stop at a page
  pub stops_on : {stopped : Bool} → ReadsOrStops pages honest failures held mid stopped new → ReadsOrStops pages honest failures held old false mid → ReadsOrStops pages honest failures held old stopped new
  stops_on {stopped = stopped} then before = record {
    pages = then.pages ∙ before.pages;
    honest = then.honest ∙ before.honest;
    may_fail = subst (λ (n : ℕ). MayFail stopped n (failures new)) before.may_fail then.may_fail;
    same = λ on. then.same (subst (λ (b : Bool). IsTrue b) (sym before.honest) on) ∙ before.same on;
  }
