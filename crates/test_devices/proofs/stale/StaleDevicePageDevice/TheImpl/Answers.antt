-- It keeps its pages, and never fails; it is not honest, so that nothing else is asked.
use Rattle.std.proofs.Common.{◌≡◌, ◌∙◌, ℕ, IsOk, Ok, Err, Result, ap, length, refl}
use Rattle.std.proofs.lemmas.List.{length-set}
use Rattle.page_device.specs.Device.{failures_after}
use Rattle.test_devices.proofs.stale.StaleDevicePageDevice.TheImpl.Goals as goal

-- a call that does not fail counts no failure
none : {T E : Type 0} (n : ℕ) (result : Result T E) → IsOk result → n ≡ failures_after n result
none n (Ok x) ok = refl
none n (Err x) ok = absurd cc

pub read-tells : goal.read-tells
read-tells g x c = record {
  pages = ap (λ d. length d.pages) c.ensures.unchanged;
  honest = refl;
  failures = none 0 c.result c.ensures.ok;
  same = λ honest. absurd cc;
  known = λ honest. absurd cc;
}

pub write-tells : goal.write-tells
write-tells g x c = record {
  pages = ap (λ d. length d.pages) c.ensures.written ∙ length-set c.args.self.now.pages c.args.page c.args.bytes.now;
  honest = refl;
  failures = none 0 c.result c.ensures.ok;
  written = λ honest. absurd cc;
}
