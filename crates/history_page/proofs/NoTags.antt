-- No tag begins in a guarded text.
use Rattle.std.proofs.Common.{◌≡◌, ◌≢◌, ℕ, List, [], ◌∷◌, Bool, true, false, arith, refl, sym, subst, All}
use Rattle.std.specs.Prelude.{◌==◌, codes, if◌then◌else◌}
use Rattle.std.proofs.lemmas.Bool.Decides.{nat_tests}
use Rattle.std.proofs.lemmas.List.Concat.{flat_map-cons}
use Rattle.std.proofs.lemmas.List.Elements.{All-append, All-nil}
use Rattle.history_page.specs.Guarding.{NoTagBegins, guard, guarded}

-- none begins in what stands for a byte, whichever the test says
by_test : (is : Bool) (byte : ℕ) → (byte == 60) ≡ is → All (λ b. b ≢ 60) (if is then codes "%3C" else byte ∷ [])
by_test true byte e = grind (arith, nat_tests)
by_test false byte e = grind (arith, nat_tests)

pub no_tag_begins : NoTagBegins
no_tag_begins [] = All-nil (λ b. b ≢ 60)
no_tag_begins (byte ∷ rest) =
    subst (All (λ b. b ≢ 60)) (sym (flat_map-cons guarded byte rest)) (All-append (λ b. b ≢ 60) (guarded byte) (guard rest) (by_test (byte == 60) byte refl) (no_tag_begins rest))
