-- What a write does to the part of a device that one of its users sees.
use Rattle.std.proofs.Common.{◌≡◌, ℕ, ◌+◌, ◌<◌, ◌≤◌, List, Option, Result, Ok, Err, arith}
use Rattle.std.proofs.lemmas.Bool.Decides.{nat_tests}
use Rattle.page_device.specs.Device.{WritesPage}
use Rattle.page_device.specs.Frames.{pages_from, pages_before}

-- what holds of every page before an end holds of what is seen there
pub same_before : (end : ℕ) (old new : ℕ → Option (List ℕ)) → ((p : ℕ) → p < end → new p ≡ old p) → pages_before end new ≡ pages_before end old
same_before end old new same =
    let at : (p : ℕ) → pages_before end new p ≡ pages_before end old p = λ p. grind (arith, nat_tests, same p) in
    λ i p. at p i

-- a write from the end on leaves the pages before it
pub write_after : {T E : Type 0} (end page : ℕ) (old new : ℕ → Option (List ℕ)) (bytes : List ℕ) (result : Result T E) →
    WritesPage old new page bytes result → end ≤ page → pages_before end new ≡ pages_before end old
write_after end page old new bytes result w h = same_before end old new (λ p below. w.others p (λ e. omega arith))

-- a write before a start leaves the pages from there on
pub write_below : {T E : Type 0} (start page : ℕ) (old new : ℕ → Option (List ℕ)) (bytes : List ℕ) (result : Result T E) →
    WritesPage old new page bytes result → page < start → pages_from start new ≡ pages_from start old
write_below start page old new bytes result w h = λ i p. w.others (start + p) (λ e. omega arith) i

-- a write of a page before an end is a write of what is seen there
pub write_before : {T E : Type 0} (end page : ℕ) (old new : ℕ → Option (List ℕ)) (bytes : List ℕ) (result : Result T E) →
    WritesPage old new page bytes result → page < end → WritesPage (pages_before end old) (pages_before end new) page bytes result
write_before end page old new bytes (Ok x) w h = record {
  written = grind (arith, nat_tests, w.written);
  others = λ p differs. grind (arith, nat_tests, w.others p differs);
}
write_before end page old new bytes (Err x) w h = record {
  written = tt;
  others = λ p differs. grind (arith, nat_tests, w.others p differs);
}

-- a write of a page from a start on is a write of what is seen there
pub write_from : {T E : Type 0} (start page : ℕ) (old new : ℕ → Option (List ℕ)) (bytes : List ℕ) (result : Result T E) →
    WritesPage old new (start + page) bytes result → WritesPage (pages_from start old) (pages_from start new) page bytes result
write_from start page old new bytes result w = record {
  written = w.written;
  others = λ p differs. w.others (start + p) (λ e. differs (omega arith));
}
