-- What becomes of an object that leaves the log.
use Rattle.std.specs.Prelude.{ℕ, nat_lt, nat_le, if◌then◌else◌}
use Rattle.record_pages.specs.Sizes.{entering_prediction}
use Rattle.admission.specs.declared.judgement.Judgement.{Judgement}
use Rattle.admission.specs.declared.judgement.Judgement.TheVariants.{Move, Readmit, Drop}

-- objects of a set move if there are as many as the threshold; otherwise one that was hit in the log, so that its
-- prediction is below the one that it entered with, enters again, and one that was not is dropped
abbrev pub judgement_of : ℕ → ℕ → ℕ → Judgement
judgement_of least count prediction =
    if nat_le least count then Move
    else (if nat_lt prediction entering_prediction then Readmit else Drop)
