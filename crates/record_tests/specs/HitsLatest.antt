-- Calls in an order, in which each hit has what was put last.
use Rattle.std.specs.Prelude.{◌≡◌, ℕ, List, ◌∷◌, ◌++◌, All, IsTrue}
use Rattle.record_pages.specs.Expiry.{is_live}
use Rattle.trace_file.specs.declared.act.Act.TheVariants.{Put, Hit}
use Rattle.trace_file.specs.declared.call.Call.{Call}
use Rattle.certificate_checker.specs.Deeds.{deed_of}
use Rattle.certificate_checker.specs.Latest.{Writes}

-- a put, calls none of which writes its key, and a hit of the key stand one after the other
pub record IsHitAfter (order : List Call) (put hit : Call) : Type 0 where
  pub before : List Call
  pub between : List Call
  pub after : List Call
  pub split : order ≡ before ++ put ∷ (between ++ hit ∷ after)
  pub at_key : put.key ≡ hit.key
  pub not_written : All (λ call. ¬ Writes (deed_of call) hit.key) between

-- each such hit has the value that was put, which is live at the hit's moment
abbrev pub HitsLatest : List Call → Type 0
HitsLatest order =
    (put hit : Call) (value read : List ℕ) (expires moment : ℕ)
    → IsHitAfter order put hit → put.act ≡ Put value expires → hit.act ≡ Hit read moment
    → (read ≡ value) × IsTrue (is_live expires moment)
