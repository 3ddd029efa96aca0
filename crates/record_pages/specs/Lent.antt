-- The records that lent ones show.
use Rattle.record_pages.specs.Expiry.{timed}
use Rattle.record_pages.specs.Recs.{Rec, rec}
use Rattle.record_pages.specs.declared.record_ref.RecordRef.{RecordRef}

-- the record that a lent one shows
abbrev pub record_shown : RecordRef → Rec
record_shown r = rec r.key.now (timed r.value.now r.expires) r.prediction
