-- What edits write.
use Rattle.std.specs.Prelude.{◌≡◌, ◌≤◌, ℕ, true, List, length}
use Rattle.frang_base.specs.declared.limits.TheConstants.{RECORD_BYTES_MAX, RECORD_CHANGES_MAX, SEGMENTS_MAX}
use Rattle.sector_bytes.specs.Sectors.{Sectors}
use Rattle.disk_definitions.specs.Store.{Store}
use Rattle.disk_definitions.specs.Records.{record_bytes, record_fits}
use Rattle.disk_definitions.specs.Edits.{Edit, edited, edited_all}
use Rattle.disk_definitions.specs.Written.{edited_sectors, all_edited, changes_of}
use Rattle.disk_definitions.specs.FitEdits.{IsFitEdit, MeetsUse, AreFit}
use Rattle.plan_fit.specs.Says.{Says}
use Rattle.disk_definitions.specs.Ready.{IsReady, IsWritten}

-- the sectors after an edit say what the edited store does
abbrev pub EachEditIsWritten : Type 0
EachEditIsWritten =
    (segments : ℕ) (end store : Store) (sectors : Sectors) (edit : Edit) → segments ≤ SEGMENTS_MAX → Says segments end sectors store →
    IsFitEdit segments edit → MeetsUse end edit →
    Says segments end (edited_sectors sectors edit) (edited store edit)

-- so do those after several
abbrev pub EditsAreWritten : Type 0
EditsAreWritten =
    (segments : ℕ) (end store : Store) (sectors : Sectors) (edits : List Edit) → segments ≤ SEGMENTS_MAX → Says segments end sectors store →
    AreFit segments end edits →
    Says segments end (all_edited sectors edits) (edited_all store edits)

-- the changes and bytes of edits, laid over the disk, make one that says what the edited store does
abbrev pub RecordsAreWritten : Type 0
RecordsAreWritten = (most segments : ℕ) (sectors : Sectors) (edits : List Edit) → IsReady most segments sectors edits → IsWritten most segments sectors edits

-- the changes of edits make a record, where there is one, and not too many nor too many bytes
abbrev pub RecordsFit : Type 0
RecordsFit =
    (most segments : ℕ) (sectors : Sectors) (edits : List Edit) → IsReady most segments sectors edits → 1 ≤ length (changes_of sectors edits) →
    length (changes_of sectors edits) ≤ RECORD_CHANGES_MAX →
    length (record_bytes (changes_of sectors edits)) ≤ RECORD_BYTES_MAX → record_fits (changes_of sectors edits) ≡ true
