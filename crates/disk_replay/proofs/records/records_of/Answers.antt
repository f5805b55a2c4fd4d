-- The records of the log by its slots, none where all of them are zero.
use Rattle.std.proofs.Common.{[], sym, ap, ◌∙◌}
use Rattle.std.specs.Prelude.{slice_index_or}
use Rattle.std.proofs.lemmas.List.Elements.{All-same}
use Rattle.sector_bytes.specs.Sectors.{sectors_of}
use Rattle.disk_definitions.specs.Logs.{Slots, log_records}
use Rattle.disk_definitions.specs.Replay.{slots_of}
use Rattle.disk_definitions.proofs.SameLogs.{zero_log_records}
use Rattle.disk_replay.specs.Laid.{HoldsChanges}
use Rattle.disk_replay.proofs.FittingRecords.{log_holds}
use Rattle.disk_replay.proofs.ReadSlots.{same_records}
use Rattle.disk_replay.proofs.records.records_of.Goals as goal

pub returns-then-not-is_set-clause-records : goal.returns-then-not-is_set-clause-records
returns-then-not-is_set-clause-records c = c.new.ensures.items ∙ sym (zero_log_records (slots_of (sectors_of c.args.disk.now) c.args.server.0) (c.is_set.ensures c.if-not-is_set.true))

pub returns-clause-records : goal.returns-clause-records
returns-clause-records c =
    let read : Slots = λ slot. slice_index_or c.deref.result.now slot [] in
    c.in_ok-records.ensures.records
    ∙ same_records read (slots_of (sectors_of c.args.disk.now) c.args.server.0) (λ slot h. ap (λ xs. slice_index_or xs slot []) c.deref.ensures.value ∙ c.in_ok-slots.ensures.slots slot h)

pub returns-clause-changes : goal.returns-clause-changes
returns-clause-changes c =
    let read : Slots = λ slot. slice_index_or c.deref.result.now slot [] in
    All-same HoldsChanges c.in_ok-records.records.items (log_records read) c.in_ok-records.ensures.records (log_holds read)
