-- What is read of the blocks of all slots is what is read of the slots.
use Rattle.std.proofs.Common.{[], ap, ◌∙◌}
use Rattle.std.specs.Prelude.{slice_index_or}
use Rattle.std.proofs.lemmas.List.Elements.{All-same}
use Rattle.disk_definitions.specs.Logs.{Slots, log_records}
use Rattle.disk_definitions.proofs.SameLogs.{log_end_same, log_records_same}
use Rattle.disk_replay.specs.Laid.{HoldsChanges}
use Rattle.disk_replay.proofs.FittingRecords.{log_holds}
use Rattle.log_slots.specs.Reading.{read_slots}
use Rattle.log_slots.proofs.SameReading.{sealed_same}
use Rattle.recovery_demon.proofs.replay.read.Goals as goal

pub returns-clause-records : goal.returns-clause-records
returns-clause-records c =
    let blocks : Slots = λ slot. slice_index_or c.deref.result.now slot [] in
    c.in_ok-end.ensures.records
    ∙ log_records_same blocks (read_slots c.args.slots.now.entries) (λ slot h. ap (λ xs. slice_index_or xs slot []) c.deref.ensures.value ∙ c.in_ok-blocks.ensures.blocks slot h)

pub returns-clause-holds : goal.returns-clause-holds
returns-clause-holds c =
    let blocks : Slots = λ slot. slice_index_or c.deref.result.now slot [] in
    All-same HoldsChanges c.in_ok-end.records.items (log_records blocks) c.in_ok-end.ensures.records (log_holds blocks)

pub returns-clause-end : goal.returns-clause-end
returns-clause-end c =
    let blocks : Slots = λ slot. slice_index_or c.deref.result.now slot [] in
    c.in_ok-end.ensures.end
    ∙ log_end_same blocks (read_slots c.args.slots.now.entries) (λ slot h. ap (λ xs. slice_index_or xs slot []) c.deref.ensures.value ∙ c.in_ok-blocks.ensures.blocks slot h)

pub returns-clause-sealed : goal.returns-clause-sealed
returns-clause-sealed c =
    let blocks : Slots = λ slot. slice_index_or c.deref-2.result.now slot [] in
    c.in_ok-is_sealed.ensures
    ∙ sealed_same blocks (read_slots c.args.slots.now.entries) (λ slot h. ap (λ xs. slice_index_or xs slot []) c.deref-2.ensures.value ∙ c.in_ok-blocks.ensures.blocks slot h)
