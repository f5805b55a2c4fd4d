-- What was read once is read as the definition reads it.
use Rattle.std.proofs.Common.{[], ap, ◌∙◌}
use Rattle.std.specs.Prelude.{slice_index_or}
use Rattle.disk_definitions.specs.Logs.{Slots, records_among, sectors_read}
use Rattle.log_reading.specs.Decoded.{end_of, sectors_up_to}
use Rattle.log_reading.proofs.Words.{end_is, sectors_are}
use Rattle.log_reading.proofs.read.read_log.Goals as goal

pub returns-clause-end : goal.returns-clause-end
returns-clause-end c =
    let slots : Slots = λ slot. slice_index_or c.args.slots.now slot [] in
    c.log_end-end.ensures ∙ ap end_of (c.deref.ensures.value ∙ c.in_ok-sectors.ensures.all) ∙ end_is slots

pub returns-clause-records : goal.returns-clause-records
returns-clause-records c =
    let slots : Slots = λ slot. slice_index_or c.args.slots.now slot [] in
    let end = c.log_end-end.result in
    let is = c.log_end-end.ensures ∙ ap end_of (c.deref.ensures.value ∙ c.in_ok-sectors.ensures.all) ∙ end_is slots in
    let all = c.deref-2.ensures.value ∙ c.in_ok-sectors.ensures.all in
    c.in_ok-records.ensures
    ∙ ap records_among (c.deref-3.ensures.value ∙ c.in_ok-read.ensures ∙ ap (λ s. sectors_up_to s end) all ∙ sectors_are slots end ∙ ap (sectors_read slots) is)
