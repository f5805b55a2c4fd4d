-- The numbers and the end are those of the definition.
use Rattle.std.proofs.Common.{ℕ, nat_le, List, [], ap, ◌∙◌}
use Rattle.std.specs.Prelude.{slice_index_or}
use Rattle.std.specs.List.{list_all}
use Rattle.disk_definitions.specs.Logs.{Slots, numbers_in}
use Rattle.log_reading.specs.Decoded.{end_of, numbers_of}
use Rattle.log_reading.proofs.Words.{end_is, numbers_are}
use Rattle.log_reading.proofs.read.is_sealed.Goals as goal

pub returns : goal.returns
returns c =
    let slots : Slots = λ slot. slice_index_or c.args.slots.now slot [] in
    let end = c.log_end-end.result in
    let is = c.log_end-end.ensures ∙ ap end_of (c.deref.ensures.value ∙ c.in_ok-sectors.ensures.all) ∙ end_is slots in
    let numbers = ap numbers_of (c.deref-2.ensures.value ∙ c.in_ok-sectors.ensures.all) ∙ numbers_are slots in
    c.are_up_to.ensures ∙ ap (λ (ns : List ℕ). list_all (λ n. nat_le n end) ns) numbers ∙ ap (λ (e : ℕ). list_all (λ n. nat_le n e) (numbers_in slots)) is
