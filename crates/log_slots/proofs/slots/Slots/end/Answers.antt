-- The blocks are those that were read.
use Rattle.std.proofs.Common.{[], ap, ◌∙◌}
use Rattle.std.specs.Prelude.{slice_index_or}
use Rattle.log_slots.proofs.EndRead.{end_is}
use Rattle.log_slots.proofs.slots.Slots.end.Goals as goal

pub returns : goal.returns
returns c =
    c.in_ok-end.ensures.end
    ∙ end_is c.deref.result.now c.args.self.now.entries (λ slot h. ap (λ items. slice_index_or items slot []) c.deref.ensures.value ∙ c.in_ok-blocks.ensures.blocks slot h)
