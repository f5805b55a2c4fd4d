-- Arm by arm, by what the edit is.
use Rattle.std.proofs.Common.{◌∙◌, ap, sym}
use Rattle.plan_steps.specs.Edits.{edit_of}
use Rattle.planned_lines.specs.Outcomes.{set_in}
use Rattle.planned_lines.proofs.bytes.set_by.Goals as goal

pub returns-in-Bytes : goal.returns-in-Bytes
returns-in-Bytes c =
    c.small_set.ensures ∙ ap (λ e. set_in c.args.hand.now.sectors.now.entries c.args.hand.now.held.now c.args.nodes.now c.args.moves.now (edit_of e)) (sym c.in-Bytes.is)

pub returns-in-LargeBytes : goal.returns-in-LargeBytes
returns-in-LargeBytes c =
    c.large_set.ensures ∙ ap (λ e. set_in c.args.hand.now.sectors.now.entries c.args.hand.now.held.now c.args.nodes.now c.args.moves.now (edit_of e)) (sym c.in-LargeBytes.is)
