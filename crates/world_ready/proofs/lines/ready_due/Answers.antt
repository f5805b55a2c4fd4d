-- With the ring of a mount that begins, and the line's number.
use Rattle.std.proofs.Common.{ap, ◌∙◌}
use Rattle.frang_base.specs.declared.said.Said.TheVariants as said
use Rattle.tree_definitions.specs.SaidLines.{said_line}
use Rattle.server_core.specs.Phases.{reply_of}
use Rattle.world_ready.proofs.LineReady.{answers}
use Rattle.world_ready.proofs.Saying.{number_at}
use Rattle.world_ready.proofs.lines.ready_due.Goals as goal

pub returns : goal.returns
returns c =
    let s = c.args.world.now in
    answers s c.args.a c.args.answer c.in_ok-ring.ring c.in_ok-text.text c.requires.server c.requires.due c.in_ok-ring.ensures.ring c.in_ok-ring.ensures.next
    (c.in_ok-text.ensures ∙ ap (λ n. said_line (said.Answer c.args.a n (reply_of c.args.answer))) (number_at s c.args.a.0 c.parties.result.now c.get.result.now c.line_number-number.result c.parties.ensures c.get.ensures.server c.line_number-number.ensures))
