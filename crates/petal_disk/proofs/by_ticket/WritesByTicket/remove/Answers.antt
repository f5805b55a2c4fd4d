-- The ticket's box is taken out.
use Rattle.std.proofs.Common.{ap, ◌∙◌}
use Rattle.std.specs.Box.{box_value}
use Rattle.petal_disk.specs.Flights.{without}
use Rattle.petal_disk.specs.Flying.{put_of}
use Rattle.petal_disk.specs.Keeping.{opened}
use Rattle.petal_disk.proofs.TicketOrder.{without-opened}
use Rattle.petal_disk.proofs.by_ticket.WritesByTicket.remove.Goals as goal

pub returns-clause-writes : goal.returns-clause-writes
returns-clause-writes c =
    ap (λ entries. opened entries (λ b. put_of (box_value b))) c.remove.ensures.entries
    ∙ without-opened (λ b. put_of (box_value b)) c.args.ticket c.self.inside.writes.entries
    ∙ ap (λ kept. without kept.writes c.args.ticket.0) c.self.view_is

pub returns-clause-flying : goal.returns-clause-flying
returns-clause-flying c =
    ap (λ entries. opened entries box_value) c.remove.ensures.entries
    ∙ without-opened box_value c.args.ticket c.self.inside.writes.entries
    ∙ ap (λ kept. without kept.flying c.args.ticket.0) c.self.view_is
