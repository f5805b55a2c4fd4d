-- What the ticket's box holds.
use Rattle.std.proofs.Common.{sym, ap, ◌∙◌, Some}
use Rattle.std.specs.Box.{box_value}
use Rattle.std.specs.Option.{option_map}
use Rattle.petal_disk.specs.Flights.{write_at}
use Rattle.petal_disk.specs.Flying.{put_of}
use Rattle.petal_disk.proofs.TicketOrder.{write-opened}
use Rattle.petal_disk.proofs.by_ticket.WritesByTicket.get.Goals as goal

pub returns-in-Some-clause-writes : goal.returns-in-Some-clause-writes
returns-in-Some-clause-writes c =
    ap (λ flying. Some (put_of flying)) c.deref.ensures ∙ ap (option_map (λ b. put_of (box_value b))) c.in-Some.ensures
    ∙ sym (write-opened (λ b. put_of (box_value b)) c.args.ticket c.self.inside.writes.entries)
    ∙ ap (λ kept. write_at kept.writes c.args.ticket.0) c.self.view_is

pub returns-in-Some-clause-flying : goal.returns-in-Some-clause-flying
returns-in-Some-clause-flying c =
    ap Some c.deref.ensures ∙ ap (option_map box_value) c.in-Some.ensures
    ∙ sym (write-opened box_value c.args.ticket c.self.inside.writes.entries)
    ∙ ap (λ kept. write_at kept.flying c.args.ticket.0) c.self.view_is

pub returns-in-None-clause-writes : goal.returns-in-None-clause-writes
returns-in-None-clause-writes c =
    ap (option_map (λ b. put_of (box_value b))) c.in-None.ensures
    ∙ sym (write-opened (λ b. put_of (box_value b)) c.args.ticket c.self.inside.writes.entries)
    ∙ ap (λ kept. write_at kept.writes c.args.ticket.0) c.self.view_is

pub returns-in-None-clause-flying : goal.returns-in-None-clause-flying
returns-in-None-clause-flying c =
    ap (option_map box_value) c.in-None.ensures
    ∙ sym (write-opened box_value c.args.ticket c.self.inside.writes.entries)
    ∙ ap (λ kept. write_at kept.flying c.args.ticket.0) c.self.view_is
