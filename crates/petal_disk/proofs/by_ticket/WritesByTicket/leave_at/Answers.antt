-- The write at the place is the one with its ticket.
use Rattle.std.proofs.Common.{sym, ap, ◌∙◌, subst}
use Rattle.std.specs.Box.{box_value}
use Rattle.std.specs.List.Sorted.{IsStrictlySortedBy}
use Rattle.std.specs.Map.{keys_of}
use Rattle.petal_disk.specs.Flights.{ticket_cmp}
use Rattle.petal_disk.specs.Flying.{left}
use Rattle.petal_disk.proofs.Changing.{at_place, no_place, there_at}
use Rattle.petal_disk.proofs.TicketOrder.{keys-opened}
use Rattle.petal_disk.proofs.by_ticket.WritesByTicket.leave_at.Goals as goal

pub leave-requires : goal.leave-requires
leave-requires c = there_at (λ v. v) c.args.self.now.flying c.args.i _ (sym c.in-Some.ensures.flying)

pub returns-in-Some-clause-flying : goal.returns-in-Some-clause-flying
returns-in-Some-clause-flying c =
    let sorted = subst (IsStrictlySortedBy ticket_cmp) (sym (keys-opened box_value c.self.inside.writes.entries) ∙ ap (λ kept. keys_of kept.flying) c.self.view_is) c.count.ensures.ordered in
    c.leave.ensures.flying ∙ at_place (left c.args.server.0) c.args.self.now.flying c.args.i _ sorted (sym c.in-Some.ensures.flying)

pub returns-in-None-clause-flying : goal.returns-in-None-clause-flying
returns-in-None-clause-flying c = sym (no_place (left c.args.server.0) c.args.self.now.flying c.args.i (sym c.in-None.ensures.flying))
