-- What the ticket's box holds is changed where it lies, and its put stays.
use Rattle.std.proofs.Common.{IsSome, refl, sym, ap, ◌∙◌, subst}
use Rattle.std.specs.Box.{box_value, with_value}
use Rattle.petal_disk.specs.Flights.{write_at}
use Rattle.petal_disk.specs.Flying.{put_of, changed_at, covered}
use Rattle.petal_disk.specs.Keeping.{opened}
use Rattle.petal_disk.proofs.Changing.{box_there, changed_over, unchanged, put_covered}
use Rattle.petal_disk.proofs.by_ticket.WritesByTicket.cover.Goals as goal

pub change-requires : goal.change-requires
change-requires c =
    box_there box_value c.args.ticket c.self.inside.writes.entries (subst (λ kept. IsSome (write_at kept.flying c.args.ticket.0)) (sym c.self.view_is) c.requires)

pub returns-clause-writes : goal.returns-clause-writes
returns-clause-writes c =
    let change = covered c.args.server.0 c.args.cover in
    let boxes = c.self.inside.writes.entries in
    let some = box_there box_value c.args.ticket boxes (subst (λ kept. IsSome (write_at kept.flying c.args.ticket.0)) (sym c.self.view_is) c.requires) in
    changed_over (λ b. put_of (box_value b)) (λ put. put) (λ b. with_value b (change (box_value b))) (λ b. put_covered c.args.server.0 c.args.cover (box_value b)) c.args.ticket boxes c.change.new.self.entries c.count.ensures.ordered some c.change.ensures.entries
    ∙ unchanged (opened boxes (λ b. put_of (box_value b))) c.args.ticket.0 ∙ ap (λ kept. kept.writes) c.self.view_is

pub returns-clause-flying : goal.returns-clause-flying
returns-clause-flying c =
    let change = covered c.args.server.0 c.args.cover in
    let boxes = c.self.inside.writes.entries in
    let some = box_there box_value c.args.ticket boxes (subst (λ kept. IsSome (write_at kept.flying c.args.ticket.0)) (sym c.self.view_is) c.requires) in
    changed_over box_value change (λ b. with_value b (change (box_value b))) (λ b. refl) c.args.ticket boxes c.change.new.self.entries c.count.ensures.ordered some c.change.ensures.entries
    ∙ ap (λ kept. changed_at change kept.flying c.args.ticket.0) c.self.view_is
