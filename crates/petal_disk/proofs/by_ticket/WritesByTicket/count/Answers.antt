-- There are as many boxes as writes, and the puts are what is put of what they hold.
use Rattle.std.proofs.Common.{◌≡◌, length, sym, ap, ◌∙◌, subst, arith}
use Rattle.std.specs.Box.{box_value}
use Rattle.petal_disk.specs.Flying.{put_of, puts}
use Rattle.petal_disk.proofs.Changing.{puts-opened}
use Rattle.petal_disk.proofs.TicketOrder.{length-opened}
use Rattle.petal_disk.proofs.by_ticket.WritesByTicket.count.Goals as goal

pub returns-clause-writes : goal.returns-clause-writes
returns-clause-writes c = c.count.ensures.count ∙ sym (length-opened (λ b. put_of (box_value b)) c.self.inside.writes.entries) ∙ ap (λ kept. length kept.writes) c.self.view_is

pub returns-clause-flying : goal.returns-clause-flying
returns-clause-flying c = c.count.ensures.count ∙ sym (length-opened box_value c.self.inside.writes.entries) ∙ ap (λ kept. length kept.flying) c.self.view_is

pub returns-clause-puts : goal.returns-clause-puts
returns-clause-puts c = subst (λ kept. kept.writes ≡ puts kept.flying) c.self.view_is (puts-opened box_value c.self.inside.writes.entries)

pub returns-clause-most : goal.returns-clause-most
returns-clause-most c = omega (arith, c.count.ensures.most, length-opened box_value c.self.inside.writes.entries, ap (λ kept. kept.spare) c.self.view_is, ap (λ kept. length kept.flying) c.self.view_is)
