-- One after the other is left behind.
use Rattle.std.proofs.Common.{refl, ap, ◌∙◌, arith}
use Rattle.petal_disk.specs.Flying.{changed_place, left}
use Rattle.petal_disk.proofs.Changing.{all_changed, none_changed, one_more}
use Rattle.petal_disk.proofs.by_ticket.WritesByTicket.leave_behind.Goals as goal

pub loop-i-init : goal.loop-i-init
loop-i-init c = record { writes = refl; flying = none_changed (left c.args.server.0) c.args.self.now.flying; spare = refl }

pub loop-i-preserved : goal.loop-i-preserved
loop-i-preserved c =
    let so_far = c.loop-i.invariant in
    record {
      writes = c.leave_at.ensures.writes ∙ so_far.writes;
      flying = c.leave_at.ensures.flying ∙ ap (λ flights. changed_place (left c.args.server.0) flights c.loop-i.i) so_far.flying ∙ one_more (left c.args.server.0) c.args.self.now.flying c.loop-i.i;
      spare = c.leave_at.ensures.spare ∙ so_far.spare;
    }

pub returns-clause-flying : goal.returns-clause-flying
returns-clause-flying c =
    c.loop-i.invariant.flying ∙ all_changed (left c.args.server.0) c.args.self.now.flying c.loop-i.i (omega (arith, c.count-i-end.ensures.flying, c.loop-i-test.false))
