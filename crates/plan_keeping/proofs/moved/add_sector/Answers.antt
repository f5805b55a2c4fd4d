-- The sector is put behind the others.
use Rattle.std.proofs.Common.{sym, ◌∙◌}
use Rattle.plan_keeping.proofs.Listed.{covers_more}
use Rattle.plan_keeping.proofs.moved.add_sector.Goals as goal

pub returns-in_ok-push : goal.returns-in_ok-push
returns-in_ok-push c before covers =
    covers_more c.args.segments c.args.own.now c.args.lock before c.args.list.now.items c.push.new.self.items c.args.sector c.in_ok-push.ensures.items (sym c.is_at.ensures ∙ c.if-is_at.true) covers
