-- The servers before the next one were asked, this one too.
use Rattle.std.proofs.Common.{below_more, sym}
use Rattle.frang_hall.proofs.hall.Hall.to_give.Goals as goal

pub loop-server-preserved : goal.loop-server-preserved
loop-server-preserved g c = below_more _ _ c.loop-server.invariant (λ r stands. sym (c.in_default-line_to_give.ensures.at r stands))
