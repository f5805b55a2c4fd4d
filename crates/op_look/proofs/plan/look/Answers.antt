-- By the operation.
use Rattle.std.proofs.Common.{sym, subst, ap}
use Rattle.disk_definitions.specs.PlanOf.{plan_of}
use Rattle.disk_definitions.specs.LookedAt.{examined}
use Rattle.dir_lookup.specs.Reading.{reading}
use Rattle.dir_lookup.proofs.Looking.{adds_as}
use Rattle.plan_steps.specs.Ends.{Says}
use Rattle.op_look.proofs.plan.look.Goals as goal

pub returns-in-Stat-clause-says : goal.returns-in-Stat-clause-says
returns-in-Stat-clause-says c h birth when held = subst (λ o. Says (reading (plan_of h birth when o) c.args.sectors.now.entries held) c.describe.result) (sym c.in-Stat.is) (c.describe.ensures.says held)

pub returns-in-Stat-clause-looks : goal.returns-in-Stat-clause-looks
returns-in-Stat-clause-looks c h birth when held m =
    adds_as _ _ _ _ (ap (λ o. examined (plan_of h birth when o) c.args.sectors.now.entries held) (sym c.in-Stat.is)) (c.describe.ensures.looks held m)

pub returns-in-List-clause-says : goal.returns-in-List-clause-says
returns-in-List-clause-says c h birth when held = subst (λ o. Says (reading (plan_of h birth when o) c.args.sectors.now.entries held) c.list.result) (sym c.in-List.is) (c.list.ensures.says held)

pub returns-in-List-clause-looks : goal.returns-in-List-clause-looks
returns-in-List-clause-looks c h birth when held m =
    adds_as _ _ _ _ (ap (λ o. examined (plan_of h birth when o) c.args.sectors.now.entries held) (sym c.in-List.is)) (c.list.ensures.looks held m)

pub returns-in-Readlink-clause-says : goal.returns-in-Readlink-clause-says
returns-in-Readlink-clause-says c h birth when held = subst (λ o. Says (reading (plan_of h birth when o) c.args.sectors.now.entries held) c.read_link.result) (sym c.in-Readlink.is) (c.read_link.ensures.says held)

pub returns-in-Readlink-clause-looks : goal.returns-in-Readlink-clause-looks
returns-in-Readlink-clause-looks c h birth when held m =
    adds_as _ _ _ _ (ap (λ o. examined (plan_of h birth when o) c.args.sectors.now.entries held) (sym c.in-Readlink.is)) (c.read_link.ensures.looks held m)

pub returns-in-Time-clause-says : goal.returns-in-Time-clause-says
returns-in-Time-clause-says c h birth when held = subst (λ o. Says (reading (plan_of h birth when o) c.args.sectors.now.entries held) c.time.result) (sym c.in-Time.is) (c.time.ensures.says held)

pub returns-in-Time-clause-looks : goal.returns-in-Time-clause-looks
returns-in-Time-clause-looks c h birth when held m =
    adds_as _ _ _ _ (ap (λ o. examined (plan_of h birth when o) c.args.sectors.now.entries held) (sym c.in-Time.is)) (c.time.ensures.looks held m)
