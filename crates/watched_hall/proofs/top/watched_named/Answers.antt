-- What was read of the hall is read of what ran.
use Rattle.std.proofs.Common.{subst, sym}
use Rattle.watched_hall.specs.Counting.{Counts}
use Rattle.watched_hall.specs.Watching.{Watched, WatchedRun}
use Rattle.watched_hall.proofs.Finishes.{watched_run}
use Rattle.watched_hall.proofs.top.watched_named.Goals as goal

pub returns : goal.returns
returns g c =
    let hall = c.run_watched-hall.result.0 in
    let stands = Counts (g.M.Machine.stands hall.world.machine) hall.world.figures in
    let came = c.run_watched-hall.result.1 in
    let now = g.O.Outside.state hall.out in
    subst (λ o. WatchedRun g.N.Naming.outset.setting g.N.Naming.outset.outside (g.O.Outside.state o) c.args.reads came) (sym c.outside.ensures)
    (watched_run stands g.N.Naming.outset c.args.reads hall.over hall.said now came
    (subst (λ before. Watched stands g.N.Naming.outset before c.args.reads hall.over hall.said now came) c.new-hall.ensures.over c.run_watched-hall.ensures))
