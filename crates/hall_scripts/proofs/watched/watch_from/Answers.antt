-- By the opening, and by what the run came to.
use Rattle.std.proofs.Common.{sym, subst}
use Rattle.watched_hall.specs.Watching.{WatchedRun}
use Rattle.hall_scripts.specs.Runs.{Opens, beginning_of}
use Rattle.hall_scripts.specs.Watched.{EndsWatched}
use Rattle.hall_scripts.proofs.Results.{stopped}
use Rattle.hall_scripts.proofs.WatchedResults.{ran_watched}
use Rattle.hall_scripts.proofs.watched.watch_from.Goals as goal

pub returns-in-Ok : goal.returns-in-Ok
returns-in-Ok g c =
    let before = g.O.Outside.state c.args.out in
    let opened = g.O.Outside.state c.open-opened.result.1 in
    let after = g.O.Outside.state c.run_machine_watched-came.result.1 in
    let puts = subst (Opens (beginning_of c.args.disk) before opened) c.in-Ok.is c.open-opened.ensures in
    λ script is.
    subst (EndsWatched script (beginning_of c.args.disk) before after c.args.reads) (sym c.figures_read.ensures)
    (ran_watched script (beginning_of c.args.disk) before c.args.reads opened after puts c.run_machine_watched-came.result.0
    (subst (λ setting. WatchedRun setting opened after c.args.reads c.run_machine_watched-came.result.0) is c.run_machine_watched-came.ensures))

pub returns-in-Err : goal.returns-in-Err
returns-in-Err g c =
    let before = g.O.Outside.state c.args.out in
    let after = g.O.Outside.state c.open-opened.result.1 in
    λ script is. stopped script (beginning_of c.args.disk) before after c.in-Err.fault (subst (Opens (beginning_of c.args.disk) before after) c.in-Err.is c.open-opened.ensures)
