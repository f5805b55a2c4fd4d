-- By the opening, and by what the run came to.
use Rattle.std.proofs.Common.{sym, subst}
use Rattle.frang_hall.specs.Finishing.{Ran}
use Rattle.hall_scripts.specs.Runs.{Ends, Opens, beginning_of}
use Rattle.hall_scripts.proofs.Results.{ran, stopped}
use Rattle.hall_scripts.proofs.run.run_from.Goals as goal

pub returns-in-Ok : goal.returns-in-Ok
returns-in-Ok g c =
    let before = g.O.Outside.state c.args.out in
    let opened = g.O.Outside.state c.open-opened.result.1 in
    let after = g.O.Outside.state c.run_in-finish.result.1 in
    let puts = subst (Opens (beginning_of c.args.disk) before opened) c.in-Ok.is c.open-opened.ensures in
    λ script is.
    subst (Ends script (beginning_of c.args.disk) before after) (sym c.came_to.ensures)
    (ran script (beginning_of c.args.disk) before opened after puts c.run_in-finish.result.0 (subst (λ setting. Ran setting opened after c.run_in-finish.result.0) is c.run_in-finish.ensures.ran))

pub returns-in-Err : goal.returns-in-Err
returns-in-Err g c =
    let before = g.O.Outside.state c.args.out in
    let after = g.O.Outside.state c.open-opened.result.1 in
    λ script is. stopped script (beginning_of c.args.disk) before after c.in-Err.fault (subst (Opens (beginning_of c.args.disk) before after) c.in-Err.is c.open-opened.ensures)
