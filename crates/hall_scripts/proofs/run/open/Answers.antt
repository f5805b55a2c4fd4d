-- The opening by its result.
use Rattle.std.proofs.Common.{sym, subst}
use Rattle.hall_scripts.specs.Runs.{Opens, beginning_of}
use Rattle.hall_scripts.proofs.Results.{opens}
use Rattle.hall_scripts.proofs.run.open.Goals as goal

pub returns : goal.returns
returns g c =
    subst (Opens (beginning_of c.args.disk) (g.O.Outside.state c.args.out) (g.O.Outside.state c.open_disk-opened.new.out)) (sym c.opened_by.ensures)
    (opens (beginning_of c.args.disk) (g.O.Outside.state c.args.out) (g.O.Outside.state c.open_disk-opened.new.out) c.open_disk-opened.result c.open_disk-opened.ensures)
