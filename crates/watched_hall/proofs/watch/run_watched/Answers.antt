-- Where memory is wanting before the run, the hall is as it was.
use Rattle.std.proofs.Common.{refl}
use Rattle.watched_hall.specs.Counting.{Counts}
use Rattle.watched_hall.proofs.Finishes.{watched_none}
use Rattle.watched_hall.proofs.watch.run_watched.Goals as goal

pub returns-in-Err : goal.returns-in-Err
returns-in-Err g c =
    let hall = c.args.hall in
    watched_none (Counts (g.M.Machine.stands hall.world.machine) hall.world.figures) g.N.Naming.outset hall.over hall.over c.args.reads hall.said (g.O.Outside.state hall.out) (record {}) c.shows.ensures refl

pub returns-in-Err-make : goal.returns-in-Err-make
returns-in-Err-make g c =
    let hall = c.args.hall in
    watched_none (Counts (g.M.Machine.stands hall.world.machine) hall.world.figures) g.N.Naming.outset hall.over hall.over c.args.reads hall.said (g.O.Outside.state hall.out) (record {}) c.shows.ensures refl
