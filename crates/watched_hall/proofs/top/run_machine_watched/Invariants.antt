-- The run is named by its setting and its outside.
use Rattle.watched_hall.proofs.top.run_machine_watched.Given as goal

abbrev pub ghosts-watched_named : goal.ghosts-watched_named
ghosts-watched_named g a = record { outset = record { setting = g.M.Machine.setting a.world; outside = g.O.Outside.state a.out } }
