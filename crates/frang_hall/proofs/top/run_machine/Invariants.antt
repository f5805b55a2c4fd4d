-- The run is named by its setting and its outside.
use Rattle.frang_hall.proofs.top.run_machine.Given as goal

abbrev pub ghosts-run_named : goal.ghosts-run_named
ghosts-run_named g a = record { outset = record { setting = g.M.Machine.setting a.world; outside = g.O.Outside.state a.out } }
