-- The run is named by its setting and its outside.
use Rattle.frang_hall.proofs.top.run_drawn.Given as goal

abbrev pub ghosts-drawn_named : goal.ghosts-drawn_named
ghosts-drawn_named g a = record { outset = record { setting = g.M.Machine.setting a.world; outside = g.O.Outside.state a.out } }
