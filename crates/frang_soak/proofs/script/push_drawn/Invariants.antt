-- The lines and the state after so many draws.
use Rattle.std.proofs.Common.{◌≡◌, ◌++◌}
use Rattle.frang_soak.specs.Draws.{state_after}
use Rattle.frang_soak.specs.Scripts.{drawn_line, lines_at}
use Rattle.frang_soak.proofs.script.push_drawn.Given as goal

abbrev pub invariant-loop-place : goal.invariant-loop-place
invariant-loop-place l = (l.script ≡ l.initial.script ++ lines_at (drawn_line l.n) l.place) × (l.state ≡ state_after l.n l.place)
