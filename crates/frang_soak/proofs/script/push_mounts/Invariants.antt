-- The lines of the servers so far.
use Rattle.std.proofs.Common.{◌≡◌, ◌++◌}
use Rattle.frang_soak.specs.Scripts.{lines_at, mount_line}
use Rattle.frang_soak.proofs.script.push_mounts.Given as goal

abbrev pub invariant-loop-server : goal.invariant-loop-server
invariant-loop-server l = l.script ≡ l.initial.script ++ lines_at mount_line l.server
