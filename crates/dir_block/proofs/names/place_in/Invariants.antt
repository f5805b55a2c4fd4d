-- No entry so far has the name.
use Rattle.std.proofs.Common.{◌≡◌, take, None}
use Rattle.disk_definitions.specs.Directories.{place_of_name}
use Rattle.dir_block.proofs.names.place_in.Given as goal

abbrev pub invariant-loop-place : goal.invariant-loop-place
invariant-loop-place l = place_of_name l.name (take l.place l.entries) ≡ None
