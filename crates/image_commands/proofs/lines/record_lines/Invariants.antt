-- What is told with what is left makes all lines.
use Rattle.std.proofs.Common.{◌≡◌, ◌++◌, drop, map}
use Rattle.image_commands.specs.Lines.{redo_line}
use Rattle.image_commands.proofs.lines.record_lines.Given as goal

abbrev pub invariant-loop-record : goal.invariant-loop-record
invariant-loop-record l = l.lines.items ++ map redo_line (drop l.record-index l.records) ≡ map redo_line l.records
