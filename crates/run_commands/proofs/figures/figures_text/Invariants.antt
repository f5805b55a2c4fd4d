-- What is written with what is left makes all lines.
use Rattle.std.proofs.Common.{◌≡◌, ◌++◌, drop}
use Rattle.std.specs.List.{flat_map}
use Rattle.std.specs.Prelude.{string_bytes}
use Rattle.run_commands.specs.Running.{figures_line}
use Rattle.run_commands.proofs.figures.figures_text.Given as goal

abbrev pub invariant-loop-figures : goal.invariant-loop-figures
invariant-loop-figures l = string_bytes l.text ++ flat_map figures_line (drop l.figures-index l.list) ≡ flat_map figures_line l.list
