-- What is printed, and then the lines that are left, is the text of all lines.
use Rattle.std.proofs.Common.{◌≡◌, ◌++◌, drop}
use Rattle.script_definitions.specs.ScriptPrinted.{printed_from}
use Rattle.script_lang.proofs.print.print_lines.Given as goal

abbrev pub invariant-loop-line : goal.invariant-loop-line
invariant-loop-line l = l.to.items ++ printed_from l.next (drop l.line-index l.lines) ≡ l.fn.to.items ++ printed_from 1 l.lines
