-- The lines so far, before what the others give, are what all lines give; and they are few.
use Rattle.std.proofs.Common.{◌≡◌, ◌+◌, ◌≤◌, false, length}
use Rattle.std.specs.Str.Lines.{lines}
use Rattle.script_definitions.specs.ScriptText.{script_from}
use Rattle.script_lang.proofs.ReadingLines.{behind_lines}
use Rattle.script_lang.proofs.script.read_lines.Given as goal

abbrev pub invariant-loop-line : goal.invariant-loop-line
invariant-loop-line l = record {
  read : behind_lines l.script (script_from (l.number + 1) l.halted (lines l.rest)) ≡ script_from 1 false (lines l.fn.bytes);
  few : l.number ≤ 65536;
}

abbrev pub decreases-loop-line : goal.decreases-loop-line
decreases-loop-line l = length (lines l.rest)
