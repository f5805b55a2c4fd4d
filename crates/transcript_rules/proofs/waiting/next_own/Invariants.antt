use Rattle.std.proofs.Common.{◌≡◌, ◌-◌, drop, length}
use Rattle.tree_definitions.specs.Transcript.{lines_for}
use Rattle.transcript_rules.proofs.waiting.next_own.Given as goal

abbrev pub invariant-loop-next : goal.invariant-loop-next
invariant-loop-next l = lines_for l.who.0 (drop l.next l.script) ≡ lines_for l.who.0 (drop l.from l.script)

abbrev pub decreases-loop-next : goal.decreases-loop-next
decreases-loop-next l = length l.script - l.next
