use Rattle.std.proofs.Common.{◌≡◌, ◌-◌, true, take, length}
use Rattle.std.specs.List.{list_all}
use Rattle.transcript_rules.specs.Waiting.{passes}
use Rattle.transcript_rules.proofs.waiting.next_waiting.Given as goal

abbrev pub invariant-loop-next : goal.invariant-loop-next
invariant-loop-next l = list_all (passes l.hosts l.answered) (take l.next l.script) ≡ true

abbrev pub decreases-loop-next : goal.decreases-loop-next
decreases-loop-next l = length l.script - l.next
