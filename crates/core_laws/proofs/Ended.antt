-- No step is of a core that is over, so that a run from there ends where it begins.
use Rattle.std.proofs.Common.{◌≡◌, not, ◌==◌, IsTrue, refl}
use Rattle.std.proofs.lemmas.Bool.{and_parts, both_ways, not-true}
use Rattle.core_definitions.specs.LineGuards.{is_server}
use Rattle.core_definitions.specs.Runs.{State, Step, Event_, Enter, Hold, Flush, Relock, Note, Peek, PeekFails, Run, Stays, Goes, goes_on, is_note}

step_going : (s v : State) → Step s v → IsTrue (not s.core.over)
step_going s v (Event_ event heard makes) = makes.can.going
step_going s v (Enter a line can) = can.going
step_going s v (Hold a on may) = (and_parts (not s.core.over) (is_server a) may).0
step_going s v (Flush a may) = (and_parts (not s.core.over) (is_server a) may).0
step_going s v (Relock locks going are same wait) = going
step_going s v (Note line may) = (and_parts (not s.core.over) (s.core.shown == 0) (and_parts (is_note line) (goes_on s.core) may).1).0
step_going s v (Peek sector going) = going
step_going s v (PeekFails sector going) = going

pub nothing_follows : (s v : State) → IsTrue s.core.over → Run s v → v ≡ s
nothing_follows s v over Stays = refl
nothing_follows s w over (Goes {v = v} step run) = absurd (both_ways s.core.over (not-true s.core.over (step_going s v step)) over)
