-- What the lines said tell of who is mounted, over every run of the core alone.
use Rattle.std.specs.Prelude.{ℕ, ◌≡◌, true, false, IsTrue}
use Rattle.std.specs.List.{list_any}
use Rattle.tree_definitions.specs.Transcript.{is_mounted_or_dead, is_node}
use Rattle.core_definitions.specs.Cores.{is_all_answered}
use Rattle.core_definitions.specs.LineGuards.{is_server}
use Rattle.core_definitions.specs.Runs.{State as RunMoment, saids_of}
use Rattle.core_definitions.specs.Servers.{is_off}
use Rattle.core_world.specs.Steps.{IsReached}

-- who isn't off is up, stalled or dead by the lines said
abbrev pub WhoIsMountedIsTold : Type 0
WhoIsMountedIsTold =
    (s : RunMoment) (a : ℕ) → IsReached s → is_off (s.core.servers a).phase ≡ false → is_mounted_or_dead s.core.setting.script (saids_of s.record_) a ≡ true

-- who is off isn't, as long as a line isn't answered: only then who is closed is up by the lines said
abbrev pub WhoIsOffIsTold : Type 0
WhoIsOffIsTold =
    (s : RunMoment) (a : ℕ) → IsReached s → is_off (s.core.servers a).phase ≡ true → is_all_answered s.core ≡ false →
    is_mounted_or_dead s.core.setting.script (saids_of s.record_) a ≡ false

-- and from the first line of the tree on each server is off
abbrev pub TreesAreSaidAtRest : Type 0
TreesAreSaidAtRest = (s : RunMoment) (a : ℕ) → IsReached s → IsTrue (is_server a) → list_any is_node (saids_of s.record_) ≡ true → is_off (s.core.servers a).phase ≡ true
