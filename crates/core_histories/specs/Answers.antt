-- Answers of servers' lines, over every run: each is of a line of the script, and an answer that isn't an operation's leaves the tree.
use Rattle.std.specs.Prelude.{ℕ, ◌≡◌, ◌⊎◌, Bool, true, false, ◌&&◌, List, [], ◌∷◌, Some}
use Rattle.frang_base.specs.declared.op.Op.{Op}
use Rattle.frang_base.specs.declared.reply.Reply.{Reply}
use Rattle.tree_definitions.specs.declared.history.Item.{Item}
use Rattle.tree_definitions.specs.declared.history.Item.TheVariants.{Did, Recovered}
use Rattle.tree_definitions.specs.History.{Stays, leaves_tree}
use Rattle.tree_definitions.specs.Live.{line_of, live_history}
use Rattle.tree_definitions.specs.Touched.{is_mounted, is_ok, is_sync, is_unmount, stalled_after}
use Rattle.core_definitions.specs.Cores.{due_at}
use Rattle.core_definitions.specs.Events.{Answer, Nothing}
use Rattle.core_definitions.specs.Lines.{Under, operation_of}
use Rattle.core_definitions.specs.Runs.{State as RunMoment, Makes, saids_of}
use Rattle.core_world.specs.Steps.{IsReached}
use Rattle.core_lives.specs.Idle.{begins_mount, ends_mount, tells_sync}

-- ---- lines under way

-- the line under way is one of the script, and asks what a server is asked
pub record IsOfTheScript (s : RunMoment) (under : Under) : Type 0 where
  pub operation : Op
  pub asked : operation_of under.line.what ≡ Some operation
  pub there : line_of s.core.setting.script under.line.number ≡ Some under.line

-- over every run it is so at each server
abbrev pub LinesUnderWayAreOfTheScript : Type 0
LinesUnderWayAreOfTheScript = (s : RunMoment) (a : ℕ) (under : Under) → IsReached s → (s.core.servers a).under ≡ Some under → IsOfTheScript s under

-- ---- answers

-- An answer that is due, which leaves the tree. It is `mounted` only where it begins a mount; and `ok` to a sync only where all is synced, and to an unmount only where it ends a
-- mount, or where its server owes
pub record IsDue (s : RunMoment) (a : ℕ) : Type 0 where
  pub under : Under
  pub is : (s.core.servers a).under ≡ Some under
  pub line : IsOfTheScript s under
  pub answer : Reply
  pub due : due_at s.core a ≡ Some answer
  pub leaves : leaves_tree line.operation answer ≡ true
  pub mounts : is_mounted answer ≡ true → begins_mount s.core a ≡ true
  pub syncs : is_sync line.operation && is_ok answer ≡ true → tells_sync s.core a ≡ true
  pub ends : is_unmount line.operation && is_ok answer ≡ true → (ends_mount s.core a ≡ true) ⊎ ((s.core.servers a).owes ≡ true)

-- over every run each is so
abbrev pub AnswersAreDue : Type 0
AnswersAreDue = (s : RunMoment) (a : ℕ) → IsReached s → Makes s (Answer a) Nothing → IsDue s a

-- ---- stalls

-- a stall of the server was answered `ok` since its last mount, along a history, from what was so before it
abbrev pub stalled_in : ℕ → Bool → List Item → Bool
stalled_in server stalled [] = stalled
stalled_in server stalled (Did e ∷ items) = stalled_in server (stalled_after server stalled (Stays e)) items
stalled_in server stalled (Recovered other greatest ∷ items) = stalled_in server stalled items

-- over every run, of a server that owes the lines said tell so
abbrev pub WhoOwesHasStalled : Type 0
WhoOwesHasStalled =
    (s : RunMoment) (a : ℕ) → IsReached s → (s.core.servers a).owes ≡ true → stalled_in a false (live_history s.core.setting.script s.core.setting.run (saids_of s.record_)) ≡ true
