-- What a finished line tells of room: where it is refused for want of it, and which number it tells.
use Rattle.std.specs.Prelude.{◌≡◌, ◌<◌, ℕ, true}
use Rattle.frang_base.specs.declared.lock.LockId.TheVariants as lock
use Rattle.frang_base.specs.declared.op.Op.{Op}
use Rattle.frang_base.specs.declared.reply.Reply.TheVariants as reply
use Rattle.tree_definitions.specs.Perform.{perform}
use Rattle.tree_definitions.specs.Touched.{is_nospace}
use Rattle.tree_definitions.specs.Tree.{FileTree}
use Rattle.disk_definitions.specs.Store.{Store}
use Rattle.disk_definitions.specs.Naming.{Naming}
use Rattle.disk_definitions.specs.Ask.{run}
use Rattle.disk_definitions.specs.Lines.{plan_of_line}
use Rattle.disk_definitions.specs.Meets.{Answers, IsHandOf, IsOfTree}
use Rattle.disk_definitions.specs.Plans.{Finish, Hand}
use Rattle.disk_definitions.specs.Plans.Plan.{Finishes}
use Rattle.plan_laws.specs.Locks.{IsSole}

-- a line over the disk of a tree that is refused for want of room has the lock of each segment alone
abbrev pub RefusedLinesHoldAll : Type 0
RefusedLinesHoldAll =
    (operation : Op) (hand : Hand) (store : Store) (tree : FileTree) (naming : Naming) (birth when : ℕ) (finish : Finish) → IsOfTree store tree naming →
    IsHandOf hand store tree.segments → run (plan_of_line hand birth when operation) store ≡ Finishes finish → is_nospace finish.reply ≡ true →
    (segment : ℕ) → segment < tree.segments → IsSole finish.locks (lock.Segment segment)

-- a number of directories' blocks that an answer tells is the one that the operation was performed with
abbrev pub AnswersTellTheirNumber : Type 0
AnswersTellTheirNumber =
    (tree : FileTree) (operation : Op) (birth when ever_directories told : ℕ) → Answers (perform tree operation birth when ever_directories).answer (reply.NoBlock told) →
    told ≡ ever_directories
