-- A moment at which what the laws ask is met.
use Rattle.std.specs.Prelude.{◌≡◌, ℕ, false, IsTrue, []}
use Rattle.frang_base.specs.declared.limits.TheConstants.{ROOT_INODE, SERVERS}
use Rattle.frang_base.specs.declared.lock.LockId.TheVariants.{Node}
use Rattle.sector_bytes.specs.Blocks.{zero_block}
use Rattle.core_definitions.specs.Events.{Read, Got}
use Rattle.core_definitions.specs.Runs.{State as RunMoment, Makes, first_state, next}
use Rattle.core_definitions.specs.Settings.{setting_of}
use Rattle.core_definitions.specs.Trees.{inode_sector}
use Rattle.sector_world.specs.Kinds.{Good}
use Rattle.sector_world.specs.World.{World}
use Rattle.core_world.specs.Events.{first_world}
use Rattle.core_world.specs.Journals.{Journal}
use Rattle.core_world.specs.Steps.{IsReached, IsWorldOf}
use Rattle.core_lives.specs.Cleared.{ClearedAreFree}
use Rattle.core_lives.specs.Idle.{is_idle}
use Rattle.core_lives.specs.Room.{HasRoom}
use Rattle.core_lives.specs.Steps.{GoesOn}

-- nothing has happened, over a disk of zeros of one segment, and there are no lines
abbrev pub empty_moment : RunMoment
empty_moment = first_state (setting_of [] 1 1) (λ sector. zero_block)

-- no sector has a version or is of a file
abbrev pub empty_world : World
empty_world = first_world (λ sector. zero_block) (λ sector. false) (λ sector. false) (λ sector. Node 0)

-- the host reads the root's inode: what the laws ask is met, and the step goes on
pub record ReadsTheRoot (journal : ℕ → Journal) : Type 0 where
  pub reached : IsReached empty_moment
  pub world : IsWorldOf empty_moment empty_world journal
  pub good : Good empty_world
  pub makes : Makes empty_moment (Read (inode_sector ROOT_INODE)) (Got zero_block)
  pub idle : IsTrue (is_idle empty_moment.core (Read (inode_sector ROOT_INODE)))
  pub sixteen : empty_world.servers ≡ SERVERS
  pub cleared : ClearedAreFree empty_moment.core.servers empty_world
  pub room : (a : ℕ) → HasRoom empty_moment a
  pub goes_on : GoesOn empty_world (next empty_moment (Read (inode_sector ROOT_INODE)) (Got zero_block)) journal

abbrev pub RootsAreRead : Type 0
RootsAreRead = (journal : ℕ → Journal) → ReadsTheRoot journal
