-- At the first moment without lines the host may read the root, and the step goes on.
use Rattle.std.proofs.Common.{◌≡◌, ℕ, ◌+◌, ◌*◌, ◌^◌, ◌≤◌, false, [], arith, refl}
use Rattle.std.proofs.lemmas.Option.{none-some}
use Rattle.frang_base.specs.declared.limits.TheConstants.{ROOT_INODE}
use Rattle.frang_base.specs.declared.lock.LockId.TheVariants.{Node}
use Rattle.sector_bytes.specs.Blocks.{zero_block}
use Rattle.disk_definitions.proofs.SameLogs.{zero_log_end}
use Rattle.disk_definitions.specs.Logs.{log_end}
use Rattle.disk_definitions.specs.Replay.{slots_of}
use Rattle.core_definitions.specs.Events.{Read, Got}
use Rattle.core_definitions.specs.Runs.{Event_, Makes, Stays, next}
use Rattle.core_definitions.specs.Settings.{setting_of}
use Rattle.core_definitions.specs.Trees.{inode_sector}
use Rattle.core_world.specs.Events.{FirstMomentsAreGood, FirstMomentsAreWorlds}
use Rattle.core_world.specs.Journals.{Journal}
use Rattle.core_world.specs.Steps.{IsReached, IsWorldOf}
use Rattle.core_lives.specs.Cleared.{ClearedAreFree}
use Rattle.core_lives.specs.Examples.{RootsAreRead, empty_moment, empty_world}
use Rattle.core_lives.specs.Room.{HasRoom}
use Rattle.core_lives.specs.Steps.{StepsGoOn}

is_reached : IsReached empty_moment
is_reached = record { bytes = []; script = []; read = refl; segments = 1; number = 1; disk = λ sector. zero_block; run = Stays }

makes_it : Makes empty_moment (Read (inode_sector ROOT_INODE)) (Got zero_block)
makes_it = record { can = record { going = refl; can = record { answered = refl; off = refl; landed = refl; free = refl; needed = refl } }; hears = refl }

is_world : FirstMomentsAreWorlds → (journal : ℕ → Journal) → IsWorldOf empty_moment empty_world journal
is_world first journal = first (setting_of [] 1 1) (λ sector. zero_block) (λ sector. false) (λ sector. false) (λ sector. Node 0) journal (λ a slot server below. refl)

is_cleared : ClearedAreFree empty_moment.core.servers empty_world
is_cleared a s cached e dirty plain bare = absurd (none-some cached e)

has_room : (a : ℕ) → HasRoom empty_moment a
has_room a = low (log_end (slots_of empty_moment.disk a)) (zero_log_end (slots_of empty_moment.disk a) (λ slot below. refl))
  where
    low : (n : ℕ) → n ≡ 255 → n + 100 * 0 ≤ 2 ^ 61
    low n e = omega (arith, e)

pub roots_are_read : FirstMomentsAreWorlds → FirstMomentsAreGood → StepsGoOn → RootsAreRead
roots_are_read first good steps journal = record {
  reached = is_reached;
  world = is_world first journal;
  good = good (λ sector. zero_block) (λ sector. false) (λ sector. false) (λ sector. Node 0);
  makes = makes_it;
  idle = refl;
  sixteen = refl;
  cleared = is_cleared;
  room = has_room;
  goes_on = steps empty_moment (next empty_moment (Read (inode_sector ROOT_INODE)) (Got zero_block)) empty_world journal
      (Event_ (Read (inode_sector ROOT_INODE)) (Got zero_block) makes_it) refl is_reached (is_world first journal)
      (good (λ sector. zero_block) (λ sector. false) (λ sector. false) (λ sector. Node 0)) refl is_cleared (λ a who. has_room a);
}
