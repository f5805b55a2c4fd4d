-- A run of two servers over a fresh disk of one segment: both mount and look at the root, the first syncs, looks again and dies, and the second recovers its log.
use Rattle.std.specs.Prelude.{ℕ, ◌≡◌, ◌≢◌, true, false, None, List, [], ◌∷◌}
use Rattle.frang_base.specs.declared.limits.TheConstants.{ROOT_INODE}
use Rattle.frang_base.specs.declared.lock.LockId.TheVariants.{Node}
use Rattle.frang_base.specs.declared.lock.Mode.TheVariants.{Shared}
use Rattle.frang_base.specs.declared.op.Op.{Op}
use Rattle.frang_base.specs.declared.op.Op.TheVariants as op
use Rattle.frang_base.specs.declared.reply.Reply.{Reply}
use Rattle.frang_base.specs.declared.reply.Reply.TheVariants as reply
use Rattle.frang_base.specs.Locks.{has_lock}
use Rattle.tree_definitions.specs.declared.history.Entry.{Entry}
use Rattle.tree_definitions.specs.Removal.{tree_from}
use Rattle.tree_definitions.specs.Tree.{FileTree, fresh}
use Rattle.disk_definitions.specs.declared.region.Region.TheVariants as region
use Rattle.disk_definitions.specs.Regions.{sector_of}
use Rattle.disk_definitions.specs.Standing.{StandsFor}
use Rattle.sector_world.specs.Claims.{replayed}
use Rattle.sector_world.specs.Examples.{ticks}
use Rattle.sector_world.specs.Histories.{Commit, settled}
use Rattle.sector_world.specs.Kinds.{Good}
use Rattle.sector_world.specs.Planned.{IsLegal}
use Rattle.sector_world.specs.Steps.{Event, Run}
use Rattle.sector_world.specs.Steps.Event.{Mount, Take, Fetch, Do, Reach, Ack, Sync, Crash, Begin, Finish}
use Rattle.sector_world.specs.Trees.{Distinct}
use Rattle.sector_world.specs.World.{World, Rescue}
use Rattle.sector_world.specs.World.Phase.{Off}
use Rattle.sector_world.specs.World.Told.{Unread}
use Rattle.line_histories.specs.LinePlans.{sector_plan}
use Rattle.line_histories.specs.Following.{Follows}
use Rattle.line_histories.specs.Standing.{StandsNumbered}
use Rattle.line_histories.specs.Trees.{AreTimes, MayNumber}
use Rattle.stop_laws.specs.Events.{IsInSight}
use Rattle.stop_laws.specs.Happened.{Happening, Acts, Speaks, Mounts, Covers, Recovers, on_sectors, on_tree, settle}
use Rattle.stop_laws.specs.Known.{KnowsCells}
use Rattle.stop_laws.specs.Paired.{ArePaired, IsKeptBy}
use Rattle.stop_laws.specs.Replies.{SaidWhereItHappened}
use Rattle.stop_laws.specs.Settling.{stopped}
use Rattle.stop_laws.specs.Synced.{AllSaidAtOnce}
use Rattle.stop_laws.specs.Beginning.{fresh_world}
use Rattle.stop_laws.specs.TwoServers.{number_of_line, at_zero}

-- ---- all that the law on stops asks

pub record MeetsAll (segments : ℕ) (when : ℕ → ℕ) (first_tree : FileTree) (numbers : List ℕ) (w : World) (greatest : ℕ → ℕ) (h : List Happening) : Type 0 where
  pub times : AreTimes when
  pub stands : StandsNumbered segments w.opening (record { tree = first_tree; numbers = numbers })
  pub legal : IsLegal (sector_plan segments when) w
  pub distinct : Distinct (MayNumber numbers) first_tree (settled w.history)
  pub good : Good w
  pub follows : Follows segments w.opening w.home w.logged w.first []
  pub parameters : w.logged 0 ≡ true
  pub told : on_sectors h ≡ w.history
  pub paired : ArePaired segments when w.opening first_tree numbers h
  pub logs : (server : ℕ) → w.phase server ≢ Off → IsKeptBy server (greatest server) (w.durable server) (settle first_tree h)
  pub sight : IsInSight w
  pub said : SaidWhereItHappened segments when w.opening h
  pub synced : AllSaidAtOnce h
  pub knows : KnowsCells segments w.opening w.logged w.first first_tree []

-- ---- the run

-- the sector of the root's inode
abbrev pub root : ℕ
root = sector_of (region.Inode ROOT_INODE)

-- a server looks at the root, which has no entries
abbrev pub look : (server line : ℕ) → Commit
look server line = record {
  by = server;
  op = number_of_line line;
  hint = [];
  asked = op.Stat [];
  reply = reply.Dir 0;
  blocks = 0;
  looked = root ∷ [];
  changes = [];
  claims = λ s. false;
  moves = λ s. None;
  reads = [];
  makes = λ s. None;
  writes = λ s. None;
  sees = λ s. has_lock ((fresh_world 2 1).home s) (Node ROOT_INODE ∷ []);
  shown = λ s. None;
  uses = Node ROOT_INODE ∷ [];
  alone = [];
}

abbrev pub rescue : Rescue
rescue = record { dead = 0; by = 1; told = λ s. Unread }

abbrev pub events : List Event
events =
    Mount 0 ∷ Mount 1 ∷ Take 0 (Node ROOT_INODE) Shared ∷ Fetch 0 root ∷ Do (look 0 3) ∷ Reach 0 (number_of_line 3) ∷ Ack 0 (number_of_line 3) ∷ Sync 0
    ∷ Take 1 (Node ROOT_INODE) Shared ∷ Fetch 1 root ∷ Do (look 1 5) ∷ Reach 1 (number_of_line 5) ∷ Do (look 0 6) ∷ Reach 0 (number_of_line 6) ∷ Crash 0
    ∷ ticks 31 (Begin 0 1 ∷ Finish rescue ∷ [])

-- ---- its history, told twice

-- what a server said
abbrev pub said : (server line : ℕ) → Op → Reply → Entry
said server line operation answer = record { server = record { 0 = server }; number = record { 0 = number_of_line line }; when = 0; op = operation; reply = answer }

abbrev pub looked : (server line : ℕ) → Happening
looked server line = Acts (look server line) (said server line (op.Stat []) (reply.Dir 0))

-- until the recovery ends
abbrev pub before : List Happening
before =
    looked 0 6 ∷ looked 1 5 ∷ Speaks (said 0 4 op.Sync reply.Ok) ∷ Covers 0 (number_of_line 3) ∷ looked 0 3 ∷ Mounts 0 (said 1 2 op.Mount reply.Mounted)
    ∷ Mounts 0 (said 0 1 op.Mount reply.Mounted) ∷ []

abbrev pub happened : List Happening
happened = Recovers 0 0 (number_of_line 6) ∷ before

-- no log has a record, as nothing was changed
abbrev pub none_recorded : ℕ → ℕ
none_recorded server = 0

abbrev pub numbers : List ℕ
numbers = number_of_line 3 ∷ number_of_line 5 ∷ number_of_line 6 ∷ []

-- the run leads to a world that meets all of it, where the replayed disk stands for the tree of the history with the recoveries of all logs
pub record IsMetBy (w : World) : Type 0 where
  pub run : Run (fresh_world 2 1) events w
  pub meets : MeetsAll 1 at_zero (fresh 1) numbers w none_recorded happened
  pub stands : StandsFor (replayed w w.servers) (tree_from (fresh 1) (on_tree (stopped w none_recorded w.servers happened)))

abbrev pub ARunMeetsAll : Type 0
ARunMeetsAll = (w : World) × IsMetBy w
