-- What a Commit of the core is: the claimed sectors are fetched, and then the operation of the theorem on sectors is done that its line comes to. When that may be done, and what it leaves in
-- caches and in flight.
use Rattle.std.specs.Prelude.{◌≡◌, ◌≢◌, ◌<◌, ℕ, Bool, true, false, if◌then◌else◌, IsTrue, List, [], ◌∷◌, map, nat_eq, Option, Some, None}
use Rattle.std.specs.List.{Contains}
use Rattle.std.specs.Option.{IsSome, option_or}
use Rattle.frang_base.specs.Functions.{member, put, put2}
use Rattle.frang_base.specs.Locks.{has_lock}
use Rattle.frang_base.specs.declared.change.Change.{Change}
use Rattle.frang_base.specs.declared.lock.LockId.{LockId}
use Rattle.frang_base.specs.declared.lock.Mode.TheVariants.{Sole}
use Rattle.frang_base.specs.declared.op.Op.{Op}
use Rattle.sector_bytes.specs.Blocks.{Block, zero_block}
use Rattle.sector_bytes.specs.Replays.{change_at}
use Rattle.sector_bytes.specs.SectorMaps.{Ascend, value_at}
use Rattle.tree_definitions.specs.Tree.{FileTree}
use Rattle.disk_definitions.specs.Naming.{Naming}
use Rattle.cache_definitions.specs.Caches.{Cache, CachedSector}
use Rattle.core_definitions.specs.Flights as core
use Rattle.core_definitions.specs.Flights.{Flights, each_of_server}
use Rattle.core_definitions.specs.LineEffects.{change_in, committed_by, flight_after}
use Rattle.core_definitions.specs.Plans as plans
use Rattle.core_definitions.specs.Plans.{BytesSet}
use Rattle.core_definitions.specs.Servers.{Server}
use Rattle.core_laws.specs.Laws.{AreOnce}
use Rattle.sector_world.specs.Guards.{CanDo}
use Rattle.sector_world.specs.Histories.{Commit, Fill, settled}
use Rattle.sector_world.specs.Histories.Fill.{Written, Freed}
use Rattle.sector_world.specs.Kinds.{Good}
use Rattle.sector_world.specs.Logged.{now_of}
use Rattle.sector_world.specs.Plans.{Outcome, made_of}
use Rattle.sector_world.specs.Seen.{moved}
use Rattle.sector_world.specs.Steps.{Run, after}
use Rattle.sector_world.specs.Steps.Event.{Do, Fetch}
use Rattle.sector_world.specs.World.{World, Page, NoPage, CleanPage, DirtyPage, FreedPage, Slot, Absent, Clean, Up, cover}
use Rattle.line_histories.specs.Following.{Follows, KeepsKinds}
use Rattle.line_histories.specs.Guards.{IsDiskOf, KeepsGuards}
use Rattle.line_histories.specs.Owned.{LooksWhereItLies, OwnsWhatItWrites}
use Rattle.core_world.specs.Ties.{AreCached, AreFlying, is_log_sector}

-- ---- the operation

-- the bytes that a page has
abbrev pub block_in : Page → Option Block
block_in NoPage = None
block_in (CleanPage block) = Some block
block_in (DirtyPage block mark) = Some block
block_in (FreedPage mark) = None

-- what it shows of a sector of bytes: what its server has cached, where its plan reads it
abbrev pub shown_in : World → ℕ → Outcome → ℕ → Option Block
shown_in w a o s = if member s o.reads then block_in (w.page a s) else None

-- the operation of a server with an outcome over its cache
abbrev pub commit_of : World → (a n : ℕ) → (hint : List ℕ) → Op → Outcome → Commit
commit_of w a n hint asked o = record {
  by = a;
  op = n;
  hint = hint;
  asked = asked;
  reply = o.reply;
  blocks = o.blocks;
  looked = o.looked;
  changes = o.changes;
  claims = o.claims;
  moves = o.moves;
  reads = o.reads;
  makes = o.makes;
  writes = λ s. made_of (o.makes s) (shown_in w a o s);
  sees = λ s. has_lock (cover w s) o.uses;
  shown = shown_in w a o;
  uses = o.uses;
  alone = o.alone;
}

-- ---- when it may be done

-- the server's locks are held as the plan uses them; what it changes is cached, and what it reads; and the zeros of what it claims are acknowledged
pub record IsAtHand (w : World) (a : ℕ) (o : Outcome) : Type 0 where
  pub uses : (l : LockId) → IsTrue (has_lock l o.uses) → w.holds a l ≢ None
  pub alone : (l : LockId) → IsTrue (has_lock l o.alone) → w.holds a l ≡ Some Sole
  pub changed : (s : ℕ) (x : Change) → change_at o.changes s ≡ Some x → w.slot a s ≢ Absent
  pub read : (s : ℕ) → IsTrue (member s o.reads) → IsSome (block_in (w.page a s))
  pub cleared : (s : ℕ) → o.claims s ≡ true → w.page a s ≡ CleanPage zero_block

-- an outcome that keeps the guards over the sectors with versions, and whose locks, sectors and zeros its server has at hand, may be done
abbrev pub OutcomesMayBeDone : Type 0
OutcomesMayBeDone =
    (segments : ℕ) (w : World) (a n : ℕ) (hint : List ℕ) (asked : Op) (tree : FileTree) (naming : Naming) (o : Outcome) → Good w → w.phase a ≡ Up → w.last a < n →
    IsDiskOf segments (now_of w) tree naming → KeepsGuards segments (now_of w) naming o → OwnsWhatItWrites segments naming o → LooksWhereItLies segments naming o →
    Follows segments w.opening w.home w.logged w.first (settled w.history) → IsAtHand w a o → KeepsKinds w.logged (settled w.history) (commit_of w a n hint asked o) →
    CanDo w (commit_of w a n hint asked o)

-- ---- claimed sectors are fetched before it

-- the slots of a server with these sectors fetched
abbrev pub fetched_slots : (ℕ → Block) → (ℕ → ℕ → Slot) → ℕ → List ℕ → ℕ → ℕ → Slot
fetched_slots disk slot a [] = slot
fetched_slots disk slot a (s ∷ sectors) = fetched_slots disk (put2 slot a s (Clean (disk s))) a sectors

-- the world with them
abbrev pub fetched_world : World → ℕ → List ℕ → World
fetched_world w a sectors = record w { slot = fetched_slots w.disk w.slot a sectors }

-- each of these is a sector without a version, under a lock that the server holds
abbrev pub MayBeFetched : World → ℕ → List ℕ → Type 0
MayBeFetched w a sectors = (s : ℕ) → Contains sectors s → (w.slot a s ≡ Absent) × (w.holds a (cover w s) ≢ None)

-- they are fetched one after another
abbrev pub SectorsAreFetched : Type 0
SectorsAreFetched =
    (w : World) (a : ℕ) (sectors : List ℕ) → w.phase a ≡ Up → AreOnce sectors → MayBeFetched w a sectors → Run w (map (Fetch a) sectors) (fetched_world w a sectors)

-- ---- what it leaves

-- the last of the sectors that are set
abbrev pub last_set : List BytesSet → ℕ → Option BytesSet
last_set [] s = None
last_set (x ∷ xs) s = option_or (last_set xs s) (if nat_eq x.sector s then Some x else None)

-- what the core makes of a sector of bytes
abbrev pub fill_of : Bool → Option BytesSet → Option Fill
fill_of true set = Some Freed
fill_of false None = None
fill_of false (Some x) = Some (Written x.block)

-- what is finished over the core's cache is the operation: its record, the covers that it moves, the bytes that it sets and those that it frees
pub record IsDoneAs (outcome : plans.Outcome) (c : Commit) (w : World) : Type 0 where
  pub changes : (s : ℕ) → change_in outcome.redo s ≡ change_at c.changes s
  pub moves : (s : ℕ) → outcome.moves s ≡ c.moves s
  pub fills : (s : ℕ) → c.writes s ≡ fill_of (member s outcome.freed) (last_set outcome.bytes s)
  pub covers : (s : ℕ) (x : BytesSet) → last_set outcome.bytes s ≡ Some x → x.cover ≡ moved (c.moves s) (cover w s)

-- what is claimed is cached, and clean
abbrev pub AreClaimedClean : Cache → Commit → Type 0
AreClaimedClean cache c = (s : ℕ) → c.claims s ≡ true → (cached : CachedSector) × (value_at cache s ≡ Some cached) × (cached.dirt ≡ None)

-- the claimed sectors are these, each once
pub record AreClaimed (c : Commit) (sectors : List ℕ) : Type 0 where
  pub once : AreOnce sectors
  pub all : (s : ℕ) → c.claims s ≡ true → Contains sectors s
  pub only : (s : ℕ) → Contains sectors s → c.claims s ≡ true

-- the caches afterwards are those of the world, with covers and kinds as they are after the operation
abbrev pub CommitsKeepCaches : Type 0
CommitsKeepCaches =
    (servers : ℕ → Server) (w : World) (outcome : plans.Outcome) (c : Commit) (sectors : List ℕ) → Good (fetched_world w c.by sectors) → AreCached servers w → Ascend (servers c.by).cache → IsDoneAs outcome c w →
    AreClaimed c sectors → AreClaimedClean (servers c.by).cache c → CanDo (fetched_world w c.by sectors) c →
    AreCached (put servers c.by (committed_by outcome (servers c.by))) (after (fetched_world w c.by sectors) (Do c))

-- a write of a present mount in place: its server holds its cover alone
abbrev pub WritesHoldTheirCovers : World → Flights → Type 0
WritesHoldTheirCovers w flights =
    (one : ℕ × core.Flight) (lock : LockId) → Contains flights one → one.1.present ≡ true → one.1.purpose ≡ core.InPlace lock → w.holds one.1.server lock ≡ Some Sole

-- and so are the writes in flight: those of the server of its present mount come under their sectors' new covers
abbrev pub CommitsKeepFlights : Type 0
CommitsKeepFlights =
    (segments : ℕ) (flights : Flights) (w : World) (outcome : plans.Outcome) (c : Commit) (sectors : List ℕ) → Good (fetched_world w c.by sectors) → AreFlying segments w.now flights w →
    IsDoneAs outcome c w → ((s : ℕ) → c.claims s ≡ true → is_log_sector segments s ≡ false) → CanDo (fetched_world w c.by sectors) c → WritesHoldTheirCovers w flights →
    AreFlying segments w.now (each_of_server c.by (flight_after outcome) flights) (after (fetched_world w c.by sectors) (Do c))
