-- The world: servers with leases, locks, caches and logs, writes in flight, the recovery under way, and the disk. A sector
-- has two sides: as one with a version, which records name, and as one of file bytes, which none names. One side counts.
use Rattle.std.specs.Prelude.{ℕ, Bool, true, List, [], Option, Some, None, if◌then◌else◌}
use Rattle.frang_base.specs.declared.lock.LockId.{LockId}
use Rattle.frang_base.specs.declared.lock.Mode.{Mode}
use Rattle.sector_bytes.specs.Blocks.{Block, zero_block}
use Rattle.frang_base.specs.declared.change.Redo.{Redo}
use Rattle.sector_world.specs.Histories.{Entry, settled, is_logged}
use Rattle.sector_world.specs.Seen.{cover_of}

-- a server isn't mounted, is mounted, or died and isn't recovered
pub data Phase : Type 0 where
  Off : Phase
  Up : Phase
  Dead : Phase

-- what a server has cached of a sector with a version; a dirty one with the number of the last operation that changed it
pub data Slot : Type 0 where
  Absent : Slot
  Clean : (block : Block) → Slot
  Dirty : (block : Block) → (mark : ℕ) → Slot

-- what a server has cached of a sector of bytes; a dirty or a freed one with the number of the last operation before it
pub data Page : Type 0 where
  NoPage : Page
  CleanPage : (block : Block) → Page
  DirtyPage : (block : Block) → (mark : ℕ) → Page
  FreedPage : (mark : ℕ) → Page

-- a write of a sector with a version in flight, by a server on behalf of one
pub record Flight : Type 0 where
  pub by : ℕ
  pub behalf : ℕ
  pub stamp : ℕ
  pub block : Block

-- a write of bytes in flight
pub record ByteFlight : Type 0 where
  pub by : ℕ
  pub stamp : ℕ
  pub block : Block

-- what a recovery has found of a sector
pub data Told : Type 0 where
  Unread : Told
  Wanted : (block : Block) → Told
  InPlace : Told

-- the recovery of a dead server's log by another
pub record Rescue : Type 0 where
  pub dead : ℕ
  pub by : ℕ
  pub told : ℕ → Told

-- the state of all
pub record World : Type 0 where
  pub servers : ℕ
  -- the start: the sectors with versions (zeros elsewhere), which they are, the bytes of files, and the covers
  pub opening : ℕ → Block
  pub logged : ℕ → Bool
  pub first : ℕ → Option Block
  pub home : ℕ → LockId
  -- the clock, the end of each server's lease, its phase, and whether it may issue no writes: it isn't up, or a get or a put of it
  -- failed in this mount
  pub now : ℕ
  pub expiry : ℕ → ℕ
  pub phase : ℕ → Phase
  pub sick : ℕ → Bool
  -- the locks, by server
  pub holds : ℕ → LockId → Option Mode
  -- the logs, the newest record first; up to which number the records are on the disk, known to be there, given up; the last number
  pub log : ℕ → List Redo
  pub durable : ℕ → ℕ
  pub acked : ℕ → ℕ
  pub floor : ℕ → ℕ
  pub last : ℕ → ℕ
  -- who last began to recover a log that isn't recovered since, until when it holds the log, and the recovery under way
  pub taker : ℕ → Option ℕ
  pub until : ℕ → ℕ
  pub rescue : Option Rescue
  -- the sectors with versions: the disk, the caches by server, and the write in flight
  pub disk : ℕ → Block
  pub slot : ℕ → ℕ → Slot
  pub flight : ℕ → Option Flight
  -- the bytes: the disk, what a read shows, the caches, the write in flight, and each server's synced number
  pub bytes : ℕ → Block
  pub truth : ℕ → Block
  pub page : ℕ → ℕ → Page
  pub byte_flight : ℕ → Option ByteFlight
  pub synced : ℕ → ℕ
  -- what was done, the newest entry first
  pub history : List Entry

-- the world at the start: the disk, which of its sectors have versions, which of the others are of files, and the covers
abbrev pub start : ℕ → (ℕ → Block) → (ℕ → Bool) → (ℕ → Bool) → (ℕ → LockId) → World
start servers disk logged of_files home = record {
  servers = servers;
  opening = λ s. if logged s then disk s else zero_block;
  logged = logged;
  first = λ s. if logged s then None else (if of_files s then Some (disk s) else None);
  home = home;
  now = 0;
  expiry = λ d. 0;
  phase = λ d. Off;
  sick = λ d. true;
  holds = λ d l. None;
  log = λ d. [];
  durable = λ d. 0;
  acked = λ d. 0;
  floor = λ d. 0;
  last = λ d. 0;
  taker = λ d. None;
  until = λ d. 0;
  rescue = None;
  disk = λ s. if logged s then disk s else zero_block;
  slot = λ d s. Absent;
  flight = λ s. None;
  bytes = λ s. if logged s then zero_block else disk s;
  truth = λ s. if logged s then zero_block else disk s;
  page = λ d s. NoPage;
  byte_flight = λ s. None;
  synced = λ d. 0;
  history = [];
}

-- the lock that covers the sector now
abbrev pub cover : World → ℕ → LockId
cover w s = cover_of w.home (settled w.history) s

-- the sector has a version now
abbrev pub has_version : World → ℕ → Bool
has_version w s = is_logged w.logged (settled w.history) s

-- the sector of the one disk: its side that counts
abbrev pub block_at : World → ℕ → Block
block_at w s = if has_version w s then w.disk s else w.bytes s
