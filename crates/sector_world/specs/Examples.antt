-- Runs in which the guards are met together. Sectors below 8 have versions, sector 9 has bytes of a file, the others are free;
-- each has a lock of its own.
use Rattle.std.specs.Prelude.{ℕ, zero, suc, ◌≡◌, Bool, true, false, List, [], ◌∷◌, Some, None, nat_eq, nat_lt, if◌then◌else◌}
use Rattle.frang_base.specs.declared.change.Change.{Change}
use Rattle.frang_base.specs.declared.lock.LockId.{LockId}
use Rattle.frang_base.specs.declared.lock.LockId.TheVariants.{Node}
use Rattle.frang_base.specs.declared.lock.Mode.TheVariants.{Shared, Sole}
use Rattle.frang_base.specs.declared.op.Op.TheVariants as op
use Rattle.frang_base.specs.declared.reply.Reply.TheVariants as reply
use Rattle.sector_bytes.specs.Blocks.{Block, zero_block}
use Rattle.sector_bytes.specs.Changes.{changed}
use Rattle.frang_base.specs.Functions.{put}
use Rattle.frang_base.specs.Locks.{has_lock}
use Rattle.sector_world.specs.HistoryBytes.{value, is_free}
use Rattle.sector_world.specs.Seen.{moved}
use Rattle.sector_world.specs.Histories.{Commit, Item, settled}
use Rattle.sector_world.specs.Histories.Fill.{Written, Freed}
use Rattle.sector_world.specs.Histories.Item.{Done, Doubt}
use Rattle.sector_world.specs.World.{World, Flight, Rescue, start, cover, has_version}
use Rattle.sector_world.specs.World.Phase.{Dead}
use Rattle.sector_world.specs.World.Page.{NoPage, FreedPage}
use Rattle.sector_world.specs.World.Slot.{Dirty}
use Rattle.sector_world.specs.World.Told.{Unread, Wanted, InPlace}
use Rattle.sector_world.specs.Steps.{Event, Run}
use Rattle.sector_world.specs.Claims.{IsQuiet}
use Rattle.sector_world.specs.Steps.Event.{Tick, Fail, Renew, Mount, Take, Do, Reach, Ack, Sync, Crash, Begin, Look, Finish, Fetch, Issue, Replay, Land, Fade, FetchBytes, Clear, IssueBytes, LandBytes}

-- three servers and a disk of zeros
abbrev pub begin : World
begin = start 3 (λ s. zero_block) (λ s. nat_lt s 8) (λ s. nat_eq s 9) (λ s. Node s)

-- sector 5 gets version 1
abbrev pub change : Change
change = record { sector = record { 0 = 5 }; version = 1; patches = [] }

-- sector 5 after the change
abbrev pub new_block : Block
new_block = changed zero_block change

-- an operation of server 0 that changes sector 5
abbrev pub deed : Commit
deed = record {
  by = 0;
  op = 1;
  hint = [];
  asked = op.Sync;
  reply = reply.Ok;
  blocks = 0;
  looked = [];
  changes = change ∷ [];
  claims = λ s. false;
  moves = λ s. None;
  reads = [];
  makes = λ s. None;
  writes = λ s. None;
  sees = λ s. has_lock (Node s) (Node 5 ∷ []);
  shown = λ s. None;
  uses = Node 5 ∷ [];
  alone = Node 5 ∷ [];
}

-- so many ticks, and then these events
abbrev pub ticks : ℕ → List Event → List Event
ticks zero es = es
ticks (suc n) es = Tick ∷ ticks n es

-- server 0 does it, and its servers are up
abbrev pub done : List Event → List Event
done es = Mount 0 ∷ Mount 1 ∷ Mount 2 ∷ Take 0 (Node 5) Sole ∷ Fetch 0 5 ∷ Do deed ∷ es

-- the recovery of server 0's log by b, at its beginning
abbrev pub rescue : ℕ → Rescue
rescue b = record { dead = 0; by = b; told = λ s. Unread }

-- a recovery by b has found sector 5 to be written, and has written it
abbrev pub wanted : ℕ → Rescue
wanted b = record { dead = 0; by = b; told = put (λ s. Unread) 5 (Wanted new_block) }

-- and has written it
abbrev pub placed : ℕ → Rescue
placed b = record { dead = 0; by = b; told = put (put (λ s. Unread) 5 (Wanted new_block)) 5 InPlace }

-- the write of sector 5 by b on behalf of server 0, with this stamp
abbrev pub write : ℕ → ℕ → Flight
write b stamp = record { by = b; behalf = 0; stamp = stamp; block = new_block }

-- server b recovers server 0's log; the write in flight has this stamp
abbrev pub recovery : ℕ → ℕ → List Event
recovery b stamp = Begin 0 b ∷ Look (rescue b) 5 ∷ Replay (wanted b) 5 new_block ∷ Land 5 (write b stamp) ∷ Finish (placed b) ∷ []

-- no operation is left
abbrev pub IsEmpty : List Item → Type 0
IsEmpty [] = Unit {0}
IsEmpty (Done c ∷ h) = ⊥
IsEmpty (Doubt m ∷ h) = IsEmpty h

-- an operation that isn't synced is lost with its server
abbrev pub lost : List Event
lost = done (Crash 0 ∷ ticks 31 (Begin 0 1 ∷ Finish (rescue 1) ∷ []))

-- the run leads here, where no operation is left and the disk is as it was
pub record IsLostRun (w : World) : Type 0 where
  pub run : Run begin lost w
  pub none : IsEmpty (settled w.history)
  pub disk : w.disk 5 ≡ zero_block

-- a synced one is kept: the recovery writes it
abbrev pub kept : List Event
kept = done (Reach 0 1 ∷ Ack 0 1 ∷ Sync 0 ∷ Crash 0 ∷ ticks 31 (Renew 1 ∷ recovery 1 46))

-- the run leads here, where the operation is left and the disk has its change
pub record IsKeptRun (w : World) : Type 0 where
  pub run : Run begin kept w
  pub there : (m : ℕ → Bool) × (settled w.history ≡ Doubt m ∷ Done deed ∷ [])
  pub disk : w.disk 5 ≡ new_block

-- the recoverer dies with its write in flight, which comes late, and a second one recovers
abbrev pub twice : List Event
twice = done (Reach 0 1 ∷ Crash 0 ∷ ticks 31 (Renew 1 ∷ Begin 0 1 ∷ Look (rescue 1) 5 ∷ Replay (wanted 1) 5 new_block ∷ Crash 1
    ∷ ticks 31 (Renew 2 ∷ Fade 5 (write 1 46) ∷ recovery 2 77)))

-- the run leads here, where the operation is left and the disk has its change
pub record IsTwiceRun (w : World) : Type 0 where
  pub run : Run begin twice w
  pub there : (m : ℕ → Bool) × (settled w.history ≡ Doubt m ∷ Done deed ∷ [])
  pub disk : w.disk 5 ≡ new_block

-- a recoverer whose get failed still renews its lease and ends the recovery
abbrev pub failed : List Event
failed = done (Crash 0 ∷ ticks 31 (Begin 0 1 ∷ Fail 1 ∷ Renew 1 ∷ Finish (rescue 1) ∷ []))

-- the run leads here, where nothing is on the way
pub record IsFailedRun (w : World) : Type 0 where
  pub run : Run begin failed w
  pub sick : w.sick 1 ≡ true
  pub quiet : IsQuiet w

-- a recoverer renews its lease
abbrev pub renewed : List Event
renewed = done (Crash 0 ∷ ticks 31 (Begin 0 1 ∷ Renew 1 ∷ []))

-- the recovery of server 1's log by server 2
abbrev pub second_rescue : Rescue
second_rescue = record { dead = 1; by = 2; told = λ s. Unread }

-- and dies, and is recovered
abbrev pub handed : List Event
handed = Crash 1 ∷ ticks 31 (Begin 1 2 ∷ Finish second_rescue ∷ [])

-- its hold on server 0's log is extended with its lease, and gone once it is recovered itself
pub record IsHandedRun (v w : World) : Type 0 where
  pub run : Run begin renewed v
  pub held : (v.taker 0 ≡ Some 1) × (v.until 0 ≡ 61)
  pub next : Run v handed w
  pub gone : (w.taker 0 ≡ None) × (w.until 0 ≡ 0)
  pub dead : w.phase 0 ≡ Dead

-- a write comes late: the sector stays dirty, and the disk as it was
abbrev pub late : List Event
late = done (Reach 0 1 ∷ Ack 0 1 ∷ Issue 0 5 new_block 1 ∷ ticks 16 (Fade 5 (write 0 15) ∷ []))

-- the run leads here
pub record IsLateRun (w : World) : Type 0 where
  pub run : Run begin late w
  pub dirty : w.slot 0 5 ≡ Dirty new_block 1
  pub disk : w.disk 5 ≡ zero_block

-- an operation of server 0 that writes bytes to sector 9
abbrev pub bytes : Block
bytes = 7 ∷ []

-- an operation of server 0 that writes them to sector 9
abbrev pub scribble : Commit
scribble = record {
  by = 0;
  op = 1;
  hint = [];
  asked = op.Sync;
  reply = reply.Ok;
  blocks = 0;
  looked = [];
  changes = [];
  claims = λ s. false;
  moves = λ s. None;
  reads = [];
  makes = λ s. if nat_eq s 9 then Some (λ shown. Written bytes) else None;
  writes = λ s. if nat_eq s 9 then Some (Written bytes) else None;
  sees = λ s. has_lock (Node s) (Node 9 ∷ []);
  shown = λ s. None;
  uses = Node 9 ∷ [];
  alone = Node 9 ∷ [];
}

-- an operation of server 1 that shows the bytes of sector 9
abbrev pub reading : Commit
reading = record {
  by = 1;
  op = 2;
  hint = [];
  asked = op.Sync;
  reply = reply.Ok;
  blocks = 0;
  looked = [];
  changes = [];
  claims = λ s. false;
  moves = λ s. None;
  reads = 9 ∷ [];
  makes = λ s. None;
  writes = λ s. None;
  sees = λ s. has_lock (Node s) (Node 9 ∷ []);
  shown = λ s. if nat_eq 9 s then Some zero_block else None;
  uses = Node 9 ∷ [];
  alone = [];
}

-- bytes that weren't synced are in doubt after the recovery, and another server's read makes them known
abbrev pub doubted : List Event
doubted = Mount 0 ∷ Mount 1 ∷ Take 0 (Node 9) Sole ∷ Do scribble ∷ Reach 0 1 ∷ Crash 0 ∷ ticks 31 (Begin 0 1 ∷ Finish (rescue 1) ∷ [])

-- and is read
abbrev pub read : List Event
read = Take 1 (Node 9) Shared ∷ FetchBytes 1 9 ∷ Do reading ∷ []

-- the runs lead to v, where the bytes are unknown, and on to w, where they are known
pub record IsReadRun (v w : World) : Type 0 where
  pub doubt : Run begin doubted v
  pub unknown : value v.first (settled v.history) 9 ≡ None
  pub run : Run v read w
  pub known : value w.first (settled w.history) 9 ≡ Some zero_block

-- an operation of server 0 that makes sector 8 one with versions, under another lock, once zeros are written there
abbrev pub change_8 : Change
change_8 = record { sector = record { 0 = 8 }; version = 1; patches = [] }

-- an operation of server 0 that makes sector 8 one with versions, under another lock
abbrev pub claim : Commit
claim = record {
  by = 0;
  op = 1;
  hint = [];
  asked = op.Sync;
  reply = reply.Ok;
  blocks = 0;
  looked = [];
  changes = change_8 ∷ [];
  claims = λ s. nat_eq s 8;
  moves = λ s. if nat_eq s 8 then Some (Node 5) else None;
  reads = [];
  makes = λ s. None;
  writes = λ s. None;
  sees = λ s. has_lock (Node s) (Node 8 ∷ Node 5 ∷ []);
  shown = λ s. None;
  uses = Node 8 ∷ Node 5 ∷ [];
  alone = Node 8 ∷ Node 5 ∷ [];
}

-- zeros are written to sector 8, and come, before the operation
abbrev pub claimed : List Event
claimed = Mount 0 ∷ Take 0 (Node 8) Sole ∷ Take 0 (Node 5) Sole ∷ Clear 0 8 ∷ IssueBytes 0 8 zero_block 0 ∷ LandBytes 8 (record { by = 0; stamp = 15; block = zero_block }) ∷ Fetch 0 8 ∷ Do claim ∷ []

-- the run leads here, where sector 8 has a version, another cover, and no page
pub record IsClaimedRun (w : World) : Type 0 where
  pub run : Run begin claimed w
  pub versioned : has_version w 8 ≡ true
  pub moved : cover w 8 ≡ Node 5
  pub page : w.page 0 8 ≡ NoPage

-- an operation of server 0 that frees the bytes of sector 9, which goes under another lock
abbrev pub freeing : Commit
freeing = record {
  by = 0;
  op = 2;
  hint = [];
  asked = op.Sync;
  reply = reply.Ok;
  blocks = 0;
  looked = [];
  changes = [];
  claims = λ s. false;
  moves = λ s. if nat_eq s 9 then Some (Node 5) else None;
  reads = [];
  makes = λ s. if nat_eq s 9 then Some (λ shown. Freed) else None;
  writes = λ s. if nat_eq s 9 then Some Freed else None;
  sees = λ s. has_lock (Node s) (Node 9 ∷ Node 5 ∷ []);
  shown = λ s. None;
  uses = Node 9 ∷ Node 5 ∷ [];
  alone = Node 9 ∷ Node 5 ∷ [];
}

-- bytes are freed while their write is in flight, which still comes
abbrev pub freed : List Event
freed = Mount 0 ∷ Take 0 (Node 9) Sole ∷ Take 0 (Node 5) Sole ∷ Do scribble ∷ Reach 0 1 ∷ Ack 0 1 ∷ IssueBytes 0 9 bytes 1 ∷ Do freeing ∷ LandBytes 9 (record { by = 0; stamp = 15; block = bytes }) ∷ []

-- the run leads here, where sector 9 is free and has the bytes that came
pub record IsFreedRun (w : World) : Type 0 where
  pub run : Run begin freed w
  pub free : is_free w.first (settled w.history) 9 ≡ true
  pub page : w.page 0 9 ≡ FreedPage 2
  pub came : w.bytes 9 ≡ bytes

-- an operation of server 0 that frees sector 5, a directory's, and one that takes it again
abbrev pub releasing : Commit
releasing = record {
  by = 0;
  op = 1;
  hint = [];
  asked = op.Sync;
  reply = reply.Ok;
  blocks = 0;
  looked = [];
  changes = change ∷ [];
  claims = λ s. false;
  moves = λ s. if nat_eq s 5 then Some (Node 6) else None;
  reads = [];
  makes = λ s. None;
  writes = λ s. None;
  sees = λ s. has_lock (Node s) (Node 5 ∷ Node 6 ∷ []);
  shown = λ s. None;
  uses = Node 5 ∷ Node 6 ∷ [];
  alone = Node 5 ∷ Node 6 ∷ [];
}

abbrev pub change_again : Change
change_again = record { sector = record { 0 = 5 }; version = 2; patches = [] }

-- the cover of a sector after the first
abbrev pub released_cover : ℕ → LockId
released_cover s = moved (if nat_eq s 5 then Some (Node 6) else None) (Node s)

abbrev pub retaking : Commit
retaking = record {
  by = 0;
  op = 2;
  hint = [];
  asked = op.Sync;
  reply = reply.Ok;
  blocks = 0;
  looked = [];
  changes = change_again ∷ [];
  claims = λ s. false;
  moves = λ s. if nat_eq s 5 then Some (Node 5) else None;
  reads = [];
  makes = λ s. None;
  writes = λ s. None;
  sees = λ s. has_lock (released_cover s) (Node 5 ∷ Node 6 ∷ []);
  shown = λ s. None;
  uses = Node 5 ∷ Node 6 ∷ [];
  alone = Node 5 ∷ Node 6 ∷ [];
}

-- a sector with a version is freed and used again: its version goes on
abbrev pub retaken : List Event
retaken = Mount 0 ∷ Take 0 (Node 5) Sole ∷ Take 0 (Node 6) Sole ∷ Fetch 0 5 ∷ Do releasing ∷ Do retaking ∷ []

-- the run leads here, where sector 5 is under its first lock again and dirty with version 2
pub record IsRetakenRun (w : World) : Type 0 where
  pub run : Run begin retaken w
  pub moved : cover w 5 ≡ Node 5
  pub dirty : w.slot 0 5 ≡ Dirty (changed new_block change_again) 2
