-- How a journal accounts for the operations of its server: each with a record since the last mount has it in the log, and each without one ends where an operation before it does.
use Rattle.std.specs.Prelude.{◌≡◌, ◌≢◌, ◌≤◌, ◌<◌, ◌⊎◌, ℕ, false, IsTrue, List, [], ◌∷◌}
use Rattle.std.specs.List.{Contains}
use Rattle.frang_base.specs.declared.change.Redo.{Redo}
use Rattle.disk_definitions.specs.Logs.{log_end, log_records}
use Rattle.disk_definitions.specs.Replay.{slots_of}
use Rattle.sector_bytes.specs.Sectors.{Sectors}
use Rattle.ring_definitions.specs.RingRuns.{Placed}
use Rattle.core_definitions.specs.LineGuards.{is_server}
use Rattle.core_definitions.specs.Servers.{Server, is_off}
use Rattle.sector_world.specs.Histories.{Commit, Entry, Item, settled}
use Rattle.sector_world.specs.Histories.Entry.{Did, Mounted, Recovered, Synced}
use Rattle.sector_world.specs.Histories.Item.{Done, Doubt}
use Rattle.sector_world.specs.World.{World}
use Rattle.core_world.specs.Journals.{IsOwn, Journal}

-- each record is of an operation up to this number
abbrev pub AreUpTo : ℕ → List Redo → Type 0
AreUpTo k records = (r : Redo) → Contains records r → r.op.0 ≤ k

-- the operations of records rise, one record behind the other
abbrev pub OperationsRise : List Placed → Type 0
OperationsRise [] = Unit {0}
OperationsRise (p ∷ ps) = ((q : Placed) → Contains ps q → p.redo.op.0 < q.redo.op.0) × OperationsRise ps

-- ---- operations with records

-- an operation with changes has its record among these
abbrev pub HasItsRecord : List Placed → Commit → Type 0
HasItsRecord placed c = c.changes ≢ [] → (p : Placed) × Contains placed p × (p.redo.op.0 ≡ c.op)

-- so it is of each operation of the server since its last mount, and its log wasn't recovered since
abbrev pub EachSinceMount : (Commit → Type 0) → ℕ → List Entry → Type 0
EachSinceMount P a [] = Unit {0}
EachSinceMount P a (Did c ∷ h) = (c.by ≡ a → P c) × EachSinceMount P a h
EachSinceMount P a (Recovered d k ∷ h) = (d ≢ a) × EachSinceMount P a h
EachSinceMount P a (Synced d n ∷ h) = EachSinceMount P a h
EachSinceMount P a (Mounted d n ∷ h) = d ≢ a → EachSinceMount P a h

-- ---- operations without records

-- an operation of the server ends at this number
abbrev pub EndsAt : (ℕ → ℕ) → ℕ → ℕ → List Item → Type 0
EndsAt ends a n [] = ⊥
EndsAt ends a n (Done c ∷ h) = ((c.by ≡ a) × (ends c.op ≡ n)) ⊎ EndsAt ends a n h
EndsAt ends a n (Doubt m ∷ h) = EndsAt ends a n h

-- one does, or the log ended there, or behind it, as its server mounted
abbrev pub IsEndBefore : ℕ → (ℕ → ℕ) → ℕ → ℕ → List Item → Type 0
IsEndBefore start ends a n h = (n ≤ start) ⊎ EndsAt ends a n h

-- each operation of the server without a record ends where an operation before it does
abbrev pub EndWithOthers : ℕ → (ℕ → ℕ) → ℕ → List Item → Type 0
EndWithOthers start ends a [] = Unit {0}
EndWithOthers start ends a (Done c ∷ h) = (c.by ≡ a → c.changes ≡ [] → IsEndBefore start ends a (ends c.op) h) × EndWithOthers start ends a h
EndWithOthers start ends a (Doubt m ∷ h) = EndWithOthers start ends a h

-- ---- of a server

-- What the journal of a server that isn't off says of the operations that the world's history has of it: the records that the log had at its mount are of durable ones; those since are of
-- operations of the server, in their order, and each with a record has it there; each without one, and the last, ends where another does
pub record AccountsFor (j : Journal) (w : World) (a : ℕ) : Type 0 where
  pub before : AreUpTo (w.durable a) (log_records j.before)
  pub rise : OperationsRise j.log.placed
  pub own : (p : Placed) → Contains j.log.placed p → IsOwn a p.redo.op.0 (settled w.history)
  pub recorded : EachSinceMount (HasItsRecord j.log.placed) a w.history
  pub silent : EndWithOthers (log_end j.before) j.ends a (settled w.history)
  pub newest : IsEndBefore (log_end j.before) j.ends a (j.ends (w.last a)) (settled w.history)

-- of a server that is off what stands in its log is of durable operations
pub record IsAccountedFor (server : Server) (disk : Sectors) (w : World) (a : ℕ) (j : Journal) : Type 0 where
  pub rest : IsTrue (is_off server.phase) → AreUpTo (w.durable a) (log_records (slots_of disk a))
  pub journal : is_off server.phase ≡ false → AccountsFor j w a

-- of each server
abbrev pub AllAreAccountedFor : (ℕ → Server) → Sectors → World → (ℕ → Journal) → Type 0
AllAreAccountedFor servers disk w journal = (a : ℕ) → IsTrue (is_server a) → IsAccountedFor (servers a) disk w a (journal a)
