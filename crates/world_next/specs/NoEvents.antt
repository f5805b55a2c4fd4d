-- That no event may happen: party by party and kind by kind, so that together no event is left but a tick.
use Rattle.std.specs.Prelude.{◌<◌, ℕ, Bool, true, false}
use Rattle.frang_base.specs.declared.limits.TheConstants.{SERVERS}
use Rattle.frang_base.specs.declared.lock.LockId.{LockId}
use Rattle.frang_base.specs.declared.lock.Mode.{Mode}
use Rattle.core_definitions.specs.Cores.{Core}
use Rattle.core_definitions.specs.EndGuards.{CanClose, CanEnd, CanFinish, CanHost, CanLoad, CanLook, CanRead, CanRecover, CanShow}
use Rattle.core_definitions.specs.Events.{Event, Arrive, Lose}
use Rattle.core_definitions.specs.Guards.{CanOther}
use Rattle.core_definitions.specs.LineGuards.{CanAgain, CanAnswer, CanAsk, CanBegin, CanClear, CanCommit, CanFetch}
use Rattle.core_definitions.specs.Scripts.{host_party}
use Rattle.core_definitions.specs.WriteGuards.{CanArrive, CanDie, CanDoom, CanGive, CanIssue, CanLose, CanRenew, CanResume}

-- ---- of one party

-- of a server's line
pub record NoneOfLine (c : Core) (a : ℕ) : Type 0 where
  pub begin : CanBegin c a → ⊥
  pub ask : (lock : LockId) (mode : Mode) → CanAsk c a lock mode → ⊥
  pub fetch : (sector : ℕ) → CanFetch c a sector → ⊥
  pub again : CanAgain c a → ⊥
  pub clear : (block : ℕ) → CanClear c a block → ⊥
  pub commit : CanCommit c a → ⊥
  pub answer : CanAnswer c a → ⊥

-- of its end
pub record NoneOfDeath (c : Core) (a : ℕ) : Type 0 where
  pub doom : CanDoom c a → ⊥
  pub die : CanDie c a → ⊥

-- of what a server or the host wants written
abbrev pub NoneOfWrites : Core → ℕ → Type 0
NoneOfWrites c a = (sector : ℕ) → CanIssue c a sector → ⊥

-- of a server's locks
abbrev pub NoneOfLocks : Core → ℕ → Type 0
NoneOfLocks c a = (lock : LockId) → CanGive c a lock → ⊥

-- of its lease
pub record NoneOfLease (c : Core) (a : ℕ) : Type 0 where
  pub renew : CanRenew c a → ⊥
  pub resume : CanResume c a → ⊥

-- of the recovery that a server or the host carries out, but its writes
pub record NoneOfRecovery (c : Core) (by : ℕ) : Type 0 where
  pub load : (slot : ℕ) → CanLoad c by slot → ⊥
  pub look : (sector : ℕ) → CanLook c by sector → ⊥
  pub finish : CanFinish c by → ⊥

-- of a server
pub record NoneOfServer (c : Core) (a : ℕ) : Type 0 where
  pub line : NoneOfLine c a
  pub death : NoneOfDeath c a
  pub writes : NoneOfWrites c a
  pub locks : NoneOfLocks c a
  pub lease : NoneOfLease c a
  pub recovery : NoneOfRecovery c a

-- of the host, but what it closes and reads
pub record NoneOfHost (c : Core) : Type 0 where
  pub recovery : NoneOfRecovery c host_party
  pub writes : NoneOfWrites c host_party
  pub line : (number : ℕ) → CanHost c number → ⊥

-- ---- of no one party

-- of the writes in flight
pub record NoneOfFlights (c : Core) : Type 0 where
  pub arrive : (ticket : ℕ) → CanArrive c ticket → ⊥
  pub lose : (ticket : ℕ) → CanLose c ticket → ⊥

-- no recovery begins
abbrev pub NoneBegins : Core → Type 0
NoneBegins c = (dead by : ℕ) → CanRecover c dead by → ⊥

-- no server is closed
abbrev pub NoneCloses : Core → Type 0
NoneCloses c = (a : ℕ) → CanClose c a → ⊥

-- of the tree at the end
pub record NoneOfTree (c : Core) : Type 0 where
  pub read : (sector : ℕ) → CanRead c sector → ⊥
  pub show : (place : ℕ) → CanShow c place → ⊥
  pub end : CanEnd c → ⊥

-- ---- of all

abbrev pub NoneOfServers : Core → Type 0
NoneOfServers c = (a : ℕ) → a < SERVERS → NoneOfServer c a

-- but a tick and what becomes of writes in flight
pub record NoneBeside (c : Core) : Type 0 where
  pub servers : NoneOfServers c
  pub begins : NoneBegins c
  pub host : NoneOfHost c
  pub closes : NoneCloses c
  pub tree : NoneOfTree c

-- but a tick
pub record NoneOther (c : Core) : Type 0 where
  pub flights : NoneOfFlights c
  pub beside : NoneBeside c

-- ---- kinds of events

-- it says what becomes of a write in flight
abbrev pub is_of_flight : Event → Bool
is_of_flight (Arrive ticket) = true
is_of_flight (Lose ticket) = true
is_of_flight event = false

-- an event that may happen, but a tick and what becomes of writes in flight
abbrev pub CanBeside : Core → Event → Type 0
CanBeside c (Arrive ticket) = ⊥
CanBeside c (Lose ticket) = ⊥
CanBeside c event = CanOther c event
