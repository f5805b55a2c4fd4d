-- What is answered for the issue and for the arrival of a write, and what it leaves.
use Rattle.std.specs.Prelude.{◌≡◌, ℕ, ◌+◌, Some, None, Result, Ok, Err, List, [], ◌∷◌, ◌++◌}
use Rattle.frang_outside.specs.declared.act.Put.{Put}
use Rattle.frang_outside.specs.declared.act.Taken.TheVariants.{Written as TakenWritten, Late as TakenLate}
use Rattle.frang_outside.specs.declared.outside.PutFault.TheVariants.{Failed as PutFailed, NoMemory as PutNoMemory}
use Rattle.frang_outside.specs.Outside.{State, PutOutcome}
use Rattle.petal_disk.specs.declared.ticket.Ticket.{Ticket}
use Rattle.petal_disk.specs.declared.ticket.IssueFault.{IssueFault}
use Rattle.petal_disk.specs.declared.ticket.IssueFault.TheVariants.{Busy, NoMemory as IssueNoMemory}
use Rattle.petal_disk.specs.declared.ticket.Arrived.{Arrived}
use Rattle.petal_disk.specs.declared.ticket.Arrived.TheVariants.{Written, Late, Failed, NoMemory}
use Rattle.petal_disk.specs.declared.flying.Purpose.{Purpose}
use Rattle.petal_disk.specs.Flights.{Flights, IsSame, without, busy_with}
use Rattle.petal_disk.specs.Flying.{flying_of}

-- a write of a sector that has none in flight gets the next ticket, and is of this and of the present mount; one of a sector that has is refused by that write's ticket
abbrev pub IssueOutcome : Flights → Flights → Put → Purpose → Result Ticket IssueFault → Type 0
IssueOutcome old new put purpose (Ok ticket) =
    (busy_with old.writes put.sector.0 ≡ None) × (ticket.0 ≡ old.next) × (new.writes ≡ old.writes ++ (ticket, put) ∷ []) × (new.flying ≡ old.flying ++ (ticket, flying_of put purpose) ∷ [])
    × (new.next ≡ old.next + 1)
IssueOutcome old new put purpose (Err (Busy ticket)) = (busy_with old.writes put.sector.0 ≡ Some ticket) × IsSame old new
IssueOutcome old new put purpose (Err IssueNoMemory) = (busy_with old.writes put.sector.0 ≡ None) × IsSame old new

-- the write as it arrives now
abbrev pub arriving : Put → ℕ → Put
arriving put now = record put { now = now }

-- the outside was called once, with the write as it arrives, and its answer is handed on
abbrev pub ArriveOutcome : State → State → Put → Arrived → Type 0
ArriveOutcome old new put Written = PutOutcome old new put (Ok TakenWritten)
ArriveOutcome old new put (Late stamp now) = (stamp ≡ put.stamp) × (now ≡ put.now) × PutOutcome old new put (Ok TakenLate)
ArriveOutcome old new put Failed = PutOutcome old new put (Err PutFailed)
ArriveOutcome old new put NoMemory = PutOutcome old new put (Err PutNoMemory)

-- what is then in flight: after want of memory the write still is
abbrev pub left_by : {V : Type 0} → Arrived → List (Ticket × V) → ℕ → List (Ticket × V)
left_by Written writes t = without writes t
left_by (Late stamp now) writes t = without writes t
left_by Failed writes t = without writes t
left_by NoMemory writes t = writes
