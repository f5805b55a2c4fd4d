-- The outside that fails at listed calls, and else is as the one in memory.
use Rattle.std.specs.Prelude.{◌≡◌, ℕ, ◌+◌, ◌<◌, ◌≤◌, ◌==◌, Bool, true, false, List, [], ◌∷◌, ◌++◌, Some, Result, Ok, Err, slice_index, slice_set}
use Rattle.std.specs.List.{list_any}
use Rattle.frang_outside.specs.declared.act.Act.{Act}
use Rattle.frang_outside.specs.declared.act.Act.TheVariants.{Put as Acted, Said}
use Rattle.frang_outside.specs.declared.act.Put.{Put}
use Rattle.frang_outside.specs.declared.act.Taken.{Taken}
use Rattle.frang_outside.specs.declared.act.Taken.TheVariants.{Written, Late}
use Rattle.frang_outside.specs.declared.outside.Failed.{Failed}
use Rattle.frang_outside.specs.declared.outside.PutFault.{PutFault}
use Rattle.frang_outside.specs.declared.outside.PutFault.TheVariants.{Failed as PutFailed, NoMemory as PutNoMemory}
use Rattle.frang_outside.specs.declared.outside.SayFault.{SayFault}
use Rattle.frang_outside.specs.declared.outside.SayFault.TheVariants.{Failed as SayFailed, NoMemory as SayNoMemory}
use Rattle.frang_outside.specs.Disk.{disk_after}
use Rattle.frang_outside.specs.MemOutside.{memory_accounts}
use Rattle.frang_outside.specs.Outside.{State, Accounts, one_more}

-- calls of one kind: the ordinals that fail, counted from 1, and how many calls were made
pub record Calls : Type 0 where
  pub listed : List ℕ
  pub made : ℕ

-- the record, the calls of each kind, the failed gets and puts of each party, and the failed says
pub record Faulty : Type 0 where
  pub acts : List Act
  pub gets : Calls
  pub puts : Calls
  pub says : Calls
  pub faults : List ℕ
  pub say_faults : ℕ

-- whether the next call's ordinal is listed
abbrev pub is_next_listed : Calls → Bool
is_next_listed calls = list_any (λ ordinal. ordinal == calls.made + 1) calls.listed

-- after one call more
abbrev pub with_call : Calls → Calls
with_call calls = record calls { made = one_more calls.made }

-- after one fault more of a party
abbrev pub with_fault : List ℕ → ℕ → List ℕ
with_fault faults party = slice_set faults party (one_more (slice_index faults party))

-- what an outside that fails at listed calls means
abbrev pub faulty_state : Faulty → State
faulty_state f = record { sectors = disk_after f.acts; acts = Some f.acts; faults = λ party. slice_index f.faults party; say_faults = f.say_faults; mark = [] }

-- its record accounts for its sectors
pub faulty_accounts : (f : Faulty) → Accounts (faulty_state f)
faulty_accounts f = memory_accounts f.acts

-- a get fails exactly where its ordinal is listed
abbrev pub FaultyGet : Faulty → Faulty → ℕ → ℕ → Result (List ℕ) Failed → Type 0
FaultyGet old new server sector (Ok bytes) = (is_next_listed old.gets ≡ false) × (bytes ≡ disk_after old.acts sector) × (new ≡ record old { gets = with_call old.gets })
FaultyGet old new server sector (Err fault) = (is_next_listed old.gets ≡ true) × (new ≡ record old { gets = with_call old.gets; faults = with_fault old.faults server })

-- a put that isn't late fails exactly where its ordinal is listed; want of memory makes no call
abbrev pub FaultyPut : Faulty → Faulty → Put → Result Taken PutFault → Type 0
FaultyPut old new put (Ok Written) = (is_next_listed old.puts ≡ false) × (put.now ≤ put.stamp) × (new ≡ record old { puts = with_call old.puts; acts = old.acts ++ Acted put Written ∷ [] })
FaultyPut old new put (Ok Late) = (put.stamp < put.now) × (new ≡ record old { puts = with_call old.puts; acts = old.acts ++ Acted put Late ∷ [] })
FaultyPut old new put (Err PutFailed) = (is_next_listed old.puts ≡ true) × (put.now ≤ put.stamp) × (new ≡ record old { puts = with_call old.puts; faults = with_fault old.faults put.server.0 })
FaultyPut old new put (Err PutNoMemory) = new ≡ old

-- a say fails exactly where its ordinal is listed; want of memory makes no call
abbrev pub FaultySay : Faulty → Faulty → List ℕ → Result (Unit {0}) SayFault → Type 0
FaultySay old new line (Ok done) = (is_next_listed old.says ≡ false) × (new ≡ record old { says = with_call old.says; acts = old.acts ++ Said line ∷ [] })
FaultySay old new line (Err SayFailed) = (is_next_listed old.says ≡ true) × (new ≡ record old { says = with_call old.says; say_faults = one_more old.say_faults })
FaultySay old new line (Err SayNoMemory) = new ≡ old
