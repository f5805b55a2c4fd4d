-- What may happen at each turn, computed: a mount, the end, a lock in use, recoveries, two deaths, lines of the host.
use Rattle.std.specs.Prelude.{◌≡◌, ◌+◌, ℕ, List, [], ◌∷◌, codes, drop, map, refl}
use Rattle.frang_base.specs.declared.change.Redo.{Redo}
use Rattle.frang_base.specs.declared.lock.LockId.TheVariants.{Node}
use Rattle.frang_base.specs.declared.lock.Mode.TheVariants.{Sole}
use Rattle.frang_base.specs.declared.op.HostOp.TheVariants as host
use Rattle.frang_base.specs.declared.op.Op.TheVariants as op
use Rattle.frang_base.specs.declared.script.Line.{Line}
use Rattle.frang_outside.specs.Disk.{written}
use Rattle.disk_definitions.specs.Resolving.{resolve}
use Rattle.lock_definitions.specs.Locks.{no_clerks, no_logs}
use Rattle.lock_definitions.specs.Servers.{any_server}
use Rattle.disk_definitions.specs.Frames.{frame_bytes, frame_read}
use Rattle.disk_definitions.specs.Least.{least, least_from}
use Rattle.ring_definitions.specs.Rings.{packed_sector}
use Rattle.sector_bytes.specs.Bytes.{zeros}
use Rattle.sector_bytes.specs.Changes.{changed}
use Rattle.sector_bytes.specs.Sectors.{Sectors}
use Rattle.disk_definitions.specs.LogSectors.{log_sector_bytes}
use Rattle.core_definitions.specs.Logs.{seal_block}
use Rattle.core_definitions.specs.Events.{Event, Begin, Ask, Fetch, Commit, Answer, Give, Issue, Arrive, Recover, Load, Look, Finish, HostLine, Close, Read, Show, End}
use Rattle.core_definitions.specs.Runs.{State}
use Rattle.core_examples.specs.Driving.{filed_disk, filed_opening, host_line, line, opening, opening_on}
use Rattle.core_examples.specs.Choices.{at_tick, choices, dead, having, idle, later, two_up, up}

-- the slots of a log of eight, from one on
abbrev pub slots_from : ℕ → List ℕ
slots_from slot = drop slot (0 ∷ 1 ∷ 2 ∷ 3 ∷ 4 ∷ 5 ∷ 6 ∷ 7 ∷ [])

abbrev pub gets_from : ℕ → List Event
gets_from slot = map (λ s. Fetch 0 (2147483648 + s)) (slots_from slot)

abbrev pub loads_from : ℕ → ℕ → List Event
loads_from by slot = map (λ s. Load by s) (slots_from slot)

-- ---- a mount is answered once every slot of the log is read

abbrev pub mount_turns : List (List Event)
mount_turns =
    (Begin 0 ∷ []) ∷ gets_from 0 ∷ gets_from 1 ∷ gets_from 2 ∷ gets_from 3 ∷ gets_from 4 ∷ gets_from 5 ∷ gets_from 6 ∷ gets_from 7 ∷ (Answer 0 ∷ []) ∷ []

-- each slot that isn't read may be, and the answer comes behind the last
pub a_mount_reads_its_log : choices 10 (opening (line 1 0 op.Mount ∷ [])) ≡ mount_turns
unfolding no_clerks no_logs any_server zeros
a_mount_reads_its_log = refl

-- ---- the end is said once the tree is

abbrev pub tree_turns : List (List Event)
tree_turns = (Read 10737418240 ∷ []) ∷ (Show 0 ∷ []) ∷ (End ∷ []) ∷ [] ∷ []

-- the sectors are read, the lines are said, and then the end; nothing comes behind it
pub the_tree_is_said_before_the_end : choices 4 idle ≡ tree_turns
unfolding no_clerks no_logs any_server zeros
the_tree_is_said_before_the_end = refl

-- ---- no line of the tree is said before the whole tree is read

-- the root's inode is read, and then each sector of its block may be
abbrev pub read_turns : List (List Event)
read_turns =
    (Read 10737418240 ∷ []) ∷
    (Read 12884901888 ∷ Read 12884901889 ∷ Read 12884901890 ∷ Read 12884901891 ∷ Read 12884901892 ∷ Read 12884901893 ∷ Read 12884901894 ∷ Read 12884901895 ∷ []) ∷ []

-- the root's line could be said behind its inode; it waits
pub the_tree_is_read_before_it_is_said : choices 2 (filed_opening []) ≡ read_turns
unfolding no_clerks no_logs any_server zeros
the_tree_is_read_before_it_is_said = refl

-- ---- a line of the host waits for those before it

abbrev pub host_lines : List Line
host_lines = line 1 0 (op.Stat []) ∷ host_line 2 host.Barrier ∷ []

abbrev pub host_turns : List (List Event)
host_turns = (Begin 0 ∷ []) ∷ (Answer 0 ∷ []) ∷ (HostLine 2 ∷ []) ∷ (Read 10737418240 ∷ []) ∷ []

-- a barrier behind a line of a server that isn't mounted
pub a_host_line_waits : choices 4 (opening host_lines) ≡ host_turns
unfolding no_clerks no_logs any_server zeros
a_host_line_waits = refl

-- ---- a lock is given only once no line has it in use: the first server's line has the root's lock, which the second's waits for

abbrev pub in_use_lines : List Line
in_use_lines = line 1 0 (op.Stat (codes "f" ∷ [])) ∷ line 2 1 (op.Rename (codes "f" ∷ []) (codes "g" ∷ [])) ∷ []

abbrev pub in_use_turns : List (List Event)
in_use_turns = (Commit 0 ∷ []) ∷ (Give 0 (Node 0) ∷ []) ∷ (Ask 1 (Node 0) Sole ∷ []) ∷ []

-- the lock isn't given before the commit
pub a_lock_in_use_is_kept : choices 3 (later 20 (two_up in_use_lines)) ≡ in_use_turns
unfolding no_clerks no_logs any_server zeros resolve least least_from changed frame_read
a_lock_in_use_is_kept = refl

-- ---- a recovery writes what the log says, then its seal, and then it ends

-- what a line of run 2 wrote into the log of server 0: the file's inode has version 2
abbrev pub one_redo : Redo
one_redo = record {
  op = record { 0 = 8589934595 };
  changes = record { sector = record { 0 = 10737418241 }; version = 2; patches = record { at = 511; bytes = 1 ∷ [] } ∷ [] } ∷ [];
}

-- its log ends with that record, of number 256
abbrev pub logged_disk : Sectors
logged_disk = written filed_disk 2147483648 (log_sector_bytes (packed_sector 256 0 (frame_bytes one_redo)))

-- and number 258 stands behind a gap
abbrev pub gapped_disk : Sectors
gapped_disk = written logged_disk 2147483650 (seal_block 258)

-- the server is dead, its lease has ended, and the host has taken and read its log
abbrev pub recovering_over : Sectors → State
recovering_over disk = later 9 (at_tick 31 (having (opening_on disk 2 []) 0 dead))

abbrev pub replay_turns : List (List Event)
replay_turns = (Look 255 10737418241 ∷ []) ∷ (Issue 255 10737418241 ∷ []) ∷ (Arrive 0 ∷ []) ∷ (Finish 255 ∷ []) ∷ (Read 10737418240 ∷ []) ∷ []

-- where the log is sealed
pub a_recovery_ends_once_all_is_written : choices 5 (recovering_over logged_disk) ≡ replay_turns
unfolding no_clerks no_logs any_server zeros changed frame_read
a_recovery_ends_once_all_is_written = refl

abbrev pub seal_turns : List (List Event)
seal_turns =
    (Look 255 10737418241 ∷ []) ∷ (Issue 255 10737418241 ∷ []) ∷ (Arrive 0 ∷ []) ∷ (Issue 255 2147483650 ∷ []) ∷ (Arrive 1 ∷ []) ∷ (Issue 255 2147483649 ∷ []) ∷
    (Arrive 2 ∷ []) ∷ (Finish 255 ∷ []) ∷ (Read 10737418240 ∷ []) ∷ []

-- where it isn't: first the number behind the gap, and last the gap
pub a_recovery_ends_with_its_seal : choices 9 (recovering_over gapped_disk) ≡ seal_turns
unfolding no_clerks no_logs any_server zeros changed frame_read
a_recovery_ends_with_its_seal = refl

-- ---- two servers are dead and a third is up: the lower one is recovered first, and the third is closed last

abbrev pub two_dead : State
two_dead = at_tick 31 (having (having (having idle 0 dead) 1 dead) 2 (record up { expiry = 61 }))

abbrev pub recovery_turns : ℕ → List (List Event) → List (List Event)
recovery_turns dead rest =
    (Recover dead 2 ∷ []) ∷ loads_from 2 0 ∷ loads_from 2 1 ∷ loads_from 2 2 ∷ loads_from 2 3 ∷ loads_from 2 4 ∷ loads_from 2 5 ∷ loads_from 2 6 ∷ loads_from 2 7 ∷
    (Finish 2 ∷ []) ∷ rest

-- one recovery at a time, by the server that is up
pub two_deaths_are_recovered_in_order : choices 22 two_dead ≡ recovery_turns 0 (recovery_turns 1 ((Close 2 ∷ []) ∷ (Read 10737418240 ∷ []) ∷ []))
unfolding no_clerks no_logs any_server zeros
two_deaths_are_recovered_in_order = refl
