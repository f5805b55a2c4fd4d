-- What stands of each server's log on the disk, over every run over the logs of a disk.
use Rattle.std.specs.Prelude.{◌≡◌, ◌≤◌, ◌<◌, ◌+◌, ◌%◌, ◌⊎◌, ◌^◌, ℕ, false, IsTrue, Some, List, drop, length}
use Rattle.frang_base.specs.declared.change.Redo.{Redo}
use Rattle.frang_base.specs.declared.limits.TheConstants.{LOG_IN_FLIGHT_MAX, LOG_SECTORS}
use Rattle.frang_base.specs.declared.script.Line.{Line}
use Rattle.disk_definitions.specs.Logs.{Slots, is_sealed, log_end, log_records}
use Rattle.disk_definitions.specs.Replay.{slots_of}
use Rattle.sector_bytes.specs.Blocks.{Block}
use Rattle.sector_bytes.specs.Sectors.{Sectors}
use Rattle.lock_definitions.specs.Lease.{HasEnded}
use Rattle.ring_definitions.specs.RingRuns.{EndsWithin, ReadsBack}
use Rattle.ring_definitions.specs.Rings.{is_record, last}
use Rattle.ring_definitions.specs.Sealing.{IsSealedFrom}
use Rattle.core_definitions.specs.Cores.{stage}
use Rattle.core_definitions.specs.LineGuards.{is_server}
use Rattle.core_definitions.specs.Lines.{Finishing}
use Rattle.core_definitions.specs.Logs.{is_read, seal_block}
use Rattle.core_definitions.specs.Opening.{IsStart, Start, moment_of}
use Rattle.core_definitions.specs.Plans.{Outcome}
use Rattle.core_definitions.specs.Recoveries.{Recovery, redos}
use Rattle.core_definitions.specs.Runs.{State, Step, Run, first_state}
use Rattle.core_definitions.specs.Servers.{is_dead, is_in_mount, is_off}
use Rattle.core_definitions.specs.Settings.{setting_of}
use Rattle.core_transcripts.specs.Answers.{HaveOwnNumbers}
use Rattle.core_journals.specs.Reports.{Began}
use Rattle.core_journals.specs.Journals.{GoesOn, IsAtRest, IsLog, Journal}

-- what is asked of a moment: the numbers of the log are small still; and, which isn't of the core alone, the record of a line that is planned to its end may stand in a log
abbrev pub HasFitRecords : State → ℕ → Type 0
HasFitRecords s a = (outcome : Outcome) (redo : Redo) → stage s.core a ≡ Some (Finishing outcome) → outcome.redo ≡ Some redo → IsTrue (is_record redo)

pub record IsFit (s : State) (a : ℕ) : Type 0 where
  pub ring : is_off (s.core.servers a).phase ≡ false → last (s.core.servers a).ring < 2 ^ 62
  pub end : IsTrue (is_off (s.core.servers a).phase) → log_end (slots_of s.disk a) < 2 ^ 62
  pub records : HasFitRecords s a

-- at first the log of each server is at rest, whatever stands beside it
abbrev pub LogsBegin : Type 0
LogsBegin = (script : List Line) (segments run : ℕ) (disk : Sectors) (a : ℕ) (j : Journal) → IsAtRest (slots_of disk a) →
    IsLog (first_state (setting_of script segments run) disk) a j

-- at each step of a run it goes on
pub record Onward (s v : State) (a : ℕ) (j : Journal) : Type 0 where
  pub next : Journal
  pub log : IsLog v a next
  pub goes : GoesOn s a j next
  pub still : IsTrue (is_dead (s.core.servers a).phase) → HasEnded s.core.now (s.core.servers a).expiry → next ≡ j  -- what is sealed then stays what it was

abbrev pub LogsGoOn : Type 0
LogsGoOn =
    (script : List Line) (segments run : ℕ) (disk : Sectors) (s v : State) → Run (first_state (setting_of script segments run) disk) s → Step s v → (a : ℕ) →
    IsTrue (is_server a) → (j : Journal) →
    IsFit s a → IsLog s a j → Onward s v a j

-- so over every run each log stands as that of its server's life, where all moments on the way are fit
abbrev pub LogsStand : Type 0
LogsStand =
    (script : List Line) (segments run : ℕ) (disk : Sectors) (a : ℕ) → IsTrue (is_server a) → IsAtRest (slots_of disk a) → (s : State) →
    Run (first_state (setting_of script segments run) disk) s →
    ((v : State) → Run (first_state (setting_of script segments run) disk) v → Run v s → IsFit v a) → (j : Journal) × IsLog s a j

-- behind an opening each log is at rest, and the first moment is fit
abbrev pub LogsRestBehindTheOpening : Type 0
LogsRestBehindTheOpening = (start : Start) → IsStart start → (a : ℕ) → IsTrue (is_server a) → IsAtRest (slots_of start.disk a)

abbrev pub TheFirstMomentIsFit : Type 0
TheFirstMomentIsFit = (start : Start) → IsStart start → (a : ℕ) → IsTrue (is_server a) → IsFit (moment_of start) a

-- ---- what it reads as

-- the same end and the same records
pub record HasAll (base slots : Slots) : Type 0 where
  pub end : log_end slots ≡ log_end base
  pub records : log_records slots ≡ log_records base

-- the log of a server that isn't off reads, on the disk, as its journal does: those records of it that its ring tells of; but once it is sealed, which comes behind the replay, the
-- records of the oldest numbers may be gone
pub record IsReadAs (s : State) (a : ℕ) (j : Journal) : Type 0 where
  pub back : ReadsBack j.before j.log
  pub ends : EndsWithin j.log
  pub live : IsTrue (is_in_mount (s.core.servers a).phase) → HasAll j.log.slots (slots_of s.disk a)
  pub left : IsTrue (is_dead (s.core.servers a).phase) → HasAll j.log.slots (slots_of s.disk a) ⊎ IsSealedFrom j.log.slots (slots_of s.disk a)

abbrev pub LogsReadAsTheirJournals : Type 0
LogsReadAsTheirJournals = (s : State) (a : ℕ) (j : Journal) → last (s.core.servers a).ring < 2 ^ 62 → IsLog s a j → is_off (s.core.servers a).phase ≡ false → IsReadAs s a j

-- slot by slot: the block is the journal's, or that of an empty sector of one of the 64 numbers behind the journal's end, which belongs there
pub record IsSealSlot (end slot : ℕ) (block : Block) : Type 0 where
  pub number : ℕ
  pub above : end < number
  pub within : number ≤ end + LOG_IN_FLIGHT_MAX
  pub at : number % LOG_SECTORS ≡ slot
  pub is : block ≡ seal_block number

abbrev pub SlotsAreTheJournalsOrSealed : Type 0
SlotsAreTheJournalsOrSealed =
    (s : State) (a : ℕ) (j : Journal) → IsLog s a j → is_off (s.core.servers a).phase ≡ false → (slot : ℕ) → slot < LOG_SECTORS →
    (slots_of s.disk a slot ≡ j.log.slots slot) ⊎ (IsTrue (is_dead (s.core.servers a).phase) × IsSealSlot (log_end j.log.slots) slot (slots_of s.disk a slot))

-- ---- how far its numbers rise

-- of a script whose lines have their own numbers and aren't too many, over a disk whose log hasn't too great an end, the numbers stay small: so all that is asked of the moments on the way is of
-- the records
abbrev pub NumbersStaySmall : Type 0
NumbersStaySmall =
    (script : List Line) (segments run : ℕ) (disk : Sectors) (a : ℕ) → IsTrue (is_server a) → HaveOwnNumbers script → length script < 2 ^ 53 → IsAtRest (slots_of disk a) →
    log_end (slots_of disk a) < 2 ^ 61 → (s : State) → Run (first_state (setting_of script segments run) disk) s →
    ((v : State) → Run (first_state (setting_of script segments run) disk) v → Run v s → HasFitRecords v a) → IsFit s a × ((j : Journal) × IsLog s a j)

-- behind an opening nothing else is asked
abbrev pub LogsStandBehindTheOpening : Type 0
LogsStandBehindTheOpening =
    (start : Start) → IsStart start → HaveOwnNumbers start.script → length start.script < 2 ^ 53 → (a : ℕ) → IsTrue (is_server a) → (s : State) → Run (moment_of start) s →
    ((v : State) → Run (moment_of start) v → Run v s → HasFitRecords v a) → IsFit s a × ((j : Journal) × IsLog s a j)

-- ---- what a recovery replays

-- all records of the log as its server and what was in flight left it; or, where the log was sealed when the recovery began, all but some of the first
pub record IsReplayed (began s : State) (by dead : ℕ) (j : Journal) : Type 0 where
  pub log : IsLog s dead j
  pub records :
      (recovery : Recovery) → (s.core.servers by).recovery ≡ Some recovery → IsTrue (is_read s.core.setting.logs recovery.slots) →
      (redos s.core.setting.logs recovery ≡ log_records j.log.slots) ⊎
      (IsTrue (is_sealed (slots_of began.disk dead)) × ((missing : ℕ) × (redos s.core.setting.logs recovery ≡ drop missing (log_records j.log.slots))))

-- while it is recovered the journal stays what it was when the recovery began
abbrev pub RecoveriesReplayTheJournal : Type 0
RecoveriesReplayTheJournal =
    (script : List Line) (segments run : ℕ) (disk : Sectors) (s : State) (by dead : ℕ) → (began : Began (first_state (setting_of script segments run) disk) s by dead) → (j : Journal) →
    last (began.since.core.servers dead).ring < 2 ^ 62 → IsLog began.since dead j → IsReplayed began.since s by dead j
