-- At a first moment over zero logs no server is mounted, each log is at rest, and there is room.
use Rattle.std.proofs.Common.{◌≡◌, ℕ, suc, ◌+◌, ◌-◌, ◌*◌, ◌^◌, ◌<◌, ◌≤◌, Bool, true, false, if◌then◌else◌, nat_lt, List, [], ◌∷◌, Ok, filter, length, inl, inr, refl, sym, ap, subst, arith, le_refl}
use Rattle.std.proofs.lemmas.Bool.{and_from, false≢true, lt-ltb, ltb-true}
use Rattle.frang_base.specs.declared.limits.TheConstants.{LOGS, LOG_SECTORS, LOG_WINDOW, SCRIPT_LINES_MAX}
use Rattle.frang_base.specs.declared.lock.LockId.TheVariants.{Node}
use Rattle.frang_base.specs.declared.script.Line.{Line}
use Rattle.script_definitions.specs.ScriptGrammar.{AreLines, IsScriptText}
use Rattle.script_definitions.specs.ScriptText.{script_of}
use Rattle.sector_bytes.specs.Blocks.{zero_block}
use Rattle.disk_definitions.proofs.RegionLaws.{region_found}
use Rattle.disk_definitions.proofs.SameLogs.{IsZeroLog, zero_log_end}
use Rattle.disk_definitions.specs.Logs.{Slots, log_end}
use Rattle.disk_definitions.specs.Regions.{is_in_range, sector_of}
use Rattle.disk_definitions.specs.Replay.{is_log, slots_of}
use Rattle.disk_definitions.specs.declared.region.Region.TheVariants as region
use Rattle.core_definitions.specs.Opening.{IsStart, Start}
use Rattle.core_definitions.specs.Runs.{first_state}
use Rattle.core_definitions.specs.Scripts.{Marks}
use Rattle.core_definitions.specs.Settings.{setting_of}
use Rattle.core_laws.specs.Openings.{LogsReadAsZero}
use Rattle.core_journals.proofs.Quiet.{rest_same}
use Rattle.core_journals.specs.Journals as logs
use Rattle.core_journals.specs.Logs.{LogsBegin}
use Rattle.core_lives.specs.Room.{is_open_line, lines_left}
use Rattle.core_world.specs.Events.{FirstMomentsAreWorlds, first_world}
use Rattle.core_world.specs.Journals.{AreZero, journal_at}
use Rattle.core_world.specs.Steps.{IsWorldOf}
use Rattle.core_readings.specs.Logs.{log_journal}
use Rattle.core_log_steps.specs.Steps.{FirstMomentsHaveLogRoom, LogsStandAtFirst, LogsStandBehindOpenings}

-- ---- room: a script that was read has at most so many lines

few_lines : (number : ℕ) (halted : Bool) (texts : List (List ℕ)) (script : List Line) → number ≤ SCRIPT_LINES_MAX + 1 → AreLines number halted texts script → length script + number ≤ SCRIPT_LINES_MAX + 1
few_lines number halted [] script low are = subst (λ (l : List Line). length l + number ≤ SCRIPT_LINES_MAX + 1) (sym are) (none number low)
  where
    none : (n : ℕ) → n ≤ SCRIPT_LINES_MAX + 1 → 0 + n ≤ SCRIPT_LINES_MAX + 1
    none n l = omega arith
few_lines number halted (text ∷ texts) script low (within, inl skipped) = less (length script) number (few_lines (number + 1) halted texts script (next number within) skipped.1)
  where
    next : (n : ℕ) → n ≤ SCRIPT_LINES_MAX → n + 1 ≤ SCRIPT_LINES_MAX + 1
    next n l = omega arith

    less : (l n : ℕ) → l + (n + 1) ≤ SCRIPT_LINES_MAX + 1 → l + n ≤ SCRIPT_LINES_MAX + 1
    less l n h = omega arith
few_lines number halted (text ∷ texts) script low (within, inr line) =
    subst (λ (l : List Line). length l + number ≤ SCRIPT_LINES_MAX + 1) (sym line.2) (more (length line.1) number (few_lines (number + 1) _ texts line.1 (next number within) line.5))
  where
    next : (n : ℕ) → n ≤ SCRIPT_LINES_MAX → n + 1 ≤ SCRIPT_LINES_MAX + 1
    next n l = omega arith

    more : (l n : ℕ) → l + (n + 1) ≤ SCRIPT_LINES_MAX + 1 → suc l + n ≤ SCRIPT_LINES_MAX + 1
    more l n h = omega arith

left_within : (script : List Line) (marks : Marks) (a : ℕ) → lines_left script marks a ≤ length script
left_within [] marks a = le_refl 0
left_within (line ∷ lines) marks a = go (is_open_line a marks line) (left_within lines marks a)
  where
    go : (b : Bool) → lines_left lines marks a ≤ length lines →
        length (if b then line ∷ filter (is_open_line a marks) lines else filter (is_open_line a marks) lines) ≤ length (line ∷ lines)
    go true l = omega arith
    go false l = omega arith

pub first_room : ((bytes : List ℕ) (script : List Line) → script_of bytes ≡ Ok script → IsScriptText bytes script) → FirstMomentsHaveLogRoom
first_room grammar bytes script segments number disk a read zero =
    low (log_end (slots_of disk a)) (length script) (lines_left script (λ n. false) a) (zero_log_end (slots_of disk a) zero) (left_within script (λ n. false) a)
    (few_lines 1 false _ script one (grammar bytes script read).1)
  where
    one : 1 ≤ SCRIPT_LINES_MAX + 1
    one = omega arith

    low : (end all left : ℕ) → end ≡ 255 → left ≤ all → all + 1 ≤ SCRIPT_LINES_MAX + 1 → end + LOG_WINDOW * left ≤ 2 ^ 61
    low end all left e l h = omega arith

-- ---- the logs

-- a zero log is at rest, as those of the first moment over a disk of zeros are
zero_rests : FirstMomentsAreWorlds → (slots : Slots) → IsZeroLog slots → logs.IsAtRest slots
zero_rests worlds slots zero = rest_same (λ slot. zero_block) slots (λ slot low. sym (zero slot low)) (record { low = less (log_end (λ slot. zero_block)) (is.journals 0 refl).low; sealed = (is.journals 0 refl).sealed })
  where
    is : IsWorldOf (first_state (setting_of [] 1 1) (λ sector. zero_block)) (first_world (λ sector. zero_block) (λ sector. false) (λ sector. false) (λ sector. Node 0)) (λ a. journal_at slots)
    is = worlds (setting_of [] 1 1) (λ sector. zero_block) (λ sector. false) (λ sector. false) (λ sector. Node 0) (λ a. journal_at slots) (λ a slot server low. refl)

    less : (n : ℕ) → LOG_SECTORS ≤ n + 1 → LOG_SECTORS - 1 ≤ n
    less n h = omega (arith, h)

pub first_stands : FirstMomentsAreWorlds → LogsBegin → FirstMomentsHaveLogRoom → LogsStandAtFirst
first_stands worlds begin room bytes script segments number disk journal read zero = record {
  logs = record {
    stand = λ a server. begin script segments number disk a (log_journal (journal a)) (zero_rests worlds (slots_of disk a) (λ slot low. zero a slot server low));
    small = λ a server on. absurd (false≢true (sym on));
  };
  room = λ a server. room bytes script segments number disk a read (λ slot low. zero a slot server low);
}

-- ---- openings

opened_zero : LogsReadAsZero → (start : Start) → IsStart start → AreZero start.disk
opened_zero reads start is a slot server low = reads start is (sector_of (region.Log a slot)) (ap is_log (region_found 64 (region.Log a slot) (omega arith) range))
  where
    more : (n : ℕ) → n < 16 → n < LOGS
    more n h = omega (arith, h)

    range : is_in_range 64 (region.Log a slot) ≡ true
    range = and_from (nat_lt a LOGS) (nat_lt slot LOG_SECTORS) (lt-ltb a LOGS (more a (ltb-true a 16 server))) (lt-ltb slot LOG_SECTORS low)

pub opened_stands : LogsReadAsZero → LogsStandAtFirst → LogsStandBehindOpenings
opened_stands reads first start is bytes read journal =
    (opened_zero reads start is, first bytes start.script start.opening.tree.segments start.opening.run start.disk journal read (opened_zero reads start is))
