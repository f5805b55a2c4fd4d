-- Why a soak ends, and what it leaves: a run of its script over an outside that keeps the lines said, and behind its end one line, the report on them.
use Rattle.std.specs.Prelude.{◌≡◌, ◌⊎◌, ℕ, Result, Ok, Err, List}
use Rattle.frang_base.specs.declared.limits.TheConstants.{SEGMENTS_DEFAULT}
use Rattle.frang_outside.specs.declared.outside.SayFault.{SayFault}
use Rattle.frang_outside.specs.declared.outside.SayFault.TheVariants as say
use Rattle.frang_outside.specs.Outside.{State, Follows, Rose, SayOutcome}
use Rattle.sector_bytes.specs.Sectors.{SameSectors}
use Rattle.core_definitions.specs.Scripts.{host_party}
use Rattle.frang_soak.specs.Scripts.{soak_script}
use Rattle.quiet_outside.specs.KeptLines.{GivesBack, first_over}
use Rattle.quiet_outside.specs.SoakReports.{soak_line_of}
use Rattle.hall_scripts.specs.declared.fault.RunFault.{RunFault}
use Rattle.hall_scripts.specs.declared.fault.RunFault.TheVariants as run
use Rattle.hall_scripts.specs.Runs.{Beginning, Ends as EndsScript, on_fresh}
use Rattle.run_commands.specs.declared.end.RunEnd.{RunEnd}
use Rattle.run_commands.specs.declared.end.RunEnd.TheVariants as end

-- a fresh disk of the segments that a disk has where none are asked for
abbrev pub soak_beginning : Beginning
soak_beginning = on_fresh SEGMENTS_DEFAULT

-- the run of the soak's script ended so, over an outside that keeps the lines said, of which no say fails; below it stands this one, which has all else, and these are the lines
pub record HasSoaked (number : ℕ) (out below : State) (result : Result (Unit {0}) RunFault) (lines : List (List ℕ)) : Type 0 where
  pub quiet : State
  pub calm : quiet.say_faults ≡ 0
  pub ends : EndsScript (soak_script number) soak_beginning (first_over out 0) quiet result
  pub gives : GivesBack quiet below lines

-- the run came to its end, and behind it the report on its lines was said, or refused
pub record HasReported (number : ℕ) (out after : State) (result : Result (Unit {0}) SayFault) : Type 0 where
  pub below : State
  pub lines : List (List ℕ)
  pub soaked : HasSoaked number out below (Ok tt) lines
  pub sectors : SameSectors after.sectors below.sectors
  pub follows : Follows below after
  pub said : SayOutcome below after (soak_line_of number lines) result

-- why it ends so: all is done where the run came to its end and the report was said; memory is wanting before anything, in the run, or for the report; the report isn't said only where that
-- say failed; and a get or put of the host failed at this sector
abbrev pub EndsSoak : ℕ → State → State → RunEnd → Type 0
EndsSoak number out after end.Done = HasReported number out after (Ok tt)
EndsSoak number out after end.NoMemory =
    (after ≡ out) ⊎ (((lines : List (List ℕ)) × HasSoaked number out after (Err run.NoMemory) lines)
    ⊎ (((lines : List (List ℕ)) × HasSoaked number out after (Ok tt) lines) ⊎ HasReported number out after (Err say.NoMemory)))
EndsSoak number out after (end.Mute said) = (said ≡ 0) × HasReported number out after (Err say.Failed) × Rose out.say_faults after.say_faults
EndsSoak number out after (end.Fault sector) = Rose (out.faults host_party) (after.faults host_party) × ((lines : List (List ℕ)) × HasSoaked number out after (Err (run.Fault sector)) lines)
EndsSoak number out after outcome = ⊥

-- ---- steps

-- how the report was said, as the end of the command
abbrev pub said_end : Result (Unit {0}) SayFault → RunEnd
said_end (Ok done) = end.Done
said_end (Err say.Failed) = end.Mute 0
said_end (Err say.NoMemory) = end.NoMemory
