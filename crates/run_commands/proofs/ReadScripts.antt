-- The script that bytes are is that of the file which they were read from.
use Rattle.std.proofs.Common.{◌≡◌, ◌≤◌, ℕ, Result, Ok, Err, List, length}
use Rattle.frang_base.specs.declared.limits.TheConstants.{SCRIPT_BYTES_MAX}
use Rattle.frang_base.specs.declared.script.Line.{Line}
use Rattle.frang_outside.specs.Files.{State as FilesState, IsFile}
use Rattle.image_commands.proofs.EndLaws.{has_bytes}
use Rattle.run_commands.specs.declared.end.RunEnd.{RunEnd}
use Rattle.run_commands.specs.declared.end.RunEnd.TheVariants as end
use Rattle.run_commands.specs.Steps.{GivesScript, ReadsScript}

pub script_read : (old new : FilesState) (name bytes : List ℕ) (r : Result (List Line) RunEnd) → length bytes ≤ SCRIPT_BYTES_MAX → IsFile old.holds name (λ now. now ≡ bytes) → GivesScript bytes r
    → ReadsScript old new name r
script_read old new name bytes (Ok script) few is gives = record { bytes = bytes; holds = has_bytes old.holds name bytes is; short = few; text = gives }
script_read old new name bytes (Err end.NoMemory) few is gives = tt
script_read old new name bytes (Err (end.BadScript fault)) few is gives = record { bytes = bytes; holds = has_bytes old.holds name bytes is; short = few; text = gives }
script_read old new name bytes (Err end.Done) few is gives = absurd gives
script_read old new name bytes (Err end.ScriptFailed) few is gives = absurd gives
script_read old new name bytes (Err end.ScriptTooLong) few is gives = absurd gives
script_read old new name bytes (Err end.ImageFailed) few is gives = absurd gives
script_read old new name bytes (Err end.ImageTooLong) few is gives = absurd gives
script_read old new name bytes (Err (end.BadImage at kind sector)) few is gives = absurd gives
script_read old new name bytes (Err (end.Mute said)) few is gives = absurd gives
script_read old new name bytes (Err (end.Fault sector)) few is gives = absurd gives
script_read old new name bytes (Err end.WriteFailed) few is gives = absurd gives
