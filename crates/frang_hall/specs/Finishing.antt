-- What a run of a hall came to.
use Rattle.std.specs.Prelude.{◌≡◌, ℕ, Bool, true, false, Option, Some, None, Result, Ok, Err}
use Rattle.frang_base.specs.declared.fault.NoMemory.{NoMemory}
use Rattle.frang_outside.specs.Outside.{State as Outside}
use Rattle.core_definitions.specs.Settings.{Setting}
use Rattle.hall_runs.specs.declared.event.End.{End}
use Rattle.hall_runs.specs.declared.event.End.TheVariants.{Ended, Mute, Fault}
use Rattle.hall_runs.specs.Keeping.{Kept}
use Rattle.frang_hall.specs.declared.room.Finish.{Finish}

-- a finish tells how the hall is over, and how many lines it said; at want of memory it isn't over
abbrev pub Finished : Option End → ℕ → Result Finish NoMemory → Type 0
Finished over said (Err e) = over ≡ None
Finished None said (Ok f) = ⊥
Finished (Some Ended) said (Ok f) = f ≡ record { mute = false; fault = None; said = said }
Finished (Some Mute) said (Ok f) = f ≡ record { mute = true; fault = None; said = said }
Finished (Some (Fault sector)) said (Ok f) = f ≡ record { mute = false; fault = Some sector; said = said }

-- the outside is as a run of the core from the outset leaves it, and the finish tells how that is over
pub record Ran (setting : Setting) (before after : Outside) (result : Result Finish NoMemory) : Type 0 where
  pub over : Option End
  pub said : ℕ
  pub kept : Kept (λ moment. Unit {0}) (record { setting = setting; outside = before }) over said after
  pub finish : Finished over said result
