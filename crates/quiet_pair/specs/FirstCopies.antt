-- The first copy of a pair: an outside that keeps the lines said, with what it was at first and which of its puts were late.
use Rattle.std.specs.Prelude.{◌≡◌, ℕ, ◌-◌, ◌<◌, ◌≤◌, Bool, true, false, List, [], length, drop, Option, Some, None}
use Rattle.std.specs.List.{list_all}
use Rattle.frang_base.specs.declared.sector.ServerId.{ServerId}
use Rattle.frang_outside.specs.declared.act.Act.{Act}
use Rattle.frang_outside.specs.declared.act.Act.TheVariants.{Put as Acted, Said}
use Rattle.frang_outside.specs.declared.act.Taken.TheVariants.{Written, Late}
use Rattle.frang_outside.specs.Outside.{State, Follows}
use Rattle.quiet_outside.specs.KeptLines.{puts_of}

-- an outside of nothing
abbrev pub no_outset : State
no_outset = record { sectors = λ s. []; acts = None; faults = λ p. 0; say_faults = 0; mark = [] }

-- whether an act is a put that came late
abbrev pub is_late : Act → Bool
is_late (Acted put Written) = false
is_late (Acted put Late) = true
is_late (Said line) = false

-- of these acts the puts behind those that come before the put of this number are late
abbrev pub AreLateFrom : ℕ → List Act → Type 0
AreLateFrom number acts = list_all is_late (drop (number - 1) (puts_of acts)) ≡ true

-- the acts have as many puts as come before the put of this number
abbrev pub HasPutsBefore : ℕ → List Act → Type 0
HasPutsBefore number acts = number - 1 ≤ length (puts_of acts)

-- of told acts: the puts that were answered are counted; while none was made to fail, those from the one on that is to fail are late; and where one was, it came behind as many as were to come before
-- it
pub record IsCounted (acts : List Act) (puts fail_at : ℕ) (failed : Option ServerId) : Type 0 where
  pub counted : length (puts_of acts) ≡ puts
  pub waits : failed ≡ None → AreLateFrom fail_at acts
  pub came : (server : ServerId) → failed ≡ Some server → HasPutsBefore fail_at acts

abbrev pub IsCountedIn : Option (List Act) → ℕ → ℕ → Option ServerId → Type 0
IsCountedIn None puts fail_at failed = Unit {0}
IsCountedIn (Some acts) puts fail_at failed = IsCounted acts puts fail_at failed

-- what the type of a first copy keeps: no count of the outside on which it stands fell since the outset, one put is to fail, and of its acts, where they are told, the above
pub record IsFirstCopy (outset below : State) (told : Option (List Act)) (puts fail_at : ℕ) (failed : Option ServerId) : Type 0 where
  pub follows : Follows outset below
  pub some : 0 < fail_at
  pub puts_are : IsCountedIn told puts fail_at failed
