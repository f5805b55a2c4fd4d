-- A file is created over a fresh disk, its server crashes, and the recovery of its log keeps the create: what happened, told twice.
use Rattle.std.specs.Prelude.{◌≡◌, ℕ, true, false, List, [], ◌∷◌}
use Rattle.frang_base.specs.declared.lock.LockId.TheVariants.{Node}
use Rattle.frang_base.specs.declared.op.Op.TheVariants as op
use Rattle.frang_base.specs.declared.reply.Reply.TheVariants as reply
use Rattle.frang_base.specs.declared.said.Said.{Said}
use Rattle.frang_base.specs.declared.said.Said.TheVariants as said
use Rattle.tree_definitions.specs.Live.{number_of, time_in}
use Rattle.tree_definitions.specs.Tree.{fresh}
use Rattle.disk_definitions.specs.FreshDisk.{fresh_disk}
use Rattle.sector_world.specs.Histories.{Commit}
use Rattle.sector_world.specs.Histories.Entry.{Did, Mounted, Recovered}
use Rattle.sector_world.specs.Plans.{Outcome}
use Rattle.sector_world.specs.World.{World, start}
use Rattle.core_definitions.specs.Effects.{id_of}
use Rattle.core_definitions.specs.Settings.{Setting, setting_of}
use Rattle.stop_laws.specs.Happened.{Happening, Acts, Mounts, Recovers, Speaks}
use Rattle.stop_laws.specs.TwoServers.{did_by, file_beside}
use Rattle.core_histories.specs.Examples.{answered, line}
use Rattle.core_histories.specs.Tellings.{Tells, entry_of}

-- `0 mount`, `0 create /f`, `0 crash`
abbrev pub crash_setting : Setting
crash_setting = setting_of (line 1 op.Mount ∷ line 2 (op.Create file_beside) ∷ line 3 op.Crash ∷ []) 1 1

-- no tick passes, and the create has the run's only number
abbrev pub crash_time : ℕ → ℕ
crash_time n = time_in 1 0

abbrev pub create_number : ℕ
create_number = number_of 1 2

-- what the create did, by the outcome of its plan
abbrev pub creates : Outcome → Commit
creates o = did_by 0 2 (op.Create file_beside) o

abbrev pub crash_said : List Said
crash_said =
    answered 1 reply.Mounted ∷ answered 2 reply.Ok ∷ said.Dead (id_of 0) ∷ answered 3 reply.Ok ∷ said.Recovering (id_of 0) (id_of 255) ∷ said.Recovered (id_of 0) (record { 0 = create_number }) ∷ []

-- a world over the fresh disk with this history
abbrev pub crash_world : Outcome → World
crash_world o = record (start 16 (fresh_disk 1) (λ sector. true) (λ sector. false) (λ sector. Node 0)) { history = Recovered 0 create_number ∷ Did (creates o) ∷ Mounted 0 0 ∷ [] }

-- of the crash there is nothing to tell on the side of sectors
abbrev pub crash_happened : Outcome → List Happening
crash_happened o =
    Recovers 0 create_number create_number ∷ Speaks (entry_of crash_setting 0 3 op.Crash reply.Ok) ∷ Acts (creates o) (entry_of crash_setting 0 2 (op.Create file_beside) reply.Ok)
    ∷ Mounts 0 (entry_of crash_setting 0 1 op.Mount reply.Mounted) ∷ []

-- with the outcome of the line's plan it meets the record
pub record IsToldWith (o : Outcome) : Type 0 where
  pub told : Tells crash_setting crash_time (fresh 1) (create_number ∷ []) crash_said (crash_world o)
  pub happened : told.happened ≡ crash_happened o

abbrev pub ARecoveryIsTold : Type 0
ARecoveryIsTold = (o : Outcome) × IsToldWith o
