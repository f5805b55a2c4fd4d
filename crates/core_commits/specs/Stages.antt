-- What it says of a line that it is finished, has a block cleared or needs sectors: its set is held, its bitmaps are cached, and this is what its plan comes to over its sight.
use Rattle.std.specs.Prelude.{◌≡◌, ◌⊎◌, ℕ, true, false, IsTrue, List, [], ◌∷◌, Some, None}
use Rattle.std.specs.List.{list_any}
use Rattle.frang_base.specs.declared.lock.LockId.{LockId}
use Rattle.frang_base.specs.declared.op.Op.{Op}
use Rattle.lock_definitions.specs.Locks.{Locks}
use Rattle.tree_definitions.specs.Apply.{is_path_op}
use Rattle.disk_definitions.specs.Ask.{Ask, Met, Sector, number_of}
use Rattle.disk_definitions.specs.Ask.Met.{Needs, Has}
use Rattle.disk_definitions.specs.Plans.{Finish, Lock, Plan}
use Rattle.disk_definitions.specs.Plans.Plan.{Clears, Finishes}
use Rattle.set_definitions.specs.Sets.{has_lock, lacks, to_ask}
use Rattle.core_definitions.specs.Lines.{Clearing, Fetching, Finishing, Under, missing_bitmaps, operation_of}
use Rattle.core_definitions.specs.Plans.{Outcome, Sight, clear_needs, finish_needs, needed_cover, nodes_looked_at, outcome_of, planned, program_of, sight_of}
use Rattle.core_definitions.specs.Servers.{Server, is_up, stage_of}
use Rattle.core_definitions.specs.Settings.{Setting}

-- a server that is up has a line over paths under way whose set is held
pub record HasHeldSet (locks : Locks) (a : ℕ) (server : Server) : Type 0 where
  pub up : IsTrue (is_up server.phase)
  pub under : Under
  pub is : server.under ≡ Some under
  pub operation : Op
  pub asked : operation_of under.line.what ≡ Some operation
  pub path : IsTrue (is_path_op operation)
  pub served : to_ask locks a under.set ≡ None

-- what it is planned over, the program, and the nodes at whose inodes it looked
abbrev pub sight_in : Setting → Server → Under → Sight
sight_in setting server under = sight_of setting.segments under.set server.cache

abbrev pub program_in : Setting → Server → Under → Op → Ask Plan
program_in setting server under operation = program_of setting under.line operation (sight_in setting server under)

abbrev pub nodes_of_line : Setting → Server → Under → Op → List ℕ
nodes_of_line setting server under operation = nodes_looked_at setting.segments (program_in setting server under operation) (sight_in setting server under)

-- with its bitmaps cached its plan comes to this
pub record ComesTo (setting : Setting) (server : Server) (under : Under) (operation : Op) (met : Met Plan) : Type 0 where
  pub bitmaps : missing_bitmaps under.set server.cache ≡ []
  pub met_is : planned (program_in setting server under operation) (sight_in setting server under) ≡ met

-- a finished line: the set has the locks of what it leaves, and the outcome is of its plan
pub record IsFinished (setting : Setting) (locks : Locks) (a : ℕ) (server : Server) (outcome : Outcome) : Type 0 where
  pub line : HasHeldSet locks a server
  pub finish : Finish
  pub comes : ComesTo setting server line.under line.operation (Has (Finishes finish))
  pub has_locks : list_any (lacks line.under.set) (finish_needs (nodes_of_line setting server line.under line.operation) (sight_in setting server line.under) finish) ≡ false
  pub outcome_is : outcome ≡ outcome_of setting line.under.line (nodes_of_line setting server line.under line.operation) (sight_in setting server line.under) finish

-- one that has a block cleared
pub record HasCleared (setting : Setting) (locks : Locks) (a : ℕ) (server : Server) (block : ℕ) : Type 0 where
  pub line : HasHeldSet locks a server
  pub found : List Lock
  pub comes : ComesTo setting server line.under line.operation (Has (Clears block found))
  pub has_locks :
      list_any (lacks line.under.set) (clear_needs line.operation (nodes_of_line setting server line.under line.operation) (sight_in setting server line.under) block) ≡ false

-- the sector that a plan needs, under a cover in the set
pub record IsNeeded (setting : Setting) (server : Server) (under : Under) (operation : Op) (needs : List (ℕ × LockId)) : Type 0 where
  pub sector : Sector
  pub comes : ComesTo setting server under operation (Needs sector)
  pub covered : has_lock under.set (needed_cover setting.segments (nodes_of_line setting server under operation) (sight_in setting server under) sector) ≡ true
  pub only : needs ≡ (number_of sector, needed_cover setting.segments (nodes_of_line setting server under operation) (sight_in setting server under) sector) ∷ []

-- one that needs sectors: bitmaps, or one sector
pub record NeedsSectors (setting : Setting) (locks : Locks) (a : ℕ) (server : Server) (needs : List (ℕ × LockId)) : Type 0 where
  pub line : HasHeldSet locks a server
  pub which : (missing_bitmaps line.under.set server.cache ≡ needs) ⊎ IsNeeded setting server line.under line.operation needs

-- so it is wherever a line has come so far
abbrev pub FinishedLinesHavePlans : Type 0
FinishedLinesHavePlans =
    (setting : Setting) (locks : Locks) (a : ℕ) (server : Server) (outcome : Outcome) → stage_of setting locks a server ≡ Some (Finishing outcome) → IsFinished setting locks a server outcome

abbrev pub ClearingLinesHavePlans : Type 0
ClearingLinesHavePlans =
    (setting : Setting) (locks : Locks) (a : ℕ) (server : Server) (block : ℕ) → stage_of setting locks a server ≡ Some (Clearing block) → HasCleared setting locks a server block

abbrev pub FetchingLinesHavePlans : Type 0
FetchingLinesHavePlans =
    (setting : Setting) (locks : Locks) (a : ℕ) (server : Server) (needs : List (ℕ × LockId)) → stage_of setting locks a server ≡ Some (Fetching needs) → NeedsSectors setting locks a server needs
