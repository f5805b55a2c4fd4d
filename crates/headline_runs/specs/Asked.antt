-- Each script that was read may be asked: with the numbers of its lines, and their times.
use Rattle.std.specs.Prelude.{◌<◌, ◌+◌, ℕ, List, length}
use Rattle.frang_base.specs.declared.limits.TheConstants.{RUN_VERSIONS_MAX}
use Rattle.line_histories.specs.Trees.{AreTimes}
use Rattle.core_line_steps.specs.Numbers.{IsAskedWell}
use Rattle.headline_definitions.specs.Beginning.{Beginning}
use Rattle.headline_definitions.specs.Laws.{Begins, setting_by}

-- times that may stand in inodes, and numbers, so few that the versions of a run are enough, with which the script may be asked
pub record MayBeAsked (b : Beginning) : Type 0 where
  pub when : ℕ → ℕ
  pub numbers : List ℕ
  pub times : AreTimes when
  pub few : 1 + length numbers < RUN_VERSIONS_MAX
  pub asked : IsAskedWell (setting_by b) when b.opening.tree numbers

-- of each beginning there are such ones
abbrev pub ReadScriptsMayBeAsked : Type 0
ReadScriptsMayBeAsked = (b : Beginning) → Begins b → MayBeAsked b
