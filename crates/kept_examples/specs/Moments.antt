-- A moment that meets all that the laws on what is kept and what is legal ask: at the end of a run of two servers over a fresh disk, in which the first syncs and dies.
use Rattle.std.specs.Prelude.{[]}
use Rattle.tree_definitions.specs.History.{Opening}
use Rattle.tree_definitions.specs.Removal as trees
use Rattle.tree_definitions.specs.Tree.{fresh}
use Rattle.sector_world.specs.World.{World}
use Rattle.disk_definitions.specs.Meets.{directory_blocks_in}
use Rattle.line_histories.specs.Following.{store_after}
use Rattle.stop_laws.specs.Happened.{on_tree}
use Rattle.stop_laws.specs.Settling.{stopped}
use Rattle.stop_laws.specs.TwoServers.{at_zero}
use Rattle.stop_examples.specs.Looks.{happened, none_recorded, numbers}
use Rattle.kept_laws.specs.Moments.{IsMoment, IsShownFrom, LogsKeep}

-- the opening on its first disk
abbrev pub opening_on : World → Opening
opening_on w = record { tree = fresh 1; dir_blocks = directory_blocks_in (store_after 1 w.opening []) 1; run = 1 }

pub record IsMetBy (w : World) : Type 0 where
  pub moment : IsMoment 1 at_zero (fresh 1) numbers w happened
  pub shown : IsShownFrom 1 at_zero (opening_on w) w happened
  pub logs : LogsKeep (fresh 1) w none_recorded happened
  -- so this is kept and legal, as it is and once all stop
  pub keeps : trees.Keeps (opening_on w) (on_tree happened)
  pub legal : trees.IsLegal (opening_on w) (on_tree happened)
  pub keeps_left : trees.Keeps (opening_on w) (on_tree (stopped w none_recorded w.servers happened))
  pub legal_left : trees.IsLegal (opening_on w) (on_tree (stopped w none_recorded w.servers happened))

abbrev pub AMomentMeetsAll : Type 0
AMomentMeetsAll = (w : World) × IsMetBy w
