-- A disk with what servers did stands for the tree of their history as it is, without a recovery more.
use Rattle.std.specs.Prelude.{◌≡◌, ℕ, true, List, []}
use Rattle.tree_definitions.specs.Removal.{tree_from}
use Rattle.tree_definitions.specs.Tree.{FileTree}
use Rattle.sector_bytes.specs.Blocks.{Block}
use Rattle.sector_world.specs.Histories.{settled}
use Rattle.sector_world.specs.Kinds.{Good}
use Rattle.sector_world.specs.Planned.{IsLegal}
use Rattle.sector_world.specs.Trees.{Distinct}
use Rattle.sector_world.specs.World.{World}
use Rattle.disk_definitions.specs.Standing.{StandsFor}
use Rattle.line_histories.specs.Following.{Follows}
use Rattle.line_histories.specs.LinePlans.{sector_plan}
use Rattle.line_histories.specs.Standing.{StandsNumbered}
use Rattle.line_histories.specs.Trees.{AreTimes, MayNumber}
use Rattle.stop_laws.specs.Events.{IsInSight}
use Rattle.stop_laws.specs.Happened.{Happening, on_sectors, on_tree}
use Rattle.stop_laws.specs.Known.{KnowsCells}
use Rattle.stop_laws.specs.Paired.{ArePaired}
use Rattle.stop_laws.specs.Replies.{SaidWhereItHappened}
use Rattle.stop_laws.specs.Synced.{AllSaidAtOnce}
use Rattle.rest_laws.specs.Histories.{IsAfter}

-- the disk has what was done: it is one after the settled history
abbrev pub HasWhatWasDone : World → (ℕ → Block) → Type 0
HasWhatWasDone w disk = IsAfter w.opening w.logged w.first (settled w.history) disk

-- servers whose operations are lines, over a first disk whose cells are known, and their history as both sides tell it: what the law on stops asks, but for what it asks of logs
pub record AreLinesOf (segments : ℕ) (when : ℕ → ℕ) (first_tree : FileTree) (numbers : List ℕ) (w : World) (h : List Happening) : Type 0 where
  pub times : AreTimes when
  pub stands : StandsNumbered segments w.opening (record { tree = first_tree; numbers = numbers })
  pub legal : IsLegal (sector_plan segments when) w
  pub distinct : Distinct (MayNumber numbers) first_tree (settled w.history)
  pub good : Good w
  pub follows : Follows segments w.opening w.home w.logged w.first []
  pub parameters : w.logged 0 ≡ true
  pub told : on_sectors h ≡ w.history
  pub paired : ArePaired segments when w.opening first_tree numbers h
  pub sight : IsInSight w
  pub said : SaidWhereItHappened segments when w.opening h
  pub synced : AllSaidAtOnce h
  pub known : KnowsCells segments w.opening w.logged w.first first_tree []

-- then each disk that has what was done stands for the tree of the history, all bytes exact but for cells that past recoveries left in doubt
abbrev pub WhatWasDoneStands : Type 0
WhatWasDoneStands =
    (segments : ℕ) (when : ℕ → ℕ) (first_tree : FileTree) (numbers : List ℕ) (w : World) (h : List Happening) (disk : ℕ → Block) → AreLinesOf segments when first_tree numbers w h →
    HasWhatWasDone w disk → StandsFor disk (tree_from first_tree (on_tree h))
