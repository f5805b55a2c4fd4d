-- The history of servers is one along which cells are known, so a disk with what was done stands for its tree.
use Rattle.std.proofs.Common.{ℕ, ◌≡◌, List, refl, sym, ◌∙◌, ap, subst}
use Rattle.tree_definitions.specs.History.{after_all}
use Rattle.tree_definitions.specs.Removal.{tree_from}
use Rattle.tree_definitions.specs.Tree.{FileTree}
use Rattle.sector_bytes.specs.Blocks.{Block}
use Rattle.sector_world.specs.Claims.{Holds}
use Rattle.sector_world.specs.HistoryBytes.{Agree}
use Rattle.sector_world.specs.Histories.{Each, Entry, settled, synced_of}
use Rattle.sector_world.specs.Plans.{IsByPlan, Legal}
use Rattle.sector_world.specs.Seen.{Kept}
use Rattle.sector_world.specs.Trees.{Distinct}
use Rattle.sector_world.specs.World.{World}
use Rattle.sector_world.proofs.Holding.{holds_good}
use Rattle.disk_definitions.specs.Standing.{StandsFor}
use Rattle.line_histories.specs.LinePlans.{sector_plan}
use Rattle.line_histories.specs.Trees.{MayNumber}
use Rattle.byte_trees.specs.Deeds.{Deed, items}
use Rattle.stop_laws.specs.Coverage.{RecoveriesRise}
use Rattle.stop_laws.specs.Happened.{Happening, on_sectors, on_tree, settle}
use Rattle.stop_laws.specs.Known.{KnowsCells}
use Rattle.stop_laws.specs.Settling.{SettlesAlike}
use Rattle.stop_laws.specs.Sight.{AllSaw, AllShowed}
use Rattle.stop_laws.specs.Synced.{AllSaid, SyncsRise}
use Rattle.stop_laws.proofs.Deeds.{all_known}
use Rattle.stop_laws.proofs.Histories.{histories_settle_alike, lines_settle}
use Rattle.stop_laws.proofs.Keeping.{AreKept}
use Rattle.stop_laws.proofs.Kept.{kept_along}
use Rattle.stop_laws.proofs.Syncing.{histories_keep_syncs}
use Rattle.stop_laws.proofs.Told.{IsRun, all_shown, all_told, twice}
use Rattle.rest_laws.specs.Done.{AreLinesOf, HasWhatWasDone, WhatWasDoneStands}
use Rattle.rest_laws.specs.Histories.{IsAfter}
use Rattle.rest_laws.proofs.Leaving.{histories_leave_their_tree}

-- it doesn't matter of which server doubt is followed
some_server : ℕ
some_server = 0

module _ (segments : ℕ) (when : ℕ → ℕ) (first_tree : FileTree) (numbers : List ℕ) (w : World) (h : List Happening) (are : AreLinesOf segments when first_tree numbers w h) where
  abbrev deeds : List Deed
  deeds = settle first_tree h

  held : Holds w
  held = holds_good w are.good

  alike : SettlesAlike first_tree h
  alike = histories_settle_alike segments when w.opening first_tree numbers h are.times are.stands are.paired

  -- what is left on the side of sectors has settled there
  items_are : settled w.history ≡ items deeds
  items_are = sym (alike.sectors ∙ ap settled are.told)

  along : (P : List Entry → Type 0) → P w.history → P (on_sectors h)
  along P p = subst P (sym are.told) p

  abbrev number : ℕ
  number = synced_of some_server (on_sectors h)

  runs : IsRun segments when are.times w.opening first_tree numbers are.stands w.home w.logged w.first are.follows are.known some_server number deeds
  runs = record {
    legal = subst (Legal (sector_plan segments when) w.opening) items_are are.legal.live;
    distinct = subst (Distinct (MayNumber numbers) first_tree) items_are are.distinct;
    by_plan = subst (Each IsByPlan) items_are held.by_plan;
    agrees = subst (Agree w.first) items_are held.agree;
    lines = lines_settle segments when w.opening first_tree numbers h are.times are.stands are.paired;
  }

  kept : AreKept segments when w.opening w.home first_tree deeds
  kept =
      kept_along segments when are.times w.opening first_tree numbers are.stands w.home w.logged w.first are.follows are.known h are.paired (along Kept held.was_kept)
      (along (AllSaw w.home) are.sight.saw) (along (AllShowed w.first) are.sight.showed) (along RecoveriesRise are.sight.rise) (along SyncsRise are.sight.syncs) are.said are.synced runs.legal
      runs.distinct

  said_left : AllSaid (λ server. synced_of server (on_sectors h)) deeds
  said_left = histories_keep_syncs segments when w.opening first_tree numbers h are.times are.stands are.paired (along SyncsRise are.sight.syncs) are.synced

  known_now : KnowsCells segments w.opening w.logged w.first first_tree deeds
  known_now =
      all_known segments when w.opening first_tree numbers w.home w.logged w.first some_server number deeds
      (twice segments when are.times w.opening first_tree numbers are.stands w.home w.logged w.first are.follows are.known some_server number deeds runs
      (all_told segments when are.times w.opening first_tree numbers are.stands w.home w.logged w.first are.follows are.known some_server number
      (λ server. synced_of server (on_sectors h)) refl deeds said_left runs kept))
      runs.agrees
      (all_shown segments when are.times w.opening first_tree numbers are.stands w.home w.logged w.first are.follows are.known some_server number deeds runs.legal runs.lines kept) are.known

  pub done_stands : (disk : ℕ → Block) → HasWhatWasDone w disk → StandsFor disk (tree_from first_tree (on_tree h))
  done_stands disk done =
      subst (StandsFor disk) (ap (after_all first_tree) alike.tree)
      (histories_leave_their_tree segments when w.opening first_tree numbers w.home w.logged w.first deeds disk are.times are.stands runs.legal runs.distinct runs.by_plan runs.lines
      are.follows are.parameters known_now (subst (λ items. IsAfter w.opening w.logged w.first items disk) items_are done))

pub what_was_done_stands : WhatWasDoneStands
what_was_done_stands segments when first_tree numbers w h disk are done = done_stands segments when first_tree numbers w h are disk done
