-- Along a history that is told twice no recovery removes what is seen or synced: recovery by recovery, by what the theorem on sectors keeps.
use Rattle.std.proofs.Common.{ℕ, ◌≡◌, ◌&&◌, true, false, List, [], ◌∷◌, refl, sym, ◌∙◌, ap, subst}
use Rattle.tree_definitions.specs.History.{Settled}
use Rattle.tree_definitions.specs.Removal.{keeps_known, kept_from}
use Rattle.tree_definitions.specs.Removal as trees
use Rattle.tree_definitions.specs.Tree.{FileTree}
use Rattle.tree_laws.proofs.HistoryLaws.{kept-push, kept-recovered}
use Rattle.sector_world.specs.Histories.{Each, OpsRise, settled}
use Rattle.sector_world.specs.Plans.{IsByPlan, Legal}
use Rattle.sector_world.specs.Seen.{Kept, Unmet}
use Rattle.sector_world.specs.Trees.{Distinct}
use Rattle.sector_world.specs.World.{World}
use Rattle.line_histories.specs.LinePlans.{sector_plan}
use Rattle.line_histories.specs.Following.{Follows}
use Rattle.line_histories.specs.Standing.{StandsNumbered}
use Rattle.line_histories.specs.Trees.{AreTimes, MayNumber}
use Rattle.line_histories.proofs.Runs.{numbered}
use Rattle.byte_trees.specs.Deeds.{Deed, items}
use Rattle.stop_laws.specs.AskedStop.{IsAsked}
use Rattle.stop_laws.specs.Happened.{Happening, Acts, Speaks, Mounts, Covers, Recovers, on_sectors, on_tree, settle}
use Rattle.stop_laws.specs.Paired.{AreLines, ArePaired}
use Rattle.stop_laws.specs.Settling.{SettlesAlike, stopped}
use Rattle.stop_laws.specs.Sight.{AllSaw, AllShowed, Begins}
use Rattle.stop_laws.specs.Sure.{AllSure, AreRecoveredOnce}
use Rattle.stop_laws.specs.Coverage.{RecoveriesRise}
use Rattle.stop_laws.specs.Synced.{AllSaidAtOnce, SyncsRise}
use Rattle.stop_laws.proofs.Along.{all_planned}
use Rattle.stop_laws.proofs.Asking.{stops_are_asked}
use Rattle.stop_laws.proofs.Histories.{histories_settle_alike, lines_settle}
use Rattle.stop_laws.proofs.Kept.{stopped_by}
use Rattle.stop_laws.proofs.Sure.{histories_make_sure}
use Rattle.kept_laws.specs.Keeping.{HistoriesKeepWhatIsKnown, MomentsKeepWhatIsKnown, StopsKeepWhatIsKnown}
use Rattle.kept_laws.specs.Moments.{IsMoment}
use Rattle.kept_laws.proofs.Hiding.{unmet_hidden}
use Rattle.kept_laws.proofs.Keeping.{hidden_kept}

module _ (segments : ℕ) (when : ℕ → ℕ) (first : FileTree) (numbers : List ℕ) (w : World) (times : AreTimes when) (stands : StandsNumbered segments w.opening (numbered first numbers))
    (follows : Follows segments w.opening w.home w.logged w.first []) where
  begin : Begins segments when w.opening first numbers w.home w.logged w.first
  begin = record { times = times; stands = stands; follows = follows }

  -- ---- at a recovery

  module _ (server greatest durable : ℕ) (older : List Happening) (paired : ArePaired segments when w.opening first numbers (Recovers server greatest durable ∷ older))
      (kept : Kept (on_sectors (Recovers server greatest durable ∷ older))) (saw : AllSaw w.home (on_sectors older))
      (mounted : AreRecoveredOnce (on_sectors (Recovers server greatest durable ∷ older))) (once : AllSaidAtOnce older) where
    abbrev deeds : List Deed
    deeds = settle first older

    alike : SettlesAlike first older
    alike = histories_settle_alike segments when w.opening first numbers older times stands paired.1

    same : items deeds ≡ settled (on_sectors older)
    same = alike.sectors

    legal : Legal (sector_plan segments when) w.opening (items deeds)
    legal = subst (Legal (sector_plan segments when) w.opening) (sym same) paired.0.legal

    distinct : Distinct (MayNumber numbers) first (items deeds)
    distinct = subst (Distinct (MayNumber numbers) first) (sym same) paired.0.distinct

    lines : AreLines when deeds
    lines = lines_settle segments when w.opening first numbers older times stands paired.1

    sure : AllSure server durable deeds
    sure = histories_make_sure segments when w.opening first numbers older times stands paired.1 once server durable mounted.0 kept.2

    keeps_now : keeps_known server greatest false first (trees.settled first (on_tree older)) ≡ true
    keeps_now =
        subst (λ (list : List Settled). keeps_known server greatest false first list ≡ true) alike.tree
        (hidden_kept segments when w.opening first numbers times stands server greatest durable deeds legal distinct (subst OpsRise (sym same) paired.0.rises) lines paired.0.kept_by sure
        (unmet_hidden segments when w.opening first numbers w.home w.logged w.first begin server durable deeds legal distinct
        (subst (Each IsByPlan) (sym same) (all_planned w.home (on_sectors older) saw)) lines (subst (Unmet server durable) (sym same) kept.1) sure))

  -- ---- along the history

  along : (h : List Happening) → ArePaired segments when w.opening first numbers h → Kept (on_sectors h) → AllSaw w.home (on_sectors h) → AreRecoveredOnce (on_sectors h) → AllSaidAtOnce h →
      kept_from first [] (on_tree h) ≡ true
  along [] paired kept saw mounted once = refl
  along (Acts c e ∷ older) paired kept saw mounted once = kept-push first [] (on_tree older) e ∙ along older paired.1 kept saw.2 mounted once
  along (Speaks e ∷ older) paired kept saw mounted once = kept-push first [] (on_tree older) e ∙ along older paired.2 kept saw mounted once.1
  along (Mounts number e ∷ older) paired kept saw mounted once = kept-push first [] (on_tree older) e ∙ along older paired.2 kept saw mounted once
  along (Covers server number ∷ older) paired kept saw mounted once = along older paired kept saw mounted once
  along (Recovers server greatest durable ∷ older) paired kept saw mounted once =
      kept-recovered first [] (on_tree older) (record { 0 = server }) (record { 0 = greatest })
      ∙ ap (λ b. b && keeps_known server greatest false first (trees.settled first (on_tree older))) (along older paired.1 kept.3 saw mounted.1 once)
      ∙ keeps_now server greatest durable older paired kept saw mounted once

pub histories_keep : HistoriesKeepWhatIsKnown
histories_keep segments when opening numbers w h times stands follows asked once =
    along segments when opening.tree numbers w times stands follows h asked.paired asked.kept asked.saw asked.mounted once

-- ---- at a moment

-- what is asked of its history
pub moment_asked : (segments : ℕ) (when : ℕ → ℕ) (first : FileTree) (numbers : List ℕ) (w : World) (h : List Happening) → IsMoment segments when first numbers w h →
    IsAsked segments when first numbers w h
moment_asked segments when first numbers w h m = record {
  paired = m.paired;
  kept = subst Kept (sym m.told) m.good.logged.was_kept;
  saw = subst (AllSaw w.home) (sym m.told) m.sight.saw;
  showed = subst (AllShowed w.first) (sym m.told) m.sight.showed;
  rise = subst RecoveriesRise (sym m.told) m.sight.rise;
  syncs = subst SyncsRise (sym m.told) m.sight.syncs;
  mounted = subst AreRecoveredOnce (sym m.told) m.sight.mounted;
}

pub moments_keep : MomentsKeepWhatIsKnown
moments_keep segments when opening numbers w h m =
    histories_keep segments when opening numbers w h m.times m.stands m.follows (moment_asked segments when opening.tree numbers w h m) m.synced

-- ---- at a stop

-- recoveries of all logs say nothing
pub synced_left : (w : World) (greatest : ℕ → ℕ) (h : List Happening) → AllSaidAtOnce h → AllSaidAtOnce (stopped w greatest w.servers h)
synced_left w greatest h once = stopped_by AllSaidAtOnce (λ server number durable older its. its) w greatest h once w.servers

pub stops_keep : StopsKeepWhatIsKnown
stops_keep segments when opening numbers w greatest h m logs =
    histories_keep segments when opening numbers w (stopped w greatest w.servers h) m.times m.stands m.follows
    (stops_are_asked segments when opening.tree numbers w greatest h m.times m.stands m.legal m.distinct m.good m.told m.paired logs m.sight) (synced_left w greatest h m.synced)
