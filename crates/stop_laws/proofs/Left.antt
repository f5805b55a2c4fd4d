-- What recoveries of all logs would leave is told twice and shown, so cells are known after it, and the replayed disk stands for its tree.
use Rattle.std.proofs.Common.{ℕ, ◌≡◌, ◌≢◌, List, [], sym, subst, refl}
use Rattle.tree_definitions.specs.Tree.{FileTree}
use Rattle.sector_world.specs.HistoryBytes.{Agree}
use Rattle.sector_world.specs.Histories.{Each, settled, synced_of}
use Rattle.sector_world.specs.Plans.{IsByPlan, Legal}
use Rattle.sector_world.specs.Kinds.{Good}
use Rattle.sector_world.specs.Planned.{IsLegal}
use Rattle.sector_world.specs.Trees.{Distinct}
use Rattle.sector_world.specs.World.{World}
use Rattle.sector_world.specs.World.Phase.{Off}
use Rattle.sector_world.proofs.Holding.{holds_good}
use Rattle.line_histories.specs.LinePlans.{sector_plan}
use Rattle.line_histories.specs.Following.{Follows}
use Rattle.line_histories.specs.Standing.{StandsNumbered}
use Rattle.line_histories.specs.Trees.{AreTimes, MayNumber}
use Rattle.line_histories.proofs.Runs.{numbered}
use Rattle.byte_trees.specs.Deeds.{Deed}
use Rattle.stop_laws.specs.Known.{KnowsCells}
use Rattle.stop_laws.specs.Happened.{Happening, on_sectors, settle}
use Rattle.stop_laws.specs.Paired.{ArePaired, IsKeptBy}
use Rattle.stop_laws.specs.Settling.{stopped}
use Rattle.stop_laws.proofs.SettledLeft.{stops_leave_the_tree}
use Rattle.stop_laws.proofs.Stopping.{IsStopped, stopped_alike}
use Rattle.stop_laws.proofs.Deeds.{all_known}
use Rattle.stop_laws.specs.Replies.{SaidWhereItHappened}
use Rattle.stop_laws.specs.Events.{IsInSight}
use Rattle.stop_laws.specs.AskedStop.{IsAsked}
use Rattle.stop_laws.specs.Synced.{AllSaid, AllSaidAtOnce}
use Rattle.stop_laws.proofs.Asking.{stops_are_asked}
use Rattle.stop_laws.proofs.Syncing.{histories_keep_syncs}
use Rattle.stop_laws.proofs.Keeping.{AreKept}
use Rattle.stop_laws.proofs.Kept.{kept_along, stopped_by}
use Rattle.stop_laws.specs.Stop.{TheDiskStandsForTheHistory}
use Rattle.stop_laws.proofs.Told.{IsRun, all_shown, all_told, twice}

-- it doesn't matter of which server doubt is followed
some_server : ℕ
some_server = 0

module _ (segments : ℕ) (when : ℕ → ℕ) (first_tree : FileTree) (numbers : List ℕ) (w : World) (greatest : ℕ → ℕ) (h : List Happening) (times : AreTimes when)
    (begins : StandsNumbered segments w.opening (numbered first_tree numbers)) (legal : IsLegal (sector_plan segments when) w)
    (distinct : Distinct (MayNumber numbers) first_tree (settled w.history)) (good : Good w)
    (follows : Follows segments w.opening w.home w.logged w.first []) (told : on_sectors h ≡ w.history) (paired : ArePaired segments when w.opening first_tree numbers h)
    (logs : (server : ℕ) → w.phase server ≢ Off → IsKeptBy server (greatest server) (w.durable server) (settle first_tree h))
    (sight : IsInSight w) (said : SaidWhereItHappened segments when w.opening h) (synced : AllSaidAtOnce h)
    (knows : KnowsCells segments w.opening w.logged w.first first_tree []) where
  deeds : List Deed
  deeds = settle first_tree (stopped w greatest w.servers h)

  end : IsStopped when first_tree numbers w greatest h
  end = stopped_alike segments when times first_tree numbers w greatest h begins legal distinct good told paired logs

  asked : IsAsked segments when first_tree numbers w (stopped w greatest w.servers h)
  asked = stops_are_asked segments when first_tree numbers w greatest h times begins legal distinct good told paired logs sight

  said_now : SaidWhereItHappened segments when w.opening (stopped w greatest w.servers h)
  said_now = stopped_by (SaidWhereItHappened segments when w.opening) (λ server number durable older its. its) w greatest h said w.servers

  synced_now : AllSaidAtOnce (stopped w greatest w.servers h)
  synced_now = stopped_by AllSaidAtOnce (λ server number durable older its. its) w greatest h synced w.servers

  abbrev number : ℕ
  number = synced_of some_server (on_sectors (stopped w greatest w.servers h))

  runs : IsRun segments when times w.opening first_tree numbers begins w.home w.logged w.first follows knows some_server number deeds
  unfolding deeds
  runs = record {
    legal = subst (Legal (sector_plan segments when) w.opening) (sym end.alike.sectors) legal.left;
    distinct = subst (Distinct (MayNumber numbers) first_tree) (sym end.alike.sectors) end.distinct;
    by_plan = subst (Each IsByPlan) (sym end.alike.sectors) (holds_good w good).left_by_plan;
    agrees = subst (Agree w.first) (sym end.alike.sectors) (holds_good w good).left_agrees;
    lines = end.lines;
  }

  kept : AreKept segments when w.opening w.home first_tree (settle first_tree (stopped w greatest w.servers h))
  unfolding deeds
  kept =
      kept_along segments when times w.opening first_tree numbers begins w.home w.logged w.first follows knows (stopped w greatest w.servers h) asked.paired asked.kept asked.saw asked.showed
      asked.rise asked.syncs said_now synced_now runs.legal runs.distinct

  said_left : AllSaid (λ server. synced_of server (on_sectors (stopped w greatest w.servers h))) (settle first_tree (stopped w greatest w.servers h))
  said_left = histories_keep_syncs segments when w.opening first_tree numbers (stopped w greatest w.servers h) times begins asked.paired asked.syncs synced_now

  pub known : KnowsCells segments w.opening w.logged w.first first_tree (settle first_tree (stopped w greatest w.servers h))
  unfolding deeds
  known =
      all_known segments when w.opening first_tree numbers w.home w.logged w.first some_server number deeds
      (twice segments when times w.opening first_tree numbers begins w.home w.logged w.first follows knows some_server number deeds runs
      (all_told segments when times w.opening first_tree numbers begins w.home w.logged w.first follows knows some_server number
      (λ server. synced_of server (on_sectors (stopped w greatest w.servers h))) refl deeds said_left runs kept))
      runs.agrees
      (all_shown segments when times w.opening first_tree numbers begins w.home w.logged w.first follows knows some_server number deeds runs.legal end.lines kept) knows

pub the_disk_stands : TheDiskStandsForTheHistory
the_disk_stands segments when first_tree numbers w greatest h times begins legal distinct good follows zero_logged told paired logs sight said synced knows =
    stops_leave_the_tree segments when first_tree numbers w greatest h times begins legal distinct good follows zero_logged told paired logs
    (known segments when first_tree numbers w greatest h times begins legal distinct good follows told paired logs sight said synced knows)
