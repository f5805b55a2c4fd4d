-- A history that is told twice is legal: what is left of it is told twice deed by deed, and the numbers that it tells are within their bounds.
use Rattle.std.proofs.Common.{ℕ, ◌≡◌, true, List, [], refl, sym, subst}
use Rattle.tree_definitions.specs.History.{Settled, legal_from}
use Rattle.tree_definitions.specs.Removal as trees
use Rattle.tree_definitions.specs.Tree.{FileTree}
use Rattle.sector_world.specs.Histories.{Each, settled, synced_of}
use Rattle.sector_world.specs.Plans.{IsByPlan, Legal}
use Rattle.sector_world.specs.Trees.{Distinct}
use Rattle.sector_world.specs.World.{World}
use Rattle.disk_definitions.specs.Meets.{directory_blocks_in}
use Rattle.line_histories.specs.LinePlans.{sector_plan}
use Rattle.line_histories.specs.Following.{Follows, store_after}
use Rattle.line_histories.specs.Standing.{StandsNumbered}
use Rattle.line_histories.specs.Trees.{AreTimes, MayNumber}
use Rattle.line_histories.proofs.Runs.{numbered}
use Rattle.byte_trees.specs.Deeds.{Deed, items}
use Rattle.stop_laws.specs.AskedStop.{IsAsked}
use Rattle.stop_laws.specs.Happened.{Happening, on_sectors, on_tree, settle}
use Rattle.stop_laws.specs.Known.{IsToldTwice, KnowsCells}
use Rattle.stop_laws.specs.Paired.{AreLines}
use Rattle.stop_laws.specs.Replies.{SaidWhereItHappened}
use Rattle.stop_laws.specs.Settling.{SettlesAlike, stopped}
use Rattle.stop_laws.specs.Sight.{Begins}
use Rattle.stop_laws.specs.Synced.{AllSaid, AllSaidAtOnce}
use Rattle.stop_laws.proofs.Along.{all_planned}
use Rattle.stop_laws.proofs.Asking.{stops_are_asked}
use Rattle.stop_laws.proofs.Histories.{histories_settle_alike, lines_settle}
use Rattle.stop_laws.proofs.Keeping.{AreKept}
use Rattle.stop_laws.proofs.Kept.{kept_along, stopped_by}
use Rattle.stop_laws.proofs.Legal.{told_histories_are_legal}
use Rattle.stop_laws.proofs.Stopping.{IsStopped, stopped_alike}
use Rattle.stop_laws.proofs.Syncing.{histories_keep_reads, histories_keep_syncs}
use Rattle.stop_laws.proofs.Told.{IsRun, all_told, twice}
use Rattle.kept_laws.specs.Legal.{MomentsAreLegal, StopsAreLegal}
use Rattle.kept_laws.proofs.Along.{moment_asked, synced_left}
use Rattle.kept_laws.proofs.Telling.{numbers_told}

-- it doesn't matter of which server doubt is followed
some_server : ℕ
some_server = 0

module _ (segments : ℕ) (when : ℕ → ℕ) (first : FileTree) (numbers : List ℕ) (w : World) (h : List Happening) (times : AreTimes when)
    (stands : StandsNumbered segments w.opening (numbered first numbers)) (follows : Follows segments w.opening w.home w.logged w.first [])
    (knows : KnowsCells segments w.opening w.logged w.first first []) (asked : IsAsked segments when first numbers w h) (said : SaidWhereItHappened segments when w.opening h)
    (once : AllSaidAtOnce h) (legal : Legal (sector_plan segments when) w.opening (items (settle first h))) (distinct : Distinct (MayNumber numbers) first (items (settle first h))) where
  abbrev deeds : List Deed
  deeds = settle first h

  abbrev number : ℕ
  number = synced_of some_server (on_sectors h)

  alike : SettlesAlike first h
  alike = histories_settle_alike segments when w.opening first numbers h times stands asked.paired

  lines : AreLines when deeds
  lines = lines_settle segments when w.opening first numbers h times stands asked.paired

  by_plan : Each IsByPlan (items deeds)
  by_plan = subst (Each IsByPlan) (sym alike.sectors) (all_planned w.home (on_sectors h) asked.saw)

  runs : IsRun segments when times w.opening first numbers stands w.home w.logged w.first follows knows some_server number deeds
  runs = record {
    legal = legal;
    distinct = distinct;
    by_plan = by_plan;
    agrees = histories_keep_reads segments when w.opening first numbers w.first h times stands asked.paired asked.kept asked.showed;
    lines = lines;
  }

  kept : AreKept segments when w.opening w.home first deeds
  kept =
      kept_along segments when times w.opening first numbers stands w.home w.logged w.first follows knows h asked.paired asked.kept asked.saw asked.showed asked.rise asked.syncs said once legal
      distinct

  said_left : AllSaid (λ server. synced_of server (on_sectors h)) deeds
  said_left = histories_keep_syncs segments when w.opening first numbers h times stands asked.paired asked.syncs once

  told : IsToldTwice segments when w.opening first numbers w.home w.logged w.first some_server number deeds
  told =
      twice segments when times w.opening first numbers stands w.home w.logged w.first follows knows some_server number deeds runs
      (all_told segments when times w.opening first numbers stands w.home w.logged w.first follows knows some_server number (λ server. synced_of server (on_sectors h)) refl deeds said_left runs
      kept)

  begin : Begins segments when w.opening first numbers w.home w.logged w.first
  begin = record { times = times; stands = stands; follows = follows }

  history_legal : (ever : ℕ) → directory_blocks_in (store_after segments w.opening []) segments ≡ ever → legal_from first ever (trees.settled first (on_tree h)) ≡ true
  history_legal ever counted =
      subst (λ (list : List Settled). legal_from first ever list ≡ true) alike.tree
      (told_histories_are_legal segments when w.opening first numbers w.home w.logged w.first some_server number ever deeds told lines
      (numbers_told segments when w.opening first numbers w.home w.logged w.first begin ever counted deeds legal distinct by_plan lines))

pub moments_legal : MomentsAreLegal
moments_legal segments when opening numbers w h m shown =
    let asked = moment_asked segments when opening.tree numbers w h m in
    let alike = histories_settle_alike segments when w.opening opening.tree numbers h m.times m.stands m.paired in
    history_legal segments when opening.tree numbers w h m.times m.stands m.follows shown.knows asked shown.said m.synced
    (subst (Legal (sector_plan segments when) w.opening) (sym (subst (λ entries. items (settle opening.tree h) ≡ settled entries) m.told alike.sectors)) m.legal.live)
    (subst (Distinct (MayNumber numbers) opening.tree) (sym (subst (λ entries. items (settle opening.tree h) ≡ settled entries) m.told alike.sectors)) m.distinct) opening.dir_blocks shown.counted

pub stops_legal : StopsAreLegal
stops_legal segments when opening numbers w greatest h m shown logs =
    let end : IsStopped when opening.tree numbers w greatest h =
    stopped_alike segments when m.times opening.tree numbers w greatest h m.stands m.legal m.distinct m.good m.told m.paired logs in
    history_legal segments when opening.tree numbers w (stopped w greatest w.servers h) m.times m.stands m.follows shown.knows
    (stops_are_asked segments when opening.tree numbers w greatest h m.times m.stands m.legal m.distinct m.good m.told m.paired logs m.sight)
    (stopped_by (SaidWhereItHappened segments when w.opening) (λ server number durable older its. its) w greatest h shown.said w.servers) (synced_left w greatest h m.synced)
    (subst (Legal (sector_plan segments when) w.opening) (sym end.alike.sectors) m.legal.left) (subst (Distinct (MayNumber numbers) opening.tree) (sym end.alike.sectors) end.distinct)
    opening.dir_blocks shown.counted
