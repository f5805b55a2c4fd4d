-- What holds where deeds happened holds of those that recoveries leave, and what each recovery puts into doubt covers at once what it marks.
use Rattle.std.proofs.Common.{ℕ, zero, suc, ◌≡◌, Bool, Option, List, [], ◌∷◌, refl, sym, subst}
use Rattle.frang_base.specs.declared.lock.LockId.{LockId}
use Rattle.tree_definitions.specs.Removal.{doubtful}
use Rattle.tree_definitions.specs.Tree.{FileTree}
use Rattle.sector_bytes.specs.Blocks.{Block}
use Rattle.sector_world.specs.Histories.{Each, in_doubt, kept, survives, synced_of}
use Rattle.sector_world.specs.Plans.{IsByPlan, Legal}
use Rattle.sector_world.specs.Seen.{Kept}
use Rattle.sector_world.proofs.HistoryLaws.{each_kept}
use Rattle.sector_world.specs.Trees.{Distinct}
use Rattle.sector_world.specs.World.{World, Phase}
use Rattle.sector_world.specs.World.Phase.{Off, Up, Dead}
use Rattle.line_histories.specs.LinePlans.{sector_plan}
use Rattle.line_histories.specs.Following.{Follows}
use Rattle.line_histories.specs.Standing.{StandsNumbered}
use Rattle.line_histories.specs.Trees.{AreTimes, MayNumber}
use Rattle.line_histories.proofs.Runs.{numbered}
use Rattle.byte_trees.specs.Deeds.{Deed, Does, Says, Doubts, items, steps}
use Rattle.stop_laws.specs.Known.{KnowsCells}
use Rattle.stop_laws.specs.Happened.{Happening, Acts, Speaks, Mounts, Covers, Recovers, on_sectors, settle, what_stays}
use Rattle.stop_laws.specs.Paired.{AreLines, ArePaired}
use Rattle.stop_laws.specs.Settling.{recovers_by, stopped}
use Rattle.stop_laws.proofs.Histories.{lines_settle}
use Rattle.stop_laws.proofs.Staying.{items_stay}
use Rattle.stop_laws.specs.Cells.{CoversMarks}
use Rattle.stop_laws.proofs.Covering.{doubt_covers}
use Rattle.stop_laws.specs.Coverage.{AllCoverAtOnce, AllCovered, RecoveriesRise, recovered_to}
use Rattle.stop_laws.specs.Sight.{AllSaw, AllSee, AllShowed, Begins, MayGo}
use Rattle.stop_laws.specs.Synced.{AllSaid, AllSaidAtOnce, SyncsRise}
use Rattle.stop_laws.proofs.Along.{covered_along, goes_here, sees_along, stays_covered}
use Rattle.stop_laws.proofs.Covered.{distinct_stays, legal_stays}
use Rattle.stop_laws.proofs.Syncing.{histories_keep_reads, histories_keep_syncs}
use Rattle.stop_laws.specs.Replies.{AreSaid, SaidWhereItHappened}
use Rattle.stop_laws.proofs.Replying.{replies_stay}
use Rattle.stop_laws.proofs.Uses.{lines_use}
use Rattle.stop_laws.proofs.Keeping.{AreKept}
use Rattle.stop_laws.proofs.Told.{IsRun, all_told, twice}

-- what recoveries leave so stays so at a stop
pub stopped_by : (P : List Happening → Type 0) → ((server greatest durable : ℕ) (h : List Happening) → P h → P (Recovers server greatest durable ∷ h)) →
    (w : World) (greatest : ℕ → ℕ) (h : List Happening) → P h → (n : ℕ) → P (stopped w greatest n h)
stopped_by P step w greatest h base zero = base
stopped_by P step w greatest h base (suc n) = go (w.phase n) (stopped_by P step w greatest h base n)
  where
    go : (p : Phase) → P (stopped w greatest n h) → P (recovers_by p n (greatest n) (w.durable n) (stopped w greatest n h))
    go Off before = before
    go Up before = step n (greatest n) (w.durable n) (stopped w greatest n h) before
    go Dead before = step n (greatest n) (w.durable n) (stopped w greatest n h) before

module _ (segments : ℕ) (when : ℕ → ℕ) (times : AreTimes when) (opening : ℕ → Block) (first_tree : FileTree) (numbers : List ℕ)
    (begins : StandsNumbered segments opening (numbered first_tree numbers)) (home : ℕ → LockId) (logged : ℕ → Bool) (first : ℕ → Option Block)
    (follows : Follows segments opening home logged first []) (knows : KnowsCells segments opening logged first first_tree []) where
  begin : Begins segments when opening first_tree numbers home logged first
  begin = record { times = times; stands = begins; follows = follows }

  -- deed by deed
  kept_by : (most : ℕ → ℕ) (deeds : List Deed) → Legal (sector_plan segments when) opening (items deeds) → Distinct (MayNumber numbers) first_tree (items deeds) → AreLines when deeds →
      AllSee home (items deeds) → AreSaid segments when opening deeds → AllCovered segments opening first_tree most deeds → AreKept segments when opening home first_tree deeds
  kept_by most [] l d lines a s covers = tt
  kept_by most (Does c e ∷ older) l d lines a s covers =
      (record { uses = lines_use segments when opening first_tree numbers c e older times begins l d lines; sees = a.0 }, s.0, kept_by most older l.1 d.2 lines.1 a.1 s.1 covers)
  kept_by most (Says e ∷ older) l d lines a s covers = kept_by most older l d lines.1 a s covers
  kept_by most (Doubts marked runs ∷ older) l d lines a s covers = (covers.0.covers, kept_by most older l d lines a s covers.1)

  -- ---- at a recovery

  module _ (server greatest durable : ℕ) (older : List Happening) (paired : ArePaired segments when opening first_tree numbers (Recovers server greatest durable ∷ older))
      (k : Kept (on_sectors (Recovers server greatest durable ∷ older))) (saw : AllSaw home (on_sectors older)) (showed : AllShowed first (on_sectors older))
      (rise : RecoveriesRise (on_sectors (Recovers server greatest durable ∷ older))) (syncs : SyncsRise (on_sectors older)) (said : SaidWhereItHappened segments when opening older)
      (synced : AllSaidAtOnce older) (once : AllCoverAtOnce segments opening first_tree older) where
    abbrev all : List Happening
    all = Recovers server greatest durable ∷ older

    abbrev deeds : List Deed
    deeds = settle first_tree older

    abbrev left : List Deed
    left = what_stays server durable (settle first_tree older)

    abbrev number : ℕ
    number = synced_of server (on_sectors older)

    before : AllCovered segments opening first_tree (recovered_to (on_sectors older)) deeds
    before = covered_along segments when opening first_tree numbers home logged first begin older paired.1 k.3 saw rise.1 once

    goes : MayGo segments when opening first_tree numbers server durable (items deeds)
    goes = goes_here segments when opening first_tree numbers home logged first begin server greatest durable older paired k saw rise before

    left_is : items left ≡ kept (survives server durable) (items deeds)
    left_is = items_stay server durable deeds

    runs : IsRun segments when times opening first_tree numbers begins home logged first follows knows server number left
    runs = record {
      legal = subst (Legal (sector_plan segments when) opening) (sym left_is) (legal_stays segments when opening first_tree numbers home logged first begin server durable (items deeds) goes);
      distinct = subst (Distinct (MayNumber numbers) first_tree) (sym left_is)
          (distinct_stays segments when opening first_tree numbers home logged first begin server durable (items deeds) goes);
      by_plan = subst (Each IsByPlan) (sym left_is) (each_kept IsByPlan (survives server durable) (items deeds) goes.by_plan);
      agrees = histories_keep_reads segments when opening first_tree numbers first all times begins paired k showed;
      lines = lines_settle segments when opening first_tree numbers all times begins paired;
    }

    kept_left : AreKept segments when opening home first_tree left
    kept_left =
        kept_by (recovered_to (on_sectors older)) left runs.legal runs.distinct runs.lines (sees_along segments when opening first_tree numbers home logged first begin all paired k saw)
        (replies_stay segments when opening first_tree numbers all paired k said)
        (stays_covered segments when opening first_tree numbers home logged first begin server greatest durable older paired k saw rise before)

    said_left : AllSaid (λ other. synced_of other (on_sectors older)) left
    said_left = histories_keep_syncs segments when opening first_tree numbers all times begins paired syncs synced

    covers : CoversMarks segments opening first_tree (in_doubt server number (items left)) (doubtful server first_tree (steps left)) left
    covers =
        doubt_covers segments when opening first_tree numbers home logged first server number left
        (twice segments when times opening first_tree numbers begins home logged first follows knows server number left runs
        (all_told segments when times opening first_tree numbers begins home logged first follows knows server number (λ other. synced_of other (on_sectors older)) refl left said_left runs
        kept_left))

  -- ---- along a history

  covers_at_once : (h : List Happening) → ArePaired segments when opening first_tree numbers h → Kept (on_sectors h) → AllSaw home (on_sectors h) → AllShowed first (on_sectors h) →
      RecoveriesRise (on_sectors h) → SyncsRise (on_sectors h) → SaidWhereItHappened segments when opening h → AllSaidAtOnce h → AllCoverAtOnce segments opening first_tree h
  covers_at_once [] paired k saw showed rise syncs said synced = tt
  covers_at_once (Acts c e ∷ older) paired k saw showed rise syncs said synced = covers_at_once older paired.1 k saw.2 showed.1 rise syncs said.1 synced
  covers_at_once (Speaks e ∷ older) paired k saw showed rise syncs said synced = covers_at_once older paired.2 k saw showed rise syncs said synced.1
  covers_at_once (Mounts number e ∷ older) paired k saw showed rise syncs said synced = covers_at_once older paired.2 k saw showed rise syncs.1 said synced
  covers_at_once (Covers server number ∷ older) paired k saw showed rise syncs said synced = covers_at_once older paired k saw showed rise syncs.1 said synced
  covers_at_once (Recovers server greatest durable ∷ older) paired k saw showed rise syncs said synced =
      let once = covers_at_once older paired.1 k.3 saw showed rise.1 syncs said synced in (covers server greatest durable older paired k saw showed rise syncs said synced once, once)

  pub kept_along : (h : List Happening) → ArePaired segments when opening first_tree numbers h → Kept (on_sectors h) → AllSaw home (on_sectors h) → AllShowed first (on_sectors h) →
      RecoveriesRise (on_sectors h) → SyncsRise (on_sectors h) → SaidWhereItHappened segments when opening h → AllSaidAtOnce h →
      Legal (sector_plan segments when) opening (items (settle first_tree h)) → Distinct (MayNumber numbers) first_tree (items (settle first_tree h)) →
      AreKept segments when opening home first_tree (settle first_tree h)
  kept_along h paired k saw showed rise syncs said synced l d =
      kept_by (recovered_to (on_sectors h)) (settle first_tree h) l d (lines_settle segments when opening first_tree numbers h times begins paired)
      (sees_along segments when opening first_tree numbers home logged first begin h paired k saw) (replies_stay segments when opening first_tree numbers h paired k said)
      (covered_along segments when opening first_tree numbers home logged first begin h paired k saw rise (covers_at_once h paired k saw showed rise syncs said synced))
