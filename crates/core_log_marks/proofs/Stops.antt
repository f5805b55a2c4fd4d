-- At a stop, and at the end of a recovery.
use Rattle.std.proofs.Common.{◌≡◌, ◌≢◌, ℕ, ◌<◌, false, IsTrue, List, refl, sym, ap, ◌∙◌, subst}
use Rattle.std.proofs.lemmas.Bool.{and_parts, lt-ltb}
use Rattle.frang_base.specs.declared.change.Redo.{Redo}
use Rattle.tree_definitions.specs.Tree.{FileTree}
use Rattle.frang_base.specs.declared.limits.TheConstants.{SERVERS}
use Rattle.disk_definitions.specs.Logs.{greatest_operation, log_records}
use Rattle.disk_definitions.specs.Replay.{slots_of}
use Rattle.core_definitions.specs.EndGuards.{is_recovery, is_through}
use Rattle.core_definitions.specs.LineGuards.{is_server}
use Rattle.core_definitions.specs.Logs.{is_none, is_read}
use Rattle.core_definitions.specs.Recoveries.{is_replay_done, is_seal_done, redos, replay_writes, to_look}
use Rattle.core_definitions.specs.Runs.{State as RunMoment}
use Rattle.core_definitions.specs.Servers as life
use Rattle.core_definitions.specs.Servers.{is_dead, is_off}
use Rattle.core_definitions.specs.Settings.{Setting, disk_logs, setting_of}
use Rattle.core_journals.proofs.Quiet.{dead_off_not}
use Rattle.core_journals.specs.Logs.{LogsReadAsTheirJournals}
use Rattle.core_laws.proofs.Kept.{setting_of_run}
use Rattle.core_laws.proofs.Memory.{dead_of}
use Rattle.core_laws.proofs.Resting.{good_of_run}
use Rattle.sector_world.specs.World.{World}
use Rattle.sector_world.specs.World.Phase.{Off}
use Rattle.core_world.specs.Journals.{Journal}
use Rattle.core_world.specs.Ties.{phase_of}
use Rattle.core_histories.specs.Stops.{ToldHistoriesSettle}
use Rattle.core_histories.specs.Tellings.{IsTold}
use Rattle.stop_laws.specs.Happened.{settle}
use Rattle.stop_laws.specs.Paired.{IsKeptBy}
use Rattle.core_log_marks.specs.Keeping.{IsAccounted, IsReportOf, LogsKeepWhatIsDurable, RecoveriesKeepWhatTheyReport}
use Rattle.core_log_marks.proofs.Kept.{kept_by}
use Rattle.core_log_marks.proofs.Standing.{journal_on, standing_report}

module _ (settles : ToldHistoriesSettle) (s : RunMoment) (w : World) (journal : ℕ → Journal) (when : ℕ → ℕ) (first_tree : FileTree) (numbers : List ℕ) (m : IsAccounted s w journal when first_tree numbers)
    (told : IsTold when first_tree numbers s w) (a : ℕ) (server : IsTrue (is_server a)) (on : is_off (s.core.servers a).phase ≡ false) where
  keeps : (report : List Redo) → IsReportOf (journal a).log.slots report → IsKeptBy a (greatest_operation report) (w.durable a) (settle first_tree told.happened)
  keeps records report =
      kept_by (s.core.servers a).phase w s a (s.core.servers a).ring (journal a) (journal_on (s.core.servers a).phase w s a (s.core.servers a).ring (journal a) on (m.world.journals a server)) ((m.accounts a server).journal on) records report
      s.core.setting.segments when w.opening first_tree numbers told.happened told.paired told.sectors (settles when first_tree numbers s w told m.lines).sectors

-- a server of the world that isn't off
off_known : (p : life.Phase) → (phase_of p ≢ Off) → is_off p ≡ false
off_known life.Off on = absurd (on refl)
off_known life.Up on = refl
off_known life.Still on = refl
off_known (life.Doomed fate) on = refl
off_known life.Dead on = refl

pub logs_keep : ToldHistoriesSettle → LogsReadAsTheirJournals → LogsKeepWhatIsDurable
logs_keep settles read_as s w journal when first_tree numbers m sixteen told server on =
    keeps settles s w journal when first_tree numbers m told server known up (log_records (slots_of s.disk server)) (standing_report read_as s w journal m.world m.logs server known up)
  where
    known : IsTrue (is_server server)
    known = lt-ltb server SERVERS (subst (λ n. server < n) sixteen (m.good.logged.known server on))

    up : is_off (s.core.servers server).phase ≡ false
    up = off_known (s.core.servers server).phase (λ e. on (m.world.tied.lives.phase server ∙ e))

pub reports_keep : ToldHistoriesSettle → RecoveriesKeepWhatTheyReport
reports_keep settles s w journal when first_tree numbers r m told by recovery makes has =
    subst (λ logs. IsKeptBy recovery.dead (greatest_operation (redos logs recovery)) (w.durable recovery.dead) (settle first_tree told.happened)) (sym rules)
    (keeps settles s w journal when first_tree numbers m told recovery.dead saved.1 (dead_off_not (s.core.servers recovery.dead) saved.0) (redos disk_logs recovery) (m.reports by recovery makes.can.can.who has read))
  where
    rules : s.core.setting.logs ≡ disk_logs
    rules = ap (λ (x : Setting). x.logs) (setting_of_run (setting_of r.script r.segments r.number) r.disk s r.run)

    saved : IsTrue (is_dead (s.core.servers recovery.dead).phase) × IsTrue (is_server recovery.dead)
    saved = (good_of_run (setting_of r.script r.segments r.number) r.disk s r.run).saved by recovery.dead makes.can.can.who (ap dead_of has)

    ended : IsTrue (is_through s.core recovery)
    ended = subst (λ o. IsTrue (is_recovery (is_through s.core) o)) has makes.can.can.ended

    read : IsTrue (is_read disk_logs recovery.slots)
    read = subst (λ logs. IsTrue (is_read logs recovery.slots)) rules
        (and_parts (is_read s.core.setting.logs recovery.slots) (is_none (to_look s.core.setting.logs s.core.setting.segments recovery))
        (and_parts _ (is_none (replay_writes recovery)) (and_parts (is_replay_done s.core.setting.logs s.core.setting.segments recovery) (is_seal_done s.core.setting.logs recovery) ended).0).0).0
