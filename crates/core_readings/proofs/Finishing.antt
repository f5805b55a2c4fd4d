-- Where a recovery ends its log is at rest: it is sealed, and what stands in it is in place.
use Rattle.std.proofs.Common.{◌≡◌, ℕ, ◌+◌, ◌-◌, ◌<◌, ◌≤◌, ◌^◌, true, IsTrue, None, Some, ap, ◌∙◌, arith}
use Rattle.std.proofs.lemmas.Bool.{both_ways}
use Rattle.frang_base.specs.Functions.{put}
use Rattle.frang_base.proofs.Basics.{put_same}
use Rattle.tree_definitions.specs.Apply.{is_path_op}
use Rattle.disk_definitions.specs.Logs.{log_end}
use Rattle.disk_definitions.specs.Replay.{slots_of}
use Rattle.ring_definitions.specs.Rings.{last}
use Rattle.core_definitions.specs.EndEffects.{finished_from, recovered}
use Rattle.core_definitions.specs.Events.{Finish, Nothing}
use Rattle.core_definitions.specs.LineGuards.{is_server}
use Rattle.core_definitions.specs.Lines.{Finishing}
use Rattle.core_definitions.specs.Recoveries.{Recovery}
use Rattle.core_definitions.specs.Runs.{Event_, State as RunMoment, next}
use Rattle.core_definitions.specs.Servers.{Server, asks, is_dead, is_off, is_up, stage_under}
use Rattle.core_definitions.specs.Settings.{setting_of}
use Rattle.core_journals.proofs.Quiet.{dead_off_not}
use Rattle.core_journals.proofs.Standing.{log_goes_on}
use Rattle.core_journals.proofs.Turning.{stage_up}
use Rattle.core_journals.specs.Journals as logs
use Rattle.core_journals.specs.Logs.{IsFit, Onward}
use Rattle.core_laws.proofs.Memory.{dead_of, up_dead_not}
use Rattle.core_laws.proofs.Resting.{good_of_run}
use Rattle.core_laws.specs.Leases.{LeasesEnd}
use Rattle.sector_world.specs.Guards.{to_replay}
use Rattle.core_readings.specs.Logs.{FinishedLogsRest, RestingIsReplayed, log_journal}
use Rattle.core_readings.proofs.LastLoads.{stands_in_place}
use Rattle.core_readings.proofs.Replaying.{rests_in_place}

pub resting_is_replayed : RestingIsReplayed
resting_is_replayed w d same s = rests_in_place (to_replay w d) s (w.disk s) (same s)

-- its server is off then
off_then : (s : RunMoment) (by : ℕ) (recovery : Recovery) → (s.core.servers by).recovery ≡ Some recovery → is_off ((finished_from s.core by (s.core.servers by).recovery).servers recovery.dead).phase ≡ true
off_then s by recovery has =
    ap (λ o. is_off ((finished_from s.core by o).servers recovery.dead).phase) has
    ∙ ap (λ (x : Server). is_off x.phase) (put_same (put s.core.servers by (record (s.core.servers by) { recovery = None })) recovery.dead (recovered (s.core.servers recovery.dead)))

-- a moment of a dead server's log is fit
dead_fit : (s : RunMoment) (d : ℕ) → IsTrue (is_dead (s.core.servers d).phase) → last (s.core.servers d).ring < 2 ^ 62 → IsFit s d
dead_fit s d is small = record {
  ring = λ on. small;
  end = λ off. absurd (both_ways (is_off (s.core.servers d).phase) (dead_off_not (s.core.servers d) is) off);
  records = λ outcome redo e f.
      absurd (both_ways (is_dead (s.core.servers d).phase)
      (up_dead_not (s.core.servers d).phase
      (stage_up (is_up (s.core.servers d).phase) (asks is_path_op (s.core.servers d)) (stage_under s.core.setting s.core.locks d (s.core.servers d).cache (s.core.servers d).under) (Finishing outcome) e))
      is);
}

pub finished_logs_rest : LeasesEnd → FinishedLogsRest
finished_logs_rest ends s w journal by recovery r t g are m has replayed = record {
  low = up (log_end (slots_of s.disk recovery.dead)) rest.low;
  sealed = rest.sealed;
  old = stands_in_place s w journal t g are recovery.dead saved.1 saved.0 replayed;
}
  where
    saved : IsTrue (is_dead (s.core.servers recovery.dead).phase) × IsTrue (is_server recovery.dead)
    saved = (good_of_run (setting_of r.script r.segments r.number) r.disk s r.run).saved by recovery.dead m.can.can.who (ap dead_of has)

    onward : Onward s (next s (Finish by) Nothing) recovery.dead (log_journal (journal recovery.dead))
    onward = log_goes_on ends r.script r.segments r.number r.disk s (next s (Finish by) Nothing) r.run (Event_ (Finish by) Nothing m) recovery.dead saved.1 (log_journal (journal recovery.dead))
        (dead_fit s recovery.dead saved.0 (are.small recovery.dead saved.1 (dead_off_not (s.core.servers recovery.dead) saved.0))) (are.stand recovery.dead saved.1)

    rest : logs.IsAtRest (slots_of s.disk recovery.dead)
    rest = onward.log.rest (off_then s by recovery has)

    up : (n : ℕ) → 256 - 1 ≤ n → 256 ≤ n + 1
    up n h = omega (arith, h)
