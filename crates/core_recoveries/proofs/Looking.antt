-- A sector that is looked at is Look, where the recovery is the world's, and none where it can't end.
use Rattle.std.proofs.Common.{◌≡◌, ◌⊎◌, ℕ, ◌<◌, ◌==◌, Bool, false, ◌&&◌, ◌||◌, IsTrue, [], ◌∷◌, Option, Some, None, refl, sym, ap, ◌∙◌, subst, inl, inr, ⊎_elim}
use Rattle.std.proofs.lemmas.Bool.{false≢true, not-true}
use Rattle.std.proofs.lemmas.Option.{none-some, same_Some}
use Rattle.std.specs.Option.{option_map}
use Rattle.frang_base.specs.Functions.{put}
use Rattle.frang_base.proofs.Basics.{at_put}
use Rattle.disk_definitions.specs.Regions.{region_of}
use Rattle.disk_definitions.specs.Replay.{is_replayed}
use Rattle.sector_bytes.specs.Blocks.{Block}
use Rattle.sector_bytes.specs.Replays.{redo_all}
use Rattle.sector_bytes.specs.SectorMaps.{value_at}
use Rattle.core_definitions.specs.EndEffects.{look_made}
use Rattle.core_definitions.specs.EndGuards.{is_recovery, wants_look}
use Rattle.core_definitions.specs.Events as core_events
use Rattle.core_definitions.specs.Events.{Got}
use Rattle.core_definitions.specs.LineGuards.{is_server}
use Rattle.core_definitions.specs.Logs.{is_read}
use Rattle.core_definitions.specs.Recoveries.{Recovery, is_written, redos, wanted_block}
use Rattle.core_definitions.specs.Runs.{State as RunMoment, Makes, next}
use Rattle.core_definitions.specs.Scripts.{host_party}
use Rattle.core_definitions.specs.Servers.{Server, is_up}
use Rattle.core_definitions.specs.Settings.{disk_logs, setting_of}
use Rattle.core_definitions.specs.WriteGuards.{is_worker}
use Rattle.core_facts.proofs.Owing.{looked_named}
use Rattle.core_facts.proofs.Rescuing.{TurnOf, rescuing_of_run}
use Rattle.core_laws.proofs.Kept.{setting_of_run}
use Rattle.core_laws.specs.Facts.{OneRecoveryAtMost}
use Rattle.sector_world.specs.Guards.{to_replay}
use Rattle.sector_world.specs.Kinds.{Good}
use Rattle.sector_world.specs.Steps.{found, stays, goes}
use Rattle.sector_world.specs.Steps.Event.{Look}
use Rattle.sector_world.specs.World.{World, Rescue, Told, block_at}
use Rattle.core_world.specs.Events.{LeadsQuietly}
use Rattle.core_world.specs.Journals.{AreReadings, Journal}
use Rattle.core_world.specs.Readings.{AreNamed, ReadsAs}
use Rattle.core_world.specs.Steps.{IsReached, IsWorldOf}
use Rattle.core_world.specs.Ties.{AreRescues, IsRescueOf, IsStuck, IsTold}
use Rattle.core_recoveries.proofs.Acknowledged.{AreKnown, IsUnlooked, known_of_run, put_elsewhere, put_in, unlooked, unlooked_unwritten}
use Rattle.core_recoveries.proofs.Found.{found_so, replayed_no_log}
use Rattle.core_recoveries.proofs.Going.{leads_on}
use Rattle.core_recoveries.proofs.Loading.{IsFrom, from_map, known_still}
use Rattle.core_recoveries.specs.Reads.{LooksAreEvents}

-- a recovery of whoever is at work
pub record IsRecovering (passes : Recovery → Bool) (o : Option Recovery) : Type 0 where
  pub recovery : Recovery
  pub is : o ≡ Some recovery
  pub test : IsTrue (passes recovery)

pub recovering_is : (passes : Recovery → Bool) (o : Option Recovery) → IsTrue (is_recovery passes o) → IsRecovering passes o
recovering_is passes None h = absurd (false≢true h)
recovering_is passes (Some recovery) h = record { recovery = recovery; is = refl; test = h }

module _ (one : OneRecoveryAtMost) (s : RunMoment) (w : World) (journal : ℕ → Journal) (by sector : ℕ) (block : Block) (r : IsReached s) (t : IsWorldOf s w journal) (g : Good w)
    (m : Makes s (core_events.Look by sector) (Got block)) (recovery : Recovery) (has : (s.core.servers by).recovery ≡ Some recovery) (wants : IsTrue (wants_look s.core sector recovery)) where
  abbrev segments : ℕ
  segments = s.core.setting.segments

  who : IsTrue (is_worker s.core by)
  who = m.can.can.who

  rules : s.core.setting.logs ≡ disk_logs
  rules = ap (λ setting. setting.logs) (setting_of_run (setting_of r.script r.segments r.number) r.disk s r.run)

  replayed : IsTrue (is_replayed (region_of segments sector))
  replayed = looked_named s.core.setting.logs segments recovery sector wants

  there : IsUnlooked disk_logs segments recovery sector
  there = subst (λ logs. IsUnlooked logs segments recovery sector) rules (unlooked s.core.setting.logs segments recovery sector wants replayed)

  low : recovery.dead < 256
  low = (subst (TurnOf s.core.setting.logs segments) has ((rescuing_of_run r.script r.segments r.number r.disk s r.run).turns by)).1

  known : AreKnown disk_logs (Some recovery)
  known = subst (λ logs. AreKnown logs (Some recovery)) rules (subst (AreKnown s.core.setting.logs) has (known_of_run r.script r.segments r.number r.disk s r.run by))

  unwritten : is_written recovery sector ≡ false
  unwritten = unlooked_unwritten segments recovery sector low known there

  abbrev change : Recovery → Recovery
  change = look_made s.core sector block

  abbrev after_look : Option Recovery
  after_look = option_map change (s.core.servers by).recovery

  abbrev recovering : Server
  recovering = record (s.core.servers by) { recovery = after_look }

  abbrev servers_then : ℕ → Server
  servers_then = put s.core.servers by recovering

  -- it is the one that was
  changed_is : (x : Recovery) → after_look ≡ Some x → x ≡ change recovery
  changed_is x e = let f : IsFrom change (s.core.servers by).recovery x = from_map change (s.core.servers by).recovery x e in
      f.is ∙ ap change (same_Some f.old recovery (sym f.was ∙ has))

  all_read : IsTrue (is_read disk_logs recovery.slots)
  all_read = there.read

  reading : ReadsAs w recovery.dead (redos disk_logs recovery) × AreNamed segments w recovery.dead (redos disk_logs recovery)
  reading = t.readings by recovery who has all_read

  alone : {P : Type 0} (b : ℕ) (x : Recovery) → (b ≡ by → ⊥) → IsTrue ((is_server b && is_up (s.core.servers b).phase) || b == host_party) → (s.core.servers b).recovery ≡ Some x → P
  alone b x n works e = absurd (n (one (setting_of r.script r.segments r.number) r.disk s r.run b by x recovery works who e has))

  -- what is read is as it was
  readings : (rescue : Option Rescue) → AreReadings segments servers_then (record w { rescue = rescue })
  readings rescue b x =
      at_put (λ (y : Server). IsTrue ((is_server b && is_up y.phase) || b == host_party) → y.recovery ≡ Some x → IsTrue (is_read disk_logs x.slots) →
      ReadsAs w x.dead (redos disk_logs x) × AreNamed segments w x.dead (redos disk_logs x)) s.core.servers by recovering b
      (λ i works e all. subst (λ (y : Recovery). ReadsAs w y.dead (redos disk_logs y) × AreNamed segments w y.dead (redos disk_logs y)) (sym (changed_is x e)) reading)
      (λ n. t.readings b x)

  -- ---- the world's

  module _ (q : IsRescueOf by recovery w.rescue) where
    abbrev here : Told
    here = found (w.disk sector) (redo_all (to_replay w q.r.dead) sector (w.disk sector))

    abbrev rescue : Rescue
    rescue = record { dead = q.r.dead; by = q.r.by; told = put q.r.told sector here }

    block_is : block ≡ block_at w sector
    block_is = m.hears ∙ sym (t.tied.disk sector (replayed_no_log (region_of segments sector) replayed))

    told_here : IsTold (change recovery) sector (Some (wanted_block (redos s.core.setting.logs recovery) sector block)) here
    told_here = subst (λ d. IsTold (change recovery) sector (Some (wanted_block (redos s.core.setting.logs recovery) sector block)) (found (w.disk sector) (redo_all (to_replay w d) sector (w.disk sector)))) (sym q.dead)
        (subst (λ logs. IsTold (change recovery) sector (Some (wanted_block (redos logs recovery) sector block)) (found (w.disk sector) (redo_all (to_replay w recovery.dead) sector (w.disk sector)))) (sym rules)
        (found_so w g recovery.dead sector (change recovery) (redos disk_logs recovery) reading.0 unwritten block block_is))

    told : (x : ℕ) → IsTold (change recovery) x (value_at (change recovery).looked x) (put q.r.told sector here x)
    told x = at_put (IsTold (change recovery) x (value_at (change recovery).looked x)) q.r.told sector here x
        (λ e. subst (λ n. IsTold (change recovery) n (value_at (change recovery).looked n) here) (sym e)
        (subst (λ o. IsTold (change recovery) sector o here) (sym (put_in recovery.looked sector (wanted_block (redos s.core.setting.logs recovery) sector block))) told_here))
        (λ n. subst (λ o. IsTold (change recovery) x o (q.r.told x)) (sym (put_elsewhere recovery.looked sector (wanted_block (redos s.core.setting.logs recovery) sector block) x n)) (q.told x))

    rescues : AreRescues servers_then s.core.flights (record w { rescue = Some rescue })
    rescues = record {
      under_way = λ b x. at_put (λ (y : Server). IsTrue ((is_server b && is_up y.phase) || b == host_party) → y.recovery ≡ Some x → IsRescueOf b x (Some rescue) ⊎ IsStuck b s.core.flights y.failed x)
          s.core.servers by recovering b
          (λ i works e. inl (subst (λ y. IsRescueOf b y (Some rescue)) (sym (changed_is x e)) (record { r = rescue; is = refl; dead = q.dead; who = q.who ∙ sym i; told = told })))
          (λ n works e. alone b x n works e);
      known = λ p e. subst (λ (x : Rescue). (y : Recovery) × ((servers_then x.by).recovery ≡ Some y) × (y.dead ≡ x.dead)) (same_Some rescue p e)
          (known_still s.core.servers by change (λ x. refl) rescue (recovery, ap (λ n. (s.core.servers n).recovery) q.who ∙ has, sym q.dead));
    }

    pub looks_on : LeadsQuietly w (next s (core_events.Look by sector) (Got block)) journal
    looks_on = leads_on s w journal t by after_look (Some rescue) (next s (core_events.Look by sector) (Got block)).record_ (Look q.r sector ∷ []) (tt, tt) (goes q.is stays) (λ e. rescues) (readings (Some rescue))

  -- ---- one that can't end

  module _ (z : IsStuck by s.core.flights (s.core.servers by).failed recovery) where
    stuck : IsStuck by s.core.flights (s.core.servers by).failed (change recovery)
    stuck = record {
      has_failed = z.has_failed;
      sector = z.sector;
      block = z.block;
      looked = put_elsewhere recovery.looked sector (wanted_block (redos s.core.setting.logs recovery) sector block) z.sector
          (λ e. none-some (Some z.block) (sym there.none ∙ ap (value_at recovery.looked) (sym e) ∙ z.looked)) ∙ z.looked;
      unwritten = z.unwritten;
      unsent = z.unsent;
    }

    stuck_rescues : AreRescues s.core.servers s.core.flights w → AreRescues servers_then s.core.flights w
    stuck_rescues old = record {
      under_way = λ b x. at_put (λ (y : Server). IsTrue ((is_server b && is_up y.phase) || b == host_party) → y.recovery ≡ Some x → IsRescueOf b x w.rescue ⊎ IsStuck b s.core.flights y.failed x)
          s.core.servers by recovering b
          (λ i works e. inr (subst (λ n. IsStuck n s.core.flights (s.core.servers by).failed x) (sym i) (subst (IsStuck by s.core.flights (s.core.servers by).failed) (sym (changed_is x e)) stuck)))
          (λ n. old.under_way b x);
      known = λ p e. known_still s.core.servers by change (λ x. refl) p (old.known p e);
    }

    pub stays_stuck : LeadsQuietly w (next s (core_events.Look by sector) (Got block)) journal
    stays_stuck = leads_on s w journal t by after_look w.rescue (next s (core_events.Look by sector) (Got block)).record_ [] tt stays (λ e. stuck_rescues (t.tied.rescues e)) (readings w.rescue)

pub looks : OneRecoveryAtMost → LooksAreEvents
looks one s w journal by sector block r t g m =
    ⊎_elim (looks_on one s w journal by sector block r t g m x.recovery x.is x.test) (stays_stuck one s w journal by sector block r t g m x.recovery x.is x.test)
    ((t.tied.rescues (not-true s.core.over m.can.going)).under_way by x.recovery m.can.can.who x.is)
  where
    x : IsRecovering (wants_look s.core sector) (s.core.servers by).recovery
    x = recovering_is (wants_look s.core sector) (s.core.servers by).recovery m.can.can.wanted
