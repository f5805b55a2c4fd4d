-- The events of recoveries as the step law says them: cleared blocks stay free, and logs keep their room.
use Rattle.std.proofs.Common.{◌≡◌, ◌≢◌, ◌⊎◌, ℕ, ◌+◌, ◌*◌, ◌^◌, ◌≤◌, ◌==◌, Bool, true, false, if◌then◌else◌, IsTrue, List, [], ◌∷◌, Option, Some, None, refl, sym, ap, ◌∙◌, subst, inl, inr, arith}
use Rattle.std.proofs.lemmas.Bool.{cases_eq, false≢true, or_right}
use Rattle.std.proofs.lemmas.Option.{none-some}
use Rattle.frang_base.specs.Functions.{put}
use Rattle.frang_base.specs.declared.limits.TheConstants.{LOG_IN_FLIGHT_MAX}
use Rattle.disk_definitions.specs.Logs.{Slots, log_end}
use Rattle.disk_definitions.specs.Replay.{slots_of}
use Rattle.sector_bytes.specs.SectorMaps.{value_at}
use Rattle.ring_definitions.specs.RingSteps.{GoodLogsEndWithin}
use Rattle.ring_definitions.specs.Rings.{last}
use Rattle.core_definitions.specs.Cores.{Core, with_server}
use Rattle.core_definitions.specs.Effects.{Deed, MayLoad}
use Rattle.core_definitions.specs.EndEffects.{finished_from}
use Rattle.core_definitions.specs.EndGuards.{is_through}
use Rattle.core_definitions.specs.Events.{Begin, Ask, Fetch, Again, Clear, Commit, Answer, Give, Issue, Doom, Resume, Arrive, Lose, Die, Renew, Tick, Recover, Load, Look, Finish, HostLine, Close, Read, Show, End, Heard, Nothing, Got, GetFailed, Written, Late, PutFailed}
use Rattle.core_definitions.specs.LineEffects.{failed_by}
use Rattle.core_definitions.specs.LineGuards.{is_server}
use Rattle.core_definitions.specs.Recoveries.{Recovery}
use Rattle.core_definitions.specs.Runs.{State as RunMoment, Makes, next}
use Rattle.core_definitions.specs.Scripts.{host_party}
use Rattle.core_definitions.specs.Servers as life
use Rattle.core_definitions.specs.Servers.{Server, is_dead, is_off}
use Rattle.core_definitions.specs.Settings.{setting_of}
use Rattle.core_laws.specs.Facts.{HasNothing, OffHasNothing, RecoveriesAreOfTheDead}
use Rattle.sector_world.specs.Histories.{settled}
use Rattle.sector_world.specs.Histories.Entry.{Recovered}
use Rattle.sector_world.specs.Kinds.{Good}
use Rattle.sector_world.specs.HistoryBytes.{is_free}
use Rattle.sector_world.specs.Histories.{is_logged}
use Rattle.sector_world.specs.World.{World, Rescue, Unread, cover, has_version}
use Rattle.core_lives.proofs.Shrinking.{stay_free}
use Rattle.core_lives.specs.Cleared.{ClearedAreFree}
use Rattle.core_lives.specs.Lives.{LeadsWith}
use Rattle.core_lives.specs.Room.{HasRoom, lines_left, reach_of}
use Rattle.core_lives.specs.Steps.{GoesOn}
use Rattle.core_world.specs.Events.{LeadsQuietly}
use Rattle.core_world.specs.Journals.{IsJournal, IsLogOf, Journal, sector_log}
use Rattle.core_world.specs.Steps.{IsReached, IsWorldOf}
use Rattle.core_world.specs.Ties.{IsCachedAs}
use Rattle.core_world.proofs.Same.{put_as}
use Rattle.core_recoveries.proofs.Looking.{IsRecovering, recovering_is}
use Rattle.core_recoveries.proofs.Parties.{ended, ended_dead, ended_other, ended_same}
use Rattle.core_recoveries.proofs.Passing.{cached_held}
use Rattle.core_recoveries.proofs.Removing.{free_stays, kind_stays}
use Rattle.core_recoveries.proofs.RoomLeft.{ends_near}
use Rattle.core_recoveries.proofs.Sweeping.{rescue_of}
use Rattle.core_recoveries.specs.Begins.{BeginsAreEvents}
use Rattle.core_recoveries.specs.Ends.{FinishesLeadOn}
use Rattle.core_recoveries.specs.Reads.{FailedLoadsAreEvents, FailedLooksAreEvents, LoadsAreNone, LooksAreEvents}
use Rattle.core_recoveries.specs.Steps.{AreLogsAsAsked, RecoveriesGoOn}

dead_is : (p : life.Phase) → IsTrue (is_dead p) → p ≡ life.Dead
dead_is life.Off e = absurd (false≢true e)
dead_is life.Up e = absurd (false≢true e)
dead_is life.Still e = absurd (false≢true e)
dead_is (life.Doomed fate) e = absurd (false≢true e)
dead_is life.Dead e = refl

-- room stays where no log comes to more
room_less : (r q n : ℕ) → r ≤ q → q + 100 * n ≤ 2 ^ 61 → r + 100 * n ≤ 2 ^ 61
room_less r q n l h = omega (arith, l, h)

module _ (s : RunMoment) (w : World) (journal : ℕ → Journal) (free : ClearedAreFree s.core.servers w) (room : (a : ℕ) → IsTrue (is_server a) → HasRoom s a) where
  -- of which none tells
  quiet_goes : (v : RunMoment) → ((b : ℕ) → (v.core.servers b).cache ≡ (s.core.servers b).cache) → ((a : ℕ) → HasRoom s a → HasRoom v a) → LeadsQuietly w v journal → GoesOn w v journal
  quiet_goes v caches rooms x = record {
    leads = x.leads;
    entries = [];
    story = record {
      servers = x.story.servers;
      opening = x.story.opening;
      logged = x.story.logged;
      first = x.story.first;
      home = x.story.home;
      history = x.story.history;
    };
    quiet = x.quiet;
    cleared = stay_free s.core.servers v.core.servers w x.leads.world (λ a i cached e. ap (λ k. value_at k i) (sym (caches a)) ∙ e) x.story.first x.story.logged (ap settled x.story.history) free;
    room = λ a who. rooms a (room a who);
  }

  abbrev left : ℕ → ℕ
  left a = lines_left s.core.setting.script s.core.answered a

  -- where one server alone is another, but for what the room asks
  room_put : (by : ℕ) (new : Server) → ((slots : Slots) → reach_of new slots ≡ reach_of (s.core.servers by) slots) → (a : ℕ) → HasRoom s a →
      reach_of (put s.core.servers by new a) (slots_of s.disk a) + 100 * left a ≤ 2 ^ 61
  room_put by new same a h = subst (λ n. n + 100 * left a ≤ 2 ^ 61) (sym (put_as (λ x. reach_of x (slots_of s.disk a)) s.core.servers by new (same (slots_of s.disk a)) a)) h

  abbrev recovering : ℕ → Option Recovery → Server
  recovering by o = record (s.core.servers by) { recovery = o }

  cache_put : (by : ℕ) (new : Server) → new.cache ≡ (s.core.servers by).cache → (b : ℕ) → (put s.core.servers by new b).cache ≡ (s.core.servers b).cache
  cache_put by new same b = put_as (λ x. x.cache) s.core.servers by new same b

  -- a call that failed
  failed_goes : (by : ℕ) (deeds : List Deed) (host : Bool) →
      LeadsQuietly w (record { core = if host then record s.core { over = true } else with_server s.core by (failed_by (s.core.servers by)); disk = s.disk; record_ = deeds }) journal →
      GoesOn w (record { core = if host then record s.core { over = true } else with_server s.core by (failed_by (s.core.servers by)); disk = s.disk; record_ = deeds }) journal
  failed_goes by deeds true x = quiet_goes _ (λ b. refl) (λ a h. h) x
  failed_goes by deeds false x = quiet_goes _ (cache_put by (failed_by (s.core.servers by)) refl) (room_put by (failed_by (s.core.servers by)) (λ slots. refl)) x

-- ---- an end

module _ (ends : GoodLogsEndWithin) (s : RunMoment) (w : World) (journal : ℕ → Journal) (t : IsWorldOf s w journal) (g : Good w) (by : ℕ) (recovery : Recovery) (has : (s.core.servers by).recovery ≡ Some recovery)
    (server : IsTrue (is_server recovery.dead)) (fallen : IsTrue (is_dead (s.core.servers recovery.dead).phase)) (bare : HasNothing (s.core.servers recovery.dead)) where
  abbrev c : Core
  c = s.core

  abbrev d : ℕ
  d = recovery.dead

  abbrev then_at : ℕ → Server
  then_at = ended c.servers by d

  abbrev servers_by : Option Recovery → ℕ → Server
  servers_by o = (finished_from c by o).servers

  caches : (b : ℕ) → (servers_by (c.servers by).recovery b).cache ≡ (c.servers b).cache
  caches b = ap (λ o. (servers_by o b).cache) has ∙ ended_same c.servers by d (λ x. x.cache) refl refl b

  ended_free : ClearedAreFree c.servers w → (u : World) → u.first ≡ w.first → u.logged ≡ w.logged → u.history ≡ Recovered d (w.durable d) ∷ w.history →
      ClearedAreFree (servers_by (c.servers by).recovery) u
  ended_free free u first logged history a i cached e dirty plain none =
      (λ j. is_free (first j) (settled (history j)) i) ∙ free_stays w rescue g a i holds other
      ∙ free a i cached there dirty plain (sym (kind_stays w rescue g a i holds other) ∙ sym (λ j. is_logged (logged j) (settled (history j)) i) ∙ none)
    where
      rescue : Rescue
      rescue = rescue_of d by (λ x. Unread)

      there : value_at (c.servers a).cache i ≡ Some cached
      there = ap (λ k. value_at k i) (sym (caches a)) ∙ e

      holds : w.holds a (cover w i) ≢ None
      holds = cached_held (has_version w i) (cover w i) cached (w.slot a i) (w.page a i) (w.holds a (cover w i))
          (subst (λ o. IsCachedAs (has_version w i) (cover w i) o (w.slot a i) (w.page a i)) there (t.tied.cached a i)) (g.logged.held a i) (g.bytes.held a i)

      other : a ≢ d
      other at = none-some cached (sym (ap (λ k. value_at k i) bare.cache) ∙ ap (λ n. value_at (c.servers n).cache i) (sym at) ∙ there)

  abbrev RoomBy : ℕ → Option Recovery → Type 0
  RoomBy a o = reach_of (servers_by o a) (slots_of s.disk a) + 100 * lines_left (finished_from c by o).setting.script (finished_from c by o).answered a ≤ 2 ^ 61

  ended_room : ((a : ℕ) → IsTrue (is_server a) → HasRoom s a) → (a : ℕ) → IsTrue (is_server a) → RoomBy a (c.servers by).recovery
  ended_room room a who = subst (RoomBy a) (sym has) (go (cases_eq a d))
    where
      alive : (x : Server) (slots : Slots) → is_off x.phase ≡ false → reach_of x slots ≡ last x.ring + LOG_IN_FLIGHT_MAX
      alive x slots e = ap (λ b. if b then log_end slots else last x.ring + LOG_IN_FLIGHT_MAX) e

      dead_phase : (c.servers d).phase ≡ life.Dead
      dead_phase = dead_is (c.servers d).phase fallen

      log_there : IsJournal life.Dead (c.servers d).ring c.now c.flights s.disk (sector_log w d) d (journal d)
      log_there = subst (λ p. IsLogOf p (c.servers d).ring c.now c.flights s.disk (sector_log w d) d (journal d)) dead_phase (t.journals d server)

      before : last (c.servers d).ring + LOG_IN_FLIGHT_MAX + 100 * lines_left c.setting.script c.answered d ≤ 2 ^ 61
      before = subst (λ n. n + 100 * lines_left c.setting.script c.answered d ≤ 2 ^ 61) (alive (c.servers d) (slots_of s.disk d) (ap is_off dead_phase)) (room d server)

      small : last (c.servers d).ring + LOG_IN_FLIGHT_MAX ≤ 2 ^ 61
      small = part (last (c.servers d).ring + LOG_IN_FLIGHT_MAX) (lines_left c.setting.script c.answered d) before
        where
          part : (x n : ℕ) → x + 100 * n ≤ 2 ^ 61 → x ≤ 2 ^ 61
          part x n h = omega (arith, h)

      rests : log_end (slots_of s.disk d) + 100 * lines_left c.setting.script c.answered d ≤ 2 ^ 61
      rests = room_less (log_end (slots_of s.disk d)) (last (c.servers d).ring + LOG_IN_FLIGHT_MAX) (lines_left c.setting.script c.answered d)
          (ends_near ends (c.servers d).ring c.now c.flights s.disk (sector_log w d) d (journal d) log_there small) before

      go : (a ≡ d) ⊎ (a ≡ d → ⊥) → reach_of (then_at a) (slots_of s.disk a) + 100 * lines_left c.setting.script c.answered a ≤ 2 ^ 61
      go (inl e) = subst (λ n. reach_of (then_at n) (slots_of s.disk n) + 100 * lines_left c.setting.script c.answered n ≤ 2 ^ 61) (sym e)
          (subst (λ n. n + 100 * lines_left c.setting.script c.answered d ≤ 2 ^ 61) (sym (ended_dead c.servers by d (λ x. reach_of x (slots_of s.disk d)) d refl)) rests)
      go (inr n) = subst (λ m. m + 100 * lines_left c.setting.script c.answered a ≤ 2 ^ 61) (sym (ended_other c.servers by d (λ x. reach_of x (slots_of s.disk a)) refl a n)) (room a who)

  ended_goes : ClearedAreFree c.servers w → ((a : ℕ) → IsTrue (is_server a) → HasRoom s a) → LeadsWith w (next s (Finish by) Nothing) journal (Recovered d (w.durable d)) → GoesOn w (next s (Finish by) Nothing) journal
  ended_goes free room x = record {
    leads = x.leads;
    entries = Recovered d (w.durable d) ∷ [];
    story = record {
      servers = x.story.servers;
      opening = x.story.opening;
      logged = x.story.logged;
      first = x.story.first;
      home = x.story.home;
      history = x.story.history;
    };
    quiet = x.quiet;
    cleared = ended_free free x.leads.world x.story.first x.story.logged x.story.history;
    room = ended_room room;
  }

-- ---- all

module _ (begins : BeginsAreEvents) (loads : LoadsAreNone) (looks : LooksAreEvents) (failed_loads : FailedLoadsAreEvents) (failed_looks : FailedLooksAreEvents) (finishes : FinishesLeadOn)
    (ends : GoodLogsEndWithin) (of_dead : RecoveriesAreOfTheDead) (nothing : OffHasNothing) where
  module _ (s : RunMoment) (w : World) (journal : ℕ → Journal) (r : IsReached s) (t : IsWorldOf s w journal) (g : Good w) (free : ClearedAreFree s.core.servers w)
      (room : (a : ℕ) → IsTrue (is_server a) → HasRoom s a) where
    load_goes : (by slot : ℕ) (heard : Heard) → Makes s (Load by slot) heard → AreLogsAsAsked s w (Load by slot) heard → GoesOn w (next s (Load by slot) heard) journal
    load_goes by slot (Got block) m asked =
        quiet_goes s w journal free room (next s (Load by slot) (Got block)) (cache_put s w journal free room by _ refl) (room_put s w journal free room by _ (λ slots. refl)) (loads s w journal by slot block r t m asked)
    load_goes by slot GetFailed m asked =
        failed_goes s w journal free room by (next s (Load by slot) GetFailed).record_ (by == host_party) (failed_loads s w journal by slot r t m)
    load_goes by slot Nothing m asked = absurd (none (s.core.servers by).recovery m.hears)
      where
        none : (o : Option Recovery) → MayLoad s.disk slot o Nothing → ⊥
        none None h = h
        none (Some x) h = h
    load_goes by slot Written m asked = absurd (none (s.core.servers by).recovery m.hears)
      where
        none : (o : Option Recovery) → MayLoad s.disk slot o Written → ⊥
        none None h = h
        none (Some x) h = h
    load_goes by slot Late m asked = absurd (none (s.core.servers by).recovery m.hears)
      where
        none : (o : Option Recovery) → MayLoad s.disk slot o Late → ⊥
        none None h = h
        none (Some x) h = h
    load_goes by slot (PutFailed new) m asked = absurd (none (s.core.servers by).recovery m.hears)
      where
        none : (o : Option Recovery) → MayLoad s.disk slot o (PutFailed new) → ⊥
        none None h = h
        none (Some x) h = h

    look_goes : (by sector : ℕ) (heard : Heard) → Makes s (Look by sector) heard → GoesOn w (next s (Look by sector) heard) journal
    look_goes by sector (Got block) m =
        quiet_goes s w journal free room (next s (Look by sector) (Got block)) (cache_put s w journal free room by _ refl) (room_put s w journal free room by _ (λ slots. refl)) (looks s w journal by sector block r t g m)
    look_goes by sector GetFailed m =
        failed_goes s w journal free room by (next s (Look by sector) GetFailed).record_ (by == host_party) (failed_looks s w journal by sector r t m)
    look_goes by sector Nothing m = absurd m.hears
    look_goes by sector Written m = absurd m.hears
    look_goes by sector Late m = absurd m.hears
    look_goes by sector (PutFailed new) m = absurd m.hears

    recover_goes : (dead by : ℕ) → Makes s (Recover dead by) Nothing → GoesOn w (next s (Recover dead by) Nothing) journal
    recover_goes dead by m =
        quiet_goes s w journal free room (next s (Recover dead by) Nothing) (cache_put s w journal free room by _ refl) (room_put s w journal free room by _ (λ slots. refl)) (begins s w journal dead by r t m)

    finish_goes : (by : ℕ) → Makes s (Finish by) Nothing → AreLogsAsAsked s w (Finish by) Nothing → GoesOn w (next s (Finish by) Nothing) journal
    finish_goes by m asked =
        ended_goes ends s w journal t g by x.recovery x.is dead.0 dead.1
        (nothing (setting_of r.script r.segments r.number) r.disk s r.run x.recovery.dead dead.0
        (or_right (is_off (s.core.servers x.recovery.dead).phase) (is_dead (s.core.servers x.recovery.dead).phase) dead.1))
        free room (finishes s w journal by x.recovery r t g m x.is (asked x.recovery x.is))
      where
        x : IsRecovering (is_through s.core) (s.core.servers by).recovery
        x = recovering_is (is_through s.core) (s.core.servers by).recovery m.can.can.ended

        dead : IsTrue (is_server x.recovery.dead) × IsTrue (is_dead (s.core.servers x.recovery.dead).phase)
        dead = of_dead (setting_of r.script r.segments r.number) r.disk s r.run by x.recovery m.can.can.who x.is

  pub recoveries_go_on : RecoveriesGoOn
  recoveries_go_on s w journal (Recover dead by) heard r t g m told asked free room =
      subst (λ h. Makes s (Recover dead by) h → GoesOn w (next s (Recover dead by) h) journal) (sym m.hears) (λ n. recover_goes s w journal r t g free room dead by n) m
  recoveries_go_on s w journal (Load by slot) heard r t g m told asked free room = load_goes s w journal r t g free room by slot heard m asked
  recoveries_go_on s w journal (Look by sector) heard r t g m told asked free room = look_goes s w journal r t g free room by sector heard m
  recoveries_go_on s w journal (Finish by) heard r t g m told asked free room =
      subst (λ h. Makes s (Finish by) h → GoesOn w (next s (Finish by) h) journal) (sym m.hears) (λ n. finish_goes s w journal r t g free room by n asked) m
  recoveries_go_on s w journal (Begin a) heard r t g m told asked free room = absurd (false≢true told)
  recoveries_go_on s w journal (Ask a lock mode) heard r t g m told asked free room = absurd (false≢true told)
  recoveries_go_on s w journal (Fetch a sector) heard r t g m told asked free room = absurd (false≢true told)
  recoveries_go_on s w journal (Again a) heard r t g m told asked free room = absurd (false≢true told)
  recoveries_go_on s w journal (Clear a block) heard r t g m told asked free room = absurd (false≢true told)
  recoveries_go_on s w journal (Commit a) heard r t g m told asked free room = absurd (false≢true told)
  recoveries_go_on s w journal (Answer a) heard r t g m told asked free room = absurd (false≢true told)
  recoveries_go_on s w journal (Give a lock) heard r t g m told asked free room = absurd (false≢true told)
  recoveries_go_on s w journal (Issue a sector) heard r t g m told asked free room = absurd (false≢true told)
  recoveries_go_on s w journal (Doom a) heard r t g m told asked free room = absurd (false≢true told)
  recoveries_go_on s w journal (Resume a) heard r t g m told asked free room = absurd (false≢true told)
  recoveries_go_on s w journal (Arrive ticket) heard r t g m told asked free room = absurd (false≢true told)
  recoveries_go_on s w journal (Lose ticket) heard r t g m told asked free room = absurd (false≢true told)
  recoveries_go_on s w journal (Die a) heard r t g m told asked free room = absurd (false≢true told)
  recoveries_go_on s w journal (Renew a) heard r t g m told asked free room = absurd (false≢true told)
  recoveries_go_on s w journal Tick heard r t g m told asked free room = absurd (false≢true told)
  recoveries_go_on s w journal (HostLine number) heard r t g m told asked free room = absurd (false≢true told)
  recoveries_go_on s w journal (Close a) heard r t g m told asked free room = absurd (false≢true told)
  recoveries_go_on s w journal (Read sector) heard r t g m told asked free room = absurd (false≢true told)
  recoveries_go_on s w journal (Show place) heard r t g m told asked free room = absurd (false≢true told)
  recoveries_go_on s w journal End heard r t g m told asked free room = absurd (false≢true told)
