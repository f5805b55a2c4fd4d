-- The parts of a Commit are one world: lives, locks, recoveries, readings and other logs are as they were, and caches, writes in flight, marks, the disk and its own log are what they are shown to be.
use Rattle.std.proofs.Common.{◌≡◌, ◌⊎◌, ◌==◌, ◌&&◌, ◌||◌, ℕ, ◌≤◌, true, false, List, ◌∷◌, refl, sym, ◌∙◌, subst, inl, inr, IsTrue}
use Rattle.std.proofs.lemmas.Bool.{cases_eq}
use Rattle.frang_base.specs.Functions.{put}
use Rattle.frang_base.proofs.Basics.{put_other, put_same}
use Rattle.frang_base.specs.declared.change.Redo.{Redo}
use Rattle.sector_bytes.specs.SectorMaps.{value_at}
use Rattle.sector_bytes.specs.Replays.{change_at}
use Rattle.core_definitions.specs.Cores.{Core}
use Rattle.core_definitions.specs.Flights.{Flights, each_of_server}
use Rattle.core_definitions.specs.LineEffects.{committed, committed_by, flight_after, ring_after}
use Rattle.core_definitions.specs.LineGuards.{is_server}
use Rattle.core_definitions.specs.Plans as plans
use Rattle.core_definitions.specs.Recoveries.{redos}
use Rattle.core_definitions.specs.Rings.{is_all_reached}
use Rattle.core_definitions.specs.Runs.{State as RunMoment}
use Rattle.core_definitions.specs.Scripts.{host_party}
use Rattle.core_definitions.specs.Servers.{Server, is_in_mount, is_up}
use Rattle.core_definitions.specs.Settings.{disk_logs}
use Rattle.sector_world.specs.Histories.{Commit, redo_of, settled}
use Rattle.sector_world.specs.Histories.Item.{Done}
use Rattle.sector_world.specs.Steps.{after, changed, page_done}
use Rattle.sector_world.specs.Steps.Event.{Do}
use Rattle.sector_world.specs.World.{World, Page, Slot}
use Rattle.core_world.specs.Beside.{AreEnds, IsEnd}
use Rattle.core_world.specs.Journals.{AreJournals, AreReadings, IsLogOf, IsUpTo, Journal, sector_log}
use Rattle.core_world.specs.Readings.{AreNamed, ReadsAs}
use Rattle.core_world.specs.Steps.{IsWorldOf}
use Rattle.core_world.specs.Ties.{AreCached, AreFlying, AreLives, AreLogged, AreMarked, AreRescues, AreTied, IsMark, IsMarkedAs, IsOnDisk}
use Rattle.core_world.proofs.Same.{AreAlike, lives_alike, put_as, readings_alike, rescues_alike, rescues_on}
use Rattle.core_lives.proofs.Alike.{IsWorldBy, mounted_journal}
use Rattle.core_commits.specs.Commits.{fetched_world}
use Rattle.core_commits.proofs.Claiming.{slot_else}
use Rattle.core_log_writes.proofs.Marking.{cached_mark, cached_on, ends_are_marks}
use Rattle.core_log_writes.proofs.Reaching.{NoneRecovers}
use Rattle.core_commit_steps.proofs.Others.{log_on, of_those}

-- the world after an operation, with logs known so far
abbrev pub world_done : World → Commit → List ℕ → (durable acked : ℕ → ℕ) → World
world_done w c sectors durable acked = record (after (fetched_world w c.by sectors) (Do c)) { durable = durable; acked = acked }

module _ (s : RunMoment) (w : World) (journal : ℕ → Journal) (t : IsWorldOf s w journal) (c : Commit) (outcome : plans.Outcome) (sectors : List ℕ) (durable acked : ℕ → ℕ)
    (other_durable : (b : ℕ) → (b ≡ c.by → ⊥) → durable b ≡ w.durable b) (other_acked : (b : ℕ) → (b ≡ c.by → ⊥) → acked b ≡ w.acked b) (server : IsTrue (is_server c.by)) (unread : NoneRecovers s c.by) where
  abbrev u : World
  u = world_done w c sectors durable acked

  abbrev pub core_done : Core
  core_done = committed s.core c.by outcome

  abbrev servers_then : ℕ → Server
  servers_then = put s.core.servers c.by (committed_by outcome (s.core.servers c.by))

  abbrev flights_then : Flights
  flights_then = each_of_server c.by (flight_after outcome) s.core.flights

  -- ---- what of the servers is as it was

  abbrev servers_mid : ℕ → Server
  servers_mid b = record (servers_then b) { ring = (s.core.servers b).ring }

  alike_mid : AreAlike servers_mid s.core.servers
  alike_mid = record {
    phase = put_as (λ x. x.phase) s.core.servers c.by (committed_by outcome (s.core.servers c.by)) refl;
    failed = put_as (λ x. x.failed) s.core.servers c.by (committed_by outcome (s.core.servers c.by)) refl;
    recovery = put_as (λ x. x.recovery) s.core.servers c.by (committed_by outcome (s.core.servers c.by)) refl;
    ring = λ b. refl;
  }

  lives_then : AreLives s.core.now servers_then u
  lives_then =
      let g = lives_alike servers_mid s.core.servers alike_mid w s.core.now (put_as (λ x. x.expiry) s.core.servers c.by (committed_by outcome (s.core.servers c.by)) refl) t.tied.lives in
      record { now = g.now; phase = g.phase; expiry = g.expiry; well = g.well }

  rescues_then : s.core.over ≡ false → AreRescues servers_then flights_then u
  rescues_then e =
      let g = rescues_on servers_mid flights_then s.core.flights w (of_those outcome c.by s.core.flights) (rescues_alike servers_mid s.core.servers alike_mid w s.core.flights (t.tied.rescues e)) in
      record { under_way = g.under_way; known = g.known }

  -- ---- what recoveries at work read

  readings_then : AreReadings s.core.setting.segments servers_then u
  readings_then by recovery works has read =
      let old = readings_alike servers_mid s.core.servers alike_mid w s.core.setting.segments t.readings by recovery works has read in
      let apart : recovery.dead ≡ c.by → ⊥ = unread by recovery (subst (λ p. IsTrue ((is_server by && is_up p) || by == host_party)) (put_as (λ x. x.phase) s.core.servers c.by (committed_by outcome (s.core.servers c.by)) refl by) works) (sym (put_as (λ x. x.recovery) s.core.servers c.by (committed_by outcome (s.core.servers c.by)) refl by) ∙ has) in
      subst (λ d. ReadsAs (record u { durable = λ x. d }) recovery.dead (redos disk_logs recovery) × AreNamed s.core.setting.segments (record u { durable = λ x. d }) recovery.dead (redos disk_logs recovery))
      (sym (other_durable recovery.dead apart))
      (subst (λ l. ReadsAs (record w { log = λ x. l }) recovery.dead (redos disk_logs recovery) × AreNamed s.core.setting.segments (record w { log = λ x. l }) recovery.dead (redos disk_logs recovery))
      (sym (put_other w.log c.by (redo_of c ∷ w.log c.by) recovery.dead apart)) old)

  -- ---- the logs

  module _ (mounted : is_in_mount (s.core.servers c.by).phase ≡ true) (own : Journal)
      (own_log : IsLogOf (s.core.servers c.by).phase (ring_after (s.core.servers c.by) outcome) s.core.now (each_of_server c.by (flight_after outcome) s.core.flights) s.disk (sector_log (world_done w c sectors durable acked) c.by)
      c.by own) where
    abbrev journals_then : ℕ → Journal
    journals_then = put journal c.by own

    -- another server's
    abbrev OtherAt : ℕ → (d k l : ℕ) → List Redo → Type 0
    OtherAt b d k l records = IsLogOf (s.core.servers b).phase (s.core.servers b).ring s.core.now flights_then s.disk (record (sector_log w b) { durable = d; acked = k; last = l; records = records; history = Done c ∷ settled w.history }) b (journal b)

    other_log : (b : ℕ) → IsTrue (is_server b) → (b ≡ c.by → ⊥) → IsLogOf (s.core.servers b).phase (s.core.servers b).ring s.core.now flights_then s.disk (sector_log u b) b (journal b)
    other_log b who n =
        subst (λ d. OtherAt b d (acked b) (put w.last c.by c.op b) (put w.log c.by (redo_of c ∷ w.log c.by) b)) (sym (other_durable b n))
        (subst (λ k. OtherAt b (w.durable b) k (put w.last c.by c.op b) (put w.log c.by (redo_of c ∷ w.log c.by) b)) (sym (other_acked b n))
        (subst (λ l. OtherAt b (w.durable b) (w.acked b) l (put w.log c.by (redo_of c ∷ w.log c.by) b)) (sym (put_other w.last c.by c.op b n))
        (subst (λ r. OtherAt b (w.durable b) (w.acked b) (w.last b) r) (sym (put_other w.log c.by (redo_of c ∷ w.log c.by) b n))
        (log_on w c outcome b n (s.core.servers b).phase (s.core.servers b).ring s.core.now s.core.flights s.disk (journal b) (t.journals b who)))))

    pub journals_of : AreJournals servers_then s.core.now flights_then s.disk u journals_then
    journals_of b who = go (cases_eq b c.by)
      where
        Goal : ℕ → Server → Journal → Type 0
        Goal n x j = IsLogOf x.phase x.ring s.core.now flights_then s.disk (sector_log u n) n j

        go : (b ≡ c.by) ⊎ (b ≡ c.by → ⊥) → Goal b (servers_then b) (journals_then b)
        go (inl e) =
            subst (λ n. Goal n (servers_then n) (journals_then n)) (sym e)
            (subst (λ (x : Server). Goal c.by x (journals_then c.by)) (sym (put_same s.core.servers c.by (committed_by outcome (s.core.servers c.by))))
            (subst (Goal c.by (committed_by outcome (s.core.servers c.by))) (sym (put_same journal c.by own)) own_log))
        go (inr n) =
            subst (λ (x : Server). Goal b x (journals_then b)) (sym (put_other s.core.servers c.by (committed_by outcome (s.core.servers c.by)) b n))
            (subst (Goal b (s.core.servers b)) (sym (put_other journal c.by own b n)) (other_log b who n))

    -- ---- marks

    own_counted : IsUpTo (journals_then c.by).ends (servers_then c.by).ring.reached c.by (acked c.by) (Done c ∷ settled w.history)
    own_counted =
        subst (λ (x : Server). IsUpTo (journals_then c.by).ends x.ring.reached c.by (acked c.by) (Done c ∷ settled w.history)) (sym (put_same s.core.servers c.by (committed_by outcome (s.core.servers c.by))))
        (subst (λ (j : Journal). IsUpTo j.ends (ring_after (s.core.servers c.by) outcome).reached c.by (acked c.by) (Done c ∷ settled w.history)) (sym (put_same journal c.by own))
        (mounted_journal (s.core.servers c.by).phase mounted (ring_after (s.core.servers c.by) outcome) s.core.now flights_then s.disk (sector_log u c.by) c.by own own_log).counted.acked)

    module _ (ends : AreEnds (put s.core.servers c.by (committed_by outcome (s.core.servers c.by))) (world_done w c sectors durable acked) (put journal c.by own)) where
      pub marked_then : AreMarked servers_then u
      marked_then b x = go (cases_eq b c.by)
        where
          Goal : ℕ → Server → ℕ → Slot → Page → Type 0
          Goal n server k slot page = IsMarkedAs server.ring.reached k (value_at server.cache x) slot page

          go : (b ≡ c.by) ⊎ (b ≡ c.by → ⊥) → Goal b (servers_then b) (acked b) (u.slot b x) (u.page b x)
          go (inl e) = subst (λ n. Goal n (servers_then n) (acked n) (u.slot n x) (u.page n x)) (sym e)
              (cached_mark (servers_then c.by).ring.reached (acked c.by) (value_at (servers_then c.by).cache x) (u.slot c.by x) (u.page c.by x)
              (cached_on (IsEnd (journals_then c.by).ends (servers_then c.by).ring.reached (acked c.by) c.by (Done c ∷ settled w.history)) (IsMark (servers_then c.by).ring.reached (acked c.by))
              (ends_are_marks (journals_then c.by).ends (servers_then c.by).ring.reached (acked c.by) c.by (Done c ∷ settled w.history) own_counted) (value_at (servers_then c.by).cache x) (u.slot c.by x) (u.page c.by x)
              (ends c.by x server)))
          go (inr n) =
              subst (λ (y : Server). Goal b y (acked b) (u.slot b x) (u.page b x)) (sym (put_other s.core.servers c.by (committed_by outcome (s.core.servers c.by)) b n))
              (subst (λ k. Goal b (s.core.servers b) k (u.slot b x) (u.page b x)) (sym (other_acked b n))
              (subst (λ (f : ℕ → Slot). Goal b (s.core.servers b) (w.acked b) (f x) (u.page b x))
              (sym (put_other (fetched_world w c.by sectors).slot c.by (λ i. changed (change_at c.changes i) c.op ((fetched_world w c.by sectors).slot c.by i)) b n))
              (subst (λ slot. Goal b (s.core.servers b) (w.acked b) slot (u.page b x)) (sym (slot_else w.disk c.by sectors w.slot b x (λ e i. n e)))
              (subst (λ (f : ℕ → Page). Goal b (s.core.servers b) (w.acked b) (w.slot b x) (f x)) (sym (put_other w.page c.by (λ i. page_done (c.claims i) (c.writes i) c.op (w.page c.by i)) b n))
              (t.tied.marked b x)))))

      -- ---- where a whole log is acknowledged

      module _ (own_logged : IsTrue (is_all_reached (ring_after (s.core.servers c.by) outcome)) → c.op ≤ acked c.by) where
        logged_then : AreLogged servers_then u
        logged_then b all = go (cases_eq b c.by) all
          where
            go : (b ≡ c.by) ⊎ (b ≡ c.by → ⊥) → IsTrue (is_all_reached (servers_then b).ring) → put w.last c.by c.op b ≤ acked b
            go (inl e) whole =
                subst (λ n. put w.last c.by c.op n ≤ acked n) (sym e)
                (subst (λ k. k ≤ acked c.by) (sym (put_same w.last c.by c.op))
                (own_logged (subst (λ (y : Server). IsTrue (is_all_reached y.ring)) (put_same s.core.servers c.by (committed_by outcome (s.core.servers c.by))) (subst (λ n. IsTrue (is_all_reached (servers_then n).ring)) e whole))))
            go (inr n) whole =
                subst (λ k. k ≤ acked b) (sym (put_other w.last c.by c.op b n))
                (subst (λ k. w.last b ≤ k) (sym (other_acked b n))
                (t.tied.logged b (subst (λ (y : Server). IsTrue (is_all_reached y.ring)) (put_other s.core.servers c.by (committed_by outcome (s.core.servers c.by)) b n) whole)))

        -- ---- all ties

        module _ (cached : AreCached (put s.core.servers c.by (committed_by outcome (s.core.servers c.by))) (world_done w c sectors durable acked))
            (flying : s.core.over ≡ false → AreFlying s.core.setting.segments s.core.now (each_of_server c.by (flight_after outcome) s.core.flights) (world_done w c sectors durable acked))
            (on_disk : IsOnDisk s.core.setting.segments s.disk (world_done w c sectors durable acked)) where
          tied_then : AreTied (committed s.core c.by outcome) s.disk u
          tied_then = record {
            lives = lives_then;
            locks = record { holds = t.tied.locks.holds; taker = t.tied.locks.taker; until = t.tied.locks.until };
            cached = cached;
            marked = marked_then;
            flying = flying;
            disk = on_disk;
            rescues = rescues_then;
            logged = logged_then;
          }

          pub joined : IsWorldBy (committed s.core c.by outcome) s.disk u journals_then
          joined = record { tied = tied_then; journals = journals_of; readings = readings_then }
