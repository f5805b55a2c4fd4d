-- A number of a server's log is acknowledged: the operations that are known to be durable are those that end up to the last number without a gap.
use Rattle.std.proofs.Common.{◌≡◌, ◌⊎◌, ◌↔◌, ℕ, ◌≤◌, true, false, IsTrue, refl, sym, ap, ◌∙◌, subst, inl, inr}
use Rattle.std.proofs.lemmas.Bool.{cases_eq}
use Rattle.frang_base.specs.Functions.{put}
use Rattle.frang_base.proofs.Basics.{at_put, put_other, put_same}
use Rattle.disk_definitions.specs.Logs.{log_end}
use Rattle.disk_definitions.specs.Replay.{slots_of}
use Rattle.sector_bytes.specs.SectorMaps.{value_at}
use Rattle.ring_definitions.specs.RingRuns.{after_log_event, may_happen}
use Rattle.ring_definitions.specs.RingRuns.LogEvent.{Acknowledge}
use Rattle.ring_definitions.specs.Rings.{Ring, acked}
use Rattle.ring_definitions.specs.RingSteps.{IsGoodLog}
use Rattle.ring_definitions.proofs.GoodLogs.{good_ends, stays_good}
use Rattle.core_definitions.specs.Cores.{with_server}
use Rattle.core_definitions.specs.LineGuards.{is_server}
use Rattle.core_definitions.specs.Rings.{is_all_reached}
use Rattle.core_definitions.specs.Runs.{State as RunMoment}
use Rattle.core_definitions.specs.Servers.{Server, is_dead, is_off}
use Rattle.core_facts.proofs.Marking.{acked_last}
use Rattle.sector_world.specs.Guards.{CanAck}
use Rattle.sector_world.specs.Histories.{OpsRise, settled}
use Rattle.sector_world.specs.Steps.{after}
use Rattle.sector_world.specs.Steps.Event.{Ack}
use Rattle.sector_world.specs.World.{World, cover, has_version}
use Rattle.core_world.specs.Beside.{AreEnds, AreOpen, AtCached, IsEnd}
use Rattle.core_world.specs.Journals.{AreJournals, AreReadings, IsJournal, IsLogOf, Journal, sector_log}
use Rattle.core_world.specs.Steps.{IsWorldOf}
use Rattle.core_world.specs.Ties.{AreCached, AreLives, AreLogged, AreMarked, AreRescues, AreTied, IsCachedAs, IsMark, IsMarkedAs}
use Rattle.core_world.proofs.Same.{AreAlike, lives_alike, put_as, readings_alike, rescues_alike}
use Rattle.core_log_writes.proofs.Furthest.{acked_more, acked_then, acked_up_to, all_known, can_ack, counted_known}
use Rattle.core_log_writes.proofs.Keeping.{acked_given, acked_on, as_journal, as_log}
use Rattle.core_log_writes.proofs.Marking.{cached_mark, cached_on, end_marks, end_stays}

module _ (s : RunMoment) (w : World) (journal : ℕ → Journal) (t : IsWorldOf s w journal) (ops : OpsRise (settled w.history)) (a : ℕ) (acks : w.acked a ≤ w.durable a) (who : IsTrue (is_server a))
    (awake : is_off (s.core.servers a).phase ≡ false) (number : ℕ) (may : may_happen (journal a).log (Acknowledge number) ≡ true) (marks : AreEnds s.core.servers w journal) where
  abbrev pub ring : Ring
  ring = (s.core.servers a).ring

  abbrev pub ring_then : Ring
  ring_then = acked ring number

  abbrev pub server_then : Server
  server_then = record (s.core.servers a) { ring = ring_then }

  abbrev pub servers_then : ℕ → Server
  servers_then = put s.core.servers a server_then

  abbrev pub moment_then : RunMoment
  moment_then = record s { core = with_server s.core a server_then }

  abbrev pub journal_then : Journal
  journal_then = record (journal a) { log = after_log_event (journal a).log (Acknowledge number) }

  pub old : IsJournal (s.core.servers a).phase ring s.core.now s.core.flights s.disk (sector_log w a) a (journal a)
  old = as_journal ring s.core.now s.core.flights s.disk (sector_log w a) a (journal a) (s.core.servers a).phase awake (t.journals a who)

  good_then : IsGoodLog journal_then.before journal_then.log
  good_then = stays_good (journal a).before (journal a).log (Acknowledge number) old.good may

  pub within : ring_then.reached ≤ log_end (journal a).log.slots
  within = subst (λ (r : Ring). (acked r number).reached ≤ log_end (journal a).log.slots) old.ring_is (good_ends journal_then.before journal_then.log good_then).not_below

  abbrev pub acked_now : ℕ
  acked_now = acked_then w a ring ring_then (log_end (journal a).log.slots) (journal a).ends old.counted ops acks (acked_last ring number) (acked_on ring number) within

  pub known_more : w.acked a ≤ acked_now
  known_more = acked_more w a ring ring_then (log_end (journal a).log.slots) (journal a).ends old.counted ops acks (acked_last ring number) (acked_on ring number) within

  pub may_ack : CanAck w a acked_now
  may_ack = can_ack w a ring ring_then (log_end (journal a).log.slots) (journal a).ends old.counted ops acks (acked_last ring number) (acked_on ring number) within

  abbrev pub world_then : World
  world_then = after w (Ack a acked_now)

  abbrev pub journals_then : ℕ → Journal
  journals_then = put journal a journal_then

  -- ---- the journals

  own_journal : IsJournal (s.core.servers a).phase ring_then s.core.now s.core.flights s.disk (sector_log world_then a) a journal_then
  own_journal = record {
    good = good_then;
    ring_is = ap (λ r. acked r number) old.ring_is;
    slots = old.slots;
    counted = counted_known w a ring ring_then (log_end (journal a).log.slots) (journal a).ends old.counted ops acks (acked_last ring number) (acked_on ring number) within;
    sent = old.sent;
    records = record {
      given_up = λ p i. let x = old.records.given_up p i in
          subst (λ n. (p.redo.op.0 ≤ w.floor a) ↔ (p.first ≤ n)) (sym (acked_given (journal a).log.ring number)) x;
      placed = old.records.placed;
      ends_at_last = old.records.ends_at_last;
      old = old.records.old;
    };
  }

  journals_of : AreJournals servers_then s.core.now s.core.flights s.disk world_then journals_then
  journals_of b server = go (cases_eq b a)
    where
      Goal : ℕ → Server → Journal → Type 0
      Goal n x j = IsLogOf x.phase x.ring s.core.now s.core.flights s.disk (sector_log world_then n) n j

      go : (b ≡ a) ⊎ (b ≡ a → ⊥) → Goal b (servers_then b) (journals_then b)
      go (inl e) =
          subst (λ n. Goal n (servers_then n) (journals_then n)) (sym e)
          (subst (λ (x : Server). Goal a x (journals_then a)) (sym (put_same s.core.servers a server_then))
          (subst (Goal a server_then) (sym (put_same journal a journal_then))
          (as_log ring_then s.core.now s.core.flights s.disk (sector_log world_then a) a journal_then (s.core.servers a).phase awake own_journal)))
      go (inr n) =
          subst (λ (x : Server). Goal b x (journals_then b)) (sym (put_other s.core.servers a server_then b n))
          (subst (Goal b (s.core.servers b)) (sym (put_other journal a journal_then b n))
          (subst (λ k. IsLogOf (s.core.servers b).phase (s.core.servers b).ring s.core.now s.core.flights s.disk (record (sector_log w b) { acked = k }) b (journal b))
          (sym (put_other w.acked a acked_now b n)) (t.journals b server)))

  -- ---- what of the servers is as it was

  abbrev servers_mid : ℕ → Server
  servers_mid b = record (servers_then b) { ring = (s.core.servers b).ring }

  alike_mid : AreAlike servers_mid s.core.servers
  alike_mid = record {
    phase = put_as (λ x. x.phase) s.core.servers a server_then refl;
    failed = put_as (λ x. x.failed) s.core.servers a server_then refl;
    recovery = put_as (λ x. x.recovery) s.core.servers a server_then refl;
    ring = λ b. refl;
  }

  caches_then : (b : ℕ) → (servers_then b).cache ≡ (s.core.servers b).cache
  caches_then = put_as (λ x. x.cache) s.core.servers a server_then refl

  lives_then : AreLives s.core.now servers_then world_then
  lives_then = lives_alike servers_mid s.core.servers alike_mid w s.core.now (put_as (λ x. x.expiry) s.core.servers a server_then refl) t.tied.lives

  rescues_then : s.core.over ≡ false → AreRescues servers_then s.core.flights world_then
  rescues_then e = rescues_alike servers_mid s.core.servers alike_mid w s.core.flights (t.tied.rescues e)

  readings_then : AreReadings s.core.setting.segments servers_then world_then
  readings_then = readings_alike servers_mid s.core.servers alike_mid w s.core.setting.segments t.readings

  cached_then : AreCached servers_then world_then
  cached_then b x = subst (λ k. IsCachedAs (has_version w x) (cover w x) (value_at k x) (w.slot b x) (w.page b x)) (sym (caches_then b)) (t.tied.cached b x)

  -- ---- marks

  marked_then : AreMarked servers_then world_then
  marked_then b x = go (cases_eq b a)
    where
      Goal : ℕ → Server → ℕ → Type 0
      Goal n server k = IsMarkedAs server.ring.reached k (value_at server.cache x) (w.slot n x) (w.page n x)

      here : Goal a server_then acked_now
      here =
          cached_mark ring_then.reached acked_now (value_at (s.core.servers a).cache x) (w.slot a x) (w.page a x)
          (cached_on (IsEnd (journal a).ends ring.reached (w.acked a) a (settled w.history)) (IsMark ring_then.reached acked_now)
          (end_marks (journal a).ends ring.reached (w.acked a) ring_then.reached acked_now a (settled w.history) (acked_on ring number) known_more
          (acked_up_to w a ring ring_then (log_end (journal a).log.slots) (journal a).ends old.counted ops acks (acked_last ring number) (acked_on ring number) within))
          (value_at (s.core.servers a).cache x) (w.slot a x) (w.page a x) (marks a x who))

      go : (b ≡ a) ⊎ (b ≡ a → ⊥) → Goal b (servers_then b) (world_then.acked b)
      go (inl e) =
          subst (λ n. Goal n (servers_then n) (world_then.acked n)) (sym e)
          (subst (λ (y : Server). Goal a y (world_then.acked a)) (sym (put_same s.core.servers a server_then)) (subst (Goal a server_then) (sym (put_same w.acked a acked_now)) here))
      go (inr n) =
          subst (λ (y : Server). Goal b y (world_then.acked b)) (sym (put_other s.core.servers a server_then b n))
          (subst (Goal b (s.core.servers b)) (sym (put_other w.acked a acked_now b n)) (t.tied.marked b x))

  -- they lie where they did
  pub known_ends : AreEnds servers_then world_then journals_then
  known_ends b x server = go (cases_eq b a)
    where
      Goal : ℕ → Server → ℕ → Journal → Type 0
      Goal n y k j = AtCached (IsEnd j.ends y.ring.reached k n (settled w.history)) (value_at y.cache x) (w.slot n x) (w.page n x)

      here : Goal a server_then acked_now journal_then
      here =
          cached_on (IsEnd (journal a).ends ring.reached (w.acked a) a (settled w.history)) (IsEnd (journal a).ends ring_then.reached acked_now a (settled w.history))
          (end_stays (journal a).ends ring.reached (w.acked a) ring_then.reached acked_now a (settled w.history) (acked_on ring number) known_more)
          (value_at (s.core.servers a).cache x) (w.slot a x) (w.page a x) (marks a x who)

      go : (b ≡ a) ⊎ (b ≡ a → ⊥) → Goal b (servers_then b) (world_then.acked b) (journals_then b)
      go (inl e) =
          subst (λ n. Goal n (servers_then n) (world_then.acked n) (journals_then n)) (sym e)
          (subst (λ (y : Server). Goal a y (world_then.acked a) (journals_then a)) (sym (put_same s.core.servers a server_then))
          (subst (λ k. Goal a server_then k (journals_then a)) (sym (put_same w.acked a acked_now)) (subst (Goal a server_then acked_now) (sym (put_same journal a journal_then)) here)))
      go (inr n) =
          subst (λ (y : Server). Goal b y (world_then.acked b) (journals_then b)) (sym (put_other s.core.servers a server_then b n))
          (subst (λ k. Goal b (s.core.servers b) k (journals_then b)) (sym (put_other w.acked a acked_now b n))
          (subst (Goal b (s.core.servers b) (w.acked b)) (sym (put_other journal a journal_then b n)) (marks b x server)))

  -- ---- where a whole log is acknowledged

  logged_then : AreLogged servers_then world_then
  logged_then b all = go (cases_eq b a) all
    where
      go : (b ≡ a) ⊎ (b ≡ a → ⊥) → IsTrue (is_all_reached (servers_then b).ring) → w.last b ≤ world_then.acked b
      go (inl e) whole =
          subst (λ n. w.last n ≤ world_then.acked n) (sym e)
          (subst (λ k. w.last a ≤ k) (sym (put_same w.acked a acked_now))
          (all_known w a ring ring_then (log_end (journal a).log.slots) (journal a).ends old.counted ops acks (acked_last ring number) (acked_on ring number) within
          (subst (λ (y : Server). IsTrue (is_all_reached y.ring)) (put_same s.core.servers a server_then) (subst (λ n. IsTrue (is_all_reached (servers_then n).ring)) e whole))))
      go (inr n) whole =
          subst (λ k. w.last b ≤ k) (sym (put_other w.acked a acked_now b n))
          (t.tied.logged b (subst (λ (y : Server). IsTrue (is_all_reached y.ring)) (put_other s.core.servers a server_then b n) whole))

  tied_then : AreTied moment_then.core s.disk world_then
  tied_then = record {
    lives = lives_then;
    locks = t.tied.locks;
    cached = cached_then;
    marked = marked_then;
    flying = t.tied.flying;
    disk = t.tied.disk;
    rescues = rescues_then;
    logged = logged_then;
  }

  pub known_world : IsWorldOf moment_then world_then journals_then
  known_world = record { tied = tied_then; journals = journals_of; readings = readings_then }

  -- logs that were open are
  pub known_open : AreOpen s.core.servers s.core.now s.disk journal → AreOpen servers_then s.core.now s.disk journals_then
  known_open open_ b server dead early slot low =
      at_put (λ (j : Journal). slots_of s.disk b slot ≡ j.log.slots slot) journal a journal_then b (λ e. was ∙ ap (λ n. (journal n).log.slots slot) e) (λ n. was)
    where
      was : slots_of s.disk b slot ≡ (journal b).log.slots slot
      was = open_ b server (subst (λ p. IsTrue (is_dead p)) (put_as (λ x. x.phase) s.core.servers a server_then refl b) dead)
          (subst (λ n. s.core.now ≤ n) (put_as (λ x. x.expiry) s.core.servers a server_then refl b) early) slot low
