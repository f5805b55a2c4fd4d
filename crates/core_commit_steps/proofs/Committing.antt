-- A Commit is a run of events: its parts are one world. With a record the log has it appended; without one the log stays, and what is known of it is raised to the operation where all of it is known.
use Rattle.std.proofs.Common.{◌≡◌, ◌<◌, ◌≤◌, ◌+◌, ◌*◌, ◌^◌, ◌==◌, ℕ, Bool, true, false, if◌then◌else◌, nat_le, IsTrue, List, [], ◌∷◌, ◌++◌, Option, Some, None, map, refl, sym, ap, ◌∙◌, subst, arith, le_refl, le_trans}
use Rattle.std.proofs.lemmas.Bool.{eqb-true, false≢true, le-leb, leb-true, ne_eqb, ltb-true}
use Rattle.frang_base.specs.Functions.{put}
use Rattle.frang_base.proofs.Basics.{at_put, put_other, put_same}
use Rattle.frang_base.specs.declared.change.Redo.{Redo}
use Rattle.frang_base.specs.declared.limits.TheConstants.{LEASE_TICKS}
use Rattle.tree_definitions.specs.Tree.{FileTree}
use Rattle.disk_definitions.specs.Logs.{log_end}
use Rattle.disk_definitions.specs.Replay.{slots_of}
use Rattle.sector_bytes.specs.SectorMaps.{value_at}
use Rattle.line_locks.specs.Lines.{SetCoversAreTrue}
use Rattle.ring_definitions.specs.Rings.{Ring, last}
use Rattle.ring_definitions.proofs.GoodLogs.{good_ends}
use Rattle.core_definitions.specs.Events as core
use Rattle.core_definitions.specs.Events.{Nothing}
use Rattle.core_definitions.specs.Flights.{each_of_server}
use Rattle.core_definitions.specs.LineEffects.{committed, committed_at, committed_by, flight_after, ring_after}
use Rattle.core_definitions.specs.LineGuards.{is_server}
use Rattle.core_definitions.specs.Lines.{Finishing}
use Rattle.core_definitions.specs.Plans as plans
use Rattle.core_definitions.specs.Rings.{appended_some, is_all_reached}
use Rattle.core_definitions.specs.Runs.{State as RunMoment, next}
use Rattle.core_definitions.specs.Scripts.{host_party}
use Rattle.core_definitions.specs.Servers as life
use Rattle.core_definitions.specs.Servers.{Server, is_dead, is_in_mount, is_off, is_up}
use Rattle.core_definitions.specs.Settings.{setting_of}
use Rattle.core_laws.specs.Facts.{RecoveriesAreOfTheDead}
use Rattle.core_laws.specs.Leases.{LeasesLast}
use Rattle.core_laws.specs.Orders.{CoresAreInOrder}
use Rattle.core_facts.specs.Blocks.{CachedBlocksAreWhole}
use Rattle.core_facts.specs.LockSets.{SegmentsAreSole}
use Rattle.sector_world.specs.Guards.{CanAck, CanReach}
use Rattle.sector_world.specs.Histories.{Commit, redo_of, settled}
use Rattle.sector_world.specs.Histories.Item.{Done}
use Rattle.sector_world.specs.Steps.{Run, after}
use Rattle.sector_world.specs.Steps.Event.{Ack, Do, Fetch, Reach}
use Rattle.sector_world.specs.Steps.Run.{goes, stays}
use Rattle.sector_world.specs.World.{World}
use Rattle.core_world.specs.Beside.{AreEnds, AtCached, IsEnd}
use Rattle.core_world.specs.Journals.{IsJournal, IsLogOf, Journal, sector_log}
use Rattle.core_world.specs.Steps.{IsWorldOf}
use Rattle.core_world.specs.Ties.{AreCached, AreFlying, AreLogged, IsOnDisk}
use Rattle.core_lives.proofs.Alike.{IsWorldBy, by_world, mounted_journal}
use Rattle.core_lives.specs.Room.{lines_left}
use Rattle.core_commits.specs.Commits.{AreClaimedClean, fetched_world}
use Rattle.core_commits.specs.Moments.{IsKept, IsNumbered, IsOperation, claimed_in, operation_at}
use Rattle.core_commits.specs.Standing.{tree_now}
use Rattle.core_commits.proofs.Claiming.{sectors_are_fetched}
use Rattle.core_commits.proofs.Gathering.{commits_keep_ties, commits_of_lines}
use Rattle.core_commits.proofs.Reclaiming.{up_of}
use Rattle.core_line_steps.specs.Marks.{journal_done}
use Rattle.core_line_steps.proofs.Claimed.{claimed_are_clean}
use Rattle.core_line_steps.proofs.Ended.{up_mounted}
use Rattle.core_line_steps.proofs.HeldMoment.{held_hold}
use Rattle.core_line_steps.proofs.Marked.{commits_keep_ends}
use Rattle.core_line_journals.specs.Appends.{log_without}
use Rattle.core_line_journals.proofs.Appending.{commits_append}
use Rattle.core_line_journals.proofs.Kept.{commits_are_logged, commits_keep_the_disk}
use Rattle.core_line_journals.proofs.Room.{commits_find_room}
use Rattle.core_line_journals.proofs.Without.{commits_without}
use Rattle.core_log_writes.proofs.Marking.{cached_on, end_stays}
use Rattle.core_log_writes.proofs.Reaching.{NoneRecovers}
use Rattle.core_commit_steps.specs.Commits.{CommitsWithRecordsAreEvents, CommitsWithoutRecordsAreEvents, IsCommitting, LeadsByOperation, acked_without, durable_without, known_behind}
use Rattle.core_commit_steps.proofs.Fitting.{may_stand}
use Rattle.core_commit_steps.proofs.Joining.{joined}
use Rattle.core_commit_steps.proofs.Runs.{run_on}

-- a server isn't the host
pub no_host : (a : ℕ) → IsTrue (is_server a) → (a == host_party) ≡ false
no_host a who = ne_eqb a host_party (λ e. absurd (apart a (ltb-true a 16 who) e))
  where
    apart : (n : ℕ) → n < 16 → n ≡ 255 → ⊥
    apart n h e = absurd (omega (arith, h, e))

-- who is up isn't dead
pub not_dead : (p : life.Phase) → IsTrue (is_up p) → is_dead p ≡ false
not_dead life.Off up = absurd (false≢true up)
not_dead life.Up up = refl
not_dead life.Still up = absurd (false≢true up)
not_dead (life.Doomed fate) up = absurd (false≢true up)
not_dead life.Dead up = absurd (false≢true up)

pub up_not_off : (p : life.Phase) → IsTrue (is_up p) → is_off p ≡ false
up_not_off life.Off up = absurd (false≢true up)
up_not_off life.Up up = refl
up_not_off life.Still up = absurd (false≢true up)
up_not_off (life.Doomed fate) up = absurd (false≢true up)
up_not_off life.Dead up = absurd (false≢true up)

under_lease : (now expiry : ℕ) → now + LEASE_TICKS ≤ expiry + 1 → now ≤ expiry
under_lease now expiry l = omega (arith, l)

small_room : (n left : ℕ) → n + 64 + 100 * left ≤ 2 ^ 61 → n < 2 ^ 62
small_room n left l = omega (arith, l)

module _ (order : CoresAreInOrder) (cached : CachedBlocksAreWhole) (sole : SegmentsAreSole) (covers : SetCoversAreTrue) (of_dead : RecoveriesAreOfTheDead) (leases : LeasesLast) (s : RunMoment) (w : World) (journal : ℕ → Journal)
    (when : ℕ → ℕ) (first_tree : FileTree) (numbers : List ℕ) (a : ℕ) (outcome : plans.Outcome) (x : IsCommitting s w journal when first_tree numbers a outcome) where
  pub server : IsTrue (is_server a)
  server = x.makes.can.can.server

  pub up : IsTrue (is_up (s.core.servers a).phase)
  up = up_of s.core.setting s.core.locks a (s.core.servers a) (Finishing outcome) x.at

  mounted : is_in_mount (s.core.servers a).phase ≡ true
  mounted = up_mounted (s.core.servers a).phase up

  abbrev pub op : IsOperation s w when (tree_now when first_tree w) a outcome
  op = commits_of_lines order cached sole s w journal when first_tree numbers a outcome x.run x.at x.numbered

  abbrev pub c : Commit
  c = operation_at s w when (tree_now when first_tree w) a outcome op

  abbrev pub claimed : List ℕ
  claimed = claimed_in (s.core.servers a).cache op.out.o.claims

  pub clean : AreClaimedClean (s.core.servers a).cache c
  clean = claimed_are_clean order cached sole covers s w journal when first_tree numbers a outcome x.run x.pending x.makes.can.can.cleared x.numbered op

  pub q : IsNumbered s w when first_tree numbers a op.f.line.under.line.number op.f.line.operation
  q = x.numbered op.f.line.under op.f.line.operation op.f.line.is op.f.line.asked

  -- the world behind the operation
  abbrev pub u : World
  u = after (fetched_world w a claimed) (Do c)

  pub run_to : Run w (map (Fetch a) claimed ++ Do c ∷ []) u
  run_to = (op.done clean).2

  -- ---- the parts that stand

  kept : IsKept s a u
  kept = commits_keep_ties order cached sole covers s w journal when first_tree numbers a outcome x.run x.at op x.numbered clean (held_hold s w x.run.world.tied x.held)

  cached_then : AreCached (put s.core.servers a (committed_by outcome (s.core.servers a))) u
  cached_then = subst (λ y. AreCached (committed_at s.core a y).servers u) x.at kept.cached

  flying_then : s.core.over ≡ false → AreFlying s.core.setting.segments s.core.now (each_of_server a (flight_after outcome) s.core.flights) u
  flying_then going = subst (λ y. AreFlying s.core.setting.segments s.core.now (committed_at s.core a y).flights u) x.at (kept.flying going)

  on_disk : IsOnDisk s.core.setting.segments s.disk u
  on_disk = commits_keep_the_disk s w journal when first_tree numbers a outcome x.run op clean

  ends_then : AreEnds (put s.core.servers a (committed_by outcome (s.core.servers a))) u (put journal a (journal_done (w.last a) outcome.redo (journal a)))
  ends_then =
      subst (λ y. AreEnds (committed_at s.core a y).servers u (put journal a (journal_done (w.last a) outcome.redo (journal a)))) x.at
      (commits_keep_ends order cached sole covers s w journal when first_tree numbers a outcome server x.run x.at x.numbered op clean x.ends)

  unread : NoneRecovers s a
  unread by recovery works has e =
      false≢true
      (sym (not_dead (s.core.servers a).phase up)
      ∙ subst (λ n. is_dead (s.core.servers n).phase ≡ true) e
      (of_dead (setting_of x.run.reached.script x.run.reached.segments x.run.reached.number) x.run.reached.disk s x.run.reached.run by recovery works has).1)

  as_next : (v : World) (journals : ℕ → Journal) → IsWorldBy (committed s.core a outcome) s.disk v journals → IsWorldOf (next s (core.Commit a) Nothing) v journals
  as_next v journals t = by_world (next s (core.Commit a) Nothing) v journals (subst (λ y. IsWorldBy (committed_at s.core a y) s.disk v journals) (sym x.at) t)

  back_ends : (v : World) (journals : ℕ → Journal) → AreEnds (put s.core.servers a (committed_by outcome (s.core.servers a))) v journals → AreEnds (next s (core.Commit a) Nothing).core.servers v journals
  back_ends v journals t = subst (λ y. AreEnds (committed_at s.core a y).servers v journals) (sym x.at) t

  old : IsJournal life.Up (s.core.servers a).ring s.core.now s.core.flights s.disk (sector_log w a) a (journal a)
  old = mounted_journal (s.core.servers a).phase mounted (s.core.servers a).ring s.core.now s.core.flights s.disk (sector_log w a) a (journal a) (x.run.world.journals a server)

  -- ---- with a record

  module _ (redo : Redo) (has : outcome.redo ≡ Some redo) where
    small : last (s.core.servers a).ring < 2 ^ 62
    small = small_room (last (s.core.servers a).ring) (lines_left s.core.setting.script s.core.answered a)
        (subst (λ (b : Bool). (if b then log_end (slots_of s.disk a) else last (s.core.servers a).ring + 64) + 100 * lines_left s.core.setting.script s.core.answered a ≤ 2 ^ 61) (up_not_off (s.core.servers a).phase up) x.room)

    own_log : IsLogOf (s.core.servers a).phase (ring_after (s.core.servers a) outcome) s.core.now (each_of_server a (flight_after outcome) s.core.flights) s.disk (sector_log u a) a (journal_done (w.last a) outcome.redo (journal a))
    own_log =
        subst (λ (o : Option Redo). IsLogOf (s.core.servers a).phase (appended_some (s.core.servers a).ring o) s.core.now (each_of_server a (flight_after outcome) s.core.flights) s.disk (sector_log u a) a
        (journal_done (w.last a) o (journal a))) (sym has)
        (commits_append s w journal when first_tree numbers a outcome redo server x.run x.at x.numbered op has
        (commits_find_room s w journal when first_tree numbers a outcome redo x.run x.at x.makes.can.can has
        (may_stand order cached s w journal when first_tree numbers a outcome x.run x.numbered op redo has) small))

    own_logged : IsTrue (is_all_reached (ring_after (s.core.servers a) outcome)) → c.op ≤ w.acked a
    own_logged all =
        let t : AreLogged (put s.core.servers a (committed_by outcome (s.core.servers a))) u =
        subst (λ y. AreLogged (committed_at s.core a y).servers u) x.at (commits_are_logged s w journal when first_tree numbers a outcome redo x.run x.at op has) in
        subst (λ k. k ≤ w.acked a) (put_same w.last a c.op)
        (t a (subst (λ (y : Server). IsTrue (is_all_reached y.ring)) (sym (put_same s.core.servers a (committed_by outcome (s.core.servers a)))) all))

    world_with : IsWorldBy (committed s.core a outcome) s.disk u (put journal a (journal_done (w.last a) outcome.redo (journal a)))
    world_with = joined s w journal x.run.world c outcome claimed w.durable w.acked (λ b n. refl) (λ b n. refl) server unread mounted (journal_done (w.last a) outcome.redo (journal a)) own_log ends_then own_logged
        cached_then flying_then on_disk

    pub is_with : IsWorldOf (next s (core.Commit a) Nothing) u (put journal a (journal_done (w.last a) outcome.redo (journal a)))
    is_with = as_next u (put journal a (journal_done (w.last a) outcome.redo (journal a))) world_with

    pub ends_with : AreEnds (next s (core.Commit a) Nothing).core.servers u (put journal a (journal_done (w.last a) outcome.redo (journal a)))
    ends_with = back_ends u (put journal a (journal_done (w.last a) outcome.redo (journal a))) ends_then

    pub with_record : LeadsByOperation s w journal when first_tree a outcome (next s (core.Commit a) Nothing)
    with_record = record {
      op = op;
      clean = clean;
      leads = record {
        events = map (Fetch a) claimed ++ Do c ∷ [];
        world = u;
        run = run_to;
        is = is_with;
      };
      by = ap (λ (o : Option Redo). map (Fetch a) claimed ++ Do c ∷ known_behind w a c.op (s.core.servers a).ring (journal a) o) (sym has);
      story = record { servers = refl; opening = refl; logged = refl; first = refl; home = refl; history = refl };
      ends = ends_with;
    }

  -- ---- without one

  module _ (none : outcome.redo ≡ None) where
    abbrev ring : Ring
    ring = (s.core.servers a).ring

    abbrev pub durable : ℕ
    durable = durable_without w a c.op ring (journal a)

    abbrev pub acked : ℕ
    acked = acked_without w a c.op ring

    abbrev pub v : World
    v = after (after u (Reach a durable)) (Ack a acked)

    -- the log ends no further than its ring, and not before what is acknowledged
    ends_past : ring.reached ≤ log_end (journal a).log.slots
    ends_past = subst (λ (r : Ring). r.reached ≤ log_end (journal a).log.slots) old.ring_is (good_ends (journal a).before (journal a).log old.good).not_below

    below : w.durable a ≤ c.op
    below = at (w.durable a) (w.last a) c.op (x.run.good.logged.reached a) q.above
      where
        at : (d l n : ℕ) → d ≤ l → l < n → d ≤ n
        at d l n i j = omega (arith, i, j)

    more : w.durable a ≤ durable
    more = go (nat_le (last ring) (log_end (journal a).log.slots))
      where
        go : (b : Bool) → w.durable a ≤ (if b then c.op else w.durable a)
        go true = below
        go false = le_refl (w.durable a)

    no_more : durable ≤ c.op
    no_more = go (nat_le (last ring) (log_end (journal a).log.slots))
      where
        go : (b : Bool) → (if b then c.op else w.durable a) ≤ c.op
        go true = le_refl c.op
        go false = below

    pub known : w.acked a ≤ acked
    known = go (nat_le (last ring) ring.reached)
      where
        go : (b : Bool) → w.acked a ≤ (if b then c.op else w.acked a)
        go true = le_trans (x.run.good.logged.acks a) below
        go false = le_refl (w.acked a)

    there : acked ≤ durable
    there = go (nat_le (last ring) ring.reached) refl
      where
        all : nat_le (last ring) ring.reached ≡ true → durable ≡ c.op
        all e = ap (λ (b : Bool). if b then c.op else w.durable a) (le-leb (last ring) (log_end (journal a).log.slots) (le_trans (leb-true (last ring) ring.reached e) ends_past))

        go : (b : Bool) → nat_le (last ring) ring.reached ≡ b → (if b then c.op else w.acked a) ≤ durable
        go true e = subst (λ n. c.op ≤ n) (sym (all e)) (le_refl c.op)
        go false e = le_trans (x.run.good.logged.acks a) more

    lease : w.now ≤ w.expiry a
    lease =
        subst (λ n. n ≤ w.expiry a) (sym x.run.world.tied.lives.now)
        (subst (λ n. s.core.now ≤ n) (sym (x.run.world.tied.lives.expiry a ∙ ap (λ b. if b then s.core.now + LEASE_TICKS else (s.core.servers a).expiry) (no_host a server)))
        (under_lease s.core.now (s.core.servers a).expiry
        (leases (setting_of x.run.reached.script x.run.reached.segments x.run.reached.number) x.run.reached.disk s x.run.reached.run a server up)))

    pub may_reach : CanReach u a durable
    may_reach = record { more = more; there = subst (λ n. durable ≤ n) (sym (put_same w.last a c.op)) no_more; lease = lease }

    pub may_ack : CanAck (after u (Reach a durable)) a acked
    may_ack = record { there = subst (λ n. acked ≤ n) (sym (put_same w.durable a durable)) there }

    bare_log : IsLogOf (s.core.servers a).phase (ring_after (s.core.servers a) outcome) s.core.now (each_of_server a (flight_after outcome) s.core.flights) s.disk (sector_log v a) a (journal_done (w.last a) outcome.redo (journal a))
    bare_log =
        subst (λ (o : Option Redo). IsLogOf (s.core.servers a).phase (appended_some ring o) s.core.now (each_of_server a (flight_after outcome) s.core.flights) s.disk (sector_log v a) a (journal_done (w.last a) o (journal a))) (sym none)
        (subst (λ d. At d (put w.acked a acked a) (put w.last a c.op a) (put w.log a (redo_of c ∷ w.log a) a)) (sym (put_same w.durable a durable))
        (subst (λ k. At durable k (put w.last a c.op a) (put w.log a (redo_of c ∷ w.log a) a)) (sym (put_same w.acked a acked))
        (subst (λ l. At durable acked l (put w.log a (redo_of c ∷ w.log a) a)) (sym (put_same w.last a c.op))
        (subst (λ r. At durable acked c.op r) (sym (put_same w.log a (redo_of c ∷ w.log a)))
        (commits_without s w journal when first_tree numbers a outcome server x.run x.at x.numbered op none)))))
      where
        At : (d k l : ℕ) → List Redo → Type 0
        At d k l r = IsLogOf (s.core.servers a).phase ring s.core.now (each_of_server a (flight_after outcome) s.core.flights) s.disk
            (record (log_without w c ring (journal a).log.slots) { durable = d; acked = k; last = l; records = r }) a (journal_done (w.last a) None (journal a))

    -- marks stay where they lie, as no less is acknowledged than before
    risen : (n : ℕ) → w.acked n ≤ put w.acked a acked n
    risen n = at_put (λ k. w.acked n ≤ k) w.acked a acked n (λ e. subst (λ i. w.acked i ≤ acked) (sym e) known) (λ i. le_refl (w.acked n))

    one_known : (b t : ℕ) (j : Journal) (y : Server) → AtCached (IsEnd j.ends y.ring.reached (w.acked b) b (Done c ∷ settled w.history)) (value_at y.cache t) (u.slot b t) (u.page b t) →
        AtCached (IsEnd j.ends y.ring.reached (put w.acked a acked b) b (Done c ∷ settled w.history)) (value_at y.cache t) (u.slot b t) (u.page b t)
    one_known b t j y ends =
        cached_on (IsEnd j.ends y.ring.reached (w.acked b) b (Done c ∷ settled w.history)) (IsEnd j.ends y.ring.reached (put w.acked a acked b) b (Done c ∷ settled w.history))
        (end_stays j.ends y.ring.reached (w.acked b) y.ring.reached (put w.acked a acked b) b (Done c ∷ settled w.history) (le_refl y.ring.reached) (risen b)) (value_at y.cache t) (u.slot b t) (u.page b t) ends

    ends_known : AreEnds (put s.core.servers a (committed_by outcome (s.core.servers a))) v (put journal a (journal_done (w.last a) outcome.redo (journal a)))
    ends_known b t who = one_known b t (put journal a (journal_done (w.last a) outcome.redo (journal a)) b) (put s.core.servers a (committed_by outcome (s.core.servers a)) b) (ends_then b t who)

    bare_logged : IsTrue (is_all_reached (ring_after (s.core.servers a) outcome)) → c.op ≤ put w.acked a acked a
    bare_logged all =
        subst (λ k. c.op ≤ k) (sym (put_same w.acked a acked))
        (go (eqb-true ring.reached (last ring) (subst (λ (o : Option Redo). IsTrue (is_all_reached (appended_some ring o))) none all)))
      where
        go : ring.reached ≡ last ring → c.op ≤ acked
        go e = subst (λ (b : Bool). c.op ≤ (if b then c.op else w.acked a)) (sym (le-leb (last ring) ring.reached (subst (λ n. n ≤ ring.reached) e (le_refl ring.reached)))) (le_refl c.op)

    world_without : IsWorldBy (committed s.core a outcome) s.disk v (put journal a (journal_done (w.last a) outcome.redo (journal a)))
    world_without = joined s w journal x.run.world c outcome claimed (put w.durable a durable) (put w.acked a acked) (λ b n. put_other w.durable a durable b n) (λ b n. put_other w.acked a acked b n) server unread mounted
        (journal_done (w.last a) outcome.redo (journal a)) bare_log ends_known bare_logged
        (λ b t. cached_then b t) (λ e. let f = flying_then e in record { flight = f.flight; bytes = f.bytes; shown = f.shown }) (λ t e. on_disk t e)

    pub run_without : Run w (map (Fetch a) claimed ++ Do c ∷ Reach a durable ∷ Ack a acked ∷ []) v
    run_without = run_on w (map (Fetch a) claimed) (fetched_world w a claimed) (sectors_are_fetched w a claimed (op.done clean).1.can.up (op.done clean).0.once (op.done clean).1.fetched)
        (Do c ∷ Reach a durable ∷ Ack a acked ∷ []) v (goes (op.done clean).1.can (goes may_reach (goes may_ack stays)))

    pub is_without : IsWorldOf (next s (core.Commit a) Nothing) v (put journal a (journal_done (w.last a) outcome.redo (journal a)))
    is_without = as_next v (put journal a (journal_done (w.last a) outcome.redo (journal a))) world_without

    pub ends_without : AreEnds (next s (core.Commit a) Nothing).core.servers v (put journal a (journal_done (w.last a) outcome.redo (journal a)))
    ends_without = back_ends v (put journal a (journal_done (w.last a) outcome.redo (journal a))) ends_known

    pub without_record : LeadsByOperation s w journal when first_tree a outcome (next s (core.Commit a) Nothing)
    without_record = record {
      op = op;
      clean = clean;
      leads = record {
        events = map (Fetch a) claimed ++ Do c ∷ Reach a durable ∷ Ack a acked ∷ [];
        world = v;
        run = run_without;
        is = is_without;
      };
      by = ap (λ (o : Option Redo). map (Fetch a) claimed ++ Do c ∷ known_behind w a c.op (s.core.servers a).ring (journal a) o) (sym none);
      story = record { servers = refl; opening = refl; logged = refl; first = refl; home = refl; history = refl };
      ends = ends_without;
    }

pub commits_with : CoresAreInOrder → CachedBlocksAreWhole → SegmentsAreSole → SetCoversAreTrue → RecoveriesAreOfTheDead → LeasesLast → CommitsWithRecordsAreEvents
commits_with order cached sole covers of_dead leases s w journal when first_tree numbers a outcome redo x has = with_record order cached sole covers of_dead leases s w journal when first_tree numbers a outcome x redo has

pub commits_without_records : CoresAreInOrder → CachedBlocksAreWhole → SegmentsAreSole → SetCoversAreTrue → RecoveriesAreOfTheDead → LeasesLast → CommitsWithoutRecordsAreEvents
commits_without_records order cached sole covers of_dead leases s w journal when first_tree numbers a outcome x none = without_record order cached sole covers of_dead leases s w journal when first_tree numbers a outcome x none
