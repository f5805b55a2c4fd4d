-- A mount is Ack of all that is on the disk, Mount, and Reclaim of all that came before: its log begins anew behind the one that it found.
use Rattle.std.proofs.Common.{◌≡◌, ◌≢◌, ◌↔◌, ℕ, ◌+◌, ◌-◌, ◌^◌, ◌<◌, ◌≤◌, ◌==◌, Bool, true, false, ◌&&◌, ◌||◌, if◌then◌else◌, IsTrue, IsSome, List, [], ◌∷◌, Option, Some, None, unwrap_or, nat_eq, nat_lt, le_trans, refl, sym, ap, ◌∙◌, subst, inl, arith, le_refl, append-nil, reverse}
use Rattle.std.proofs.lemmas.Bool.{and_parts, eqb-true, false≢true, ltb-true, not-true}
use Rattle.std.proofs.lemmas.Bool.Decides.{nat_tests}
use Rattle.std.proofs.lemmas.Option.{none-some, same_Some}
use Rattle.std.specs.List.{Contains}
use Rattle.frang_base.specs.Functions.{put}
use Rattle.frang_base.specs.declared.change.Redo.{Redo}
use Rattle.frang_base.specs.declared.limits.TheConstants.{LEASE_TICKS, LOG_SECTORS, SERVERS}
use Rattle.frang_base.specs.declared.op.Op.TheVariants as op
use Rattle.frang_base.specs.declared.reply.Reply.{Reply}
use Rattle.frang_base.specs.declared.reply.Reply.TheVariants as reply
use Rattle.frang_base.proofs.Basics.{at_put, by_keep, put_other, put_same}
use Rattle.tree_definitions.specs.Touched.{is_mounted}
use Rattle.tree_definitions.specs.Transcript.{is_mount}
use Rattle.sector_bytes.specs.Blocks.{Block, version_of, zero_block}
use Rattle.sector_bytes.specs.Replays.{above, change_at}
use Rattle.sector_bytes.specs.SectorMaps.{value_at}
use Rattle.sector_bytes.specs.Sectors.{sectors_of}
use Rattle.disk_definitions.proofs.SameLogs.{log_end_same}
use Rattle.disk_definitions.specs.Logs.{Slots, log_end, log_records}
use Rattle.disk_definitions.specs.Replay.{slots_of}
use Rattle.ring_definitions.specs.RingRuns.{log_at}
use Rattle.ring_definitions.specs.RingSteps.{RingsBegin}
use Rattle.ring_definitions.specs.Rings.{last, ring_at}
use Rattle.core_definitions.specs.Cores.{Core, due_at}
use Rattle.core_definitions.specs.Events.{Answer, Nothing}
use Rattle.core_definitions.specs.Flights as core
use Rattle.core_definitions.specs.LineEffects.{answered, up_after}
use Rattle.core_definitions.specs.LineGuards.{is_server}
use Rattle.core_definitions.specs.Lines.{Under}
use Rattle.core_definitions.specs.Logs.{end_of, is_read}
use Rattle.core_definitions.specs.Recoveries.{Recovery, redos}
use Rattle.core_definitions.specs.Rings.{is_all_reached}
use Rattle.core_definitions.specs.Runs.{State as RunMoment, Makes, next}
use Rattle.core_definitions.specs.Scripts.{host_party}
use Rattle.core_definitions.specs.Servers as life
use Rattle.core_definitions.specs.Servers.{Server, asks, due_if, is_dead, is_off, is_up}
use Rattle.core_definitions.specs.Settings.{Setting, disk_logs, lease_to, setting_of}
use Rattle.core_facts.specs.LogReads.{MountsReadTheDisk}
use Rattle.core_facts.specs.Stamps.{WhoLivesHasFreshWrites}
use Rattle.core_laws.proofs.Kept.{setting_of_run}
use Rattle.core_laws.proofs.Membership.{contains_in}
use Rattle.core_laws.specs.Facts.{HasNothing, OffHasNoFlights, OffHasNothing, RecoveriesAreOfTheDead}
use Rattle.core_laws.specs.Waits.{MountsReadTheirLogs}
use Rattle.sector_world.proofs.Every.{good_step}
use Rattle.sector_world.proofs.HistoryLaws.{each_map}
use Rattle.sector_world.proofs.Reclaiming.{above_own}
use Rattle.sector_world.specs.Guards.{AreBelow, CanAck, CanMount, CanReclaim, IsBelow, NotDirty}
use Rattle.sector_world.specs.Histories.{Each, Item, is_own, own, redo_of, settled}
use Rattle.sector_world.specs.Histories.Item.{Done, Doubt}
use Rattle.sector_world.specs.Kinds.{Good}
use Rattle.sector_world.specs.Logged.{AbsentUnlessUp}
use Rattle.sector_world.specs.Steps.{after, stays, goes}
use Rattle.sector_world.specs.Steps.Event.{Ack, Mount, Reclaim}
use Rattle.sector_world.specs.World.{World, Phase, Off, Up, Slot, Absent, cover, has_version}
use Rattle.core_world.specs.Journals.{AreJournals, AreReadings, IsAtRest, IsJournal, IsLogOf, Journal, journal_at, sector_log}
use Rattle.core_world.specs.Readings.{AllInPlace, AreNamed, ReadsAs, changing}
use Rattle.core_world.specs.Steps.{IsReached}
use Rattle.core_world.specs.Ties.{AreTied, IsCachedAs, IsMarkedAs, phase_of}
use Rattle.core_world.proofs.Living.{lasts}
use Rattle.core_world.proofs.Same.{put_as}
use Rattle.core_lives.proofs.Alike.{IsWorldBy, by_world}
use Rattle.core_lives.proofs.AtRest.{own_in_place}
use Rattle.core_lives.proofs.Answering.{IsOpenOf, answered_is, answered_so, mount_is, open_of}
use Rattle.core_lives.proofs.Emptying.{none_in_time}
use Rattle.core_lives.proofs.Leases.{lease_begun}
use Rattle.core_lives.proofs.Leaving.{emptied_rescues, none_of}
use Rattle.core_lives.specs.Idle.{begins_mount, is_mounted_answer}
use Rattle.core_lives.specs.Lives.{MountsLeadOn}

-- ---- all of a server's operations are given up

-- none is above its last number
none_above : (a k : ℕ) (h : List Item) → Each (λ c. c.by ≡ a → c.op ≤ k) h → own a k h ≡ []
none_above a k [] all = refl
none_above a k (Doubt m ∷ h) all = none_above a k h all
none_above a k (Done c ∷ h) all =
    by_keep (λ x. x ≡ []) (is_own a k c) (redo_of c) (own a k h) (λ e. absurd (apart e)) (λ e. none_above a k h all.1)
  where
    apart : is_own a k c ≡ true → ⊥
    apart e = go (nat_eq c.by a) refl e
      where
        go : (b : Bool) → nat_eq c.by a ≡ b → (if b then nat_lt k c.op else false) ≡ true → ⊥
        go true f i = let l : c.op ≤ k = all.0 (eqb-true c.by a f) in absurd (grind (arith, nat_tests, l, i))
        go false f i = false≢true i

below_own : (a f k s v : ℕ) (h : List Item) → Each (λ c. c.by ≡ a → IsBelow (change_at c.changes s) v) h → AreBelow k (own a f h) s v
below_own a f k s v [] all = tt
below_own a f k s v (Doubt m ∷ h) all = below_own a f k s v h all
below_own a f k s v (Done c ∷ h) all =
    by_keep (λ x. AreBelow k x s v) (is_own a f c) (redo_of c) (own a f h) (λ e. ((λ l. all.0 (by (nat_eq c.by a) refl e)), below_own a f k s v h all.1))
    (λ e. below_own a f k s v h all.1)
  where
    by : (b : Bool) → nat_eq c.by a ≡ b → (if b then nat_lt f c.op else false) ≡ true → c.by ≡ a
    by true e i = eqb-true c.by a e
    by false e i = absurd (false≢true i)

-- where a server that is up has nothing dirty, all its records are in place
all_reclaimed : (w : World) (a : ℕ) → Good w → w.phase a ≡ Up → ((s : ℕ) → NotDirty (w.slot a s)) → CanReclaim w a (w.last a)
all_reclaimed w a g up clean = record {
  up = up;
  more = g.logged.floored a;
  there = le_refl (w.last a);
  written = λ s. subst (λ l. AreBelow (w.last a) l s (version_of (w.disk s))) (sym (g.logged.logs a))
      (below_own a (w.floor a) (w.last a) s (version_of (w.disk s)) (settled w.history) (own_in_place w a g up clean s));
}

-- then its log is empty
log_emptied : (w : World) (a : ℕ) → Good w → above (w.last a) (w.log a) ≡ []
log_emptied w a g =
    ap (above (w.last a)) (g.logged.logs a) ∙ above_own a (w.floor a) (w.last a) (g.logged.floored a) (settled w.history)
    ∙ none_above a (w.last a) (settled w.history) (each_map (λ c. c.op ≤ w.last c.by) (λ c. c.by ≡ a → c.op ≤ w.last a) (λ c l e. subst (λ n. c.op ≤ w.last n) e l)
    (settled w.history) g.logged.below)

-- ---- who mounts

absent_off : (p : Phase) (slot : Slot) → p ≡ Off → AbsentUnlessUp p slot → slot ≡ Absent
absent_off p slot e h = subst (λ q. AbsentUnlessUp q slot) e h

off_is : (p : life.Phase) → IsTrue (is_off p) → p ≡ life.Off
off_is life.Off h = refl
off_is life.Up h = absurd (false≢true h)
off_is life.Still h = absurd (false≢true h)
off_is (life.Doomed fate) h = absurd (false≢true h)
off_is life.Dead h = absurd (false≢true h)

record Mounts (off : Bool) (answer : Reply) : Type 0 where
  is_off_so : off ≡ true
  answers : answer ≡ reply.Mounted

mounts_so : (off failed read : Bool) (answer : Reply) → (if off then (if failed then Some reply.Io else due_if read reply.Mounted) else None) ≡ Some answer →
    IsTrue (is_mounted answer) → Mounts off answer
mounts_so false failed read answer e h = absurd (none-some answer e)
mounts_so true true read answer e h = absurd (false≢true (subst (λ x. IsTrue (is_mounted x)) (sym (same_Some reply.Io answer e)) h))
mounts_so true false false answer e h = absurd (none-some answer e)
mounts_so true false true answer e h = record { is_off_so = refl; answers = sym (same_Some reply.Mounted answer e) }

pub mount_off : (s : RunMoment) (a : ℕ) → Makes s (Answer a) Nothing → IsTrue (begins_mount s.core a) → IsTrue (is_off (s.core.servers a).phase)
mount_off s a makes begins =
    let asked = and_parts (asks is_mount (s.core.servers a)) (is_mounted_answer (due_at s.core a)) begins in
    let x : IsOpenOf s.core a op.Mount = open_of s.core a is_mount op.Mount mount_is asked.0 makes.can.can.due in
    (mounts_so (is_off (s.core.servers a).phase) x.under.get_failed (is_read s.core.setting.logs x.under.slots) x.answer x.own
    (subst (λ o. IsTrue (is_mounted_answer o)) x.due asked.1)).is_off_so

-- what is known of a server whose mount is answered
pub record IsMounting (s : RunMoment) (a : ℕ) : Type 0 where
  pub server : IsTrue (is_server a)
  pub under : Under
  pub is : (s.core.servers a).under ≡ Some under
  pub going : s.core.over ≡ false
  pub off : (s.core.servers a).phase ≡ life.Off
  pub bare : HasNothing (s.core.servers a)
  pub dead : (by : ℕ) (recovery : Recovery) → IsTrue ((is_server by && is_up (s.core.servers by).phase) || by == host_party) → (s.core.servers by).recovery ≡ Some recovery →
      recovery.dead ≢ a
  pub none : (one : ℕ × core.Flight) → Contains s.core.flights one → one.1.server ≡ a → s.core.now ≤ one.1.stamp → ⊥
  pub ends : end_of s.core.setting.logs under.slots ≡ log_end (slots_of s.disk a)
  pub leads : answered s.core a ≡ answered_so s.core a under op.Mount reply.Mounted false

pub mounting : OffHasNothing → OffHasNoFlights → RecoveriesAreOfTheDead → WhoLivesHasFreshWrites → MountsReadTheirLogs → MountsReadTheDisk → (s : RunMoment) → IsReached s →
    (a : ℕ) → Makes s (Answer a) Nothing →
    IsTrue (begins_mount s.core a) → IsMounting s a
mounting nothing landed of_dead fresh whole read s r a makes begins = record {
  server = makes.can.can.server;
  under = x.under;
  is = x.is;
  going = not-true s.core.over makes.can.going;
  off = off;
  bare = nothing setting r.disk s r.run a makes.can.can.server rests;
  dead = λ by recovery who e i. false≢true (ap is_dead (sym off ∙ ap (λ n. (s.core.servers n).phase) (sym i)) ∙ (of_dead setting r.disk s r.run by recovery who e).1);
  none = none_in_time s.core a (fresh setting r.disk s r.run a (ap is_dead off)) (landed setting r.disk s r.run a makes.can.can.server rests);
  ends = ap (λ l. end_of l x.under.slots) logs_is ∙ log_end_same (sectors_of x.under.slots) (slots_of s.disk a)
      (λ slot below. at slot (value_at x.under.slots slot) refl (all_read slot (subst (λ l. slot < l.sectors) (sym logs_is) below)));
  leads = answered_is s.core a op.Mount x ∙ ap (λ answer. answered_so s.core a x.under op.Mount answer false) m.answers;
}
  where
    setting : Setting
    setting = setting_of r.script r.segments r.number

    logs_is : s.core.setting.logs ≡ disk_logs
    logs_is = ap (λ (z : Setting). z.logs) (setting_of_run setting r.disk s r.run)

    asked : IsTrue (asks is_mount (s.core.servers a)) × IsTrue (is_mounted_answer (due_at s.core a))
    asked = and_parts (asks is_mount (s.core.servers a)) (is_mounted_answer (due_at s.core a)) begins

    x : IsOpenOf s.core a op.Mount
    x = open_of s.core a is_mount op.Mount mount_is asked.0 makes.can.can.due

    m : Mounts (is_off (s.core.servers a).phase) x.answer
    m = mounts_so (is_off (s.core.servers a).phase) x.under.get_failed (is_read s.core.setting.logs x.under.slots) x.answer x.own
        (subst (λ o. IsTrue (is_mounted_answer o)) x.due asked.1)

    off : (s.core.servers a).phase ≡ life.Off
    off = off_is (s.core.servers a).phase m.is_off_so

    rests : IsTrue (is_off (s.core.servers a).phase || is_dead (s.core.servers a).phase)
    rests = ap (λ p. is_off p || is_dead p) off

    all_read : (slot : ℕ) → slot < s.core.setting.logs.sectors → IsSome (value_at x.under.slots slot)
    all_read = whole s.core a x.under x.is (none_of x.under.fixed x.unfixed) x.of (x.due ∙ ap Some m.answers)

    at : (slot : ℕ) (o : Option Block) → value_at x.under.slots slot ≡ o → IsSome o → unwrap_or o zero_block ≡ slots_of s.disk a slot
    at slot None e h = absurd (false≢true h)
    at slot (Some block) e h = read r.script r.segments r.number r.disk s r.run a x.under x.is slot block e

-- ---- the events

module _ (s : RunMoment) (w : World) (a : ℕ) (t : AreTied s.core s.disk w) (g : Good w) (q : IsMounting s a) where
  abbrev c : Core
  c = s.core

  abbrev k : ℕ
  k = w.last a

  abbrev acked : World
  acked = after w (Ack a k)

  abbrev mounted : World
  mounted = after acked (Mount a)

  abbrev begun : World
  begun = after mounted (Reclaim a k)

  abbrev new : Server
  new = up_after c q.under

  off : w.phase a ≡ Off
  off = t.lives.phase a ∙ ap phase_of q.off

  bare : (i : ℕ) → w.slot a i ≡ Absent
  bare i = absent_off (w.phase a) (w.slot a i) off (g.logged.not_up a i)

  can_ack : CanAck w a k
  can_ack = record { there = g.logged.rested a off }

  can_mount : w.servers ≡ SERVERS → CanMount acked a
  can_mount many = record {
    off = off;
    resting = λ r e i. let n = (t.rescues q.going).known r e in none-some n.0 (sym q.bare.recovery ∙ ap (λ x. (c.servers x).recovery) (sym i) ∙ n.1);
    known = subst (λ n. a < n) (sym many) (ltb-true a 16 q.server);
  }

  can_reclaim : w.servers ≡ SERVERS → CanReclaim mounted a k
  can_reclaim many = all_reclaimed mounted a (good_step acked (Mount a) (can_mount many) (good_step w (Ack a k) can_ack g)) (put_same w.phase a Up)
      (λ i. subst NotDirty (sym (bare i)) tt)

  -- ---- the ties

  begun_tied : lease_to c.setting c.now ≡ w.now + LEASE_TICKS → AreTied (record c { servers = put c.servers a new }) s.disk begun
  begun_tied m = record {
    lives = record {
      now = t.lives.now;
      phase = λ b. at_put (λ y. put w.phase a Up b ≡ phase_of y.phase) c.servers a new b
          (λ e. at_put (λ y. y ≡ Up) w.phase a Up b (λ i. refl) (λ n. absurd (n e)))
          (λ n. at_put (λ y. y ≡ phase_of (c.servers b).phase) w.phase a Up b (λ e. absurd (n e)) (λ o. t.lives.phase b));
      expiry = lease_begun c.servers w c.now a new q.server m t.lives.expiry;
      well = λ b. at_put (λ y. y.failed ≡ false → put w.phase a Up b ≡ Up → put w.sick a false b ≡ false) c.servers a new b
          (λ e i j. at_put (λ y. y ≡ false) w.sick a false b (λ o. refl) (λ n. absurd (n e)))
          (λ n i. at_put (λ y. y ≡ Up → put w.sick a false b ≡ false) w.phase a Up b (λ e. absurd (n e))
          (λ o j. at_put (λ y. y ≡ false) w.sick a false b (λ e. absurd (n e)) (λ p. t.lives.well b i j)));
    };
    locks = record { holds = t.locks.holds; taker = t.locks.taker; until = t.locks.until };
    cached = λ b i. subst (λ y. IsCachedAs (has_version w i) (cover w i) (value_at y i) (w.slot b i) (w.page b i))
        (sym (put_as (λ y. y.cache) c.servers a new (sym q.bare.cache) b)) (t.cached b i);
    marked = λ b i. at_put (λ y. IsMarkedAs y.ring.reached (put w.acked a k b) (value_at y.cache i) (w.slot b i) (w.page b i)) c.servers a new b (λ e. tt)
        (λ n. at_put (λ y. IsMarkedAs (c.servers b).ring.reached y (value_at (c.servers b).cache i) (w.slot b i) (w.page b i)) w.acked a k b (λ e. absurd (n e)) (λ o. t.marked b i));
    flying = t.flying;
    disk = t.disk;
    rescues = emptied_rescues c s.disk w t a new refl refl q.bare.recovery;
    logged = λ b. at_put (λ y. IsTrue (is_all_reached y.ring) → w.last b ≤ put w.acked a k b) c.servers a new b
        (λ e i. at_put (λ y. w.last b ≤ y) w.acked a k b (λ o. subst (λ n. w.last n ≤ k) (sym e) (le_refl k)) (λ n. absurd (n e)))
        (λ n i. at_put (λ y. w.last b ≤ y) w.acked a k b (λ e. absurd (n e)) (λ o. t.logged b i));
  }

  -- the world with this as each log
  abbrev with_log : List Redo → World
  with_log l = record w { log = λ d. l }

  -- what is read of other logs is as before
  begun_readings : AreReadings c.setting.segments c.servers w → AreReadings c.setting.segments (put c.servers a new) begun
  begun_readings old by recovery =
      at_put (λ y. IsTrue ((is_server by && is_up y.phase) || by == host_party) → y.recovery ≡ Some recovery → IsTrue (is_read disk_logs recovery.slots) →
      ReadsAs begun recovery.dead (redos disk_logs recovery) × AreNamed c.setting.segments begun recovery.dead (redos disk_logs recovery)) c.servers a new by
      (λ e who i. absurd (none-some recovery i))
      (λ n who i all. at_put (λ l. ReadsAs (with_log l) recovery.dead (redos disk_logs recovery) × AreNamed c.setting.segments (with_log l) recovery.dead (redos disk_logs recovery))
      w.log a (above k (w.log a)) recovery.dead (λ e. absurd (q.dead by recovery who i e)) (λ o. old by recovery who i all))

  -- ---- the log

  abbrev slots : Slots
  slots = slots_of s.disk a

  -- nothing is in the ring, and each operation ends where the log ends
  abbrev pub journal_begun : Journal
  journal_begun = journal_at slots

  own_below : Each (λ d. d.by ≡ a → d.op ≤ k) (settled w.history)
  own_below = each_map (λ d. d.op ≤ w.last d.by) (λ d. d.by ≡ a → d.op ≤ k) (λ d l e. subst (λ n. d.op ≤ w.last n) e l) (settled w.history) g.logged.below

  -- all of its operations are up to this number
  all_up_to : (n limit : ℕ) → k ≤ n → Each (λ d. d.by ≡ a → (d.op ≤ n) ↔ (limit ≤ limit)) (settled w.history)
  all_up_to n limit more =
      each_map (λ d. d.by ≡ a → d.op ≤ k) (λ d. d.by ≡ a → (d.op ≤ n) ↔ (limit ≤ limit)) (λ d l e. ((λ i. le_refl limit), (λ i. further d.op k n (l e) more)))
      (settled w.history) own_below
    where
      further : (x y z : ℕ) → x ≤ y → y ≤ z → x ≤ z
      further x y z p r = omega arith

  acked_all : k ≤ put w.acked a k a
  acked_all = subst (λ n. k ≤ n) (sym (put_same w.acked a k)) (le_refl k)

  emptied_so : above k (w.log a) ≡ []
  emptied_so = log_emptied w a g

  journal_good : RingsBegin → log_end slots < 2 ^ 62 → IsAtRest slots (sector_log w a) →
      IsJournal life.Up (ring_at (log_end slots)) c.now c.flights s.disk (sector_log begun a) a journal_begun
  journal_good begins high rest = record {
    good = begins slots (low (log_end slots) rest.low) high rest.sealed;
    ring_is = refl;
    slots = λ slot below. refl;
    counted = record {
      rises = λ n m l. le_refl (log_end slots);
      durable = all_up_to (w.durable a) (log_end slots) (g.logged.rested a off);
      acked = all_up_to (put w.acked a k a) (log_end slots) acked_all;
      newest = inl acked_all;
      ends_at = ends_at (log_end slots);
    };
    sent = λ one number i by purpose early. absurd (q.none one i by early);
    records = record {
      ends_at_last = λ p i. absurd (contains_in [] p i);
      given_up = λ p i. absurd (contains_in [] p i);
      placed = sym (ap (λ l. reverse (changing l)) (put_same w.log a (above k (w.log a)) ∙ emptied_so));
      old = λ i. subst (λ rs. AllInPlace rs i (version_of (w.disk i))) (sym (append-nil (log_records slots))) (rest.old i);
    };
  }
    where
      low : (n : ℕ) → LOG_SECTORS ≤ n + 1 → LOG_SECTORS - 1 ≤ n
      low n l = omega arith

      ends_at : (n : ℕ) → n ≡ last (ring_at n)
      ends_at n = omega arith

  -- another's log is as before
  other_log : (b : ℕ) → b ≢ a → sector_log begun b ≡ sector_log w b
  other_log b n i = record {
    durable = w.durable b;
    acked = put_other w.acked a k b n i;
    floor = put_other w.floor a k b n i;
    last = w.last b;
    records = put_other w.log a (above k (w.log a)) b n i;
    history = settled w.history;
    versions = λ x. version_of (w.disk x);
  }

  begun_journals : RingsBegin → log_end slots < 2 ^ 62 → (journal : ℕ → Journal) → AreJournals c.servers c.now c.flights s.disk w journal →
      AreJournals (put c.servers a new) c.now c.flights s.disk begun (put journal a journal_begun)
  begun_journals begins high journal old b who =
      at_put (λ y. IsLogOf y.phase y.ring c.now c.flights s.disk (sector_log begun b) b (put journal a journal_begun b)) c.servers a new b
      (λ e. subst (λ n. IsLogOf life.Up new.ring c.now c.flights s.disk (sector_log begun n) n (put journal a journal_begun n)) (sym e) (mine e))
      (λ n. subst (λ j. IsLogOf (c.servers b).phase (c.servers b).ring c.now c.flights s.disk (sector_log begun b) b j) (sym (put_other journal a journal_begun b n))
      (subst (λ l. IsLogOf (c.servers b).phase (c.servers b).ring c.now c.flights s.disk l b (journal b)) (sym (other_log b n)) (old b who)))
    where
      rest : b ≡ a → IsAtRest slots (sector_log w a)
      rest e = subst (λ p. IsLogOf p (c.servers a).ring c.now c.flights s.disk (sector_log w a) a (journal a)) q.off
          (subst (λ n. IsLogOf (c.servers n).phase (c.servers n).ring c.now c.flights s.disk (sector_log w n) n (journal n)) e (old b who))

      mine : b ≡ a → IsJournal life.Up new.ring c.now c.flights s.disk (sector_log begun a) a (put journal a journal_begun a)
      mine e = subst (λ j. IsJournal life.Up new.ring c.now c.flights s.disk (sector_log begun a) a j) (sym (put_same journal a journal_begun))
          (subst (λ n. IsJournal life.Up (ring_at n) c.now c.flights s.disk (sector_log begun a) a journal_begun) (sym q.ends) (journal_good begins high (rest e)))

pub mounts : OffHasNothing → OffHasNoFlights → RecoveriesAreOfTheDead → WhoLivesHasFreshWrites → MountsReadTheirLogs → MountsReadTheDisk → RingsBegin → MountsLeadOn
mounts nothing landed of_dead fresh whole read begins s w journal a r t g many high makes mount = record {
  leads = record {
    events = Ack a (w.last a) ∷ Mount a ∷ Reclaim a (w.last a) ∷ [];
    world = begun s w a t.tied g q;
    run = goes (can_ack s w a t.tied g q) (goes (can_mount s w a t.tied g q many) (goes (can_reclaim s w a t.tied g q many) stays));
    is = by_world (next s (Answer a) Nothing) (begun s w a t.tied g q) (put journal a (journal_begun s w a t.tied g q))
        (subst (λ d. IsWorldBy d s.disk (begun s w a t.tied g q) (put journal a (journal_begun s w a t.tied g q))) (sym q.leads) (record {
          tied = begun_tied s w a t.tied g q (lasts s r s.core.now ∙ ap (λ n. n + LEASE_TICKS) (sym t.tied.lives.now));
          journals = begun_journals s w a t.tied g q begins high journal t.journals;
          readings = begun_readings s w a t.tied g q t.readings;
        }));
  };
  story = record { servers = refl; opening = refl; logged = refl; first = refl; home = refl; history = refl };
  quiet = (le_trans (g.logged.acks a) (g.logged.reached a), (tt, (tt, tt)));
}
  where
    q : IsMounting s a
    q = mounting nothing landed of_dead fresh whole read s r a makes mount
