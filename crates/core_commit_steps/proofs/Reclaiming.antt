-- An Again that reclaims is Reclaim up to the operation of the last record that the ring gives up; its journal has these given up, and all that stands beside stays.
use Rattle.std.proofs.Common.{◌≡◌, ◌↔◌, ◌⊎◌, ◌+◌, ◌*◌, ◌^◌, ◌≤◌, ◌<◌, ◌==◌, ◌&&◌, ◌||◌, ℕ, Bool, true, false, not, if◌then◌else◌, max, min, nat_eq, nat_le, IsTrue, List, [], ◌∷◌, Option, Some, None, refl, sym, ap, ◌∙◌, subst, inl, inr, arith, le_trans}
use Rattle.std.specs.List.{filter, list_any}
use Rattle.std.specs.Option.{IsSome}
use Rattle.std.proofs.lemmas.Bool.Decides.{nat_tests}
use Rattle.std.proofs.lemmas.Bool.{cases_eq, cases_lt, eq-eqb, eqb-true, false≢true, le-leb, leb-true, or_left, or_right}
use Rattle.frang_base.specs.Functions.{member, put}
use Rattle.frang_base.proofs.Basics.{at_put, put_other, put_same}
use Rattle.frang_base.specs.declared.change.Change.{Change}
use Rattle.frang_base.specs.declared.change.Redo.{Redo}
use Rattle.sector_bytes.specs.Blocks.{version_of}
use Rattle.sector_bytes.specs.Replays.{above, change_at}
use Rattle.sector_bytes.specs.SectorMaps.{value_at}
use Rattle.disk_definitions.proofs.Listed.{Among, among_filter, among_filtered, among_mapped}
use Rattle.disk_definitions.specs.Logs.{log_end, log_records}
use Rattle.disk_definitions.specs.Replay.{slots_of}
use Rattle.ring_definitions.specs.declared.ring.Named.{Named}
use Rattle.ring_definitions.specs.RingRuns.{Placed}
use Rattle.ring_definitions.specs.RingRuns.LogEvent.{GiveUp}
use Rattle.ring_definitions.specs.RingSteps.{IsGoodLog}
use Rattle.ring_definitions.specs.Rings.{Ring, is_oldest_of, oldest_of, reclaim_end_of, reclaimed, reclaimed_of, sent}
use Rattle.ring_definitions.proofs.GoodLogs.{good_ends, good_run, stays_good}
use Rattle.line_histories.specs.LinePlans.{sector_plan}
use Rattle.line_histories.proofs.Framed.{lines_framed}
use Rattle.tree_definitions.specs.Tree.{FileTree}
use Rattle.core_definitions.specs.Cores.{stage}
use Rattle.core_definitions.specs.Events.{Again, Nothing}
use Rattle.core_definitions.specs.LineEffects.{again_by}
use Rattle.core_definitions.specs.LineGuards.{is_server}
use Rattle.core_definitions.specs.Lines.{Finishing}
use Rattle.core_definitions.specs.Plans.{Outcome}
use Rattle.core_definitions.specs.Recoveries.{redos}
use Rattle.core_definitions.specs.Rings.{is_all_reached}
use Rattle.core_definitions.specs.Runs.{State as RunMoment, Event_, Makes, Step, next}
use Rattle.core_definitions.specs.Scripts.{host_party}
use Rattle.core_definitions.specs.Servers as life
use Rattle.core_definitions.specs.Servers.{Server, is_dead, is_in_mount, is_up}
use Rattle.core_definitions.specs.Settings.{LogRules, disk_logs, setting_of}
use Rattle.core_laws.proofs.Kept.{setting_of_run}
use Rattle.core_laws.proofs.Membership.{contains_in, in_contains}
use Rattle.sector_world.specs.Guards.{CanReclaim, IsBelow}
use Rattle.sector_world.specs.Histories.{Commit, Each, own, redo_of, settled}
use Rattle.sector_world.specs.Kinds.{Good}
use Rattle.sector_world.specs.Steps.{after}
use Rattle.sector_world.specs.Steps.Event.{Reclaim}
use Rattle.sector_world.specs.Steps.Run.{goes, stays}
use Rattle.sector_world.specs.World.{World}
use Rattle.sector_world.proofs.Every.{good_step}
use Rattle.sector_world.proofs.HistoryLaws.{each_map}
use Rattle.sector_world.proofs.Left.{legal_left}
use Rattle.core_world.specs.Beside.{AreEnds, AreOpen, AtCached, IsEnd}
use Rattle.core_world.specs.Journals.{AreJournals, AreReadings, AreRecords, IsJournal, IsLogOf, IsOwn, Journal, SectorLog, is_above, records_above, records_up_to, sector_log, with_event, with_event_of}
use Rattle.core_world.specs.Readings.{AllInPlace, AreNamed, ReadsAs, changing}
use Rattle.core_world.specs.Steps.{IsWorldOf}
use Rattle.core_world.specs.Ties.{is_working}
use Rattle.core_world.proofs.Same.{put_as}
use Rattle.core_lives.proofs.Alike.{journal_mounted, mounted_journal}
use Rattle.core_lives.specs.Cleared.{ClearedAreFree}
use Rattle.core_lives.specs.Room.{lines_left, reach_of}
use Rattle.core_commits.specs.Agains.{AreOldest, IsReclaim}
use Rattle.core_commits.specs.Standing.{IsOfLines}
use Rattle.core_commits.specs.Zeros.{FreePagesAreZeros}
use Rattle.core_commits.proofs.Reclaiming.{agains_reclaim, up_of}
use Rattle.core_commits.proofs.Zeroing.{events_keep_zeros}
use Rattle.core_line_steps.specs.Pending.{FreeDirtIsPending}
use Rattle.core_line_steps.proofs.Ended.{up_mounted}
use Rattle.core_log_writes.proofs.Reaching.{NoneRecovers}
use Rattle.core_readings.proofs.Ascending.{Ascends, laid_ascends}
use Rattle.core_commit_steps.specs.Moments.{LastsAreSettled, LineGoesOn, StandsBeside}
use Rattle.core_commit_steps.specs.Steps.{AreOfLine}
use Rattle.core_commit_steps.proofs.Beside.{held_on, sets_on}
use Rattle.core_commit_steps.proofs.Committing.{not_dead}
use Rattle.core_commit_steps.proofs.Facts.{Facts}
use Rattle.core_commit_steps.proofs.GivingUp.{OpsDown, OpsUp, Rises, above_has, above_rise, below_at, changing_has, cut, down_changing, each_in_place, given_low, given_to, has_changing, has_turned, in_place_both, in_place_parts, left_over, one_in_place, turned_has, turned_up, up_to_has}
use Rattle.core_commit_steps.proofs.Going.{reached_step}
use Rattle.core_commit_steps.proofs.Named.{all_named, entry}
use Rattle.core_commit_steps.proofs.OwnRecords.{own_down, own_each, own_has, own_over}

-- ---- changes

some_of : (o : Option Change) → IsSome o → (x : Change) × (o ≡ Some x)
some_of None e = absurd (false≢true e)
some_of (Some x) e = (x, refl)

found_at : (changes : List Change) (s : ℕ) (x : Change) → change_at changes s ≡ Some x → Among x changes × (x.sector.0 ≡ s)
found_at [] s x e = absurd (cc)
found_at (y ∷ ys) s x e = go (nat_eq y.sector.0 s) refl e (found_at ys s x)
  where
    go : (b : Bool) → nat_eq y.sector.0 s ≡ b → (if b then Some y else change_at ys s) ≡ Some x → (change_at ys s ≡ Some x → Among x ys × (x.sector.0 ≡ s)) → Among x (y ∷ ys) × (x.sector.0 ≡ s)
    go true t i more = let same : y ≡ x = cc in (inl (sym same), ap (λ (c : Change). c.sector.0) (sym same) ∙ eqb-true y.sector.0 s t)
    go false t i more = let rest = more i in (inr rest.0, rest.1)

any_has : (xs : List Named) (s : ℕ) (x : Named) → Among x xs → x.sector.0 ≡ s → list_any (λ y. y.sector.0 == s) xs ≡ true
any_has [] s x i e = absurd i
any_has (y ∷ ys) s x (inl same) e = or_left (y.sector.0 == s) (list_any (λ z. z.sector.0 == s) ys) (eq-eqb y.sector.0 s (ap (λ (z : Named). z.sector.0) (sym same) ∙ e))
any_has (y ∷ ys) s x (inr i) e = or_right (y.sector.0 == s) (list_any (λ z. z.sector.0 == s) ys) (any_has ys s x i e)

-- ---- up to which operation

module _ (w : World) (g : Good w) (a : ℕ) (jn : Journal) (good : IsGoodLog jn.before jn.log) (records : AreRecords jn (sector_log w a)) where
  abbrev pub ps : List Placed
  ps = jn.log.placed

  abbrev pub floor : ℕ
  floor = w.floor a

  abbrev pub given : ℕ
  given = reclaim_end_of 64 jn.log.ring

  abbrev pub k : ℕ
  k = given_to given floor (filter (is_above floor) ps)

  rises : (t : ℕ) × Ascends t ps
  rises =
      let run = good_run jn.before good.events good.low good.high good.sealed good.happened in
      (max (log_end jn.before + 1) (log_end jn.before), subst (Ascends (max (log_end jn.before + 1) (log_end jn.before))) (sym good.left.placed) (laid_ascends (log_end jn.before) (log_end jn.before) [] run.rest _ run.laid))

  log_is : w.log a ≡ own a (w.floor a) (settled w.history)
  log_is = g.logged.logs a

  in_log : (r : Redo) → Among r (records_above floor ps) → Among r (w.log a)
  in_log r i = changing_has (w.log a) r (has_turned (changing (w.log a)) r (subst (Among r) records.placed i))

  ops_up : OpsUp floor (records_above floor ps)
  ops_up =
      subst (OpsUp floor) (sym records.placed)
      (turned_up floor (changing (w.log a)) (down_changing (w.log a) (subst OpsDown (sym log_is) (own_down a floor (settled w.history) g.logged.ops)))
      (λ q i. own_over a floor (settled w.history) q (subst (Among q) log_is (changing_has (w.log a) q i))))

  rising : Rises floor rises.0 (filter (is_above floor) ps)
  rising = above_rise floor rises.0 ps ops_up rises.1

  cut_here : (floor ≤ k) × ((p : Placed) → Among p (filter (is_above floor) ps) → (p.redo.op.0 ≤ k) ↔ (p.first ≤ given))
  cut_here = cut given floor rises.0 (filter (is_above floor) ps) rising

  pub more : floor ≤ k
  more = cut_here.0

  old_given : jn.log.ring.given_up ≤ given
  old_given = low jn.log.ring.given_up (sent jn.log.ring) (good_ends jn.before jn.log good).given
    where
      low : (n m : ℕ) → n ≤ m → n ≤ min (n + 64) m
      low n m l = omega (arith, l)

  -- the records that are given up are those up to the operation
  pub cut_all : (p : Placed) → Among p ps → (p.redo.op.0 ≤ k) ↔ (p.first ≤ given)
  cut_all p i = go (nat_le p.redo.op.0 floor) refl
    where
      go : (b : Bool) → nat_le p.redo.op.0 floor ≡ b → (p.redo.op.0 ≤ k) ↔ (p.first ≤ given)
      go false e = cut_here.1 p (among_filter (is_above floor) ps p i (ap not e))
      go true e =
          let low = leb-true p.redo.op.0 floor e in
          ((λ l. le_trans ((records.given_up p (in_contains ps p i)).0 low) old_given), (λ l. le_trans low more))

  pub there : k ≤ w.last a
  there = given_low given floor (w.last a) (filter (is_above floor) ps) (g.logged.floored a) (λ p i. its p (among_filtered (is_above floor) ps p i))
    where
      above_it : (p : Placed) → is_above floor p ≡ true → floor < p.redo.op.0
      above_it p e = past p.redo.op.0 floor e
        where
          past : (n m : ℕ) → not (nat_le n m) ≡ true → m < n
          past n m i = grind (arith, nat_tests, i)

      its : (p : Placed) → Among p ps × (is_above floor p ≡ true) → p.redo.op.0 ≤ w.last a
      its p i =
          own_each a floor (λ n. n ≤ w.last a) (settled w.history) (each_map (λ c. c.op ≤ w.last c.by) (λ c. c.by ≡ a → floor < c.op → c.op ≤ w.last a) (λ c l by over. subst (λ b. c.op ≤ w.last b) by l) (settled w.history) g.logged.below)
          p.redo (subst (Among p.redo) log_is (in_log p.redo (above_has floor ps p i.0 (above_it p i.1))))

  -- ---- what the oldest records name

  -- an own record up to it names what it changes
  named_oldest : (c : Commit) (n : ℕ) → Among (redo_of c) (w.log a) → floor < c.op → c.op ≤ k → IsSome (change_at c.changes n) → list_any (λ x. x.sector.0 == n) (oldest_of 64 jn.log.ring) ≡ true
  named_oldest c n own over low some =
      let x = some_of (change_at c.changes n) some in
      let f = found_at c.changes n x.0 x.1 in
      let placed = among_mapped (λ (p : Placed). p.redo) (filter (is_above floor) ps) (redo_of c)
      (subst (Among (redo_of c)) (sym records.placed) (turned_has (changing (w.log a)) (redo_of c) (has_changing (w.log a) (redo_of c) (some_changes c.changes x.0 f.0) own))) in
      let p : Placed = placed.0 in
      let here = among_filtered (is_above floor) ps p placed.1 in
      let op_is : p.redo.op.0 ≡ c.op = ap (λ (r : Redo). r.op.0) placed.2 in
      let begun : p.first ≤ given = (cut_all p here.0).0 (subst (λ m. m ≤ k) (sym op_is) low) in
      let behind : jn.log.ring.given_up < p.first = not_given p here.0 (subst (λ m. floor < m) (sym op_is) over) in
      any_has (oldest_of 64 jn.log.ring) n (entry x.0 p.first)
      (among_filter (is_oldest_of 64 jn.log.ring) jn.log.ring.named (entry x.0 p.first)
      (all_named jn.before jn.log good p x.0 here.0 (subst (λ (r : Redo). Among x.0 r.changes) (sym placed.2) f.0) behind) (le-leb p.first (jn.log.ring.given_up + 64) (within jn.log.ring.given_up (sent jn.log.ring) p.first begun))) f.1
    where
      some_changes : (cs : List Change) (y : Change) → Among y cs → cs ≡ [] → ⊥
      some_changes cs y i e = subst (Among y) e i

      within : (u t f : ℕ) → f ≤ min (u + 64) t → f ≤ u + 64
      within u t f l = omega (arith, l)

      not_given : (p : Placed) → Among p ps → floor < p.redo.op.0 → jn.log.ring.given_up < p.first
      not_given p i over = go (cases_lt jn.log.ring.given_up p.first)
        where
          none : (n m : ℕ) → n ≤ m → m < n → ⊥
          none n m l j = omega (arith, l, j)

          go : (jn.log.ring.given_up < p.first) ⊎ (p.first ≤ jn.log.ring.given_up) → jn.log.ring.given_up < p.first
          go (inl l) = l
          go (inr l) = absurd (none p.redo.op.0 floor ((records.given_up p (in_contains ps p i)).1 l) over)

  pub oldest : (n : ℕ) → Each (λ c. c.by ≡ a → floor < c.op → c.op ≤ k → IsSome (change_at c.changes n) → IsTrue (list_any (λ x. x.sector.0 == n) (oldest_of 64 jn.log.ring))) (settled w.history)
  oldest n =
      each_map (λ c. c.by ≡ a → floor < c.op → Among (redo_of c) (own a floor (settled w.history)))
      (λ c. c.by ≡ a → floor < c.op → c.op ≤ k → IsSome (change_at c.changes n) → IsTrue (list_any (λ x. x.sector.0 == n) (oldest_of 64 jn.log.ring)))
      (λ c f by over low some. named_oldest c n (subst (Among (redo_of c)) (sym log_is) (f by over)) over low some) (settled w.history) (own_has a floor (settled w.history))

  -- ---- the records then

  abbrev pub log_then : SectorLog
  log_then = record (sector_log w a) { floor = k; records = above k (w.log a) }

  abbrev pub then_ : Journal
  then_ = with_event jn GiveUp

  pub records_then : CanReclaim w a k → AreRecords then_ log_then
  records_then can = record {
    ends_at_last = records.ends_at_last;
    given_up = λ p i. cut_all p (contains_in ps p i);
    placed = left_over floor k ps (w.log a) more records.placed;
    old = λ s. let parts = in_place_parts (log_records jn.before) (records_up_to floor ps) s (version_of (w.disk s)) (records.old s) in
        in_place_both (log_records jn.before) (records_up_to k ps) s (version_of (w.disk s)) parts.0 (each_in_place k s (version_of (w.disk s)) ps (λ p i low. one s parts.1 p i low));
  }
    where
      one : (s : ℕ) → AllInPlace (records_up_to floor ps) s (version_of (w.disk s)) → (p : Placed) → Among p ps → p.redo.op.0 ≤ k → IsBelow (change_at p.redo.changes s) (version_of (w.disk s))
      one s old p i low = go (cases_lt floor p.redo.op.0)
        where
          go : (floor < p.redo.op.0) ⊎ (p.redo.op.0 ≤ floor) → IsBelow (change_at p.redo.changes s) (version_of (w.disk s))
          go (inl over) = below_at k (w.log a) s (version_of (w.disk s)) (can.written s) p.redo (in_log p.redo (above_has floor ps p i over)) low
          go (inr l) = one_in_place (records_up_to floor ps) s (version_of (w.disk s)) old p.redo (up_to_has floor ps p i l)

-- ---- an Again

module _ (facts : Facts) (s : RunMoment) (w : World) (journal : ℕ → Journal) (when : ℕ → ℕ) (first_tree : FileTree) (numbers : List ℕ) (a : ℕ) (outcome : Outcome) (makes : Makes s (Again a) Nothing)
    (at : stage s.core a ≡ Some (Finishing outcome)) (b : StandsBeside s w journal when first_tree numbers) where
  abbrev v : RunMoment
  v = next s (Again a) Nothing

  abbrev step : Step s v
  step = Event_ (Again a) Nothing makes

  server : IsTrue (is_server a)
  server = makes.can.can.server

  up : IsTrue (is_up (s.core.servers a).phase)
  up = up_of s.core.setting s.core.locks a (s.core.servers a) (Finishing outcome) at

  mounted : is_in_mount (s.core.servers a).phase ≡ true
  mounted = up_mounted (s.core.servers a).phase up

  abbrev ring : Ring
  ring = (s.core.servers a).ring

  abbrev jn : Journal
  jn = journal a

  old : IsJournal life.Up (s.core.servers a).ring s.core.now s.core.flights s.disk (sector_log w a) a (journal a)
  old = mounted_journal (s.core.servers a).phase mounted (s.core.servers a).ring s.core.now s.core.flights s.disk (sector_log w a) a (journal a) (b.run.world.journals a server)

  abbrev to : ℕ
  to = k w b.run.good a (journal a) old.good old.records

  logs_are : s.core.setting.logs ≡ disk_logs
  logs_are = ap (λ t. t.logs) (setting_of_run (setting_of b.run.reached.script b.run.reached.segments b.run.reached.number) b.run.reached.disk s b.run.reached.run)

  oldest_now : AreOldest s.core.setting.logs ring w a to
  oldest_now n =
      subst (λ (l : LogRules). Each (λ c. c.by ≡ a → w.floor a < c.op → c.op ≤ to → IsSome (change_at c.changes n) → IsTrue (list_any (λ x. x.sector.0 == n) (oldest_of l.quarter ring))) (settled w.history)) (sym logs_are)
      (subst (λ (r : Ring). Each (λ c. c.by ≡ a → w.floor a < c.op → c.op ≤ to → IsSome (change_at c.changes n) → IsTrue (list_any (λ x. x.sector.0 == n) (oldest_of 64 r))) (settled w.history)) old.ring_is
      (oldest w b.run.good a (journal a) old.good old.records n))

  reclaim : IsReclaim s w a to
  reclaim =
      agains_reclaim s w a to outcome b.run.world.tied b.run.good makes at (more w b.run.good a (journal a) old.good old.records) (there w b.run.good a (journal a) old.good old.records) oldest_now

  abbrev z : World
  z = after w (Reclaim a to)

  abbrev new : Server
  new = record (s.core.servers a) { ring = reclaimed_of s.core.setting.logs.quarter (s.core.servers a).ring }

  abbrev servers_then : ℕ → Server
  servers_then = put s.core.servers a (record (s.core.servers a) { ring = reclaimed_of s.core.setting.logs.quarter (s.core.servers a).ring })

  abbrev journals_then : ℕ → Journal
  journals_then = with_event_of journal a GiveUp

  -- ---- the logs

  ring_then : reclaimed jn.log.ring ≡ reclaimed_of s.core.setting.logs.quarter (s.core.servers a).ring
  ring_then = ap reclaimed old.ring_is ∙ ap (λ (l : LogRules). reclaimed_of l.quarter (s.core.servers a).ring) (sym logs_are)

  own_journal : IsJournal life.Up new.ring s.core.now s.core.flights s.disk (log_then w b.run.good a (journal a) old.good old.records) a (with_event (journal a) GiveUp)
  own_journal = record {
    good = stays_good jn.before jn.log GiveUp old.good refl;
    ring_is = ring_then;
    slots = old.slots;
    counted = old.counted;
    sent = old.sent;
    records = records_then w b.run.good a (journal a) old.good old.records reclaim.can;
  }

  own_log : IsLogOf (s.core.servers a).phase new.ring s.core.now s.core.flights s.disk (sector_log z a) a (with_event (journal a) GiveUp)
  own_log =
      subst (λ f. IsLogOf (s.core.servers a).phase new.ring s.core.now s.core.flights s.disk (record (sector_log w a) { floor = f; records = put w.log a (above to (w.log a)) a }) a (with_event (journal a) GiveUp)) (sym (put_same w.floor a to))
      (subst (λ l. IsLogOf (s.core.servers a).phase new.ring s.core.now s.core.flights s.disk (record (sector_log w a) { floor = to; records = l }) a (with_event (journal a) GiveUp)) (sym (put_same w.log a (above to (w.log a))))
      (journal_mounted (s.core.servers a).phase mounted new.ring s.core.now s.core.flights s.disk (log_then w b.run.good a (journal a) old.good old.records) a (with_event (journal a) GiveUp) own_journal))

  other_log : (n : ℕ) → IsTrue (is_server n) → (n ≡ a → ⊥) → IsLogOf (s.core.servers n).phase (s.core.servers n).ring s.core.now s.core.flights s.disk (sector_log z n) n (journal n)
  other_log n who away =
      subst (λ f. IsLogOf (s.core.servers n).phase (s.core.servers n).ring s.core.now s.core.flights s.disk (record (sector_log w n) { floor = f; records = put w.log a (above to (w.log a)) n }) n (journal n)) (sym (put_other w.floor a to n away))
      (subst (λ l. IsLogOf (s.core.servers n).phase (s.core.servers n).ring s.core.now s.core.flights s.disk (record (sector_log w n) { records = l }) n (journal n)) (sym (put_other w.log a (above to (w.log a)) n away))
      (b.run.world.journals n who))

  journals_of : AreJournals servers_then s.core.now s.core.flights s.disk z journals_then
  journals_of n who = go (cases_eq n a)
    where
      Goal : ℕ → Server → Journal → Type 0
      Goal m x j = IsLogOf x.phase x.ring s.core.now s.core.flights s.disk (sector_log z m) m j

      go : (n ≡ a) ⊎ (n ≡ a → ⊥) → Goal n (servers_then n) (journals_then n)
      go (inl e) =
          subst (λ m. Goal m (servers_then m) (journals_then m)) (sym e)
          (subst (λ (x : Server). Goal a x (journals_then a)) (sym (put_same s.core.servers a new)) (subst (Goal a new) (sym (put_same journal a (with_event (journal a) GiveUp))) own_log))
      go (inr away) =
          subst (λ (x : Server). Goal n x (journals_then n)) (sym (put_other s.core.servers a new n away))
          (subst (Goal n (s.core.servers n)) (sym (put_other journal a (with_event (journal a) GiveUp) n away)) (other_log n who away))

  -- ---- what recoveries at work read

  servers_mid : ℕ → Server
  servers_mid n = record (servers_then n) { ring = (s.core.servers n).ring }

  unread : NoneRecovers s a
  unread by recovery works has e =
      false≢true
      (sym (not_dead (s.core.servers a).phase up)
      ∙ subst (λ n. is_dead (s.core.servers n).phase ≡ true) e
      (facts.of_dead (setting_of b.run.reached.script b.run.reached.segments b.run.reached.number) b.run.reached.disk s b.run.reached.run by recovery works has).1)

  readings_then : AreReadings s.core.setting.segments servers_then z
  readings_then by recovery works has read =
      let still : IsTrue (is_working s.core.servers by) = subst (λ p. IsTrue (works_by by p)) (put_as (λ x. x.phase) s.core.servers a new refl by) works in
      let had = sym (put_as (λ x. x.recovery) s.core.servers a new refl by) ∙ has in
      subst (λ l. ReadsAs (record w { log = λ x. l }) recovery.dead (redos disk_logs recovery) × AreNamed s.core.setting.segments (record w { log = λ x. l }) recovery.dead (redos disk_logs recovery))
      (sym (put_other w.log a (above to (w.log a)) recovery.dead (unread by recovery still had))) (b.run.world.readings by recovery still had read)
    where
      works_by : ℕ → life.Phase → Bool
      works_by n p = (is_server n && is_up p) || n == host_party

  is : IsWorldOf v z journals_then
  is = record {
    tied = reclaim.tied;
    journals = subst (λ x. AreJournals (put s.core.servers a (again_by s.core.setting.logs x (s.core.servers a))) s.core.now s.core.flights s.disk z journals_then) (sym at) journals_of;
    readings = subst (λ x. AreReadings s.core.setting.segments (put s.core.servers a (again_by s.core.setting.logs x (s.core.servers a))) z) (sym at) readings_then;
  }

  good_z : Good z
  good_z = good_step w (Reclaim a to) reclaim.can b.run.good

  zeros : FreePagesAreZeros z
  zeros = events_keep_zeros w (Reclaim a to) reclaim.can b.run.good b.run.zeros

  lines_then : IsOfLines s.core.setting.segments when first_tree numbers z
  lines_then = record {
    times = b.run.lines.times;
    stands = b.run.lines.stands;
    legal = record { live = b.run.lines.legal.live; left = legal_left (sector_plan s.core.setting.segments when) (lines_framed s.core.setting.segments when) z good_z b.run.lines.legal.live z.servers };
    distinct = b.run.lines.distinct;
    follows = b.run.lines.follows;
    parameters = b.run.lines.parameters;
  }

  -- ---- beside

  same : {X : Type 0} (f : Server → X) → f new ≡ f (s.core.servers a) → (n : ℕ) → f (servers_then n) ≡ f (s.core.servers n)
  same f e n = put_as f s.core.servers a new e n

  ends_same : (n : ℕ) → (journals_then n).ends ≡ (journal n).ends
  ends_same n = at_put (λ (j : Journal). j.ends ≡ (journal n).ends) journal a (with_event (journal a) GiveUp) n (λ e. ap (λ m. (journal m).ends) (sym e)) (λ away. refl)

  slots_same : (n : ℕ) → (journals_then n).log.slots ≡ (journal n).log.slots
  slots_same n = at_put (λ (j : Journal). j.log.slots ≡ (journal n).log.slots) journal a (with_event (journal a) GiveUp) n (λ e. ap (λ m. (journal m).log.slots) (sym e)) (λ away. refl)

  record Parts (servers : ℕ → Server) : Type 0 where
    pending : FreeDirtIsPending servers z
    free : ClearedAreFree servers z
    ends : AreEnds servers z journals_then
    are_open : AreOpen servers s.core.now s.disk journals_then
    lasts : LastsAreSettled servers z
    reach : (n : ℕ) → reach_of (servers n) (slots_of s.disk n) ≡ reach_of (s.core.servers n) (slots_of s.disk n)

  parts_then : Parts servers_then
  parts_then = record {
    pending = λ n x block m e f. subst (λ p. member x p ≡ true) (sym (same (λ y. y.pending) refl n)) (b.cleared.pending n x block m e f);
    free = λ n x kept e. b.cleared.free n x kept (ap (λ c. value_at c x) (sym (same (λ y. y.cache) refl n)) ∙ e);
    ends = λ n x who.
        subst (λ f. AtCached (IsEnd f (servers_then n).ring.reached (w.acked n) n (settled w.history)) (value_at (servers_then n).cache x) (w.slot n x) (w.page n x)) (sym (ends_same n))
        (subst (λ r. AtCached (IsEnd (journal n).ends r (w.acked n) n (settled w.history)) (value_at (servers_then n).cache x) (w.slot n x) (w.page n x)) (sym (same (λ y. y.ring.reached) refl n))
        (subst (λ c. AtCached (IsEnd (journal n).ends (s.core.servers n).ring.reached (w.acked n) n (settled w.history)) (value_at c x) (w.slot n x) (w.page n x)) (sym (same (λ y. y.cache) refl n)) (b.ends n x who)));
    are_open = λ n who dead early slot low.
        b.open_ n who (ap is_dead (sym (same (λ y. y.phase) refl n)) ∙ dead) (subst (λ t. s.core.now ≤ t) (same (λ y. y.expiry) refl n) early) slot low ∙ ap (λ f. f slot) (sym (slots_same n));
    lasts = λ n who mount.
        subst (λ x. IsOwn n (w.last n) (settled w.history) ⊎ IsTrue x) (sym (same (λ y. is_all_reached y.ring) refl n)) (b.lasts n who (ap is_in_mount (sym (same (λ y. y.phase) refl n)) ∙ mount));
    reach = λ n. same (λ y. reach_of y (slots_of s.disk n)) refl n;
  }

  parts : Parts v.core.servers
  parts = subst (λ x. Parts (put s.core.servers a (again_by s.core.setting.logs x (s.core.servers a)))) (sym at) parts_then

  pub reclaims_go_on : LineGoesOn w v journals_then when first_tree numbers (AreOfLine s w journal when first_tree (Again a))
  reclaims_go_on = record {
    leads = record { events = Reclaim a to ∷ []; world = z; run = goes reclaim.can stays; is = is };
    entries = [];
    story = record { servers = refl; opening = refl; logged = refl; first = refl; home = refl; history = refl };
    by = ((to, refl), refl);
    beside = record {
      run = record {
        reached = reached_step s v b.run.reached step;
        whole = b.run.whole;
        world = is;
        good = good_z;
        zeros = zeros;
        lines = lines_then;
        sets = sets_on facts s w journal when first_tree numbers b v step;
      };
      sixteen = b.sixteen;
      asked = b.asked;
      numbered = record { done = b.numbered.done; last = b.numbered.last };
      cleared = record { pending = parts.pending; free = parts.free };
      held = held_on facts s w journal when first_tree numbers b v step;
      ends = parts.ends;
      open_ = parts.are_open;
      none = λ sector e. b.none sector e;
      acknowledged = b.acknowledged;
      lasts = parts.lasts;
      room = λ n who. subst (λ r. r + 100 * lines_left s.core.setting.script s.core.answered n ≤ 2 ^ 61) (sym (parts.reach n)) (b.room n who);
    };
  }
