-- What else stands beside a moment goes on at each step, field by field.
use Rattle.std.proofs.Common.{◌≡◌, ◌≤◌, ◌<◌, ◌⊎◌, ◌+◌, ℕ, inl, inr, Bool, true, false, IsTrue, List, [], Some, length, refl, sym, ap, ◌∙◌, subst, arith}
use Rattle.std.specs.List.{Contains}
use Rattle.std.proofs.lemmas.Bool.{eq-eqb, eqb-true, false≢true}
use Rattle.tree_definitions.specs.Tree.{FileTree}
use Rattle.disk_definitions.proofs.SameLogs.{log_records_same}
use Rattle.disk_definitions.specs.Logs.{log_end, log_records}
use Rattle.disk_definitions.specs.Replay.{slots_of}
use Rattle.ring_definitions.proofs.GoodLogs.{good_ends}
use Rattle.ring_definitions.specs.Rings.{Ring, last, ring_at}
use Rattle.core_definitions.specs.Cores.{stage}
use Rattle.core_definitions.specs.Events.{Event, Arrive, Heard}
use Rattle.core_definitions.specs.LineGuards.{is_server}
use Rattle.core_definitions.specs.Lines.{Finishing, Stage}
use Rattle.core_definitions.specs.Rings.{is_all_reached}
use Rattle.core_definitions.specs.Runs.{State as RunMoment, Makes, Step, Event_, next}
use Rattle.core_definitions.specs.Servers as life
use Rattle.core_definitions.specs.Servers.{is_dead, is_in_mount, is_off}
use Rattle.core_facts.specs.Stamps.{StampsAreWithinLeases}
use Rattle.core_line_steps.specs.Numbers.{UnderWayIsNumbered}
use Rattle.sector_world.specs.Histories.{Entry, settled}
use Rattle.sector_world.specs.World.{World}
use Rattle.sector_world.specs.World.Phase.{Off, Up, Dead}
use Rattle.core_world.specs.Journals.{IsJournal, IsOwn, Journal, journal_at, sector_log}
use Rattle.core_world.specs.Steps.{IsReached, Leads}
use Rattle.core_world.specs.Ties.{phase_of}
use Rattle.core_commit_steps.specs.Fits.{RecordsOfLinesFit}
use Rattle.core_commit_steps.specs.Moments.{LastsAreSettled}
use Rattle.core_commits.specs.Moments.{LinesAreNumbered}
use Rattle.core_histories.specs.Steps.{HasStoryAt, HasStoryOf}
use Rattle.core_histories.specs.Tellings.{IsTold}
use Rattle.core_log_marks.proofs.Counting.{beside_own}
use Rattle.core_log_marks.proofs.Standing.{journal_on}
use Rattle.core_log_marks.specs.Accounts.{AccountsFor, AreUpTo}
use Rattle.core_log_marks.specs.Keeping.{AreReported, ReportsStay}
use Rattle.core_log_marks.specs.Steps.{AccountsStay, CommitsAreAccountedFor, GoesOnBeside, MountsAreAccountedFor, StandingIsDurable}
use Rattle.core_log_steps.specs.Journals as logs
use Rattle.core_log_steps.specs.Journals.{CommitsNameThese, HaveSameLogs}
use Rattle.core_log_steps.specs.Steps.{AreFit, AreStanding, HasLogRoom, LogsGoOnBeside}
use Rattle.core_order.specs.Versions.{AreVersioned, GoesOnBy, JournalsGoOn, VersionsStay}
use Rattle.core_run_ties.specs.Ties.{StandsFurther}
use Rattle.core_runs.specs.Journals.{journals_next}
use Rattle.core_runs.specs.Kept.{IsKeptAlong, StandsBeside}
use Rattle.headline_histories.specs.OffLogs.{OffLogsAreUntouched}
use Rattle.headline_histories.specs.Starts.{IsSameStart, RunsKeepStarts}
use Rattle.core_run_reports.proofs.Entries.{GoesBy, Phases, goes_by, without_entry}
use Rattle.core_run_reports.proofs.Naming.{same_logs}
use Rattle.core_run_reports.proofs.Numbered.{numbered_so}
use Rattle.core_run_reports.proofs.Still.{still}
use Rattle.core_run_reports.proofs.Tales.{Aside, Doing, Leaving, Mounting, Tale, tale}
use Rattle.core_run_reports.specs.Laws.{FurtherStays}

pub record FurtherLaws : Type 0 where
  pub under_way : UnderWayIsNumbered
  pub fits : RecordsOfLinesFit
  pub names : CommitsNameThese
  pub logs : LogsGoOnBeside
  pub within : StampsAreWithinLeases
  pub reports : ReportsStay
  pub versions : VersionsStay
  pub starts : RunsKeepStarts
  pub untouched : OffLogsAreUntouched
  pub mounts : MountsAreAccountedFor
  pub commits : CommitsAreAccountedFor
  pub stay : AccountsStay
  pub durable : StandingIsDurable

-- ---- phases

off_world : (p : life.Phase) → is_off p ≡ true → phase_of p ≡ Off
off_world life.Off o = refl
off_world life.Up o = absurd (false≢true o)
off_world life.Still o = absurd (false≢true o)
off_world (life.Doomed fate) o = absurd (false≢true o)
off_world life.Dead o = absurd (false≢true o)

up_off : Up ≡ Off → ⊥
up_off e = cc

dead_off : Dead ≡ Off → ⊥
dead_off e = cc

dead_up : Dead ≡ Up → ⊥
dead_up e = cc

pub world_off : (p : life.Phase) → phase_of p ≡ Off → is_off p ≡ true
world_off life.Off e = refl
world_off life.Up e = absurd (up_off e)
world_off life.Still e = absurd (up_off e)
world_off (life.Doomed fate) e = absurd (up_off e)
world_off life.Dead e = absurd (dead_off e)

mount_world : (p : life.Phase) → IsTrue (is_in_mount p) → phase_of p ≡ Up
mount_world life.Off m = absurd (false≢true m)
mount_world life.Up m = refl
mount_world life.Still m = refl
mount_world (life.Doomed fate) m = refl
mount_world life.Dead m = absurd (false≢true m)

world_mount : (p : life.Phase) → phase_of p ≡ Up → IsTrue (is_in_mount p)
world_mount life.Off e = absurd (up_off (sym e))
world_mount life.Up e = refl
world_mount life.Still e = refl
world_mount (life.Doomed fate) e = refl
world_mount life.Dead e = absurd (dead_up e)

mount_on : (p : life.Phase) → IsTrue (is_in_mount p) → is_off p ≡ false
mount_on life.Off m = absurd (false≢true m)
mount_on life.Up m = refl
mount_on life.Still m = refl
mount_on (life.Doomed fate) m = refl
mount_on life.Dead m = refl

-- ---- rings

begun_reached : (e : ℕ) → IsTrue (is_all_reached (ring_at e))
begun_reached e = eq-eqb e (last (ring_at e)) (same e)
  where
    same : (n : ℕ) → n ≡ n + 0 + 0
    same n = omega arith

-- a ring that ends where one does that is acknowledged to its end, and whose acknowledged numbers aren't below, is so
still_reached : (old new : Ring) → last new ≡ last old → old.reached ≤ new.reached → IsTrue (is_all_reached old) → IsTrue (is_all_reached new)
still_reached old new same more all =
    eq-eqb new.reached (last new) (at new.reached (length new.above) (length new.waiting) old.reached (last old) same more (eqb-true old.reached (last old) all))
  where
    at : (n b c m l : ℕ) → n + b + c ≡ l → m ≤ n → m ≡ l → n ≡ n + b + c
    at n b c m l e h i = omega (arith, e, h, i)

le_on : (n m k : ℕ) → n ≤ m → m ≤ k → n ≤ k
le_on n m k h i = omega (arith, h, i)

own_beside : (a n : ℕ) (w u : World) → GoesOnBeside a w u → IsOwn a n (settled w.history) → IsOwn a n (settled u.history)
own_beside a n w u (inl h) own = subst (λ (l : List Entry). IsOwn a n (settled l)) (sym h) own
own_beside a n w u (inr x) own = subst (λ (l : List Entry). IsOwn a n (settled l)) (sym x.1) (beside_own a n x.0 w.history x.2 own)

-- ---- a step

module _ (laws : FurtherLaws) (first : World) (s v : RunMoment) (w : World) (journal : ℕ → Journal) (when : ℕ → ℕ) (first_tree : FileTree) (numbers : List ℕ) (step : Step s v)
    (kept : IsKeptAlong (StandsFurther first) s w journal when first_tree numbers) (leads : Leads w v (journals_next s v w step journal))
    (story : HasStoryAt when first_tree numbers s v w leads.world kept.told step) (stands : StandsBeside v leads.world (journals_next s v w step journal) when first_tree numbers) where
  abbrev u : World
  u = leads.world

  abbrev then_ : ℕ → Journal
  then_ = journals_next s v w step journal

  abbrev r : IsReached s
  r = kept.beside.run.reached

  by : GoesBy w u
  by = goes_by w u leads.events leads.run

  numbered : (a : ℕ) (at : Stage) → stage s.core a ≡ Some at → LinesAreNumbered s w when first_tree numbers a
  numbered a at e = numbered_so laws.under_way s w journal when first_tree numbers kept.beside a at e

  lives : (a : ℕ) → w.phase a ≡ phase_of (s.core.servers a).phase
  lives a = kept.beside.run.world.tied.lives.phase a

  lives_then : (a : ℕ) → u.phase a ≡ phase_of (v.core.servers a).phase
  lives_then a = leads.is.tied.lives.phase a

  there : (a : ℕ) → IsTrue (is_server a) → is_off (s.core.servers a).phase ≡ false →
      IsJournal (s.core.servers a).phase (s.core.servers a).ring s.core.now s.core.flights s.disk (sector_log w a) a (journal a)
  there a server on = journal_on (s.core.servers a).phase w s a (s.core.servers a).ring (journal a) on (kept.beside.run.world.journals a server)

  there_then : (a : ℕ) → IsTrue (is_server a) → is_off (v.core.servers a).phase ≡ false →
      IsJournal (v.core.servers a).phase (v.core.servers a).ring v.core.now v.core.flights v.disk (sector_log u a) a (then_ a)
  there_then a server on = journal_on (v.core.servers a).phase u v a (v.core.servers a).ring (then_ a) on (leads.is.journals a server)

  tale_of : (a : ℕ) → IsTrue (is_server a) → Tale s w u a (journal a) (then_ a)
  tale_of a server =
      tale laws.stay laws.commits s w journal when first_tree numbers kept.beside.run numbered (λ b i on. (good_ends (journal b).before (journal b).log (there b i on).good).given) kept.told u by v step
      story a server

  -- ---- began, room and reports

  began_then : IsSameStart first u
  began_then =
      let x : IsSameStart w u = laws.starts w u leads.events leads.run in
      let y : IsSameStart first w = kept.further.began in
      record { servers = x.servers ∙ y.servers; opening = x.opening ∙ y.opening; logged = x.logged ∙ y.logged; first = x.first ∙ y.first; home = x.home ∙ y.home }

  fit : AreFit s
  fit a server outcome redo at is = laws.fits s w journal when first_tree numbers a outcome redo kept.beside.run (numbered a (Finishing outcome) at) at is

  standing : AreStanding s journal
  standing = record { logs = kept.logs.logs; room = kept.further.room }

  same : HaveSameLogs then_ (logs.journals_next s v step journal)
  same = same_logs laws.names s v w journal step

  room_then : (a : ℕ) → IsTrue (is_server a) → HasLogRoom v a
  room_then = (laws.logs s v step journal then_ r fit standing same).room

  reports_then : AreReported v then_
  reports_then = laws.reports s v journal then_ r step kept.logs.logs (λ a server dead over. still laws.within s r w journal a server dead over v step) kept.further.reports

  -- ---- versions

  on_before : (a : ℕ) → (w.phase a ≡ Off → u.phase a ≡ Off) → is_off (v.core.servers a).phase ≡ false → is_off (s.core.servers a).phase ≡ false
  on_before a off on = go (is_off (s.core.servers a).phase) refl
    where
      go : (b : Bool) → is_off (s.core.servers a).phase ≡ b → b ≡ false
      go false e = refl
      go true e = absurd (false≢true (sym on ∙ world_off (v.core.servers a).phase (sym (lives_then a) ∙ off (lives a ∙ off_world (s.core.servers a).phase e))))

  not_left : (a : ℕ) → u.phase a ≡ Off → is_off (v.core.servers a).phase ≡ false → ⊥
  not_left a o on = false≢true (sym on ∙ world_off (v.core.servers a).phase (sym (lives_then a) ∙ o))

  pub journals_on : JournalsGoOn s v leads.world journal (journals_next s v w step journal)
  journals_on = record { on = λ a server was on. going a server was on (tale_of a server); anew = λ a server was on. begins a was on (tale_of a server) }
    where
      going : (a : ℕ) → IsTrue (is_server a) → is_off (s.core.servers a).phase ≡ false → is_off (v.core.servers a).phase ≡ false → Tale s w u a (journal a) (then_ a) → GoesOnBy u a (journal a) (then_ a)
      going a server was on (Aside x) = record { before = x.journal.account.before; placed = λ p i. inl (subst (λ l. Contains l p) x.journal.account.placed i) }
      going a server was on (Mounting x) = absurd (false≢true (sym was ∙ x.off))
      going a server was on (Doing x) = x.versions (there_then a server on).records
      going a server was on (Leaving o) = absurd (not_left a o on)

      begins : (a : ℕ) → IsTrue (is_off (s.core.servers a).phase) → is_off (v.core.servers a).phase ≡ false → Tale s w u a (journal a) (then_ a) → then_ a ≡ journal_at (slots_of s.disk a)
      begins a was on (Aside x) = absurd (false≢true (sym (on_before a x.off on) ∙ was))
      begins a was on (Mounting x) = x.journal
      begins a was on (Doing x) = absurd (false≢true (sym (on_before a x.off on) ∙ was))
      begins a was on (Leaving o) = absurd (not_left a o on)

  versions_then : AreVersioned v then_
  versions_then = laws.versions s v u journal then_ r step kept.logs.logs leads.is stands.run.good journals_on kept.further.versions

  -- ---- last operations

  ring_still : (a : ℕ) → IsTrue (is_server a) → is_off (s.core.servers a).phase ≡ false → is_off (v.core.servers a).phase ≡ false → u.last a ≡ w.last a → (then_ a).ends ≡ (journal a).ends →
      (journal a).log.ring.reached ≤ (then_ a).log.ring.reached → IsTrue (is_all_reached (s.core.servers a).ring) → IsTrue (is_all_reached (v.core.servers a).ring)
  ring_still a server was on last_is ends_are more =
      let j = there a server was in
      let k = there_then a server on in
      still_reached (s.core.servers a).ring (v.core.servers a).ring (sym k.counted.ends_at ∙ ap (λ f. f (u.last a)) ends_are ∙ ap (journal a).ends last_is ∙ j.counted.ends_at)
      (subst (λ (x : Ring). x.reached ≤ (v.core.servers a).ring.reached) j.ring_is (subst (λ (x : Ring). (journal a).log.ring.reached ≤ x.reached) k.ring_is more))

  lasts_then : LastsAreSettled v.core.servers u
  lasts_then a server mount = go (tale_of a server)
    where
      on : is_off (v.core.servers a).phase ≡ false
      on = mount_on (v.core.servers a).phase mount

      up : u.phase a ≡ Up
      up = lives_then a ∙ mount_world (v.core.servers a).phase mount

      Goal : Type 0
      Goal = IsOwn a (u.last a) (settled u.history) ⊎ IsTrue (is_all_reached (v.core.servers a).ring)

      go : Tale s w u a (journal a) (then_ a) → Goal
      go (Mounting x) = inr (subst (λ z. IsTrue (is_all_reached z)) (sym (ap (λ (k : Journal). k.log.ring) x.journal) ∙ (there_then a server on).ring_is) (begun_reached (log_end (slots_of s.disk a))))
      go (Doing x) = inl x.own
      go (Leaving o) = absurd (up_off (sym up ∙ o))
      go (Aside x) = aside (kept.further.lasts a server (world_mount (s.core.servers a).phase (sym (lives a) ∙ x.up up)))
        where
          aside : IsOwn a (w.last a) (settled w.history) ⊎ IsTrue (is_all_reached (s.core.servers a).ring) → Goal
          aside (inl own) = inl (subst (λ n. IsOwn a n (settled u.history)) (sym x.last) (own_beside a (w.last a) w u x.beside own))
          aside (inr all) = inr (ring_still a server (on_before a x.off on) on x.last x.journal.account.ends x.journal.reached all)

  -- ---- accounts

  durable_before : (a : ℕ) → IsTrue (is_server a) → AreUpTo (w.durable a) (log_records (slots_of s.disk a))
  durable_before a server = laws.durable s w journal kept.beside.run.world kept.beside.run.good kept.logs.logs kept.further.accounts a server

  account_then : (a : ℕ) → IsTrue (is_server a) → is_off (v.core.servers a).phase ≡ false → AccountsFor (then_ a) u a
  account_then a server on = go (tale_of a server)
    where
      go : Tale s w u a (journal a) (then_ a) → AccountsFor (then_ a) u a
      go (Aside x) = laws.stay w u (journal a) (then_ a) a x.beside x.last (by.durable a) x.journal.account ((kept.further.accounts a server).journal (on_before a x.off on))
      go (Mounting x) = subst (λ k. AccountsFor k u a) (sym x.journal) (laws.mounts w u a (slots_of s.disk a) (durable_before a server) x.mounted)
      go (Doing x) = x.accounts ((kept.further.accounts a server).journal (on_before a x.off on))
      go (Leaving o) = absurd (not_left a o on)

-- the log on the disk of a server that is off behind a step is as it was
module _ (untouched : OffLogsAreUntouched) (s : RunMoment) (w u : World) (when : ℕ → ℕ) (first_tree : FileTree) (numbers : List ℕ) (r : IsReached s)
    (lives : (a : ℕ) → w.phase a ≡ phase_of (s.core.servers a).phase) (x : GoesBy w u) (told : IsTold when first_tree numbers s w) (a : ℕ) (server : IsTrue (is_server a)) (off : u.phase a ≡ Off) where
  was_off : u.history ≡ w.history → w.phase a ≡ Off
  was_off history = go (subst (λ l. Phases a l (w.phase a) (u.phase a)) (without_entry w u x history) (x.phase a))
    where
      was : (w.phase a ≡ Off) ⊎ ⊥ → w.phase a ≡ Off
      was (inl o) = o
      was (inr l) = absurd l

      go : Phases a [] (w.phase a) (u.phase a) → w.phase a ≡ Off
      go (inl m) = absurd m
      go (inr n) = was (n.was off)

  event_disk : (event : Event) (heard : Heard) (makes : Makes s event heard) → HasStoryOf when first_tree numbers s w u told event → (slot : ℕ) → slot < 256 →
      slots_of (next s event heard).disk a slot ≡ slots_of s.disk a slot
  event_disk (Arrive ticket) heard makes story slot low =
      untouched s (next s (Arrive ticket) heard) r (Event_ (Arrive ticket) heard makes) a slot server (world_off (s.core.servers a).phase (sym (lives a) ∙ was_off story.history)) low
  event_disk event heard makes story slot low = refl

  off_disk : (v : RunMoment) (step : Step s v) → HasStoryAt when first_tree numbers s v w u told step → (slot : ℕ) → slot < 256 → slots_of v.disk a slot ≡ slots_of s.disk a slot
  off_disk v (Event_ event heard makes) story slot low = event_disk event heard makes story slot low
  off_disk v step story slot low = refl

pub further_stays : FurtherLaws → FurtherStays
further_stays laws first s v w journal when first_tree numbers step kept leads story stands logs = record {
  room = room_then laws first s v w journal when first_tree numbers step kept leads story stands;
  lasts = lasts_then laws first s v w journal when first_tree numbers step kept leads story stands;
  accounts = λ a server. record {
    rest = λ off. at_rest a server off;
    journal = λ on. account_then laws first s v w journal when first_tree numbers step kept leads story stands a server on;
  };
  reports = reports_then laws first s v w journal when first_tree numbers step kept leads story stands;
  versions = versions_then laws first s v w journal when first_tree numbers step kept leads story stands;
  began = began_then laws first s v w journal when first_tree numbers step kept leads story stands;
}
  where
    by_run : GoesBy w leads.world
    by_run = goes_by w leads.world leads.events leads.run

    at_rest : (a : ℕ) → IsTrue (is_server a) → IsTrue (is_off (v.core.servers a).phase) → AreUpTo (leads.world.durable a) (log_records (slots_of v.disk a))
    at_rest a server off redo i =
        le_on redo.op.0 (w.durable a) (leads.world.durable a)
        (durable_before laws first s v w journal when first_tree numbers step kept leads story stands a server redo (subst (λ l. Contains l redo) records_are i)) (by_run.durable a)
      where
        records_are : log_records (slots_of v.disk a) ≡ log_records (slots_of s.disk a)
        records_are =
            log_records_same (slots_of v.disk a) (slots_of s.disk a)
            (off_disk laws.untouched s w leads.world when first_tree numbers kept.beside.run.reached (λ b. kept.beside.run.world.tied.lives.phase b) by_run kept.told a server
            (leads.is.tied.lives.phase a ∙ off_world (v.core.servers a).phase off) v step story)
