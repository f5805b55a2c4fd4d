-- A server that is off behind a step was off before it, or leaves by it, through an unmount or a close: then its log has the records of its last mount. Or its log was recovered: then it has none to keep.
use Rattle.std.proofs.Common.{◌≡◌, ◌≢◌, ◌≤◌, ◌⊎◌, ◌||◌, ◌&&◌, not, ℕ, inl, inr, Bool, true, false, IsTrue, List, [], ◌∷◌, map, fold, max, Some, refl, sym, ap, ◌∙◌, subst, arith}
use Rattle.std.proofs.lemmas.Bool.{and_parts, cases_eq, eq-eqb, false≢true}
use Rattle.frang_base.specs.declared.change.Redo.{Redo}
use Rattle.frang_base.specs.declared.op.Op.TheVariants as op
use Rattle.frang_base.specs.declared.reply.Reply.TheVariants as reply
use Rattle.tree_definitions.specs.Touched.{is_sync, is_unmount}
use Rattle.tree_definitions.specs.Tree.{FileTree}
use Rattle.disk_definitions.proofs.Listed.{Among, among_mapped, max_reached}
use Rattle.disk_definitions.specs.Logs.{greatest_operation, log_records}
use Rattle.disk_definitions.specs.Replay.{greatest_of, slots_of}
use Rattle.core_definitions.specs.Cores.{clean_at}
use Rattle.core_definitions.specs.EndGuards.{is_through}
use Rattle.core_definitions.specs.Events.{Event, Answer, Close, Commit, Finish, Heard, Nothing}
use Rattle.core_definitions.specs.LineGuards.{is_server}
use Rattle.core_definitions.specs.Lines.{Finishing}
use Rattle.core_definitions.specs.Recoveries.{Recovery}
use Rattle.core_definitions.specs.Rings.{is_all_reached}
use Rattle.core_definitions.specs.Runs.{State as RunMoment, Makes, Step, Event_, next}
use Rattle.core_definitions.specs.Servers.{is_off, is_synced, is_up}
use Rattle.core_laws.proofs.Membership.{in_contains}
use Rattle.core_laws.proofs.Memory.{given_due}
use Rattle.cache_definitions.specs.Caches.{any_cached, is_dirty_bytes}
use Rattle.sector_world.specs.Histories as histories
use Rattle.sector_world.specs.Histories.{Entry}
use Rattle.sector_world.specs.Histories.Entry.{Did, Mounted, Recovered, Synced}
use Rattle.sector_world.specs.World.{World, Phase}
use Rattle.sector_world.specs.World.Phase.{Off, Up, Dead}
use Rattle.core_world.specs.Journals.{Journal}
use Rattle.core_commits.proofs.Reclaiming.{up_of}
use Rattle.core_commits.specs.Moments.{operation_at}
use Rattle.core_commits.specs.Standing.{tree_now}
use Rattle.core_histories.specs.Steps.{HasItsOperation, HasStoryAt, HasStoryOf}
use Rattle.core_histories.specs.Told.{HasItsStory}
use Rattle.core_lives.proofs.Answering.{IsOpenOf, open_of, sync_is, unmount_is}
use Rattle.core_lives.proofs.Emptying.{clean_parts}
use Rattle.core_lives.specs.Idle.{begins_mount, ends_mount, tells_sync}
use Rattle.core_log_marks.specs.Accounts.{AreUpTo}
use Rattle.core_log_marks.specs.Keeping.{LogsKeepWhatIsDurable}
use Rattle.core_log_marks.specs.Steps.{StandingIsDurable}
use Rattle.core_run_ties.specs.Ties.{StandsFurther}
use Rattle.core_runs.specs.Kept.{IsKeptAlong}
use Rattle.stop_laws.specs.Sure.{has_mounted}
use Rattle.headline_histories.specs.Closed.{EachOfItsMount, HasItsRecords}
use Rattle.headline_histories.specs.OffLogs.{GoesOnByOthers, IsOfOthers, LeavingLogsHaveTheirRecords, OffLogsKeepTheirRecords}
use Rattle.headline_runs.specs.Along.{OffRecordsGoOn}
use Rattle.core_run_reports.proofs.Entries.{GoesBy, Phases, goes_by, last_by, leaves_in, mounts_in, with_entry, without_entry}
use Rattle.core_run_reports.proofs.Further.{world_off}
use Rattle.core_run_reports.proofs.Tales.{found, up_not_off}

pub record OffLaws : Type 0 where
  pub keep : OffLogsKeepTheirRecords
  pub leave : LeavingLogsHaveTheirRecords
  pub kept : LogsKeepWhatIsDurable
  pub standing : StandingIsDurable

up_off : Up ≡ Off → ⊥
up_off e = cc

dead_off : Dead ≡ Off → ⊥
dead_off e = cc

-- the greatest of operations up to a number isn't above it
greatest_up_to : (k : ℕ) (records : List Redo) → AreUpTo k records → greatest_operation records ≤ k
greatest_up_to k records up = go (max_reached 0 (map (λ (r : Redo). r.op.0) records))
  where
    none : (n : ℕ) → n ≡ 0 → n ≤ k
    none n e = omega (arith, e)

    go : (fold max 0 (map (λ (r : Redo). r.op.0) records) ≡ 0) ⊎ Among (fold max 0 (map (λ (r : Redo). r.op.0) records)) (map (λ (r : Redo). r.op.0) records) → fold max 0 (map (λ (r : Redo). r.op.0) records) ≤ k
    go (inl e) = none (fold max 0 (map (λ (r : Redo). r.op.0) records)) e
    go (inr i) =
        let r = among_mapped (λ (r : Redo). r.op.0) records (fold max 0 (map (λ (r : Redo). r.op.0) records)) i in
        subst (λ n. n ≤ k) r.2 (up r.0 (in_contains records r.0 r.1))

-- where all is acknowledged that was done, and no more is done, no more is durable behind it
same_durable : (acked last durable then last_then : ℕ) → last ≤ acked → acked ≤ durable → durable ≤ then → then ≤ last_then → last_then ≡ last → then ≡ durable
same_durable acked last durable then last_then a b c d e = omega (arith, a, b, c, d, e)

-- ---- what is acknowledged as a server says that all is synced

module _ (s : RunMoment) (c : ℕ) where
  abbrev AllReached : Type 0
  AllReached = IsTrue (is_all_reached (s.core.servers c).ring)

  unmounted_reached : Makes s (Answer c) Nothing → IsTrue (ends_mount s.core c) → AllReached
  unmounted_reached makes asked = (clean_parts s.core c due.1).reached
    where
      x : IsOpenOf s.core c op.Unmount
      x = open_of s.core c is_unmount op.Unmount unmount_is asked makes.can.can.due

      due : IsTrue (is_up (s.core.servers c).phase) × IsTrue (clean_at s.core c)
      due = and_parts (is_up (s.core.servers c).phase) (clean_at s.core c) (given_due (is_up (s.core.servers c).phase && clean_at s.core c) reply.Ok x.answer x.own)

  synced_reached : Makes s (Answer c) Nothing → IsTrue (tells_sync s.core c) → AllReached
  synced_reached makes tells = (and_parts (is_all_reached (s.core.servers c).ring) (not (any_cached is_dirty_bytes (s.core.servers c).cache)) due.1).0
    where
      x : IsOpenOf s.core c op.Sync
      x = open_of s.core c is_sync op.Sync sync_is tells makes.can.can.due

      due : IsTrue (is_up (s.core.servers c).phase) × IsTrue (is_synced (s.core.servers c))
      due = and_parts (is_up (s.core.servers c).phase) (is_synced (s.core.servers c)) (given_due (is_up (s.core.servers c).phase && is_synced (s.core.servers c)) reply.Ok x.answer x.own)

  answered_reached : Makes s (Answer c) Nothing → (ends_mount s.core c || tells_sync s.core c) ≡ true → AllReached
  answered_reached makes = go (ends_mount s.core c) refl
    where
      go : (b : Bool) → ends_mount s.core c ≡ b → (b || tells_sync s.core c) ≡ true → AllReached
      go true e i = unmounted_reached makes e
      go false e i = synced_reached makes i

-- ---- what the history says of the server, of whose log it is given that it keeps its records where others went on

module _ (laws : OffLaws) (first : World) (s : RunMoment) (w : World) (journal : ℕ → Journal) (when : ℕ → ℕ) (first_tree : FileTree) (numbers : List ℕ)
    (kept : IsKeptAlong (StandsFurther first) s w journal when first_tree numbers) (v : RunMoment) (u : World) (then_ : ℕ → Journal) (by : GoesBy w u)
    (all : IsKeptAlong (StandsFurther first) v u then_ when first_tree numbers) (a : ℕ) (server : IsTrue (is_server a)) (off : u.phase a ≡ Off)
    (stays : is_off (s.core.servers a).phase ≡ true → GoesOnByOthers a w u → w.phase a ≡ Off → has_mounted a u.history ≡ true → HasItsRecords v u a) where
  abbrev Goal : Type 0
  Goal = has_mounted a u.history ≡ true → HasItsRecords v u a

  was : (entries : List Entry) → by.entries ≡ entries → (mounts_in a entries → ⊥) → (leaves_in a entries → ⊥) → w.phase a ≡ Off
  was entries same none remains = go (subst (λ es. Phases a es (w.phase a) (u.phase a)) same (by.phase a))
    where
      at : (w.phase a ≡ Off) ⊎ leaves_in a entries → w.phase a ≡ Off
      at (inl o) = o
      at (inr l) = absurd (remains l)

      go : Phases a entries (w.phase a) (u.phase a) → w.phase a ≡ Off
      go (inl m) = absurd (none m)
      go (inr n) = at (n.was off)

  was_off : w.phase a ≡ Off → is_off (s.core.servers a).phase ≡ true
  was_off o = world_off (s.core.servers a).phase (sym (kept.beside.run.world.tied.lives.phase a) ∙ o)

  keeps : GoesOnByOthers a w u → w.phase a ≡ Off → Goal
  keeps others o = stays (was_off o) others o

  quiet : u.history ≡ w.history → Goal
  quiet history = keeps (inl history) (was [] (without_entry w u by history) (λ m. m) (λ l. l))

  other : (e : Entry) → u.history ≡ e ∷ w.history → IsOfOthers a e → (mounts_in a (e ∷ []) → ⊥) → (leaves_in a (e ∷ []) → ⊥) → Goal
  other e history others none remains = keeps (inr (e, history, others)) (was (e ∷ []) (with_entry w u by e history) none remains)

  apart_from : (c : ℕ) → (a ≡ c → ⊥) → (a ≡ c) ⊎ ⊥ → ⊥
  apart_from c apart (inl e) = apart e
  apart_from c apart (inr none) = none

  -- it mounted, and did nothing since
  mounted : (n : ℕ) → u.history ≡ Mounted a n ∷ w.history → Goal
  mounted n history has = record {
    within = greatest_up_to (u.durable a) (log_records (slots_of v.disk a)) (laws.standing v u then_ all.beside.run.world all.beside.run.good all.logs.logs all.further.accounts a server);
    records = subst (λ h. EachOfItsMount (λ c. c.changes ≢ [] → c.op ≤ greatest_of v.disk a) a h) (sym history) (λ apart. absurd (apart refl));
  }

  -- its log was recovered
  recovered : (k : ℕ) → u.history ≡ Recovered a k ∷ w.history → Goal
  recovered k history has = absurd (false≢true (sym none ∙ sym (ap (has_mounted a) history) ∙ has))
    where
      none : has_mounted a (Recovered a k ∷ w.history) ≡ false
      none = ap (λ b. not b && has_mounted a w.history) (eq-eqb a a refl)

  -- it left, or was off
  said : (n : ℕ) → u.history ≡ Synced a n ∷ w.history → v.disk ≡ s.disk → IsTrue (is_all_reached (s.core.servers a).ring) → Goal
  said n history disk reached = go (w.phase a) refl
    where
      last_is : u.last a ≡ w.last a
      last_is = by.last a ∙ ap (λ l. last_by l w.last a) (with_entry w u by (Synced a n) history)

      durable_is : u.durable a ≡ w.durable a
      durable_is =
          same_durable (w.acked a) (w.last a) (w.durable a) (u.durable a) (u.last a) (kept.beside.run.world.tied.logged a reached) (kept.beside.run.good.logged.acks a) (by.durable a) (all.beside.run.good.logged.reached a) last_is

      leaves : w.phase a ≢ Off → Goal
      leaves on has =
          laws.leave s v w u when first_tree numbers a n kept.told kept.beside.run.lines (sym (ap (has_mounted a) history) ∙ has)
          (laws.kept s w journal when first_tree numbers
          (record {
            world = kept.beside.run.world;
            good = kept.beside.run.good;
            lines = kept.beside.run.lines;
            logs = kept.logs.logs;
            accounts = kept.further.accounts;
            reports = kept.further.reports;
          })
          kept.beside.sixteen kept.told a on)
          disk all.beside.run.good off history durable_is

      go : (p : Phase) → w.phase a ≡ p → Goal
      go Off e = keeps (inr (Synced a n, history, tt)) e
      go Up e = leaves (λ o. up_off (sym e ∙ o))
      go Dead e = leaves (λ o. dead_off (sym e ∙ o))

  -- ---- each event

  synced : (c : ℕ) → u.history ≡ Synced c (w.last c) ∷ w.history → v.disk ≡ s.disk → IsTrue (is_all_reached (s.core.servers c).ring) → Goal
  synced c history disk reached = go (cases_eq a c)
    where
      go : (a ≡ c) ⊎ (a ≡ c → ⊥) → Goal
      go (inl e) = said (w.last c) (subst (λ n. u.history ≡ Synced n (w.last c) ∷ w.history) (sym e) history) disk (subst (λ n. IsTrue (is_all_reached (s.core.servers n).ring)) (sym e) reached)
      go (inr apart) = other (Synced c (w.last c)) history tt (λ m. m) (apart_from c apart)

  did : (c : ℕ) (done : histories.Commit) → done.by ≡ c → u.history ≡ Did done ∷ w.history → is_off (s.core.servers c).phase ≡ false → Goal
  did c done by_it history up = go (cases_eq a c)
    where
      go : (a ≡ c) ⊎ (a ≡ c → ⊥) → Goal
      go (inl e) =
          absurd (false≢true (sym (ap (λ n. is_off (s.core.servers n).phase) e ∙ up) ∙ was_off (was (Did done ∷ []) (with_entry w u by (Did done) history) (λ m. m) (λ l. l))))
      go (inr apart) = other (Did done) history (λ e. apart (sym e ∙ by_it)) (λ m. m) (λ l. l)

  committed : (c : ℕ) → HasItsOperation when first_tree s w u c → Goal
  committed c y =
      did c (operation_at s w when (tree_now when first_tree w) c y.outcome y.op) refl y.entry.history
      (up_not_off (s.core.servers c).phase (up_of s.core.setting s.core.locks c (s.core.servers c) (Finishing y.outcome) y.at))

  answered : (c : ℕ) → Makes s (Answer c) Nothing → v.disk ≡ s.disk → HasItsStory (begins_mount s.core c) (ends_mount s.core c || tells_sync s.core c) w u c → Goal
  answered c makes disk = go (begins_mount s.core c) (ends_mount s.core c || tells_sync s.core c) refl
    where
      mounts : u.history ≡ Mounted c (w.last c) ∷ w.history → (a ≡ c) ⊎ (a ≡ c → ⊥) → Goal
      mounts history (inl e) = mounted (w.last c) (subst (λ n. u.history ≡ Mounted n (w.last c) ∷ w.history) (sym e) history)
      mounts history (inr apart) = other (Mounted c (w.last c)) history (λ e. apart (sym e)) (apart_from c apart) (λ l. l)

      go : (b d : Bool) → (ends_mount s.core c || tells_sync s.core c) ≡ d → HasItsStory b d w u c → Goal
      go true d is y = mounts y.history (cases_eq a c)
      go false true is y = synced c y.history disk (answered_reached s c makes is)
      go false false is y = quiet y.history

  closed : (c : ℕ) → v.disk ≡ s.disk → (b : Bool) → clean_at s.core c ≡ b → HasItsStory false b w u c → Goal
  closed c disk true is y = synced c y.history disk (clean_parts s.core c is).reached
  closed c disk false is y = quiet y.history

  ended : (d k : ℕ) → u.history ≡ Recovered d k ∷ w.history → Goal
  ended d k history = go (cases_eq a d)
    where
      go : (a ≡ d) ⊎ (a ≡ d → ⊥) → Goal
      go (inl e) = recovered k (subst (λ n. u.history ≡ Recovered n k ∷ w.history) (sym e) history)
      go (inr apart) = other (Recovered d k) history (λ e. apart (sym e)) (λ m. m) (apart_from d apart)

  by_event : (event : Event) (heard : Heard) → v ≡ next s event heard → Makes s event heard → HasStoryOf when first_tree numbers s w u kept.told event → Goal
  by_event (Commit c) heard is m story = committed c story
  by_event (Answer c) heard is m story = answered c (subst (λ h. Makes s (Answer c) h) m.hears m) (ap (λ z. z.disk) is) story
  by_event (Close c) heard is m story = closed c (ap (λ z. z.disk) is) (clean_at s.core c) refl story
  by_event (Finish helper) heard is m story =
      let has : (recovery : Recovery) × ((s.core.servers helper).recovery ≡ Some recovery) = found (is_through s.core) (s.core.servers helper).recovery m.can.can.ended in
      ended has.0.dead (w.durable has.0.dead) (story has.0 has.1).entry.history
  by_event event heard is m story = quiet story.history

-- ---- each step

module _ (laws : OffLaws) (first : World) (s : RunMoment) (w : World) (journal : ℕ → Journal) (when : ℕ → ℕ) (first_tree : FileTree) (numbers : List ℕ)
    (kept : IsKeptAlong (StandsFurther first) s w journal when first_tree numbers) (u : World) (then_ : ℕ → Journal) (by : GoesBy w u) (a : ℕ) (server : IsTrue (is_server a)) (off : u.phase a ≡ Off)
    (before : w.phase a ≡ Off → has_mounted a w.history ≡ true → HasItsRecords s w a) where
  stays_off : (v : RunMoment) (step : Step s v) → is_off (s.core.servers a).phase ≡ true → GoesOnByOthers a w u → w.phase a ≡ Off → has_mounted a u.history ≡ true → HasItsRecords v u a
  stays_off v step o others was = laws.keep s v w u a kept.beside.run.reached step server o others (by.durable a) (before was)

  at_step : (v : RunMoment) (step : Step s v) → IsKeptAlong (StandsFurther first) v u then_ when first_tree numbers → HasStoryAt when first_tree numbers s v w u kept.told step →
      has_mounted a u.history ≡ true → HasItsRecords v u a
  at_step v (Event_ event heard makes) all story =
      by_event laws first s w journal when first_tree numbers kept (next s event heard) u then_ by all a server off (stays_off (next s event heard) (Event_ event heard makes)) event heard refl makes story
  at_step v step all story = quiet laws first s w journal when first_tree numbers kept v u then_ by all a server off (stays_off v step) story.history

pub off_go_on : OffLaws → OffRecordsGoOn
off_go_on laws first s v w journal when first_tree numbers step kept x before a server off =
    at_step laws first s w journal when first_tree numbers kept x.leads.world _ (goes_by w x.leads.world x.leads.events x.leads.run) a server off (before a server) v step x.all x.story
