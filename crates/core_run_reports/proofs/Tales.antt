-- What a step is to each server: something beside it, at most of its log; its mount; an operation; or that it goes off, behind its recovery.
use Rattle.std.proofs.Common.{◌≡◌, ◌≤◌, ◌<◌, ◌⊎◌, ◌||◌, ◌+◌, ◌==◌, ℕ, suc, length, inl, inr, Bool, true, false, IsTrue, List, [], ◌∷◌, ◌++◌, Option, Some, None, if◌then◌else◌, refl, sym, ap, ◌∙◌, subst, arith}
use Rattle.std.specs.List.{Contains}
use Rattle.std.proofs.lemmas.Bool.{cases_eq, cases_lt, false≢true}
use Rattle.frang_base.specs.Functions.{put}
use Rattle.frang_base.specs.declared.change.Redo.{Redo}
use Rattle.frang_base.proofs.Basics.{put_other, put_same}
use Rattle.tree_definitions.specs.Tree.{FileTree}
use Rattle.disk_definitions.proofs.Listed.{Among, among_either}
use Rattle.disk_definitions.specs.Replay.{slots_of}
use Rattle.disk_definitions.specs.declared.log_sector.LogSector.{LogSector}
use Rattle.ring_definitions.specs.RingRuns.{Placed}
use Rattle.ring_definitions.specs.Rings.{Ring, begins, last, need, open_room, sent}
use Rattle.core_definitions.specs.Cores.{clean_at, stage}
use Rattle.core_definitions.specs.EndGuards.{is_recovery, is_through}
use Rattle.core_definitions.specs.Events.{Event, Commit, Answer, Close, Finish, Heard, Nothing}
use Rattle.core_definitions.specs.LineGuards.{is_server}
use Rattle.core_definitions.specs.Lines.{Finishing, Stage}
use Rattle.core_definitions.specs.Recoveries.{Recovery}
use Rattle.core_definitions.specs.Runs.{State as RunMoment, Makes, Step, Event_}
use Rattle.core_definitions.specs.Servers as life
use Rattle.core_definitions.specs.Servers.{Phase, is_off, is_up}
use Rattle.core_laws.proofs.Membership.{contains_in, in_contains}
use Rattle.sector_world.specs.Histories as histories
use Rattle.sector_world.specs.Histories.{Entry, settled}
use Rattle.sector_world.specs.Histories.Entry.{Did, Mounted, Recovered, Synced}
use Rattle.sector_world.specs.Steps.{after}
use Rattle.sector_world.specs.Steps.Event.{Do}
use Rattle.sector_world.specs.World.{World}
use Rattle.sector_world.specs.World.Phase.{Off, Up}
use Rattle.core_world.specs.Journals.{AreRecords, IsOwn, Journal, journal_at, sector_log}
use Rattle.core_commits.proofs.Reclaiming.{up_of}
use Rattle.core_commits.specs.Commits.{fetched_world}
use Rattle.core_commits.specs.Moments.{IsOfARun, LinesAreNumbered, claimed_in, operation_at}
use Rattle.core_commits.specs.Standing.{tree_now}
use Rattle.core_histories.specs.Steps.{HasItsOperation, HasStoryAt, HasStoryOf}
use Rattle.core_histories.specs.Tellings.{IsTold}
use Rattle.core_histories.specs.Told.{HasItsStory}
use Rattle.core_line_steps.specs.Marks.{journal_done}
use Rattle.core_lives.proofs.Mounting.{mount_off}
use Rattle.core_lives.specs.Idle.{begins_mount, ends_mount, tells_sync}
use Rattle.core_log_marks.specs.Accounts.{AccountsFor}
use Rattle.core_log_marks.specs.Steps.{AccountsStay, CommitsAreAccountedFor, GoesOnBeside, HasMounted, IsBeside}
use Rattle.core_order.specs.Versions.{GoesOnBy}
use Rattle.core_runs.specs.Journals.{committed_journals, journals_after, journals_next}
use Rattle.core_run_reports.proofs.Entries.{GoesBy, NoneMounts, Phases, last_by, leaves_in, mounts_in, recovers_in, with_entry, without_entry}
use Rattle.core_run_reports.proofs.Fates.{IsKept, event_keeps, kept_same}

-- beside a server: the history says nothing of it, it did nothing, and its journal is kept
pub record IsAside (w u : World) (a : ℕ) (j k : Journal) : Type 0 where
  pub journal : IsKept j k
  pub beside : GoesOnBeside a w u
  pub last : u.last a ≡ w.last a
  pub up : u.phase a ≡ Up → w.phase a ≡ Up
  pub off : w.phase a ≡ Off → u.phase a ≡ Off

-- it mounted
pub record IsMount (s : RunMoment) (w u : World) (a : ℕ) (k : Journal) : Type 0 where
  pub off : IsTrue (is_off (s.core.servers a).phase)
  pub mounted : HasMounted w u a
  pub journal : k ≡ journal_at (slots_of s.disk a)

-- it did something
pub record IsDone (w u : World) (a : ℕ) (j k : Journal) : Type 0 where
  pub off : w.phase a ≡ Off → u.phase a ≡ Off
  pub accounts : AccountsFor j w a → AccountsFor k u a
  pub versions : (AreRecords k (sector_log u a)) → GoesOnBy u a j k
  pub own : IsOwn a (u.last a) (settled u.history)

pub data Tale (s : RunMoment) (w u : World) (a : ℕ) (j k : Journal) : Type 0 where
  Aside : IsAside w u a j k → Tale s w u a j k
  Mounting : IsMount s w u a k → Tale s w u a j k
  Doing : IsDone w u a j k → Tale s w u a j k
  Leaving : u.phase a ≡ Off → Tale s w u a j k

-- ---- entries

beside_last : (a : ℕ) (e : Entry) (last : ℕ → ℕ) → IsBeside a e → last_by (e ∷ []) last a ≡ last a
beside_last a (Did c) last b = put_other last c.by c.op a (λ i. b (sym i))
beside_last a (Recovered d k) last b = put_other last d k a (λ i. b (sym i))
beside_last a (Synced d n) last b = refl
beside_last a (Mounted d n) last b = refl

beside_mounts : (a : ℕ) (e : Entry) → IsBeside a e → mounts_in a (e ∷ []) → ⊥
beside_mounts a (Did c) b m = m
beside_mounts a (Recovered d k) b m = m
beside_mounts a (Synced d n) b m = m
beside_mounts a (Mounted d n) b (inl i) = b (sym i)
beside_mounts a (Mounted d n) b (inr m) = m

module _ (s : RunMoment) (w u : World) (x : GoesBy w u) (a : ℕ) where
  -- nobody mounted by these entries
  unmounted : (entries : List Entry) → x.entries ≡ entries → (mounts_in a entries → ⊥) → NoneMounts (recovers_in a entries) (leaves_in a entries) (w.phase a) (u.phase a)
  unmounted entries same none = go (subst (λ es. Phases a es (w.phase a) (u.phase a)) same (x.phase a))
    where
      go : Phases a entries (w.phase a) (u.phase a) → NoneMounts (recovers_in a entries) (leaves_in a entries) (w.phase a) (u.phase a)
      go (inl m) = absurd (none m)
      go (inr n) = n

  pub tale_same : (j k : Journal) → u.history ≡ w.history → IsKept j k → Tale s w u a j k
  tale_same j k history kept =
      let es = without_entry w u x history in
      let n = unmounted [] es (λ m. m) in
      Aside (record { journal = kept; beside = inl history; last = x.last a ∙ ap (λ l. last_by l w.last a) es; up = n.up; off = n.off })

  pub tale_beside : (j k : Journal) (e : Entry) → u.history ≡ e ∷ w.history → IsBeside a e → IsKept j k → Tale s w u a j k
  tale_beside j k e history beside kept =
      let es = with_entry w u x e history in
      let n = unmounted (e ∷ []) es (beside_mounts a e beside) in
      Aside (record { journal = kept; beside = inr (e, history, beside); last = x.last a ∙ ap (λ l. last_by l w.last a) es ∙ beside_last a e w.last beside; up = n.up; off = n.off })

-- ---- an operation

pub up_not_off : (p : Phase) → IsTrue (is_up p) → is_off p ≡ false
up_not_off life.Off u = absurd (false≢true u)
up_not_off p u = refl

-- its record's first sector is past the last that is issued
begins_past : (r : Ring) → sent r < begins r
begins_past r = go r.waiting
  where
    after_all : (a b : ℕ) → a < a + b + 1
    after_all a b = omega arith

    open_one : (a b : ℕ) → a < a + suc b
    open_one a b = omega arith

    go : (ws : List LogSector) → sent r < (if open_room ws == 0 then sent r + length ws + 1 else sent r + length ws)
    go [] = after_all (sent r) 0
    go (x ∷ xs) = by (open_room (x ∷ xs) == 0)
      where
        by : (b : Bool) → sent r < (if b then sent r + length (x ∷ xs) + 1 else sent r + length (x ∷ xs))
        by true = after_all (sent r) (length (x ∷ xs))
        by false = open_one (sent r) (length xs)

module _ (u : World) (a before : ℕ) (j : Journal) (given : j.log.ring.given_up ≤ sent j.log.ring) where
  done_versions : (redo : Option Redo) → AreRecords (journal_done before redo j) (sector_log u a) → GoesOnBy u a j (journal_done before redo j)
  done_versions None records = record { before = refl; placed = λ p i. inl i }
  done_versions (Some redo) records = record { before = refl; placed = λ p i. go p i (among_either p j.log.placed (new ∷ []) (contains_in (j.log.placed ++ new ∷ []) p i)) }
    where
      new : Placed
      new = record { redo = redo; first = begins j.log.ring; last = last j.log.ring + need j.log.ring redo }

      past : (g m b : ℕ) → g ≤ m → m < b → b ≤ g → ⊥
      past g m b h l i = omega (arith, h, l, i)

      over : (p : Placed) → p ≡ new → Contains (j.log.placed ++ new ∷ []) p → (u.floor a < p.redo.op.0) ⊎ (p.redo.op.0 ≤ u.floor a) → u.floor a < p.redo.op.0
      over p same i (inl h) = h
      over p same i (inr h) =
          absurd
          (past j.log.ring.given_up (sent j.log.ring) (begins j.log.ring) given (begins_past j.log.ring)
          (subst (λ (q : Placed). q.first ≤ j.log.ring.given_up) same ((records.given_up p i).0 h)))

      go : (p : Placed) → Contains (j.log.placed ++ new ∷ []) p → Among p j.log.placed ⊎ Among p (new ∷ []) → Contains j.log.placed p ⊎ (u.floor a < p.redo.op.0)
      go p i (inl m) = inl (in_contains j.log.placed p m)
      go p i (inr (inl same)) = inr (over p same i (cases_lt (u.floor a) p.redo.op.0))
      go p i (inr (inr none)) = absurd none

-- ---- each step

pub found : (passes : Recovery → Bool) (o : Option Recovery) → IsTrue (is_recovery passes o) → (recovery : Recovery) × (o ≡ Some recovery)
found passes None h = absurd (false≢true h)
found passes (Some recovery) h = (recovery, refl)

module _ (stay : AccountsStay) (commits : CommitsAreAccountedFor) (s : RunMoment) (w : World) (journal : ℕ → Journal) (when : ℕ → ℕ) (first_tree : FileTree) (numbers : List ℕ)
    (run : IsOfARun s w journal when first_tree numbers) (numbered : (a : ℕ) (at : Stage) → stage s.core a ≡ Some at → LinesAreNumbered s w when first_tree numbers a)
    (given : (a : ℕ) → IsTrue (is_server a) → is_off (s.core.servers a).phase ≡ false → (journal a).log.ring.given_up ≤ sent (journal a).log.ring) (told : IsTold when first_tree numbers s w) (u : World)
    (x : GoesBy w u) where
  abbrev TaleOf : ℕ → Journal → Type 0
  TaleOf a k = Tale s w u a (journal a) k

  -- a Commit
  module _ (c : ℕ) (server : IsTrue (is_server c)) (y : HasItsOperation when first_tree s w u c) where
    abbrev op : histories.Commit
    op = operation_at s w when (tree_now when first_tree w) c y.outcome y.op

    abbrev done : World
    done = after (fetched_world w c (claimed_in (s.core.servers c).cache y.op.out.o.claims)) (Do op)

    abbrev new : Journal
    new = journal_done (w.last c) y.outcome.redo (journal c)

    entries_are : x.entries ≡ Did op ∷ []
    entries_are = with_entry w u x (Did op) y.entry.history

    last_then : u.last c ≡ put w.last c op.op c
    last_then = x.last c ∙ ap (λ l. last_by l w.last c) entries_are

    up_there : is_off (s.core.servers c).phase ≡ false
    up_there = up_not_off (s.core.servers c).phase (up_of s.core.setting s.core.locks c (s.core.servers c) (Finishing y.outcome) y.at)

    its_own : TaleOf c new
    its_own = Doing (record {
      off = (unmounted s w u x c (Did op ∷ []) entries_are (λ m. m)).off;
      accounts = λ was.
          stay done u new new c (inl y.entry.history) last_then (x.durable c) (record { before = refl; placed = refl; ends = refl })
          (commits s w journal when first_tree numbers c y.outcome server run y.at (numbered c (Finishing y.outcome) y.at) y.op was);
      versions = done_versions u c (w.last c) (journal c) (given c server up_there) y.outcome.redo;
      own = subst (λ h. IsOwn c (u.last c) (settled h)) (sym y.entry.history) (inl (refl, sym (last_then ∙ put_same w.last c op.op)));
    })

  committed : (c : ℕ) (y : HasItsOperation when first_tree s w u c) (a : ℕ) → IsTrue (is_server a) → TaleOf a (committed_journals w journal c (stage s.core c) a)
  committed c y a server = subst (λ o. TaleOf a (committed_journals w journal c o a)) (sym y.at) (go (cases_eq a c))
    where
      then_ : Journal
      then_ = journal_done (w.last c) y.outcome.redo (journal c)

      go : (a ≡ c) ⊎ (a ≡ c → ⊥) → TaleOf a (put journal c then_ a)
      go (inl e) =
          subst (λ n. TaleOf n (put journal c then_ n)) (sym e)
          (subst (λ k. TaleOf c k) (sym (put_same journal c then_)) (its_own c (subst (λ n. IsTrue (is_server n)) e server) y))
      go (inr apart) =
          tale_beside s w u x a (journal a) (put journal c then_ a) (Did (operation_at s w when (tree_now when first_tree w) c y.outcome y.op)) y.entry.history (λ e. apart (sym e))
          (subst (λ k. IsKept (journal a) k) (sym (put_other journal c then_ a apart)) (kept_same (journal a)))

  -- an answer
  answered : (c : ℕ) → Makes s (Answer c) Nothing → HasItsStory (begins_mount s.core c) (ends_mount s.core c || tells_sync s.core c) w u c → (a : ℕ) →
      TaleOf a ((if begins_mount s.core c then put journal c (journal_at (slots_of s.disk c)) else journal) a)
  answered c m story a = go (begins_mount s.core c) (ends_mount s.core c || tells_sync s.core c) refl story
    where
      begun : Journal
      begun = journal_at (slots_of s.disk c)

      mounts : begins_mount s.core c ≡ true → u.history ≡ Mounted c (w.last c) ∷ w.history → (a ≡ c) ⊎ (a ≡ c → ⊥) → TaleOf a (put journal c begun a)
      mounts is history (inl e) =
          Mounting (record {
            off = subst (λ n. IsTrue (is_off (s.core.servers n).phase)) (sym e) (mount_off s c m is);
            mounted = record { number = w.last c; history = history ∙ ap (λ n. Mounted n (w.last c) ∷ w.history) (sym e); durable = x.durable a };
            journal = ap (put journal c begun) e ∙ put_same journal c begun ∙ ap (λ n. journal_at (slots_of s.disk n)) (sym e);
          })
      mounts is history (inr apart) =
          tale_beside s w u x a (journal a) (put journal c begun a) (Mounted c (w.last c)) history (λ e. apart (sym e))
          (subst (λ k. IsKept (journal a) k) (sym (put_other journal c begun a apart)) (kept_same (journal a)))

      go : (b d : Bool) → begins_mount s.core c ≡ b → HasItsStory b d w u c → TaleOf a ((if b then put journal c begun else journal) a)
      go true d is y = mounts is y.history (cases_eq a c)
      go false true is y = tale_beside s w u x a (journal a) (journal a) (Synced c (w.last c)) y.history tt (kept_same (journal a))
      go false false is y = tale_same s w u x a (journal a) (journal a) y.history (kept_same (journal a))

  -- a close
  closed : (c : ℕ) (b : Bool) → HasItsStory false b w u c → (a : ℕ) → TaleOf a (journal a)
  closed c true y a = tale_beside s w u x a (journal a) (journal a) (Synced c (w.last c)) y.history tt (kept_same (journal a))
  closed c false y a = tale_same s w u x a (journal a) (journal a) y.history (kept_same (journal a))

  -- the end of a recovery
  ended : (d k : ℕ) → u.history ≡ Recovered d k ∷ w.history → (a : ℕ) → TaleOf a (journal a)
  ended d k history a = go (cases_eq a d)
    where
      es : x.entries ≡ Recovered d k ∷ []
      es = with_entry w u x (Recovered d k) history

      go : (a ≡ d) ⊎ (a ≡ d → ⊥) → TaleOf a (journal a)
      go (inl e) = Leaving ((unmounted s w u x a (Recovered d k ∷ []) es (λ m. m)).gone (inl e))
      go (inr apart) = tale_beside s w u x a (journal a) (journal a) (Recovered d k) history (λ e. apart (sym e)) (kept_same (journal a))

  event_tale : (event : Event) (heard : Heard) → Makes s event heard → HasStoryOf when first_tree numbers s w u told event → (a : ℕ) → IsTrue (is_server a) →
      TaleOf a (journals_after s w event heard journal a)
  event_tale (Commit c) heard m story a server = committed c story a server
  event_tale (Answer c) heard m story a server = answered c (subst (λ h. Makes s (Answer c) h) m.hears m) story a
  event_tale (Close c) heard m story a server = closed c (clean_at s.core c) story a
  event_tale (Finish by) heard m story a server =
      let has : (recovery : Recovery) × ((s.core.servers by).recovery ≡ Some recovery) = found (is_through s.core) (s.core.servers by).recovery m.can.can.ended in
      ended has.0.dead (w.durable has.0.dead) (story has.0 has.1).entry.history a
  event_tale event heard m story a server = tale_same s w u x a (journal a) (journals_after s w event heard journal a) story.history (event_keeps a s w event heard journal refl)

  pub tale : (v : RunMoment) (step : Step s v) → HasStoryAt when first_tree numbers s v w u told step → (a : ℕ) → IsTrue (is_server a) → TaleOf a (journals_next s v w step journal a)
  tale v (Event_ event heard makes) story a server = event_tale event heard makes story a server
  tale v step story a server = tale_same s w u x a (journal a) (journal a) story.history (kept_same (journal a))
