-- A Commit keeps all that stands beside its moment.
use Rattle.std.proofs.Common.{◌≡◌, ◌⊎◌, ◌+◌, ◌*◌, ◌^◌, ◌≤◌, ◌<◌, ℕ, Bool, true, false, if◌then◌else◌, IsTrue, List, [], ◌∷◌, ◌++◌, Option, Some, None, map, refl, sym, ap, ◌∙◌, subst, inl, inr, arith}
use Rattle.std.proofs.lemmas.Bool.{cases_eq, false≢true, lt-ltb}
use Rattle.std.specs.Option.{IsSome}
use Rattle.frang_base.specs.Functions.{put}
use Rattle.frang_base.proofs.Basics.{put_other, put_same}
use Rattle.frang_base.specs.declared.change.Redo.{Redo}
use Rattle.tree_definitions.specs.Tree.{FileTree}
use Rattle.disk_definitions.specs.Logs.{log_end}
use Rattle.disk_definitions.specs.Replay.{slots_of}
use Rattle.ring_definitions.specs.Rings.{Ring, last}
use Rattle.line_histories.specs.LinePlans.{sector_plan}
use Rattle.line_histories.proofs.Framed.{lines_framed}
use Rattle.core_definitions.specs.Cores.{Core, stage}
use Rattle.core_definitions.specs.Events as core
use Rattle.core_definitions.specs.Events.{Nothing}
use Rattle.core_definitions.specs.LineEffects.{committed, committed_at, committed_by, number_under, ring_after}
use Rattle.core_definitions.specs.LineGuards.{done_by, is_server}
use Rattle.core_definitions.specs.Lines.{Finishing, Stage}
use Rattle.core_definitions.specs.Lines as lines
use Rattle.core_definitions.specs.Plans as plans
use Rattle.core_definitions.specs.Rings.{is_all_reached}
use Rattle.core_definitions.specs.Runs.{State as RunMoment, Event_, Makes, Step, next}
use Rattle.core_definitions.specs.Scripts.{Marks}
use Rattle.core_definitions.specs.Servers.{Server, is_dead, is_in_mount, is_off}
use Rattle.core_definitions.specs.Settings.{setting_of}
use Rattle.sector_world.specs.Histories.Entry.{Did}
use Rattle.sector_world.specs.Histories.{Commit, settled}
use Rattle.sector_world.specs.Histories.Item.{Done}
use Rattle.sector_world.specs.Guards.{CanAck, CanDo, CanReach}
use Rattle.sector_world.specs.Kinds.{Good}
use Rattle.sector_world.specs.Plans.{Legal}
use Rattle.sector_world.specs.Steps.{Run, after}
use Rattle.sector_world.specs.Steps.Event.{Ack, Do, Fetch, Reach}
use Rattle.sector_world.specs.Steps.Run.{goes, stays}
use Rattle.sector_world.specs.World.{World, Off, Up}
use Rattle.sector_world.proofs.Every.{good_step}
use Rattle.sector_world.proofs.Left.{legal_left}
use Rattle.core_world.specs.Beside.{AreEnds, AreOpen, NoneInLogs}
use Rattle.core_world.specs.Journals.{IsOwn, Journal}
use Rattle.core_world.specs.Steps.{IsWorldOf}
use Rattle.core_world.proofs.Giving.{up_is}
use Rattle.core_world.proofs.Same.{put_as}
use Rattle.core_lives.proofs.Idling.{one_more}
use Rattle.core_lives.proofs.Rooming.{left_falls, one_less}
use Rattle.core_lives.specs.Room.{lines_left, reach_of}
use Rattle.core_commits.specs.Commits.{AreClaimedClean, fetched_world}
use Rattle.core_commits.specs.Moments.{IsNumbered, IsOperation, LinesAreNumbered, SetsAreOfTheDisk, claimed_in, operation_at}
use Rattle.core_commits.specs.Standing.{IsOfLines, tree_now}
use Rattle.core_commits.specs.Zeros.{FreePagesAreZeros}
use Rattle.core_commits.proofs.Claiming.{sectors_are_fetched}
use Rattle.core_commits.proofs.Reclaiming.{up_of}
use Rattle.core_commits.proofs.Zeroing.{runs_keep_zeros}
use Rattle.core_line_sets.proofs.Staying.{sets_stay}
use Rattle.core_line_steps.specs.Held.{MovesAreHeld, WritesAreHeld}
use Rattle.core_line_steps.specs.Marks.{journal_done}
use Rattle.core_line_steps.specs.Numbers.{AreNumbered, IsAskedWell}
use Rattle.core_line_steps.specs.Pending.{AreClearedSo}
use Rattle.core_line_steps.proofs.Claimed.{commits_keep_cleared}
use Rattle.core_line_steps.proofs.HeldMoment.{lines_move_held, steps_keep_held}
use Rattle.core_line_steps.proofs.Numbered.{operations_are_numbered, under_way_is_numbered}
use Rattle.core_writes.specs.Arrivals.{AreAcknowledged}
use Rattle.core_writes.proofs.Acknowledging.{acknowledged_stay}
use Rattle.core_commit_steps.specs.Commits.{IsCommitting, acked_without, durable_without, known_behind}
use Rattle.core_commit_steps.specs.Moments.{LastsAreSettled, LineGoesOn, StandsBeside}
use Rattle.core_commit_steps.specs.Steps.{AreOfOperation, record_left}
use Rattle.core_commit_steps.proofs.Committing as commits
use Rattle.core_commit_steps.proofs.Facts.{Facts}
use Rattle.core_commit_steps.proofs.Fitting.{may_stand}
use Rattle.core_commit_steps.proofs.Going.{acknowledged_run, fetches_know, path_of, reached_step}
use Rattle.core_commit_steps.proofs.Joining.{world_done}
use Rattle.core_commit_steps.proofs.Needing.{last_few, room_left}
use Rattle.core_commit_steps.proofs.Runs.{run_on}

-- ---- lines at a moment

pub finished_of : (x : Option Stage) → IsSome (done_by x) → (outcome : plans.Outcome) × (x ≡ Some (Finishing outcome))
finished_of None e = absurd (false≢true e)
finished_of (Some (lines.Asking need)) e = absurd (false≢true e)
finished_of (Some (lines.Fetching needs)) e = absurd (false≢true e)
finished_of (Some lines.Moving) e = absurd (false≢true e)
finished_of (Some lines.Stopping) e = absurd (false≢true e)
finished_of (Some (lines.Growing needs seen)) e = absurd (false≢true e)
finished_of (Some (lines.Clearing block)) e = absurd (false≢true e)
finished_of (Some (Finishing outcome)) e = (outcome, refl)

module _ (facts : Facts) (s : RunMoment) (w : World) (journal : ℕ → Journal) (when : ℕ → ℕ) (first_tree : FileTree) (numbers : List ℕ) (b : StandsBeside s w journal when first_tree numbers) where
  -- who has come to a stage is up, and so one of the sixteen
  pub server_of : (a : ℕ) (at : Stage) → stage s.core a ≡ Some at → IsTrue (is_server a)
  server_of a at e = lt-ltb a 16 (subst (λ n. a < n) b.sixteen (b.run.good.logged.known a (λ off. let z : Up ≡ Off = sym up ∙ off in cc)))
    where
      up : w.phase a ≡ Up
      up = b.run.world.tied.lives.phase a ∙ up_is (s.core.servers a).phase (up_of s.core.setting s.core.locks a (s.core.servers a) at e)

  -- so its line is numbered
  pub all_numbered : (a : ℕ) (at : Stage) → stage s.core a ≡ Some at → LinesAreNumbered s w when first_tree numbers a
  all_numbered a at e =
      under_way_is_numbered facts.next facts.own facts.ascending s w when first_tree numbers a b.run.reached (server_of a at e) b.numbered b.asked
      (λ under operation is what. path_of s.core.setting s.core.locks a (s.core.servers a) at e under operation is what)

  pub moves_held : MovesAreHeld s.core
  moves_held =
      lines_move_held facts.order facts.cached facts.sole facts.covers s w journal when first_tree numbers b.run b.cleared.pending (λ a outcome e. all_numbered a (Finishing outcome) e)

  pub sets_on : (v : RunMoment) → Step s v → SetsAreOfTheDisk v.core
  sets_on v step = sets_stay facts.order facts.cached s v w journal when first_tree numbers b.run step (λ a needs seen e. all_numbered a (lines.Growing needs seen) e)

  pub held_on : (v : RunMoment) → Step s v → WritesAreHeld v.core
  held_on v step = steps_keep_held facts.order facts.off s v w b.run.reached step b.run.world.tied b.run.good moves_held b.held

  pub committing : (a : ℕ) (outcome : plans.Outcome) → Makes s (core.Commit a) Nothing → stage s.core a ≡ Some (Finishing outcome) → IsCommitting s w journal when first_tree numbers a outcome
  committing a outcome makes e = record {
    run = b.run;
    makes = makes;
    at = e;
    numbered = all_numbered a (Finishing outcome) e;
    pending = b.cleared.pending;
    held = b.held;
    ends = b.ends;
    room = b.room a makes.can.can.server;
  }

-- ---- a Commit

module _ (facts : Facts) (s : RunMoment) (w : World) (journal : ℕ → Journal) (when : ℕ → ℕ) (first_tree : FileTree) (numbers : List ℕ) (b : StandsBeside s w journal when first_tree numbers) (a : ℕ)
    (outcome : plans.Outcome) (makes : Makes s (core.Commit a) Nothing) (at : stage s.core a ≡ Some (Finishing outcome)) where
  abbrev x : IsCommitting s w journal when first_tree numbers a outcome
  x = committing facts s w journal when first_tree numbers b a outcome makes at

  abbrev op : IsOperation s w when (tree_now when first_tree w) a outcome
  op = commits.op facts.order facts.cached facts.sole facts.covers facts.of_dead facts.leases s w journal when first_tree numbers a outcome x

  abbrev c : Commit
  c = operation_at s w when (tree_now when first_tree w) a outcome op

  abbrev claimed : List ℕ
  claimed = claimed_in (s.core.servers a).cache op.out.o.claims

  abbrev v : RunMoment
  v = next s (core.Commit a) Nothing

  abbrev step : Step s v
  step = Event_ (core.Commit a) Nothing makes

  abbrev journals : ℕ → Journal
  journals = put journal a (journal_done (w.last a) outcome.redo (journal a))

  clean : AreClaimedClean (s.core.servers a).cache c
  clean = commits.clean facts.order facts.cached facts.sole facts.covers facts.of_dead facts.leases s w journal when first_tree numbers a outcome x

  server : IsTrue (is_server a)
  server = makes.can.can.server

  not_dead : is_dead (s.core.servers a).phase ≡ false
  not_dead = commits.not_dead (s.core.servers a).phase (up_of s.core.setting s.core.locks a (s.core.servers a) (Finishing outcome) at)

  not_off : is_off (s.core.servers a).phase ≡ false
  not_off = commits.up_not_off (s.core.servers a).phase (up_of s.core.setting s.core.locks a (s.core.servers a) (Finishing outcome) at)

  q : IsNumbered s w when first_tree numbers a op.f.line.under.line.number op.f.line.operation
  q = x.numbered op.f.line.under op.f.line.operation op.f.line.is op.f.line.asked

  abbrev answered : Marks
  answered = put s.core.answered op.f.line.under.line.number true

  answered_is : put s.core.answered (number_under (s.core.servers a).under) true ≡ answered
  answered_is = ap (λ u. put s.core.answered (number_under u) true) op.f.line.is

  -- one line less is left
  less : lines_left s.core.setting.script answered a + 1 ≤ lines_left s.core.setting.script s.core.answered a
  less =
      one_less s.core.setting.script a s.core.answered op.f.line.under.line
      (facts.next (setting_of b.run.reached.script b.run.reached.segments b.run.reached.number) b.run.reached.disk s (facts.own b.run.reached.bytes b.run.reached.script b.run.reached.read) b.run.reached.run a op.f.line.under server
      op.f.line.is).0

  -- by parts of the core
  abbrev RoomOf : Core → ℕ → Type 0
  RoomOf d n = reach_of (d.servers n) (slots_of s.disk n) + 100 * lines_left d.setting.script d.answered n ≤ 2 ^ 61

  room_then : (n : ℕ) → IsTrue (is_server n) → RoomOf (committed s.core a outcome) n
  room_then n who = subst (λ marks. reach_of (servers_then n) (slots_of s.disk n) + 100 * lines_left s.core.setting.script marks n ≤ 2 ^ 61) (sym answered_is) (go (cases_eq n a))
    where
      servers_then : ℕ → Server
      servers_then = put s.core.servers a (committed_by outcome (s.core.servers a))

      old : last (s.core.servers a).ring + 64 + 100 * lines_left s.core.setting.script s.core.answered a ≤ 2 ^ 61
      old = subst (λ (t : Bool). (if t then log_end (slots_of s.disk a) else last (s.core.servers a).ring + 64) + 100 * lines_left s.core.setting.script s.core.answered a ≤ 2 ^ 61) not_off (b.room a server)

      own : reach_of (committed_by outcome (s.core.servers a)) (slots_of s.disk a) + 100 * lines_left s.core.setting.script answered a ≤ 2 ^ 61
      own = subst (λ (t : Bool). (if t then log_end (slots_of s.disk a) else last (ring_after (s.core.servers a) outcome) + 64) + 100 * lines_left s.core.setting.script answered a ≤ 2 ^ 61) (sym not_off)
          (room_left (last (s.core.servers a).ring) (last (ring_after (s.core.servers a) outcome)) (lines_left s.core.setting.script answered a) (lines_left s.core.setting.script s.core.answered a)
          (last_few (s.core.servers a).ring outcome.redo (λ redo has. may_stand facts.order facts.cached s w journal when first_tree numbers a outcome b.run x.numbered op redo has)) less old)

      go : (n ≡ a) ⊎ (n ≡ a → ⊥) → reach_of (put s.core.servers a (committed_by outcome (s.core.servers a)) n) (slots_of s.disk n) + 100 * lines_left s.core.setting.script answered n ≤ 2 ^ 61
      go (inl e) = subst (λ m. reach_of (put s.core.servers a (committed_by outcome (s.core.servers a)) m) (slots_of s.disk m) + 100 * lines_left s.core.setting.script answered m ≤ 2 ^ 61) (sym e)
          (subst (λ (y : Server). reach_of y (slots_of s.disk a) + 100 * lines_left s.core.setting.script answered a ≤ 2 ^ 61) (sym (put_same s.core.servers a (committed_by outcome (s.core.servers a)))) own)
      go (inr away) = subst (λ (y : Server). reach_of y (slots_of s.disk n) + 100 * lines_left s.core.setting.script answered n ≤ 2 ^ 61) (sym (put_other s.core.servers a (committed_by outcome (s.core.servers a)) n away))
          (fewer (reach_of (s.core.servers n) (slots_of s.disk n)) (lines_left s.core.setting.script answered n) (lines_left s.core.setting.script s.core.answered n)
          (left_falls s.core.setting.script n answered s.core.answered (one_more s.core.answered op.f.line.under.line.number)) (b.room n who))
        where
          fewer : (r l m : ℕ) → l ≤ m → r + 100 * m ≤ 2 ^ 61 → r + 100 * l ≤ 2 ^ 61
          fewer r l m h i = omega (arith, h, i)

  dead_before : (n : ℕ) → IsTrue (is_dead (put s.core.servers a (committed_by outcome (s.core.servers a)) n).phase) → is_dead (s.core.servers n).phase ≡ true
  dead_before n dead = ap is_dead (sym (put_as (λ y. y.phase) s.core.servers a (committed_by outcome (s.core.servers a)) refl n)) ∙ dead

  open_then : AreOpen (put s.core.servers a (committed_by outcome (s.core.servers a))) s.core.now s.disk journals
  open_then n who dead early slot low = go (cases_eq n a)
    where
      go : (n ≡ a) ⊎ (n ≡ a → ⊥) → slots_of s.disk n slot ≡ (journals n).log.slots slot
      go (inl e) = absurd (false≢true (sym not_dead ∙ ap (λ m. is_dead (s.core.servers m).phase) (sym e) ∙ dead_before n dead))
      go (inr away) =
          b.open_ n who (dead_before n dead) (subst (λ k. s.core.now ≤ k) (put_as (λ y. y.expiry) s.core.servers a (committed_by outcome (s.core.servers a)) refl n) early) slot low
          ∙ ap (λ (j : Journal). j.log.slots slot) (sym (put_other journal a (journal_done (w.last a) outcome.redo (journal a)) n away))

  -- ---- the world after it, with the log known so far

  module _ (durable acked : ℕ → ℕ) (good : Good (world_done w c claimed durable acked)) where
    abbrev z : World
    z = world_done w c claimed durable acked

    live : Legal (sector_plan s.core.setting.segments when) w.opening (Done c ∷ settled w.history)
    live = (op.out.comes, b.run.lines.legal.live)

    lines_then : IsOfLines s.core.setting.segments when first_tree numbers z
    lines_then = record {
      times = b.run.lines.times;
      stands = b.run.lines.stands;
      legal = record { live = live; left = legal_left (sector_plan s.core.setting.segments when) (lines_framed s.core.setting.segments when) z good live z.servers };
      distinct = (q.new, q.others, b.run.lines.distinct);
      follows = b.run.lines.follows;
      parameters = b.run.lines.parameters;
    }

    numbered_then : AreNumbered s.core.setting (put s.core.answered (number_under (s.core.servers a).under) true) z
    numbered_then =
        subst (λ marks. AreNumbered s.core.setting marks z) (sym answered_is)
        (operations_are_numbered facts.next facts.own facts.ascending s w z a op.f.line.under c b.run.reached server op.f.line.is b.numbered refl refl refl refl)

    lasts_then : LastsAreSettled (put s.core.servers a (committed_by outcome (s.core.servers a))) z
    lasts_then n who mounted = go (cases_eq n a)
      where
        Goal : ℕ → Server → Type 0
        Goal m y = IsOwn m (put w.last a c.op m) (Done c ∷ settled w.history) ⊎ IsTrue (is_all_reached y.ring)

        of_other : (n ≡ a → ⊥) → IsOwn n (w.last n) (settled w.history) ⊎ IsTrue (is_all_reached (s.core.servers n).ring) → Goal n (s.core.servers n)
        of_other away (inl own) = inl (inr (subst (λ k. IsOwn n k (settled w.history)) (sym (put_other w.last a c.op n away)) own))
        of_other away (inr all) = inr all

        go : (n ≡ a) ⊎ (n ≡ a → ⊥) → Goal n (put s.core.servers a (committed_by outcome (s.core.servers a)) n)
        go (inl e) = subst (λ m. Goal m (put s.core.servers a (committed_by outcome (s.core.servers a)) m)) (sym e) (inl (inl (refl, sym (put_same w.last a c.op))))
        go (inr away) = subst (Goal n) (sym (put_other s.core.servers a (committed_by outcome (s.core.servers a)) n away))
            (of_other away (b.lasts n who (ap is_in_mount (sym (put_as (λ y. y.phase) s.core.servers a (committed_by outcome (s.core.servers a)) refl n)) ∙ mounted)))

    -- by parts of the core
    record Parts (d : Core) : Type 0 where
      lines_are : IsOfLines d.setting.segments when first_tree numbers z
      asked : IsAskedWell d.setting when first_tree numbers
      numbered : AreNumbered d.setting d.answered z
      are_open : AreOpen d.servers d.now s.disk journals
      none : NoneInLogs d.setting.segments z
      lasts : LastsAreSettled d.servers z
      room : (n : ℕ) → IsTrue (is_server n) → RoomOf d n

    parts : Parts v.core
    parts = subst (λ y. Parts (committed_at s.core a y)) (sym at) (record {
      lines_are = lines_then;
      asked = b.asked;
      numbered = numbered_then;
      are_open = open_then;
      none = λ sector e. b.none sector e;
      lasts = lasts_then;
      room = room_then;
    })

    cleared_then : AreClearedSo v.core.servers z
    cleared_then =
        let t = commits_keep_cleared facts.order facts.cached facts.sole facts.covers s w journal when first_tree numbers a outcome b.run at makes.can.can.cleared x.numbered op b.cleared in
        record { pending = t.pending; free = t.free }

    pub beside_then : IsWorldOf v z journals → AreEnds v.core.servers z journals → FreePagesAreZeros z → AreAcknowledged z → StandsBeside v z journals when first_tree numbers
    beside_then is ends zeros acknowledged = record {
      run = record {
        reached = reached_step s v b.run.reached step;
        whole = b.run.whole;
        world = is;
        good = good;
        zeros = zeros;
        lines = parts.lines_are;
        sets = sets_on facts s w journal when first_tree numbers b v step;
      };
      sixteen = b.sixteen;
      asked = parts.asked;
      numbered = parts.numbered;
      cleared = cleared_then;
      held = held_on facts s w journal when first_tree numbers b v step;
      ends = ends;
      open_ = parts.are_open;
      none = parts.none;
      acknowledged = acknowledged;
      lasts = parts.lasts;
      room = parts.room;
    }

  -- ---- the claimed sectors are fetched, and it is done

  can : CanDo (fetched_world w a claimed) c
  can = (op.done clean).1.can

  good_fetched : Good (fetched_world w a claimed)
  good_fetched = (op.done clean).1.good

  run_fetched : Run w (map (Fetch a) claimed) (fetched_world w a claimed)
  run_fetched = sectors_are_fetched w a claimed can.up (op.done clean).0.once (op.done clean).1.fetched

  abbrev u : World
  u = after (fetched_world w a claimed) (Do c)

  good_u : Good u
  good_u = good_step (fetched_world w a claimed) (Do c) can good_fetched

  acknowledged_u : AreAcknowledged u
  acknowledged_u =
      acknowledged_stay (fetched_world w a claimed) (Do c) can tt good_fetched
      (acknowledged_run w (map (Fetch a) claimed) (fetched_world w a claimed) run_fetched (fetches_know w a claimed) b.run.good b.acknowledged)

  -- with a record
  module _ (redo : Redo) (has : outcome.redo ≡ Some redo) where
    pub goes_with : LineGoesOn w v journals when first_tree numbers (AreOfOperation s w journal when first_tree a)
    goes_with = record {
      leads = record {
        events = map (Fetch a) claimed ++ Do c ∷ [];
        world = u;
        run = run_on w (map (Fetch a) claimed) (fetched_world w a claimed) run_fetched (Do c ∷ []) u (goes can stays);
        is = commits.is_with facts.order facts.cached facts.sole facts.covers facts.of_dead facts.leases s w journal when first_tree numbers a outcome x redo has;
      };
      entries = Did c ∷ [];
      story = record { servers = refl; opening = refl; logged = refl; first = refl; home = refl; history = refl };
      by = record {
        outcome = outcome;
        at = at;
        op = op;
        clean = clean;
        events_are = ap (λ r. map (Fetch a) claimed ++ Do c ∷ known_behind w a c.op (s.core.servers a).ring (journal a) r) (sym has);
        entries_are = refl;
      };
      beside = beside_then w.durable w.acked good_u
          (commits.is_with facts.order facts.cached facts.sole facts.covers facts.of_dead facts.leases s w journal when first_tree numbers a outcome x redo has)
          (commits.ends_with facts.order facts.cached facts.sole facts.covers facts.of_dead facts.leases s w journal when first_tree numbers a outcome x redo has)
          (runs_keep_zeros w u (map (Fetch a) claimed ++ Do c ∷ []) (run_on w (map (Fetch a) claimed) (fetched_world w a claimed) run_fetched (Do c ∷ []) u (goes can stays)) b.run.good b.run.zeros) acknowledged_u;
    }

  -- without one
  module _ (none : outcome.redo ≡ None) where
    abbrev ring : Ring
    ring = (s.core.servers a).ring

    abbrev durable : ℕ
    durable = durable_without w a c.op ring (journal a)

    abbrev acked : ℕ
    acked = acked_without w a c.op ring

    abbrev far : World
    far = after (after u (Reach a durable)) (Ack a acked)

    may_reach : CanReach u a durable
    may_reach = commits.may_reach facts.order facts.cached facts.sole facts.covers facts.of_dead facts.leases s w journal when first_tree numbers a outcome x none

    may_ack : CanAck (after u (Reach a durable)) a acked
    may_ack = commits.may_ack facts.order facts.cached facts.sole facts.covers facts.of_dead facts.leases s w journal when first_tree numbers a outcome x none

    good_mid : Good (after u (Reach a durable))
    good_mid = good_step u (Reach a durable) may_reach good_u

    good_far : Good far
    good_far = good_step (after u (Reach a durable)) (Ack a acked) may_ack good_mid

    acknowledged_far : AreAcknowledged far
    acknowledged_far =
        acknowledged_stay (after u (Reach a durable)) (Ack a acked) may_ack (commits.known facts.order facts.cached facts.sole facts.covers facts.of_dead facts.leases s w journal when first_tree numbers a outcome x none) good_mid
        (acknowledged_stay u (Reach a durable) may_reach tt good_u acknowledged_u)

    run_far : Run w (map (Fetch a) claimed ++ Do c ∷ Reach a durable ∷ Ack a acked ∷ []) far
    run_far = run_on w (map (Fetch a) claimed) (fetched_world w a claimed) run_fetched (Do c ∷ Reach a durable ∷ Ack a acked ∷ []) far (goes can (goes may_reach (goes may_ack stays)))

    is_far : IsWorldOf v far journals
    is_far = commits.is_without facts.order facts.cached facts.sole facts.covers facts.of_dead facts.leases s w journal when first_tree numbers a outcome x none

    pub goes_without : LineGoesOn w v journals when first_tree numbers (AreOfOperation s w journal when first_tree a)
    goes_without = record {
      leads = record { events = map (Fetch a) claimed ++ Do c ∷ Reach a durable ∷ Ack a acked ∷ []; world = far; run = run_far; is = is_far };
      entries = Did c ∷ [];
      story = record { servers = refl; opening = refl; logged = refl; first = refl; home = refl; history = refl };
      by = record {
        outcome = outcome;
        at = at;
        op = op;
        clean = clean;
        events_are = ap (λ r. map (Fetch a) claimed ++ Do c ∷ known_behind w a c.op (s.core.servers a).ring (journal a) r) (sym none);
        entries_are = refl;
      };
      beside = beside_then (put w.durable a durable) (put w.acked a acked) good_far is_far
          (commits.ends_without facts.order facts.cached facts.sole facts.covers facts.of_dead facts.leases s w journal when first_tree numbers a outcome x none)
          (runs_keep_zeros w far (map (Fetch a) claimed ++ Do c ∷ Reach a durable ∷ Ack a acked ∷ []) run_far b.run.good b.run.zeros) acknowledged_far;
    }

  pub goes_done : LineGoesOn w v journals when first_tree numbers (AreOfOperation s w journal when first_tree a)
  goes_done = go outcome.redo refl
    where
      go : (redo : Option Redo) → outcome.redo ≡ redo → LineGoesOn w v journals when first_tree numbers (AreOfOperation s w journal when first_tree a)
      go None e = goes_without e
      go (Some redo) e = goes_with redo e

-- of whatever line is finished
pub commits_go_on : Facts → (s : RunMoment) (w : World) (journal : ℕ → Journal) (when : ℕ → ℕ) (first_tree : FileTree) (numbers : List ℕ) (a : ℕ) → Makes s (core.Commit a) Nothing →
    StandsBeside s w journal when first_tree numbers →
    LineGoesOn w (next s (core.Commit a) Nothing) (put journal a (journal_done (w.last a) (record_left (done_by (stage s.core a))) (journal a))) when first_tree numbers (AreOfOperation s w journal when first_tree a)
commits_go_on facts s w journal when first_tree numbers a makes b =
    let f = finished_of (stage s.core a) makes.can.can.done in
    subst (λ y. LineGoesOn w (next s (core.Commit a) Nothing) (put journal a (journal_done (w.last a) (record_left (done_by y)) (journal a))) when first_tree numbers (AreOfOperation s w journal when first_tree a)) (sym f.1)
    (goes_done facts s w journal when first_tree numbers b a f.0 makes f.1)
