-- A step that leads by quiet events to the next moment, of whose story the laws of its event tell: all that stands beside goes on.
use Rattle.std.proofs.Common.{◌≡◌, ℕ, Bool, true, false, not, ◌&&◌, if◌then◌else◌, IsTrue, List, [], Option, Some, None, is_some, refl, sym, ap, ◌∙◌, subst}
use Rattle.std.proofs.lemmas.Bool.{and_parts, false≢true}
use Rattle.std.proofs.lemmas.Option.{none-some}
use Rattle.frang_base.specs.declared.op.Op.{Op}
use Rattle.tree_definitions.specs.Apply.{is_path_op}
use Rattle.tree_definitions.specs.Tree.{FileTree}
use Rattle.line_histories.specs.Following.{Follows}
use Rattle.line_histories.specs.LinePlans.{sector_plan}
use Rattle.line_histories.specs.Standing.{StandsNumbered}
use Rattle.core_definitions.specs.Cores.{stage}
use Rattle.core_definitions.specs.LineGuards.{is_server}
use Rattle.core_definitions.specs.Lines.{Stage, Finishing, Growing, Under, operation_of}
use Rattle.core_definitions.specs.Runs.{State as RunMoment, Step, first_state}
use Rattle.core_definitions.specs.Servers.{Phase, Off, Up, Still, Doomed, Dead, asked_by, asks, is_off, is_open, is_up, stage_under}
use Rattle.core_definitions.specs.Settings.{setting_of}
use Rattle.core_laws.proofs.Along.{longer}
use Rattle.core_laws.proofs.Kept.{setting_of_run}
use Rattle.core_laws.proofs.Memory.{staged}
use Rattle.core_journals.proofs.Answering.{step_said}
use Rattle.core_tree_reads.proofs.Bare.{who_is_bare}
use Rattle.sector_world.specs.Histories.{Commit, Entry, settled}
use Rattle.sector_world.specs.Kinds.{Good}
use Rattle.sector_world.specs.Planned.{IsLegal}
use Rattle.sector_world.specs.Plans.{IsFramed, Legal, Plan}
use Rattle.sector_world.specs.World.{World}
use Rattle.core_world.specs.Beside.{NoneInLogs}
use Rattle.core_world.specs.Events.{IsSameStory}
use Rattle.core_world.specs.Journals.{Journal}
use Rattle.core_world.specs.Quiet.{AllQuiet}
use Rattle.core_world.specs.Steps.{IsReached, Leads}
use Rattle.core_lives.specs.Lives.{HasEntry}
use Rattle.core_commits.specs.Moments.{IsOfARun, LinesAreNumbered}
use Rattle.core_commits.specs.Standing.{IsOfLines}
use Rattle.core_line_sets.specs.Sets.{SetsStayOfTheDisk}
use Rattle.core_line_steps.specs.Held.{LinesMoveUnderHeldLocks, StepsKeepWritesHeld}
use Rattle.core_line_steps.specs.Numbers.{AreNumbered, IsAnswered, IsAskedWell, NumbersStay, UnderWayIsNumbered}
use Rattle.core_histories.specs.Steps.{HasStoryAt}
use Rattle.stop_laws.specs.Known.{KnowsCells}
use Rattle.core_runs.specs.Journals.{journals_next}
use Rattle.core_runs.specs.Kept.{Further, IsDirtSo, IsKeptAlong, NameRegions, StandsBeside}
use Rattle.core_runs.proofs.Quiet.{IsBehind, IsSound, Laws, sound_run}

-- ---- the laws

-- a legal history is legal whatever recoveries of all logs would leave
abbrev pub LegalAreLegal : Type 0
LegalAreLegal = (plan : Plan) → IsFramed plan → (w : World) → Good w → Legal plan w.opening (settled w.history) → IsLegal plan w

pub record BesideLaws : Type 0 where
  pub events : Laws
  pub left : LegalAreLegal
  pub sets : SetsStayOfTheDisk
  pub numbers : NumbersStay
  pub under_way : UnderWayIsNumbered
  pub held : StepsKeepWritesHeld
  pub moves : LinesMoveUnderHeldLocks

-- ---- what an event leaves of what the history began with

pub record IsSameFrame (w u : World) : Type 0 where
  pub servers : u.servers ≡ w.servers
  pub opening : u.opening ≡ w.opening
  pub logged : u.logged ≡ w.logged
  pub first : u.first ≡ w.first
  pub home : u.home ≡ w.home

pub of_story : (w u : World) → IsSameStory w u → IsSameFrame w u
of_story w u x = record { servers = x.servers; opening = x.opening; logged = x.logged; first = x.first; home = x.home }

pub of_entry : (w u : World) (entry : Entry) → HasEntry w u entry → IsSameFrame w u
of_entry w u entry x = record { servers = x.servers; opening = x.opening; logged = x.logged; first = x.first; home = x.home }

-- ---- lines under way

off_not_up : (p : Phase) → IsTrue (is_off p) → IsTrue (is_up p) → ⊥
off_not_up Off o u = false≢true u
off_not_up Up o u = false≢true o
off_not_up Still o u = false≢true o
off_not_up (Doomed fate) o u = false≢true o
off_not_up Dead o u = false≢true o

asks_there : (b : Bool) (x : Option Stage) (at : Stage) → (if b then x else None) ≡ Some at → IsTrue b
asks_there true x at e = refl
asks_there false x at e = absurd (none-some at e)

module _ (s : RunMoment) (r : IsReached s) (a : ℕ) (at : Stage) (e : stage s.core a ≡ Some at) where
  -- who has a line over paths under way is a server
  pub is_of_server : IsTrue (is_server a)
  is_of_server = go (is_server a) refl
    where
      go : (b : Bool) → is_server a ≡ b → IsTrue b
      go true f = refl
      go false f =
          absurd
          (off_not_up (s.core.servers a).phase (who_is_bare (setting_of r.script r.segments r.number) r.disk s r.run a f).off (staged s.core a at e))

  is_over_paths : (under : Under) (operation : Op) → (s.core.servers a).under ≡ Some under → operation_of under.line.what ≡ Some operation → IsTrue (is_path_op operation)
  is_over_paths under operation has asked =
      let test : IsTrue (asks is_path_op (s.core.servers a)) =
      (and_parts (is_up (s.core.servers a).phase) (asks is_path_op (s.core.servers a))
      (asks_there (is_up (s.core.servers a).phase && asks is_path_op (s.core.servers a))
      (stage_under s.core.setting s.core.locks a (s.core.servers a).cache (s.core.servers a).under) at e)).1 in
      subst (λ o. IsTrue (asked_by is_path_op o)) asked
      (and_parts (not (is_some under.fixed)) (asked_by is_path_op (operation_of under.line.what)) (subst (λ u. IsTrue (is_open is_path_op u)) has test)).1

-- ---- a step

-- it leads quietly to the next moment, and its story is told
pub record Onward (Else : Further) (s v : RunMoment) (w : World) (journal : ℕ → Journal) (when : ℕ → ℕ) (first_tree : FileTree) (numbers : List ℕ)
    (kept : IsKeptAlong Else s w journal when first_tree numbers) (step : Step s v) : Type 0 where
  pub leads : Leads w v (journals_next s v w step journal)
  pub quiet : AllQuiet v.core.setting.segments w leads.events
  pub frame : IsSameFrame w leads.world
  pub story : HasStoryAt when first_tree numbers s v w leads.world kept.told step

module _ (laws : BesideLaws) (Else : Further) (s v : RunMoment) (w : World) (journal : ℕ → Journal) (when : ℕ → ℕ) (first_tree : FileTree) (numbers : List ℕ)
    (kept : IsKeptAlong Else s w journal when first_tree numbers) where
  abbrev r : IsReached s
  r = kept.beside.run.reached

  -- a line that has come to some stage is numbered
  pub numbered_at : (a : ℕ) (at : Stage) → stage s.core a ≡ Some at → LinesAreNumbered s w when first_tree numbers a
  numbered_at a at e =
      laws.under_way s w when first_tree numbers a r (is_of_server s r a at e) kept.beside.numbered kept.beside.asked (is_over_paths s r a at e)

  module _ (step : Step s v) where
    abbrev further : ℕ → Journal
    further = journals_next s v w step journal

    abbrev pub reached_then : IsReached v
    reached_then = record {
      bytes = r.bytes;
      script = r.script;
      read = r.read;
      segments = r.segments;
      number = r.number;
      disk = r.disk;
      run = longer (first_state (setting_of r.script r.segments r.number) r.disk) s v r.run step;
    }

    pub same_setting : v.core.setting ≡ s.core.setting
    same_setting = setting_of_run (setting_of r.script r.segments r.number) r.disk v reached_then.run ∙ sym (setting_of_run (setting_of r.script r.segments r.number) r.disk s r.run)

    module _ (x : Onward Else s v w journal when first_tree numbers kept step) where
      abbrev u : World
      u = x.leads.world

      -- it has the number of an answered line
      abbrev Answered : Commit → Type 0
      Answered c = IsAnswered s.core.setting s.core.answered c.op

      sound : IsSound s.core.setting.segments when first_tree numbers u × IsBehind Answered w u
      sound =
          sound_run laws.events s.core.setting.segments when first_tree numbers Answered w x.leads.events u x.leads.run
          (subst (λ z. AllQuiet z.segments w x.leads.events) same_setting x.quiet)
          (record {
            good = kept.beside.run.good;
            legal = kept.beside.run.lines.legal.live;
            distinct = kept.beside.run.lines.distinct;
            zeros = kept.beside.run.zeros;
            sight = kept.beside.sight;
            none = kept.beside.none;
            acknowledged = kept.beside.acknowledged;
            regions = kept.beside.regions;
          })

      lines_then : IsOfLines s.core.setting.segments when first_tree numbers u
      lines_then = record {
        times = kept.beside.run.lines.times;
        stands = subst (λ o. StandsNumbered s.core.setting.segments o (record { tree = first_tree; numbers = numbers })) (sym x.frame.opening) kept.beside.run.lines.stands;
        legal = laws.left (sector_plan s.core.setting.segments when) (laws.events.framed s.core.setting.segments when) u sound.0.good sound.0.legal;
        distinct = sound.0.distinct;
        follows = follows_then;
        parameters = ap (λ l. l 0) x.frame.logged ∙ kept.beside.run.lines.parameters;
      }
        where
          follows_then : Follows s.core.setting.segments u.opening u.home u.logged u.first []
          follows_then =
              subst (λ o. Follows s.core.setting.segments o u.home u.logged u.first []) (sym x.frame.opening)
              (subst (λ h. Follows s.core.setting.segments w.opening h u.logged u.first []) (sym x.frame.home)
              (subst (λ l. Follows s.core.setting.segments w.opening w.home l u.first []) (sym x.frame.logged)
              (subst (λ f. Follows s.core.setting.segments w.opening w.home w.logged f []) (sym x.frame.first) kept.beside.run.lines.follows)))

      run_then : IsOfARun v u further when first_tree numbers
      run_then = record {
        reached = reached_then;
        whole = kept.beside.run.whole;
        world = x.leads.is;
        good = sound.0.good;
        zeros = sound.0.zeros;
        lines = subst (λ z. IsOfLines z.segments when first_tree numbers u) (sym same_setting) lines_then;
        sets = laws.sets s v w journal when first_tree numbers kept.beside.run step (λ a needs seen e. numbered_at a (Growing needs seen) e);
      }

      known_then : KnowsCells v.core.setting.segments u.opening u.logged u.first first_tree []
      known_then =
          subst (λ z. KnowsCells z.segments u.opening u.logged u.first first_tree []) (sym same_setting)
          (subst (λ o. KnowsCells s.core.setting.segments o u.logged u.first first_tree []) (sym x.frame.opening)
          (subst (λ l. KnowsCells s.core.setting.segments w.opening l u.first first_tree []) (sym x.frame.logged)
          (subst (λ f. KnowsCells s.core.setting.segments w.opening w.logged f first_tree []) (sym x.frame.first) kept.beside.known)))

      numbered_then : AreNumbered v.core.setting v.core.answered u
      numbered_then =
          subst (λ z. AreNumbered z v.core.answered u) (sym same_setting)
          (laws.numbers s.core.setting s.core.answered v.core.answered w u (step_said s v step).grows sound.1.each sound.1.last kept.beside.numbered)

      -- where what is dirty goes on
      pub beside_then : IsDirtSo v u further → StandsBeside v u further when first_tree numbers
      beside_then dirt = record {
        run = run_then;
        sixteen = x.frame.servers ∙ kept.beside.sixteen;
        sight = sound.0.sight;
        known = known_then;
        asked = subst (λ z. IsAskedWell z when first_tree numbers) (sym same_setting) kept.beside.asked;
        numbered = numbered_then;
        dirt = dirt;
        held =
            laws.held s v w r step kept.beside.run.world.tied kept.beside.run.good
            (laws.moves s w journal when first_tree numbers kept.beside.run kept.beside.dirt.cleared.pending (λ a outcome e. numbered_at a (Finishing outcome) e)) kept.beside.held;
        none = subst (λ z. NoneInLogs z.segments u) (sym same_setting) sound.0.none;
        acknowledged = sound.0.acknowledged;
        regions = subst (λ z. NameRegions z.segments u) (sym same_setting) sound.0.regions;
      }
