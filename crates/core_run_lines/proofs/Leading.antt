-- The events of lines lead on, by their law, the history goes on as they say, and all stands beside the next moment.
use Rattle.std.proofs.Common.{◌≡◌, ℕ, IsTrue, List, [], ◌∷◌, Option, Some, refl, sym, ap, ◌∙◌, subst}
use Rattle.std.proofs.lemmas.Bool.{false≢true}
use Rattle.frang_base.specs.Functions.{put}
use Rattle.tree_definitions.specs.Tree.{FileTree}
use Rattle.ring_definitions.specs.RingRuns as log
use Rattle.core_definitions.specs.Cores.{Core, stage}
use Rattle.core_definitions.specs.Events.{Event, Begin, Ask, Fetch, Again, Clear, Commit, Answer, Give, Issue, Doom, Resume, Arrive, Lose, Die, Renew, Tick, Recover, Load, Look, Finish, HostLine, Close, Read, Show, End, Nothing}
use Rattle.core_definitions.specs.LineGuards.{done_by}
use Rattle.core_definitions.specs.Lines.{Stage, Finishing}
use Rattle.core_definitions.specs.Plans.{Outcome}
use Rattle.core_definitions.specs.Runs.{State as RunMoment, Event_, Makes, next}
use Rattle.core_definitions.specs.Settings.{setting_of}
use Rattle.core_laws.proofs.Kept.{setting_of_run}
use Rattle.line_histories.specs.Following.{KindsFollow}
use Rattle.sector_world.specs.Histories.{settled}
use Rattle.sector_world.specs.Kinds.{Good}
use Rattle.sector_world.specs.Steps.{Event as SectorEvent, Run, after}
use Rattle.sector_world.specs.Steps.Run.{goes, stays}
use Rattle.sector_world.specs.World.{World}
use Rattle.sector_world.proofs.Every.{good_step}
use Rattle.core_world.specs.Journals.{Journal, with_event_of}
use Rattle.core_world.specs.Steps.{IsReached}
use Rattle.core_commits.specs.Standing.{TheDiskStands}
use Rattle.core_line_steps.specs.Marks.{journal_done}
use Rattle.stop_laws.specs.Events.{EventsKeepSight, IsInSight}
use Rattle.stop_laws.specs.Known.{KnowsCells}
use Rattle.core_commit_steps.specs.Lasts.{SettledLastsAreReached}
use Rattle.core_commit_steps.specs.Moments as lines
use Rattle.core_commit_steps.specs.Steps as line_steps
use Rattle.core_commit_steps.specs.Steps.{AreOfLine, LinesGoOn, journals_behind_line, record_left}
use Rattle.core_commit_steps.proofs.Beside.{finished_of}
use Rattle.core_commit_steps.proofs.Going.{reached_step}
use Rattle.core_run_ties.specs.Ties.{StandsFurther}
use Rattle.core_runs.specs.Journals.{committed_journals, journals_after, reclaimed_journals}
use Rattle.core_runs.specs.Kept.{IsKeptAlong, NameRegions}
use Rattle.core_runs.specs.Open.{LineLeads, LinesLeadOn, is_of_lines}
use Rattle.core_run_lines.proofs.Telling.{line_names, line_story, regions_run}

pub record LineLaws : Type 0 where
  pub lines : LinesGoOn
  pub reached : SettledLastsAreReached
  pub sight : EventsKeepSight
  pub stands : TheDiskStands

-- what the law of lines asks beside is there
kept_for_lines : (first : World) (s : RunMoment) (w : World) (journal : ℕ → Journal) (when : ℕ → ℕ) (first_tree : FileTree) (numbers : List ℕ) →
    IsKeptAlong (StandsFurther first) s w journal when first_tree numbers → lines.StandsBeside s w journal when first_tree numbers
kept_for_lines first s w journal when first_tree numbers kept = record {
  run = kept.beside.run;
  sixteen = kept.beside.sixteen;
  asked = kept.beside.asked;
  numbered = kept.beside.numbered;
  cleared = kept.beside.dirt.cleared;
  held = kept.beside.held;
  ends = kept.beside.dirt.ends;
  open_ = kept.logs.open_;
  none = kept.beside.none;
  acknowledged = kept.beside.acknowledged;
  lasts = kept.further.lasts;
  room = kept.logs.room;
}

sight_run : EventsKeepSight → (w : World) (events : List SectorEvent) (u : World) → Run w events u → Good w → IsInSight w → IsInSight u
sight_run law w [] u stays g h = h
sight_run law w (e ∷ es) u (goes can rest) g h = sight_run law (after w e) es u rest (good_step w e can g) (law w e can g h)

-- ---- the same events, and the same journals

of_lines : (c : Core) (event : Event) → IsTrue (is_of_lines c event) → IsTrue (line_steps.is_of_lines c event)
of_lines c (Commit a) h = refl
of_lines c (Clear a block) h = refl
of_lines c (Again a) h = h
of_lines c (Begin a) h = absurd (false≢true h)
of_lines c (Ask a lock mode) h = absurd (false≢true h)
of_lines c (Fetch a sector) h = absurd (false≢true h)
of_lines c (Answer a) h = absurd (false≢true h)
of_lines c (Give a lock) h = absurd (false≢true h)
of_lines c (Issue a sector) h = absurd (false≢true h)
of_lines c (Doom a) h = absurd (false≢true h)
of_lines c (Resume a) h = absurd (false≢true h)
of_lines c (Arrive ticket) h = absurd (false≢true h)
of_lines c (Lose ticket) h = absurd (false≢true h)
of_lines c (Die a) h = absurd (false≢true h)
of_lines c (Renew a) h = absurd (false≢true h)
of_lines c Tick h = absurd (false≢true h)
of_lines c (Recover dead by) h = absurd (false≢true h)
of_lines c (Load by slot) h = absurd (false≢true h)
of_lines c (Look by sector) h = absurd (false≢true h)
of_lines c (Finish by) h = absurd (false≢true h)
of_lines c (HostLine number) h = absurd (false≢true h)
of_lines c (Close a) h = absurd (false≢true h)
of_lines c (Read sector) h = absurd (false≢true h)
of_lines c (Show place) h = absurd (false≢true h)
of_lines c End h = absurd (false≢true h)

module _ (s : RunMoment) (w : World) (journal : ℕ → Journal) where
  abbrev done_at : ℕ → Option Stage → ℕ → Journal
  done_at a at = put journal a (journal_done (w.last a) (record_left (done_by at)) (journal a))

  commit_named : (a : ℕ) (outcome : Outcome) → stage s.core a ≡ Some (Finishing outcome) → done_at a (stage s.core a) ≡ committed_journals w journal a (stage s.core a)
  commit_named a outcome e = ap (done_at a) e ∙ sym (ap (committed_journals w journal a) e)

  reclaim_named : (a : ℕ) (outcome : Outcome) → stage s.core a ≡ Some (Finishing outcome) → with_event_of journal a log.GiveUp ≡ reclaimed_journals journal a (stage s.core a)
  reclaim_named a outcome e = sym (ap (reclaimed_journals journal a) e)

  same_named : (event : Event) → IsTrue (is_of_lines s.core event) → Makes s event Nothing → journals_behind_line s w event journal ≡ journals_after s w event Nothing journal
  same_named (Commit a) h makes = let f = finished_of (stage s.core a) makes.can.can.done in commit_named a f.0 f.1
  same_named (Clear a block) h makes = refl
  same_named (Again a) h makes = let f = finished_of (stage s.core a) h in reclaim_named a f.0 f.1
  same_named (Begin a) h makes = absurd (false≢true h)
  same_named (Ask a lock mode) h makes = absurd (false≢true h)
  same_named (Fetch a sector) h makes = absurd (false≢true h)
  same_named (Answer a) h makes = absurd (false≢true h)
  same_named (Give a lock) h makes = absurd (false≢true h)
  same_named (Issue a sector) h makes = absurd (false≢true h)
  same_named (Doom a) h makes = absurd (false≢true h)
  same_named (Resume a) h makes = absurd (false≢true h)
  same_named (Arrive ticket) h makes = absurd (false≢true h)
  same_named (Lose ticket) h makes = absurd (false≢true h)
  same_named (Die a) h makes = absurd (false≢true h)
  same_named (Renew a) h makes = absurd (false≢true h)
  same_named Tick h makes = absurd (false≢true h)
  same_named (Recover dead by) h makes = absurd (false≢true h)
  same_named (Load by slot) h makes = absurd (false≢true h)
  same_named (Look by sector) h makes = absurd (false≢true h)
  same_named (Finish by) h makes = absurd (false≢true h)
  same_named (HostLine number) h makes = absurd (false≢true h)
  same_named (Close a) h makes = absurd (false≢true h)
  same_named (Read sector) h makes = absurd (false≢true h)
  same_named (Show place) h makes = absurd (false≢true h)
  same_named End h makes = absurd (false≢true h)

-- ---- all of it

module _ (laws : LineLaws) (first : World) (s : RunMoment) (w : World) (journal : ℕ → Journal) (when : ℕ → ℕ) (first_tree : FileTree) (numbers : List ℕ)
    (kept : IsKeptAlong (StandsFurther first) s w journal when first_tree numbers) (event : Event) (makes : Makes s event Nothing) where
  abbrev r : IsReached s
  r = kept.beside.run.reached

  abbrev v : RunMoment
  v = next s event Nothing

  same_setting : v.core.setting ≡ s.core.setting
  same_setting =
      setting_of_run (setting_of r.script r.segments r.number) r.disk v (reached_step s v r (Event_ event Nothing makes)).run
      ∙ sym (setting_of_run (setting_of r.script r.segments r.number) r.disk s r.run)

  abbrev further : ℕ → Journal
  further = journals_after s w event Nothing journal

  abbrev On : Type 0
  On = lines.LineGoesOn w v further when first_tree numbers (AreOfLine s w journal when first_tree event)

  module _ (told : IsTrue (is_of_lines s.core event)) (on : On) where
    known_then : KnowsCells v.core.setting.segments on.leads.world.opening on.leads.world.logged on.leads.world.first first_tree []
    known_then =
        subst (λ z. KnowsCells z.segments on.leads.world.opening on.leads.world.logged on.leads.world.first first_tree []) (sym same_setting)
        (subst (λ o. KnowsCells s.core.setting.segments o on.leads.world.logged on.leads.world.first first_tree []) (sym on.story.opening)
        (subst (λ l. KnowsCells s.core.setting.segments w.opening l on.leads.world.first first_tree []) (sym on.story.logged)
        (subst (λ f. KnowsCells s.core.setting.segments w.opening w.logged f first_tree []) (sym on.story.first) kept.beside.known)))

    -- which sectors have versions there follows what they say
    kinds_then : KindsFollow s.core.setting.segments on.leads.world.opening on.leads.world.logged (settled on.leads.world.history)
    kinds_then =
        subst (λ z. KindsFollow z.segments on.leads.world.opening on.leads.world.logged (settled on.leads.world.history)) same_setting
        (laws.stands v.core.setting.segments when first_tree numbers on.leads.world on.beside.run.lines on.beside.run.good).follows.kinds

    regions_then : NameRegions v.core.setting.segments on.leads.world
    regions_then =
        subst (λ z. NameRegions z.segments on.leads.world) (sym same_setting)
        (regions_run s.core.setting.segments w on.leads.events on.leads.world on.leads.run
        (line_names s w journal when first_tree event told on.leads.world on.leads.events on.entries on.by on.story kinds_then) kept.beside.regions)

    from_lines : LineLeads (StandsFurther first) s w journal when first_tree numbers kept event
    from_lines = record {
      leads = on.leads;
      story = line_story s w journal when first_tree numbers kept.told event told on.leads.world on.leads.events on.entries on.by on.story;
      beside = record {
        run = on.beside.run;
        sixteen = on.beside.sixteen;
        sight = sight_run laws.sight w on.leads.events on.leads.world on.leads.run kept.beside.run.good kept.beside.sight;
        known = known_then;
        asked = on.beside.asked;
        numbered = on.beside.numbered;
        dirt = record {
          cleared = on.beside.cleared;
          ends = on.beside.ends;
          reached = λ a server mounted. laws.reached v on.leads.world further a on.leads.is server mounted on.beside.lasts;
        };
        held = on.beside.held;
        none = on.beside.none;
        acknowledged = on.beside.acknowledged;
        regions = regions_then;
      };
    }

pub lines_lead : LineLaws → (first : World) → LinesLeadOn (StandsFurther first)
lines_lead laws first s w journal when first_tree numbers event kept told makes =
    from_lines laws first s w journal when first_tree numbers kept event makes told
    (subst (λ js. lines.LineGoesOn w (next s event Nothing) js when first_tree numbers (AreOfLine s w journal when first_tree event)) (same_named s w journal event told makes)
    (laws.lines s w journal when first_tree numbers event Nothing (of_lines s.core event told) makes (kept_for_lines first s w journal when first_tree numbers kept)))
