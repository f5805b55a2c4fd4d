-- What stands beside goes on by quiet events: nothing is issued in a log, no log is known less, nothing is done.
use Rattle.std.proofs.Common.{◌≡◌, ◌≤◌, ℕ, true, false, List, [], ◌∷◌, Some, None, refl, sym, ap, ◌∙◌, subst, le_refl}
use Rattle.std.proofs.lemmas.Bool.{false≢true}
use Rattle.frang_base.specs.Functions.{put}
use Rattle.frang_base.proofs.Basics.{at_put}
use Rattle.line_histories.specs.Following.{Follows}
use Rattle.line_histories.specs.LinePlans.{sector_plan}
use Rattle.line_histories.specs.Standing.{StandsNumbered}
use Rattle.line_histories.specs.Trees.{MayNumber}
use Rattle.line_histories.proofs.Framed.{lines_framed}
use Rattle.tree_definitions.specs.Tree.{FileTree}
use Rattle.core_definitions.specs.Settings.{Setting, setting_of}
use Rattle.core_definitions.specs.Runs.{State as RunMoment, Step}
use Rattle.core_laws.proofs.Kept.{setting_of_run}
use Rattle.sector_world.specs.Histories.{Each, settled}
use Rattle.sector_world.specs.Kinds.{Good}
use Rattle.sector_world.specs.Plans.{Legal}
use Rattle.sector_world.specs.Steps.{Event, Run, after}
use Rattle.sector_world.specs.Steps.Event.{Tick, Leave, Fail, Renew, Mount, Unmount, Take, Give, Lower, Do, Reach, Ack, Sync, Reclaim, Crash, Begin, Look, Finish, Fetch, Issue, Replay, Land, Fade, Break, BreakNew, FetchBytes, Clear, IssueBytes, LandBytes, FadeBytes, BreakBytes, BreakBytesNew, Settle}
use Rattle.sector_world.specs.Steps.Run.{goes, stays}
use Rattle.sector_world.specs.Trees.{Distinct}
use Rattle.sector_world.specs.World.{World, ByteFlight, Flight}
use Rattle.sector_world.proofs.Every.{good_run}
use Rattle.sector_world.proofs.Left.{legal_left}
use Rattle.core_world.specs.Beside.{NoneFlies, NoneInLogs}
use Rattle.core_world.specs.Events.{IsSameStory, LeadsQuietly}
use Rattle.core_world.specs.Journals.{Journal}
use Rattle.core_world.specs.Quiet.{AllQuiet, IsQuiet}
use Rattle.core_world.specs.Steps.{IsReached}
use Rattle.core_world.specs.Ties.{is_log_sector}
use Rattle.core_world.proofs.Quiet.{quiet_knows}
use Rattle.core_commits.specs.Standing.{IsOfLines}
use Rattle.core_commits.proofs.Zeroing.{runs_keep_zeros}
use Rattle.core_line_steps.specs.Numbers.{AreNumbered, IsAnswered, IsAskedWell}
use Rattle.core_line_steps.proofs.Numbered.{numbers_stay}
use Rattle.core_commit_steps.specs.Lasts.{recoveries_in}
use Rattle.core_commit_steps.specs.Moments.{StandsBeside}
use Rattle.core_commit_steps.specs.Quiet.{IsSaidBeside, QuietStepsKeepBeside}
use Rattle.core_commit_steps.proofs.Beside.{held_on, sets_on}
use Rattle.core_commit_steps.proofs.Facts.{Facts}
use Rattle.core_commit_steps.proofs.Going.{AllKnow, acknowledged_run, reached_step}
use Rattle.core_commit_steps.proofs.Settling.{lasts_stay, run_last}

-- ---- nothing is in flight in a log

module _ (segments : ℕ) (w : World) (none : NoneInLogs segments w) (x : ℕ) (log : is_log_sector segments x ≡ true) where
  -- what is issued is at another sector
  issued : (f : Flight) (s : ℕ) → is_log_sector segments s ≡ false → put w.flight s (Some f) x ≡ None
  issued f s out = at_put (λ o. o ≡ None) w.flight s (Some f) x (λ e. absurd (false≢true (sym out ∙ ap (is_log_sector segments) (sym e) ∙ log))) (λ away. (none x log).0)

  issued_bytes : (f : ByteFlight) (s : ℕ) → is_log_sector segments s ≡ false → put w.byte_flight s (Some f) x ≡ None
  issued_bytes f s out = at_put (λ o. o ≡ None) w.byte_flight s (Some f) x (λ e. absurd (false≢true (sym out ∙ ap (is_log_sector segments) (sym e) ∙ log))) (λ away. (none x log).1)

  gone : (s : ℕ) → put w.flight s None x ≡ None
  gone s = at_put (λ o. o ≡ None) w.flight s None x (λ e. refl) (λ away. (none x log).0)

  gone_bytes : (s : ℕ) → put w.byte_flight s None x ≡ None
  gone_bytes s = at_put (λ o. o ≡ None) w.byte_flight s None x (λ e. refl) (λ away. (none x log).1)

  quiet_none : (e : Event) → IsQuiet segments w e → NoneFlies (after w e) x
  quiet_none Tick q = none x log
  quiet_none Leave q = none x log
  quiet_none (Fail b) q = none x log
  quiet_none (Renew b) q = none x log
  quiet_none (Mount b) q = none x log
  quiet_none (Unmount b) q = none x log
  quiet_none (Take b l mode) q = none x log
  quiet_none (Give b l) q = none x log
  quiet_none (Lower b l) q = none x log
  quiet_none (Do c) q = none x log
  quiet_none (Reach d k) q = none x log
  quiet_none (Ack b k) q = none x log
  quiet_none (Sync b) q = none x log
  quiet_none (Reclaim b k) q = none x log
  quiet_none (Crash b) q = none x log
  quiet_none (Begin d b) q = none x log
  quiet_none (Look r s) q = none x log
  quiet_none (Finish r) q = none x log
  quiet_none (Fetch b s) q = none x log
  quiet_none (FetchBytes b s) q = none x log
  quiet_none (Clear b s) q = none x log
  quiet_none (Settle b s block mark) q = none x log
  quiet_none (Issue b s block mark) q = (issued _ s q, (none x log).1)
  quiet_none (Replay r s block) q = (issued _ s q, (none x log).1)
  quiet_none (IssueBytes b s block mark) q = ((none x log).0, issued_bytes _ s q)
  quiet_none (Land s f) q = (gone s, (none x log).1)
  quiet_none (Fade s f) q = (gone s, (none x log).1)
  quiet_none (Break s f) q = (gone s, (none x log).1)
  quiet_none (BreakNew s f) q = (gone s, (none x log).1)
  quiet_none (LandBytes s f) q = ((none x log).0, gone_bytes s)
  quiet_none (FadeBytes s f) q = ((none x log).0, gone_bytes s)
  quiet_none (BreakBytes s f) q = ((none x log).0, gone_bytes s)
  quiet_none (BreakBytesNew s f) q = ((none x log).0, gone_bytes s)

run_none : (segments : ℕ) (w : World) (events : List Event) (u : World) → Run w events u → AllQuiet segments w events → NoneInLogs segments w → NoneInLogs segments u
run_none segments w [] u stays quiet none = none
run_none segments w (e ∷ es) u (goes can rest) quiet none = run_none segments (after w e) es u rest quiet.1 (λ x log. quiet_none segments w none x log e quiet.0)

run_knows : (segments : ℕ) (w : World) (events : List Event) → AllQuiet segments w events → AllKnow w events
run_knows segments w [] quiet = tt
run_knows segments w (e ∷ es) quiet = (quiet_knows segments w e quiet.0, run_knows segments (after w e) es quiet.1)

-- ---- the history is of lines still

lines_stay : (segments : ℕ) (when : ℕ → ℕ) (first_tree : FileTree) (numbers : List ℕ) (w u : World) → IsSameStory w u → Good u → IsOfLines segments when first_tree numbers w → IsOfLines segments when first_tree numbers u
lines_stay segments when first_tree numbers w u same good l = record {
  times = l.times;
  stands = subst (λ o. StandsNumbered segments o (record { tree = first_tree; numbers = numbers })) (sym same.opening) l.stands;
  legal = record { live = live; left = legal_left (sector_plan segments when) (lines_framed segments when) u good live u.servers };
  distinct = subst (λ h. Distinct (MayNumber numbers) first_tree (settled h)) (sym same.history) l.distinct;
  follows =
      subst (λ o. Follows segments o u.home u.logged u.first []) (sym same.opening)
      (subst (λ h. Follows segments w.opening h u.logged u.first []) (sym same.home)
      (subst (λ g. Follows segments w.opening w.home g u.first []) (sym same.logged) (subst (λ f. Follows segments w.opening w.home w.logged f []) (sym same.first) l.follows)));
  parameters = ap (λ f. f 0) same.logged ∙ l.parameters;
}
  where
    live : Legal (sector_plan segments when) u.opening (settled u.history)
    live =
        subst (λ o. Legal (sector_plan segments when) o (settled u.history)) (sym same.opening)
        (subst (λ h. Legal (sector_plan segments when) w.opening (settled h)) (sym same.history) l.legal.live)

-- ---- a step

module _ (facts : Facts) (s v : RunMoment) (w : World) (journal further : ℕ → Journal) (when : ℕ → ℕ) (first_tree : FileTree) (numbers : List ℕ) (step : Step s v) (b : StandsBeside s w journal when first_tree numbers)
    (quiet : LeadsQuietly w v further) (said : IsSaidBeside s v quiet.leads.world further) where
  abbrev u : World
  u = quiet.leads.world

  abbrev then_ : IsReached v
  then_ = reached_step s v b.run.reached step

  setting_same : v.core.setting ≡ s.core.setting
  setting_same =
      setting_of_run (setting_of b.run.reached.script b.run.reached.segments b.run.reached.number) b.run.reached.disk v then_.run
      ∙ sym (setting_of_run (setting_of b.run.reached.script b.run.reached.segments b.run.reached.number) b.run.reached.disk s b.run.reached.run)

  segments_same : v.core.setting.segments ≡ s.core.setting.segments
  segments_same = ap (λ (t : Setting). t.segments) setting_same

  all_quiet : AllQuiet s.core.setting.segments w quiet.leads.events
  all_quiet = subst (λ n. AllQuiet n w quiet.leads.events) segments_same quiet.quiet

  none_ends : recoveries_in quiet.leads.world.history ≤ recoveries_in w.history
  none_ends = subst (λ h. recoveries_in h ≤ recoveries_in w.history) (sym quiet.story.history) (le_refl (recoveries_in w.history))

  lasts_same : (a : ℕ) → u.last a ≡ w.last a
  lasts_same = run_last s.core.setting.segments w quiet.leads.events u quiet.leads.run all_quiet none_ends

  good : Good u
  good = good_run w quiet.leads.events u quiet.leads.run b.run.good

  pub stands_still : StandsBeside v quiet.leads.world further when first_tree numbers
  stands_still = record {
    run = record {
      reached = then_;
      whole = b.run.whole;
      world = quiet.leads.is;
      good = good;
      zeros = runs_keep_zeros w u quiet.leads.events quiet.leads.run b.run.good b.run.zeros;
      lines = subst (λ n. IsOfLines n when first_tree numbers u) (sym segments_same) (lines_stay s.core.setting.segments when first_tree numbers w u quiet.story good b.run.lines);
      sets = sets_on facts s w journal when first_tree numbers b v step;
    };
    sixteen = quiet.story.servers ∙ b.sixteen;
    asked = subst (λ t. IsAskedWell t when first_tree numbers) (sym setting_same) b.asked;
    numbered = subst (λ t. AreNumbered t v.core.answered u) (sym setting_same)
        (numbers_stay s.core.setting s.core.answered v.core.answered w u said.answered
        (λ each. subst (λ h. Each (λ c. IsAnswered s.core.setting s.core.answered c.op) (settled h)) (sym quiet.story.history) each) (λ a. subst (λ n. n ≤ w.last a) (sym (lasts_same a)) (le_refl (w.last a))) b.numbered);
    cleared = said.cleared;
    held = held_on facts s w journal when first_tree numbers b v step;
    ends = said.ends;
    open_ = said.open_;
    none = subst (λ n. NoneInLogs n u) (sym segments_same) (run_none s.core.setting.segments w quiet.leads.events u quiet.leads.run all_quiet b.none);
    acknowledged = acknowledged_run w quiet.leads.events u quiet.leads.run (run_knows s.core.setting.segments w quiet.leads.events all_quiet) b.run.good b.acknowledged;
    lasts = lasts_stay s.core.setting.segments s.core.servers v.core.servers w u quiet.leads.events quiet.leads.run all_quiet (ap settled quiet.story.history) none_ends said.logs b.lasts;
    room = said.room;
  }

pub quiet_steps : Facts → QuietStepsKeepBeside
quiet_steps facts s v w journal further when first_tree numbers step b quiet said = stands_still facts s v w journal further when first_tree numbers step b quiet said
