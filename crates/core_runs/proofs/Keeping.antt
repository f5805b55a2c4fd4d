-- Each step keeps all that stands beside a moment, by the laws of the events and by what is open; and so does each run.
use Rattle.std.proofs.Common.{◌≡◌, ℕ, Bool, true, false, IsTrue, List, Some, refl, sym, subst}
use Rattle.std.proofs.lemmas.Bool.{false≢true}
use Rattle.tree_definitions.specs.Tree.{FileTree}
use Rattle.core_definitions.specs.EndGuards.{is_through}
use Rattle.core_definitions.specs.Events.{Event, Again, Clear, Commit, Answer, Finish, Close, Heard, Nothing}
use Rattle.core_definitions.specs.Lines.{Finishing}
use Rattle.core_definitions.specs.Recoveries.{Recovery}
use Rattle.core_definitions.specs.Runs.{State as RunMoment, Step, Event_, Enter, Hold, Flush, Relock, Note, Peek, PeekFails, Stays, Goes, Makes, next}
use Rattle.sector_world.specs.World.{World}
use Rattle.core_world.specs.Journals.{Journal}
use Rattle.core_world.specs.Steps.{Leads}
use Rattle.core_histories.specs.Silent.{SilentStepsAreTold}
use Rattle.core_histories.specs.Steps.{HasStoryAt, HasStoryOf}
use Rattle.core_histories.specs.Tellings.{IsTold}
use Rattle.core_histories.specs.Told.{AnswersAreTold, ClosesAreTold, CommitsAreTold, FinishesAreTold}
use Rattle.core_runs.specs.Journals.{journals_next}
use Rattle.core_runs.specs.Kept.{Further, IsKeptAlong, StandsBeside}
use Rattle.core_runs.specs.Open.{DirtGoesOn, FurtherGoesOn, LineLeads, LinesLeadOn, LogsGoOn, RecoveriesKeepTheirReports, is_line_step, is_of_lines}
use Rattle.core_runs.specs.Steps.{LeadsAlong, RunsAreKept, StepsAreKeptByParts}
use Rattle.core_runs.proofs.Events.{EventLaws, has_recovery, step_on}
use Rattle.core_runs.proofs.Leading.{BesideLaws, Onward, beside_then, numbered_at}

pub record Telling : Type 0 where
  pub silent : SilentStepsAreTold
  pub answers : AnswersAreTold
  pub closes : ClosesAreTold
  pub ends : FinishesAreTold
  pub commits : CommitsAreTold

-- of the events of lines nothing is heard
line_unheard : (s : RunMoment) (event : Event) (heard : Heard) → IsTrue (is_of_lines s.core event) → Makes s event heard → heard ≡ Nothing
line_unheard s (Commit a) heard h m = m.hears
line_unheard s (Clear a block) heard h m = m.hears
line_unheard s (Again a) heard h m = m.hears
line_unheard s event heard h m = absurd (false≢true h)

module _ (laws : EventLaws) (beside : BesideLaws) (telling : Telling) (Else : Further) (logs : LogsGoOn Else) (lines : LinesLeadOn Else) (dirt : DirtGoesOn Else) (further : FurtherGoesOn Else)
    (reports : RecoveriesKeepTheirReports Else) (s : RunMoment) (w : World) (journal : ℕ → Journal) (when : ℕ → ℕ) (first_tree : FileTree) (numbers : List ℕ)
    (kept : IsKeptAlong Else s w journal when first_tree numbers) where
  -- ---- what is told

  unheard : (event : Event) (heard silence : Heard) (u : World) → Makes s event heard → heard ≡ silence → (Makes s event silence → IsTold when first_tree numbers (next s event silence) u) →
      IsTold when first_tree numbers (next s event heard) u
  unheard event heard silence u m same go = subst (λ h. Makes s event h → IsTold when first_tree numbers (next s event h) u) (sym same) go m

  told_by : (u : World) (event : Event) (heard : Heard) → Makes s event heard → HasStoryOf when first_tree numbers s w u kept.told event → IsTold when first_tree numbers (next s event heard) u
  told_by u (Commit a) heard m story =
      unheard (Commit a) heard Nothing u m m.hears
      (λ n. telling.commits s w u journal when first_tree numbers a story.outcome kept.beside.run story.at
      (numbered_at beside Else s s w journal when first_tree numbers kept a (Finishing story.outcome) story.at) story.op story.clean story.entry kept.told)
  told_by u (Answer a) heard m story =
      unheard (Answer a) heard Nothing u m m.hears (λ n. telling.answers s w u when first_tree numbers a kept.beside.run.reached kept.beside.run.good n story kept.told)
  told_by u (Close a) heard m story = unheard (Close a) heard Nothing u m m.hears (λ n. telling.closes s w u when first_tree numbers a kept.beside.run.reached n story kept.told)
  told_by u (Finish by) heard m story = go (has_recovery (is_through s.core) (s.core.servers by).recovery m.can.can.ended)
    where
      go : (recovery : Recovery) × ((s.core.servers by).recovery ≡ Some recovery) → IsTold when first_tree numbers (next s (Finish by) heard) u
      go x =
          unheard (Finish by) heard Nothing u m m.hears
          (λ n. telling.ends s w u when first_tree numbers by x.0 kept.beside.run.good kept.beside.run.lines n x.1 (story x.0 x.1).entry kept.told (story x.0 x.1).keeps)
  told_by u event heard m story = telling.silent s (next s event heard) w u when first_tree numbers (Event_ event heard m) kept.beside.run.reached refl story kept.told

  told_then : (v : RunMoment) (u : World) (step : Step s v) → HasStoryAt when first_tree numbers s v w u kept.told step → IsTold when first_tree numbers v u
  told_then v u (Event_ event heard makes) story = told_by u event heard makes story
  told_then v u step story = telling.silent s v w u when first_tree numbers step kept.beside.run.reached refl story kept.told

  -- ---- all of it

  all_then : (v : RunMoment) (step : Step s v) (leads : Leads w v (journals_next s v w step journal)) → HasStoryAt when first_tree numbers s v w leads.world kept.told step →
      StandsBeside v leads.world (journals_next s v w step journal) when first_tree numbers → LeadsAlong s v w journal when first_tree numbers Else kept step
  all_then v step leads story stands = record {
    leads = leads;
    story = story;
    all = record {
      beside = stands;
      logs = logs s v w journal when first_tree numbers step kept leads;
      told = told_then v leads.world step story;
      further = further s v w journal when first_tree numbers step kept leads story stands (logs s v w journal when first_tree numbers step kept leads);
    };
  }

  plain_step : (v : RunMoment) (step : Step s v) → is_line_step s v step ≡ false → LeadsAlong s v w journal when first_tree numbers Else kept step
  plain_step v step n =
      let x : Onward Else s v w journal when first_tree numbers kept step = step_on laws Else reports s w journal when first_tree numbers kept v step n in
      all_then v step x.leads x.story
      (beside_then beside Else s v w journal when first_tree numbers kept step x (dirt s v w journal when first_tree numbers step kept n x.leads x.quiet x.story))

  line_step : (event : Event) (m : Makes s event Nothing) → IsTrue (is_of_lines s.core event) → LeadsAlong s (next s event Nothing) w journal when first_tree numbers Else kept (Event_ event Nothing m)
  line_step event m h =
      let x : LineLeads Else s w journal when first_tree numbers kept event = lines s w journal when first_tree numbers event kept h m in
      all_then (next s event Nothing) (Event_ event Nothing m) x.leads x.story x.beside

  event_step : (event : Event) (heard : Heard) (m : Makes s event heard) → LeadsAlong s (next s event heard) w journal when first_tree numbers Else kept (Event_ event heard m)
  event_step event heard m = go (is_of_lines s.core event) refl
    where
      go : (b : Bool) → is_of_lines s.core event ≡ b → LeadsAlong s (next s event heard) w journal when first_tree numbers Else kept (Event_ event heard m)
      go true e =
          subst (λ h. (n : Makes s event h) → LeadsAlong s (next s event h) w journal when first_tree numbers Else kept (Event_ event h n)) (sym (line_unheard s event heard e m))
          (λ n. line_step event n e) m
      go false e = plain_step (next s event heard) (Event_ event heard m) e

  pub step_along : (v : RunMoment) (step : Step s v) → LeadsAlong s v w journal when first_tree numbers Else kept step
  step_along v (Event_ event heard makes) = event_step event heard makes
  step_along v (Enter a line can) = plain_step v (Enter a line can) refl
  step_along v (Hold a on may) = plain_step v (Hold a on may) refl
  step_along v (Flush a may) = plain_step v (Flush a may) refl
  step_along v (Relock locks going are same wait) = plain_step v (Relock locks going are same wait) refl
  step_along v (Note line may) = plain_step v (Note line may) refl
  step_along v (Peek sector going) = plain_step v (Peek sector going) refl
  step_along v (PeekFails sector going) = plain_step v (PeekFails sector going) refl

pub steps_by_parts : EventLaws → BesideLaws → Telling → (Else : Further) → StepsAreKeptByParts Else
steps_by_parts laws beside telling Else logs lines dirt further reports s v w journal when first_tree numbers step kept =
    step_along laws beside telling Else logs lines dirt further reports s w journal when first_tree numbers kept v step

-- ---- runs

pub runs_along : (Else : Further) → RunsAreKept Else
runs_along Else steps when first_tree numbers s v Stays at = at
runs_along Else steps when first_tree numbers s w (Goes {v = v} step run) at =
    let x : LeadsAlong s v at.world at.journal when first_tree numbers Else at.kept step = steps s v at.world at.journal when first_tree numbers step at.kept in
    runs_along Else steps when first_tree numbers v w run (record { world = x.leads.world; journal = journals_next s v at.world step at.journal; kept = x.all })
