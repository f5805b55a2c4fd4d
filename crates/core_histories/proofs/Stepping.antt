-- Step by step: what happened is told on by the law of its event.
use Rattle.std.proofs.Common.{ℕ, ◌≡◌, Bool, IsTrue, Option, Some, None, List, refl, sym, subst}
use Rattle.std.proofs.lemmas.Bool.{false≢true}
use Rattle.tree_definitions.specs.Tree.{FileTree}
use Rattle.sector_world.specs.World.{World}
use Rattle.core_definitions.specs.EndGuards.{CanFinish, is_recovery, is_through}
use Rattle.core_definitions.specs.Events.{Event, Answer, Close, Commit, Finish, Heard}
use Rattle.core_definitions.specs.Recoveries.{Recovery}
use Rattle.core_definitions.specs.Runs.{State, Event_, Makes, next}
use Rattle.core_world.specs.Journals.{Journal}
use Rattle.core_commits.specs.Moments.{IsOfARun, LinesAreNumbered}
use Rattle.core_histories.specs.Silent.{SilentStepsAreTold}
use Rattle.core_histories.specs.Steps.{HasStoryOf, StepsAreTold}
use Rattle.core_histories.specs.Tellings.{IsTold}
use Rattle.core_histories.specs.Told.{AnswersAreTold, ClosesAreTold, CommitsAreTold, FinishesAreTold}

has_recovery : (passes : Recovery → Bool) (o : Option Recovery) → IsTrue (is_recovery passes o) → (recovery : Recovery) × (o ≡ Some recovery)
has_recovery passes None h = absurd (false≢true h)
has_recovery passes (Some recovery) h = (recovery, refl)

module _ (silent : SilentStepsAreTold) (answers : AnswersAreTold) (closes : ClosesAreTold) (ends : FinishesAreTold) (commits : CommitsAreTold) (s : State) (w u : World) (journal : ℕ → Journal) (when : ℕ → ℕ)
    (first_tree : FileTree) (numbers : List ℕ) (m : IsOfARun s w journal when first_tree numbers)
    (numbered : (a : ℕ) → LinesAreNumbered s w when first_tree numbers a) (told : IsTold when first_tree numbers s w) where
  -- of these nothing is heard
  unheard : (event : Event) (heard : Heard) → Makes s event heard → (silence : Heard) → heard ≡ silence → (Makes s event silence → IsTold when first_tree numbers (next s event silence) u) →
      IsTold when first_tree numbers (next s event heard) u
  unheard event heard makes silence same go = subst (λ h. Makes s event h → IsTold when first_tree numbers (next s event h) u) (sym same) go makes

  by_event : (event : Event) (heard : Heard) → Makes s event heard → HasStoryOf when first_tree numbers s w u told event → IsTold when first_tree numbers (next s event heard) u
  by_event (Commit a) heard makes story =
      unheard (Commit a) heard makes _ makes.hears
      (λ n. commits s w u journal when first_tree numbers a story.outcome m story.at (numbered a) story.op story.clean story.entry told)
  by_event (Answer a) heard makes story = unheard (Answer a) heard makes _ makes.hears (λ n. answers s w u when first_tree numbers a m.reached m.good n story told)
  by_event (Close a) heard makes story = unheard (Close a) heard makes _ makes.hears (λ n. closes s w u when first_tree numbers a m.reached n story told)
  by_event (Finish by) heard makes story =
      let can : CanFinish s.core by = makes.can.can in
      let x = has_recovery (is_through s.core) (s.core.servers by).recovery can.ended in
      unheard (Finish by) heard makes _ makes.hears
      (λ n. ends s w u when first_tree numbers by x.0 m.good m.lines n x.1 (story x.0 x.1).entry told (story x.0 x.1).keeps)
  by_event event heard makes story = silent s (next s event heard) w u when first_tree numbers (Event_ event heard makes) m.reached refl story told

pub steps_are_told : SilentStepsAreTold → AnswersAreTold → ClosesAreTold → FinishesAreTold → CommitsAreTold → StepsAreTold
steps_are_told silent answers closes ends commits s v w u journal when first_tree numbers (Event_ event heard makes) m numbered told story =
    by_event silent answers closes ends commits s w u journal when first_tree numbers m numbered told event heard makes story
steps_are_told silent answers closes ends commits s v w u journal when first_tree numbers step m numbered told story = silent s v w u when first_tree numbers step m.reached refl story told
