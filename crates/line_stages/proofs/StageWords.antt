-- What a stage in code asks is what the core's asks, whichever stage it is.
use Rattle.std.proofs.Common.{◌≡◌, ℕ, Bool, not, ◌&&◌, ◌||◌, is_some, Option, Some, None, sym, ap, ◌∙◌}
use Rattle.lock_definitions.specs.Locks.{Locks}
use Rattle.core_definitions.specs.LineGuards.{done_by, has_room_for, is_grown, is_moved, is_oldest_in_place, may_reclaim}
use Rattle.core_definitions.specs.Lines.{Stage}
use Rattle.core_definitions.specs.Plans.{Outcome}
use Rattle.core_definitions.specs.Rings.{has_room}
use Rattle.core_definitions.specs.Servers.{Server}
use Rattle.core_definitions.specs.Settings.{LogRules}
use Rattle.core_definitions.specs.Writes.{lacks_room}
use Rattle.kept_plans.specs.declared.kept.KeptPlan.{KeptPlan}
use Rattle.line_stages.specs.Asked.{asked_of, cleared_of, is_anew_or_grown, is_finishing, needs_of}
use Rattle.line_stages.specs.Needs.{needs_in}
use Rattle.line_stages.specs.Stages.{ComesTo, IsStage, asked_next, cleared_next}
use Rattle.line_stages.specs.declared.stage.Stage.{Stage as CodeStage}
use Rattle.line_stages.specs.declared.stage.Stage.TheVariants as stages

module _ (plan : Option KeptPlan) (server : Server) where
  pub needs_are : (code : Option CodeStage) (at : Option Stage) → IsStage plan server code at → needs_of server code ≡ needs_in at
  needs_are None at is = sym (ap needs_in is)
  needs_are (Some (stages.Asking lock mode)) at is = sym (ap needs_in is)
  needs_are (Some stages.Bitmaps) at is = sym (ap needs_in is)
  needs_are (Some (stages.Fetching sector cover)) at is = sym (ap needs_in is)
  needs_are (Some stages.Moving) at is = sym (ap needs_in is)
  needs_are (Some stages.Stopping) at is = sym (ap needs_in is)
  needs_are (Some stages.Growing) at is = sym (ap needs_in is.is)
  needs_are (Some (stages.Clearing block)) at is = sym (ap needs_in is)
  needs_are (Some stages.Finishing) at is = sym (ap needs_in is.is)

  pub asked_is : (locks : Locks) (number : ℕ) (code : Option CodeStage) (at : Option Stage) → IsStage plan server code at → asked_of locks number code ≡ asked_next locks number at
  asked_is locks number None at is = sym (ap (asked_next locks number) is)
  asked_is locks number (Some (stages.Asking lock mode)) at is = sym (ap (asked_next locks number) is)
  asked_is locks number (Some stages.Bitmaps) at is = sym (ap (asked_next locks number) is)
  asked_is locks number (Some (stages.Fetching sector cover)) at is = sym (ap (asked_next locks number) is)
  asked_is locks number (Some stages.Moving) at is = sym (ap (asked_next locks number) is)
  asked_is locks number (Some stages.Stopping) at is = sym (ap (asked_next locks number) is)
  asked_is locks number (Some stages.Growing) at is = sym (ap (asked_next locks number) is.is)
  asked_is locks number (Some (stages.Clearing block)) at is = sym (ap (asked_next locks number) is)
  asked_is locks number (Some stages.Finishing) at is = sym (ap (asked_next locks number) is.is)

  pub cleared_is : (code : Option CodeStage) (at : Option Stage) → IsStage plan server code at → cleared_of code ≡ cleared_next at
  cleared_is None at is = sym (ap cleared_next is)
  cleared_is (Some (stages.Asking lock mode)) at is = sym (ap cleared_next is)
  cleared_is (Some stages.Bitmaps) at is = sym (ap cleared_next is)
  cleared_is (Some (stages.Fetching sector cover)) at is = sym (ap cleared_next is)
  cleared_is (Some stages.Moving) at is = sym (ap cleared_next is)
  cleared_is (Some stages.Stopping) at is = sym (ap cleared_next is)
  cleared_is (Some stages.Growing) at is = sym (ap cleared_next is.is)
  cleared_is (Some (stages.Clearing block)) at is = sym (ap cleared_next is)
  cleared_is (Some stages.Finishing) at is = sym (ap cleared_next is.is)

  abbrev goes_on : Option Stage → Bool
  goes_on at = is_moved at || is_grown at

  pub goes_on_is : (code : Option CodeStage) (at : Option Stage) → IsStage plan server code at → is_anew_or_grown code ≡ goes_on at
  goes_on_is None at is = sym (ap goes_on is)
  goes_on_is (Some (stages.Asking lock mode)) at is = sym (ap goes_on is)
  goes_on_is (Some stages.Bitmaps) at is = sym (ap goes_on is)
  goes_on_is (Some (stages.Fetching sector cover)) at is = sym (ap goes_on is)
  goes_on_is (Some stages.Moving) at is = sym (ap goes_on is)
  goes_on_is (Some stages.Stopping) at is = sym (ap goes_on is)
  goes_on_is (Some stages.Growing) at is = sym (ap goes_on is.is)
  goes_on_is (Some (stages.Clearing block)) at is = sym (ap goes_on is)
  goes_on_is (Some stages.Finishing) at is = sym (ap goes_on is.is)

  -- by the room that its log has for the record of a finished line
  module _ (logs : LogRules) (room : Bool) (has : (outcome : Outcome) → ComesTo plan outcome → room ≡ has_room logs server.ring outcome.redo) where
    pub lacks_is : (code : Option CodeStage) (at : Option Stage) → IsStage plan server code at → (is_finishing code && not room) ≡ lacks_room logs server.ring at
    lacks_is None at is = sym (ap (lacks_room logs server.ring) is)
    lacks_is (Some (stages.Asking lock mode)) at is = sym (ap (lacks_room logs server.ring) is)
    lacks_is (Some stages.Bitmaps) at is = sym (ap (lacks_room logs server.ring) is)
    lacks_is (Some (stages.Fetching sector cover)) at is = sym (ap (lacks_room logs server.ring) is)
    lacks_is (Some stages.Moving) at is = sym (ap (lacks_room logs server.ring) is)
    lacks_is (Some stages.Stopping) at is = sym (ap (lacks_room logs server.ring) is)
    lacks_is (Some stages.Growing) at is = sym (ap (lacks_room logs server.ring) is.is)
    lacks_is (Some (stages.Clearing block)) at is = sym (ap (lacks_room logs server.ring) is)
    lacks_is (Some stages.Finishing) at is = ap not (has is.outcome is.comes) ∙ sym (ap (lacks_room logs server.ring) is.is)

    abbrev commits : Bool → Option Stage → Bool
    commits cleared at = is_some (done_by at) && cleared && has_room_for logs server (done_by at)

    pub commits_is : (cleared : Bool) (code : Option CodeStage) (at : Option Stage) → IsStage plan server code at → (is_finishing code && cleared && room) ≡ commits cleared at
    commits_is cleared None at is = sym (ap (commits cleared) is)
    commits_is cleared (Some (stages.Asking lock mode)) at is = sym (ap (commits cleared) is)
    commits_is cleared (Some stages.Bitmaps) at is = sym (ap (commits cleared) is)
    commits_is cleared (Some (stages.Fetching sector cover)) at is = sym (ap (commits cleared) is)
    commits_is cleared (Some stages.Moving) at is = sym (ap (commits cleared) is)
    commits_is cleared (Some stages.Stopping) at is = sym (ap (commits cleared) is)
    commits_is cleared (Some stages.Growing) at is = sym (ap (commits cleared) is.is)
    commits_is cleared (Some (stages.Clearing block)) at is = sym (ap (commits cleared) is)
    commits_is cleared (Some stages.Finishing) at is = ap (λ r. cleared && r) (has is.outcome is.comes) ∙ sym (ap (commits cleared) is.is)

    pub goes_again_is : (in_place : Bool) → in_place ≡ is_oldest_in_place logs server → (code : Option CodeStage) (at : Option Stage) → IsStage plan server code at
        → (is_anew_or_grown code || (is_finishing code && not room) && in_place) ≡ (is_moved at || is_grown at || may_reclaim logs server at)
    goes_again_is in_place placed code at is =
        ap (λ g. g || (is_finishing code && not room) && in_place) (goes_on_is code at is)
        ∙ ap (λ l. goes_on at || l && in_place) (lacks_is code at is)
        ∙ ap (λ p. goes_on at || lacks_room logs server.ring at && p) placed
