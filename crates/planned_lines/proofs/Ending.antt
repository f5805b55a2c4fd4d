-- How a planned line ends, by how its plan in code ends.
use Rattle.std.proofs.Common.{◌≡◌, ℕ, Some, List, [], sym, ap, ◌∙◌}
use Rattle.std.specs.Option.{option_map}
use Rattle.frang_base.specs.declared.lock.LockId.{LockId}
use Rattle.frang_base.specs.declared.op.Op.{Op}
use Rattle.frang_base.specs.declared.reply.Reply.{Reply}
use Rattle.tree_definitions.specs.Perform.{Goes}
use Rattle.disk_definitions.specs.Ask.{Ask, meet}
use Rattle.disk_definitions.specs.CoversAtHand.{cover_among}
use Rattle.disk_definitions.specs.Edits.{Edit}
use Rattle.disk_definitions.specs.FoundLocks.{clear_locks, cleared_locks}
use Rattle.disk_definitions.specs.Lines.{resolved}
use Rattle.disk_definitions.specs.Numbered.{sector_at}
use Rattle.disk_definitions.specs.Plans.{Clears, Finish, Finishes, Lock, Plan}
use Rattle.core_definitions.specs.Plans.{Sight, known_in, planned}
use Rattle.set_definitions.specs.Sets.{LockSet, joined_all}
use Rattle.dir_lookup.specs.Hands.{over}
use Rattle.dir_lookup.specs.Reading.{Gives, Lacks}
use Rattle.dir_lookup.specs.declared.hand.Hand.{Hand}
use Rattle.plan_steps.specs.Ends.{IsDone as CodeIsDone}
use Rattle.planned_lines.specs.declared.finished.Finished.{Finished}
use Rattle.planned_lines.specs.Ends.{IsCleared, IsDone, IsNeeded, sight_by}
use Rattle.planned_lines.specs.Outcomes.{IsFinished}
use Rattle.planned_lines.proofs.Meeting.{has_as, needs_as}
use Rattle.planned_lines.proofs.Outcomes.{outcome_is}

module _ (hand : Hand) (segments : ℕ) (nodes : List ℕ) (program : Ask Plan) where
  abbrev sight : Sight
  sight = sight_by hand

  pub needed : (number : ℕ) (cover : LockId) → over program hand ≡ Lacks number →
      option_map (cover_among sight.cached sight.held nodes) (sector_at segments number) ≡ Some cover → IsNeeded segments nodes sight program number cover
  needed number cover e h =
      let n = needs_as (planned program sight) number e in
      record { sector = n.sector; met = n.met; numbered = n.number_is; covered = h }

  pub cleared : (operation over_op : Op) (block : ℕ) (set : LockSet) (locks : List Lock) (trail : List ℕ) → over program hand ≡ Gives (Clears block locks) →
      over (resolved operation) hand ≡ Gives (record { step = Goes over_op; trail = trail }) → set ≡ joined_all [] (clear_locks over_op nodes block) →
      IsCleared nodes operation sight program block set
  cleared operation over_op block set locks trail e walks h =
      record {
        locks = locks;
        met = has_as (planned program sight) (Clears block locks) e;
        found = h
            ∙ ap (λ m. joined_all [] (cleared_locks nodes block m)) (sym (has_as (meet (resolved operation) (known_in sight)) (record { step = Goes over_op; trail = trail }) walks));
      }

  pub done : (number : ℕ) (reply : Reply) (edits : List Edit) (finished : Finished) → CodeIsDone reply edits (over program hand) →
      IsFinished sight number nodes reply edits finished → IsDone segments number nodes sight program finished
  done number reply edits finished e is =
      let finish : Finish = record { reply = reply; edits = edits; locks = e.0 } in
      record {
        finish = finish;
        met = has_as (planned program sight) (Finishes finish) e.1;
        outcome = outcome_is segments number nodes sight finish finished is;
        found = is.locked;
      }
