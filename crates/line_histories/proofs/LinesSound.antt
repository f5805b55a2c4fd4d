-- The plans of lines are sound: what lines move, where their edits may be made, and what they look at and edit.
use Rattle.std.proofs.Common.{◌≡◌, refl}
use Rattle.disk_definitions.specs.Ask.{run}
use Rattle.disk_definitions.specs.Plans.{Plan, Lacks, Clears, Finishes}
use Rattle.disk_definitions.specs.FitPlans.{PlanIsFit}
use Rattle.disk_definitions.specs.Lines.{plan_of_line}
use Rattle.line_laws.proofs.Inside.{lines_inside}
use Rattle.line_laws.proofs.Covered.{line_looks_covered, line_edits_covered}
use Rattle.line_laws.proofs.LineEdits.{lines_look_at_edits}
use Rattle.line_laws.proofs.Laws.{lines_move, covers_follow_lines, line_moves_are_owned, line_directories_stay, line_bytes_are_owned}
use Rattle.line_laws.proofs.Fitting.{line_fits}
use Rattle.line_histories.specs.Planners.{FitsTheDisk, IsSoundPlanner}
use Rattle.line_histories.proofs.AllBlind.{bytes_dont_decide}
use Rattle.line_histories.proofs.Cleared.{lines_clear}
use Rattle.line_histories.proofs.Parts.{lines_look_at_parts}

-- only a finished plan has edits
lines_fit : FitsTheDisk plan_of_line
lines_fit o h s tree n birth when of hand fit small_birth small_time may = go (run (plan_of_line h birth when o) s) refl
  where
    go : (p : Plan) → run (plan_of_line h birth when o) s ≡ p → PlanIsFit h tree.segments s p
    go Lacks is = tt
    go (Clears k locks) is = tt
    go (Finishes f) is = line_fits h s tree n birth when of hand fit small_birth small_time o f may is

pub lines_are_sound : IsSoundPlanner plan_of_line
lines_are_sound = record {
  blind = bytes_dont_decide;
  looked = lines_look_at_edits;
  parts = lines_look_at_parts;
  clears = lines_clear;
  inside = lines_inside;
  fit = lines_fit;
  looks = line_looks_covered;
  edits = line_edits_covered;
  tidy = lines_move;
  covers = covers_follow_lines;
  owned = line_moves_are_owned;
  directories = line_directories_stay;
  bytes = line_bytes_are_owned;
}
