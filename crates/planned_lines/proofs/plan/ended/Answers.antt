-- Arm by arm, by how the line ended.
use Rattle.std.proofs.Common.{◌≡◌, ℕ, List, subst}
use Rattle.disk_definitions.specs.Lines.{resolved}
use Rattle.disk_definitions.specs.LookedAt.{nodes_in}
use Rattle.disk_definitions.specs.Plans.{Lacks as LacksSegments}
use Rattle.core_definitions.specs.Plans.{planned}
use Rattle.dir_lookup.specs.Hands.{over}
use Rattle.line_plan.specs.Ends.{ClearsFor, Ends}
use Rattle.lock_sets.specs.Seen.{numbers}
use Rattle.plan_steps.specs.Edits.{edits_of}
use Rattle.planned_lines.specs.Ends.{sight_by}
use Rattle.planned_lines.proofs.Ending.{cleared, done, needed}
use Rattle.planned_lines.proofs.Meeting.{has_as}
use Rattle.planned_lines.proofs.plan.ended.Goals as goal

pub returns-in_ok-cover-in-Need : goal.returns-in_ok-cover-in-Need
returns-in_ok-cover-in-Need c operation program e w =
    let hand = c.args.hand.now in
    needed hand c.args.segments (nodes_in c.args.segments (numbers c.args.examined.now)) program c.in-Need.sector.0 c.in_ok-cover-in-Need.cover
    (subst (Ends (over program hand)) c.in-Need.is e) c.in_ok-cover-in-Need.ensures

pub returns-in-Segments : goal.returns-in-Segments
returns-in-Segments c operation program e w =
    let hand = c.args.hand.now in
    has_as (planned program (sight_by hand)) LacksSegments (subst (Ends (over program hand)) c.in-Segments.is e)

pub returns-in_ok-locks-in-Clear : goal.returns-in_ok-locks-in-Clear
returns-in_ok-locks-in-Clear c operation program e w =
    let hand = c.args.hand.now in
    let plan = subst (Ends (over program hand)) c.in-Clear.is e in
    let walks = subst (ClearsFor (over (resolved operation) hand)) c.in-Clear.is w in
    cleared hand c.args.segments (nodes_in c.args.segments (numbers c.args.examined.now)) program operation c.in-Clear.over c.in-Clear.block c.in_ok-locks-in-Clear.locks plan.0 walks.0 plan.1 walks.1
    c.in_ok-locks-in-Clear.ensures.is

pub returns-in_ok-done-in-Done : goal.returns-in_ok-done-in-Done
returns-in_ok-done-in-Done c operation program e w =
    let hand = c.args.hand.now in
    let outcome = c.in-Done.outcome in
    done hand c.args.segments (nodes_in c.args.segments (numbers c.args.examined.now)) program c.args.number outcome.reply (edits_of outcome.edits.items) c.in_ok-done-in-Done.done
    (subst (Ends (over program hand)) c.in-Done.is e) c.in_ok-done-in-Done.ensures
