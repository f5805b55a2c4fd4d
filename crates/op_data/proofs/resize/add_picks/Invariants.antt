-- The edits so far, and those of the picks that are left.
use Rattle.std.proofs.Common.{◌≡◌, ◌++◌, drop, map}
use Rattle.disk_definitions.specs.Store.Use.{Bytes}
use Rattle.disk_definitions.specs.Edits.Edit.{SetUse}
use Rattle.plan_steps.specs.Edits.{edits_of}
use Rattle.op_data.proofs.resize.add_picks.Given as goal

abbrev pub invariant-loop-pick : goal.invariant-loop-pick
invariant-loop-pick l = edits_of l.edits.items ++ map (λ k. SetUse k Bytes) (drop l.pick-index l.picks) ≡ edits_of l.fn.edits.items ++ map (λ k. SetUse k Bytes) l.picks
