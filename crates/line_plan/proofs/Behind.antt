-- A plan behind the trail of its walks ends as it does, and one that goes on from its walks as they say.
use Rattle.std.proofs.Common.{◌≡◌, ℕ, Result, Ok, Err, List, ◌++◌, ap, sym, subst}
use Rattle.frang_base.specs.declared.op.Op.{Op}
use Rattle.disk_definitions.specs.Held.{Segments}
use Rattle.tree_definitions.specs.Perform.{Goes, Resolved}
use Rattle.disk_definitions.specs.Ask.{Got}
use Rattle.disk_definitions.specs.Plans.{Hand, Plan, shared_nodes}
use Rattle.disk_definitions.specs.PlanOf.{plan_of}
use Rattle.disk_definitions.specs.Written.{Cached}
use Rattle.disk_definitions.specs.Lines.{plan_of_line, plan_step, resolved, with_trail}
use Rattle.dir_lookup.specs.Reading.{Read, Gives, reading, then_read}
use Rattle.dir_lookup.proofs.Readings.{reading_bind}
use Rattle.dir_lookup.proofs.Searches.{goes_on}
use Rattle.plan_steps.specs.declared.edit.Outcome.{Outcome}
use Rattle.plan_steps.specs.declared.stop.Stop.{Stop}
use Rattle.plan_steps.specs.declared.stop.Stop.TheVariants as stop
use Rattle.plan_steps.specs.Ends.{Comes, Stops}

-- a plan with the nodes of the trail locked too
abbrev pub behind : List ℕ → Read Plan → Read Plan
behind trail p = then_read p (λ plan. Gives (with_trail trail plan))

stops_behind : (trail : List ℕ) (p : Read Plan) (e : Stop) → Stops p e → Stops (behind trail p) e
stops_behind trail p (stop.Need s) h = ap (behind trail) h
stops_behind trail p stop.Segments h = ap (behind trail) h
stops_behind trail p (stop.Clear k) h = (shared_nodes trail ++ h.0, ap (behind trail) h.1)
stops_behind trail p (stop.Refused r) h = (shared_nodes trail ++ h.0, ap (behind trail) h.1)
stops_behind trail p stop.NoMemory h = tt

comes_behind : (trail : List ℕ) (p : Read Plan) (r : Result Outcome Stop) → Comes p r → Comes (behind trail p) r
comes_behind trail p (Ok o) h = (shared_nodes trail ++ h.0, ap (behind trail) h.1)
comes_behind trail p (Err e) h = stops_behind trail p e h

module _ (cached : Cached) (held : Segments) (hand : Hand) (birth when : ℕ) where
  -- the operation over the paths to which the walks lead
  pub step_comes : (trail : List ℕ) (operation : Op) (r : Result Outcome Stop) → Comes (reading (plan_of hand birth when operation) cached held) r
      → Comes (reading (plan_step hand birth when trail (Goes operation)) cached held) r
  step_comes trail operation r h =
      subst (λ p. Comes p r) (sym (reading_bind (plan_of hand birth when operation) (λ plan. Got (with_trail trail plan)) cached held))
      (comes_behind trail (reading (plan_of hand birth when operation) cached held) r h)

  -- a line by what its walks come to
  pub line_goes : (operation : Op) (r : Read Resolved) → r ≡ reading (resolved operation) cached held
      → then_read r (λ walked. reading (plan_step hand birth when walked.trail walked.step) cached held) ≡ reading (plan_of_line hand birth when operation) cached held
  line_goes operation r e = goes_on (resolved operation) (λ walked. plan_step hand birth when walked.trail walked.step) cached held r e
