-- How a plan of a look ends, by how its parts ended.
use Rattle.std.proofs.Common.{◌≡◌, ℕ, Err, List, [], ap, sym, ◌∙◌}
use Rattle.frang_base.specs.declared.reply.Reply.{Reply}
use Rattle.frang_base.specs.declared.sector.Sector.{Sector}
use Rattle.disk_definitions.specs.Store.{StoredNode}
use Rattle.meta_version.specs.declared.plan.Plan.TheVariants as plan
use Rattle.disk_definitions.specs.Held.{Segments}
use Rattle.disk_definitions.specs.Plans.{Plan, refuse, shared_nodes}
use Rattle.disk_definitions.specs.LookPlans.{listing}
use Rattle.disk_definitions.specs.Written.{Cached}
use Rattle.dir_lookup.specs.Planned.{planned}
use Rattle.dir_lookup.specs.Reading.{Read, Gives, reading}
use Rattle.plan_steps.specs.declared.stop.Stop.{Stop}
use Rattle.plan_steps.specs.declared.stop.Stop.TheVariants as stop
use Rattle.plan_steps.specs.Ends.{IsDone, Stops}
use Rattle.op_look.specs.Looks.{ListsNames, says}

pub answers : (p : Read Plan) (r : Reply) (touched : List ℕ) → p ≡ Gives (refuse r touched) → IsDone r [] p
answers p r touched e = (shared_nodes touched, e)

pub names_stop : (cached : Cached) (held : Segments) (p : Read Plan) (x : StoredNode) (touched : List ℕ) (e : Stop)
    → p ≡ reading (listing touched x) cached held → ListsNames cached held x (Err e) → Stops p e
names_stop cached held p x touched (stop.Need s) h f = h ∙ f touched
names_stop cached held p x touched (stop.Refused r) h f = absurd f
names_stop cached held p x touched stop.Segments h f = absurd f
names_stop cached held p x touched (stop.Clear k) h f = absurd f
names_stop cached held p x touched stop.NoMemory h f = tt

-- ---- the plan that is handed out
pub done_is : (cached : Cached) (held : Segments) (p : Read Plan) (r : Reply) → IsDone r [] p → says r ≡ planned cached held p
done_is cached held p r d = sym (ap (planned cached held) d.1)

pub need_is : (cached : Cached) (held : Segments) (p : Read Plan) (s : Sector) → Stops p (stop.Need s) → plan.Need s ≡ planned cached held p
need_is cached held p s e = sym (ap (planned cached held) e)

pub segments_is : (cached : Cached) (held : Segments) (p : Read Plan) → Stops p stop.Segments → plan.Segments ≡ planned cached held p
segments_is cached held p e = sym (ap (planned cached held) e)

pub clear_is : (cached : Cached) (held : Segments) (p : Read Plan) (k : ℕ) → Stops p (stop.Clear k) → plan.Clear k ≡ planned cached held p
clear_is cached held p k e = sym (ap (planned cached held) e.1)
