-- What ends the search for a node or an inode ends each plan that goes on with it.
use Rattle.std.proofs.Common.{◌≡◌, ◌==◌, ℕ, cond, eq-eqb, ne_eqb, Err, List, ap, ◌∙◌}
use Rattle.disk_definitions.specs.Store.{StoredNode}
use Rattle.disk_definitions.specs.Held.{Segments}
use Rattle.disk_definitions.specs.Ask.{Ask, ReadInode}
use Rattle.disk_definitions.specs.Walks.{Target}
use Rattle.disk_definitions.specs.Plans.{Plan, shared_nodes}
use Rattle.disk_definitions.specs.LookPlans.{plan_of_node, with_inode}
use Rattle.disk_definitions.specs.Written.{Cached}
use Rattle.dir_lookup.specs.Reading.{Read, reading}
use Rattle.plan_steps.specs.declared.stop.Stop.{Stop}
use Rattle.plan_steps.specs.declared.stop.Stop.TheVariants as stop
use Rattle.plan_steps.specs.Ends.{Stops}
use Rattle.plan_steps.specs.Targets.{FindsTarget, FindsInode}

pub target_stops : (cached : Cached) (held : Segments) (path : List (List ℕ)) (next : Target → Ask Plan) (e : Stop) → FindsTarget cached held path (Err e) → Stops (reading (plan_of_node path next) cached held) e
target_stops cached held path next (stop.Need s) f = f next
target_stops cached held path next (stop.Refused r) f = (shared_nodes f.0, f.1 next)
target_stops cached held path next stop.Segments f = absurd f
target_stops cached held path next (stop.Clear k) f = absurd f
target_stops cached held path next stop.NoMemory f = absurd f

pub inode_stops : (cached : Cached) (held : Segments) (p : Read Plan) (i : ℕ) (next : List ℕ → StoredNode → Ask Plan) (touched : List ℕ) (e : Stop)
    → p ≡ reading (ReadInode i (with_inode next touched)) cached held → FindsInode cached held i (Err e) → Stops p e
inode_stops cached held p i next touched (stop.Need s) h f = h ∙ f next touched
inode_stops cached held p i next touched (stop.Refused r) h f = (shared_nodes touched, h ∙ f next touched)
inode_stops cached held p i next touched stop.Segments h f = absurd f
inode_stops cached held p i next touched (stop.Clear k) h f = absurd f
inode_stops cached held p i next touched stop.NoMemory h f = absurd f

-- by a kind
pub of_kind : (k n : ℕ) (p q : Ask Plan) (cached : Cached) (held : Segments) → k ≡ n → reading (cond (k == n) p q) cached held ≡ reading p cached held
of_kind k n p q cached held e = ap (λ b. reading (cond b p q) cached held) (eq-eqb k n e)

pub of_another : (k n : ℕ) (p q : Ask Plan) (cached : Cached) (held : Segments) → (k ≡ n → ⊥) → reading (cond (k == n) p q) cached held ≡ reading q cached held
of_another k n p q cached held e = ap (λ b. reading (cond b p q) cached held) (ne_eqb k n e)
