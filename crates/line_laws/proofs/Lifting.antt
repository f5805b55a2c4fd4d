-- What holds of each finished plan holds of each finished line, where further locks leave it so and a refusal has it.
use Rattle.std.proofs.Common.{◌++◌, ℕ, List, [], map, sym, ◌∙◌}
use Rattle.frang_base.specs.declared.reply.Reply.{Reply}
use Rattle.tree_definitions.specs.Perform.{resolved}
use Rattle.tree_definitions.specs.Tree.{FileTree}
use Rattle.disk_definitions.specs.Store.{Store}
use Rattle.disk_definitions.specs.Naming.{Naming}
use Rattle.disk_definitions.specs.Meets.{IsOfTree}
use Rattle.disk_definitions.specs.PlanOf.{plan_of}
use Rattle.disk_definitions.specs.Plans.{Finish, shared_nodes}
use Rattle.plan_laws.specs.Plans.{OfEachFinish}
use Rattle.disk_definitions.specs.Lines.{plan_of_line}
use Rattle.line_laws.proofs.Covered.{by_finish}
use Rattle.line_laws.proofs.Running.{run_performed}

-- a finished plan behind the locks of a trail
abbrev pub behind : List ℕ → Finish → Finish
behind trail f = record f { locks = shared_nodes trail ++ f.locks }

-- the refusal of a walk
abbrev pub refusal : Reply → List ℕ → Finish
refusal r trail = record { reply = r; edits = []; locks = shared_nodes trail }

pub lifted : (Law : Store → Naming → Finish → Type 0) →
    ((s : Store) (n : Naming) (trail : List ℕ) (f : Finish) → Law s n f → Law s n (behind trail f)) →
    ((s : Store) (tree : FileTree) (n : Naming) (r : Reply) (trail : List ℕ) → IsOfTree s tree n → Law s n (refusal r trail)) →
    OfEachFinish plan_of Law → OfEachFinish plan_of_line Law
lifted Law more refused law o h s tree n birth when f of hand e =
    let w = resolved tree o in
    let trail = map n.inode w.trail in
    by_finish h s birth when (λ step finish. Law s n finish) trail
    (λ p g is. more s n trail g (law p h s tree n birth when g of hand is))
    (λ r. refused s tree n r trail of)
    w.step f (sym (run_performed h s birth when tree n of o) ∙ e)
