-- Each plan of a file goes by the node that its path names, and by that node's inode.
use Rattle.std.proofs.Common.{◌≡◌, ◌==◌, ℕ, cond, Option, Some, None, Ok, Err, List, [], ◌∷◌, ◌++◌, refl, ap, ◌∙◌}
use Rattle.std.proofs.Math.Path.{fun_ext}
use Rattle.frang_base.specs.declared.reply.Reply.TheVariants as reply
use Rattle.disk_definitions.specs.declared.inode.Inode.{Inode}
use Rattle.disk_definitions.specs.Store.{StoredNode, stored}
use Rattle.disk_definitions.specs.Ask.{Ask, ReadInode}
use Rattle.disk_definitions.specs.Plans.{Plan, refused, shared_nodes}
use Rattle.disk_definitions.specs.LookPlans.{with_inode}
use Rattle.disk_definitions.specs.FilePlans.{at_file, plan_of_file, with_file}
use Rattle.dir_lookup.specs.Hands.{over}
use Rattle.dir_lookup.specs.declared.hand.Hand.{Hand}
use Rattle.plan_steps.specs.declared.stop.Stop.{Stop}
use Rattle.plan_steps.specs.declared.stop.Stop.TheVariants as stop
use Rattle.plan_steps.specs.declared.target.Target.{Target as Found}
use Rattle.plan_steps.specs.Targets.{FindsInode, FindsTarget}
use Rattle.plan_steps.proofs.Stopping.{of_another, of_kind}
use Rattle.plan_steps.specs.Ends.{Stops}
use Rattle.op_data.specs.Files.{FindsFile}

-- it goes on with a file's inode, and refuses another
abbrev for_file : (List ℕ → StoredNode → Ask Plan) → List ℕ → StoredNode → Ask Plan
for_file next touched x = cond (x.kind == 1) (next touched x) (refused reply.Inval touched)

-- the plan of a file is a plan of the node that tests the inode's kind
same_inode : (next : List ℕ → StoredNode → Ask Plan) (touched : List ℕ) (o : Option StoredNode) → with_file (next touched) touched o ≡ with_inode (for_file next) touched o
same_inode next touched None = refl
same_inode next touched (Some x) = refl

abbrev with_same : (next : List ℕ → StoredNode → Ask Plan) (touched : List ℕ) → with_file (next touched) touched ≡ with_inode (for_file next) touched
with_same next touched = fun_ext (same_inode next touched)

module _ (hand : Hand) (path : List (List ℕ)) where
  pub file_stops : (e : Stop) → FindsTarget hand.sectors.now.entries hand.held.now path (Err e) → FindsFile hand path (Err e)
  file_stops (stop.Need s) f = λ next. f (at_file next)
  file_stops (stop.Refused r) f = (f.0, λ next. f.1 (at_file next))
  file_stops stop.Segments f = absurd f
  file_stops (stop.Clear k) f = absurd f
  file_stops stop.NoMemory f = absurd f

  module _ (u : Found) (t : FindsTarget hand.sectors.now.entries hand.held.now path (Ok u)) where
    abbrev touched : List ℕ
    touched = t.0 ++ u.inode ∷ []

    abbrev opened : (ℕ → List ℕ → StoredNode → Ask Plan) → Ask Plan
    opened next = ReadInode u.inode (with_file (next u.inode touched) touched)

    pub a_directory : u.kind ≡ 2 → FindsFile hand path (Err (stop.Refused reply.IsDir))
    a_directory k =
        (t.0, λ next. t.1 (at_file next) ∙ of_kind u.kind 2 (refused reply.IsDir t.0) (cond (u.kind == 1) (opened next) (refused reply.Inval t.0)) hand.sectors.now.entries hand.held.now k)

    no_directory : (u.kind ≡ 2 → ⊥) → (next : ℕ → List ℕ → StoredNode → Ask Plan) → over (plan_of_file path next) hand ≡ over (cond (u.kind == 1) (opened next) (refused reply.Inval t.0)) hand
    no_directory n next = t.1 (at_file next) ∙ of_another u.kind 2 (refused reply.IsDir t.0) (cond (u.kind == 1) (opened next) (refused reply.Inval t.0)) hand.sectors.now.entries hand.held.now n

    pub no_file : (u.kind ≡ 2 → ⊥) → (u.kind ≡ 1 → ⊥) → FindsFile hand path (Err (stop.Refused reply.Inval))
    no_file n m = (t.0, λ next. no_directory n next ∙ of_another u.kind 1 (opened next) (refused reply.Inval t.0) hand.sectors.now.entries hand.held.now m)

    on_inode : (u.kind ≡ 2 → ⊥) → u.kind ≡ 1 → (next : ℕ → List ℕ → StoredNode → Ask Plan) → over (plan_of_file path next) hand ≡ over (ReadInode u.inode (with_inode (for_file (next u.inode)) touched)) hand
    on_inode n k next =
        no_directory n next ∙ of_kind u.kind 1 (opened next) (refused reply.Inval t.0) hand.sectors.now.entries hand.held.now k
        ∙ ap (λ (f : Option StoredNode → Ask Plan). over (ReadInode u.inode f) hand) (with_same (next u.inode) touched)

    pub the_file : (u.kind ≡ 2 → ⊥) → u.kind ≡ 1 → (x : Inode) → x.kind ≡ 1 → FindsInode hand.sectors.now.entries hand.held.now u.inode (Ok x) → FindsFile hand path (Ok (record { number = u.inode; inode = x }))
    the_file n k x e f =
        (touched, λ next. on_inode n k next ∙ f (for_file (next u.inode)) touched ∙ of_kind x.kind 1 (next u.inode touched (stored x)) (refused reply.Inval touched) hand.sectors.now.entries hand.held.now e)

    pub another_inode : (u.kind ≡ 2 → ⊥) → u.kind ≡ 1 → (x : Inode) → (x.kind ≡ 1 → ⊥) → FindsInode hand.sectors.now.entries hand.held.now u.inode (Ok x) → FindsFile hand path (Err (stop.Refused reply.Inval))
    another_inode n k x e f =
        (touched, λ next. on_inode n k next ∙ f (for_file (next u.inode)) touched ∙ of_another x.kind 1 (next u.inode touched (stored x)) (refused reply.Inval touched) hand.sectors.now.entries hand.held.now e)

    pub inode_stops : (u.kind ≡ 2 → ⊥) → u.kind ≡ 1 → (e : Stop) → FindsInode hand.sectors.now.entries hand.held.now u.inode (Err e) → FindsFile hand path (Err e)
    inode_stops n k (stop.Need s) f = λ next. on_inode n k next ∙ f (for_file (next u.inode)) touched
    inode_stops n k (stop.Refused r) f = (touched, λ next. on_inode n k next ∙ f (for_file (next u.inode)) touched)
    inode_stops n k stop.Segments f = absurd f
    inode_stops n k (stop.Clear b) f = absurd f
    inode_stops n k stop.NoMemory f = absurd f

-- what ends the search for a file ends each plan of it
pub ends_plan : (hand : Hand) (path : List (List ℕ)) (next : ℕ → List ℕ → StoredNode → Ask Plan) (e : Stop)
    → FindsFile hand path (Err e) → Stops (over (plan_of_file path next) hand) e
ends_plan hand path next (stop.Need s) f = f next
ends_plan hand path next (stop.Refused r) f = (shared_nodes f.0, f.1 next)
ends_plan hand path next stop.Segments f = absurd f
ends_plan hand path next (stop.Clear k) f = absurd f
ends_plan hand path next stop.NoMemory f = absurd f
