-- The laws of nodes, over paths without links and over lines.
use Rattle.std.proofs.Common.{◌≡◌, ◌++◌, ℕ, nat_eq, true, false, Option, Some, None, List, [], map, is_some, refl, sym, ◌∙◌, ap, subst}
use Rattle.std.proofs.lemmas.List.Elements.{Contains-append_right}
use Rattle.std.specs.List.{AllByRecursion}
use Rattle.std.proofs.lemmas.Bool.{eq-eqb}
use Rattle.frang_base.specs.declared.lock.LockId.TheVariants as lock
use Rattle.frang_base.specs.declared.op.Op.{Op}
use Rattle.tree_definitions.specs.declared.node.Node.{Node}
use Rattle.tree_definitions.specs.Apply.{apply}
use Rattle.tree_definitions.specs.Perform.{perform, perform_step, resolved}
use Rattle.tree_definitions.specs.Touched.{other_room}
use Rattle.tree_definitions.specs.Tree.{FileTree, node_at, small_blocks, large_blocks}
use Rattle.tree_definitions.specs.WellFormed.{IsNew}
use Rattle.tree_laws.proofs.OrderLaws.{segments_apply}
use Rattle.standing_laws.proofs.Applied.{apply_keeps_reached}
use Rattle.disk_definitions.specs.Naming.{Naming}
use Rattle.disk_definitions.specs.Standing.{IsReached}
use Rattle.disk_definitions.specs.Store.{Store}
use Rattle.disk_definitions.specs.Edits.{edited_all}
use Rattle.disk_definitions.specs.Ask.{InodeAt, run}
use Rattle.disk_definitions.specs.Meets.{IsOfTree, IsHandOf}
use Rattle.disk_definitions.specs.PlanOf.{plan_of}
use Rattle.disk_definitions.specs.Plans.{Hand, Finish, shared_nodes}
use Rattle.disk_definitions.specs.Plans.Plan.{Finishes}
use Rattle.plan_laws.specs.FilesPlanned.{HasFiles}
use Rattle.plan_laws.specs.Keeping.{KeepsInodes, FinishKeeps, PlanKeeps}
use Rattle.plan_laws.specs.Locks.{IsCovered, FinishIsCovered, PlanIsCovered}
use Rattle.plan_laws.proofs.AllLocks.{locks_cover}
use Rattle.plan_laws.specs.Moves.{AreTidy}
use Rattle.plan_laws.proofs.Laws.{plans_move, moves_are_owned}
use Rattle.disk_definitions.specs.Lines.{plan_of_line}
use Rattle.line_laws.proofs.Covered.{by_finish}
use Rattle.line_laws.proofs.Planned.{all_planned}
use Rattle.line_laws.proofs.Running.{run_performed}
use Rattle.line_laws.specs.Nodes.{BetweenTrees, OfEachNaming, StaysInPlace, TakesFreeInodes, HoldsNewNodes, HoldsRoom, NodesKeepInodes, NewNodesTakeFreeInodes, NewNodesAreHeldAlone, RoomTakesASegment, LineNodesKeepInodes, NewNodesOfLinesTakeFreeInodes, NewNodesOfLinesAreHeldAlone, RoomOfLinesTakesASegment}
use Rattle.line_laws.proofs.Told.{namings_agree}
use Rattle.line_laws.proofs.Coming.{NoneSwaps, none_swaps}
use Rattle.line_laws.proofs.Inodes.{comes_free, comes_moved}
use Rattle.line_laws.proofs.Room.{room_held}

-- ---- over paths without links

module _ (o : Op) (h : Hand) (s : Store) (tree : FileTree) (n after : Naming) (birth when m : ℕ) (f : Finish) (of : IsOfTree s tree n) (reached : IsReached (node_at tree)) (hand : IsHandOf h s tree.segments) (new : IsNew tree birth)
    (files : HasFiles s tree m) (e : run (plan_of h birth when o) s ≡ Finishes f) (ends : IsOfTree (edited_all s f.edits) (apply tree o birth when m).tree after) where
  abbrev to : FileTree
  to = (apply tree o birth when m).tree

  abbrev t : Store
  t = edited_all s f.edits

  kept : KeepsInodes tree to n after
  kept b was stays =
      let k : FinishKeeps s tree n (apply tree o birth when m) f = subst (PlanKeeps h s tree n (apply tree o birth when m)) e (all_planned o h s tree n birth when m of hand new files) in
      namings_agree t to k.meets.naming after k.meets.tree ends (apply_keeps_reached tree o birth when m of.well_formed reached new) b stays ∙ k.inodes b was stays

  tidy : AreTidy s t f.edits
  tidy = plans_move o h s tree n birth when f of hand e

  swaps : NoneSwaps tree to
  swaps = none_swaps tree o birth when m of.well_formed new

  covered : AllByRecursion (IsCovered f.locks) f.edits
  covered = let c : FinishIsCovered h f = subst (PlanIsCovered h) e (locks_cover o h s birth when) in c.edits

  free : TakesFreeInodes tree to n after f
  free b none there = (comes_free s t tree to n after f.edits of ends tidy kept swaps b none there, comes_moved s t tree to n after f.edits of ends tidy kept swaps b none there)

  alone : HoldsNewNodes tree to n after f
  alone b none there = (moves_are_owned o h s tree n birth when f of hand e (InodeAt (after.inode b)) (lock.Node (after.inode b)) (free b none there).1).1

  room : HoldsRoom tree to n after f
  room = room_held s t tree to n after f.edits f.locks of ends tidy kept swaps covered (segments_apply tree o birth when m of.well_formed.births)

pub nodes_keep : NodesKeepInodes
nodes_keep = kept

pub new_nodes_free : NewNodesTakeFreeInodes
new_nodes_free = free

pub new_nodes_alone : NewNodesAreHeldAlone
new_nodes_alone = alone

pub room_alone : RoomTakesASegment
room_alone = room

-- ---- over lines

-- what holds of each finished plan holds of each finished line, where further locks leave it so, and it holds where the tree stays
lifted : (Law : BetweenTrees) →
    ((tree to : FileTree) (n after : Naming) (trail : List ℕ) (f : Finish) → Law tree to n after f → Law tree to n after (record f { locks = shared_nodes trail ++ f.locks })) →
    ((s : Store) (tree : FileTree) (n after : Naming) (f : Finish) → IsOfTree s tree n → IsOfTree s tree after → IsReached (node_at tree) → f.edits ≡ [] → Law tree tree n after f) →
    OfEachNaming plan_of apply Law → OfEachNaming plan_of_line perform Law
lifted Law more same law o h s tree n after birth when m f of reached hand new files e ends =
    let w = resolved tree o in
    by_finish h s birth when (λ step finish. IsOfTree (edited_all s finish.edits) (perform_step tree step birth when m).tree after → Law tree (perform_step tree step birth when m).tree n after finish) (map n.inode w.trail)
    (λ p g is ends. more tree (apply tree p birth when m).tree n after (map n.inode w.trail) g (law p h s tree n after birth when m g of reached hand new files is ends))
    (λ r ends. same s tree n after (record { reply = r; edits = []; locks = shared_nodes (map n.inode w.trail) }) of ends reached refl)
    w.step f (sym (run_performed h s birth when tree n of o) ∙ e) ends

-- no node of a tree comes to it
none_comes : {P : Type 0} (o : Option Node) → o ≡ None → is_some o ≡ true → P
none_comes o none there = absurd (let z : is_some o ≡ false = ap is_some none in cc)

-- and none has other room
same_room : {P : Type 0} (o : Option Node) → other_room o o ≡ true → P
same_room None e = absurd (cc)
same_room (Some x) e =
    let small : nat_eq (small_blocks x) (small_blocks x) ≡ true = eq-eqb (small_blocks x) (small_blocks x) refl in
    let large : nat_eq (large_blocks x) (large_blocks x) ≡ true = eq-eqb (large_blocks x) (large_blocks x) refl in
    let z : other_room (Some x) (Some x) ≡ false = rw (small, large) refl in
    absurd (cc)

pub line_nodes_keep : LineNodesKeepInodes
line_nodes_keep = lifted StaysInPlace (λ tree to n after trail f keeps. keeps) (λ s tree n after f of ends reached none b was stays. namings_agree s tree n after of ends reached b was) nodes_keep

pub line_nodes_free : NewNodesOfLinesTakeFreeInodes
line_nodes_free = lifted TakesFreeInodes (λ tree to n after trail f takes. takes) (λ s tree n after f of ends reached no b none there. none_comes (node_at tree b) none there) new_nodes_free

pub line_nodes_alone : NewNodesOfLinesAreHeldAlone
line_nodes_alone =
    lifted HoldsNewNodes (λ tree to n after trail f holds b none there. Contains-append_right (shared_nodes trail) f.locks _ (holds b none there))
    (λ s tree n after f of ends reached no b none there. none_comes (node_at tree b) none there) new_nodes_alone

pub line_room_alone : RoomOfLinesTakesASegment
line_room_alone =
    lifted HoldsRoom (λ tree to n after trail f holds b other. let r = holds b other in (r.0, r.1, Contains-append_right (shared_nodes trail) f.locks _ r.2))
    (λ s tree n after f of ends reached no b other. same_room (node_at tree b) other) room_alone
