-- Each node of the fresh tree is reached, and the steps of a history leave each node reached.
use Rattle.std.proofs.Common.{ℕ, ◌≡◌, Bool, true, false, Option, Some, None, List, [], ◌∷◌, map, cond, is_some, refl, sym, subst}
use Rattle.std.specs.BTreeMap.{is_at}
use Rattle.std.specs.Ordering.{nat_cmp}
use Rattle.frang_base.specs.declared.op.Op.{Op}
use Rattle.frang_base.specs.declared.op.Op.TheVariants as op
use Rattle.frang_base.specs.declared.reply.Reply.{Reply}
use Rattle.frang_base.specs.declared.reply.Reply.TheVariants as reply
use Rattle.tree_definitions.specs.declared.cells.Cell.{Cell}
use Rattle.tree_definitions.specs.declared.cells.Cell.TheVariants.{Byte}
use Rattle.tree_definitions.specs.declared.history.Entry.{Entry}
use Rattle.tree_definitions.specs.declared.node.Node.TheVariants.{Dir}
use Rattle.tree_definitions.specs.Tree.{FileTree, fresh, node_at}
use Rattle.tree_definitions.specs.Place.{Place, Taken, place}
use Rattle.tree_definitions.specs.Apply.{overwritten}
use Rattle.tree_definitions.specs.Perform.{Step, Goes, Stops, resolved, perform_step}
use Rattle.tree_definitions.specs.History.{applied, is_answer, told_blocks, leaves_tree, tree_after, after_read, after_step, with_shown, file_at, file_of, CellRun, Stays, InDoubt, doubted, doubted_file, doubted_cells, after}
use Rattle.tree_definitions.specs.WellFormed.{IsWellFormed, IsNew}
use Rattle.tree_definitions.proofs.Pairs.{birth_exact, tie}
use Rattle.tree_laws.proofs.StepsLaws.{file_at_is, after_keeps, are_new_after}
use Rattle.disk_definitions.specs.Standing.{IsReached, IsReachedAt}
use Rattle.standing_laws.specs.Reached.{FreshIsReached, StepKeepsReached, StepsKeepReached}
use Rattle.standing_laws.proofs.Walks.{root_reached}
use Rattle.standing_laws.proofs.Changes.{cells_reached}
use Rattle.standing_laws.proofs.Applied.{apply_keeps_reached}

pub fresh_reached : FreshIsReached
fresh_reached segments b there = go (is_at (nat_cmp b) 0) refl there
  where
    go : (t : Bool) → is_at (nat_cmp b) 0 ≡ t → is_some (cond t (Some (Dir [] 0)) None) ≡ true → IsReachedAt (node_at (fresh segments)) b
    go true i s = subst (IsReachedAt (node_at (fresh segments))) (sym (tie nat_cmp birth_exact b 0 i)) (root_reached (node_at (fresh segments)))
    go false i s = absurd (cc)

-- cells that were shown become bytes
shown_reached : (t : FileTree) (p : Place) (off : ℕ) (bytes : List ℕ) → IsReached (node_at t) → IsReached (node_at (with_shown t (file_at t p) off bytes))
shown_reached t p off bytes reached = go (file_at t p) refl
  where
    go : (o : Option (ℕ × (List Cell × (ℕ × ℕ)))) → file_at t p ≡ o → IsReached (node_at (with_shown t o off bytes))
    go None i = reached
    go (Some f) i = cells_reached t f.0 f.1.0 (overwritten f.1.0 off (map Byte bytes)) f.1.1.0 f.1.1.1 f.1.1.1 (file_at_is t p f i) reached

read_reached : (t : FileTree) (o : Op) (r : Reply) → IsReached (node_at t) → IsReached (node_at (after_read t o r))
read_reached t (op.Read path off len) (reply.Shown bytes) reached = shown_reached t (place t path) off bytes reached
read_reached t (op.Read path off len) _ reached = reached
read_reached t _ r reached = reached

step_makes_reached : (t : FileTree) (s : Step) (b when m : ℕ) → IsWellFormed t → IsReached (node_at t) → IsNew t b → IsReached (node_at (perform_step t s b when m).tree)
step_makes_reached t (Goes o) b when m w reached new = apply_keeps_reached t o b when m w reached new
step_makes_reached t (Stops r) b when m w reached new = reached

read_step_reached : (t : FileTree) (s : Step) (r : Reply) → IsReached (node_at t) → IsReached (node_at (after_step t s r))
read_step_reached t (Goes o) r reached = read_reached t o r reached
read_step_reached t (Stops q) r reached = reached

entry_reached : (t : FileTree) (e : Entry) → IsWellFormed t → IsReached (node_at t) → IsNew t e.number.0 → IsReached (node_at (tree_after t e))
entry_reached t e w reached new = go (leaves_tree e.op e.reply) (is_answer t e)
  where
    go : (l a : Bool) → IsReached (node_at (cond l t (cond a (after_step (applied t e).tree (resolved t e.op).step e.reply) t)))
    go true a = reached
    go false true = read_step_reached (applied t e).tree (resolved t e.op).step e.reply (step_makes_reached t (resolved t e.op).step e.number.0 e.when (told_blocks t e.reply) w reached new)
    go false false = reached

-- cells come into doubt; a file of the tree is one at a place of it
doubt_reached : (t : FileTree) (b from count : ℕ) → IsReached (node_at t) → IsReached (node_at (doubted_file t (file_of b (node_at t b)) from count))
doubt_reached t b from count reached = go (file_of b (node_at t b)) refl
  where
    go : (o : Option (ℕ × (List Cell × (ℕ × ℕ)))) → file_of b (node_at t b) ≡ o → IsReached (node_at (doubted_file t o from count))
    go None i = reached
    go (Some f) i = cells_reached t f.0 f.1.0 (doubted_cells f.1.0 from count) f.1.1.0 f.1.1.1 f.1.1.1 (file_at_is t (Taken 0 [] 0 [] b) f i) reached

doubted_reached : (t : FileTree) (runs : List CellRun) → IsReached (node_at t) → IsReached (node_at (doubted t runs))
doubted_reached t [] reached = reached
doubted_reached t (run ∷ runs) reached = doubted_reached (doubted_file t (file_of run.birth (node_at t run.birth)) run.from run.count) runs (doubt_reached t run.birth run.from run.count reached)

pub step_reached : StepKeepsReached
step_reached t (Stays e) rest w reached new = entry_reached t e w reached new.absent.0
step_reached t (InDoubt runs) rest w reached new = doubted_reached t runs reached

pub steps_reached : StepsKeepReached
steps_reached t [] w reached new = reached
steps_reached t (s ∷ list) w reached new = steps_reached (after t s) list (after_keeps t s list w new) (step_reached t s list w reached new) (are_new_after t s list w new)
