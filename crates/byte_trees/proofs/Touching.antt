-- A write, fill or truncate answered `ok` touches the file that it meets.
use Rattle.std.proofs.Common.{ℕ, ◌≡◌, ◌+◌, ◌==◌, ◌&&◌, ◌||◌, Bool, true, false, Option, Some, None, List, [], ◌∷◌, ◌++◌, length, refl, ◌∙◌, ap}
use Rattle.std.specs.List.{list_any}
use Rattle.std.proofs.lemmas.Bool.{and_parts, or_right}
use Rattle.frang_base.specs.declared.op.Op.TheVariants as op
use Rattle.frang_base.specs.declared.reply.Reply.{Reply}
use Rattle.frang_base.specs.declared.reply.Reply.TheVariants as reply
use Rattle.tree_definitions.specs.declared.node.Node.{Node}
use Rattle.tree_definitions.specs.declared.node.Node.TheVariants.{Dir, File, Link}
use Rattle.tree_definitions.specs.Tree.{FileTree, node_at}
use Rattle.tree_definitions.specs.Place.{Place, Root, Taken, Free, Nowhere, place}
use Rattle.tree_definitions.specs.Perform.{Step, Goes, Stops, resolved}
use Rattle.tree_definitions.specs.History.{file_of, file_at}
use Rattle.tree_definitions.specs.Touched.{file_node, reached, reached_if, looked_in, visited, changes}
use Rattle.tree_definitions.specs.Removal.{meets, meets_in, size_of, step_writes, writes}
use Rattle.byte_trees.specs.Doubts.{WritesTouch}

or_last : (a b c : Bool) → c ≡ true → a || (b || c) ≡ true
or_last true b c e = refl
or_last false true c e = refl
or_last false false c e = e

module _ (tree : FileTree) (birth part from to : ℕ) where
  abbrev is_birth : ℕ → Bool
  is_birth b = b == birth

  -- a file that is met is the one that is reached
  by_node : (b : ℕ) (o : Option Node) → meets_in birth part (file_of b o) from to ≡ true → list_any is_birth (reached_if file_node b o) ≡ true
  by_node b (Some (File cells links when)) h = let p = and_parts (b == birth) (meets part from to) h in ap (λ x. x || false) p.0
  by_node b (Some (Dir entries blocks)) h = absurd (cc)
  by_node b (Some (Link target links)) h = absurd (cc)
  by_node b None h = absurd (cc)

  by_place : (p : Place) → meets_in birth part (file_at tree p) from to ≡ true → list_any is_birth (reached tree file_node p) ≡ true
  by_place Root h = absurd (cc)
  by_place (Taken dir entries blocks name b) h = by_node b (node_at tree b) h
  by_place (Free dir entries blocks name) h = absurd (cc)
  by_place (Nowhere r) h = absurd (cc)

-- the nodes of a trail and those looked in come before it
module _ (tree : FileTree) (birth part : ℕ) where
  behind : (xs ys : List ℕ) → list_any (λ b. b == birth) ys ≡ true → list_any (λ b. b == birth) (xs ++ ys) ≡ true
  behind [] ys e = e
  behind (x ∷ xs) ys e = or_last (x == birth) false (list_any (λ b. b == birth) (xs ++ ys)) (behind xs ys e)

  by_step : (step : Step) (r : Reply) → step_writes tree step r birth part ≡ true → list_any (λ b. b == birth) (visited tree step r) ≡ true
  by_step (Goes (op.Write path off bytes)) reply.Ok h = behind (looked_in tree (op.Write path off bytes)) (reached tree file_node (place tree path)) (by_place tree birth part off (off + length bytes) (place tree path) h)
  by_step (Goes (op.Fill path off len byte)) reply.Ok h = behind (looked_in tree (op.Fill path off len byte)) (reached tree file_node (place tree path)) (by_place tree birth part off (off + len) (place tree path) h)
  by_step (Goes (op.Truncate path len)) reply.Ok h = behind (looked_in tree (op.Truncate path len)) (reached tree file_node (place tree path)) (by_place tree birth part len (size_of (file_at tree (place tree path))) (place tree path) h)
  by_step (Goes o) r h = absurd (cc)
  by_step (Stops q) r h = absurd (cc)

pub writes_touch : WritesTouch
writes_touch tree e birth part answers writes =
    let w = resolved tree e.op in
    let found : list_any (λ b. b == birth) (w.trail ++ visited tree w.step e.reply) ≡ true = behind tree birth part w.trail (visited tree w.step e.reply) (by_step tree birth part w.step e.reply writes) in
    ap (λ a. a && (changes tree e birth || list_any (λ b. b == birth) (w.trail ++ visited tree w.step e.reply))) answers ∙ or_right (changes tree e birth) (list_any (λ b. b == birth) (w.trail ++ visited tree w.step e.reply)) found
