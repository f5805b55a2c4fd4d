-- The nodes of a tree as a function of their births.
use Rattle.std.proofs.Common.{ℕ, ◌≡◌, ◌≢◌, ◌+◌, Option, Some, None, length, refl, sym, ◌∙◌, eq-eqb, ne_eqb}
use Rattle.std.specs.Ordering.{nat_cmp}
use Rattle.tree_definitions.specs.declared.node.Node.{Node}
use Rattle.tree_definitions.specs.Tree.{FileTree, node_at, with_node, without_node}
use Rattle.tree_definitions.specs.WellFormed.{put, BirthsAscend}
use Rattle.tree_definitions.proofs.Births.{each_but}
use Rattle.tree_definitions.proofs.Pairs.{birth_exact, found_put, found_other, found_left, found_removed, sorted_put, sorted_removed, length_put, length_kept, length_removed}

pub put_same : (f : ℕ → Option Node) (b : ℕ) (v : Option Node) → put f b v b ≡ v
put_same f b v = rw (eq-eqb b b refl) refl

pub put_other : (f : ℕ → Option Node) (b : ℕ) (v : Option Node) (c : ℕ) → c ≢ b → put f b v c ≡ f c
put_other f b v c n = rw (ne_eqb c b n) refl

pub node_with : (tree : FileTree) (b : ℕ) (x : Node) (c : ℕ) → node_at (with_node tree b x) c ≡ put (node_at tree) b (Some x) c
node_with tree b x = each_but (λ c. node_at (with_node tree b x) c ≡ put (node_at tree) b (Some x) c) b
    (found_put nat_cmp birth_exact tree.nodes b x ∙ sym (put_same (node_at tree) b (Some x)))
    (λ c n. found_other nat_cmp birth_exact tree.nodes b x c n ∙ sym (put_other (node_at tree) b (Some x) c n))

pub node_without : (tree : FileTree) (b c : ℕ) → BirthsAscend tree → node_at (without_node tree b) c ≡ put (node_at tree) b None c
node_without tree b c births = each_but (λ c. node_at (without_node tree b) c ≡ put (node_at tree) b None c) b
    (found_removed nat_cmp birth_exact tree.nodes b births ∙ sym (put_same (node_at tree) b None))
    (λ c n. found_left nat_cmp birth_exact tree.nodes b c n ∙ sym (put_other (node_at tree) b None c n)) c

pub with_same : (tree : FileTree) (b : ℕ) (x : Node) → node_at (with_node tree b x) b ≡ Some x
with_same tree b x = found_put nat_cmp birth_exact tree.nodes b x

pub with_other : (tree : FileTree) (b : ℕ) (x : Node) (c : ℕ) → c ≢ b → node_at (with_node tree b x) c ≡ node_at tree c
with_other tree b x c n = found_other nat_cmp birth_exact tree.nodes b x c n

pub without_same : (tree : FileTree) (b : ℕ) → BirthsAscend tree → node_at (without_node tree b) b ≡ None
without_same tree b births = found_removed nat_cmp birth_exact tree.nodes b births

pub without_other : (tree : FileTree) (b c : ℕ) → c ≢ b → node_at (without_node tree b) c ≡ node_at tree c
without_other tree b c n = found_left nat_cmp birth_exact tree.nodes b c n

pub ascend_with : (tree : FileTree) (b : ℕ) (x : Node) → BirthsAscend tree → BirthsAscend (with_node tree b x)
ascend_with tree b x births = sorted_put nat_cmp birth_exact tree.nodes b x births

pub ascend_without : (tree : FileTree) (b : ℕ) → BirthsAscend tree → BirthsAscend (without_node tree b)
ascend_without tree b births = sorted_removed nat_cmp birth_exact tree.nodes b births

pub count_with : (tree : FileTree) (b : ℕ) (x : Node) → node_at tree b ≡ None → length (with_node tree b x).nodes ≡ length tree.nodes + 1
count_with tree b x new = length_put nat_cmp birth_exact tree.nodes b x new

pub count_without : (tree : FileTree) (b : ℕ) (x : Node) → node_at tree b ≡ Some x → length tree.nodes ≡ length (without_node tree b).nodes + 1
count_without tree b x old = length_removed nat_cmp birth_exact tree.nodes b x old

pub count_kept : (tree : FileTree) (b : ℕ) (x y : Node) → BirthsAscend tree → node_at tree b ≡ Some y → length (with_node tree b x).nodes ≡ length tree.nodes
count_kept tree b x y births old = length_kept nat_cmp birth_exact tree.nodes b x y births old
