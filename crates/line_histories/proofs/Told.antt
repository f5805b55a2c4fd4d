-- Of the number of directories' blocks it only matters whether room is wanted: where the answer tells none, fewer blocks would have changed nothing.
use Rattle.std.proofs.Common.{ℕ, ◌≡◌, ◌+◌, ◌-◌, ◌*◌, ◌≤◌, ◌&&◌, Bool, true, false, cond, nat_lt, max, Option, Some, None, List, length, map, replicate, refl, sym, ◌∙◌, ap, subst, arith}
use Rattle.std.proofs.lemmas.Bool.Decides.{nat_tests}
use Rattle.frang_base.specs.declared.op.Op.{Op}
use Rattle.frang_base.specs.declared.op.Op.TheVariants as op
use Rattle.frang_base.specs.declared.reply.Reply.{Reply}
use Rattle.frang_base.specs.declared.reply.Reply.TheVariants as reply
use Rattle.tree_definitions.specs.declared.cells.Cell.{Cell}
use Rattle.tree_definitions.specs.declared.cells.Cell.TheVariants.{Byte}
use Rattle.tree_definitions.specs.declared.node.Node.{Node}
use Rattle.tree_definitions.specs.declared.node.Node.TheVariants.{Dir, File, Link}
use Rattle.tree_definitions.specs.Tree.{FileTree, node_at, with_node, count_of, file_blocks, small_blocks_of, large_blocks_of, larges_full}
use Rattle.tree_definitions.specs.Place.{Place, Root, Taken, Free, Nowhere, place}
use Rattle.tree_definitions.specs.Apply.{Applied, says, at_file, if_file, overwritten, written, apply}
use Rattle.tree_definitions.specs.Perform.{Step, Goes, Stops, perform, perform_step, resolved}
use Rattle.disk_definitions.specs.Meets.{Answers}
use Rattle.line_histories.specs.LinePlans.{blocks_told}

more_free : (s m k x : ℕ) → k ≤ m → nat_lt (1024 * s - m) x ≡ false → nat_lt (1024 * s - k) x ≡ false
more_free s m k x low h = grind (arith, nat_tests, low, h)

written_told : (tree : FileTree) (m birth : ℕ) (cells : List Cell) (links when off len : ℕ) (put : List Cell → List Cell) (r : Reply) (k : ℕ) → (r ≡ reply.NoBlock m → k ≡ m) → (r ≡ reply.Ok → k ≤ m) → Answers (written tree m birth cells links when off len put).answer r →
    written tree k birth cells links when off len put ≡ written tree m birth cells links when off len put
written_told tree m birth cells links when off len put r k full fits =
    go (nat_lt (length cells) off) (nat_lt 1114112 (off + len)) (nat_lt (large_blocks_of (length cells)) (large_blocks_of size) && larges_full tree) (nat_lt (1024 * tree.segments - m) need) refl
  where
    size : ℕ
    size = max (length cells) (off + len)

    need : ℕ
    need = count_of file_blocks tree + (small_blocks_of size - small_blocks_of (length cells))

    done : Applied
    done = says (with_node tree birth (File (put cells) links when)) reply.Ok

    room : ℕ → Applied
    room j = cond {A = Applied} (nat_lt (1024 * tree.segments - j) need) (says tree (reply.NoBlock j)) done

    last : (d : Bool) → nat_lt (1024 * tree.segments - m) need ≡ d → Answers (cond {A = Applied} d (says tree (reply.NoBlock m)) done).answer r → room k ≡ cond {A = Applied} d (says tree (reply.NoBlock m)) done
    last true taken told = ap room (full told) ∙ ap (λ b. cond {A = Applied} b (says tree (reply.NoBlock m)) done) taken
    last false free told = ap (λ b. cond {A = Applied} b (says tree (reply.NoBlock k)) done) (more_free tree.segments m k need (fits told) free)

    go : (a b c d : Bool) → nat_lt (1024 * tree.segments - m) need ≡ d
        → Answers (cond {A = Applied} a (says tree reply.BadOffset) (cond b (says tree reply.TooBig) (cond c (says tree reply.NoLarge) (cond d (says tree (reply.NoBlock m)) done)))).answer r
        → cond {A = Applied} a (says tree reply.BadOffset) (cond b (says tree reply.TooBig) (cond c (says tree reply.NoLarge) (room k)))
        ≡ cond {A = Applied} a (says tree reply.BadOffset) (cond b (says tree reply.TooBig) (cond c (says tree reply.NoLarge) (cond d (says tree (reply.NoBlock m)) done)))
    go true b c d e h = refl
    go false true c d e h = refl
    go false false true d e h = refl
    go false false false d e h = last d e h

file_told : (tree : FileTree) (next other : ℕ → List Cell → ℕ → ℕ → Applied) (r : Reply) → ((b : ℕ) (cells : List Cell) (links at : ℕ) → Answers (next b cells links at).answer r → other b cells links at ≡ next b cells links at) →
    (p : Place) → Answers (at_file tree p next).answer r → at_file tree p other ≡ at_file tree p next
file_told tree next other r each = go
  where
    node : (b : ℕ) (o : Option Node) → Answers (if_file tree next b o).answer r → if_file tree other b o ≡ if_file tree next b o
    node b (Some (File cells links when)) h = each b cells links when h
    node b (Some (Dir entries blocks)) h = refl
    node b (Some (Link target links)) h = refl
    node b None h = refl

    go : (p : Place) → Answers (at_file tree p next).answer r → at_file tree p other ≡ at_file tree p next
    go Root h = node 0 (node_at tree 0) h
    go (Taken dir entries blocks name b) h = node b (node_at tree b) h
    go (Free dir entries blocks name) h = refl
    go (Nowhere q) h = refl

apply_told : (tree : FileTree) (o : Op) (birth when m : ℕ) (r : Reply) (k : ℕ) → (r ≡ reply.NoBlock m → k ≡ m) → (r ≡ reply.Ok → k ≤ m) → Answers (apply tree o birth when m).answer r → apply tree o birth when k ≡ apply tree o birth when m
apply_told tree (op.Write path off bytes) birth when m r k full fits h =
    file_told tree (λ b cells links old. written tree m b cells links when off (length bytes) (λ all. overwritten all off (map Byte bytes))) (λ b cells links old. written tree k b cells links when off (length bytes) (λ all. overwritten all off (map Byte bytes))) r
    (λ b cells links old told. written_told tree m b cells links when off (length bytes) (λ all. overwritten all off (map Byte bytes)) r k full fits told) (place tree path) h
apply_told tree (op.Fill path off len byte) birth when m r k full fits h =
    file_told tree (λ b cells links old. written tree m b cells links when off len (λ all. overwritten all off (replicate len (Byte byte)))) (λ b cells links old. written tree k b cells links when off len (λ all. overwritten all off (replicate len (Byte byte)))) r
    (λ b cells links old told. written_told tree m b cells links when off len (λ all. overwritten all off (replicate len (Byte byte))) r k full fits told) (place tree path) h
apply_told tree (op.Create path) birth when m r k full fits h = refl
apply_told tree o birth when m r k full fits h = refl

pub step_told : (tree : FileTree) (s : Step) (birth when m : ℕ) (r : Reply) (k : ℕ) → (r ≡ reply.NoBlock m → k ≡ m) → (r ≡ reply.Ok → k ≤ m) → Answers (perform_step tree s birth when m).answer r → perform_step tree s birth when k ≡ perform_step tree s birth when m
step_told tree (Goes o) birth when m r k full fits h = apply_told tree o birth when m r k full fits h
step_told tree (Stops q) birth when m r k full fits h = refl

-- an operation that is performed with the number that its answer tells comes to the same
pub perform_told : (tree : FileTree) (o : Op) (birth when m : ℕ) (r : Reply) → Answers (perform tree o birth when m).answer r → perform tree o birth when (blocks_told r) ≡ perform tree o birth when m
perform_told tree o birth when m r h = step_told tree (resolved tree o).step birth when m r (blocks_told r) (λ e. ap blocks_told e) (λ e. subst (λ q. blocks_told q ≤ m) (sym e) (omega arith)) h
