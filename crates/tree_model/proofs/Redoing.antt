-- What an entry over a path does to a tree is what its operation, done again, does.
use Rattle.std.proofs.Common.{◌≡◌, ℕ, Bool, true, false, cond, ◌&&◌, nat_lt, Option, Some, None, List, take, drop, length, sym, refl, ◌∙◌, ap}
use Rattle.frang_base.specs.declared.op.Op.{Op}
use Rattle.frang_base.specs.declared.op.Op.TheVariants as op
use Rattle.frang_base.specs.declared.reply.Reply.{Reply}
use Rattle.frang_base.specs.declared.reply.Reply.TheVariants as reply
use Rattle.tree_definitions.specs.declared.cells.Cell.{Cell}
use Rattle.tree_definitions.specs.declared.history.Entry.{Entry}
use Rattle.tree_definitions.specs.declared.node.Node.{Node}
use Rattle.tree_definitions.specs.declared.node.Node.TheVariants.{Dir, File, Link}
use Rattle.tree_definitions.specs.Tree.{FileTree, node_at}
use Rattle.tree_definitions.specs.Place.{Place, Root, Taken, Free, Nowhere, place}
use Rattle.tree_definitions.specs.Apply.{Applied, Shows, says, shown, if_file, at_file, is_path_op}
use Rattle.tree_definitions.specs.Perform.{Step, Goes, Stops, resolved, perform_step}
use Rattle.tree_definitions.specs.History.{agrees, cells_show, file_at, file_of, with_shown, after_step, applied, is_answer, leaves_tree, told_blocks, tree_after}
use Rattle.file_tree.specs.Shown.{file_shows}
use Rattle.tree_model.specs.Replayed.{after_reading, after_step_redo}

-- a test of which both sides are the same
the_same : (b : Bool) (t : FileTree) → t ≡ cond {A = FileTree} b t t
the_same true t = refl
the_same false t = refl

-- ---- a read leaves the tree, and agrees with the bytes that its cells show

shown_tests : (tree : FileTree) (cells : List Cell) (b : Bool) → (cond {A = Applied} b (says tree reply.BadOffset) (record { answer = Shows cells; tree = tree })).tree ≡ tree
shown_tests tree cells true = refl
shown_tests tree cells false = refl

shown_keeps : (tree : FileTree) (off len birth : ℕ) (o : Option Node) → (if_file tree (λ b cells links at. shown tree cells off len) birth o).tree ≡ tree
shown_keeps tree off len birth (Some (File cells links when)) = shown_tests tree (take len (drop off cells)) (nat_lt (length cells) off)
shown_keeps tree off len birth (Some (Dir entries blocks)) = refl
shown_keeps tree off len birth (Some (Link target links)) = refl
shown_keeps tree off len birth None = refl

read_keeps : (tree : FileTree) (off len : ℕ) (p : Place) → (at_file tree p (λ b cells links at. shown tree cells off len)).tree ≡ tree
read_keeps tree off len Root = shown_keeps tree off len 0 (node_at tree 0)
read_keeps tree off len (Taken dir entries blocks name birth) = shown_keeps tree off len birth (node_at tree birth)
read_keeps tree off len (Free dir entries blocks name) = refl
read_keeps tree off len (Nowhere r) = refl

bytes_tests : (tree : FileTree) (cells : List Cell) (bytes : List ℕ) (b : Bool)
    → cond {A = Bool} b false (cells_show cells bytes) ≡ agrees (cond {A = Applied} b (says tree reply.BadOffset) (record { answer = Shows cells; tree = tree })).answer (reply.Shown bytes)
bytes_tests tree cells bytes true = refl
bytes_tests tree cells bytes false = refl

bytes_agree : (tree : FileTree) (off len : ℕ) (bytes : List ℕ) (birth : ℕ) (o : Option Node)
    → file_shows (file_of birth o) off len bytes ≡ agrees (if_file tree (λ b cells links at. shown tree cells off len) birth o).answer (reply.Shown bytes)
bytes_agree tree off len bytes birth (Some (File cells links when)) = bytes_tests tree (take len (drop off cells)) bytes (nat_lt (length cells) off)
bytes_agree tree off len bytes birth (Some (Dir entries blocks)) = refl
bytes_agree tree off len bytes birth (Some (Link target links)) = refl
bytes_agree tree off len bytes birth None = refl

-- ---- what is done again

-- a tree that takes the place of another where there is one
pub next_left : (b : Bool) (t next tree : FileTree) → Some next ≡ cond {A = Option FileTree} b (Some t) None → next ≡ cond {A = FileTree} b t tree
next_left true t next tree e = cc
next_left false t next tree e = cc

pub none_left : (b : Bool) (t tree : FileTree) → None ≡ cond {A = Option FileTree} b (Some t) None → tree ≡ cond {A = FileTree} b t tree
none_left true t tree e = cc
none_left false t tree e = refl

-- a step's tree, where the reply is its answer
abbrev stepped : FileTree → Step → ℕ → ℕ → Reply → FileTree
stepped tree s number when r =
    cond {A = FileTree} (agrees (perform_step tree s number when (told_blocks tree r)).answer r) (after_step (perform_step tree s number when (told_blocks tree r)).tree s r) tree

read_at : (tree : FileTree) (off len : ℕ) (bytes : List ℕ) (p : Place)
    → cond {A = FileTree} (file_shows (file_at tree p) off len bytes) (with_shown tree (file_at tree p) off bytes) tree
    ≡ cond {A = FileTree} (agrees (at_file tree p (λ b cells links at. shown tree cells off len)).answer (reply.Shown bytes)) (with_shown tree (file_at tree p) off bytes) tree
read_at tree off len bytes Root = the_same (agrees (at_file tree Root (λ b cells links at. shown tree cells off len)).answer (reply.Shown bytes)) tree
read_at tree off len bytes (Taken dir entries blocks name birth) =
    ap (λ b. cond {A = FileTree} b (with_shown tree (file_of birth (node_at tree birth)) off bytes) tree) (bytes_agree tree off len bytes birth (node_at tree birth))
read_at tree off len bytes (Free dir entries blocks name) = the_same (agrees (at_file tree (Free dir entries blocks name) (λ b cells links at. shown tree cells off len)).answer (reply.Shown bytes)) tree
read_at tree off len bytes (Nowhere r) = the_same (agrees (at_file tree (Nowhere r) (λ b cells links at. shown tree cells off len)).answer (reply.Shown bytes)) tree

read_stepped : (tree : FileTree) (path : List (List ℕ)) (off len number when : ℕ) (r : Reply) → after_reading tree path off len r ≡ stepped tree (Goes (op.Read path off len)) number when r
read_stepped tree path off len number when (reply.Shown bytes) =
    let a = at_file tree (place tree path) (λ b cells links at. shown tree cells off len) in
    read_at tree off len bytes (place tree path)
    ∙ ap (λ t. cond {A = FileTree} (agrees a.answer (reply.Shown bytes)) (with_shown t (file_at t (place t path)) off bytes) tree) (sym (read_keeps tree off len (place tree path)))
read_stepped tree path off len number when r =
    let a = at_file tree (place tree path) (λ b cells links at. shown tree cells off len) in
    the_same (agrees a.answer r) tree ∙ ap (λ t. cond {A = FileTree} (agrees a.answer r) t tree) (sym (read_keeps tree off len (place tree path)))

op_stepped : (tree : FileTree) (o : Op) (number when : ℕ) (r : Reply) → after_step_redo tree (Goes o) number when r ≡ stepped tree (Goes o) number when r
op_stepped tree (op.Read path off len) number when r = read_stepped tree path off len number when r
op_stepped tree _ number when r = refl

step_is : (tree : FileTree) (s : Step) (number when : ℕ) (r : Reply) → after_step_redo tree s number when r ≡ stepped tree s number when r
step_is tree (Goes o) number when r = op_stepped tree o number when r
step_is tree (Stops q) number when r = the_same (agrees (says tree q).answer r) tree

-- ---- what an entry does

pub redone : (tree : FileTree) (e : Entry) → leaves_tree e.op e.reply ≡ false → is_path_op e.op ≡ true → after_step_redo tree (resolved tree e.op).step e.number.0 e.when e.reply ≡ tree_after tree e
redone tree e stays path =
    let next = after_step (applied tree e).tree (resolved tree e.op).step e.reply in
    step_is tree (resolved tree e.op).step e.number.0 e.when e.reply
    ∙ ap (λ p. cond {A = FileTree} (p && agrees (applied tree e).answer e.reply) next tree) (sym path)
    ∙ ap (λ l. cond {A = FileTree} l tree (cond {A = FileTree} (is_answer tree e) next tree)) (sym stays)

pub pathless : (tree : FileTree) (e : Entry) → is_path_op e.op ≡ false → tree ≡ tree_after tree e
pathless tree e path =
    let next = after_step (applied tree e).tree (resolved tree e.op).step e.reply in
    the_same (leaves_tree e.op e.reply) tree
    ∙ ap (λ p. cond {A = FileTree} (leaves_tree e.op e.reply) tree (cond {A = FileTree} (p && agrees (applied tree e).answer e.reply) next tree)) (sym path)
