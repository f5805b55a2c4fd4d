-- An answer other than `ok` leaves the tree, and so does a look.
use Rattle.std.proofs.Common.{◌≡◌, ℕ, Bool, true, false, cond, map, replicate, take, drop, nat_lt, length, Option, Some, None, List, [], ◌∷◌, refl}
use Rattle.frang_base.specs.declared.op.Op.{Op}
use Rattle.frang_base.specs.declared.op.Op.TheVariants as op
use Rattle.frang_base.specs.declared.reply.Reply.{Reply}
use Rattle.frang_base.specs.declared.reply.Reply.TheVariants as reply
use Rattle.tree_definitions.specs.declared.cells.Cell.{Cell}
use Rattle.tree_definitions.specs.declared.cells.Cell.TheVariants.{Byte}
use Rattle.tree_definitions.specs.declared.node.Node.{Node}
use Rattle.tree_definitions.specs.declared.node.Node.TheVariants.{Dir, File, Link}
use Rattle.tree_definitions.specs.Entries.{Entries}
use Rattle.tree_definitions.specs.Tree.{FileTree, node_at}
use Rattle.tree_definitions.specs.Place.{Place, Root, Taken, Free, Nowhere, place}
use Rattle.tree_definitions.specs.Apply.{Shows, Applied, says, made, linked, linked_to, unlinked, dir_removed, renamed, renamed_from, renamed_to, moved_onto, moved_to, at_node, at_file, if_file, written, truncated, shown, described, listed, target_of, overwritten, apply}
use Rattle.tree_laws.specs.Refusals.{says_ok, is_look}

-- what a look may be
at_node_leaves : (tree : FileTree) (next : ℕ → Option Node → Applied) → ((b : ℕ) (o : Option Node) → (next b o).tree ≡ tree) → (p : Place) → (at_node tree p next).tree ≡ tree
at_node_leaves tree next each Root = each 0 (node_at tree 0)
at_node_leaves tree next each (Taken d es n nm b) = each b (node_at tree b)
at_node_leaves tree next each (Free d es n nm) = refl
at_node_leaves tree next each (Nowhere r) = refl

if_file_leaves : (tree : FileTree) (next : ℕ → List Cell → ℕ → ℕ → Applied) → ((b : ℕ) (cells : List Cell) (links when : ℕ) → (next b cells links when).tree ≡ tree) → (b : ℕ) (o : Option Node) → (if_file tree next b o).tree ≡ tree
if_file_leaves tree next each b (Some (File cells links when)) = each b cells links when
if_file_leaves tree next each b (Some (Dir es n)) = refl
if_file_leaves tree next each b (Some (Link target links)) = refl
if_file_leaves tree next each b None = refl

described_leaves : (tree : FileTree) (o : Option Node) → (described tree o).tree ≡ tree
described_leaves tree (Some (File cells links when)) = refl
described_leaves tree (Some (Dir es n)) = refl
described_leaves tree (Some (Link target links)) = refl
described_leaves tree None = refl

listed_leaves : (tree : FileTree) (o : Option Node) → (listed tree o).tree ≡ tree
listed_leaves tree (Some (File cells links when)) = refl
listed_leaves tree (Some (Dir es n)) = refl
listed_leaves tree (Some (Link target links)) = refl
listed_leaves tree None = refl

target_leaves : (tree : FileTree) (o : Option Node) → (target_of tree o).tree ≡ tree
target_leaves tree (Some (File cells links when)) = refl
target_leaves tree (Some (Dir es n)) = refl
target_leaves tree (Some (Link target links)) = refl
target_leaves tree None = refl

shown_leaves : (tree : FileTree) (cells : List Cell) (off len : ℕ) → (shown tree cells off len).tree ≡ tree
shown_leaves tree cells off len = go (nat_lt (length cells) off)
  where
    go : (b : Bool) → (cond {A = Applied} b (says tree reply.BadOffset) (record { answer = Shows (take len (drop off cells)); tree = tree })).tree ≡ tree
    go true = refl
    go false = refl

pub looks_leave : (tree : FileTree) (op : Op) (birth when m : ℕ) → is_look op ≡ true → (apply tree op birth when m).tree ≡ tree
looks_leave tree (op.Read path off len) birth when m h = at_node_leaves tree _ (if_file_leaves tree _ (λ b cells links when. shown_leaves tree cells off len)) (place tree path)
looks_leave tree (op.Stat path) birth when m h = at_node_leaves tree _ (λ b o. described_leaves tree o) (place tree path)
looks_leave tree (op.List path) birth when m h = at_node_leaves tree _ (λ b o. listed_leaves tree o) (place tree path)
looks_leave tree (op.Readlink path) birth when m h = at_node_leaves tree _ (λ b o. target_leaves tree o) (place tree path)
looks_leave tree (op.Time path) birth when m h = at_node_leaves tree _ (if_file_leaves tree _ (λ b cells links when. refl)) (place tree path)
looks_leave tree _ birth when m h = absurd (cc)

-- unless it says `ok`, it leaves the tree
record Quiet (tree : FileTree) (a : Applied) : Type 0 where
  pub leaves : says_ok a.answer ≡ false → a.tree ≡ tree

module _ (tree : FileTree) where
  either : (b : Bool) (x y : Applied) → Quiet tree x → Quiet tree y → Quiet tree (cond b x y)
  either true x y f g = f
  either false x y f g = g

  ok : (t : FileTree) → Quiet tree (says t reply.Ok)
  ok t = record { leaves = λ h. cc }

  same : (r : Reply) → Quiet tree (says tree r)
  same r = record { leaves = λ h. refl }

  made_quiet : (birth : ℕ) (node : Node) (p : Place) → Quiet tree (made tree birth node p)
  made_quiet birth node Root = same _
  made_quiet birth node (Nowhere r) = same _
  made_quiet birth node (Taken d es n nm b) = same _
  made_quiet birth node (Free d es n nm) = search (either, ok, same)

  linked_to_quiet : (birth : ℕ) (p : Place) → Quiet tree (linked_to tree birth p)
  linked_to_quiet birth Root = same _
  linked_to_quiet birth (Nowhere r) = same _
  linked_to_quiet birth (Taken d es n nm b) = same _
  linked_to_quiet birth (Free d es n nm) = search (either, ok, same)

  linked_quiet : (p to : Place) → Quiet tree (linked tree p to)
  linked_quiet Root to = same _
  linked_quiet (Nowhere r) to = same _
  linked_quiet (Free d es n nm) to = same _
  linked_quiet (Taken d es n nm b) to = search (either, same, linked_to_quiet)

  unlinked_quiet : (p : Place) → Quiet tree (unlinked tree p)
  unlinked_quiet Root = same _
  unlinked_quiet (Nowhere r) = same _
  unlinked_quiet (Free d es n nm) = same _
  unlinked_quiet (Taken d es n nm b) = search (either, ok, same)

  dir_removed_quiet : (p : Place) → Quiet tree (dir_removed tree p)
  dir_removed_quiet Root = same _
  dir_removed_quiet (Nowhere r) = same _
  dir_removed_quiet (Free d es n nm) = same _
  dir_removed_quiet (Taken d es n nm b) = search (either, ok, same)

  moved_onto_quiet : (from : ℕ) (name : List ℕ) (birth to : ℕ) (new : List ℕ) (old : ℕ) → Quiet tree (moved_onto tree from name birth to new old)
  moved_onto_quiet from name birth to new old = search (either, ok, same)

  moved_to_quiet : (from : ℕ) (name : List ℕ) (birth to : ℕ) (es : Entries) (n : ℕ) (new : List ℕ) → Quiet tree (moved_to tree from name birth to es n new)
  moved_to_quiet from name birth to es n new = search (either, ok, same)

  renamed_to_quiet : (from : ℕ) (name : List ℕ) (birth : ℕ) (path : List (List ℕ)) (p : Place) → Quiet tree (renamed_to tree from name birth path p)
  renamed_to_quiet from name birth path Root = same _
  renamed_to_quiet from name birth path (Nowhere r) = same _
  renamed_to_quiet from name birth path (Taken to es n new old) = search (either, same, moved_onto_quiet)
  renamed_to_quiet from name birth path (Free to es n new) = search (either, same, moved_to_quiet)

  renamed_from_quiet : (p : Place) (to : List (List ℕ)) → Quiet tree (renamed_from tree p to)
  renamed_from_quiet Root to = same _
  renamed_from_quiet (Nowhere r) to = same _
  renamed_from_quiet (Free d es n nm) to = same _
  renamed_from_quiet (Taken d es n nm b) to = renamed_to_quiet d nm b to (place tree to)

  renamed_quiet : (path to : List (List ℕ)) → Quiet tree (renamed tree path to)
  renamed_quiet [] to = same _
  renamed_quiet (n ∷ ns) [] = same _
  renamed_quiet (n ∷ ns) (m ∷ ms) = renamed_from_quiet (place tree (n ∷ ns)) (m ∷ ms)

  -- what is asked of a file
  module _ (next : ℕ → List Cell → ℕ → ℕ → Applied) (each : (b : ℕ) (cells : List Cell) (links when : ℕ) → Quiet tree (next b cells links when)) where
    if_file_quiet : (b : ℕ) (o : Option Node) → Quiet tree (if_file tree next b o)
    if_file_quiet b (Some (File cells links when)) = each b cells links when
    if_file_quiet b (Some (Dir es n)) = same _
    if_file_quiet b (Some (Link target links)) = same _
    if_file_quiet b None = same _

    file_quiet : (p : Place) → Quiet tree (at_file tree p next)
    file_quiet Root = if_file_quiet 0 (node_at tree 0)
    file_quiet (Taken d es n nm b) = if_file_quiet b (node_at tree b)
    file_quiet (Free d es n nm) = same _
    file_quiet (Nowhere r) = same _

  written_quiet : (m b : ℕ) (cells : List Cell) (links when off len : ℕ) (put : List Cell → List Cell) → Quiet tree (written tree m b cells links when off len put)
  written_quiet m b cells links when off len put = search (either, ok, same)

  truncated_quiet : (b : ℕ) (cells : List Cell) (links when len : ℕ) → Quiet tree (truncated tree b cells links when len)
  truncated_quiet b cells links when len = search (either, ok, same)

look : (tree : FileTree) (op : Op) (birth when m : ℕ) → is_look op ≡ true → Quiet tree (apply tree op birth when m)
look tree op birth when m h = record { leaves = λ _. looks_leave tree op birth when m h }

quiet_always : (tree : FileTree) (op : Op) (birth when m : ℕ) → Quiet tree (apply tree op birth when m)
quiet_always tree (op.Create path) birth when m = made_quiet tree birth _ (place tree path)
quiet_always tree (op.Mkdir path) birth when m = made_quiet tree birth _ (place tree path)
quiet_always tree (op.Symlink path target) birth when m = made_quiet tree birth _ (place tree path)
quiet_always tree (op.Link path to) birth when m = linked_quiet tree (place tree path) (place tree to)
quiet_always tree (op.Unlink path) birth when m = unlinked_quiet tree (place tree path)
quiet_always tree (op.Rmdir path) birth when m = dir_removed_quiet tree (place tree path)
quiet_always tree (op.Rename path to) birth when m = renamed_quiet tree path to
quiet_always tree (op.Write path off bytes) birth when m = file_quiet tree _ (λ b cells links old. written_quiet tree m b cells links when off (length bytes) (λ all. overwritten all off (map Byte bytes))) (place tree path)
quiet_always tree (op.Fill path off len byte) birth when m = file_quiet tree _ (λ b cells links old. written_quiet tree m b cells links when off len (λ all. overwritten all off (replicate len (Byte byte)))) (place tree path)
quiet_always tree (op.Truncate path len) birth when m = file_quiet tree _ (λ b cells links old. truncated_quiet tree b cells links when len) (place tree path)
quiet_always tree (op.Read path off len) birth when m = look tree (op.Read path off len) birth when m refl
quiet_always tree (op.Stat path) birth when m = look tree (op.Stat path) birth when m refl
quiet_always tree (op.List path) birth when m = look tree (op.List path) birth when m refl
quiet_always tree (op.Readlink path) birth when m = look tree (op.Readlink path) birth when m refl
quiet_always tree (op.Time path) birth when m = look tree (op.Time path) birth when m refl
quiet_always tree _ birth when m = same tree reply.Ok

pub refusals_leave : (tree : FileTree) (op : Op) (birth when m : ℕ) → says_ok (apply tree op birth when m).answer ≡ false → (apply tree op birth when m).tree ≡ tree
refusals_leave tree op birth when m = (quiet_always tree op birth when m).leaves
