-- What is applied to a tree whose names, targets and bytes can be said leaves it so, and its answer can be said.
use Rattle.std.proofs.Common.{◌≡◌, refl, ℕ, ◌+◌, ◌-◌, ◌*◌, ◌<◌, Bool, true, false, not, ◌&&◌, cond, eqb, ltb, leb, List, [], ◌∷◌, ◌++◌, length, map, take, drop, replicate, Option, Some, None, max}
use Rattle.std.specs.Option.{IfSome}
use Rattle.std.specs.List.{All, list_all}
use Rattle.std.specs.BTreeMap.{is_at}
use Rattle.std.specs.Ordering.{nat_cmp}
use Rattle.std.specs.Cmp.Lexicographic.{slice_cmp}
use Rattle.std.proofs.lemmas.Bool.{and_parts}
use Rattle.std.proofs.lemmas.List.Elements.{All-nil, All-append, All-take, All-drop, All-replicate, All-map}
use Rattle.std.proofs.lemmas.Map.Views.{All-keys-insert_entry, All-values-insert_entry, All-map-remove_entry, IfSome-lookup_from_All}
use Rattle.frang_base.specs.Name.{is_name}
use Rattle.frang_base.specs.declared.op.Op.{Op}
use Rattle.frang_base.specs.declared.op.Op.TheVariants as op
use Rattle.frang_base.specs.declared.reply.Reply.{Reply}
use Rattle.frang_base.specs.declared.reply.Reply.TheVariants as reply
use Rattle.tree_definitions.specs.declared.cells.Cell.{Cell}
use Rattle.tree_definitions.specs.declared.cells.Cell.TheVariants.{Byte}
use Rattle.tree_definitions.specs.declared.node.Node.{Node}
use Rattle.tree_definitions.specs.declared.node.Node.TheVariants.{Dir, File, Link}
use Rattle.tree_definitions.specs.Entries.{Entries, entry_at, with_entry, without_entry}
use Rattle.tree_definitions.specs.Tree.{FileTree, node_at, with_node, without_node, count_of, file_blocks, small_blocks_of, large_blocks_of, inodes_full, larges_full, entries_full, grown, lacks_block}
use Rattle.tree_definitions.specs.Place.{Place, Root, Taken, Free, Nowhere, place_by, place_in, below, place_from, place}
use Rattle.tree_definitions.specs.Apply.{Applied, says, named, made, is_dir, links_of, one_link_more, linked_to, linked, one_link_fewer, has_entries, unlinked, dir_removed, name_gone, name_set, moved, room_made, moved_onto, moved_to, goes_through, renamed_to, renamed_from, renamed, at_node, if_file, at_file, overwritten, written, truncated, shown, time_of, described, listed, target_of, apply}
use Rattle.script_definitions.specs.Sayable.{AreSayableEntries, IsNodeOf, IsNodeIfOf, IsTreeOf, IsSayablePath, IsSayableOp, IsTreeReply, IsAppliedOf}

pub either : {A : Type 0} (P : A → Type 0) (b : Bool) (x y : A) → P x → P y → P (cond b x y)
either P true x y h k = h
either P false x y h k = k

module _ (C : Cell → Type 0) (byte_is : (b : ℕ) → b < 256 → C (Byte b)) (m : ℕ) where
  abbrev NodeOf : Node → Type 0
  NodeOf = IsNodeOf C

  abbrev NodeIf : Option Node → Type 0
  NodeIf = IsNodeIfOf C

  abbrev TreeOf : FileTree → Type 0
  TreeOf = IsTreeOf C

  abbrev AppliedOf : Applied → Type 0
  AppliedOf = IsAppliedOf C m

  -- nodes come, go and are found
  pub put_sayable : (tree : FileTree) (birth : ℕ) (node : Node) → TreeOf tree → NodeOf node → TreeOf (with_node tree birth node)
  put_sayable tree birth node h k = All-values-insert_entry nat_cmp birth node NodeOf tree.nodes h k

  gone_sayable : (tree : FileTree) (birth : ℕ) → TreeOf tree → TreeOf (without_node tree birth)
  gone_sayable tree birth h = All-map-remove_entry (is_at (nat_cmp birth)) (λ e. e.1) NodeOf tree.nodes h

  found_step : (o : Option Node) → IfSome o NodeOf → NodeIf o
  found_step None h = tt
  found_step (Some node) h = h

  pub found_sayable : (tree : FileTree) (birth : ℕ) → TreeOf tree → NodeIf (node_at tree birth)
  found_sayable tree birth h = found_step (node_at tree birth) (IfSome-lookup_from_All NodeOf (is_at (nat_cmp birth)) tree.nodes h)

  -- entries come and go
  entry_more : (entries : Entries) (name : List ℕ) (birth : ℕ) → AreSayableEntries entries → is_name name ≡ true → AreSayableEntries (with_entry entries name birth)
  entry_more entries name birth h e = All-keys-insert_entry (slice_cmp nat_cmp) name birth (λ n. is_name n ≡ true) entries h e

  entry_fewer : (entries : Entries) (name : List ℕ) → AreSayableEntries entries → AreSayableEntries (without_entry entries name)
  entry_fewer entries name h = All-map-remove_entry (is_at (slice_cmp nat_cmp name)) (λ e. e.0) (λ n. is_name n ≡ true) entries h

  -- where a path of names leads
  abbrev IsSayablePlace : Place → Type 0
  IsSayablePlace Root = Unit {0}
  IsSayablePlace (Taken dir entries blocks name birth) = AreSayableEntries entries × (is_name name ≡ true)
  IsSayablePlace (Free dir entries blocks name) = AreSayableEntries entries × (is_name name ≡ true)
  IsSayablePlace (Nowhere r) = IsTreeReply m r

  by_sayable : (dir : ℕ) (entries : Entries) (blocks : ℕ) (name : List ℕ) (o : Option ℕ) → AreSayableEntries entries → is_name name ≡ true → IsSayablePlace (place_by dir entries blocks name o)
  by_sayable dir entries blocks name (Some birth) h e = (h, e)
  by_sayable dir entries blocks name None h e = (h, e)

  in_sayable : (node : Option Node) (dir : ℕ) (name : List ℕ) → NodeIf node → is_name name ≡ true → IsSayablePlace (place_in node dir name)
  in_sayable (Some (Dir entries blocks)) dir name h e = by_sayable dir entries blocks name (entry_at entries name) h e
  in_sayable (Some (File cells links when)) dir name h e = tt
  in_sayable (Some (Link target links)) dir name h e = tt
  in_sayable None dir name h e = tt

  below_sayable : (p : Place) (next : ℕ → Place) → IsSayablePlace p → ((b : ℕ) → IsSayablePlace (next b)) → IsSayablePlace (below p next)
  below_sayable Root next h k = k 0
  below_sayable (Taken dir entries blocks name birth) next h k = k birth
  below_sayable (Free dir entries blocks name) next h k = tt
  below_sayable (Nowhere r) next h k = h

  place_sayable : (tree : FileTree) (birth : ℕ) (path : List (List ℕ)) → TreeOf tree → IsSayablePath path → IsSayablePlace (place_from tree birth path)
  place_sayable tree birth [] h e = tt
  place_sayable tree birth (name ∷ []) h e = in_sayable (node_at tree birth) birth name (found_sayable tree birth h) (and_parts (is_name name) true e).0
  place_sayable tree birth (name ∷ next ∷ names) h e =
      let p = and_parts (is_name name) (list_all is_name (next ∷ names)) e in
      below_sayable (place_in (node_at tree birth) birth name) (λ b. place_from tree b (next ∷ names)) (in_sayable (node_at tree birth) birth name (found_sayable tree birth h) p.0) (λ b. place_sayable tree b (next ∷ names) h p.1)

  -- answers and trees
  answers : (tree : FileTree) (r : Reply) → TreeOf tree → IsTreeReply m r → AppliedOf (says tree r)
  answers tree r h k = record { answer = k; tree = h }

  named_sayable : (tree : FileTree) (dir : ℕ) (entries : Entries) (blocks : ℕ) (name : List ℕ) (birth : ℕ) → TreeOf tree → AreSayableEntries entries → is_name name ≡ true → TreeOf (named tree dir entries blocks name birth)
  named_sayable tree dir entries blocks name birth h k e = put_sayable tree dir (Dir (with_entry entries name birth) (grown entries blocks)) h (entry_more entries name birth k e)

  made_sayable : (tree : FileTree) (birth : ℕ) (node : Node) (p : Place) → TreeOf tree → NodeOf node → IsSayablePlace p → AppliedOf (made tree birth node p)
  made_sayable tree birth node Root h k q = answers tree reply.Exist h tt
  made_sayable tree birth node (Nowhere r) h k q = answers tree r h q
  made_sayable tree birth node (Taken dir entries blocks name old) h k q = answers tree reply.Exist h tt
  made_sayable tree birth node (Free dir entries blocks name) h k q =
      either AppliedOf (entries_full entries) _ _ (answers tree reply.DirFull h tt)
      (either AppliedOf (inodes_full tree) _ _ (answers tree reply.NoInode h tt)
      (either AppliedOf (lacks_block tree entries blocks) _ _ (answers tree reply.NoDirBlock h tt)
      (answers (named (with_node tree birth node) dir entries blocks name birth) reply.Ok (named_sayable (with_node tree birth node) dir entries blocks name birth (put_sayable tree birth node h k) q.0 q.1) tt)))

  more_sayable : (tree : FileTree) (birth : ℕ) (node : Option Node) → TreeOf tree → NodeIf node → TreeOf (one_link_more tree birth node)
  more_sayable tree birth (Some (File cells links when)) h k = put_sayable tree birth (File cells (links + 1) when) h k
  more_sayable tree birth (Some (Link target links)) h k = put_sayable tree birth (Link target (links + 1)) h k
  more_sayable tree birth (Some (Dir entries blocks)) h k = h
  more_sayable tree birth None h k = h

  linked_to_sayable : (tree : FileTree) (birth : ℕ) (p : Place) → TreeOf tree → IsSayablePlace p → AppliedOf (linked_to tree birth p)
  linked_to_sayable tree birth Root h q = answers tree reply.Exist h tt
  linked_to_sayable tree birth (Nowhere r) h q = answers tree r h q
  linked_to_sayable tree birth (Taken dir entries blocks name old) h q = answers tree reply.Exist h tt
  linked_to_sayable tree birth (Free dir entries blocks name) h q =
      let more = one_link_more tree birth (node_at tree birth) in
      either AppliedOf (leb 1000 (links_of (node_at tree birth))) _ _ (answers tree reply.MLink h tt)
      (either AppliedOf (entries_full entries) _ _ (answers tree reply.DirFull h tt)
      (either AppliedOf (lacks_block tree entries blocks) _ _ (answers tree reply.NoDirBlock h tt)
      (answers (named more dir entries blocks name birth) reply.Ok (named_sayable more dir entries blocks name birth (more_sayable tree birth (node_at tree birth) h (found_sayable tree birth h)) q.0 q.1) tt)))

  linked_sayable : (tree : FileTree) (p to : Place) → TreeOf tree → IsSayablePlace p → IsSayablePlace to → AppliedOf (linked tree p to)
  linked_sayable tree Root to h q t = answers tree reply.IsDir h tt
  linked_sayable tree (Nowhere r) to h q t = answers tree r h q
  linked_sayable tree (Free dir entries blocks name) to h q t = answers tree reply.NoEnt h tt
  linked_sayable tree (Taken dir entries blocks name birth) to h q t = either AppliedOf (is_dir (node_at tree birth)) _ _ (answers tree reply.IsDir h tt) (linked_to_sayable tree birth to h t)

  fewer_sayable : (tree : FileTree) (birth : ℕ) (node : Option Node) → TreeOf tree → NodeIf node → TreeOf (one_link_fewer tree birth node)
  fewer_sayable tree birth (Some (File cells links when)) h k = either TreeOf (ltb 1 links) _ _ (put_sayable tree birth (File cells (links - 1) when) h k) (gone_sayable tree birth h)
  fewer_sayable tree birth (Some (Link target links)) h k = either TreeOf (ltb 1 links) _ _ (put_sayable tree birth (Link target (links - 1)) h k) (gone_sayable tree birth h)
  fewer_sayable tree birth (Some (Dir entries blocks)) h k = gone_sayable tree birth h
  fewer_sayable tree birth None h k = h

  unlinked_sayable : (tree : FileTree) (p : Place) → TreeOf tree → IsSayablePlace p → AppliedOf (unlinked tree p)
  unlinked_sayable tree Root h q = answers tree reply.IsDir h tt
  unlinked_sayable tree (Nowhere r) h q = answers tree r h q
  unlinked_sayable tree (Free dir entries blocks name) h q = answers tree reply.NoEnt h tt
  unlinked_sayable tree (Taken dir entries blocks name birth) h q =
      let left = with_node tree dir (Dir (without_entry entries name) blocks) in
      either AppliedOf (is_dir (node_at tree birth)) _ _ (answers tree reply.IsDir h tt)
      (answers (one_link_fewer left birth (node_at tree birth)) reply.Ok (fewer_sayable left birth (node_at tree birth) (put_sayable tree dir (Dir (without_entry entries name) blocks) h (entry_fewer entries name q.0)) (found_sayable tree birth h)) tt)

  removed_sayable : (tree : FileTree) (p : Place) → TreeOf tree → IsSayablePlace p → AppliedOf (dir_removed tree p)
  removed_sayable tree Root h q = answers tree reply.Inval h tt
  removed_sayable tree (Nowhere r) h q = answers tree r h q
  removed_sayable tree (Free dir entries blocks name) h q = answers tree reply.NoEnt h tt
  removed_sayable tree (Taken dir entries blocks name birth) h q =
      let left = with_node tree dir (Dir (without_entry entries name) blocks) in
      either AppliedOf (not (is_dir (node_at tree birth))) _ _ (answers tree reply.NotDir h tt)
      (either AppliedOf (has_entries (node_at tree birth)) _ _ (answers tree reply.NotEmpty h tt)
      (answers (without_node left birth) reply.Ok (gone_sayable left birth (put_sayable tree dir (Dir (without_entry entries name) blocks) h (entry_fewer entries name q.0))) tt))

  -- renames
  name_gone_sayable : (tree : FileTree) (dir : ℕ) (name : List ℕ) (node : Option Node) → TreeOf tree → NodeIf node → TreeOf (name_gone tree dir name node)
  name_gone_sayable tree dir name (Some (Dir entries blocks)) h k = put_sayable tree dir (Dir (without_entry entries name) blocks) h (entry_fewer entries name k)
  name_gone_sayable tree dir name (Some (File cells links when)) h k = h
  name_gone_sayable tree dir name (Some (Link target links)) h k = h
  name_gone_sayable tree dir name None h k = h

  name_set_sayable : (tree : FileTree) (dir : ℕ) (name : List ℕ) (birth : ℕ) (node : Option Node) → TreeOf tree → NodeIf node → is_name name ≡ true → TreeOf (name_set tree dir name birth node)
  name_set_sayable tree dir name birth (Some (Dir entries blocks)) h k e = put_sayable tree dir (Dir (with_entry entries name birth) blocks) h (entry_more entries name birth k e)
  name_set_sayable tree dir name birth (Some (File cells links when)) h k e = h
  name_set_sayable tree dir name birth (Some (Link target links)) h k e = h
  name_set_sayable tree dir name birth None h k e = h

  moved_sayable : (tree : FileTree) (from : ℕ) (name : List ℕ) (to : ℕ) (new : List ℕ) (birth : ℕ) → TreeOf tree → is_name new ≡ true → TreeOf (moved tree from name to new birth)
  moved_sayable tree from name to new birth h e =
      let gone = name_gone tree from name (node_at tree from) in
      let kept : TreeOf gone = name_gone_sayable tree from name (node_at tree from) h (found_sayable tree from h) in
      name_set_sayable gone to new birth (node_at gone to) kept (found_sayable gone to kept) e

  onto_sayable : (tree : FileTree) (from : ℕ) (name : List ℕ) (birth to : ℕ) (new : List ℕ) (old : ℕ) → TreeOf tree → is_name new ≡ true → AppliedOf (moved_onto tree from name birth to new old)
  onto_sayable tree from name birth to new old h e =
      let after = moved tree from name to new birth in
      either AppliedOf (eqb old birth) _ _ (answers tree reply.Ok h tt)
      (either AppliedOf (is_dir (node_at tree birth) && not (is_dir (node_at tree old))) _ _ (answers tree reply.NotDir h tt)
      (either AppliedOf (is_dir (node_at tree old) && not (is_dir (node_at tree birth))) _ _ (answers tree reply.IsDir h tt)
      (either AppliedOf (has_entries (node_at tree old)) _ _ (answers tree reply.NotEmpty h tt)
      (answers (one_link_fewer after old (node_at tree old)) reply.Ok (fewer_sayable after old (node_at tree old) (moved_sayable tree from name to new birth h e) (found_sayable tree old h)) tt))))

  to_sayable : (tree : FileTree) (from : ℕ) (name : List ℕ) (birth to : ℕ) (entries : Entries) (blocks : ℕ) (new : List ℕ) → TreeOf tree → AreSayableEntries entries → is_name new ≡ true → AppliedOf (moved_to tree from name birth to entries blocks new)
  to_sayable tree from name birth to entries blocks new h k e =
      let room = room_made tree to entries blocks in
      either AppliedOf (eqb from to) _ _ (answers (moved tree from name to new birth) reply.Ok (moved_sayable tree from name to new birth h e) tt)
      (either AppliedOf (entries_full entries) _ _ (answers tree reply.DirFull h tt)
      (either AppliedOf (lacks_block tree entries blocks) _ _ (answers tree reply.NoDirBlock h tt)
      (answers (moved room from name to new birth) reply.Ok (moved_sayable room from name to new birth (put_sayable tree to (Dir entries (grown entries blocks)) h k) e) tt)))

  renamed_to_sayable : (tree : FileTree) (from : ℕ) (name : List ℕ) (birth : ℕ) (path : List (List ℕ)) (p : Place) → TreeOf tree → IsSayablePlace p → AppliedOf (renamed_to tree from name birth path p)
  renamed_to_sayable tree from name birth path Root h q = answers tree reply.Inval h tt
  renamed_to_sayable tree from name birth path (Nowhere r) h q = answers tree r h q
  renamed_to_sayable tree from name birth path (Taken to entries blocks new old) h q = either AppliedOf (goes_through tree path birth) _ _ (answers tree reply.Inval h tt) (onto_sayable tree from name birth to new old h q.1)
  renamed_to_sayable tree from name birth path (Free to entries blocks new) h q = either AppliedOf (goes_through tree path birth) _ _ (answers tree reply.Inval h tt) (to_sayable tree from name birth to entries blocks new h q.0 q.1)

  renamed_from_sayable : (tree : FileTree) (p : Place) (to : List (List ℕ)) → TreeOf tree → IsSayablePlace p → IsSayablePath to → AppliedOf (renamed_from tree p to)
  renamed_from_sayable tree Root to h q e = answers tree reply.Inval h tt
  renamed_from_sayable tree (Nowhere r) to h q e = answers tree r h q
  renamed_from_sayable tree (Free dir entries blocks name) to h q e = answers tree reply.NoEnt h tt
  renamed_from_sayable tree (Taken dir entries blocks name birth) to h q e = renamed_to_sayable tree dir name birth to (place tree to) h (place_sayable tree 0 to h e)

  renamed_sayable : (tree : FileTree) (path to : List (List ℕ)) → TreeOf tree → IsSayablePath path → IsSayablePath to → AppliedOf (renamed tree path to)
  renamed_sayable tree [] to h d e = answers tree reply.Inval h tt
  renamed_sayable tree (name ∷ names) [] h d e = answers tree reply.Inval h tt
  renamed_sayable tree (name ∷ names) (new ∷ news) h d e = renamed_from_sayable tree (place tree (name ∷ names)) (new ∷ news) h (place_sayable tree 0 (name ∷ names) h d) e

  -- looks and bytes
  at_sayable : (tree : FileTree) (p : Place) (next : ℕ → Option Node → Applied) → TreeOf tree → IsSayablePlace p → ((b : ℕ) (node : Option Node) → NodeIf node → AppliedOf (next b node)) → AppliedOf (at_node tree p next)
  at_sayable tree Root next h q k = k 0 (node_at tree 0) (found_sayable tree 0 h)
  at_sayable tree (Taken dir entries blocks name birth) next h q k = k birth (node_at tree birth) (found_sayable tree birth h)
  at_sayable tree (Free dir entries blocks name) next h q k = answers tree reply.NoEnt h tt
  at_sayable tree (Nowhere r) next h q k = answers tree r h q

  file_sayable : (tree : FileTree) (next : ℕ → List Cell → ℕ → ℕ → Applied) (birth : ℕ) (node : Option Node) → TreeOf tree → NodeIf node → ((b : ℕ) (cells : List Cell) (links when : ℕ) → All C cells → AppliedOf (next b cells links when)) → AppliedOf (if_file tree next birth node)
  file_sayable tree next birth (Some (File cells links when)) h k f = f birth cells links when k
  file_sayable tree next birth (Some (Dir entries blocks)) h k f = answers tree reply.IsDir h tt
  file_sayable tree next birth (Some (Link target links)) h k f = answers tree reply.Inval h tt
  file_sayable tree next birth None h k f = answers tree reply.NoEnt h tt

  at_file_sayable : (tree : FileTree) (path : List (List ℕ)) (next : ℕ → List Cell → ℕ → ℕ → Applied) → TreeOf tree → IsSayablePath path → ((b : ℕ) (cells : List Cell) (links when : ℕ) → All C cells → AppliedOf (next b cells links when)) → AppliedOf (at_file tree (place tree path) next)
  at_file_sayable tree path next h e f = at_sayable tree (place tree path) (λ birth node. if_file tree next birth node) h (place_sayable tree 0 path h e) (λ b node k. file_sayable tree next b node h k f)

  pub over_sayable : (cells : List Cell) (off : ℕ) (new : List Cell) → All C cells → All C new → All C (overwritten cells off new)
  over_sayable cells off new h k =
      All-append C (take off cells ++ new) (drop (off + length new) cells)
      (All-append C (take off cells) new (All-take C off cells h) k)
      (All-drop C (off + length new) cells h)

  pub bytes_sayable : (bytes : List ℕ) → All (λ b. b < 256) bytes → All C (map Byte bytes)
  bytes_sayable bytes h = All-map C Byte bytes (λ k d l. byte_is _ (h k d l))

  written_sayable : (tree : FileTree) (birth : ℕ) (cells : List Cell) (links when off len : ℕ) (put : List Cell → List Cell) → TreeOf tree → All C (put cells) → AppliedOf (written tree m birth cells links when off len put)
  written_sayable tree birth cells links when off len put h k =
      let size = max (length cells) (off + len) in
      either AppliedOf (ltb (length cells) off) _ _ (answers tree reply.BadOffset h tt)
      (either AppliedOf (ltb 1114112 (off + len)) _ _ (answers tree reply.TooBig h tt)
      (either AppliedOf (ltb (large_blocks_of (length cells)) (large_blocks_of size) && larges_full tree) _ _ (answers tree reply.NoLarge h tt)
      (either AppliedOf (ltb (1024 * tree.segments - m) (count_of file_blocks tree + (small_blocks_of size - small_blocks_of (length cells)))) _ _ (answers tree (reply.NoBlock m) h refl)
      (answers (with_node tree birth (File (put cells) links when)) reply.Ok (put_sayable tree birth (File (put cells) links when) h k) tt))))

  truncated_sayable : (tree : FileTree) (birth : ℕ) (cells : List Cell) (links when len : ℕ) → TreeOf tree → All C cells → AppliedOf (truncated tree birth cells links when len)
  truncated_sayable tree birth cells links when len h k =
      either AppliedOf (ltb (length cells) len) _ _ (answers tree reply.BadOffset h tt)
      (answers (with_node tree birth (File (take len cells) links when)) reply.Ok (put_sayable tree birth (File (take len cells) links when) h (All-take C len cells k)) tt)

  shown_sayable : (tree : FileTree) (cells : List Cell) (off len : ℕ) → TreeOf tree → All C cells → AppliedOf (shown tree cells off len)
  shown_sayable tree cells off len h k =
      either AppliedOf (ltb (length cells) off) _ _ (answers tree reply.BadOffset h tt)
      (record { answer = All-take C len (drop off cells) (All-drop C off cells k); tree = h })

  described_sayable : (tree : FileTree) (node : Option Node) → TreeOf tree → AppliedOf (described tree node)
  described_sayable tree (Some (File cells links when)) h = answers tree (reply.File (length cells) links) h tt
  described_sayable tree (Some (Dir entries blocks)) h = answers tree (reply.Dir (length entries)) h tt
  described_sayable tree (Some (Link target links)) h = answers tree (reply.Symlink (length target)) h tt
  described_sayable tree None h = answers tree reply.NoEnt h tt

  listed_sayable : (tree : FileTree) (node : Option Node) → TreeOf tree → NodeIf node → AppliedOf (listed tree node)
  listed_sayable tree (Some (Dir entries blocks)) h k = answers tree (reply.Names (map (λ e. e.0) entries)) h k
  listed_sayable tree (Some (File cells links when)) h k = answers tree reply.NotDir h tt
  listed_sayable tree (Some (Link target links)) h k = answers tree reply.NotDir h tt
  listed_sayable tree None h k = answers tree reply.NoEnt h tt

  target_sayable : (tree : FileTree) (node : Option Node) → TreeOf tree → NodeIf node → AppliedOf (target_of tree node)
  target_sayable tree (Some (Link target links)) h k = answers tree (reply.Target target) h k
  target_sayable tree (Some (Dir entries blocks)) h k = answers tree reply.Inval h tt
  target_sayable tree (Some (File cells links when)) h k = answers tree reply.Inval h tt
  target_sayable tree None h k = answers tree reply.NoEnt h tt

  -- an operation
  pub apply_sayable : (tree : FileTree) (o : Op) (birth when : ℕ) → TreeOf tree → IsSayableOp o → AppliedOf (apply tree o birth when m)
  apply_sayable tree (op.Create path) birth when h k = made_sayable tree birth (File [] 1 0) (place tree path) h (All-nil C) (place_sayable tree 0 path h k)
  apply_sayable tree (op.Mkdir path) birth when h k = made_sayable tree birth (Dir [] 0) (place tree path) h (All-nil (λ name. is_name name ≡ true)) (place_sayable tree 0 path h k)
  apply_sayable tree (op.Symlink path target) birth when h k = made_sayable tree birth (Link target 1) (place tree path) h k.1 (place_sayable tree 0 path h k.0)
  apply_sayable tree (op.Link path to) birth when h k = linked_sayable tree (place tree path) (place tree to) h (place_sayable tree 0 path h k.0) (place_sayable tree 0 to h k.1)
  apply_sayable tree (op.Unlink path) birth when h k = unlinked_sayable tree (place tree path) h (place_sayable tree 0 path h k)
  apply_sayable tree (op.Rmdir path) birth when h k = removed_sayable tree (place tree path) h (place_sayable tree 0 path h k)
  apply_sayable tree (op.Rename path to) birth when h k = renamed_sayable tree path to h k.0 k.1
  apply_sayable tree (op.Write path off bytes) birth when h k = at_file_sayable tree path (λ b cells links old. written tree m b cells links when off (length bytes) (λ all. overwritten all off (map Byte bytes))) h k.0 (λ b cells links old c. written_sayable tree b cells links when off (length bytes) (λ all. overwritten all off (map Byte bytes)) h (over_sayable cells off (map Byte bytes) c (bytes_sayable bytes k.1)))
  apply_sayable tree (op.Fill path off len byte) birth when h k = at_file_sayable tree path (λ b cells links old. written tree m b cells links when off len (λ all. overwritten all off (replicate len (Byte byte)))) h k.0 (λ b cells links old c. written_sayable tree b cells links when off len (λ all. overwritten all off (replicate len (Byte byte))) h (over_sayable cells off (replicate len (Byte byte)) c (All-replicate C len (Byte byte) (byte_is byte k.1))))
  apply_sayable tree (op.Truncate path len) birth when h k = at_file_sayable tree path (λ b cells links old. truncated tree b cells links when len) h k (λ b cells links old c. truncated_sayable tree b cells links when len h c)
  apply_sayable tree (op.Read path off len) birth when h k = at_file_sayable tree path (λ b cells links at. shown tree cells off len) h k (λ b cells links at c. shown_sayable tree cells off len h c)
  apply_sayable tree (op.Stat path) birth when h k = at_sayable tree (place tree path) (λ b node. described tree node) h (place_sayable tree 0 path h k) (λ b node n. described_sayable tree node h)
  apply_sayable tree (op.List path) birth when h k = at_sayable tree (place tree path) (λ b node. listed tree node) h (place_sayable tree 0 path h k) (λ b node n. listed_sayable tree node h n)
  apply_sayable tree (op.Readlink path) birth when h k = at_sayable tree (place tree path) (λ b node. target_of tree node) h (place_sayable tree 0 path h k) (λ b node n. target_sayable tree node h n)
  apply_sayable tree (op.Time path) birth when h k = at_file_sayable tree path (λ b cells links at. says tree (time_of at)) h k (λ b cells links at c. answers tree (time_of at) h tt)
  apply_sayable tree _ birth when h k = answers tree reply.Ok h tt
