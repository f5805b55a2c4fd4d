-- The number of nodes after an operation.
use Rattle.std.proofs.Common.{ℕ, ◌≡◌, ◌≢◌, ◌⊎◌, inl, inr, ◌+◌, ◌-◌, ◌*◌, ◌==◌, Bool, true, false, not, ◌&&◌, Option, Some, None, List, [], ◌∷◌, length, map, replicate, take, max, cond, refl, sym, ◌∙◌, ap, nat_lt, nat_le, is_some}
use Rattle.frang_base.specs.declared.op.Op.{Op}
use Rattle.frang_base.specs.declared.op.Op.TheVariants as op
use Rattle.frang_base.specs.declared.reply.Reply.TheVariants as reply
use Rattle.frang_base.proofs.Tests.{some_there}
use Rattle.tree_definitions.specs.declared.cells.Cell.{Cell}
use Rattle.tree_definitions.specs.declared.cells.Cell.TheVariants.{Byte}
use Rattle.tree_definitions.specs.declared.node.Node.{Node}
use Rattle.tree_definitions.specs.declared.node.Node.TheVariants.{Dir, File, Link}
use Rattle.tree_definitions.specs.Entries.{Entries, with_entry, without_entry}
use Rattle.tree_definitions.specs.Tree.{FileTree, node_at, with_node, without_node, grown, entries_full, inodes_full, lacks_block, large_blocks_of, small_blocks_of, larges_full, count_of, file_blocks}
use Rattle.tree_definitions.specs.Place.{Place, Root, Taken, Free, Nowhere, place}
use Rattle.tree_definitions.specs.Apply.{Plain, Applied, says, named, made, is_dir, has_entries, links_of, one_link_more, one_link_fewer, linked_to, linked, unlinked, dir_removed, name_gone, name_set, moved, room_made, goes_through, renamed_to, renamed_from, renamed, if_file, at_file, written, truncated, overwritten, apply}
use Rattle.tree_laws.specs.Refusals.{is_look}
use Rattle.tree_definitions.specs.WellFormed.{BirthsAscend, IsWellFormed, IsNew}
use Rattle.tree_laws.specs.Counts.{makes_node, may_free}
use Rattle.tree_definitions.proofs.Births.{each_but}
use Rattle.tree_laws.proofs.Nodes.{with_same, with_other, ascend_with, count_with, count_kept, count_without}
use Rattle.tree_laws.proofs.Places.{Stands, place_stands}
use Rattle.tree_laws.proofs.Refusals.{looks_leave}
use Rattle.tree_laws.proofs.Looking.{well_refused, refused_well, is_walk_reply}
use Rattle.tree_laws.proofs.Keeping.{names_nodes}

-- a tree made of another by changing nodes that were there
record Holds (t u : FileTree) : Type 0 where
  pub births : BirthsAscend u
  pub count : length u.nodes ≡ length t.nodes
  pub there : (d : ℕ) → is_some (node_at t d) ≡ true → is_some (node_at u d) ≡ true

holds_with : (t u : FileTree) → Holds t u → (d : ℕ) (x : Node) → is_some (node_at t d) ≡ true → Holds t (with_node u d x)
holds_with t u h d x s = record {
  births = ascend_with u d x h.births;
  count = (let y = some_there (node_at u d) (h.there d s) in count_kept u d x y.0 h.births y.1) ∙ h.count;
  there = each_but (λ c. is_some (node_at t c) ≡ true → is_some (node_at (with_node u d x) c) ≡ true) d (λ _. ap is_some (with_same u d x)) (λ c far s. ap is_some (with_other u d x c far) ∙ h.there c s);
}

abbrev AtMostOneLess : FileTree → FileTree → Type 0
AtMostOneLess t u = (length u.nodes ≡ length t.nodes) ⊎ (length u.nodes + 1 ≡ length t.nodes)

module _ (t : FileTree) where
  holds_self : BirthsAscend t → Holds t t
  holds_self b = record { births = b; count = refl; there = λ d s. s }

  module _ (u : FileTree) (h : Holds t u) where
    holds_more : (d : ℕ) (o : Option Node) → is_some (node_at t d) ≡ true → Holds t (one_link_more u d o)
    holds_more d (Some (File cells links when)) s = holds_with t u h d (File cells (links + 1) when) s
    holds_more d (Some (Link target links)) s = holds_with t u h d (Link target (links + 1)) s
    holds_more d (Some (Dir es n)) s = h
    holds_more d None s = h

    holds_gone : (d : ℕ) (name : List ℕ) (o : Option Node) → is_some (node_at t d) ≡ true → Holds t (name_gone u d name o)
    holds_gone d name (Some (Dir es n)) s = holds_with t u h d (Dir (without_entry es name) n) s
    holds_gone d name (Some (File cells links when)) s = h
    holds_gone d name (Some (Link target links)) s = h
    holds_gone d name None s = h

    holds_set : (d : ℕ) (name : List ℕ) (v : ℕ) (o : Option Node) → is_some (node_at t d) ≡ true → Holds t (name_set u d name v o)
    holds_set d name v (Some (Dir es n)) s = holds_with t u h d (Dir (with_entry es name v) n) s
    holds_set d name v (Some (File cells links when)) s = h
    holds_set d name v (Some (Link target links)) s = h
    holds_set d name v None s = h

    fewer_count : (d : ℕ) (x : Node) → is_some (node_at t d) ≡ true → (length (without_node u d).nodes + 1 ≡ length t.nodes) × (length (with_node u d x).nodes ≡ length t.nodes)
    fewer_count d x s =
        let y = some_there (node_at u d) (h.there d s) in
        let a : length u.nodes ≡ length (without_node u d).nodes + 1 = count_without u d y.0 y.1 in
        (sym a ∙ h.count, (holds_with t u h d x s).count)

    fewer_less : (d : ℕ) (o : Option Node) → is_some (node_at t d) ≡ true → AtMostOneLess t (one_link_fewer u d o)
    fewer_less d (Some (File cells links when)) s = go (nat_lt 1 links)
      where
        go : (c : Bool) → (length (cond c (with_node u d (File cells (links - 1) when)) (without_node u d)).nodes ≡ length t.nodes) ⊎ (length (cond c (with_node u d (File cells (links - 1) when)) (without_node u d)).nodes + 1 ≡ length t.nodes)
        go true = inl (fewer_count d (File cells (links - 1) when) s).1
        go false = inr (fewer_count d (File cells (links - 1) when) s).0
    fewer_less d (Some (Link target links)) s = go (nat_lt 1 links)
      where
        go : (c : Bool) → (length (cond c (with_node u d (Link target (links - 1))) (without_node u d)).nodes ≡ length t.nodes) ⊎ (length (cond c (with_node u d (Link target (links - 1))) (without_node u d)).nodes + 1 ≡ length t.nodes)
        go true = inl (fewer_count d (Link target (links - 1)) s).1
        go false = inr (fewer_count d (Link target (links - 1)) s).0
    fewer_less d (Some (Dir es n)) s = inr (fewer_count d (Dir es n) s).0
    fewer_less d None s = inl h.count

  holds_moved : (u : FileTree) → Holds t u → (from : ℕ) (name : List ℕ) (to : ℕ) (new : List ℕ) (b : ℕ) → is_some (node_at t from) ≡ true → is_some (node_at t to) ≡ true → Holds t (moved u from name to new b)
  holds_moved u h from name to new b s q =
      let gone = name_gone u from name (node_at u from) in
      holds_set gone (holds_gone u h from name (node_at u from) s) to new b (node_at gone to) q

-- a property of each outcome
if_each : (P : Applied → Type 0) (b : Bool) (x y : Applied) → P x → P y → P (cond b x y)
if_each P true x y p q = p
if_each P false x y p q = q

module _ (t : FileTree) (w : IsWellFormed t) where
  abbrev Same : Applied → Type 0
  Same a = length a.tree.nodes ≡ length t.nodes

  abbrev Less : Applied → Type 0
  Less a = AtMostOneLess t a.tree

  whole : Holds t t
  whole = holds_self t w.births

  dir_there : (d : ℕ) (es : Entries) (n : ℕ) → node_at t d ≡ Some (Dir es n) → is_some (node_at t d) ≡ true
  dir_there d es n is = ap is_some is

  -- what is made
  made_free : (a b c : Bool) (u : FileTree) → (cond {A = Applied} a (says t reply.DirFull) (cond b (says t reply.NoInode) (cond c (says t reply.NoDirBlock) (says u reply.Ok)))).answer ≡ Plain reply.Ok
      → length u.nodes ≡ length t.nodes + 1 → length (cond {A = Applied} a (says t reply.DirFull) (cond b (says t reply.NoInode) (cond c (says t reply.NoDirBlock) (says u reply.Ok)))).tree.nodes ≡ length t.nodes + 1
  made_free true b c u e h = absurd (cc)
  made_free false true c u e h = absurd (cc)
  made_free false false true u e h = absurd (cc)
  made_free false false false u e h = h

  made_one : (b : ℕ) (z : Node) → IsNew t b → (p : Place) → Stands t p → refused_well p ≡ true → (made t b z p).answer ≡ Plain reply.Ok → length (made t b z p).tree.nodes ≡ length t.nodes + 1
  made_one b z new Root s q e = absurd (cc)
  made_one b z new (Nowhere reply.Ok) s q e = absurd (cc)
  made_one b z new (Nowhere r) s q e = absurd (let i : r ≡ reply.Ok = cc in let j : is_walk_reply r ≡ false = ap is_walk_reply i in cc)
  made_one b z new (Taken d es n name c) s q e = absurd (cc)
  made_one b z new (Free d es n name) s q e =
      let far : d ≢ b = λ i. (let k : Some (Dir es n) ≡ None = sym s.0 ∙ ap (node_at t) i ∙ new in cc) in
      let one : length (with_node t b z).nodes ≡ length t.nodes + 1 = count_with t b z new in
      let two : length (named (with_node t b z) d es n name b).nodes ≡ length (with_node t b z).nodes = count_kept (with_node t b z) d (Dir (with_entry es name b) (grown es n)) (Dir es n) (ascend_with t b z w.births) (with_other t b z d far ∙ s.0) in
      made_free (entries_full es) (inodes_full t) (lacks_block t es n) (named (with_node t b z) d es n name b) e (two ∙ one)

  pub makes_one : (o : Op) (b when m : ℕ) → IsNew t b → makes_node o ≡ true → (apply t o b when m).answer ≡ Plain reply.Ok → length (apply t o b when m).tree.nodes ≡ length t.nodes + 1
  makes_one (op.Create path) b when m new h e = made_one b (File [] 1 0) new (place t path) (place_stands t path) (well_refused t 0 path) e
  makes_one (op.Mkdir path) b when m new h e = made_one b (Dir [] 0) new (place t path) (place_stands t path) (well_refused t 0 path) e
  makes_one (op.Symlink path target) b when m new h e = made_one b (Link target 1) new (place t path) (place_stands t path) (well_refused t 0 path) e
  makes_one _ b when m new h e = absurd (cc)

  -- what may be freed
  unlinked_less : (p : Place) → Stands t p → Less (unlinked t p)
  unlinked_less Root s = inl refl
  unlinked_less (Nowhere r) s = inl refl
  unlinked_less (Free d es n name) s = inl refl
  unlinked_less (Taken d es n name b) s =
      let u = with_node t d (Dir (without_entry es name) n) in
      if_each Less (is_dir (node_at t b)) (says t reply.IsDir) (says (one_link_fewer u b (node_at t b)) reply.Ok) (inl refl)
      (fewer_less t u (holds_with t t whole d (Dir (without_entry es name) n) (dir_there d es n s.0)) b (node_at t b) (names_nodes t w d es n name b s.0 s.1))

  removed_less : (p : Place) → Stands t p → Less (dir_removed t p)
  removed_less Root s = inl refl
  removed_less (Nowhere r) s = inl refl
  removed_less (Free d es n name) s = inl refl
  removed_less (Taken d es n name b) s =
      let u = with_node t d (Dir (without_entry es name) n) in
      if_each Less (not (is_dir (node_at t b))) (says t reply.NotDir) _ (inl refl) (if_each Less (has_entries (node_at t b)) (says t reply.NotEmpty) (says (without_node u b) reply.Ok) (inl refl)
      (inr (fewer_count t u (holds_with t t whole d (Dir (without_entry es name) n) (dir_there d es n s.0)) b (Dir es n) (names_nodes t w d es n name b s.0 s.1)).0))

  renamed_less : (d : ℕ) (es : Entries) (n : ℕ) (name : List ℕ) (b : ℕ) → node_at t d ≡ Some (Dir es n) → (path : List (List ℕ)) (p : Place) → Stands t p → Less (renamed_to t d name b path p)
  renamed_less d es n name b is path Root s = inl refl
  renamed_less d es n name b is path (Nowhere r) s = inl refl
  renamed_less d es n name b is path (Taken to fs m new old) s =
      let u = moved t d name to new b in
      if_each Less (goes_through t path b) (says t reply.Inval) _ (inl refl) (if_each Less (old == b) (says t reply.Ok) _ (inl refl)
      (if_each Less (is_dir (node_at t b) && not (is_dir (node_at t old))) (says t reply.NotDir) _ (inl refl) (if_each Less (is_dir (node_at t old) && not (is_dir (node_at t b))) (says t reply.IsDir) _ (inl refl)
      (if_each Less (has_entries (node_at t old)) (says t reply.NotEmpty) (says (one_link_fewer u old (node_at t old)) reply.Ok) (inl refl)
      (fewer_less t u (holds_moved t t whole d name to new b (dir_there d es n is) (dir_there to fs m s.0)) old (node_at t old) (names_nodes t w to fs m new old s.0 s.1))))))
  renamed_less d es n name b is path (Free to fs m new) s =
      let room = holds_with t t whole to (Dir fs (grown fs m)) (dir_there to fs m s.0) in
      if_each Less (goes_through t path b) (says t reply.Inval) _ (inl refl) (if_each Less (d == to) (says (moved t d name to new b) reply.Ok) _ (inl (holds_moved t t whole d name to new b (dir_there d es n is) (dir_there to fs m s.0)).count)
      (if_each Less (entries_full fs) (says t reply.DirFull) _ (inl refl) (if_each Less (lacks_block t fs m) (says t reply.NoDirBlock) (says (moved (room_made t to fs m) d name to new b) reply.Ok) (inl refl)
      (inl (holds_moved t (room_made t to fs m) room d name to new b (dir_there d es n is) (dir_there to fs m s.0)).count))))

  renamed_from_less : (p : Place) (to : List (List ℕ)) → Stands t p → Less (renamed_from t p to)
  renamed_from_less Root to s = inl refl
  renamed_from_less (Nowhere r) to s = inl refl
  renamed_from_less (Free d es n name) to s = inl refl
  renamed_from_less (Taken d es n name b) to s = renamed_less d es n name b s.0 to (place t to) (place_stands t to)

  all_renamed_less : (path to : List (List ℕ)) → Less (renamed t path to)
  all_renamed_less [] to = inl refl
  all_renamed_less (n ∷ ns) [] = inl refl
  all_renamed_less (n ∷ ns) (m ∷ ms) = renamed_from_less (place t (n ∷ ns)) (m ∷ ms) (place_stands t (n ∷ ns))

  pub frees_one : (o : Op) (b when m : ℕ) → may_free o ≡ true → Less (apply t o b when m)
  frees_one (op.Unlink path) b when m h = unlinked_less (place t path) (place_stands t path)
  frees_one (op.Rmdir path) b when m h = removed_less (place t path) (place_stands t path)
  frees_one (op.Rename path to) b when m h = all_renamed_less path to
  frees_one _ b when m h = absurd (cc)

  -- what neither makes nor frees
  linked_same : (p to : Place) → Stands t p → Stands t to → Same (linked t p to)
  linked_same Root to s q = refl
  linked_same (Nowhere r) to s q = refl
  linked_same (Free d es n name) to s q = refl
  linked_same (Taken d es n name b) to s q = if_each Same (is_dir (node_at t b)) (says t reply.IsDir) (linked_to t b to) refl (go to q)
    where
      go : (to : Place) → Stands t to → Same (linked_to t b to)
      go Root q = refl
      go (Nowhere r) q = refl
      go (Taken e fs m new c) q = refl
      go (Free e fs m new) q =
          let u = one_link_more t b (node_at t b) in
          let h = holds_more t t whole b (node_at t b) (names_nodes t w d es n name b s.0 s.1) in
          if_each Same (nat_le 1000 (links_of (node_at t b))) (says t reply.MLink) _ refl (if_each Same (entries_full fs) (says t reply.DirFull) _ refl (if_each Same (lacks_block t fs m) (says t reply.NoDirBlock) (says (named u e fs m new b) reply.Ok) refl
          (holds_with t u h e (Dir (with_entry fs new b) (grown fs m)) (dir_there e fs m q.0)).count))

  file_same : (f : ℕ → List Cell → ℕ → ℕ → Applied) → ((b : ℕ) (cells : List Cell) (links when : ℕ) → node_at t b ≡ Some (File cells links when) → Same (f b cells links when)) → (b : ℕ) (o : Option Node) → node_at t b ≡ o → Same (if_file t f b o)
  file_same f each b (Some (File cells links when)) is = each b cells links when is
  file_same f each b (Some (Dir es n)) is = refl
  file_same f each b (Some (Link target links)) is = refl
  file_same f each b None is = refl

  at_file_same : (f : ℕ → List Cell → ℕ → ℕ → Applied) → ((b : ℕ) (cells : List Cell) (links when : ℕ) → node_at t b ≡ Some (File cells links when) → Same (f b cells links when)) → (p : Place) → Same (at_file t p f)
  at_file_same f each Root = file_same f each 0 (node_at t 0) refl
  at_file_same f each (Taken d es n name b) = file_same f each b (node_at t b) refl
  at_file_same f each (Free d es n name) = refl
  at_file_same f each (Nowhere r) = refl

  written_same : (m b : ℕ) (cells : List Cell) (links old when off len : ℕ) (put : List Cell → List Cell) → node_at t b ≡ Some (File cells links old) → Same (written t m b cells links when off len put)
  written_same m b cells links old when off len put is =
      let size = max (length cells) (off + len) in
      if_each Same (nat_lt (length cells) off) (says t reply.BadOffset) _ refl (if_each Same (nat_lt 1114112 (off + len)) (says t reply.TooBig) _ refl
      (if_each Same (nat_lt (large_blocks_of (length cells)) (large_blocks_of size) && larges_full t) (says t reply.NoLarge) _ refl
      (if_each Same (nat_lt (1024 * t.segments - m) (count_of file_blocks t + (small_blocks_of size - small_blocks_of (length cells)))) (says t (reply.NoBlock m)) (says (with_node t b (File (put cells) links when)) reply.Ok) refl
      (count_kept t b (File (put cells) links when) (File cells links old) w.births is))))

  truncated_same : (b : ℕ) (cells : List Cell) (links old when len : ℕ) → node_at t b ≡ Some (File cells links old) → Same (truncated t b cells links when len)
  truncated_same b cells links old when len is = if_each Same (nat_lt (length cells) len) (says t reply.BadOffset) (says (with_node t b (File (take len cells) links when)) reply.Ok) refl (count_kept t b (File (take len cells) links when) (File cells links old) w.births is)

  looked_same : (o : Op) (b when m : ℕ) → is_look o ≡ true → Same (apply t o b when m)
  looked_same o b when m h = ap (λ u. length u.nodes) (looks_leave t o b when m h)

  pub keeps_nodes : (o : Op) (b when m : ℕ) → makes_node o ≡ false → may_free o ≡ false → Same (apply t o b when m)
  keeps_nodes (op.Create path) b when m h g = absurd (cc)
  keeps_nodes (op.Mkdir path) b when m h g = absurd (cc)
  keeps_nodes (op.Symlink path target) b when m h g = absurd (cc)
  keeps_nodes (op.Unlink path) b when m h g = absurd (cc)
  keeps_nodes (op.Rmdir path) b when m h g = absurd (cc)
  keeps_nodes (op.Rename path to) b when m h g = absurd (cc)
  keeps_nodes (op.Link path to) b when m h g = linked_same (place t path) (place t to) (place_stands t path) (place_stands t to)
  keeps_nodes (op.Write path off bytes) b when m h g = at_file_same (λ b cells links old. written t m b cells links when off (length bytes) (λ all. overwritten all off (map Byte bytes))) (λ b cells links old is. written_same m b cells links old when off (length bytes) (λ all. overwritten all off (map Byte bytes)) is) (place t path)
  keeps_nodes (op.Fill path off len byte) b when m h g = at_file_same (λ b cells links old. written t m b cells links when off len (λ all. overwritten all off (replicate len (Byte byte)))) (λ b cells links old is. written_same m b cells links old when off len (λ all. overwritten all off (replicate len (Byte byte))) is) (place t path)
  keeps_nodes (op.Truncate path len) b when m h g = at_file_same (λ b cells links old. truncated t b cells links when len) (λ b cells links old is. truncated_same b cells links old when len is) (place t path)
  keeps_nodes (op.Read path off len) b when m h g = looked_same (op.Read path off len) b when m refl
  keeps_nodes (op.Stat path) b when m h g = looked_same (op.Stat path) b when m refl
  keeps_nodes (op.List path) b when m h g = looked_same (op.List path) b when m refl
  keeps_nodes (op.Readlink path) b when m h g = looked_same (op.Readlink path) b when m refl
  keeps_nodes (op.Time path) b when m h g = looked_same (op.Time path) b when m refl
  keeps_nodes op.Sync b when m h g = refl
  keeps_nodes op.Mount b when m h g = refl
  keeps_nodes op.Unmount b when m h g = refl
  keeps_nodes op.Crash b when m h g = refl
  keeps_nodes (op.CrashAt k) b when m h g = refl
  keeps_nodes (op.CutAt k) b when m h g = refl
  keeps_nodes op.Stall b when m h g = refl
