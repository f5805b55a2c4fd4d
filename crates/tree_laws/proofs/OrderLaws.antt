-- Births stay in order, whatever is done.
use Rattle.std.proofs.Common.{nat_lt, ◌-◌, ◌∙◌, ap, ℕ, ◌≡◌, ◌+◌, Bool, true, false, Option, Some, None, List, [], ◌∷◌, length, map, replicate, take, cond, refl, sym, subst}
use Rattle.frang_base.specs.declared.op.Op.{Op}
use Rattle.frang_base.specs.declared.op.Op.TheVariants as op
use Rattle.frang_base.specs.declared.reply.Reply.{Reply}
use Rattle.frang_base.specs.declared.reply.Reply.TheVariants as reply
use Rattle.tree_definitions.specs.declared.cells.Cell.{Cell}
use Rattle.tree_definitions.specs.declared.cells.Cell.TheVariants.{Byte}
use Rattle.tree_definitions.specs.declared.node.Node.{Node}
use Rattle.tree_definitions.specs.declared.node.Node.TheVariants.{Dir, File, Link}
use Rattle.tree_definitions.specs.Entries.{Entries, with_entry, without_entry}
use Rattle.tree_definitions.specs.Tree.{FileTree, node_at, with_node, without_node, grown}
use Rattle.tree_definitions.specs.Place.{Place, Root, Taken, Free, Nowhere, place}
use Rattle.tree_definitions.specs.Apply.{Applied, says, named, made, one_link_more, one_link_fewer, linked_to, linked, unlinked, dir_removed, moved, name_gone, name_set, room_made, moved_onto, moved_to, renamed_to, renamed_from, renamed, if_file, at_file, written, truncated, overwritten, apply}
use Rattle.tree_definitions.specs.Perform.{Step, Goes, Stops, resolved, perform, perform_step}
use Rattle.tree_definitions.specs.History.{applied, is_answer, told_blocks, leaves_tree, after_read, after_step, with_shown, file_at, file_of, CellRun, Settled, Stays, InDoubt, doubted, doubted_file, doubted_cells, after, after_all}
use Rattle.tree_laws.specs.Refusals.{is_look}
use Rattle.tree_definitions.specs.WellFormed.{BirthsAscend}
use Rattle.tree_laws.proofs.Nodes.{ascend_with, ascend_without}
use Rattle.tree_laws.proofs.Refusals.{looks_leave}
use Rattle.tree_laws.proofs.Acting.{moved_ascends, fewer_ascends}

-- an outcome with births in order, and so many segments
record Ordered (k : ℕ) (a : Applied) : Type 0 where
  pub births : BirthsAscend a.tree
  pub segments : a.tree.segments ≡ k

either : (k : ℕ) (b : Bool) (x y : Applied) → Ordered k x → Ordered k y → Ordered k (cond b x y)
either k true x y f g = f
either k false x y f g = g

ok : (k : ℕ) (u : FileTree) → BirthsAscend u → u.segments ≡ k → Ordered k (says u reply.Ok)
ok k u b i = record { births = b; segments = i }

-- no change of a node changes the number of segments
more_segments : (t : FileTree) (d : ℕ) (o : Option Node) → (one_link_more t d o).segments ≡ t.segments
more_segments t d (Some (File cells links when)) = refl
more_segments t d (Some (Link target links)) = refl
more_segments t d (Some (Dir es n)) = refl
more_segments t d None = refl

fewer_if : (t : FileTree) (d : ℕ) (x : Node) (c : Bool) → (cond c (with_node t d x) (without_node t d)).segments ≡ t.segments
fewer_if t d x true = refl
fewer_if t d x false = refl

fewer_segments : (t : FileTree) (d : ℕ) (o : Option Node) → (one_link_fewer t d o).segments ≡ t.segments
fewer_segments t d (Some (File cells links when)) = fewer_if t d (File cells (links - 1) when) (nat_lt 1 links)
fewer_segments t d (Some (Link target links)) = fewer_if t d (Link target (links - 1)) (nat_lt 1 links)
fewer_segments t d (Some (Dir es n)) = refl
fewer_segments t d None = refl

gone_segments : (t : FileTree) (d : ℕ) (name : List ℕ) (o : Option Node) → (name_gone t d name o).segments ≡ t.segments
gone_segments t d name (Some (Dir es n)) = refl
gone_segments t d name (Some (File cells links when)) = refl
gone_segments t d name (Some (Link target links)) = refl
gone_segments t d name None = refl

set_segments : (t : FileTree) (d : ℕ) (name : List ℕ) (b : ℕ) (o : Option Node) → (name_set t d name b o).segments ≡ t.segments
set_segments t d name b (Some (Dir es n)) = refl
set_segments t d name b (Some (File cells links when)) = refl
set_segments t d name b (Some (Link target links)) = refl
set_segments t d name b None = refl

moved_segments : (t : FileTree) (from : ℕ) (name : List ℕ) (to : ℕ) (new : List ℕ) (b : ℕ) → (moved t from name to new b).segments ≡ t.segments
moved_segments t from name to new b =
    let gone = name_gone t from name (node_at t from) in
    set_segments gone to new b (node_at gone to) ∙ gone_segments t from name (node_at t from)

module _ (t : FileTree) (births : BirthsAscend t) where
  same : (r : Reply) → Ordered t.segments (says t r)
  same r = record { births = births; segments = refl }

  more_ascends : (d : ℕ) (o : Option Node) → BirthsAscend (one_link_more t d o)
  more_ascends d (Some (File cells links when)) = ascend_with t d (File cells (links + 1) when) births
  more_ascends d (Some (Link target links)) = ascend_with t d (Link target (links + 1)) births
  more_ascends d (Some (Dir es n)) = births
  more_ascends d None = births

  made_ordered : (b : ℕ) (z : Node) (p : Place) → Ordered t.segments (made t b z p)
  made_ordered b z Root = same reply.Exist
  made_ordered b z (Nowhere r) = same r
  made_ordered b z (Taken d es n name c) = same reply.Exist
  made_ordered b z (Free d es n name) =
      let segs : (named (with_node t b z) d es n name b).segments ≡ t.segments = refl in
      let done : BirthsAscend (named (with_node t b z) d es n name b) = ascend_with (with_node t b z) d (Dir (with_entry es name b) (grown es n)) (ascend_with t b z births) in
      search (either t.segments, same, ok t.segments, done, segs)

  linked_ordered : (b : ℕ) (p : Place) → Ordered t.segments (linked_to t b p)
  linked_ordered b Root = same reply.Exist
  linked_ordered b (Nowhere r) = same r
  linked_ordered b (Taken d es n name c) = same reply.Exist
  linked_ordered b (Free d es n name) =
      let segs : (named (one_link_more t b (node_at t b)) d es n name b).segments ≡ t.segments = more_segments t b (node_at t b) in
      let done : BirthsAscend (named (one_link_more t b (node_at t b)) d es n name b) = ascend_with (one_link_more t b (node_at t b)) d (Dir (with_entry es name b) (grown es n)) (more_ascends b (node_at t b)) in
      search (either t.segments, same, ok t.segments, done, segs)

  link_ordered : (p to : Place) → Ordered t.segments (linked t p to)
  link_ordered Root to = same reply.IsDir
  link_ordered (Nowhere r) to = same r
  link_ordered (Free d es n name) to = same reply.NoEnt
  link_ordered (Taken d es n name b) to = search (either t.segments, same, linked_ordered)

  unlinked_ordered : (p : Place) → Ordered t.segments (unlinked t p)
  unlinked_ordered Root = same reply.IsDir
  unlinked_ordered (Nowhere r) = same r
  unlinked_ordered (Free d es n name) = same reply.NoEnt
  unlinked_ordered (Taken d es n name b) =
      let u = with_node t d (Dir (without_entry es name) n) in
      let segs : (one_link_fewer u b (node_at t b)).segments ≡ t.segments = fewer_segments u b (node_at t b) in
      let done : BirthsAscend (one_link_fewer u b (node_at t b)) = fewer_ascends u b (node_at t b) (ascend_with t d (Dir (without_entry es name) n) births) in
      search (either t.segments, same, ok t.segments, done, segs)

  removed_ordered : (p : Place) → Ordered t.segments (dir_removed t p)
  removed_ordered Root = same reply.Inval
  removed_ordered (Nowhere r) = same r
  removed_ordered (Free d es n name) = same reply.NoEnt
  removed_ordered (Taken d es n name b) =
      let u = with_node t d (Dir (without_entry es name) n) in
      let segs : (without_node u b).segments ≡ t.segments = refl in
      let done : BirthsAscend (without_node u b) = ascend_without u b (ascend_with t d (Dir (without_entry es name) n) births) in
      search (either t.segments, same, ok t.segments, done, segs)

  onto_ordered : (from : ℕ) (name : List ℕ) (b to : ℕ) (new : List ℕ) (old : ℕ) → Ordered t.segments (moved_onto t from name b to new old)
  onto_ordered from name b to new old =
      let u = moved t from name to new b in
      let segs : (one_link_fewer u old (node_at t old)).segments ≡ t.segments = fewer_segments u old (node_at t old) ∙ moved_segments t from name to new b in
      let done : BirthsAscend (one_link_fewer u old (node_at t old)) = fewer_ascends u old (node_at t old) (moved_ascends t from name to new b births) in
      search (either t.segments, same, ok t.segments, done, segs)

  to_ordered : (from : ℕ) (name : List ℕ) (b to : ℕ) (es : Entries) (n : ℕ) (new : List ℕ) → Ordered t.segments (moved_to t from name b to es n new)
  to_ordered from name b to es n new =
      let segs : (moved t from name to new b).segments ≡ t.segments = moved_segments t from name to new b in
      let done : BirthsAscend (moved t from name to new b) = moved_ascends t from name to new b births in
      let segs_too : (moved (room_made t to es n) from name to new b).segments ≡ t.segments = moved_segments (room_made t to es n) from name to new b in
      let roomy : BirthsAscend (moved (room_made t to es n) from name to new b) = moved_ascends (room_made t to es n) from name to new b (ascend_with t to (Dir es (grown es n)) births) in
      search (either t.segments, same, ok t.segments, done, roomy, segs, segs_too)

  renamed_to_ordered : (from : ℕ) (name : List ℕ) (b : ℕ) (path : List (List ℕ)) (p : Place) → Ordered t.segments (renamed_to t from name b path p)
  renamed_to_ordered from name b path Root = same reply.Inval
  renamed_to_ordered from name b path (Nowhere r) = same r
  renamed_to_ordered from name b path (Taken to es n new old) = search (either t.segments, same, onto_ordered)
  renamed_to_ordered from name b path (Free to es n new) = search (either t.segments, same, to_ordered)

  renamed_from_ordered : (p : Place) (to : List (List ℕ)) → Ordered t.segments (renamed_from t p to)
  renamed_from_ordered Root to = same reply.Inval
  renamed_from_ordered (Nowhere r) to = same r
  renamed_from_ordered (Free d es n name) to = same reply.NoEnt
  renamed_from_ordered (Taken d es n name b) to = renamed_to_ordered d name b to (place t to)

  renamed_ordered : (path to : List (List ℕ)) → Ordered t.segments (renamed t path to)
  renamed_ordered [] to = same reply.Inval
  renamed_ordered (n ∷ ns) [] = same reply.Inval
  renamed_ordered (n ∷ ns) (m ∷ ms) = renamed_from_ordered (place t (n ∷ ns)) (m ∷ ms)

  module _ (next : ℕ → List Cell → ℕ → ℕ → Applied) (each : (b : ℕ) (cells : List Cell) (links when : ℕ) → Ordered t.segments (next b cells links when)) where
    if_file_ordered : (b : ℕ) (o : Option Node) → Ordered t.segments (if_file t next b o)
    if_file_ordered b (Some (File cells links when)) = each b cells links when
    if_file_ordered b (Some (Dir es n)) = same reply.IsDir
    if_file_ordered b (Some (Link target links)) = same reply.Inval
    if_file_ordered b None = same reply.NoEnt

    file_ordered : (p : Place) → Ordered t.segments (at_file t p next)
    file_ordered Root = if_file_ordered 0 (node_at t 0)
    file_ordered (Taken d es n name b) = if_file_ordered b (node_at t b)
    file_ordered (Free d es n name) = same reply.NoEnt
    file_ordered (Nowhere r) = same r

  written_ordered : (m b : ℕ) (cells : List Cell) (links when off len : ℕ) (put : List Cell → List Cell) → Ordered t.segments (written t m b cells links when off len put)
  written_ordered m b cells links when off len put =
      let segs : (with_node t b (File (put cells) links when)).segments ≡ t.segments = refl in
      let done : BirthsAscend (with_node t b (File (put cells) links when)) = ascend_with t b (File (put cells) links when) births in
      search (either t.segments, same, ok t.segments, done, segs)

  truncated_ordered : (b : ℕ) (cells : List Cell) (links when len : ℕ) → Ordered t.segments (truncated t b cells links when len)
  truncated_ordered b cells links when len =
      let segs : (with_node t b (File (take len cells) links when)).segments ≡ t.segments = refl in
      let done : BirthsAscend (with_node t b (File (take len cells) links when)) = ascend_with t b (File (take len cells) links when) births in
      search (either t.segments, same, ok t.segments, done, segs)

  looked_ordered : (o : Op) (b when m : ℕ) → is_look o ≡ true → Ordered t.segments (apply t o b when m)
  looked_ordered o b when m h = record { births = subst BirthsAscend (sym (looks_leave t o b when m h)) births; segments = ap (λ u. u.segments) (looks_leave t o b when m h) }

  apply_ordered : (o : Op) (b when m : ℕ) → Ordered t.segments (apply t o b when m)
  apply_ordered (op.Create path) b when m = made_ordered b (File [] 1 0) (place t path)
  apply_ordered (op.Mkdir path) b when m = made_ordered b (Dir [] 0) (place t path)
  apply_ordered (op.Symlink path target) b when m = made_ordered b (Link target 1) (place t path)
  apply_ordered (op.Link path to) b when m = link_ordered (place t path) (place t to)
  apply_ordered (op.Unlink path) b when m = unlinked_ordered (place t path)
  apply_ordered (op.Rmdir path) b when m = removed_ordered (place t path)
  apply_ordered (op.Rename path to) b when m = renamed_ordered path to
  apply_ordered (op.Write path off bytes) b when m = file_ordered _ (λ b cells links old. written_ordered m b cells links when off (length bytes) (λ all. overwritten all off (map Byte bytes))) (place t path)
  apply_ordered (op.Fill path off len byte) b when m = file_ordered _ (λ b cells links old. written_ordered m b cells links when off len (λ all. overwritten all off (replicate len (Byte byte)))) (place t path)
  apply_ordered (op.Truncate path len) b when m = file_ordered _ (λ b cells links old. truncated_ordered b cells links when len) (place t path)
  apply_ordered (op.Read path off len) b when m = looked_ordered (op.Read path off len) b when m refl
  apply_ordered (op.Stat path) b when m = looked_ordered (op.Stat path) b when m refl
  apply_ordered (op.List path) b when m = looked_ordered (op.List path) b when m refl
  apply_ordered (op.Readlink path) b when m = looked_ordered (op.Readlink path) b when m refl
  apply_ordered (op.Time path) b when m = looked_ordered (op.Time path) b when m refl
  apply_ordered _ b when m = same reply.Ok

pub births_apply : (t : FileTree) (o : Op) (b when m : ℕ) → BirthsAscend t → BirthsAscend (apply t o b when m).tree
births_apply t o b when m births = (apply_ordered t births o b when m).births

pub segments_apply : (t : FileTree) (o : Op) (b when m : ℕ) → BirthsAscend t → (apply t o b when m).tree.segments ≡ t.segments
segments_apply t o b when m births = (apply_ordered t births o b when m).segments

shown_ascends : (t : FileTree) (o : Option (ℕ × (List Cell × (ℕ × ℕ)))) (off : ℕ) (bytes : List ℕ) → BirthsAscend t → BirthsAscend (with_shown t o off bytes)
shown_ascends t None off bytes births = births
shown_ascends t (Some f) off bytes births = ascend_with t f.0 (File (overwritten f.1.0 off (map Byte bytes)) f.1.1.0 f.1.1.1) births

read_ascends : (t : FileTree) (o : Op) (r : Reply) → BirthsAscend t → BirthsAscend (after_read t o r)
read_ascends t (op.Read path off len) (reply.Shown bytes) births = shown_ascends t (file_at t (place t path)) off bytes births
read_ascends t (op.Read path off len) _ births = births
read_ascends t _ r births = births

step_births : (t : FileTree) (s : Step) (b when m : ℕ) → BirthsAscend t → BirthsAscend (perform_step t s b when m).tree
step_births t (Goes o) b when m births = births_apply t o b when m births
step_births t (Stops r) b when m births = births

pub births_perform : (t : FileTree) (o : Op) (b when m : ℕ) → BirthsAscend t → BirthsAscend (perform t o b when m).tree
births_perform t o b when m births = step_births t (resolved t o).step b when m births

step_ascends : (t : FileTree) (s : Step) (r : Reply) → BirthsAscend t → BirthsAscend (after_step t s r)
step_ascends t (Goes o) r births = read_ascends t o r births
step_ascends t (Stops q) r births = births

doubt_ascends : (t : FileTree) (o : Option (ℕ × (List Cell × (ℕ × ℕ)))) (from count : ℕ) → BirthsAscend t → BirthsAscend (doubted_file t o from count)
doubt_ascends t None from count births = births
doubt_ascends t (Some f) from count births = ascend_with t f.0 (File (doubted_cells f.1.0 from count) f.1.1.0 f.1.1.1) births

doubted_ascends : (t : FileTree) (runs : List CellRun) → BirthsAscend t → BirthsAscend (doubted t runs)
doubted_ascends t [] births = births
doubted_ascends t (run ∷ runs) births = doubted_ascends (doubted_file t (file_of run.birth (node_at t run.birth)) run.from run.count) runs (doubt_ascends t (file_of run.birth (node_at t run.birth)) run.from run.count births)

pub births_after : (t : FileTree) (s : Settled) → BirthsAscend t → BirthsAscend (after t s)
births_after t (InDoubt runs) births = doubted_ascends t runs births
births_after t (Stays e) births = go (leaves_tree e.op e.reply) (is_answer t e)
  where
    go : (l a : Bool) → BirthsAscend (cond l t (cond a (after_step (applied t e).tree (resolved t e.op).step e.reply) t))
    go true a = births
    go false true = step_ascends (applied t e).tree (resolved t e.op).step e.reply (births_perform t e.op e.number.0 e.when (told_blocks t e.reply) births)
    go false false = births

pub births_after_all : (t : FileTree) (list : List Settled) → BirthsAscend t → BirthsAscend (after_all t list)
births_after_all t [] births = births
births_after_all t (s ∷ list) births = births_after_all (after t s) list (births_after t s births)

-- ---- the number of segments never changes
shown_segments : (t : FileTree) (o : Option (ℕ × (List Cell × (ℕ × ℕ)))) (off : ℕ) (bytes : List ℕ) → (with_shown t o off bytes).segments ≡ t.segments
shown_segments t None off bytes = refl
shown_segments t (Some f) off bytes = refl

read_segments : (t : FileTree) (o : Op) (r : Reply) → (after_read t o r).segments ≡ t.segments
read_segments t (op.Read path off len) (reply.Shown bytes) = shown_segments t (file_at t (place t path)) off bytes
read_segments t (op.Read path off len) _ = refl
read_segments t _ r = refl

step_segments : (t : FileTree) (s : Step) (b when m : ℕ) → BirthsAscend t → (perform_step t s b when m).tree.segments ≡ t.segments
step_segments t (Goes o) b when m births = segments_apply t o b when m births
step_segments t (Stops r) b when m births = refl

pub segments_perform : (t : FileTree) (o : Op) (b when m : ℕ) → BirthsAscend t → (perform t o b when m).tree.segments ≡ t.segments
segments_perform t o b when m births = step_segments t (resolved t o).step b when m births

read_step_segments : (t : FileTree) (s : Step) (r : Reply) → (after_step t s r).segments ≡ t.segments
read_step_segments t (Goes o) r = read_segments t o r
read_step_segments t (Stops q) r = refl

doubt_segments : (t : FileTree) (o : Option (ℕ × (List Cell × (ℕ × ℕ)))) (from count : ℕ) → (doubted_file t o from count).segments ≡ t.segments
doubt_segments t None from count = refl
doubt_segments t (Some f) from count = refl

doubted_segments : (t : FileTree) (runs : List CellRun) → (doubted t runs).segments ≡ t.segments
doubted_segments t [] = refl
doubted_segments t (run ∷ runs) = doubted_segments (doubted_file t (file_of run.birth (node_at t run.birth)) run.from run.count) runs ∙ doubt_segments t (file_of run.birth (node_at t run.birth)) run.from run.count

pub segments_after : (t : FileTree) (s : Settled) → BirthsAscend t → (after t s).segments ≡ t.segments
segments_after t (InDoubt runs) births = doubted_segments t runs
segments_after t (Stays e) births = go (leaves_tree e.op e.reply) (is_answer t e)
  where
    go : (l a : Bool) → (cond l t (cond a (after_step (applied t e).tree (resolved t e.op).step e.reply) t)).segments ≡ t.segments
    go true a = refl
    go false true = read_step_segments (applied t e).tree (resolved t e.op).step e.reply ∙ segments_perform t e.op e.number.0 e.when (told_blocks t e.reply) births
    go false false = refl
