-- An operation makes no file longer than its blocks reach.
use Rattle.std.proofs.Common.{ℕ, ◌≡◌, ◌≤◌, ◌+◌, ◌-◌, ◌*◌, ◌==◌, ◌&&◌, Bool, true, false, not, Option, Some, None, List, [], ◌∷◌, ◌++◌, map, replicate, take, drop, length, max, min, nat_lt, nat_le, if◌then◌else◌, refl, sym, ◌∙◌, ap, ap₂, subst, arith}
use Rattle.std.proofs.lemmas.Bool.Decides.{nat_tests}
use Rattle.std.proofs.lemmas.List.{length-append, length-take, length-take-le, length-drop, length-map, length-replicate}
use Rattle.frang_base.specs.declared.op.Op.{Op}
use Rattle.frang_base.specs.declared.op.Op.TheVariants as op
use Rattle.frang_base.specs.declared.reply.Reply.TheVariants as reply
use Rattle.tree_definitions.specs.declared.cells.Cell.{Cell}
use Rattle.tree_definitions.specs.declared.cells.Cell.TheVariants as cell
use Rattle.tree_definitions.specs.declared.node.Node.{Node}
use Rattle.tree_definitions.specs.declared.node.Node.TheVariants.{Dir, File, Link}
use Rattle.tree_definitions.specs.Entries.{Entries, with_entry, without_entry}
use Rattle.tree_definitions.specs.Tree.{FileTree, node_at, with_node, without_node, count_of, file_blocks, small_blocks_of, large_blocks_of, inodes_full, larges_full, entries_full, grown, lacks_block}
use Rattle.tree_definitions.specs.Place.{Place, Root, Taken, Free, Nowhere, place}
use Rattle.tree_definitions.specs.Apply.{Applied, says, named, made, is_dir, has_entries, links_of, one_link_more, one_link_fewer, linked_to, linked, unlinked, dir_removed, name_gone, name_set, moved, room_made, moved_onto, moved_to, goes_through, renamed_to, renamed_from, renamed, if_file, at_file, overwritten, written, truncated, apply}
use Rattle.tree_definitions.specs.WellFormed.{BirthsAscend}
use Rattle.tree_laws.specs.Refusals.{is_look}
use Rattle.tree_definitions.proofs.Births.{each_but}
use Rattle.tree_laws.proofs.Nodes.{with_same, with_other, without_same, without_other, ascend_with}
use Rattle.tree_laws.proofs.Refusals.{looks_leave}
use Rattle.disk_definitions.specs.ChangeLaws.{FilesFit}
use Rattle.plan_laws.specs.FilesPlanned.{FilesStayFit}

-- cells with others in their place are as many as those, or reach as far as the others
overwritten_long : (cells new : List Cell) (off : ℕ) → off ≤ length cells → length (overwritten cells off new) ≡ max (length cells) (off + length new)
overwritten_long cells new off inside =
    let first = take off cells ++ new in
    let long : length first ≡ off + length new = length-append (take off cells) new ∙ ap (λ k. k + length new) (length-take-le off cells inside) in
    length-append first (drop (off + length new) cells) ∙ ap₂ (λ a b. a + b) long (length-drop (off + length new) cells) ∙ most (length cells) (off + length new)
  where
    most : (a b : ℕ) → b + (a - b) ≡ max a b
    most a b = omega arith

-- a node that is no longer than its blocks reach
abbrev IsFit : Node → Type 0
IsFit (Dir entries blocks) = Unit {0}
IsFit (File cells links when) = length cells ≤ 1114112
IsFit (Link target links) = Unit {0}

-- all of them, and births in order
record AreFit (t : FileTree) : Type 0 where
  births : BirthsAscend t
  fit : FilesFit (node_at t)

file_fit : (x : Node) (cells : List Cell) (links when : ℕ) → IsFit x → Some x ≡ Some (File cells links when) → length cells ≤ 1114112
file_fit x cells links when f e = let z : x ≡ File cells links when = cc in subst IsFit z f

fit_at : (t : FileTree) → AreFit t → (b : ℕ) (x : Node) → node_at t b ≡ Some x → IsFit x
fit_at t are b (Dir entries blocks) e = tt
fit_at t are b (File cells links when) e = are.fit b links when cells e
fit_at t are b (Link target links) e = tt

fit_with : (t : FileTree) (d : ℕ) (x : Node) → AreFit t → IsFit x → AreFit (with_node t d x)
fit_with t d x are f = record {
  births = ascend_with t d x are.births;
  fit = λ b links when cells. each_but (λ c. node_at (with_node t d x) c ≡ Some (File cells links when) → length cells ≤ 1114112) d
      (λ e. file_fit x cells links when f (sym (with_same t d x) ∙ e)) (λ c far e. are.fit c links when cells (sym (with_other t d x c far) ∙ e)) b;
}

fit_without : (t : FileTree) (d : ℕ) → AreFit t → FilesFit (node_at (without_node t d))
fit_without t d are b links when cells = each_but (λ c. node_at (without_node t d) c ≡ Some (File cells links when) → length cells ≤ 1114112) d
    (λ e. absurd (let z : None ≡ Some (File cells links when) = sym (without_same t d are.births) ∙ e in cc)) (λ c far e. are.fit c links when cells (sym (without_other t d c far) ∙ e)) b

-- whichever of two
choose : (c : Bool) (a b : Applied) → FilesFit (node_at a.tree) → FilesFit (node_at b.tree) → FilesFit (node_at (if c then a else b).tree)
choose true a b f g = f
choose false a b f g = g

module _ (t : FileTree) (are : AreFit t) where
  stays : FilesFit (node_at t)
  stays = are.fit

  made_fit : (birth : ℕ) (x : Node) (p : Place) → IsFit x → FilesFit (node_at (made t birth x p).tree)
  made_fit birth x Root f = stays
  made_fit birth x (Nowhere r) f = stays
  made_fit birth x (Taken d es k name b) f = stays
  made_fit birth x (Free d es k name) f =
      let result = says (named (with_node t birth x) d es k name birth) reply.Ok in
      choose (entries_full es) (says t reply.DirFull) (if inodes_full t then says t reply.NoInode else (if lacks_block t es k then says t reply.NoDirBlock else result)) stays
      (choose (inodes_full t) (says t reply.NoInode) (if lacks_block t es k then says t reply.NoDirBlock else result) stays
      (choose (lacks_block t es k) (says t reply.NoDirBlock) result stays (fit_with (with_node t birth x) d (Dir (with_entry es name birth) (grown es k)) (fit_with t birth x are f) tt).fit))

  more_fit : (b : ℕ) (o : Option Node) → node_at t b ≡ o → AreFit (one_link_more t b o)
  more_fit b None e = are
  more_fit b (Some (Dir es k)) e = are
  more_fit b (Some (File cells links when)) e = fit_with t b (File cells (links + 1) when) are (are.fit b links when cells e)
  more_fit b (Some (Link target links)) e = fit_with t b (Link target (links + 1)) are tt

  linked_to_fit : (b : ℕ) (p : Place) → FilesFit (node_at (linked_to t b p).tree)
  linked_to_fit b Root = stays
  linked_to_fit b (Nowhere r) = stays
  linked_to_fit b (Taken d es k name c) = stays
  linked_to_fit b (Free d es k name) =
      let result = says (named (one_link_more t b (node_at t b)) d es k name b) reply.Ok in
      choose (nat_le 1000 (links_of (node_at t b))) (says t reply.MLink) (if entries_full es then says t reply.DirFull else (if lacks_block t es k then says t reply.NoDirBlock else result)) stays
      (choose (entries_full es) (says t reply.DirFull) (if lacks_block t es k then says t reply.NoDirBlock else result) stays
      (choose (lacks_block t es k) (says t reply.NoDirBlock) result stays (fit_with (one_link_more t b (node_at t b)) d (Dir (with_entry es name b) (grown es k)) (more_fit b (node_at t b) refl) tt).fit))

  linked_fit : (p q : Place) → FilesFit (node_at (linked t p q).tree)
  linked_fit Root q = stays
  linked_fit (Nowhere r) q = stays
  linked_fit (Free d es k name) q = stays
  linked_fit (Taken d es k name b) q = choose (is_dir (node_at t b)) (says t reply.IsDir) (linked_to t b q) stays (linked_to_fit b q)

  fewer_fit : (b : ℕ) (o : Option Node) → ((x : Node) → o ≡ Some x → IsFit x) → FilesFit (node_at (one_link_fewer t b o))
  fewer_fit b None f = stays
  fewer_fit b (Some (Dir es k)) f = fit_without t b are
  fewer_fit b (Some (File cells links when)) f = go (nat_lt 1 links)
    where
      go : (c : Bool) → FilesFit (node_at (if c then with_node t b (File cells (links - 1) when) else without_node t b))
      go true = (fit_with t b (File cells (links - 1) when) are (f (File cells links when) refl)).fit
      go false = fit_without t b are
  fewer_fit b (Some (Link target links)) f = go (nat_lt 1 links)
    where
      go : (c : Bool) → FilesFit (node_at (if c then with_node t b (Link target (links - 1)) else without_node t b))
      go true = (fit_with t b (Link target (links - 1)) are tt).fit
      go false = fit_without t b are

  gone_fit : (d : ℕ) (name : List ℕ) (o : Option Node) → AreFit (name_gone t d name o)
  gone_fit d name None = are
  gone_fit d name (Some (Dir es k)) = fit_with t d (Dir (without_entry es name) k) are tt
  gone_fit d name (Some (File cells links when)) = are
  gone_fit d name (Some (Link target links)) = are

  set_fit : (d : ℕ) (name : List ℕ) (b : ℕ) (o : Option Node) → AreFit (name_set t d name b o)
  set_fit d name b None = are
  set_fit d name b (Some (Dir es k)) = fit_with t d (Dir (with_entry es name b) k) are tt
  set_fit d name b (Some (File cells links when)) = are
  set_fit d name b (Some (Link target links)) = are

module _ (t : FileTree) (are : AreFit t) where
  moved_fit : (from : ℕ) (name : List ℕ) (to : ℕ) (new : List ℕ) (b : ℕ) → AreFit (moved t from name to new b)
  moved_fit from name to new b = let gone = name_gone t from name (node_at t from) in set_fit gone (gone_fit t are from name (node_at t from)) to new b (node_at gone to)

  unlinked_fit : (p : Place) → FilesFit (node_at (unlinked t p).tree)
  unlinked_fit Root = are.fit
  unlinked_fit (Nowhere r) = are.fit
  unlinked_fit (Free d es k name) = are.fit
  unlinked_fit (Taken d es k name b) = choose (is_dir (node_at t b)) (says t reply.IsDir) (says (one_link_fewer (with_node t d (Dir (without_entry es name) k)) b (node_at t b)) reply.Ok) are.fit
      (fewer_fit (with_node t d (Dir (without_entry es name) k)) (fit_with t d (Dir (without_entry es name) k) are tt) b (node_at t b) (fit_at t are b))

  removed_fit : (p : Place) → FilesFit (node_at (dir_removed t p).tree)
  removed_fit Root = are.fit
  removed_fit (Nowhere r) = are.fit
  removed_fit (Free d es k name) = are.fit
  removed_fit (Taken d es k name b) =
      let result = says (without_node (with_node t d (Dir (without_entry es name) k)) b) reply.Ok in
      choose (not (is_dir (node_at t b))) (says t reply.NotDir) (if has_entries (node_at t b) then says t reply.NotEmpty else result) are.fit
      (choose (has_entries (node_at t b)) (says t reply.NotEmpty) result are.fit (fit_without (with_node t d (Dir (without_entry es name) k)) b (fit_with t d (Dir (without_entry es name) k) are tt)))

  onto_fit : (from : ℕ) (name : List ℕ) (b to : ℕ) (new : List ℕ) (old : ℕ) → FilesFit (node_at (moved_onto t from name b to new old).tree)
  onto_fit from name b to new old =
      let result = says (one_link_fewer (moved t from name to new b) old (node_at t old)) reply.Ok in
      let rest = if has_entries (node_at t old) then says t reply.NotEmpty else result in
      let third = if is_dir (node_at t old) && not (is_dir (node_at t b)) then says t reply.IsDir else rest in
      choose (old == b) (says t reply.Ok) (if is_dir (node_at t b) && not (is_dir (node_at t old)) then says t reply.NotDir else third) are.fit
      (choose (is_dir (node_at t b) && not (is_dir (node_at t old))) (says t reply.NotDir) third are.fit
      (choose (is_dir (node_at t old) && not (is_dir (node_at t b))) (says t reply.IsDir) rest are.fit
      (choose (has_entries (node_at t old)) (says t reply.NotEmpty) result are.fit (fewer_fit (moved t from name to new b) (moved_fit from name to new b) old (node_at t old) (fit_at t are old)))))

  to_fit : (from : ℕ) (name : List ℕ) (b to : ℕ) (es : Entries) (k : ℕ) (new : List ℕ) → FilesFit (node_at (moved_to t from name b to es k new).tree)
  to_fit from name b to es k new =
      let within = says (moved t from name to new b) reply.Ok in
      let result = says (moved (room_made t to es k) from name to new b) reply.Ok in
      choose (from == to) within (if entries_full es then says t reply.DirFull else (if lacks_block t es k then says t reply.NoDirBlock else result)) (moved_fit from name to new b).fit
      (choose (entries_full es) (says t reply.DirFull) (if lacks_block t es k then says t reply.NoDirBlock else result) are.fit
      (choose (lacks_block t es k) (says t reply.NoDirBlock) result are.fit (moved_room from name to new b)))
    where
      moved_room : (from : ℕ) (name : List ℕ) (to : ℕ) (new : List ℕ) (b : ℕ) → FilesFit (node_at (moved (room_made t to es k) from name to new b))
      moved_room from name to new b =
          let room = room_made t to es k in
          let gone = name_gone room from name (node_at room from) in
          (set_fit gone (gone_fit room (fit_with t to (Dir es (grown es k)) are tt) from name (node_at room from)) to new b (node_at gone to)).fit

  renamed_to_fit : (from : ℕ) (name : List ℕ) (b : ℕ) (path : List (List ℕ)) (p : Place) → FilesFit (node_at (renamed_to t from name b path p).tree)
  renamed_to_fit from name b path Root = are.fit
  renamed_to_fit from name b path (Nowhere r) = are.fit
  renamed_to_fit from name b path (Taken to es k new old) = choose (goes_through t path b) (says t reply.Inval) (moved_onto t from name b to new old) are.fit (onto_fit from name b to new old)
  renamed_to_fit from name b path (Free to es k new) = choose (goes_through t path b) (says t reply.Inval) (moved_to t from name b to es k new) are.fit (to_fit from name b to es k new)

  renamed_from_fit : (p : Place) (to : List (List ℕ)) → FilesFit (node_at (renamed_from t p to).tree)
  renamed_from_fit Root to = are.fit
  renamed_from_fit (Nowhere r) to = are.fit
  renamed_from_fit (Free d es k name) to = are.fit
  renamed_from_fit (Taken d es k name b) to = renamed_to_fit d name b to (place t to)

  renamed_fit : (path to : List (List ℕ)) → FilesFit (node_at (renamed t path to).tree)
  renamed_fit [] to = are.fit
  renamed_fit (name ∷ names) [] = are.fit
  renamed_fit (name ∷ names) (new ∷ news) = renamed_from_fit (place t (name ∷ names)) (new ∷ news)

  -- an operation on a file
  module _ (next : ℕ → List Cell → ℕ → ℕ → Applied) (each : (b : ℕ) (cells : List Cell) (links when : ℕ) → node_at t b ≡ Some (File cells links when) → FilesFit (node_at (next b cells links when).tree)) where
    one_file : (b : ℕ) (o : Option Node) → node_at t b ≡ o → FilesFit (node_at (if_file t next b o).tree)
    one_file b None e = are.fit
    one_file b (Some (Dir es k)) e = are.fit
    one_file b (Some (Link target links)) e = are.fit
    one_file b (Some (File cells links when)) e = each b cells links when e

    file_case : (p : Place) → FilesFit (node_at (at_file t p next).tree)
    file_case Root = one_file 0 (node_at t 0) refl
    file_case (Taken d es k name b) = one_file b (node_at t b) refl
    file_case (Free d es k name) = are.fit
    file_case (Nowhere r) = are.fit

  truncated_fit : (when len b : ℕ) (cells : List Cell) (links old : ℕ) → node_at t b ≡ Some (File cells links old) → FilesFit (node_at (truncated t b cells links when len).tree)
  truncated_fit when len b cells links old e = choose (nat_lt (length cells) len) (says t reply.BadOffset) (says (with_node t b (File (take len cells) links when)) reply.Ok) are.fit
      (fit_with t b (File (take len cells) links when) are (subst (λ z. z ≤ 1114112) (sym (length-take len cells)) (least len (length cells) (are.fit b links old cells e)))).fit
    where
      least : (a c : ℕ) → c ≤ 1114112 → min a c ≤ 1114112
      least a c l = omega arith

  written_fit : (m when off len : ℕ) (new : List Cell) → length new ≡ len → (b : ℕ) (cells : List Cell) (links before : ℕ) → node_at t b ≡ Some (File cells links before) →
      FilesFit (node_at (written t m b cells links when off len (λ all. overwritten all off new)).tree)
  written_fit m when off len new long b cells links before e = by_start (nat_lt (length cells) off) refl (nat_lt 1114112 (off + len)) refl
    where
      most : (a c : ℕ) → a ≤ 1114112 → c ≤ 1114112 → max a c ≤ 1114112
      most a c l m = omega arith

      done : off ≤ length cells → off + len ≤ 1114112 → FilesFit (node_at (with_node t b (File (overwritten cells off new) links when)))
      done l k = (fit_with t b (File (overwritten cells off new) links when) are (subst (λ z. z ≤ 1114112) (sym (overwritten_long cells new off l ∙ ap (λ z. max (length cells) (off + z)) long)) (most (length cells) (off + len) (are.fit b links before cells e) k))).fit

      by_start : (c : Bool) → nat_lt (length cells) off ≡ c → (d : Bool) → nat_lt 1114112 (off + len) ≡ d →
          FilesFit (node_at (if c then says t reply.BadOffset else (if d then says t reply.TooBig
          else (if nat_lt (large_blocks_of (length cells)) (large_blocks_of (max (length cells) (off + len))) && larges_full t then says t reply.NoLarge
          else (if nat_lt (1024 * t.segments - m) (count_of file_blocks t + (small_blocks_of (max (length cells) (off + len)) - small_blocks_of (length cells))) then says t (reply.NoBlock m)
          else says (with_node t b (File (overwritten cells off new) links when)) reply.Ok)))).tree)
      by_start true i d j = are.fit
      by_start false i true j = are.fit
      by_start false i false j =
          let size = max (length cells) (off + len) in
          let last = says (with_node t b (File (overwritten cells off new) links when)) reply.Ok in
          choose (nat_lt (large_blocks_of (length cells)) (large_blocks_of size) && larges_full t) (says t reply.NoLarge) (if nat_lt (1024 * t.segments - m) (count_of file_blocks t + (small_blocks_of size - small_blocks_of (length cells))) then says t (reply.NoBlock m) else last) are.fit
          (choose (nat_lt (1024 * t.segments - m) (count_of file_blocks t + (small_blocks_of size - small_blocks_of (length cells)))) (says t (reply.NoBlock m)) last are.fit (done (grind (arith, nat_tests)) (grind (arith, nat_tests))))

  look_fit : (o : Op) (birth when m : ℕ) → is_look o ≡ true → FilesFit (node_at (apply t o birth when m).tree)
  look_fit o birth when m e = subst (λ z. FilesFit (node_at z)) (sym (looks_leave t o birth when m e)) are.fit

none_long : 0 ≤ 1114112
none_long = omega arith

pub files_stay_fit : FilesStayFit
files_stay_fit t o birth when m well fit = by_op o
  where
    are : AreFit t
    are = record { births = well.births; fit = fit }

    by_op : (o : Op) → FilesFit (node_at (apply t o birth when m).tree)
    by_op (op.Create path) = made_fit t are birth (File [] 1 0) (place t path) none_long
    by_op (op.Mkdir path) = made_fit t are birth (Dir [] 0) (place t path) tt
    by_op (op.Symlink path target) = made_fit t are birth (Link target 1) (place t path) tt
    by_op (op.Link path to) = linked_fit t are (place t path) (place t to)
    by_op (op.Unlink path) = unlinked_fit t are (place t path)
    by_op (op.Rmdir path) = removed_fit t are (place t path)
    by_op (op.Rename path to) = renamed_fit t are path to
    by_op (op.Write path off bytes) = file_case t are (λ b cells links old. written t m b cells links when off (length bytes) (λ all. overwritten all off (map cell.Byte bytes))) (written_fit t are m when off (length bytes) (map cell.Byte bytes) (length-map bytes cell.Byte)) (place t path)
    by_op (op.Fill path off len byte) = file_case t are (λ b cells links old. written t m b cells links when off len (λ all. overwritten all off (replicate len (cell.Byte byte)))) (written_fit t are m when off len (replicate len (cell.Byte byte)) (length-replicate len (cell.Byte byte))) (place t path)
    by_op (op.Truncate path len) = file_case t are (λ b cells links old. truncated t b cells links when len) (truncated_fit t are when len) (place t path)
    by_op (op.Read path off len) = look_fit t are (op.Read path off len) birth when m refl
    by_op (op.Stat path) = look_fit t are (op.Stat path) birth when m refl
    by_op (op.List path) = look_fit t are (op.List path) birth when m refl
    by_op (op.Readlink path) = look_fit t are (op.Readlink path) birth when m refl
    by_op (op.Time path) = look_fit t are (op.Time path) birth when m refl
    by_op op.Sync = fit
    by_op op.Mount = fit
    by_op op.Unmount = fit
    by_op op.Crash = fit
    by_op (op.CrashAt k) = fit
    by_op (op.CutAt k) = fit
    by_op op.Stall = fit
