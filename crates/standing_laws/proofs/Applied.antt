-- Each operation leaves each node reached.
use Rattle.std.proofs.Common.{ℕ, ◌≡◌, ◌≢◌, ◌≤◌, ◌+◌, ◌-◌, ◌*◌, ◌==◌, Bool, true, false, not, ◌&&◌, Option, Some, None, List, [], ◌∷◌, length, map, replicate, take, max, cond, nat_lt, nat_le, refl, sym, ◌∙◌, ap, subst, arith}
use Rattle.std.proofs.lemmas.Bool.{eqb-false}
use Rattle.std.specs.List.{list_any}
use Rattle.frang_base.specs.declared.op.Op.{Op}
use Rattle.frang_base.specs.declared.op.Op.TheVariants as op
use Rattle.frang_base.specs.declared.reply.Reply.{Reply}
use Rattle.frang_base.specs.declared.reply.Reply.TheVariants as reply
use Rattle.tree_definitions.specs.declared.cells.Cell.{Cell}
use Rattle.tree_definitions.specs.declared.cells.Cell.TheVariants.{Byte}
use Rattle.tree_definitions.specs.declared.node.Node.{Node}
use Rattle.tree_definitions.specs.declared.node.Node.TheVariants.{Dir, File, Link}
use Rattle.tree_definitions.specs.Entries.{Entries, entry_at, without_entry}
use Rattle.tree_definitions.specs.Tree.{FileTree, node_at, with_node, without_node, large_blocks_of, small_blocks_of, larges_full, count_of, file_blocks, inodes_full, lacks_block, entries_full}
use Rattle.tree_definitions.specs.Place.{Place, Root, Taken, Free, Nowhere, place, place_from, walked_from, walked}
use Rattle.tree_definitions.specs.Apply.{Applied, says, made, is_dir, links_of, has_entries, one_link_fewer, linked_to, linked, unlinked, dir_removed, moved, room_made, moved_onto, moved_to, goes_through, renamed_to, renamed_from, renamed, if_file, at_file, overwritten, written, truncated, apply}
use Rattle.tree_definitions.specs.WellFormed.{IsWellFormed, IsNew}
use Rattle.tree_laws.proofs.Places.{Stands, place_stands}
use Rattle.tree_laws.proofs.Keeping.{names_nodes}
use Rattle.tree_laws.proofs.Refusals.{looks_leave}
use Rattle.tree_laws.proofs.StepsLaws.{apply_keeps}
use Rattle.disk_definitions.specs.Naming.{find_in}
use Rattle.disk_definitions.specs.Standing.{IsReached}
use Rattle.standing_laws.proofs.Walks.{finds, root_reached, named_by_dir}
use Rattle.standing_laws.proofs.Reaching.{reached_links}
use Rattle.standing_laws.proofs.Changes.{cells_reached, fewer_else, fewer_here, fewer_links, no_entries}
use Rattle.standing_laws.proofs.Adding.{made_reached, linked_reached}
use Rattle.standing_laws.proofs.Removing.{gone_reached}
use Rattle.standing_laws.proofs.Homeward.{IsClear, first_found, home_from}
use Rattle.standing_laws.proofs.Moving.{IsMoved, is_moved, room_moved, rename_reached}

-- where what is left is well formed, each node of it is reached
abbrev pub Keeps : Applied → Type 0
Keeps a = IsWellFormed a.tree → IsReached (node_at a.tree)

if_keeps : (b : Bool) (x y : Applied) → (b ≡ true → Keeps x) → (b ≡ false → Keeps y) → Keeps (cond b x y)
if_keeps true x y onyes onno = onyes refl
if_keeps false x y onyes onno = onno refl

plain_empty : (o : Option Node) → is_dir o ≡ false → has_entries o ≡ false
plain_empty (Some (Dir es n)) d = absurd (cc)
plain_empty (Some (File cells links when)) d = refl
plain_empty (Some (Link target links)) d = refl
plain_empty None d = refl

dir_gone : (u : FileTree) (b : ℕ) (o : Option Node) → not (is_dir o) ≡ false → one_link_fewer u b o ≡ without_node u b
dir_gone u b (Some (Dir es n)) d = refl
dir_gone u b (Some (File cells links when)) d = absurd (cc)
dir_gone u b (Some (Link target links)) d = absurd (cc)
dir_gone u b None d = absurd (cc)

-- a test of two, of which the first passes and both don't
second_fails : (x y : Bool) → x && y ≡ false → x ≡ true → y ≡ false
second_fails true y h e = h
second_fails false y h e = absurd (cc)

module _ (t : FileTree) (w : IsWellFormed t) (reached : IsReached (node_at t)) where
  says_keeps : (r : Reply) → Keeps (says t r)
  says_keeps r u = reached

  made_keeps : (birth : ℕ) (node : Node) → IsNew t birth → 1 ≤ links_of (Some node) → (p : Place) → Stands t p → Keeps (made t birth node p)
  made_keeps birth node new link Root s = says_keeps reply.Exist
  made_keeps birth node new link (Nowhere r) s = says_keeps r
  made_keeps birth node new link (Taken dir es n name old) s = says_keeps reply.Exist
  made_keeps birth node new link (Free dir es n name) s =
      if_keeps (entries_full es) (says t reply.DirFull) _ (λ e. says_keeps reply.DirFull) (λ e.
      if_keeps (inodes_full t) (says t reply.NoInode) _ (λ e. says_keeps reply.NoInode) (λ e.
      if_keeps (lacks_block t es n) (says t reply.NoDirBlock) _ (λ e. says_keeps reply.NoDirBlock) (λ e.
      made_reached t w reached dir es n s.0 name s.1 birth node new link)))

  linked_to_keeps : (b : ℕ) → is_dir (node_at t b) ≡ false → (p : Place) → Stands t p → Keeps (linked_to t b p)
  linked_to_keeps b plain Root s = says_keeps reply.Exist
  linked_to_keeps b plain (Nowhere r) s = says_keeps r
  linked_to_keeps b plain (Taken dir es n name old) s = says_keeps reply.Exist
  linked_to_keeps b plain (Free dir es n name) s =
      if_keeps (nat_le 1000 (links_of (node_at t b))) (says t reply.MLink) _ (λ e. says_keeps reply.MLink) (λ e.
      if_keeps (entries_full es) (says t reply.DirFull) _ (λ e. says_keeps reply.DirFull) (λ e.
      if_keeps (lacks_block t es n) (says t reply.NoDirBlock) _ (λ e. says_keeps reply.NoDirBlock) (λ e.
      linked_reached t w reached dir es n s.0 name s.1 b plain)))

  linked_keeps : (p to : Place) → Stands t to → Keeps (linked t p to)
  linked_keeps Root to s = says_keeps reply.IsDir
  linked_keeps (Nowhere r) to s = says_keeps r
  linked_keeps (Free dir es n name) to s = says_keeps reply.NoEnt
  linked_keeps (Taken dir es n name b) to s = if_keeps (is_dir (node_at t b)) (says t reply.IsDir) _ (λ e. says_keeps reply.IsDir) (λ e. linked_to_keeps b e to s)

  unlinked_keeps : (p : Place) → Stands t p → Keeps (unlinked t p)
  unlinked_keeps Root s = says_keeps reply.IsDir
  unlinked_keeps (Nowhere r) s = says_keeps r
  unlinked_keeps (Free dir es n name) s = says_keeps reply.NoEnt
  unlinked_keeps (Taken dir es n name b) s = if_keeps (is_dir (node_at t b)) (says t reply.IsDir) _ (λ e. says_keeps reply.IsDir) (λ e.
      gone_reached t w reached dir es n s.0 name b s.1 (names_nodes t w dir es n name b s.0 s.1) (plain_empty (node_at t b) e))

  dir_removed_keeps : (p : Place) → Stands t p → Keeps (dir_removed t p)
  dir_removed_keeps Root s = says_keeps reply.Inval
  dir_removed_keeps (Nowhere r) s = says_keeps r
  dir_removed_keeps (Free dir es n name) s = says_keeps reply.NoEnt
  dir_removed_keeps (Taken dir es n name b) s =
      if_keeps (not (is_dir (node_at t b))) (says t reply.NotDir) _ (λ e. says_keeps reply.NotDir) (λ d.
      if_keeps (has_entries (node_at t b)) (says t reply.NotEmpty) _ (λ e. says_keeps reply.NotEmpty) (λ e.
      subst (λ u. IsWellFormed u → IsReached (node_at u)) (dir_gone (with_node t dir (Dir (without_entry es name) n)) b (node_at t b) d)
      (gone_reached t w reached dir es n s.0 name b s.1 (names_nodes t w dir es n name b s.0 s.1) e)))

  -- ---- rename
  module _ (from : ℕ) (es : Entries) (n : ℕ) (name : List ℕ) (b : ℕ) (is : node_at t from ≡ Some (Dir es n)) (at : entry_at es name ≡ Some b) (path : List (List ℕ))
      (clear : is_dir (node_at t b) ≡ true → IsClear b (walked_from t 0 path)) where
    was : finds t from name ≡ Some b
    was = ap (λ o. find_in o name) is ∙ at

    -- what leads elsewhere has another place
    elsewhere : (c v d : ℕ) (m : List ℕ) → finds t c m ≡ Some v → v ≢ b → (c ≡ from) → (m ≡ name) → ⊥
    elsewhere c v d m f far e i = far (let z : Some v ≡ Some b = sym f ∙ ap (λ c. finds t c m) e ∙ ap (finds t from) i ∙ was in cc)

    -- to a name that wasn't there
    free_keeps : (to : ℕ) (fs : Entries) (k : ℕ) (new : List ℕ) → place_from t 0 path ≡ Free to fs k new → node_at t to ≡ Some (Dir fs k) → entry_at fs new ≡ None → (u : FileTree) → IsMoved t u from name to new b → IsWellFormed u → IsReached (node_at u)
    free_keeps to fs k new walk there free u mv =
        rename_reached t u reached from name to new b was (λ c h. sym (mv.dirs c) ∙ h) mv.put (λ c d m f. mv.dirs c ∙ named_by_dir (node_at t c) m d f)
        (λ c d m f h far. mv.keeps c m far (apart c d m f) ∙ f)
        (λ d. home_from t u b to (Free to fs k new) refl (λ c v m x xs f far p. mv.keeps c m (elsewhere c v v m f far) (apart c v m f) ∙ f) path 0 walk (clear d) (root_reached (node_at u))) mv.links
      where
        apart : (c d : ℕ) (m : List ℕ) → finds t c m ≡ Some d → (c ≡ to) → (m ≡ new) → ⊥
        apart c d m f e i = let z : None ≡ Some d = sym free ∙ ap (λ o. find_in o new) (sym there) ∙ ap (finds t to) (sym i) ∙ ap (λ c. finds t c m) (sym e) ∙ f in cc

    moved_to_keeps : (to : ℕ) (fs : Entries) (k : ℕ) (new : List ℕ) → place_from t 0 path ≡ Free to fs k new → node_at t to ≡ Some (Dir fs k) → entry_at fs new ≡ None → Keeps (moved_to t from name b to fs k new)
    moved_to_keeps to fs k new walk there free =
        if_keeps (from == to) (says (moved t from name to new b) reply.Ok) _
        (λ e. free_keeps to fs k new walk there free (moved t from name to new b) (is_moved t (reached_links t w reached) w.births from es n is name to (ap is_dir there) new b)) (λ far.
        if_keeps (entries_full fs) (says t reply.DirFull) _ (λ e. says_keeps reply.DirFull) (λ e.
        if_keeps (lacks_block t fs k) (says t reply.NoDirBlock) _ (λ e. says_keeps reply.NoDirBlock) (λ e.
        free_keeps to fs k new walk there free (moved (room_made t to fs k) from name to new b) (room_moved t (reached_links t w reached) w.births from es n is name to fs k there (eqb-false from to far) new b))))

    -- onto a name that was there
    onto_keeps : (to : ℕ) (fs : Entries) (k : ℕ) (new : List ℕ) (old : ℕ) → place_from t 0 path ≡ Taken to fs k new old → node_at t to ≡ Some (Dir fs k) → entry_at fs new ≡ Some old → has_entries (node_at t old) ≡ false
        → (v : FileTree) → IsMoved t v from name to new b → IsWellFormed (one_link_fewer v old (node_at t old)) → IsReached (node_at (one_link_fewer v old (node_at t old)))
    onto_keeps to fs k new old walk there taken empty v mv =
        rename_reached t u reached from name to new b was (λ c h. sym (mv.dirs c) ∙ sym (ap is_dir (else c (not_then c h))) ∙ h) (ap (λ o. find_in o new) (else to (not_old to old new has)) ∙ mv.put)
        (λ c d m f. ap is_dir (else c (not_old c d m f)) ∙ mv.dirs c ∙ named_by_dir (node_at t c) m d f)
        (λ c d m f h far. same c d m f far (not_then d h))
        (λ d. home_from t u b to (Taken to fs k new old) refl (λ c v m x xs f far p. same c v m f (elsewhere c v v m f far) (let r = first_found t v x xs to fs k new old p in not_old v r.0 x r.1)) path 0 walk (clear d) (root_reached (node_at u)))
        (fewer_links v old (node_at t old) mv.births mv.links)
      where
        u : FileTree
        u = one_link_fewer v old (node_at t old)

        has : finds t to new ≡ Some old
        has = ap (λ o. find_in o new) there ∙ taken

        else : (c : ℕ) → c ≢ old → node_at (one_link_fewer v old (node_at t old)) c ≡ node_at v c
        else c far = fewer_else v old (node_at t old) c far

        not_old : (c d : ℕ) (m : List ℕ) → finds t c m ≡ Some d → c ≢ old
        not_old c d m f e = absurd (let z : None ≡ Some d = sym (no_entries (node_at t old) m empty) ∙ ap (λ c. finds t c m) (sym e) ∙ f in cc)

        not_then : (c : ℕ) → is_dir (node_at (one_link_fewer v old (node_at t old)) c) ≡ true → c ≢ old
        not_then c h e = absurd (let z : is_dir (node_at (one_link_fewer v old (node_at t old)) c) ≡ false = ap (λ c. is_dir (node_at (one_link_fewer v old (node_at t old)) c)) e ∙ fewer_here v old (node_at t old) mv.births (names_nodes t w to fs k new old there taken) in cc)

        same : (c d : ℕ) (m : List ℕ) → finds t c m ≡ Some d → ((c ≡ from) → (m ≡ name) → ⊥) → d ≢ old → finds (one_link_fewer v old (node_at t old)) c m ≡ Some d
        same c d m f far away = ap (λ o. find_in o m) (else c (not_old c d m f))
            ∙ mv.keeps c m far (λ e i. away (let z : Some d ≡ Some old = sym f ∙ ap (λ c. finds t c m) e ∙ ap (finds t to) i ∙ has in cc)) ∙ f

    moved_onto_keeps : (to : ℕ) (fs : Entries) (k : ℕ) (new : List ℕ) (old : ℕ) → place_from t 0 path ≡ Taken to fs k new old → node_at t to ≡ Some (Dir fs k) → entry_at fs new ≡ Some old → Keeps (moved_onto t from name b to new old)
    moved_onto_keeps to fs k new old walk there taken =
        if_keeps (old == b) (says t reply.Ok) _ (λ e. says_keeps reply.Ok) (λ e.
        if_keeps (is_dir (node_at t b) && not (is_dir (node_at t old))) (says t reply.NotDir) _ (λ e. says_keeps reply.NotDir) (λ e.
        if_keeps (is_dir (node_at t old) && not (is_dir (node_at t b))) (says t reply.IsDir) _ (λ e. says_keeps reply.IsDir) (λ e.
        if_keeps (has_entries (node_at t old)) (says t reply.NotEmpty) _ (λ e. says_keeps reply.NotEmpty) (λ empty.
        onto_keeps to fs k new old walk there taken empty (moved t from name to new b) (is_moved t (reached_links t w reached) w.births from es n is name to (ap is_dir there) new b)))))

  renamed_to_keeps : (from : ℕ) (es : Entries) (n : ℕ) (name : List ℕ) (b : ℕ) → node_at t from ≡ Some (Dir es n) → entry_at es name ≡ Some b → (path : List (List ℕ)) (q : Place) → place t path ≡ q → Stands t q → Keeps (renamed_to t from name b path q)
  renamed_to_keeps from es n name b is at path Root walk s = says_keeps reply.Inval
  renamed_to_keeps from es n name b is at path (Nowhere r) walk s = says_keeps r
  renamed_to_keeps from es n name b is at path (Taken to fs k new old) walk s =
      if_keeps (goes_through t path b) (says t reply.Inval) _ (λ e. says_keeps reply.Inval) (λ e.
      moved_onto_keeps from es n name b is at path (second_fails (is_dir (node_at t b)) (list_any (λ c. c == b) (walked t path)) e) to fs k new old walk s.0 s.1)
  renamed_to_keeps from es n name b is at path (Free to fs k new) walk s =
      if_keeps (goes_through t path b) (says t reply.Inval) _ (λ e. says_keeps reply.Inval) (λ e.
      moved_to_keeps from es n name b is at path (second_fails (is_dir (node_at t b)) (list_any (λ c. c == b) (walked t path)) e) to fs k new walk s.0 s.1)

  renamed_from_keeps : (p : Place) → Stands t p → (to : List (List ℕ)) → Keeps (renamed_from t p to)
  renamed_from_keeps Root s to = says_keeps reply.Inval
  renamed_from_keeps (Nowhere r) s to = says_keeps r
  renamed_from_keeps (Free dir es n name) s to = says_keeps reply.NoEnt
  renamed_from_keeps (Taken dir es n name b) s to = renamed_to_keeps dir es n name b s.0 s.1 to (place t to) refl (place_stands t to)

  renamed_keeps : (path to : List (List ℕ)) → Keeps (renamed t path to)
  renamed_keeps [] to = says_keeps reply.Inval
  renamed_keeps (name ∷ names) [] = says_keeps reply.Inval
  renamed_keeps (name ∷ names) (new ∷ news) = renamed_from_keeps (place t (name ∷ names)) (place_stands t (name ∷ names)) (new ∷ news)

  -- ---- bytes
  file_keeps : (b : ℕ) (cells others : List Cell) (links old when : ℕ) → node_at t b ≡ Some (File cells links old) → (r : Reply) → Keeps (says (with_node t b (File others links when)) r)
  file_keeps b cells others links old when is r u = cells_reached t b cells others links old when is reached

  if_file_keeps : (next : ℕ → List Cell → ℕ → ℕ → Applied) → ((b : ℕ) (cells : List Cell) (links when : ℕ) → node_at t b ≡ Some (File cells links when) → Keeps (next b cells links when)) → (b : ℕ) (o : Option Node) → node_at t b ≡ o → Keeps (if_file t next b o)
  if_file_keeps next each b (Some (File cells links when)) i = each b cells links when i
  if_file_keeps next each b (Some (Dir es n)) i = says_keeps reply.IsDir
  if_file_keeps next each b (Some (Link target links)) i = says_keeps reply.Inval
  if_file_keeps next each b None i = says_keeps reply.NoEnt

  at_file_keeps : (next : ℕ → List Cell → ℕ → ℕ → Applied) → ((b : ℕ) (cells : List Cell) (links when : ℕ) → node_at t b ≡ Some (File cells links when) → Keeps (next b cells links when)) → (p : Place) → Keeps (at_file t p next)
  at_file_keeps next each Root = if_file_keeps next each 0 (node_at t 0) refl
  at_file_keeps next each (Taken dir es n name b) = if_file_keeps next each b (node_at t b) refl
  at_file_keeps next each (Free dir es n name) = says_keeps reply.NoEnt
  at_file_keeps next each (Nowhere r) = says_keeps r

  written_keeps : (m b : ℕ) (cells : List Cell) (links old when off len : ℕ) (put : List Cell → List Cell) → node_at t b ≡ Some (File cells links old) → Keeps (written t m b cells links when off len put)
  written_keeps m b cells links old when off len put is =
      if_keeps (nat_lt (length cells) off) (says t reply.BadOffset) _ (λ e. says_keeps reply.BadOffset) (λ e.
      if_keeps (nat_lt 1114112 (off + len)) (says t reply.TooBig) _ (λ e. says_keeps reply.TooBig) (λ e.
      if_keeps (nat_lt (large_blocks_of (length cells)) (large_blocks_of (max (length cells) (off + len))) && larges_full t) (says t reply.NoLarge) _ (λ e. says_keeps reply.NoLarge) (λ e.
      if_keeps (nat_lt (1024 * t.segments - m) (count_of file_blocks t + (small_blocks_of (max (length cells) (off + len)) - small_blocks_of (length cells)))) (says t (reply.NoBlock m)) _ (λ e. says_keeps (reply.NoBlock m)) (λ e.
      file_keeps b cells (put cells) links old when is reply.Ok))))

  truncated_keeps : (b : ℕ) (cells : List Cell) (links old when len : ℕ) → node_at t b ≡ Some (File cells links old) → Keeps (truncated t b cells links when len)
  truncated_keeps b cells links old when len is = if_keeps (nat_lt (length cells) len) (says t reply.BadOffset) _ (λ e. says_keeps reply.BadOffset) (λ e. file_keeps b cells (take len cells) links old when is reply.Ok)

  -- ---- all
  look_keeps : (o : Op) (birth when m : ℕ) → (apply t o birth when m).tree ≡ t → Keeps (apply t o birth when m)
  look_keeps o birth when m same u = subst (λ t. IsReached (node_at t)) (sym same) reached

  op_keeps : (o : Op) (birth when m : ℕ) → IsNew t birth → Keeps (apply t o birth when m)
  op_keeps (op.Create path) birth when m new = made_keeps birth (File [] 1 0) new (omega arith) (place t path) (place_stands t path)
  op_keeps (op.Mkdir path) birth when m new = made_keeps birth (Dir [] 0) new (omega arith) (place t path) (place_stands t path)
  op_keeps (op.Symlink path target) birth when m new = made_keeps birth (Link target 1) new (omega arith) (place t path) (place_stands t path)
  op_keeps (op.Link path to) birth when m new = linked_keeps (place t path) (place t to) (place_stands t to)
  op_keeps (op.Unlink path) birth when m new = unlinked_keeps (place t path) (place_stands t path)
  op_keeps (op.Rmdir path) birth when m new = dir_removed_keeps (place t path) (place_stands t path)
  op_keeps (op.Rename path to) birth when m new = renamed_keeps path to
  op_keeps (op.Write path off bytes) birth when m new =
      at_file_keeps (λ b cells links old. written t m b cells links when off (length bytes) (λ all. overwritten all off (map Byte bytes)))
      (λ b cells links old is. written_keeps m b cells links old when off (length bytes) (λ all. overwritten all off (map Byte bytes)) is) (place t path)
  op_keeps (op.Fill path off len byte) birth when m new =
      at_file_keeps (λ b cells links old. written t m b cells links when off len (λ all. overwritten all off (replicate len (Byte byte))))
      (λ b cells links old is. written_keeps m b cells links old when off len (λ all. overwritten all off (replicate len (Byte byte))) is) (place t path)
  op_keeps (op.Truncate path len) birth when m new = at_file_keeps (λ b cells links old. truncated t b cells links when len) (λ b cells links old is. truncated_keeps b cells links old when len is) (place t path)
  op_keeps (op.Read path off len) birth when m new = look_keeps (op.Read path off len) birth when m (looks_leave t (op.Read path off len) birth when m refl)
  op_keeps (op.Stat path) birth when m new = look_keeps (op.Stat path) birth when m (looks_leave t (op.Stat path) birth when m refl)
  op_keeps (op.List path) birth when m new = look_keeps (op.List path) birth when m (looks_leave t (op.List path) birth when m refl)
  op_keeps (op.Readlink path) birth when m new = look_keeps (op.Readlink path) birth when m (looks_leave t (op.Readlink path) birth when m refl)
  op_keeps (op.Time path) birth when m new = look_keeps (op.Time path) birth when m (looks_leave t (op.Time path) birth when m refl)
  op_keeps op.Sync birth when m new = says_keeps reply.Ok
  op_keeps op.Mount birth when m new = says_keeps reply.Ok
  op_keeps op.Unmount birth when m new = says_keeps reply.Ok
  op_keeps op.Crash birth when m new = says_keeps reply.Ok
  op_keeps (op.CrashAt k) birth when m new = says_keeps reply.Ok
  op_keeps (op.CutAt k) birth when m new = says_keeps reply.Ok
  op_keeps op.Stall birth when m new = says_keeps reply.Ok

pub apply_keeps_reached : (t : FileTree) (o : Op) (birth when m : ℕ) → IsWellFormed t → IsReached (node_at t) → IsNew t birth → IsReached (node_at (apply t o birth when m).tree)
apply_keeps_reached t o birth when m w reached new = op_keeps t w reached o birth when m new (apply_keeps t o birth when m w new)
