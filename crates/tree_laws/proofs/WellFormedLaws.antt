-- An operation at a new birth leaves a well-formed tree so.
use Rattle.std.proofs.Common.{ℕ, ◌≡◌, ◌≢◌, ◌≤◌, ◌+◌, ◌-◌, ◌*◌, ◌==◌, Bool, true, false, not, ◌&&◌, Option, Some, None, List, [], ◌∷◌, length, map, replicate, take, max, cond, refl, sym, ◌∙◌, ap, subst, nat_lt, nat_le, arith, le_refl, eqb-true, lt-ltb, is_some}
use Rattle.std.proofs.lemmas.Bool.{eqb-false, not-false}
use Rattle.std.specs.List.Sorted.{IsStrictlySortedBy}
use Rattle.std.specs.Map.{keys_of}
use Rattle.std.specs.Ordering.{nat_cmp}
use Rattle.std.specs.Cmp.Lexicographic.{slice_cmp}
use Rattle.frang_base.specs.declared.op.Op.{Op}
use Rattle.frang_base.specs.declared.op.Op.TheVariants as op
use Rattle.frang_base.specs.declared.reply.Reply.TheVariants as reply
use Rattle.tree_definitions.specs.declared.cells.Cell.{Cell}
use Rattle.tree_definitions.specs.declared.cells.Cell.TheVariants.{Byte}
use Rattle.tree_definitions.specs.declared.node.Node.{Node}
use Rattle.tree_definitions.specs.declared.node.Node.TheVariants.{Dir, File, Link}
use Rattle.tree_definitions.specs.Entries.{Entries, entry_at, with_entry, without_entry}
use Rattle.tree_definitions.specs.Tree.{FileTree, node_at, with_node, grown, must_grow, large_blocks_of, small_blocks_of, larges_full, count_of, file_blocks, inodes_full, lacks_block, entries_full}
use Rattle.tree_definitions.specs.Place.{Place, Root, Taken, Free, Nowhere, place}
use Rattle.tree_definitions.specs.Apply.{Applied, says, named, made, is_dir, links_of, has_entries, one_link_more, one_link_fewer, linked_to, linked, unlinked, dir_removed, name_gone, name_set, moved, moved_onto, moved_to, goes_through, renamed_to, renamed_from, renamed, if_file, at_file, overwritten, written, truncated, apply}
use Rattle.tree_laws.specs.Refusals.{is_look}
use Rattle.tree_definitions.specs.WellFormed.{one_at, names_in, IsNew}
use Rattle.tree_laws.specs.Touching.{OfDirectory, OfFile, OfLink}
use Rattle.tree_definitions.proofs.Pairs.{name_exact, found_left}
use Rattle.tree_laws.proofs.Nodes.{with_same, with_other}
use Rattle.tree_laws.proofs.Places.{Stands, place_stands}
use Rattle.tree_laws.proofs.Refusals.{looks_leave}
use Rattle.tree_laws.proofs.Balance.{at_name, Limits, Within, Well, Owing, none_owed, owing_none, paid}
use Rattle.tree_laws.proofs.Keeping.{one_sym, never_root, has_links, names_nodes, root_is_old, restated, entry_put, entry_gone, room_kept, node_made, links_put, link_more, link_fewer}

none_sorted : IsStrictlySortedBy (slice_cmp nat_cmp) (keys_of {K = List ℕ} {X = ℕ} [])
unfolding IsStrictlySortedBy
none_sorted = tt

-- the blocks of a directory that grows don't become fewer
grows : (es : Entries) (n : ℕ) → n ≤ grown es n
grows es n = go (must_grow es n)
  where
    go : (b : Bool) → n ≤ cond b (n + 1) n
    go true = omega arith
    go false = le_refl n

-- the node that an operation may make is allowed
abbrev pub Makes : Limits → Op → ℕ → Type 0
Makes A (op.Create path) b = A.allowed b OfFile
Makes A (op.Mkdir path) b = A.allowed b OfDirectory × (A.least b ≤ 0)
Makes A (op.Symlink path target) b = A.allowed b OfLink
Makes A _ b = Unit {0}

-- a choice of trees that are well formed
if_well : (A : Limits) (b : Bool) (x y : Applied) → (b ≡ true → Well A x.tree) → (b ≡ false → Well A y.tree) → Well A (cond b x y).tree
if_well A true x y f g = f refl
if_well A false x y f g = g refl

-- a name moves: what is owed then
module _ (A : Limits) (u : FileTree) (x y : ℕ → ℕ) (o : Owing A u x y) (from : ℕ) (es : Entries) (n : ℕ) (name : List ℕ) (b : ℕ) (is : node_at u from ≡ Some (Dir es n)) (at : entry_at es name ≡ Some b) where
  abbrev without : FileTree
  without = with_node u from (Dir (without_entry es name) n)

  without_is : name_gone u from name (node_at u from) ≡ without
  without_is = ap (name_gone u from name) is

  module _ (to : ℕ) (fs : Entries) (m : ℕ) (new : List ℕ) (into : node_at u to ≡ Some (Dir fs m)) (other : to ≡ from → new ≢ name) where
    -- the second directory, once the name is gone from the first
    second_dir : (c : Bool) → to == from ≡ c → (gs : Entries) × (k : ℕ) × (node_at without to ≡ Some (Dir gs k)) × (entry_at gs new ≡ entry_at fs new)
    second_dir true e =
        let z : to ≡ from = eqb-true to from e in
        let i : Some (Dir es n) ≡ Some (Dir fs m) = sym is ∙ ap (node_at u) (sym z) ∙ into in
        let j : es ≡ fs = cc in
        (without_entry es name, n, ap (node_at without) z ∙ with_same u from (Dir (without_entry es name) n), found_left (slice_cmp nat_cmp) name_exact es name new (other z) ∙ ap (λ l. entry_at l new) j)
    second_dir false e = (fs, m, with_other u from (Dir (without_entry es name) n) to (eqb-false to from e) ∙ into, refl)

    moved_owing : (q : Option ℕ) → entry_at fs new ≡ q → Owing A (moved u from name to new b) (λ c. x c + one_at c b + at_name c q) (λ c. y c + 0 + one_at c b)
    moved_owing q found =
        let d = second_dir (to == from) refl in
        let g = entry_gone A u x y o from es n name b is at in
        let h = entry_put A without (λ c. x c + one_at c b) (λ c. y c + 0) g to d.0 d.1 d.1 new b d.2 (le_refl d.1) in
        subst (λ t. Owing A (name_set t to new b (node_at t to)) (λ c. x c + one_at c b + at_name c q) (λ c. y c + 0 + one_at c b)) (sym without_is)
        (subst (λ v. Owing A (name_set without to new b v) (λ c. x c + one_at c b + at_name c q) (λ c. y c + 0 + one_at c b)) (sym d.2)
        (subst (λ v. Owing A (with_node without to (Dir (with_entry d.0 new b) d.1)) (λ c. x c + one_at c b + at_name c v) (λ c. y c + 0 + one_at c b)) (d.3 ∙ found) h))

    -- the other nodes stay
    moved_other : (c : ℕ) → c ≢ from → c ≢ to → node_at (moved u from name to new b) c ≡ node_at u c
    moved_other c f g =
        let d = second_dir (to == from) refl in
        subst (λ t. node_at (name_set t to new b (node_at t to)) c ≡ node_at u c) (sym without_is)
        (subst (λ v. node_at (name_set without to new b v) c ≡ node_at u c) (sym d.2)
        (with_other without to (Dir (with_entry d.0 new b) d.1) c g ∙ with_other u from (Dir (without_entry es name) n) c f))

module _ (A : Limits) (t : FileTree) (w : Well A t) where
  start : Owing A t none_owed none_owed
  start = owing_none A t w

  -- a directory that has a name has entries
  named_has : (es : Entries) (n : ℕ) (name : List ℕ) (v : ℕ) → entry_at es name ≡ Some v → has_entries (Some (Dir es n)) ≡ true
  named_has [] n name v at = cc
  named_has (e ∷ es) n name v at = lt-ltb 0 (length (e ∷ es)) (omega arith)

  -- a name for a node that has one link too many
  name_given : (u : FileTree) (b : ℕ) → Owing A u (λ c. none_owed c + one_at b c) (λ c. none_owed c + 0) → (dir : ℕ) (es : Entries) (n : ℕ) (name : List ℕ) → node_at u dir ≡ Some (Dir es n) → entry_at es name ≡ None → Well A (named u dir es n name b)
  name_given u b o dir es n name is at =
      let h = entry_put A u (λ c. none_owed c + one_at b c) (λ c. none_owed c + 0) o dir es n (grown es n) name b is (grows es n) in
      paid A (named u dir es n name b) _ _ h (λ c. (let z : at_name c (entry_at es name) ≡ 0 = ap (at_name c) at in let s : one_at c b ≡ one_at b c = one_sym c b in omega arith))

  made_well : (b : ℕ) (z : Node) → IsNew t b → ((c : ℕ) → names_in c z ≡ 0) → ((es : Entries) (n : ℕ) → z ≡ Dir es n → IsStrictlySortedBy (slice_cmp nat_cmp) (keys_of es)) → links_of (Some z) ≡ 1 → Within A b z → (p : Place) → Stands t p → Well A (made t b z p).tree
  made_well b z new plain sorted one fine Root s = w
  made_well b z new plain sorted one fine (Nowhere r) s = w
  made_well b z new plain sorted one fine (Taken dir es n name c) s = w
  made_well b z new plain sorted one fine (Free dir es n name) s =
      let far : dir ≢ b = λ e. (let q : Some (Dir es n) ≡ None = sym s.0 ∙ ap (node_at t) e ∙ new in cc) in
      let h = node_made A t none_owed none_owed start b z new (root_is_old t w.well b new) plain sorted one fine in
      if_well A (entries_full es) (says t reply.DirFull) _ (λ e. w) (λ e. if_well A (inodes_full t) (says t reply.NoInode) _ (λ e. w) (λ e. if_well A (lacks_block t es n) (says t reply.NoDirBlock) _ (λ e. w)
      (λ e. name_given (with_node t b z) b h dir es n name (with_other t b z dir far ∙ s.0) s.1)))

  module _ (dir : ℕ) (es : Entries) (n : ℕ) (name : List ℕ) (b : ℕ) (s : Stands t (Taken dir es n name b)) where
    taken_some : is_some (node_at t b) ≡ true
    taken_some = names_nodes t w.well dir es n name b s.0 s.1

    taken_away : b ≢ 0
    taken_away = never_root t w.well dir es n name b s.0 s.1

    taken_links : 1 ≤ links_of (node_at t b)
    taken_links = has_links t w.well dir es n name b s.0 s.1

    -- another name for what a name names
    linked_to_well : is_dir (node_at t b) ≡ false → (p : Place) → Stands t p → Well A (linked_to t b p).tree
    linked_to_well plain Root q = w
    linked_to_well plain (Nowhere r) q = w
    linked_to_well plain (Taken to fs m new c) q = w
    linked_to_well plain (Free to fs m new) q =
        let h = link_more A t none_owed none_owed start b (node_at t b) refl taken_some plain taken_away in
        let far : to ≢ b = λ e. (let k : is_dir (node_at t b) ≡ true = ap is_dir (ap (node_at t) (sym e) ∙ q.0) in cc) in
        if_well A (nat_le 1000 (links_of (node_at t b))) (says t reply.MLink) _ (λ e. w) (λ e. if_well A (entries_full fs) (says t reply.DirFull) _ (λ e. w) (λ e. if_well A (lacks_block t fs m) (says t reply.NoDirBlock) _ (λ e. w)
        (λ e. name_given (one_link_more t b (node_at t b)) b h to fs m new (more_other (node_at t b) to far ∙ q.0) q.1)))
      where
        more_other : (o : Option Node) (c : ℕ) → c ≢ b → node_at (one_link_more t b o) c ≡ node_at t c
        more_other (Some (File cells links when)) c far = with_other t b (File cells (links + 1) when) c far
        more_other (Some (Link target links)) c far = with_other t b (Link target (links + 1)) c far
        more_other (Some (Dir es n)) c far = refl
        more_other None c far = refl

    -- a name goes, and with it a link
    name_taken : has_entries (node_at t b) ≡ false → Well A (one_link_fewer (with_node t dir (Dir (without_entry es name) n)) b (node_at t b))
    name_taken empty =
        let u = with_node t dir (Dir (without_entry es name) n) in
        let h = entry_gone A t none_owed none_owed start dir es n name b s.0 s.1 in
        let far : b ≢ dir = λ e. (let k : has_entries (node_at t b) ≡ true = ap has_entries (ap (node_at t) e ∙ s.0) ∙ named_has es n name b s.1 in cc) in
        let f = link_fewer A u _ _ h b (node_at t b) (with_other t dir (Dir (without_entry es name) n) b far) taken_links empty taken_away in
        paid A (one_link_fewer u b (node_at t b)) _ _ f (λ c. (let z : one_at c b ≡ one_at b c = one_sym c b in omega arith))

    plain_empty : (o : Option Node) → is_dir o ≡ false → has_entries o ≡ false
    plain_empty (Some (File cells links when)) f = refl
    plain_empty (Some (Link target links)) f = refl
    plain_empty (Some (Dir es n)) f = absurd (cc)
    plain_empty None f = refl

    unlinked_well : Well A (unlinked t (Taken dir es n name b)).tree
    unlinked_well = if_well A (is_dir (node_at t b)) (says t reply.IsDir) _ (λ e. w) (λ e. name_taken (plain_empty (node_at t b) e))

    dir_removed_well : Well A (dir_removed t (Taken dir es n name b)).tree
    dir_removed_well = if_well A (not (is_dir (node_at t b))) (says t reply.NotDir) _ (λ e. w) (λ e. if_well A (has_entries (node_at t b)) (says t reply.NotEmpty) _ (λ f. w)
        (λ f. (let d = as_dir (node_at t b) (not-false (is_dir (node_at t b)) e) in subst (λ o. Well A (one_link_fewer (with_node t dir (Dir (without_entry es name) n)) b o)) d.2 (name_taken f))))
      where
        as_dir : (o : Option Node) → is_dir o ≡ true → (fs : Entries) × (m : ℕ) × (o ≡ Some (Dir fs m))
        as_dir (Some (Dir fs m)) e = (fs, m, refl)
        as_dir (Some (File cells links when)) e = absurd (cc)
        as_dir (Some (Link target links)) e = absurd (cc)
        as_dir None e = absurd (cc)

    -- a name moves onto another
    module _ (to : ℕ) (fs : Entries) (m : ℕ) (new : List ℕ) (old : ℕ) (q : Stands t (Taken to fs m new old)) where
      onto_well : Well A (moved_onto t dir name b to new old).tree
      onto_well = if_well A (old == b) (says t reply.Ok) _ (λ e. w) (λ e.
          if_well A (is_dir (node_at t b) && not (is_dir (node_at t old))) (says t reply.NotDir) _ (λ f. w) (λ f.
          if_well A (is_dir (node_at t old) && not (is_dir (node_at t b))) (says t reply.IsDir) _ (λ f. w) (λ f.
          if_well A (has_entries (node_at t old)) (says t reply.NotEmpty) _ (λ f. w) (λ f. go (eqb-false old b e) f))))
        where
          go : old ≢ b → has_entries (node_at t old) ≡ false → Well A (one_link_fewer (moved t dir name to new b) old (node_at t old))
          go apart empty =
              let other = λ (z : to ≡ dir) (k : new ≡ name). (let i : Some (Dir fs m) ≡ Some (Dir es n) = sym q.0 ∙ ap (node_at t) z ∙ s.0 in let j : fs ≡ es = cc in let l : Some old ≡ Some b = sym q.1 ∙ ap (λ g. entry_at g new) j ∙ ap (entry_at es) k ∙ s.1 in apart (let v : old ≡ b = cc in v)) in
              let h = moved_owing A t none_owed none_owed start dir es n name b s.0 s.1 to fs m new q.0 other (Some old) q.1 in
              let far_from : old ≢ dir = λ z. (let k : has_entries (node_at t old) ≡ true = ap has_entries (ap (node_at t) z ∙ s.0) ∙ named_has es n name b s.1 in cc) in
              let far_to : old ≢ to = λ z. (let k : has_entries (node_at t old) ≡ true = ap has_entries (ap (node_at t) z ∙ q.0) ∙ named_has fs m new old q.1 in cc) in
              let f = link_fewer A (moved t dir name to new b) _ _ h old (node_at t old) (moved_other A t none_owed none_owed start dir es n name b s.0 s.1 to fs m new q.0 other old far_from far_to)
              (has_links t w.well to fs m new old q.0 q.1) empty (never_root t w.well to fs m new old q.0 q.1) in
              paid A (one_link_fewer (moved t dir name to new b) old (node_at t old)) _ _ f (λ c. (let z : one_at c old ≡ one_at old c = one_sym c old in omega arith))

    -- a name moves to where none is
    module _ (to : ℕ) (fs : Entries) (m : ℕ) (new : List ℕ) (q : Stands t (Free to fs m new)) where
      free_well : (u : FileTree) (k : ℕ) → Owing A u none_owed none_owed → node_at u dir ≡ Some (Dir es n) → node_at u to ≡ Some (Dir fs k) → Well A (moved u dir name to new b)
      free_well u k o is into =
          let other = λ (z : to ≡ dir) (e : new ≡ name). (let i : Some (Dir fs k) ≡ Some (Dir es n) = sym into ∙ ap (node_at u) z ∙ is in let j : fs ≡ es = cc in let l : None ≡ Some b = sym q.1 ∙ ap (λ g. entry_at g new) j ∙ ap (entry_at es) e ∙ s.1 in let v : ⊥ = cc in v) in
          let h = moved_owing A u none_owed none_owed o dir es n name b is s.1 to fs k new into other None q.1 in
          paid A (moved u dir name to new b) _ _ h (λ c. omega arith)

      moved_to_well : Well A (moved_to t dir name b to fs m new).tree
      moved_to_well = if_well A (dir == to) (says (moved t dir name to new b) reply.Ok) _ (λ e. free_well t m start s.0 q.0)
          (λ e. if_well A (entries_full fs) (says t reply.DirFull) _ (λ f. w) (λ f. if_well A (lacks_block t fs m) (says t reply.NoDirBlock) _ (λ f. w) (λ f.
          free_well (with_node t to (Dir fs (grown fs m))) (grown fs m)
          (restated A (with_node t to (Dir fs (grown fs m))) _ _ none_owed none_owed (room_kept A t none_owed none_owed start to fs m (grown fs m) q.0 (grows fs m)) (λ c. refl) (λ c. refl))
          (with_other t to (Dir fs (grown fs m)) dir (eqb-false dir to e) ∙ s.0) (with_same t to (Dir fs (grown fs m))))))

    renamed_to_well : (path : List (List ℕ)) (p : Place) → Stands t p → Well A (renamed_to t dir name b path p).tree
    renamed_to_well path Root q = w
    renamed_to_well path (Nowhere r) q = w
    renamed_to_well path (Taken to fs m new old) q = if_well A (goes_through t path b) (says t reply.Inval) _ (λ e. w) (λ e. onto_well to fs m new old q)
    renamed_to_well path (Free to fs m new) q = if_well A (goes_through t path b) (says t reply.Inval) _ (λ e. w) (λ e. moved_to_well to fs m new q)

  -- a file gets other cells, at another time
  pub recelled_well : (b : ℕ) (cells new : List Cell) (links old when : ℕ) → node_at t b ≡ Some (File cells links old) → Well A (with_node t b (File new links when))
  recelled_well b cells new links old when is =
      let away : b ≢ 0 = λ e. (let r : is_dir (node_at t 0) ≡ true = w.well.rooted in let z : is_dir (node_at t 0) ≡ false = ap is_dir (ap (node_at t) (sym e) ∙ is) in cc) in
      let h = links_put A t none_owed none_owed start b (File cells links old) (File new links when) is refl refl refl away 0 0 refl in
      paid A (with_node t b (File new links when)) _ _ h (λ c. refl)

  file_well : (f : ℕ → List Cell → ℕ → ℕ → Applied) → ((b : ℕ) (cells : List Cell) (links when : ℕ) → node_at t b ≡ Some (File cells links when) → Well A (f b cells links when).tree) → (b : ℕ) (o : Option Node) → node_at t b ≡ o → Well A (if_file t f b o).tree
  file_well f each b (Some (File cells links when)) is = each b cells links when is
  file_well f each b (Some (Dir es n)) is = w
  file_well f each b (Some (Link target links)) is = w
  file_well f each b None is = w

  at_file_well : (f : ℕ → List Cell → ℕ → ℕ → Applied) → ((b : ℕ) (cells : List Cell) (links when : ℕ) → node_at t b ≡ Some (File cells links when) → Well A (f b cells links when).tree) → (p : Place) → Well A (at_file t p f).tree
  at_file_well f each Root = file_well f each 0 (node_at t 0) refl
  at_file_well f each (Taken dir es n name b) = file_well f each b (node_at t b) refl
  at_file_well f each (Free dir es n name) = w
  at_file_well f each (Nowhere r) = w

  written_well : (m b : ℕ) (cells : List Cell) (links old when off len : ℕ) (put : List Cell → List Cell) → node_at t b ≡ Some (File cells links old) → Well A (written t m b cells links when off len put).tree
  written_well m b cells links old when off len put is =
      let size = max (length cells) (off + len) in
      if_well A (nat_lt (length cells) off) (says t reply.BadOffset) _ (λ e. w)
      (λ e. if_well A (nat_lt 1114112 (off + len)) (says t reply.TooBig) _ (λ e. w)
      (λ e. if_well A (nat_lt (large_blocks_of (length cells)) (large_blocks_of size) && larges_full t) (says t reply.NoLarge) _ (λ e. w)
      (λ e. if_well A (nat_lt (1024 * t.segments - m) (count_of file_blocks t + (small_blocks_of size - small_blocks_of (length cells)))) (says t (reply.NoBlock m)) (says (with_node t b (File (put cells) links when)) reply.Ok) (λ e. w)
      (λ e. recelled_well b cells (put cells) links old when is))))

  truncated_well : (b : ℕ) (cells : List Cell) (links old when len : ℕ) → node_at t b ≡ Some (File cells links old) → Well A (truncated t b cells links when len).tree
  truncated_well b cells links old when len is = if_well A (nat_lt (length cells) len) (says t reply.BadOffset) (says (with_node t b (File (take len cells) links when)) reply.Ok) (λ e. w) (λ e. recelled_well b cells (take len cells) links old when is)

  linked_well : (p to : Place) → Stands t p → Stands t to → Well A (linked t p to).tree
  linked_well Root to s q = w
  linked_well (Nowhere r) to s q = w
  linked_well (Free dir es n name) to s q = w
  linked_well (Taken dir es n name b) to s q = if_well A (is_dir (node_at t b)) (says t reply.IsDir) (linked_to t b to) (λ e. w) (λ e. linked_to_well dir es n name b s e to q)

  unlink_well : (p : Place) → Stands t p → Well A (unlinked t p).tree
  unlink_well Root s = w
  unlink_well (Nowhere r) s = w
  unlink_well (Free dir es n name) s = w
  unlink_well (Taken dir es n name b) s = unlinked_well dir es n name b s

  rmdir_well : (p : Place) → Stands t p → Well A (dir_removed t p).tree
  rmdir_well Root s = w
  rmdir_well (Nowhere r) s = w
  rmdir_well (Free dir es n name) s = w
  rmdir_well (Taken dir es n name b) s = dir_removed_well dir es n name b s

  renamed_from_well : (p : Place) (to : List (List ℕ)) → Stands t p → Well A (renamed_from t p to).tree
  renamed_from_well Root to s = w
  renamed_from_well (Nowhere r) to s = w
  renamed_from_well (Free dir es n name) to s = w
  renamed_from_well (Taken dir es n name b) to s = renamed_to_well dir es n name b s to (place t to) (place_stands t to)

  renamed_well : (path to : List (List ℕ)) → Well A (renamed t path to).tree
  renamed_well [] to = w
  renamed_well (n ∷ ns) [] = w
  renamed_well (n ∷ ns) (m ∷ ms) = renamed_from_well (place t (n ∷ ns)) (m ∷ ms) (place_stands t (n ∷ ns))

  looked_well : (o : Op) (b when m : ℕ) → is_look o ≡ true → Well A (apply t o b when m).tree
  looked_well o b when m h = subst (λ u. Well A u) (sym (looks_leave t o b when m h)) w

  pub apply_well : (o : Op) (b when m : ℕ) → IsNew t b → Makes A o b → Well A (apply t o b when m).tree
  apply_well (op.Create path) b when m new may = made_well b (File [] 1 0) new (λ c. refl) (λ es n e. cc) refl may (place t path) (place_stands t path)
  apply_well (op.Mkdir path) b when m new may = made_well b (Dir [] 0) new (λ c. refl) (λ es n e. (let i : [] ≡ es = cc in subst (λ l. IsStrictlySortedBy (slice_cmp nat_cmp) (keys_of l)) i none_sorted)) refl may (place t path) (place_stands t path)
  apply_well (op.Symlink path target) b when m new may = made_well b (Link target 1) new (λ c. refl) (λ es n e. cc) refl may (place t path) (place_stands t path)
  apply_well (op.Link path to) b when m new may = linked_well (place t path) (place t to) (place_stands t path) (place_stands t to)
  apply_well (op.Unlink path) b when m new may = unlink_well (place t path) (place_stands t path)
  apply_well (op.Rmdir path) b when m new may = rmdir_well (place t path) (place_stands t path)
  apply_well (op.Rename path to) b when m new may = renamed_well path to
  apply_well (op.Write path off bytes) b when m new may = at_file_well (λ b cells links old. written t m b cells links when off (length bytes) (λ all. overwritten all off (map Byte bytes))) (λ b cells links old is. written_well m b cells links old when off (length bytes) (λ all. overwritten all off (map Byte bytes)) is) (place t path)
  apply_well (op.Fill path off len byte) b when m new may = at_file_well (λ b cells links old. written t m b cells links when off len (λ all. overwritten all off (replicate len (Byte byte)))) (λ b cells links old is. written_well m b cells links old when off len (λ all. overwritten all off (replicate len (Byte byte))) is) (place t path)
  apply_well (op.Truncate path len) b when m new may = at_file_well (λ b cells links old. truncated t b cells links when len) (λ b cells links old is. truncated_well b cells links old when len is) (place t path)
  apply_well (op.Read path off len) b when m new may = looked_well (op.Read path off len) b when m refl
  apply_well (op.Stat path) b when m new may = looked_well (op.Stat path) b when m refl
  apply_well (op.List path) b when m new may = looked_well (op.List path) b when m refl
  apply_well (op.Readlink path) b when m new may = looked_well (op.Readlink path) b when m refl
  apply_well (op.Time path) b when m new may = looked_well (op.Time path) b when m refl
  apply_well op.Sync b when m new may = w
  apply_well op.Mount b when m new may = w
  apply_well op.Unmount b when m new may = w
  apply_well op.Crash b when m new may = w
  apply_well (op.CrashAt k) b when m new may = w
  apply_well (op.CutAt k) b when m new may = w
  apply_well op.Stall b when m new may = w
