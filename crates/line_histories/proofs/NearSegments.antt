-- The segments at which a line looks are segments of the disk: held ones, and those that keep the bits of a node and of its blocks.
use Rattle.std.proofs.Common.{◌≡◌, ◌<◌, ◌⊎◌, ◌+◌, ◌-◌, ◌*◌, ◌/◌, ◌==◌, ◌&&◌, not, ℕ, inl, inr, ⊎_elim, Bool, true, false, is_some, nat_le, nat_lt, if◌then◌else◌, Option, Some, None, List, [], ◌∷◌, ◌++◌, length, map, slice_index, refl, sym, ap, ◌∙◌, subst, arith}
use Rattle.std.specs.List.{AllByRecursion, Contains}
use Rattle.std.specs.Map.{keys_of}
use Rattle.std.proofs.lemmas.List.Elements.{Contains-append_left, Contains-append_right, Contains-append_cases}
use Rattle.frang_base.specs.declared.op.Op.{Op}
use Rattle.frang_base.specs.declared.op.Op.TheVariants as op
use Rattle.frang_base.specs.declared.reply.Reply.TheVariants as reply
use Rattle.tree_definitions.specs.Numbers.{below}
use Rattle.tree_definitions.specs.declared.node.Node.{Node}
use Rattle.tree_definitions.specs.declared.node.Node.TheVariants.{Dir, File, Link}
use Rattle.tree_definitions.specs.Perform.{Step, Goes, Stops}
use Rattle.tree_definitions.specs.Tree.{FileTree, node_at, small_blocks_of}
use Rattle.disk_definitions.specs.Store.{Store, StoredNode, StoredEntry}
use Rattle.disk_definitions.specs.Naming.{Naming, blocks_of, inode_of}
use Rattle.disk_definitions.specs.Ask.{Sector, InodeAt, DirectoryAt, SegmentAt, BytesAt, LargeAt, Ask, ReadInode, bind, run, looks}
use Rattle.disk_definitions.specs.Walks.{Spot, Target, walk, at_spot, at_target}
use Rattle.disk_definitions.specs.Walks.Spot.{AtRoot, AtName, AtGap, Lost}
use Rattle.disk_definitions.specs.Plans.{Hand, Plan, Finish, refused}
use Rattle.disk_definitions.specs.NamePlans.{segments_of, fewer_segments, is_last, finish_over, removed_by, unlinking_node, unlinking, plan_unlinked, removing_node, removing, plan_dir_removed, Moving, moved_onto_by, replacing_node, moving_onto, moving_to, goes_through, renaming_to, renaming, plan_renamed}
use Rattle.disk_definitions.specs.FilePlans.{Writing, writing, blocks_between, large_cut, cut_segments, cut_by, cutting, showing, with_file, at_file, plan_of_file}
use Rattle.disk_definitions.specs.PlanOf.{plan_of}
use Rattle.disk_definitions.specs.Lines.{resolved, plan_of_line}
use Rattle.disk_definitions.specs.Meets.{IsOfTree, IsHandOf}
use Rattle.disk_definitions.proofs.NodeLaws.{first_is}
use Rattle.plan_laws.proofs.Asking.{looks-bind}
use Rattle.plan_laws.proofs.Covering.{has_head, has_more, has_cases, not_in_none, map_has, below_has}
use Rattle.plan_laws.proofs.Fine.{held_key}
use Rattle.plan_laws.proofs.Standing.{node_of}
use Rattle.plan_laws.proofs.WalksInside.{block_inside}
use Rattle.line_laws.proofs.Running.{step_looks, looks_line}
use Rattle.line_histories.proofs.Asking.{asked}
use Rattle.line_histories.proofs.AskedNames.{walk_asks, made_asks, linked_asks, moving_to_asks}
use Rattle.line_histories.proofs.AskedFiles.{described_asks, timed_asks, listed_asks, target_asks, file_asks, showing_asks, writing_asks}
use Rattle.line_histories.proofs.AskedLines.{resolved_asks}
use Rattle.line_histories.proofs.Lists.{has_map}
use Rattle.line_histories.proofs.Owned.{below_less}

-- a sector that isn't a segment's
abbrev IsNoSegment : Sector → Type 0
IsNoSegment (SegmentAt k) = ⊥
IsNoSegment _ = Unit {0}

module _ (h : Hand) (s : Store) where
  -- it is held, or keeps the bit of an inode in use or of a block of it
  abbrev pub IsNear : ℕ → Type 0
  IsNear k = Contains (keys_of h.held) k ⊎ ((i : ℕ) × (x : StoredNode) × (s.inode i ≡ Some x) × Contains (segments_of i x) k)

  abbrev pub IsNearAt : Sector → Type 0
  IsNearAt (SegmentAt k) = IsNear k
  IsNearAt _ = Unit {0}

  abbrev AllNear : List Sector → Type 0
  AllNear xs = AllByRecursion IsNearAt xs

  both_near : (xs ys : List Sector) → AllNear xs → AllNear ys → AllNear (xs ++ ys)
  both_near [] ys a b = b
  both_near (x ∷ xs) ys a b = (a.0, both_near xs ys a.1 b)

  bind_near : {A B : Type 0} (p : Ask A) (f : A → Ask B) → AllNear (looks p s) → AllNear (looks (f (run p s)) s) → AllNear (looks (bind p f) s)
  bind_near p f a b = subst AllNear (sym (looks-bind p f s)) (both_near (looks p s) (looks (f (run p s)) s) a b)

  none_near : (xs : List Sector) → AllByRecursion IsNoSegment xs → AllNear xs
  none_near [] a = tt
  none_near (InodeAt i ∷ xs) a = (tt, none_near xs a.1)
  none_near (DirectoryAt k part ∷ xs) a = (tt, none_near xs a.1)
  none_near (SegmentAt k ∷ xs) a = absurd a.0
  none_near (BytesAt k part ∷ xs) a = (tt, none_near xs a.1)
  none_near (LargeAt g part ∷ xs) a = (tt, none_near xs a.1)

  over_near : (ks : List ℕ) (f : Finish) → ((k : ℕ) → Contains ks k → IsNear k) → AllNear (looks (finish_over ks f) s)
  over_near [] f near = tt
  over_near (k ∷ ks) f near = (near k (has_head k ks), over_near ks f (λ j c. near j (has_more k j ks c)))

  walk_near : (path : List (List ℕ)) → AllNear (looks (walk path) s)
  walk_near path = none_near (looks (walk path) s) (asked IsNoSegment (walk path) s (walk_asks IsNoSegment (λ i. tt) (λ k part l. tt) path))

  near_inode : (i : ℕ) → IsNearAt (InodeAt i)
  near_inode i = tt

  near_directory : (k part : ℕ) → part < 8 → IsNearAt (DirectoryAt k part)
  near_directory k part l = tt

  near_held : (k : ℕ) → Contains (keys_of h.held) k → IsNearAt (SegmentAt k)
  near_held k c = inl c

  -- ---- a node that goes
  fewer_near : (j : ℕ) (y : StoredNode) → s.inode j ≡ Some y → (k : ℕ) → Contains (fewer_segments j y) k → IsNear k
  fewer_near j y e k = go (is_last y)
    where
      go : (b : Bool) → Contains (if b then segments_of j y else []) k → IsNear k
      go true c = inr (j, y, e, c)
      go false c = absurd (not_in_none k c)

  unlinking_node_near : (i : ℕ) (x : StoredNode) (q j : ℕ) (dirs : List ℕ) (o : Option StoredNode) → s.inode j ≡ o → AllNear (looks (unlinking_node i x q j dirs o) s)
  unlinking_node_near i x q j dirs None e = tt
  unlinking_node_near i x q j dirs (Some y) e = over_near (fewer_segments j y) (removed_by i x q j y dirs) (fewer_near j y e)

  unlinking_near : (dirs : List ℕ) (v : Spot) → AllNear (looks (unlinking dirs v) s)
  unlinking_near dirs AtRoot = tt
  unlinking_near dirs (Lost r) = tt
  unlinking_near dirs (AtGap i x name) = tt
  unlinking_near dirs (AtName i x name q e) = go (e.kind == 2)
    where
      go : (b : Bool) → AllNear (looks (if b then refused reply.IsDir dirs else ReadInode e.inode (unlinking_node i x q e.inode dirs)) s)
      go true = tt
      go false = (tt, unlinking_node_near i x q e.inode dirs (s.inode e.inode) refl)

  unlinked_near : (path : List (List ℕ)) → AllNear (looks (plan_unlinked path) s)
  unlinked_near path = bind_near (walk path) (λ w. unlinking w.dirs w.spot) (walk_near path) (unlinking_near (run (walk path) s).dirs (run (walk path) s).spot)

  removing_node_near : (i : ℕ) (x : StoredNode) (q j : ℕ) (dirs : List ℕ) (o : Option StoredNode) → s.inode j ≡ o → AllNear (looks (removing_node i x q j dirs o) s)
  removing_node_near i x q j dirs None e = tt
  removing_node_near i x q j dirs (Some y) e = go (nat_lt 0 y.size)
    where
      go : (b : Bool) → AllNear (looks (if b then refused reply.NotEmpty (dirs ++ j ∷ []) else finish_over (fewer_segments j y) (removed_by i x q j y dirs)) s)
      go true = tt
      go false = over_near (fewer_segments j y) (removed_by i x q j y dirs) (fewer_near j y e)

  removing_near : (dirs : List ℕ) (v : Spot) → AllNear (looks (removing dirs v) s)
  removing_near dirs AtRoot = tt
  removing_near dirs (Lost r) = tt
  removing_near dirs (AtGap i x name) = tt
  removing_near dirs (AtName i x name q e) = go (e.kind == 2)
    where
      go : (b : Bool) → AllNear (looks (if b then ReadInode e.inode (removing_node i x q e.inode dirs) else refused reply.NotDir dirs) s)
      go true = (tt, removing_node_near i x q e.inode dirs (s.inode e.inode) refl)
      go false = tt

  removed_near : (path : List (List ℕ)) → AllNear (looks (plan_dir_removed path) s)
  removed_near path = bind_near (walk path) (λ w. removing w.dirs w.spot) (walk_near path) (removing_near (run (walk path) s).dirs (run (walk path) s).spot)

  -- ---- rename
  replacing_near : (moved : Moving) (i : ℕ) (x : StoredNode) (name : List ℕ) (q j : ℕ) (dirs : List ℕ) (o : Option StoredNode) → s.inode j ≡ o → AllNear (looks (replacing_node moved i x name q j dirs o) s)
  replacing_near moved i x name q j dirs None e = tt
  replacing_near moved i x name q j dirs (Some y) e = go (y.kind == 2 && nat_lt 0 y.size)
    where
      go : (b : Bool) → AllNear (looks (if b then refused reply.NotEmpty (dirs ++ j ∷ []) else finish_over (fewer_segments j y) (moved_onto_by moved i x name q j y dirs)) s)
      go true = tt
      go false = over_near (fewer_segments j y) (moved_onto_by moved i x name q j y dirs) (fewer_near j y e)

  moving_onto_near : (moved : Moving) (i : ℕ) (x : StoredNode) (name : List ℕ) (q : ℕ) (e : StoredEntry) (dirs : List ℕ) → AllNear (looks (moving_onto moved i x name q e dirs) s)
  moving_onto_near moved i x name q e dirs = go (e.inode == moved.entry.inode) (moved.entry.kind == 2 && not (e.kind == 2)) (e.kind == 2 && not (moved.entry.kind == 2))
    where
      go : (a b c : Bool) → AllNear (looks (if a then refused reply.Ok dirs else (if b then refused reply.NotDir dirs else (if c then refused reply.IsDir dirs else ReadInode e.inode (replacing_node moved i x name q e.inode dirs)))) s)
      go true b c = tt
      go false true c = tt
      go false false true = tt
      go false false false = (tt, replacing_near moved i x name q e.inode dirs (s.inode e.inode) refl)

  renaming_to_near : (moved : Moving) (to_dirs dirs : List ℕ) (v : Spot) → AllNear (looks (renaming_to h moved to_dirs dirs v) s)
  renaming_to_near moved to_dirs dirs AtRoot = tt
  renaming_to_near moved to_dirs dirs (Lost r) = tt
  renaming_to_near moved to_dirs dirs (AtName i x name q e) = go (goes_through moved to_dirs)
    where
      go : (b : Bool) → AllNear (looks (if b then refused reply.Inval dirs else moving_onto moved i x name q e dirs) s)
      go true = tt
      go false = moving_onto_near moved i x name q e dirs
  renaming_to_near moved to_dirs dirs (AtGap i x name) = go (goes_through moved to_dirs)
    where
      go : (b : Bool) → AllNear (looks (if b then refused reply.Inval dirs else moving_to h moved i x name dirs) s)
      go true = tt
      go false = asked IsNearAt (moving_to h moved i x name dirs) s (moving_to_asks IsNearAt near_inode near_directory h near_held moved i x name dirs)

  renaming_near : (to : List (List ℕ)) (dirs : List ℕ) (v : Spot) → AllNear (looks (renaming h to dirs v) s)
  renaming_near to dirs AtRoot = tt
  renaming_near to dirs (Lost r) = tt
  renaming_near to dirs (AtGap i x name) = tt
  renaming_near to dirs (AtName i x name q e) =
      let moved : Moving = record { dir = i; directory = x; slot = q; entry = e } in
      bind_near (walk to) (λ w. renaming_to h moved w.dirs (dirs ++ w.dirs) w.spot) (walk_near to) (renaming_to_near moved (run (walk to) s).dirs (dirs ++ (run (walk to) s).dirs) (run (walk to) s).spot)

  renamed_near : (path to : List (List ℕ)) → AllNear (looks (plan_renamed h path to) s)
  renamed_near [] to = tt
  renamed_near (name ∷ names) [] = tt
  renamed_near (name ∷ names) (new ∷ news) =
      let w = run (walk (name ∷ names)) s in
      bind_near (walk (name ∷ names)) (λ w. renaming h (new ∷ news) w.dirs w.spot) (walk_near (name ∷ names)) (renaming_near (new ∷ news) w.dirs w.spot)

  -- ---- truncate
  cut_block : (i : ℕ) (x : StoredNode) (from k : ℕ) → Contains (map (λ b. b / 1024) (blocks_between x from x.blocks)) k → Contains (segments_of i x) k
  cut_block i x from k c =
      let b = has_map (λ b. b / 1024) (blocks_between x from x.blocks) k c in
      let m = has_map (λ index. x.small (from + index)) (below (x.blocks - from)) b.0 b.1 in
      let low : m.0 < x.blocks - from = below_less (x.blocks - from) m.0 m.1 in
      let l : from + m.0 < x.blocks = omega arith in
      let same : x.small (from + m.0) / 1024 ≡ k = ap (λ z. z / 1024) m.2 ∙ b.2 in
      let large : List ℕ = if x.large == 0 then [] else (x.large - 1) ∷ [] in
      let all : List ℕ = map (λ index. x.small index / 1024) (below x.blocks) in
      subst (Contains (segments_of i x)) same
      (has_more (i / 64) (x.small (from + m.0) / 1024) (all ++ large)
      (Contains-append_left all large (x.small (from + m.0) / 1024) (map_has (λ index. x.small index / 1024) (below x.blocks) (from + m.0) (below_has x.blocks (from + m.0) l))))

  cut_large : (i : ℕ) (x : StoredNode) (len k : ℕ) → Contains (large_cut x len) k → Contains (segments_of i x) k
  cut_large i x len k c = has_more (i / 64) k (all ++ (if x.large == 0 then [] else (x.large - 1) ∷ [])) (Contains-append_right all (if x.large == 0 then [] else (x.large - 1) ∷ []) k (go (x.large == 0) (nat_le len 65536) c))
    where
      all : List ℕ
      all = map (λ index. x.small index / 1024) (below x.blocks)

      go : (a b : Bool) → Contains (if not a && b then (x.large - 1) ∷ [] else []) k → Contains (if a then [] else (x.large - 1) ∷ []) k
      go true b c = c
      go false true c = c
      go false false c = absurd (not_in_none k c)

  cut_near : (i : ℕ) (x : StoredNode) (len : ℕ) → s.inode i ≡ Some x → (k : ℕ) → Contains (cut_segments x len) k → IsNear k
  cut_near i x len e k c =
      inr (i, x, e, ⊎_elim (cut_block i x (small_blocks_of len) k) (cut_large i x len k) (Contains-append_cases (map (λ b. b / 1024) (blocks_between x (small_blocks_of len) x.blocks)) (large_cut x len) k c))

  cutting_near : (when len i : ℕ) (touched : List ℕ) (x : StoredNode) → s.inode i ≡ Some x → AllNear (looks (cutting when len i touched x) s)
  cutting_near when len i touched x e = go (nat_lt x.size len)
    where
      go : (b : Bool) → AllNear (looks (if b then refused reply.BadOffset touched else finish_over (cut_segments x len) (cut_by when i touched x len)) s)
      go true = tt
      go false = over_near (cut_segments x len) (cut_by when i touched x len) (cut_near i x len e)

  module _ (next : ℕ → List ℕ → StoredNode → Ask Plan) (each : (i : ℕ) (touched : List ℕ) (x : StoredNode) → s.inode i ≡ Some x → AllNear (looks (next i touched x) s)) where
    with_file_near : (i : ℕ) (touched : List ℕ) (o : Option StoredNode) → s.inode i ≡ o → AllNear (looks (with_file (next i touched) touched o) s)
    with_file_near i touched None e = tt
    with_file_near i touched (Some x) e = go (x.kind == 1)
      where
        go : (b : Bool) → AllNear (looks (if b then next i touched x else refused reply.Inval touched) s)
        go true = each i touched x e
        go false = tt

    at_file_near : (t : Target) → AllNear (looks (at_file next t) s)
    at_file_near t = go (t.kind == 2) (t.kind == 1)
      where
        touched : List ℕ
        touched = t.dirs ++ t.inode ∷ []

        go : (a b : Bool) → AllNear (looks (if a then refused reply.IsDir t.dirs else (if b then ReadInode t.inode (with_file (next t.inode (t.dirs ++ t.inode ∷ [])) (t.dirs ++ t.inode ∷ [])) else refused reply.Inval t.dirs)) s)
        go true b = tt
        go false true = (tt, with_file_near t.inode (t.dirs ++ t.inode ∷ []) (s.inode t.inode) refl)
        go false false = tt

    spot_near : (v : Spot) (dirs : List ℕ) → AllNear (looks (at_spot v dirs refused (at_file next)) s)
    spot_near AtRoot dirs = at_file_near (record { inode = 0; kind = 2; dirs = dirs })
    spot_near (AtName i x name q e) dirs = at_file_near (record { inode = e.inode; kind = e.kind; dirs = dirs })
    spot_near (AtGap i x name) dirs = tt
    spot_near (Lost r) dirs = tt

    file_near : (path : List (List ℕ)) → AllNear (looks (plan_of_file path next) s)
    file_near path = bind_near (walk path) (λ w. at_target w refused (at_file next)) (walk_near path) (spot_near (run (walk path) s).spot (run (walk path) s).dirs)

  -- ---- every operation
  write_near : (w : Writing) (path : List (List ℕ)) → AllNear (looks (plan_of_file path (writing h w)) s)
  write_near w path =
      asked IsNearAt (plan_of_file path (writing h w)) s
      (file_asks IsNearAt near_inode near_directory (writing h w) (λ i touched x. writing_asks IsNearAt near_inode near_directory (λ k part l. tt) (λ g part. tt) h near_held w i touched x) path)

  plan_near : (o : Op) (birth when : ℕ) → AllNear (looks (plan_of h birth when o) s)
  plan_near (op.Create path) birth when = asked IsNearAt (plan_of h birth when (op.Create path)) s (made_asks IsNearAt near_inode near_directory h near_held birth (File [] 1 0) path)
  plan_near (op.Mkdir path) birth when = asked IsNearAt (plan_of h birth when (op.Mkdir path)) s (made_asks IsNearAt near_inode near_directory h near_held birth (Dir [] 0) path)
  plan_near (op.Symlink path target) birth when = asked IsNearAt (plan_of h birth when (op.Symlink path target)) s (made_asks IsNearAt near_inode near_directory h near_held birth (Link target 1) path)
  plan_near (op.Link path to) birth when = asked IsNearAt (plan_of h birth when (op.Link path to)) s (linked_asks IsNearAt near_inode near_directory h near_held path to)
  plan_near (op.Unlink path) birth when = unlinked_near path
  plan_near (op.Rmdir path) birth when = removed_near path
  plan_near (op.Rename path to) birth when = renamed_near path to
  plan_near (op.Write path off bytes) birth when = write_near (record { off = off; len = length bytes; when = when; byte = λ j. slice_index bytes (j - off) }) path
  plan_near (op.Fill path off len value) birth when = write_near (record { off = off; len = len; when = when; byte = λ j. value }) path
  plan_near (op.Truncate path len) birth when = file_near (cutting when len) (cutting_near when len) path
  plan_near (op.Read path off len) birth when =
      asked IsNearAt (plan_of h birth when (op.Read path off len)) s (file_asks IsNearAt near_inode near_directory (showing off len) (showing_asks IsNearAt near_inode near_directory (λ k part l. tt) (λ g part. tt) off len) path)
  plan_near (op.Stat path) birth when = asked IsNearAt (plan_of h birth when (op.Stat path)) s (described_asks IsNearAt near_inode near_directory path)
  plan_near (op.List path) birth when = asked IsNearAt (plan_of h birth when (op.List path)) s (listed_asks IsNearAt near_inode near_directory path)
  plan_near (op.Readlink path) birth when = asked IsNearAt (plan_of h birth when (op.Readlink path)) s (target_asks IsNearAt near_inode near_directory path)
  plan_near (op.Time path) birth when = asked IsNearAt (plan_of h birth when (op.Time path)) s (timed_asks IsNearAt near_inode near_directory path)
  plan_near op.Sync birth when = tt
  plan_near op.Mount birth when = tt
  plan_near op.Unmount birth when = tt
  plan_near op.Crash birth when = tt
  plan_near (op.CrashAt k) birth when = tt
  plan_near (op.CutAt k) birth when = tt
  plan_near op.Stall birth when = tt

  step_near : (birth when : ℕ) (step : Step) → AllNear (step_looks h s birth when step)
  step_near birth when (Goes o) = plan_near o birth when
  step_near birth when (Stops r) = tt

  line_near : (o : Op) (birth when : ℕ) → AllNear (looks (plan_of_line h birth when o) s)
  line_near o birth when =
      let w = run (resolved o) s in
      subst AllNear (sym (looks_line h s birth when o))
      (both_near (looks (resolved o) s) (step_looks h s birth when w.step)
      (none_near (looks (resolved o) s) (asked IsNoSegment (resolved o) s (resolved_asks IsNoSegment (λ i. tt) (λ k part l. tt) o)))
      (step_near birth when w.step))

  one_near : (xs : List Sector) (x : Sector) → AllNear xs → Contains xs x → IsNearAt x
  one_near [] x a c = absurd (not_in_none x c)
  one_near (y ∷ xs) x a c = ⊎_elim (λ q. subst IsNearAt q a.0) (λ i. one_near xs x a.1 i) (has_cases y x xs c)

-- ---- over the disk of a tree

module _ (s : Store) (tree : FileTree) (n : Naming) (of : IsOfTree s tree n) where
  inode_in : (i : ℕ) (x : StoredNode) → s.inode i ≡ Some x → i < 64 * tree.segments
  inode_in i x e =
      let r = node_of s (node_at tree) n of.pictures i x e in
      of.inodes i (of.pictures.bits i ∙ ap is_some (sym (ap n.birth r.number) ∙ of.pictures.numbered r.birth (ap is_some r.is)))

  small_in : (b : ℕ) (node : Node) → node_at tree b ≡ Some node → (x : StoredNode) → x ≡ inode_of (n.stamp b) (n.block b) (n.large b) node → (m : ℕ) → m < x.blocks → x.small m < 1024 * tree.segments
  small_in b (Dir entries blocks) is x q m l =
      let low : m < blocks = subst (λ z. m < z) (ap (λ z. z.blocks) q) l in
      subst (λ z. z < 1024 * tree.segments) (sym (ap (λ z. z.small m) q ∙ first_is blocks (n.block b) m low)) (block_inside s tree n of b m (subst (λ o. m < blocks_of o) (sym is) low))
  small_in b (File cells links when) is x q m l =
      let low : m < small_blocks_of (length cells) = subst (λ z. m < z) (ap (λ z. z.blocks) q) l in
      subst (λ z. z < 1024 * tree.segments) (sym (ap (λ z. z.small m) q ∙ first_is (small_blocks_of (length cells)) (n.block b) m low)) (block_inside s tree n of b m (subst (λ o. m < blocks_of o) (sym is) low))
  small_in b (Link target links) is x q m l = absurd (let low : m < 0 = subst (λ z. m < z) (ap (λ z. z.blocks) q) l in omega arith)

  large_in : (b : ℕ) (node : Node) → node_at tree b ≡ Some node → (x : StoredNode) → x ≡ inode_of (n.stamp b) (n.block b) (n.large b) node → (k : ℕ) → Contains (if x.large == 0 then [] else (x.large - 1) ∷ []) k → k < tree.segments
  large_in b (Dir entries blocks) is x q k c = absurd (not_in_none k (subst (λ z. Contains (if z == 0 then [] else (z - 1) ∷ []) k) (ap (λ z. z.large) q) c))
  large_in b (Link target links) is x q k c = absurd (not_in_none k (subst (λ z. Contains (if z == 0 then [] else (z - 1) ∷ []) k) (ap (λ z. z.large) q) c))
  large_in b (File cells links when) is x q k c = go (nat_lt 65536 (length cells)) refl (subst (λ z. Contains (if z == 0 then [] else (z - 1) ∷ []) k) (ap (λ z. z.large) q) c)
    where
      taken : nat_lt 65536 (length cells) ≡ true → n.large b < tree.segments
      taken e = of.larges (n.large b) (of.pictures.large_bits (n.large b) ∙ ap is_some (of.pictures.larges b (rw is e)))

      only : (g : ℕ) → g < tree.segments → Contains (if g + 1 == 0 then [] else (g + 1 - 1) ∷ []) k → k < tree.segments
      only g l c = by_test (g + 1 == 0) c
        where
          by_test : (t : Bool) → Contains (if t then [] else (g + 1 - 1) ∷ []) k → k < tree.segments
          by_test true c = absurd (not_in_none k c)
          by_test false c = ⊎_elim (λ e. let same : g + 1 - 1 ≡ k = e in omega (arith, l, same)) (λ c. absurd (not_in_none k c)) (has_cases (g + 1 - 1) k [] c)

      go : (t : Bool) → nat_lt 65536 (length cells) ≡ t → Contains (if (if t then n.large b + 1 else 0) == 0 then [] else ((if t then n.large b + 1 else 0) - 1) ∷ []) k → k < tree.segments
      go true e c = only (n.large b) (taken e) c
      go false e c = absurd (not_in_none k c)

  of_node : (i : ℕ) (x : StoredNode) → s.inode i ≡ Some x → (k : ℕ) → Contains (segments_of i x) k → k < tree.segments
  of_node i x e k c =
      let r = node_of s (node_at tree) n of.pictures i x e in
      let all : List ℕ = map (λ index. x.small index / 1024) (below x.blocks) in
      let large : List ℕ = if x.large == 0 then [] else (x.large - 1) ∷ [] in
      ⊎_elim (λ q. let l : i < 64 * tree.segments = inode_in i x e in let same : i / 64 ≡ k = q in omega arith)
      (λ d. ⊎_elim
      (λ f.
      (let m = has_map (λ index. x.small index / 1024) (below x.blocks) k f in
      let l : x.small m.0 < 1024 * tree.segments = small_in r.birth r.node r.is x r.inode m.0 (below_less x.blocks m.0 m.1) in
      let same : x.small m.0 / 1024 ≡ k = m.2 in
      omega arith))
      (λ f. large_in r.birth r.node r.is x r.inode k f)
      (Contains-append_cases all large k d))
      (has_cases (i / 64) k (all ++ large) c)

  -- each segment at which a line looks
  pub lines_look_in_segments : (o : Op) (h : Hand) (birth when : ℕ) → IsHandOf h s tree.segments → (k : ℕ) → Contains (looks (plan_of_line h birth when o) s) (SegmentAt k) → k < tree.segments
  lines_look_in_segments o h birth when hand k c = ⊎_elim (λ held. hand.within k (held_key h.held k held)) (λ r. of_node r.0 r.1 r.2 k r.3) (one_near h s (looks (plan_of_line h birth when o) s) (SegmentAt k) (line_near h s o birth when) c)
