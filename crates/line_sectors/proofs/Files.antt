-- The plans of looks and of file bytes look only at sectors of blocks that are a directory's, where they look at directories.
use Rattle.std.proofs.Common.{◌≡◌, ◌≤◌, ◌<◌, ◌+◌, ◌-◌, ◌*◌, ◌/◌, ◌%◌, ◌==◌, ◌&&◌, ℕ, zero, suc, inl, Bool, true, false, nat_lt, min, max, Option, Some, None, List, [], ◌∷◌, ◌++◌, map, take, drop, if◌then◌else◌, is_some, refl, sym, ◌∙◌, subst, arith}
use Rattle.std.proofs.lemmas.Bool.Decides.{nat_tests}
use Rattle.std.proofs.lemmas.Bool.{false≢true}
use Rattle.std.specs.Map.{keys_of}
use Rattle.frang_base.specs.declared.limits.TheConstants.{FILE_BYTES_MAX, SMALL_BYTES_MAX}
use Rattle.frang_base.specs.declared.reply.Reply.TheVariants as reply
use Rattle.tree_definitions.specs.declared.node.Node.{Node}
use Rattle.tree_definitions.specs.declared.node.Node.TheVariants.{Dir, File, Link}
use Rattle.tree_definitions.specs.Apply.{is_dir}
use Rattle.tree_definitions.specs.Numbers.{below}
use Rattle.tree_definitions.specs.Place.{place}
use Rattle.tree_definitions.specs.Tree.{FileTree, node_at, small_blocks_of}
use Rattle.tree_laws.proofs.Places.{dir_is_some}
use Rattle.tree_laws.proofs.Keeping.{names_nodes}
use Rattle.disk_definitions.specs.Store.{Store, StoredNode, StoredEntry}
use Rattle.disk_definitions.specs.Naming.{Naming, first_blocks}
use Rattle.disk_definitions.proofs.Kept.{inode_is}
use Rattle.disk_definitions.specs.Edits.{Edit}
use Rattle.disk_definitions.specs.Picks.{picked_many, picked_large}
use Rattle.disk_definitions.specs.Ask.{Sector, Ask, Got, ReadInode, ReadBytes, ReadLarge, seven, part_of, run, looks}
use Rattle.disk_definitions.specs.Walks.{Target, at_spot, walk}
use Rattle.disk_definitions.specs.Plans.{Hand, Plan, refused, read_held}
use Rattle.disk_definitions.specs.Plans.Plan.{Finishes}
use Rattle.disk_definitions.specs.NamePlans.{finish_over}
use Rattle.disk_definitions.specs.LookPlans.{plan_of_node, with_inode, at_inode, entries_of, read_entries, sorted_names, listing}
use Rattle.disk_definitions.specs.FilePlans.{Writing, end_of, keeps_bytes, mixed, read_sector, set_sector, write_sector, write_sectors, sectors_met, resized, written_by, writing_in, writing_picked, writing_small, writing_large, writing, cut_segments, cut_by, cutting, read_sectors, showing, with_file, at_file, plan_of_file}
use Rattle.disk_definitions.specs.Meets.{IsOfTree, is_directory_use}
use Rattle.plan_laws.proofs.Cases.{inode_by, by_spot}
use Rattle.plan_laws.proofs.Walking.{walks_lead}
use Rattle.line_sectors.proofs.Walks.{AreOfDirectories, then_of, block_of, walk_of}
use Rattle.line_sectors.proofs.Names.{segments_of}

-- ---- bytes and segments

module _ (h : Hand) (s : Store) where
  abbrev All : List Sector → Type 0
  All = AreOfDirectories h s

  sector_of : {A : Type 0} (x : StoredNode) (t : ℕ) (next : (ℕ → ℕ) → Ask A) → ((f : ℕ → ℕ) → All (looks (next f) s)) → All (looks (read_sector x t next) s)
  sector_of x t next f = go (nat_lt t 128)
    where
      go : (b : Bool) → All (looks (if b then ReadBytes (x.small (t / 8)) (t % 8) next else ReadLarge (x.large - 1) (t - 128) next) s)
      go true = (tt, f (part_of s.byte (x.small (t / 8)) (t % 8)))
      go false = (tt, f (part_of s.large_byte (x.large - 1) (t - 128)))

  write_of : (w : Writing) (x y : StoredNode) (t : ℕ) (next : List Edit → Ask Plan) → ((es : List Edit) → All (looks (next es) s)) → All (looks (write_sector w x y t next) s)
  write_of w x y t next f = go (keeps_bytes w x.size t)
    where
      go : (b : Bool) → All (looks (if b then read_sector x t (λ old. next (set_sector y t (mixed w t old) ∷ [])) else next (set_sector y t (mixed w t (λ r. 0)) ∷ [])) s)
      go true = sector_of x t (λ old. next (set_sector y t (mixed w t old) ∷ [])) (λ old. f (set_sector y t (mixed w t old) ∷ []))
      go false = f (set_sector y t (mixed w t (λ r. 0)) ∷ [])

  writes_of : (w : Writing) (x y : StoredNode) (n t : ℕ) (next : List Edit → Ask Plan) → ((es : List Edit) → All (looks (next es) s)) → All (looks (write_sectors w x y t n next) s)
  writes_of w x y zero t next f = f []
  writes_of w x y (suc n) t next f = write_of w x y t (λ one. write_sectors w x y (t + 1) n (λ more. next (one ++ more))) (λ one. writes_of w x y n (t + 1) (λ more. next (one ++ more)) (λ more. f (one ++ more)))

  reads_of : (x : StoredNode) (n t : ℕ) (next : List ℕ → Ask Plan) → ((bytes : List ℕ) → All (looks (next bytes) s)) → All (looks (read_sectors x t n next) s)
  reads_of x zero t next f = f []
  reads_of x (suc n) t next f =
      sector_of x t (λ bytes. read_sectors x (t + 1) n (λ more. next (map bytes (below 512) ++ more))) (λ bytes. reads_of x n (t + 1) (λ more. next (map bytes (below 512) ++ more)) (λ more. f (map bytes (below 512) ++ more)))

  module _ (w : Writing) (i : ℕ) (touched : List ℕ) (x : StoredNode) where
    in_of : (picks : List ℕ) (large : Option ℕ) → All (looks (writing_in w i touched x picks large) s)
    in_of picks large =
        let y = resized x w.when (max x.size (end_of w)) picks large in
        writes_of w x y (sectors_met w.off w.len) (w.off / 512) (λ bytes. Got (Finishes (written_by i y picks large touched bytes))) (λ bytes. tt)

    picked_of : (large : Option ℕ) (o : Option (List ℕ)) → All (looks (writing_picked h w i touched x large o) s)
    picked_of large None = tt
    picked_of large (Some picks) = in_of picks large

    abbrev more : ℕ
    more = small_blocks_of (max x.size (end_of w)) - x.blocks

    small_of : (large : Option ℕ) → All (looks (writing_small h w i touched x large) s)
    small_of large = go (more == 0)
      where
        go : (b : Bool) → All (looks (if b then writing_in w i touched x [] large else read_held h (writing_picked h w i touched x large (picked_many h.held more))) s)
        go true = in_of [] large
        go false = segments_of h s (keys_of h.held) (writing_picked h w i touched x large (picked_many h.held more)) (picked_of large (picked_many h.held more))

    large_of : (o : Option ℕ) → All (looks (writing_large h w i touched x o) s)
    large_of None = tt
    large_of (Some g) = small_of (Some g)

    pub writing_of : All (looks (writing h w i touched x) s)
    writing_of = go (nat_lt x.size w.off) (nat_lt FILE_BYTES_MAX (end_of w)) (nat_lt SMALL_BYTES_MAX (end_of w) && x.large == 0)
      where
        go : (p q r : Bool) → All (looks (if p then refused reply.BadOffset touched else (if q then refused reply.TooBig touched else (if r then read_held h (writing_large h w i touched x (picked_large h.held)) else writing_small h w i touched x None))) s)
        go true q r = tt
        go false true r = tt
        go false false true = segments_of h s (keys_of h.held) (writing_large h w i touched x (picked_large h.held)) (large_of (picked_large h.held))
        go false false false = small_of None

  pub cutting_of : (when len i : ℕ) (touched : List ℕ) (x : StoredNode) → All (looks (cutting when len i touched x) s)
  cutting_of when len i touched x = go (nat_lt x.size len)
    where
      go : (b : Bool) → All (looks (if b then refused reply.BadOffset touched else finish_over (cut_segments x len) (cut_by when i touched x len)) s)
      go true = tt
      go false = segments_of h s (cut_segments x len) (Got (Finishes (cut_by when i touched x len))) tt

  pub showing_of : (off len i : ℕ) (touched : List ℕ) (x : StoredNode) → All (looks (showing off len i touched x) s)
  showing_of off len i touched x = go (min len (x.size - off)) (nat_lt x.size off)
    where
      go : (shown : ℕ) (b : Bool) → All (looks (if b then refused reply.BadOffset touched else read_sectors x (off / 512) (sectors_met off shown) (λ bytes. refused (reply.Shown (take shown (drop (off % 512) bytes))) touched)) s)
      go shown true = tt
      go shown false = reads_of x (sectors_met off shown) (off / 512) (λ bytes. refused (reply.Shown (take shown (drop (off % 512) bytes))) touched) (λ bytes. tt)

  entries_all : (small : ℕ → ℕ) (n j : ℕ) (next : List StoredEntry → Ask Plan) → ((t : ℕ) → j ≤ t → t < j + n → is_directory_use (s.use_of (small (t / 8))) ≡ true) → ((es : List StoredEntry) → All (looks (next es) s)) →
      All (looks (read_entries small j n next) s)
  entries_all small zero j next f g = g []
  entries_all small (suc n) j next f g =
      let v = seven s.place (small (j / 8)) (j % 8) in
      (inl (f j (omega arith) (omega arith)), entries_all small n (j + 1) (λ more. next (entries_of v ++ more)) (λ t a b. f t (omega arith) (omega arith)) (λ more. g (entries_of v ++ more)))

-- ---- the node that a path names

module _ (h : Hand) (s : Store) (tree : FileTree) (n : Naming) (of : IsOfTree s tree n) where
  abbrev AllOf : List Sector → Type 0
  AllOf = AreOfDirectories h s

  -- its inode and its kind are the tree's
  pub record IsTarget (t : Target) : Type 0 where
    pub node : ℕ
    pub there : is_some (node_at tree node) ≡ true
    pub inode : t.inode ≡ n.inode node
    pub kind : t.kind ≡ n.kind node

  pub node_then : (path : List (List ℕ)) (next : Target → Ask Plan) → ((t : Target) → IsTarget t → AllOf (looks (next t) s)) → AllOf (looks (plan_of_node path next) s)
  node_then path next f = then_of h s (walk path) (λ w. at_spot w.spot w.dirs refused next) (walk_of h s tree n of path) (at_end (run (walk path) s).dirs)
    where
      root : (dirs : List ℕ) → AllOf (looks (next (record { inode = 0; kind = 2; dirs = dirs })) s)
      root dirs = f (record { inode = 0; kind = 2; dirs = dirs }) (record { node = 0; there = dir_is_some (node_at tree 0) of.well_formed.rooted; inode = sym of.root; kind = root_kind (node_at tree 0) refl of.well_formed.rooted })
        where
          root_kind : (o : Option Node) → node_at tree 0 ≡ o → is_dir o ≡ true → 2 ≡ n.kind 0
          root_kind None e r = absurd (cc)
          root_kind (Some (Dir entries blocks)) e r = sym (of.pictures.kinds 0 (Dir entries blocks) e)
          root_kind (Some (File cells links when)) e r = absurd (cc)
          root_kind (Some (Link target links)) e r = absurd (cc)

      at_end : (dirs : List ℕ) → AllOf (looks (at_spot (run (walk path) s).spot dirs refused next) s)
      at_end dirs = by_spot s (node_at tree) n of.pictures (λ v p. AllOf (looks (at_spot v dirs refused next) s)) (root dirs) (λ r. tt)
          (λ d blocks entries name b is at. f (record { inode = n.inode b; kind = n.kind b; dirs = dirs }) (record { node = b; there = names_nodes tree of.well_formed d entries blocks name b is at; inode = refl; kind = refl }))
          (λ d blocks entries name is at. tt) (run (walk path) s).spot (place tree path) (walks_lead s tree n path of).0

  -- the inode of the node, and then no further look
  pub inode_then : (next : List ℕ → StoredNode → Ask Plan) → ((touched : List ℕ) (x : StoredNode) → AllOf (looks (next touched x) s)) → (t : Target) → AllOf (looks (at_inode next t) s)
  inode_then next f t = (tt, with_it (s.inode t.inode))
    where
      with_it : (o : Option StoredNode) → AllOf (looks (with_inode next (t.dirs ++ t.inode ∷ []) o) s)
      with_it None = tt
      with_it (Some x) = f (t.dirs ++ t.inode ∷ []) x

  -- a directory
  listing_of : (touched : List ℕ) (b : ℕ) (o : Option Node) → node_at tree b ≡ o → is_some o ≡ true → n.kind b ≡ 2 → AllOf (looks (with_inode listing touched (s.inode (n.inode b))) s)
  listing_of touched b None e there k = absurd (false≢true there)
  listing_of touched b (Some node) e there k = subst (λ x. AllOf (looks (with_inode listing touched x) s)) (sym (inode_is s (node_at tree) n of.pictures b node e)) (of_node node e)
    where
      of_node : (node : Node) → node_at tree b ≡ Some node → AllOf (looks (with_inode listing touched (Some (inode_by n b node))) s)
      of_node (Dir entries blocks) e = entries_all h s (first_blocks blocks (n.block b)) (8 * blocks) 0 (λ es. refused (reply.Names (sorted_names es)) touched) (λ t lo hi.
          (let l : t / 8 < blocks = omega arith in let z : nat_lt (t / 8) blocks ≡ true = grind (arith, nat_tests) in rw z (block_of h s tree n of b (t / 8) blocks entries e l))) (λ es. tt)
      of_node (File cells links when) e = absurd (let z : 1 ≡ 2 = sym (of.pictures.kinds b (File cells links when) e) ∙ k in omega arith)
      of_node (Link target links) e = absurd (let z : 3 ≡ 2 = sym (of.pictures.kinds b (Link target links) e) ∙ k in omega arith)

  pub list_then : (t : Target) → IsTarget t → t.kind ≡ 2 → AllOf (looks (at_inode listing t) s)
  list_then t is k = (tt, subst (λ i. AllOf (looks (with_inode listing (t.dirs ++ t.inode ∷ []) (s.inode i)) s)) (sym is.inode) (listing_of (t.dirs ++ t.inode ∷ []) is.node (node_at tree is.node) refl is.there (sym is.kind ∙ k)))

  pub file_then : (path : List (List ℕ)) (next : ℕ → List ℕ → StoredNode → Ask Plan) → ((i : ℕ) (touched : List ℕ) (x : StoredNode) → AllOf (looks (next i touched x) s)) → AllOf (looks (plan_of_file path next) s)
  file_then path next f = node_then path (at_file next) (λ t is. by_kind t (t.kind == 2) (t.kind == 1))
    where
      if_file : (t : Target) (x : StoredNode) (c : Bool) → AllOf (looks (if c then next t.inode (t.dirs ++ t.inode ∷ []) x else refused reply.Inval (t.dirs ++ t.inode ∷ [])) s)
      if_file t x true = f t.inode (t.dirs ++ t.inode ∷ []) x
      if_file t x false = tt

      with_it : (t : Target) (o : Option StoredNode) → AllOf (looks (with_file (next t.inode (t.dirs ++ t.inode ∷ [])) (t.dirs ++ t.inode ∷ []) o) s)
      with_it t None = tt
      with_it t (Some x) = if_file t x (x.kind == 1)

      by_kind : (t : Target) (p q : Bool) →
          AllOf (looks (if p then refused reply.IsDir t.dirs else (if q then ReadInode t.inode (with_file (next t.inode (t.dirs ++ t.inode ∷ [])) (t.dirs ++ t.inode ∷ [])) else refused reply.Inval t.dirs)) s)
      by_kind t true q = tt
      by_kind t false true = (tt, with_it t (s.inode t.inode))
      by_kind t false false = tt
