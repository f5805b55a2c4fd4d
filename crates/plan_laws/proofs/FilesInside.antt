-- The plans of looks and of file bytes look only at inodes and blocks that the disk has.
use Rattle.std.proofs.Common.{◌≡◌, ◌<◌, ◌≤◌, ◌+◌, ◌-◌, ◌*◌, ◌/◌, ◌%◌, ◌==◌, ◌&&◌, ℕ, zero, suc, Bool, true, false, nat_lt, min, max, Option, Some, None, List, [], ◌∷◌, ◌++◌, map, take, drop, if◌then◌else◌, is_some, length, refl, sym, subst, arith}
use Rattle.std.proofs.lemmas.Bool.Decides.{nat_tests}
use Rattle.std.specs.Map.{keys_of}
use Rattle.frang_base.specs.declared.limits.TheConstants.{FILE_BYTES_MAX, SMALL_BYTES_MAX}
use Rattle.frang_base.specs.declared.reply.Reply.TheVariants as reply
use Rattle.tree_definitions.specs.declared.node.Node.{Node}
use Rattle.tree_definitions.specs.declared.node.Node.TheVariants.{Dir, File, Link}
use Rattle.tree_definitions.specs.Apply.{is_dir}
use Rattle.tree_definitions.specs.Numbers.{below}
use Rattle.tree_definitions.specs.Place.{place}
use Rattle.tree_definitions.specs.Tree.{FileTree, node_at, small_blocks_of}
use Rattle.tree_laws.proofs.Places.{dir_is_some}
use Rattle.tree_laws.proofs.Keeping.{names_nodes}
use Rattle.disk_definitions.specs.Store.{Store, StoredNode, StoredEntry}
use Rattle.disk_definitions.specs.Naming.{Naming, blocks_of, first_blocks}
use Rattle.disk_definitions.proofs.Kept.{inode_is}
use Rattle.disk_definitions.specs.Edits.{Edit}
use Rattle.disk_definitions.specs.Picks.{picked_many, picked_large}
use Rattle.disk_definitions.specs.Ask.{Sector, Ask, Got, ReadInode, ReadBytes, ReadLarge, seven, part_of, run, looks}
use Rattle.disk_definitions.specs.Walks.{Target, at_spot, walk}
use Rattle.disk_definitions.specs.Plans.{Hand, Plan, refused, read_held}
use Rattle.disk_definitions.specs.NamePlans.{finish_over}
use Rattle.disk_definitions.specs.LookPlans.{plan_of_node, with_inode, at_inode, entries_of, read_entries, sorted_names, listing}
use Rattle.disk_definitions.specs.FilePlans.{Writing, end_of, keeps_bytes, mixed, read_sector, set_sector, write_sector, write_sectors, sectors_met, resized, written_by, writing_in, writing_picked, writing_small, writing_large, writing, cut_segments, cut_by, cutting, read_sectors, showing, with_file, at_file, plan_of_file}
use Rattle.disk_definitions.specs.Plans.Plan.{Finishes}
use Rattle.disk_definitions.specs.Meets.{IsOfTree}
use Rattle.plan_laws.proofs.Cases.{inode_by, by_spot}
use Rattle.plan_laws.proofs.Walking.{walks_lead}
use Rattle.plan_laws.specs.Inside.{AreInside}
use Rattle.plan_laws.proofs.WalksInside.{inside_bind, inode_inside, block_inside, walk_inside}
use Rattle.plan_laws.proofs.NamesInside.{segments_inside}

-- ---- bytes and segments, which every disk has

module _ (segments : ℕ) (s : Store) where
  sector_inside : {A : Type 0} (x : StoredNode) (t : ℕ) (next : (ℕ → ℕ) → Ask A) → ((f : ℕ → ℕ) → AreInside segments (looks (next f) s)) → AreInside segments (looks (read_sector x t next) s)
  sector_inside x t next f = go (nat_lt t 128)
    where
      go : (b : Bool) → AreInside segments (looks (if b then ReadBytes (x.small (t / 8)) (t % 8) next else ReadLarge (x.large - 1) (t - 128) next) s)
      go true = (tt, f (part_of s.byte (x.small (t / 8)) (t % 8)))
      go false = (tt, f (part_of s.large_byte (x.large - 1) (t - 128)))

  write_inside : (w : Writing) (x y : StoredNode) (t : ℕ) (next : List Edit → Ask Plan) → ((es : List Edit) → AreInside segments (looks (next es) s)) → AreInside segments (looks (write_sector w x y t next) s)
  write_inside w x y t next f = go (keeps_bytes w x.size t)
    where
      go : (b : Bool) → AreInside segments (looks (if b then read_sector x t (λ old. next (set_sector y t (mixed w t old) ∷ [])) else next (set_sector y t (mixed w t (λ r. 0)) ∷ [])) s)
      go true = sector_inside x t (λ old. next (set_sector y t (mixed w t old) ∷ [])) (λ old. f (set_sector y t (mixed w t old) ∷ []))
      go false = f (set_sector y t (mixed w t (λ r. 0)) ∷ [])

  writes_inside : (w : Writing) (x y : StoredNode) (n t : ℕ) (next : List Edit → Ask Plan) → ((es : List Edit) → AreInside segments (looks (next es) s)) → AreInside segments (looks (write_sectors w x y t n next) s)
  writes_inside w x y zero t next f = f []
  writes_inside w x y (suc n) t next f = write_inside w x y t (λ one. write_sectors w x y (t + 1) n (λ more. next (one ++ more))) (λ one. writes_inside w x y n (t + 1) (λ more. next (one ++ more)) (λ more. f (one ++ more)))

  reads_inside : (x : StoredNode) (n t : ℕ) (next : List ℕ → Ask Plan) → ((bytes : List ℕ) → AreInside segments (looks (next bytes) s)) → AreInside segments (looks (read_sectors x t n next) s)
  reads_inside x zero t next f = f []
  reads_inside x (suc n) t next f =
      sector_inside x t (λ bytes. read_sectors x (t + 1) n (λ more. next (map bytes (below 512) ++ more))) (λ bytes. reads_inside x n (t + 1) (λ more. next (map bytes (below 512) ++ more)) (λ more. f (map bytes (below 512) ++ more)))

  module _ (h : Hand) (w : Writing) (i : ℕ) (touched : List ℕ) (x : StoredNode) where
    in_inside : (picks : List ℕ) (large : Option ℕ) → AreInside segments (looks (writing_in w i touched x picks large) s)
    in_inside picks large =
        let y = resized x w.when (max x.size (end_of w)) picks large in
        writes_inside w x y (sectors_met w.off w.len) (w.off / 512) (λ bytes. Got (Finishes (written_by i y picks large touched bytes))) (λ bytes. tt)

    picked_inside : (large : Option ℕ) (o : Option (List ℕ)) → AreInside segments (looks (writing_picked h w i touched x large o) s)
    picked_inside large None = tt
    picked_inside large (Some picks) = in_inside picks large

    abbrev more : ℕ
    more = small_blocks_of (max x.size (end_of w)) - x.blocks

    small_inside : (large : Option ℕ) → AreInside segments (looks (writing_small h w i touched x large) s)
    small_inside large = go (more == 0)
      where
        go : (b : Bool) → AreInside segments (looks (if b then writing_in w i touched x [] large else read_held h (writing_picked h w i touched x large (picked_many h.held more))) s)
        go true = in_inside [] large
        go false = segments_inside segments s (keys_of h.held) (writing_picked h w i touched x large (picked_many h.held more)) (picked_inside large (picked_many h.held more))

    large_inside : (o : Option ℕ) → AreInside segments (looks (writing_large h w i touched x o) s)
    large_inside None = tt
    large_inside (Some g) = small_inside (Some g)

    pub writing_inside : AreInside segments (looks (writing h w i touched x) s)
    writing_inside = go (nat_lt x.size w.off) (nat_lt FILE_BYTES_MAX (end_of w)) (nat_lt SMALL_BYTES_MAX (end_of w) && x.large == 0)
      where
        go : (p q r : Bool) → AreInside segments (looks (if p then refused reply.BadOffset touched else (if q then refused reply.TooBig touched else (if r then read_held h (writing_large h w i touched x (picked_large h.held)) else writing_small h w i touched x None))) s)
        go true q r = tt
        go false true r = tt
        go false false true = segments_inside segments s (keys_of h.held) (writing_large h w i touched x (picked_large h.held)) (large_inside (picked_large h.held))
        go false false false = small_inside None

  pub cutting_inside : (when len i : ℕ) (touched : List ℕ) (x : StoredNode) → AreInside segments (looks (cutting when len i touched x) s)
  cutting_inside when len i touched x = go (nat_lt x.size len)
    where
      go : (b : Bool) → AreInside segments (looks (if b then refused reply.BadOffset touched else finish_over (cut_segments x len) (cut_by when i touched x len)) s)
      go true = tt
      go false = segments_inside segments s (cut_segments x len) (Got (Finishes (cut_by when i touched x len))) tt

  pub showing_inside : (off len i : ℕ) (touched : List ℕ) (x : StoredNode) → AreInside segments (looks (showing off len i touched x) s)
  showing_inside off len i touched x = go (min len (x.size - off)) (nat_lt x.size off)
    where
      go : (shown : ℕ) (b : Bool) → AreInside segments (looks (if b then refused reply.BadOffset touched else read_sectors x (off / 512) (sectors_met off shown) (λ bytes. refused (reply.Shown (take shown (drop (off % 512) bytes))) touched)) s)
      go shown true = tt
      go shown false = reads_inside x (sectors_met off shown) (off / 512) (λ bytes. refused (reply.Shown (take shown (drop (off % 512) bytes))) touched) (λ bytes. tt)

  entries_inside : (small : ℕ → ℕ) (n j : ℕ) (next : List StoredEntry → Ask Plan) → ((t : ℕ) → j ≤ t → t < j + n → small (t / 8) < 1024 * segments) → ((es : List StoredEntry) → AreInside segments (looks (next es) s)) →
      AreInside segments (looks (read_entries small j n next) s)
  entries_inside small zero j next f g = g []
  entries_inside small (suc n) j next f g =
      let v = seven s.place (small (j / 8)) (j % 8) in
      (f j (omega arith) (omega arith), entries_inside small n (j + 1) (λ more. next (entries_of v ++ more)) (λ t a b. f t (omega arith) (omega arith)) (λ more. g (entries_of v ++ more)))

-- ---- the node that a path names

module _ (s : Store) (tree : FileTree) (n : Naming) (of : IsOfTree s tree n) where
  abbrev AllIn : List Sector → Type 0
  AllIn = AreInside tree.segments

  pub node_then : (path : List (List ℕ)) (next : Target → Ask Plan) → ((t : Target) (b : ℕ) → is_some (node_at tree b) ≡ true → t.inode ≡ n.inode b → t.kind ≡ n.kind b → AllIn (looks (next t) s)) → AllIn (looks (plan_of_node path next) s)
  node_then path next f = inside_bind tree.segments (walk path) (λ w. at_spot w.spot w.dirs refused next) s (walk_inside s tree n of path) (at_end (run (walk path) s).dirs)
    where
      root : (dirs : List ℕ) → AllIn (looks (next (record { inode = 0; kind = 2; dirs = dirs })) s)
      root dirs = f (record { inode = 0; kind = 2; dirs = dirs }) 0 (dir_is_some (node_at tree 0) of.well_formed.rooted) (sym of.root) (root_kind (node_at tree 0) refl of.well_formed.rooted)
        where
          root_kind : (o : Option Node) → node_at tree 0 ≡ o → is_dir o ≡ true → 2 ≡ n.kind 0
          root_kind None e r = absurd (cc)
          root_kind (Some (Dir entries blocks)) e r = sym (of.pictures.kinds 0 (Dir entries blocks) e)
          root_kind (Some (File cells links when)) e r = absurd (cc)
          root_kind (Some (Link target links)) e r = absurd (cc)

      at_end : (dirs : List ℕ) → AllIn (looks (at_spot (run (walk path) s).spot dirs refused next) s)
      at_end dirs = by_spot s (node_at tree) n of.pictures (λ v p. AllIn (looks (at_spot v dirs refused next) s)) (root dirs) (λ r. tt)
          (λ d blocks entries name b is at. f (record { inode = n.inode b; kind = n.kind b; dirs = dirs }) b (names_nodes tree of.well_formed d entries blocks name b is at) refl refl)
          (λ d blocks entries name is at. tt) (run (walk path) s).spot (place tree path) (walks_lead s tree n path of).0

  target_inside : (t : Target) (b : ℕ) → is_some (node_at tree b) ≡ true → t.inode ≡ n.inode b → t.inode < 64 * tree.segments
  target_inside t b there e = subst (λ i. i < 64 * tree.segments) (sym e) (inode_inside s tree n of b there)

  -- the inode of the node, and then no further look
  pub inode_then : (next : List ℕ → StoredNode → Ask Plan) → ((touched : List ℕ) (x : StoredNode) → AllIn (looks (next touched x) s)) → (t : Target) (b : ℕ) → is_some (node_at tree b) ≡ true → t.inode ≡ n.inode b → t.kind ≡ n.kind b → AllIn (looks (at_inode next t) s)
  inode_then next f t b there e k = (target_inside t b there e, with_it (s.inode t.inode))
    where
      with_it : (o : Option StoredNode) → AllIn (looks (with_inode next (t.dirs ++ t.inode ∷ []) o) s)
      with_it None = tt
      with_it (Some x) = f (t.dirs ++ t.inode ∷ []) x

  listing_inside : (touched : List ℕ) (b : ℕ) (o : Option Node) → node_at tree b ≡ o → is_some o ≡ true → AllIn (looks (with_inode listing touched (s.inode (n.inode b))) s)
  listing_inside touched b None e there = absurd (cc)
  listing_inside touched b (Some node) e there = subst (λ x. AllIn (looks (with_inode listing touched x) s)) (sym (inode_is s (node_at tree) n of.pictures b node e)) (of_node node e)
    where
      listed : (count : ℕ) → count ≡ blocks_of (node_at tree b) → (next : List StoredEntry → Ask Plan) → ((es : List StoredEntry) → AllIn (looks (next es) s)) → AllIn (looks (read_entries (first_blocks count (n.block b)) 0 (8 * count) next) s)
      listed count c next g = entries_inside tree.segments s (first_blocks count (n.block b)) (8 * count) 0 next (λ t lo hi.
          (let l : t / 8 < count = omega arith in let z : nat_lt (t / 8) count ≡ true = grind (arith, nat_tests) in rw z (block_inside s tree n of b (t / 8) (subst (λ c. t / 8 < c) c l)))) g

      of_node : (node : Node) → node_at tree b ≡ Some node → AllIn (looks (with_inode listing touched (Some (inode_by n b node))) s)
      of_node (Dir entries blocks) e = listed blocks (rw e refl) (λ es. refused (reply.Names (sorted_names es)) touched) (λ es. tt)
      of_node (File cells links when) e = listed (small_blocks_of (length cells)) (rw e refl) (λ es. refused (reply.Names (sorted_names es)) touched) (λ es. tt)
      of_node (Link target links) e = listed 0 (rw e refl) (λ es. refused (reply.Names (sorted_names es)) touched) (λ es. tt)

  pub list_then : (t : Target) (b : ℕ) → is_some (node_at tree b) ≡ true → t.inode ≡ n.inode b → t.kind ≡ n.kind b → AllIn (looks (at_inode listing t) s)
  list_then t b there e k = (target_inside t b there e, subst (λ i. AllIn (looks (with_inode listing (t.dirs ++ t.inode ∷ []) (s.inode i)) s)) (sym e) (listing_inside (t.dirs ++ t.inode ∷ []) b (node_at tree b) refl there))

  pub file_then : (path : List (List ℕ)) (next : ℕ → List ℕ → StoredNode → Ask Plan) → ((i : ℕ) (touched : List ℕ) (x : StoredNode) → AllIn (looks (next i touched x) s)) → AllIn (looks (plan_of_file path next) s)
  file_then path next f = node_then path (at_file next) (λ t b there e k. by_kind t b there e (t.kind == 2) (t.kind == 1))
    where
      if_file : (t : Target) (x : StoredNode) (c : Bool) → AllIn (looks (if c then next t.inode (t.dirs ++ t.inode ∷ []) x else refused reply.Inval (t.dirs ++ t.inode ∷ [])) s)
      if_file t x true = f t.inode (t.dirs ++ t.inode ∷ []) x
      if_file t x false = tt

      with_it : (t : Target) (o : Option StoredNode) → AllIn (looks (with_file (next t.inode (t.dirs ++ t.inode ∷ [])) (t.dirs ++ t.inode ∷ []) o) s)
      with_it t None = tt
      with_it t (Some x) = if_file t x (x.kind == 1)

      by_kind : (t : Target) (b : ℕ) → is_some (node_at tree b) ≡ true → t.inode ≡ n.inode b → (p q : Bool) →
          AllIn (looks (if p then refused reply.IsDir t.dirs else (if q then ReadInode t.inode (with_file (next t.inode (t.dirs ++ t.inode ∷ [])) (t.dirs ++ t.inode ∷ [])) else refused reply.Inval t.dirs)) s)
      by_kind t b there e true q = tt
      by_kind t b there e false true = (target_inside t b there e, with_it t (s.inode t.inode))
      by_kind t b there e false false = tt
