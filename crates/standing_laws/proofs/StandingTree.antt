-- A disk that stands for a tree is sound, and the tree that is read off it is the same but for births.
use Rattle.std.proofs.Common.{◌≡◌, ℕ, ◌+◌, ◌-◌, ◌*◌, ◌/◌, ◌%◌, ◌<◌, ⊎_elim, true, Option, Some, None, List, [], ◌∷◌, is_some, length, refl, sym, ◌∙◌, ap, subst, arith, nat_lt, eq-eqb, lt-ltb, le-ltb, unwrap_or}
use Rattle.std.specs.Option.{option_map, option_and_then}
use Rattle.std.proofs.lemmas.Option.{slice_get_within}
use Rattle.std.specs.Ordering.{nat_cmp}
use Rattle.std.specs.Cmp.Lexicographic.{slice_cmp}
use Rattle.std.proofs.lemmas.Bool.{cases_eq, cases_lt, cond-true, cond-false, both_ways}
use Rattle.frang_base.proofs.Tests.{some_there}
use Rattle.tree_definitions.specs.declared.cells.Cell.{Cell}
use Rattle.tree_definitions.specs.declared.cells.Cell.TheVariants as cell
use Rattle.tree_definitions.specs.declared.node.Node.{Node}
use Rattle.tree_definitions.specs.declared.node.Node.TheVariants.{Dir, File, Link}
use Rattle.tree_definitions.specs.Tree.{FileTree, node_at, small_blocks_of}
use Rattle.tree_definitions.specs.Apply.{links_of, is_dir}
use Rattle.tree_definitions.specs.WellFormed.{IsWellFormed, one_at, names_in, names_of}
use Rattle.tree_definitions.proofs.Pairs.{name_exact, birth_exact}
use Rattle.tree_laws.proofs.Balance.{one_own, one_other}
use Rattle.tree_laws.proofs.Places.{dir_is_some}
use Rattle.disk_definitions.specs.Store.{Store, StoredNode, store_of}
use Rattle.disk_definitions.specs.Naming.{Naming, Nodes, Pictures, find_in, cell_in, file_byte}
use Rattle.disk_definitions.specs.Standing.{IsReached, reached_from, StandsFor}
use Rattle.standing_laws.specs.Below.{all_below}
use Rattle.standing_laws.specs.ReadTree.{byte_at, read_node, tree_in}
use Rattle.standing_laws.specs.Soundness.{has_kind, links_agree}
use Rattle.standing_laws.specs.Renaming.{SameNode, IsRenaming}
use Rattle.standing_laws.proofs.Bounded.{all_from}
use Rattle.standing_laws.proofs.Sums.{Meets, equal_sums, zero_sum}
use Rattle.standing_laws.proofs.NodesRead.{node_read, births_read}
use Rattle.standing_laws.proofs.Shapes.{disk_shape}
use Rattle.standing_laws.proofs.Pictured.{IsInRange, length_cells, cell_at}
use Rattle.standing_laws.proofs.Stored.{made_by, made_small, made_large, Has, of_birth, of_inode, one_inode}
use Rattle.sector_bytes.specs.Sectors.{Sectors}
use Rattle.standing_laws.specs.Laws.{StandingIsSound}
use Rattle.standing_laws.proofs.SoundStanding.{disk_range}
use Rattle.standing_laws.proofs.StandingBlocks.{bits_agree, blocks_once, uses_agree, blocks_listed, blocks_cleared, larges_once, larges_marked, larges_listed}
use Rattle.standing_laws.proofs.StandingNames.{back_of, named, entries_read, names_sum, nodes_agree}

-- a byte of the small blocks lies in a block of its file
in_small : (size j : ℕ) → j < size → j < 65536 → j / 4096 < small_blocks_of size
in_small size j l m = omega arith

module _ (segments : ℕ) (s : Store) (range : IsInRange segments s) (t : FileTree) (w : IsWellFormed t) (n : Naming) (p : Pictures s (node_at t) n) where
  abbrev at : Nodes
  at = node_at t

  abbrev read : Nodes
  read = node_at (tree_in segments s)

  read_at : (i : ℕ) → read i ≡ option_map (read_node s) (s.inode i)
  read_at i = node_read s segments range.inodes i

  -- the node that is read at a node's inode
  pub read_made : (b : ℕ) (y : Node) → at b ≡ Some y → read (n.inode b) ≡ Some (read_node s (made_by n b y))
  read_made b y e = read_at (n.inode b) ∙ ap (option_map (read_node s)) (of_birth s at n p b y e)

  -- a node that is read is that of an inode
  pub made_read : (i : ℕ) (z : Node) → read i ≡ Some z → (h : (x : StoredNode) × Has n at i x) × (z ≡ read_node s (made_by n h.1.birth h.1.node))
  made_read i z e = go (s.inode i) refl
    where
      go : (o : Option StoredNode) → s.inode i ≡ o → (h : (x : StoredNode) × Has n at i x) × (z ≡ read_node s (made_by n h.1.birth h.1.node))
      go None f = absurd (let q : Some z ≡ None = sym e ∙ read_at i ∙ ap (option_map (read_node s)) f in cc)
      go (Some x) f =
          let h = of_inode s at n p i x f in
          let q : Some z ≡ Some (read_node s x) = sym e ∙ read_at i ∙ ap (option_map (read_node s)) f in
          let r : z ≡ read_node s x = cc in
          ((x, h), r ∙ ap (read_node s) h.is)

  -- ---- the same nodes
  byte_is : (b : ℕ) (cells : List Cell) (links when j : ℕ) → j < length cells → byte_at s (made_by n b (File cells links when)) j ≡ file_byte s n b j
  byte_is b cells links when j l = ⊎_elim
      (λ m. cond-true (nat_lt j 65536) _ _ (lt-ltb j 65536 m) ∙ ap (λ k. s.byte k (j % 4096)) (made_small n b (File cells links when) (j / 4096) (in_small (length cells) j l m)) ∙ sym (cond-true (nat_lt j 65536) _ _ (lt-ltb j 65536 m)))
      (λ m. (let g : (made_by n b (File cells links when)).large ≡ n.large b + 1 = made_large n b (File cells links when) (lt-ltb 65536 (length cells) (omega arith)) in
      let k : (made_by n b (File cells links when)).large - 1 ≡ n.large b = omega arith in
      cond-false (nat_lt j 65536) _ _ (le-ltb j 65536 m) ∙ ap (λ g. s.large_byte g (j - 65536)) k ∙ sym (cond-false (nat_lt j 65536) _ _ (le-ltb j 65536 m)))) (cases_lt j 65536)

  same_node : (b : ℕ) (y : Node) → at b ≡ Some y → SameNode n.inode y (read_node s (made_by n b y))
  same_node b (Dir es k) e = (entries_read segments s range t w n p b es k e, refl)
  same_node b (Link target links) e = (refl, refl)
  same_node b (File cells links when) e =
      let x = made_by n b (File cells links when) in (
        (
          sym (length_cells (byte_at s x) (length cells)),
          λ j u v h k. (
              let l : j < length cells = slice_get_within cells j (cell.Byte u) h in
              let a : file_byte s n b j ≡ u = p.bytes b j (cell.Byte u) (ap (λ o. cell_in o j) e ∙ h) in
              let c : cell.Byte v ≡ cell.Byte (byte_at s x j) = cell_at (byte_at s x) (length cells) j (cell.Byte v) k in
              let d : v ≡ byte_at s x j = cc in
              sym (d ∙ byte_is b cells links when j l ∙ a)),
        ),
        refl,
        refl,
      )

  -- the tree becomes the one that is read by its naming
  pub renamed : n.inode 0 ≡ 0 → t.segments ≡ segments → IsRenaming n.inode (back_of n) t (tree_in segments s)
  renamed root same = record {
    segments = same;
    root = root;
    forth = λ b h. (let f = some_there (at b) h in (ap is_some (read_made b f.0 f.1), ap (λ o. unwrap_or o 0) (p.numbered b h)));
    home = λ i h. (let f = some_there (read i) h in let m = made_read i f.0 f.1 in
        let q : back_of n i ≡ m.0.1.birth = ap (λ o. unwrap_or o 0) m.0.1.born in
        (ap is_some (ap at q ∙ m.0.1.found), ap n.inode q ∙ m.0.1.numbered));
    nodes = λ b x y e f. (let z : Some (read_node s (made_by n b x)) ≡ Some y = sym (read_made b x e) ∙ f in let q : read_node s (made_by n b x) ≡ y = cc in subst (SameNode n.inode x) q (same_node b x e));
  }

  -- ---- names and links
  one_same : (a b : ℕ) → is_some (at a) ≡ true → is_some (at b) ≡ true → one_at b a ≡ one_at (n.inode b) (n.inode a)
  one_same a b h k = ⊎_elim
      (λ e. subst (λ a. one_at b a ≡ one_at (n.inode b) (n.inode a)) (sym e) (one_own b ∙ sym (one_own (n.inode b))))
      (λ ne. one_other b a ne ∙ sym (one_other (n.inode b) (n.inode a) (λ q. ne (one_inode s at n p a b h k q)))) (cases_eq a b)

  names_same : (b : ℕ) → is_some (at b) ≡ true → (d : ℕ) (y : Node) → at d ≡ Some y → names_in b y ≡ names_in (n.inode b) (read_node s (made_by n d y))
  names_same b h d (File cells links when) e = refl
  names_same b h d (Link target links) e = refl
  names_same b h d (Dir es k) e = names_sum segments s range t w n p d es k e (one_at b) (one_at (n.inode b)) (λ name v i. one_same v b (named segments s range t w n p d v name (ap (λ o. find_in o name) e ∙ i)) h)

  names_are : (b : ℕ) → is_some (at b) ≡ true → names_of t b ≡ names_of (tree_in segments s) (n.inode b)
  names_are b h = equal_sums nat_cmp nat_cmp birth_exact birth_exact n.inode (back_of n) (names_in b) (names_in (n.inode b)) t.nodes (tree_in segments s).nodes w.births (births_read s segments) (forth, backwards)
    where
      forth : (d : ℕ) (y : Node) → at d ≡ Some y → Meets read n.inode (back_of n) (names_in b) (names_in (n.inode b)) d y
      forth d y e = record { value = read_node s (made_by n d y); found = read_made d y e; home = ap (λ o. unwrap_or o 0) (p.numbered d (ap is_some e)); weighs = names_same b h d y e }

      backwards : (i : ℕ) (z : Node) → read i ≡ Some z → Meets at (back_of n) n.inode (names_in (n.inode b)) (names_in b) i z
      backwards i z e =
          let m = made_read i z e in
          let q : back_of n i ≡ m.0.1.birth = ap (λ o. unwrap_or o 0) m.0.1.born in
          record { value = m.0.1.node; found = ap at q ∙ m.0.1.found; home = ap n.inode q ∙ m.0.1.numbered; weighs = ap (names_in (n.inode b)) m.1 ∙ sym (names_same b h m.0.1.birth m.0.1.node m.0.1.found) }

  links_same : (b : ℕ) (y : Node) → links_of (Some (read_node s (made_by n b y))) ≡ links_of (Some y)
  links_same b (Dir es k) = refl
  links_same b (File cells links when) = refl
  links_same b (Link target links) = refl

  -- what is free has no name
  free_names : (i : ℕ) → s.inode i ≡ None → names_of (tree_in segments s) i ≡ 0
  free_names i f = zero_sum nat_cmp birth_exact (names_in i) (tree_in segments s).nodes (births_read s segments) (λ d z e. (let m = made_read d z e in ap (names_in i) m.1 ∙ none m.0.1.birth m.0.1.node m.0.1.found))
    where
      none : (d : ℕ) (y : Node) → at d ≡ Some y → names_in i (read_node s (made_by n d y)) ≡ 0
      none d (File cells links when) e = refl
      none d (Link target links) e = refl
      none d (Dir es k) e = sym (names_sum segments s range t w n p d es k e (λ v. 0) (one_at i) (λ name v h. sym (one_other i (n.inode v) (λ q. free v (named segments s range t w n p d v name (ap (λ o. find_in o name) e ∙ h)) q)))) ∙ zero_sum (slice_cmp nat_cmp) name_exact (λ v. 0) es (w.names d es k e) (λ name v h. refl)
        where
          free : (v : ℕ) → is_some (at v) ≡ true → n.inode v ≡ i → ⊥
          free v h q = go (at v) refl
            where
              go : (o : Option Node) → at v ≡ o → ⊥
              go None z = both_ways (is_some (at v)) (ap is_some z) h
              go (Some y) z = let c : Some (made_by n v y) ≡ None = sym (of_birth s at n p v y z) ∙ ap s.inode q ∙ f in cc

  -- the inode of a node is in use
  used : (b : ℕ) → is_some (at b) ≡ true → is_some (s.inode (n.inode b)) ≡ true
  used b h = go (at b) refl
    where
      go : (o : Option Node) → at b ≡ o → is_some (s.inode (n.inode b)) ≡ true
      go None e = absurd (both_ways (is_some (at b)) (ap is_some e) h)
      go (Some y) e = ap is_some (of_birth s at n p b y e)

  root_there : is_some (at 0) ≡ true
  root_there = dir_is_some (at 0) w.rooted

  module _ (root : n.inode 0 ≡ 0) where
    links_at : (i : ℕ) (o : Option StoredNode) → s.inode i ≡ o → names_of (tree_in segments s) i + one_at 0 i ≡ links_of (read i)
    links_at i None f =
        let a : names_of (tree_in segments s) i ≡ 0 = free_names i f in
        let b : one_at 0 i ≡ 0 = one_other 0 i (λ q. both_ways (is_some (s.inode i)) (ap is_some f) (ap (λ i. is_some (s.inode i)) (q ∙ sym root) ∙ used 0 root_there)) in
        let c : links_of (read i) ≡ 0 = ap links_of (read_at i ∙ ap (option_map (read_node s)) f) in
        omega arith
    links_at i (Some x) f =
        let h = of_inode s at n p i x f in
        let b = h.birth in
        let there : is_some (at b) ≡ true = ap is_some h.found in
        let a : names_of t b ≡ names_of (tree_in segments s) i = names_are b there ∙ ap (names_of (tree_in segments s)) h.numbered in
        let o : one_at 0 b ≡ one_at 0 i = one_same b 0 there root_there ∙ ap (λ r. one_at r (n.inode b)) root ∙ ap (one_at 0) h.numbered in
        let l : links_of (read i) ≡ links_of (at b) = ap (λ i. links_of (read i)) (sym h.numbered) ∙ ap links_of (read_made b h.node h.found) ∙ links_same b h.node ∙ sym (ap links_of h.found) in
        let c : names_of t b + one_at 0 b ≡ links_of (at b) = w.links b in
        omega arith

    pub links_agreed : all_below (64 * segments) (links_agree (tree_in segments s)) ≡ true
    links_agreed = all_from (64 * segments) (links_agree (tree_in segments s)) (λ i l. eq-eqb (names_of (tree_in segments s) i + one_at 0 i) (links_of (read i)) (links_at i (s.inode i) refl))

    pub root_agreed : has_kind (s.inode 0) 2 ≡ true
    root_agreed = go (at 0) refl w.rooted
      where
        go : (o : Option Node) → at 0 ≡ o → is_dir o ≡ true → has_kind (s.inode 0) 2 ≡ true
        go None e h = absurd (cc)
        go (Some (Dir es k)) e h = ap (λ i. has_kind (s.inode i) 2) (sym root) ∙ ap (λ o. has_kind o 2) (of_birth s at n p 0 (Dir es k) e)
        go (Some (File cells links when)) e h = absurd (cc)
        go (Some (Link target links)) e h = absurd (cc)

    -- names lead to the inodes of the nodes that they lead to
    find_read : (a : ℕ) (name : List ℕ) (v : ℕ) → find_in (at a) name ≡ Some v → find_in (read (n.inode a)) name ≡ Some (n.inode v)
    find_read a name v h = go (at a) refl h
      where
        go : (o : Option Node) → at a ≡ o → find_in o name ≡ Some v → find_in (read (n.inode a)) name ≡ Some (n.inode v)
        go None e h = absurd (cc)
        go (Some (Dir es k)) e h = ap (λ o. find_in o name) (read_made a (Dir es k) e) ∙ entries_read segments s range t w n p a es k e name ∙ ap (option_map n.inode) h
        go (Some (File cells links when)) e h = absurd (cc)
        go (Some (Link target links)) e h = absurd (cc)

    reach_read : (names : List (List ℕ)) (a b : ℕ) → reached_from at a names ≡ Some b → reached_from read (n.inode a) names ≡ Some (n.inode b)
    reach_read [] a b h = let q : a ≡ b = cc in ap (λ a. Some (n.inode a)) q
    reach_read (name ∷ names) a b h = go (reach_read names) (find_in (at a) name) refl h
      where
        go : ((a b : ℕ) → reached_from at a names ≡ Some b → reached_from read (n.inode a) names ≡ Some (n.inode b)) → (o : Option ℕ) → find_in (at a) name ≡ o → option_and_then (λ next. reached_from at next names) o ≡ Some b → reached_from read (n.inode a) (name ∷ names) ≡ Some (n.inode b)
        go later None e h = absurd (cc)
        go later (Some v) e h = ap (option_and_then (λ next. reached_from read next names)) (find_read a name v e) ∙ later v b h

    pub all_reached : IsReached at → IsReached read
    all_reached r i h = go (read i) refl h
      where
        go : (o : Option Node) → read i ≡ o → is_some o ≡ true → (names : List (List ℕ)) × (reached_from read 0 names ≡ Some i)
        go None e h = absurd (cc)
        go (Some z) e h =
            let m = (made_read i z e).0.1 in
            let q = r m.birth (ap is_some m.found) in
            (q.0, ap (λ a. reached_from read a q.0) (sym root) ∙ reach_read q.0 0 m.birth q.1 ∙ ap (λ j. Some j) m.numbered)

pub standing_is_sound : StandingIsSound
standing_is_sound sectors tree h =
    let segments = h.param.segments in
    let s = store_of segments sectors in
    let range = disk_range segments sectors in
    let shapes = disk_shape segments sectors in
    let at = node_at tree in
    let n = h.naming in
    let p = h.picture in
    record {
      grammar = h.grammar;
      versions = h.versions;
      consistent = record {
        bits = bits_agree segments s range shapes at n p;
        once = blocks_once segments s range shapes at n p;
        uses = uses_agree segments s range shapes at n p;
        listed = blocks_listed segments s range shapes at n p;
        cleared = blocks_cleared segments s range shapes at n p;
        large_once = larges_once segments s range shapes at n p;
        large_marked = larges_marked segments s range shapes at n p;
        large_listed = larges_listed segments s range shapes at n p;
        nodes = nodes_agree segments s range tree h.well_formed n p;
        links = links_agreed segments s range tree h.well_formed n p h.root;
        rooted = root_agreed segments s range tree h.well_formed n p h.root;
        reached = all_reached segments s range tree h.well_formed n p h.root h.reached;
      };
    }

-- the tree becomes the one that is read by its naming
pub standing_renamed : (sectors : Sectors) (tree : FileTree) (h : StandsFor sectors tree) → IsRenaming h.naming.inode (back_of h.naming) tree (tree_in h.param.segments (store_of h.param.segments sectors))
standing_renamed sectors tree h = renamed h.param.segments (store_of h.param.segments sectors) (disk_range h.param.segments sectors) tree h.well_formed h.naming h.picture h.root h.segments
