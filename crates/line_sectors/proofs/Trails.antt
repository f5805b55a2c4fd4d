-- The walks of a line through links look only at sectors of blocks that are a directory's.
use Rattle.std.proofs.Common.{ℕ, zero, suc, ◌≡◌, ◌<◌, ◌*◌, ◌/◌, ◌==◌, ◌&&◌, Bool, true, false, if◌then◌else◌, Option, Some, None, Result, Ok, Err, List, [], ◌∷◌, ◌++◌, refl, sym, ap, ◌∙◌, subst, arith}
use Rattle.frang_base.specs.PathText.{path_of}
use Rattle.frang_base.specs.declared.fault.PathFault.{PathFault}
use Rattle.frang_base.specs.declared.limits.TheConstants.{LINKS_FOLLOWED_MAX, ROOT_INODE}
use Rattle.frang_base.specs.declared.op.Op.{Op}
use Rattle.frang_base.specs.declared.op.Op.TheVariants as op
use Rattle.frang_base.specs.declared.reply.Reply.TheVariants as reply
use Rattle.tree_definitions.specs.declared.node.Node.{Node}
use Rattle.tree_definitions.specs.declared.node.Node.TheVariants.{Dir, File, Link}
use Rattle.tree_definitions.specs.Resolve.{is_absolute, target_text}
use Rattle.tree_definitions.specs.Tree.{FileTree, node_at}
use Rattle.disk_definitions.specs.Store.{Store, StoredNode, StoredEntry}
use Rattle.disk_definitions.specs.Naming.{Naming, inode_by, inode_for, inode_of}
use Rattle.disk_definitions.proofs.NodeLaws.{first_is}
use Rattle.disk_definitions.specs.Ask.{Ask, Got, ReadInode, bind, run, looks}
use Rattle.disk_definitions.specs.Plans.{Hand}
use Rattle.disk_definitions.specs.Meets.{IsOfTree, is_directory_use}
use Rattle.disk_definitions.specs.Walks.{Found, search, is_named}
use Rattle.disk_definitions.specs.Resolving.{PathEnd, Leads, Refused, Resolution, leads, refused, behind, passes, at_target, with_target, at_entry, at_gap, at_name, below_inode, resolve_names, resolve_from, resolve}
use Rattle.disk_definitions.specs.Lines.{is_found, by_path, by_second, by_first, over_path, over_paths, resolved}
use Rattle.plan_laws.proofs.WalksFine.{kind_two}
use Rattle.line_laws.proofs.Links.{follow_in}
use Rattle.line_laws.proofs.Names.{Follow}
use Rattle.line_sectors.proofs.Walks.{AreOfDirectories, then_of, search_of, block_of}

module _ (h : Hand) (s : Store) (tree : FileTree) (n : Naming) (of : IsOfTree s tree n) where
  abbrev All : Ask Resolution → Type 0
  All p = AreOfDirectories h s (looks p s)

  abbrev plain : ℕ → Node → StoredNode
  plain b node = inode_of (n.stamp b) (n.block b) (n.large b) node

  -- the blocks of a directory, by its inode
  blocks_of_node : (i : ℕ) (x : StoredNode) → s.inode i ≡ Some x → x.kind ≡ 2 → (m : ℕ) → m < x.blocks → is_directory_use (s.use_of (x.small m)) ≡ true
  blocks_of_node i x is k m l = by_birth (n.birth i) (sym is ∙ of.pictures.inodes i)
    where
      by_node : (b : ℕ) (node : Option Node) → node_at tree b ≡ node → Some x ≡ inode_by n b node → is_directory_use (s.use_of (x.small m)) ≡ true
      by_node b None at e = absurd (cc)
      by_node b (Some (Dir entries blocks)) at e =
          let same : x ≡ plain b (Dir entries blocks) = cc in
          let within : m < blocks = subst (λ (y : StoredNode). m < y.blocks) same l in
          ap (λ (y : StoredNode). is_directory_use (s.use_of (y.small m))) same ∙ ap (λ j. is_directory_use (s.use_of j)) (first_is blocks (n.block b) m within) ∙ block_of h s tree n of b m blocks entries at within
      by_node b (Some (File cells links when)) at e = absurd (let same : x ≡ plain b (File cells links when) = cc in let z : 1 ≡ 2 = sym (ap (λ (y : StoredNode). y.kind) same) ∙ k in omega arith)
      by_node b (Some (Link target links)) at e = absurd (let same : x ≡ plain b (Link target links) = cc in let z : 3 ≡ 2 = sym (ap (λ (y : StoredNode). y.kind) same) ∙ k in omega arith)

      by_birth : (o : Option ℕ) → Some x ≡ inode_for n (node_at tree) o → is_directory_use (s.use_of (x.small m)) ≡ true
      by_birth None e = absurd (cc)
      by_birth (Some b) e = by_node b (node_at tree b) refl e

  -- a node passed through
  passed_all : (i : ℕ) (p : Ask Resolution) → All p → All (passes i p)
  passed_all i p a = then_of h s p (λ rest. Got (behind i rest)) a tt

  -- ---- along the names

  module _ (last : Bool) (f : Follow) (each : (link dir : ℕ) (above names : List (List ℕ)) → All (f link dir above names)) where
    entry_all : (dir : ℕ) (above here names : List (List ℕ)) (into : ℕ → Ask Resolution) → ((i : ℕ) → All (into i)) → (entry : StoredEntry) → All (at_entry last (λ link. f link dir above names) into here names entry)
    entry_all dir above here [] into on entry = by_kind (last && entry.kind == 3)
      where
        by_kind : (c : Bool) → All (if c then f entry.inode dir above [] else leads here (Some entry.kind))
        by_kind true = each entry.inode dir above []
        by_kind false = tt
    entry_all dir above here (x ∷ xs) into on entry = by_kind (entry.kind == 3) (entry.kind == 2)
      where
        by_kind : (c d : Bool) → All (if c then f entry.inode dir above (x ∷ xs) else (if d then into entry.inode else refused reply.NotDir))
        by_kind true d = each entry.inode dir above (x ∷ xs)
        by_kind false true = on entry.inode
        by_kind false false = tt

    gap_all : (here names : List (List ℕ)) → All (at_gap here names)
    gap_all here [] = tt
    gap_all here (x ∷ xs) = tt

    found_all : (dir : ℕ) (above here names : List (List ℕ)) (into : ℕ → Ask Resolution) → ((i : ℕ) → All (into i)) → (found : Option Found) → All (at_name last (λ link. f link dir above names) into here names found)
    found_all dir above here names into on None = gap_all here names
    found_all dir above here names into on (Some (slot, None)) = gap_all here names
    found_all dir above here names into on (Some (slot, Some entry)) = entry_all dir above here names into on entry

    below_all : (dir : ℕ) (name : List ℕ) (above here names : List (List ℕ)) (into : ℕ → Ask Resolution) → ((i : ℕ) → All (into i)) → (o : Option StoredNode) → s.inode dir ≡ o →
        All (below_inode last (λ link. f link dir above names) into here dir name names o)
    below_all dir name above here names into on None is = tt
    below_all dir name above here names into on (Some node) is = by_kind (node.kind == 2) refl
      where
        next : Option Found → Ask Resolution
        next = at_name last (λ link. f link dir above names) into here names

        looked : Ask (Option Found)
        looked = search node.small (is_named name) 0 (8 * node.blocks)

        by_kind : (c : Bool) → (node.kind == 2) ≡ c → All (if c then passes dir (bind looked next) else refused reply.NotDir)
        by_kind true e =
            passed_all dir (bind looked next)
            (then_of h s looked next (search_of h s node.small (is_named name) (8 * node.blocks) 0 (λ t a b. blocks_of_node dir node is (kind_two node.kind e) (t / 8) (omega arith)))
            (found_all dir above here names into on (run looked s)))
        by_kind false e = tt

    names_all : (names : List (List ℕ)) (dir : ℕ) (above : List (List ℕ)) → All (resolve_names last f dir above names)
    names_all [] dir above = tt
    names_all (name ∷ names) dir above =
        (tt, below_all dir name above (above ++ name ∷ []) names (λ i. resolve_names last f i (above ++ name ∷ []) names) (λ i. names_all names i (above ++ name ∷ [])) (s.inode dir) refl)

  -- ---- links

  module _ (next : ℕ → List (List ℕ) → List (List ℕ) → Ask Resolution) (on : (names : List (List ℕ)) (dir : ℕ) (above : List (List ℕ)) → All (next dir above names)) where
    way_all : (absolute : Bool) (way : Result (List (List ℕ)) PathFault) (dir : ℕ) (above names : List (List ℕ)) → All (at_target next absolute way dir above names)
    way_all absolute (Err fault) dir above names = tt
    way_all true (Ok inner) dir above names = on (inner ++ names) ROOT_INODE []
    way_all false (Ok inner) dir above names = on (inner ++ names) dir above

  -- a link that is followed, where the names after it are walked so
  module _ (next : ℕ → List (List ℕ) → List (List ℕ) → Ask Resolution) (on : (names : List (List ℕ)) (dir : ℕ) (above : List (List ℕ)) → All (next dir above names)) where
    with_it : (holder : ℕ) (over rest : List (List ℕ)) (o : Option StoredNode) → All (with_target (λ target. at_target next (is_absolute target) (path_of (target_text target)) holder over rest) o)
    with_it holder over rest None = tt
    with_it holder over rest (Some node) = way_all next on (is_absolute node.target) (path_of (target_text node.target)) holder over rest

    followed_all : (link holder : ℕ) (over rest : List (List ℕ)) →
        All (passes link (ReadInode link (with_target (λ target. at_target next (is_absolute target) (path_of (target_text target)) holder over rest))))
    followed_all link holder over rest =
        passed_all link (ReadInode link (with_target (λ target. at_target next (is_absolute target) (path_of (target_text target)) holder over rest))) (tt, with_it holder over rest (s.inode link))

  from_all : (left : ℕ) (last : Bool) (names : List (List ℕ)) (dir : ℕ) (above : List (List ℕ)) → All (resolve_from left last dir above names)
  from_all zero last names dir above = names_all last (λ link holder over rest. refused reply.Loop) (λ link holder over rest. tt) names dir above
  from_all (suc left) last names dir above = names_all last (follow_in left last) (followed_all (resolve_from left last) (from_all left last)) names dir above

  path_all : (last : Bool) (path : List (List ℕ)) → All (resolve last path)
  unfolding resolve
  path_all last path = from_all LINKS_FOLLOWED_MAX last path ROOT_INODE []

  -- ---- operations

  abbrev Of : {A : Type 0} → Ask A → Type 0
  Of p = AreOfDirectories h s (looks p s)

  one_all : (last : Bool) (path : List (List ℕ)) (make : List (List ℕ) → Op) → Of (over_path last path make)
  one_all last path make = then_of h s (resolve last path) (by_path [] make) (path_all last path) tt

  second_all : (c : Bool) (trail : List ℕ) (to : List (List ℕ)) (make : List (List ℕ) → Op) → Of (by_second c trail to make)
  second_all true trail to make = then_of h s (resolve false to) (by_path trail make) (path_all false to) tt
  second_all false trail to make = tt

  first_all : (dirs : Bool) (to : List (List ℕ)) (make : List (List ℕ) → List (List ℕ) → Op) (end : PathEnd) (trail : List ℕ) → Of (by_first dirs to make end trail)
  first_all dirs to make (Leads way kind) trail = second_all (is_found dirs kind) trail to (make way)
  first_all dirs to make (Refused r) trail = tt

  two_all : (dirs : Bool) (path to : List (List ℕ)) (make : List (List ℕ) → List (List ℕ) → Op) → Of (over_paths dirs path to make)
  two_all dirs path to make =
      let w = run (resolve false path) s in then_of h s (resolve false path) (λ w. by_first dirs to make w.end w.trail) (path_all false path) (first_all dirs to make w.end w.trail)

  pub resolved_all : (o : Op) → Of (resolved o)
  resolved_all (op.Create path) = one_all false path (λ p. op.Create p)
  resolved_all (op.Mkdir path) = one_all false path (λ p. op.Mkdir p)
  resolved_all (op.Symlink path target) = one_all false path (λ p. op.Symlink p target)
  resolved_all (op.Link path to) = two_all false path to (λ p q. op.Link p q)
  resolved_all (op.Unlink path) = one_all false path (λ p. op.Unlink p)
  resolved_all (op.Rmdir path) = one_all false path (λ p. op.Rmdir p)
  resolved_all (op.Rename [] to) = tt
  resolved_all (op.Rename (name ∷ names) []) = tt
  resolved_all (op.Rename (name ∷ names) (new ∷ news)) = two_all true (name ∷ names) (new ∷ news) (λ p q. op.Rename p q)
  resolved_all (op.Write path off bytes) = one_all true path (λ p. op.Write p off bytes)
  resolved_all (op.Fill path off len byte) = one_all true path (λ p. op.Fill p off len byte)
  resolved_all (op.Truncate path len) = one_all true path (λ p. op.Truncate p len)
  resolved_all (op.Read path off len) = one_all true path (λ p. op.Read p off len)
  resolved_all (op.Stat path) = one_all false path (λ p. op.Stat p)
  resolved_all (op.List path) = one_all true path (λ p. op.List p)
  resolved_all (op.Readlink path) = one_all false path (λ p. op.Readlink p)
  resolved_all (op.Time path) = one_all true path (λ p. op.Time p)
  resolved_all op.Sync = tt
  resolved_all op.Mount = tt
  resolved_all op.Unmount = tt
  resolved_all op.Crash = tt
  resolved_all (op.CrashAt k) = tt
  resolved_all (op.CutAt k) = tt
  resolved_all op.Stall = tt
