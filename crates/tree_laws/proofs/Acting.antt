-- Each operation on two trees that agree where it touches.
use Rattle.std.proofs.Common.{ℕ, ◌≡◌, ◌≢◌, ◌<◌, ◌+◌, ◌-◌, Bool, true, false, not, Option, Some, None, List, cond, refl, sym, ◌∙◌, ap, subst, inl, inr, ◌⊎◌, is_some, nat_lt, nat_le, arith}
use Rattle.std.proofs.lemmas.Bool.{ltb-true}
use Rattle.frang_base.specs.declared.reply.Reply.TheVariants as reply
use Rattle.tree_definitions.specs.declared.node.Node.{Node}
use Rattle.tree_definitions.specs.declared.node.Node.TheVariants.{Dir, File, Link}
use Rattle.tree_definitions.specs.Entries.{Entries, with_entry, without_entry}
use Rattle.tree_definitions.specs.Tree.{FileTree, node_at, with_node, without_node, inodes_full, entries_full, lacks_block, grown}
use Rattle.tree_definitions.specs.Place.{Place, Root, Taken, Free, Nowhere}
use Rattle.tree_definitions.specs.Apply.{Plain, Applied, says, named, made, is_dir, has_entries, links_of, one_link_more, one_link_fewer, linked_to, linked, unlinked, dir_removed, moved, name_gone, name_set}
use Rattle.tree_definitions.specs.WellFormed.{BirthsAscend, EntriesNameNodes, IsNew}
use Rattle.tree_laws.specs.Touching.{SameKinds, kind_of, OfDirectory, OfFile, OfLink}
use Rattle.tree_laws.proofs.Rooms.{same_inodes, same_lacks}
use Rattle.tree_laws.proofs.Likeness.{Likeness, Near, like_equal, like_dir, like_links}
use Rattle.tree_laws.proofs.Nodes.{with_same, with_other, without_same, ascend_with, ascend_without}
use Rattle.tree_laws.proofs.Places.{Stands}
use Rattle.tree_laws.proofs.Joint.{Matches, joint_none, joint_with, joint_without, joint_more, joint_fewer, both_do, both_say, both_if, if_room}

-- births stay in order
gone_ascends : (t : FileTree) (d : ℕ) (name : List ℕ) (o : Option Node) → BirthsAscend t → BirthsAscend (name_gone t d name o)
gone_ascends t d name (Some (Dir es n)) b = ascend_with t d (Dir (without_entry es name) n) b
gone_ascends t d name (Some (File cells links when)) b = b
gone_ascends t d name (Some (Link target links)) b = b
gone_ascends t d name None b = b

set_ascends : (t : FileTree) (d : ℕ) (name : List ℕ) (birth : ℕ) (o : Option Node) → BirthsAscend t → BirthsAscend (name_set t d name birth o)
set_ascends t d name birth (Some (Dir es n)) b = ascend_with t d (Dir (with_entry es name birth) n) b
set_ascends t d name birth (Some (File cells links when)) b = b
set_ascends t d name birth (Some (Link target links)) b = b
set_ascends t d name birth None b = b

pub moved_ascends : (t : FileTree) (from : ℕ) (name : List ℕ) (to : ℕ) (new : List ℕ) (birth : ℕ) → BirthsAscend t → BirthsAscend (moved t from name to new birth)
moved_ascends t from name to new birth b =
    let gone = name_gone t from name (node_at t from) in
    set_ascends gone to new birth (node_at gone to) (gone_ascends t from name (node_at t from) b)

pub fewer_ascends : (t : FileTree) (d : ℕ) (o : Option Node) → BirthsAscend t → BirthsAscend (one_link_fewer t d o)
fewer_ascends t d (Some (File cells links when)) b = go (nat_lt 1 links)
  where
    go : (c : Bool) → BirthsAscend (cond c (with_node t d (File cells (links - 1) when)) (without_node t d))
    go true = ascend_with t d (File cells (links - 1) when) b
    go false = ascend_without t d b
fewer_ascends t d (Some (Link target links)) b = go (nat_lt 1 links)
  where
    go : (c : Bool) → BirthsAscend (cond c (with_node t d (Link target (links - 1))) (without_node t d))
    go true = ascend_with t d (Link target (links - 1)) b
    go false = ascend_without t d b
fewer_ascends t d (Some (Dir es n)) b = ascend_without t d b
fewer_ascends t d None b = b

-- a node with a link fewer isn't the same
pub fewer_differs : (t : FileTree) (d : ℕ) (x : Node) → BirthsAscend t → node_at (one_link_fewer t d (Some x)) d ≢ Some x
fewer_differs t d (File cells links when) b e = go (nat_lt 1 links) refl e
  where
    go : (c : Bool) → nat_lt 1 links ≡ c → node_at (cond c (with_node t d (File cells (links - 1) when)) (without_node t d)) d ≡ Some (File cells links when) → ⊥
    go true i e = let l : links - 1 ≡ links = (let s : Some (File cells (links - 1) when) ≡ Some (File cells links when) = sym (with_same t d (File cells (links - 1) when)) ∙ e in cc) in let m : 1 < links = ltb-true 1 links i in omega arith
    go false i e = let s : None ≡ Some (File cells links when) = sym (without_same t d b) ∙ e in cc
fewer_differs t d (Link target links) b e = go (nat_lt 1 links) refl e
  where
    go : (c : Bool) → nat_lt 1 links ≡ c → node_at (cond c (with_node t d (Link target (links - 1))) (without_node t d)) d ≡ Some (Link target links) → ⊥
    go true i e = let l : links - 1 ≡ links = (let s : Some (Link target (links - 1)) ≡ Some (Link target links) = sym (with_same t d (Link target (links - 1))) ∙ e in cc) in let m : 1 < links = ltb-true 1 links i in omega arith
    go false i e = let s : None ≡ Some (Link target links) = sym (without_same t d b) ∙ e in cc
fewer_differs t d (Dir es n) b e = let s : None ≡ Some (Dir es n) = sym (without_same t d b) ∙ e in cc

-- tests that go by the kind of a node
by_kind : (a b : Option Node) → ((x y : Node) → a ≡ Some x → b ≡ Some y → kind_of x ≡ kind_of y) → is_some a ≡ true → is_some b ≡ true → is_dir a ≡ is_dir b
by_kind (Some (Dir es n)) (Some (Dir fs m)) k s t = refl
by_kind (Some (Dir es n)) (Some (File fs m v)) k s t = absurd (let q : OfDirectory ≡ OfFile = k (Dir es n) (File fs m v) refl refl in cc)
by_kind (Some (Dir es n)) (Some (Link fs m)) k s t = absurd (let q : OfDirectory ≡ OfLink = k (Dir es n) (Link fs m) refl refl in cc)
by_kind (Some (File es n w)) (Some (Dir fs m)) k s t = absurd (let q : OfFile ≡ OfDirectory = k (File es n w) (Dir fs m) refl refl in cc)
by_kind (Some (File es n w)) (Some (File fs m v)) k s t = refl
by_kind (Some (File es n w)) (Some (Link fs m)) k s t = refl
by_kind (Some (Link es n)) (Some (Dir fs m)) k s t = absurd (let q : OfLink ≡ OfDirectory = k (Link es n) (Dir fs m) refl refl in cc)
by_kind (Some (Link es n)) (Some (File fs m v)) k s t = refl
by_kind (Some (Link es n)) (Some (Link fs m)) k s t = refl
by_kind None b k s t = cc
by_kind (Some x) None k s t = cc

module _ (L : Likeness) (one two : FileTree) where
  pub made_matches : (birth : ℕ) (node : Node) → IsNew one birth → IsNew two birth → (p : Place) → Stands one p → Stands two p → Matches L one two (made one birth node p) (made two birth node p)
  made_matches birth node new_one new_two Root s t = both_say L one two reply.Exist
  made_matches birth node new_one new_two (Nowhere r) s t = both_say L one two r
  made_matches birth node new_one new_two (Taken dir es n name b) s t = both_say L one two reply.Exist
  made_matches birth node new_one new_two (Free dir es n name) s t =
      let first = joint_with L one two one two (joint_none L one two) birth node (like_equal L (node_at one birth) (node_at two birth) (new_one ∙ sym new_two)) in
      let j = joint_with L one two (with_node one birth node) (with_node two birth node) first dir (Dir (with_entry es name birth) (grown es n)) (like_equal L (node_at one dir) (node_at two dir) (s.0 ∙ sym t.0)) in
      both_if L one two (entries_full es) (says one reply.DirFull) _ (says two reply.DirFull) _ (both_say L one two reply.DirFull)
      (if_room L one two (inodes_full one) (inodes_full two) reply.NoInode reply.NoInode _ _ refl refl (λ k. same_inodes one two k) (λ k. refl)
      (if_room L one two (lacks_block one es n) (lacks_block two es n) reply.NoDirBlock reply.NoDirBlock _ _ refl refl (λ k. same_lacks one two k es n) (λ k. refl)
      (both_do L one two (named (with_node one birth node) dir es n name birth) (named (with_node two birth node) dir es n name birth) reply.Ok j)))

-- a node with a link more isn't the same
more_differs : (t : FileTree) (d : ℕ) (x : Node) → is_dir (Some x) ≡ false → node_at (one_link_more t d (Some x)) d ≢ Some x
more_differs t d (File cells links when) f e = let l : links + 1 ≡ links = (let s : Some (File cells (links + 1) when) ≡ Some (File cells links when) = sym (with_same t d (File cells (links + 1) when)) ∙ e in cc) in omega arith
more_differs t d (Link target links) f e = let l : links + 1 ≡ links = (let s : Some (Link target (links + 1)) ≡ Some (Link target links) = sym (with_same t d (Link target (links + 1))) ∙ e in cc) in omega arith
more_differs t d (Dir es n) f e = absurd (cc)

linked_differs : (t : FileTree) (b : ℕ) (o : Option Node) → node_at t b ≡ o → is_some o ≡ true → is_dir o ≡ false → (dir : ℕ) (es : Entries) (n : ℕ) (name : List ℕ) → node_at t dir ≡ Some (Dir es n) → node_at (named (one_link_more t b o) dir es n name b) b ≢ o
linked_differs t b None i s f dir es n name at e = absurd (cc)
linked_differs t b (Some x) i s f dir es n name at e =
    let away : b ≢ dir = λ q. (let w : Some x ≡ Some (Dir es n) = sym i ∙ ap (node_at t) q ∙ at in let z : is_dir (Some x) ≡ true = ap is_dir w in cc) in
    more_differs t b x f (sym (with_other (one_link_more t b (Some x)) dir (Dir (with_entry es name b) (grown es n)) b away) ∙ e)

-- which of its outcomes a link has: each that isn't told by the name alone tells of the node
by_link : (S : Type 0) (one u : FileTree) (b : ℕ) (c full lacks : Bool) → ((cond c (says one reply.MLink) (cond full (says one reply.DirFull) (cond lacks (says one reply.NoDirBlock) (says u reply.Ok)))).answer ≡ Plain reply.MLink → S)
    → ((cond c (says one reply.MLink) (cond full (says one reply.DirFull) (cond lacks (says one reply.NoDirBlock) (says u reply.Ok)))).answer ≡ Plain reply.DirFull → S)
    → ((cond c (says one reply.MLink) (cond full (says one reply.DirFull) (cond lacks (says one reply.NoDirBlock) (says u reply.Ok)))).answer ≡ Plain reply.NoDirBlock → S)
    → (S ⊎ (node_at (cond c (says one reply.MLink) (cond full (says one reply.DirFull) (cond lacks (says one reply.NoDirBlock) (says u reply.Ok)))).tree b ≡ node_at one b)) → (node_at u b ≢ node_at one b) → S
by_link S one u b true full lacks m f n l d = m refl
by_link S one u b false true lacks m f n l d = f refl
by_link S one u b false false true m f n l d = n refl
by_link S one u b false false false m f n (inl s) d = s
by_link S one u b false false false m f n (inr e) d = absurd (d e)

module _ (L : Likeness) (one two : FileTree) where
  module _ (b : ℕ) (there : is_some (node_at one b) ≡ true) (plain : is_dir (node_at one b) ≡ false) where
    -- onto a free name, where the trees agree on the node
    free_matches : Near L one two b → (dir : ℕ) (es : Entries) (n : ℕ) (name : List ℕ) → Near L one two dir → Matches L one two (linked_to one b (Free dir es n name)) (linked_to two b (Free dir es n name))
    free_matches same dir es n name at =
        let o = node_at one b in
        let q = node_at two b in
        let j = joint_with L one two (one_link_more one b o) (one_link_more two b q) (joint_more L one two one two (joint_none L one two) b o q same same) dir (Dir (with_entry es name b) (grown es n)) at in
        subst (λ k. Matches L one two (linked_to one b (Free dir es n name)) (cond (nat_le 1000 k) (says two reply.MLink) (cond (entries_full es) (says two reply.DirFull) (cond (lacks_block two es n) (says two reply.NoDirBlock) (says (named (one_link_more two b q) dir es n name b) reply.Ok))))) (like_links L o q same)
        (both_if L one two (nat_le 1000 (links_of o)) (says one reply.MLink) _ (says two reply.MLink) _ (both_say L one two reply.MLink)
        (both_if L one two (entries_full es) (says one reply.DirFull) _ (says two reply.DirFull) _ (both_say L one two reply.DirFull)
        (if_room L one two (lacks_block one es n) (lacks_block two es n) reply.NoDirBlock reply.NoDirBlock _ _ refl refl (λ k. same_lacks one two k es n) (λ k. refl)
        (both_do L one two (named (one_link_more one b o) dir es n name b) (named (one_link_more two b q) dir es n name b) reply.Ok j))))

    linked_to_matches : (q : Place) → Stands one q → Stands two q
        → ((linked_to one b q).answer ≡ Plain reply.MLink → Near L one two b) → ((linked_to one b q).answer ≡ Plain reply.DirFull → Near L one two b) → ((linked_to one b q).answer ≡ Plain reply.NoDirBlock → Near L one two b)
        → ((Near L one two b) ⊎ (node_at (linked_to one b q).tree b ≡ node_at one b)) → Matches L one two (linked_to one b q) (linked_to two b q)
    linked_to_matches Root s t m f k l = both_say L one two reply.Exist
    linked_to_matches (Nowhere r) s t m f k l = both_say L one two r
    linked_to_matches (Taken dir es n name c) s t m f k l = both_say L one two reply.Exist
    linked_to_matches (Free dir es n name) s t m f k l = free_matches
        (by_link (Near L one two b) one (named (one_link_more one b (node_at one b)) dir es n name b) b (nat_le 1000 (links_of (node_at one b))) (entries_full es) (lacks_block one es n) m f k l
        (linked_differs one b (node_at one b) refl there plain dir es n name s.0))
        dir es n name (like_equal L (node_at one dir) (node_at two dir) (s.0 ∙ sym t.0))

  module _ (kinds : SameKinds one two) (alive_one : EntriesNameNodes one) (alive_two : EntriesNameNodes two) where
    same_dir : (b : ℕ) → is_some (node_at one b) ≡ true → is_some (node_at two b) ≡ true → is_dir (node_at one b) ≡ is_dir (node_at two b)
    same_dir b s t = by_kind (node_at one b) (node_at two b) (kinds b) s t

    module _ (dir : ℕ) (es : Entries) (n : ℕ) (name : List ℕ) (b : ℕ) (s : Stands one (Taken dir es n name b)) (t : Stands two (Taken dir es n name b)) where
      pub some_one : is_some (node_at one b) ≡ true
      some_one = alive_one dir es n name b s.0 s.1

      pub some_two : is_some (node_at two b) ≡ true
      some_two = alive_two dir es n name b t.0 t.1

      pub dir_alike : is_dir (node_at one b) ≡ is_dir (node_at two b)
      dir_alike = same_dir b some_one some_two

      -- link, from a name that is there
      pub link_taken : (q p : Place) → Stands one q → Stands two p → (is_dir (node_at one b) ≡ false → p ≡ q)
          → ((linked one (Taken dir es n name b) q).answer ≡ Plain reply.MLink → is_dir (node_at one b) ≡ false → Near L one two b)
          → ((linked one (Taken dir es n name b) q).answer ≡ Plain reply.DirFull → is_dir (node_at one b) ≡ false → Near L one two b)
          → ((linked one (Taken dir es n name b) q).answer ≡ Plain reply.NoDirBlock → is_dir (node_at one b) ≡ false → Near L one two b)
          → ((Near L one two b) ⊎ (node_at (linked one (Taken dir es n name b) q).tree b ≡ node_at one b))
          → Matches L one two (linked one (Taken dir es n name b) q) (linked two (Taken dir es n name b) p)
      link_taken q p sq tp same m f k l = go (is_dir (node_at one b)) refl m f k l
        where
          go : (c : Bool) → is_dir (node_at one b) ≡ c
              → ((cond {A = Applied} c (says one reply.IsDir) (linked_to one b q)).answer ≡ Plain reply.MLink → is_dir (node_at one b) ≡ false → Near L one two b)
              → ((cond {A = Applied} c (says one reply.IsDir) (linked_to one b q)).answer ≡ Plain reply.DirFull → is_dir (node_at one b) ≡ false → Near L one two b)
              → ((cond {A = Applied} c (says one reply.IsDir) (linked_to one b q)).answer ≡ Plain reply.NoDirBlock → is_dir (node_at one b) ≡ false → Near L one two b)
              → ((Near L one two b) ⊎ (node_at (cond {A = Applied} c (says one reply.IsDir) (linked_to one b q)).tree b ≡ node_at one b))
              → Matches L one two (cond {A = Applied} c (says one reply.IsDir) (linked_to one b q)) (cond {A = Applied} (is_dir (node_at two b)) (says two reply.IsDir) (linked_to two b p))
          go true i m f k l = subst (λ d. Matches L one two (says one reply.IsDir) (cond {A = Applied} d (says two reply.IsDir) (linked_to two b p))) (sym i ∙ dir_alike) (both_say L one two reply.IsDir)
          go false i m f k l =
              subst (λ d. Matches L one two (linked_to one b q) (cond {A = Applied} d (says two reply.IsDir) (linked_to two b p))) (sym i ∙ dir_alike)
              (subst (λ z. Matches L one two (linked_to one b q) (linked_to two b z)) (sym (same i))
              (linked_to_matches b some_one i q sq (subst (Stands two) (same i) tp) (λ e. m e i) (λ e. f e i) (λ e. k e i) l))

      -- unlink, where the name is there
      fewer_matches : BirthsAscend one → BirthsAscend two → Near L one two b → Matches L one two (says (one_link_fewer (with_node one dir (Dir (without_entry es name) n)) b (node_at one b)) reply.Ok) (says (one_link_fewer (with_node two dir (Dir (without_entry es name) n)) b (node_at two b)) reply.Ok)
      fewer_matches births_one births_two same =
          let u = with_node one dir (Dir (without_entry es name) n) in
          let v = with_node two dir (Dir (without_entry es name) n) in
          let j = joint_with L one two one two (joint_none L one two) dir (Dir (without_entry es name) n) (like_equal L (node_at one dir) (node_at two dir) (s.0 ∙ sym t.0)) in
          both_do L one two (one_link_fewer u b (node_at one b)) (one_link_fewer v b (node_at two b)) reply.Ok
          (joint_fewer L one two u v j (ascend_with one dir (Dir (without_entry es name) n) births_one) (ascend_with two dir (Dir (without_entry es name) n) births_two) b (node_at one b) (node_at two b) same same)

      -- a node with a link fewer is touched
      fewer_same : (u : FileTree) → BirthsAscend u → (o : Option Node) → node_at one b ≡ o → is_some o ≡ true → ((Near L one two b) ⊎ (node_at (one_link_fewer u b o) b ≡ node_at one b)) → Near L one two b
      fewer_same u births None i some l = absurd (cc)
      fewer_same u births (Some x) i some (inl e) = e
      fewer_same u births (Some x) i some (inr e) = absurd (fewer_differs u b x births (e ∙ i))

      pub unlink_taken : BirthsAscend one → BirthsAscend two
          → ((Near L one two b) ⊎ (node_at (unlinked one (Taken dir es n name b)).tree b ≡ node_at one b))
          → Matches L one two (unlinked one (Taken dir es n name b)) (unlinked two (Taken dir es n name b))
      unlink_taken births_one births_two l = go (is_dir (node_at one b)) refl l
        where
          go : (c : Bool) → is_dir (node_at one b) ≡ c → ((Near L one two b) ⊎ (node_at (cond {A = Applied} c (says one reply.IsDir) (says (one_link_fewer (with_node one dir (Dir (without_entry es name) n)) b (node_at one b)) reply.Ok)).tree b ≡ node_at one b))
              → Matches L one two (cond {A = Applied} c (says one reply.IsDir) (says (one_link_fewer (with_node one dir (Dir (without_entry es name) n)) b (node_at one b)) reply.Ok)) (cond {A = Applied} (is_dir (node_at two b)) (says two reply.IsDir) (says (one_link_fewer (with_node two dir (Dir (without_entry es name) n)) b (node_at two b)) reply.Ok))
          go true i l = subst (λ d. Matches L one two (says one reply.IsDir) (cond {A = Applied} d (says two reply.IsDir) (says (one_link_fewer (with_node two dir (Dir (without_entry es name) n)) b (node_at two b)) reply.Ok))) (sym i ∙ dir_alike) (both_say L one two reply.IsDir)
          go false i l = subst (λ d. Matches L one two (says (one_link_fewer (with_node one dir (Dir (without_entry es name) n)) b (node_at one b)) reply.Ok) (cond {A = Applied} d (says two reply.IsDir) (says (one_link_fewer (with_node two dir (Dir (without_entry es name) n)) b (node_at two b)) reply.Ok))) (sym i ∙ dir_alike)
              (fewer_matches births_one births_two (fewer_same (with_node one dir (Dir (without_entry es name) n)) (ascend_with one dir (Dir (without_entry es name) n) births_one) (node_at one b) refl some_one l))

      -- rmdir, where the name is there
      pub rmdir_taken : BirthsAscend one → BirthsAscend two → (is_dir (node_at one b) ≡ true → Near L one two b)
          → Matches L one two (dir_removed one (Taken dir es n name b)) (dir_removed two (Taken dir es n name b))
      rmdir_taken births_one births_two same = go (is_dir (node_at one b)) refl
        where
          u : FileTree
          u = with_node one dir (Dir (without_entry es name) n)

          v : FileTree
          v = with_node two dir (Dir (without_entry es name) n)

          go : (c : Bool) → is_dir (node_at one b) ≡ c
              → Matches L one two (cond {A = Applied} (not c) (says one reply.NotDir) (cond {A = Applied} (has_entries (node_at one b)) (says one reply.NotEmpty) (says (without_node u b) reply.Ok)))
              (cond {A = Applied} (not (is_dir (node_at two b))) (says two reply.NotDir) (cond {A = Applied} (has_entries (node_at two b)) (says two reply.NotEmpty) (says (without_node v b) reply.Ok)))
          go false i = subst (λ d. Matches L one two (says one reply.NotDir) (cond {A = Applied} (not d) (says two reply.NotDir) (cond {A = Applied} (has_entries (node_at two b)) (says two reply.NotEmpty) (says (without_node v b) reply.Ok)))) (sym i ∙ dir_alike) (both_say L one two reply.NotDir)
          go true i =
              let j = joint_with L one two one two (joint_none L one two) dir (Dir (without_entry es name) n) (like_equal L (node_at one dir) (node_at two dir) (s.0 ∙ sym t.0)) in
              subst (λ q. Matches L one two (cond {A = Applied} (has_entries (node_at one b)) (says one reply.NotEmpty) (says (without_node u b) reply.Ok)) (cond {A = Applied} (not (is_dir q)) (says two reply.NotDir) (cond {A = Applied} (has_entries q) (says two reply.NotEmpty) (says (without_node v b) reply.Ok)))) (like_dir L (node_at one b) (node_at two b) i (same i))
              (subst (λ d. Matches L one two (cond {A = Applied} (has_entries (node_at one b)) (says one reply.NotEmpty) (says (without_node u b) reply.Ok)) (cond {A = Applied} (not d) (says two reply.NotDir) (cond {A = Applied} (has_entries (node_at one b)) (says two reply.NotEmpty) (says (without_node v b) reply.Ok)))) (sym i)
              (both_if L one two (has_entries (node_at one b)) (says one reply.NotEmpty) _ (says two reply.NotEmpty) _ (both_say L one two reply.NotEmpty)
              (both_do L one two (without_node u b) (without_node v b) reply.Ok (joint_without L one two u v j (ascend_with one dir (Dir (without_entry es name) n) births_one) (ascend_with two dir (Dir (without_entry es name) n) births_two) b (same i)))))
