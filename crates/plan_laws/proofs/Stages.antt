-- A store on the way from the disk of one tree to that of another: the picture of some nodes within its segments. Each change leads on.
use Rattle.std.proofs.Common.{ℕ, ◌≡◌, ◌≢◌, ◌<◌, ◌≤◌, ◌+◌, ◌*◌, ◌^◌, Bool, true, false, Option, Some, None, List, if◌then◌else◌, refl, sym, ◌∙◌, ap, subst, arith, is_some}
use Rattle.std.proofs.Math.Path.{fun_ext}
use Rattle.tree_definitions.specs.declared.node.Node.{Node}
use Rattle.tree_definitions.specs.declared.node.Node.TheVariants.{Dir, File, Link}
use Rattle.tree_definitions.specs.Entries.{Entries}
use Rattle.tree_definitions.specs.Tree.{FileTree, node_at}
use Rattle.tree_definitions.specs.Apply.{is_dir}
use Rattle.frang_base.proofs.Basics.{at_put}
use Rattle.tree_definitions.specs.WellFormed.{IsWellFormed, put as put_node}
use Rattle.tree_definitions.proofs.Births.{each_but}
use Rattle.tree_laws.proofs.Nodes.{put_same as node_same, put_other as node_other}
use Rattle.tree_laws.proofs.Places.{dir_is_some}
use Rattle.disk_definitions.specs.Store.{Store, StoredNode}
use Rattle.disk_definitions.specs.Store.Use.{Fresh, Empty}
use Rattle.disk_definitions.specs.Naming.{Naming, Nodes, Pictures, kind_of, blocks_of, inode_of, use_by, use_for, entry_of}
use Rattle.disk_definitions.specs.Edits.{edited_all}
use Rattle.disk_definitions.specs.Changes.{new_node, put_entry, take_entry, replace_entry, grow, relink, drop_node}
use Rattle.disk_definitions.specs.Namings.{named_new, named_at, named_block, named_less, is_of, KeepsOthers}
use Rattle.disk_definitions.specs.ChangeLaws.{Leads, MayCome, HasInode, HasNameMore, HasNameLess, HasNameInstead, IsFreePlace, IsFreeBlock, HasNoNames, with_links}
use Rattle.disk_definitions.proofs.Kept.{inode_is}
use Rattle.disk_definitions.proofs.NewNode.{nodes_come}
use Rattle.disk_definitions.proofs.Entry.{entries_come, entries_go}
use Rattle.disk_definitions.proofs.Replace.{entries_are_replaced}
use Rattle.disk_definitions.proofs.Grow.{directories_grow}
use Rattle.disk_definitions.proofs.Relink.{links_change}
use Rattle.disk_definitions.proofs.Freeing.{nodes_go}
use Rattle.disk_definitions.specs.Meets.{IsOfTree}

-- what a naming names is within so many segments
pub record IsWithin (n : Naming) (segments : ℕ) : Type 0 where
  pub inodes : (i : ℕ) → is_some (n.birth i) ≡ true → i < 64 * segments
  pub blocks : (k : ℕ) → 1024 * segments ≤ k → (n.owner k ≡ None) × (n.was k ≡ false)
  pub larges : (g : ℕ) → is_some (n.large_owner g) ≡ true → g < segments

pub record IsStage (s : Store) (segments : ℕ) (at : Nodes) (n : Naming) : Type 0 where
  pub pictures : Pictures s at n
  pub rooted : is_some (at 0) ≡ true
  pub root : n.inode 0 ≡ 0
  pub births : (b : ℕ) → is_some (at b) ≡ true → 2 ^ 32 ≤ b → n.stamp b ≡ b
  pub within : IsWithin n segments

-- ---- from and to a tree

used : (x : Option Node) (j : ℕ) → j < blocks_of x → use_by x ≢ Fresh
used None j l e = omega arith
used (Some (Dir entries blocks)) j l e = cc
used (Some (File cells links when)) j l e = cc
used (Some (Link target links)) j l e = omega arith

pub nobodys : (s : Store) (at : Nodes) (n : Naming) → Pictures s at n → (k : ℕ) → s.use_of k ≡ Fresh → (n.owner k ≡ None) × (n.was k ≡ false)
nobodys s at n g k e = go (n.owner k) refl
  where
    unwas : (b : Bool) → (if b then Empty else Fresh) ≡ Fresh → b ≡ false
    unwas true e = absurd (cc)
    unwas false e = refl

    go : (o : Option (ℕ × ℕ)) → n.owner k ≡ o → (n.owner k ≡ None) × (n.was k ≡ false)
    go None i = (i, unwas (n.was k) (sym (g.uses k ∙ ap (use_for (n.was k) at) i) ∙ e))
    go (Some o) i = absurd (used (at o.0) o.1 (g.owners k o.0 o.1 i).1 (sym (g.uses k ∙ ap (use_for (n.was k) at) i) ∙ e))

pub stage_of : (s : Store) (tree : FileTree) (n : Naming) → IsOfTree s tree n → IsStage s tree.segments (node_at tree) n
stage_of s tree n of = record {
  pictures = of.pictures;
  rooted = dir_is_some (node_at tree 0) of.well_formed.rooted;
  root = of.root;
  births = of.births;
  within = record {
    inodes = λ i e. of.inodes i (of.pictures.bits i ∙ e);
    blocks = λ k l. nobodys s (node_at tree) n of.pictures k (of.blocks k l);
    larges = λ g e. of.larges g (of.pictures.large_bits g ∙ e);
  };
}

pub of_stage : (t : Store) (segments : ℕ) (at : Nodes) (m : Naming) (tree : FileTree) → IsStage t segments at m → ((b : ℕ) → node_at tree b ≡ at b) → IsWellFormed tree → tree.segments ≡ segments → segments ≤ 64 → IsOfTree t tree m
of_stage t segments at m tree stage same well size few =
    let nodes : at ≡ node_at tree = fun_ext (λ b. sym (same b)) in
    let g : Pictures t (node_at tree) m = subst (λ f. Pictures t f m) nodes stage.pictures in
    record {
      well_formed = well;
      few = rw size few;
      pictures = g;
      root = stage.root;
      births = λ b e l. stage.births b (ap is_some (sym (same b)) ∙ e) l;
      inodes = λ i e. rw size (stage.within.inodes i (sym (g.bits i) ∙ e));
      blocks = λ k l. let w = stage.within.blocks k (subst (λ z. 1024 * z ≤ k) size l) in g.uses k ∙ rw (w.0, w.1) refl;
      larges = λ i e. rw size (stage.within.larges i (sym (g.large_bits i) ∙ e));
    }

-- ---- a change of the node of one birth

pub moved : (s t : Store) (segments : ℕ) (at : Nodes) (n m : Naming) (b : ℕ) (node : Option Node) → IsStage s segments at n → Leads s t at n m b node → IsWithin m segments → is_some (put_node at b node 0) ≡ true →
    (is_some node ≡ true → 2 ^ 32 ≤ b → m.stamp b ≡ b) → IsStage t segments (put_node at b node) m
moved s t segments at n m b node stage leads within rooted stamp = record {
  pictures = leads.pictures;
  rooted = rooted;
  root = leads.others.inode 0 stage.rooted ∙ stage.root;
  births = each_but (λ c. is_some (put_node at b node c) ≡ true → 2 ^ 32 ≤ c → m.stamp c ≡ c) b
      (λ e l. stamp (sym (ap is_some (node_same at b node)) ∙ e) l)
      (λ c f e l. let there : is_some (at c) ≡ true = ap is_some (sym (node_other at b node c f)) ∙ e in leads.others.stamp c there ∙ stage.births c there l);
  within = within;
}

-- the root stays where another birth changes, or the root gets another node
still_rooted : (at : Nodes) (b : ℕ) (node : Node) → is_some (at 0) ≡ true → is_some (put_node at b (Some node) 0) ≡ true
still_rooted at b node e = each_but (λ c. is_some (at c) ≡ true → is_some (put_node at b (Some node) c) ≡ true) b (λ i. ap is_some (node_same at b (Some node))) (λ c f i. ap is_some (node_other at b (Some node) c f) ∙ i) 0 e

-- of a birth that is there
pub moved_on : (s t : Store) (segments : ℕ) (at : Nodes) (n m : Naming) (b : ℕ) (node : Node) → IsStage s segments at n → Leads s t at n m b (Some node) → IsWithin m segments → is_some (at b) ≡ true → IsStage t segments (put_node at b (Some node)) m
moved_on s t segments at n m b node stage leads within there = moved s t segments at n m b (Some node) stage leads within (still_rooted at b node stage.rooted)
    (λ e l. leads.others.stamp b there ∙ stage.births b there l)

module _ (s : Store) (segments : ℕ) (at : Nodes) (n : Naming) (stage : IsStage s segments at n) where
  abbrev goes : Store → ℕ → Option Node → Naming → Type 0
  goes t b node m = IsStage t segments (put_node at b node) m × KeepsOthers at b n m

  same_range : (m : Naming) → ((i : ℕ) → m.birth i ≡ n.birth i) → ((k : ℕ) → (m.owner k ≡ n.owner k) × (m.was k ≡ n.was k)) → ((g : ℕ) → m.large_owner g ≡ n.large_owner g) → IsWithin m segments
  same_range m a b c = record {
    inodes = λ i e. stage.within.inodes i (ap is_some (sym (a i)) ∙ e);
    blocks = λ k l. let w = stage.within.blocks k l in ((b k).0 ∙ w.0, (b k).1 ∙ w.1);
    larges = λ g e. stage.within.larges g (ap is_some (sym (c g)) ∙ e);
  }

  there : (b : ℕ) (node : Node) (x : StoredNode) → HasInode s at n b node x → is_some (at b) ≡ true
  there b node x has = ap is_some has.is

  pub comes : (b j : ℕ) (node : Node) → MayCome s at b j node → j < 64 * segments → goes (edited_all s (new_node j b node)) b (Some node) (named_new n b j b (kind_of node))
  comes b j node may l =
      let r = nodes_come s at n b j b node stage.pictures may in
      let within : IsWithin (named_new n b j b (kind_of node)) segments = record {
        inodes = λ i. at_put (λ o. is_some o ≡ true → i < 64 * segments) n.birth j (Some b) i (λ q e. rw q l) (λ q e. stage.within.inodes i e);
        blocks = stage.within.blocks;
        larges = stage.within.larges;
      } in
      (moved s (edited_all s (new_node j b node)) segments at n (named_new n b j b (kind_of node)) b (Some node) stage r within (still_rooted at b node stage.rooted) (λ e k. at_put (λ z. z ≡ b) n.stamp b b b (λ i. refl) (λ i. absurd (i refl))), r.others)

  pub gets : (d blocks q b : ℕ) (x : StoredNode) (old new : Entries) (name : List ℕ) → HasInode s at n d (Dir old blocks) x → HasNameMore old new name b → IsFreePlace s n d blocks q →
      goes (edited_all s (put_entry (n.inode d) x q (entry_of n name b))) d (Some (Dir new blocks)) (named_at n d name q)
  gets d blocks q b x old new name has more free =
      let r = entries_come s at n d blocks x old new name b q stage.pictures has more free in
      (moved_on s (edited_all s (put_entry (n.inode d) x q (entry_of n name b))) segments at n (named_at n d name q) d (Dir new blocks) stage r (same_range (named_at n d name q) (λ i. refl) (λ k. (refl, refl)) (λ g. refl)) (there d (Dir old blocks) x has), r.others)

  pub loses : (d blocks : ℕ) (x : StoredNode) (old new : Entries) (name : List ℕ) → HasInode s at n d (Dir old blocks) x → HasNameLess old new name →
      goes (edited_all s (take_entry (n.inode d) x (n.spot d name))) d (Some (Dir new blocks)) n
  loses d blocks x old new name has less =
      let r = entries_go s at n d blocks x old new name stage.pictures has less in
      (moved_on s (edited_all s (take_entry (n.inode d) x (n.spot d name))) segments at n n d (Dir new blocks) stage r stage.within (there d (Dir old blocks) x has), r.others)

  pub replaces : (d blocks b : ℕ) (x : StoredNode) (old new : Entries) (name to : List ℕ) → HasInode s at n d (Dir old blocks) x → HasNameInstead old new name to b →
      goes (edited_all s (replace_entry x (n.spot d name) (entry_of n to b))) d (Some (Dir new blocks)) (named_at n d to (n.spot d name))
  replaces d blocks b x old new name to has instead =
      let r = entries_are_replaced s at n d blocks x old new name to b stage.pictures has instead in
      let m = named_at n d to (n.spot d name) in
      (moved_on s (edited_all s (replace_entry x (n.spot d name) (entry_of n to b))) segments at n m d (Dir new blocks) stage r (same_range m (λ i. refl) (λ k. (refl, refl)) (λ g. refl)) (there d (Dir old blocks) x has), r.others)

  pub grows : (d blocks k : ℕ) (x : StoredNode) (entries : Entries) → HasInode s at n d (Dir entries blocks) x → IsFreeBlock s k → k < 1024 * segments →
      goes (edited_all s (grow (n.inode d) x k)) d (Some (Dir entries (blocks + 1))) (named_block n d blocks k)
  grows d blocks k x entries has free l =
      let r = directories_grow s at n d blocks x entries k stage.pictures has free in
      let m = named_block n d blocks k in
      let within : IsWithin m segments = record {
        inodes = stage.within.inodes;
        blocks = λ c a. at_put (λ o. (o ≡ None) × (n.was c ≡ false)) n.owner k (Some (d, blocks)) c (λ q. absurd (omega arith)) (λ q. stage.within.blocks c a);
        larges = stage.within.larges;
      } in
      (moved_on s (edited_all s (grow (n.inode d) x k)) segments at n m d (Dir entries (blocks + 1)) stage r within (there d (Dir entries blocks) x has), r.others)

  pub relinks : (b links : ℕ) (x : StoredNode) (node : Node) → HasInode s at n b node x → is_dir (Some node) ≡ false →
      goes (edited_all s (relink (n.inode b) x links)) b (Some (with_links links node)) n
  relinks b links x node has plain =
      let r = links_change s at n b links x node stage.pictures has plain in
      (moved_on s (edited_all s (relink (n.inode b) x links)) segments at n n b (with_links links node) stage r stage.within (there b node x has), r.others)

  pub drops : (b : ℕ) (x : StoredNode) (node : Node) → HasInode s at n b node x → HasNoNames node → b ≢ 0 →
      goes (edited_all s (drop_node (n.inode b) x)) b None (named_less n b (kind_of node))
  drops b x node has bare away =
      let r = nodes_go s at n b x node stage.pictures has bare in
      let m = named_less n b (kind_of node) in
      let within : IsWithin m segments = record {
        inodes = λ i. at_put (λ o. is_some o ≡ true → i < 64 * segments) n.birth (n.inode b) None i (λ q e. absurd (cc)) (λ q e. stage.within.inodes i e);
        blocks = λ k l. let w = stage.within.blocks k l in rw w.0 (refl, w.1);
        larges = λ g e. stage.within.larges g (kept (n.large_owner g) e);
      } in
      (moved s (edited_all s (drop_node (n.inode b) x)) segments at n m b None stage r within (ap is_some (node_other at b None 0 (λ e. away (sym e))) ∙ stage.rooted) (λ e. absurd (cc)), r.others)
    where
      kept : (o : Option ℕ) → is_some (if is_of b o then None else o) ≡ true → is_some o ≡ true
      kept None e = e
      kept (Some c) e = refl

-- ---- what a change leaves of other nodes

-- the inode of another birth
pub still : (s t : Store) (at : Nodes) (n m : Naming) (b c : ℕ) (node : Option Node) (y : Node) (x : StoredNode) → Pictures s at n → Pictures t (put_node at b node) m → KeepsOthers at b n m → c ≢ b → HasInode s at n c y x →
    (m.inode c ≡ n.inode c) × HasInode t (put_node at b node) m c y x
still s t at n m b c node y x g h keeps far has =
    let some : is_some (at c) ≡ true = ap is_some has.is in
    let is : put_node at b node c ≡ Some y = node_other at b node c far ∙ has.is in
    let a : s.inode (n.inode c) ≡ Some (inode_of (n.stamp c) (n.block c) (n.large c) y) = inode_is s at n g c y has.is in
    let z : inode_of (m.stamp c) (m.block c) (m.large c) y ≡ inode_of (n.stamp c) (n.block c) (n.large c) y = rw (keeps.stamp c some, keeps.block c far, keeps.large c far) refl in
    (keeps.inode c some, record { is = is; inode = inode_is t (put_node at b node) m h c y is ∙ ap Some z ∙ sym a ∙ has.inode })

-- the same nodes, said otherwise
pub restage : (s : Store) (segments : ℕ) (at to : Nodes) (n : Naming) → IsStage s segments at n → ((b : ℕ) → to b ≡ at b) → IsStage s segments to n
restage s segments at to n stage same = let nodes : at ≡ to = fun_ext (λ b. sym (same b)) in subst (λ f. IsStage s segments f n) nodes stage
