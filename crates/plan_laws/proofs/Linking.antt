-- The plan of link: the node gets a link more, and then its second name comes into a directory.
use Rattle.std.proofs.Common.{ℕ, ◌≡◌, ◌≢◌, ◌+◌, ◌==◌, Bool, true, false, Option, Some, None, List, [], ◌∷◌, ◌++◌, length, nat_le, if◌then◌else◌, refl, sym, ◌∙◌, ap, subst, is_some}
use Rattle.std.proofs.Math.Path.{fun_ext}
use Rattle.frang_base.specs.declared.op.Op.TheVariants as op
use Rattle.frang_base.specs.declared.reply.Reply.TheVariants as reply
use Rattle.tree_definitions.specs.declared.node.Node.{Node}
use Rattle.tree_definitions.specs.declared.node.Node.TheVariants.{Dir, File, Link}
use Rattle.tree_definitions.specs.Entries.{Entries, entry_at, with_entry}
use Rattle.tree_definitions.specs.Tree.{FileTree, node_at, with_node, grown, lacks_block}
use Rattle.tree_definitions.specs.Place.{Taken, Free, place}
use Rattle.tree_definitions.specs.Apply.{says, named, is_dir, links_of, one_link_more, linked_to, linked}
use Rattle.tree_definitions.specs.WellFormed.{IsWellFormed, put as put_node}
use Rattle.tree_laws.proofs.Nodes.{node_with, put_same as node_same, put_other as node_other}
use Rattle.tree_definitions.proofs.Births.{each_but}
use Rattle.tree_laws.proofs.Keeping.{names_nodes}
use Rattle.tree_laws.proofs.StepsLaws.{apply_keeps}
use Rattle.disk_definitions.specs.Store.{Store, StoredNode, StoredEntry}
use Rattle.disk_definitions.specs.Naming.{Naming, Nodes, kind_of, entry_of}
use Rattle.disk_definitions.specs.Edits.{edited_all}
use Rattle.disk_definitions.specs.Changes.{relink}
use Rattle.disk_definitions.specs.ChangeLaws.{with_links}
use Rattle.disk_definitions.proofs.Puts.{edited_append}
use Rattle.disk_definitions.proofs.Kept.{inode_is}
use Rattle.disk_definitions.specs.Ask.{ReadInode, bind, run}
use Rattle.disk_definitions.specs.Walks.{AtName, AtGap, walk}
use Rattle.disk_definitions.specs.Plans.{Hand, Room, enter, find_room, finish_in, must_clear, refused}
use Rattle.disk_definitions.specs.Plans.Room.{Inside, InBlock, NoRoom}
use Rattle.disk_definitions.specs.NamePlans.{linked_by, linking_in, linking_node, linking_to, linking}
use Rattle.disk_definitions.specs.Meets.{IsOfTree, IsHandOf}
use Rattle.plan_laws.specs.Keeping.{FinishKeeps}
use Rattle.plan_laws.specs.NamesPlanned.{LinkIsPlanned}
use Rattle.plan_laws.proofs.Asking.{run-bind}
use Rattle.plan_laws.proofs.Cases.{inode_by, has_inode, by_spot}
use Rattle.plan_laws.proofs.Refusing.{Meets, passes, refuse_meets, none_meets}
use Rattle.plan_laws.proofs.Stages.{stage_of, of_stage, relinks, still}
use Rattle.plan_laws.proofs.Entering.{IsRoomFor, room_found, lacks_none_inside, lacks_by_blocks, TakesEntry, HasEntered, enters}
use Rattle.plan_laws.proofs.Walking.{walks_lead}

-- what an inode says of its node
pub links_are : (n : Naming) (b : ℕ) (node : Node) → links_of (Some node) ≡ (inode_by n b node).links
links_are n b (Dir entries blocks) = refl
links_are n b (File cells links when) = refl
links_are n b (Link target links) = refl

pub kind_are : (n : Naming) (b : ℕ) (node : Node) → (inode_by n b node).kind ≡ kind_of node
kind_are n b (Dir entries blocks) = refl
kind_are n b (File cells links when) = refl
kind_are n b (Link target links) = refl

one_more : (tree : FileTree) (b : ℕ) (node : Node) → is_dir (Some node) ≡ false → one_link_more tree b (Some node) ≡ with_node tree b (with_links (links_of (Some node) + 1) node)
one_more tree b (Dir entries blocks) plain = absurd (cc)
one_more tree b (File cells links when) plain = refl
one_more tree b (Link target links) plain = refl

module _ (h : Hand) (s : Store) (tree : FileTree) (n : Naming) (of : IsOfTree s tree n) (hand : IsHandOf h s tree.segments) (dirs : List ℕ)
    (b : ℕ) (node : Node) (at : node_at tree b ≡ Some node) (plain : is_dir (Some node) ≡ false) (d blocks : ℕ) (entries : Entries) (name : List ℕ) (is : node_at tree d ≡ Some (Dir entries blocks)) (absent : entry_at entries name ≡ None) where
  abbrev x : StoredNode
  x = inode_by n d (Dir entries blocks)

  abbrev y : StoredNode
  y = inode_by n b node

  abbrev more : Node
  more = with_links (y.links + 1) node

  abbrev entry : StoredEntry
  entry = record { name = name; inode = n.inode b; kind = y.kind }

  abbrev result : FileTree
  result = named (one_link_more tree b (Some node)) d entries blocks name b

  abbrev mid : Nodes
  mid = put_node (node_at tree) b (Some more)

  abbrev t : Store
  t = edited_all s (relink (n.inode b) y (y.links + 1))

  apart : d ≢ b
  apart e = let z : Some node ≡ Some (Dir entries blocks) = sym at ∙ ap (node_at tree) (sym e) ∙ is in let v : is_dir (Some node) ≡ true = ap is_dir z in cc

  more_is : one_link_more tree b (Some node) ≡ with_node tree b more
  more_is = one_more tree b node plain ∙ ap (λ k. with_node tree b (with_links (k + 1) node)) (links_are n b node)

  same_nodes : (c : ℕ) → node_at result c ≡ put_node mid d (Some (Dir (with_entry entries name b) (grown entries blocks))) c
  same_nodes c =
      let z : node_at (one_link_more tree b (Some node)) ≡ mid = ap node_at more_is ∙ fun_ext (node_with tree b more) in
      node_with (one_link_more tree b (Some node)) d (Dir (with_entry entries name b) (grown entries blocks)) c ∙ ap (λ f. put_node f d (Some (Dir (with_entry entries name b) (grown entries blocks))) c) z

  still_there : (c : ℕ) → is_some (node_at tree c) ≡ true → is_some (mid c) ≡ true
  still_there =
      each_but (λ c. is_some (node_at tree c) ≡ true → is_some (mid c) ≡ true) b (λ e. ap is_some (node_same (node_at tree) b (Some more)))
      (λ c f e. ap is_some (node_other (node_at tree) b (Some more) c f) ∙ e)

  entered : (room : Room) → TakesEntry t tree.segments n d entries blocks room → HasEntered (edited_all t (enter (n.inode d) x entry room)) tree.segments mid n d (Dir (with_entry entries name b) (grown entries blocks))
  entered room takes =
      let c = relinks s tree.segments (node_at tree) n (stage_of s tree n of) b (y.links + 1) y node (has_inode s (node_at tree) n of.pictures b node at) plain in
      let r = still s t (node_at tree) n n b d (Some more) (Dir entries blocks) x of.pictures c.0.pictures c.1 apart (has_inode s (node_at tree) n of.pictures d (Dir entries blocks) is) in
      let e : entry_of n name b ≡ entry = ap (λ k. record { name = name; inode = n.inode b; kind = k }) (of.pictures.kinds b node at ∙ sym (kind_are n b node)) in
      subst (λ v. HasEntered (edited_all t (enter (n.inode d) x v room)) tree.segments mid n d (Dir (with_entry entries name b) (grown entries blocks))) e
      (enters t tree.segments mid n c.0 d b blocks entries r.1 name absent room takes)

  finished : (room : Room) → TakesEntry t tree.segments n d entries blocks room → IsWellFormed result → FinishKeeps s tree n (says result reply.Ok) (linked_by (n.inode d) x name (n.inode b) y dirs room)
  finished room takes well =
      let r = entered room takes in
      let edits = edited_append s (relink (n.inode b) y (y.links + 1)) (enter (n.inode d) x entry room) in
      record {
        meets = record {
          answer = refl;
          naming = r.naming;
          tree = subst (λ z. IsOfTree z result r.naming) (sym edits)
              (of_stage (edited_all t (enter (n.inode d) x entry room)) tree.segments (put_node mid d (Some (Dir (with_entry entries name b) (grown entries blocks)))) r.naming result r.stage same_nodes well (ap (λ (z : FileTree). z.segments) more_is) of.few);
        };
        inodes = λ c there stays. r.others.inode c (still_there c there);
      }

  room_case : (room : Room) → IsRoomFor h s tree n d entries blocks room → Meets h s tree n (if lacks_block tree entries blocks then says tree reply.NoDirBlock else says result reply.Ok) (run (linking_in h (n.inode d) x name (n.inode b) y dirs room) s)
  room_case NoRoom r = λ well. none_meets h s tree n of reply.NoDirBlock (dirs ++ n.inode b ∷ []) (lacks_block tree entries blocks) (says result reply.Ok) (λ all. lacks_by_blocks tree entries blocks true r.0 (r.1 all))
  room_case (Inside q) r = passes h s tree n (lacks_block tree entries blocks) (says tree reply.NoDirBlock) (says result reply.Ok) (run (linking_in h (n.inode d) x name (n.inode b) y dirs (Inside q)) s) (lacks_none_inside tree entries blocks r.1)
      (finished (Inside q) (record { inside = r.0.inside; vacant = r.0.vacant }, r.1))
  room_case (InBlock k) r = passes h s tree n (lacks_block tree entries blocks) (says tree reply.NoDirBlock) (says result reply.Ok) (run (linking_in h (n.inode d) x name (n.inode b) y dirs (InBlock k)) s) (lacks_by_blocks tree entries blocks false r.0 r.2)
      (by_clear (must_clear h k) refl)
    where
      by_clear : (c : Bool) → must_clear h k ≡ c → Meets h s tree n (says result reply.Ok) (run (finish_in h (InBlock k) (linked_by (n.inode d) x name (n.inode b) y dirs (InBlock k))) s)
      by_clear true e well = rw e e
      by_clear false e well = rw e (finished (InBlock k) (r.0, record { free = (r.3 e).free; clear = (r.3 e).clear }, r.1) well)

  by_size : (c : Bool) → nat_le 896 (length entries) ≡ c → Meets h s tree n (if c then says tree reply.DirFull else (if lacks_block tree entries blocks then says tree reply.NoDirBlock else says result reply.Ok))
      (run (if c then refused reply.DirFull (dirs ++ n.inode b ∷ []) else bind (find_room h x) (linking_in h (n.inode d) x name (n.inode b) y dirs)) s)
  by_size true few = λ well. refuse_meets h s tree n of reply.DirFull (dirs ++ n.inode b ∷ [])
  by_size false few = rw (run-bind (find_room h x) (linking_in h (n.inode d) x name (n.inode b) y dirs) s) (room_case (run (find_room h x) s) (room_found h s tree n of hand d blocks entries is few))

  by_links : (c : Bool) → Meets h s tree n (if c then says tree reply.MLink else (if nat_le 896 (length entries) then says tree reply.DirFull else (if lacks_block tree entries blocks then says tree reply.NoDirBlock else says result reply.Ok)))
      (run (if c then refused reply.MLink (dirs ++ n.inode b ∷ []) else (if nat_le 896 (length entries) then refused reply.DirFull (dirs ++ n.inode b ∷ []) else bind (find_room h x) (linking_in h (n.inode d) x name (n.inode b) y dirs))) s)
  by_links true = λ well. refuse_meets h s tree n of reply.MLink (dirs ++ n.inode b ∷ [])
  by_links false = by_size (nat_le 896 (length entries)) refl

  -- a second name that isn't there
  pub gap_meets : Meets h s tree n (if nat_le 1000 (links_of (Some node)) then says tree reply.MLink else (if nat_le 896 (length entries) then says tree reply.DirFull else (if lacks_block tree entries blocks then says tree reply.NoDirBlock else says result reply.Ok)))
      (run (ReadInode (n.inode b) (linking_node h (n.inode d) x name (n.inode b) dirs)) s)
  gap_meets =
      subst (λ o. Meets h s tree n (if nat_le 1000 (links_of (Some node)) then says tree reply.MLink else (if nat_le 896 (length entries) then says tree reply.DirFull else (if lacks_block tree entries blocks then says tree reply.NoDirBlock else says result reply.Ok)))
      (run (linking_node h (n.inode d) x name (n.inode b) dirs o) s)) (sym (inode_is s (node_at tree) n of.pictures b node at))
      (subst (λ k. Meets h s tree n (if nat_le 1000 k then says tree reply.MLink else (if nat_le 896 (length entries) then says tree reply.DirFull else (if lacks_block tree entries blocks then says tree reply.NoDirBlock else says result reply.Ok)))
      (run (linking_node h (n.inode d) x name (n.inode b) dirs (Some y)) s)) (sym (links_are n b node)) (by_links (nat_le 1000 y.links)))

module _ (h : Hand) (s : Store) (tree : FileTree) (n : Naming) (of : IsOfTree s tree n) (hand : IsHandOf h s tree.segments) (to : List (List ℕ)) (dirs : List ℕ) where
  -- of a node that is no directory
  module _ (b : ℕ) (node : Node) (at : node_at tree b ≡ Some node) (plain : is_dir (Some node) ≡ false) where
    abbrev more_dirs : List ℕ
    more_dirs = dirs ++ (run (walk to) s).dirs

    at_gap : (d blocks : ℕ) (entries : Entries) (name : List ℕ) → node_at tree d ≡ Some (Dir entries blocks) → entry_at entries name ≡ None →
        Meets h s tree n (linked_to tree b (Free d entries blocks name)) (run (linking_to h (n.inode b) more_dirs (AtGap (n.inode d) (inode_by n d (Dir entries blocks)) name)) s)
    at_gap d blocks entries name is absent =
        subst (λ o. Meets h s tree n (if nat_le 1000 (links_of o) then says tree reply.MLink else (if nat_le 896 (length entries) then says tree reply.DirFull else (if lacks_block tree entries blocks then says tree reply.NoDirBlock else says (named (one_link_more tree b o) d entries blocks name b) reply.Ok)))
        (run (linking_to h (n.inode b) more_dirs (AtGap (n.inode d) (inode_by n d (Dir entries blocks)) name)) s)) (sym at)
        (gap_meets h s tree n of hand more_dirs b node at plain d blocks entries name is absent)

    pub linked_to_meets : Meets h s tree n (linked_to tree b (place tree to)) (run (bind (walk to) (λ w. linking_to h (n.inode b) (dirs ++ w.dirs) w.spot)) s)
    linked_to_meets =
        let w = run (walk to) s in
        rw (run-bind (walk to) (λ w. linking_to h (n.inode b) (dirs ++ w.dirs) w.spot) s)
        (by_spot s (node_at tree) n of.pictures (λ v p. Meets h s tree n (linked_to tree b p) (run (linking_to h (n.inode b) (dirs ++ w.dirs) v) s))
        (λ well. refuse_meets h s tree n of reply.Exist (dirs ++ w.dirs))
        (λ r well. refuse_meets h s tree n of r (dirs ++ w.dirs))
        (λ d blocks entries name c is had well. refuse_meets h s tree n of reply.Exist (dirs ++ w.dirs))
        at_gap w.spot (place tree to) (walks_lead s tree n to of).0)

  by_node : (b : ℕ) (o : Option Node) → node_at tree b ≡ o → is_some o ≡ true →
      Meets h s tree n (if is_dir o then says tree reply.IsDir else linked_to tree b (place tree to)) (run (if n.kind b == 2 then refused reply.IsDir dirs else bind (walk to) (λ w. linking_to h (n.inode b) (dirs ++ w.dirs) w.spot)) s)
  by_node b None e some = absurd (cc)
  by_node b (Some (Dir es k)) e some = rw (of.pictures.kinds b (Dir es k) e) (λ well. refuse_meets h s tree n of reply.IsDir dirs)
  by_node b (Some (File cells links when)) e some = rw (of.pictures.kinds b (File cells links when) e) (linked_to_meets b (File cells links when) e refl)
  by_node b (Some (Link target links)) e some = rw (of.pictures.kinds b (Link target links) e) (linked_to_meets b (Link target links) e refl)

  pub name_meets : (d blocks : ℕ) (entries : Entries) (name : List ℕ) (b : ℕ) → node_at tree d ≡ Some (Dir entries blocks) → entry_at entries name ≡ Some b →
      Meets h s tree n (linked tree (Taken d entries blocks name b) (place tree to)) (run (linking h to dirs (AtName (n.inode d) (inode_by n d (Dir entries blocks)) name (n.spot d name) (entry_of n name b))) s)
  name_meets d blocks entries name b is had = by_node b (node_at tree b) refl (names_nodes tree of.well_formed d entries blocks name b is had)

pub link_planned : LinkIsPlanned
link_planned path to h s tree n birth when m of hand new =
    let w = run (walk path) s in
    rw (run-bind (walk path) (λ w. linking h to w.dirs w.spot) s)
    (by_spot s (node_at tree) n of.pictures (λ v p. Meets h s tree n (linked tree p (place tree to)) (run (linking h to w.dirs v) s))
    (λ well. refuse_meets h s tree n of reply.IsDir w.dirs)
    (λ r well. refuse_meets h s tree n of r w.dirs)
    (name_meets h s tree n of hand to w.dirs)
    (λ d blocks entries name is absent well. refuse_meets h s tree n of reply.NoEnt w.dirs)
    w.spot (place tree path) (walks_lead s tree n path of).0 (apply_keeps tree (op.Link path to) birth when m of.well_formed new))
