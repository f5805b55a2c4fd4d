-- The plans of unlink and rmdir: the name goes from its directory, and then the node has a link fewer.
use Rattle.std.proofs.Common.{ℕ, ◌≡◌, ◌≢◌, ◌<◌, ◌==◌, Bool, true, false, not, Option, Some, None, List, [], ◌∷◌, ◌++◌, length, nat_eq, nat_lt, if◌then◌else◌, refl, sym, ◌∙◌, ap, subst, arith, is_some}
use Rattle.std.proofs.lemmas.Bool.Decides.{nat_tests}
use Rattle.frang_base.specs.declared.op.Op.TheVariants as op
use Rattle.frang_base.specs.declared.reply.Reply.TheVariants as reply
use Rattle.tree_definitions.specs.declared.node.Node.{Node}
use Rattle.tree_definitions.specs.declared.node.Node.TheVariants.{Dir, File, Link}
use Rattle.tree_definitions.specs.Entries.{Entries, entry_at, without_entry}
use Rattle.tree_definitions.specs.Tree.{FileTree, node_at, with_node, without_node}
use Rattle.tree_definitions.specs.Place.{Taken, place}
use Rattle.tree_definitions.specs.Apply.{Applied, says, is_dir, has_entries, one_link_fewer, unlinked, dir_removed}
use Rattle.tree_definitions.specs.WellFormed.{IsWellFormed, put as put_node}
use Rattle.tree_laws.proofs.Nodes.{node_with, with_other, ascend_with}
use Rattle.tree_laws.proofs.Keeping.{names_nodes, never_root}
use Rattle.tree_laws.proofs.StepsLaws.{apply_keeps}
use Rattle.disk_definitions.specs.Store.{Store, StoredNode}
use Rattle.disk_definitions.specs.Naming.{Naming, kind_of, entry_of}
use Rattle.disk_definitions.specs.Edits.{edited_all}
use Rattle.disk_definitions.specs.Changes.{take_entry}
use Rattle.disk_definitions.specs.ChangeLaws.{HasNoNames}
use Rattle.disk_definitions.proofs.Names.{names_go}
use Rattle.disk_definitions.proofs.Puts.{edited_append}
use Rattle.disk_definitions.proofs.Kept.{inode_is}
use Rattle.disk_definitions.specs.Ask.{Got, ReadInode, run}
use Rattle.disk_definitions.specs.Walks.{AtName, walk}
use Rattle.disk_definitions.specs.Plans.{Hand, refused}
use Rattle.disk_definitions.specs.Plans.Plan.{Finishes}
use Rattle.disk_definitions.specs.NamePlans.{fewer, fewer_segments, finish_over, removed_by, unlinking_node, unlinking, removing_node, removing}
use Rattle.disk_definitions.specs.Meets.{IsOfTree}
use Rattle.plan_laws.specs.Keeping.{FinishKeeps, PlanKeeps}
use Rattle.plan_laws.specs.NamesPlanned.{UnlinkIsPlanned, RmdirIsPlanned}
use Rattle.plan_laws.proofs.Asking.{run-bind, run-segments}
use Rattle.plan_laws.proofs.Cases.{inode_by, has_inode, by_spot}
use Rattle.plan_laws.proofs.Refusing.{Meets, refuse_meets}
use Rattle.plan_laws.proofs.Stages.{IsStage, stage_of, of_stage, loses, restage}
use Rattle.plan_laws.proofs.Fewer.{segments_fewer, fewer_leads}
use Rattle.plan_laws.proofs.Walking.{walks_lead}

module _ (h : Hand) (s : Store) (tree : FileTree) (n : Naming) (of : IsOfTree s tree n) (dirs : List ℕ) (d blocks : ℕ) (entries : Entries) (name : List ℕ) (b : ℕ) (is : node_at tree d ≡ Some (Dir entries blocks)) (had : entry_at entries name ≡ Some b) where
  abbrev x : StoredNode
  x = inode_by n d (Dir entries blocks)

  -- the name is gone
  abbrev mid : FileTree
  mid = with_node tree d (Dir (without_entry entries name) blocks)

  abbrev t : Store
  t = edited_all s (take_entry (n.inode d) x (n.spot d name))

  away : b ≢ 0
  away = never_root tree of.well_formed d entries blocks name b is had

  there : is_some (node_at tree b) ≡ true
  there = names_nodes tree of.well_formed d entries blocks name b is had

  name_gone : IsStage t tree.segments (node_at mid) n
  name_gone =
      let r = loses s tree.segments (node_at tree) n (stage_of s tree n of) d blocks x entries (without_entry entries name) name (has_inode s (node_at tree) n of.pictures d (Dir entries blocks) is)
      (names_go entries name (of.well_formed.names d entries blocks is) (ap is_some had)) in
      restage t tree.segments (put_node (node_at tree) d (Some (Dir (without_entry entries name) blocks))) (node_at mid) n r.0 (node_with tree d (Dir (without_entry entries name) blocks))

  removed : (node : Node) → node_at tree b ≡ Some node → b ≢ d → HasNoNames node → IsWellFormed (one_link_fewer mid b (Some node)) →
      FinishKeeps s tree n (says (one_link_fewer mid b (Some node)) reply.Ok) (removed_by (n.inode d) x (n.spot d name) (n.inode b) (inode_by n b node) dirs)
  removed node e apart bare well =
      let result = one_link_fewer mid b (Some node) in
      let r = fewer_leads t tree.segments mid n name_gone (ascend_with tree d (Dir (without_entry entries name) blocks) of.well_formed.births) b away node (with_other tree d (Dir (without_entry entries name) blocks) b apart ∙ e) bare in
      let edits = edited_append s (take_entry (n.inode d) x (n.spot d name)) (fewer (n.inode b) (inode_by n b node)) in
      record {
        meets = record {
          answer = refl;
          naming = r.naming;
          tree = subst (λ z. IsOfTree z result r.naming) (sym edits)
              (of_stage (edited_all t (fewer (n.inode b) (inode_by n b node))) tree.segments (node_at result) r.naming result r.stage (λ c. refl) well (segments_fewer mid b (Some node)) of.few);
        };
        inodes = λ c there stays. r.inodes c;
      }

  -- what the inode of the node says
  read : (node : Node) → node_at tree b ≡ Some node → s.inode (n.inode b) ≡ Some (inode_by n b node)
  read node e = inode_is s (node_at tree) n of.pictures b node e

  kind_is : (node : Node) → node_at tree b ≡ Some node → n.kind b == 2 ≡ nat_eq (kind_of node) 2
  kind_is node e = ap (λ k. nat_eq k 2) (of.pictures.kinds b node e)

  -- of unlink
  abbrev Unlinks : Bool → Applied → Type 0
  Unlinks c a = Meets h s tree n a (run (if c then refused reply.IsDir dirs else ReadInode (n.inode b) (unlinking_node (n.inode d) x (n.spot d name) (n.inode b) dirs)) s)

  not_itself : (node : Node) → node_at tree b ≡ Some node → is_dir (Some node) ≡ false → b ≢ d
  not_itself node e plain i = let z : Some node ≡ Some (Dir entries blocks) = sym e ∙ ap (node_at tree) i ∙ is in let y : is_dir (Some node) ≡ true = ap is_dir z in cc

  unlinks : (node : Node) → node_at tree b ≡ Some node → is_dir (Some node) ≡ false → HasNoNames node → Unlinks false (says (one_link_fewer mid b (Some node)) reply.Ok)
  unlinks node e plain bare well =
      subst (λ o. PlanKeeps h s tree n (says (one_link_fewer mid b (Some node)) reply.Ok) (run (unlinking_node (n.inode d) x (n.spot d name) (n.inode b) dirs o) s)) (sym (read node e))
      (rw (run-segments (fewer_segments (n.inode b) (inode_by n b node)) (Got (Finishes (removed_by (n.inode d) x (n.spot d name) (n.inode b) (inode_by n b node) dirs))) s)
      (removed node e (not_itself node e plain) bare well))

  by_node : (o : Option Node) → node_at tree b ≡ o → Unlinks (n.kind b == 2) (if is_dir o then says tree reply.IsDir else says (one_link_fewer mid b o) reply.Ok)
  by_node None e = absurd (let z : is_some (node_at tree b) ≡ false = ap is_some e in let y : is_some (node_at tree b) ≡ true = there in cc)
  by_node (Some (Dir es k)) e = rw (kind_is (Dir es k) e) (λ well. refuse_meets h s tree n of reply.IsDir dirs)
  by_node (Some (File cells links when)) e = rw (kind_is (File cells links when) e) (unlinks (File cells links when) e refl (λ m. refl))
  by_node (Some (Link target links)) e = rw (kind_is (Link target links) e) (unlinks (Link target links) e refl (λ m. refl))

  pub unlink_meets : Meets h s tree n (unlinked tree (Taken d entries blocks name b)) (run (unlinking dirs (AtName (n.inode d) x name (n.spot d name) (entry_of n name b))) s)
  unlink_meets = by_node (node_at tree b) refl

  -- of rmdir
  abbrev Removes : Bool → Applied → Type 0
  Removes c a = Meets h s tree n a (run (if c then ReadInode (n.inode b) (removing_node (n.inode d) x (n.spot d name) (n.inode b) dirs) else refused reply.NotDir dirs) s)

  no_names : (es : Entries) → nat_lt 0 (length es) ≡ false → es ≡ []
  no_names [] e = refl
  no_names (a ∷ es) e = absurd (let l : 0 < length (a ∷ es) = omega arith in grind (arith, nat_tests))

  not_empty : (es : Entries) (k : ℕ) → node_at tree b ≡ Some (Dir es k) → es ≡ [] → b ≢ d
  not_empty es k e none i =
      let z : Some (Dir es k) ≡ Some (Dir entries blocks) = sym e ∙ ap (node_at tree) i ∙ is in
      let y : es ≡ entries = ap entries_of z in
      let v : entry_at [] name ≡ Some b = ap (λ l. entry_at l name) (sym none ∙ y) ∙ had in cc
    where
      entries_of : Option Node → Entries
      entries_of (Some (Dir es k)) = es
      entries_of _ = []

  removes : (es : Entries) (k : ℕ) → node_at tree b ≡ Some (Dir es k) → (c : Bool) → nat_lt 0 (length es) ≡ c →
      Meets h s tree n (if c then says tree reply.NotEmpty else says (without_node mid b) reply.Ok)
      (run (if c then refused reply.NotEmpty (dirs ++ n.inode b ∷ []) else finish_over (fewer_segments (n.inode b) (inode_by n b (Dir es k))) (removed_by (n.inode d) x (n.spot d name) (n.inode b) (inode_by n b (Dir es k)) dirs)) s)
  removes es k e true i = λ well. refuse_meets h s tree n of reply.NotEmpty (dirs ++ n.inode b ∷ [])
  removes es k e false i =
      rw (run-segments (fewer_segments (n.inode b) (inode_by n b (Dir es k))) (Got (Finishes (removed_by (n.inode d) x (n.spot d name) (n.inode b) (inode_by n b (Dir es k)) dirs))) s)
      (removed (Dir es k) e (not_empty es k e (no_names es i)) (λ m. ap (λ l. entry_at l m) (no_names es i)))

  by_directory : (o : Option Node) → node_at tree b ≡ o → Removes (n.kind b == 2) (if not (is_dir o) then says tree reply.NotDir else (if has_entries o then says tree reply.NotEmpty else says (without_node mid b) reply.Ok))
  by_directory None e = absurd (let z : is_some (node_at tree b) ≡ false = ap is_some e in let y : is_some (node_at tree b) ≡ true = there in cc)
  by_directory (Some (Dir es k)) e = rw (kind_is (Dir es k) e)
      (subst (λ o. Meets h s tree n (if nat_lt 0 (length es) then says tree reply.NotEmpty else says (without_node mid b) reply.Ok) (run (removing_node (n.inode d) x (n.spot d name) (n.inode b) dirs o) s)) (sym (read (Dir es k) e))
      (removes es k e (nat_lt 0 (length es)) refl))
  by_directory (Some (File cells links when)) e = rw (kind_is (File cells links when) e) (λ well. refuse_meets h s tree n of reply.NotDir dirs)
  by_directory (Some (Link target links)) e = rw (kind_is (Link target links) e) (λ well. refuse_meets h s tree n of reply.NotDir dirs)

  pub rmdir_meets : Meets h s tree n (dir_removed tree (Taken d entries blocks name b)) (run (removing dirs (AtName (n.inode d) x name (n.spot d name) (entry_of n name b))) s)
  rmdir_meets = by_directory (node_at tree b) refl

pub unlink_planned : UnlinkIsPlanned
unlink_planned path h s tree n birth when m of hand new =
    let w = run (walk path) s in
    rw (run-bind (walk path) (λ w. unlinking w.dirs w.spot) s)
    (by_spot s (node_at tree) n of.pictures (λ v p. Meets h s tree n (unlinked tree p) (run (unlinking w.dirs v) s))
    (λ well. refuse_meets h s tree n of reply.IsDir w.dirs)
    (λ r well. refuse_meets h s tree n of r w.dirs)
    (λ d blocks entries name b is had. unlink_meets h s tree n of w.dirs d blocks entries name b is had)
    (λ d blocks entries name is absent well. refuse_meets h s tree n of reply.NoEnt w.dirs)
    w.spot (place tree path) (walks_lead s tree n path of).0 (apply_keeps tree (op.Unlink path) birth when m of.well_formed new))

pub rmdir_planned : RmdirIsPlanned
rmdir_planned path h s tree n birth when m of hand new =
    let w = run (walk path) s in
    rw (run-bind (walk path) (λ w. removing w.dirs w.spot) s)
    (by_spot s (node_at tree) n of.pictures (λ v p. Meets h s tree n (dir_removed tree p) (run (removing w.dirs v) s))
    (λ well. refuse_meets h s tree n of reply.Inval w.dirs)
    (λ r well. refuse_meets h s tree n of r w.dirs)
    (λ d blocks entries name b is had. rmdir_meets h s tree n of w.dirs d blocks entries name b is had)
    (λ d blocks entries name is absent well. refuse_meets h s tree n of reply.NoEnt w.dirs)
    w.spot (place tree path) (walks_lead s tree n path of).0 (apply_keeps tree (op.Rmdir path) birth when m of.well_formed new))
