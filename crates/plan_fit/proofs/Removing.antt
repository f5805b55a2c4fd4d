-- The plans of unlink and rmdir are fit.
use Rattle.std.proofs.Common.{◌≡◌, ◌≢◌, ℕ, ◌-◌, ◌*◌, ◌/◌, ◌≤◌, inl, Bool, true, false, ◌==◌, nat_lt, if◌then◌else◌, Some, List, [], ◌∷◌, ◌++◌, length, refl, sym, ◌∙◌, ap, subst, arith, is_some}
use Rattle.frang_base.specs.declared.reply.Reply.TheVariants as reply
use Rattle.frang_base.proofs.Tests.{some_there}
use Rattle.tree_definitions.specs.declared.node.Node.{Node}
use Rattle.tree_definitions.specs.declared.node.Node.TheVariants.{Dir, File, Link}
use Rattle.tree_definitions.specs.Entries.{Entries, entry_at}
use Rattle.tree_definitions.specs.Tree.{FileTree, node_at}
use Rattle.tree_definitions.specs.Place.{place}
use Rattle.tree_laws.proofs.Keeping.{names_nodes}
use Rattle.disk_definitions.specs.Store.{Store, StoredNode}
use Rattle.disk_definitions.specs.Naming.{Naming, entry_of}
use Rattle.disk_definitions.specs.Edits.{edited_all}
use Rattle.disk_definitions.specs.Changes.{take_entry}
use Rattle.disk_definitions.proofs.Kept.{inode_is}
use Rattle.disk_definitions.proofs.Puts.{edited_append}
use Rattle.disk_definitions.specs.Ask.{Got, ReadInode, run}
use Rattle.disk_definitions.specs.Walks.{AtName, walk}
use Rattle.disk_definitions.specs.Plans.{Hand, refused}
use Rattle.disk_definitions.specs.Plans.Plan.{Finishes}
use Rattle.disk_definitions.specs.NamePlans.{is_last, fewer, fewer_segments, finish_over, removed_by, unlinking_node, unlinking, removing_node, removing}
use Rattle.disk_definitions.specs.Meets.{IsOfTree, is_directory_use}
use Rattle.plan_laws.proofs.Asking.{run-bind, run-segments}
use Rattle.plan_laws.proofs.Cases.{inode_by, by_spot}
use Rattle.plan_laws.proofs.Walking.{walks_lead}
use Rattle.disk_definitions.specs.FitPlans.{IsFitStore, IsFitFinish, PlanIsFit}
use Rattle.plan_fit.specs.FitNames.{UnlinkIsFit, RmdirIsFit}
use Rattle.plan_fit.proofs.Uses.{metadata_is, is_metadata, KeepsDirectories, keeps_fewer}
use Rattle.plan_fit.proofs.Pieces.{fit_join, take_entry_fits, fewer_fits}
use Rattle.plan_fit.proofs.OnDisk.{freed_alike, node_fits, on_disk, bounds, sized_fits, placed, spot_inside}
use Rattle.plan_fit.proofs.Refusing.{refuse_fits}

no_directory : (k c : ℕ) → k ≡ c → c ≢ 2 → k ≢ 2
no_directory k c e d f = d (sym e ∙ f)

-- a directory has one link
pub not_last : (n : Naming) (b : ℕ) (node : Node) → is_last (inode_by n b node) ≡ false → (inode_by n b node).kind ≢ 2
not_last n b (Dir entries blocks) e = absurd (cc)
not_last n b (File cells links when) e = no_directory 1 1 refl (omega arith)
not_last n b (Link target links) e = no_directory 3 3 refl (omega arith)

module _ (h : Hand) (s : Store) (tree : FileTree) (n : Naming) (of : IsOfTree s tree n) (fit : IsFitStore tree.segments s) (dirs : List ℕ)
    (d blocks : ℕ) (entries : Entries) (name : List ℕ) (b : ℕ) (is : node_at tree d ≡ Some (Dir entries blocks)) (had : entry_at entries name ≡ Some b) where
  abbrev x : StoredNode
  x = inode_by n d (Dir entries blocks)

  there : is_some (node_at tree b) ≡ true
  there = names_nodes tree of.well_formed d entries blocks name b is had

  module _ (node : Node) (at : node_at tree b ≡ Some node) where
    abbrev y : StoredNode
    y = inode_by n b node

    abbrev end : Store
    end = edited_all s (take_entry (n.inode d) x (n.spot d name) ++ fewer (n.inode b) y)

    keeps : KeepsDirectories s end
    keeps k =
        let takes = take_entry (n.inode d) x (n.spot d name) in
        ap (λ (z : Store). is_directory_use (z.use_of k)) (edited_append s takes (fewer (n.inode b) y)) ∙ keeps_fewer (edited_all s takes) (n.inode b) y (freed_alike s tree n of b node at) k

    removed_fits : IsFitFinish h tree.segments s (removed_by (n.inode d) x (n.spot d name) (n.inode b) y dirs)
    removed_fits =
        let p = placed s tree n of fit d blocks entries is (n.spot d name) (spot_inside s tree n of fit d blocks entries is name b had) in
        let c = x.small (n.spot d name / 56) in
        let most : length entries ≤ 56 * blocks = (bounds s tree n of fit d blocks entries is).1 in
        let less : length entries - 1 ≤ 56 * blocks = omega arith in
        record {
          edits = fit_join tree.segments end (take_entry (n.inode d) x (n.spot d name)) (fewer (n.inode b) y)
              (take_entry_fits tree.segments end (n.inode d) x (n.spot d name) (node_fits s tree n of fit d (Dir entries blocks) is).0 (sized_fits s tree n of fit d blocks entries is (length entries - 1) less) (p.0, keeps c ∙ p.1))
              (fewer_fits tree.segments end (n.inode b) y (on_disk s tree n of fit b node at) (not_last n b node));
          clear = λ k m. inl (metadata_is (s.use_of k) (sym (keeps k) ∙ is_metadata (end.use_of k) m));
        }

    removing_all : PlanIsFit h tree.segments s (run (finish_over (fewer_segments (n.inode b) y) (removed_by (n.inode d) x (n.spot d name) (n.inode b) y dirs)) s)
    removing_all = rw (run-segments (fewer_segments (n.inode b) y) (Got (Finishes (removed_by (n.inode d) x (n.spot d name) (n.inode b) y dirs))) s) removed_fits

    unlinking_read : PlanIsFit h tree.segments s (run (ReadInode (n.inode b) (unlinking_node (n.inode d) x (n.spot d name) (n.inode b) dirs)) s)
    unlinking_read = subst (λ o. PlanIsFit h tree.segments s (run (unlinking_node (n.inode d) x (n.spot d name) (n.inode b) dirs o) s)) (sym (inode_is s (node_at tree) n of.pictures b node at)) removing_all

    by_size : (c : Bool) → PlanIsFit h tree.segments s (run (if c then refused reply.NotEmpty (dirs ++ n.inode b ∷ []) else finish_over (fewer_segments (n.inode b) y) (removed_by (n.inode d) x (n.spot d name) (n.inode b) y dirs)) s)
    by_size true = refuse_fits h tree.segments s reply.NotEmpty (dirs ++ n.inode b ∷ [])
    by_size false = removing_all

    removing_read : PlanIsFit h tree.segments s (run (ReadInode (n.inode b) (removing_node (n.inode d) x (n.spot d name) (n.inode b) dirs)) s)
    removing_read = subst (λ o. PlanIsFit h tree.segments s (run (removing_node (n.inode d) x (n.spot d name) (n.inode b) dirs o) s)) (sym (inode_is s (node_at tree) n of.pictures b node at)) (by_size (nat_lt 0 y.size))

  pub unlinking_fits : PlanIsFit h tree.segments s (run (unlinking dirs (AtName (n.inode d) x name (n.spot d name) (entry_of n name b))) s)
  unlinking_fits = go (n.kind b == 2)
    where
      go : (c : Bool) → PlanIsFit h tree.segments s (run (if c then refused reply.IsDir dirs else ReadInode (n.inode b) (unlinking_node (n.inode d) x (n.spot d name) (n.inode b) dirs)) s)
      go true = refuse_fits h tree.segments s reply.IsDir dirs
      go false = let r = some_there (node_at tree b) there in unlinking_read r.0 r.1

  pub removing_fits : PlanIsFit h tree.segments s (run (removing dirs (AtName (n.inode d) x name (n.spot d name) (entry_of n name b))) s)
  removing_fits = go (n.kind b == 2)
    where
      go : (c : Bool) → PlanIsFit h tree.segments s (run (if c then ReadInode (n.inode b) (removing_node (n.inode d) x (n.spot d name) (n.inode b) dirs) else refused reply.NotDir dirs) s)
      go true = let r = some_there (node_at tree b) there in removing_read r.0 r.1
      go false = refuse_fits h tree.segments s reply.NotDir dirs

pub unlink_fits : UnlinkIsFit
unlink_fits path h s tree n birth when of hand fit old late allowed =
    let w = run (walk path) s in
    rw (run-bind (walk path) (λ w. unlinking w.dirs w.spot) s)
    (by_spot s (node_at tree) n of.pictures (λ v p. PlanIsFit h tree.segments s (run (unlinking w.dirs v) s))
    (refuse_fits h tree.segments s reply.IsDir w.dirs)
    (λ r. refuse_fits h tree.segments s r w.dirs)
    (λ d blocks entries name b is had. unlinking_fits h s tree n of fit w.dirs d blocks entries name b is had)
    (λ d blocks entries name is absent. refuse_fits h tree.segments s reply.NoEnt w.dirs)
    w.spot (place tree path) (walks_lead s tree n path of).0)

pub rmdir_fits : RmdirIsFit
rmdir_fits path h s tree n birth when of hand fit old late allowed =
    let w = run (walk path) s in
    rw (run-bind (walk path) (λ w. removing w.dirs w.spot) s)
    (by_spot s (node_at tree) n of.pictures (λ v p. PlanIsFit h tree.segments s (run (removing w.dirs v) s))
    (refuse_fits h tree.segments s reply.Inval w.dirs)
    (λ r. refuse_fits h tree.segments s r w.dirs)
    (λ d blocks entries name b is had. removing_fits h s tree n of fit w.dirs d blocks entries name b is had)
    (λ d blocks entries name is absent. refuse_fits h tree.segments s reply.NoEnt w.dirs)
    w.spot (place tree path) (walks_lead s tree n path of).0)
