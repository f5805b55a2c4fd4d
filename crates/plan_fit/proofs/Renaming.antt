-- The plan of rename is fit.
use Rattle.std.proofs.Common.{◌≡◌, ℕ, Bool, true, false, if◌then◌else◌, Some, List, [], ◌∷◌, ◌++◌}
use Rattle.frang_base.specs.declared.reply.Reply.TheVariants as reply
use Rattle.tree_definitions.specs.declared.node.Node.TheVariants.{Dir}
use Rattle.tree_definitions.specs.Entries.{Entries, entry_at}
use Rattle.tree_definitions.specs.Tree.{FileTree, node_at}
use Rattle.tree_definitions.specs.Place.{place}
use Rattle.disk_definitions.specs.Store.{Store}
use Rattle.disk_definitions.specs.Naming.{Naming, entry_of}
use Rattle.disk_definitions.specs.Ask.{run}
use Rattle.disk_definitions.specs.Walks.{AtName, AtGap, walk}
use Rattle.disk_definitions.specs.Plans.{Hand, refused}
use Rattle.disk_definitions.specs.NamePlans.{Moving, moving_onto, moving_to, goes_through, renaming_to, renaming}
use Rattle.disk_definitions.specs.Meets.{IsOfTree, IsHandOf}
use Rattle.plan_laws.proofs.Asking.{run-bind}
use Rattle.plan_laws.proofs.Cases.{inode_by, by_spot}
use Rattle.plan_laws.proofs.MovingOnto.{moving_of}
use Rattle.plan_laws.proofs.Walking.{walks_lead}
use Rattle.disk_definitions.specs.Allowed.{AreNames}
use Rattle.disk_definitions.specs.FitPlans.{IsFitStore, PlanIsFit}
use Rattle.plan_fit.specs.FitNames.{RenameIsFit}
use Rattle.plan_fit.proofs.Named.{HasName, walk_named}
use Rattle.plan_fit.proofs.Refusing.{refuse_fits}
use Rattle.plan_fit.proofs.Moving.{moving_to_fits, moving_onto_fits}

module _ (h : Hand) (s : Store) (tree : FileTree) (n : Naming) (of : IsOfTree s tree n) (hand : IsHandOf h s tree.segments) (fit : IsFitStore tree.segments s) (to : List (List ℕ)) (names : AreNames to) (dirs : List ℕ)
    (from fblocks : ℕ) (fentries : Entries) (name : List ℕ) (b : ℕ) (fis : node_at tree from ≡ Some (Dir fentries fblocks)) (fhad : entry_at fentries name ≡ Some b) where
  abbrev m : Moving
  m = moving_of n from fblocks fentries name b

  module _ (to_dirs both : List ℕ) where
    at_name : (d blocks : ℕ) (entries : Entries) (new : List ℕ) (old : ℕ) → node_at tree d ≡ Some (Dir entries blocks) → entry_at entries new ≡ Some old → HasName (AtName (n.inode d) (inode_by n d (Dir entries blocks)) new (n.spot d new) (entry_of n new old)) →
        PlanIsFit h tree.segments s (run (renaming_to h m to_dirs both (AtName (n.inode d) (inode_by n d (Dir entries blocks)) new (n.spot d new) (entry_of n new old))) s)
    at_name d blocks entries new old is had named = go (goes_through m to_dirs)
      where
        go : (c : Bool) → PlanIsFit h tree.segments s (run (if c then refused reply.Inval both else moving_onto m (n.inode d) (inode_by n d (Dir entries blocks)) new (n.spot d new) (entry_of n new old) both) s)
        go true = refuse_fits h tree.segments s reply.Inval both
        go false = moving_onto_fits h s tree n of fit both from fblocks fentries name b fis fhad new named d blocks entries old is had

    at_gap : (d blocks : ℕ) (entries : Entries) (new : List ℕ) → node_at tree d ≡ Some (Dir entries blocks) → HasName (AtGap (n.inode d) (inode_by n d (Dir entries blocks)) new) →
        PlanIsFit h tree.segments s (run (renaming_to h m to_dirs both (AtGap (n.inode d) (inode_by n d (Dir entries blocks)) new)) s)
    at_gap d blocks entries new is named = go (goes_through m to_dirs)
      where
        go : (c : Bool) → PlanIsFit h tree.segments s (run (if c then refused reply.Inval both else moving_to h m (n.inode d) (inode_by n d (Dir entries blocks)) new both) s)
        go true = refuse_fits h tree.segments s reply.Inval both
        go false = moving_to_fits h s tree n of fit both from fblocks fentries name b fis fhad new named hand d blocks entries is

  pub name_fits : PlanIsFit h tree.segments s (run (renaming h to dirs (AtName (n.inode from) (inode_by n from (Dir fentries fblocks)) name (n.spot from name) (entry_of n name b))) s)
  name_fits =
      let w = run (walk to) s in
      rw (run-bind (walk to) (λ w. renaming_to h m w.dirs (dirs ++ w.dirs) w.spot) s)
      (by_spot s (node_at tree) n of.pictures (λ v p. HasName v → PlanIsFit h tree.segments s (run (renaming_to h m w.dirs (dirs ++ w.dirs) v) s))
      (λ named. refuse_fits h tree.segments s reply.Inval (dirs ++ w.dirs))
      (λ r named. refuse_fits h tree.segments s r (dirs ++ w.dirs))
      (at_name w.dirs (dirs ++ w.dirs))
      (λ d blocks entries new is absent. at_gap w.dirs (dirs ++ w.dirs) d blocks entries new is)
      w.spot (place tree to) (walks_lead s tree n to of).0 (walk_named s to names))

pub rename_fits : RenameIsFit
rename_fits [] to h s tree n birth when of hand fit old late allowed = refuse_fits h tree.segments s reply.Inval []
rename_fits (name ∷ names) [] h s tree n birth when of hand fit old late allowed = refuse_fits h tree.segments s reply.Inval []
rename_fits (name ∷ names) (next ∷ more) h s tree n birth when of hand fit old late allowed =
    let w = run (walk (name ∷ names)) s in
    rw (run-bind (walk (name ∷ names)) (λ w. renaming h (next ∷ more) w.dirs w.spot) s)
    (by_spot s (node_at tree) n of.pictures (λ v p. PlanIsFit h tree.segments s (run (renaming h (next ∷ more) w.dirs v) s))
    (refuse_fits h tree.segments s reply.Inval w.dirs)
    (λ r. refuse_fits h tree.segments s r w.dirs)
    (λ d blocks entries name b is had. name_fits h s tree n of hand fit (next ∷ more) allowed.1 w.dirs d blocks entries name b is had)
    (λ d blocks entries name is absent. refuse_fits h tree.segments s reply.NoEnt w.dirs)
    w.spot (place tree (name ∷ names)) (walks_lead s tree n (name ∷ names) of).0)
