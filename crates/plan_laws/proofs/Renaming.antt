-- The plan of rename, by where both names lead.
use Rattle.std.proofs.Common.{ℕ, ◌≡◌, Bool, true, false, ◌&&◌, Some, List, [], ◌∷◌, ◌++◌, map, nat_eq, if◌then◌else◌, refl, sym, ◌∙◌, ap, ap₂, subst, is_some}
use Rattle.std.specs.List.{list_any}
use Rattle.frang_base.specs.declared.op.Op.TheVariants as op
use Rattle.frang_base.specs.declared.reply.Reply.TheVariants as reply
use Rattle.tree_definitions.specs.declared.node.Node.TheVariants.{Dir}
use Rattle.tree_definitions.specs.Entries.{Entries, entry_at}
use Rattle.tree_definitions.specs.Tree.{FileTree, node_at}
use Rattle.tree_definitions.specs.Place.{Place, Taken, place, walked}
use Rattle.tree_definitions.specs.Apply.{Applied, says, is_dir, moved_onto, moved_to, goes_through, renamed_to, renamed_from, renamed}
use Rattle.tree_laws.proofs.Keeping.{names_nodes}
use Rattle.tree_laws.proofs.StepsLaws.{apply_keeps}
use Rattle.disk_definitions.specs.Store.{Store}
use Rattle.disk_definitions.specs.Naming.{Naming, entry_of}
use Rattle.disk_definitions.specs.Ask.{Ask, run}
use Rattle.disk_definitions.specs.Walks.{Spot, AtName, walk}
use Rattle.disk_definitions.specs.Plans.{Hand, Plan, refused}
use Rattle.disk_definitions.specs.NamePlans.{Moving, goes_through as passes_moved, moving_onto, moving_to, renaming_to, renaming, plan_renamed}
use Rattle.disk_definitions.specs.Meets.{IsOfTree, IsHandOf}
use Rattle.plan_laws.specs.Walking.{Mirrors}
use Rattle.plan_laws.specs.NamesPlanned.{RenameIsPlanned}
use Rattle.plan_laws.proofs.Asking.{run-bind}
use Rattle.plan_laws.proofs.Cases.{inode_by, by_spot}
use Rattle.plan_laws.proofs.Refusing.{Meets, refuse_meets}
use Rattle.plan_laws.proofs.Tests.{kind_test, passes_test, walked_are}
use Rattle.plan_laws.proofs.MovingOnto.{moving_of, onto_meets}
use Rattle.plan_laws.proofs.MovingTo.{to_meets}
use Rattle.plan_laws.proofs.Walking.{walks_lead}

module _ (h : Hand) (s : Store) (tree : FileTree) (n : Naming) (of : IsOfTree s tree n) (hand : IsHandOf h s tree.segments) (path : List (List ℕ)) (dirs : List ℕ)
    (from fblocks : ℕ) (fentries : Entries) (name : List ℕ) (b : ℕ) (fis : node_at tree from ≡ Some (Dir fentries fblocks)) (fhad : entry_at fentries name ≡ Some b) where
  abbrev m : Moving
  m = moving_of n from fblocks fentries name b

  there : is_some (node_at tree b) ≡ true
  there = names_nodes tree of.well_formed from fentries fblocks name b fis fhad

  -- the walk to the new name goes through the moved directory in both
  through_is : (ds : List ℕ) → ds ≡ map n.inode (walked tree path) → passes_moved m ds ≡ goes_through tree path b
  through_is ds e =
      let k : nat_eq (n.kind b) 2 ≡ is_dir (node_at tree b) = kind_test s (node_at tree) n of.pictures b (node_at tree b) refl there in
      let l : list_any (λ i. nat_eq i (n.inode b)) ds ≡ list_any (λ c. nat_eq c b) (walked tree path) =
      ap (list_any (λ i. nat_eq i (n.inode b))) e ∙ passes_test s (node_at tree) n of.pictures b there (walked tree path) (walked_are s tree n of.pictures path 0) in
      ap₂ (λ t u. t && u) k l

  by_through : (ds : List ℕ) (a : Applied) (p : Ask Plan) → ds ≡ map n.inode (walked tree path) → Meets h s tree n a (run p s) →
      Meets h s tree n (if goes_through tree path b then says tree reply.Inval else a) (run (if passes_moved m ds then refused reply.Inval dirs else p) s)
  by_through ds a p e meets = subst (λ c. Meets h s tree n (if goes_through tree path b then says tree reply.Inval else a) (run (if c then refused reply.Inval dirs else p) s)) (sym (through_is ds e)) (go (goes_through tree path b))
    where
      go : (c : Bool) → Meets h s tree n (if c then says tree reply.Inval else a) (run (if c then refused reply.Inval dirs else p) s)
      go true = λ well. refuse_meets h s tree n of reply.Inval dirs
      go false = meets

  pub target_meets : (ds : List ℕ) → ds ≡ map n.inode (walked tree path) → (v : Spot) (p : Place) → Mirrors s (node_at tree) n v p → Meets h s tree n (renamed_to tree from name b path p) (run (renaming_to h m ds dirs v) s)
  target_meets ds e = by_spot s (node_at tree) n of.pictures (λ v p. Meets h s tree n (renamed_to tree from name b path p) (run (renaming_to h m ds dirs v) s))
      (λ well. refuse_meets h s tree n of reply.Inval dirs)
      (λ r well. refuse_meets h s tree n of r dirs)
      (λ to blocks entries new old is had. by_through ds (moved_onto tree from name b to new old) (moving_onto m (n.inode to) (inode_by n to (Dir entries blocks)) new (n.spot to new) (entry_of n new old) dirs) e
      (onto_meets h s tree n of dirs from fblocks fentries name b fis fhad to blocks entries new old is had))
      (λ to blocks entries new is absent. by_through ds (moved_to tree from name b to entries blocks new) (moving_to h m (n.inode to) (inode_by n to (Dir entries blocks)) new dirs) e
      (to_meets h s tree n of dirs from fblocks fentries name b fis fhad new hand to blocks entries is absent))

module _ (h : Hand) (s : Store) (tree : FileTree) (n : Naming) (of : IsOfTree s tree n) (hand : IsHandOf h s tree.segments) (to : List (List ℕ)) (dirs : List ℕ) where
  pub source_meets : (d blocks : ℕ) (entries : Entries) (name : List ℕ) (b : ℕ) → node_at tree d ≡ Some (Dir entries blocks) → entry_at entries name ≡ Some b →
      Meets h s tree n (renamed_from tree (Taken d entries blocks name b) to) (run (renaming h to dirs (AtName (n.inode d) (inode_by n d (Dir entries blocks)) name (n.spot d name) (entry_of n name b))) s)
  source_meets d blocks entries name b is had =
      let w = run (walk to) s in
      let l = walks_lead s tree n to of in
      rw (run-bind (walk to) (λ w. renaming_to h (moving_of n d blocks entries name b) w.dirs (dirs ++ w.dirs) w.spot) s)
      (target_meets h s tree n of hand to (dirs ++ w.dirs) d blocks entries name b is had w.dirs l.1 w.spot (place tree to) l.0)

renamed_meets : (h : Hand) (s : Store) (tree : FileTree) (n : Naming) → IsOfTree s tree n → IsHandOf h s tree.segments → (path to : List (List ℕ)) → Meets h s tree n (renamed tree path to) (run (plan_renamed h path to) s)
renamed_meets h s tree n of hand [] to = λ well. refuse_meets h s tree n of reply.Inval []
renamed_meets h s tree n of hand (name ∷ names) [] = λ well. refuse_meets h s tree n of reply.Inval []
renamed_meets h s tree n of hand (name ∷ names) (new ∷ news) =
    let w = run (walk (name ∷ names)) s in
    rw (run-bind (walk (name ∷ names)) (λ w. renaming h (new ∷ news) w.dirs w.spot) s)
    (by_spot s (node_at tree) n of.pictures (λ v p. Meets h s tree n (renamed_from tree p (new ∷ news)) (run (renaming h (new ∷ news) w.dirs v) s))
    (λ well. refuse_meets h s tree n of reply.Inval w.dirs)
    (λ r well. refuse_meets h s tree n of r w.dirs)
    (source_meets h s tree n of hand (new ∷ news) w.dirs)
    (λ d blocks entries name is absent well. refuse_meets h s tree n of reply.NoEnt w.dirs)
    w.spot (place tree (name ∷ names)) (walks_lead s tree n (name ∷ names) of).0)

pub rename_planned : RenameIsPlanned
rename_planned path to h s tree n birth when m of hand new = renamed_meets h s tree n of hand path to (apply_keeps tree (op.Rename path to) birth when m of.well_formed new)
