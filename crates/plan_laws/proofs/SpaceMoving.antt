-- What the plan of rename comes to: only a name in another directory takes anything.
use Rattle.std.proofs.Common.{ℕ, ◌≡◌, ◌&&◌, Bool, true, false, Option, Some, None, List, [], ◌∷◌, ◌++◌, length, map, nat_eq, nat_le, if◌then◌else◌, refl, sym, ◌∙◌, ap, ap₂, subst, is_some}
use Rattle.std.specs.List.{list_any}
use Rattle.frang_base.specs.declared.reply.Reply.TheVariants as reply
use Rattle.tree_definitions.specs.declared.node.Node.TheVariants.{Dir}
use Rattle.tree_definitions.specs.Entries.{Entries, entry_at}
use Rattle.tree_definitions.specs.Tree.{FileTree, node_at, must_grow}
use Rattle.tree_definitions.specs.Place.{Place, Taken, place, walked}
use Rattle.tree_definitions.specs.Apply.{is_dir, goes_through}
use Rattle.tree_laws.proofs.Keeping.{names_nodes}
use Rattle.disk_definitions.specs.Store.{Store, StoredNode}
use Rattle.disk_definitions.specs.Naming.{Naming, entry_of}
use Rattle.disk_definitions.specs.Picks.{picked_inode}
use Rattle.disk_definitions.specs.Ask.{Ask, Got, bind, run}
use Rattle.disk_definitions.specs.Walks.{Spot, AtName, walk}
use Rattle.disk_definitions.specs.Plans.{Hand, Plan, Room, find_room, refused}
use Rattle.disk_definitions.specs.Plans.Plan.{Finishes}
use Rattle.disk_definitions.specs.Plans.Room.{Inside, InBlock, NoRoom}
use Rattle.disk_definitions.specs.NamePlans.{Moving, goes_through as passes_moved, moved_within, moved_between, moving_in, moving_onto, moving_to, renaming_to, renaming, plan_renamed}
use Rattle.disk_definitions.specs.Meets.{IsOfTree}
use Rattle.plan_laws.specs.Walking.{Mirrors}
use Rattle.plan_laws.proofs.Asking.{run-bind}
use Rattle.plan_laws.proofs.Cases.{inode_by, by_spot}
use Rattle.plan_laws.proofs.Tests.{kind_test, passes_test, same_inode_test, same_order, walked_are}
use Rattle.plan_laws.proofs.MovingOnto.{moving_of}
use Rattle.plan_laws.proofs.Walking.{walks_lead}
use Rattle.plan_laws.proofs.Covering.{IsFine, walk_fine}
use Rattle.plan_laws.specs.Wants.{Wants, wants_name, wants_moved, wants_renamed_from, wants_renamed}
use Rattle.plan_laws.proofs.Outcomes.{Outcome}
use Rattle.plan_laws.proofs.Rooms.{IsRoom, room_found, no_room, in_place, in_new_block}
use Rattle.plan_laws.proofs.Plain.{onto_plain}

module _ (h : Hand) (s : Store) (tree : FileTree) (n : Naming) (of : IsOfTree s tree n) (dirs : List ℕ) (from fblocks : ℕ) (fentries : Entries) (name : List ℕ) (b : ℕ) (fis : node_at tree from ≡ Some (Dir fentries fblocks)) (fhad : entry_at fentries name ≡ Some b) where
  abbrev m : Moving
  m = moving_of n from fblocks fentries name b

  -- ---- to a name that isn't there
  module _ (to blocks : ℕ) (entries : Entries) (new : List ℕ) (is : node_at tree to ≡ Some (Dir entries blocks)) where
    abbrev x : StoredNode
    x = inode_by n to (Dir entries blocks)

    abbrev grows : Bool
    grows = must_grow entries blocks

    abbrev w : Wants
    w = record { inode = false; grows = grows; large = false; small = 0 }

    some : false ≡ true → picked_inode h.held ≡ None → ⊥
    some t e = cc

    room_case : (room : Room) → IsRoom h grows room → Outcome h (Some w) (run (moving_in h m (n.inode to) x new dirs room) s)
    room_case NoRoom r = no_room h s false grows some r reply.NoDirBlock dirs refl
    room_case (Inside q) r = in_place h s false grows some q r (moved_between m (n.inode to) x new dirs (Inside q)) refl
    room_case (InBlock k) r = in_new_block h s false grows some k r (moved_between m (n.inode to) x new dirs (InBlock k)) refl

    by_size : (c : Bool) → nat_le 896 (length entries) ≡ c → Outcome h (if c then None else Some w) (run (if c then refused reply.DirFull dirs else bind (find_room h x) (moving_in h m (n.inode to) x new dirs)) s)
    by_size true few = refl
    by_size false few = rw (run-bind (find_room h x) (moving_in h m (n.inode to) x new dirs) s) (room_case (run (find_room h x) s) (room_found h s tree n of to blocks entries is few))

    abbrev planned : Bool → Ask Plan
    planned one = if one then Got (Finishes (moved_within m new dirs)) else (if nat_le 896 (length entries) then refused reply.DirFull dirs else bind (find_room h x) (moving_in h m (n.inode to) x new dirs))

    -- the same directory, or another
    by_test : (one : Bool) → Outcome h (if one then None else wants_name false entries blocks) (run (planned one) s)
    by_test true = refl
    by_test false = by_size (nat_le 896 (length entries)) refl

    to_outcome : Outcome h (if nat_eq from to then None else wants_name false entries blocks) (run (moving_to h m (n.inode to) x new dirs) s)
    to_outcome =
        let e : nat_eq (n.inode to) (n.inode from) ≡ nat_eq from to = same_inode_test s (node_at tree) n of.pictures to from (ap is_some is) (ap is_some fis) ∙ same_order to from in
        subst (λ c. Outcome h (if nat_eq from to then None else wants_name false entries blocks) (run (planned c) s)) (sym e) (by_test (nat_eq from to))

  -- ---- the walk to the new name
  module _ (path : List (List ℕ)) (ds : List ℕ) (walks : ds ≡ map n.inode (walked tree path)) where
    there : is_some (node_at tree b) ≡ true
    there = names_nodes tree of.well_formed from fentries fblocks name b fis fhad

    -- it goes through the moved directory in both
    through_is : passes_moved m ds ≡ goes_through tree path b
    through_is =
        let k : nat_eq (n.kind b) 2 ≡ is_dir (node_at tree b) = kind_test s (node_at tree) n of.pictures b (node_at tree b) refl there in
        let l : list_any (λ i. nat_eq i (n.inode b)) ds ≡ list_any (λ c. nat_eq c b) (walked tree path) =
        ap (list_any (λ i. nat_eq i (n.inode b))) walks ∙ passes_test s (node_at tree) n of.pictures b there (walked tree path) (walked_are s tree n of.pictures path 0) in
        ap₂ (λ t u. t && u) k l

    by_through : (o : Option Wants) (p : Ask Plan) → Outcome h o (run p s) → Outcome h (if goes_through tree path b then None else o) (run (if passes_moved m ds then refused reply.Inval dirs else p) s)
    by_through o p comes = subst (λ c. Outcome h (if goes_through tree path b then None else o) (run (if c then refused reply.Inval dirs else p) s)) (sym through_is) (go (goes_through tree path b))
      where
        go : (c : Bool) → Outcome h (if c then None else o) (run (if c then refused reply.Inval dirs else p) s)
        go true = refl
        go false = comes

    -- onto a name that is there nothing is taken
    by_passing : (p : Ask Plan) → Outcome h None (run p s) → (c : Bool) → Outcome h None (run (if c then refused reply.Inval dirs else p) s)
    by_passing p comes true = refl
    by_passing p comes false = comes

    pub target_outcome : (v : Spot) (p : Place) → Mirrors s (node_at tree) n v p → IsFine v → Outcome h (wants_moved tree from b path p) (run (renaming_to h m ds dirs v) s)
    target_outcome = by_spot s (node_at tree) n of.pictures (λ v p. IsFine v → Outcome h (wants_moved tree from b path p) (run (renaming_to h m ds dirs v) s))
        (λ f. refl)
        (λ r f. f)
        (λ to blocks entries new old is had f. by_passing (moving_onto m (n.inode to) (inode_by n to (Dir entries blocks)) new (n.spot to new) (entry_of n new old) dirs)
        (onto_plain s m (n.inode to) (inode_by n to (Dir entries blocks)) new (n.spot to new) dirs (entry_of n new old)) (passes_moved m ds))
        (λ to blocks entries new is absent f. by_through (if nat_eq from to then None else wants_name false entries blocks) (moving_to h m (n.inode to) (inode_by n to (Dir entries blocks)) new dirs) (to_outcome to blocks entries new is))

module _ (h : Hand) (s : Store) (tree : FileTree) (n : Naming) (of : IsOfTree s tree n) (to : List (List ℕ)) (dirs : List ℕ) where
  pub source_outcome : (d blocks : ℕ) (entries : Entries) (name : List ℕ) (b : ℕ) → node_at tree d ≡ Some (Dir entries blocks) → entry_at entries name ≡ Some b →
      Outcome h (wants_renamed_from tree (Taken d entries blocks name b) to) (run (renaming h to dirs (AtName (n.inode d) (inode_by n d (Dir entries blocks)) name (n.spot d name) (entry_of n name b))) s)
  source_outcome d blocks entries name b is had =
      let w = run (walk to) s in
      let l = walks_lead s tree n to of in
      rw (run-bind (walk to) (λ w. renaming_to h (moving_of n d blocks entries name b) w.dirs (dirs ++ w.dirs) w.spot) s)
      (target_outcome h s tree n of (dirs ++ w.dirs) d blocks entries name b is had to w.dirs l.1 w.spot (place tree to) l.0 (walk_fine s to))

pub renamed_outcome : (h : Hand) (s : Store) (tree : FileTree) (n : Naming) → IsOfTree s tree n → (path to : List (List ℕ)) → Outcome h (wants_renamed tree path to) (run (plan_renamed h path to) s)
renamed_outcome h s tree n of [] to = refl
renamed_outcome h s tree n of (name ∷ names) [] = refl
renamed_outcome h s tree n of (name ∷ names) (new ∷ news) =
    let w = run (walk (name ∷ names)) s in
    rw (run-bind (walk (name ∷ names)) (λ w. renaming h (new ∷ news) w.dirs w.spot) s)
    (by_spot s (node_at tree) n of.pictures (λ v p. IsFine v → Outcome h (wants_renamed_from tree p (new ∷ news)) (run (renaming h (new ∷ news) w.dirs v) s))
    (λ f. refl)
    (λ r f. f)
    (λ d blocks entries name b is had f. source_outcome h s tree n of (new ∷ news) w.dirs d blocks entries name b is had)
    (λ d blocks entries name is absent f. refl)
    w.spot (place tree (name ∷ names)) (walks_lead s tree n (name ∷ names) of).0 (walk_fine s (name ∷ names)))
