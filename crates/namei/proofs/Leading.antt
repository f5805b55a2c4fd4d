-- A walk over sectors of a disk leads where the tree's walk does.
use Rattle.std.proofs.Common.{◌≡◌, ℕ, Option, Some, None, List, [], ◌∷◌, sym, ap, subst, ◌∙◌}
use Rattle.frang_base.specs.declared.reply.Reply.{Reply}
use Rattle.frang_base.specs.declared.reply.Reply.TheVariants as reply
use Rattle.frang_base.specs.declared.sector.Sector.{Sector as CodeSector}
use Rattle.tree_definitions.specs.declared.node.Node.{Node}
use Rattle.tree_definitions.specs.declared.node.Node.TheVariants.{Dir, File, Link}
use Rattle.tree_definitions.specs.Entries.{Entries, entry_at}
use Rattle.tree_definitions.specs.Place.{Place, Root, Taken, Free, Nowhere, place_by, place_in, below, place_from, place}
use Rattle.tree_definitions.specs.Tree.{FileTree, node_at}
use Rattle.disk_definitions.specs.Store.{Store, StoredEntry, store_of}
use Rattle.disk_definitions.specs.Naming.{Naming}
use Rattle.disk_definitions.specs.Held.{Segments}
use Rattle.disk_definitions.specs.Ask.{Sector, run, looks, meet, number_of}
use Rattle.disk_definitions.specs.Walks.{Spot, AtRoot, AtName, AtGap, Lost, Walked, at_spot, walk}
use Rattle.disk_definitions.specs.Written.{Cached, at_hand}
use Rattle.disk_definitions.specs.Meets.{IsOfTree}
use Rattle.disk_definitions.specs.Missing.{first_missing, unless_missing}
use Rattle.plan_laws.specs.Walking.{Mirrors}
use Rattle.plan_laws.proofs.Walking.{walks_lead}
use Rattle.plan_laws.proofs.Deciding.{meets_where}
use Rattle.plan_laws.proofs.WalksInside.{walk_inside}
use Rattle.dir_lookup.specs.Reading.{reading, numbered}
use Rattle.line_laws.proofs.OfDisk.{of_tree}
use Rattle.line_laws.proofs.AtHand.{agrees}
use Rattle.namei.specs.declared.walking.Step.{Step}
use Rattle.namei.specs.declared.walking.Step.TheVariants as step
use Rattle.namei.specs.Leads.{birth_at, refusal_at, Leads, IsRefused, LeadsOverDisks}
use Rattle.namei.specs.Steps.{step_lost, step_of}

-- ---- how a tree refuses a walk

named_case : (d blocks : ℕ) (entries : Entries) (name : List ℕ) (o : Option ℕ) → IsRefused (place_by d entries blocks name o)
named_case d blocks entries name None = tt
named_case d blocks entries name (Some b) = tt

node_case : (o : Option Node) (d : ℕ) (name : List ℕ) → IsRefused (place_in o d name)
node_case None d name = tt
node_case (Some (Dir entries blocks)) d name = named_case d blocks entries name (entry_at entries name)
node_case (Some (File cells links when)) d name = tt
node_case (Some (Link target links)) d name = tt

on_case : (p : Place) (next : ℕ → Place) → IsRefused p → ((b : ℕ) → IsRefused (next b)) → IsRefused (below p next)
on_case Root next h f = f 0
on_case (Taken d entries blocks name b) next h f = f b
on_case (Free d entries blocks name) next h f = tt
on_case (Nowhere r) next h f = h

refused_from : (tree : FileTree) (path : List (List ℕ)) (b : ℕ) → IsRefused (place_from tree b path)
refused_from tree [] b = tt
refused_from tree (name ∷ []) b = node_case (node_at tree b) b name
refused_from tree (name ∷ next ∷ names) b = on_case (place_in (node_at tree b) b name) (λ c. place_from tree c (next ∷ names)) (node_case (node_at tree b) b name) (λ c. refused_from tree (next ∷ names) c)

-- a step of a lost walk is no need
lost_no_need : (r : Reply) (sector : CodeSector) → step_lost r ≡ step.Need sector → ⊥
lost_no_need reply.Ok sector e = cc
lost_no_need reply.Mounted sector e = cc
lost_no_need (reply.Shown b) sector e = cc
lost_no_need (reply.File a b) sector e = cc
lost_no_need (reply.Dir a) sector e = cc
lost_no_need (reply.Symlink a) sector e = cc
lost_no_need (reply.Names a) sector e = cc
lost_no_need (reply.Target a) sector e = cc
lost_no_need (reply.Time a b) sector e = cc
lost_no_need reply.Exist sector e = cc
lost_no_need reply.NoEnt sector e = cc
lost_no_need reply.NotDir sector e = cc
lost_no_need reply.IsDir sector e = cc
lost_no_need reply.NotEmpty sector e = cc
lost_no_need reply.Inval sector e = cc
lost_no_need reply.MLink sector e = cc
lost_no_need reply.DirFull sector e = cc
lost_no_need reply.BadOffset sector e = cc
lost_no_need reply.TooBig sector e = cc
lost_no_need reply.Loop sector e = cc
lost_no_need reply.NoInode sector e = cc
lost_no_need reply.NoDirBlock sector e = cc
lost_no_need (reply.NoBlock m) sector e = cc
lost_no_need reply.NoLarge sector e = cc
lost_no_need reply.Down sector e = cc
lost_no_need reply.Expired sector e = cc
lost_no_need reply.Io sector e = cc
lost_no_need reply.Already sector e = cc

-- ---- the step of a spot that mirrors a place

module _ (s : Store) (tree : FileTree) (n : Naming) (root : n.inode 0 ≡ 0) where
  abbrev step_by : Spot → List ℕ → Step
  step_by v dirs = at_spot v dirs (λ r dirs. step_lost r) (λ t. step.At t.inode)

  at_birth : (v : Spot) (p : Place) (dirs : List ℕ) → Mirrors s (node_at tree) n v p → (b : ℕ) → birth_at p ≡ Some b → step_by v dirs ≡ step.At (n.inode b)
  at_birth AtRoot Root dirs m b e = let z : 0 ≡ b = cc in ap step.At (sym root ∙ ap n.inode z)
  at_birth (AtName i x w q e) (Taken d entries blocks u c) dirs m b f = let z : c ≡ b = cc in ap (λ (e : StoredEntry). step.At e.inode) m.4 ∙ ap (λ c. step.At (n.inode c)) z
  at_birth (AtGap i x w) (Free d entries blocks u) dirs m b e = absurd (cc)
  at_birth (Lost r) (Nowhere z) dirs m b e = absurd (cc)
  at_birth AtRoot (Taken d entries blocks u c) dirs m b e = absurd m
  at_birth AtRoot (Free d entries blocks u) dirs m b e = absurd m
  at_birth AtRoot (Nowhere z) dirs m b e = absurd m
  at_birth (AtName i x w q e) Root dirs m b f = absurd m
  at_birth (AtName i x w q e) (Free d entries blocks u) dirs m b f = absurd m
  at_birth (AtName i x w q e) (Nowhere z) dirs m b f = absurd m
  at_birth (AtGap i x w) Root dirs m b e = absurd m
  at_birth (AtGap i x w) (Taken d entries blocks u c) dirs m b e = absurd m
  at_birth (AtGap i x w) (Nowhere z) dirs m b e = absurd m
  at_birth (Lost r) Root dirs m b e = absurd m
  at_birth (Lost r) (Taken d entries blocks u c) dirs m b e = absurd m
  at_birth (Lost r) (Free d entries blocks u) dirs m b e = absurd m

  at_refusal : (v : Spot) (p : Place) (dirs : List ℕ) → Mirrors s (node_at tree) n v p → (r : Reply) → refusal_at p ≡ Some r → step_by v dirs ≡ step_lost r
  at_refusal AtRoot Root dirs m r e = absurd (cc)
  at_refusal (AtName i x w q e) (Taken d entries blocks u c) dirs m r f = absurd (cc)
  at_refusal (AtGap i x w) (Free d entries blocks u) dirs m r e = let z : reply.NoEnt ≡ r = cc in ap step_lost z
  at_refusal (Lost l) (Nowhere z) dirs m r e = let y : z ≡ r = cc in ap step_lost (m ∙ y)
  at_refusal AtRoot (Taken d entries blocks u c) dirs m r e = absurd m
  at_refusal AtRoot (Free d entries blocks u) dirs m r e = absurd m
  at_refusal AtRoot (Nowhere z) dirs m r e = absurd m
  at_refusal (AtName i x w q e) Root dirs m r f = absurd m
  at_refusal (AtName i x w q e) (Free d entries blocks u) dirs m r f = absurd m
  at_refusal (AtName i x w q e) (Nowhere z) dirs m r f = absurd m
  at_refusal (AtGap i x w) Root dirs m r e = absurd m
  at_refusal (AtGap i x w) (Taken d entries blocks u c) dirs m r e = absurd m
  at_refusal (AtGap i x w) (Nowhere z) dirs m r e = absurd m
  at_refusal (Lost l) Root dirs m r e = absurd m
  at_refusal (Lost l) (Taken d entries blocks u c) dirs m r e = absurd m
  at_refusal (Lost l) (Free d entries blocks u) dirs m r e = absurd m

  -- a step that isn't a need
  no_need : (v : Spot) (dirs : List ℕ) (sector : CodeSector) → step_by v dirs ≡ step.Need sector → ⊥
  no_need AtRoot dirs sector e = cc
  no_need (AtName i x w q d) dirs sector e = cc
  no_need (AtGap i x w) dirs sector e = cc
  no_need (Lost r) dirs sector e = lost_no_need r sector e

  leads_by : (w : Walked) (p : Place) → Mirrors s (node_at tree) n w.spot p → IsRefused p → (missing : Option Sector) → Leads n p missing (step_of (numbered (unless_missing missing w)))
  leads_by w p m refused None = record {
    need = λ sector. (λ e. absurd (no_need w.spot w.dirs sector e), λ e. absurd (cc));
    at = λ b h e. at_birth w.spot p w.dirs m b e;
    no_ent = λ h e. at_refusal w.spot p w.dirs m reply.NoEnt e;
    not_dir = λ h e. at_refusal w.spot p w.dirs m reply.NotDir e;
    all_cases = refused;
  }
  leads_by w p m refused (Some x) = record {
    need = λ sector. (λ e. let z : record { 0 = number_of x } ≡ sector = cc in ap (λ (t : CodeSector). Some t.0) z, λ e. let z : number_of x ≡ sector.0 = cc in ap (λ k. step.Need (record { 0 = k })) z);
    at = λ b h e. let z : Some x ≡ None = h in absurd (cc);
    no_ent = λ h e. let z : Some x ≡ None = h in absurd (cc);
    not_dir = λ h e. let z : Some x ≡ None = h in absurd (cc);
    all_cases = refused;
  }

pub walk_leads_over : (path : List (List ℕ)) (cached : Cached) (answer : Step) → ((held : Segments) → answer ≡ step_of (reading (walk path) cached held)) → LeadsOverDisks path cached answer
walk_leads_over path cached answer is held all disk tree of below =
    let s : Store = store_of tree.segments disk in
    let n : Naming = below.stands.naming in
    let tree_is : IsOfTree s tree n = of_tree disk tree below in
    let missing : Option Sector = first_missing (at_hand cached held) (looks (walk path) s) in
    let met : meet (walk path) (at_hand cached held) ≡ unless_missing missing (run (walk path) s) =
    meets_where (walk path) (at_hand cached held) s (agrees cached held tree.segments disk of.as_cached below.whole (looks (walk path) s) (walk_inside s tree n tree_is path)) in
    subst (Leads n (place tree path) missing) (sym (is held ∙ ap (λ m. step_of (numbered m)) met))
    (leads_by s tree n below.stands.root (run (walk path) s) (place tree path) (walks_lead s tree n path tree_is).0 (refused_from tree path 0) missing)
