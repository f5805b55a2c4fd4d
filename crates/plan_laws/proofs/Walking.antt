-- The walk of a path over sectors leads where the tree's does.
use Rattle.std.proofs.Common.{◌≡◌, ℕ, ◌==◌, Bool, true, false, Option, Some, None, List, [], ◌∷◌, ◌++◌, map, if◌then◌else◌, nat_eq, refl, sym, ◌∙◌, ap, subst, is_some}
use Rattle.std.proofs.lemmas.List.{append-nil, append_assoc}
use Rattle.frang_base.specs.declared.reply.Reply.TheVariants as reply
use Rattle.tree_definitions.specs.declared.node.Node.{Node}
use Rattle.tree_definitions.specs.declared.node.Node.TheVariants.{Dir, File, Link}
use Rattle.tree_definitions.specs.Entries.{Entries, entry_at}
use Rattle.tree_definitions.specs.Tree.{FileTree, node_at}
use Rattle.tree_definitions.specs.Place.{Place, Root, Taken, Free, Nowhere, place_by, place_in, below, place_from, walked_by, walked_from}
use Rattle.tree_laws.proofs.Places.{dir_is_some}
use Rattle.tree_laws.proofs.Keeping.{names_nodes}
use Rattle.disk_definitions.specs.Store.{Store}
use Rattle.disk_definitions.specs.Naming.{Naming}
use Rattle.disk_definitions.specs.Ask.{Got, ReadInode, run}
use Rattle.disk_definitions.specs.Walks.{Spot, AtRoot, AtName, AtGap, Lost, Walked, in_inode, onward, walk_from}
use Rattle.disk_definitions.specs.Meets.{IsOfTree}
use Rattle.plan_laws.specs.Walking.{Mirrors, WalksLeadAsTheTreeDoes}
use Rattle.plan_laws.proofs.Asking.{run-bind}
use Rattle.plan_laws.proofs.Spots.{LeadsTo, in_inode_leads}

-- the directories behind the first name
abbrev rest_by : Place → (ℕ → List ℕ) → List ℕ
rest_by Root next = []
rest_by (Taken d entries blocks name b) next = next b
rest_by (Free d entries blocks name) next = []
rest_by (Nowhere r) next = []

abbrev pub IsNotRoot : Place → Type 0
IsNotRoot Root = ⊥
IsNotRoot _ = Unit {0}

looked_up : (d blocks : ℕ) (entries : Entries) (name : List ℕ) (o : Option ℕ) → IsNotRoot (place_by d entries blocks name o)
looked_up d blocks entries name None = tt
looked_up d blocks entries name (Some b) = tt

pub place_not_root : (o : Option Node) (d : ℕ) (name : List ℕ) → IsNotRoot (place_in o d name)
place_not_root None d name = tt
place_not_root (Some (Dir entries blocks)) d name = looked_up d blocks entries name (entry_at entries name)
place_not_root (Some (File cells links when)) d name = tt
place_not_root (Some (Link target links)) d name = tt

module _ (s : Store) (tree : FileTree) (n : Naming) (of : IsOfTree s tree n) where
  abbrev Leads : List ℕ → Walked → Place → List ℕ → Type 0
  Leads dirs w p ds = LeadsTo s (node_at tree) n dirs w p ds

  -- where an entry tells no directory, the tree's next step finds none
  not_dir : (b : ℕ) (name : List ℕ) (names : List (List ℕ)) (o : Option Node) → node_at tree b ≡ o → is_some o ≡ true → n.kind b == 2 ≡ false →
      (place_from tree b (name ∷ names) ≡ Nowhere reply.NotDir) × (walked_from tree b (name ∷ names) ≡ [])
  not_dir b name names None e h f = absurd (cc)
  not_dir b name names (Some (Dir entries blocks)) e h f = absurd (let k : n.kind b ≡ 2 = of.pictures.kinds b (Dir entries blocks) e in let z : nat_eq (n.kind b) 2 ≡ true = ap (λ k. nat_eq k 2) k in cc)
  not_dir b name [] (Some (File cells links when)) e h f = rw e (refl, refl)
  not_dir b name [] (Some (Link target links)) e h f = rw e (refl, refl)
  not_dir b name (v ∷ names) (Some (File cells links when)) e h f = rw e (refl, refl)
  not_dir b name (v ∷ names) (Some (Link target links)) e h f = rw e (refl, refl)

  -- on from a name, whose directories were `dirs` and then `more`
  onward_leads : (path : List (List ℕ)) (name : List ℕ) (names : List (List ℕ)) → path ≡ name ∷ names →
      ((dirs : List ℕ) (d : ℕ) → is_some (node_at tree d) ≡ true → Leads dirs (run (walk_from dirs (n.inode d) path) s) (place_from tree d path) (walked_from tree d path)) →
      (dirs : List ℕ) (v : Spot) (p : Place) → IsNotRoot p → Mirrors s (node_at tree) n v p → Leads dirs (run (onward (λ more j. walk_from more j path) dirs v) s) (below p (λ b. place_from tree b path)) (rest_by p (λ b. walked_from tree b path))
  onward_leads path name names long f dirs (AtName i x w q e) (Taken d entries blocks u b) r h =
      let there : is_some (node_at tree b) ≡ true = names_nodes tree of.well_formed d entries blocks u b h.0.has.is h.2 in
      rw h.4 (by_kind (n.kind b == 2) refl there)
    where
      by_kind : (c : Bool) → n.kind b == 2 ≡ c → is_some (node_at tree b) ≡ true → Leads dirs (run (if c then walk_from dirs (n.inode b) path else Got (record { spot = Lost reply.NotDir; dirs = dirs })) s) (place_from tree b path) (walked_from tree b path)
      by_kind true k there = f dirs b there
      by_kind false k there =
          let z = not_dir b name names (node_at tree b) refl there k in
          subst (λ l. Leads dirs (record { spot = Lost reply.NotDir; dirs = dirs }) (place_from tree b l) (walked_from tree b l)) (sym long)
          (rw (z.0, z.1) (record { spot = refl; dirs = sym (append-nil dirs) }))
  onward_leads path name names long f dirs (AtGap i x w) (Free d entries blocks u) r h = record { spot = refl; dirs = sym (append-nil dirs) }
  onward_leads path name names long f dirs (Lost v) (Nowhere w) r h = record { spot = h; dirs = sym (append-nil dirs) }
  onward_leads path name names long f dirs v Root r h = absurd r
  onward_leads path name names long f dirs AtRoot (Taken d entries blocks u b) r h = absurd h
  onward_leads path name names long f dirs AtRoot (Free d entries blocks u) r h = absurd h
  onward_leads path name names long f dirs AtRoot (Nowhere w) r h = absurd h
  onward_leads path name names long f dirs (AtName i x w q e) (Free d entries blocks u) r h = absurd h
  onward_leads path name names long f dirs (AtName i x w q e) (Nowhere u) r h = absurd h
  onward_leads path name names long f dirs (AtGap i x w) (Taken d entries blocks u b) r h = absurd h
  onward_leads path name names long f dirs (AtGap i x w) (Nowhere u) r h = absurd h
  onward_leads path name names long f dirs (Lost v) (Taken d entries blocks u b) r h = absurd h
  onward_leads path name names long f dirs (Lost v) (Free d entries blocks u) r h = absurd h

  -- the directory of a name, and those behind it
  walked_on : (p : Place) → IsNotRoot p → (d : ℕ) (next : ℕ → List ℕ) → map n.inode (walked_by p d next) ≡ map n.inode (walked_by p d (λ b. [])) ++ map n.inode (rest_by p next)
  walked_on Root r d next = absurd r
  walked_on (Taken c entries blocks name b) r d next = refl
  walked_on (Free c entries blocks name) r d next = refl
  walked_on (Nowhere v) r d next = refl

  pub walk_leads : (path : List (List ℕ)) (dirs : List ℕ) (d : ℕ) → is_some (node_at tree d) ≡ true → Leads dirs (run (walk_from dirs (n.inode d) path) s) (place_from tree d path) (walked_from tree d path)
  walk_leads [] dirs d h = record { spot = tt; dirs = sym (append-nil dirs) }
  walk_leads (name ∷ []) dirs d h = in_inode_leads s (node_at tree) n of.pictures dirs d name (node_at tree d) refl h
  walk_leads (name ∷ next ∷ names) dirs d h =
      let p = place_in (node_at tree d) d name in
      let first = in_inode_leads s (node_at tree) n of.pictures dirs d name (node_at tree d) refl h in
      let w = run (in_inode dirs (n.inode d) name (s.inode (n.inode d))) s in
      let root = place_not_root (node_at tree d) d name in
      let rest = onward_leads (next ∷ names) next names refl (λ more c there. walk_leads (next ∷ names) more c there) w.dirs w.spot p root first.spot in
      rw (run-bind (ReadInode (n.inode d) (in_inode dirs (n.inode d) name)) (λ w. onward (λ more j. walk_from more j (next ∷ names)) w.dirs w.spot) s)
      (record {
        spot = rest.spot;
        dirs = rest.dirs ∙ ap (λ l. l ++ map n.inode (rest_by p (λ b. walked_from tree b (next ∷ names)))) first.dirs
            ∙ append_assoc dirs (map n.inode (walked_by p d (λ b. []))) (map n.inode (rest_by p (λ b. walked_from tree b (next ∷ names))))
            ∙ ap (λ l. dirs ++ l) (sym (walked_on p root d (λ b. walked_from tree b (next ∷ names))));
      })

pub walks_lead : WalksLeadAsTheTreeDoes
walks_lead s tree n path of =
    let r = walk_leads s tree n of path [] 0 (dir_is_some (node_at tree 0) of.well_formed.rooted) in
    subst (λ i. Mirrors s (node_at tree) n (run (walk_from [] i path) s).spot (place_from tree 0 path) × ((run (walk_from [] i path) s).dirs ≡ map n.inode (walked_from tree 0 path))) of.root (r.spot, r.dirs)
