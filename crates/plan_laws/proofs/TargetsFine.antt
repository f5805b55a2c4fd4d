-- The locks of the plans that go to one node cover what these look at and edit; and so of each plan.
use Rattle.std.proofs.Common.{sym, ℕ, ◌≡◌, ◌==◌, Bool, true, false, nat_eq, if◌then◌else◌, Some, List, [], ◌∷◌, ◌++◌, refl, subst, arith}
use Rattle.std.proofs.lemmas.Bool.Decides.{nat_tests}
use Rattle.std.proofs.lemmas.List.Elements.{Contains-append_left, Contains-append_right}
use Rattle.std.specs.List.{Contains}
use Rattle.frang_base.specs.declared.reply.Reply.{Reply}
use Rattle.frang_base.specs.declared.reply.Reply.TheVariants as reply
use Rattle.disk_definitions.specs.Store.{Store, StoredNode}
use Rattle.disk_definitions.specs.Naming.{Naming}
use Rattle.disk_definitions.specs.Ask.{Ask, ReadInode, run}
use Rattle.disk_definitions.specs.Walks.{Spot, Target, walk, at_spot, at_target}
use Rattle.disk_definitions.specs.Walks.Spot.{AtRoot, AtName, AtGap, Lost}
use Rattle.disk_definitions.specs.Plans.{Hand, Plan, refused}
use Rattle.disk_definitions.specs.FilePlans.{Writing, writing, cutting, showing, at_file, with_file, plan_of_file}
use Rattle.disk_definitions.specs.LookPlans.{plan_of_node, with_inode, at_inode, listing}
use Rattle.plan_laws.proofs.Covering.{has_head}
use Rattle.plan_laws.proofs.Standing.{HasKind, IsFileNode, DiskStands}
use Rattle.plan_laws.proofs.Fine.{Fine, refuse_fine}
use Rattle.plan_laws.proofs.WalksFine.{SpotStands, walk_stands, on_walk}
use Rattle.plan_laws.proofs.RoomsFine.{alone, read_node}
use Rattle.plan_laws.proofs.FilesFine.{showing_fine, listing_fine, cutting_fine}
use Rattle.plan_laws.proofs.WritesFine.{writing_fine}
use Rattle.plan_laws.proofs.Targets.{target_of, spot_target, any_kind, is_kind}

module _ (h : Hand) (s : Store) (n : Naming) (disk : DiskStands h s n) where
  -- a file is read, of any other kind the entry tells it
  file_fine : (next : ℕ → List ℕ → StoredNode → Ask Plan) → ((i : ℕ) (touched : List ℕ) (x : StoredNode) → s.inode i ≡ Some x → Contains touched i → IsFileNode s x → Fine h s n touched (next i touched x)) →
      (t : Target) → HasKind s t.inode t.kind → Fine h s n (t.dirs ++ target_of (λ k. nat_eq k 1) t) (at_file next t)
  file_fine next each t k = go (t.kind == 2) refl (t.kind == 1) refl
    where
      touched : List ℕ
      touched = t.dirs ++ t.inode ∷ []

      go : (a : Bool) → t.kind == 2 ≡ a → (b : Bool) → t.kind == 1 ≡ b → Fine h s n (t.dirs ++ (if b then t.inode ∷ [] else [])) (if a then refused reply.IsDir t.dirs
          else (if b then ReadInode t.inode (with_file (next t.inode (t.dirs ++ t.inode ∷ [])) (t.dirs ++ t.inode ∷ [])) else refused reply.Inval t.dirs))
      go true p false q = refuse_fine h s n (t.dirs ++ []) t.dirs reply.IsDir (alone h s n disk t.dirs)
      go true p true q = absurd (let a : t.kind ≡ 2 = grind (arith, nat_tests) in let b : t.kind ≡ 1 = grind (arith, nat_tests) in omega arith)
      go false p true q =
          let one : t.kind ≡ 1 = grind (arith, nat_tests) in
          let file : k.node.kind ≡ 1 = subst (λ z. k.node.kind ≡ z) one k.kind_is in
          read_node h s n disk t.dirs t.inode k.node (with_file (next t.inode (t.dirs ++ t.inode ∷ [])) (t.dirs ++ t.inode ∷ [])) k.is
          (let kind : (k.node.kind == 1) ≡ true = grind (arith, nat_tests) in
          subst (λ c. Fine h s n (t.dirs ++ t.inode ∷ []) (if c then next t.inode (t.dirs ++ t.inode ∷ []) k.node else refused reply.Inval (t.dirs ++ t.inode ∷ []))) (sym kind)
          (each t.inode (t.dirs ++ t.inode ∷ []) k.node k.is (Contains-append_right t.dirs (t.inode ∷ []) t.inode (has_head t.inode [])) ((disk.nodes t.inode k.node k.is).file file)))
      go false p false q = refuse_fine h s n (t.dirs ++ []) t.dirs reply.Inval (alone h s n disk t.dirs)

  inode_fine : (next : List ℕ → StoredNode → Ask Plan) → ((i : ℕ) (touched : List ℕ) (x : StoredNode) → s.inode i ≡ Some x → Contains touched i → Fine h s n touched (next touched x)) →
      (t : Target) → HasKind s t.inode t.kind → Fine h s n (t.dirs ++ t.inode ∷ []) (at_inode next t)
  inode_fine next each t k = read_node h s n disk t.dirs t.inode k.node (with_inode next (t.dirs ++ t.inode ∷ [])) k.is (each t.inode (t.dirs ++ t.inode ∷ []) k.node k.is (Contains-append_right t.dirs (t.inode ∷ []) t.inode (has_head t.inode [])))

  kind_fine : (next : Target → Ask Plan) (want : ℕ) (r : Reply) → ((t : Target) → HasKind s t.inode t.kind → Fine h s n (t.dirs ++ t.inode ∷ []) (next t)) → (t : Target) → HasKind s t.inode t.kind →
      Fine h s n (t.dirs ++ target_of (λ k. nat_eq k want) t) (if t.kind == want then next t else refused r t.dirs)
  kind_fine next want r each t k = go (t.kind == want)
    where
      go : (a : Bool) → Fine h s n (t.dirs ++ (if a then t.inode ∷ [] else [])) (if a then next t else refused r t.dirs)
      go true = each t k
      go false = refuse_fine h s n (t.dirs ++ []) t.dirs r (alone h s n disk t.dirs)

  abbrev pub node_touched : (ℕ → Bool) → List (List ℕ) → List ℕ
  node_touched wanted path = (run (walk path) s).dirs ++ spot_target wanted (run (walk path) s).spot

  module _ (wanted : ℕ → Bool) (next : Target → Ask Plan) (each : (t : Target) → HasKind s t.inode t.kind → Fine h s n (t.dirs ++ target_of wanted t) (next t)) where
    spot_fine : (v : Spot) (dirs : List ℕ) → SpotStands h s n disk dirs v → Fine h s n (dirs ++ spot_target wanted v) (at_spot v dirs refused next)
    spot_fine AtRoot dirs t = each (record { inode = 0; kind = 2; dirs = dirs }) disk.root
    spot_fine (AtName i x name q e) dirs t = each (record { inode = e.inode; kind = e.kind; dirs = dirs }) t.2
    spot_fine (AtGap i x name) dirs t = refuse_fine h s n (dirs ++ []) dirs reply.NoEnt (alone h s n disk dirs)
    spot_fine (Lost r) dirs t = refuse_fine h s n (dirs ++ []) dirs r (alone h s n disk dirs)

    pub node_fine : (path : List (List ℕ)) → Fine h s n (node_touched wanted path) (plan_of_node path next)
    node_fine path = let w = run (walk path) s in
        on_walk h s n disk (node_touched wanted path) path (λ w. at_target w refused next) (λ i c. Contains-append_left w.dirs (spot_target wanted w.spot) i c) (spot_fine w.spot w.dirs (walk_stands h s n disk path).spot)

  -- ---- operation by operation
  pub write_fine : (w : Writing) (path : List (List ℕ)) → Fine h s n (node_touched (is_kind 1) path) (plan_of_file path (writing h w))
  write_fine w path = node_fine (is_kind 1) (at_file (writing h w)) (file_fine (writing h w) (λ i touched x is c file. writing_fine h s n disk touched i x is c file w)) path

  pub truncate_fine : (when : ℕ) (path : List (List ℕ)) (len : ℕ) → Fine h s n (node_touched (is_kind 1) path) (plan_of_file path (cutting when len))
  truncate_fine when path len = node_fine (is_kind 1) (at_file (cutting when len)) (file_fine (cutting when len) (λ i touched x is c file. cutting_fine h s n disk touched i x is c when len)) path

  pub read_fine : (path : List (List ℕ)) (off len : ℕ) → Fine h s n (node_touched (is_kind 1) path) (plan_of_file path (showing off len))
  read_fine path off len = node_fine (is_kind 1) (at_file (showing off len)) (file_fine (showing off len) (λ i touched x is c file. showing_fine h s n disk touched i x is c file off len)) path

  shows_fine : (reply : StoredNode → Reply) (t : Target) → HasKind s t.inode t.kind → Fine h s n (t.dirs ++ t.inode ∷ []) (at_inode (λ touched x. refused (reply x) touched) t)
  shows_fine reply = inode_fine (λ touched x. refused (reply x) touched) (λ i touched x is c. refuse_fine h s n touched touched (reply x) (λ i c. c))

  pub show_fine : (reply : StoredNode → Reply) (path : List (List ℕ)) → Fine h s n (node_touched any_kind path) (plan_of_node path (at_inode (λ touched x. refused (reply x) touched)))
  show_fine reply = node_fine any_kind (at_inode (λ touched x. refused (reply x) touched)) (shows_fine reply)

  pub list_fine : (path : List (List ℕ)) → Fine h s n (node_touched (is_kind 2) path) (plan_of_node path (λ t. if t.kind == 2 then at_inode listing t else refused reply.NotDir t.dirs))
  list_fine = node_fine (is_kind 2) (λ t. if t.kind == 2 then at_inode listing t else refused reply.NotDir t.dirs) (kind_fine (at_inode listing) 2 reply.NotDir (inode_fine listing (λ i touched x is c. listing_fine h s n disk touched i x is c)))

  pub readlink_fine : (path : List (List ℕ)) → Fine h s n (node_touched (is_kind 3) path) (plan_of_node path (λ t. if t.kind == 3 then at_inode (λ touched x. refused (reply.Target x.target) touched) t else refused reply.Inval t.dirs))
  readlink_fine = node_fine (is_kind 3) (λ t. if t.kind == 3 then at_inode (λ touched x. refused (reply.Target x.target) touched) t else refused reply.Inval t.dirs)
      (kind_fine (at_inode (λ touched x. refused (reply.Target x.target) touched)) 3 reply.Inval (shows_fine (λ x. reply.Target x.target)))
