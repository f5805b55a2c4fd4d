-- What the plans of write and fill come to: a large block first, and then the small ones.
use Rattle.std.proofs.Common.{ℕ, ◌≡◌, ◌-◌, ◌/◌, ◌==◌, ◌&&◌, not, Bool, true, false, nat_lt, max, if◌then◌else◌, inl, inr, Option, Some, None, List, [], ◌∷◌, ◌++◌, length, refl, sym, ◌∙◌, subst, arith, is_some}
use Rattle.std.proofs.lemmas.Bool.Decides.{nat_tests}
use Rattle.std.specs.Map.{keys_of}
use Rattle.frang_base.specs.declared.reply.Reply.TheVariants as reply
use Rattle.tree_definitions.specs.declared.cells.Cell.{Cell}
use Rattle.tree_definitions.specs.declared.node.Node.{Node}
use Rattle.tree_definitions.specs.declared.node.Node.TheVariants.{Dir, File, Link}
use Rattle.tree_definitions.specs.Tree.{FileTree, node_at, small_blocks_of, large_blocks_of}
use Rattle.tree_definitions.specs.Place.{place}
use Rattle.tree_laws.proofs.Keeping.{names_nodes}
use Rattle.disk_definitions.specs.Store.{Store, StoredNode}
use Rattle.disk_definitions.specs.Naming.{Naming}
use Rattle.disk_definitions.specs.Picks.{picked_many, picked_large}
use Rattle.disk_definitions.proofs.Kept.{inode_is}
use Rattle.disk_definitions.specs.Ask.{Ask, Got, run}
use Rattle.disk_definitions.specs.Walks.{walk, at_spot, at_target}
use Rattle.disk_definitions.specs.Plans.{Hand, Plan, refused, read_held}
use Rattle.disk_definitions.specs.Plans.Plan.{Finishes}
use Rattle.disk_definitions.specs.FilePlans.{Writing, end_of, sectors_met, directory_blocks, resized, written_by, writing_in, writing_picked, writing_small, writing_large, writing, at_file, with_file, plan_of_file}
use Rattle.disk_definitions.specs.Meets.{IsOfTree}
use Rattle.plan_laws.proofs.Asking.{run-bind, run-segments}
use Rattle.plan_laws.proofs.Cases.{inode_by, by_spot}
use Rattle.plan_laws.proofs.Walking.{walks_lead}
use Rattle.plan_laws.proofs.Sectors.{run-writes}
use Rattle.plan_laws.proofs.Covering.{IsFine, walk_fine}
use Rattle.plan_laws.proofs.Writing.{plan_needs, tree_needs}
use Rattle.plan_laws.specs.Wants.{Wants, wants_written, wants_in, wants_bytes}
use Rattle.plan_laws.specs.Exact.{FindsNothing}
use Rattle.plan_laws.proofs.Outcomes.{Outcome, none_outcome}
use Rattle.plan_laws.proofs.Rooms.{none_wanted}

module _ (h : Hand) (s : Store) (n : Naming) (b links since : ℕ) (old : List Cell) (w : Writing) (touched : List ℕ) where
  abbrev x : StoredNode
  x = inode_by n b (File old links since)

  abbrev more : ℕ
  more = small_blocks_of (max (length old) (end_of w)) - small_blocks_of (length old)

  -- what is taken, with a large block or without
  abbrev takes : Bool → Wants
  takes large = record { inode = false; grows = false; large = large; small = more }

  module _ (c : Bool) (large : c ≡ true → picked_large h.held ≡ None → ⊥) where
    all_found : (picked_many h.held more ≡ None → ⊥) → FindsNothing h.held (takes c) → ⊥
    all_found small (inl z) = let y : false ≡ true = z.0 in cc
    all_found small (inr (inl z)) = let y : false ≡ true = z.0 in cc
    all_found small (inr (inr (inl z))) = large z.0 z.1
    all_found small (inr (inr (inr z))) = small z

    in_place : (o : Option ℕ) (picks : List ℕ) → (picked_many h.held more ≡ None → ⊥) → Outcome h (Some (takes c)) (run (writing_in w (n.inode b) touched x picks o) s)
    in_place o picks small =
        let y = resized x w.when (max x.size (end_of w)) picks o in
        subst (Outcome h (Some (takes c))) (sym (run-writes w x y s (w.off / 512) (sectors_met w.off w.len) (λ bytes. Got (Finishes (written_by (n.inode b) y picks o touched bytes)))))
        (inr (all_found small, (refl, λ k t z. absurd (let y : false ≡ true = t in cc))))

    picked_case : (o : Option ℕ) (p : Option (List ℕ)) → picked_many h.held more ≡ p → Outcome h (Some (takes c)) (run (writing_picked h w (n.inode b) touched x o p) s)
    picked_case o None e = none_outcome h s (takes c) (reply.NoBlock (directory_blocks h.held)) touched refl (inr (inr (inr e)))
    picked_case o (Some picks) e = in_place o picks (λ z. let y : Some picks ≡ None = sym e ∙ z in cc)

    small_case : (o : Option ℕ) → Outcome h (Some (takes c)) (run (writing_small h w (n.inode b) touched x o) s)
    small_case o = go (more == 0) refl
      where
        go : (d : Bool) → more == 0 ≡ d → Outcome h (Some (takes c)) (run (if d then writing_in w (n.inode b) touched x [] o else read_held h (writing_picked h w (n.inode b) touched x o (picked_many h.held more))) s)
        go true e = let z : more ≡ 0 = grind (arith, nat_tests) in in_place o [] (subst (λ k. picked_many h.held k ≡ None → ⊥) (sym z) (none_wanted h.held))
        go false e = rw (run-segments (keys_of h.held) (writing_picked h w (n.inode b) touched x o (picked_many h.held more)) s) (picked_case o (picked_many h.held more) refl)

  large_case : (p : Option ℕ) → picked_large h.held ≡ p → Outcome h (Some (takes true)) (run (writing_large h w (n.inode b) touched x p) s)
  large_case None e = none_outcome h s (takes true) reply.NoLarge touched refl (inr (inr (inl (refl, e))))
  large_case (Some g) e = small_case true (λ t z. let y : Some g ≡ None = sym e ∙ z in cc) (Some g)

  by_need : (c : Bool) → Outcome h (Some (takes c)) (run (if c then read_held h (writing_large h w (n.inode b) touched x (picked_large h.held)) else writing_small h w (n.inode b) touched x None) s)
  by_need true = rw (run-segments (keys_of h.held) (writing_large h w (n.inode b) touched x (picked_large h.held)) s) (large_case (picked_large h.held) refl)
  by_need false = small_case false (λ t z. cc) None

  abbrev Goal : Bool → Bool → Type 0
  Goal p q = Outcome h (Some (takes p)) (run (if q then read_held h (writing_large h w (n.inode b) touched x (picked_large h.held)) else writing_small h w (n.inode b) touched x None) s)

  sized : Goal (nat_lt (large_blocks_of (length old)) (large_blocks_of (max (length old) (end_of w)))) (nat_lt 65536 (end_of w) && x.large == 0)
  sized =
      subst (λ p. Goal p (nat_lt 65536 (end_of w) && x.large == 0)) (sym (tree_needs (length old) (end_of w)))
      (subst (Goal (nat_lt 65536 (end_of w) && not (nat_lt 65536 (length old)))) (sym (plan_needs (nat_lt 65536 (length old)) (nat_lt 65536 (end_of w)) (n.large b))) (by_need (nat_lt 65536 (end_of w) && not (nat_lt 65536 (length old)))))

  abbrev tree_then : Option Wants
  tree_then = Some (takes (nat_lt (large_blocks_of (length old)) (large_blocks_of (max (length old) (end_of w)))))

  abbrev plan_then : Ask Plan
  plan_then = if nat_lt 65536 (end_of w) && x.large == 0 then read_held h (writing_large h w (n.inode b) touched x (picked_large h.held)) else writing_small h w (n.inode b) touched x None

  pub writing_outcome : Outcome h (wants_written (length old) w.off w.len) (run (writing h w (n.inode b) touched x) s)
  writing_outcome = go (nat_lt (length old) w.off) (nat_lt 1114112 (end_of w))
    where
      go : (c d : Bool) → Outcome h (if c then None else (if d then None else tree_then)) (run (if c then refused reply.BadOffset touched else (if d then refused reply.TooBig touched else plan_then)) s)
      go true d = refl
      go false true = refl
      go false false = sized

module _ (h : Hand) (s : Store) (tree : FileTree) (n : Naming) (of : IsOfTree s tree n) (w : Writing) where
  -- the node that an entry names, whose kind the entry tells
  by_node : (dirs : List ℕ) (b : ℕ) (o : Option Node) → node_at tree b ≡ o → is_some o ≡ true → Outcome h (wants_in o w.off w.len) (run (at_file (writing h w) (record { inode = n.inode b; kind = n.kind b; dirs = dirs })) s)
  by_node dirs b None e some = absurd (cc)
  by_node dirs b (Some (Dir es k)) e some = rw (of.pictures.kinds b (Dir es k) e) refl
  by_node dirs b (Some (Link target links)) e some = rw (of.pictures.kinds b (Link target links) e) refl
  by_node dirs b (Some (File cells links when)) e some =
      let touched = dirs ++ n.inode b ∷ [] in
      rw (of.pictures.kinds b (File cells links when) e)
      (subst (λ o. Outcome h (wants_written (length cells) w.off w.len) (run (with_file (writing h w (n.inode b) touched) touched o) s)) (sym (inode_is s (node_at tree) n of.pictures b (File cells links when) e))
      (writing_outcome h s n b links when cells w touched))

  pub bytes_outcome : (path : List (List ℕ)) → Outcome h (wants_bytes tree (place tree path) w.off w.len) (run (plan_of_file path (writing h w)) s)
  bytes_outcome path =
      let t = run (walk path) s in
      rw (run-bind (walk path) (λ t. at_target t refused (at_file (writing h w))) s)
      (by_spot s (node_at tree) n of.pictures (λ v p. IsFine v → Outcome h (wants_bytes tree p w.off w.len) (run (at_spot v t.dirs refused (at_file (writing h w))) s))
      (λ f. refl)
      (λ r f. f)
      (λ d blocks entries name b is had f. by_node t.dirs b (node_at tree b) refl (names_nodes tree of.well_formed d entries blocks name b is had))
      (λ d blocks entries name is absent f. refl)
      t.spot (place tree path) (walks_lead s tree n path of).0 (walk_fine s path))
