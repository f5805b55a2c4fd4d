-- Where a plan of file bytes answers `ok`, the file is held alone.
use Rattle.std.proofs.Common.{ℕ, ◌-◌, ◌/◌, ◌==◌, ◌&&◌, Bool, true, false, nat_lt, max, if◌then◌else◌, Option, Some, None, List, [], ◌∷◌, ◌++◌, map, refl, sym, subst}
use Rattle.std.specs.Map.{keys_of}
use Rattle.frang_base.specs.declared.reply.Reply.TheVariants as reply
use Rattle.tree_definitions.specs.Tree.{small_blocks_of}
use Rattle.disk_definitions.specs.Store.{Store, StoredNode}
use Rattle.disk_definitions.specs.Picks.{picked_many, picked_large}
use Rattle.disk_definitions.specs.Ask.{Ask, Got, ReadInode, run}
use Rattle.disk_definitions.specs.Walks.{Spot, Target, walk, at_spot, at_target}
use Rattle.disk_definitions.specs.Walks.Spot.{AtRoot, AtName, AtGap, Lost}
use Rattle.disk_definitions.specs.Plans.{Hand, Plan, refuse, refused, read_held, shared_nodes, sole_segments}
use Rattle.disk_definitions.specs.Plans.Plan.{Finishes}
use Rattle.disk_definitions.specs.NamePlans.{finish_over}
use Rattle.disk_definitions.specs.FilePlans.{Writing, end_of, sectors_met, directory_blocks, resized, large_segment, written_by, writing_in, writing_picked, writing_small, writing_large, writing, cut_segments, cut_by, cutting, at_file, with_file, plan_of_file}
use Rattle.plan_laws.proofs.Asking.{run-bind, run-segments}
use Rattle.plan_laws.proofs.Sectors.{run-writes}
use Rattle.plan_laws.proofs.Covering.{node_sole}
use Rattle.plan_laws.proofs.Targets.{is_kind, target_of, spot_target}
use Rattle.plan_laws.proofs.Telling.{Tells, Alone, empty_alone, refuse_alone, none_alone}

module _ (h : Hand) (s : Store) where
  pub cutting_alone : (when len i : ℕ) (touched : List ℕ) (x : StoredNode) → Tells (Alone (i ∷ [])) (run (cutting when len i touched x) s)
  cutting_alone when len i touched x = go (nat_lt x.size len)
    where
      go : (b : Bool) → Tells (Alone (i ∷ [])) (run (if b then refused reply.BadOffset touched else finish_over (cut_segments x len) (cut_by when i touched x len)) s)
      go true = refuse_alone (i ∷ []) reply.BadOffset touched refl
      go false = rw (run-segments (cut_segments x len) (Got (Finishes (cut_by when i touched x len))) s) (λ ok k c. node_sole (shared_nodes touched) (i ∷ []) (sole_segments (cut_segments x len)) k c)

  module _ (w : Writing) (i : ℕ) (touched : List ℕ) (x : StoredNode) where
    in_alone : (picks : List ℕ) (o : Option ℕ) → Tells (Alone (i ∷ [])) (run (writing_in w i touched x picks o) s)
    in_alone picks o =
        let y = resized x w.when (max x.size (end_of w)) picks o in
        subst (Tells (Alone (i ∷ []))) (sym (run-writes w x y s (w.off / 512) (sectors_met w.off w.len) (λ bytes. Got (Finishes (written_by i y picks o touched bytes)))))
        (λ ok k c. node_sole (shared_nodes touched) (i ∷ []) (sole_segments (map (λ k. k / 1024) picks ++ large_segment o)) k c)

    picked_alone : (o : Option ℕ) (p : Option (List ℕ)) → Tells (Alone (i ∷ [])) (run (writing_picked h w i touched x o p) s)
    picked_alone o None = none_alone h s (i ∷ []) (reply.NoBlock (directory_blocks h.held)) touched refl
    picked_alone o (Some picks) = in_alone picks o

    small_alone : (o : Option ℕ) → Tells (Alone (i ∷ [])) (run (writing_small h w i touched x o) s)
    small_alone o = go (small_blocks_of (max x.size (end_of w)) - x.blocks == 0)
      where
        go : (b : Bool) → Tells (Alone (i ∷ [])) (run (if b then writing_in w i touched x [] o else read_held h (writing_picked h w i touched x o (picked_many h.held (small_blocks_of (max x.size (end_of w)) - x.blocks)))) s)
        go true = in_alone [] o
        go false = let p = picked_many h.held (small_blocks_of (max x.size (end_of w)) - x.blocks) in rw (run-segments (keys_of h.held) (writing_picked h w i touched x o p) s) (picked_alone o p)

    one_alone : (p : Option ℕ) → Tells (Alone (i ∷ [])) (run (writing_large h w i touched x p) s)
    one_alone None = none_alone h s (i ∷ []) reply.NoLarge touched refl
    one_alone (Some g) = small_alone (Some g)

    pub writing_alone : Tells (Alone (i ∷ [])) (run (writing h w i touched x) s)
    writing_alone = go (nat_lt x.size w.off) (nat_lt 1114112 (end_of w)) (nat_lt 65536 (end_of w) && x.large == 0)
      where
        go : (a b c : Bool) → Tells (Alone (i ∷ [])) (run (if a then refused reply.BadOffset touched else (if b then refused reply.TooBig touched
            else (if c then read_held h (writing_large h w i touched x (picked_large h.held)) else writing_small h w i touched x None))) s)
        go true b c = refuse_alone (i ∷ []) reply.BadOffset touched refl
        go false true c = refuse_alone (i ∷ []) reply.TooBig touched refl
        go false false true = rw (run-segments (keys_of h.held) (writing_large h w i touched x (picked_large h.held)) s) (one_alone (picked_large h.held))
        go false false false = small_alone None

  module _ (next : ℕ → List ℕ → StoredNode → Ask Plan) (each : (i : ℕ) (touched : List ℕ) (x : StoredNode) → Tells (Alone (i ∷ [])) (run (next i touched x) s)) where
    file_alone : (t : Target) → Tells (Alone (target_of (is_kind 1) t)) (run (at_file next t) s)
    file_alone t = go (t.kind == 2) (t.kind == 1)
      where
        touched : List ℕ
        touched = t.dirs ++ t.inode ∷ []

        by_kind : (x : StoredNode) (c : Bool) → Tells (Alone (t.inode ∷ [])) (run (if c then next t.inode touched x else refused reply.Inval touched) s)
        by_kind x true = each t.inode touched x
        by_kind x false = refuse_alone (t.inode ∷ []) reply.Inval touched refl

        read : (o : Option StoredNode) → Tells (Alone (t.inode ∷ [])) (run (with_file (next t.inode touched) touched o) s)
        read None = refuse_alone (t.inode ∷ []) reply.NoEnt touched refl
        read (Some x) = by_kind x (x.kind == 1)

        go : (a b : Bool) → Tells (Alone (if b then t.inode ∷ [] else [])) (run (if a then refused reply.IsDir t.dirs else (if b then ReadInode t.inode (with_file (next t.inode touched) touched) else refused reply.Inval t.dirs)) s)
        go true b = refuse_alone (if b then t.inode ∷ [] else []) reply.IsDir t.dirs refl
        go false true = read (s.inode t.inode)
        go false false = refuse_alone [] reply.Inval t.dirs refl

    spot_alone : (v : Spot) (dirs : List ℕ) → Tells (Alone (spot_target (is_kind 1) v)) (run (at_spot v dirs refused (at_file next)) s)
    spot_alone AtRoot dirs = file_alone (record { inode = 0; kind = 2; dirs = dirs })
    spot_alone (AtName i x name q e) dirs = file_alone (record { inode = e.inode; kind = e.kind; dirs = dirs })
    spot_alone (AtGap i x name) dirs = empty_alone (refuse reply.NoEnt dirs)
    spot_alone (Lost r) dirs = empty_alone (refuse r dirs)

    pub path_alone : (path : List (List ℕ)) → Tells (Alone (spot_target (is_kind 1) (run (walk path) s).spot)) (run (plan_of_file path next) s)
    path_alone path = let w = run (walk path) s in rw (run-bind (walk path) (λ w. at_target w refused (at_file next)) s) (spot_alone w.spot w.dirs)
