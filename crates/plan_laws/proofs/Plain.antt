-- Plans that take nothing of the disk, over whatever disk: they finish, and never for want of space.
use Rattle.std.proofs.Common.{ℕ, ◌≡◌, ◌-◌, ◌*◌, ◌/◌, ◌%◌, ◌==◌, ◌&&◌, not, Bool, true, false, nat_lt, min, if◌then◌else◌, Option, Some, None, List, [], ◌∷◌, ◌++◌, take, drop, refl, sym, subst}
use Rattle.frang_base.specs.declared.reply.Reply.{Reply}
use Rattle.frang_base.specs.declared.reply.Reply.TheVariants as reply
use Rattle.tree_definitions.specs.Apply.{time_of}
use Rattle.disk_definitions.specs.Store.{Store, StoredNode, StoredEntry}
use Rattle.disk_definitions.specs.Ask.{Ask, Got, ReadInode, run}
use Rattle.disk_definitions.specs.Walks.{Spot, Target, walk, at_spot, at_target}
use Rattle.disk_definitions.specs.Walks.Spot.{AtRoot, AtName, AtGap, Lost}
use Rattle.disk_definitions.specs.Plans.{Plan, refused, says_full}
use Rattle.disk_definitions.specs.Plans.Plan.{Finishes}
use Rattle.disk_definitions.specs.NamePlans.{Moving, fewer_segments, finish_over, removed_by, unlinking_node, unlinking, plan_unlinked, removing_node, removing, plan_dir_removed, moved_onto_by, replacing_node, moving_onto}
use Rattle.disk_definitions.specs.FilePlans.{sectors_met, cut_segments, cut_by, cutting, plan_truncated, read_sectors, showing, plan_read, at_file, with_file}
use Rattle.disk_definitions.specs.LookPlans.{plan_of_node, with_inode, at_inode, described, plan_described, listing, sorted_names, plan_listed, plan_target, timed, plan_timed}
use Rattle.plan_laws.proofs.Asking.{run-bind, run-segments}
use Rattle.plan_laws.proofs.Bytes.{run-sectors}
use Rattle.plan_laws.proofs.Gathering.{run-entries}
use Rattle.plan_laws.proofs.Covering.{IsFine, walk_fine}
use Rattle.plan_laws.proofs.Outcomes.{IsPlain}

module _ (s : Store) where
  -- ---- a name goes
  unlinking_plain : (dirs : List ℕ) (v : Spot) → IsFine v → IsPlain (run (unlinking dirs v) s)
  unlinking_plain dirs AtRoot f = refl
  unlinking_plain dirs (Lost r) f = f
  unlinking_plain dirs (AtGap i x name) f = refl
  unlinking_plain dirs (AtName i x name q e) f = go (e.kind == 2)
    where
      node : (o : Option StoredNode) → IsPlain (run (unlinking_node i x q e.inode dirs o) s)
      node None = refl
      node (Some y) = rw (run-segments (fewer_segments e.inode y) (Got (Finishes (removed_by i x q e.inode y dirs))) s) refl

      go : (b : Bool) → IsPlain (run (if b then refused reply.IsDir dirs else ReadInode e.inode (unlinking_node i x q e.inode dirs)) s)
      go true = refl
      go false = node (s.inode e.inode)

  pub unlink_plain : (path : List (List ℕ)) → IsPlain (run (plan_unlinked path) s)
  unlink_plain path = let w = run (walk path) s in rw (run-bind (walk path) (λ w. unlinking w.dirs w.spot) s) (unlinking_plain w.dirs w.spot (walk_fine s path))

  removing_plain : (dirs : List ℕ) (v : Spot) → IsFine v → IsPlain (run (removing dirs v) s)
  removing_plain dirs AtRoot f = refl
  removing_plain dirs (Lost r) f = f
  removing_plain dirs (AtGap i x name) f = refl
  removing_plain dirs (AtName i x name q e) f = go (e.kind == 2)
    where
      sized : (y : StoredNode) (b : Bool) → IsPlain (run (if b then refused reply.NotEmpty (dirs ++ e.inode ∷ []) else finish_over (fewer_segments e.inode y) (removed_by i x q e.inode y dirs)) s)
      sized y true = refl
      sized y false = rw (run-segments (fewer_segments e.inode y) (Got (Finishes (removed_by i x q e.inode y dirs))) s) refl

      node : (o : Option StoredNode) → IsPlain (run (removing_node i x q e.inode dirs o) s)
      node None = refl
      node (Some y) = sized y (nat_lt 0 y.size)

      go : (b : Bool) → IsPlain (run (if b then ReadInode e.inode (removing_node i x q e.inode dirs) else refused reply.NotDir dirs) s)
      go true = node (s.inode e.inode)
      go false = refl

  pub rmdir_plain : (path : List (List ℕ)) → IsPlain (run (plan_dir_removed path) s)
  rmdir_plain path = let w = run (walk path) s in rw (run-bind (walk path) (λ w. removing w.dirs w.spot) s) (removing_plain w.dirs w.spot (walk_fine s path))

  -- rename onto a name that is there
  module _ (m : Moving) (i : ℕ) (x : StoredNode) (name : List ℕ) (q : ℕ) (dirs : List ℕ) where
    replacing_plain : (j : ℕ) (o : Option StoredNode) → IsPlain (run (replacing_node m i x name q j dirs o) s)
    replacing_plain j None = refl
    replacing_plain j (Some y) = go (y.kind == 2 && nat_lt 0 y.size)
      where
        go : (b : Bool) → IsPlain (run (if b then refused reply.NotEmpty (dirs ++ j ∷ []) else finish_over (fewer_segments j y) (moved_onto_by m i x name q j y dirs)) s)
        go true = refl
        go false = rw (run-segments (fewer_segments j y) (Got (Finishes (moved_onto_by m i x name q j y dirs))) s) refl

    pub onto_plain : (e : StoredEntry) → IsPlain (run (moving_onto m i x name q e dirs) s)
    onto_plain e = go (e.inode == m.entry.inode) (m.entry.kind == 2 && not (e.kind == 2)) (e.kind == 2 && not (m.entry.kind == 2))
      where
        go : (a b c : Bool) → IsPlain (run (if a then refused reply.Ok dirs else (if b then refused reply.NotDir dirs else (if c then refused reply.IsDir dirs else ReadInode e.inode (replacing_node m i x name q e.inode dirs)))) s)
        go true b c = refl
        go false true c = refl
        go false false true = refl
        go false false false = replacing_plain e.inode (s.inode e.inode)

  -- ---- the node that a path names
  spot_plain : (next : Target → Ask Plan) → ((t : Target) → IsPlain (run (next t) s)) → (dirs : List ℕ) (v : Spot) → IsFine v → IsPlain (run (at_spot v dirs refused next) s)
  spot_plain next each dirs AtRoot f = each (record { inode = 0; kind = 2; dirs = dirs })
  spot_plain next each dirs (AtName i x name q e) f = each (record { inode = e.inode; kind = e.kind; dirs = dirs })
  spot_plain next each dirs (AtGap i x name) f = refl
  spot_plain next each dirs (Lost r) f = f

  node_plain : (next : Target → Ask Plan) → ((t : Target) → IsPlain (run (next t) s)) → (path : List (List ℕ)) → IsPlain (run (plan_of_node path next) s)
  node_plain next each path = let w = run (walk path) s in rw (run-bind (walk path) (λ w. at_target w refused next) s) (spot_plain next each w.dirs w.spot (walk_fine s path))

  inode_plain : (next : List ℕ → StoredNode → Ask Plan) → ((touched : List ℕ) (x : StoredNode) → IsPlain (run (next touched x) s)) → (t : Target) → IsPlain (run (at_inode next t) s)
  inode_plain next each t = go (s.inode t.inode)
    where
      go : (o : Option StoredNode) → IsPlain (run (with_inode next (t.dirs ++ t.inode ∷ []) o) s)
      go None = refl
      go (Some x) = each (t.dirs ++ t.inode ∷ []) x

  -- a node of one kind alone
  kind_plain : (next : Target → Ask Plan) → ((t : Target) → IsPlain (run (next t) s)) → (want : ℕ) (r : Reply) → says_full r ≡ false → (t : Target) → IsPlain (run (if t.kind == want then next t else refused r t.dirs) s)
  kind_plain next each want r plain t = go (t.kind == want)
    where
      go : (b : Bool) → IsPlain (run (if b then next t else refused r t.dirs) s)
      go true = each t
      go false = plain

  file_plain : (next : ℕ → List ℕ → StoredNode → Ask Plan) → ((i : ℕ) (touched : List ℕ) (x : StoredNode) → IsPlain (run (next i touched x) s)) → (t : Target) → IsPlain (run (at_file next t) s)
  file_plain next each t = go (t.kind == 2) (t.kind == 1)
    where
      by_kind : (x : StoredNode) (c : Bool) → IsPlain (run (if c then next t.inode (t.dirs ++ t.inode ∷ []) x else refused reply.Inval (t.dirs ++ t.inode ∷ [])) s)
      by_kind x true = each t.inode (t.dirs ++ t.inode ∷ []) x
      by_kind x false = refl

      read : (o : Option StoredNode) → IsPlain (run (with_file (next t.inode (t.dirs ++ t.inode ∷ [])) (t.dirs ++ t.inode ∷ []) o) s)
      read None = refl
      read (Some x) = by_kind x (x.kind == 1)

      go : (a b : Bool) → IsPlain (run (if a then refused reply.IsDir t.dirs else (if b then ReadInode t.inode (with_file (next t.inode (t.dirs ++ t.inode ∷ [])) (t.dirs ++ t.inode ∷ [])) else refused reply.Inval t.dirs)) s)
      go true b = refl
      go false true = read (s.inode t.inode)
      go false false = refl

  -- ---- looks
  described_plain : (x : StoredNode) → says_full (described x) ≡ false
  described_plain x = go (x.kind == 1) (x.kind == 2)
    where
      go : (a b : Bool) → says_full (if a then reply.File x.size x.links else (if b then reply.Dir x.size else reply.Symlink x.size)) ≡ false
      go true b = refl
      go false true = refl
      go false false = refl

  timed_plain : (x : StoredNode) → says_full (timed x) ≡ false
  timed_plain x = go (x.kind == 1) (x.kind == 2)
    where
      go : (a b : Bool) → says_full (if a then time_of x.when else (if b then reply.IsDir else reply.Inval)) ≡ false
      go true b = refl
      go false true = refl
      go false false = refl

  listing_plain : (touched : List ℕ) (x : StoredNode) → IsPlain (run (listing touched x) s)
  listing_plain touched x = subst IsPlain (sym (run-entries s x.small 0 (8 * x.blocks) (λ entries. refused (reply.Names (sorted_names entries)) touched))) refl

  pub stat_plain : (path : List (List ℕ)) → IsPlain (run (plan_described path) s)
  stat_plain path = node_plain (at_inode (λ touched x. refused (described x) touched)) (inode_plain (λ touched x. refused (described x) touched) (λ touched x. described_plain x)) path

  pub time_plain : (path : List (List ℕ)) → IsPlain (run (plan_timed path) s)
  time_plain path = node_plain (at_inode (λ touched x. refused (timed x) touched)) (inode_plain (λ touched x. refused (timed x) touched) (λ touched x. timed_plain x)) path

  pub list_plain : (path : List (List ℕ)) → IsPlain (run (plan_listed path) s)
  list_plain path = node_plain (λ t. if t.kind == 2 then at_inode listing t else refused reply.NotDir t.dirs) (kind_plain (at_inode listing) (inode_plain listing listing_plain) 2 reply.NotDir refl) path

  pub readlink_plain : (path : List (List ℕ)) → IsPlain (run (plan_target path) s)
  readlink_plain path =
      node_plain (λ t. if t.kind == 3 then at_inode (λ touched x. refused (reply.Target x.target) touched) t else refused reply.Inval t.dirs)
      (kind_plain (at_inode (λ touched x. refused (reply.Target x.target) touched)) (inode_plain (λ touched x. refused (reply.Target x.target) touched) (λ touched x. refl)) 3 reply.Inval refl) path

  -- ---- file bytes
  showing_plain : (off len i : ℕ) (touched : List ℕ) (x : StoredNode) → IsPlain (run (showing off len i touched x) s)
  showing_plain off len i touched x = go (nat_lt x.size off)
    where
      go : (b : Bool) → IsPlain (run (if b then refused reply.BadOffset touched
          else (let k = min len (x.size - off) in read_sectors x (off / 512) (sectors_met off k) (λ bytes. refused (reply.Shown (take k (drop (off % 512) bytes))) touched))) s)
      go true = refl
      go false = let k = min len (x.size - off) in subst IsPlain (sym (run-sectors s x (off / 512) (sectors_met off k) (λ bytes. refused (reply.Shown (take k (drop (off % 512) bytes))) touched))) refl

  cutting_plain : (when len i : ℕ) (touched : List ℕ) (x : StoredNode) → IsPlain (run (cutting when len i touched x) s)
  cutting_plain when len i touched x = go (nat_lt x.size len)
    where
      go : (b : Bool) → IsPlain (run (if b then refused reply.BadOffset touched else finish_over (cut_segments x len) (cut_by when i touched x len)) s)
      go true = refl
      go false = rw (run-segments (cut_segments x len) (Got (Finishes (cut_by when i touched x len))) s) refl

  pub read_plain : (path : List (List ℕ)) (off len : ℕ) → IsPlain (run (plan_read path off len) s)
  read_plain path off len = node_plain (at_file (showing off len)) (file_plain (showing off len) (showing_plain off len)) path

  pub truncate_plain : (when : ℕ) (path : List (List ℕ)) (len : ℕ) → IsPlain (run (plan_truncated when path len) s)
  truncate_plain when path len = node_plain (at_file (cutting when len)) (file_plain (cutting when len) (cutting_plain when len)) path
