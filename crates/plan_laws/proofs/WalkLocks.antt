-- The directories in which a walk looks up names are held by the plan of looks and of file bytes.
use Rattle.std.proofs.Common.{ℕ, ◌-◌, ◌*◌, ◌/◌, ◌%◌, ◌==◌, ◌&&◌, Bool, true, false, nat_lt, max, min, if◌then◌else◌, Option, Some, None, List, [], ◌∷◌, ◌++◌, length, map, take, drop, slice_index, sym, subst}
use Rattle.std.proofs.lemmas.List.Elements.{Contains-append_left}
use Rattle.std.specs.List.{Contains}
use Rattle.std.specs.Map.{keys_of}
use Rattle.frang_base.specs.declared.lock.LockId.TheVariants as lock
use Rattle.frang_base.specs.declared.lock.Mode.TheVariants.{Shared}
use Rattle.frang_base.specs.declared.op.Op.TheVariants as op
use Rattle.frang_base.specs.declared.reply.Reply.{Reply}
use Rattle.frang_base.specs.declared.reply.Reply.TheVariants as reply
use Rattle.tree_definitions.specs.Tree.{small_blocks_of}
use Rattle.disk_definitions.specs.Store.{Store, StoredNode}
use Rattle.disk_definitions.specs.Picks.{picked_many, picked_large}
use Rattle.disk_definitions.specs.Ask.{Ask, Got, ReadInode, run}
use Rattle.disk_definitions.specs.Walks.{Spot, Target, walk, at_spot, at_target}
use Rattle.disk_definitions.specs.Walks.Spot.{AtRoot, AtName, AtGap, Lost}
use Rattle.disk_definitions.specs.Plans.{Hand, Lock, Plan, refuse, refused, none_left, read_held, shared_nodes, sole_nodes, sole_segments}
use Rattle.disk_definitions.specs.Plans.Plan.{Lacks, Finishes}
use Rattle.disk_definitions.specs.NamePlans.{finish_over}
use Rattle.disk_definitions.specs.FilePlans.{Writing, end_of, sectors_met, directory_blocks, resized, large_segment, written_by, writing_in, writing_picked, writing_small, writing_large, writing, cut_segments, cut_by, cutting, read_sectors, showing, at_file, with_file}
use Rattle.disk_definitions.specs.LookPlans.{plan_of_node, with_inode, at_inode, described, timed, listing, sorted_names}
use Rattle.plan_laws.proofs.Asking.{run-bind, run-segments}
use Rattle.plan_laws.specs.Locks.{AreHeld, HoldsItsWalk}
use Rattle.plan_laws.proofs.Bytes.{values, stored_byte, run-sectors}
use Rattle.plan_laws.proofs.Gathering.{gathered, run-entries}
use Rattle.plan_laws.proofs.Sectors.{run-writes}
use Rattle.plan_laws.proofs.Covering.{map_has}

shared_has : (is : List ℕ) (i : ℕ) → Contains is i → Contains (shared_nodes is) (lock.Node i, Shared)
shared_has is i c = map_has (λ i. (lock.Node i, Shared)) is i c

module _ (h : Hand) (s : Store) (dirs : List ℕ) where
  -- the directories are among those that were touched
  abbrev Has : List ℕ → Type 0
  Has touched = (i : ℕ) → Contains dirs i → Contains touched i

  refuse_held : (r : Reply) (touched : List ℕ) → Has touched → AreHeld dirs (refuse r touched)
  refuse_held r touched has i c = shared_has touched i (has i c)

  none_held : (r : Reply) (touched : List ℕ) → Has touched → AreHeld dirs (run (none_left h r touched) s)
  none_held r touched has = go h.all
    where
      go : (b : Bool) → AreHeld dirs (run (Got (if b then Finishes (record { reply = r; edits = []; locks = shared_nodes touched ++ sole_segments (keys_of h.held) }) else Lacks)) s)
      go true = λ i c. Contains-append_left (shared_nodes touched) (sole_segments (keys_of h.held)) (lock.Node i, Shared) (shared_has touched i (has i c))
      go false = tt

  first_of_three : (touched : List ℕ) (b c : List Lock) → Has touched → (i : ℕ) → Contains dirs i → Contains (shared_nodes touched ++ b ++ c) (lock.Node i, Shared)
  first_of_three touched b c has i d =
      Contains-append_left (shared_nodes touched ++ b) c (lock.Node i, Shared) (Contains-append_left (shared_nodes touched) b (lock.Node i, Shared) (shared_has touched i (has i d)))

  cutting_held : (when len i : ℕ) (touched : List ℕ) (x : StoredNode) → Has touched → AreHeld dirs (run (cutting when len i touched x) s)
  cutting_held when len i touched x has = go (nat_lt x.size len)
    where
      go : (b : Bool) → AreHeld dirs (run (if b then refused reply.BadOffset touched else finish_over (cut_segments x len) (cut_by when i touched x len)) s)
      go true = refuse_held reply.BadOffset touched has
      go false = rw (run-segments (cut_segments x len) (Got (Finishes (cut_by when i touched x len))) s) (first_of_three touched (sole_nodes (i ∷ [])) (sole_segments (cut_segments x len)) has)

  module _ (w : Writing) (i : ℕ) (touched : List ℕ) (x : StoredNode) (has : Has touched) where
    in_held : (picks : List ℕ) (o : Option ℕ) → AreHeld dirs (run (writing_in w i touched x picks o) s)
    in_held picks o =
        let y = resized x w.when (max x.size (end_of w)) picks o in
        subst (AreHeld dirs) (sym (run-writes w x y s (w.off / 512) (sectors_met w.off w.len) (λ bytes. Got (Finishes (written_by i y picks o touched bytes)))))
        (first_of_three touched (sole_nodes (i ∷ [])) (sole_segments (map (λ k. k / 1024) picks ++ large_segment o)) has)

    picked_held : (o : Option ℕ) (p : Option (List ℕ)) → AreHeld dirs (run (writing_picked h w i touched x o p) s)
    picked_held o None = none_held (reply.NoBlock (directory_blocks h.held)) touched has
    picked_held o (Some picks) = in_held picks o

    small_held : (o : Option ℕ) → AreHeld dirs (run (writing_small h w i touched x o) s)
    small_held o = go (more == 0)
      where
        more : ℕ
        more = small_blocks_of (max x.size (end_of w)) - x.blocks

        go : (b : Bool) → AreHeld dirs (run (if b then writing_in w i touched x [] o else read_held h (writing_picked h w i touched x o (picked_many h.held more))) s)
        go true = in_held [] o
        go false = rw (run-segments (keys_of h.held) (writing_picked h w i touched x o (picked_many h.held more)) s) (picked_held o (picked_many h.held more))

    one_held : (p : Option ℕ) → AreHeld dirs (run (writing_large h w i touched x p) s)
    one_held None = none_held reply.NoLarge touched has
    one_held (Some g) = small_held (Some g)

    writing_held : AreHeld dirs (run (writing h w i touched x) s)
    writing_held = go (nat_lt x.size w.off) (nat_lt 1114112 (end_of w)) (nat_lt 65536 (end_of w) && x.large == 0)
      where
        go : (a b c : Bool) → AreHeld dirs (run (if a then refused reply.BadOffset touched else (if b then refused reply.TooBig touched
            else (if c then read_held h (writing_large h w i touched x (picked_large h.held)) else writing_small h w i touched x None))) s)
        go true b c = refuse_held reply.BadOffset touched has
        go false true c = refuse_held reply.TooBig touched has
        go false false true = rw (run-segments (keys_of h.held) (writing_large h w i touched x (picked_large h.held)) s) (one_held (picked_large h.held))
        go false false false = small_held None

  showing_held : (off len i : ℕ) (touched : List ℕ) (x : StoredNode) → Has touched → AreHeld dirs (run (showing off len i touched x) s)
  showing_held off len i touched x has = go (nat_lt x.size off)
    where
      go : (b : Bool) → AreHeld dirs (run (if b then refused reply.BadOffset touched
          else (let k = min len (x.size - off) in read_sectors x (off / 512) (sectors_met off k) (λ bytes. refused (reply.Shown (take k (drop (off % 512) bytes))) touched))) s)
      go true = refuse_held reply.BadOffset touched has
      go false =
          let k = min len (x.size - off) in
          subst (AreHeld dirs) (sym (run-sectors s x (off / 512) (sectors_met off k) (λ bytes. refused (reply.Shown (take k (drop (off % 512) bytes))) touched)))
          (refuse_held (reply.Shown (take k (drop (off % 512) (values (stored_byte s x) (512 * (off / 512)) (512 * sectors_met off k))))) touched has)

  listing_held : (touched : List ℕ) (x : StoredNode) → Has touched → AreHeld dirs (run (listing touched x) s)
  listing_held touched x has =
      subst (AreHeld dirs) (sym (run-entries s x.small 0 (8 * x.blocks) (λ entries. refused (reply.Names (sorted_names entries)) touched))) (refuse_held (reply.Names (sorted_names (gathered s x.small 0 (8 * x.blocks)))) touched has)

  -- the node is touched behind the directories
  behind : (i : ℕ) → Has (dirs ++ i ∷ [])
  behind i j c = Contains-append_left dirs (i ∷ []) j c

  own : Has dirs
  own i c = c

  abbrev at : ℕ → ℕ → Target
  at i kind = record { inode = i; kind = kind; dirs = dirs }

  file_held : (next : ℕ → List ℕ → StoredNode → Ask Plan) → ((i : ℕ) (touched : List ℕ) (x : StoredNode) → Has touched → AreHeld dirs (run (next i touched x) s)) → (i kind : ℕ) → AreHeld dirs (run (at_file next (at i kind)) s)
  file_held next each i kind = go (kind == 2) (kind == 1)
    where
      by_kind : (x : StoredNode) (c : Bool) → AreHeld dirs (run (if c then next i (dirs ++ i ∷ []) x else refused reply.Inval (dirs ++ i ∷ [])) s)
      by_kind x true = each i (dirs ++ i ∷ []) x (behind i)
      by_kind x false = refuse_held reply.Inval (dirs ++ i ∷ []) (behind i)

      read : (o : Option StoredNode) → AreHeld dirs (run (with_file (next i (dirs ++ i ∷ [])) (dirs ++ i ∷ []) o) s)
      read None = refuse_held reply.NoEnt (dirs ++ i ∷ []) (behind i)
      read (Some x) = by_kind x (x.kind == 1)

      go : (a b : Bool) → AreHeld dirs (run (if a then refused reply.IsDir dirs else (if b then ReadInode i (with_file (next i (dirs ++ i ∷ [])) (dirs ++ i ∷ [])) else refused reply.Inval dirs)) s)
      go true b = refuse_held reply.IsDir dirs own
      go false true = read (s.inode i)
      go false false = refuse_held reply.Inval dirs own

  inode_held : (next : List ℕ → StoredNode → Ask Plan) → ((touched : List ℕ) (x : StoredNode) → Has touched → AreHeld dirs (run (next touched x) s)) → (i kind : ℕ) → AreHeld dirs (run (at_inode next (at i kind)) s)
  inode_held next each i kind = go (s.inode i)
    where
      go : (o : Option StoredNode) → AreHeld dirs (run (with_inode next (dirs ++ i ∷ []) o) s)
      go None = refuse_held reply.NoEnt (dirs ++ i ∷ []) (behind i)
      go (Some x) = each (dirs ++ i ∷ []) x (behind i)

  by_kind : (next : Target → Ask Plan) (want : ℕ) (r : Reply) → ((i kind : ℕ) → AreHeld dirs (run (next (at i kind)) s)) → (i kind : ℕ) → AreHeld dirs (run (if kind == want then next (at i kind) else refused r dirs) s)
  by_kind next want r each i kind = go (kind == want)
    where
      go : (a : Bool) → AreHeld dirs (run (if a then next (at i kind) else refused r dirs) s)
      go true = each i kind
      go false = refuse_held r dirs own

  spot_held : (next : Target → Ask Plan) → ((i kind : ℕ) → AreHeld dirs (run (next (at i kind)) s)) → (v : Spot) → AreHeld dirs (run (at_spot v dirs refused next) s)
  spot_held next each AtRoot = each 0 2
  spot_held next each (AtName i x name q e) = each e.inode e.kind
  spot_held next each (AtGap i x name) = refuse_held reply.NoEnt dirs own
  spot_held next each (Lost r) = refuse_held r dirs own

node_held : (h : Hand) (s : Store) (path : List (List ℕ)) (next : Target → Ask Plan) → ((i kind : ℕ) → AreHeld (run (walk path) s).dirs (run (next (record { inode = i; kind = kind; dirs = (run (walk path) s).dirs })) s)) → AreHeld (run (walk path) s).dirs (run (plan_of_node path next) s)
node_held h s path next each =
    subst (AreHeld (run (walk path) s).dirs) (sym (run-bind (walk path) (λ w. at_target w refused next) s)) (spot_held h s (run (walk path) s).dirs next each (run (walk path) s).spot)

pub stat_held : (path : List (List ℕ)) → HoldsItsWalk path (op.Stat path)
stat_held path h s birth when = node_held h s path (at_inode (λ touched x. refused (described x) touched)) (inode_held h s (run (walk path) s).dirs (λ touched x. refused (described x) touched) (λ touched x. refuse_held h s (run (walk path) s).dirs (described x) touched))

pub time_held : (path : List (List ℕ)) → HoldsItsWalk path (op.Time path)
time_held path h s birth when = node_held h s path (at_inode (λ touched x. refused (timed x) touched)) (inode_held h s (run (walk path) s).dirs (λ touched x. refused (timed x) touched) (λ touched x. refuse_held h s (run (walk path) s).dirs (timed x) touched))

pub list_held : (path : List (List ℕ)) → HoldsItsWalk path (op.List path)
list_held path h s birth when = node_held h s path (λ t. if t.kind == 2 then at_inode listing t else refused reply.NotDir t.dirs) (by_kind h s (run (walk path) s).dirs (at_inode listing) 2 reply.NotDir (inode_held h s (run (walk path) s).dirs listing (listing_held h s (run (walk path) s).dirs)))

pub readlink_held : (path : List (List ℕ)) → HoldsItsWalk path (op.Readlink path)
readlink_held path h s birth when =
    node_held h s path (λ t. if t.kind == 3 then at_inode (λ touched x. refused (reply.Target x.target) touched) t else refused reply.Inval t.dirs)
    (by_kind h s (run (walk path) s).dirs (at_inode (λ touched x. refused (reply.Target x.target) touched)) 3 reply.Inval
    (inode_held h s (run (walk path) s).dirs (λ touched x. refused (reply.Target x.target) touched) (λ touched x. refuse_held h s (run (walk path) s).dirs (reply.Target x.target) touched)))

pub reads_held : (path : List (List ℕ)) (off len : ℕ) → HoldsItsWalk path (op.Read path off len)
reads_held path off len h s birth when = node_held h s path (at_file (showing off len)) (file_held h s (run (walk path) s).dirs (showing off len) (showing_held h s (run (walk path) s).dirs off len))

pub truncate_held : (path : List (List ℕ)) (len : ℕ) → HoldsItsWalk path (op.Truncate path len)
truncate_held path len h s birth when = node_held h s path (at_file (cutting when len)) (file_held h s (run (walk path) s).dirs (cutting when len) (cutting_held h s (run (walk path) s).dirs when len))

pub write_held : (path : List (List ℕ)) (off : ℕ) (bytes : List ℕ) → HoldsItsWalk path (op.Write path off bytes)
write_held path off bytes h s birth when =
    let w : Writing = record { off = off; len = length bytes; when = when; byte = λ j. slice_index bytes (j - off) } in
    node_held h s path (at_file (writing h w)) (file_held h s (run (walk path) s).dirs (writing h w) (writing_held h s (run (walk path) s).dirs w))

pub fill_held : (path : List (List ℕ)) (off len byte : ℕ) → HoldsItsWalk path (op.Fill path off len byte)
fill_held path off len byte h s birth when =
    let w : Writing = record { off = off; len = len; when = when; byte = λ j. byte } in
    node_held h s path (at_file (writing h w)) (file_held h s (run (walk path) s).dirs (writing h w) (writing_held h s (run (walk path) s).dirs w))
