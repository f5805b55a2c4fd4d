-- Plans of looks, of cuts and of file bytes ask for inodes, for the eight parts of small blocks, for segments, and for parts of large blocks.
use Rattle.std.proofs.Common.{ℕ, zero, suc, ◌<◌, ◌+◌, ◌-◌, ◌*◌, ◌/◌, ◌%◌, ◌==◌, ◌&&◌, Bool, true, false, nat_lt, min, max, if◌then◌else◌, Option, Some, None, List, [], ◌∷◌, ◌++◌, map, take, drop, arith}
use Rattle.std.specs.List.{Contains}
use Rattle.std.specs.Map.{keys_of}
use Rattle.frang_base.specs.declared.reply.Reply.{Reply}
use Rattle.frang_base.specs.declared.reply.Reply.TheVariants as reply
use Rattle.tree_definitions.specs.Numbers.{below}
use Rattle.tree_definitions.specs.Tree.{small_blocks_of}
use Rattle.disk_definitions.specs.Store.{StoredNode, StoredEntry}
use Rattle.disk_definitions.specs.Edits.{Edit}
use Rattle.disk_definitions.specs.Picks.{picked_many, picked_large}
use Rattle.disk_definitions.specs.Ask.{Sector, InodeAt, DirectoryAt, SegmentAt, BytesAt, LargeAt, Ask, Got, ReadInode, ReadBytes, ReadLarge}
use Rattle.disk_definitions.specs.Walks.{Spot, Target, walk, at_spot, at_target}
use Rattle.disk_definitions.specs.Walks.Spot.{AtRoot, AtName, AtGap, Lost}
use Rattle.disk_definitions.specs.Plans.{Hand, Plan, refused, read_held}
use Rattle.disk_definitions.specs.Plans.Plan.{Finishes}
use Rattle.disk_definitions.specs.NamePlans.{finish_over}
use Rattle.disk_definitions.specs.FilePlans.{Writing, end_of, keeps_bytes, mixed, read_sector, set_sector, write_sector, write_sectors, sectors_met, resized, written_by, writing_in, writing_picked, writing_small, writing_large, writing, cut_segments, cut_by, cutting, read_sectors, showing, at_file, with_file, plan_of_file}
use Rattle.disk_definitions.specs.LookPlans.{plan_of_node, with_inode, at_inode, described, entries_of, read_entries, sorted_names, listing, plan_described, plan_listed, plan_target, timed, plan_timed}
use Rattle.line_histories.proofs.Asking.{AsksOnly, asks_bind}
use Rattle.line_histories.proofs.AskedNames.{walk_asks, over_asks, held_asks}

module _ (P : Sector → Type 0) (inode : (i : ℕ) → P (InodeAt i)) (directory : (k part : ℕ) → part < 8 → P (DirectoryAt k part)) where
  -- ---- the node that a path names

  spot_asks : (next : Target → Ask Plan) → ((t : Target) → AsksOnly P (next t)) → (v : Spot) (dirs : List ℕ) → AsksOnly P (at_spot v dirs refused next)
  spot_asks next each AtRoot dirs = each (record { inode = 0; kind = 2; dirs = dirs })
  spot_asks next each (AtName i x name q e) dirs = each (record { inode = e.inode; kind = e.kind; dirs = dirs })
  spot_asks next each (AtGap i x name) dirs = tt
  spot_asks next each (Lost r) dirs = tt

  node_asks : (next : Target → Ask Plan) → ((t : Target) → AsksOnly P (next t)) → (path : List (List ℕ)) → AsksOnly P (plan_of_node path next)
  node_asks next each path = asks_bind P (walk path) (λ w. at_target w refused next) (walk_asks P inode directory path) (λ w. spot_asks next each w.spot w.dirs)

  with_inode_asks : (next : List ℕ → StoredNode → Ask Plan) → ((touched : List ℕ) (x : StoredNode) → AsksOnly P (next touched x)) → (touched : List ℕ) (o : Option StoredNode) → AsksOnly P (with_inode next touched o)
  with_inode_asks next each touched None = tt
  with_inode_asks next each touched (Some x) = each touched x

  at_inode_asks : (next : List ℕ → StoredNode → Ask Plan) → ((touched : List ℕ) (x : StoredNode) → AsksOnly P (next touched x)) → (t : Target) → AsksOnly P (at_inode next t)
  at_inode_asks next each t = (inode t.inode, with_inode_asks next each (t.dirs ++ t.inode ∷ []))

  kind_asks : (next : Target → Ask Plan) (want : ℕ) (r : Reply) → ((t : Target) → AsksOnly P (next t)) → (t : Target) → AsksOnly P (if t.kind == want then next t else refused r t.dirs)
  kind_asks next want r each t = go (t.kind == want)
    where
      go : (b : Bool) → AsksOnly P (if b then next t else refused r t.dirs)
      go true = each t
      go false = tt

  pub described_asks : (path : List (List ℕ)) → AsksOnly P (plan_described path)
  described_asks path = node_asks (at_inode (λ touched x. refused (described x) touched)) (at_inode_asks (λ touched x. refused (described x) touched) (λ touched x. tt)) path

  pub timed_asks : (path : List (List ℕ)) → AsksOnly P (plan_timed path)
  timed_asks path = node_asks (at_inode (λ touched x. refused (timed x) touched)) (at_inode_asks (λ touched x. refused (timed x) touched) (λ touched x. tt)) path

  entries_asks : (small : ℕ → ℕ) (n j : ℕ) (next : List StoredEntry → Ask Plan) → ((entries : List StoredEntry) → AsksOnly P (next entries)) → AsksOnly P (read_entries small j n next)
  entries_asks small zero j next each = each []
  entries_asks small (suc n) j next each =
      (directory (small (j / 8)) (j % 8) (omega arith), λ slots. entries_asks small n (j + 1) (λ rest. next (entries_of slots ++ rest)) (λ rest. each (entries_of slots ++ rest)))

  listing_asks : (touched : List ℕ) (x : StoredNode) → AsksOnly P (listing touched x)
  listing_asks touched x = entries_asks x.small (8 * x.blocks) 0 (λ entries. refused (reply.Names (sorted_names entries)) touched) (λ entries. tt)

  pub listed_asks : (path : List (List ℕ)) → AsksOnly P (plan_listed path)
  listed_asks path = node_asks (λ t. if t.kind == 2 then at_inode listing t else refused reply.NotDir t.dirs) (kind_asks (at_inode listing) 2 reply.NotDir (at_inode_asks listing listing_asks)) path

  pub target_asks : (path : List (List ℕ)) → AsksOnly P (plan_target path)
  target_asks path =
      node_asks (λ t. if t.kind == 3 then at_inode (λ touched x. refused (reply.Target x.target) touched) t else refused reply.Inval t.dirs)
      (kind_asks (at_inode (λ touched x. refused (reply.Target x.target) touched)) 3 reply.Inval (at_inode_asks (λ touched x. refused (reply.Target x.target) touched) (λ touched x. tt))) path

  -- ---- the file that a path names

  with_file_asks : (next : StoredNode → Ask Plan) → ((x : StoredNode) → AsksOnly P (next x)) → (touched : List ℕ) (o : Option StoredNode) → AsksOnly P (with_file next touched o)
  with_file_asks next each touched None = tt
  with_file_asks next each touched (Some x) = go (x.kind == 1)
    where
      go : (b : Bool) → AsksOnly P (if b then next x else refused reply.Inval touched)
      go true = each x
      go false = tt

  at_file_asks : (next : ℕ → List ℕ → StoredNode → Ask Plan) → ((i : ℕ) (touched : List ℕ) (x : StoredNode) → AsksOnly P (next i touched x)) → (t : Target) → AsksOnly P (at_file next t)
  at_file_asks next each t = go (t.kind == 2) (t.kind == 1)
    where
      touched : List ℕ
      touched = t.dirs ++ t.inode ∷ []

      go : (a b : Bool) → AsksOnly P (if a then refused reply.IsDir t.dirs else (if b then ReadInode t.inode (with_file (next t.inode touched) touched) else refused reply.Inval t.dirs))
      go true b = tt
      go false true = (inode t.inode, with_file_asks (next t.inode touched) (each t.inode touched) touched)
      go false false = tt

  pub file_asks : (next : ℕ → List ℕ → StoredNode → Ask Plan) → ((i : ℕ) (touched : List ℕ) (x : StoredNode) → AsksOnly P (next i touched x)) → (path : List (List ℕ)) → AsksOnly P (plan_of_file path next)
  file_asks next each path = node_asks (at_file next) (at_file_asks next each) path

  pub cutting_asks : ((k : ℕ) → P (SegmentAt k)) → (when len i : ℕ) (touched : List ℕ) (x : StoredNode) → AsksOnly P (cutting when len i touched x)
  cutting_asks segment when len i touched x = go (nat_lt x.size len)
    where
      go : (b : Bool) → AsksOnly P (if b then refused reply.BadOffset touched else finish_over (cut_segments x len) (cut_by when i touched x len))
      go true = tt
      go false = over_asks P inode directory (cut_segments x len) (λ k c. segment k) (cut_by when i touched x len)

  -- ---- bytes

  module _ (bytes : (k part : ℕ) → part < 8 → P (BytesAt k part)) (large : (g part : ℕ) → P (LargeAt g part)) where
    sector_asks : {A : Type 0} (x : StoredNode) (t : ℕ) (next : (ℕ → ℕ) → Ask A) → ((said : ℕ → ℕ) → AsksOnly P (next said)) → AsksOnly P (read_sector x t next)
    sector_asks {A} x t next each = go (nat_lt t 128)
      where
        go : (b : Bool) → AsksOnly P (if b then ReadBytes (x.small (t / 8)) (t % 8) next else ReadLarge (x.large - 1) (t - 128) next)
        go true = (bytes (x.small (t / 8)) (t % 8) (omega arith), each)
        go false = (large (x.large - 1) (t - 128), each)

    sectors_asks : (x : StoredNode) (n j : ℕ) (next : List ℕ → Ask Plan) → ((said : List ℕ) → AsksOnly P (next said)) → AsksOnly P (read_sectors x j n next)
    sectors_asks x zero j next each = each []
    sectors_asks x (suc n) j next each =
        sector_asks x j (λ said. read_sectors x (j + 1) n (λ more. next (map said (below 512) ++ more)))
        (λ said. sectors_asks x n (j + 1) (λ more. next (map said (below 512) ++ more)) (λ more. each (map said (below 512) ++ more)))

    pub showing_asks : (off len i : ℕ) (touched : List ℕ) (x : StoredNode) → AsksOnly P (showing off len i touched x)
    showing_asks off len i touched x = go (nat_lt x.size off)
      where
        shown : ℕ
        shown = min len (x.size - off)

        next : List ℕ → Ask Plan
        next said = refused (reply.Shown (take shown (drop (off % 512) said))) touched

        go : (b : Bool) → AsksOnly P (if b then refused reply.BadOffset touched else read_sectors x (off / 512) (sectors_met off shown) next)
        go true = tt
        go false = sectors_asks x (sectors_met off shown) (off / 512) next (λ said. tt)

    write_asks : (w : Writing) (x y : StoredNode) (t : ℕ) (next : List Edit → Ask Plan) → ((es : List Edit) → AsksOnly P (next es)) → AsksOnly P (write_sector w x y t next)
    write_asks w x y t next each = go (keeps_bytes w x.size t)
      where
        go : (b : Bool) → AsksOnly P (if b then read_sector x t (λ old. next (set_sector y t (mixed w t old) ∷ [])) else next (set_sector y t (mixed w t (λ r. 0)) ∷ []))
        go true = sector_asks x t (λ old. next (set_sector y t (mixed w t old) ∷ [])) (λ old. each (set_sector y t (mixed w t old) ∷ []))
        go false = each (set_sector y t (mixed w t (λ r. 0)) ∷ [])

    writes_asks : (w : Writing) (x y : StoredNode) (n t : ℕ) (next : List Edit → Ask Plan) → ((es : List Edit) → AsksOnly P (next es)) → AsksOnly P (write_sectors w x y t n next)
    writes_asks w x y zero t next each = each []
    writes_asks w x y (suc n) t next each =
        write_asks w x y t (λ one. write_sectors w x y (t + 1) n (λ more. next (one ++ more))) (λ one. writes_asks w x y n (t + 1) (λ more. next (one ++ more)) (λ more. each (one ++ more)))

    module _ (h : Hand) (held : (k : ℕ) → Contains (keys_of h.held) k → P (SegmentAt k)) (w : Writing) (i : ℕ) (touched : List ℕ) (x : StoredNode) where
      in_asks : (picks : List ℕ) (o : Option ℕ) → AsksOnly P (writing_in w i touched x picks o)
      in_asks picks o =
          let y = resized x w.when (max x.size (end_of w)) picks o in
          writes_asks w x y (sectors_met w.off w.len) (w.off / 512) (λ es. Got (Finishes (written_by i y picks o touched es))) (λ es. tt)

      picked_asks : (o : Option ℕ) (picks : Option (List ℕ)) → AsksOnly P (writing_picked h w i touched x o picks)
      picked_asks o None = tt
      picked_asks o (Some picks) = in_asks picks o

      small_asks : (o : Option ℕ) → AsksOnly P (writing_small h w i touched x o)
      small_asks o = go (more == 0)
        where
          more : ℕ
          more = small_blocks_of (max x.size (end_of w)) - x.blocks

          p : Ask Plan
          p = writing_picked h w i touched x o (picked_many h.held more)

          go : (b : Bool) → AsksOnly P (if b then writing_in w i touched x [] o else read_held h p)
          go true = in_asks [] o
          go false = held_asks P inode directory h held p (picked_asks o (picked_many h.held more))

      large_asks : (o : Option ℕ) → AsksOnly P (writing_large h w i touched x o)
      large_asks None = tt
      large_asks (Some g) = small_asks (Some g)

      pub writing_asks : AsksOnly P (writing h w i touched x)
      writing_asks = go (nat_lt x.size w.off) (nat_lt 1114112 (end_of w)) (nat_lt 65536 (end_of w) && x.large == 0)
        where
          p : Ask Plan
          p = writing_large h w i touched x (picked_large h.held)

          go : (a b c : Bool) → AsksOnly P (if a then refused reply.BadOffset touched else (if b then refused reply.TooBig touched else (if c then read_held h p else writing_small h w i touched x None)))
          go true b c = tt
          go false true c = tt
          go false false true = held_asks P inode directory h held p (large_asks (picked_large h.held))
          go false false false = small_asks None
