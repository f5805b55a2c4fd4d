-- What a walk and a search have looked at where they lead, over any disk; and that picks are of held segments.
use Rattle.std.proofs.Common.{ℕ, zero, suc, ◌≡◌, ◌<◌, ◌+◌, ◌*◌, ◌/◌, ◌%◌, ◌==◌, Bool, true, false, if◌then◌else◌, Option, Some, None, List, [], ◌∷◌, ◌++◌, nat_lt, slice_index_or, refl, ap, subst, arith, is_some}
use Rattle.std.specs.List.{Contains}
use Rattle.std.specs.Map.{keys_of}
use Rattle.frang_base.specs.declared.bitmap.Bitmap.{Bitmap}
use Rattle.frang_base.specs.declared.reply.Reply.TheVariants as reply
use Rattle.disk_definitions.specs.Bitmaps.{inode_bit}
use Rattle.disk_definitions.specs.Store.{Store, StoredNode, StoredEntry}
use Rattle.disk_definitions.specs.Least.{least}
use Rattle.disk_definitions.specs.Held.{Segments, bitmap_of, state_in}
use Rattle.disk_definitions.specs.Picks.{or_else, least_in_state, picked_inode, picked_large, picked_directory, picked_many}
use Rattle.disk_definitions.proofs.LeastLaws.{least_some}
use Rattle.disk_definitions.proofs.PickLaws.{an_inode, a_large_block, in_state, held_there}
use Rattle.disk_definitions.proofs.ManyLaws.{picks_the_least, is_held}
use Rattle.disk_definitions.specs.Ask.{Sector, InodeAt, DirectoryAt, SegmentAt, Ask, Got, ReadInode, seven, run, looks}
use Rattle.disk_definitions.specs.Walks.{Spot, Walked, Found, or_on, hit, search, is_named, is_vacant, spot_by, look_up, in_inode, onward, walk_from, walk}
use Rattle.disk_definitions.specs.Walks.Spot.{AtRoot, AtName, AtGap, Lost}
use Rattle.disk_definitions.specs.Plans.{Hand, Room, read_held, room_in, room_at, find_room}
use Rattle.disk_definitions.specs.Plans.Room.{Inside, InBlock, NoRoom}
use Rattle.plan_laws.proofs.Asking.{run-bind, run-segments}
use Rattle.plan_laws.proofs.Covering.{key_has}
use Rattle.plan_laws.proofs.Within.{Within, first_of, rest_of, left_of, right_of, segment_of}

-- ---- picks

pub inode_is_held : (held : Segments) (j : ℕ) → picked_inode held ≡ Some j → Contains (keys_of held) (j / 64)
inode_is_held held j e = let x = held_there (λ (x : Bitmap). inode_bit x (j % 64)) (bitmap_of held (j / 64)) false (an_inode held j e).1 in key_has held (j / 64) (ap is_some x.1)

pub large_is_held : (held : Segments) (g : ℕ) → picked_large held ≡ Some g → Contains (keys_of held) g
large_is_held held g e = let x = held_there (λ (x : Bitmap). x.large) (bitmap_of held g) false (a_large_block held g e).1 in key_has held g (ap is_some x.1)

pub block_is_held : (held : Segments) (k : ℕ) → picked_directory held ≡ Some k → Contains (keys_of held) (k / 1024)
block_is_held held k = go (least_in_state 2 (state_in held)) (least_in_state 0 (state_in held)) refl refl
  where
    of_state : (state b : ℕ) → least_in_state state (state_in held) ≡ Some b → Contains (keys_of held) (b / 1024)
    of_state state b e = key_has held (b / 1024) (is_held held b state (in_state held state b e).1)

    go : (a b : Option ℕ) → least_in_state 2 (state_in held) ≡ a → least_in_state 0 (state_in held) ≡ b → or_else a b ≡ Some k → Contains (keys_of held) (k / 1024)
    go (Some a) b p q e = let z : a ≡ k = cc in of_state 2 k (subst (λ z. least_in_state 2 (state_in held) ≡ Some z) z p)
    go None b p q e = let z : least_in_state 0 (state_in held) ≡ Some k = cc in of_state 0 k z

pub blocks_are_held : (held : Segments) (n : ℕ) (picks : List ℕ) → picked_many held n ≡ Some picks → (k : ℕ) → Contains picks k → Contains (keys_of held) (k / 1024)
blocks_are_held held n picks e k c =
    let r = picks_the_least held n picks e in
    let a : state_in held (slice_index_or picks c.0 k) ≡ Some 0 = (r.2 c.0 k c.1).1 in
    key_has held (k / 1024) (is_held held k 0 (subst (λ z. state_in held z ≡ Some 0) c.2 a))

-- ---- walks and rooms

module _ (all : List Sector) where
  -- the sector of the place that was found
  abbrev pub FoundLooked : (ℕ → ℕ) → Option Found → Type 0
  FoundLooked small None = Unit {0}
  FoundLooked small (Some found) = Contains all (DirectoryAt (small (found.0 / 56)) (found.0 % 56 / 7))

  -- the directory's inode, and the sector of the name
  abbrev pub SpotLooked : Spot → Type 0
  SpotLooked AtRoot = Unit {0}
  SpotLooked (AtName i x name q e) = Contains all (InodeAt i) × Contains all (DirectoryAt (x.small (q / 56)) (q % 56 / 7))
  SpotLooked (AtGap i x name) = Contains all (InodeAt i)
  SpotLooked (Lost r) = Unit {0}

  -- the sector of a free place, or the segment of a free block
  abbrev pub RoomLooked : StoredNode → Room → Type 0
  RoomLooked x (Inside q) = Contains all (DirectoryAt (x.small (q / 56)) (q % 56 / 7))
  RoomLooked x (InBlock k) = Contains all (SegmentAt (k / 1024))
  RoomLooked x NoRoom = Unit {0}

  place_looked : (small : ℕ → ℕ) (j r : ℕ) → r < 7 → Contains all (DirectoryAt (small (j / 8)) (j % 8)) → Contains all (DirectoryAt (small ((7 * j + r) / 56)) ((7 * j + r) % 56 / 7))
  place_looked small j r l c =
      let a : j / 8 ≡ (7 * j + r) / 56 = omega arith in
      let b : j % 8 ≡ (7 * j + r) % 56 / 7 = omega arith in
      subst (λ z. Contains all (DirectoryAt (small z) ((7 * j + r) % 56 / 7))) a (subst (λ z. Contains all (DirectoryAt (small (j / 8)) z)) b c)

  module _ (s : Store) where
    search_looked : (small : ℕ → ℕ) (test : Option StoredEntry → Bool) (n j : ℕ) → Within (looks (search small test j n) s) all → FoundLooked small (run (search small test j n) s)
    search_looked small test zero j w = tt
    search_looked small test (suc n) j w = go (search_looked small test n (j + 1)) (least (λ r. test (f r)) 7) refl w
      where
        f : ℕ → Option StoredEntry
        f = seven s.place (small (j / 8)) (j % 8)

        rest : Ask (Option Found)
        rest = search small test (j + 1) n

        go : (Within (looks rest s) all → FoundLooked small (run rest s)) → (o : Option ℕ) → least (λ r. test (f r)) 7 ≡ o →
            Within (DirectoryAt (small (j / 8)) (j % 8) ∷ looks (or_on (hit test j f o) rest) s) all → FoundLooked small (run (or_on (hit test j f o) rest) s)
        go more None e v = more (rest_of all (DirectoryAt (small (j / 8)) (j % 8)) (looks rest s) v)
        go more (Some r) e v = place_looked small j r (least_some (λ r. test (f r)) 7 r e).1 (first_of all (DirectoryAt (small (j / 8)) (j % 8)) [] v)

    spot_looked : (i : ℕ) (x : StoredNode) (name : List ℕ) (o : Option Found) → Contains all (InodeAt i) → FoundLooked x.small o → SpotLooked (spot_by i x name o)
    spot_looked i x name None c f = c
    spot_looked i x name (Some (q, None)) c f = c
    spot_looked i x name (Some (q, Some e)) c f = (c, f)

    inode_looked : (dirs : List ℕ) (i : ℕ) (name : List ℕ) (o : Option StoredNode) → Contains all (InodeAt i) → Within (looks (in_inode dirs i name o) s) all → SpotLooked (run (in_inode dirs i name o) s).spot
    inode_looked dirs i name None c w = tt
    inode_looked dirs i name (Some x) c w = go (x.kind == 2) w
      where
        go : (b : Bool) → Within (looks (if b then look_up dirs i x name else Got (record { spot = Lost reply.NotDir; dirs = dirs })) s) all → SpotLooked (run (if b then look_up dirs i x name else Got (record { spot = Lost reply.NotDir; dirs = dirs })) s).spot
        go false w = tt
        go true w =
            let p = search x.small (is_named name) 0 (8 * x.blocks) in
            let next : Option Found → Ask Walked = λ found. Got (record { spot = spot_by i x name found; dirs = dirs ++ i ∷ [] }) in
            rw (run-bind {B = Walked} p next s) (spot_looked i x name (run p s) c (search_looked x.small (is_named name) (8 * x.blocks) 0 (left_of all p next s w)))

    onward_looked : (next : List ℕ → ℕ → Ask Walked) → ((more : List ℕ) (j : ℕ) → Within (looks (next more j) s) all → SpotLooked (run (next more j) s).spot) → (dirs : List ℕ) (v : Spot) →
        Within (looks (onward next dirs v) s) all → SpotLooked (run (onward next dirs v) s).spot
    onward_looked next each dirs AtRoot w = each dirs 0 w
    onward_looked next each dirs (AtGap i x name) w = tt
    onward_looked next each dirs (Lost r) w = tt
    onward_looked next each dirs (AtName i x name q e) w = go (e.kind == 2) w
      where
        go : (b : Bool) → Within (looks (if b then next dirs e.inode else Got (record { spot = Lost reply.NotDir; dirs = dirs })) s) all → SpotLooked (run (if b then next dirs e.inode else Got (record { spot = Lost reply.NotDir; dirs = dirs })) s).spot
        go true w = each dirs e.inode w
        go false w = tt

    from_looked : (path : List (List ℕ)) (dirs : List ℕ) (i : ℕ) → Within (looks (walk_from dirs i path) s) all → SpotLooked (run (walk_from dirs i path) s).spot
    from_looked [] dirs i w = tt
    from_looked (name ∷ []) dirs i w =
        let o = s.inode i in
        inode_looked dirs i name o (first_of all (InodeAt i) (looks (in_inode dirs i name o) s) w) (rest_of all (InodeAt i) (looks (in_inode dirs i name o) s) w)
    from_looked (name ∷ next ∷ names) dirs i w =
        let p = ReadInode i (in_inode dirs i name) in
        let f : Walked → Ask Walked = λ w. onward (λ more j. walk_from more j (next ∷ names)) w.dirs w.spot in
        let v = run p s in
        rw (run-bind {B = Walked} p f s) (onward_looked (λ more j. walk_from more j (next ∷ names)) (λ more j. from_looked (next ∷ names) more j) v.dirs v.spot (right_of all p f s w))

    pub walk_looked : (path : List (List ℕ)) → Within (looks (walk path) s) all → SpotLooked (run (walk path) s).spot
    walk_looked path w = from_looked path [] 0 w

    module _ (h : Hand) (x : StoredNode) where
      in_looked : (o : Option ℕ) → picked_directory h.held ≡ o → ((k : ℕ) → Contains (keys_of h.held) k → Contains all (SegmentAt k)) → RoomLooked x (room_in o)
      in_looked None e f = tt
      in_looked (Some k) e f = f (k / 1024) (block_is_held h.held k e)

      at_looked : (o : Option Found) → FoundLooked x.small o → Within (looks (room_at h x o) s) all → RoomLooked x (run (room_at h x o) s)
      at_looked (Some found) f w = f
      at_looked None f w = go (nat_lt x.blocks 16) w
        where
          go : (b : Bool) → Within (looks (if b then read_held h (Got (room_in (picked_directory h.held))) else Got NoRoom) s) all → RoomLooked x (run (if b then read_held h (Got (room_in (picked_directory h.held))) else Got NoRoom) s)
          go false w = tt
          go true w = rw (run-segments (keys_of h.held) (Got (room_in (picked_directory h.held))) s) (in_looked (picked_directory h.held) refl (segment_of all (keys_of h.held) (Got (room_in (picked_directory h.held))) s w))

      pub room_looked : Within (looks (find_room h x) s) all → RoomLooked x (run (find_room h x) s)
      room_looked w =
          let p = search x.small is_vacant 0 (8 * x.blocks) in
          rw (run-bind p (room_at h x) s) (at_looked (run p s) (search_looked x.small is_vacant (8 * x.blocks) 0 (left_of all p (room_at h x) s w)) (right_of all p (room_at h x) s w))
