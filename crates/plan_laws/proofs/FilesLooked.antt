-- The plans of looks and of file bytes have looked at what they edit.
use Rattle.std.proofs.Common.{ℕ, zero, suc, ◌≡◌, ◌<◌, ◌+◌, ◌-◌, ◌*◌, ◌/◌, ◌%◌, ◌==◌, ◌&&◌, Bool, true, false, nat_lt, max, min, if◌then◌else◌, Option, Some, None, List, [], ◌∷◌, ◌++◌, map, take, drop, refl, sym, subst, ⊎_elim, arith}
use Rattle.std.proofs.lemmas.List.Elements.{Contains-append_left, Contains-append_right}
use Rattle.std.specs.List.{Contains}
use Rattle.std.specs.Map.{keys_of}
use Rattle.frang_base.specs.declared.reply.Reply.TheVariants as reply
use Rattle.frang_base.specs.declared.reply.Reply.{Reply}
use Rattle.tree_definitions.specs.Tree.{small_blocks_of}
use Rattle.disk_definitions.specs.Store.{Store, StoredNode, Use}
use Rattle.disk_definitions.specs.Store.Use.{Fresh, Bytes}
use Rattle.disk_definitions.specs.Edits.Edit.{SetUse, SetLarge, SetBytes, SetLargeBytes}
use Rattle.disk_definitions.specs.Picks.{picked_many, picked_large}
use Rattle.disk_definitions.specs.Ask.{Sector, InodeAt, SegmentAt, Ask, Got, ReadInode, run, looks}
use Rattle.disk_definitions.specs.Walks.{Target, Spot, walk, at_spot, at_target}
use Rattle.disk_definitions.specs.Walks.Spot.{AtRoot, AtName, AtGap, Lost}
use Rattle.disk_definitions.specs.Plans.{Hand, Plan, refused, read_held}
use Rattle.disk_definitions.specs.Plans.Plan.{Finishes}
use Rattle.disk_definitions.specs.NamePlans.{finish_over}
use Rattle.disk_definitions.specs.FilePlans.{Writing, end_of, sectors_met, mixed, directory_blocks, resized, large_taken, large_segment, file_dated, written_by, writing_in, writing_picked, writing_small, writing_large, writing, blocks_between, large_cut, cut_segments, cut_by, cutting, read_sectors, showing, at_file, with_file}
use Rattle.disk_definitions.specs.LookPlans.{plan_of_node, with_inode, at_inode, listing, sorted_names}
use Rattle.plan_laws.proofs.Asking.{run-segments}
use Rattle.plan_laws.proofs.Bytes.{run-sectors}
use Rattle.plan_laws.proofs.Gathering.{run-entries}
use Rattle.plan_laws.proofs.Sectors.{old_sector, sector_edits, run-writes}
use Rattle.plan_laws.proofs.Covering.{has_head, has_more, has_cases, map_has}
use Rattle.plan_laws.proofs.Within.{first_of, rest_of, segment_of, past_segments}
use Rattle.plan_laws.proofs.Searched.{large_is_held, blocks_are_held}
use Rattle.plan_laws.proofs.Edited.{AreLooked, PlanLooked, join}
use Rattle.plan_laws.proofs.NamesLooked.{Goes, none_looked, over_looked, on}

module _ (all : List Sector) where
  file_looked_at : (i : ℕ) (y : StoredNode) → Contains all (InodeAt i) → AreLooked all (file_dated i y)
  file_looked_at i y c = (c, tt)

  taken_looked : (o : Option ℕ) → ((g : ℕ) → Contains (large_segment o) g → Contains all (SegmentAt g)) → AreLooked all (large_taken o)
  taken_looked None f = tt
  taken_looked (Some g) f = (f g (has_head g []), tt)

  states_looked : (u : Use) (ks : List ℕ) → ((k : ℕ) → Contains ks k → Contains all (SegmentAt (k / 1024))) → AreLooked all (map (λ k. SetUse k u) ks)
  states_looked u [] f = tt
  states_looked u (k ∷ ks) f = (f k (has_head k ks), states_looked u ks (λ c d. f c (has_more k c ks d)))

  larges_looked : (v : Bool) (gs : List ℕ) → ((g : ℕ) → Contains gs g → Contains all (SegmentAt g)) → AreLooked all (map (λ g. SetLarge g v) gs)
  larges_looked v [] f = tt
  larges_looked v (g ∷ gs) f = (f g (has_head g gs), larges_looked v gs (λ c d. f c (has_more g c gs d)))

  bytes_looked : (w : Writing) (x y : StoredNode) (s : Store) (n t : ℕ) → AreLooked all (sector_edits w x y s t n)
  bytes_looked w x y s zero t = tt
  bytes_looked w x y s (suc n) t = go (nat_lt t 128) (bytes_looked w x y s n (t + 1))
    where
      go : (b : Bool) → AreLooked all (sector_edits w x y s (t + 1) n) →
          AreLooked all ((if b then SetBytes (y.small (t / 8)) (t % 8) (mixed w t (old_sector w x y s t)) else SetLargeBytes (y.large - 1) (t - 128) (mixed w t (old_sector w x y s t))) ∷ sector_edits w x y s (t + 1) n)
      go true c = (tt, c)
      go false c = (tt, c)

  module _ (h : Hand) (s : Store) where
    abbrev Ends : Ask Plan → Type 0
    Ends p = Goes all h s p

    -- ---- truncate
    pub cutting_looked : (when len i : ℕ) (touched : List ℕ) (x : StoredNode) → Contains all (InodeAt i) → Ends (cutting when len i touched x)
    cutting_looked when len i touched x c = go (nat_lt x.size len)
      where
        cut : List ℕ
        cut = blocks_between x (small_blocks_of len) x.blocks

        edits : ((k : ℕ) → Contains (cut_segments x len) k → Contains all (SegmentAt k)) → AreLooked all (cut_by when i touched x len).edits
        edits f =
            let segments = map (λ k. k / 1024) cut in
            join all (map (λ k. SetUse k Fresh) cut ++ map (λ g. SetLarge g false) (large_cut x len)) (file_dated i (resized x when len [] None))
            (join all (map (λ k. SetUse k Fresh) cut) (map (λ g. SetLarge g false) (large_cut x len))
            (states_looked Fresh cut (λ k d. f (k / 1024) (Contains-append_left segments (large_cut x len) (k / 1024) (map_has (λ k. k / 1024) cut k d))))
            (larges_looked false (large_cut x len) (λ g d. f g (Contains-append_right segments (large_cut x len) g d))))
            (file_looked_at i (resized x when len [] None) c)

        go : (b : Bool) → Ends (if b then refused reply.BadOffset touched else finish_over (cut_segments x len) (cut_by when i touched x len))
        go true w = tt
        go false w = over_looked all h s (cut_segments x len) (cut_by when i touched x len) edits w

    -- ---- write and fill
    module _ (w : Writing) (i : ℕ) (touched : List ℕ) (x : StoredNode) (own : Contains all (InodeAt i)) where
      in_looked : (picks : List ℕ) (o : Option ℕ) → ((k : ℕ) → Contains picks k → Contains all (SegmentAt (k / 1024))) → ((g : ℕ) → Contains (large_segment o) g → Contains all (SegmentAt g)) →
          PlanLooked all (run (writing_in w i touched x picks o) s)
      in_looked picks o f g =
          let y = resized x w.when (max x.size (end_of w)) picks o in
          let bytes = sector_edits w x y s (w.off / 512) (sectors_met w.off w.len) in
          subst (PlanLooked all) (sym (run-writes w x y s (w.off / 512) (sectors_met w.off w.len) (λ bytes. Got (Finishes (written_by i y picks o touched bytes)))))
          (join all (map (λ k. SetUse k Bytes) picks ++ large_taken o ++ file_dated i y) bytes
          (join all (map (λ k. SetUse k Bytes) picks ++ large_taken o) (file_dated i y) (join all (map (λ k. SetUse k Bytes) picks) (large_taken o) (states_looked Bytes picks f) (taken_looked o g)) (file_looked_at i y own))
          (bytes_looked w x y s (sectors_met w.off w.len) (w.off / 512)))

      module _ (o : Option ℕ) (g : (k : ℕ) → Contains (large_segment o) k → Contains all (SegmentAt k)) where
        picked_looked : (more : ℕ) (p : Option (List ℕ)) → picked_many h.held more ≡ p → ((k : ℕ) → Contains (keys_of h.held) k → Contains all (SegmentAt k)) → Ends (writing_picked h w i touched x o p)
        picked_looked more None e f l = none_looked all h s (reply.NoBlock (directory_blocks h.held)) touched l
        picked_looked more (Some picks) e f l = in_looked picks o (λ k c. f (k / 1024) (blocks_are_held h.held more picks e k c)) g

        small_looked : Ends (writing_small h w i touched x o)
        small_looked = go (more == 0)
          where
            more : ℕ
            more = small_blocks_of (max x.size (end_of w)) - x.blocks

            go : (b : Bool) → Ends (if b then writing_in w i touched x [] o else read_held h (writing_picked h w i touched x o (picked_many h.held more)))
            go true l = in_looked [] o (λ k c. absurd (let z : c.0 < 0 = c.1 in omega arith)) g
            go false l = let p = writing_picked h w i touched x o (picked_many h.held more) in
                rw (run-segments (keys_of h.held) p s) (picked_looked more (picked_many h.held more) refl (segment_of all (keys_of h.held) p s l) (past_segments all (keys_of h.held) p s l))

      none_taken : (g : ℕ) → Contains (large_segment None) g → Contains all (SegmentAt g)
      none_taken g c = absurd (let z : c.0 < 0 = c.1 in omega arith)

      one_looked : (p : Option ℕ) → picked_large h.held ≡ p → ((k : ℕ) → Contains (keys_of h.held) k → Contains all (SegmentAt k)) → Ends (writing_large h w i touched x p)
      one_looked None e f l = none_looked all h s reply.NoLarge touched l
      one_looked (Some g) e f l = small_looked (Some g) (only g (f g (large_is_held h.held g e))) l
        where
          only : (g : ℕ) → Contains all (SegmentAt g) → (k : ℕ) → Contains (g ∷ []) k → Contains all (SegmentAt k)
          only g c k d = ⊎_elim (λ e. subst (λ z. Contains all (SegmentAt z)) e c) (λ i. absurd (let z : i.0 < 0 = i.1 in omega arith)) (has_cases g k [] d)

      pub writing_looked : Ends (writing h w i touched x)
      writing_looked = go (nat_lt x.size w.off) (nat_lt 1114112 (end_of w)) (nat_lt 65536 (end_of w) && x.large == 0)
        where
          go : (a b c : Bool) → Ends (if a then refused reply.BadOffset touched else (if b then refused reply.TooBig touched
              else (if c then read_held h (writing_large h w i touched x (picked_large h.held)) else writing_small h w i touched x None)))
          go true b c l = tt
          go false true c l = tt
          go false false true l = let p = writing_large h w i touched x (picked_large h.held) in
              rw (run-segments (keys_of h.held) p s) (one_looked (picked_large h.held) refl (segment_of all (keys_of h.held) p s l) (past_segments all (keys_of h.held) p s l))
          go false false false l = small_looked None none_taken l

    -- ---- read and list
    pub showing_looked : (off len i : ℕ) (touched : List ℕ) (x : StoredNode) → Ends (showing off len i touched x)
    showing_looked off len i touched x = go (nat_lt x.size off)
      where
        go : (b : Bool) → Ends (if b then refused reply.BadOffset touched
            else (let k = min len (x.size - off) in read_sectors x (off / 512) (sectors_met off k) (λ bytes. refused (reply.Shown (take k (drop (off % 512) bytes))) touched)))
        go true w = tt
        go false w =
            let k = min len (x.size - off) in
            subst (PlanLooked all) (sym (run-sectors s x (off / 512) (sectors_met off k) (λ bytes. refused (reply.Shown (take k (drop (off % 512) bytes))) touched))) tt

    pub listing_looked : (touched : List ℕ) (x : StoredNode) → Ends (listing touched x)
    listing_looked touched x w = subst (PlanLooked all) (sym (run-entries s x.small 0 (8 * x.blocks) (λ entries. refused (reply.Names (sorted_names entries)) touched))) tt

    -- ---- a file, or any node
    pub file_looked : (next : ℕ → List ℕ → StoredNode → Ask Plan) → ((i : ℕ) (touched : List ℕ) (x : StoredNode) → Contains all (InodeAt i) → Ends (next i touched x)) → (t : Target) → Ends (at_file next t)
    file_looked next each t = go (t.kind == 2) (t.kind == 1)
      where
        touched : List ℕ
        touched = t.dirs ++ t.inode ∷ []

        by_kind : (x : StoredNode) (k : Bool) → Contains all (InodeAt t.inode) → Ends (if k then next t.inode touched x else refused reply.Inval touched)
        by_kind x true c w = each t.inode touched x c w
        by_kind x false c w = tt

        read : (o : Option StoredNode) → Contains all (InodeAt t.inode) → Ends (with_file (next t.inode touched) touched o)
        read None c w = tt
        read (Some x) c w = by_kind x (x.kind == 1) c w

        go : (a b : Bool) → Ends (if a then refused reply.IsDir t.dirs else (if b then ReadInode t.inode (with_file (next t.inode touched) touched) else refused reply.Inval t.dirs))
        go true b w = tt
        go false true w = let rest = looks (with_file (next t.inode touched) touched (s.inode t.inode)) s in read (s.inode t.inode) (first_of all (InodeAt t.inode) rest w) (rest_of all (InodeAt t.inode) rest w)
        go false false w = tt

    pub at_inode_looked : (next : List ℕ → StoredNode → Ask Plan) → ((touched : List ℕ) (x : StoredNode) → Ends (next touched x)) → (t : Target) → Ends (at_inode next t)
    at_inode_looked next each t w = go (s.inode t.inode) (rest_of all (InodeAt t.inode) (looks (with_inode next (t.dirs ++ t.inode ∷ []) (s.inode t.inode)) s) w)
      where
        go : (o : Option StoredNode) → Ends (with_inode next (t.dirs ++ t.inode ∷ []) o)
        go None w = tt
        go (Some x) w = each (t.dirs ++ t.inode ∷ []) x w

    pub by_kind : (next : Target → Ask Plan) (kind : ℕ) (r : Reply) → ((t : Target) → Ends (next t)) → (t : Target) → Ends (if t.kind == kind then next t else refused r t.dirs)
    by_kind next kind r each t = go (t.kind == kind)
      where
        go : (a : Bool) → Ends (if a then next t else refused r t.dirs)
        go true w = each t w
        go false w = tt

    module _ (next : Target → Ask Plan) (each : (t : Target) → Ends (next t)) where
      at_looked : (v : Spot) (dirs : List ℕ) → Ends (at_spot v dirs refused next)
      at_looked AtRoot dirs w = each (record { inode = 0; kind = 2; dirs = dirs }) w
      at_looked (AtName i x name q e) dirs w = each (record { inode = e.inode; kind = e.kind; dirs = dirs }) w
      at_looked (AtGap i x name) dirs w = tt
      at_looked (Lost r) dirs w = tt

      pub node_looked : (path : List (List ℕ)) → Ends (plan_of_node path next)
      node_looked path = let v = run (walk path) s in on all h s (walk path) (λ w. at_target w refused next) (λ l. at_looked v.spot v.dirs)
