-- The plans of looks and of file bytes are told where they look, over the disk of a tree.
use Rattle.std.proofs.Common.{ℕ, zero, suc, ◌≡◌, ◌≢◌, ◌<◌, ◌≤◌, ◌+◌, ◌-◌, ◌*◌, ◌/◌, ◌%◌, ◌==◌, ◌&&◌, ◌||◌, inl, Bool, true, false, nat_lt, min, max, if◌then◌else◌, Option, Some, None, List, [], ◌∷◌, ◌++◌, map, take, drop, refl, sym, subst, arith}
use Rattle.std.proofs.lemmas.Bool.Decides.{nat_tests}
use Rattle.std.specs.List.{Contains}
use Rattle.frang_base.specs.declared.reply.Reply.{Reply}
use Rattle.frang_base.specs.declared.reply.Reply.TheVariants as reply
use Rattle.tree_definitions.specs.Numbers.{below}
use Rattle.tree_definitions.specs.Tree.{small_blocks_of}
use Rattle.disk_definitions.specs.Store.{Store, StoredNode, StoredEntry}
use Rattle.disk_definitions.specs.Naming.{Naming}
use Rattle.disk_definitions.specs.Edits.{Edit}
use Rattle.disk_definitions.specs.Picks.{picked_many, picked_large}
use Rattle.disk_definitions.specs.Ask.{Sector, InodeAt, DirectoryAt, BytesAt, LargeAt, Ask, Got, ReadInode, ReadBytes, ReadLarge, seven, part_of}
use Rattle.disk_definitions.specs.Walks.{Spot, Target, at_spot, at_target}
use Rattle.disk_definitions.specs.Walks.Spot.{AtRoot, AtName, AtGap, Lost}
use Rattle.disk_definitions.specs.Plans.{Hand, Plan, refused, read_held}
use Rattle.disk_definitions.specs.Plans.Plan.{Finishes}
use Rattle.disk_definitions.specs.NamePlans.{finish_over}
use Rattle.disk_definitions.specs.FilePlans.{Writing, end_of, keeps_bytes, mixed, read_sector, set_sector, write_sector, write_sectors, sectors_met, resized, written_by, writing_in, writing_picked, writing_small, writing_large, writing, cut_segments, cut_by, cutting, read_sectors, showing, with_file, at_file, plan_of_file}
use Rattle.disk_definitions.specs.LookPlans.{plan_of_node, with_inode, at_inode, read_entries, entries_of, sorted_names, listing}
use Rattle.plan_laws.proofs.Covering.{has_head, has_more}
use Rattle.plan_laws.proofs.Standing.{HasKind, IsFileNode, DiskStands}
use Rattle.plan_laws.proofs.WalksFine.{SpotStands}
use Rattle.plan_laws.proofs.FilesFine.{in_small, met_before}
use Rattle.line_laws.proofs.WalksTold.{Ends, held_told, walk_then}
use Rattle.line_laws.proofs.NamesTold.{over_told}

module _ (h : Hand) (s : Store) (n : Naming) (disk : DiskStands h s n) where
  abbrev All : Ask Plan → List Sector → Type 0
  All p before = Ends h s n disk p before

  -- ---- sectors of a file
  module _ (i : ℕ) (x : StoredNode) (is : s.inode i ≡ Some x) where
    module _ (file : IsFileNode s x) where
      sector_told : (t : ℕ) (next : (ℕ → ℕ) → Ask Plan) (before : List Sector) → Contains before (InodeAt i) → 512 * t < x.size → ((y : Sector) (bytes : ℕ → ℕ) → All (next bytes) (y ∷ before)) → All (read_sector x t next) before
      sector_told t next before c l each = go (nat_lt t 128) refl
        where
          inside : t < 128 → t / 8 < x.blocks
          inside low = subst (λ k. t / 8 < k) (sym file.blocks) (in_small t x.size l low)

          has_large : 128 ≤ t → x.large ≢ 0
          has_large high = file.large (omega arith)

          one_more : x.large ≢ 0 → x.large ≡ x.large - 1 + 1
          one_more f = omega arith

          go : (b : Bool) → nat_lt t 128 ≡ b → All (if b then ReadBytes (x.small (t / 8)) (t % 8) next else ReadLarge (x.large - 1) (t - 128) next) before
          go true e = (
            inl (i, c, record { node = x; is = is; index = t / 8; inside = inside (grind (arith, nat_tests)); here = refl }),
            each (BytesAt (x.small (t / 8)) (t % 8)) (part_of s.byte (x.small (t / 8)) (t % 8)),
          )
          go false e = (
            (i, c, record { node = x; is = is; here = one_more (has_large (grind (arith, nat_tests))) }),
            each (LargeAt (x.large - 1) (t - 128)) (part_of s.large_byte (x.large - 1) (t - 128)),
          )

      reads_told : (m t : ℕ) (next : List ℕ → Ask Plan) (before : List Sector) → Contains before (InodeAt i) → ((v : ℕ) → t ≤ v → v < t + m → 512 * v < x.size) → ((later : List Sector) (bytes : List ℕ) → All (next bytes) later) → All (read_sectors x t m next) before
      reads_told zero t next before c l each = each before []
      reads_told (suc m) t next before c l each = sector_told t (λ bytes. read_sectors x (t + 1) m (λ more. next (map bytes (below 512) ++ more))) before c (l t (omega arith) (omega arith))
          (λ y bytes. reads_told m (t + 1) (λ more. next (map bytes (below 512) ++ more)) (y ∷ before) (has_more y (InodeAt i) before c) (λ v a b. l v (omega arith) (omega arith)) (λ later more. each later (map bytes (below 512) ++ more)))

      pub showing_told : (off len : ℕ) (touched : List ℕ) (before : List Sector) → Contains before (InodeAt i) → All (showing off len i touched x) before
      showing_told off len touched before c = go (nat_lt x.size off) refl
        where
          k : ℕ
          k = min len (x.size - off)

          inside : off ≤ x.size → (v : ℕ) → off / 512 ≤ v → v < off / 512 + sectors_met off k → 512 * v < x.size
          inside l v a b = let z : 512 * v < off + k = met_before off k v b a in omega arith

          go : (b : Bool) → nat_lt x.size off ≡ b → All (if b then refused reply.BadOffset touched
              else (let k = min len (x.size - off) in read_sectors x (off / 512) (sectors_met off k) (λ bytes. refused (reply.Shown (take k (drop (off % 512) bytes))) touched))) before
          go true e = tt
          go false e = reads_told (sectors_met off k) (off / 512) (λ bytes. refused (reply.Shown (take k (drop (off % 512) bytes))) touched) before c (inside (grind (arith, nat_tests))) (λ later bytes. tt)

      -- ---- write and fill
      module _ (w : Writing) where
        kept : (t : ℕ) → 512 * t < end_of w → keeps_bytes w x.size t ≡ true → 512 * t < x.size
        kept t l = go (nat_lt (512 * t) (min w.off x.size)) refl (nat_lt (end_of w) (min (512 * (t + 1)) x.size)) refl
          where
            go : (a : Bool) → nat_lt (512 * t) (min w.off x.size) ≡ a → (b : Bool) → nat_lt (end_of w) (min (512 * (t + 1)) x.size) ≡ b → (a || b) ≡ true → 512 * t < x.size
            go true p b q e = let c : 512 * t < min w.off x.size = grind (arith, nat_tests) in omega arith
            go false p true q e = let c : end_of w < min (512 * (t + 1)) x.size = grind (arith, nat_tests) in omega arith
            go false p false q e = absurd (cc)

        write_told : (y : StoredNode) (t : ℕ) (next : List Edit → Ask Plan) (before : List Sector) → Contains before (InodeAt i) → 512 * t < end_of w →
            ((later : List Sector) (es : List Edit) → Contains later (InodeAt i) → All (next es) later) → All (write_sector w x y t next) before
        write_told y t next before c l each = go (keeps_bytes w x.size t) refl
          where
            go : (b : Bool) → keeps_bytes w x.size t ≡ b → All (if b then read_sector x t (λ old. next (set_sector y t (mixed w t old) ∷ [])) else next (set_sector y t (mixed w t (λ r. 0)) ∷ [])) before
            go true e = sector_told t (λ old. next (set_sector y t (mixed w t old) ∷ [])) before c (kept t l e) (λ z old. each (z ∷ before) (set_sector y t (mixed w t old) ∷ []) (has_more z (InodeAt i) before c))
            go false e = each before (set_sector y t (mixed w t (λ r. 0)) ∷ []) c

        writes_told : (y : StoredNode) (m t : ℕ) (next : List Edit → Ask Plan) (before : List Sector) → Contains before (InodeAt i) → ((v : ℕ) → t ≤ v → v < t + m → 512 * v < end_of w) →
            ((later : List Sector) (es : List Edit) → All (next es) later) → All (write_sectors w x y t m next) before
        writes_told y zero t next before c l each = each before []
        writes_told y (suc m) t next before c l each = write_told y t (λ one. write_sectors w x y (t + 1) m (λ more. next (one ++ more))) before c (l t (omega arith) (omega arith))
            (λ later one d. writes_told y m (t + 1) (λ more. next (one ++ more)) later d (λ v a b. l v (omega arith) (omega arith)) (λ most es. each most (one ++ es)))

        module _ (touched : List ℕ) where
          in_told : (picks : List ℕ) (o : Option ℕ) (before : List Sector) → Contains before (InodeAt i) → All (writing_in w i touched x picks o) before
          in_told picks o before c =
              let y = resized x w.when (max x.size (end_of w)) picks o in
              writes_told y (sectors_met w.off w.len) (w.off / 512) (λ bytes. Got (Finishes (written_by i y picks o touched bytes))) before c (λ v a b. met_before w.off w.len v b a) (λ later es. tt)

          picked_told : (o : Option ℕ) (p : Option (List ℕ)) (before : List Sector) → Contains before (InodeAt i) → All (writing_picked h w i touched x o p) before
          picked_told o None before c = tt
          picked_told o (Some picks) before c = in_told picks o before c

          abbrev more : ℕ
          more = small_blocks_of (max x.size (end_of w)) - x.blocks

          small_told : (o : Option ℕ) (before : List Sector) → Contains before (InodeAt i) → All (writing_small h w i touched x o) before
          small_told o before c = go (more == 0)
            where
              go : (b : Bool) → All (if b then writing_in w i touched x [] o else read_held h (writing_picked h w i touched x o (picked_many h.held more))) before
              go true = in_told [] o before c
              go false = held_told h s n disk (writing_picked h w i touched x o (picked_many h.held more)) before (λ later a. picked_told o (picked_many h.held more) later (a (InodeAt i) c))

          large_told : (p : Option ℕ) (before : List Sector) → Contains before (InodeAt i) → All (writing_large h w i touched x p) before
          large_told None before c = tt
          large_told (Some g) before c = small_told (Some g) before c

          pub writing_told : (before : List Sector) → Contains before (InodeAt i) → All (writing h w i touched x) before
          writing_told before c = go (nat_lt x.size w.off) (nat_lt 1114112 (end_of w)) (nat_lt 65536 (end_of w) && x.large == 0)
            where
              go : (a b d : Bool) → All (if a then refused reply.BadOffset touched else (if b then refused reply.TooBig touched
                  else (if d then read_held h (writing_large h w i touched x (picked_large h.held)) else writing_small h w i touched x None))) before
              go true b d = tt
              go false true d = tt
              go false false true = held_told h s n disk (writing_large h w i touched x (picked_large h.held)) before (λ later a. large_told (picked_large h.held) later (a (InodeAt i) c))
              go false false false = small_told None before c

    -- ---- list
    entries_told : (m j : ℕ) (next : List StoredEntry → Ask Plan) (before : List Sector) → Contains before (InodeAt i) → j + m ≤ 8 * x.blocks → ((later : List Sector) (es : List StoredEntry) → All (next es) later) → All (read_entries x.small j m next) before
    entries_told zero j next before c l each = each before []
    entries_told (suc m) j next before c l each =
        let f = seven s.place (x.small (j / 8)) (j % 8) in
        let here = DirectoryAt (x.small (j / 8)) (j % 8) in (
          inl (i, c, record { node = x; is = is; index = j / 8; inside = omega arith; here = refl }),
          entries_told m (j + 1) (λ more. next (entries_of f ++ more)) (here ∷ before) (has_more here (InodeAt i) before c) (omega arith) (λ later more. each later (entries_of f ++ more)),
        )

    pub listing_told : (touched : List ℕ) (before : List Sector) → Contains before (InodeAt i) → All (listing touched x) before
    listing_told touched before c = entries_told (8 * x.blocks) 0 (λ entries. refused (reply.Names (sorted_names entries)) touched) before c (omega arith) (λ later es. tt)

    -- ---- truncate
    pub cutting_told : (when len : ℕ) (touched : List ℕ) (before : List Sector) → All (cutting when len i touched x) before
    cutting_told when len touched before = go (nat_lt x.size len)
      where
        go : (b : Bool) → All (if b then refused reply.BadOffset touched else finish_over (cut_segments x len) (cut_by when i touched x len)) before
        go true = tt
        go false = over_told h s n disk (cut_segments x len) (cut_by when i touched x len) before

  -- ---- the node that a path names

  pub node_told : (path : List (List ℕ)) (next : Target → Ask Plan) → ((t : Target) → HasKind s t.inode t.kind → (later : List Sector) → All (next t) later) → (before : List Sector) → All (plan_of_node path next) before
  node_told path next each before = walk_then h s n disk path (λ w. at_target w refused next) before (λ later w a t. at_end later w.dirs w.spot t)
    where
      at_end : (later : List Sector) (dirs : List ℕ) (v : Spot) → SpotStands h s n disk dirs v → All (at_spot v dirs refused next) later
      at_end later dirs AtRoot t = each (record { inode = 0; kind = 2; dirs = dirs }) disk.root later
      at_end later dirs (AtName i x name q e) t = each (record { inode = e.inode; kind = e.kind; dirs = dirs }) t.2 later
      at_end later dirs (AtGap i x name) t = tt
      at_end later dirs (Lost r) t = tt

  -- its inode
  pub inode_told : (next : List ℕ → StoredNode → Ask Plan) → ((i : ℕ) (x : StoredNode) → s.inode i ≡ Some x → (touched : List ℕ) (later : List Sector) → Contains later (InodeAt i) → All (next touched x) later) →
      (t : Target) → HasKind s t.inode t.kind → (before : List Sector) → All (at_inode next t) before
  inode_told next each t k before =
      let touched = t.dirs ++ t.inode ∷ [] in
      (inl (k.node, k.is), subst (λ o. All (with_inode next touched o) (InodeAt t.inode ∷ before)) (sym k.is) (each t.inode k.node k.is touched (InodeAt t.inode ∷ before) (has_head (InodeAt t.inode) before)))

  -- a node of this kind
  pub kind_told : (next : Target → Ask Plan) (want : ℕ) (r : Reply) → ((t : Target) → HasKind s t.inode t.kind → (later : List Sector) → All (next t) later) → (t : Target) → HasKind s t.inode t.kind → (before : List Sector) →
      All (if t.kind == want then next t else refused r t.dirs) before
  kind_told next want r each t k before = go (t.kind == want)
    where
      go : (b : Bool) → All (if b then next t else refused r t.dirs) before
      go true = each t k before
      go false = tt

  -- a file
  pub file_told : (next : ℕ → List ℕ → StoredNode → Ask Plan) → ((i : ℕ) (x : StoredNode) → s.inode i ≡ Some x → IsFileNode s x → (touched : List ℕ) (later : List Sector) → Contains later (InodeAt i) → All (next i touched x) later) →
      (path : List (List ℕ)) (before : List Sector) → All (plan_of_file path next) before
  file_told next each path = node_told path (at_file next) at_target_told
    where
      with_it : (t : Target) (before : List Sector) (x : StoredNode) → s.inode t.inode ≡ Some x → (touched : List ℕ) (b : Bool) → x.kind == 1 ≡ b →
          All (if b then next t.inode touched x else refused reply.Inval touched) (InodeAt t.inode ∷ before)
      with_it t before x is touched true e = each t.inode x is ((disk.nodes t.inode x is).file (grind (arith, nat_tests))) touched (InodeAt t.inode ∷ before) (has_head (InodeAt t.inode) before)
      with_it t before x is touched false e = tt

      at_target_told : (t : Target) → HasKind s t.inode t.kind → (before : List Sector) → All (at_file next t) before
      at_target_told t k before = go (t.kind == 2) (t.kind == 1)
        where
          touched : List ℕ
          touched = t.dirs ++ t.inode ∷ []

          go : (a b : Bool) → All (if a then refused reply.IsDir t.dirs else (if b then ReadInode t.inode (with_file (next t.inode (t.dirs ++ t.inode ∷ [])) (t.dirs ++ t.inode ∷ [])) else refused reply.Inval t.dirs)) before
          go true b = tt
          go false true =
              (inl (k.node, k.is), subst (λ o. All (with_file (next t.inode touched) touched o) (InodeAt t.inode ∷ before)) (sym k.is) (with_it t before k.node k.is touched (k.node.kind == 1) refl))
          go false false = tt
