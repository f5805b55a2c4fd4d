-- The locks of the plans of looks and of file bytes cover what these look at and edit, over the disk of a tree.
use Rattle.std.proofs.Common.{ℕ, zero, suc, ◌≡◌, ◌≢◌, ◌<◌, ◌≤◌, ◌+◌, ◌-◌, ◌*◌, ◌/◌, ◌%◌, ◌==◌, ◌||◌, inl, Bool, true, false, nat_lt, min, if◌then◌else◌, Option, Some, None, List, [], ◌∷◌, ◌++◌, length, map, take, drop, slice_index, slice_index_or, refl, sym, subst, arith}
use Rattle.std.proofs.lemmas.Bool.Decides.{nat_tests}
use Rattle.std.proofs.lemmas.List.Elements.{Contains-append_left, Contains-append_right}
use Rattle.std.specs.List.{Contains}
use Rattle.frang_base.specs.declared.lock.LockId.TheVariants as lock
use Rattle.frang_base.specs.declared.reply.Reply.TheVariants as reply
use Rattle.tree_definitions.specs.Numbers.{below}
use Rattle.tree_definitions.specs.Tree.{small_blocks_of}
use Rattle.disk_definitions.specs.Store.{Store, StoredNode, StoredEntry, Use}
use Rattle.disk_definitions.specs.Store.Use.{Fresh}
use Rattle.disk_definitions.specs.Naming.{Naming}
use Rattle.disk_definitions.specs.Edits.{Edit}
use Rattle.disk_definitions.specs.Edits.Edit.{SetUse, SetLarge}
use Rattle.disk_definitions.specs.Ask.{DirectoryAt, BytesAt, LargeAt, Ask, ReadBytes, ReadLarge, part_of, seven, run, looks}
use Rattle.disk_definitions.specs.Plans.{Hand, Lock, Plan, refused, shared_nodes, sole_nodes, sole_segments}
use Rattle.disk_definitions.specs.NamePlans.{finish_over}
use Rattle.disk_definitions.specs.FilePlans.{Writing, end_of, keeps_bytes, mixed, read_sector, set_sector, write_sector, write_sectors, sectors_met, resized, large_taken, large_segment, file_dated, blocks_between, large_cut, cut_segments, cut_by, cutting, read_sectors, showing}
use Rattle.disk_definitions.specs.LookPlans.{listing, read_entries, entries_of, sorted_names}
use Rattle.plan_laws.specs.Locks.{IsSole}
use Rattle.plan_laws.proofs.Covering.{has_head, has_more, map_has, node_sole, segment_sole}
use Rattle.plan_laws.specs.Covers.{PlanHolds}
use Rattle.plan_laws.proofs.Standing.{NodeStands, IsFileNode, DiskStands}
use Rattle.plan_laws.proofs.Fine.{first_held, EditFits, EditsFit, join, Fine, FinishFits, seen_more, refuse_fine, over}

-- what stands at an index is there
pub index_in : (xs : List ℕ) (i d : ℕ) → i < length xs → slice_index_or xs i d ≡ slice_index xs i
index_in [] i d l = absurd (omega arith)
index_in (x ∷ xs) zero d l = refl
index_in (x ∷ xs) (suc i) d l = index_in xs i d (omega arith)

pub in_small : (v k : ℕ) → 512 * v < k → v < 128 → v / 8 < small_blocks_of k
in_small v k l low = omega arith

-- a sector that the bytes meet begins before their end
pub met_before : (off len v : ℕ) → v < off / 512 + sectors_met off len → off / 512 ≤ v → 512 * v < off + len
met_before off len v = go (len == 0) refl
  where
    go : (b : Bool) → len == 0 ≡ b → v < off / 512 + (if b then 0 else (off + len - 1) / 512 + 1 - off / 512) → off / 512 ≤ v → 512 * v < off + len
    go true e l k = absurd (omega arith)
    go false e l k = let z : len ≢ 0 = grind (arith, nat_tests) in omega arith

module _ (h : Hand) (s : Store) (n : Naming) (disk : DiskStands h s n) where
  -- ---- edits

  pub file_fits : (locks : List Lock) (i : ℕ) (x y : StoredNode) → s.inode i ≡ Some x → IsSole locks (lock.Node i) → EditsFit h s n locks (file_dated i y)
  file_fits locks i x y is sole = (subst (IsSole locks) (sym (disk.nodes i x is).own) sole, tt)

  pub taken_fits : (locks : List Lock) (o : Option ℕ) → ((g : ℕ) → Contains (large_segment o) g → IsSole locks (lock.Segment g)) → EditsFit h s n locks (large_taken o)
  taken_fits locks None f = tt
  taken_fits locks (Some g) f = (f g (has_head g []), tt)

  pub states_fit : (locks : List Lock) (u : Use) (ks : List ℕ) → ((k : ℕ) → Contains ks k → IsSole locks (lock.Segment (k / 1024))) → EditsFit h s n locks (map (λ k. SetUse k u) ks)
  states_fit locks u [] f = tt
  states_fit locks u (k ∷ ks) f = (f k (has_head k ks), states_fit locks u ks (λ c d. f c (has_more k c ks d)))

  larges_fit : (locks : List Lock) (v : Bool) (gs : List ℕ) → ((g : ℕ) → Contains gs g → IsSole locks (lock.Segment g)) → EditsFit h s n locks (map (λ g. SetLarge g v) gs)
  larges_fit locks v [] f = tt
  larges_fit locks v (g ∷ gs) f = (f g (has_head g gs), larges_fit locks v gs (λ c d. f c (has_more g c gs d)))

  -- ---- sectors of a file
  module _ (touched : List ℕ) (i : ℕ) (x : StoredNode) (is : s.inode i ≡ Some x) (held : Contains touched i) where
    abbrev Ends : Ask Plan → Type 0
    Ends p = Fine h s n touched p

    module _ (file : IsFileNode s x) where
      read_fine : (t : ℕ) (next : (ℕ → ℕ) → Ask Plan) → 512 * t < x.size → ((bytes : ℕ → ℕ) → Ends (next bytes)) → Ends (read_sector x t next)
      read_fine t next l each = go (nat_lt t 128) refl
        where
          node : NodeStands s n i x
          node = disk.nodes i x is

          inside : t < 128 → t / 8 < x.blocks
          inside low = subst (λ k. t / 8 < k) (sym file.blocks) (in_small t x.size l low)

          has_large : 128 ≤ t → x.large ≢ 0
          has_large high = file.large (omega arith)

          go : (b : Bool) → nat_lt t 128 ≡ b → Ends (if b then ReadBytes (x.small (t / 8)) (t % 8) next else ReadLarge (x.large - 1) (t - 128) next)
          go true e =
              let bytes = part_of s.byte (x.small (t / 8)) (t % 8) in
              let r = each bytes in
              seen_more h s n touched (BytesAt (x.small (t / 8)) (t % 8)) (looks (next bytes) s) (run (next bytes) s) (inl (subst (PlanHolds (run (next bytes) s)) (sym (node.small (t / 8) (inside (grind (arith, nat_tests))))) (r.nodes i held))) r
          go false e =
              let bytes = part_of s.large_byte (x.large - 1) (t - 128) in
              let r = each bytes in
              seen_more h s n touched (LargeAt (x.large - 1) (t - 128)) (looks (next bytes) s) (run (next bytes) s) (inl (subst (PlanHolds (run (next bytes) s)) (sym (node.large (has_large (grind (arith, nat_tests))))) (r.nodes i held))) r

      reads_fine : (m t : ℕ) (next : List ℕ → Ask Plan) → ((v : ℕ) → t ≤ v → v < t + m → 512 * v < x.size) → ((bytes : List ℕ) → Ends (next bytes)) → Ends (read_sectors x t m next)
      reads_fine zero t next l each = each []
      reads_fine (suc m) t next l each = read_fine t (λ bytes. read_sectors x (t + 1) m (λ more. next (map bytes (below 512) ++ more))) (l t (omega arith) (omega arith))
          (λ bytes. reads_fine m (t + 1) (λ more. next (map bytes (below 512) ++ more)) (λ v a b. l v (omega arith) (omega arith)) (λ more. each (map bytes (below 512) ++ more)))

      pub showing_fine : (off len : ℕ) → Ends (showing off len i touched x)
      showing_fine off len = go (nat_lt x.size off) refl
        where
          k : ℕ
          k = min len (x.size - off)

          before : off ≤ x.size → (v : ℕ) → off / 512 ≤ v → v < off / 512 + sectors_met off k → 512 * v < x.size
          before l v a b = let c : 512 * v < off + k = met_before off k v b a in omega arith

          go : (b : Bool) → nat_lt x.size off ≡ b → Ends (if b then refused reply.BadOffset touched
              else (let k = min len (x.size - off) in read_sectors x (off / 512) (sectors_met off k) (λ bytes. refused (reply.Shown (take k (drop (off % 512) bytes))) touched)))
          go true e = refuse_fine h s n touched touched reply.BadOffset (λ i c. c)
          go false e =
              reads_fine (sectors_met off k) (off / 512) (λ bytes. refused (reply.Shown (take k (drop (off % 512) bytes))) touched) (before (grind (arith, nat_tests)))
              (λ bytes. refuse_fine h s n touched touched (reply.Shown (take k (drop (off % 512) bytes))) (λ i c. c))

      -- ---- write and fill
      module _ (w : Writing) (y : StoredNode) (locks : List Lock) (sets : (t : ℕ) (bytes : ℕ → ℕ) → 512 * t < end_of w → EditFits h s n locks (set_sector y t bytes)) where
        kept : (t : ℕ) → 512 * t < end_of w → keeps_bytes w x.size t ≡ true → 512 * t < x.size
        kept t l = go (nat_lt (512 * t) (min w.off x.size)) refl (nat_lt (end_of w) (min (512 * (t + 1)) x.size)) refl
          where
            go : (a : Bool) → nat_lt (512 * t) (min w.off x.size) ≡ a → (b : Bool) → nat_lt (end_of w) (min (512 * (t + 1)) x.size) ≡ b → (a || b) ≡ true → 512 * t < x.size
            go true p b q e = let c : 512 * t < min w.off x.size = grind (arith, nat_tests) in omega arith
            go false p true q e = let c : end_of w < min (512 * (t + 1)) x.size = grind (arith, nat_tests) in omega arith
            go false p false q e = absurd (cc)

        write_fine : (t : ℕ) (next : List Edit → Ask Plan) → 512 * t < end_of w → ((bytes : ℕ → ℕ) → Ends (next (set_sector y t bytes ∷ []))) → Ends (write_sector w x y t next)
        write_fine t next l each = go (keeps_bytes w x.size t) refl
          where
            go : (b : Bool) → keeps_bytes w x.size t ≡ b → Ends (if b then read_sector x t (λ old. next (set_sector y t (mixed w t old) ∷ [])) else next (set_sector y t (mixed w t (λ r. 0)) ∷ []))
            go true e = read_fine t (λ old. next (set_sector y t (mixed w t old) ∷ [])) (kept t l e) (λ old. each (mixed w t old))
            go false e = each (mixed w t (λ r. 0))

        pub writes_fine : (m t : ℕ) (next : List Edit → Ask Plan) → ((v : ℕ) → t ≤ v → v < t + m → 512 * v < end_of w) → ((es : List Edit) → EditsFit h s n locks es → Ends (next es)) → Ends (write_sectors w x y t m next)
        writes_fine zero t next l each = each [] tt
        writes_fine (suc m) t next l each =
            write_fine t (λ one. write_sectors w x y (t + 1) m (λ more. next (one ++ more))) (l t (omega arith) (omega arith))
            (λ bytes. writes_fine m (t + 1) (λ more. next (set_sector y t bytes ∷ more)) (λ v a b. l v (omega arith) (omega arith)) (λ es f. each (set_sector y t bytes ∷ es) (sets t bytes (l t (omega arith) (omega arith)), f)))

    -- ---- list
    entries_fine : (m j : ℕ) (next : List StoredEntry → Ask Plan) → j + m ≤ 8 * x.blocks → ((es : List StoredEntry) → Ends (next es)) → Ends (read_entries x.small j m next)
    entries_fine zero j next l each = each []
    entries_fine (suc m) j next l each =
        let f = seven s.place (x.small (j / 8)) (j % 8) in
        let p = read_entries x.small (j + 1) m (λ more. next (entries_of f ++ more)) in
        let r = entries_fine m (j + 1) (λ more. next (entries_of f ++ more)) (omega arith) (λ more. each (entries_of f ++ more)) in
        seen_more h s n touched (DirectoryAt (x.small (j / 8)) (j % 8)) (looks p s) (run p s) (inl (subst (PlanHolds (run p s)) (sym ((disk.nodes i x is).small (j / 8) (omega arith))) (r.nodes i held))) r

    pub listing_fine : Ends (listing touched x)
    listing_fine = entries_fine (8 * x.blocks) 0 (λ entries. refused (reply.Names (sorted_names entries)) touched) (omega arith) (λ entries. refuse_fine h s n touched touched (reply.Names (sorted_names entries)) (λ i c. c))

    -- ---- truncate
    pub cutting_fine : (when len : ℕ) → Ends (cutting when len i touched x)
    cutting_fine when len = go (nat_lt x.size len)
      where
        segment : (k : ℕ) → Contains (cut_segments x len) k → IsSole (cut_by when i touched x len).locks (lock.Segment k)
        segment = segment_sole (shared_nodes touched ++ sole_nodes (i ∷ [])) (cut_segments x len)

        fits : FinishFits h s n touched (cut_by when i touched x len)
        fits =
            let locks = (cut_by when i touched x len).locks in
            let segments = map (λ k. k / 1024) (blocks_between x (small_blocks_of len) x.blocks) in
            let smalls = map (λ k. SetUse k Fresh) (blocks_between x (small_blocks_of len) x.blocks) in
            let larges = map (λ g. SetLarge g false) (large_cut x len) in
            let own : IsSole locks (lock.Node i) = node_sole (shared_nodes touched) (i ∷ []) (sole_segments (cut_segments x len)) i (has_head i []) in
            record {
              nodes = first_held touched (sole_nodes (i ∷ [])) (sole_segments (cut_segments x len));
              edits = join h s n locks (smalls ++ larges) (file_dated i (resized x when len [] None))
                  (join h s n locks smalls larges
                  (states_fit locks Fresh (blocks_between x (small_blocks_of len) x.blocks) (λ k d. segment (k / 1024) (Contains-append_left segments (large_cut x len) (k / 1024) (map_has (λ k. k / 1024) (blocks_between x (small_blocks_of len) x.blocks) k d))))
                  (larges_fit locks false (large_cut x len) (λ g d. segment g (Contains-append_right segments (large_cut x len) g d))))
                  (file_fits locks i x (resized x when len [] None) is own);
            }

        go : (b : Bool) → Ends (if b then refused reply.BadOffset touched else finish_over (cut_segments x len) (cut_by when i touched x len))
        go true = refuse_fine h s n touched touched reply.BadOffset (λ i c. c)
        go false = over h s n touched (cut_segments x len) (cut_by when i touched x len) segment fits
