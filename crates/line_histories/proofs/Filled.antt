-- The sectors that hold bytes of files below their sizes: blocks of their files, which a line doesn't give back, and whose bytes are written.
use Rattle.std.proofs.Common.{ℕ, ◌≡◌, ◌<◌, ◌≤◌, ◌+◌, ◌-◌, ◌⊎◌, ◌*◌, ◌/◌, ◌%◌, ⊎_elim, Bool, true, false, nat_lt, if◌then◌else◌, Some, None, is_some, List, [], ◌∷◌, length, refl, sym, ◌∙◌, ap, subst, arith}
use Rattle.std.proofs.lemmas.Bool.{cases_lt, lt-ltb}
use Rattle.std.proofs.lemmas.Bool.Decides.{nat_tests}
use Rattle.std.specs.BTreeMap.{is_at}
use Rattle.std.specs.List.{Contains, flat_map, cons_option}
use Rattle.std.specs.Ordering.{nat_cmp}
use Rattle.frang_base.specs.Functions.{member}
use Rattle.tree_definitions.proofs.Pairs.{birth_exact, self}
use Rattle.sector_bytes.specs.SectorMaps.{value_at}
use Rattle.sector_bytes.specs.Sectors.{Sectors}
use Rattle.disk_definitions.specs.declared.region.Region.TheVariants as region
use Rattle.disk_definitions.specs.Regions.{sector_of}
use Rattle.disk_definitions.proofs.RegionLaws.{region_once}
use Rattle.tree_definitions.specs.Numbers.{below}
use Rattle.tree_definitions.specs.declared.node.Node.{Node}
use Rattle.tree_definitions.specs.declared.node.Node.TheVariants.{Dir, File, Link}
use Rattle.tree_definitions.specs.Tree.{FileTree, node_at, small_blocks_of}
use Rattle.tree_definitions.specs.Touched.{shape_of}
use Rattle.disk_definitions.specs.Naming.{Naming, Pictures, use_for, use_by, inode_of}
use Rattle.disk_definitions.specs.Store.{Store, is_unused}
use Rattle.disk_definitions.specs.Store.Use.{Fresh, Bytes, Empty, Entries}
use Rattle.disk_definitions.specs.Edits.{Edit}
use Rattle.disk_definitions.specs.Edits.Edit.{SetInode, SetBit, SetUse, SetPlace, SetLarge, SetBytes, SetLargeBytes}
use Rattle.disk_definitions.specs.ChangeLaws.{FilesFit}
use Rattle.disk_definitions.specs.Ask.{Sector, InodeAt, DirectoryAt, SegmentAt, BytesAt, LargeAt, number_of}
use Rattle.disk_definitions.specs.FitEdits.{AreFit}
use Rattle.disk_definitions.specs.Meets.{IsOfTree}
use Rattle.disk_definitions.specs.Written.{edit_sector, edited_block, is_metadata, byte_writes, sectors_given_back, freed_sectors}
use Rattle.disk_definitions.proofs.NodeLaws.{first_is}
use Rattle.plan_laws.proofs.Covering.{has_cases, not_in_none}
use Rattle.plan_laws.specs.Looked.{edited_at}
use Rattle.plan_laws.proofs.Standing.{node_of}
use Rattle.plan_laws.proofs.Filled.{flat_from}
use Rattle.plan_fit.proofs.Kept.{in_small, in_large}
use Rattle.line_histories.specs.Files.{file_sector, HoldsBytes, IsWritten}
use Rattle.line_histories.specs.LinePlans.{store_on}
use Rattle.line_histories.proofs.Apart.{one_fit}
use Rattle.line_histories.proofs.Changes.{ascending_member}
use Rattle.line_histories.proofs.Lists.{member_has, has_map}
use Rattle.line_histories.proofs.Owned.{below_less}
use Rattle.line_histories.specs.Standing.{StandsForShape}
use Rattle.line_histories.proofs.Disks.{blank_of, files_fit_now}

-- ---- what is written has a value

write_at : (e : Edit) (x : Sector) → is_metadata e ≡ false → edited_at e ≡ x → edit_sector e ≡ number_of x
write_at (SetBytes k part bytes) x m h = ap number_of h
write_at (SetLargeBytes g part bytes) x m h = ap number_of h
write_at (SetInode i y dated) x m h = absurd (cc)
write_at (SetBit i b) x m h = absurd (cc)
write_at (SetUse k u) x m h = absurd (cc)
write_at (SetPlace k p y) x m h = absurd (cc)
write_at (SetLarge g b) x m h = absurd (cc)

has_value : (edits : List Edit) (e : Edit) (s : ℕ) → Contains edits e → is_metadata e ≡ false → edit_sector e ≡ s → is_some (value_at (byte_writes edits) s) ≡ true
has_value [] e s c m h = absurd (not_in_none e c)
has_value (d ∷ ds) e s c m h = go (is_metadata d) refl (has_cases d e ds c) (λ r. has_value ds e s r m h)
  where
    go : (b : Bool) → is_metadata d ≡ b → (d ≡ e) ⊎ Contains ds e → (Contains ds e → is_some (value_at (byte_writes ds) s) ≡ true) → is_some (value_at (cons_option (if b then None else Some (edit_sector d, edited_block [] 0 d)) (byte_writes ds)) s) ≡ true
    go true i c rest = ⊎_elim (λ q. absurd (let z : true ≡ false = sym i ∙ ap is_metadata q ∙ m in cc)) rest c
    go false i c rest = at (is_at (nat_cmp s) (edit_sector d)) refl
      where
        itself : is_at (nat_cmp s) s ≡ true
        itself = self nat_cmp birth_exact s

        at : (b : Bool) → is_at (nat_cmp s) (edit_sector d) ≡ b → is_some (if b then Some (edited_block [] 0 d) else value_at (byte_writes ds) s) ≡ true
        at true q = refl
        at false q = ⊎_elim (λ same. absurd (let z : true ≡ false = sym itself ∙ ap (is_at (nat_cmp s)) (sym h ∙ sym (ap edit_sector same)) ∙ q in cc)) rest c

pub written_value : (edits : List Edit) (x : Sector) → IsWritten edits x → is_some (value_at (byte_writes edits) (number_of x)) ≡ true
written_value edits x w = has_value edits w.edit (number_of x) w.among w.bytes (write_at w.edit x w.bytes w.here)

-- ---- blocks of files

-- the sector is one of a block that is in use for bytes
abbrev pub IsInUse : ℕ → Store → Sector → Type 0
IsInUse segments s (BytesAt k part) = (s.use_of k ≡ Bytes) × (k < 1024 * segments) × (part < 8)
IsInUse segments s (LargeAt g part) = (s.large_bit g ≡ true) × (g < segments) × (part < 2048)
IsInUse segments s _ = ⊥

module _ (s : Store) (tree : FileTree) (n : Naming) (of : IsOfTree s tree n) (fit : FilesFit (node_at tree)) where
  abbrev g : Pictures s (node_at tree) n
  g = of.pictures

  small_in_use : (b j k : ℕ) (node : Node) → node_at tree b ≡ Some node → use_by (Some node) ≡ Bytes → n.owner k ≡ Some (b, j) → (s.use_of k ≡ Bytes) × (k < 1024 * tree.segments)
  small_in_use b j k node is bytes o =
      let u : s.use_of k ≡ Bytes = g.uses k ∙ ap (use_for (n.was k) (node_at tree)) o ∙ ap use_by is ∙ bytes in
      (u, ⊎_elim (λ l. l) (λ l. absurd (let z : Fresh ≡ Bytes = sym (of.blocks k l) ∙ u in cc)) (cases_lt k (1024 * tree.segments)))

  pub in_use : (x : Sector) → HoldsBytes s x → IsInUse tree.segments s x
  in_use x holds = let r = node_of s (node_at tree) n g holds.inode holds.node holds.is in subst (IsInUse tree.segments s) holds.here (by_node r.birth r.node r.is r.inode)
    where
      by_node : (b : ℕ) (node : Node) → node_at tree b ≡ Some node → holds.node ≡ inode_of (n.stamp b) (n.block b) (n.large b) node → IsInUse tree.segments s (file_sector holds.node holds.index)
      by_node b (Dir entries blocks) is q = absurd (let z : 2 ≡ 1 = sym (ap (λ z. z.kind) q) ∙ holds.kind in cc)
      by_node b (Link target links) is q = absurd (let z : 3 ≡ 1 = sym (ap (λ z. z.kind) q) ∙ holds.kind in cc)
      by_node b (File cells links when) is q = go (nat_lt holds.index 128) refl
        where
          within : 512 * holds.index < length cells
          within = subst (λ m. 512 * holds.index < m) (ap (λ z. z.size) q) holds.below

          long : length cells ≤ 1114112
          long = fit b links when cells is

          go : (c : Bool) → nat_lt holds.index 128 ≡ c → IsInUse tree.segments s (if c then BytesAt (holds.node.small (holds.index / 8)) (holds.index % 8) else LargeAt (holds.node.large - 1) (holds.index - 128))
          go true e =
              let low : holds.index < 128 = grind (arith, nat_tests) in
              let inside : 512 * holds.index < length cells = within in
              let l : holds.index / 8 < small_blocks_of (length cells) = omega arith in
              let k : holds.node.small (holds.index / 8) ≡ n.block b (holds.index / 8) = ap (λ z. z.small (holds.index / 8)) q ∙ first_is (small_blocks_of (length cells)) (n.block b) (holds.index / 8) l in
              let r = small_in_use b (holds.index / 8) (holds.node.small (holds.index / 8)) (File cells links when) is refl (ap n.owner k ∙ g.owned b (holds.index / 8) (rw is l)) in
              (r.0, r.1, omega arith)
          go false e =
              let high : 128 ≤ holds.index = grind (arith, nat_tests) in
              let inside : 512 * holds.index < length cells = within in
              let short : length cells ≤ 1114112 = long in
              let more : 65536 < length cells = omega arith in
              let a : holds.node.large ≡ n.large b + 1 = ap (λ z. z.large) q ∙ rw (lt-ltb 65536 (length cells) more) refl in
              let k : holds.node.large - 1 ≡ n.large b = omega arith in
              let o : n.large_owner (holds.node.large - 1) ≡ Some b = ap n.large_owner k ∙ g.larges b (rw is (lt-ltb 65536 (length cells) more)) in
              let bit : s.large_bit (holds.node.large - 1) ≡ true = g.large_bits (holds.node.large - 1) ∙ ap is_some o in
              (bit, of.larges (holds.node.large - 1) bit, omega arith)

-- over sectors that stand for the shape of a tree
pub file_in_use : (segments : ℕ) (disk : Sectors) (tree : FileTree) → StandsForShape segments disk tree → (x : Sector) → HoldsBytes (store_on segments disk) x → IsInUse segments (store_on segments disk) x
file_in_use count disk tree stands = subst (λ k. (x : Sector) → HoldsBytes (store_on k disk) x → IsInUse k (store_on k disk) x) stands.as_many own
  where
    own : (x : Sector) → HoldsBytes (store_on tree.segments disk) x → IsInUse tree.segments (store_on tree.segments disk) x
    own =
        let here : StandsForShape tree.segments disk tree = record { well_formed = stands.well_formed; as_many = refl; below = stands.below; zeros = stands.zeros } in
        in_use (store_on tree.segments disk) (shape_of tree) stands.below.stands.naming (blank_of disk tree here) (files_fit_now disk tree here)

-- ---- they aren't given back

module _ (segments : ℕ) (few : segments ≤ 64) (end : Store) (edits : List Edit) (fit : AreFit segments end edits) (small : (k : ℕ) → Contains edits (SetUse k Fresh) → is_unused (end.use_of k) ≡ true) (large : (g : ℕ) → Contains edits (SetLarge g false) → end.large_bit g ≡ false) where
  small_kept : (x : Sector) → IsInUse segments end x → (k part : ℕ) → Contains edits (SetUse k Fresh) → part < 8 → sector_of (region.Small k part) ≡ number_of x → ⊥
  small_kept (BytesAt j p) u k part c l e =
      let same = region_once segments (region.Small k part) (region.Small j p) few (in_small segments k part (one_fit segments end edits (SetUse k Fresh) fit c).0 l) (in_small segments j p u.1 u.2) e in
      let here : k ≡ j = cc in
      let z : false ≡ true = sym (ap is_unused (ap end.use_of here ∙ u.0)) ∙ small k c in
      absurd (cc)
  small_kept (LargeAt g p) u k part c l e =
      let same = region_once segments (region.Small k part) (region.Large g p) few (in_small segments k part (one_fit segments end edits (SetUse k Fresh) fit c).0 l) (in_large segments g p u.1 u.2) e in
      absurd (cc)
  small_kept (InodeAt i) u k part c l e = u
  small_kept (SegmentAt i) u k part c l e = u
  small_kept (DirectoryAt i p) u k part c l e = u

  large_kept : (x : Sector) → IsInUse segments end x → (g part : ℕ) → Contains edits (SetLarge g false) → part < 2048 → sector_of (region.Large g part) ≡ number_of x → ⊥
  large_kept (LargeAt j p) u g part c l e =
      let same = region_once segments (region.Large g part) (region.Large j p) few (in_large segments g part (one_fit segments end edits (SetLarge g false) fit c).0 l) (in_large segments j p u.1 u.2) e in
      let here : g ≡ j = cc in
      let z : true ≡ false = sym (ap end.large_bit here ∙ u.0) ∙ large g c in
      absurd (cc)
  large_kept (BytesAt k p) u g part c l e =
      let same = region_once segments (region.Large g part) (region.Small k p) few (in_large segments g part (one_fit segments end edits (SetLarge g false) fit c).0 l) (in_small segments k p u.1 u.2) e in
      absurd (cc)
  large_kept (InodeAt i) u g part c l e = u
  large_kept (SegmentAt i) u g part c l e = u
  large_kept (DirectoryAt i p) u g part c l e = u

  back_kept : (x : Sector) → IsInUse segments end x → (e : Edit) → Contains edits e → Contains (sectors_given_back e) (number_of x) → ⊥
  back_kept x u (SetUse k Fresh) c d = let r = has_map (λ part. sector_of (region.Small k part)) (below 8) (number_of x) d in small_kept x u k r.0 c (below_less 8 r.0 r.1) r.2
  back_kept x u (SetLarge g false) c d = let r = has_map (λ part. sector_of (region.Large g part)) (below 2048) (number_of x) d in large_kept x u g r.0 c (below_less 2048 r.0 r.1) r.2
  back_kept x u (SetUse k Bytes) c d = not_in_none (number_of x) d
  back_kept x u (SetUse k Empty) c d = not_in_none (number_of x) d
  back_kept x u (SetUse k Entries) c d = not_in_none (number_of x) d
  back_kept x u (SetLarge g true) c d = not_in_none (number_of x) d
  back_kept x u (SetInode i y dated) c d = not_in_none (number_of x) d
  back_kept x u (SetBit i b) c d = not_in_none (number_of x) d
  back_kept x u (SetPlace k p y) c d = not_in_none (number_of x) d
  back_kept x u (SetBytes k part bytes) c d = not_in_none (number_of x) d
  back_kept x u (SetLargeBytes g part bytes) c d = not_in_none (number_of x) d

  pub not_given : (x : Sector) → IsInUse segments end x → member (number_of x) (freed_sectors edits) ≡ false
  not_given x u = go (member (number_of x) (freed_sectors edits)) refl
    where
      go : (b : Bool) → member (number_of x) (freed_sectors edits) ≡ b → b ≡ false
      go false e = refl
      go true e =
          let r = flat_from sectors_given_back edits (number_of x) (member_has (number_of x) (flat_map sectors_given_back edits) (sym (ascending_member (number_of x) (flat_map sectors_given_back edits)) ∙ e)) in
          absurd (back_kept x u r.0 r.1 r.2)
