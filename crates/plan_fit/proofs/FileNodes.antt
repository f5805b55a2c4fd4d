-- The inode of a file with another size and time may stand in its sector.
use Rattle.std.proofs.Common.{◌≡◌, ℕ, ◌-◌, ◌^◌, ◌<◌, ◌≤◌, ⊎_elim, Bool, true, false, ◌||◌, ◌==◌, nat_lt, nat_le, if◌then◌else◌, Option, Some, List, slice_index, refl, ◌∙◌, arith, eqb-true, leb-true}
use Rattle.std.proofs.lemmas.Bool.{and_from, or_cases, eq-eqb, le-ltb, le-leb}
use Rattle.tree_definitions.specs.Tree.{small_blocks_of}
use Rattle.disk_definitions.specs.declared.inode.Inode.{Inode}
use Rattle.sector_bytes.specs.Bytes.{are_zero}
use Rattle.disk_definitions.specs.Inodes.{inode_fits, ends_blocks, is_free_inode, is_file_inode, is_directory_inode, is_link_inode}
use Rattle.disk_definitions.proofs.Readings.{and_l, and_r}
use Rattle.disk_definitions.proofs.Lists.{ends_at}
use Rattle.disk_definitions.specs.Store.{StoredNode}
use Rattle.disk_definitions.specs.Written.{padded, inode_with}
use Rattle.disk_definitions.specs.FilePlans.{large_after, resized}
use Rattle.disk_definitions.specs.FitEdits.{IsFitNode}

-- ---- what fits of a file

-- whether it has a large block goes by its size
abbrev pub goes_by_size : ℕ → ℕ → Bool
goes_by_size size large = if nat_lt 65536 size then nat_lt 0 large else large == 0

pub record IsFitFile (x : StoredNode) : Type 0 where
  pub some : 1 ≤ x.links
  pub most : x.links ≤ 1000
  pub size : x.size ≤ 1114112
  pub blocks : x.blocks ≡ small_blocks_of x.size
  pub large : goes_by_size x.size x.large ≡ true
  pub target : are_zero (padded 384 x.target) ≡ true

-- an inode of this kind that fits is a file's
file_of : (y : Inode) → inode_fits y ≡ true → y.kind ≡ 1 → is_file_inode y ≡ true
file_of y h k = ⊎_elim
    (λ r. ⊎_elim
    (λ r. ⊎_elim (λ e. absurd (free e)) (λ e. e) (or_cases (is_free_inode y) (is_file_inode y) r))
    (λ e. absurd (directory e)) (or_cases (is_free_inode y || is_file_inode y) (is_directory_inode y) r))
    (λ e. absurd (link e)) (or_cases (is_free_inode y || is_file_inode y || is_directory_inode y) (is_link_inode y) h)
  where
    free : is_free_inode y ≡ true → ⊥
    free h = let kind : y.kind == 0 ≡ true = search (and_l, and_r) depth 12 in let z : y.kind ≡ 0 = eqb-true y.kind 0 kind in omega arith

    directory : is_directory_inode y ≡ true → ⊥
    directory h = let kind : y.kind == 2 ≡ true = search (and_l, and_r) depth 12 in let z : y.kind ≡ 2 = eqb-true y.kind 2 kind in omega arith

    link : is_link_inode y ≡ true → ⊥
    link h = let kind : y.kind == 3 ≡ true = search (and_l, and_r) depth 12 in let z : y.kind ≡ 3 = eqb-true y.kind 3 kind in omega arith

file_parts : (y : Inode) → is_file_inode y ≡ true → (1 ≤ y.links) × (y.links ≤ 1000) × (y.size ≤ 1114112) × (y.blocks ≡ small_blocks_of y.size) × (goes_by_size y.size y.large ≡ true) × (are_zero y.target ≡ true)
file_parts y h =
    let some : nat_le 1 y.links ≡ true = search (and_l, and_r) depth 12 in
    let most : nat_le y.links 1000 ≡ true = search (and_l, and_r) depth 12 in
    let size : nat_le y.size 1114112 ≡ true = search (and_l, and_r) depth 12 in
    let blocks : y.blocks == small_blocks_of y.size ≡ true = search (and_l, and_r) depth 12 in
    let large : goes_by_size y.size y.large ≡ true = search (and_l, and_r) depth 12 in
    let target : are_zero y.target ≡ true = search (and_l, and_r) depth 12 in
    (leb-true 1 y.links some, leb-true y.links 1000 most, leb-true y.size 1114112 size, eqb-true y.blocks (small_blocks_of y.size) blocks, large, target)

pub fit_file : (x : StoredNode) → IsFitNode x → x.kind ≡ 1 → IsFitFile x
fit_file x fit k =
    let p = file_parts (inode_with 0 (Some x)) (file_of (inode_with 0 (Some x)) fit.fits k) in
    record { some = p.0; most = p.1; size = p.2; blocks = p.3; large = p.4; target = p.5 }

-- ---- the inode with another size and time

file_fits : (y : Inode) → y.kind ≡ 1 → 1 ≤ y.links → y.links ≤ 1000 → y.size ≤ 1114112 → y.blocks ≡ small_blocks_of y.size → ends_blocks y ≡ true → goes_by_size y.size y.large ≡ true → are_zero y.target ≡ true → inode_fits y ≡ true
file_fits y kind some most size blocks last large target =
    among (is_free_inode y) (is_file_inode y) (is_directory_inode y) (is_link_inode y)
    (and_from _ _ (and_from _ _ (and_from _ _ (and_from _ _ (and_from _ _ (and_from _ _ (and_from _ _ (eq-eqb y.kind 1 kind) (le-leb 1 y.links some)) (le-leb y.links 1000 most)) (le-leb y.size 1114112 size)) (eq-eqb y.blocks (small_blocks_of y.size) blocks)) last) large) target)
  where
    among : (a b c d : Bool) → b ≡ true → (a || b || c || d) ≡ true
    among true b c d e = refl
    among false b c d e = rw e refl

module _ (x : StoredNode) (when size : ℕ) (picks : List ℕ) (o : Option ℕ) where
  small_past : (j : ℕ) → small_blocks_of size ≤ j → (resized x when size picks o).small j ≡ 0
  small_past j l = rw (le-ltb j (small_blocks_of size) l) refl

  small_most : ((j : ℕ) → x.small j < 2 ^ 32) → ((j : ℕ) → slice_index picks j < 2 ^ 32) → (j : ℕ) → (resized x when size picks o).small j < 2 ^ 32
  small_most own new j = go (nat_lt j (small_blocks_of size)) (nat_lt j x.blocks)
    where
      go : (b c : Bool) → (if b then (if c then x.small j else slice_index picks (j - x.blocks)) else 0) < 2 ^ 32
      go true true = own j
      go true false = new (j - x.blocks)
      go false c = omega arith

  pub resized_fits : IsFitNode x → x.kind ≡ 1 → when < 2 ^ 64 → size ≤ 1114112 → ((j : ℕ) → slice_index picks j < 2 ^ 32) → large_after x o size < 2 ^ 32 → goes_by_size size (large_after x o size) ≡ true → IsFitNode (resized x when size picks o)
  resized_fits fit k late most new large by_size =
      let f = fit_file x fit k in
      record {
        fits = file_fits (inode_with 0 (Some (resized x when size picks o))) k f.some f.most most refl (ends_at (resized x when size picks o).small (small_blocks_of size) small_past) by_size f.target;
        used = fit.used;
        birth = fit.birth;
        small = small_most fit.small new;
        past = λ j l. small_past j (omega arith);
        large = large;
        when = late;
        target = fit.target ∙ rw k refl;
      }
