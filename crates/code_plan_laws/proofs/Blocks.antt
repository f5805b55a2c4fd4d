-- What the three blocks of a fresh disk and a sector of zeros say.
use Rattle.std.proofs.Common.{◌≡◌, ◌≢◌, ℕ, zero, suc, ◌/◌, ◌%◌, ◌^◌, ◌==◌, ◌<◌, ◌≤◌, Bool, false, if◌then◌else◌, Some, None, [], length, slice_index, refl, sym, ap, ◌∙◌, arith}
use Rattle.std.proofs.Math.Nat.{zero-div, div-eq_of_lt}
use Rattle.std.proofs.Math.Path.{fun_ext}
use Rattle.std.proofs.lemmas.Nat.{pow_pos}
use Rattle.std.proofs.lemmas.Bool.Decides.{nat_tests}
use Rattle.std.proofs.lemmas.Bool.{le-ltb}
use Rattle.frang_base.specs.declared.bitmap.Bitmap.{Bitmap}
use Rattle.tree_definitions.specs.declared.node.Node.TheVariants.{Dir}
use Rattle.disk_definitions.specs.declared.inode.Inode.{Inode}
use Rattle.sector_bytes.specs.Bytes.{number_at, zeros}
use Rattle.disk_definitions.specs.Params.{param_bytes, param_in}
use Rattle.disk_definitions.specs.Bitmaps.{bitmap_bytes, bitmap_in, inode_bit}
use Rattle.disk_definitions.specs.Inodes.{inode_bytes, inode_in}
use Rattle.disk_definitions.proofs.ParamLaws.{param_back}
use Rattle.disk_definitions.specs.Store.{StoredNode, stored_node}
use Rattle.disk_definitions.specs.Naming.{first_blocks, inode_of}
use Rattle.disk_definitions.specs.FreshDisk.{fresh_param, first_bitmap, root_inode}

-- zeros are 0 at every place
zero_at : (n j : ℕ) → slice_index (zeros n) j ≡ 0
unfolding zeros
zero_at zero j = refl
zero_at (suc n) zero = refl
zero_at (suc n) (suc j) = zero_at n j

-- a segment of which nothing is in use
abbrev pub free_bitmap : Bitmap
free_bitmap = record { version = 0; inodes = 0; states = zeros 256; large = false }

-- ---- what the blocks are read as

pub param_reads : (segments : ℕ) → 1 ≤ segments → segments ≤ 64 → param_in (param_bytes (fresh_param segments)) ≡ Some (fresh_param segments)
param_reads segments some few = param_back (fresh_param segments) (grind (arith, nat_tests))

pub first_reads : bitmap_in (bitmap_bytes first_bitmap) ≡ Some first_bitmap
unfolding zeros
first_reads = refl

pub zeros_read : bitmap_in (zeros 512) ≡ Some free_bitmap
unfolding zeros
zeros_read = refl

pub root_reads : inode_in (inode_bytes root_inode) ≡ Some root_inode
unfolding zeros
root_reads = refl

-- a free inode
abbrev free_inode : Inode
free_inode = record { version = 0; kind = 0; links = 0; blocks = 0; size = 0; birth = 0; small = zeros 16; large = 0; when = 0; target = zeros 384 }

pub free_reads : inode_in (zeros 512) ≡ Some free_inode
unfolding zeros
free_reads = refl

-- ---- what is stored

pub none_stored : stored_node (inode_in (zeros 512)) ≡ None
unfolding zeros
none_stored = refl

abbrev node : (ℕ → ℕ) → StoredNode
node small = record { kind = 2; links = 1; size = 0; birth = 0; blocks = 0; small = small; large = 0; when = 0; target = [] }

pub root_stored : stored_node (inode_in (inode_bytes root_inode)) ≡ Some (inode_of 0 (λ j. 0) 0 (Dir [] 0))
root_stored =
    let small : slice_index (zeros 16) ≡ first_blocks 0 (λ j. 0) = fun_ext (λ j. zero_at 16 j ∙ sym (ap (λ (t : Bool). if t then 0 else 0) (le-ltb j 0 (omega arith)))) in
    ap stored_node root_reads ∙ ap (λ (f : ℕ → ℕ). Some (node f)) small

-- ---- bits and states

pub no_state : (j : ℕ) → (slice_index (zeros 256) (j / 4) / 4 ^ (j % 4)) % 4 ≡ 0
no_state j = ap (λ (v : ℕ). (v / 4 ^ (j % 4)) % 4) (zero_at 256 (j / 4)) ∙ ap (λ (v : ℕ). v % 4) (zero-div (4 ^ (j % 4)))

pub no_bit : (j : ℕ) → inode_bit free_bitmap j ≡ false
no_bit j = ap (λ (v : ℕ). v % 2 == 1) (zero-div (2 ^ j))

-- two to a power above 0 is above 1
above_one : (j : ℕ) → j ≢ 0 → 1 < 2 ^ j
above_one zero far = absurd (far refl)
above_one (suc j) far = let some = pow_pos j in omega arith

pub one_bit : (j : ℕ) → j ≢ 0 → inode_bit first_bitmap j ≡ false
one_bit j far = ap (λ (v : ℕ). v % 2 == 1) (div-eq_of_lt (above_one j far))

-- ---- versions and lengths

pub first_version : number_at 8 0 (bitmap_bytes first_bitmap) ≤ 1
first_version = omega arith

pub root_version : number_at 8 0 (inode_bytes root_inode) ≤ 1
root_version = omega arith

pub param_long : (segments : ℕ) → length (param_bytes (fresh_param segments)) ≡ 512
unfolding zeros
param_long segments = refl

pub first_long : length (bitmap_bytes first_bitmap) ≡ 512
unfolding zeros
first_long = refl

pub root_long : length (inode_bytes root_inode) ≡ 512
unfolding zeros
root_long = refl
