-- The parts of directories in which a name stands that stands before.
use Rattle.std.specs.Prelude.{ℕ, ◌+◌, ◌*◌, ◌/◌, ◌%◌, ◌==◌, Bool, false, ◌&&◌, if◌then◌else◌, Option, Some, None}
use Rattle.frang_base.specs.declared.limits.TheConstants.{BLOCK_ENTRIES, KIND_DIRECTORY, SECTOR_ENTRIES, SMALL_BLOCK_SECTORS}
use Rattle.disk_definitions.specs.Store.{Store, StoredNode, StoredEntry}
use Rattle.standing_laws.specs.Below.{any_below, lists}
use Rattle.standing_laws.specs.ReadTree.{place_at}
use Rattle.report_definitions.specs.Rules.{is_new_at}

-- the part of a place whose name stands before, 8 to a block
abbrev pub repeat_at : (ℕ → Option StoredEntry) → (ℕ → ℕ) → ℕ → Option ℕ
repeat_at place small q = if is_new_at place q (place q) then None else Some (SMALL_BLOCK_SECTORS * small (q / BLOCK_ENTRIES) + q % BLOCK_ENTRIES / SECTOR_ENTRIES)

-- a directory has such a name in a part
abbrev pub repeats_in : Store → Option StoredNode → ℕ → Bool
repeats_in s None k = false
repeats_in s (Some x) k = x.kind == KIND_DIRECTORY && lists (repeat_at (place_at s x) x.small) (BLOCK_ENTRIES * x.blocks) k

-- one of the first n inodes that is reached and a directory does
abbrev pub repeats_to : Store → (ℕ → Bool) → ℕ → ℕ → Bool
repeats_to s reached n k = any_below n (λ d. reached d && repeats_in s (s.inode d) k)
