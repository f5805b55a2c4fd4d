-- What is picked of the held segments.
use Rattle.std.specs.Prelude.{ℕ, zero, suc, ◌*◌, Bool, false, not, ◌==◌, if◌then◌else◌, Option, Some, None, List, [], ◌∷◌}
use Rattle.std.specs.Option.{option_map, option_and_then}
use Rattle.frang_base.specs.declared.limits.TheConstants.{SEGMENTS_MAX, SEGMENT_BLOCKS, SEGMENT_INODES}
use Rattle.disk_definitions.specs.declared.want.Use.{Use}
use Rattle.disk_definitions.specs.declared.want.Use.TheVariants.{Bytes, Directory}
use Rattle.disk_definitions.specs.Least.{least}
use Rattle.disk_definitions.specs.Held.{Segments, inode_in, state_in, large_in}

-- held and free
abbrev pub is_free : Option Bool → Bool
is_free None = false
is_free (Some used) = not used

-- held and in this state
abbrev pub is_in_state : ℕ → Option ℕ → Bool
is_in_state state None = false
is_in_state state (Some found) = found == state

-- an inode: the least that is free
abbrev pub picked_inode : Segments → Option ℕ
picked_inode held = least (λ inode. is_free (inode_in held inode)) (SEGMENT_INODES * SEGMENTS_MAX)

-- a large block: the least that is free
abbrev pub picked_large : Segments → Option ℕ
picked_large held = least (λ segment. is_free (large_in held segment)) SEGMENTS_MAX

-- the least small block in this state
abbrev pub least_in_state : ℕ → (ℕ → Option ℕ) → Option ℕ
least_in_state state states = least (λ block. is_in_state state (states block)) (SEGMENT_BLOCKS * SEGMENTS_MAX)

abbrev pub or_else : Option ℕ → Option ℕ → Option ℕ
or_else None second = second
or_else (Some first) second = Some first

-- a small block for bytes of a file: the least that is free and was never a directory's
abbrev pub picked_bytes : Segments → Option ℕ
picked_bytes held = least_in_state 0 (state_in held)

-- a small block for a directory: the least that is free and was a directory's; where there is none, the least that never was
abbrev pub picked_directory : Segments → Option ℕ
picked_directory held = or_else (least_in_state 2 (state_in held)) (least_in_state 0 (state_in held))

abbrev pub picked_small : Segments → Use → Option ℕ
picked_small held Bytes = picked_bytes held
picked_small held Directory = picked_directory held

-- the states once one block has this one
abbrev pub with_state_at : (ℕ → Option ℕ) → ℕ → ℕ → ℕ → Option ℕ
with_state_at states block state other = if other == block then Some state else states other

-- so many small blocks for bytes of a file, picked one after another, each taken before the next is picked; None where a pick finds none
unfoldable pub picks : (ℕ → Option ℕ) → ℕ → Option (List ℕ)
picks states zero = Some []
picks states (suc more) =
    option_and_then (λ block. option_map (λ blocks. block ∷ blocks) (picks (with_state_at states block 1) more)) (least_in_state 0 states)

abbrev pub picked_many : Segments → ℕ → Option (List ℕ)
picked_many held many = picks (state_in held) many
