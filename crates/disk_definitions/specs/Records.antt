-- The body of a record: its changes as bytes, and which bytes are one.
use Rattle.std.specs.Prelude.{ℕ, zero, suc, ◌+◌, Bool, true, ◌&&◌, ◌≡◌, if◌then◌else◌, nat_le, Option, Some, None, List, [], ◌∷◌, ◌++◌, length, take, drop, IsTrue}
use Rattle.std.specs.List.{list_all, flat_map}
use Rattle.std.specs.Option.{option_and_then, option_map}
use Rattle.frang_base.specs.declared.limits.TheConstants.{RECORD_BYTES_MAX, RECORD_CHANGES_MAX}
use Rattle.byteorder.specs.Endian.{little_bytes}
use Rattle.frang_base.specs.declared.change.Patch.{Patch}
use Rattle.frang_base.specs.declared.change.Change.{Change}
use Rattle.sector_bytes.specs.Bytes.{number_at}
use Rattle.sector_bytes.specs.Changes.{is_change}

-- a patch: its place, its length, its bytes
abbrev pub patch_bytes : Patch → List ℕ
patch_bytes p = little_bytes 2 p.at ++ little_bytes 2 (length p.bytes) ++ p.bytes

-- a change: its sector, its version, how many patches, and these
abbrev pub change_bytes : Change → List ℕ
change_bytes c = little_bytes 8 c.sector.0 ++ little_bytes 8 c.version ++ little_bytes 2 (length c.patches) ++ flat_map patch_bytes c.patches

-- the body of a record: how many changes, and these
abbrev pub record_bytes : List Change → List ℕ
record_bytes changes = little_bytes 2 (length changes) ++ flat_map change_bytes changes

-- the sectors ascend, from one on
abbrev pub sectors_ascend : ℕ → List Change → Bool
sectors_ascend from [] = true
sectors_ascend from (c ∷ changes) = nat_le from c.sector.0 && sectors_ascend (c.sector.0 + 1) changes

-- a record has 1 to 32 changes, each well formed, in ascending order of their sectors, and at most 4,096 bytes
abbrev pub record_fits : List Change → Bool
record_fits changes =
    nat_le 1 (length changes) && nat_le (length changes) RECORD_CHANGES_MAX && list_all is_change changes && sectors_ascend 0 changes && nat_le (length (record_bytes changes)) RECORD_BYTES_MAX

-- the bytes are the body of a record with these changes
abbrev pub IsRecordBody : List ℕ → List Change → Type 0
IsRecordBody bytes changes = (bytes ≡ record_bytes changes) × IsTrue (record_fits changes)

-- the first of something, and the bytes behind it
abbrev pub Read : Type 0 → Type 0
Read A = Option (A × List ℕ)

-- so many bytes
abbrev pub bytes_read : ℕ → List ℕ → Read (List ℕ)
bytes_read n bytes = if nat_le n (length bytes) then Some (take n bytes, drop n bytes) else None

-- a number of n bytes
abbrev pub number_read : ℕ → List ℕ → Read ℕ
number_read n bytes = if nat_le n (length bytes) then Some (number_at n 0 bytes, drop n bytes) else None

-- so many of a thing, one behind the other
abbrev pub all_read : {A : Type 0} → (List ℕ → Read A) → ℕ → List ℕ → Read (List A)
all_read one zero bytes = Some ([], bytes)
all_read one (suc n) bytes = option_and_then (λ x. option_map (λ xs. (x.0 ∷ xs.0, xs.1)) (all_read one n x.1)) (one bytes)

abbrev pub patch_read : List ℕ → Read Patch
patch_read bytes =
    option_and_then (λ at. option_and_then (λ n. option_map (λ b. (record { at = at.0; bytes = b.0 }, b.1)) (bytes_read n.0 n.1)) (number_read 2 at.1)) (number_read 2 bytes)

abbrev pub change_read : List ℕ → Read Change
change_read bytes =
    option_and_then
    (λ s. option_and_then (λ v. option_and_then (λ n. option_map (λ ps. (record { sector = record { 0 = s.0 }; version = v.0; patches = ps.0 }, ps.1)) (all_read patch_read n.0 n.1)) (number_read 2 v.1)) (number_read 8 s.1))
    (number_read 8 bytes)

-- what is read where nothing is left behind it, if it may stand in a record
abbrev pub whole_record : List Change × List ℕ → Option (List Change)
whole_record (changes, []) = if record_fits changes then Some changes else None
whole_record (changes, b ∷ bytes) = None

-- the changes of the record whose body the bytes are
abbrev pub record_in : List ℕ → Option (List Change)
record_in bytes = option_and_then (λ n. option_and_then whole_record (all_read change_read n.0 n.1)) (number_read 2 bytes)
