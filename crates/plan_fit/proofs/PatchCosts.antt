-- How many bytes the patches of a block take in a record: five for each byte that differs at most, where none is forced, and never more than 1,262.
use Rattle.std.proofs.Common.{◌≡◌, ℕ, ◌+◌, ◌*◌, ◌≤◌, Bool, true, false, ◌&&◌, ◌==◌, nat_le, if◌then◌else◌, List, [], ◌∷◌, ◌++◌, length, drop, refl, arith, length-append, leb-true}
use Rattle.std.specs.List.{flat_map}
use Rattle.std.proofs.lemmas.Bool.{and_parts}
use Rattle.byteorder.specs.Endian.{little_bytes}
use Rattle.byteorder.specs.Numbers.{length-bytes_low_first}
use Rattle.frang_base.specs.declared.change.Patch.{Patch}
use Rattle.frang_base.specs.declared.change.Change.{Change}
use Rattle.disk_definitions.specs.Records.{patch_bytes, change_bytes}
use Rattle.sector_bytes.specs.Patches.{joined, runs_from, patches_with, are_apart}
use Rattle.sector_bytes.proofs.PatchLaws.{forced_patches_apart}
use Rattle.plan_fit.proofs.Differing.{differing, dropped}

-- four bytes beside those of each patch
abbrev pub cost : List Patch → ℕ
cost [] = 0
cost (p ∷ ps) = 4 + length p.bytes + cost ps

pub length_little : (n x : ℕ) → length (little_bytes n x) ≡ n
length_little n x = length-bytes_low_first 0 n x

pub length_patches : (ps : List Patch) → length (flat_map patch_bytes ps) ≡ cost ps
length_patches [] = refl
length_patches (p ∷ ps) =
    omega (
      arith,
      length-append (patch_bytes p) (flat_map patch_bytes ps),
      length-append (little_bytes 2 p.at) (little_bytes 2 (length p.bytes) ++ p.bytes),
      length-append (little_bytes 2 (length p.bytes)) p.bytes,
      length_little 2 p.at,
      length_little 2 (length p.bytes),
      length_patches ps,
    )

pub length_change : (c : Change) → length (change_bytes c) ≡ 18 + cost c.patches
length_change c =
    let ps = flat_map patch_bytes c.patches in
    omega (
      arith,
      length-append (little_bytes 8 c.sector.0) (little_bytes 8 c.version ++ little_bytes 2 (length c.patches) ++ ps),
      length-append (little_bytes 8 c.version) (little_bytes 2 (length c.patches) ++ ps),
      length-append (little_bytes 2 (length c.patches)) ps,
      length_little 8 c.sector.0,
      length_little 8 c.version,
      length_little 2 (length c.patches),
      length_patches c.patches,
    )

-- a byte more in front costs five at most
joined_cost : (at b : ℕ) (ps : List Patch) → cost (joined at b ps) ≤ 5 + cost ps
joined_cost at b [] = omega arith
joined_cost at b (p ∷ ps) = go (p.at == at + 1)
  where
    go : (t : Bool) → cost (if t then record { at = at; bytes = b ∷ p.bytes } ∷ ps else record { at = at; bytes = b ∷ [] } ∷ p ∷ ps) ≤ 5 + cost (p ∷ ps)
    go true = omega arith
    go false = omega arith

module _ (forced : ℕ → Bool) (none : (at : ℕ) → forced at ≡ false) where
  runs_cost : (old new : List ℕ) (at : ℕ) → cost (runs_from forced at old new) ≤ 5 * differing old new
  runs_cost [] new at = omega arith
  runs_cost (a ∷ old) [] at = omega arith
  runs_cost (a ∷ old) (b ∷ new) at = rw (none at) (go (runs_cost old new (at + 1)) (a == b))
    where
      go : cost (runs_from forced (at + 1) old new) ≤ 5 * differing old new → (t : Bool)
          → cost (if t then runs_from forced (at + 1) old new else joined at b (runs_from forced (at + 1) old new)) ≤ 5 * ((if t then 0 else 1) + differing old new)
      go l true = omega arith
      go l false = let m = joined_cost at b (runs_from forced (at + 1) old new) in omega arith

  -- where no place is forced
  pub cost_by_bytes : (old new : List ℕ) → cost (patches_with forced old new) ≤ 5 * differing old new
  cost_by_bytes old new = let l = runs_cost (drop 8 old) (drop 8 new) 8 in let m = dropped 8 old new in omega arith

-- patches that don't touch have a byte between them
apart_cost : (ps : List Patch) (from to : ℕ) → from ≤ to + 1 → are_apart from to ps ≡ true → 2 * cost ps + 5 * from ≤ 5 * (to + 1)
apart_cost [] from to l h = omega arith
apart_cost (p ∷ ps) from to l h =
    let end : ℕ = p.at + length p.bytes in
    let a = and_parts (nat_le from p.at && nat_le 1 (length p.bytes) && nat_le end to) (are_apart (end + 1) to ps) h in
    let b = and_parts (nat_le from p.at && nat_le 1 (length p.bytes)) (nat_le end to) a.0 in
    let c = and_parts (nat_le from p.at) (nat_le 1 (length p.bytes)) b.0 in
    let after : from ≤ p.at = leb-true from p.at c.0 in
    let some : 1 ≤ length p.bytes = leb-true 1 (length p.bytes) c.1 in
    let within : end ≤ to = leb-true end to b.1 in
    let rest : 2 * cost ps + 5 * (end + 1) ≤ 5 * (to + 1) = apart_cost ps (end + 1) to (omega arith) a.1 in
    omega arith

-- whatever places are forced
pub cost_at_most : (forced : ℕ → Bool) (old new : List ℕ) → length old ≡ 512 → cost (patches_with forced old new) ≤ 1262
cost_at_most forced old new long = let l = apart_cost (patches_with forced old new) 8 512 (omega arith) (forced_patches_apart forced old new long) in omega arith
