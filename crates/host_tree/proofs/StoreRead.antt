-- What the sectors that were read say at each place of a directory and of each inode.
use Rattle.std.proofs.Common.{◌≡◌, ℕ, ◌+◌, ◌*◌, ◌/◌, ◌%◌, ◌<◌, ◌≤◌, cond, Option, None, nat_lt, refl, sym, ap, ap₂, ◌∙◌, arith, lt-ltb, le-ltb}
use Rattle.std.proofs.Math.Nat.{div-add-mod, mod-lt}
use Rattle.std.proofs.lemmas.Nat.{div-mul-add, mod-mul-add}
use Rattle.sector_bytes.specs.Sectors.{sectors_of}
use Rattle.disk_definitions.specs.declared.region.Region.TheVariants as region
use Rattle.disk_definitions.specs.Directories.{directory_in}
use Rattle.disk_definitions.specs.Inodes.{inode_in}
use Rattle.disk_definitions.specs.Naming.{place_of}
use Rattle.disk_definitions.specs.Regions.{sector_of}
use Rattle.disk_definitions.specs.Store.{StoredEntry, entry_in, stored_node}
use Rattle.core_definitions.specs.Trees.{TreeRead}
use Rattle.host_tree.specs.Reading.{store_read}

-- a quotient and a rest
parts_of : (a b m n : ℕ) → b < m → n ≡ a * m + b → (n / m ≡ a) × (n % m ≡ b)
parts_of a b m n h e = (ap (λ (k : ℕ). k / m) e ∙ div-mul-add a m b h, ap (λ (k : ℕ). k % m) e ∙ mod-mul-add a m b h)

-- place p of sector j of a directory, 8 sectors of 7 places to a block
place_parts : (j p : ℕ) → p < 7 → ((7 * j + p) / 56 ≡ j / 8) × ((7 * j + p) % 56 ≡ (j % 8) * 7 + p)
place_parts j p h =
    let e : 8 * (j / 8) + j % 8 ≡ j = div-add-mod j 8 in
    let l : j % 8 < 8 = mod-lt j (omega arith) in
    parts_of (j / 8) ((j % 8) * 7 + p) 56 (7 * j + p) (omega (arith, h, l)) (omega (arith, e))

module _ (segments : ℕ) (read : TreeRead) (small : ℕ → ℕ) (j p : ℕ) (few : p < 7) where
  abbrev block : ℕ
  block = small (j / 8)

  abbrev of_part : ℕ → ℕ → Option StoredEntry
  of_part part place = cond (nat_lt block (1024 * segments)) (entry_in (directory_in (sectors_of read (sector_of (region.Small block part)))) place) None

  pub part_said : place_of (store_read segments read).place small (7 * j + p) ≡ of_part (j % 8) p
  unfolding store_read
  part_said =
      let at = place_parts j p few in
      let within = parts_of (j % 8) p 7 ((j % 8) * 7 + p) few refl in
      ap₂ (λ a q. cond (nat_lt (small a) (1024 * segments)) (entry_in (directory_in (sectors_of read (sector_of (region.Small (small a) (q / 7))))) (q % 7)) None) at.0 at.1
      ∙ ap₂ of_part within.0 within.1

  pub past_said : 1024 * segments ≤ block → place_of (store_read segments read).place small (7 * j + p) ≡ None
  past_said past = part_said ∙ ap (λ b. cond b (entry_in (directory_in (sectors_of read (sector_of (region.Small block (j % 8))))) p) None) (le-ltb block (1024 * segments) past)

  pub inside_said : block < 1024 * segments → place_of (store_read segments read).place small (7 * j + p) ≡ entry_in (directory_in (sectors_of read (sector_of (region.Small block (j % 8))))) p
  inside_said inside = part_said ∙ ap (λ b. cond b (entry_in (directory_in (sectors_of read (sector_of (region.Small block (j % 8))))) p) None) (lt-ltb block (1024 * segments) inside)

pub past_inode : (segments : ℕ) (read : TreeRead) (i : ℕ) → 64 * segments ≤ i → None ≡ (store_read segments read).inode i
unfolding store_read
past_inode segments read i past = sym (ap (λ b. cond b (stored_node (inode_in (sectors_of read (sector_of (region.Inode i))))) None) (le-ltb i (64 * segments) past))

pub inode_said : (segments : ℕ) (read : TreeRead) (i : ℕ) → i < 64 * segments → stored_node (inode_in (sectors_of read (sector_of (region.Inode i)))) ≡ (store_read segments read).inode i
unfolding store_read
inode_said segments read i inside = sym (ap (λ b. cond b (stored_node (inode_in (sectors_of read (sector_of (region.Inode i))))) None) (lt-ltb i (64 * segments) inside))
