-- The slots of logs on a disk in which a sector of one log is written, and what of logs depends on these slots alone.
use Rattle.std.proofs.Common.{◌≡◌, ◌≢◌, ℕ, ◌+◌, ◌*◌, ◌%◌, ◌<◌, ◌≤◌, ◌==◌, ◌^◌, Bool, true, false, if◌then◌else◌, is_some, Some, List, [], ◌∷◌, ◌++◌, map, refl, sym, ap, ◌∙◌, subst, arith}
use Rattle.std.proofs.lemmas.Bool.{eqb-true, false≢true}
use Rattle.std.proofs.lemmas.Bool.Decides.{nat_tests}
use Rattle.frang_outside.specs.Disk.{written}
use Rattle.disk_definitions.proofs.ArrivingLaws.{empty_arrived}
use Rattle.disk_definitions.proofs.EndLaws.{sealed_from, sealed_numbers}
use Rattle.disk_definitions.proofs.SameLogs.{SameSlots, log_end_same, sector_same}
use Rattle.disk_definitions.specs.Arriving.{with_sector, with_sectors}
use Rattle.disk_definitions.specs.LogSectors.{empty_sector, log_sector_bytes, log_sector_in}
use Rattle.disk_definitions.specs.Logs.{Slots, is_sealed, numbered, sector_numbered}
use Rattle.disk_definitions.specs.Regions.{sector_of}
use Rattle.disk_definitions.specs.Replay.{slots_of}
use Rattle.disk_definitions.specs.declared.log_sector.LogSector.{LogSector}
use Rattle.disk_definitions.specs.declared.region.Region.TheVariants as region
use Rattle.sector_bytes.specs.Blocks.{Block}
use Rattle.sector_bytes.specs.Sectors.{Sectors}
use Rattle.core_definitions.specs.Logs.{log_sector, seal_block}
use Rattle.core_definitions.specs.Settings.{disk_logs}
use Rattle.core_journals.proofs.Changing.{written_elsewhere}

-- ---- logs with the same slots

pub same_back : (a b : Slots) → SameSlots a b → SameSlots b a
same_back a b same slot low = sym (same slot low)

pub same_on : (a b c : Slots) → SameSlots a b → SameSlots b c → SameSlots a c
same_on a b c same more slot low = same slot low ∙ more slot low

pub sealed_same : (a b : Slots) → SameSlots a b → is_sealed a ≡ true → is_sealed b ≡ true
sealed_same a b same sealed = sealed_from b (λ n s. subst (λ end. n ≤ end) (log_end_same a b same) (sealed_numbers a sealed n (ap is_some (sector_same a b same n) ∙ s)))

pub with_same : (a b : Slots) (x : LogSector) → SameSlots a b → SameSlots (with_sector a x) (with_sector b x)
with_same a b x same slot low = ap (λ block. if slot == x.seq % 256 then log_sector_bytes x else block) (same slot low)

pub with_one_more : (slots : Slots) (xs : List LogSector) (x : LogSector) → with_sectors slots (xs ++ x ∷ []) ≡ with_sector (with_sectors slots xs) x
with_one_more slots [] x = refl
with_one_more slots (y ∷ ys) x = with_one_more (with_sector slots y) ys x

pub map_one_more : (numbers : List ℕ) (number : ℕ) → map empty_sector (numbers ++ number ∷ []) ≡ map empty_sector numbers ++ empty_sector number ∷ []
map_one_more [] number = refl
map_one_more (n ∷ ns) number = ap (λ xs. empty_sector n ∷ xs) (map_one_more ns number)

-- ---- one sector more

pub with_here : (slots : Slots) (x : LogSector) → with_sector slots x (x.seq % 256) ≡ log_sector_bytes x
with_here slots x = go (x.seq % 256 == x.seq % 256) (itself (x.seq % 256))
  where
    itself : (n : ℕ) → (n == n) ≡ true
    itself n = grind (arith, nat_tests)

    go : (b : Bool) → b ≡ true → (if b then log_sector_bytes x else slots (x.seq % 256)) ≡ log_sector_bytes x
    go true e = refl
    go false e = absurd (false≢true e)

pub with_elsewhere : (slots : Slots) (x : LogSector) (slot : ℕ) → slot ≢ x.seq % 256 → with_sector slots x slot ≡ slots slot
with_elsewhere slots x slot apart = go (slot == x.seq % 256) refl
  where
    go : (b : Bool) → (slot == x.seq % 256) ≡ b → (if b then log_sector_bytes x else slots slot) ≡ slots slot
    go true e = absurd (apart (eqb-true slot (x.seq % 256) e))
    go false e = refl

-- a sector that stands there already changes nothing
pub with_again : (slots : Slots) (x : LogSector) → slots (x.seq % 256) ≡ log_sector_bytes x → SameSlots (with_sector slots x) slots
with_again slots x there slot low = go (slot == x.seq % 256) refl
  where
    go : (b : Bool) → (slot == x.seq % 256) ≡ b → (if b then log_sector_bytes x else slots slot) ≡ slots slot
    go true e = sym there ∙ ap slots (sym (eqb-true slot (x.seq % 256) e))
    go false e = refl

-- an empty sector is read where its block stands
pub empty_stands : (slots : Slots) (number : ℕ) → number < 2 ^ 63 → slots (number % 256) ≡ seal_block number → sector_numbered slots number ≡ Some (empty_sector number)
empty_stands slots number small there =
    ap (λ block. numbered number (log_sector_in (number % 256) block)) (there ∙ sym (with_here slots (empty_sector number))) ∙ empty_arrived slots number small

-- ---- on a disk

low_slot : (n : ℕ) → n % 256 < 256
low_slot n = omega arith

pub log_places : (a x i y : ℕ) → x < 256 → y < 256 → 2147483648 + a * 8388608 + x ≡ 2147483648 + i * 8388608 + y → (a ≡ i) × (x ≡ y)
log_places a x i y h k e = let same : a ≡ i = omega (arith, h, k, e) in (same, rest x y (omega (arith, h, k, e)))
  where
    rest : (x y : ℕ) → x ≡ y → x ≡ y
    rest x y e = e

-- a sector of a log is written
pub written_slots : (disk : Sectors) (a sector : ℕ) (x : LogSector) → sector ≡ log_sector disk_logs a x.seq → SameSlots (slots_of (written disk sector (log_sector_bytes x)) a) (with_sector (slots_of disk a) x)
written_slots disk a sector x at slot low = go (slot == x.seq % 256) refl (sector == sector_of (region.Log a slot)) refl
  where
    go : (b : Bool) → (slot == x.seq % 256) ≡ b → (c : Bool) → (sector == sector_of (region.Log a slot)) ≡ c →
        (if c then log_sector_bytes x else disk (sector_of (region.Log a slot))) ≡ (if b then log_sector_bytes x else disk (sector_of (region.Log a slot)))
    go true e true f = refl
    go false e false f = refl
    go true e false f = absurd (false≢true (sym f ∙ itself sector (sector_of (region.Log a slot)) (at ∙ ap (λ n. sector_of (region.Log a n)) (sym (eqb-true slot (x.seq % 256) e)))))
      where
        itself : (n m : ℕ) → n ≡ m → (n == m) ≡ true
        itself n m e = grind (arith, nat_tests, e)
    go false e true f = absurd (false≢true (sym e ∙ itself slot (x.seq % 256) (sym (log_places a (x.seq % 256) a slot (low_slot x.seq) low (sym at ∙ eqb-true sector (sector_of (region.Log a slot)) f)).1)))
      where
        itself : (n m : ℕ) → n ≡ m → (n == m) ≡ true
        itself n m e = grind (arith, nat_tests, e)

-- a sector that is none of the log's is
pub written_beside : (disk : Sectors) (a sector : ℕ) (block : Block) → ((slot : ℕ) → slot < 256 → sector ≡ sector_of (region.Log a slot) → ⊥) → SameSlots (slots_of (written disk sector block) a) (slots_of disk a)
written_beside disk a sector block apart slot low = written_elsewhere disk sector (sector_of (region.Log a slot)) block (apart slot low)
