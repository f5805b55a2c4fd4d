-- What every step keeps of which sectors have versions, and all that every step keeps.
use Rattle.std.specs.Prelude.{true, false, Bool, ℕ, ◌≤◌, ◌≡◌, List, [], ◌∷◌, Some}
use Rattle.sector_bytes.specs.Blocks.{zero_block}
use Rattle.sector_world.specs.Histories.{Item, settled, is_logged, Each, Changes, Moves}
use Rattle.sector_world.specs.Histories.Item.{Done, Doubt}
use Rattle.sector_world.specs.HistoryBytes.{is_free, AllWritten}
use Rattle.sector_world.specs.World.{World, ByteFlight, has_version}
use Rattle.sector_world.specs.World.Page.{NoPage}
use Rattle.sector_world.specs.Logged.{Logged}
use Rattle.sector_world.specs.Bytes.{Bytes}

-- each change of the sector is of one with versions at that place
abbrev pub Claimed : (ℕ → Bool) → ℕ → List Item → Type 0
Claimed first s [] = Unit {0}
Claimed first s (Done c ∷ h) = (Changes s c → is_logged first (Done c ∷ h) s ≡ true) × Claimed first s h
Claimed first s (Doubt m ∷ h) = Claimed first s h

-- A sector with a version has no bytes in any cache or in flight. Where it became one its bytes are zeros on the disk, it is
-- free, and each operation that ever wrote its bytes is durable.
abbrev pub Kinds : World → Type 0
Kinds w = record {
  zero : (s : ℕ) → w.logged s ≡ false → w.opening s ≡ zero_block;
  claimed : (s : ℕ) → Claimed w.logged s (settled w.history);
  moving : (s : ℕ) → Each (λ c. c.claims s ≡ true → Moves s c) (settled w.history);
  empty : (a s : ℕ) → has_version w s ≡ true → w.page a s ≡ NoPage;
  landed : (s : ℕ) (f : ByteFlight) → has_version w s ≡ true → w.byte_flight s ≡ Some f → w.now ≤ f.stamp → ⊥;
  cleared : (s : ℕ) → has_version w s ≡ true → w.logged s ≡ false → (w.bytes s ≡ zero_block) × (is_free w.first (settled w.history) s ≡ true) × AllWritten w.durable s (settled w.history);
}

-- what every step keeps
abbrev pub Good : World → Type 0
Good w = record {
  logged : Logged w;
  bytes : Bytes w;
  kinds : Kinds w;
}
