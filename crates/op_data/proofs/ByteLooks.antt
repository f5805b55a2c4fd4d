-- Reading file bytes examines nothing, since their sectors have no version.
use Rattle.std.proofs.Common.{◌≡◌, ℕ, zero, suc, ◌+◌, ◌-◌, ◌/◌, ◌%◌, Bool, true, false, cond, nat_lt, map, filter, Option, Some, None, List, [], ◌∷◌, ◌++◌, refl}
use Rattle.disk_definitions.specs.declared.region.Region.TheVariants as region
use Rattle.disk_definitions.specs.Regions.{sector_of}
use Rattle.tree_definitions.specs.Numbers.{below}
use Rattle.disk_definitions.specs.Store.{StoredNode}
use Rattle.disk_definitions.specs.Edits.{Edit}
use Rattle.disk_definitions.specs.Held.{Segments}
use Rattle.disk_definitions.specs.Ask.{Sector, BytesAt, LargeAt, Ask, ReadBytes, ReadLarge, number_of}
use Rattle.disk_definitions.specs.Plans.{Plan}
use Rattle.disk_definitions.specs.FilePlans.{Writing, keeps_bytes, mixed, read_sector, read_sectors, set_sector, write_sectors}
use Rattle.disk_definitions.specs.Written.{Cached, at_hand, bytes_at_hand}
use Rattle.disk_definitions.specs.Traces.{by_said, has_version, traced}
use Rattle.disk_definitions.specs.LookedAt.{examined}

module _ (cached : Cached) (held : Segments) where
  said_none : (s : Sector) (o : Option (ℕ → ℕ)) (next : (ℕ → ℕ) → Ask Plan) → has_version s ≡ false → ((bytes : ℕ → ℕ) → examined (next bytes) cached held ≡ [])
      → map number_of (filter has_version (by_said s o (λ bytes. traced (next bytes) (at_hand cached held))).looked) ≡ []
  said_none s None next v none = refl
  said_none s (Some bytes) next v none = rw v (none bytes)

  sector_none : (x : StoredNode) (t : ℕ) (next : (ℕ → ℕ) → Ask Plan) → ((bytes : ℕ → ℕ) → examined (next bytes) cached held ≡ []) → examined (read_sector x t next) cached held ≡ []
  sector_none x t next none = go (nat_lt t 128)
    where
      go : (b : Bool) → examined (cond b (ReadBytes (x.small (t / 8)) (t % 8) next) (ReadLarge (x.large - 1) (t - 128) next)) cached held ≡ []
      go true = said_none (BytesAt (x.small (t / 8)) (t % 8)) (bytes_at_hand cached (sector_of (region.Small (x.small (t / 8)) (t % 8)))) next refl none
      go false = said_none (LargeAt (x.large - 1) (t - 128)) (bytes_at_hand cached (sector_of (region.Large (x.large - 1) (t - 128)))) next refl none

  pub reads_none : (x : StoredNode) (n t : ℕ) (next : List ℕ → Ask Plan) → ((bytes : List ℕ) → examined (next bytes) cached held ≡ []) → examined (read_sectors x t n next) cached held ≡ []
  reads_none x zero t next none = none []
  reads_none x (suc n) t next none =
      sector_none x t (λ bytes. read_sectors x (t + 1) n (λ more. next (map bytes (below 512) ++ more)))
      (λ bytes. reads_none x n (t + 1) (λ more. next (map bytes (below 512) ++ more)) (λ more. none (map bytes (below 512) ++ more)))

  keeping_none : (x y : StoredNode) (w : Writing) (t : ℕ) (on : List Edit → Ask Plan) → ((one : List Edit) → examined (on one) cached held ≡ []) → (b : Bool)
      → examined (cond b (read_sector x t (λ old. on (set_sector y t (mixed w t old) ∷ []))) (on (set_sector y t (mixed w t (λ index. 0)) ∷ []))) cached held ≡ []
  keeping_none x y w t on none true = sector_none x t (λ old. on (set_sector y t (mixed w t old) ∷ [])) (λ old. none (set_sector y t (mixed w t old) ∷ []))
  keeping_none x y w t on none false = none (set_sector y t (mixed w t (λ index. 0)) ∷ [])

  pub writes_none : (w : Writing) (x y : StoredNode) (n t : ℕ) (next : List Edit → Ask Plan) → ((edits : List Edit) → examined (next edits) cached held ≡ []) → examined (write_sectors w x y t n next) cached held ≡ []
  writes_none w x y zero t next none = none []
  writes_none w x y (suc n) t next none =
      keeping_none x y w t (λ one. write_sectors w x y (t + 1) n (λ more. next (one ++ more))) (λ one. writes_none w x y n (t + 1) (λ more. next (one ++ more)) (λ more. none (one ++ more)))
      (keeps_bytes w x.size t)
