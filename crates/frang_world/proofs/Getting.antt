-- What a get of a server makes of the core, and one that failed, by whether the server is off.
use Rattle.std.proofs.Common.{ℕ, ◌≡◌, Bool, true, false, if◌then◌else◌, Option, Some, sym, ap, ◌∙◌}
use Rattle.frang_base.specs.declared.lock.LockId.{LockId}
use Rattle.sector_bytes.specs.Blocks.{Block}
use Rattle.core_definitions.specs.Cores.{Core, stage, with_server}
use Rattle.core_definitions.specs.LineEffects.{cached_under, call_failed, cover_needed, fetch_failed, fetched, refused_under, slot_read, with_under}
use Rattle.core_definitions.specs.Servers.{is_off}

module _ (c : Core) (a : ℕ) where
  pub caches : (sector : ℕ) (block : Block) (cover : LockId) → is_off (c.servers a).phase ≡ false → cover_needed (stage c a) sector ≡ Some cover
      → with_server c a (cached_under (c.servers a) sector block (Some cover)) ≡ fetched c a sector block
  caches sector block cover on needed =
      ap (λ (l : Option LockId). with_server c a (cached_under (c.servers a) sector block l)) (sym needed)
      ∙ ap (λ (off : Bool). with_server c a (if off then with_under (c.servers a) (slot_read a sector block) else cached_under (c.servers a) sector block (cover_needed (stage c a) sector))) (sym on)

  pub fails : is_off (c.servers a).phase ≡ false → call_failed c a ≡ fetch_failed c a
  fails on = ap (λ (off : Bool). if off then with_server c a (with_under (c.servers a) refused_under) else call_failed c a) (sym on)

  pub reads_slot : (sector : ℕ) (block : Block) → is_off (c.servers a).phase ≡ true → with_server c a (with_under (c.servers a) (slot_read a sector block)) ≡ fetched c a sector block
  reads_slot sector block is =
      ap (λ (off : Bool). with_server c a (if off then with_under (c.servers a) (slot_read a sector block) else cached_under (c.servers a) sector block (cover_needed (stage c a) sector))) (sym is)

  pub refuses : is_off (c.servers a).phase ≡ true → with_server c a (with_under (c.servers a) refused_under) ≡ fetch_failed c a
  refuses is = ap (λ (off : Bool). if off then with_server c a (with_under (c.servers a) refused_under) else call_failed c a) (sym is)
