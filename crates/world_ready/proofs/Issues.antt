-- A write that a party may issue, as it is found.
use Rattle.std.proofs.Common.{ℕ, ◌≡◌, Bool, true, false, not, if◌then◌else◌, Option, Some, None, is_some, refl, sym, ap, ◌∙◌}
use Rattle.std.specs.Option.{option_map}
use Rattle.std.proofs.lemmas.Bool.{and_from, false≢true}
use Rattle.sector_bytes.specs.SectorMaps.{value_at}
use Rattle.core_definitions.specs.Cores.{Core, writes}
use Rattle.core_definitions.specs.WriteGuards.{CanIssue, is_at_last, is_issuable, may_issue}
use Rattle.core_definitions.specs.Writes.{Write}
use Rattle.core_laws.proofs.Guarding.{Of2, issuable_can, issuable_may, of_2}
use Rattle.server_issues.specs.Issuing.{issuable_write, write_of}
use Rattle.server_issues.specs.declared.writes.WantedWrite.{WantedWrite}
use Rattle.world_ready.specs.Making.{MayWrite}

module _ (c : Core) (a sector : ℕ) where
  tests : may_issue c a sector (writes c a) ≡ true → Of2 (is_issuable c a sector (writes c a)) (not (is_at_last (c.servers a).arming))
  tests may = of_2 (is_issuable c a sector (writes c a)) (not (is_at_last (c.servers a).arming)) may

  pub issues : may_issue c a sector (writes c a) ≡ true → CanIssue c a sector
  issues may = let both : Of2 (is_issuable c a sector (writes c a)) (not (is_at_last (c.servers a).arming)) = tests may in record { issuable = issuable_can c a sector (writes c a) both.p0; unarmed = both.p1 }

  pub issues_may : CanIssue c a sector → may_issue c a sector (writes c a) ≡ true
  issues_may can = and_from (is_issuable c a sector (writes c a)) (not (is_at_last (c.servers a).arming)) (issuable_may c a sector (writes c a) can.issuable) can.unarmed

  -- the write that is found is the one that is wanted
  pub wanted_is : may_issue c a sector (writes c a) ≡ true → issuable_write c a sector ≡ value_at (writes c a) sector
  wanted_is may = ap (λ (b : Bool). if b then value_at (writes c a) sector else None) (tests may).p0

  found : (write : Option WantedWrite) → may_issue c a sector (writes c a) ≡ true → option_map write_of write ≡ issuable_write c a sector → MayWrite c a sector write
  found None may is = absurd (go (value_at (writes c a) sector) (is ∙ wanted_is may) (issues may).issuable.wanted)
    where
      go : (write : Option Write) → None ≡ write → is_some write ≡ true → ⊥
      go None e some = absurd (cc)
      go (Some w) e some = absurd (cc)
  found (Some write) may is = (issues may, sym (wanted_is may) ∙ sym is)

  pub may_write : (may : Bool) (write : Option WantedWrite) → may ≡ may_issue c a sector (writes c a) → option_map write_of write ≡ issuable_write c a sector → may ≡ true → MayWrite c a sector write
  may_write may write tested is passes = found write (sym tested ∙ passes) is

  pub may_not_write : (may : Bool) → may ≡ may_issue c a sector (writes c a) → may ≡ false → MayWrite c a sector None
  may_not_write may tested bars can = false≢true (sym bars ∙ tested ∙ issues_may can)

  -- the host's, which is found exactly where it may be issued
  pub host_writes : (write : Option WantedWrite) → is_some write ≡ may_issue c a sector (writes c a) → option_map write_of write ≡ issuable_write c a sector → MayWrite c a sector write
  host_writes None tested is = may_not_write false tested refl
  host_writes (Some write) tested is = found (Some write) (sym tested) is
