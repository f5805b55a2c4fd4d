-- A slot of a log is left exactly where its sector is.
use Rattle.std.proofs.Common.{◌≡◌, ◌≤◌, ◌<◌, ◌+◌, ◌*◌, ℕ, Bool, true, false, not, ◌&&◌, if◌then◌else◌, List, [], ◌∷◌, map, filter, nat_eq, nat_lt, refl, sym, ap, ◌∙◌, arith, subst}
use Rattle.std.proofs.lemmas.Bool.{and_parts, eqb-true, ltb-true}
use Rattle.std.proofs.lemmas.Bool.Decides.{nat_tests}
use Rattle.frang_base.specs.Functions.{member}
use Rattle.frang_base.specs.declared.limits.TheConstants.{LOG_SECTORS}
use Rattle.tree_definitions.specs.Numbers.{below}
use Rattle.disk_definitions.specs.Regions.{sector_of}
use Rattle.disk_definitions.specs.declared.region.Region.TheVariants as region
use Rattle.core_definitions.specs.Logs.{SlotsRead, is_slot_read}
use Rattle.log_slots.specs.Reading.{log_rules, unread_slots}
use Rattle.log_slots.proofs.Maps.{below_member, filter_member}
use Rattle.server_core.specs.Effects.{IsSlot}
use Rattle.world_asks.specs.Fetches.{sectors_left}

abbrev sectors_at : ℕ → List ℕ → List ℕ
sectors_at number slots = map (λ slot. sector_of (region.Log number slot)) slots

-- of the slots that aren't read none is behind the log
unread_small : (slots : SlotsRead) (slot : ℕ) → member slot (unread_slots slots) ≡ true → slot < LOG_SECTORS
unfolding unread_slots log_rules
unread_small slots slot there =
    ltb-true slot LOG_SECTORS (sym (below_member LOG_SECTORS slot)
    ∙ (and_parts (member slot (below LOG_SECTORS)) (not (is_slot_read slots slot)) (sym (filter_member (λ s. not (is_slot_read slots s)) slot (below LOG_SECTORS)) ∙ there)).0)

at_sectors : (number slot : ℕ) (slots : List ℕ) → member (sector_of (region.Log number slot)) (sectors_at number slots) ≡ member slot slots
at_sectors number slot [] = refl
at_sectors number slot (s ∷ slots) =
    let same : nat_eq (sector_of (region.Log number s)) (sector_of (region.Log number slot)) ≡ nat_eq s slot = grind (arith, nat_tests) in
    ap (λ (t : Bool). if t then true else member (sector_of (region.Log number slot)) (sectors_at number slots)) same ∙ ap (λ (b : Bool). if nat_eq s slot then true else b) (at_sectors number slot slots)

not_at_sectors : (number sector : ℕ) (slots : List ℕ) → (IsSlot number sector → ⊥) → ((slot : ℕ) → member slot slots ≡ true → slot < LOG_SECTORS) → member sector (sectors_at number slots) ≡ false
not_at_sectors number sector [] none small = refl
not_at_sectors number sector (s ∷ slots) none small =
    go (nat_eq (sector_of (region.Log number s)) sector) refl (not_at_sectors number sector slots none (λ slot there. small slot (behind slot there)))
  where
    behind : (slot : ℕ) → member slot slots ≡ true → member slot (s ∷ slots) ≡ true
    behind slot there = by (nat_eq s slot)
      where
        by : (t : Bool) → (if t then true else member slot slots) ≡ true
        by true = refl
        by false = there

    here : member s (s ∷ slots) ≡ true
    here = let same : nat_eq s s ≡ true = grind (arith, nat_tests) in ap (λ (t : Bool). if t then true else member s slots) same

    go : (t : Bool) → nat_eq (sector_of (region.Log number s)) sector ≡ t → member sector (sectors_at number slots) ≡ false → (if t then true else member sector (sectors_at number slots)) ≡ false
    go true is rest =
        let at : sector_of (region.Log number s) ≡ sector = eqb-true (sector_of (region.Log number s)) sector is in
        let low : s < LOG_SECTORS = small s here in
        absurd (none (record { first = omega arith; last = omega arith }))
    go false is rest = rest

pub left_where : (number slot sector : ℕ) (slots : SlotsRead) → sector_of (region.Log number slot) ≡ sector → member slot (unread_slots slots) ≡ member sector (sectors_left number slots)
left_where number slot sector slots is =
    sym (at_sectors number slot (unread_slots slots)) ∙ ap (λ s. member s (sectors_left number slots)) is

pub not_left : (number sector : ℕ) (slots : SlotsRead) → (IsSlot number sector → ⊥) → false ≡ member sector (sectors_left number slots)
not_left number sector slots none = sym (not_at_sectors number sector (unread_slots slots) none (unread_small slots))
