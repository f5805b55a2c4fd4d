-- A disk that was read place by place has the sectors of the regions and no others, and what calls on the way leave goes together.
use Rattle.std.proofs.Common.{◌≡◌, ◌≢◌, ◌⊎◌, inl, inr, ⊎_elim, ℕ, ◌+◌, ◌<◌, ◌≤◌, if◌then◌else◌, is_some, Some, None, List, sym, ap, ◌∙◌, subst, arith}
use Rattle.std.specs.BTreeMap.{insert_entry}
use Rattle.std.specs.Option.{unwrap_or}
use Rattle.std.specs.Ordering.{nat_cmp}
use Rattle.std.proofs.lemmas.Bool.{cases_eq}
use Rattle.frang_base.proofs.Basics.{by_some}
use Rattle.tree_definitions.proofs.Pairs.{birth_exact, found_other, found_put}
use Rattle.frang_outside.specs.Outside.{State as Outside, NoneRose}
use Rattle.frang_outside.proofs.Acts.{fell-trans}
use Rattle.sector_bytes.specs.Blocks.{Block, zero_block}
use Rattle.sector_bytes.specs.Sectors.{SameSectors, Sectors, sectors_of}
use Rattle.disk_definitions.specs.Regions.{region_of, sector_of}
use Rattle.disk_definitions.proofs.RegionLaws.{region_found, region_read}
use Rattle.disk_saving.specs.Places.{place_at, place_count}
use Rattle.disk_saving.specs.Saving.{on_disk, Keeps, ReadSoFar, Unmoved}
use Rattle.disk_saving.proofs.Places.{place_in_range, place_numbered}

-- ---- a block is kept

pub set_is_kept : (old new : List (ℕ × List ℕ)) (sector : ℕ) (block : Block) → new ≡ insert_entry nat_cmp old sector block → Keeps (sectors_of old) (sectors_of new) sector block
set_is_kept old new sector block e = record {
  own = inl (ap (λ es. sectors_of es sector) e ∙ ap (λ o. unwrap_or o zero_block) (found_put nat_cmp birth_exact old sector block));
  others = λ other n. ap (λ es. sectors_of es other) e ∙ ap (λ o. unwrap_or o zero_block) (found_other nat_cmp birth_exact old sector block other n);
}

-- ---- the places so far

-- a place by its number is found at its sector
place_found : (segments n : ℕ) → segments ≤ 64 → n < place_count segments → region_of segments (sector_of (place_at segments n)) ≡ Some (place_at segments n)
place_found segments n s h = region_found segments (place_at segments n) s (place_in_range segments n h)

module _ (segments n : ℕ) (sectors old new : Sectors) (s : segments ≤ 64) (h : n < place_count segments) (before : ReadSoFar segments sectors old n)
    (kept : Keeps old new (sector_of (place_at segments n)) (sectors (sector_of (place_at segments n)))) where
  here : ℕ
  here = sector_of (place_at segments n)

  -- the place's sector has the outside's block
  own_read : new here ≡ sectors here
  unfolding here
  own_read = ⊎_elim (λ e. e)
      (λ zeros. ⊎_elim (λ z. zeros.1 ∙ z ∙ sym zeros.0) (λ same. zeros.1 ∙ same) (before.either here))
      kept.own

  at_each : (P : ℕ → Type 0) (sector : ℕ) → P here → (sector ≢ here → P sector) → P sector
  at_each P sector own other = ⊎_elim (λ e. subst P (sym e) own) other (cases_eq sector here)

  read_each : (m : ℕ) → m < n + 1 → new (sector_of (place_at segments m)) ≡ sectors (sector_of (place_at segments m))
  unfolding here
  read_each m l = ⊎_elim
      (λ (e : m ≡ n). subst (λ k. new (sector_of (place_at segments k)) ≡ sectors (sector_of (place_at segments k))) (sym e) own_read)
      (λ other. at_each (λ t. new t ≡ sectors t) (sector_of (place_at segments m)) own_read (λ apart. kept.others _ apart ∙ before.read m (omega arith)))
      (cases_eq m n)

  pub one_read : ReadSoFar segments sectors new (n + 1)
  unfolding here
  one_read = record {
    read = read_each;
    beyond = λ sector e.
        at_each (λ t. region_of segments t ≡ None → new t ≡ zero_block) sector (λ none. let both : Some (place_at segments n) ≡ None = sym (place_found segments n s h) ∙ none in absurd cc)
        (λ apart none. kept.others sector apart ∙ before.beyond sector none) e;
    either = λ sector.
        at_each (λ t. (new t ≡ zero_block) ⊎ (new t ≡ sectors t)) sector (inr own_read)
        (λ apart. ⊎_elim (λ z. inl (kept.others sector apart ∙ z)) (λ same. inr (kept.others sector apart ∙ same)) (before.either sector));
  }

-- all places read are the regions
pub all_read : (segments n : ℕ) (sectors disk : Sectors) → place_count segments ≤ n → ReadSoFar segments sectors disk n → SameSectors disk (on_disk segments sectors)
all_read segments n sectors disk l h sector =
    by_some (λ o. disk sector ≡ (if is_some o then sectors sector else zero_block)) (region_of segments sector)
    (λ none. h.beyond sector none)
    (λ r found.
    let place = region_read segments sector r found in
    let numbered = place_numbered segments r place.1 in
    let at : sector_of (place_at segments numbered.number) ≡ sector = ap sector_of numbered.at ∙ place.0 in
    subst (λ t. disk t ≡ sectors t) at (h.read numbered.number (omega (arith, l, numbered.below))))

-- one place more is read, of an outside that has the sectors of the first
pub next_read : (segments n : ℕ) (start now : Outside) (old new : Sectors) (sector : ℕ) → segments ≤ 64 → n < place_count segments → Unmoved start now → ReadSoFar segments start.sectors old n
    → sector ≡ sector_of (place_at segments n) → Keeps old new sector (now.sectors sector) → ReadSoFar segments start.sectors new (n + 1)
next_read segments n start now old new sector s h unmoved before e kept =
    one_read segments n start.sectors old new s h before (subst (λ t. Keeps old new t (start.sectors t)) e (subst (Keeps old new sector) (unmoved.sectors sector) kept))

-- ---- calls behind calls

pub unmoved_behind : (a b c : Outside) → Unmoved a b → Unmoved b c → Unmoved a c
unmoved_behind a b c f g = record {
  sectors = λ sector. g.sectors sector ∙ f.sectors sector;
  acts = g.acts ∙ f.acts;
  follows = fell-trans a b c f.follows g.follows;
}

pub none_rose_behind : (a b c : Outside) → NoneRose a b → NoneRose b c → NoneRose a c
none_rose_behind a b c f g = record { faults = λ party. g.faults party ∙ f.faults party; says = g.says ∙ f.says }
