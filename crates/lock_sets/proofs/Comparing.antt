-- The first of the seen sectors that are left stands as all do, or those behind it do.
use Rattle.std.proofs.Common.{◌≡◌, ◌<◌, ◌+◌, ◌==◌, ℕ, Bool, true, false, if◌then◌else◌, Option, Some, None, List, ◌∷◌, drop, length, slice_index_or, sym, ap, ◌∙◌, refl}
use Rattle.std.proofs.lemmas.List.{drop_more}
use Rattle.std.proofs.lemmas.Bool.{eq-eqb, ne_eqb}
use Rattle.sector_bytes.specs.Blocks.{Block, version_of}
use Rattle.sector_bytes.specs.SectorMaps.{value_at}
use Rattle.disk_definitions.specs.Written.{Cached}
use Rattle.set_definitions.specs.declared.moved.Moved.{Moved}
use Rattle.set_definitions.specs.Seen.{Comparison, HasMoved, HasStopped, SeenSectors, compared, compared_at, first_moved, moved_at}
use Rattle.lock_sets.specs.declared.seen.Seen.{Seen}
use Rattle.lock_sets.specs.Seen.{seen_as}

-- what is found along the seen sectors, one after another
module _ {K : Type 0} (at : ℕ × ℕ → Option Block → K → K) (along : SeenSectors → Cached → K)
    (step : (one : ℕ × ℕ) (others : SeenSectors) (cached : Cached) → along (one ∷ others) cached ≡ at one (value_at cached one.0) (along others cached))
    (cached : Cached) (xs : List Seen) (i : ℕ) (none : Seen) (inside : i < length xs) (before : along (seen_as (drop i xs)) cached ≡ along (seen_as xs) cached) where
  by_block : (o : Option Block) → value_at cached (slice_index_or xs i none).sector.0 ≡ o → at ((slice_index_or xs i none).sector.0, (slice_index_or xs i none).version) o (along (seen_as (drop (i + 1) xs)) cached) ≡ along (seen_as xs) cached
  by_block o e =
      let one : ℕ × ℕ = ((slice_index_or xs i none).sector.0, (slice_index_or xs i none).version) in
      let next : drop i xs ≡ slice_index_or xs i none ∷ drop (i + 1) xs = drop_more xs i none inside in
      ap (λ p. at one p (along (seen_as (drop (i + 1) xs)) cached)) (sym e) ∙ sym (step one (seen_as (drop (i + 1) xs)) cached) ∙ sym (ap (λ ys. along (seen_as ys) cached) next) ∙ before

module _ (cached : Cached) (xs : List Seen) (i : ℕ) (none : Seen) (inside : i < length xs) where
  abbrev pub one : Seen
  one = slice_index_or xs i none

  -- ---- how the comparison ends

  module _ (before : compared (seen_as (drop i xs)) cached ≡ compared (seen_as xs) cached) where
    abbrev rest : Comparison
    rest = compared (seen_as (drop (i + 1) xs)) cached

    here : (o : Option Block) → value_at cached one.sector.0 ≡ o → compared_at one.version o rest ≡ compared (seen_as xs) cached
    here o e = by_block (λ one o rest. compared_at one.1 o rest) compared (λ one others cached. refl) cached xs i none inside before o e

    by_test : (block : Block) (b : Bool) → value_at cached one.sector.0 ≡ Some block → (version_of block == one.version) ≡ b → (if b then rest else HasMoved) ≡ compared (seen_as xs) cached
    by_test block b e t = sym (ap (λ c. if c then rest else HasMoved) t) ∙ here (Some block) e

    pub has_stopped : value_at cached one.sector.0 ≡ None → HasStopped ≡ compared (seen_as xs) cached
    has_stopped e = here None e

    pub has_moved : (block : Block) → value_at cached one.sector.0 ≡ Some block → (version_of block ≡ one.version → ⊥) → HasMoved ≡ compared (seen_as xs) cached
    has_moved block e t = by_test block false e (ne_eqb (version_of block) one.version t)

    pub goes_on : (block : Block) → value_at cached one.sector.0 ≡ Some block → version_of block ≡ one.version → compared (seen_as (drop (i + 1) xs)) cached ≡ compared (seen_as xs) cached
    goes_on block e t = by_test block true e (eq-eqb (version_of block) one.version t)

  -- ---- which sector is named

  module _ (before : first_moved (seen_as (drop i xs)) cached ≡ first_moved (seen_as xs) cached) where
    abbrev left : Option Moved
    left = first_moved (seen_as (drop (i + 1) xs)) cached

    name_here : (o : Option Block) → value_at cached one.sector.0 ≡ o → moved_at (one.sector.0, one.version) o left ≡ first_moved (seen_as xs) cached
    name_here o e = by_block moved_at first_moved (λ one others cached. refl) cached xs i none inside before o e

    by_name : (block : Block) (b : Bool) → value_at cached one.sector.0 ≡ Some block → (version_of block == one.version) ≡ b
        → (if b then left else Some (record { sector = record { 0 = one.sector.0 }; saw = one.version; found = version_of block })) ≡ first_moved (seen_as xs) cached
    by_name block b e t = sym (ap (λ c. if c then left else Some (record { sector = record { 0 = one.sector.0 }; saw = one.version; found = version_of block })) t) ∙ name_here (Some block) e

    pub none_named : value_at cached one.sector.0 ≡ None → None ≡ first_moved (seen_as xs) cached
    none_named e = name_here None e

    pub named_behind : (block : Block) → value_at cached one.sector.0 ≡ Some block → version_of block ≡ one.version → first_moved (seen_as (drop (i + 1) xs)) cached ≡ first_moved (seen_as xs) cached
    named_behind block e t = by_name block true e (eq-eqb (version_of block) one.version t)
