-- An edit of a map whose values lie in boxes is the same edit of what the boxes hold.
use Rattle.std.proofs.Common.{◌≡◌, ℕ, zero, suc, Bool, true, false, if◌then◌else◌, List, [], ◌∷◌, length, Option, Some, None, is_some, IsSome, IfSome, refl, sym, ap, ◌∙◌, subst, arith}
use Rattle.std.specs.List.{slice_get}
use Rattle.std.specs.BTreeMap.{is_at}
use Rattle.std.specs.Option.{option_map}
use Rattle.std.specs.Ordering.{nat_cmp, match_ordering}
use Rattle.std.specs.declared.cmp.Ordering.{Ordering}
use Rattle.std.specs.declared.cmp.Ordering.TheVariants.{Less, Equal, Greater}
use Rattle.sector_bytes.specs.SectorMaps.{value_at, with_value, without, adjusted, room_for, Ascend}
use Rattle.sector_bytes.proofs.MapLaws.{with_value_there}
use Rattle.sector_bytes.specs.Blocks.{Block}
use Rattle.frang_base.specs.declared.change.Change.{Change}
use Rattle.frang_base.proofs.Tests.{is_some-option_map}
use Rattle.meta_version.specs.Boxes.{opened}
use Rattle.meta_version.specs.Updates.{IsOlder}

module _ {B V : Type 0} (held : B → V) where
  pub length-opened : (entries : List (ℕ × B)) → length (opened entries held) ≡ length entries
  length-opened [] = refl
  length-opened (entry ∷ entries) = ap suc (length-opened entries)

  pub get-opened : (entries : List (ℕ × B)) (i : ℕ) → slice_get (opened entries held) i ≡ option_map (λ entry. (entry.0, held entry.1)) (slice_get entries i)
  get-opened [] i = refl
  get-opened (entry ∷ entries) zero = refl
  get-opened (entry ∷ entries) (suc i) = get-opened entries i

  pub value_at-opened : (entries : List (ℕ × B)) (sector : ℕ) → value_at (opened entries held) sector ≡ option_map held (value_at entries sector)
  value_at-opened [] sector = refl
  value_at-opened (entry ∷ entries) sector = go (is_at (nat_cmp sector) entry.0) (value_at-opened entries sector)
    where
      go : (b : Bool) → value_at (opened entries held) sector ≡ option_map held (value_at entries sector)
          → (if b then Some (held entry.1) else value_at (opened entries held) sector) ≡ option_map held (if b then Some entry.1 else value_at entries sector)
      go true rest = refl
      go false rest = rest

  pub room_for-opened : (entries : List (ℕ × B)) (sector : ℕ) → room_for (opened entries held) sector ≡ room_for entries sector
  room_for-opened entries sector = ap (λ b. if b then 0 else 1) (ap is_some (value_at-opened entries sector) ∙ is_some-option_map held (value_at entries sector))

  pub opened-with : (entries : List (ℕ × B)) (sector : ℕ) (kept : B) → opened (with_value entries sector kept) held ≡ with_value (opened entries held) sector (held kept)
  opened-with [] sector kept = refl
  opened-with (entry ∷ entries) sector kept = go (nat_cmp sector entry.0) (opened-with entries sector kept)
    where
      go : (o : Ordering) → opened (with_value entries sector kept) held ≡ with_value (opened entries held) sector (held kept)
          → opened (match_ordering o ((sector, kept) ∷ entry ∷ entries) ((entry.0, kept) ∷ entries) (entry ∷ with_value entries sector kept)) held
          ≡ match_ordering o ((sector, held kept) ∷ (entry.0, held entry.1) ∷ opened entries held) ((entry.0, held kept) ∷ opened entries held) ((entry.0, held entry.1) ∷ with_value (opened entries held) sector (held kept))
      go Less rest = refl
      go Equal rest = refl
      go Greater rest = ap (λ tail. (entry.0, held entry.1) ∷ tail) rest

  pub opened-without : (entries : List (ℕ × B)) (sector : ℕ) → opened (without entries sector) held ≡ without (opened entries held) sector
  opened-without [] sector = refl
  opened-without (entry ∷ entries) sector = go (is_at (nat_cmp sector) entry.0) (opened-without entries sector)
    where
      go : (b : Bool) → opened (without entries sector) held ≡ without (opened entries held) sector
          → opened (if b then entries else entry ∷ without entries sector) held ≡ (if b then opened entries held else (entry.0, held entry.1) ∷ without (opened entries held) sector)
      go true rest = refl
      go false rest = ap (λ tail. (entry.0, held entry.1) ∷ tail) rest

  -- another box for a sector that is there
  pub written_over : (entries new : List (ℕ × B)) (sector : ℕ) (kept : B → B) (v : V) → ((b : B) → held (kept b) ≡ v) → IsSome (value_at entries sector)
      → IfSome (value_at entries sector) (λ b. new ≡ with_value entries sector (kept b)) → opened new held ≡ with_value (opened entries held) sector v
  written_over entries new sector kept v same some is = go (value_at entries sector) some is
    where
      go : (o : Option B) → IsSome o → IfSome o (λ b. new ≡ with_value entries sector (kept b)) → opened new held ≡ with_value (opened entries held) sector v
      go None none e = cc none
      go (Some b) there e = ap (λ es. opened es held) e ∙ opened-with entries sector (kept b) ∙ ap (λ x. with_value (opened entries held) sector x) (same b)

  -- what is made of the value of a sector that is there
  pub adjusted_over : (f : V → V) (entries new : List (ℕ × B)) (sector : ℕ) (kept : B → B) → ((b : B) → held (kept b) ≡ f (held b)) → Ascend (opened entries held) → IsSome (value_at entries sector)
      → IfSome (value_at entries sector) (λ b. new ≡ with_value entries sector (kept b)) → opened new held ≡ adjusted f (opened entries held) sector
  adjusted_over f entries new sector kept same sorted some is = go (value_at entries sector) refl some is
    where
      go : (o : Option B) → value_at entries sector ≡ o → IsSome o → IfSome o (λ b. new ≡ with_value entries sector (kept b)) → opened new held ≡ adjusted f (opened entries held) sector
      go None there none e = cc none
      go (Some b) there some e =
          ap (λ es. opened es held) e ∙ opened-with entries sector (kept b) ∙ ap (λ x. with_value (opened entries held) sector x) (same b)
          ∙ with_value_there f (opened entries held) sector (held b) sorted (value_at-opened entries sector ∙ ap (option_map held) there)

-- a sector that takes no room is there
pub some_unroomed : {X : Type 0} (o : Option X) → if◌then◌else◌ {A = ℕ} (is_some o) 0 1 ≡ 0 → IsSome o
some_unroomed (Some x) none = refl
some_unroomed None none = absurd (omega arith)

-- what is older than a change is there
pub older_there : (o : Option Block) (change : Change) → IsOlder o change → IsSome o
older_there None change older = absurd older
older_there (Some block) change older = refl

-- a sector is there where its box is
pub some-opened : {B V : Type 0} (held : B → V) (entries : List (ℕ × B)) (sector : ℕ) → is_some (value_at (opened entries held) sector) ≡ is_some (value_at entries sector)
some-opened held entries sector = ap is_some (value_at-opened held entries sector) ∙ is_some-option_map held (value_at entries sector)
