-- The changes of edits are those over the disk, where each sector with a version that they edit is at hand.
use Rattle.std.proofs.Common.{◌≡◌, ℕ, ◌+◌, Bool, true, false, ◌==◌, if◌then◌else◌, Some, None, List, [], ◌∷◌, refl, ap, ap₂}
use Rattle.std.specs.Prelude.{fold}
use Rattle.std.specs.List.{filter_map, cons_option, AllByRecursion}
use Rattle.std.specs.Ordering.{nat_cmp, match_ordering}
use Rattle.std.specs.declared.cmp.Ordering.{Ordering}
use Rattle.std.specs.declared.cmp.Ordering.TheVariants.{Less, Equal, Greater}
use Rattle.std.specs.Map.{keys_of}
use Rattle.sector_bytes.specs.Bytes.{number_at}
use Rattle.sector_bytes.specs.Patches.{patches_with}
use Rattle.sector_bytes.specs.Sectors.{Sectors}
use Rattle.disk_definitions.specs.Standing.{version_at}
use Rattle.disk_definitions.specs.Edits.{Edit}
use Rattle.disk_definitions.specs.Written.{forced_in, edit_sector, edited_block, edited_sectors, all_edited, is_metadata, metadata_sector, with_number, ascending, change_by, change_of, changes_of}

module _ (a b : Sectors) where
  -- the edits go by what the sector holds
  pub edited_same : (edits : List Edit) (x y : Sectors) (sector : ℕ) → x sector ≡ y sector → all_edited x edits sector ≡ all_edited y edits sector
  edited_same [] x y sector e = e
  edited_same (d ∷ edits) x y sector e = edited_same edits (edited_sectors x d) (edited_sectors y d) sector (go (sector == edit_sector d))
    where
      go : (c : Bool) → (if c then edited_block (x sector) (version_at x sector) d else x sector) ≡ (if c then edited_block (y sector) (version_at y sector) d else y sector)
      go true = ap (λ block. edited_block block (number_at 8 0 block) d) e
      go false = e

  -- the two agree in all of these sectors
  abbrev Agree : List ℕ → Type 0
  Agree ns = AllByRecursion (λ n. a n ≡ b n) ns

  changes_same : (edits : List Edit) (ns : List ℕ) → Agree ns → filter_map (change_of edits a (all_edited a edits)) ns ≡ filter_map (change_of edits b (all_edited b edits)) ns
  changes_same edits [] h = refl
  changes_same edits (n ∷ ns) h = ap₂ (λ o more. cons_option o more) here (changes_same edits ns h.1)
    where
      here : change_of edits a (all_edited a edits) n ≡ change_of edits b (all_edited b edits) n
      here = ap₂ (λ old new. change_by n (number_at 8 0 old + 1) (patches_with (forced_in edits n) old new)) h.0 (edited_same edits a b n h.0)

  -- a number among the sorted ones is one of those that were put there
  keys_agree : (sorted : List (ℕ × ℕ)) (n : ℕ) → Agree (keys_of sorted) → a n ≡ b n → Agree (keys_of (with_number sorted n))
  keys_agree [] n h e = (e, tt)
  keys_agree (x ∷ sorted) n h e = go (keys_agree sorted n h.1 e) (nat_cmp n x.0) refl
    where
      go : Agree (keys_of (with_number sorted n)) → (o : Ordering) → nat_cmp n x.0 ≡ o → Agree (keys_of (match_ordering o ((n, 0) ∷ x ∷ sorted) ((x.0, 0) ∷ sorted) (x ∷ with_number sorted n)))
      go rest Less i = (e, h)
      go rest Equal i = h
      go rest Greater i = (h.0, rest)

  sorted_agree : (ns : List ℕ) (sorted : List (ℕ × ℕ)) → Agree (keys_of sorted) → Agree ns → Agree (keys_of (fold with_number sorted ns))
  sorted_agree [] sorted h g = h
  sorted_agree (n ∷ ns) sorted h g = sorted_agree ns (with_number sorted n) (keys_agree sorted n h g.0) g.1

  named_agree : (edits : List Edit) → AllByRecursion (λ e. is_metadata e ≡ true → a (edit_sector e) ≡ b (edit_sector e)) edits → Agree (filter_map metadata_sector edits)
  named_agree [] h = tt
  named_agree (e ∷ edits) h = go (is_metadata e) refl (named_agree edits h.1)
    where
      go : (c : Bool) → is_metadata e ≡ c → Agree (filter_map metadata_sector edits) → Agree (cons_option (if c then Some (edit_sector e) else None) (filter_map metadata_sector edits))
      go true i rest = (h.0 i, rest)
      go false i rest = rest

  pub same_changes : (edits : List Edit) → AllByRecursion (λ e. is_metadata e ≡ true → a (edit_sector e) ≡ b (edit_sector e)) edits → changes_of a edits ≡ changes_of b edits
  same_changes edits h = changes_same edits (ascending (filter_map metadata_sector edits)) (sorted_agree (filter_map metadata_sector edits) [] tt (named_agree edits h))
