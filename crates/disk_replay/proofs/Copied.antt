-- A copy of a disk, sector by sector in their order.
use Rattle.std.proofs.Common.{◌≡◌, ◌≢◌, ℕ, ⊎_elim, Bool, cond, Option, Some, None, List, [], ◌∷◌, refl, sym, ap, ◌∙◌, subst}
use Rattle.std.specs.BTreeMap.{insert_entry, is_at}
use Rattle.std.specs.List.Sorted.{IsStrictlySortedBy}
use Rattle.std.specs.Map.{keys_of, lookup}
use Rattle.std.specs.Option.{unwrap_or}
use Rattle.std.specs.Ordering.{nat_cmp}
use Rattle.std.proofs.lemmas.Bool.{cases_eq}
use Rattle.frang_base.proofs.Basics.{by_test}
use Rattle.tree_definitions.proofs.Pairs.{birth_exact, none_below, self, tie}
use Rattle.sector_bytes.specs.Sectors.{Sectors, SameSectors, sectors_of}
use Rattle.disk_replay.proofs.SectorsSet.{set_elsewhere, set_there}

abbrev pub Blocks : Type 0
Blocks = List (ℕ × List ℕ)

-- these blocks laid over a disk
pub over : Blocks → Sectors → Sectors
over es s sector = unwrap_or (lookup (is_at (nat_cmp sector)) es) (s sector)

-- what a copy is while these entries of the disk are left: with what is left it has the disk's sectors
pub record IsCopying (disk left copy : Blocks) : Type 0 where
  pub ascending : IsStrictlySortedBy nat_cmp (keys_of left)
  pub same : SameSectors (over left (sectors_of copy)) (sectors_of disk)

first_over : (k sector : ℕ) (block : List ℕ) (es : Blocks) (s : Sectors) → sector ≢ k → over ((k, block) ∷ es) s sector ≡ over es s sector
unfolding over
first_over k sector block es s n = by_test (λ (o : Option (List ℕ)). unwrap_or o (s sector) ≡ over es s sector) (Some block) (lookup (is_at (nat_cmp sector)) es) (is_at (nat_cmp sector) k)
    (λ t. absurd (n (tie nat_cmp birth_exact sector k t))) (λ t. refl)

over_there : (k : ℕ) (block : List ℕ) (es : Blocks) (s : Sectors) → over ((k, block) ∷ es) s k ≡ block
unfolding over
over_there k block es s = ap (λ (b : Bool). unwrap_or (cond b (Some block) (lookup (is_at (nat_cmp k)) es)) (s k)) (self nat_cmp birth_exact k)

rest_ascends : (k : ℕ) (block : List ℕ) (es : Blocks) → IsStrictlySortedBy nat_cmp (keys_of ((k, block) ∷ es)) → IsStrictlySortedBy nat_cmp (keys_of es) × (lookup (is_at (nat_cmp k)) es ≡ None)
unfolding IsStrictlySortedBy
rest_ascends k block es h = (h.1, none_below nat_cmp birth_exact es k h.0)

module _ (disk es copy : Blocks) (k : ℕ) (block : List ℕ) (h : IsCopying disk ((k, block) ∷ es) copy) where
  after : Blocks
  after = insert_entry nat_cmp copy k block

  over_after : (sector : ℕ) → over es (sectors_of after) sector ≡ over ((k, block) ∷ es) (sectors_of copy) sector
  unfolding over after
  over_after sector = ⊎_elim
      (λ same. subst (λ n. over es (sectors_of after) n ≡ over ((k, block) ∷ es) (sectors_of copy) n) (sym same)
      (ap (λ (o : Option (List ℕ)). unwrap_or o (sectors_of after k)) (rest_ascends k block es h.ascending).1 ∙ set_there copy k block ∙ sym (over_there k block es (sectors_of copy))))
      (λ other. ap (unwrap_or (lookup (is_at (nat_cmp sector)) es)) (set_elsewhere copy k block sector other) ∙ sym (first_over k sector block es (sectors_of copy) other))
      (cases_eq sector k)

  pub one_copied : IsCopying disk es (insert_entry nat_cmp copy k block)
  unfolding after
  one_copied = record {
    ascending = (rest_ascends k block es h.ascending).0;
    same = λ sector. over_after sector ∙ h.same sector;
  }

pub none_copied : (disk left copy : Blocks) → left ≡ disk → copy ≡ [] → IsStrictlySortedBy nat_cmp (keys_of disk) → IsCopying disk left copy
unfolding over
none_copied disk left copy l e h = record {
  ascending = subst (λ es. IsStrictlySortedBy nat_cmp (keys_of es)) (sym l) h;
  same = λ sector. ap (λ es. over es (sectors_of copy) sector) l ∙ ap (λ es. over disk (sectors_of es) sector) e;
}

pub all_copied : (disk copy : Blocks) → IsCopying disk [] copy → SameSectors (sectors_of copy) (sectors_of disk)
unfolding over
all_copied disk copy h = h.same
