-- What edits of bytes make of a sector that one of them writes.
use Rattle.std.proofs.Common.{ℕ, ◌≡◌, ⊎_elim, Bool, true, false, if◌then◌else◌, Option, Some, None, List, [], ◌∷◌, refl, sym, ◌∙◌, ap, subst}
use Rattle.std.specs.BTreeMap.{is_at}
use Rattle.std.specs.List.{Contains}
use Rattle.std.specs.Ordering.{nat_cmp}
use Rattle.tree_definitions.proofs.Pairs.{birth_exact, self, tie}
use Rattle.sector_bytes.specs.SectorMaps.{value_at}
use Rattle.disk_definitions.specs.Edits.{Edit}
use Rattle.disk_definitions.specs.Written.{byte_write, byte_writes, edit_sector, edited_block, is_metadata}
use Rattle.plan_laws.proofs.Covering.{has_cases, has_head, has_more, not_in_none}
use Rattle.plan_laws.proofs.Filled.{filter_from}
use Rattle.line_histories.proofs.Lists.{filter_has}

-- ---- by a key that has one value

first_value : (xs : List (ℕ × List ℕ)) (s : ℕ) (b : List ℕ) → Contains xs (s, b) → ((a : List ℕ) → Contains xs (s, a) → a ≡ b) → value_at xs s ≡ Some b
first_value [] s b c one = absurd (not_in_none (s, b) c)
first_value (x ∷ xs) s b c one = go (λ i. first_value xs s b i (λ a j. one a (has_more x (s, a) xs j))) (is_at (nat_cmp s) x.0) refl
  where
    go : (Contains xs (s, b) → value_at xs s ≡ Some b) → (t : Bool) → is_at (nat_cmp s) x.0 ≡ t → (if t then Some x.1 else value_at xs s) ≡ Some b
    go rest true q =
        let key : x.0 ≡ s = sym (tie nat_cmp birth_exact s x.0 q) in
        ap Some (one x.1 (subst (λ k. Contains (x ∷ xs) (k, x.1)) key (has_head x xs)))
    go rest false q = rest (⊎_elim
        (λ e. absurd (let key : x.0 ≡ s = ap (λ v. v.0) e in let z : is_at (nat_cmp s) x.0 ≡ true = ap (is_at (nat_cmp s)) key ∙ self nat_cmp birth_exact s in cc))
        (λ i. i) (has_cases x (s, b) xs c))

-- the write of an edit, unless it is of a sector with a version
abbrev write_in : Bool → ℕ → List ℕ → Option (ℕ × List ℕ)
write_in true s block = None
write_in false s block = Some (s, block)

abbrev write_unless : Bool → Edit → Option (ℕ × List ℕ)
write_unless b d = write_in b (edit_sector d) (edited_block [] 0 d)

-- the sector and the bytes of a write
abbrev sector_in : Option (ℕ × List ℕ) → ℕ
sector_in None = 0
sector_in (Some write) = write.0

abbrev block_in : Option (ℕ × List ℕ) → List ℕ
block_in None = []
block_in (Some write) = write.1

as_write : (d : Edit) → byte_write d ≡ write_unless (is_metadata d) d
as_write d = go (edit_sector d) (edited_block [] 0 d) (is_metadata d)
  where
    go : (s : ℕ) (block : List ℕ) (b : Bool) → if◌then◌else◌ {A = Option (ℕ × List ℕ)} b None (Some (s, block)) ≡ write_in b s block
    go s block true = refl
    go s block false = refl

is_write : (d : Edit) → is_metadata d ≡ false → byte_write d ≡ Some (edit_sector d, edited_block [] 0 d)
is_write d e = as_write d ∙ ap (λ b. write_unless b d) e

of_write : (d : Edit) (s : ℕ) (block : List ℕ) → byte_write d ≡ Some (s, block) → (is_metadata d ≡ false) × (edit_sector d ≡ s) × (edited_block [] 0 d ≡ block)
of_write d s block e = go (is_metadata d) refl (sym (as_write d) ∙ e)
  where
    go : (b : Bool) → is_metadata d ≡ b → write_unless b d ≡ Some (s, block) → (is_metadata d ≡ false) × (edit_sector d ≡ s) × (edited_block [] 0 d ≡ block)
    go true q i = absurd (cc)
    go false q i = (q, ap sector_in i, ap block_in i)

-- the sector of an edit that is the only one there gets its bytes
pub value_is : (edits : List Edit) (d : Edit) → Contains edits d → is_metadata d ≡ false →
    ((g : Edit) → Contains edits g → is_metadata g ≡ false → edit_sector g ≡ edit_sector d → g ≡ d) →
    value_at (byte_writes edits) (edit_sector d) ≡ Some (edited_block [] 0 d)
value_is edits d c p one =
    first_value (byte_writes edits) (edit_sector d) (edited_block [] 0 d) (filter_has byte_write edits d (edit_sector d, edited_block [] 0 d) (is_write d p) c)
    (λ a i.
    let r = filter_from byte_write edits (edit_sector d, a) i in
    let w = of_write r.0 (edit_sector d) a r.2 in
    sym w.2 ∙ ap (edited_block [] 0) (one r.0 r.1 w.0 w.1))
