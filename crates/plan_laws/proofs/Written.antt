-- The bytes of a file after a write: the new ones where it wrote, and elsewhere those that it had.
use Rattle.std.proofs.Common.{ℕ, ◌≡◌, ◌<◌, ◌≤◌, ◌+◌, ◌-◌, ◌*◌, ◌/◌, ◌%◌, ◌==◌, ◌&&◌, ◌||◌, ◌⊎◌, inl, inr, ⊎_elim, Bool, true, false, nat_lt, nat_le, min, if◌then◌else◌, refl, sym, ◌∙◌, ap, subst, arith}
use Rattle.std.proofs.lemmas.Bool.{cases_lt}
use Rattle.std.proofs.lemmas.Bool.Decides.{nat_tests}
use mathlib.Core.Bool.{or-true}
use Rattle.disk_definitions.specs.Store.{Store, StoredNode}
use Rattle.disk_definitions.specs.Edits.{edited_all}
use Rattle.disk_definitions.specs.FilePlans.{Writing, end_of, keeps_bytes, byte_over, mixed, sectors_met}
use Rattle.plan_laws.proofs.Bytes.{sector_at, stored_byte}
use Rattle.plan_laws.proofs.Sectors.{old_sector, sector_edits, sector_in, sector_out}

-- a sector that is met has one of the bytes
pub met_some : (off len v : ℕ) → off / 512 ≤ v → v < off / 512 + sectors_met off len → (0 < len) × (512 * v < off + len)
met_some off len v lo hi = go (len == 0) refl hi
  where
    go : (b : Bool) → len == 0 ≡ b → v < off / 512 + (if b then 0 else (off + len - 1) / 512 + 1 - off / 512) → (0 < len) × (512 * v < off + len)
    go true e h = absurd (omega arith)
    go false e h = let z : 0 < len = grind (arith, nat_tests) in (z, omega arith)

-- a byte that is written is in a sector that is met
met_byte : (off len j : ℕ) → off ≤ j → j < off + len → (off / 512 ≤ j / 512) × (j / 512 < off / 512 + sectors_met off len)
met_byte off len j lo hi = go (len == 0) refl
  where
    go : (b : Bool) → len == 0 ≡ b → (off / 512 ≤ j / 512) × (j / 512 < off / 512 + (if b then 0 else (off + len - 1) / 512 + 1 - off / 512))
    go true e = absurd (let z : len ≡ 0 = grind (arith, nat_tests) in omega arith)
    go false e = (omega arith, omega arith)

-- a byte below the old size that isn't written keeps its sector read
keeps_outside : (w : Writing) (size j : ℕ) → j < size → (j < w.off) ⊎ (end_of w ≤ j) → keeps_bytes w size (j / 512) ≡ true
keeps_outside w size j l out = ⊎_elim
    (λ a. let b : nat_lt (512 * (j / 512)) (min w.off size) ≡ true = low (512 * (j / 512)) w.off size (omega arith) (omega arith) in ap (λ v. v || nat_lt (end_of w) (min (512 * (j / 512 + 1)) size)) b)
    (λ a. let b : nat_lt (end_of w) (min (512 * (j / 512 + 1)) size) ≡ true = low (end_of w) (512 * (j / 512 + 1)) size (omega arith) (omega arith) in ap (λ v. nat_lt (512 * (j / 512)) (min w.off size) || v) b ∙ or-true (nat_lt (512 * (j / 512)) (min w.off size)))
    out
  where
    low : (a b c : ℕ) → a < b → a < c → nat_lt a (min b c) ≡ true
    low a b c k m = let z : a < min b c = omega arith in grind (arith, nat_tests)

in_sector : (w : Writing) (t r : ℕ) (old : ℕ → ℕ) → r < 512 → mixed w t old r ≡ byte_over w (512 * t + r) (old r)
in_sector w t r old l = let i : nat_lt r 512 ≡ true = grind (arith, nat_tests) in rw i refl

mixed_new : (w : Writing) (t r j : ℕ) (old : ℕ → ℕ) → r < 512 → 512 * t + r ≡ j → w.off ≤ j → j < end_of w → mixed w t old r ≡ w.byte j
mixed_new w t r j old l e lo hi = in_sector w t r old l ∙ subst (λ k. byte_over w k (old r) ≡ w.byte j) (sym e)
    (let a : nat_le w.off j ≡ true = grind (arith, nat_tests) in let b : nat_lt j (end_of w) ≡ true = grind (arith, nat_tests) in rw (a, b) refl)

mixed_old : (w : Writing) (t r j : ℕ) (old : ℕ → ℕ) → r < 512 → 512 * t + r ≡ j → (j < w.off) ⊎ (end_of w ≤ j) → mixed w t old r ≡ old r
mixed_old w t r j old l e out = in_sector w t r old l ∙ subst (λ k. byte_over w k (old r) ≡ old r) (sym e)
    (⊎_elim
    (λ l. let a : nat_le w.off j ≡ false = grind (arith, nat_tests) in rw a refl)
    (λ l. let b : nat_lt j (end_of w) ≡ false = grind (arith, nat_tests) in not_both (nat_le w.off j) (nat_lt j (end_of w)) b)
    out)
  where
    not_both : (p q : Bool) → q ≡ false → (if p && q then w.byte j else old r) ≡ old r
    not_both true q e = rw e refl
    not_both false q e = refl

module _ (w : Writing) (x y : StoredNode) (s z : Store) (one : (i j : ℕ) → i < y.blocks → j < y.blocks → y.small i ≡ y.small j → i ≡ j) (has : (v : ℕ) → 512 * v < y.size → v < 128 → v / 8 < y.blocks) (longer : end_of w ≤ y.size) where
  abbrev first : ℕ
  first = w.off / 512

  abbrev met : ℕ
  met = sectors_met w.off w.len

  abbrev t : Store
  t = edited_all z (sector_edits w x y s first met)

  pub has_met : (v : ℕ) → first ≤ v → v < first + met → v < 128 → v / 8 < y.blocks
  has_met v lo hi = has v (let r : 512 * v < w.off + w.len = (met_some w.off w.len v lo hi).1 in omega (arith, longer))

  parts : (j : ℕ) → 512 * (j / 512) + j % 512 ≡ j
  parts j = omega arith

  rest : (j : ℕ) → j % 512 < 512
  rest j = omega arith

  pub byte_new : (j : ℕ) → w.off ≤ j → j < end_of w → stored_byte t y j ≡ w.byte j
  byte_new j lo hi =
      let r = met_byte w.off w.len j lo hi in
      sector_in w x y s one met first (j / 512) (j % 512) z (rest j) r.0 r.1 has_met ∙ mixed_new w (j / 512) (j % 512) j (old_sector w x y s (j / 512)) (rest j) (parts j) lo hi

  -- what was there before, of a byte below the old size
  pub byte_old : (j : ℕ) → j < y.size → j < x.size → stored_byte z y j ≡ stored_byte s x j → (j < w.off) ⊎ (end_of w ≤ j) → stored_byte t y j ≡ stored_byte s x j
  byte_old j l m same out = ⊎_elim
      (λ a. sector_out w x y s one met first (j / 512) (j % 512) z (rest j) (inl a) has_met here ∙ same)
      (λ a. ⊎_elim
      (λ c. sector_in w x y s one met first (j / 512) (j % 512) z (rest j) a c has_met ∙ mixed_old w (j / 512) (j % 512) j (old_sector w x y s (j / 512)) (rest j) (parts j) out
      ∙ ap (λ b. (if b then sector_at s x (j / 512) else (λ r. 0)) (j % 512)) (keeps_outside w x.size j m out))
      (λ c. sector_out w x y s one met first (j / 512) (j % 512) z (rest j) (inr c) has_met here ∙ same)
      (cases_lt (j / 512) (first + met)))
      (cases_lt (j / 512) first)
    where
      here : j / 512 < 128 → j / 512 / 8 < y.blocks
      here = has (j / 512) (omega arith)
