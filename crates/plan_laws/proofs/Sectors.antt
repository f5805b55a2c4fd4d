-- The sectors that a write sets: each has the new bytes among those that it had, and all others stay.
use Rattle.std.proofs.Common.{ℕ, zero, suc, ◌≡◌, ◌≢◌, ◌<◌, ◌≤◌, ◌+◌, ◌-◌, ◌*◌, ◌/◌, ◌%◌, ◌⊎◌, ⊎_elim, Bool, true, false, nat_lt, if◌then◌else◌, List, [], ◌∷◌, ◌++◌, refl, sym, ◌∙◌, ap, subst, arith}
use Rattle.std.proofs.lemmas.Bool.{cases_eq}
use Rattle.std.proofs.lemmas.Bool.Decides.{nat_tests}
use Rattle.disk_definitions.specs.Store.{Store, StoredNode}
use Rattle.disk_definitions.specs.Edits.{Edit, edited, edited_all}
use Rattle.disk_definitions.specs.Edits.Edit.{SetBytes, SetLargeBytes}
use Rattle.disk_definitions.proofs.Puts.{put_part_same, put_part_other}
use Rattle.disk_definitions.specs.Ask.{Ask, part_of, run}
use Rattle.disk_definitions.specs.Plans.{Plan}
use Rattle.disk_definitions.specs.FilePlans.{Writing, keeps_bytes, mixed, read_sector, set_sector, write_sector, write_sectors}
use Rattle.plan_laws.proofs.Bytes.{sector_at, run-sector}

-- ---- one sector

module _ (y : StoredNode) (one : (i j : ℕ) → i < y.blocks → j < y.blocks → y.small i ≡ y.small j → i ≡ j) where
  pub sector_set : (z : Store) (t r : ℕ) (bytes : ℕ → ℕ) → r < 512 → sector_at (edited z (set_sector y t bytes)) y t r ≡ bytes r
  sector_set z t r bytes l = go (nat_lt t 128)
    where
      go : (b : Bool) → (if b then part_of (edited z (if b then SetBytes (y.small (t / 8)) (t % 8) bytes else SetLargeBytes (y.large - 1) (t - 128) bytes)).byte (y.small (t / 8)) (t % 8)
          else part_of (edited z (if b then SetBytes (y.small (t / 8)) (t % 8) bytes else SetLargeBytes (y.large - 1) (t - 128) bytes)).large_byte (y.large - 1) (t - 128)) r ≡ bytes r
      go true = let a : (512 * (t % 8) + r) / 512 ≡ t % 8 = omega arith in let c : (512 * (t % 8) + r) % 512 ≡ r = omega arith in
          let i : nat_lt r 512 ≡ true = grind (arith, nat_tests) in rw i (put_part_same z.byte (y.small (t / 8)) (t % 8) bytes (512 * (t % 8) + r) a ∙ ap bytes c)
      go false = let a : (512 * (t - 128) + r) / 512 ≡ t - 128 = omega arith in let c : (512 * (t - 128) + r) % 512 ≡ r = omega arith in
          let i : nat_lt r 512 ≡ true = grind (arith, nat_tests) in rw i (put_part_same z.large_byte (y.large - 1) (t - 128) bytes (512 * (t - 128) + r) a ∙ ap bytes c)

  abbrev Has : ℕ → Type 0
  Has t = t < 128 → t / 8 < y.blocks

  pub sector_other : (z : Store) (t u r : ℕ) (bytes : ℕ → ℕ) → r < 512 → t ≢ u → Has t → Has u → sector_at (edited z (set_sector y t bytes)) y u r ≡ sector_at z y u r
  sector_other z t u r bytes l far ht hu = go (nat_lt t 128) refl (nat_lt u 128) refl
    where
      apart : (v w : ℕ) → v / 8 ≡ w / 8 → (512 * (v % 8) + r) / 512 ≡ w % 8 → v ≡ w
      apart v w a b = omega arith

      apart_large : (v w : ℕ) → 128 ≤ v → 128 ≤ w → (512 * (v - 128) + r) / 512 ≡ w - 128 → v ≡ w
      apart_large v w a b c = omega arith

      go : (b : Bool) → nat_lt t 128 ≡ b → (c : Bool) → nat_lt u 128 ≡ c →
          (if c then part_of (edited z (if b then SetBytes (y.small (t / 8)) (t % 8) bytes else SetLargeBytes (y.large - 1) (t - 128) bytes)).byte (y.small (u / 8)) (u % 8)
          else part_of (edited z (if b then SetBytes (y.small (t / 8)) (t % 8) bytes else SetLargeBytes (y.large - 1) (t - 128) bytes)).large_byte (y.large - 1) (u - 128)) r
          ≡ (if c then part_of z.byte (y.small (u / 8)) (u % 8) else part_of z.large_byte (y.large - 1) (u - 128)) r
      go true p true q = let w : nat_lt r 512 ≡ true = grind (arith, nat_tests) in rw w (put_part_other z.byte (y.small (t / 8)) (t % 8) bytes (y.small (u / 8)) (512 * (u % 8) + r)
          (λ i e. far (sym (apart u t (one (u / 8) (t / 8) (hu (grind (arith, nat_tests))) (ht (grind (arith, nat_tests))) i) e))))
      go true p false q = refl
      go false p true q = refl
      go false p false q = let w : nat_lt r 512 ≡ true = grind (arith, nat_tests) in rw w (put_part_other z.large_byte (y.large - 1) (t - 128) bytes (y.large - 1) (512 * (u - 128) + r)
          (λ i e. far (sym (apart_large u t (grind (arith, nat_tests)) (grind (arith, nat_tests)) e))))

-- ---- all sectors of a write

module _ (w : Writing) (x y : StoredNode) (s : Store) where
  -- what a sector had, where a byte of it counts
  abbrev pub old_sector : ℕ → ℕ → ℕ
  old_sector t = if keeps_bytes w x.size t then sector_at s x t else (λ r. 0)

  abbrev pub sector_edits : ℕ → ℕ → List Edit
  sector_edits t zero = []
  sector_edits t (suc n) = set_sector y t (mixed w t (old_sector t)) ∷ sector_edits (t + 1) n

  run-write : (t : ℕ) (next : List Edit → Ask Plan) → run (write_sector w x y t next) s ≡ run (next (set_sector y t (mixed w t (old_sector t)) ∷ [])) s
  run-write t next = go (keeps_bytes w x.size t)
    where
      go : (b : Bool) → run (if b then read_sector x t (λ old. next (set_sector y t (mixed w t old) ∷ [])) else next (set_sector y t (mixed w t (λ r. 0)) ∷ [])) s
          ≡ run (next (set_sector y t (mixed w t (if b then sector_at s x t else (λ r. 0))) ∷ [])) s
      go true = run-sector s x t (λ old. next (set_sector y t (mixed w t old) ∷ []))
      go false = refl

  pub run-writes : (t n : ℕ) (next : List Edit → Ask Plan) → run (write_sectors w x y t n next) s ≡ run (next (sector_edits t n)) s
  run-writes t zero next = refl
  run-writes t (suc n) next =
      run-write t (λ one. write_sectors w x y (t + 1) n (λ more. next (one ++ more)))
      ∙ run-writes (t + 1) n (λ more. next ((set_sector y t (mixed w t (old_sector t)) ∷ []) ++ more))

  -- only bytes change
  pub record IsElse (z t : Store) : Type 0 where
    pub inode : t.inode ≡ z.inode
    pub bit : t.bit ≡ z.bit
    pub use_of : t.use_of ≡ z.use_of
    pub place : t.place ≡ z.place
    pub large_bit : t.large_bit ≡ z.large_bit

  one_else : (z : Store) (t : ℕ) (bytes : ℕ → ℕ) → IsElse z (edited z (set_sector y t bytes))
  one_else z t bytes = go (nat_lt t 128)
    where
      go : (b : Bool) → IsElse z (edited z (if b then SetBytes (y.small (t / 8)) (t % 8) bytes else SetLargeBytes (y.large - 1) (t - 128) bytes))
      go true = record { inode = refl; bit = refl; use_of = refl; place = refl; large_bit = refl }
      go false = record { inode = refl; bit = refl; use_of = refl; place = refl; large_bit = refl }

  pub bytes_only : (n t : ℕ) (z : Store) → IsElse z (edited_all z (sector_edits t n))
  bytes_only zero t z = record { inode = refl; bit = refl; use_of = refl; place = refl; large_bit = refl }
  bytes_only (suc n) t z =
      let a = one_else z t (mixed w t (old_sector t)) in
      let b = bytes_only n (t + 1) (edited z (set_sector y t (mixed w t (old_sector t)))) in
      record { inode = b.inode ∙ a.inode; bit = b.bit ∙ a.bit; use_of = b.use_of ∙ a.use_of; place = b.place ∙ a.place; large_bit = b.large_bit ∙ a.large_bit }

  -- bytes of blocks that aren't the file's
  byte_one : (z : Store) (t : ℕ) (bytes : ℕ → ℕ) (k j : ℕ) → (t < 128 → y.small (t / 8) ≢ k) → (edited z (set_sector y t bytes)).byte k j ≡ z.byte k j
  byte_one z t bytes k j far = go (nat_lt t 128) refl
    where
      go : (b : Bool) → nat_lt t 128 ≡ b → (edited z (if b then SetBytes (y.small (t / 8)) (t % 8) bytes else SetLargeBytes (y.large - 1) (t - 128) bytes)).byte k j ≡ z.byte k j
      go true e = put_part_other z.byte (y.small (t / 8)) (t % 8) bytes k j (λ i p. far (grind (arith, nat_tests)) (sym i))
      go false e = refl

  pub byte_other : (n t : ℕ) (z : Store) (k j : ℕ) → ((v : ℕ) → t ≤ v → v < t + n → v < 128 → y.small (v / 8) ≢ k) → (edited_all z (sector_edits t n)).byte k j ≡ z.byte k j
  byte_other zero t z k j far = refl
  byte_other (suc n) t z k j far =
      byte_other n (t + 1) (edited z (set_sector y t (mixed w t (old_sector t)))) k j (λ v lo hi. far v (omega arith) (omega arith)) ∙ byte_one z t (mixed w t (old_sector t)) k j (far t (omega arith) (omega arith))

  large_one : (z : Store) (t : ℕ) (bytes : ℕ → ℕ) (g j : ℕ) → (128 ≤ t → y.large - 1 ≢ g) → (edited z (set_sector y t bytes)).large_byte g j ≡ z.large_byte g j
  large_one z t bytes g j far = go (nat_lt t 128) refl
    where
      go : (b : Bool) → nat_lt t 128 ≡ b → (edited z (if b then SetBytes (y.small (t / 8)) (t % 8) bytes else SetLargeBytes (y.large - 1) (t - 128) bytes)).large_byte g j ≡ z.large_byte g j
      go true e = refl
      go false e = put_part_other z.large_byte (y.large - 1) (t - 128) bytes g j (λ i p. far (grind (arith, nat_tests)) (sym i))

  pub large_other : (n t : ℕ) (z : Store) (g j : ℕ) → ((v : ℕ) → t ≤ v → v < t + n → 128 ≤ v → y.large - 1 ≢ g) → (edited_all z (sector_edits t n)).large_byte g j ≡ z.large_byte g j
  large_other zero t z g j far = refl
  large_other (suc n) t z g j far =
      large_other n (t + 1) (edited z (set_sector y t (mixed w t (old_sector t)))) g j (λ v lo hi. far v (omega arith) (omega arith)) ∙ large_one z t (mixed w t (old_sector t)) g j (far t (omega arith) (omega arith))

  -- sectors of the file
  module _ (one : (i j : ℕ) → i < y.blocks → j < y.blocks → y.small i ≡ y.small j → i ≡ j) where
    pub sector_out : (n t u r : ℕ) (z : Store) → r < 512 → (u < t) ⊎ (t + n ≤ u) → ((v : ℕ) → t ≤ v → v < t + n → v < 128 → v / 8 < y.blocks) → (u < 128 → u / 8 < y.blocks) → sector_at (edited_all z (sector_edits t n)) y u r ≡ sector_at z y u r
    sector_out zero t u r z l out has here = refl
    sector_out (suc n) t u r z l out has here =
        sector_out n (t + 1) u r (edited z (set_sector y t (mixed w t (old_sector t)))) l (grind arith) (λ v lo hi. has v (omega arith) (omega arith)) here
        ∙ sector_other y one z t u r (mixed w t (old_sector t)) l (grind arith) (has t (omega arith) (omega arith)) here

    pub sector_in : (n t u r : ℕ) (z : Store) → r < 512 → t ≤ u → u < t + n → ((v : ℕ) → t ≤ v → v < t + n → v < 128 → v / 8 < y.blocks) → sector_at (edited_all z (sector_edits t n)) y u r ≡ mixed w u (old_sector u) r
    sector_in zero t u r z l lo hi has = absurd (omega arith)
    sector_in (suc n) t u r z l lo hi has =
        let after = edited z (set_sector y t (mixed w t (old_sector t))) in
        ⊎_elim
        (λ e. subst (λ v. sector_at (edited_all z (sector_edits t (suc n))) y v r ≡ mixed w v (old_sector v) r) (sym e)
        (sector_out n (t + 1) t r after l (grind arith) (λ v a b. has v (omega arith) (omega arith)) (has t (omega arith) (omega arith)) ∙ sector_set y one z t r (mixed w t (old_sector t)) l))
        (λ e. sector_in n (t + 1) u r after l (grind arith) (omega arith) (λ v a b. has v (omega arith) (omega arith)))
        (cases_eq u t)
