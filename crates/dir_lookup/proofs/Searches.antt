-- One step of a search through the sectors of a directory.
use Rattle.std.proofs.Common.{◌≡◌, ℕ, suc, ◌+◌, ◌-◌, ◌/◌, ◌%◌, ◌<◌, ◌≤◌, Bool, Option, Some, None, sym, ap, ◌∙◌, arith}
use Rattle.disk_definitions.specs.Store.{StoredEntry}
use Rattle.disk_definitions.specs.Held.{Segments}
use Rattle.disk_definitions.specs.Least.{least}
use Rattle.disk_definitions.specs.Ask.{Ask, Got, ReadDirectory, bind}
use Rattle.disk_definitions.specs.Walks.{Found, hit, or_on, search}
use Rattle.disk_definitions.specs.Written.{Cached}
use Rattle.dir_lookup.specs.Reading.{Read, Lacks, Gives, reading, then_read}
use Rattle.dir_lookup.proofs.Readings.{reading_bind}

-- a program that goes on from one of which it is known what it comes to
pub goes_on : {A B : Type 0} (p : Ask A) (f : A → Ask B) (cached : Cached) (held : Segments) (r : Read A) → r ≡ reading p cached held → then_read r (λ a. reading (f a) cached held) ≡ reading (bind p f) cached held
goes_on p f cached held r e = ap (λ r. then_read r (λ a. reading (f a) cached held)) e ∙ sym (reading_bind p f cached held)

module _ (small : ℕ → ℕ) (test : Option StoredEntry → Bool) (cached : Cached) (held : Segments) (want : Read (Option Found)) (j end : ℕ) where
  -- what is done with the sector
  after : (ℕ → Option StoredEntry) → Ask (Option Found)
  after f = or_on (hit test j f (least (λ r. test (f r)) 7)) (search small test (j + 1) (end - (j + 1)))

  opened : (r : Read (ℕ → Option StoredEntry)) → j < end → r ≡ reading (ReadDirectory (small (j / 8)) (j % 8) Got) cached held
      → then_read r (λ f. reading (after f) cached held) ≡ reading (search small test j (end - j)) cached held
  unfolding after
  opened r l e =
      let n : suc (end - (j + 1)) ≡ end - j = omega arith in
      goes_on (ReadDirectory (small (j / 8)) (j % 8) Got) after cached held r e ∙ ap (λ n. reading (search small test j n) cached held) n

  pub part_lacks : (s : ℕ) → j < end → Lacks s ≡ reading (ReadDirectory (small (j / 8)) (j % 8) Got) cached held → reading (search small test j (end - j)) cached held ≡ want → Lacks s ≡ want
  part_lacks s l e w = opened (Lacks s) l e ∙ w

  pub part_hits : (f : ℕ → Option StoredEntry) (q : Found) → j < end → Gives f ≡ reading (ReadDirectory (small (j / 8)) (j % 8) Got) cached held
      → Some q ≡ hit test j f (least (λ r. test (f r)) 7) → reading (search small test j (end - j)) cached held ≡ want → Gives (Some q) ≡ want
  unfolding after
  part_hits f q l e h w = ap (λ o. reading (or_on o (search small test (j + 1) (end - (j + 1)))) cached held) h ∙ opened (Gives f) l e ∙ w

  pub part_passes : (f : ℕ → Option StoredEntry) → j < end → Gives f ≡ reading (ReadDirectory (small (j / 8)) (j % 8) Got) cached held
      → None ≡ hit test j f (least (λ r. test (f r)) 7) → reading (search small test j (end - j)) cached held ≡ want → reading (search small test (j + 1) (end - (j + 1))) cached held ≡ want
  unfolding after
  part_passes f l e h w = ap (λ o. reading (or_on o (search small test (j + 1) (end - (j + 1)))) cached held) h ∙ opened (Gives f) l e ∙ w

  pub parts_end : end ≤ j → reading (search small test j (end - j)) cached held ≡ want → Gives None ≡ want
  parts_end l w = let z : 0 ≡ end - j = omega arith in ap (λ n. reading (search small test j n) cached held) z ∙ w
