-- Logs that have the same blocks in their 256 slots hold the same records.
use Rattle.std.proofs.Common.{◌≡◌, ℕ, zero, suc, ◌<◌, [], ◌∷◌, ◌++◌, map, refl, sym, ap, ◌∙◌, add-one, arith}
use Rattle.disk_definitions.specs.LogSectors.{log_sector_in}
use Rattle.tree_definitions.specs.Numbers.{below}
use Rattle.disk_definitions.specs.Logs.{Slots, log_end, log_records, records_among}
use Rattle.log_reading.specs.Decoded.{decoded, end_of, sectors_up_to}
use Rattle.log_reading.proofs.Windows.{map_more}
use Rattle.log_reading.proofs.Words.{end_is, sectors_are}

map_same : {X : Type 0} (f g : ℕ → X) (n : ℕ) → ((k : ℕ) → k < n → f k ≡ g k) → map f (below n) ≡ map g (below n)
map_same f g zero same = refl
map_same f g (suc n) same =
    ap (λ k. map f (below k)) (sym (add-one n)) ∙ map_more f n ∙ ap (λ xs. xs ++ f n ∷ []) (map_same f g n (λ k h. same k (omega arith))) ∙ ap (λ x. map g (below n) ++ x ∷ []) (same n (omega arith)) ∙ sym (map_more g n)
    ∙ ap (λ k. map g (below k)) (add-one n)

decoded_same : (a b : Slots) → ((slot : ℕ) → slot < 256 → a slot ≡ b slot) → decoded a ≡ decoded b
unfolding decoded
decoded_same a b same = map_same (λ slot. log_sector_in slot (a slot)) (λ slot. log_sector_in slot (b slot)) 256 (λ slot h. ap (log_sector_in slot) (same slot h))

by_decoded : (a : Slots) → records_among (sectors_up_to (decoded a) (end_of (decoded a))) ≡ log_records a
by_decoded a = ap (λ end. records_among (sectors_up_to (decoded a) end)) (end_is a) ∙ ap records_among (sectors_are a (log_end a))

pub same_records : (a b : Slots) → ((slot : ℕ) → slot < 256 → a slot ≡ b slot) → log_records a ≡ log_records b
same_records a b same = sym (by_decoded a) ∙ ap (λ d. records_among (sectors_up_to d (end_of d))) (decoded_same a b same) ∙ by_decoded b
