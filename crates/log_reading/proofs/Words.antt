-- The words over what stands in the slots are those of a log's definition.
use Rattle.std.proofs.Common.{◌≡◌, ℕ, zero, suc, ◌%◌, ◌<◌, Bool, ◌&&◌, if◌then◌else◌, nat_le, is_some, Option, None, List, [], ◌∷◌, get_or, map, refl, ap, ◌∙◌, arith}
use Rattle.std.proofs.Math.Nat.{mod-lt}
use Rattle.std.specs.Prelude.{max, fold}
use Rattle.std.specs.List.{list_all, filter, filter_map, cons_option}
use Rattle.std.specs.Option.{option_map}
use Rattle.std.proofs.lemmas.List.{get_or-map}
use Rattle.disk_definitions.specs.LogSectors.{log_sector_in}
use Rattle.tree_definitions.specs.Numbers.{below}
use Rattle.disk_definitions.proofs.Lists.{length_below, below_at}
use Rattle.disk_definitions.specs.Logs as logs
use Rattle.disk_definitions.specs.Logs.{Slots, is_end, log_end, numbered, numbers_in, sector_numbered, sectors_read, seq_of, stands, window}
use Rattle.log_reading.specs.Decoded.{decoded, end_of, is_full, numbers_of, sector_with, sectors_up_to}

-- ---- lists

module _ {X Y Z : Type 0} where
  filter_map-map : (f : Y → Option Z) (g : X → Y) (xs : List X) → filter_map f (map g xs) ≡ filter_map (λ x. f (g x)) xs
  filter_map-map f g [] = refl
  filter_map-map f g (x ∷ xs) = ap (cons_option (f (g x))) (filter_map-map f g xs)

module _ {X Y : Type 0} where
  same_filter_map : (f g : X → Option Y) → ((x : X) → f x ≡ g x) → (xs : List X) → filter_map f xs ≡ filter_map g xs
  same_filter_map f g h [] = refl
  same_filter_map f g h (x ∷ xs) = ap (λ o. cons_option o (filter_map f xs)) (h x) ∙ ap (cons_option (g x)) (same_filter_map f g h xs)

module _ {X : Type 0} where
  same_filter : (f g : X → Bool) → ((x : X) → f x ≡ g x) → (xs : List X) → filter f xs ≡ filter g xs
  same_filter f g h [] = refl
  same_filter f g h (x ∷ xs) = ap (λ b. if b then x ∷ filter f xs else filter f xs) (h x) ∙ ap (λ ys. if g x then x ∷ ys else ys) (same_filter f g h xs)

  same_all : (f g : X → Bool) → ((x : X) → f x ≡ g x) → (xs : List X) → list_all f xs ≡ list_all g xs
  same_all f g h [] = refl
  same_all f g h (x ∷ xs) = ap (λ b. b && list_all f xs) (h x) ∙ ap (λ b. g x && b) (same_all f g h xs)

  map_at : (f : ℕ → X) (d : X) (n k : ℕ) → k < n → get_or (map f (below n)) k d ≡ f k
  map_at f d n k h = get_or-map f (below n) k 0 d (omega (arith, h, length_below n)) ∙ ap f (below_at n k h)

-- ---- sectors by their numbers

with_is : (slots : Slots) (n : ℕ) → sector_with (decoded slots) n ≡ sector_numbered slots n
unfolding decoded
with_is slots n = ap (numbered n) (map_at (λ slot. log_sector_in slot (slots slot)) None 256 (n % 256) (mod-lt n (omega arith)))

full_is : (slots : Slots) (end : ℕ) → is_full (decoded slots) end ≡ is_end slots end
unfolding is_full
full_is slots end = ap (λ b. nat_le 191 end && b) (same_all (λ n. is_some (sector_with (decoded slots) n)) (stands slots) (λ n. ap is_some (with_is slots n)) (window end))

pub numbers_are : (slots : Slots) → numbers_of (decoded slots) ≡ numbers_in slots
unfolding decoded logs.numbers_in
numbers_are slots = filter_map-map (option_map seq_of) (λ slot. log_sector_in slot (slots slot)) (below 256)

pub end_is : (slots : Slots) → end_of (decoded slots) ≡ log_end slots
unfolding logs.log_end
end_is slots =
    ap (λ ns. fold max 0 (filter (is_full (decoded slots)) ns)) (numbers_are slots) ∙ ap (fold max 0) (same_filter (is_full (decoded slots)) (is_end slots) (full_is slots) (numbers_in slots))

pub sectors_are : (slots : Slots) (end : ℕ) → sectors_up_to (decoded slots) end ≡ sectors_read slots end
unfolding sectors_up_to
sectors_are slots zero = refl
sectors_are slots (suc end) = same_filter_map (sector_with (decoded slots)) (sector_numbered slots) (with_is slots) (window (suc end))
