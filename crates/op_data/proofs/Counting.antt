-- How many pass, number after number and segment after segment.
use Rattle.std.proofs.Common.{◌≡◌, ◌==◌, ◌||◌, ◌<◌, ◌+◌, ◌*◌, ◌/◌, ◌%◌, ℕ, zero, suc, Bool, Option, Some, None, sym, ap, ◌∙◌, arith}
use Rattle.std.specs.Option.{option_map}
use Rattle.disk_definitions.specs.Least.{count, one_if}
use Rattle.frang_base.specs.declared.bitmap.Bitmap.{Bitmap}
use Rattle.disk_definitions.specs.Bitmaps.{block_state}
use Rattle.disk_definitions.specs.Held.{Segments, bitmap_of, state_in}
use Rattle.disk_definitions.specs.Picks.{is_in_state}
use Rattle.disk_definitions.proofs.PickCounts.{count_more, count_none, count_same, count_zero}

pub counted : (f : ℕ → Bool) (n c d : ℕ) (b : Bool) → d ≡ one_if b → b ≡ f n → c ≡ count f n → c + d ≡ count f (n + 1)
counted f n c d b o t e =
    let m : count f (suc n) ≡ one_if (f n) + count f n = count_more f n in
    let s : suc n ≡ n + 1 = omega arith in
    let q : d ≡ one_if (f n) = o ∙ ap one_if t in
    let r : c + d ≡ one_if (f n) + count f n = omega arith in
    r ∙ sym m ∙ ap (count f) s

-- those of the first a, and of the next b
pub count_parts : (f : ℕ → Bool) (a b : ℕ) → count f (a + b) ≡ count f a + count (λ j. f (a + j)) b
count_parts f a zero =
    let z : a + 0 ≡ a = omega arith in
    let w : count f a ≡ count f a + 0 = omega arith in
    ap (count f) z ∙ w ∙ ap (λ n. count f a + n) (sym (count_zero (λ j. f (a + j))))
count_parts f a (suc b) =
    let s : a + suc b ≡ suc (a + b) = omega arith in
    let r : count f (a + b) ≡ count f a + count (λ j. f (a + j)) b = count_parts f a b in
    let q : count f (suc (a + b)) ≡ one_if (f (a + b)) + count f (a + b) = count_more f (a + b) in
    let p : count (λ j. f (a + j)) (suc b) ≡ one_if (f (a + b)) + count (λ j. f (a + j)) b = count_more (λ j. f (a + j)) b in
    let m : one_if (f (a + b)) + count f (a + b) ≡ count f a + (one_if (f (a + b)) + count (λ j. f (a + j)) b) = omega arith in
    ap (count f) s ∙ q ∙ m ∙ ap (λ n. count f a + n) (sym p)

pub segment_counted : (f : ℕ → Bool) (k c d : ℕ) → c ≡ count f (1024 * k) → d ≡ count (λ j. f (1024 * k + j)) 1024 → c + d ≡ count f (1024 * (k + 1))
segment_counted f k c d e g =
    let s : 1024 * k + 1024 ≡ 1024 * (k + 1) = omega arith in
    let r : c + d ≡ count f (1024 * k) + count (λ j. f (1024 * k + j)) 1024 = cc in
    r ∙ sym (count_parts f (1024 * k) 1024) ∙ ap (count f) s

-- ---- the blocks of one segment that are or were a directory's
-- the state is a directory's, or a former directory's
pub is_directorys : Option ℕ → Bool
is_directorys s = is_in_state 2 s || is_in_state 3 s

state_there : (held : Segments) (k j : ℕ) (o : Option Bitmap) → j < 1024 → bitmap_of held k ≡ o → state_in held (1024 * k + j) ≡ option_map (λ x. block_state x j) o
state_there held k j o l e =
    let a : (1024 * k + j) / 1024 ≡ k = omega arith in
    let b : (1024 * k + j) % 1024 ≡ j = omega arith in
    ap (λ (i : ℕ). option_map (λ x. block_state x ((1024 * k + j) % 1024)) (bitmap_of held i)) a ∙ ap (λ (i : ℕ). option_map (λ x. block_state x i) (bitmap_of held k)) b
    ∙ ap (option_map (λ x. block_state x j)) e

pub segment_there : (held : Segments) (k : ℕ) (x : Bitmap) → bitmap_of held k ≡ Some x
    → count (λ j. block_state x j == 2 || block_state x j == 3) 1024 ≡ count (λ j. is_in_state 2 (state_in held (1024 * k + j)) || is_in_state 3 (state_in held (1024 * k + j))) 1024
unfolding is_directorys
segment_there held k x e =
    count_same (λ j. block_state x j == 2 || block_state x j == 3) (λ j. is_directorys (state_in held (1024 * k + j))) 1024 (λ j l. sym (ap is_directorys (state_there held k j (Some x) l e)))

pub segment_missing : (held : Segments) (k : ℕ) → bitmap_of held k ≡ None → 0 ≡ count (λ j. is_in_state 2 (state_in held (1024 * k + j)) || is_in_state 3 (state_in held (1024 * k + j))) 1024
unfolding is_directorys
segment_missing held k e = sym (count_none (λ j. is_directorys (state_in held (1024 * k + j))) 1024 (λ j l. ap is_directorys (state_there held k j None l e)))
