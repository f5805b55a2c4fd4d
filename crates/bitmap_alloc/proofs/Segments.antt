-- A search through one segment, by what it says of its own inodes and blocks; one that isn't held has none.
use Rattle.std.proofs.Common.{ℕ, ◌≡◌, ◌<◌, ◌≤◌, ◌+◌, ◌-◌, ◌*◌, ◌/◌, ◌%◌, ◌==◌, not, Some, None, sym, ap, ◌∙◌, arith}
use Rattle.std.specs.Option.{option_map}
use Rattle.frang_base.specs.declared.bitmap.Bitmap.{Bitmap}
use Rattle.disk_definitions.specs.Bitmaps.{inode_bit, block_state}
use Rattle.disk_definitions.specs.Least.{least, least_from}
use Rattle.disk_definitions.specs.Held.{Segments, bitmap_of, inode_in, state_in}
use Rattle.disk_definitions.specs.Picks.{is_free, is_in_state}
use Rattle.disk_definitions.proofs.LeastLaws.{from_same, least_same, nothing_from, nothing_below}

inode_there : (held : Segments) (k j : ℕ) → j < 64 → inode_in held (64 * k + j) ≡ option_map (λ x. inode_bit x j) (bitmap_of held k)
inode_there held k j l =
    let a : (64 * k + j) / 64 ≡ k = omega arith in
    let b : (64 * k + j) % 64 ≡ j = omega arith in
    ap (λ (i : ℕ). option_map (λ x. inode_bit x ((64 * k + j) % 64)) (bitmap_of held i)) a ∙ ap (λ (i : ℕ). option_map (λ x. inode_bit x i) (bitmap_of held k)) b

state_there : (held : Segments) (k j : ℕ) → j < 1024 → state_in held (1024 * k + j) ≡ option_map (λ x. block_state x j) (bitmap_of held k)
state_there held k j l =
    let a : (1024 * k + j) / 1024 ≡ k = omega arith in
    let b : (1024 * k + j) % 1024 ≡ j = omega arith in
    ap (λ (i : ℕ). option_map (λ x. block_state x ((1024 * k + j) % 1024)) (bitmap_of held i)) a ∙ ap (λ (i : ℕ). option_map (λ x. block_state x i) (bitmap_of held k)) b

pub inodes_of : (held : Segments) (k : ℕ) (x : Bitmap) → bitmap_of held k ≡ Some x → least (λ j. not (inode_bit x j)) 64 ≡ least (λ j. is_free (inode_in held (64 * k + j))) 64
inodes_of held k x e = least_same (λ j. not (inode_bit x j)) (λ j. is_free (inode_in held (64 * k + j))) 64
    (λ j l. sym (ap is_free (inode_there held k j l ∙ ap (option_map (λ x. inode_bit x j)) e)))

pub inodes_missing : (held : Segments) (k : ℕ) → bitmap_of held k ≡ None → None ≡ least (λ j. is_free (inode_in held (64 * k + j))) 64
inodes_missing held k e = sym (nothing_below (λ j. is_free (inode_in held (64 * k + j))) 64 (λ j l. ap is_free (inode_there held k j l ∙ ap (option_map (λ x. inode_bit x j)) e)))

pub states_of : (held : Segments) (k : ℕ) (x : Bitmap) (s start : ℕ) → start ≤ 1024 → bitmap_of held k ≡ Some x
    → least_from (λ j. block_state x j == s) start (1024 - start) ≡ least_from (λ j. is_in_state s (state_in held (1024 * k + j))) start (1024 - start)
states_of held k x s start low e = from_same (λ j. block_state x j == s) (λ j. is_in_state s (state_in held (1024 * k + j))) start (1024 - start)
    (λ j lo hi. sym (ap (is_in_state s) (state_there held k j (omega arith) ∙ ap (option_map (λ x. block_state x j)) e)))

pub states_missing : (held : Segments) (k s start : ℕ) → start ≤ 1024 → bitmap_of held k ≡ None → None ≡ least_from (λ j. is_in_state s (state_in held (1024 * k + j))) start (1024 - start)
states_missing held k s start low e = sym (nothing_from (λ j. is_in_state s (state_in held (1024 * k + j))) start (1024 - start)
    (λ j lo hi. ap (is_in_state s) (state_there held k j (omega arith) ∙ ap (option_map (λ x. block_state x j)) e)))
