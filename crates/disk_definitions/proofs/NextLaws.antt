-- A second pick, once the first is taken, lies above it; for a directory it is another block.
use Rattle.std.proofs.Common.{ℕ, ◌≡◌, ◌≢◌, ◌<◌, ◌/◌, ◌%◌, ◌⊎◌, inl, inr, ◌==◌, if◌then◌else◌, is_some, true, false, Option, Some, None, refl, sym, ap, ◌∙◌, arith}
use Rattle.std.proofs.lemmas.Bool.{cases_lt, cases_eq}
use Rattle.frang_base.specs.declared.bitmap.Bitmap.{Bitmap}
use Rattle.disk_definitions.specs.Bitmaps.{inode_bit}
use Rattle.disk_definitions.proofs.Chosen.{chosen_same, chosen_other}
use Rattle.disk_definitions.specs.Held.{Segments, bitmap_of, inode_in, state_in, large_in}
use Rattle.disk_definitions.specs.Picks.{or_else, least_in_state, picked_directory}
use Rattle.disk_definitions.specs.Taken.{taken_inode, taken_large, taken_small}
use Rattle.disk_definitions.specs.PickLaws.{NextInodeIsAbove, NextLargeBlockIsAbove, NextForBytesIsAbove, NextForADirectoryIsAnother}
use Rattle.disk_definitions.proofs.PickLaws.{held_there, an_inode, a_large_block, in_state}
use Rattle.disk_definitions.proofs.TakenLaws.{small_is_changed, inode_is_marked, large_is_marked}
use Rattle.disk_definitions.proofs.ManyLaws.{is_held}

-- what passes after one was marked and didn't pass itself lies above it, where none below it passed
above : {X : Type 0} (before after : ℕ → X) (free taken : X) (i j : ℕ) → taken ≢ free → ((q : ℕ) → after q ≡ (if q == i then taken else before q)) → ((q : ℕ) → q < i → before q ≢ free) → after j ≡ free → i < j
above before after free taken i j apart marks least e = elim (cases_lt j i) [
  | inl low ↦ absurd (least j low (sym (marks j ∙ chosen_other j i taken (before j) (λ q. absurd (omega arith))) ∙ e))
  | inr high ↦ elim (cases_eq j i) [
    | inl q ↦ absurd (apart (sym (marks j ∙ chosen_same j i taken (before j) q) ∙ e))
    | inr d ↦ grind arith
  ]
]

pub next_inode : NextInodeIsAbove
next_inode held i j e f =
    let r = an_inode held i e in
    let there : is_some (bitmap_of held (i / 64)) ≡ true = ap is_some (held_there (λ (x : Bitmap). inode_bit x (i % 64)) (bitmap_of held (i / 64)) false r.1).1 in
    above (inode_in held) (inode_in (taken_inode held i)) (Some false) (Some true) i j (λ q. absurd (cc)) (inode_is_marked held i true there).0 r.2 (an_inode (taken_inode held i) j f).1

pub next_large_block : NextLargeBlockIsAbove
next_large_block held k j e f =
    let r = a_large_block held k e in
    let there : is_some (bitmap_of held k) ≡ true = ap is_some (held_there (λ (x : Bitmap). x.large) (bitmap_of held k) false r.1).1 in
    above (large_in held) (large_in (taken_large held k)) (Some false) (Some true) k j (λ q. absurd (cc)) (large_is_marked held k true there).0 r.2 (a_large_block (taken_large held k) j f).1

pub next_for_bytes : NextForBytesIsAbove
next_for_bytes held b c are e f =
    let r = in_state held 0 b e in
    above (state_in held) (state_in (taken_small held b 1)) (Some 0) (Some 1) b c (λ q. absurd (cc)) (small_is_changed held b 1 are (omega arith) (is_held held b 0 r.1)).0 r.2 (in_state (taken_small held b 1) 0 c f).1

-- a block for a directory has state 2 or 0
for_either : (held : Segments) (b : ℕ) → picked_directory held ≡ Some b → (state_in held b ≡ Some 2) ⊎ (state_in held b ≡ Some 0)
for_either held b e = go (least_in_state 2 (state_in held)) refl e
  where
    go : (o : Option ℕ) → least_in_state 2 (state_in held) ≡ o → or_else o (least_in_state 0 (state_in held)) ≡ Some b → (state_in held b ≡ Some 2) ⊎ (state_in held b ≡ Some 0)
    go None i f = inr (in_state held 0 b f).1
    go (Some c) i f = inl (in_state held 2 b (i ∙ f)).1

pub next_for_a_directory : NextForADirectoryIsAnother
next_for_a_directory held b c are e f i =
    let there : is_some (bitmap_of held (b / 1024)) ≡ true = elim (for_either held b e) [ inl h ↦ is_held held b 2 h | inr h ↦ is_held held b 0 h ] in
    let now : state_in (taken_small held b 3) c ≡ Some 3 = (small_is_changed held b 3 are (omega arith) there).0 c ∙ chosen_same c b (Some 3) (state_in held c) i in
    elim (for_either (taken_small held b 3) c f) [ inl h ↦ absurd (let z : Some 3 ≡ Some 2 = sym now ∙ h in cc) | inr h ↦ absurd (let z : Some 3 ≡ Some 0 = sym now ∙ h in cc) ]
