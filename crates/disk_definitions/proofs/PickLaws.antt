-- A pick is held, free and the least such; none is picked only where there is none.
use Rattle.std.proofs.Common.{ℕ, ◌≡◌, ◌≢◌, ◌<◌, ◌/◌, ◌%◌, ◌⊎◌, inl, inr, Bool, true, false, Option, Some, None, refl, ap, ◌∙◌, arith}
use Rattle.std.proofs.lemmas.Bool.{eq-eqb}
use Rattle.std.proofs.lemmas.Bool.Decides.{nat_tests}
use Rattle.std.specs.Option.{option_map}
use Rattle.frang_base.specs.declared.bitmap.Bitmap.{Bitmap}
use Rattle.disk_definitions.specs.Bitmaps.{inode_bit, block_state}
use Rattle.disk_definitions.specs.Held.{Segments, AreSegments, bitmap_of, inode_in, state_in, large_in}
use Rattle.disk_definitions.specs.Picks.{is_free, is_in_state, or_else, least_in_state}
use Rattle.disk_definitions.specs.PickLaws.{IsLeastInState, NoneInState, PicksAnInode, NoInodeIsLeft, PicksALargeBlock, NoLargeBlockIsLeft, PicksForBytes, NoneIsLeftForBytes, PicksForADirectory, NoneIsLeftForADirectory}
use Rattle.disk_definitions.proofs.LeastLaws.{least_some, least_nothing}

-- what the tests mean
pub free_is : (o : Option Bool) → is_free o ≡ true → o ≡ Some false
free_is None e = absurd (cc)
free_is (Some true) e = absurd (cc)
free_is (Some false) e = refl

pub not_free : (o : Option Bool) → is_free o ≡ false → o ≢ Some false
not_free o e i = let z : is_free o ≡ true = ap is_free i in cc

pub state_is : (s : ℕ) (o : Option ℕ) → is_in_state s o ≡ true → o ≡ Some s
state_is s None e = absurd (cc)
state_is s (Some t) e = ap Some (grind (arith, nat_tests))

pub is_state : (s : ℕ) (o : Option ℕ) → o ≡ Some s → is_in_state s o ≡ true
is_state s o e = ap (is_in_state s) e ∙ eq-eqb s s refl

pub not_state : (s : ℕ) (o : Option ℕ) → is_in_state s o ≡ false → o ≢ Some s
not_state s o e i = let z : is_in_state s o ≡ true = is_state s o i in cc

-- what a held segment says is of one of the 64
pub held_there : {X Y : Type 0} (f : X → Y) (o : Option X) (y : Y) → option_map f o ≡ Some y → (x : X) × (o ≡ Some x)
held_there f None y e = absurd (cc)
held_there f (Some x) y e = (x, refl)

pub inode_below : (held : Segments) (i : ℕ) (used : Bool) → AreSegments held → inode_in held i ≡ Some used → i < 4096
inode_below held i used are e =
    let x = held_there (λ (x : Bitmap). inode_bit x (i % 64)) (bitmap_of held (i / 64)) used e in
    let l : i / 64 < 64 = are (i / 64) x.0 x.1 in omega arith

pub block_below : (held : Segments) (b state : ℕ) → AreSegments held → state_in held b ≡ Some state → b < 65536
block_below held b state are e =
    let x = held_there (λ (x : Bitmap). block_state x (b % 1024)) (bitmap_of held (b / 1024)) state e in
    let l : b / 1024 < 64 = are (b / 1024) x.0 x.1 in omega arith

pub large_below : (held : Segments) (k : ℕ) (used : Bool) → AreSegments held → large_in held k ≡ Some used → k < 64
large_below held k used are e = let x = held_there (λ (x : Bitmap). x.large) (bitmap_of held k) used e in are k x.0 x.1

-- inodes
pub an_inode : PicksAnInode
an_inode held i e =
    let r = least_some (λ i. is_free (inode_in held i)) 4096 i e in
    (r.1, free_is (inode_in held i) r.0, λ j l. not_free (inode_in held j) (r.2 j l))

pub no_inode : NoInodeIsLeft
no_inode held are e i f = not_free (inode_in held i) (least_nothing (λ i. is_free (inode_in held i)) 4096 e i (inode_below held i false are f)) f

-- large blocks
pub a_large_block : PicksALargeBlock
a_large_block held k e =
    let r = least_some (λ k. is_free (large_in held k)) 64 k e in
    (r.1, free_is (large_in held k) r.0, λ j l. not_free (large_in held j) (r.2 j l))

pub no_large_block : NoLargeBlockIsLeft
no_large_block held are e k f = not_free (large_in held k) (least_nothing (λ k. is_free (large_in held k)) 64 e k (large_below held k false are f)) f

-- small blocks of a state
pub in_state : (held : Segments) (state b : ℕ) → least_in_state state (state_in held) ≡ Some b → IsLeastInState held state b
in_state held state b e =
    let r = least_some (λ b. is_in_state state (state_in held b)) 65536 b e in
    (r.1, state_is state (state_in held b) r.0, λ c l. not_state state (state_in held c) (r.2 c l))

pub none_in_state : (held : Segments) (state : ℕ) → AreSegments held → least_in_state state (state_in held) ≡ None → NoneInState held state
none_in_state held state are e c f =
    not_state state (state_in held c) (least_nothing (λ b. is_in_state state (state_in held b)) 65536 e c (block_below held c state are f)) f

pub for_bytes : PicksForBytes
for_bytes held b e = in_state held 0 b e

pub none_for_bytes : NoneIsLeftForBytes
none_for_bytes held are e = none_in_state held 0 are e

pub for_a_directory : PicksForADirectory
for_a_directory held b are e = go (least_in_state 2 (state_in held)) refl e
  where
    go : (o : Option ℕ) → least_in_state 2 (state_in held) ≡ o → or_else o (least_in_state 0 (state_in held)) ≡ Some b → IsLeastInState held 2 b ⊎ (IsLeastInState held 0 b × NoneInState held 2)
    go None i f = inr (in_state held 0 b f, none_in_state held 2 are i)
    go (Some c) i f = inl (in_state held 2 b (i ∙ f))

pub none_for_a_directory : NoneIsLeftForADirectory
none_for_a_directory held are e = go (least_in_state 2 (state_in held)) refl e
  where
    go : (o : Option ℕ) → least_in_state 2 (state_in held) ≡ o → or_else o (least_in_state 0 (state_in held)) ≡ None → NoneInState held 2 × NoneInState held 0
    go None i f = (none_in_state held 2 are i, none_in_state held 0 are f)
    go (Some c) i f = absurd (cc)
