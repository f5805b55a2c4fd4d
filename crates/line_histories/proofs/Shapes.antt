-- Edits that are the same but for the bytes of files move, claim, free and change the same.
use Rattle.std.proofs.Common.{ℕ, ◌≡◌, ◌+◌, ◌&&◌, ◌||◌, Bool, true, false, nat_eq, if◌then◌else◌, Option, Some, None, List, [], ◌∷◌, ◌++◌, map, refl, sym, ap, ap₂, ◌∙◌, subst}
use Rattle.std.proofs.Math.Path.{fun_ext}
use Rattle.std.specs.List.{filter_map, cons_option, flat_map, list_any}
use Rattle.std.specs.Option.{option_and_then, option_or}
use Rattle.std.proofs.lemmas.Bool.{ne_eqb, eq-eqb}
use Rattle.frang_base.specs.declared.lock.LockId.{LockId}
use Rattle.frang_base.specs.declared.reply.Reply.{Reply}
use Rattle.frang_base.specs.declared.reply.Reply.TheVariants as reply
use Rattle.frang_base.specs.Functions.{member}
use Rattle.sector_bytes.specs.Patches.{patches_with}
use Rattle.sector_bytes.specs.Sectors.{Sectors}
use Rattle.disk_definitions.specs.Inodes.{is_time_place}
use Rattle.disk_definitions.specs.Standing.{version_at}
use Rattle.disk_definitions.specs.Held.{Segments, state_in}
use Rattle.disk_definitions.specs.Picks.{is_in_state}
use Rattle.disk_definitions.specs.Edits.{Edit}
use Rattle.disk_definitions.specs.Edits.Edit.{SetInode, SetBit, SetUse, SetPlace, SetLarge, SetBytes, SetLargeBytes}
use Rattle.disk_definitions.specs.Ask.{Sector, InodeAt, DirectoryAt, SegmentAt, BytesAt, LargeAt}
use Rattle.disk_definitions.specs.Written.{edit_sector, edited_sectors, all_edited, is_metadata, metadata_sector, ascending, change_by, dates, forced_in, change_of, changes_of, sectors_given_back, freed_sectors}
use Rattle.disk_definitions.specs.Moves.{first_said, bit_said, use_said, large_said, taker_said, large_taker_said, inode_move, small_move, large_move, moved_by}
use Rattle.plan_fit.proofs.LaidOver.{Misses}
use Rattle.line_laws.proofs.SameChanges.{edited_same}
use Rattle.disk_definitions.specs.Numbered.{sector_at, moves_of}
use Rattle.line_histories.specs.LinePlans.{without_bytes, blocks_told, is_claimed, claims_of, becomes_directory}
use Rattle.line_histories.specs.Planners.{edit_shape}
use Rattle.line_histories.proofs.Changes.{numbers_of, ascending_member}

-- ---- replies

pub told_shape : (r : Reply) → blocks_told (without_bytes r) ≡ blocks_told r
told_shape reply.Ok = refl
told_shape reply.Mounted = refl
told_shape (reply.Shown bytes) = refl
told_shape (reply.File size links) = refl
told_shape (reply.Dir entries) = refl
told_shape (reply.Symlink len) = refl
told_shape (reply.Names names) = refl
told_shape (reply.Target target) = refl
told_shape (reply.Time run tick) = refl
told_shape reply.Exist = refl
told_shape reply.NoEnt = refl
told_shape reply.NotDir = refl
told_shape reply.IsDir = refl
told_shape reply.NotEmpty = refl
told_shape reply.Inval = refl
told_shape reply.MLink = refl
told_shape reply.DirFull = refl
told_shape reply.BadOffset = refl
told_shape reply.TooBig = refl
told_shape reply.Loop = refl
told_shape reply.NoInode = refl
told_shape reply.NoDirBlock = refl
told_shape (reply.NoBlock m) = refl
told_shape reply.NoLarge = refl
told_shape reply.Down = refl
told_shape reply.Expired = refl
told_shape reply.Io = refl
told_shape reply.Already = refl

-- ---- what edits say

module _ {X : Type 0} (says : Edit → Option X) (same : (e : Edit) → says (edit_shape e) ≡ says e) where
  said_shape : (es : List Edit) → first_said says (map edit_shape es) ≡ first_said says es
  said_shape [] = refl
  said_shape (e ∷ es) = ap₂ option_or (same e) (said_shape es)

bit_same : (i : ℕ) (e : Edit) → bit_said i (edit_shape e) ≡ bit_said i e
bit_same i (SetInode j x dated) = refl
bit_same i (SetBit j b) = refl
bit_same i (SetUse k u) = refl
bit_same i (SetPlace k p o) = refl
bit_same i (SetLarge g b) = refl
bit_same i (SetBytes k part bytes) = refl
bit_same i (SetLargeBytes g part bytes) = refl

use_same : (i : ℕ) (e : Edit) → use_said i (edit_shape e) ≡ use_said i e
use_same i (SetInode j x dated) = refl
use_same i (SetBit j b) = refl
use_same i (SetUse k u) = refl
use_same i (SetPlace k p o) = refl
use_same i (SetLarge g b) = refl
use_same i (SetBytes k part bytes) = refl
use_same i (SetLargeBytes g part bytes) = refl

large_same : (i : ℕ) (e : Edit) → large_said i (edit_shape e) ≡ large_said i e
large_same i (SetInode j x dated) = refl
large_same i (SetBit j b) = refl
large_same i (SetUse k u) = refl
large_same i (SetPlace k p o) = refl
large_same i (SetLarge g b) = refl
large_same i (SetBytes k part bytes) = refl
large_same i (SetLargeBytes g part bytes) = refl

taker_same : (i : ℕ) (e : Edit) → taker_said i (edit_shape e) ≡ taker_said i e
taker_same i (SetInode j x dated) = refl
taker_same i (SetBit j b) = refl
taker_same i (SetUse k u) = refl
taker_same i (SetPlace k p o) = refl
taker_same i (SetLarge g b) = refl
taker_same i (SetBytes k part bytes) = refl
taker_same i (SetLargeBytes g part bytes) = refl

large_taker_same : (i : ℕ) (e : Edit) → large_taker_said i (edit_shape e) ≡ large_taker_said i e
large_taker_same i (SetInode j x dated) = refl
large_taker_same i (SetBit j b) = refl
large_taker_same i (SetUse k u) = refl
large_taker_same i (SetPlace k p o) = refl
large_taker_same i (SetLarge g b) = refl
large_taker_same i (SetBytes k part bytes) = refl
large_taker_same i (SetLargeBytes g part bytes) = refl

-- ---- moves and claims

moved_shape : (es : List Edit) (x : Sector) → moved_by (map edit_shape es) x ≡ moved_by es x
moved_shape es (InodeAt i) = ap (inode_move i) (said_shape (bit_said i) (bit_same i) es)
moved_shape es (SegmentAt k) = refl
moved_shape es (DirectoryAt k part) = ap₂ (small_move k) (said_shape (taker_said k) (taker_same k) es) (said_shape (use_said k) (use_same k) es)
moved_shape es (BytesAt k part) = ap₂ (small_move k) (said_shape (taker_said k) (taker_same k) es) (said_shape (use_said k) (use_same k) es)
moved_shape es (LargeAt g part) = ap₂ (large_move g) (said_shape (large_taker_said g) (large_taker_same g) es) (said_shape (large_said g) (large_same g) es)

claimed_shape : (held : Segments) (es : List Edit) (o : Option Sector) → is_claimed held (map edit_shape es) o ≡ is_claimed held es o
claimed_shape held es None = refl
claimed_shape held es (Some (InodeAt i)) = refl
claimed_shape held es (Some (SegmentAt k)) = refl
claimed_shape held es (Some (BytesAt k part)) = refl
claimed_shape held es (Some (LargeAt g part)) = refl
claimed_shape held es (Some (DirectoryAt k part)) =
    ap (λ u. becomes_directory u && is_in_state 0 (state_in held k)) (said_shape (use_said k) (use_same k) es)

module _ (es fs : List Edit) (same : map edit_shape es ≡ map edit_shape fs) where
  pub moves_same : (segments : ℕ) → moves_of segments es ≡ moves_of segments fs
  moves_same segments = fun_ext (λ number. ap (λ (m : Sector → Option LockId). option_and_then m (sector_at segments number)) moved)
    where
      moved : moved_by es ≡ moved_by fs
      moved = fun_ext (λ x. sym (moved_shape es x) ∙ ap (λ gs. moved_by gs x) same ∙ moved_shape fs x)

  pub claims_same : (segments : ℕ) (held : Segments) → claims_of segments held es ≡ claims_of segments held fs
  claims_same segments held = fun_ext (λ number. sym (claimed_shape held es (sector_at segments number)) ∙ ap (λ gs. is_claimed held gs (sector_at segments number)) same ∙ claimed_shape held fs (sector_at segments number))

-- ---- sectors that are given back

given_back_same : (e : Edit) → sectors_given_back (edit_shape e) ≡ sectors_given_back e
given_back_same (SetInode j x dated) = refl
given_back_same (SetBit j b) = refl
given_back_same (SetUse k u) = refl
given_back_same (SetPlace k p o) = refl
given_back_same (SetLarge g b) = refl
given_back_same (SetBytes k part bytes) = refl
given_back_same (SetLargeBytes g part bytes) = refl

given_back_shape : (es : List Edit) → flat_map sectors_given_back (map edit_shape es) ≡ flat_map sectors_given_back es
given_back_shape [] = refl
given_back_shape (e ∷ es) = ap₂ (λ x y. x ++ y) (given_back_same e) (given_back_shape es)

pub freed_same : (es fs : List Edit) → map edit_shape es ≡ map edit_shape fs → freed_sectors es ≡ freed_sectors fs
freed_same es fs same = ap ascending (sym (given_back_shape es) ∙ ap (flat_map sectors_given_back) same ∙ given_back_shape fs)

-- ---- changes

metadata_same : (e : Edit) → metadata_sector (edit_shape e) ≡ metadata_sector e
metadata_same (SetInode j x dated) = refl
metadata_same (SetBit j b) = refl
metadata_same (SetUse k u) = refl
metadata_same (SetPlace k p o) = refl
metadata_same (SetLarge g b) = refl
metadata_same (SetBytes k part bytes) = refl
metadata_same (SetLargeBytes g part bytes) = refl

numbers_shape : (es : List Edit) → numbers_of (map edit_shape es) ≡ numbers_of es
numbers_shape [] = refl
numbers_shape (e ∷ es) = ap₂ cons_option (metadata_same e) (numbers_shape es)

pub numbers_same : (es fs : List Edit) → map edit_shape es ≡ map edit_shape fs → numbers_of es ≡ numbers_of fs
numbers_same es fs same = sym (numbers_shape es) ∙ ap numbers_of same ∙ numbers_shape fs

-- which sectors are missed goes by the shapes
pub is_metadata_same : (e : Edit) → is_metadata (edit_shape e) ≡ is_metadata e
is_metadata_same (SetInode j x dated) = refl
is_metadata_same (SetBit j b) = refl
is_metadata_same (SetUse k u) = refl
is_metadata_same (SetPlace k p o) = refl
is_metadata_same (SetLarge g b) = refl
is_metadata_same (SetBytes k part bytes) = refl
is_metadata_same (SetLargeBytes g part bytes) = refl

edit_sector_same : (e : Edit) → edit_sector (edit_shape e) ≡ edit_sector e
edit_sector_same (SetInode j x dated) = refl
edit_sector_same (SetBit j b) = refl
edit_sector_same (SetUse k u) = refl
edit_sector_same (SetPlace k p o) = refl
edit_sector_same (SetLarge g b) = refl
edit_sector_same (SetBytes k part bytes) = refl
edit_sector_same (SetLargeBytes g part bytes) = refl

shape_misses : (s : ℕ) (es : List Edit) → Misses false s es → Misses false s (map edit_shape es)
shape_misses s [] m = tt
shape_misses s (e ∷ es) m = (λ i q. m.0 (sym (is_metadata_same e) ∙ i) (q ∙ edit_sector_same e), shape_misses s es m.1)

misses_shape : (s : ℕ) (es : List Edit) → Misses false s (map edit_shape es) → Misses false s es
misses_shape s [] m = tt
misses_shape s (e ∷ es) m = (λ i q. m.0 (is_metadata_same e ∙ i) (q ∙ sym (edit_sector_same e)), misses_shape s es m.1)

pub misses_by : (es fs : List Edit) → map edit_shape es ≡ map edit_shape fs → (s : ℕ) → Misses false s es → Misses false s fs
misses_by es fs same s m = misses_shape s fs (subst (Misses false s) same (shape_misses s es m))

dates_same : (s : ℕ) (e : Edit) → dates s (edit_shape e) ≡ dates s e
dates_same s (SetInode j x true) = refl
dates_same s (SetInode j x false) = refl
dates_same s (SetBit j b) = refl
dates_same s (SetUse k u) = refl
dates_same s (SetPlace k p o) = refl
dates_same s (SetLarge g b) = refl
dates_same s (SetBytes k part bytes) = refl
dates_same s (SetLargeBytes g part bytes) = refl

dated_shape : (s : ℕ) (es : List Edit) → list_any (dates s) (map edit_shape es) ≡ list_any (dates s) es
dated_shape s [] = refl
dated_shape s (e ∷ es) = ap₂ (λ a b. a || b) (dates_same s e) (dated_shape s es)

forced_shape : (es : List Edit) (s : ℕ) → forced_in (map edit_shape es) s ≡ forced_in es s
forced_shape es s = fun_ext (λ at. ap (λ b. is_time_place at && b) (dated_shape s es))

-- bytes that go elsewhere don't change a sector
module _ (s : ℕ) where
  one_same : (x y : Sectors) (e : Edit) → (is_metadata e ≡ false → s ≡ edit_sector e → ⊥) → x s ≡ y s → edited_sectors x (edit_shape e) s ≡ edited_sectors y e s
  one_same x y (SetInode j z dated) miss q = edited_same x y (SetInode j z dated ∷ []) x y s q
  one_same x y (SetBit j b) miss q = edited_same x y (SetBit j b ∷ []) x y s q
  one_same x y (SetUse k u) miss q = edited_same x y (SetUse k u ∷ []) x y s q
  one_same x y (SetPlace k p o) miss q = edited_same x y (SetPlace k p o ∷ []) x y s q
  one_same x y (SetLarge g b) miss q = edited_same x y (SetLarge g b ∷ []) x y s q
  one_same x y (SetBytes k part bytes) miss q = let e : nat_eq s (edit_sector (SetBytes k part bytes)) ≡ false = ne_eqb s (edit_sector (SetBytes k part bytes)) (miss refl) in rw e q
  one_same x y (SetLargeBytes g part bytes) miss q = let e : nat_eq s (edit_sector (SetLargeBytes g part bytes)) ≡ false = ne_eqb s (edit_sector (SetLargeBytes g part bytes)) (miss refl) in rw e q

  edited_shape : (es : List Edit) (x y : Sectors) → Misses false s es → x s ≡ y s → all_edited x (map edit_shape es) s ≡ all_edited y es s
  edited_shape [] x y m q = q
  edited_shape (e ∷ es) x y m q = edited_shape es (edited_sectors x (edit_shape e)) (edited_sectors y e) m.1 (one_same x y e m.0 q)

-- a list is filtered alike by what is alike on its numbers
filter_same : {X : Type 0} (f g : ℕ → Option X) (ns : List ℕ) → ((n : ℕ) → member n ns ≡ true → f n ≡ g n) → filter_map f ns ≡ filter_map g ns
filter_same f g [] h = refl
filter_same f g (n ∷ ns) h = ap₂ cons_option (h n (first n ns)) (filter_same f g ns (λ m i. h m (more m n ns i)))
  where
    first : (n : ℕ) (ns : List ℕ) → member n (n ∷ ns) ≡ true
    first n ns = let e : nat_eq n n ≡ true = eq-eqb n n refl in rw e refl

    more : (m n : ℕ) (ns : List ℕ) → member m ns ≡ true → member m (n ∷ ns) ≡ true
    more m n ns i = go (nat_eq n m)
      where
        go : (b : Bool) → (if b then true else member m ns) ≡ true
        go true = refl
        go false = i

module _ (disk : Sectors) where
  changes_shape : (es : List Edit) → ((s : ℕ) → member s (numbers_of es) ≡ true → Misses false s es) → changes_of disk (map edit_shape es) ≡ changes_of disk es
  changes_shape es miss =
      ap (λ ns. filter_map (change_of (map edit_shape es) disk (all_edited disk (map edit_shape es))) (ascending ns)) (numbers_shape es)
      ∙ filter_same (change_of (map edit_shape es) disk (all_edited disk (map edit_shape es))) (change_of es disk (all_edited disk es)) (ascending (numbers_of es))
      (λ n i. ap₂ (λ forced new. change_by n (version_at disk n + 1) (patches_with forced (disk n) new)) (forced_shape es n) (edited_shape n es disk disk (miss n (sym (ascending_member n (numbers_of es)) ∙ i)) refl))

  pub changes_same : (es fs : List Edit) → map edit_shape es ≡ map edit_shape fs → ((s : ℕ) → member s (numbers_of es) ≡ true → Misses false s es) → ((s : ℕ) → member s (numbers_of fs) ≡ true → Misses false s fs) →
      changes_of disk es ≡ changes_of disk fs
  changes_same es fs same miss_es miss_fs = sym (changes_shape es miss_es) ∙ ap (changes_of disk) same ∙ changes_shape fs miss_fs
