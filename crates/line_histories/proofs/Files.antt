-- The edits of the plans of truncate, write and fill leave no sector of a file unwritten: a file that is cut keeps its first sectors, and one that gets
-- longer is written from its old end on, or from before it.
use Rattle.std.proofs.Common.{ℕ, zero, suc, ◌≡◌, ◌<◌, ◌≤◌, ◌+◌, ◌-◌, ◌*◌, ◌/◌, ◌%◌, ◌==◌, ◌&&◌, ◌⊎◌, inl, inr, ⊎_elim, Bool, true, false, nat_lt, nat_eq, max, if◌then◌else◌, Option, Some, None, List, [], ◌∷◌, ◌++◌, map, refl, sym, ◌∙◌, ap, subst, arith, le_refl}
use Rattle.std.specs.List.{Contains}
use Rattle.std.specs.Map.{keys_of}
use Rattle.std.proofs.lemmas.Bool.{cases_lt, cases_eq, and_parts, lt-ltb}
use Rattle.std.proofs.lemmas.Bool.Decides.{nat_tests}
use Rattle.std.proofs.lemmas.List.Elements.{Contains-append_right}
use Rattle.frang_base.specs.declared.reply.Reply.TheVariants as reply
use Rattle.frang_base.proofs.Basics.{put_same}
use Rattle.tree_definitions.specs.Tree.{small_blocks_of}
use Rattle.disk_definitions.specs.Store.{Store, StoredNode, Use}
use Rattle.disk_definitions.specs.Store.Use.{Fresh, Bytes}
use Rattle.disk_definitions.specs.Naming.{Naming}
use Rattle.disk_definitions.specs.Edits.{Edit, edited_all}
use Rattle.disk_definitions.specs.Edits.Edit.{SetUse, SetLarge, SetBytes, SetLargeBytes}
use Rattle.disk_definitions.proofs.Puts.{edited_append}
use Rattle.disk_definitions.specs.Picks.{picked_many, picked_large}
use Rattle.disk_definitions.specs.Ask.{BytesAt, LargeAt, Got}
use Rattle.disk_definitions.specs.Plans.{Hand, Finish, refused, read_held}
use Rattle.disk_definitions.specs.Plans.Plan.{Finishes}
use Rattle.disk_definitions.specs.NamePlans.{finish_over}
use Rattle.disk_definitions.specs.Written.{is_metadata}
use Rattle.disk_definitions.specs.FilePlans.{Writing, end_of, set_sector, mixed, sectors_met, resized, large_taken, file_dated, written_by, writing_in, directory_blocks, writing_picked, writing_small, writing_large, writing, blocks_between, large_cut, cut_segments, cut_by, cutting}
use Rattle.plan_laws.proofs.Asking.{run-segments}
use Rattle.plan_laws.proofs.Covering.{has_head, has_more}
use Rattle.plan_laws.proofs.Sectors.{old_sector, sector_edits, run-writes, bytes_only}
use Rattle.plan_laws.specs.Looked.{edited_at}
use Rattle.plan_laws.proofs.Standing.{IsFileNode, DiskStands}
use Rattle.plan_laws.proofs.FilesFine.{in_small}
use Rattle.line_histories.specs.Files.{file_sector, IsWritten}
use Rattle.line_histories.specs.Sectors.{StaysThere}
use Rattle.line_histories.proofs.Fine.{IsFilled, AreFine, both_fine}
use Rattle.line_histories.proofs.Names.{IsFinePlan, Ends, none_ends}

-- ---- blocks

uses_fine : (P : Edit → Type 0) (s : Store) (es : List Edit) (b : Use) (u : Use) (ks : List ℕ) → u ≡ b → AreFine P s es b (map (λ k. SetUse k u) ks)
uses_fine P s es b u [] e = tt
uses_fine P s es b u (k ∷ ks) e = (e, uses_fine P s es b u ks e)

cut_fine : (P : Edit → Type 0) (s : Store) (es : List Edit) (gs : List ℕ) → AreFine P s es Fresh (map (λ g. SetLarge g false) gs)
cut_fine P s es [] = tt
cut_fine P s es (g ∷ gs) = (refl, cut_fine P s es gs)

taken_fine : (P : Edit → Type 0) (s : Store) (es : List Edit) (o : Option ℕ) → AreFine P s es Bytes (large_taken o)
taken_fine P s es None = tt
taken_fine P s es (Some g) = (refl, tt)

-- ---- bytes

pub set_at : (y : StoredNode) (t : ℕ) (bytes : ℕ → ℕ) → (is_metadata (set_sector y t bytes) ≡ false) × (edited_at (set_sector y t bytes) ≡ file_sector y t)
set_at y t bytes = go (nat_lt t 128)
  where
    go : (b : Bool) → (is_metadata (if b then SetBytes (y.small (t / 8)) (t % 8) bytes else SetLargeBytes (y.large - 1) (t - 128) bytes) ≡ false)
        × (edited_at (if b then SetBytes (y.small (t / 8)) (t % 8) bytes else SetLargeBytes (y.large - 1) (t - 128) bytes) ≡ (if b then BytesAt (y.small (t / 8)) (t % 8) else LargeAt (y.large - 1) (t - 128)))
    go true = (refl, refl)
    go false = (refl, refl)

module _ (P : Edit → Type 0) (w : Writing) (x y : StoredNode) (s : Store) where
  -- an edit of a sector in the range
  abbrev Pieces : ℕ → ℕ → Type 0
  Pieces t m = (u : ℕ) → t ≤ u → u < t + m → P (set_sector y u (mixed w u (old_sector w x y s u)))

  bytes_fine : (es : List Edit) (b : Use) (m t : ℕ) → Pieces t m → AreFine P s es b (sector_edits w x y s t m)
  bytes_fine es b zero t each = tt
  bytes_fine es b (suc m) t each = go (nat_lt t 128) (mixed w t (old_sector w x y s t)) (each t (le_refl t) (omega arith)) (bytes_fine es b m (t + 1) (λ u lo hi. each u (omega arith) (omega arith)))
    where
      go : (c : Bool) (bytes : ℕ → ℕ) → P (if c then SetBytes (y.small (t / 8)) (t % 8) bytes else SetLargeBytes (y.large - 1) (t - 128) bytes) → AreFine P s es b (sector_edits w x y s (t + 1) m) → AreFine P s es b ((if c then SetBytes (y.small (t / 8)) (t % 8) bytes else SetLargeBytes (y.large - 1) (t - 128) bytes) ∷ sector_edits w x y s (t + 1) m)
      go true bytes one rest = (one, rest)
      go false bytes one rest = (one, rest)

  has_sector : (m t u : ℕ) → t ≤ u → u < t + m → (bytes : ℕ → ℕ) × Contains (sector_edits w x y s t m) (set_sector y u bytes)
  has_sector zero t u lo hi = absurd (omega arith)
  has_sector (suc m) t u lo hi =
      let first = mixed w t (old_sector w x y s t) in
      ⊎_elim
      (λ e. (first, subst (λ v. Contains (sector_edits w x y s t (suc m)) (set_sector y v first)) (sym e) (has_head (set_sector y t first) (sector_edits w x y s (t + 1) m))))
      (λ d. let r = has_sector m (t + 1) u (grind arith) (omega arith) in (r.0, has_more (set_sector y t first) (set_sector y u r.0) (sector_edits w x y s (t + 1) m) r.1))
      (cases_eq u t)

-- ---- the file

module _ (P : Finish → Edit → Type 0) (h : Hand) (s : Store) (n : Naming) (disk : DiskStands h s n) (i : ℕ) (x : StoredNode) (is : s.inode i ≡ Some x) (file : IsFileNode s x) (touched : List ℕ) where
  -- a sector that the file had stays where its node has the blocks still
  stays : (es : List Edit) (y : StoredNode) (one : x.kind ≡ 1) (t : ℕ) → 512 * t < x.size → (t < 128 → y.small (t / 8) ≡ x.small (t / 8)) → (128 ≤ t → y.large ≡ x.large) → IsWritten es (file_sector y t) ⊎ StaysThere s i y t
  stays es y one t l small large = inr (record { before = x; is = is; kind = one; below = l; here = go (nat_lt t 128) refl })
    where
      go : (b : Bool) → nat_lt t 128 ≡ b → (if b then BytesAt (x.small (t / 8)) (t % 8) else LargeAt (x.large - 1) (t - 128)) ≡ (if b then BytesAt (y.small (t / 8)) (t % 8) else LargeAt (y.large - 1) (t - 128))
      go true e = ap (λ k. BytesAt k (t % 8)) (sym (small (grind (arith, nat_tests))))
      go false e = ap (λ g. LargeAt (g - 1) (t - 128)) (sym (large (grind (arith, nat_tests))))

  in_file : (t : ℕ) → t < 128 → 512 * t < x.size → t / 8 < x.blocks
  in_file t l m = subst (λ c. t / 8 < c) (sym file.blocks) (in_small t x.size m l)

  -- ---- truncate
  module _ (len when : ℕ) where
    abbrev cut : StoredNode
    cut = resized x when len [] None

    cut_filled : (es : List Edit) → len ≤ x.size → IsFilled s es i cut
    cut_filled es short one t l =
        let had : 512 * t < x.size = omega arith in
        stays es cut one t had (λ m. rw (lt-ltb (t / 8) (small_blocks_of len) (in_small t len l m), lt-ltb (t / 8) x.blocks (in_file t m had)) refl)
        (λ m. rw (lt-ltb 65536 len (omega arith)) refl)

    pub cutting_fine : Ends P s (cutting when len i touched x)
    cutting_fine = go (nat_lt x.size len) refl
      where
        go : (b : Bool) → nat_lt x.size len ≡ b → Ends P s (if b then refused reply.BadOffset touched else finish_over (cut_segments x len) (cut_by when i touched x len))
        go true q = (Fresh, tt)
        go false q =
            let short : len ≤ x.size = grind (arith, nat_tests) in
            let gone = blocks_between x (small_blocks_of len) x.blocks in
            let blocks = map (λ k. SetUse k Fresh) gone in
            let larges = map (λ g. SetLarge g false) (large_cut x len) in
            let f = cut_by when i touched x len in
            let es = f.edits in
            subst (IsFinePlan P s) (sym (run-segments (cut_segments x len) (Got (Finishes (cut_by when i touched x len))) s)) (
              Fresh,
              both_fine (P f) s es Fresh (blocks ++ larges) (file_dated i cut)
                  (both_fine (P f) s es Fresh blocks larges (uses_fine (P f) s es Fresh Fresh gone refl) (cut_fine (P f) s es (large_cut x len))) (cut_filled es short, tt),
            )

  -- ---- write and fill
  module _ (w : Writing)
      (made : (f : Finish) (y : StoredNode) → f.reply ≡ reply.Ok → (edited_all s f.edits).inode i ≡ Some y → y.kind ≡ x.kind → y.size ≡ max x.size (end_of w) → w.off ≤ x.size → (t : ℕ) → w.off / 512 ≤ t → t < w.off / 512 + sectors_met w.off w.len → P f (set_sector y t (mixed w t (old_sector w x y s t)))) where
    abbrev size : ℕ
    size = max x.size (end_of w)

    abbrev more : ℕ
    more = small_blocks_of size - x.blocks

    -- a large block is taken where the file has none
    abbrev Takes : Option ℕ → Type 0
    Takes None = Unit {0}
    Takes (Some k) = x.large ≡ 0

    met : (t : ℕ) → w.off ≤ x.size → 512 * t < size → x.size ≤ 512 * t → (w.off / 512 ≤ t) × (t < w.off / 512 + sectors_met w.off w.len)
    met t low l past = (omega arith, go (nat_eq w.len 0) refl)
      where
        before : 512 * t < w.off + w.len
        before = omega arith

        go : (b : Bool) → nat_eq w.len 0 ≡ b → t < w.off / 512 + (if b then 0 else (w.off + w.len - 1) / 512 + 1 - w.off / 512)
        go true e = absurd (let z : w.len ≡ 0 = grind (arith, nat_tests) in omega arith)
        go false e = omega arith

    module _ (low : w.off ≤ x.size) where
      module _ (picks : List ℕ) (o : Option ℕ) (takes : Takes o) where
        abbrev y : StoredNode
        y = resized x w.when size picks o

        abbrev bytes : List Edit
        bytes = sector_edits w x y s (w.off / 512) (sectors_met w.off w.len)

        abbrev f : Finish
        f = written_by i y picks o touched bytes

        abbrev es : List Edit
        es = f.edits

        same_large : (t : ℕ) → 512 * t < x.size → 128 ≤ t → y.large ≡ x.large
        same_large t l m = by_taken o takes
          where
            by_taken : (o : Option ℕ) → Takes o → (resized x w.when size picks o).large ≡ x.large
            by_taken None e = rw (lt-ltb 65536 size (omega arith)) refl
            by_taken (Some k) e = absurd (file.large (omega arith) e)

        same_small : (t : ℕ) → 512 * t < x.size → t < 128 → y.small (t / 8) ≡ x.small (t / 8)
        same_small t l m = rw (lt-ltb (t / 8) (small_blocks_of size) (in_small t size (omega arith) m), lt-ltb (t / 8) x.blocks (in_file t m l)) refl

        written_at : (t : ℕ) → (bytes : ℕ → ℕ) → Contains es (set_sector y t bytes) → IsWritten es (file_sector y t)
        written_at t b c = let r = set_at y t b in record { edit = set_sector y t b; among = c; bytes = r.0; here = r.1 }

        written_filled : IsFilled s es i y
        written_filled one t l =
            ⊎_elim (λ had. stays es y one t had (same_small t had) (same_large t had))
            (λ past.
            let r = met t low l past in
            let c = has_sector (P f) w x y s (sectors_met w.off w.len) (w.off / 512) t r.0 r.1 in
            let e = set_sector y t c.0 in
            inl (written_at t c.0 (Contains-append_right (map (λ k. SetUse k Bytes) picks ++ large_taken o ++ file_dated i y) bytes e c.1)))
            (cases_lt (512 * t) x.size)

        -- bytes leave the inode
        inode_in : (edited_all s es).inode i ≡ Some y
        inode_in =
            let front = map (λ k. SetUse k Bytes) picks ++ large_taken o in
            ap (λ (z : Store). z.inode i) (edited_append s (front ++ file_dated i y) bytes)
            ∙ ap (λ (g : ℕ → Option StoredNode). g i) (bytes_only w x y s (sectors_met w.off w.len) (w.off / 512) (edited_all s (front ++ file_dated i y))).inode
            ∙ ap (λ (z : Store). z.inode i) (edited_append s front (file_dated i y)) ∙ put_same (edited_all s front).inode i (Some y)

        in_fine : Ends P s (writing_in w i touched x picks o)
        in_fine =
            subst (IsFinePlan P s) (sym (run-writes w x y s (w.off / 512) (sectors_met w.off w.len) (λ bytes. Got (Finishes (written_by i y picks o touched bytes))))) (
              Bytes,
              both_fine (P f) s es Bytes (map (λ k. SetUse k Bytes) picks ++ large_taken o ++ file_dated i y) bytes
                  (both_fine (P f) s es Bytes (map (λ k. SetUse k Bytes) picks ++ large_taken o) (file_dated i y)
                  (both_fine (P f) s es Bytes (map (λ k. SetUse k Bytes) picks) (large_taken o) (uses_fine (P f) s es Bytes Bytes picks refl) (taken_fine (P f) s es o)) (written_filled, tt))
                  (bytes_fine (P f) w x y s es Bytes (sectors_met w.off w.len) (w.off / 512) (λ u lo hi. made f y refl inode_in refl refl low u lo hi)),
            )

      module _ (o : Option ℕ) (takes : Takes o) where
        picked_fine : (p : Option (List ℕ)) → Ends P s (writing_picked h w i touched x o p)
        picked_fine None = none_ends P h s n disk (reply.NoBlock (directory_blocks h.held)) touched
        picked_fine (Some picks) = in_fine picks o takes

        small_fine : Ends P s (writing_small h w i touched x o)
        small_fine = go (more == 0)
          where
            go : (b : Bool) → Ends P s (if b then writing_in w i touched x [] o else read_held h (writing_picked h w i touched x o (picked_many h.held more)))
            go true = in_fine [] o takes
            go false = subst (IsFinePlan P s) (sym (run-segments (keys_of h.held) (writing_picked h w i touched x o (picked_many h.held more)) s)) (picked_fine (picked_many h.held more))

      large_fine : (p : Option ℕ) → x.large ≡ 0 → Ends P s (writing_large h w i touched x p)
      large_fine None z = none_ends P h s n disk reply.NoLarge touched
      large_fine (Some k) z = small_fine (Some k) z

    pub writing_fine : Ends P s (writing h w i touched x)
    writing_fine = go (nat_lt x.size w.off) refl (nat_lt 1114112 (end_of w)) (nat_lt 65536 (end_of w) && x.large == 0) refl
      where
        go : (a : Bool) → nat_lt x.size w.off ≡ a → (b c : Bool) → (nat_lt 65536 (end_of w) && x.large == 0) ≡ c → Ends P s (if a then refused reply.BadOffset touched else (if b then refused reply.TooBig touched
            else (if c then read_held h (writing_large h w i touched x (picked_large h.held)) else writing_small h w i touched x None)))
        go true q b c e = (Fresh, tt)
        go false q true c e = (Fresh, tt)
        go false q false true e =
            let low : w.off ≤ x.size = grind (arith, nat_tests) in
            let z : x.large ≡ 0 = (let p : nat_eq x.large 0 ≡ true = (and_parts (nat_lt 65536 (end_of w)) (x.large == 0) e).1 in grind (arith, nat_tests)) in
            subst (IsFinePlan P s) (sym (run-segments (keys_of h.held) (writing_large h w i touched x (picked_large h.held)) s)) (large_fine low (picked_large h.held) z)
        go false q false false e = let low : w.off ≤ x.size = grind (arith, nat_tests) in small_fine low None tt
