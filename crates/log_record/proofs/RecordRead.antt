-- Bytes are the body of the record that they are read as, and of no other.
use Rattle.std.proofs.Common.{◌≡◌, ℕ, zero, suc, true, Option, Some, None, List, [], ◌∷◌, ◌++◌, length, refl, sym, ap, subst, ◌∙◌, append_assoc, append-nil}
use Rattle.std.specs.List.{flat_map}
use Rattle.std.specs.Option.{option_and_then, option_map}
use Rattle.byteorder.specs.Endian.{little_bytes}
use Rattle.frang_base.proofs.Basics.{by_test}
use Rattle.frang_base.specs.declared.change.Patch.{Patch}
use Rattle.frang_base.specs.declared.change.Change.{Change}
use Rattle.sector_bytes.specs.Bytes.{AreBytes}
use Rattle.frang_base.specs.declared.change.Redo.{Redo}
use Rattle.frang_base.proofs.Tests.{map_some, then_some}
use Rattle.disk_definitions.specs.Records.{Read, all_read, bytes_read, change_bytes, change_read, number_read, patch_bytes, patch_read, record_bytes, record_fits, record_in, whole_record, IsRecordBody}
use Rattle.log_record.proofs.NumbersRead.{taken, number_is, bytes_is}
use Rattle.log_record.proofs.RecordBack.{record_back}

some_of : {A : Type 0} {x y : A} → Some x ≡ Some y → x ≡ y
some_of e = cc

-- what reads a thing reads it from its bytes
abbrev Undoes : {A : Type 0} → (List ℕ → Read A) → (A → List ℕ) → Type 0
Undoes {A} one write = (bytes : List ℕ) (x : A) (rest : List ℕ) → AreBytes bytes → one bytes ≡ Some (x, rest) → (bytes ≡ write x ++ rest) × AreBytes rest

all_is : {A : Type 0} (one : List ℕ → Read A) (write : A → List ℕ) → Undoes one write → (n : ℕ) (bytes : List ℕ) (xs : List A) (rest : List ℕ) → AreBytes bytes
    → all_read one n bytes ≡ Some (xs, rest) → (bytes ≡ flat_map write xs ++ rest) × AreBytes rest × (length xs ≡ n)
all_is {A} one write undoes zero bytes xs rest f e =
    subst (λ (y : List A × List ℕ). (bytes ≡ flat_map write y.0 ++ y.1) × AreBytes y.1 × (length y.0 ≡ 0)) (some_of e) (refl, f, refl)
all_is {A} one write undoes (suc n) bytes xs rest f e =
    let a = then_some (λ (x : A × List ℕ). option_map (λ (ys : List A × List ℕ). (x.0 ∷ ys.0, ys.1)) (all_read one n x.1)) (one bytes) (xs, rest) e in
    let b = map_some (λ (ys : List A × List ℕ). (a.0.0 ∷ ys.0, ys.1)) (all_read one n a.0.1) (xs, rest) a.2 in
    let first = undoes bytes a.0.0 a.0.1 f a.1 in
    let others = all_is one write undoes n a.0.1 b.0.0 b.0.1 first.1 b.1 in
    let joined = first.0 ∙ ap (λ ys. write a.0.0 ++ ys) others.0 ∙ sym (append_assoc (write a.0.0) (flat_map write b.0.0) b.0.1) in
    subst (λ (y : List A × List ℕ). (bytes ≡ flat_map write y.0 ++ y.1) × AreBytes y.1 × (length y.0 ≡ suc n)) b.2 (joined, others.1, ap suc others.2)

patch_is : Undoes patch_read patch_bytes
patch_is bytes p rest f e =
    let a = then_some (λ (at : ℕ × List ℕ). option_and_then (λ (n : ℕ × List ℕ). option_map (λ (b : List ℕ × List ℕ). (record { at = at.0; bytes = b.0 }, b.1)) (bytes_read n.0 n.1)) (number_read 2 at.1)) (number_read 2 bytes) (p, rest) e in
    let b = then_some (λ (n : ℕ × List ℕ). option_map (λ (b : List ℕ × List ℕ). (record { at = a.0.0; bytes = b.0 }, b.1)) (bytes_read n.0 n.1)) (number_read 2 a.0.1) (p, rest) a.2 in
    let c = map_some (λ (b : List ℕ × List ℕ). (record { at = a.0.0; bytes = b.0 }, b.1)) (bytes_read b.0.0 b.0.1) (p, rest) b.2 in
    let at = number_is 2 bytes a.0.0 a.0.1 f a.1 in
    let count = number_is 2 a.0.1 b.0.0 b.0.1 at.1 b.1 in
    let held = bytes_is b.0.0 b.0.1 c.0.0 c.0.1 count.1 c.1 in
    subst (λ (y : Patch × List ℕ). (bytes ≡ patch_bytes y.0 ++ y.1) × AreBytes y.1) c.2
    (at.0 ∙ ap (λ ys. little_bytes 2 a.0.0 ++ ys) (count.0 ∙ ap (λ ys. little_bytes 2 b.0.0 ++ ys) held.0 ∙ ap (λ n. little_bytes 2 n ++ (c.0.0 ++ c.0.1)) (sym held.2)), held.1)

change_is : Undoes change_read change_bytes
change_is bytes c rest f e =
    let with_patches : ℕ → ℕ → List Patch × List ℕ → Change × List ℕ = λ s v ps. (record { sector = record { 0 = s }; version = v; patches = ps.0 }, ps.1) in
    let s = then_some (λ (s : ℕ × List ℕ). option_and_then (λ (v : ℕ × List ℕ). option_and_then (λ (n : ℕ × List ℕ). option_map (with_patches s.0 v.0) (all_read patch_read n.0 n.1)) (number_read 2 v.1)) (number_read 8 s.1)) (number_read 8 bytes) (c, rest) e in
    let v = then_some (λ (v : ℕ × List ℕ). option_and_then (λ (n : ℕ × List ℕ). option_map (with_patches s.0.0 v.0) (all_read patch_read n.0 n.1)) (number_read 2 v.1)) (number_read 8 s.0.1) (c, rest) s.2 in
    let n = then_some (λ (n : ℕ × List ℕ). option_map (with_patches s.0.0 v.0.0) (all_read patch_read n.0 n.1)) (number_read 2 v.0.1) (c, rest) v.2 in
    let ps = map_some (with_patches s.0.0 v.0.0) (all_read patch_read n.0.0 n.0.1) (c, rest) n.2 in
    let sector = number_is 8 bytes s.0.0 s.0.1 f s.1 in
    let version = number_is 8 s.0.1 v.0.0 v.0.1 sector.1 v.1 in
    let count = number_is 2 v.0.1 n.0.0 n.0.1 version.1 n.1 in
    let patches = all_is patch_read patch_bytes patch_is n.0.0 n.0.1 ps.0.0 ps.0.1 count.1 ps.1 in
    let tail = count.0 ∙ ap (λ ys. little_bytes 2 n.0.0 ++ ys) patches.0 ∙ ap (λ k. little_bytes 2 k ++ (flat_map patch_bytes ps.0.0 ++ ps.0.1)) (sym patches.2) in
    subst (λ (y : Change × List ℕ). (bytes ≡ change_bytes y.0 ++ y.1) × AreBytes y.1) ps.2
    (sector.0 ∙ ap (λ ys. little_bytes 8 s.0.0 ++ ys) (version.0 ∙ ap (λ ys. little_bytes 8 v.0.0 ++ ys) tail), patches.1)

-- ---- records

-- the changes that are read one behind the other, and what is left
abbrev pub changes_read : List ℕ → Read (List Change)
changes_read bytes = option_and_then (λ n. all_read change_read n.0 n.1) (number_read 2 bytes)

-- a record is what is read whole
pub record_in_is : (bytes : List ℕ) → record_in bytes ≡ option_and_then whole_record (changes_read bytes)
record_in_is bytes = go (number_read 2 bytes)
  where
    go : (o : Read ℕ) → option_and_then (λ n. option_and_then whole_record (all_read change_read n.0 n.1)) o ≡ option_and_then whole_record (option_and_then (λ n. all_read change_read n.0 n.1) o)
    go None = refl
    go (Some n) = refl

-- the bytes of the changes that are read
pub changes_are : (bytes : List ℕ) (changes : List Change) (rest : List ℕ) → AreBytes bytes → changes_read bytes ≡ Some (changes, rest) → bytes ≡ record_bytes changes ++ rest
changes_are bytes changes rest f e =
    let n = then_some (λ (n : ℕ × List ℕ). all_read change_read n.0 n.1) (number_read 2 bytes) (changes, rest) e in
    let count = number_is 2 bytes n.0.0 n.0.1 f n.1 in
    let all = all_is change_read change_bytes change_is n.0.0 n.0.1 changes rest count.1 n.2 in
    count.0 ∙ ap (λ ys. little_bytes 2 n.0.0 ++ ys) all.0 ∙ ap (λ k. little_bytes 2 k ++ (flat_map change_bytes changes ++ rest)) (sym all.2)

-- what is whole leaves nothing behind it and may stand in a record
whole_is : (all : List Change × List ℕ) (changes : List Change) → whole_record all ≡ Some changes → (all ≡ taken changes []) × (record_fits changes ≡ true)
whole_is (xs, []) changes = by_test (λ (o : Option (List Change)). o ≡ Some changes → (taken xs [] ≡ taken changes []) × (record_fits changes ≡ true)) (Some xs) None (record_fits xs)
    (λ t e. let same : xs ≡ changes = cc in (ap (λ ys. taken ys []) same, ap record_fits (sym same) ∙ t))
    (λ t e. cc)
whole_is (xs, b ∷ rest) changes = λ e. cc

pub record_read : (bytes : List ℕ) (changes : List Change) → AreBytes bytes → record_in bytes ≡ Some changes → IsRecordBody bytes changes
record_read bytes changes f e =
    let all = then_some whole_record (changes_read bytes) changes (sym (record_in_is bytes) ∙ e) in
    let whole = whole_is all.0 changes all.2 in
    let body = changes_are bytes changes [] f (all.1 ∙ ap (λ (x : List Change × List ℕ). Some x) whole.0) in
    (body ∙ append-nil (record_bytes changes), whole.1)

pub record_once : (bytes : List ℕ) (xs ys : List Change) → IsRecordBody bytes xs → IsRecordBody bytes ys → xs ≡ ys
record_once bytes xs ys h g =
    let e : Some xs ≡ Some ys = sym (ap record_in h.0 ∙ record_back xs h.1) ∙ (ap record_in g.0 ∙ record_back ys g.1) in cc

-- what is decoded may stand in a log
pub decoded_fits : (bytes : List ℕ) (r : Redo) → AreBytes bytes → option_map (λ changes. record { op = record { 0 = 0 }; changes = changes }) (record_in bytes) ≡ Some r
    → record_fits r.changes ≡ true
decoded_fits bytes r f e =
    let a = map_some (λ (changes : List Change). record { op = record { 0 = 0 }; changes = changes }) (record_in bytes) r e in
    ap (λ (x : Redo). record_fits x.changes) (sym a.2) ∙ (record_read bytes a.0 f a.1).1
