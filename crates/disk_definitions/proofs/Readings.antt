-- How a reading that writes again what it read, and compares, goes back and forth, whatever the fields are.
use Rattle.std.proofs.Common.{◌≡◌, Bool, true, false, ◌&&◌, if◌then◌else◌, ℕ, Option, Some, None, List, refl, sym, ap, ◌∙◌, subst}
use Rattle.std.proofs.lemmas.Bool.{and_parts, and_from}
use Rattle.std.specs.Bool.{then_some}
use Rattle.sector_bytes.proofs.SameBytes.{same_bytes_is, same_bytes_refl}
use Rattle.frang_base.proofs.Basics.{by_test}
use Rattle.std.specs.Str.{bytes_eq}

-- both of two tests
pub and_l : (a b : Bool) → (a && b) ≡ true → a ≡ true
and_l a b h = (and_parts a b h).0

pub and_r : (a b : Bool) → (a && b) ≡ true → b ≡ true
and_r a b h = (and_parts a b h).1

-- the value whose fields stand in the block, where it fits and its bytes are the block
abbrev pub read_as : {X : Type 0} → (X → List ℕ) → (X → Bool) → List ℕ → X → Option X
read_as bytes fits block x = if fits x && bytes_eq (bytes x) block then Some x else None

-- what fits reads back from its own bytes
pub read_back : {X : Type 0} (bytes : X → List ℕ) (fits : X → Bool) (y x : X) → y ≡ x → fits x ≡ true → read_as bytes fits (bytes x) y ≡ Some x
read_back {X} bytes fits y x e h =
    let test : (fits x && bytes_eq (bytes x) (bytes x)) ≡ true = and_from (fits x) (bytes_eq (bytes x) (bytes x)) h (same_bytes_refl (bytes x)) in
    ap (read_as bytes fits (bytes x)) e ∙ ap (λ (b : Bool). if b then Some x else None) test

-- what is read fits, and its bytes are the block
pub read_is : {X : Type 0} (bytes : X → List ℕ) (fits : X → Bool) (block : List ℕ) (y x : X) → read_as bytes fits block y ≡ Some x → (block ≡ bytes x) × (fits x ≡ true)
read_is {X} bytes fits block y x =
    by_test (λ (o : Option X). o ≡ Some x → (block ≡ bytes x) × (fits x ≡ true)) (Some y) None (fits y && bytes_eq (bytes y) block)
    (λ t e. let q : y ≡ x = cc in let parts = and_parts (fits y) (bytes_eq (bytes y) block) t in
    (sym (same_bytes_is (bytes y) block parts.1) ∙ ap bytes q, subst (λ (z : X). fits z ≡ true) q parts.0))
    (λ t e. cc)

-- a reading that finds fields which don't fit
pub reads_none : {X : Type 0} (bytes : X → List ℕ) (fits : X → Bool) (block : List ℕ) (y x : X) → x ≡ y → fits x ≡ false → None ≡ read_as bytes fits block y
reads_none {X} bytes fits block y x e f = sym (ap (read_as bytes fits block) (sym e) ∙ ap (λ (t : Bool). if t && bytes_eq (bytes x) block then Some x else None) f)

then_some_is : {X : Type 0} (t : Bool) (x : X) → then_some t x ≡ (if t then Some x else None)
then_some_is true x = refl
then_some_is false x = refl

-- a reading that compares the block with the bytes of what it found
pub reads_same : {X : Type 0} (bytes : X → List ℕ) (fits : X → Bool) (block again : List ℕ) (y x : X) (same : Bool) → x ≡ y → fits x ≡ true → again ≡ bytes x → same ≡ bytes_eq again block → then_some same x ≡ read_as bytes fits block y
reads_same {X} bytes fits block again y x same e f a s =
    then_some_is same x ∙ ap (λ (t : Bool). if t then Some x else None) (s ∙ ap (λ (zs : List ℕ). bytes_eq zs block) a)
    ∙ sym (ap (read_as bytes fits block) (sym e) ∙ ap (λ (t : Bool). if t && bytes_eq (bytes x) block then Some x else None) f)
