-- Numbers and runs of bytes read back, and bytes are those of the number that they are read as.
use Rattle.std.proofs.Common.{◌≡◌, ℕ, ◌^◌, ◌<◌, ◌≤◌, if◌then◌else◌, nat_le, Some, None, List, ◌++◌, length, take, drop, refl, sym, ap, ◌∙◌, length-append, arith}
use Rattle.std.proofs.lemmas.List.{take-append-drop, length-take, take_at, drop_at}
use Rattle.std.proofs.lemmas.Bool.{le-leb, leb-true}
use Rattle.byteorder.specs.Endian.{little_bytes}
use Rattle.byteorder.specs.Numbers.{little_number-reads_back, length-bytes_low_first}
use Rattle.frang_base.proofs.Basics.{by_test}
use Rattle.sector_bytes.specs.Bytes.{number_at, AreBytes}
use Rattle.disk_definitions.proofs.NumberBytes.{number_again, drop_are}
use Rattle.disk_definitions.specs.Records.{Read, number_read, bytes_read}

-- a value that is read, and the bytes behind it
abbrev pub taken : {A : Type 0} → A → List ℕ → A × List ℕ
taken a bytes = (a, bytes)

read_pair : {A : Type 0} (a x : A) (b y : List ℕ) → a ≡ x → b ≡ y → Some (taken a b) ≡ Some (taken x y)
read_pair a x b y p q = ap (λ u. Some (taken u b)) p ∙ ap (λ v. Some (taken x v)) q

pub parts_of : {A : Type 0} (a x : A) (b y : List ℕ) → Some (taken a b) ≡ Some (taken x y) → (a ≡ x) × (b ≡ y)
parts_of {A} a x b y e =
    let h : taken a b ≡ taken x y = cc in
    (ap (λ (p : A × List ℕ). p.0) h, ap (λ (p : A × List ℕ). p.1) h)

-- ---- forth

pub number_back : (n x : ℕ) (rest : List ℕ) → x < 256 ^ n → number_read n (little_bytes n x ++ rest) ≡ Some (x, rest)
number_back n x rest h =
    let bytes = little_bytes n x ++ rest in
    let long : n ≤ length bytes = omega (arith, length-append (little_bytes n x) rest, length-bytes_low_first 0 n x) in
    ap (λ b. if b then Some (number_at n 0 bytes, drop n bytes) else None) (le-leb n (length bytes) long)
    ∙ read_pair (number_at n 0 bytes) x (drop n bytes) rest (little_number-reads_back n x rest h) (drop_at (little_bytes n x) rest n (length-bytes_low_first 0 n x))

pub bytes_back : (xs rest : List ℕ) → bytes_read (length xs) (xs ++ rest) ≡ Some (xs, rest)
bytes_back xs rest =
    let n = length xs in
    let bytes = xs ++ rest in
    let long : n ≤ length bytes = omega (arith, length-append xs rest) in
    ap (λ b. if b then Some (take n bytes, drop n bytes) else None) (le-leb n (length bytes) long)
    ∙ read_pair (take n bytes) xs (drop n bytes) rest (take_at xs rest n refl) (drop_at xs rest n refl)

-- ---- and back

pub number_is : (n : ℕ) (bytes : List ℕ) (x : ℕ) (rest : List ℕ) → AreBytes bytes → number_read n bytes ≡ Some (x, rest) → (bytes ≡ little_bytes n x ++ rest) × AreBytes rest
number_is n bytes x rest f =
    by_test (λ (o : Read ℕ). o ≡ Some (x, rest) → (bytes ≡ little_bytes n x ++ rest) × AreBytes rest) (Some (number_at n 0 bytes, drop n bytes)) None (nat_le n (length bytes))
    (λ t e.
    let parts = parts_of (number_at n 0 bytes) x (drop n bytes) rest e in
    let value = parts.0 in
    let behind = parts.1 in
    let whole = sym (take-append-drop n bytes) ∙ ap (λ front. front ++ drop n bytes) (sym (number_again n bytes f (leb-true n (length bytes) t))) in
    (whole ∙ ap (λ y. little_bytes n y ++ drop n bytes) value ∙ ap (λ ys. little_bytes n x ++ ys) behind, rw (sym behind) (drop_are n bytes f)))
    (λ t e. cc)

pub bytes_is : (n : ℕ) (bytes xs rest : List ℕ) → AreBytes bytes → bytes_read n bytes ≡ Some (xs, rest) → (bytes ≡ xs ++ rest) × AreBytes rest × (length xs ≡ n)
bytes_is n bytes xs rest f =
    by_test (λ (o : Read (List ℕ)). o ≡ Some (xs, rest) → (bytes ≡ xs ++ rest) × AreBytes rest × (length xs ≡ n)) (Some (take n bytes, drop n bytes)) None (nat_le n (length bytes))
    (λ t e.
    let parts = parts_of (take n bytes) xs (drop n bytes) rest e in
    let front = parts.0 in
    let behind = parts.1 in
    let long = leb-true n (length bytes) t in
    (sym (take-append-drop n bytes) ∙ ap (λ ys. ys ++ drop n bytes) front ∙ ap (λ ys. xs ++ ys) behind, rw (sym behind) (drop_are n bytes f), ap length (sym front) ∙ omega (arith, length-take n bytes)))
    (λ t e. cc)
