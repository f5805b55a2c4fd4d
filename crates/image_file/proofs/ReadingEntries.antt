-- One entry more of an image, and its first.
use Rattle.std.proofs.Common.{◌≡◌, ℕ, zero, suc, ◌+◌, ◌-◌, ◌<◌, ◌≤◌, Bool, true, false, cond, nat_lt, List, [], ◌∷◌, ◌++◌, length, take, drop, Option, Some, None, Result, Ok, Err, refl, sym, ◌∙◌, ap, append_assoc, drop-drop, length-drop, arith}
use Rattle.std.proofs.lemmas.Bool.Decides.{nat_tests}
use Rattle.std.proofs.lemmas.Option.{same_Some}
use Rattle.std.proofs.lemmas.Bool.{le-ltb}
use Rattle.frang_base.proofs.Basics.{by_test}
use Rattle.byteorder.specs.Endian.{little_number}
use Rattle.byteorder.specs.Numbers.{little_from-take}
use Rattle.sector_bytes.specs.Bytes.{number_at}
use Rattle.disk_definitions.specs.Params.{param_in}
use Rattle.disk_definitions.specs.declared.param.Param.{Param}
use Rattle.image_file.specs.declared.fault.ImageFault.{ImageFault}
use Rattle.image_file.specs.declared.fault.ImageFlaw.{ImageFlaw}
use Rattle.image_file.specs.declared.fault.ImageFlaw.TheVariants.{Cut}
use Rattle.image_file.specs.Images.{Blocks, entry_in, entry_flaw, first_flaw, fault, with_entry, judged, entries_in, segments_by, sectors_in}
use Rattle.image_file.specs.Entries.{next_entry, header_of, behind}
use Rattle.image_file.proofs.EntriesRead.{flawless}

abbrev split : ℕ × List ℕ → List ℕ → Option ((ℕ × List ℕ) × List ℕ)
split e rest = Some (e, rest)

parts : (x e : ℕ × List ℕ) (r rest : List ℕ) → split x r ≡ split e rest → (x ≡ e) × (r ≡ rest)
parts x e r rest h =
    let q = same_Some {A = (ℕ × List ℕ) × List ℕ} (x, r) (e, rest) h in
    (ap (λ (p : (ℕ × List ℕ) × List ℕ). p.0) q, ap (λ (p : (ℕ × List ℕ) × List ℕ). p.1) q)

-- what next_entry finds
found : (bytes : List ℕ) (e : ℕ × List ℕ) (rest : List ℕ) → next_entry bytes ≡ Some (e, rest) → (nat_lt (length bytes) 520 ≡ false) × (entry_in bytes ≡ e) × (drop 520 bytes ≡ rest)
found bytes e rest =
    by_test (λ (o : Option ((ℕ × List ℕ) × List ℕ)). o ≡ Some (e, rest) → (nat_lt (length bytes) 520 ≡ false) × (entry_in bytes ≡ e) × (drop 520 bytes ≡ rest))
    None (Some (entry_in bytes, drop 520 bytes)) (nat_lt (length bytes) 520)
    (λ t h. cc)
    (λ t h. let p = parts (entry_in bytes) e (drop 520 bytes) rest h in (t, p.0, p.1))

missed : (bytes : List ℕ) → next_entry bytes ≡ None → nat_lt (length bytes) 520 ≡ true
missed bytes =
    by_test (λ (o : Option ((ℕ × List ℕ) × List ℕ)). o ≡ None → nat_lt (length bytes) 520 ≡ true)
    None (Some (entry_in bytes, drop 520 bytes)) (nat_lt (length bytes) 520)
    (λ t h. t)
    (λ t h. cc)

-- ---- entries behind the first

step : (segments last at count : ℕ) (bytes : List ℕ) (e : ℕ × List ℕ) (rest : List ℕ) → 0 < count → next_entry bytes ≡ Some (e, rest)
    → entries_in segments last at count bytes ≡ judged at (entry_flaw segments last e) e (entries_in segments e.0 (at + 520) (count - 1) rest)
step segments last at zero bytes e rest h n = absurd (omega arith)
step segments last at (suc count) bytes e rest h n =
    let f = found bytes e rest n in
    let c : suc count - 1 ≡ count = omega arith in
    rw (f.0, c) (ap (λ (x : ℕ × List ℕ). judged at (entry_flaw segments last x) x (entries_in segments x.0 (at + 520) count (drop 520 bytes))) f.1
    ∙ ap (λ (xs : List ℕ). judged at (entry_flaw segments last e) e (entries_in segments e.0 (at + 520) count xs)) f.2)

cut : (segments last at count : ℕ) (bytes : List ℕ) → 0 < count → next_entry bytes ≡ None → entries_in segments last at count bytes ≡ Err (fault at Cut)
cut segments last at zero bytes h n = absurd (omega arith)
cut segments last at (suc count) bytes h n = rw (missed bytes n) refl

pub cut_turn : (front : Blocks) (segments last at count : ℕ) (bytes : List ℕ) (all : Result Blocks ImageFault) → behind front (entries_in segments last at count bytes) ≡ all → 0 < count → next_entry bytes ≡ None
    → all ≡ Err (fault at Cut)
cut_turn front segments last at count bytes all a h n = sym a ∙ ap (behind front) (cut segments last at count bytes h n)

pub flaw_turn : (front : Blocks) (segments last at count : ℕ) (bytes : List ℕ) (e : ℕ × List ℕ) (rest : List ℕ) (flaw : ImageFlaw) (all : Result Blocks ImageFault)
    → behind front (entries_in segments last at count bytes) ≡ all → 0 < count → next_entry bytes ≡ Some (e, rest) → entry_flaw segments last e ≡ Some flaw → all ≡ Err (fault at flaw)
flaw_turn front segments last at count bytes e rest flaw all a h n f =
    sym a ∙ ap (behind front) (step segments last at count bytes e rest h n ∙ ap (λ (o : Option ImageFlaw). judged at o e (entries_in segments e.0 (at + 520) (count - 1) rest)) f)

behind_entry : (front : Blocks) (e : ℕ × List ℕ) (r : Result Blocks ImageFault) → behind (front ++ e ∷ []) r ≡ behind front (with_entry e r)
behind_entry front e (Ok es) = ap Ok (append_assoc front (e ∷ []) es)
behind_entry front e (Err f) = refl

pub next_turn : (front : Blocks) (segments last at count : ℕ) (bytes : List ℕ) (e : ℕ × List ℕ) (rest : List ℕ) (all : Result Blocks ImageFault)
    → behind front (entries_in segments last at count bytes) ≡ all → 0 < count → next_entry bytes ≡ Some (e, rest) → entry_flaw segments last e ≡ None
    → behind (front ++ e ∷ []) (entries_in segments e.0 (at + 520) (count - 1) rest) ≡ all
next_turn front segments last at count bytes e rest all a h n f =
    behind_entry front e (entries_in segments e.0 (at + 520) (count - 1) rest)
    ∙ (sym (ap (behind front) (step segments last at count bytes e rest h n ∙ ap (λ (o : Option ImageFlaw). judged at o e (entries_in segments e.0 (at + 520) (count - 1) rest)) f)) ∙ a)

pub none_below : (segments last s : ℕ) (block : List ℕ) → entry_flaw segments last (s, block) ≡ None → last < s
none_below segments last s block f = (flawless segments last s block f).0

-- ---- the first entry

first_step : (count : ℕ) (bytes : List ℕ) (e : ℕ × List ℕ) (rest : List ℕ) → 0 < count → next_entry bytes ≡ Some (e, rest)
    → sectors_in count bytes ≡ judged 16 (first_flaw e) e (entries_in (segments_by (param_in e.1)) 0 536 (count - 1) rest)
first_step zero bytes e rest h n = absurd (omega arith)
first_step (suc count) bytes e rest h n =
    let f = found bytes e rest n in
    let c : suc count - 1 ≡ count = omega arith in
    rw (f.0, c) (ap (λ (x : ℕ × List ℕ). judged 16 (first_flaw x) x (entries_in (segments_by (param_in x.1)) 0 536 count (drop 520 bytes))) f.1
    ∙ ap (λ (xs : List ℕ). judged 16 (first_flaw e) e (entries_in (segments_by (param_in e.1)) 0 536 count xs)) f.2)

pub first_flaw_turn : (count : ℕ) (bytes : List ℕ) (e : ℕ × List ℕ) (rest : List ℕ) (flaw : ImageFlaw) → 0 < count → next_entry bytes ≡ Some (e, rest) → first_flaw e ≡ Some flaw
    → sectors_in count bytes ≡ Err (fault 16 flaw)
first_flaw_turn count bytes e rest flaw h n f =
    first_step count bytes e rest h n ∙ ap (λ (o : Option ImageFlaw). judged 16 o e (entries_in (segments_by (param_in e.1)) 0 536 (count - 1) rest)) f

-- the first entry stands before the others
alone : (e : ℕ × List ℕ) (r : Result Blocks ImageFault) → with_entry e r ≡ behind (e ∷ []) r
alone e (Ok es) = refl
alone e (Err f) = refl

pub first_turn : (count : ℕ) (bytes : List ℕ) (e : ℕ × List ℕ) (rest : List ℕ) (p : Param) → 0 < count → next_entry bytes ≡ Some (e, rest) → first_flaw e ≡ None → param_in e.1 ≡ Some p
    → sectors_in count bytes ≡ behind (e ∷ []) (entries_in p.segments 0 536 (count - 1) rest)
first_turn count bytes e rest p h n f i =
    first_step count bytes e rest h n
    ∙ (ap (λ (o : Option ImageFlaw). judged 16 o e (entries_in (segments_by (param_in e.1)) 0 536 (count - 1) rest)) f
    ∙ (alone e (entries_in (segments_by (param_in e.1)) 0 536 (count - 1) rest)
    ∙ ap (λ (o : Option Param). behind (e ∷ []) (entries_in (segments_by o) 0 536 (count - 1) rest)) i))

-- ---- lengths, and the header

pub shorter : (bytes : List ℕ) (e : ℕ × List ℕ) (rest : List ℕ) → next_entry bytes ≡ Some (e, rest) → length rest + 520 ≡ length bytes
shorter bytes e rest n =
    let f = found bytes e rest n in
    let long : 520 ≤ length bytes = grind (arith, nat_tests) in
    let r : length (drop 520 bytes) ≡ length rest = ap length f.2 in
    omega (arith, length-drop 520 bytes)

abbrev header : List ℕ → ℕ → List ℕ → Option (List ℕ × ℕ × List ℕ)
header mark count rest = Some (mark, count, rest)

triple : (a x : List ℕ) (b y : ℕ) (c z : List ℕ) → a ≡ x → b ≡ y → c ≡ z → header a b c ≡ header x y z
triple a x b y c z p q r = cc

pub header_split : (bytes mark behind count rest : List ℕ) (n : ℕ) → mark ≡ take 8 bytes → behind ≡ drop 8 bytes → count ≡ take 8 behind → rest ≡ drop 8 behind → n ≡ little_number 8 count → 16 ≤ length bytes
    → header mark n rest ≡ header_of bytes
header_split bytes mark behind count rest n m b c r e long =
    let number : n ≡ number_at 8 8 bytes =
    e ∙ (ap (little_number 8) c ∙ (little_from-take 0 8 8 behind (omega arith) ∙ ap (little_number 8) b)) in
    triple mark (take 8 bytes) n (number_at 8 8 bytes) rest (drop 16 bytes) m number (r ∙ (ap (drop 8) b ∙ drop-drop 8 8 bytes))
    ∙ sym (ap (λ (t : Bool). cond t None (Some (take 8 bytes, number_at 8 8 bytes, drop 16 bytes))) (le-ltb (length bytes) 16 long))
