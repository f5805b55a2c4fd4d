-- Entries behind the first: what is written is read, unless the disk has a flaw, and what is read was written so.
use Rattle.std.proofs.Common.{◌≡◌, ℕ, zero, suc, ◌+◌, ◌<◌, ◌≤◌, Bool, true, false, cond, nat_lt, nat_le, Option, Some, None, Result, Ok, Err, List, [], ◌∷◌, ◌++◌, length, drop, refl, sym, ap, ◌∙◌, subst, length-append, arith}
use Rattle.std.specs.List.{flat_map, AllByRecursion}
use Rattle.std.proofs.lemmas.Bool.Decides.{nat_tests}
use Rattle.std.proofs.lemmas.Bool.{le-ltb, lt-leb, leb-false}
use Rattle.frang_base.proofs.Basics.{by_test}
use Rattle.disk_definitions.specs.declared.region.Region.{Region}
use Rattle.sector_bytes.specs.Bytes.{are_zero, AreBytes}
use Rattle.disk_definitions.specs.Regions.{region_of}
use Rattle.disk_definitions.proofs.NumberBytes.{drop_are}
use Rattle.image_file.specs.declared.fault.ImageFault.{ImageFault}
use Rattle.image_file.specs.declared.fault.ImageFlaw.{ImageFlaw}
use Rattle.image_file.specs.declared.fault.ImageFlaw.TheVariants.{Cut, OutOfOrder, OfZeros, BadSector}
use Rattle.image_file.specs.Images.{Blocks, image_entry, entry_in, IsImaged, block_fits, block_flaw, entry_flaw, fault, judged, entries_in}
use Rattle.image_file.specs.Laws.{IsOfDisk, ReadsBack}
use Rattle.image_file.proofs.EntryBytes.{IsEntry, length_entry, entry_reads, behind_entry, entry_again, read_entry}

-- sectors that ascend from behind one, as entries, none of zeros
abbrev pub Ascend : ℕ → Blocks → Type 0
Ascend before [] = Unit {0}
Ascend before (e ∷ es) = (before < e.0) × IsEntry e × (are_zero e.1 ≡ false) × Ascend e.0 es

-- no flaw, or one of the disk
abbrev pub MayHave : Option ImageFlaw → Type 0
MayHave None = Unit {0}
MayHave (Some flaw) = IsOfDisk flaw

-- ---- the flaw of an entry

pub block_may_have : (r : Option Region) (block : List ℕ) → are_zero block ≡ false → MayHave (block_flaw r block)
block_may_have None block z = tt
block_may_have (Some r) block z =
    subst (λ (b : Bool). MayHave (cond b (Some OfZeros) (cond (block_fits r block) None (Some BadSector)))) (sym z)
    (by_test MayHave None (Some BadSector) (block_fits r block) (λ t. tt) (λ t. tt))

entry_may_have : (segments before s : ℕ) (block : List ℕ) → before < s → are_zero block ≡ false → MayHave (entry_flaw segments before (s, block))
entry_may_have segments before s block h z =
    subst (λ (b : Bool). MayHave (cond b (Some OutOfOrder) (block_flaw (region_of segments s) block))) (sym (lt-leb s before h))
    (block_may_have (region_of segments s) block z)

pub no_block_flaw : (o : Option Region) (r : Region) (block : List ℕ) → o ≡ Some r → are_zero block ≡ false → block_fits r block ≡ true → block_flaw o block ≡ None
no_block_flaw None r block p z f = cc
no_block_flaw (Some x) r block p z f =
    let same : x ≡ r = cc in
    let fits : block_fits x block ≡ true = ap (λ (y : Region). block_fits y block) same ∙ f in
    ap (λ (b : Bool). cond b (Some OfZeros) (cond (block_fits x block) None (Some BadSector))) z
    ∙ ap (λ (b : Bool). cond b None (Some BadSector)) fits

pub no_flaw : (segments before s : ℕ) (block : List ℕ) → before < s → IsImaged segments (s, block) → entry_flaw segments before (s, block) ≡ None
no_flaw segments before s block h i =
    ap (λ (b : Bool). cond b (Some OutOfOrder) (block_flaw (region_of segments s) block)) (lt-leb s before h)
    ∙ no_block_flaw (region_of segments s) i.region block i.place i.written i.grammar

record Fits (o : Option Region) (block : List ℕ) : Type 0 where
  region : Region
  place : o ≡ Some region
  written : are_zero block ≡ false
  grammar : block_fits region block ≡ true

pub unflawed : (r : Region) (block : List ℕ) → block_flaw (Some r) block ≡ None → (are_zero block ≡ false) × (block_fits r block ≡ true)
unflawed r block =
    by_test (λ (o : Option ImageFlaw). o ≡ None → (are_zero block ≡ false) × (block_fits r block ≡ true)) (Some OfZeros) (cond (block_fits r block) None (Some BadSector)) (are_zero block)
    (λ z e. cc)
    (λ z. by_test (λ (o : Option ImageFlaw). o ≡ None → (are_zero block ≡ false) × (block_fits r block ≡ true)) None (Some BadSector) (block_fits r block) (λ f e. (z, f)) (λ f e. cc))

fits_by : (r : Region) (block : List ℕ) → block_flaw (Some r) block ≡ None → Fits (Some r) block
fits_by r block e = let u = unflawed r block e in record { region = r; place = refl; written = u.0; grammar = u.1 }

fits_where : (o : Option Region) (block : List ℕ) → block_flaw o block ≡ None → Fits o block
fits_where None block e = cc
fits_where (Some r) block e = fits_by r block e

pub flawless : (segments before s : ℕ) (block : List ℕ) → entry_flaw segments before (s, block) ≡ None → (before < s) × IsImaged segments (s, block)
flawless segments before s block =
    by_test (λ (o : Option ImageFlaw). o ≡ None → (before < s) × IsImaged segments (s, block)) (Some OutOfOrder) (block_flaw (region_of segments s) block) (nat_le s before)
    (λ t e. cc)
    (λ t e. let f = fits_where (region_of segments s) block e in
    (leb-false s before t, record { region = f.region; place = f.place; written = f.written; grammar = f.grammar }))

-- ---- an entry with those behind it

pub judged_reads : (at : ℕ) (flaw : Option ImageFlaw) (e : ℕ × List ℕ) (r : Result Blocks ImageFault) (es : Blocks) → MayHave flaw → ReadsBack es r → ReadsBack (e ∷ es) (judged at flaw e r)
judged_reads at None e (Ok read) es m h = ap (λ (xs : Blocks). e ∷ xs) h
judged_reads at None e (Err f) es m h = h
judged_reads at (Some flaw) e r es m h = m

pub record Judged (flaw : Option ImageFlaw) (e : ℕ × List ℕ) (r : Result Blocks ImageFault) (es : Blocks) : Type 0 where
  pub flawless : flaw ≡ None
  pub others : Blocks
  pub read : r ≡ Ok others
  pub all : es ≡ e ∷ others

pub judged_ok : (at : ℕ) (flaw : Option ImageFlaw) (e : ℕ × List ℕ) (r : Result Blocks ImageFault) (es : Blocks) → judged at flaw e r ≡ Ok es → Judged flaw e r es
judged_ok at None e (Ok read) es h = record { flawless = refl; others = read; read = refl; all = cc }
judged_ok at None e (Err f) es h = cc
judged_ok at (Some flaw) e r es h = cc

-- ---- entries from the first byte on

step_by : (segments before at count s : ℕ) (block rest bytes : List ℕ) → nat_lt (length bytes) 520 ≡ false → entry_in bytes ≡ (s, block) → drop 520 bytes ≡ rest
    → entries_in segments before at (suc count) bytes ≡ judged at (entry_flaw segments before (s, block)) (s, block) (entries_in segments s (at + 520) count rest)
step_by segments before at count s block rest bytes t p q =
    rw t (ap (λ (e : ℕ × List ℕ). judged at (entry_flaw segments before e) e (entries_in segments e.0 (at + 520) count (drop 520 bytes))) p
    ∙ ap (λ (xs : List ℕ). judged at (entry_flaw segments before (s, block)) (s, block) (entries_in segments s (at + 520) count xs)) q)

entries_step : (segments before at count s : ℕ) (block rest : List ℕ) → IsEntry (s, block)
    → entries_in segments before at (suc count) (image_entry (s, block) ++ rest) ≡ judged at (entry_flaw segments before (s, block)) (s, block) (entries_in segments s (at + 520) count rest)
entries_step segments before at count s block rest h =
    let n = length_entry s block h.block in
    step_by segments before at count s block rest (image_entry (s, block) ++ rest)
    (le-ltb _ 520 (omega (arith, length-append (image_entry (s, block)) rest)))
    (entry_reads s block rest h) (behind_entry s block rest h.block)

pub entries_read_back : (segments before at : ℕ) (es : Blocks) → Ascend before es → ReadsBack es (entries_in segments before at (length es) (flat_map image_entry es))
entries_read_back segments before at [] h = refl
entries_read_back segments before at ((s, block) ∷ es) h =
    rw (entries_step segments before at (length es) s block (flat_map image_entry es) h.1)
    (judged_reads at (entry_flaw segments before (s, block)) (s, block) _ es (entry_may_have segments before s block h.0 h.2)
    (entries_read_back segments s (at + 520) es h.3))

pub entries_found : (segments before at : ℕ) (es : Blocks) → Ascend before es → AllByRecursion (IsImaged segments) es → entries_in segments before at (length es) (flat_map image_entry es) ≡ Ok es
entries_found segments before at [] h i = refl
entries_found segments before at ((s, block) ∷ es) h i =
    rw (
      entries_step segments before at (length es) s block (flat_map image_entry es) h.1,
      no_flaw segments before s block h.0 i.0,
      entries_found segments s (at + 520) es h.3 i.1,
    ) refl

pub record Entries (segments before count : ℕ) (bytes : List ℕ) (es : Blocks) : Type 0 where
  pub long : length es ≡ count
  pub text : bytes ≡ flat_map image_entry es
  pub ascend : Ascend before es
  pub each : AllByRecursion (IsImaged segments) es

nothing_read : (segments before : ℕ) (es : Blocks) → es ≡ [] → Entries segments before 0 [] es
nothing_read segments before [] h = record { long = refl; text = refl; ascend = tt; each = tt }
nothing_read segments before (e ∷ es) h = cc

one_more : (segments before count s : ℕ) (block rest bytes : List ℕ) (es others : Blocks) → es ≡ (s, block) ∷ others → bytes ≡ image_entry (s, block) ++ rest
    → IsEntry (s, block) → before < s → IsImaged segments (s, block) → Entries segments s count rest others → Entries segments before (suc count) bytes es
one_more segments before count s block rest bytes [] others a t w l i r = cc
one_more segments before count s block rest bytes (e ∷ es) others a t w l i r =
    let first : e ≡ (s, block) = cc in
    let rest_is : es ≡ others = cc in
    rw (first, rest_is) (record {
      long = ap suc r.long;
      text = t ∙ ap (λ (xs : List ℕ). image_entry (s, block) ++ xs) r.text;
      ascend = (l, w, i.written, r.ascend);
      each = (i, r.each);
    })

pub entries_read : (segments before at count : ℕ) (bytes : List ℕ) (es : Blocks) → AreBytes bytes → entries_in segments before at count bytes ≡ Ok es → Entries segments before count bytes es
entries_read segments before at zero [] es f = λ h. nothing_read segments before es (cc)
entries_read segments before at zero (b ∷ bytes) es f = λ h. cc
entries_read segments before at (suc count) bytes es f =
    by_test (λ (r : Result Blocks ImageFault). r ≡ Ok es → Entries segments before (suc count) bytes es)
    (Err (fault at Cut))
    (judged at (entry_flaw segments before (entry_in bytes)) (entry_in bytes) (entries_in segments (entry_in bytes).0 (at + 520) count (drop 520 bytes)))
    (nat_lt (length bytes) 520)
    (λ t h. cc)
    (λ t h.
    let long : 520 ≤ length bytes = grind (arith, nat_tests) in
    let j = judged_ok at _ (entry_in bytes) _ es h in
    let l = flawless segments before (entry_in bytes).0 (entry_in bytes).1 j.flawless in
    one_more segments before count (entry_in bytes).0 (entry_in bytes).1 (drop 520 bytes) bytes es j.others j.all (entry_again bytes f long) (read_entry bytes f long) l.0 l.1
    (entries_read segments (entry_in bytes).0 (at + 520) count (drop 520 bytes) j.others (drop_are 520 bytes f) j.read))
