-- The first sector of an image is the parameter sector; the others stand behind it.
use Rattle.std.proofs.Common.{◌≡◌, ℕ, zero, suc, ◌≤◌, Bool, true, false, ◌&&◌, cond, nat_lt, nat_eq, Option, Some, None, Result, Ok, Err, List, [], ◌∷◌, ◌++◌, length, drop, refl, sym, ap, ◌∙◌, subst, length-append, arith}
use Rattle.std.specs.List.{flat_map, AllByRecursion}
use Rattle.std.specs.List.Sorted.{IsStrictlySortedBy}
use Rattle.std.specs.Map.{keys_of, lookup}
use Rattle.std.specs.BTreeMap.{is_at}
use Rattle.std.specs.Ordering.{nat_cmp, is_eq}
use Rattle.std.specs.Option.{unwrap_or}
use Rattle.std.proofs.lemmas.Bool.{and_parts, le-ltb, eqb-true}
use Rattle.std.proofs.lemmas.Bool.Decides.{nat_tests}
use Rattle.frang_base.proofs.Basics.{by_test}
use Rattle.frang_base.proofs.Tests.{cmp_less}
use Rattle.disk_definitions.specs.declared.param.Param.{Param}
use Rattle.disk_definitions.specs.declared.region.Region.TheVariants as region
use Rattle.sector_bytes.specs.Bytes.{zeros, are_zero, AreBytes}
use Rattle.disk_definitions.specs.Params.{param_in}
use Rattle.disk_definitions.proofs.ParamLaws.{param_read}
use Rattle.disk_definitions.proofs.NumberBytes.{drop_are}
use Rattle.sector_bytes.specs.Sectors.{sectors_of}
use Rattle.image_file.specs.declared.fault.ImageFault.{ImageFault}
use Rattle.image_file.specs.declared.fault.ImageFlaw.{ImageFlaw}
use Rattle.image_file.specs.declared.fault.ImageFlaw.TheVariants.{Cut, BadSector}
use Rattle.image_file.specs.Images.{Blocks, image_entry, entry_in, IsImaged, may_run_again, block_flaw, first_flaw, fault, judged, entries_in, segments_by, sectors_in}
use Rattle.image_file.specs.Laws.{ReadsBack}
use Rattle.image_file.proofs.EntryBytes.{IsEntry, length_entry, entry_reads, behind_entry, entry_again, read_entry}
use Rattle.image_file.proofs.EntriesRead.{Ascend, MayHave, block_may_have, no_block_flaw, unflawed, judged_reads, judged_ok, Entries, entries_read, entries_read_back, entries_found}
use Rattle.image_file.proofs.Ascending.{Above, lt_of_less, ascend_from}

-- ---- which sector is first

nothing_at_zero : (before : ℕ) (es : Blocks) → Above before es → lookup (is_at (nat_cmp 0)) es ≡ None
nothing_at_zero before [] u = refl
nothing_at_zero before ((zero, b) ∷ es) u = let l = lt_of_less before 0 u.0 in absurd (omega arith)
nothing_at_zero before ((suc s, b) ∷ es) u =
    let apart : is_at (nat_cmp 0) (suc s) ≡ false = ap is_eq (cmp_less 0 (suc s) (omega arith)) in
    ap (λ (t : Bool). cond t (Some b) (lookup (is_at (nat_cmp 0)) es)) apart ∙ nothing_at_zero before es u.1

no_parameters : param_in (zeros 512) ≡ None
unfolding zeros
no_parameters = refl

pub record First (es : Blocks) (p : Param) : Type 0 where
  pub block : List ℕ
  pub others : Blocks
  pub all : es ≡ (0, block) ∷ others
  pub param : param_in block ≡ Some p

pub first_of : (es : Blocks) (p : Param) → IsStrictlySortedBy nat_cmp (keys_of es) → param_in (sectors_of es 0) ≡ Some p → First es p
unfolding IsStrictlySortedBy
first_of [] p s e = let no : None ≡ Some p = sym no_parameters ∙ e in cc
first_of ((zero, b) ∷ es) p s e = record { block = b; others = es; all = refl; param = e }
first_of ((suc n, b) ∷ es) p s e =
    let apart : is_at (nat_cmp 0) (suc n) ≡ false = ap is_eq (cmp_less 0 (suc n) (omega arith)) in
    let missing : lookup (is_at (nat_cmp 0)) ((suc n, b) ∷ es) ≡ None =
    ap (λ (t : Bool). cond t (Some b) (lookup (is_at (nat_cmp 0)) es)) apart ∙ nothing_at_zero (suc n) es s.0 in
    let no : None ≡ Some p = sym no_parameters ∙ (ap (λ (o : Option (List ℕ)). param_in (unwrap_or o (zeros 512))) (sym missing) ∙ e) in
    cc

-- ---- its flaw

first_may_have : (s : ℕ) (block : List ℕ) → are_zero block ≡ false → MayHave (first_flaw (s, block))
first_may_have s block z = by_test MayHave (block_flaw (Some region.Param) block) (Some BadSector) (nat_eq s 0) (λ t. block_may_have (Some region.Param) block z) (λ t. tt)

first_fits : (block : List ℕ) → may_run_again (param_in block) ≡ true → are_zero block ≡ false → first_flaw (0, block) ≡ None
first_fits block f z = no_block_flaw (Some region.Param) region.Param block refl z f

record FirstFits (s : ℕ) (block : List ℕ) : Type 0 where
  zero_th : s ≡ 0
  written : are_zero block ≡ false
  fits : may_run_again (param_in block) ≡ true

-- where another run may follow there are parameters
may_run : (o : Option Param) → may_run_again o ≡ true → (p : Param) × (o ≡ Some p)
may_run None h = cc
may_run (Some p) h = (p, refl)

first_flawless : (s : ℕ) (block : List ℕ) → first_flaw (s, block) ≡ None → FirstFits s block
first_flawless s block =
    by_test (λ (o : Option ImageFlaw). o ≡ None → FirstFits s block) (block_flaw (Some region.Param) block) (Some BadSector) (nat_eq s 0)
    (λ t e. let u = unflawed region.Param block e in record { zero_th = eqb-true s 0 t; written = u.0; fits = u.1 })
    (λ t e. cc)

-- ---- it and the others

step_by : (count s : ℕ) (block rest bytes : List ℕ) → nat_lt (length bytes) 520 ≡ false → entry_in bytes ≡ (s, block) → drop 520 bytes ≡ rest
    → sectors_in (suc count) bytes ≡ judged 16 (first_flaw (s, block)) (s, block) (entries_in (segments_by (param_in block)) 0 536 count rest)
step_by count s block rest bytes t p q =
    rw t (ap (λ (e : ℕ × List ℕ). judged 16 (first_flaw e) e (entries_in (segments_by (param_in e.1)) 0 536 count (drop 520 bytes))) p
    ∙ ap (λ (xs : List ℕ). judged 16 (first_flaw (s, block)) (s, block) (entries_in (segments_by (param_in block)) 0 536 count xs)) q)

first_step : (count s : ℕ) (block rest : List ℕ) → IsEntry (s, block)
    → sectors_in (suc count) (image_entry (s, block) ++ rest) ≡ judged 16 (first_flaw (s, block)) (s, block) (entries_in (segments_by (param_in block)) 0 536 count rest)
first_step count s block rest h =
    let n = length_entry s block h.block in
    step_by count s block rest (image_entry (s, block) ++ rest)
    (le-ltb _ 520 (omega (arith, length-append (image_entry (s, block)) rest)))
    (entry_reads s block rest h) (behind_entry s block rest h.block)

-- sectors that ascend, as entries, none of zeros: any first one may be
abbrev pub AscendAll : Blocks → Type 0
AscendAll [] = Unit {0}
AscendAll (e ∷ es) = IsEntry e × (are_zero e.1 ≡ false) × Ascend e.0 es

pub sectors_read_back : (es : Blocks) → AscendAll es → ReadsBack es (sectors_in (length es) (flat_map image_entry es))
sectors_read_back [] h = tt
sectors_read_back ((s, block) ∷ es) h =
    rw (first_step (length es) s block (flat_map image_entry es) h.0)
    (judged_reads 16 (first_flaw (s, block)) (s, block) _ es (first_may_have s block h.1)
    (entries_read_back (segments_by (param_in block)) 0 536 es (ascend_from 0 s es (omega arith) h.2)))

pub sectors_found : (block : List ℕ) (es : Blocks) (p : Param) → param_in block ≡ Some p → may_run_again (param_in block) ≡ true → are_zero block ≡ false → IsEntry (0, block) → Ascend 0 es
    → AllByRecursion (IsImaged p.segments) es → sectors_in (suc (length es)) (image_entry (0, block) ++ flat_map image_entry es) ≡ Ok ((0, block) ∷ es)
sectors_found block es p e f z w a i =
    let segments : segments_by (param_in block) ≡ p.segments = ap segments_by e in
    first_step (length es) 0 block (flat_map image_entry es) w
    ∙ rw (first_fits block f z, segments, entries_found p.segments 0 536 es a i) refl

pub record Sectors (count : ℕ) (bytes : List ℕ) (es : Blocks) : Type 0 where
  pub block : List ℕ
  pub others : Blocks
  pub all : es ≡ (0, block) ∷ others
  pub param : Param
  pub is : param_in block ≡ Some param
  pub fits : may_run_again (param_in block) ≡ true
  pub written : are_zero block ≡ false
  pub entry : IsEntry (0, block)
  pub ascend : Ascend 0 others
  pub each : AllByRecursion (IsImaged param.segments) others
  pub long : suc (length others) ≡ count
  pub text : bytes ≡ image_entry (0, block) ++ flat_map image_entry others

sectors_by : (count : ℕ) (bytes : List ℕ) (e : ℕ × List ℕ) (es others : Blocks) → e.0 ≡ 0 → es ≡ e ∷ others → bytes ≡ image_entry e ++ drop 520 bytes → IsEntry e → are_zero e.1 ≡ false
    → may_run_again (param_in e.1) ≡ true → Entries (segments_by (param_in e.1)) 0 count (drop 520 bytes) others → Sectors (suc count) bytes es
sectors_by count bytes (s, block) es others o a t w z f r =
    let m = may_run (param_in block) f in
    let zeroth : (s, block) ≡ (0, block) = ap (λ (n : ℕ). (n, block)) o in
    record {
      block = block;
      others = others;
      param = m.0;
      is = m.1;
      fits = f;
      written = z;
      ascend = r.ascend;
      all = a ∙ ap (λ (e : ℕ × List ℕ). e ∷ others) zeroth;
      entry = subst IsEntry zeroth w;
      each = subst (λ (n : ℕ). AllByRecursion (IsImaged n) others) (ap segments_by m.1) r.each;
      long = ap suc r.long;
      text = t ∙ (ap (λ (xs : List ℕ). image_entry (s, block) ++ xs) r.text ∙ ap (λ (e : ℕ × List ℕ). image_entry e ++ flat_map image_entry others) zeroth);
    }

pub sectors_read : (count : ℕ) (bytes : List ℕ) (es : Blocks) → AreBytes bytes → sectors_in count bytes ≡ Ok es → Sectors count bytes es
sectors_read zero [] es f = λ h. cc
sectors_read zero (b ∷ bytes) es f = λ h. cc
sectors_read (suc count) bytes es f =
    by_test (λ (r : Result Blocks ImageFault). r ≡ Ok es → Sectors (suc count) bytes es)
    (Err (fault 16 Cut))
    (judged 16 (first_flaw (entry_in bytes)) (entry_in bytes) (entries_in (segments_by (param_in (entry_in bytes).1)) 0 536 count (drop 520 bytes)))
    (nat_lt (length bytes) 520)
    (λ t h. cc)
    (λ t h.
    let long : 520 ≤ length bytes = grind (arith, nat_tests) in
    let j = judged_ok 16 _ (entry_in bytes) _ es h in
    let l = first_flawless (entry_in bytes).0 (entry_in bytes).1 j.flawless in
    sectors_by count bytes (entry_in bytes) es j.others l.zero_th j.all (entry_again bytes f long) (read_entry bytes f long) l.written l.fits
    (entries_read (segments_by (param_in (entry_in bytes).1)) 0 536 count (drop 520 bytes) j.others (drop_are 520 bytes f) j.read))
