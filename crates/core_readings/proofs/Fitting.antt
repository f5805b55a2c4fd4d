-- Each record that is read of a log fits: its changes are of sectors that ascend. So no sector is changed twice by one, and what its changes make of a sector one after the other is what
-- the one of this sector makes.
use Rattle.std.proofs.Common.{◌≡◌, ◌==◌, ℕ, zero, suc, ◌+◌, ◌-◌, ◌<◌, ◌≤◌, inl, inr, ⊎_elim, Bool, true, false, ◌&&◌, if◌then◌else◌, nat_eq, nat_le, fold, Option, Some, None, List, [], ◌∷◌, take, length, refl, sym, ap, ◌∙◌, subst, arith}
use Rattle.std.specs.List.{cons_option}
use Rattle.std.specs.Option.{option_and_then, option_map}
use Rattle.std.proofs.lemmas.Bool.{and_parts, eq-eqb, eqb-true, false≢true, leb-true}
use Rattle.std.proofs.lemmas.Option.{none-some, same_Some}
use Rattle.frang_base.specs.declared.change.Change.{Change}
use Rattle.frang_base.specs.declared.change.Redo.{Redo}
use Rattle.disk_definitions.proofs.Listed.{Among, among_either}
use Rattle.disk_definitions.specs.declared.log_sector.LogSector.{LogSector}
use Rattle.disk_definitions.specs.Frames.{Frame, frame_length, frame_read, framed_record, frames_among, next_frames}
use Rattle.disk_definitions.specs.Logs.{Slots, are_parts, bytes_begun, frames_of, log_end, log_records, record_at, record_of, records_among, records_at, sectors_read, used_bytes}
use Rattle.disk_definitions.specs.LogSectors.{is_packed}
use Rattle.disk_definitions.specs.Records.{Read, all_read, change_read, number_read, record_fits, record_in, sectors_ascend, whole_record}
use Rattle.sector_bytes.specs.Blocks.{Block}
use Rattle.sector_bytes.specs.Changes.{applied}
use Rattle.sector_bytes.specs.Replays.{change_at, redone}

-- its changes are of sectors that ascend
abbrev pub Fits : Redo → Type 0
Fits r = sectors_ascend 0 r.changes ≡ true

-- ---- what is read

whole_fits : (x : List Change × List ℕ) (changes : List Change) → whole_record x ≡ Some changes → record_fits changes ≡ true
whole_fits (xs, b ∷ bytes) changes e = absurd (none-some changes e)
whole_fits (xs, []) changes e = go (record_fits xs) refl e
  where
    go : (b : Bool) → record_fits xs ≡ b → (if b then Some xs else None) ≡ Some changes → record_fits changes ≡ true
    go true f e = ap record_fits (sym (same_Some xs changes e)) ∙ f
    go false f e = absurd (none-some changes e)

then_fits : {X : Type 0} (o : Option X) (f : X → Option (List Change)) → ((x : X) (changes : List Change) → f x ≡ Some changes → record_fits changes ≡ true) → (changes : List Change) →
    option_and_then f o ≡ Some changes → record_fits changes ≡ true
then_fits None f each changes e = absurd (none-some changes e)
then_fits (Some x) f each changes e = each x changes e

body_fits : (bytes : List ℕ) (changes : List Change) → record_in bytes ≡ Some changes → record_fits changes ≡ true
body_fits bytes = then_fits (number_read 2 bytes) (λ n. option_and_then whole_record (all_read change_read n.0 n.1)) (λ n. then_fits (all_read change_read n.0 n.1) whole_record whole_fits)

ascends_of : (changes : List Change) → record_fits changes ≡ true → sectors_ascend 0 changes ≡ true
ascends_of changes e =
    (and_parts _ (sectors_ascend 0 changes) (and_parts _ _ e).0).1

-- a record with these changes
mapped_fits : (f : List Change → Redo) → ((changes : List Change) → (f changes).changes ≡ changes) → (o : Option (List Change)) → ((changes : List Change) → o ≡ Some changes → record_fits changes ≡ true) →
    (r : Redo) → option_map f o ≡ Some r → Fits r
mapped_fits f same None each r e = absurd (none-some r e)
mapped_fits f same (Some changes) each r e = subst (λ (x : Redo). sectors_ascend 0 x.changes ≡ true) (same_Some (f changes) r e) (ap (sectors_ascend 0) (same changes) ∙ ascends_of changes (each changes refl))

frame_fits : (frame : Frame) (r : Redo) → framed_record frame ≡ Some r → Fits r
frame_fits frame = mapped_fits (λ changes. record { op = record { 0 = frame.0 }; changes = changes }) (λ changes. refl) (record_in frame.1) (body_fits frame.1)

cons_fits : (o : Option Redo) (rs : List Redo) → ((r : Redo) → o ≡ Some r → Fits r) → ((r : Redo) → Among r rs → Fits r) → (r : Redo) → Among r (cons_option o rs) → Fits r
cons_fits None rs one rest r i = rest r i
cons_fits (Some x) rs one rest r (inl e) = subst Fits (sym e) (one x refl)
cons_fits (Some x) rs one rest r (inr i) = rest r i

frames_fit : (n left : ℕ) (bytes : List ℕ) (r : Redo) → Among r (frames_among n left bytes) → Fits r
frames_fit zero left bytes r i = absurd i
frames_fit (suc n) left bytes r i = go (left == 0) i (λ rest. frames_fit n rest)
  where
    next : (o : Read Frame) → Among r (next_frames (frames_among n) left o) → ((rest : ℕ) (more : List ℕ) (q : Redo) → Among q (frames_among n rest more) → Fits q) → Fits r
    next None i others = absurd i
    next (Some (frame, rest)) i others = cons_fits (framed_record frame) (frames_among n (left - frame_length frame) rest) (frame_fits frame) (others (left - frame_length frame) rest) r i

    go : (b : Bool) → Among r (if b then [] else next_frames (frames_among n) left (frame_read bytes)) → ((rest : ℕ) (more : List ℕ) (q : Redo) → Among q (frames_among n rest more) → Fits q) → Fits r
    go true i others = absurd i
    go false i others = next (frame_read bytes) i others

own_fits : (xs : List LogSector) (r : Redo) → record_at xs ≡ Some r → Fits r
own_fits [] r e = absurd (none-some r e)
own_fits (x ∷ xs) r e = go (x.part == 0 && nat_le 1 x.parts) e
  where
    of : (first : LogSector) (parts : List LogSector) (b : Bool) → (if b then option_map (λ changes. record { op = first.op; changes = changes }) (record_in (used_bytes parts)) else None) ≡ Some r → Fits r
    of first parts false e = absurd (none-some r e)
    of first parts true e = mapped_fits (λ changes. record { op = first.op; changes = changes }) (λ changes. refl) (record_in (used_bytes parts)) (body_fits (used_bytes parts)) r e

    go : (b : Bool) → (if b then record_of x (take x.parts (x ∷ xs)) else None) ≡ Some r → Fits r
    go false e = absurd (none-some r e)
    go true e = of x (take x.parts (x ∷ xs)) (length (take x.parts (x ∷ xs)) == x.parts && are_parts x 0 (take x.parts (x ∷ xs))) e

at_fits : (xs : List LogSector) (r : Redo) → Among r (records_at xs) → Fits r
at_fits [] r i = absurd i
at_fits (x ∷ xs) r i = go (is_packed x) i
  where
    go : (b : Bool) → Among r (if b then frames_of x xs else cons_option (record_at (x ∷ xs)) []) → Fits r
    go true i = frames_fit (length (bytes_begun x)) (length (bytes_begun x)) _ r i
    go false i = cons_fits (record_at (x ∷ xs)) [] (own_fits (x ∷ xs)) (λ q j. absurd j) r i

among_fits : (xs : List LogSector) (r : Redo) → Among r (records_among xs) → Fits r
among_fits [] r i = absurd i
among_fits (x ∷ xs) r i = ⊎_elim (at_fits (x ∷ xs) r) (among_fits xs r) (among_either r (records_at (x ∷ xs)) (records_among xs) i)

pub records_fit : (slots : Slots) (r : Redo) → Among r (log_records slots) → Fits r
records_fit slots r i = among_fits (sectors_read slots (log_end slots)) r i

-- ---- what changes make of a sector

-- the change where it is of this sector
abbrev pub change_laid : ℕ → Block → Change → Block
change_laid s block c = if s == c.sector.0 then applied block c else block

none_laid : (from s : ℕ) (changes : List Change) (block : Block) → s < from → sectors_ascend from changes ≡ true → (fold (change_laid s) block changes ≡ block) × (change_at changes s ≡ None)
none_laid from s [] block low e = (refl, refl)
none_laid from s (c ∷ cs) block low e = go (s == c.sector.0) refl (nat_eq c.sector.0 s) refl (none_laid (c.sector.0 + 1) s cs block (on c.sector.0 (leb-true from c.sector.0 parts.0)) parts.1)
  where
    parts : (nat_le from c.sector.0 ≡ true) × (sectors_ascend (c.sector.0 + 1) cs ≡ true)
    parts = and_parts (nat_le from c.sector.0) (sectors_ascend (c.sector.0 + 1) cs) e

    on : (n : ℕ) → from ≤ n → s < n + 1
    on n h = omega (arith, h, low)

    apart : (n : ℕ) → from ≤ n → s ≡ n → ⊥
    apart n h f = omega (arith, h, f, low)

    go : (b : Bool) → (s == c.sector.0) ≡ b → (d : Bool) → nat_eq c.sector.0 s ≡ d → (fold (change_laid s) block cs ≡ block) × (change_at cs s ≡ None) →
        (fold (change_laid s) (if b then applied block c else block) cs ≡ block) × ((if d then Some c else change_at cs s) ≡ None)
    go true f d g rest = absurd (apart c.sector.0 (leb-true from c.sector.0 parts.0) (eqb-true s c.sector.0 f))
    go false f true g rest = absurd (apart c.sector.0 (leb-true from c.sector.0 parts.0) (sym (eqb-true c.sector.0 s g)))
    go false f false g rest = rest

laid_from : (from s : ℕ) (changes : List Change) (block : Block) → sectors_ascend from changes ≡ true → fold (change_laid s) block changes ≡ redone (change_at changes s) block
laid_from from s [] block e = refl
laid_from from s (c ∷ cs) block e = go (s == c.sector.0) refl (nat_eq c.sector.0 s) refl (laid_from (c.sector.0 + 1) s cs block parts.1)
  where
    parts : (nat_le from c.sector.0 ≡ true) × (sectors_ascend (c.sector.0 + 1) cs ≡ true)
    parts = and_parts (nat_le from c.sector.0) (sectors_ascend (c.sector.0 + 1) cs) e

    up : (n : ℕ) → s ≡ n → s < n + 1
    up n f = omega (arith, f)

    go : (b : Bool) → (s == c.sector.0) ≡ b → (d : Bool) → nat_eq c.sector.0 s ≡ d → fold (change_laid s) block cs ≡ redone (change_at cs s) block →
        fold (change_laid s) (if b then applied block c else block) cs ≡ redone (if d then Some c else change_at cs s) block
    go true f true g rest = (none_laid (c.sector.0 + 1) s cs (applied block c) (up c.sector.0 (eqb-true s c.sector.0 f)) parts.1).0
    go true f false g rest = absurd (false≢true (sym g ∙ eq-eqb c.sector.0 s (sym (eqb-true s c.sector.0 f))))
    go false f true g rest = absurd (false≢true (sym f ∙ eq-eqb s c.sector.0 (sym (eqb-true c.sector.0 s g))))
    go false f false g rest = rest

pub laid_once : (r : Redo) → Fits r → (s : ℕ) (block : Block) → fold (change_laid s) block r.changes ≡ redone (change_at r.changes s) block
laid_once r fits s block = laid_from 0 s r.changes block fits
