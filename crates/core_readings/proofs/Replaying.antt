-- A reading of a log with older records in front, which are in place, replays as what is to be replayed.
use Rattle.std.proofs.Common.{◌≡◌, ℕ, zero, suc, ◌<◌, ◌≤◌, Bool, true, false, if◌then◌else◌, List, [], ◌∷◌, ◌++◌, drop, reverse, Option, Some, None, nat_lt, refl, sym, ap, ◌∙◌, subst, arith}
use Rattle.std.proofs.lemmas.Bool.Decides.{nat_tests}
use mathlib.Core.List.{reverse-cons}
use Rattle.std.proofs.lemmas.Grind.{fold-append}
use Rattle.frang_base.specs.declared.change.Change.{Change}
use Rattle.frang_base.specs.declared.change.Redo.{Redo}
use Rattle.sector_bytes.specs.Blocks.{Block, version_of}
use Rattle.sector_bytes.specs.Changes.{changed}
use Rattle.sector_bytes.proofs.ChangeLaws.{version-changed}
use Rattle.sector_bytes.specs.Replays.{change_at, redo_all, redone}
use Rattle.disk_definitions.specs.ReplayedBlocks.{replayed_block}
use Rattle.sector_world.specs.Guards.{IsBelow, to_replay}
use Rattle.sector_world.specs.World.{World}
use Rattle.core_world.specs.Readings.{ReadsAs, IsReading, AllInPlace, changing, keep_changing}

skipped : (o : Option Change) (n : ℕ) (block : Block) → n ≤ version_of block → IsBelow o n → redone o block ≡ block
skipped None n block h l = refl
skipped (Some x) n block h l = ap (λ (b : Bool). if b then changed block x else block) (newer (version_of block) x.version n h l)
  where
    newer : (v x n : ℕ) → n ≤ v → x ≤ n → nat_lt v x ≡ false
    newer v x n h l = grind (arith, nat_tests, h, l)

-- what is in place changes nothing
pub in_place_rests : (records : List Redo) (s n : ℕ) (block : Block) → n ≤ version_of block → AllInPlace records s n → replayed_block records s block ≡ block
in_place_rests [] s n block h all = refl
in_place_rests (r ∷ rs) s n block h all = ap (replayed_block rs s) (skipped (change_at r.changes s) n block h all.0) ∙ in_place_rests rs s n block h all.1

-- the oldest first is the newest last
turned : (rs : List Redo) (s : ℕ) (block : Block) → replayed_block (reverse rs) s block ≡ redo_all rs s block
turned [] s block = refl
turned (r ∷ rs) s block =
    ap (λ l. replayed_block l s block) (reverse-cons r rs) ∙ fold-append (λ old redo. redone (change_at redo.changes s) old) block (reverse rs) (r ∷ []) ∙ ap (redone (change_at r.changes s)) (turned rs s block)

without_empty : (rs : List Redo) (s : ℕ) (block : Block) → redo_all (changing rs) s block ≡ redo_all rs s block
without_empty [] s block = refl
without_empty (r ∷ rs) s block = go r.changes refl (without_empty rs s block)
  where
    go : (changes : List Change) → r.changes ≡ changes → redo_all (changing rs) s block ≡ redo_all rs s block → redo_all (keep_changing changes r (changing rs)) s block ≡ redone (change_at r.changes s) (redo_all rs s block)
    go [] e rest = rest ∙ sym (ap (λ l. redone (change_at l s) (redo_all rs s block)) e)
    go (x ∷ xs) e rest = ap (redone (change_at r.changes s)) rest

pub reads_as : (w : World) (d : ℕ) (records : List Redo) → IsReading w d records → ReadsAs w d records
reads_as w d records r s block newer =
    ap (λ l. replayed_block l s block) r.is ∙ fold-append (λ old redo. redone (change_at redo.changes s) old) block r.front (reverse (changing (to_replay w d)))
    ∙ ap (replayed_block (reverse (changing (to_replay w d))) s) (in_place_rests r.front s (version_of (w.disk s)) block newer (r.in_place s))
    ∙ turned (changing (to_replay w d)) s block ∙ without_empty (to_replay w d) s block

-- where what is to be replayed is in place, too, it changes nothing
pub nothing_to_redo : (rs : List Redo) (s n : ℕ) (block : Block) → n ≤ version_of block → AllInPlace rs s n → redo_all rs s block ≡ block
nothing_to_redo [] s n block h all = refl
nothing_to_redo (r ∷ rs) s n block h all = ap (redone (change_at r.changes s)) (nothing_to_redo rs s n block h all.1) ∙ skipped (change_at r.changes s) n block h all.0

-- ---- all in place

-- a record that changes nothing is in place, and so is each of a list that changes nothing
redone_more : (o : Option Change) (block : Block) → (version_of block ≤ version_of (redone o block)) × IsBelow o (version_of (redone o block))
redone_more None block = (omega arith, tt)
redone_more (Some x) block = go (nat_lt (version_of block) x.version) refl
  where
    go : (b : Bool) → nat_lt (version_of block) x.version ≡ b →
        (version_of block ≤ version_of (if b then changed block x else block)) × (x.version ≤ version_of (if b then changed block x else block))
    go true e = let v : version_of (changed block x) ≡ x.version = version-changed block x in let l : version_of block < x.version = grind (arith, nat_tests, e) in (omega arith, omega arith)
    go false e = let l : x.version ≤ version_of block = grind (arith, nat_tests, e) in (omega arith, l)

below_more : (o : Option Change) (m n : ℕ) → m ≤ n → IsBelow o m → IsBelow o n
below_more None m n h l = tt
below_more (Some x) m n h l = omega (arith, h, l)

in_place_more : (rs : List Redo) (s m n : ℕ) → m ≤ n → AllInPlace rs s m → AllInPlace rs s n
in_place_more [] s m n h a = tt
in_place_more (r ∷ rs) s m n h a = (below_more (change_at r.changes s) m n h a.0, in_place_more rs s m n h a.1)

pub redone_in_place : (rs : List Redo) (s : ℕ) (block : Block) → (version_of block ≤ version_of (redo_all rs s block)) × AllInPlace rs s (version_of (redo_all rs s block))
redone_in_place [] s block = (omega arith, tt)
redone_in_place (r ∷ rs) s block =
    let rest : (version_of block ≤ version_of (redo_all rs s block)) × AllInPlace rs s (version_of (redo_all rs s block)) = redone_in_place rs s block in
    let one : (version_of (redo_all rs s block) ≤ version_of (redone (change_at r.changes s) (redo_all rs s block))) × IsBelow (change_at r.changes s) (version_of (redone (change_at r.changes s) (redo_all rs s block))) =
    redone_more (change_at r.changes s) (redo_all rs s block) in (
      through (version_of block) (version_of (redo_all rs s block)) (version_of (redone (change_at r.changes s) (redo_all rs s block))) rest.0 one.0,
      (one.1, in_place_more rs s (version_of (redo_all rs s block)) (version_of (redone (change_at r.changes s) (redo_all rs s block))) one.0 rest.1),
    )
  where
    through : (a b c : ℕ) → a ≤ b → b ≤ c → a ≤ c
    through a b c h l = omega (arith, h, l)

pub rests_in_place : (rs : List Redo) (s : ℕ) (block : Block) → redo_all rs s block ≡ block → AllInPlace rs s (version_of block)
rests_in_place rs s block same = subst (λ b. AllInPlace rs s (version_of b)) same (redone_in_place rs s block).1

pub in_place_joined : (xs ys : List Redo) (s n : ℕ) → AllInPlace xs s n → AllInPlace ys s n → AllInPlace (xs ++ ys) s n
in_place_joined [] ys s n a b = b
in_place_joined (x ∷ xs) ys s n a b = (a.0, in_place_joined xs ys s n a.1 b)

pub in_place_drop : (m : ℕ) (xs : List Redo) (s n : ℕ) → AllInPlace xs s n → AllInPlace (drop m xs) s n
in_place_drop zero xs s n a = a
in_place_drop (suc m) [] s n a = a
in_place_drop (suc m) (x ∷ xs) s n a = in_place_drop m xs s n a.1

in_place_reverse : (xs : List Redo) (s n : ℕ) → AllInPlace xs s n → AllInPlace (reverse xs) s n
in_place_reverse [] s n a = tt
in_place_reverse (x ∷ xs) s n a = subst (λ l. AllInPlace l s n) (sym (reverse-cons x xs)) (in_place_joined (reverse xs) (x ∷ []) s n (in_place_reverse xs s n a.1) (a.0, tt))

in_place_changing : (xs : List Redo) (s n : ℕ) → AllInPlace xs s n → AllInPlace (changing xs) s n
in_place_changing [] s n a = tt
in_place_changing (x ∷ xs) s n a = go x.changes (in_place_changing xs s n a.1)
  where
    go : (changes : List Change) → AllInPlace (changing xs) s n → AllInPlace (keep_changing changes x (changing xs)) s n
    go [] rest = rest
    go (c ∷ cs) rest = (a.0, rest)

-- where what is to be replayed is in place, all that is read is
pub reading_in_place : (w : World) (d : ℕ) (records : List Redo) → IsReading w d records → (s : ℕ) → AllInPlace (to_replay w d) s (version_of (w.disk s)) → AllInPlace records s (version_of (w.disk s))
reading_in_place w d records r s all =
    subst (λ l. AllInPlace l s (version_of (w.disk s))) (sym r.is)
    (in_place_joined r.front (reverse (changing (to_replay w d))) s (version_of (w.disk s)) (r.in_place s)
    (in_place_reverse (changing (to_replay w d)) s (version_of (w.disk s)) (in_place_changing (to_replay w d) s (version_of (w.disk s)) all)))

-- and then fewer records replay alike
pub rest_reads_as : (w : World) (d : ℕ) (records : List Redo) → ((s : ℕ) → AllInPlace (to_replay w d) s (version_of (w.disk s))) → ((s : ℕ) → AllInPlace records s (version_of (w.disk s))) → ReadsAs w d records
rest_reads_as w d records all read s block newer =
    in_place_rests records s (version_of (w.disk s)) block newer (read s) ∙ sym (nothing_to_redo (to_replay w d) s (version_of (w.disk s)) block newer (all s))
