-- The lines of a soak's script mount, make, write, move, sync and unmount: none stops a server.
use Rattle.std.proofs.Common.{◌≡◌, ◌∙◌, ℕ, zero, suc, ◌%◌, ◌==◌, ◌||◌, Bool, true, false, not, if◌then◌else◌, IsTrue, List, [], ◌∷◌, ◌++◌, refl, sym, ap, subst, add-one}
use Rattle.std.proofs.lemmas.Bool.{and_from}
use Rattle.std.proofs.lemmas.List.Folds.{list_all-append}
use Rattle.frang_base.specs.declared.op.HostOp.TheVariants as host
use Rattle.frang_base.specs.declared.op.Op.TheVariants as op
use Rattle.frang_base.specs.declared.script.Line.{Line}
use Rattle.frang_soak.specs.Draws.{draw_at}
use Rattle.frang_soak.specs.Scripts.{closing_lines, drawn_line, drawn_lines, file_of, fill_bytes, host_line, in_directory, lines_at, mkdir_line, mount_line, op_of_kind, opening_lines, soak_script, unmount_line}
use Rattle.frang_soak.proofs.OneMore.{lines_at_more, lines_at_none}
use Rattle.calm_runs.specs.Calm.{is_calm, is_stopping, stops}

joined : (xs ys : List Line) → IsTrue (is_calm xs) → IsTrue (is_calm ys) → IsTrue (is_calm (xs ++ ys))
joined xs ys first last = list_all-append (λ line. not (is_stopping line)) xs ys ∙ and_from (is_calm xs) (is_calm ys) first last

-- a line for each of so many places
at_places : (line : ℕ → Line) (count : ℕ) → ((place : ℕ) → is_stopping (line place) ≡ false) → IsTrue (is_calm (lines_at line count))
at_places line zero each = rw (lines_at_none line) refl
at_places line (suc count) each =
    subst (λ places. IsTrue (is_calm (lines_at line places))) (add-one count)
    (subst (λ xs. IsTrue (is_calm xs)) (sym (lines_at_more line count))
    (joined (lines_at line count) (line count ∷ []) (at_places line count each) (and_from (not (is_stopping (line count))) true (ap not (each count)) refl)))

kind_calm : (kind server file bytes : ℕ) → stops (op_of_kind kind server file bytes) ≡ false
kind_calm kind server file bytes = go (kind == 0 || kind == 1) (kind == 2) (kind == 3) (kind == 4) (kind == 5) (kind == 6)
  where
    go : (a b c d e f : Bool) → stops
        (if a then op.Create (in_directory server 102 file)
        else (if b then op.Unlink (in_directory server 102 file)
        else (if c then op.Rename (in_directory server 102 file) (in_directory server 103 file)
        else (if d then op.Fill (in_directory server 102 file) 0 bytes file
        else (if e then op.Truncate (in_directory server 102 file) 0
        else (if f then op.Link (in_directory server 102 file) (in_directory server 104 file)
        else op.Sync)))))) ≡ false
    go true b c d e f = refl
    go false true c d e f = refl
    go false false true d e f = refl
    go false false false true e f = refl
    go false false false false true f = refl
    go false false false false false true = refl
    go false false false false false false = refl

pub soak_calm : (number : ℕ) → IsTrue (is_calm (soak_script number))
soak_calm number =
    joined opening_lines (drawn_lines number 4000 ++ closing_lines) opening
    (joined (drawn_lines number 4000) closing_lines
    (at_places (drawn_line number) 4000 (λ place. kind_calm (draw_at number place % 8) (place % 4) (file_of (draw_at number place)) (fill_bytes (draw_at number place)))) closing)
  where
    opening : IsTrue (is_calm opening_lines)
    opening =
        joined (lines_at mount_line 4) (lines_at mkdir_line 4 ++ host_line 9 host.Barrier ∷ []) (at_places mount_line 4 (λ server. refl))
        (joined (lines_at mkdir_line 4) (host_line 9 host.Barrier ∷ []) (at_places mkdir_line 4 (λ server. refl)) refl)

    closing : IsTrue (is_calm closing_lines)
    closing = joined (host_line 4010 host.Barrier ∷ []) (lines_at unmount_line 4) refl (at_places unmount_line 4 (λ server. refl))
