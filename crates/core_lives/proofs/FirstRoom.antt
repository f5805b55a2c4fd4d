-- At a first moment there is room: a script that was read has at most so many lines, and a zero log ends at 255.
use Rattle.std.proofs.Common.{◌≡◌, ℕ, suc, ◌+◌, ◌*◌, ◌^◌, ◌≤◌, Bool, true, false, if◌then◌else◌, List, [], ◌∷◌, Ok, filter, length, inl, inr, sym, subst, arith, le_refl}
use Rattle.frang_base.specs.declared.limits.TheConstants.{SCRIPT_LINES_MAX}
use Rattle.frang_base.specs.declared.script.Line.{Line}
use Rattle.script_definitions.specs.ScriptGrammar.{AreLines, IsScriptText}
use Rattle.script_definitions.specs.ScriptText.{script_of}
use Rattle.disk_definitions.proofs.SameLogs.{zero_log_end}
use Rattle.disk_definitions.specs.Logs.{log_end}
use Rattle.disk_definitions.specs.Replay.{slots_of}
use Rattle.core_definitions.specs.Scripts.{Marks}
use Rattle.core_lives.specs.Room.{FirstMomentsHaveRoom, is_open_line, lines_left}

few_lines : (number : ℕ) (halted : Bool) (texts : List (List ℕ)) (script : List Line) → number ≤ SCRIPT_LINES_MAX + 1 → AreLines number halted texts script →
    length script + number ≤ SCRIPT_LINES_MAX + 1
few_lines number halted [] script low are = subst (λ (l : List Line). length l + number ≤ SCRIPT_LINES_MAX + 1) (sym are) (none number low)
  where
    none : (n : ℕ) → n ≤ SCRIPT_LINES_MAX + 1 → 0 + n ≤ SCRIPT_LINES_MAX + 1
    none n l = omega arith
few_lines number halted (text ∷ texts) script low (within, inl skipped) = less (length script) number (few_lines (number + 1) halted texts script (next number within) skipped.1)
  where
    next : (n : ℕ) → n ≤ SCRIPT_LINES_MAX → n + 1 ≤ SCRIPT_LINES_MAX + 1
    next n l = omega arith

    less : (l n : ℕ) → l + (n + 1) ≤ SCRIPT_LINES_MAX + 1 → l + n ≤ SCRIPT_LINES_MAX + 1
    less l n h = omega arith
few_lines number halted (text ∷ texts) script low (within, inr line) =
    subst (λ (l : List Line). length l + number ≤ SCRIPT_LINES_MAX + 1) (sym line.2) (more (length line.1) number (few_lines (number + 1) _ texts line.1 (next number within) line.5))
  where
    next : (n : ℕ) → n ≤ SCRIPT_LINES_MAX → n + 1 ≤ SCRIPT_LINES_MAX + 1
    next n l = omega arith

    more : (l n : ℕ) → l + (n + 1) ≤ SCRIPT_LINES_MAX + 1 → suc l + n ≤ SCRIPT_LINES_MAX + 1
    more l n h = omega arith

left_within : (script : List Line) (marks : Marks) (a : ℕ) → lines_left script marks a ≤ length script
left_within [] marks a = le_refl 0
left_within (line ∷ lines) marks a = go (is_open_line a marks line) (left_within lines marks a)
  where
    go : (b : Bool) → lines_left lines marks a ≤ length lines →
        length (if b then line ∷ filter (is_open_line a marks) lines else filter (is_open_line a marks) lines) ≤ length (line ∷ lines)
    go true l = omega arith
    go false l = omega arith

pub first_room : ((bytes : List ℕ) (script : List Line) → script_of bytes ≡ Ok script → IsScriptText bytes script) → FirstMomentsHaveRoom
first_room grammar bytes script segments number disk a read zero server =
    low (log_end (slots_of disk a)) (length script) (lines_left script (λ n. false) a) (zero_log_end (slots_of disk a) (λ slot below. zero a slot server below))
    (left_within script (λ n. false) a)
    (few_lines 1 false _ script one (grammar bytes script read).1)
  where
    one : 1 ≤ SCRIPT_LINES_MAX + 1
    one = omega arith

    low : (end all left : ℕ) → end ≡ 255 → left ≤ all → all + 1 ≤ SCRIPT_LINES_MAX + 1 → end + 100 * left ≤ 2 ^ 61
    low end all left e l h = omega arith
