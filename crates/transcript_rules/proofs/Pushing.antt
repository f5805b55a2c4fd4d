-- What one line more makes of what the lines said tell of a party.
use Rattle.std.proofs.Common.{◌≡◌, ℕ, ◌+◌, Bool, true, false, not, ◌&&◌, ◌||◌, ◌==◌, cond, List, [], ◌∷◌, ◌++◌, length, filter, refl, sym, ◌∙◌, ap}
use Rattle.std.specs.List.{list_any, list_all}
use Rattle.std.proofs.lemmas.List.Folds.{list_any-append}
use Rattle.std.proofs.lemmas.List.Elements.{filter-append}
use Rattle.std.proofs.lemmas.Bool.{and_parts}
use mathlib.Core.Bool.{or-false}
use Rattle.frang_base.specs.declared.said.Said.{Said}
use Rattle.frang_base.specs.declared.said.Said.TheVariants as said
use Rattle.frang_base.specs.declared.reply.Reply.{Reply}
use Rattle.frang_base.specs.declared.script.Line.{Line}
use Rattle.frang_base.specs.declared.sector.ServerId.{ServerId}
use Rattle.frang_base.specs.declared.sector.OpNo.{OpNo}
use Rattle.tree_definitions.specs.Touched.{is_mounted}
use Rattle.tree_definitions.specs.Transcript.{ServerState, after_death, after_line, after_renewal, after_said, answers, dirty_after, dirty_from, halts, is_answer_of, is_change_line, is_end, is_node, is_over, state_from}
use Rattle.tree_definitions.specs.Live.{line_of}
use Rattle.transcript_rules.specs.Tells.{granted_faults, passed, wanted}

pub state_push : (script : List Line) (granted : Bool) (who place : ℕ) (state : ServerState) (xs : List Said) (x : Said)
    → state_from script (granted_faults granted) who place state (xs ++ x ∷ []) ≡ after_said script who granted (state_from script (granted_faults granted) who place state xs) x
state_push script granted who place state [] x = refl
state_push script granted who place state (y ∷ xs) x = state_push script granted who (place + 1) (after_said script who granted state y) xs x

pub dirty_push : (script : List Line) (who : ℕ) (dirty : Bool) (xs : List Said) (x : Said) → dirty_from script who dirty (xs ++ x ∷ []) ≡ dirty_after script who (dirty_from script who dirty xs) x
dirty_push script who dirty [] x = refl
dirty_push script who dirty (y ∷ xs) x = dirty_push script who (dirty_after script who dirty y) xs x

pub any_push : (p : Said → Bool) (xs : List Said) (x : Said) → list_any p (xs ++ x ∷ []) ≡ (list_any p xs || p x)
any_push p xs x = list_any-append p xs (x ∷ []) ∙ ap (λ b. list_any p xs || b) (or-false (p x))

pub any_stays : (p : Said → Bool) (xs : List Said) (x : Said) → p x ≡ false → list_any p (xs ++ x ∷ []) ≡ list_any p xs
any_stays p xs x isnt = any_push p xs x ∙ ap (λ b. list_any p xs || b) isnt ∙ or-false (list_any p xs)

-- what was answered stays so
keeps_any : (a b : Bool) (n : Bool) → (n || a) ≡ true → (n || (a || b)) ≡ true
keeps_any a b true h = refl
keeps_any true b false h = refl
keeps_any false b false h = cc

pub passed_push : (hosts : Bool) (before : List Said) (x : Said) (l : Line) → passed hosts before l ≡ true → passed hosts (before ++ x ∷ []) l ≡ true
passed_push hosts before x l h =
    ap (λ b. not (wanted hosts l) || b) (any_push (answers l.number) before x) ∙ keeps_any (list_any (answers l.number) before) (answers l.number x) (not (wanted hosts l)) h

pub all_passed_push : (hosts : Bool) (before : List Said) (x : Said) (lines : List Line) → list_all (passed hosts before) lines ≡ true → list_all (passed hosts (before ++ x ∷ [])) lines ≡ true
all_passed_push hosts before x [] h = refl
all_passed_push hosts before x (l ∷ lines) h =
    let parts = and_parts (passed hosts before l) (list_all (passed hosts before) lines) h in
    ap (λ b. b && list_all (passed hosts (before ++ x ∷ [])) lines) (passed_push hosts before x l parts.0) ∙ all_passed_push hosts before x lines parts.1
