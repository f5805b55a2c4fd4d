-- Lines of which each of the host asks what a host is asked.
use Rattle.std.proofs.Common.{◌≡◌, ℕ, zero, suc, ◌<◌, true, false, IsTrue, [], ◌∷◌, ◌++◌, List, nat_eq, refl, sym, subst, ◌∙◌, add-one, arith}
use Rattle.std.specs.List.{list_all}
use Rattle.std.proofs.lemmas.Bool.{and_from}
use Rattle.std.proofs.lemmas.Bool.Decides.{nat_tests}
use Rattle.std.proofs.lemmas.List.Folds.{list_all-append}
use Rattle.frang_base.specs.declared.op.Op.{Op}
use Rattle.frang_base.specs.declared.script.Line.{Line}
use Rattle.frang_soak.specs.Scripts.{lines_at, server_line}
use Rattle.frang_soak.proofs.OneMore.{lines_at_more, lines_at_none}
use Rattle.core_transcripts.specs.Transcripts.{is_hosted}

-- a server's line is none of the host's
pub of_server : (number server : ℕ) (op : Op) → server < 255 → IsTrue (is_hosted (server_line number server op))
of_server number server op below = rw (other server below) refl
  where
    other : (server : ℕ) → server < 255 → nat_eq server 255 ≡ false
    other server below = grind (arith, nat_tests)

pub joined : (xs ys : List Line) → IsTrue (list_all is_hosted xs) → IsTrue (list_all is_hosted ys) → IsTrue (list_all is_hosted (xs ++ ys))
joined xs ys first then = list_all-append is_hosted xs ys ∙ and_from (list_all is_hosted xs) (list_all is_hosted ys) first then

-- a line for each of so many places
pub at_places : (line : ℕ → Line) (count : ℕ) → ((place : ℕ) → place < count → IsTrue (is_hosted (line place))) → IsTrue (list_all is_hosted (lines_at line count))
at_places line zero each = rw (lines_at_none line) refl
at_places line (suc count) each =
    subst (λ places. IsTrue (list_all is_hosted (lines_at line places))) (add-one count)
    (subst (λ xs. IsTrue (list_all is_hosted xs)) (sym (lines_at_more line count))
    (joined (lines_at line count) (line count ∷ []) (at_places line count (λ place below. each place (earlier place count below))) (and_from (is_hosted (line count)) true (each count (last count)) refl)))
  where
    earlier : (place count : ℕ) → place < count → place < suc count
    earlier place count below = omega (arith, below)

    last : (count : ℕ) → count < suc count
    last count = omega arith
