-- The marks of a piece, and of those behind it.
use Rattle.std.proofs.Common.{◌≡◌, ℕ, ◌+◌, ◌<◌, ◌++◌, ◌∷◌, [], List, length, get_or, drop, Option, Some, None, refl, ap, sym, ◌∙◌, append_assoc}
use Rattle.std.proofs.lemmas.List.{drop_more}
use Rattle.std.specs.List.{cons_option}
use Rattle.flush_order.specs.declared.Mark.{Mark}
use Rattle.ordered_map.specs.Chunks.{joined}
use Rattle.clerk_cache.specs.Kept.{state_mark, state_marks}
use Rattle.clerk_cache.proofs.Joining.{States}

marks-append : (a b : States) → state_marks (a ++ b) ≡ state_marks a ++ state_marks b
marks-append [] b = refl
marks-append (entry ∷ a) b = go (state_mark entry) (marks-append a b)
  where
    go : (o : Option Mark) → state_marks (a ++ b) ≡ state_marks a ++ state_marks b → cons_option o (state_marks (a ++ b)) ≡ cons_option o (state_marks a) ++ state_marks b
    go None rest = rest
    go (Some mark) rest = ap (λ marks. mark ∷ marks) rest

pub next_piece : (pieces : List States) (i : ℕ) (piece : States) → i < length pieces → piece ≡ get_or pieces i piece → (old new : List Mark) → new ≡ old ++ state_marks piece
    → new ++ state_marks (joined (drop (i + 1) pieces)) ≡ old ++ state_marks (joined (drop i pieces))
next_piece pieces i piece inside is old new more =
    ap (λ marks. marks ++ state_marks (joined (drop (i + 1) pieces))) more
    ∙ append_assoc old (state_marks piece) (state_marks (joined (drop (i + 1) pieces)))
    ∙ ap (λ marks. old ++ marks) (sym (marks-append piece (joined (drop (i + 1) pieces))))
    ∙ ap (λ rest. old ++ state_marks (joined rest)) (sym (drop_more pieces i piece inside ∙ ap (λ x. x ∷ drop (i + 1) pieces) (sym is)))
