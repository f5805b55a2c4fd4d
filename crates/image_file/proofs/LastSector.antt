-- A sector greater than all of a disk is set behind them.
use Rattle.std.proofs.Common.{◌≡◌, ℕ, ◌<◌, ◌≤◌, List, [], ◌∷◌, ◌++◌, refl, ap, ◌∙◌, arith}
use Rattle.std.specs.Map.{keys_of}
use Rattle.std.specs.BTreeMap.{insert_entry}
use Rattle.std.specs.Ordering.{nat_cmp, match_ordering}
use Rattle.std.specs.declared.cmp.Ordering.{Ordering}
use Rattle.std.specs.declared.cmp.Ordering.TheVariants.{Greater}
use Rattle.std.proofs.lemmas.Bool.Decides.{nat_tests}
use Rattle.std.proofs.lemmas.List.Elements.{All-head, All-tail, All-cons, All-nil}
use Rattle.image_file.specs.Images.{Blocks}
use Rattle.image_file.specs.Entries.{EndsBy}

greater_of : (a b : ℕ) → b < a → nat_cmp a b ≡ Greater
greater_of a b h = grind (arith, nat_tests)

pub insert_last : (es : Blocks) (last s : ℕ) (b : List ℕ) → EndsBy last es → last < s → insert_entry nat_cmp es s b ≡ es ++ (s, b) ∷ []
insert_last [] last s b h l = refl
insert_last (e ∷ es) last s b h l =
    let first : e.0 ≤ last = All-head (λ k. k ≤ last) e.0 (keys_of es) h in
    let rest = insert_last es last s b (All-tail (λ k. k ≤ last) e.0 (keys_of es) h) l in
    ap (λ (o : Ordering). match_ordering o ((s, b) ∷ e ∷ es) ((e.0, b) ∷ es) (e ∷ insert_entry nat_cmp es s b)) (greater_of s e.0 (omega arith))
    ∙ ap (λ (xs : Blocks). e ∷ xs) rest

pub ends_later : (es : Blocks) (last s : ℕ) (b : List ℕ) → EndsBy last es → last < s → EndsBy s (es ++ (s, b) ∷ [])
ends_later [] last s b h l = All-cons (λ k. k ≤ s) s [] (omega arith) (All-nil (λ k. k ≤ s))
ends_later (e ∷ es) last s b h l =
    let first : e.0 ≤ last = All-head (λ k. k ≤ last) e.0 (keys_of es) h in
    All-cons (λ k. k ≤ s) e.0 (keys_of (es ++ (s, b) ∷ [])) (omega arith) (ends_later es last s b (All-tail (λ k. k ≤ last) e.0 (keys_of es) h) l)
