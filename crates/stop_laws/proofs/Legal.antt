-- A history that is told twice is legal, entry by entry.
use Rattle.std.proofs.Common.{ℕ, ◌≡◌, ◌&&◌, ◌||◌, true, List, [], ◌∷◌, ◌++◌, refl, ◌∙◌, ap}
use mathlib.Core.Bool.{or-true}
use Rattle.frang_base.specs.declared.lock.LockId.{LockId}
use Rattle.tree_definitions.specs.declared.history.Entry.{Entry}
use Rattle.tree_definitions.specs.History.{Settled, Stays, InDoubt, after_all, is_answer, leaves_tree, legal_from, may_stand, may_tell}
use Rattle.tree_definitions.specs.Tree.{FileTree}
use Rattle.tree_laws.specs.Histories.{ever_after}
use Rattle.tree_laws.proofs.HistoryLaws.{legal-append}
use Rattle.sector_bytes.specs.Blocks.{Block}
use Rattle.byte_trees.specs.Deeds.{Deed, Does, Says, Doubts, steps, tree_after}
use Rattle.stop_laws.specs.Along.{AllTold}
use Rattle.stop_laws.specs.Legal.{AllMayTell, ToldHistoriesAreLegal}
use Rattle.stop_laws.specs.Paired.{AreLines}

-- one step more
one_more : (first : FileTree) (ever : ℕ) (list : List Settled) (s : Settled) → legal_from first ever list ≡ true → may_stand (after_all first list) (ever_after first ever list) s ≡ true →
    legal_from first ever (list ++ s ∷ []) ≡ true
one_more first ever list s legal may =
    legal-append first ever list (s ∷ []) ∙ ap (λ b. b && legal_from (after_all first list) (ever_after first ever list) (s ∷ [])) legal ∙ ap (λ b. b && true) may

answers_stand : (tree : FileTree) (ever : ℕ) (e : Entry) → is_answer tree e ≡ true → may_tell tree ever e.reply ≡ true → may_stand tree ever (Stays e) ≡ true
answers_stand tree ever e answers tells = ap (λ b. (b && may_tell tree ever e.reply) || leaves_tree e.op e.reply) answers ∙ ap (λ b. b || leaves_tree e.op e.reply) tells

leaving_stands : (tree : FileTree) (ever : ℕ) (e : Entry) → leaves_tree e.op e.reply ≡ true → may_stand tree ever (Stays e) ≡ true
leaving_stands tree ever e leaves = ap (λ b. (is_answer tree e && may_tell tree ever e.reply) || b) leaves ∙ or-true (is_answer tree e && may_tell tree ever e.reply)

module _ (segments : ℕ) (when : ℕ → ℕ) (opening : ℕ → Block) (home : ℕ → LockId) (first : FileTree) (server number ever : ℕ) where
  legal : (deeds : List Deed) → AllTold segments when opening home first server number deeds → AreLines when deeds → AllMayTell first ever deeds → legal_from first ever (steps deeds) ≡ true
  legal [] told lines tells = refl
  legal (Does c e ∷ older) told lines tells =
      one_more first ever (steps older) (Stays e) (legal older told.2 lines.1 tells.1) (answers_stand (tree_after first older) (ever_after first ever (steps older)) e told.0.answers tells.0)
  legal (Says e ∷ older) told lines tells =
      one_more first ever (steps older) (Stays e) (legal older told.2 lines.1 tells) (leaving_stands (tree_after first older) (ever_after first ever (steps older)) e lines.0)
  legal (Doubts marked runs ∷ older) told lines tells = one_more first ever (steps older) (InDoubt runs) (legal older told.1 lines tells) refl

pub told_histories_are_legal : ToldHistoriesAreLegal
told_histories_are_legal segments when opening first numbers home logged bytes server number ever deeds twice lines tells =
    legal segments when opening home first server number ever deeds twice.told lines tells
