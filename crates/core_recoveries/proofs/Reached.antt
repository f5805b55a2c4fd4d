-- Records that name a version raise the sector to it.
use Rattle.std.proofs.Common.{ℕ, ◌≤◌, [], ◌∷◌, List, Option, Some, None, inl, inr, le_refl, sym, subst, arith}
use Rattle.frang_base.specs.declared.change.Change.{Change}
use Rattle.frang_base.specs.declared.change.Redo.{Redo}
use Rattle.sector_bytes.specs.Blocks.{Block, version_of}
use Rattle.sector_bytes.specs.Replays.{change_at, redo_all, redone}
use Rattle.sector_bytes.proofs.ChangeLaws.{reached, rises as applied_rises}
use Rattle.sector_world.specs.Histories.{Named}

redone_rises : (o : Option Change) (block : Block) → version_of block ≤ version_of (redone o block)
redone_rises None block = le_refl (version_of block)
redone_rises (Some x) block = applied_rises block x

le_le : (x y z : ℕ) → x ≤ y → y ≤ z → x ≤ z
le_le x y z a b = omega (arith, a, b)

pub named_reached : (rs : List Redo) (s v : ℕ) (block : Block) → Named rs s v → v ≤ version_of (redo_all rs s block)
named_reached [] s v block n = absurd n
named_reached (r ∷ rs) s v block (inl x) = subst (λ n. n ≤ version_of (redone (change_at r.changes s) (redo_all rs s block))) x.2
    (subst (λ o. x.0.version ≤ version_of (redone o (redo_all rs s block))) (sym x.1) (reached (redo_all rs s block) x.0))
named_reached (r ∷ rs) s v block (inr n) = le_le v (version_of (redo_all rs s block)) (version_of (redone (change_at r.changes s) (redo_all rs s block))) (named_reached rs s v block n)
    (redone_rises (change_at r.changes s) (redo_all rs s block))
