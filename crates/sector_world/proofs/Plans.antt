-- Operations that nobody saw can be removed: the others are still what the plan says.
use Rattle.std.proofs.Common.{ℕ, Bool, List, [], ◌∷◌, sym}
use Rattle.sector_bytes.specs.Blocks.{Block}
use Rattle.sector_world.specs.Histories.{Commit, Item, kept, logical}
use Rattle.sector_world.specs.Histories.Item.{Done, Doubt}
use Rattle.sector_world.specs.Plans.{Plan, outcome_of, IsFramed, Legal, IsClear}
use Rattle.frang_base.proofs.Basics.{by_keep}
use Rattle.sector_world.proofs.HistoryLaws.{kept_logical}

pub legal_kept : (plan : Plan) (opening : ℕ → Block) (keep : Commit → Bool) → IsFramed plan
    → (h : List Item) → IsClear keep h → Legal plan opening h → Legal plan opening (kept keep h)
legal_kept plan opening keep frame [] k l = tt
legal_kept plan opening keep frame (Done c ∷ h) k l =
    by_keep (Legal plan opening) (keep c) (Done c) (kept keep h)
    (λ e. (
      frame c.hint c.op c.asked (logical opening h) (logical opening (kept keep h)) (outcome_of c) l.0
          (λ s t. sym (kept_logical opening s keep h (k.0 e s t))),
      legal_kept plan opening keep frame h k.1 l.1,
    ))
    (λ e. legal_kept plan opening keep frame h k.1 l.1)
legal_kept plan opening keep frame (Doubt m ∷ h) k l = legal_kept plan opening keep frame h k l
