-- The plan of a look at the root of a fresh disk.
use Rattle.std.proofs.Common.{ℕ, ◌≡◌, Bool, false, Option, Some, None, [], refl, sym, ◌∙◌, ap}
use Rattle.std.proofs.Math.Path.{fun_ext}
use Rattle.frang_base.specs.declared.lock.LockId.{LockId}
use Rattle.frang_base.specs.declared.op.Op.TheVariants as op
use Rattle.frang_base.specs.declared.reply.Reply.{Reply}
use Rattle.frang_base.specs.declared.reply.Reply.TheVariants as reply
use Rattle.sector_bytes.specs.Blocks.{Block}
use Rattle.sector_bytes.specs.Bytes.{zeros}
use Rattle.sector_bytes.specs.Sectors.{Sectors}
use Rattle.sector_world.specs.Histories.{Fill}
use Rattle.sector_world.specs.Plans.{Outcome, outcome_of}
use Rattle.disk_definitions.specs.Ask.{Sector, InodeAt, DirectoryAt, SegmentAt, BytesAt, LargeAt, run}
use Rattle.disk_definitions.specs.Lines.{plan_of_line}
use Rattle.disk_definitions.specs.Moves.{moved_by}
use Rattle.disk_definitions.specs.Numbered.{sector_at, moves_of}
use Rattle.disk_definitions.specs.Plans.{Plan, Finish}
use Rattle.disk_definitions.specs.Plans.Plan.{Lacks, Clears, Finishes}
use Rattle.disk_definitions.specs.Resolving.{resolve}
use Rattle.std.specs.Option.{option_and_then}
use Rattle.line_histories.specs.LinePlans.{claims_of, edits_in, hand_on, held_of, is_claimed, makes_by, sector_plan, store_on, store_showing}
use Rattle.stop_laws.specs.Cells.{having}
use Rattle.stop_laws.specs.Beginning.{fresh_world}
use Rattle.stop_laws.specs.TwoServers.{at_zero, number_of_line}
use Rattle.stop_examples.specs.Looks.{look}

abbrev pub opening : Sectors
opening = (fresh_world 2 1).opening

-- nothing is claimed or moved where there are no edits
none_claimed : (at : Option Sector) → is_claimed [] [] at ≡ false
none_claimed None = refl
none_claimed (Some (InodeAt inode)) = refl
none_claimed (Some (DirectoryAt block part)) = refl
none_claimed (Some (SegmentAt segment)) = refl
none_claimed (Some (BytesAt block part)) = refl
none_claimed (Some (LargeAt large part)) = refl

none_moved : (at : Option Sector) → option_and_then (moved_by []) at ≡ None
none_moved None = refl
none_moved (Some (InodeAt inode)) = refl
none_moved (Some (DirectoryAt block part)) = refl
none_moved (Some (SegmentAt segment)) = refl
none_moved (Some (BytesAt block part)) = refl
none_moved (Some (LargeAt large part)) = refl

module _ (line : ℕ) where
  abbrev planned : Option Block → Plan
  planned shown = run (plan_of_line (hand_on 1 opening []) (number_of_line line) 0 (op.Stat [])) (store_showing shown 1 opening)

  no_edits : edits_in (planned None) ≡ []
  unfolding resolve zeros
  no_edits = refl

  abbrev with_functions : (ℕ → Bool) → (ℕ → Option LockId) → (ℕ → Option (Option Block → Fill)) → Outcome
  with_functions claims moves makes = record (outcome_of (look 0 line)) { claims = claims; moves = moves; makes = makes }

  comes : sector_plan 1 at_zero [] (number_of_line line) (op.Stat []) opening ≡ Some (with_functions (claims_of 1 (held_of 1 opening []) []) (moves_of 1 []) (makes_by planned))
  unfolding resolve zeros
  comes = refl

  no_makes : (s : ℕ) → makes_by planned s ≡ None
  unfolding resolve zeros
  no_makes s = refl

  pub plan_is : (server : ℕ) → sector_plan 1 at_zero [] (number_of_line line) (op.Stat []) opening ≡ Some (outcome_of (look server line))
  plan_is server =
      comes
      ∙ ap (λ f. Some (with_functions f (moves_of 1 []) (makes_by planned))) (fun_ext (λ s. none_claimed (sector_at 1 s)))
      ∙ ap (λ f. Some (with_functions (λ s. false) f (makes_by planned))) (fun_ext (λ s. none_moved (sector_at 1 s)))
      ∙ ap (λ f. Some (with_functions (λ s. false) (λ s. None) f)) (fun_ext no_makes)

  -- the entry says what the plan says
  abbrev reply_in : Plan → Reply
  reply_in Lacks = reply.Down
  reply_in (Clears block locks) = reply.Down
  reply_in (Finishes finish) = finish.reply

  answers : reply_in (run (plan_of_line (hand_on 1 opening []) (number_of_line line) 0 (op.Stat [])) (having (λ s. None) (store_on 1 opening))) ≡ reply.Dir 0
  unfolding resolve zeros
  answers = refl

  pub says : (finish : Finish) → run (plan_of_line (hand_on 1 opening []) (number_of_line line) 0 (op.Stat [])) (having (λ s. None) (store_on 1 opening)) ≡ Finishes finish → reply.Dir 0 ≡ finish.reply
  says finish is = sym answers ∙ ap reply_in is
