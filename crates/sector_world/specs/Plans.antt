-- Operations that are planned over the sectors, and histories of them.
use Rattle.std.specs.Prelude.{ℕ, ◌≡◌, Bool, true, List, [], ◌∷◌, Option, Some, None, IsTrue, IsSome, is_some, if◌then◌else◌}
use Rattle.frang_base.specs.declared.change.Change.{Change}
use Rattle.frang_base.specs.declared.lock.LockId.{LockId}
use Rattle.frang_base.specs.declared.op.Op.{Op}
use Rattle.frang_base.specs.declared.reply.Reply.{Reply}
use Rattle.sector_bytes.specs.Blocks.{Block}
use Rattle.sector_bytes.specs.Replays.{change_at}
use Rattle.frang_base.specs.Functions.{member}
use Rattle.sector_world.specs.Histories.{Fill, Commit, Item, logical, Each, Changes, touches, reaches}
use Rattle.sector_world.specs.Histories.Item.{Done, Doubt}

-- what a plan says
pub record Outcome : Type 0 where
  pub reply : Reply  -- the answer, without the bytes that it shows
  pub blocks : ℕ  -- how many directory blocks it counted
  pub looked : List ℕ  -- the sectors with versions that it looks at
  pub changes : List Change
  pub claims : ℕ → Bool  -- the sectors that become ones with versions
  pub moves : ℕ → Option LockId  -- the sectors that go under other locks
  pub reads : List ℕ  -- the sectors of bytes that it reads
  pub makes : ℕ → Option (Option Block → Fill)  -- what it makes of sectors of bytes, by the bytes that it reads there
  pub uses : List LockId  -- the locks that it uses
  pub alone : List LockId  -- and those that it uses alone

-- A plan of what is asked, over the sectors with versions. It is given a hint, which is what its server chose and the sectors
-- don't say, and the number of the operation. It may come to no outcome: what is asked isn't allowed, or the hint is too small.
abbrev pub Plan : Type 0
Plan = (hint : List ℕ) → (n : ℕ) → Op → (ℕ → Block) → Option Outcome

-- what the plan of an operation said
abbrev pub outcome_of : Commit → Outcome
outcome_of c = record { reply = c.reply; blocks = c.blocks; looked = c.looked; changes = c.changes; claims = c.claims; moves = c.moves; reads = c.reads; makes = c.makes; uses = c.uses; alone = c.alone }

-- the outcome says that the plan looked at the sector, or changes it
abbrev pub looks : Outcome → ℕ → Bool
looks o s = if is_some (change_at o.changes s) then true else member s o.looked

-- a plan goes by its hint and by the sectors that it looks at
abbrev pub IsFramed : Plan → Type 0
IsFramed plan = (hint : List ℕ) (n : ℕ) (op : Op) (old new : ℕ → Block) (o : Outcome) → plan hint n op old ≡ Some o
    → ((s : ℕ) → IsTrue (looks o s) → old s ≡ new s) → plan hint n op new ≡ Some o

-- what an operation makes of a sector of bytes, by the bytes that it showed
abbrev pub made_of : Option (Option Block → Fill) → Option Block → Option Fill
made_of None shown = None
made_of (Some make) shown = Some (make shown)

-- what an operation did to bytes is what its plan said
pub record IsByPlan (c : Commit) : Type 0 where
  pub shown : (s : ℕ) → is_some (c.shown s) ≡ member s c.reads
  pub noticed : (s : ℕ) → IsSome (c.shown s) → IsTrue (reaches c s)
  pub made : (s : ℕ) → c.writes s ≡ made_of (c.makes s) (c.shown s)

-- each operation is what the plan says over the sectors as the older ones left them
abbrev pub Legal : Plan → (ℕ → Block) → List Item → Type 0
Legal plan opening [] = Unit {0}
Legal plan opening (Done c ∷ h) = (plan c.hint c.op c.asked (logical opening h) ≡ Some (outcome_of c)) × Legal plan opening h
Legal plan opening (Doubt m ∷ h) = Legal plan opening h

-- no operation that is kept looks at what one that isn't kept has changed before
abbrev pub IsClear : (Commit → Bool) → List Item → Type 0
IsClear keep [] = Unit {0}
IsClear keep (Done c ∷ h) = (keep c ≡ true → (s : ℕ) → IsTrue (touches c s) → Each (λ e. Changes s e → keep e ≡ true) h) × IsClear keep h
IsClear keep (Doubt m ∷ h) = IsClear keep h
