-- What a put leaves of the sectors of two copies, and of those of their pair.
use Rattle.std.proofs.Common.{◌≡◌, ◌⊎◌, inl, inr, ℕ, true, ◌==◌, if◌then◌else◌, List, Option, Some, None, is_some, Result, Ok, Err, refl, sym, ap, ◌∙◌}
use Rattle.std.proofs.lemmas.Bool.{false≢true, ne_eqb}
use Rattle.frang_base.specs.declared.sector.Sector.{Sector}
use Rattle.frang_outside.specs.declared.act.Act.{Act}
use Rattle.frang_outside.specs.declared.act.Act.TheVariants.{Put as Acted}
use Rattle.frang_outside.specs.declared.act.Put.{Put}
use Rattle.frang_outside.specs.declared.act.Taken.{Taken}
use Rattle.frang_outside.specs.declared.act.Taken.TheVariants.{Written, Late}
use Rattle.frang_outside.specs.declared.outside.PutFault.{PutFault}
use Rattle.frang_outside.specs.declared.outside.PutFault.TheVariants.{Failed as PutFailed, NoMemory as PutNoMemory}
use Rattle.frang_outside.specs.Disk.{disk_after, written}
use Rattle.frang_outside.specs.Outside.{State, Accounts, OldOrNew, PutOutcome, told_more}
use Rattle.petal_pair.specs.PairedCopies.{AreCopies, sectors_used}
use Rattle.petal_pair.specs.PairedCalls.{PairPuts, Puts, SecondPuts}
use Rattle.petal_pair.specs.declared.in_use.InUse.{InUse}
use Rattle.petal_pair.specs.declared.in_use.InUse.TheVariants.{Both, FirstAlone, SecondAlone}
use Rattle.sector_bytes.specs.Sectors.{Sectors, SameSectors}

-- what a put that was so answered leaves of sectors
abbrev pub PutSectors : Sectors → Sectors → Put → Result Taken PutFault → Type 0
PutSectors old new put (Ok Written) = SameSectors new (written old put.sector.0 put.bytes)
PutSectors old new put (Ok Late) = SameSectors new old
PutSectors old new put (Err PutFailed) = OldOrNew old new put
PutSectors old new put (Err PutNoMemory) = SameSectors new old

pub of_outcome : (s t : State) (put : Put) (r : Result Taken PutFault) → PutOutcome s t put r → PutSectors s.sectors t.sectors put r
of_outcome s t put (Ok Written) h = h.1
of_outcome s t put (Ok Late) h = h.1
of_outcome s t put (Err PutFailed) h = h.1
of_outcome s t put (Err PutNoMemory) h = h.0

-- the same from equal sectors
own_moved : (a b c d : List ℕ) → b ≡ c → (a ≡ b) ⊎ (a ≡ d) → (a ≡ c) ⊎ (a ≡ d)
own_moved a b c d e (inl p) = inl (p ∙ e)
own_moved a b c d e (inr p) = inr p

pub moved : (x y z : Sectors) (put : Put) (r : Result Taken PutFault) → SameSectors x y → PutSectors x z put r → PutSectors y z put r
moved x y z put (Ok Written) e h = λ s. h s ∙ ap (λ b. if put.sector.0 == s then put.bytes else b) (e s)
moved x y z put (Ok Late) e h = λ s. h s ∙ e s
moved x y z put (Err PutFailed) e h = record {
  own = own_moved (z put.sector.0) (x put.sector.0) (y put.sector.0) put.bytes (e put.sector.0) h.own;
  others = λ s apart. h.others s apart ∙ e s;
}
moved x y z put (Err PutNoMemory) e h = λ s. h s ∙ e s

-- a put changes at most its own sector
written_apart : (old : Sectors) (k s : ℕ) (bytes : List ℕ) → (s ≡ k → ⊥) → written old k bytes s ≡ old s
written_apart old k s bytes apart = ap (λ b. if b then bytes else old s) (ne_eqb k s (λ e. apart (sym e)))

pub others_stay : (x z : Sectors) (put : Put) (r : Result Taken PutFault) → PutSectors x z put r → (s : ℕ) → (s ≡ put.sector.0 → ⊥) → z s ≡ x s
others_stay x z put (Ok Written) h s apart = h s ∙ written_apart x put.sector.0 s put.bytes apart
others_stay x z put (Ok Late) h s apart = h s
others_stay x z put (Err PutFailed) h s apart = h.others s apart
others_stay x z put (Err PutNoMemory) h s apart = h s

-- the first copy in was is put to as the pair is
pub used_put : (was now : InUse) (a a' b b' : State) (missed : List Sector) (put : Put) (r : Result Taken PutFault) → AreCopies was missed a.sectors b.sectors → PairPuts was now a a' b b' put r → PutSectors (sectors_used was a b) (sectors_used now a' b') put r
used_put Both Both a a' b b' missed put r same h = of_outcome a a' put r h.0.outcome
used_put Both FirstAlone a a' b b' missed put r same h = rw h.0 (of_outcome a a' put (Ok Written) h.1.outcome)
used_put Both SecondAlone a a' b b' missed put r same h = moved b.sectors a.sectors b'.sectors put r same.0 (of_outcome b b' put r h.1.outcome)
used_put FirstAlone now a a' b b' missed put r same h = rw h.0 (of_outcome a a' put r h.1.outcome)
used_put SecondAlone now a a' b b' missed put r same h = rw h.0 (of_outcome b b' put r h.2.outcome)

-- a copy goes on telling its record, or not telling it
pub tells_more : (told : Option (List Act)) (act : Act) → is_some (told_more told act) ≡ is_some told
tells_more None act = refl
tells_more (Some acts) act = refl

tells_put : (s t : State) (put : Put) (r : Result Taken PutFault) → PutOutcome s t put r → is_some t.acts ≡ is_some s.acts
tells_put s t put (Ok Written) h = ap is_some h.2 ∙ tells_more s.acts (Acted put Written)
tells_put s t put (Ok Late) h = ap is_some h.2 ∙ tells_more s.acts (Acted put Late)
tells_put s t put (Err PutFailed) h = ap is_some h.2
tells_put s t put (Err PutNoMemory) h = ap is_some h.1

tells_second : (s t : State) (put : Put) (r : Result Taken PutFault) → SecondPuts s t put r → is_some t.acts ≡ is_some s.acts
tells_second s t put (Ok Written) h = tells_put s t put (Ok Written) h.outcome
tells_second s t put (Ok Late) (inl h) = tells_put s t put (Ok Late) h.outcome
tells_second s t put (Ok Late) (inr h) = tells_put s t put (Err PutNoMemory) h.outcome
tells_second s t put (Err PutFailed) h = absurd h
tells_second s t put (Err PutNoMemory) h = ap (λ u. is_some u.acts) h

tells_short : (s t : State) (put : Put) → Puts s t put (Err PutFailed) ⊎ Puts s t put (Err PutNoMemory) → is_some t.acts ≡ is_some s.acts
tells_short s t put (inl h) = tells_put s t put (Err PutFailed) h.outcome
tells_short s t put (inr h) = tells_put s t put (Err PutNoMemory) h.outcome

pub tells_pair : (was now : InUse) (a a' b b' : State) (put : Put) (r : Result Taken PutFault) → PairPuts was now a a' b b' put r → (is_some a'.acts ≡ is_some a.acts) × (is_some b'.acts ≡ is_some b.acts)
tells_pair Both Both a a' b b' put r h = (tells_put a a' put r h.0.outcome, tells_second b b' put r h.1)
tells_pair Both FirstAlone a a' b b' put r h = (tells_put a a' put (Ok Written) h.1.outcome, tells_short b b' put h.2)
tells_pair Both SecondAlone a a' b b' put r h = (tells_put a a' put (Err PutFailed) h.0.outcome, tells_put b b' put r h.1.outcome)
tells_pair FirstAlone now a a' b b' put r h = (tells_put a a' put r h.1.outcome, ap (λ u. is_some u.acts) h.2)
tells_pair SecondAlone now a a' b b' put r h = (ap (λ u. is_some u.acts) h.1, tells_put b b' put r h.2.outcome)

-- a put that fails leaves the sectors of a copy that tells its record
told_stays : (told : Option (List Act)) (x y : Sectors) → ((acts : List Act) → told ≡ Some acts → SameSectors x (disk_after acts)) → ((acts : List Act) → told ≡ Some acts → SameSectors y (disk_after acts)) → is_some told ≡ true → SameSectors y x
told_stays None x y h k is s = absurd (false≢true is)
told_stays (Some acts) x y h k is s = k acts refl s ∙ sym (h acts refl s)

failed_stays : (s t : State) (put : Put) → Accounts s → Accounts t → PutOutcome s t put (Err PutFailed) → is_some s.acts ≡ true → SameSectors t.sectors s.sectors
failed_stays s t put before after h is = told_stays s.acts s.sectors t.sectors before (λ acts e. after acts (h.2 ∙ e)) is

pub used_failed : (was now : InUse) (a a' b b' : State) (missed : List Sector) (put : Put) → Accounts a → Accounts a' → Accounts b → Accounts b' → AreCopies was missed a.sectors b.sectors → PairPuts was now a a' b b' put (Err PutFailed) → is_some a.acts ≡ true → is_some b.acts ≡ true → SameSectors (sectors_used now a' b') (sectors_used was a b)
used_failed Both Both a a' b b' missed put p p' q q' same h one two = absurd h.1
used_failed Both FirstAlone a a' b b' missed put p p' q q' same h one two = cc
used_failed Both SecondAlone a a' b b' missed put p p' q q' same h one two = λ s. failed_stays b b' put q q' h.1.outcome two s ∙ same.0 s
used_failed FirstAlone now a a' b b' missed put p p' q q' same h one two = rw h.0 (failed_stays a a' put p p' h.1.outcome one)
used_failed SecondAlone now a a' b b' missed put p p' q q' same h one two = rw h.0 (failed_stays b b' put q q' h.2.outcome two)
