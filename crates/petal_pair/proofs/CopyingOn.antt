-- A sector more that is copied, and what a pair is once its copy that was out is refilled or not.
use Rattle.std.proofs.Common.{◌≡◌, ◌⊎◌, inl, inr, ℕ, true, false, ◌==◌, if◌then◌else◌, List, [], ◌∷◌, ◌++◌, Option, Some, None, is_some, Result, Ok, Err, refl, sym, ap, ◌∙◌, append_assoc}
use Rattle.std.proofs.lemmas.Bool.Decides.{eqb_tells}
use Rattle.frang_base.specs.declared.sector.Sector.{Sector}
use Rattle.frang_outside.proofs.Acts.{fell-trans}
use Rattle.frang_outside.specs.declared.act.Act.{Act}
use Rattle.frang_outside.specs.declared.act.Act.TheVariants.{Put as Acted}
use Rattle.frang_outside.specs.declared.act.Taken.TheVariants.{Written}
use Rattle.frang_outside.specs.Outside.{State, told_more}
use Rattle.petal_pair.specs.declared.in_use.InUse.{InUse}
use Rattle.petal_pair.specs.declared.in_use.InUse.TheVariants.{Both, FirstAlone, SecondAlone}
use Rattle.petal_pair.specs.declared.refilling.RefillFault.{RefillFault}
use Rattle.petal_pair.specs.declared.refilling.RefillFault.TheVariants.{Failed, NoMemory}
use Rattle.petal_pair.specs.PairedCopies.{AreCopies, DifferAtMost, IsNoneOf, IsPaired, sectors_told, sectors_used, told_by_both}
use Rattle.petal_pair.specs.Refilling.{Copies, CopiesSector, HasCopied, PairCopies, in_use_refilled, missed_refilled, refill_put, refilled, told_all}
use Rattle.petal_pair.proofs.Copying.{told_same}
use Rattle.petal_pair.proofs.Staying.{told_equal, told_moved}
use Rattle.sector_bytes.specs.Sectors.{Sectors, SameSectors}

-- one act more
told_push : (told : Option (List Act)) (acts : List Act) (act : Act) → told_more (told_all told acts) act ≡ told_all told (acts ++ act ∷ [])
told_push None acts act = refl
told_push (Some before) acts act = ap Some (append_assoc before acts (act ∷ []))

refilled_push : (sectors : Sectors) (done : List Sector) (sector : Sector) → refilled sectors (done ++ sector ∷ []) ≡ refilled sectors done ++ Acted (refill_put sector (sectors sector.0)) Written ∷ []
refilled_push sectors [] sector = refl
refilled_push sectors (first ∷ done) sector = ap (λ acts. Acted (refill_put first (sectors first.0)) Written ∷ acts) (refilled_push sectors done sector)

-- what was got is put
pub copied_step : (from mid from_after to now to_after : State) (missed : List Sector) (sector : Sector) (left : List Sector) (done : Unit {0}) → HasCopied from mid to now missed (sector ∷ left) → CopiesSector mid from_after now to_after sector (Ok done) → HasCopied from from_after to to_after missed left
copied_step from mid from_after to now to_after missed sector left done h k = record {
  done = h.done ++ sector ∷ [];
  all = h.all ∙ sym (append_assoc h.done (sector ∷ []) left);
  sectors = λ s. k.0.sectors s ∙ h.sectors s;
  acts = k.0.acts ∙ h.acts;
  from_counts = fell-trans from mid from_after h.from_counts k.0.counts;
  to_counts = fell-trans to now to_after h.to_counts k.1.counts;
  told =
      k.1.outcome.2
      ∙ ap (λ told. told_more told (Acted (refill_put sector (mid.sectors sector.0)) Written)) h.told
      ∙ told_push to.acts (refilled from.sectors h.done) (Acted (refill_put sector (mid.sectors sector.0)) Written)
      ∙ ap (λ bytes. told_all to.acts (refilled from.sectors h.done ++ Acted (refill_put sector bytes) Written ∷ [])) (h.sectors sector.0)
      ∙ ap (told_all to.acts) (sym (refilled_push from.sectors h.done sector));
  differ = λ s none. go s none (eqb_tells sector.0 s);
}
  where
    go : (s : ℕ) → IsNoneOf s left → ((sector.0 == s ≡ true) × (sector.0 ≡ s)) ⊎ ((sector.0 == s ≡ false) × (sector.0 ≡ s → ⊥)) → to_after.sectors s ≡ from_after.sectors s
    go s none (inl is) = k.1.outcome.1 s ∙ ap (λ b. if b then mid.sectors sector.0 else now.sectors s) is.0 ∙ ap mid.sectors is.1 ∙ sym (k.0.sectors s)
    go s none (inr apart) = k.1.outcome.1 s ∙ ap (λ b. if b then mid.sectors sector.0 else now.sectors s) apart.0 ∙ h.differ s ((λ e. apart.1 (sym e)), none) ∙ sym (k.0.sectors s)

-- the copy that is out differs at most in the sectors missed
none_of_left : (s : ℕ) (done left : List Sector) → IsNoneOf s (done ++ left) → IsNoneOf s left
none_of_left s [] left none = none
none_of_left s (first ∷ done) left none = none_of_left s done left none.1

differ_missed : (missed done left : List Sector) (x y : Sectors) → missed ≡ done ++ left → DifferAtMost left x y → DifferAtMost missed x y
differ_missed missed done left x y all h s none = h s (none_of_left s done left (rw (← all) none))

tells_all : (told : Option (List Act)) (acts : List Act) → is_some (told_all told acts) ≡ is_some told
tells_all None acts = refl
tells_all (Some before) acts = refl

-- what copying leaves, however it ends
pub record Leaves (from from_after to to_after : State) (missed : List Sector) (r : Result (Unit {0}) RefillFault) : Type 0 where
  pub sectors : SameSectors from_after.sectors from.sectors
  pub from_tells : is_some from_after.acts ≡ is_some from.acts
  pub to_tells : is_some to_after.acts ≡ is_some to.acts
  pub from_mark : from_after.mark ≡ from.mark
  pub to_mark : to_after.mark ≡ to.mark
  pub differ : DifferAtMost (missed_refilled missed r) to_after.sectors from_after.sectors

leaves_left : (from from_after to to_after : State) (missed left : List Sector) (r : Result (Unit {0}) RefillFault) → HasCopied from from_after to to_after missed left → DifferAtMost (missed_refilled missed r) to_after.sectors from_after.sectors → Leaves from from_after to to_after missed r
leaves_left from from_after to to_after missed left r h differ = record {
  sectors = h.sectors;
  from_tells = ap is_some h.acts;
  to_tells = ap is_some h.told ∙ tells_all to.acts (refilled from.sectors h.done);
  from_mark = h.from_counts.mark;
  to_mark = h.to_counts.mark;
  differ = differ;
}

leaves : (from from_after to to_after : State) (missed : List Sector) (r : Result (Unit {0}) RefillFault) → Copies from from_after to to_after missed r → Leaves from from_after to to_after missed r
leaves from from_after to to_after missed (Ok done) h = leaves_left from from_after to to_after missed [] (Ok done) h h.differ
leaves from from_after to to_after missed (Err Failed) h = leaves_left from from_after to to_after missed h.0 (Err Failed) h.1 (differ_missed missed h.1.done h.0 to_after.sectors from_after.sectors h.1.all h.1.differ)
leaves from from_after to to_after missed (Err NoMemory) h = leaves_left from from_after to to_after missed h.0 (Err NoMemory) h.1 (differ_missed missed h.1.done h.0 to_after.sectors from_after.sectors h.1.all h.1.differ)

-- what the pair is then
pub record Refitted (was now : InUse) (a a' b b' : State) (missed : List Sector) : Type 0 where
  pub first_tells : is_some a'.acts ≡ is_some a.acts
  pub second_tells : is_some b'.acts ≡ is_some b.acts
  pub mark : a'.mark ≡ a.mark
  pub used : SameSectors (sectors_used now a' b') (sectors_used was a b)
  pub copies : AreCopies now missed a'.sectors b'.sectors

pub refitted : (was : InUse) (a a' b b' : State) (missed : List Sector) (r : Result (Unit {0}) RefillFault) → PairCopies was a a' b b' missed r → Refitted was (in_use_refilled was r) a a' b b' (missed_refilled missed r)
refitted Both a a' b b' missed r h = absurd h
refitted FirstAlone a a' b b' missed (Ok done) h =
    let l : Leaves a a' b b' missed (Ok done) = leaves a a' b b' missed (Ok done) h in
    record { first_tells = l.from_tells; second_tells = l.to_tells; mark = l.from_mark; used = l.sectors; copies = (λ s. l.differ s tt, refl) }
refitted FirstAlone a a' b b' missed (Err fault) h =
    let l : Leaves a a' b b' missed (Err fault) = leaves a a' b b' missed (Err fault) h in
    record { first_tells = l.from_tells; second_tells = l.to_tells; mark = l.from_mark; used = l.sectors; copies = l.differ }
refitted SecondAlone a a' b b' missed (Ok done) h =
    let l : Leaves b b' a a' missed (Ok done) = leaves b b' a a' missed (Ok done) h in
    record { first_tells = l.to_tells; second_tells = l.from_tells; mark = l.to_mark; used = λ s. l.differ s tt ∙ l.sectors s; copies = (λ s. sym (l.differ s tt), refl) }
refitted SecondAlone a a' b b' missed (Err fault) h =
    let l : Leaves b b' a a' missed (Err fault) = leaves b b' a a' missed (Err fault) h in
    record { first_tells = l.to_tells; second_tells = l.from_tells; mark = l.to_mark; used = l.sectors; copies = l.differ }

pub is_pair_refilled : (was : InUse) (a a' b b' : State) (missed : List Sector) (acts : List Act) (r : Result (Unit {0}) RefillFault) → IsPaired a b was missed acts → PairCopies was a a' b b' missed r → IsPaired a' b' (in_use_refilled was r) (missed_refilled missed r) acts
is_pair_refilled was a a' b b' missed acts r is h =
    let f : Refitted was (in_use_refilled was r) a a' b b' (missed_refilled missed r) = refitted was a a' b b' missed r h in
    record {
      sectors =
          rw (told_same a.acts a'.acts b.acts b'.acts acts f.first_tells f.second_tells)
          (told_moved (told_by_both a.acts b.acts acts) (sectors_used was a b) (sectors_used (in_use_refilled was r) a' b') is.sectors f.used);
      copies = f.copies;
    }

pub sectors_refilled : (was : InUse) (a a' b b' : State) (missed : List Sector) (acts : List Act) (r : Result (Unit {0}) RefillFault) → PairCopies was a a' b b' missed r →
    SameSectors (sectors_told (told_by_both a'.acts b'.acts acts) (sectors_used (in_use_refilled was r) a' b')) (sectors_told (told_by_both a.acts b.acts acts) (sectors_used was a b))
sectors_refilled was a a' b b' missed acts r h =
    let f : Refitted was (in_use_refilled was r) a a' b b' (missed_refilled missed r) = refitted was a a' b b' missed r h in
    rw (told_same a.acts a'.acts b.acts b'.acts acts f.first_tells f.second_tells)
    (told_equal (told_by_both a.acts b.acts acts) (sectors_used was a b) (sectors_used (in_use_refilled was r) a' b') f.used)
