-- A sector was looked at where that is kept of it, what is kept ascends, and what waits is low.
use Rattle.std.proofs.lemmas.Bool.{false≢true}
use Rattle.std.proofs.Common.{◌≡◌, [], ap, ◌∙◌, is_some, subst, sym}
use Rattle.sector_bytes.specs.SectorMaps.{Ascend, value_at}
use Rattle.recovery_demon.specs.Recovering.{Recovering}
use Rattle.recovery_demon.specs.Recovering.{writes_wanted}
use Rattle.recovery_demon.proofs.Low.{waiting_low}
use Rattle.recovery_demon.proofs.Seen.{no_writes, seen_writes}
use Rattle.recovery_demon.proofs.Tied.{none_looked, nothing_ascends, seen_as, tied_some, young}
use Rattle.recovery_demon.proofs.demon.Demon.has_looked.Goals as goal

pub returns-in-Some-clause-looked : goal.returns-in-Some-clause-looked
returns-in-Some-clause-looked c =
    let i = c.self.inside in
    c.has_looked.ensures ∙ ap (λ d. is_some (value_at d.recovery.looked c.args.sector.0)) (seen_as i.dead.0 i.segments i.slots i.replay c.in-Some.replay c.args.self.now c.in-Some.is c.self.view_is)

pub returns-in-Some-clause-ordered : goal.returns-in-Some-clause-ordered
returns-in-Some-clause-ordered c =
    let i = c.self.inside in
    let tied = tied_some i.dead.0 i.segments i.slots.entries i.replay c.in-Some.replay c.self.invariant c.in-Some.is in
    let P : Recovering → Type 0 = λ d. Ascend d.recovery.looked in
    subst P (seen_as i.dead.0 i.segments i.slots i.replay c.in-Some.replay c.args.self.now c.in-Some.is c.self.view_is) tied.kept.nearly.ordered.looked

pub returns-in-None-clause-looked : goal.returns-in-None-clause-looked
returns-in-None-clause-looked c =
    let i = c.self.inside in
    sym (ap (λ looked. is_some (value_at looked c.args.sector.0)) (none_looked i.dead.0 i.segments i.slots i.replay c.args.self.now c.in-None.is c.self.view_is))

pub returns-in-None-clause-ordered : goal.returns-in-None-clause-ordered
returns-in-None-clause-ordered c =
    let i = c.self.inside in
    nothing_ascends c.args.self.now.recovery.looked (none_looked i.dead.0 i.segments i.slots i.replay c.args.self.now c.in-None.is c.self.view_is)

pub returns-in-Some-clause-low : goal.returns-in-Some-clause-low
returns-in-Some-clause-low c = λ s wanted.
    let i = c.self.inside in
    let tied = tied_some i.dead.0 i.segments i.slots.entries i.replay c.in-Some.replay c.self.invariant c.in-Some.is in
    let seen = seen_as i.dead.0 i.segments i.slots i.replay c.in-Some.replay c.args.self.now c.in-Some.is c.self.view_is in
    waiting_low c.in-Some.replay.replay tied.kept.nearly s
    (ap is_some (seen_writes i.dead.0 i.segments i.slots.entries c.in-Some.replay.replay tied s ∙ ap (λ d. value_at (writes_wanted d.segments d.recovery d.issued) s) seen) ∙ wanted)

pub returns-in-None-clause-low : goal.returns-in-None-clause-low
returns-in-None-clause-low c = λ s wanted.
    let i = c.self.inside in
    let is = young i.dead.0 i.segments i.slots i.replay c.args.self.now c.in-None.is c.self.view_is c.requires in
    absurd (false≢true (sym (ap (λ writes. is_some (value_at writes s)) (no_writes c.args.self.now.segments c.args.self.now.recovery is.unread c.args.self.now.issued is.looked)) ∙ wanted))
