-- By where the walk leads.
use Rattle.std.proofs.Common.{◌≡◌, Err, [], subst, sym, rules}
use Rattle.disk_definitions.specs.Held.{Segments}
use Rattle.disk_definitions.specs.Ask.{Got, bind}
use Rattle.disk_definitions.specs.Walks.{walk}
use Rattle.dir_lookup.specs.Looked.{Adds}
use Rattle.dir_lookup.specs.Looks.{looks_of}
use Rattle.dir_lookup.specs.Reading.{reading, read_of}
use Rattle.dir_lookup.specs.Spots.{spot_of}
use Rattle.dir_lookup.proofs.Steps.{said_ok, said_err}
use Rattle.plan_steps.specs.declared.stop.Stop.TheVariants as stop
use Rattle.plan_steps.specs.Spots.{FindsSpot}
use Rattle.plan_steps.proofs.Leading.{spot_stands, walk_lacks, walk_leads}
use Rattle.plan_steps.specs.Looking.{Looks, LooksAtSpot}
use Rattle.plan_steps.proofs.Examining.{walk_examined}
use Rattle.plan_steps.proofs.WalkLooks.{walk_looked, walk_looks}
use Rattle.plan_steps.proofs.walking.walked.Goals as goal

pub returns-in_err-spot-clause-finds : goal.returns-in_err-spot-clause-finds
returns-in_err-spot-clause-finds c held =
    let cached = c.args.sectors.now.entries in
    let need = c.in_err-spot.field-0.0 in
    let e : c.from_residual.result ≡ Err (stop.Need need.0) = search rules in
    let h : read_of spot_of c.walk_spot.result ≡ reading (bind (walk c.args.path.now) (λ w. Got w.spot)) cached held =
    subst (λ names. read_of spot_of c.walk_spot.result ≡ reading (bind (walk names) (λ w. Got w.spot)) cached held) c.as_slice.ensures (c.walk_spot.ensures.reads held) in
    subst (FindsSpot cached held c.args.path.now) (sym e) (walk_lacks c.args.path.now cached held need.0.0 (said_err spot_of c.walk_spot.result need _ c.in_err-spot.was h))

pub returns-clause-finds : goal.returns-clause-finds
returns-clause-finds c held =
    let cached = c.args.sectors.now.entries in
    let s = c.in_ok-spot.spot in
    let h : read_of spot_of c.walk_spot.result ≡ reading (bind (walk c.args.path.now) (λ w. Got w.spot)) cached held =
    subst (λ names. read_of spot_of c.walk_spot.result ≡ reading (bind (walk names) (λ w. Got w.spot)) cached held) c.as_slice.ensures (c.walk_spot.ensures.reads held) in
    walk_leads c.args.path.now cached held (spot_of s) (said_ok spot_of c.walk_spot.result s _ c.in_ok-spot.was h)

pub returns-clause-stands : goal.returns-clause-stands
returns-clause-stands c =
    let cached = c.args.sectors.now.entries in
    let s = c.in_ok-spot.spot in
    let held : Segments = [] in
    let h : read_of spot_of c.walk_spot.result ≡ reading (bind (walk c.args.path.now) (λ w. Got w.spot)) cached held =
    subst (λ names. read_of spot_of c.walk_spot.result ≡ reading (bind (walk names) (λ w. Got w.spot)) cached held) c.as_slice.ensures (c.walk_spot.ensures.reads held) in
    spot_stands c.args.path.now cached held s (said_ok spot_of c.walk_spot.result s _ c.in_ok-spot.was h)

pub returns-in_err-spot-clause-looks : goal.returns-in_err-spot-clause-looks
returns-in_err-spot-clause-looks c held =
    let cached = c.args.sectors.now.entries in
    let path = c.args.path.now in
    let need = c.in_err-spot.field-0.0 in
    let e : c.from_residual.result ≡ Err (stop.Need need.0) = search rules in
    let h : read_of spot_of c.walk_spot.result ≡ reading (bind (walk path) (λ w. Got w.spot)) cached held =
    subst (λ names. read_of spot_of c.walk_spot.result ≡ reading (bind (walk names) (λ w. Got w.spot)) cached held) c.as_slice.ensures (c.walk_spot.ensures.reads held) in
    let l : Looks cached held c.args.looked.now c.walk_spot.new.looked (walk path) =
    walk_examined cached held _ _ path (subst (λ names. Adds c.args.looked.now c.walk_spot.new.looked (looks_of (walk names) cached held)) c.as_slice.ensures (c.walk_spot.ensures.looks held)) in
    subst (LooksAtSpot cached held c.args.looked.now c.walk_spot.new.looked path) (sym e)
    (walk_looked path cached held c.args.looked.now c.walk_spot.new.looked l need.0.0 (said_err spot_of c.walk_spot.result need _ c.in_err-spot.was h))

pub returns-clause-looks : goal.returns-clause-looks
returns-clause-looks c held =
    let cached = c.args.sectors.now.entries in
    let path = c.args.path.now in
    let s = c.in_ok-spot.spot in
    let h : read_of spot_of c.walk_spot.result ≡ reading (bind (walk path) (λ w. Got w.spot)) cached held =
    subst (λ names. read_of spot_of c.walk_spot.result ≡ reading (bind (walk names) (λ w. Got w.spot)) cached held) c.as_slice.ensures (c.walk_spot.ensures.reads held) in
    let l : Looks cached held c.args.looked.now c.walk_spot.new.looked (walk path) =
    walk_examined cached held _ _ path (subst (λ names. Adds c.args.looked.now c.walk_spot.new.looked (looks_of (walk names) cached held)) c.as_slice.ensures (c.walk_spot.ensures.looks held)) in
    walk_looks path cached held c.args.looked.now c.walk_spot.new.looked l (spot_of s) (said_ok spot_of c.walk_spot.result s _ c.in_ok-spot.was h)
