-- By where the walk leads.
use Rattle.std.proofs.Common.{◌≡◌, Err, subst, sym, ap, rules, ◌∙◌}
use Rattle.disk_definitions.specs.Ask.{Got, bind}
use Rattle.disk_definitions.specs.Walks.{walk}
use Rattle.dir_lookup.specs.Looked.{Adds}
use Rattle.dir_lookup.specs.Looks.{looks_of}
use Rattle.dir_lookup.specs.Reading.{reading, read_of}
use Rattle.dir_lookup.specs.Spots.{reply_of, spot_of}
use Rattle.dir_lookup.proofs.Steps.{said_ok, said_err}
use Rattle.plan_steps.specs.declared.stop.Stop.TheVariants as stop
use Rattle.plan_steps.specs.Targets.{FindsTarget, node_of, target_of}
use Rattle.plan_steps.proofs.Targets.{finds_lack, finds_node, finds_refusal}
use Rattle.plan_steps.specs.Looking.{Looks, LooksAtTarget}
use Rattle.plan_steps.proofs.Examining.{walk_examined}
use Rattle.plan_steps.proofs.WalkLooks.{node_looks, node_missing, node_refused}
use Rattle.plan_steps.proofs.target.target_of.Goals as goal

pub returns-in_err-spot-clause-finds : goal.returns-in_err-spot-clause-finds
returns-in_err-spot-clause-finds c held =
    let cached = c.args.sectors.now.entries in
    let need = c.in_err-spot.field-0.0 in
    let e : c.from_residual.result ≡ Err (stop.Need need.0) = search rules in
    let h : read_of spot_of c.walk_spot.result ≡ reading (bind (walk c.args.path.now) (λ w. Got w.spot)) cached held =
    subst (λ names. read_of spot_of c.walk_spot.result ≡ reading (bind (walk names) (λ w. Got w.spot)) cached held) c.as_slice.ensures (c.walk_spot.ensures.reads held) in
    subst (FindsTarget cached held c.args.path.now) (sym e) (finds_lack c.args.path.now cached held need.0.0 (said_err spot_of c.walk_spot.result need _ c.in_err-spot.was h))

pub returns-in-Ok-clause-finds : goal.returns-in-Ok-clause-finds
returns-in-Ok-clause-finds c held =
    let cached = c.args.sectors.now.entries in
    let s = c.in_ok-spot.spot in
    let h : read_of spot_of c.walk_spot.result ≡ reading (bind (walk c.args.path.now) (λ w. Got w.spot)) cached held =
    subst (λ names. read_of spot_of c.walk_spot.result ≡ reading (bind (walk names) (λ w. Got w.spot)) cached held) c.as_slice.ensures (c.walk_spot.ensures.reads held) in
    finds_node c.args.path.now cached held (spot_of s) (node_of c.in-Ok.target) (said_ok spot_of c.walk_spot.result s _ c.in_ok-spot.was h) (sym (ap target_of c.in-Ok.is) ∙ c.target_at.ensures)

pub returns-in-Err-clause-finds : goal.returns-in-Err-clause-finds
returns-in-Err-clause-finds c held =
    let cached = c.args.sectors.now.entries in
    let s = c.in_ok-spot.spot in
    let h : read_of spot_of c.walk_spot.result ≡ reading (bind (walk c.args.path.now) (λ w. Got w.spot)) cached held =
    subst (λ names. read_of spot_of c.walk_spot.result ≡ reading (bind (walk names) (λ w. Got w.spot)) cached held) c.as_slice.ensures (c.walk_spot.ensures.reads held) in
    subst (λ r. FindsTarget cached held c.args.path.now (Err (stop.Refused r))) (sym c.reply.ensures)
    (finds_refusal c.args.path.now cached held (spot_of s) (reply_of c.in-Err.refusal) (said_ok spot_of c.walk_spot.result s _ c.in_ok-spot.was h) (sym (ap target_of c.in-Err.is) ∙ c.target_at.ensures))

pub returns-in_err-spot-clause-looks : goal.returns-in_err-spot-clause-looks
returns-in_err-spot-clause-looks c held =
    let cached = c.args.sectors.now.entries in
    let path = c.args.path.now in
    let need = c.in_err-spot.field-0.0 in
    let e : c.from_residual.result ≡ Err (stop.Need need.0) = search rules in
    let h : read_of spot_of c.walk_spot.result ≡ reading (bind (walk path) (λ w. Got w.spot)) cached held =
    subst (λ names. read_of spot_of c.walk_spot.result ≡ reading (bind (walk names) (λ w. Got w.spot)) cached held) c.as_slice.ensures (c.walk_spot.ensures.reads held) in
    let l : Looks cached held c.args.looked.now c.walk_spot.new.looked (walk path) =
    walk_examined cached held _ _ path (subst (λ names. Adds c.args.looked.now c.walk_spot.new.looked (looks_of (walk names) cached held)) c.as_slice.ensures (c.walk_spot.ensures.looks held)) in
    subst (LooksAtTarget cached held c.args.looked.now c.walk_spot.new.looked path) (sym e)
    (node_missing path cached held c.args.looked.now c.walk_spot.new.looked l need.0.0 (said_err spot_of c.walk_spot.result need _ c.in_err-spot.was h))

pub returns-in-Ok-clause-looks : goal.returns-in-Ok-clause-looks
returns-in-Ok-clause-looks c held =
    let cached = c.args.sectors.now.entries in
    let path = c.args.path.now in
    let s = c.in_ok-spot.spot in
    let h : read_of spot_of c.walk_spot.result ≡ reading (bind (walk path) (λ w. Got w.spot)) cached held =
    subst (λ names. read_of spot_of c.walk_spot.result ≡ reading (bind (walk names) (λ w. Got w.spot)) cached held) c.as_slice.ensures (c.walk_spot.ensures.reads held) in
    let l : Looks cached held c.args.looked.now c.walk_spot.new.looked (walk path) =
    walk_examined cached held _ _ path (subst (λ names. Adds c.args.looked.now c.walk_spot.new.looked (looks_of (walk names) cached held)) c.as_slice.ensures (c.walk_spot.ensures.looks held)) in
    node_looks path cached held c.args.looked.now c.walk_spot.new.looked l (spot_of s) (node_of c.in-Ok.target) (said_ok spot_of c.walk_spot.result s _ c.in_ok-spot.was h) (sym (ap target_of c.in-Ok.is) ∙ c.target_at.ensures)

pub returns-in-Err-clause-looks : goal.returns-in-Err-clause-looks
returns-in-Err-clause-looks c held =
    let cached = c.args.sectors.now.entries in
    let path = c.args.path.now in
    let s = c.in_ok-spot.spot in
    let h : read_of spot_of c.walk_spot.result ≡ reading (bind (walk path) (λ w. Got w.spot)) cached held =
    subst (λ names. read_of spot_of c.walk_spot.result ≡ reading (bind (walk names) (λ w. Got w.spot)) cached held) c.as_slice.ensures (c.walk_spot.ensures.reads held) in
    let l : Looks cached held c.args.looked.now c.walk_spot.new.looked (walk path) =
    walk_examined cached held _ _ path (subst (λ names. Adds c.args.looked.now c.walk_spot.new.looked (looks_of (walk names) cached held)) c.as_slice.ensures (c.walk_spot.ensures.looks held)) in
    node_refused path cached held c.args.looked.now c.walk_spot.new.looked l (spot_of s) (reply_of c.in-Err.refusal) (said_ok spot_of c.walk_spot.result s _ c.in_ok-spot.was h) (sym (ap target_of c.in-Err.is) ∙ c.target_at.ensures)
