-- Segment after segment.
use Rattle.std.proofs.Common.{◌≡◌, ◌∷◌, ◌++◌, [], ℕ, List, map, sym, ap, ◌∙◌}
use Rattle.std.proofs.lemmas.List.{map-append}
use Rattle.std.proofs.lemmas.Map.Iter.{iter_end}
use Rattle.std.specs.Map.{keys_of}
use Rattle.dir_lookup.proofs.Looking.{adds_as, adds_none, adds_then}
use Rattle.plan_steps.specs.Looking.{segment_number}
use Rattle.plan_steps.proofs.room.look_at_held.Goals as goal

pub loop-k-init : goal.loop-k-init
loop-k-init c = adds_none _

pub loop-k-preserved : goal.loop-k-preserved
loop-k-preserved c =
    let before : List ℕ = map (λ r. r.now) c.loop-k.yielded in
    let k : ℕ = c.in-Some.k.now in
    let e : map segment_number before ++ segment_number k ∷ [] ≡ map segment_number (map (λ r. r.now) (c.loop-k.yielded ++ c.in-Some.k ∷ [])) =
    sym (ap (map segment_number) (map-append (λ r. r.now) c.loop-k.yielded (c.in-Some.k ∷ [])) ∙ map-append segment_number before (k ∷ [])) in
    adds_as _ _ _ _ (ap (λ s. map segment_number before ++ s ∷ []) c.sector_of.ensures ∙ e) (adds_then _ _ _ _ _ c.loop-k.invariant c.add.ensures)

pub returns : goal.returns
returns c =
    let start : c.into_iter-k-iterator.result ≡ keys_of c.args.held.now = cc in
    let e : map (λ r. r.now) c.loop-k.yielded ≡ keys_of c.args.held.now =
    (iter_end (λ r. r.now) (keys_of c.args.held.now) c.loop-k.yielded c.into_iter-k-iterator.result c.loop-k.k-iterator c.next.new.self c.next.result start c.loop-k.yielded_by c.in-None.is c.next.ensures.steps).0 in
    adds_as _ _ _ _ (ap (map segment_number) e) c.loop-k.invariant
