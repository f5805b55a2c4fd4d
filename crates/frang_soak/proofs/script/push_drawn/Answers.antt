-- Each draw adds its line.
use Rattle.std.proofs.Common.{◌≡◌, ◌+◌, ◌%◌, [], ◌∷◌, ◌++◌, ap, sym, ◌∙◌}
use Rattle.frang_soak.specs.Draws.{draw_of, next_state, state_after}
use Rattle.frang_soak.specs.Scripts.{drawn_line, drawn_op, server_line}
use Rattle.frang_soak.proofs.OneMore.{begun, pushed, state_after_more, state_after_none}
use Rattle.frang_soak.proofs.script.push_drawn.Goals as goal

pub loop-place-init : goal.loop-place-init
loop-place-init c = (begun (drawn_line c.args.n) _, sym (state_after_none c.args.n))

pub loop-place-preserved : goal.loop-place-preserved
loop-place-preserved c =
    let state : c.next_state-state.result ≡ state_after c.args.n (c.loop-place.place + 1) = c.next_state-state.ensures ∙ ap next_state c.loop-place.invariant.1 ∙ sym (state_after_more c.args.n c.loop-place.place) in
    let draw : c.draw_of.result ≡ draw_of (state_after c.args.n (c.loop-place.place + 1)) = c.draw_of.ensures ∙ ap draw_of state in
    let line : c.push_drawn_line.new.script ≡ c.loop-place.script ++ drawn_line c.args.n c.loop-place.place ∷ [] = c.in_ok-push_drawn_line.ensures ∙ ap (λ d. c.loop-place.script ++ server_line (10 + c.loop-place.place) (c.loop-place.place % 4) (drawn_op (c.loop-place.place % 4) d) ∷ []) draw in
    (pushed (drawn_line c.args.n) c.loop-place.place _ _ _ c.loop-place.invariant.0 line, state)
