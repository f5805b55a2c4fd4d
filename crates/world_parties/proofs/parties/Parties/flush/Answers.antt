-- All servers want everything that are up.
use Rattle.std.proofs.Common.{◌≡◌, List, length, map, refl, sym, subst, ap, ◌∙◌, rules}
use Rattle.std.proofs.lemmas.List.{length-map, with_items_is}
use Rattle.core_definitions.specs.Servers.{wanting_all_up}
use Rattle.world_parties.specs.States.{AreKept, EachBecomes, Keeps, State, oldest_of, server_of}
use Rattle.world_parties.specs.declared.party.Party.{Party}
use Rattle.world_parties.proofs.Keeping.{flushed_keeps}
use Rattle.world_parties.proofs.Changing.{flushed, kept_flushed}
use Rattle.world_parties.proofs.parties.Parties.flush.Goals as goal

pub invariant_of-self : goal.invariant_of-self
invariant_of-self c =
    let s : State = record { segments = c.self.inside.segments; parties = c.self.inside.list.items; host = c.self.inside.host; held = c.self.inside.held.items } in
    let list = c.self.inside.list in
    let new = c.want_all.new.parties in
    let n : length list.items ≡ list.len = search rules in
    let same = c.want_all.ensures.placed ∙ ap (map (λ (p : Party). p.server.id)) c.deref_mut.ensures.value in
    let long : length new ≡ list.len = sym (length-map new (λ (p : Party). p.server.id)) ∙ ap length same ∙ length-map list.items (λ (p : Party). p.server.id) ∙ n in
    let P : List Party → Type 0 = λ ps. AreKept (record s { parties = ps }) in
    subst P (sym (with_items_is list new long)) (kept_flushed s new c.self.invariant same (c.want_all.ensures.recoveries ∙ ap (map (λ (p : Party). p.recovery)) c.deref_mut.ensures.value))

pub returns-clause-becomes : goal.returns-clause-becomes
returns-clause-becomes c =
    let s : State = record { segments = c.self.inside.segments; parties = c.self.inside.list.items; host = c.self.inside.host; held = c.self.inside.held.items } in
    let list = c.self.inside.list in
    let new = c.want_all.new.parties in
    let n : length list.items ≡ list.len = search rules in
    let same = c.want_all.ensures.placed ∙ ap (map (λ (p : Party). p.server.id)) c.deref_mut.ensures.value in
    let long : length new ≡ list.len = sym (length-map new (λ (p : Party). p.server.id)) ∙ ap length same ∙ length-map list.items (λ (p : Party). p.server.id) ∙ n in
    let P : List Party → Type 0 = λ ps. EachBecomes c.args.self.now (record s { parties = ps }) wanting_all_up in
    subst P (sym (with_items_is list new long))
    (flushed s c.args.self.now new c.self.view_is (c.want_all.ensures.servers ∙ ap (λ (ps : List Party). map wanting_all_up (map server_of ps)) c.deref_mut.ensures.value))

pub returns-clause-keeps : goal.returns-clause-keeps
returns-clause-keeps c =
    let s : State = record { segments = c.self.inside.segments; parties = c.self.inside.list.items; host = c.self.inside.host; held = c.self.inside.held.items } in
    let list = c.self.inside.list in
    let new = c.want_all.new.parties in
    let n : length list.items ≡ list.len = search rules in
    let same = c.want_all.ensures.placed ∙ ap (map (λ (p : Party). p.server.id)) c.deref_mut.ensures.value in
    let long : length new ≡ list.len = sym (length-map new (λ (p : Party). p.server.id)) ∙ ap length same ∙ length-map list.items (λ (p : Party). p.server.id) ∙ n in
    let P : List Party → Type 0 = λ ps. Keeps c.args.self.now (record s { parties = ps }) in
    let servers = c.want_all.ensures.servers ∙ ap (λ (ps : List Party). map wanting_all_up (map server_of ps)) c.deref_mut.ensures.value in
    subst P (sym (with_items_is list new long))
    (flushed_keeps s c.args.self.now new c.self.view_is (flushed s s new refl servers).servers
    (c.want_all.ensures.flags ∙ ap (map (λ (p : Party). p.server.flying)) c.deref_mut.ensures.value) (c.want_all.ensures.recoveries ∙ ap (map (λ (p : Party). p.recovery)) c.deref_mut.ensures.value)
    (c.want_all.ensures.plans ∙ ap (map (λ (p : Party). p.plan)) c.deref_mut.ensures.value) (c.want_all.ensures.oldest ∙ ap (map oldest_of) c.deref_mut.ensures.value))
