-- The value takes the place of that of the key, or the entry goes in at its place.
use Rattle.std.proofs.Common.{◌+◌, ◌-◌, Some, Ok, Err, length, sym, ap, ◌∙◌, refl, subst, arith}
use Rattle.std.specs.Map.{lookup}
use Rattle.std.specs.BTreeMap.{insert_entry, is_at}
use Rattle.ordered_map.specs.Chunks.{joined, chunk_at, flat, capacity, IsChunked, IsLocated}
use Rattle.ordered_map.proofs.Close.{blank_left}
use Rattle.ordered_map.proofs.Flat.{get_within}
use Rattle.ordered_map.proofs.Found.{within_ok, within_err, place_at, gap_at, value_missed}
use Rattle.ordered_map.proofs.Whole.{any_of, room_found, room_missed, room_left, begin_chunked, write_chunked, write_entries, write_length, write_many, put_entries, put_length, put_chunked}
use Rattle.ordered_map.proofs.map.OrderedMap.replace_near.Goals as goal

pub exchange-requires-clause-place : goal.exchange-requires-clause-place
exchange-requires-clause-place g c =
    let spot = c.in-Some.spot in
    let located = subst (λ xs. IsLocated g.K.Ord.cmp c.args.key xs spot.chunk (Ok c.in-Ok.at)) c.all.ensures (subst (IsLocated g.K.Ord.cmp c.args.key c.all.result.now spot.chunk) c.in-Ok.is c.in-Some.ensures.some) in
    within_ok g.met.K.Ord.total c.args.key c.self.inside.chunks.chunks spot.chunk c.in-Ok.at located

pub invariant_of-self : goal.invariant_of-self
invariant_of-self g c =
    let spot = c.in-Some.spot in
    let located = subst (λ xs. IsLocated g.K.Ord.cmp c.args.key xs spot.chunk (Ok c.in-Ok.at)) c.all.ensures (subst (IsLocated g.K.Ord.cmp c.args.key c.all.result.now spot.chunk) c.in-Ok.is c.in-Some.ensures.some) in
    subst (λ blank. IsChunked g.K.Ord.cmp c.exchange.new.self.chunks blank c.self.inside.count) (sym c.exchange.ensures.blank)
    (subst (λ xs. IsChunked g.K.Ord.cmp xs c.self.inside.chunks.blank c.self.inside.count) (sym c.exchange.ensures.chunks) (write_chunked g.met.K.Ord.total c.args.key c.self.invariant spot.chunk c.in-Ok.at c.args.value located))

pub put_in-requires-clause-place : goal.put_in-requires-clause-place
put_in-requires-clause-place g c =
    let spot = c.in-Some.spot in
    let located = subst (λ xs. IsLocated g.K.Ord.cmp c.args.key xs spot.chunk (Err c.in-Err.at)) c.all.ensures (subst (IsLocated g.K.Ord.cmp c.args.key c.all.result.now spot.chunk) c.in-Err.is c.in-Some.ensures.some) in
    let none = value_missed g.met.K.Ord.total c.args.key c.self.inside.chunks.chunks spot.chunk c.in-Err.at c.self.invariant.ordered located in
    let one = room_missed g.K.Ord.cmp c.args.key c.args.self.now.entries (sym (ap (λ m. lookup (is_at (g.K.Ord.cmp c.args.key)) m.entries) c.self.view_is) ∙ none) in
    let room = room_left c.self.inside.chunks.chunks c.self.inside.chunks.blank c.args.self.now.spare (ap (λ m. m.spare) c.self.view_is) (omega (arith, one, c.requires)) in
    let gap = gap_at g.met.K.Ord.total c.args.key c.self.inside.chunks.chunks spot.chunk c.in-Err.at located in
    within_err g.met.K.Ord.total c.args.key c.self.inside.chunks.chunks spot.chunk c.in-Err.at located

pub put_in-requires-clause-blank : goal.put_in-requires-clause-blank
put_in-requires-clause-blank g c =
    let spot = c.in-Some.spot in
    let located = subst (λ xs. IsLocated g.K.Ord.cmp c.args.key xs spot.chunk (Err c.in-Err.at)) c.all.ensures (subst (IsLocated g.K.Ord.cmp c.args.key c.all.result.now spot.chunk) c.in-Err.is c.in-Some.ensures.some) in
    let none = value_missed g.met.K.Ord.total c.args.key c.self.inside.chunks.chunks spot.chunk c.in-Err.at c.self.invariant.ordered located in
    let one = room_missed g.K.Ord.cmp c.args.key c.args.self.now.entries (sym (ap (λ m. lookup (is_at (g.K.Ord.cmp c.args.key)) m.entries) c.self.view_is) ∙ none) in
    let room = room_left c.self.inside.chunks.chunks c.self.inside.chunks.blank c.args.self.now.spare (ap (λ m. m.spare) c.self.view_is) (omega (arith, one, c.requires)) in
    let gap = gap_at g.met.K.Ord.total c.args.key c.self.inside.chunks.chunks spot.chunk c.in-Err.at located in
    blank_left c.self.inside.chunks.chunks c.self.inside.chunks.blank c.self.invariant.close room

pub invariant_of-self-in-Err : goal.invariant_of-self-in-Err
invariant_of-self-in-Err g c =
    let spot = c.in-Some.spot in
    let located = subst (λ xs. IsLocated g.K.Ord.cmp c.args.key xs spot.chunk (Err c.in-Err.at)) c.all.ensures (subst (IsLocated g.K.Ord.cmp c.args.key c.all.result.now spot.chunk) c.in-Err.is c.in-Some.ensures.some) in
    let none = value_missed g.met.K.Ord.total c.args.key c.self.inside.chunks.chunks spot.chunk c.in-Err.at c.self.invariant.ordered located in
    let one = room_missed g.K.Ord.cmp c.args.key c.args.self.now.entries (sym (ap (λ m. lookup (is_at (g.K.Ord.cmp c.args.key)) m.entries) c.self.view_is) ∙ none) in
    let room = room_left c.self.inside.chunks.chunks c.self.inside.chunks.blank c.args.self.now.spare (ap (λ m. m.spare) c.self.view_is) (omega (arith, one, c.requires)) in
    let gap = gap_at g.met.K.Ord.total c.args.key c.self.inside.chunks.chunks spot.chunk c.in-Err.at located in
    put_chunked g.met.K.Ord.total c.args.key c.self.invariant (flat c.self.inside.chunks.chunks spot.chunk c.in-Err.at) gap c.args.value c.put_in.new.chunks.chunks c.put_in.ensures.entries c.put_in.new.chunks.blank c.put_in.ensures.filled c.put_in.ensures.close c.put_in.ensures.all room

pub invariant_of-self-in-None : goal.invariant_of-self-in-None
invariant_of-self-in-None g c =
    let nothing = sym c.all.ensures ∙ c.in-None.ensures.none refl in
    let none = ap (λ xs. length (joined xs)) nothing in
    let one = room_missed g.K.Ord.cmp c.args.key c.args.self.now.entries (sym (ap (λ m. lookup (is_at (g.K.Ord.cmp c.args.key)) m.entries) c.self.view_is) ∙ ap (λ xs. lookup (is_at (g.K.Ord.cmp c.args.key)) (joined xs)) nothing) in
    let room = room_left c.self.inside.chunks.chunks c.self.inside.chunks.blank c.args.self.now.spare (ap (λ m. m.spare) c.self.view_is) (omega (arith, one, c.requires)) in
    let empty = ap length nothing in
    begin_chunked g.K.Ord.cmp c.begin.new.self.chunks c.args.key c.args.value c.begin.new.self.blank c.self.inside.chunks.blank c.self.inside.count c.begin.ensures.chunks c.begin.ensures.blank (c.self.invariant.counted ∙ none)
    (omega (arith, room, empty)) (omega (arith, c.self.invariant.small, empty))

pub returns-in-Ok-clause-entries : goal.returns-in-Ok-clause-entries
returns-in-Ok-clause-entries g c =
    let spot = c.in-Some.spot in
    let located = subst (λ xs. IsLocated g.K.Ord.cmp c.args.key xs spot.chunk (Ok c.in-Ok.at)) c.all.ensures (subst (IsLocated g.K.Ord.cmp c.args.key c.all.result.now spot.chunk) c.in-Ok.is c.in-Some.ensures.some) in
    ap joined c.exchange.ensures.chunks
    ∙ write_entries g.met.K.Ord.total c.args.key c.self.invariant spot.chunk c.in-Ok.at c.args.value located
    ∙ ap (λ m. insert_entry g.K.Ord.cmp m.entries c.args.key c.args.value) c.self.view_is

pub returns-in-Ok-clause-spare : goal.returns-in-Ok-clause-spare
returns-in-Ok-clause-spare g c =
    let spot = c.in-Some.spot in
    let located = subst (λ xs. IsLocated g.K.Ord.cmp c.args.key xs spot.chunk (Ok c.in-Ok.at)) c.all.ensures (subst (IsLocated g.K.Ord.cmp c.args.key c.all.result.now spot.chunk) c.in-Ok.is c.in-Some.ensures.some) in
    let within = within_ok g.met.K.Ord.total c.args.key c.self.inside.chunks.chunks spot.chunk c.in-Ok.at located in
    let d = any_of (chunk_at c.self.inside.chunks.chunks spot.chunk) c.in-Ok.at within in
    let found = sym (ap (λ m. lookup (is_at (g.K.Ord.cmp c.args.key)) m.entries) c.self.view_is) ∙ (place_at g.met.K.Ord.total c.args.key c.self.inside.chunks.chunks spot.chunk c.in-Ok.at located).value d in
    let none = room_found g.K.Ord.cmp c.args.key c.args.self.now.entries _ found in
    let long = ap (λ xs. length (joined xs)) c.exchange.ensures.chunks ∙ write_length g.met.K.Ord.total c.args.key c.self.invariant spot.chunk c.in-Ok.at c.args.value located in
    let many = ap length c.exchange.ensures.chunks ∙ write_many g.met.K.Ord.total c.args.key c.self.invariant spot.chunk c.in-Ok.at c.args.value in
    let spare = (λ i. capacity (many i + c.exchange.ensures.blank i) - long i) ∙ ap (λ m. m.spare) c.self.view_is in
    omega (arith, none, spare)

pub returns-in-Ok-clause-all : goal.returns-in-Ok-clause-all
returns-in-Ok-clause-all g c =
    let spot = c.in-Some.spot in
    let located = subst (λ xs. IsLocated g.K.Ord.cmp c.args.key xs spot.chunk (Ok c.in-Ok.at)) c.all.ensures (subst (IsLocated g.K.Ord.cmp c.args.key c.all.result.now spot.chunk) c.in-Ok.is c.in-Some.ensures.some) in
    let long = ap (λ xs. length (joined xs)) c.exchange.ensures.chunks ∙ write_length g.met.K.Ord.total c.args.key c.self.invariant spot.chunk c.in-Ok.at c.args.value located in
    let many = ap length c.exchange.ensures.chunks ∙ write_many g.met.K.Ord.total c.args.key c.self.invariant spot.chunk c.in-Ok.at c.args.value in
    (λ i. capacity (many i + c.exchange.ensures.blank i) - long i + long i) ∙ ap (λ m. m.spare + length m.entries) c.self.view_is

pub returns-in-Err-clause-entries : goal.returns-in-Err-clause-entries
returns-in-Err-clause-entries g c =
    let spot = c.in-Some.spot in
    let located = subst (λ xs. IsLocated g.K.Ord.cmp c.args.key xs spot.chunk (Err c.in-Err.at)) c.all.ensures (subst (IsLocated g.K.Ord.cmp c.args.key c.all.result.now spot.chunk) c.in-Err.is c.in-Some.ensures.some) in
    let none = value_missed g.met.K.Ord.total c.args.key c.self.inside.chunks.chunks spot.chunk c.in-Err.at c.self.invariant.ordered located in
    let one = room_missed g.K.Ord.cmp c.args.key c.args.self.now.entries (sym (ap (λ m. lookup (is_at (g.K.Ord.cmp c.args.key)) m.entries) c.self.view_is) ∙ none) in
    let room = room_left c.self.inside.chunks.chunks c.self.inside.chunks.blank c.args.self.now.spare (ap (λ m. m.spare) c.self.view_is) (omega (arith, one, c.requires)) in
    let gap = gap_at g.met.K.Ord.total c.args.key c.self.inside.chunks.chunks spot.chunk c.in-Err.at located in
    put_entries g.met.K.Ord.total c.args.key c.self.invariant (flat c.self.inside.chunks.chunks spot.chunk c.in-Err.at) gap c.args.value c.put_in.new.chunks.chunks c.put_in.ensures.entries
    ∙ ap (λ m. insert_entry g.K.Ord.cmp m.entries c.args.key c.args.value) c.self.view_is

pub returns-in-Err-clause-spare : goal.returns-in-Err-clause-spare
returns-in-Err-clause-spare g c =
    let spot = c.in-Some.spot in
    let located = subst (λ xs. IsLocated g.K.Ord.cmp c.args.key xs spot.chunk (Err c.in-Err.at)) c.all.ensures (subst (IsLocated g.K.Ord.cmp c.args.key c.all.result.now spot.chunk) c.in-Err.is c.in-Some.ensures.some) in
    let none = value_missed g.met.K.Ord.total c.args.key c.self.inside.chunks.chunks spot.chunk c.in-Err.at c.self.invariant.ordered located in
    let one = room_missed g.K.Ord.cmp c.args.key c.args.self.now.entries (sym (ap (λ m. lookup (is_at (g.K.Ord.cmp c.args.key)) m.entries) c.self.view_is) ∙ none) in
    let room = room_left c.self.inside.chunks.chunks c.self.inside.chunks.blank c.args.self.now.spare (ap (λ m. m.spare) c.self.view_is) (omega (arith, one, c.requires)) in
    let gap = gap_at g.met.K.Ord.total c.args.key c.self.inside.chunks.chunks spot.chunk c.in-Err.at located in
    let long = put_length g.met.K.Ord.total c.args.key c.self.invariant (flat c.self.inside.chunks.chunks spot.chunk c.in-Err.at) gap c.args.value c.put_in.new.chunks.chunks c.put_in.ensures.entries in
    omega (arith, one, room, long, ap capacity c.put_in.ensures.all, ap (λ m. m.spare) c.self.view_is)

pub returns-in-Err-clause-all : goal.returns-in-Err-clause-all
returns-in-Err-clause-all g c =
    let spot = c.in-Some.spot in
    let located = subst (λ xs. IsLocated g.K.Ord.cmp c.args.key xs spot.chunk (Err c.in-Err.at)) c.all.ensures (subst (IsLocated g.K.Ord.cmp c.args.key c.all.result.now spot.chunk) c.in-Err.is c.in-Some.ensures.some) in
    let none = value_missed g.met.K.Ord.total c.args.key c.self.inside.chunks.chunks spot.chunk c.in-Err.at c.self.invariant.ordered located in
    let one = room_missed g.K.Ord.cmp c.args.key c.args.self.now.entries (sym (ap (λ m. lookup (is_at (g.K.Ord.cmp c.args.key)) m.entries) c.self.view_is) ∙ none) in
    let room = room_left c.self.inside.chunks.chunks c.self.inside.chunks.blank c.args.self.now.spare (ap (λ m. m.spare) c.self.view_is) (omega (arith, one, c.requires)) in
    let gap = gap_at g.met.K.Ord.total c.args.key c.self.inside.chunks.chunks spot.chunk c.in-Err.at located in
    let long = put_length g.met.K.Ord.total c.args.key c.self.invariant (flat c.self.inside.chunks.chunks spot.chunk c.in-Err.at) gap c.args.value c.put_in.new.chunks.chunks c.put_in.ensures.entries in
    omega (arith, one, room, long, ap capacity c.put_in.ensures.all, ap (λ m. m.spare) c.self.view_is, ap (λ m. length m.entries) c.self.view_is)

pub returns-in-Ok-clause-before : goal.returns-in-Ok-clause-before
returns-in-Ok-clause-before g c =
    let spot = c.in-Some.spot in
    let located = subst (λ xs. IsLocated g.K.Ord.cmp c.args.key xs spot.chunk (Ok c.in-Ok.at)) c.all.ensures (subst (IsLocated g.K.Ord.cmp c.args.key c.all.result.now spot.chunk) c.in-Ok.is c.in-Some.ensures.some) in
    let within = within_ok g.met.K.Ord.total c.args.key c.self.inside.chunks.chunks spot.chunk c.in-Ok.at located in
    let d = any_of (chunk_at c.self.inside.chunks.chunks spot.chunk) c.in-Ok.at within in
    let found = sym (ap (λ m. lookup (is_at (g.K.Ord.cmp c.args.key)) m.entries) c.self.view_is) ∙ (place_at g.met.K.Ord.total c.args.key c.self.inside.chunks.chunks spot.chunk c.in-Ok.at located).value d
    ∙ ap (λ e. Some e.1) (get_within c.self.inside.chunks.chunks spot.chunk c.in-Ok.at d located.inside within) in
    ap Some (c.exchange.ensures.before d) ∙ sym found

pub returns-in-Err-clause-before : goal.returns-in-Err-clause-before
returns-in-Err-clause-before g c =
    let spot = c.in-Some.spot in
    let located = subst (λ xs. IsLocated g.K.Ord.cmp c.args.key xs spot.chunk (Err c.in-Err.at)) c.all.ensures (subst (IsLocated g.K.Ord.cmp c.args.key c.all.result.now spot.chunk) c.in-Err.is c.in-Some.ensures.some) in
    let none = value_missed g.met.K.Ord.total c.args.key c.self.inside.chunks.chunks spot.chunk c.in-Err.at c.self.invariant.ordered located in
    sym none ∙ ap (λ m. lookup (is_at (g.K.Ord.cmp c.args.key)) m.entries) c.self.view_is

pub returns-in-None-clause-before : goal.returns-in-None-clause-before
returns-in-None-clause-before g c =
    let nothing = sym c.all.ensures ∙ c.in-None.ensures.none refl in
    sym (ap (λ xs. lookup (is_at (g.K.Ord.cmp c.args.key)) (joined xs)) nothing) ∙ ap (λ m. lookup (is_at (g.K.Ord.cmp c.args.key)) m.entries) c.self.view_is
