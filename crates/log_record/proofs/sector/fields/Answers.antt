-- Each field stands at its place.
use Rattle.std.proofs.Common.{◌≡◌, ◌≤◌, ℕ, List, length, drop, refl, ap, ◌∙◌, arith}
use Rattle.std.proofs.lemmas.Slice.{between_to_end}
use Rattle.std.specs.List.{between}
use Rattle.byteorder.specs.Endian.{little_number}
use Rattle.sector_bytes.specs.Bytes.{number_at}
use Rattle.disk_definitions.specs.LogSectors.{log_sector_fields}
use Rattle.log_record.proofs.sector.fields.Goals as goal

same_fields : {s o p q u : ℕ} {body : List ℕ} (block : List ℕ)
    → s ≡ number_at 8 0 block → o ≡ number_at 8 8 block → p ≡ number_at 2 16 block → q ≡ number_at 2 18 block → u ≡ number_at 2 20 block
    → body ≡ drop 24 block
    → record { seq = s; op = record { 0 = o }; part = p; parts = q; used = u; body = body } ≡ log_sector_fields block
same_fields block s o p q u body = rw (s, o, p, q, u, body) refl

-- the number in what is lent from a place on
number_from : (n place : ℕ) (block : List ℕ) → length block ≤ 512 → little_number n (between place 512 block) ≡ number_at n place block
number_from n place block h = ap (little_number n) (between_to_end block place 512 h)

pub returns : goal.returns
returns c =
    let b = c.args.b.now in
    let h : length b ≤ 512 = omega arith in
    same_fields b
    c.read_u64.ensures
    (c.read_u64-2.ensures ∙ number_from 8 8 b h)
    (c.read_u16.ensures ∙ number_from 2 16 b h)
    (c.read_u16-2.ensures ∙ number_from 2 18 b h)
    (c.read_u16-3.ensures ∙ number_from 2 20 b h)
    c.body_of.ensures
