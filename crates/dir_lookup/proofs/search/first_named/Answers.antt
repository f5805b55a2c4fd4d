-- Sector after sector.
use Rattle.std.proofs.Common.{◌≡◌, ◌*◌, ◌-◌, ◌<◌, ◌≤◌, ℕ, Bool, Option, Err, slice_index, sym, ap, ◌∙◌, arith, rules}
use Rattle.std.specs.Option.{option_map}
use Rattle.disk_definitions.specs.Store.{StoredEntry}
use Rattle.disk_definitions.specs.Walks as walks
use Rattle.disk_definitions.specs.Walks.{is_named}
use Rattle.dir_lookup.specs.Reading.{reading, read_of}
use Rattle.dir_lookup.specs.Spots.{found_at}
use Rattle.dir_lookup.specs.Stored.{entries_at}
use Rattle.dir_lookup.proofs.Searches.{part_lacks, part_hits, part_passes, parts_end}
use Rattle.dir_lookup.proofs.SearchLooks.{seen_none, seen_lacks, seen_hits, seen_passes, seen_all}
use Rattle.dir_lookup.proofs.Steps.{said_ok, said_err}
use Rattle.dir_lookup.proofs.search.first_named.Goals as goal

pub returns-in_err-sector-clause-reads : goal.returns-in_err-sector-clause-reads
returns-in_err-sector-clause-reads c held =
    let small : ℕ → ℕ = slice_index c.args.directory.now.small in
    let test : Option StoredEntry → Bool = is_named c.args.name.now in
    let cached = c.args.sectors.now.entries in
    let end : ℕ = 8 * c.args.directory.now.blocks in
    let l : c.loop-j.j < end = omega arith in
    let e : c.from_residual.result ≡ Err c.in_err-sector.field-0.0 = search rules in
    ap (read_of (option_map found_at)) e
    ∙ part_lacks small test cached held (reading (walks.search small test 0 end) cached held) c.loop-j.j end c.in_err-sector.field-0.0.0.0 l
    (said_err entries_at c.part_at.result c.in_err-sector.field-0.0 _ c.in_err-sector.was (c.part_at.ensures.reads held)) (c.loop-j.invariant.reads held)

pub returns-in-Some-clause-reads : goal.returns-in-Some-clause-reads
returns-in-Some-clause-reads c held =
    let small : ℕ → ℕ = slice_index c.args.directory.now.small in
    let test : Option StoredEntry → Bool = is_named c.args.name.now in
    let cached = c.args.sectors.now.entries in
    let end : ℕ = 8 * c.args.directory.now.blocks in
    let l : c.loop-j.j < end = omega arith in
    part_hits small test cached held (reading (walks.search small test 0 end) cached held) c.loop-j.j end (entries_at c.in_ok-sector.sector) (found_at c.in-Some.found) l
    (said_ok entries_at c.part_at.result c.in_ok-sector.sector _ c.in_ok-sector.was (c.part_at.ensures.reads held))
    (sym (ap (option_map found_at) c.in-Some.is) ∙ c.named_in.ensures) (c.loop-j.invariant.reads held)

pub loop-j-init : goal.loop-j-init
loop-j-init c =
    let small : ℕ → ℕ = slice_index c.args.directory.now.small in
    let test : Option StoredEntry → Bool = is_named c.args.name.now in
    let cached = c.args.sectors.now.entries in
    let end : ℕ = 8 * c.args.directory.now.blocks in
    let z : end - 0 ≡ end = omega arith in
    record {
      reads = λ held. ap (λ n. reading (walks.search small test 0 n) cached held) z;
      looks = λ held. seen_none small test cached held end _;
    }

pub loop-j-preserved : goal.loop-j-preserved
loop-j-preserved c =
    let small : ℕ → ℕ = slice_index c.args.directory.now.small in
    let test : Option StoredEntry → Bool = is_named c.args.name.now in
    let cached = c.args.sectors.now.entries in
    let end : ℕ = 8 * c.args.directory.now.blocks in
    let l : c.loop-j.j < end = omega arith in
    record {
      reads = λ held.
          part_passes small test cached held (reading (walks.search small test 0 end) cached held) c.loop-j.j end (entries_at c.in_ok-sector.sector) l
          (said_ok entries_at c.part_at.result c.in_ok-sector.sector _ c.in_ok-sector.was (c.part_at.ensures.reads held))
          (sym (ap (option_map found_at) c.in_default.is) ∙ c.named_in.ensures) (c.loop-j.invariant.reads held);
      looks = λ held.
          seen_passes small test cached held c.loop-j.j end _ _ _ (c.loop-j.invariant.looks held) (c.part_at.ensures.looks held) (entries_at c.in_ok-sector.sector) l
          (said_ok entries_at c.part_at.result c.in_ok-sector.sector _ c.in_ok-sector.was (c.part_at.ensures.reads held)) (sym (ap (option_map found_at) c.in_default.is) ∙ c.named_in.ensures);
    }

pub returns-clause-reads : goal.returns-clause-reads
returns-clause-reads c held =
    let small : ℕ → ℕ = slice_index c.args.directory.now.small in
    let test : Option StoredEntry → Bool = is_named c.args.name.now in
    let cached = c.args.sectors.now.entries in
    let end : ℕ = 8 * c.args.directory.now.blocks in
    let l : end ≤ c.loop-j.j = omega arith in
    parts_end small test cached held (reading (walks.search small test 0 end) cached held) c.loop-j.j end l (c.loop-j.invariant.reads held)

pub returns-in_err-sector-clause-looks : goal.returns-in_err-sector-clause-looks
returns-in_err-sector-clause-looks c held =
    let small : ℕ → ℕ = slice_index c.args.directory.now.small in
    let test : Option StoredEntry → Bool = is_named c.args.name.now in
    let cached = c.args.sectors.now.entries in
    let end : ℕ = 8 * c.args.directory.now.blocks in
    let l : c.loop-j.j < end = omega arith in
    seen_lacks small test cached held c.loop-j.j end _ _ _ (c.loop-j.invariant.looks held) (c.part_at.ensures.looks held) c.in_err-sector.field-0.0.0.0 l
    (said_err entries_at c.part_at.result c.in_err-sector.field-0.0 _ c.in_err-sector.was (c.part_at.ensures.reads held))

pub returns-in-Some-clause-looks : goal.returns-in-Some-clause-looks
returns-in-Some-clause-looks c held =
    let small : ℕ → ℕ = slice_index c.args.directory.now.small in
    let test : Option StoredEntry → Bool = is_named c.args.name.now in
    let cached = c.args.sectors.now.entries in
    let end : ℕ = 8 * c.args.directory.now.blocks in
    let l : c.loop-j.j < end = omega arith in
    seen_hits small test cached held c.loop-j.j end _ _ _ (c.loop-j.invariant.looks held) (c.part_at.ensures.looks held) (entries_at c.in_ok-sector.sector) (found_at c.in-Some.found) l
    (said_ok entries_at c.part_at.result c.in_ok-sector.sector _ c.in_ok-sector.was (c.part_at.ensures.reads held)) (sym (ap (option_map found_at) c.in-Some.is) ∙ c.named_in.ensures)

pub returns-clause-looks : goal.returns-clause-looks
returns-clause-looks c held =
    let small : ℕ → ℕ = slice_index c.args.directory.now.small in
    let test : Option StoredEntry → Bool = is_named c.args.name.now in
    let cached = c.args.sectors.now.entries in
    let end : ℕ = 8 * c.args.directory.now.blocks in
    let l : end ≤ c.loop-j.j = omega arith in
    seen_all small test cached held c.loop-j.j end _ _ (c.loop-j.invariant.looks held) l
