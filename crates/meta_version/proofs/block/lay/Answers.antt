-- One patch after the other, and then the version.
use Rattle.std.proofs.Common.{rules, List, ◌≤◌, length, ◌∷◌, [], ◌+◌, drop, ap, sym, ◌∙◌, subst}
use Rattle.std.proofs.lemmas.List.{drop_all}
use Rattle.frang_base.specs.declared.change.Patch.{Patch}
use Rattle.sector_bytes.specs.Blocks.{patched}
use Rattle.meta_version.proofs.BlockBytes.{FitFrom, all_fit, next_fits, rest_fit, one_more, versioned}
use Rattle.meta_version.proofs.block.lay.Goals as goal

pub loop-patch-init : goal.loop-patch-init
loop-patch-init c = record {
  rest = search rules;
  fit = subst (λ patches. FitFrom patches 0) (sym c.as_slice-patch-items.ensures) (all_fit c.args.change.now c.requires);
}

pub write-requires : goal.write-requires
write-requires c =
    let patch = c.patch-item.result in
    let fits = next_fits c.as_slice-patch-items.result.now c.loop-patch.patch-index patch c.loop-patch-test.true c.loop-patch.invariant.fit in
    subst (λ p. p.at + length p.bytes ≤ 512) (sym c.patch-item.is) fits

pub loop-patch-preserved : goal.loop-patch-preserved
loop-patch-preserved c =
    let patches = c.as_slice-patch-items.result.now in
    let i = c.loop-patch.patch-index in
    let patch = c.patch-item.result in record {
      rest = ap (λ block. patched (drop (i + 1) patches) block) (c.write.ensures ∙ ap (λ p. patched (p ∷ []) c.loop-patch.block) c.patch-item.is)
          ∙ one_more c.loop-patch.block patches i patch c.loop-patch-test.true
          ∙ c.loop-patch.invariant.rest;
      fit = rest_fit patches i patch c.loop-patch-test.true c.loop-patch.invariant.fit;
    }

pub returns : goal.returns
returns c =
    let patches = c.as_slice-patch-items.result.now in
    let laid = ap (λ (ps : List Patch). patched ps c.loop-patch.block) (sym (drop_all c.loop-patch.patch-index patches c.loop-patch-test.false))
    ∙ c.loop-patch.invariant.rest
    ∙ ap (λ (ps : List Patch). patched ps c.args.block.now) c.as_slice-patch-items.ensures in
    c.write_u64.ensures ∙ versioned c.args.block.now c.loop-patch.block c.args.change.now laid c.requires
