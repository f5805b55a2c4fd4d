-- The plans of write and fill fit the disk.
use Rattle.std.proofs.Common.{ℕ, ◌≡◌, ◌<◌, ◌≤◌, ◌-◌, ◌^◌, ◌==◌, ◌&&◌, Bool, true, false, nat_lt, max, if◌then◌else◌, Option, Some, None, List, [], length, slice_index, refl, sym, arith}
use Rattle.std.proofs.lemmas.Bool.Decides.{nat_tests}
use Rattle.std.specs.Map.{keys_of}
use Rattle.frang_base.specs.declared.reply.Reply.TheVariants as reply
use Rattle.tree_definitions.specs.Tree.{FileTree, small_blocks_of}
use Rattle.disk_definitions.specs.Store.{Store, StoredNode}
use Rattle.disk_definitions.specs.Naming.{Naming}
use Rattle.disk_definitions.specs.Picks.{picked_many, picked_large}
use Rattle.disk_definitions.specs.Plans.{Hand, refused, read_held}
use Rattle.disk_definitions.specs.FilePlans.{Writing, end_of, directory_blocks, writing_in, writing_picked, writing_small, writing_large, writing}
use Rattle.disk_definitions.specs.Meets.{IsOfTree, IsHandOf, directory_blocks_in}
use Rattle.plan_laws.proofs.Asking.{run-segments}
use Rattle.plan_laws.proofs.Taking.{large_some, small_some}
use Rattle.plan_fit.specs.FitFiles.{WriteFits, FillFits}
use Rattle.plan_fit.proofs.Refused.{Fits, refuse_fits, none_fits}
use Rattle.plan_fit.proofs.FileNodes.{fit_file}
use Rattle.plan_fit.proofs.Aimed.{IsFile, file_fits}
use Rattle.plan_fit.proofs.Placing.{ArePicks, TakesLarge, in_fits}

module _ (h : Hand) (s : Store) (tree : FileTree) (n : Naming) (of : IsOfTree s tree n) (hand : IsHandOf h s tree.segments) (w : Writing) (late : w.when < 2 ^ 64) (i : ℕ) (touched : List ℕ) (x : StoredNode) (file : IsFile tree.segments s i x) where
  abbrev g : ℕ
  g = tree.segments

  abbrev size : ℕ
  size = max x.size (end_of w)

  abbrev more : ℕ
  more = small_blocks_of size - x.blocks

  abbrev Takes : Option ℕ → Type 0
  Takes o = TakesLarge g x size o

  none_picked : more ≡ 0 → ArePicks g more []
  none_picked z = record { size = sym z; within = λ j l. absurd (omega arith) }

  are_picked : (picks : List ℕ) → picked_many h.held more ≡ Some picks → ArePicks g more picks
  are_picked picks e =
      let r = (small_some h s tree n of hand (directory_blocks_in s tree.segments) more picks refl e).0 in
      let count : length picks ≡ more = r.size in
      record { size = count; within = λ j l. r.within j (omega arith) }

  module _ (inside : end_of w ≤ 1114112) where
    longer : end_of w ≤ size
    longer = omega arith

    most : size ≤ 1114112
    most = let f = fit_file x file.fit file.kind in let m : x.size ≤ 1114112 = f.size in omega (arith, inside)

    placed : (picks : List ℕ) → ArePicks g more picks → (o : Option ℕ) → Takes o → Fits h g s (writing_in w i touched x picks o)
    placed picks are o takes = in_fits h g of.few s i touched x file w size late longer most picks are o takes refl

    picked_fits : (o : Option ℕ) → Takes o → (p : Option (List ℕ)) → picked_many h.held more ≡ p → Fits h g s (writing_picked h w i touched x o p)
    picked_fits o takes None e = none_fits h g s (reply.NoBlock (directory_blocks h.held)) touched
    picked_fits o takes (Some picks) e = placed picks (are_picked picks e) o takes

    small_fits : (o : Option ℕ) → Takes o → Fits h g s (writing_small h w i touched x o)
    small_fits o takes = go (more == 0) refl
      where
        go : (c : Bool) → more == 0 ≡ c → Fits h g s (if c then writing_in w i touched x [] o else read_held h (writing_picked h w i touched x o (picked_many h.held more)))
        go true e = placed [] (none_picked (grind (arith, nat_tests))) o takes
        go false e = rw (run-segments (keys_of h.held) (writing_picked h w i touched x o (picked_many h.held more)) s) (picked_fits o takes (picked_many h.held more) refl)

    large_fits : (p : Option ℕ) → picked_large h.held ≡ p → Fits h g s (writing_large h w i touched x p)
    large_fits None e = none_fits h g s reply.NoLarge touched
    large_fits (Some k) e = small_fits (Some k) (large_some h s tree n of hand k e).1

    -- where no large block is needed the file has one, if it is long
    has_one : (a b : Bool) → nat_lt 65536 (end_of w) ≡ a → x.large == 0 ≡ b → (a && b) ≡ false → Takes None
    has_one true true e f z l = absurd (cc)
    has_one true false e f z l = grind (arith, nat_tests)
    has_one false b e f z l = by_size (nat_lt 65536 x.size) refl (fit_file x file.fit file.kind).large
      where
        by_size : (c : Bool) → nat_lt 65536 x.size ≡ c → (if c then nat_lt 0 x.large else x.large == 0) ≡ true → 0 < x.large
        by_size true q t = grind (arith, nat_tests)
        by_size false q t = absurd (let a : x.size ≤ 65536 = grind (arith, nat_tests) in let d : end_of w ≤ 65536 = grind (arith, nat_tests) in omega arith)

    sized_fits : (c : Bool) → (nat_lt 65536 (end_of w) && x.large == 0) ≡ c → Fits h g s (if c then read_held h (writing_large h w i touched x (picked_large h.held)) else writing_small h w i touched x None)
    sized_fits true e = rw (run-segments (keys_of h.held) (writing_large h w i touched x (picked_large h.held)) s) (large_fits (picked_large h.held) refl)
    sized_fits false e = small_fits None (has_one (nat_lt 65536 (end_of w)) (x.large == 0) refl refl e)

  pub writing_fits : Fits h g s (writing h w i touched x)
  writing_fits = go (nat_lt x.size w.off) (nat_lt 1114112 (end_of w)) refl
    where
      go : (a b : Bool) → nat_lt 1114112 (end_of w) ≡ b → Fits h g s (if a then refused reply.BadOffset touched else (if b then refused reply.TooBig touched
          else (if nat_lt 65536 (end_of w) && x.large == 0 then read_held h (writing_large h w i touched x (picked_large h.held)) else writing_small h w i touched x None)))
      go true b e = refuse_fits h g s reply.BadOffset touched
      go false true e = refuse_fits h g s reply.TooBig touched
      go false false e = sized_fits (grind (arith, nat_tests)) (nat_lt 65536 (end_of w) && x.large == 0) refl

pub write_fits : WriteFits
write_fits path off bytes h s tree n birth when of hand fit small late allowed =
    let w : Writing = record { off = off; len = length bytes; when = when; byte = λ j. slice_index bytes (j - off) } in
    file_fits h s tree n of fit (writing h w) (λ i touched x file. writing_fits h s tree n of hand w late i touched x file) path

pub fill_fits : FillFits
fill_fits path off len byte h s tree n birth when of hand fit small late allowed =
    let w : Writing = record { off = off; len = len; when = when; byte = λ j. byte } in
    file_fits h s tree n of fit (writing h w) (λ i touched x file. writing_fits h s tree n of hand w late i touched x file) path
