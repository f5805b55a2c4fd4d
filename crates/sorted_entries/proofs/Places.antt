-- The place of a key among entries whose order tells keys apart: the entry there has that key.
use Rattle.std.proofs.Common.{◌≡◌, ℕ, zero, suc, ◌<◌, List, [], ◌∷◌, length, get_or, set, Some, Ok, sym, ap, ◌∙◌, arith}
use Rattle.std.specs.List.{remove}
use Rattle.std.specs.Map.{lookup, remove_entry}
use Rattle.std.specs.BTreeMap.{insert_entry, is_at}
use Rattle.std.specs.Ordering.{is_eq}
use Rattle.std.specs.declared.cmp.Ordering.{Ordering}
use Rattle.sorted_entries.specs.Places.{IsKeyOrder, place_of, overwritten}
use Rattle.sorted_entries.proofs.Spots as spots

-- where the key stands, another value with it is another value there
set_is : {K V : Type 0} (key : K) (entries : List (K × V)) (at : ℕ) (value : V) → at < length entries → ((d : K × V) → (get_or entries at d).0 ≡ key) → set entries at (key, value) ≡ overwritten entries at value
set_is key [] at value inside is = absurd (omega arith)
set_is key (entry ∷ entries) zero value inside is = ap (λ k. (k, value) ∷ entries) (sym (is entry))
set_is key (entry ∷ entries) (suc at) value inside is = ap (λ rest. entry ∷ rest) (set_is key entries at value (omega arith) is)

module _ {K V : Type 0} {cmp : K → K → Ordering} (order : IsKeyOrder cmp) (key : K) where
  pub record IsPlace (entries : List (K × V)) (at : ℕ) : Type 0 where
    pub inside : at < length entries
    pub key_is : (d : K × V) → (get_or entries at d).0 ≡ key
    pub value : (d : K × V) → lookup (is_at (cmp key)) entries ≡ Some (get_or entries at d).1
    pub writes : (value : V) → set entries at (key, value) ≡ insert_entry cmp entries key value
    pub removes : remove entries at ≡ remove_entry (is_at (cmp key)) entries

  pub place_found : (entries : List (K × V)) (at : ℕ) → place_of cmp key entries ≡ Ok at → IsPlace entries at
  place_found entries at e =
      let place = spots.place_found order.total key entries at e in
      let key_is = λ (d : K × V). order.exact key (get_or entries at d).0 (ap is_eq (place.equal d)) in record {
        inside = place.inside;
        key_is = key_is;
        value = place.value;
        writes = λ value. set_is key entries at value place.inside key_is ∙ place.writes value;
        removes = place.removes;
      }
