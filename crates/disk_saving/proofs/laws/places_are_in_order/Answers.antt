-- The laws of the definition.
use Rattle.disk_saving.proofs.Places.{place_in_range, place_numbered, places_ascend}
use Rattle.disk_saving.proofs.laws.places_are_in_order.Goals as goal

pub returns : goal.returns
returns c = record {
  ascending = places_ascend;
  in_range = place_in_range;
  all = λ segments r t. let numbered = place_numbered segments r t in (numbered.number, numbered.below, numbered.at);
}
