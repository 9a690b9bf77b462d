use Rattle.pos_buckets.proofs.PlaceLemmas.{clear-new}
use Rattle.pos_buckets.proofs.places.Places.new.Goals as goal

pub returns : goal.returns
returns c =
    clear-new _ _ (c.in-Ok.ensures.items_if_clones_equal (λ y e. e)) (c.in-Ok-vec.ensures.items_if_clones_equal (λ y e. e))
