-- What is proved of the listing: turned to proofs, it is exactly the list of the proofs for a challenge.
use Rattle.std.specs.Prelude.{◌≡◌, ℕ, ◌+◌, ◌^◌, ◌≤◌, ◌<◌, List, [], length, slice_index_or}
use Rattle.pos_tuple.specs.Proof.{Proof}
use Rattle.pos_order.specs.Order.{Turning}
use Rattle.pos_order.specs.Quality.{quality_of, pair_quality}
use Rattle.pos_lists.specs.PlotLists.{PlotLists, count, NumbersRise}
use Rattle.pos_lists.specs.Trees.{IsInRange}
use Rattle.pos_laws.specs.PlotOf.{PlotOf}
use Rattle.pos_laws.specs.Listing.{listing, quality_pairs, Lists, AreTurned}

-- over the plot of an id, with at most 2 ^ (k + 1) numbers in table 6, each tuple of the listing has a turning
-- that is a proof
abbrev pub ListingTurns : Type 0
ListingTurns = (p : PlotLists) (id : List ℕ) (k : ℕ) (c : List ℕ) (i : ℕ) → PlotOf p id k → count p 6 ≤ 2 ^ (k + 1) →
    i < length (listing p c) → (zs : List ℕ) × Turning 6 zs (slice_index_or (listing p c) i []) × Proof id k c zs

-- these turnings, in the order of the listing, are exactly the proofs in plot order
abbrev pub TurnedListingIsTheList : Type 0
TurnedListingIsTheList = (p : PlotLists) (id : List ℕ) (k : ℕ) (c : List ℕ) (out : List (List ℕ)) → PlotOf p id k →
    count p 6 ≤ 2 ^ (k + 1) → AreTurned p c out → Lists id k c out

-- there is at most one list of the proofs
abbrev pub OneList : Type 0
OneList = (id : List ℕ) (k : ℕ) (c : List ℕ) (a b : List (List ℕ)) → Lists id k c a → Lists id k c b → a ≡ b

-- the quality of each listed proof is that of the listing's pair of values, over any plot in range whose numbers rise
abbrev pub PairsGiveTheQualities : Type 0
PairsGiveTheQualities = (p : PlotLists) (c : List ℕ) (out : List (List ℕ)) (i : ℕ) → NumbersRise p → IsInRange p →
    AreTurned p c out → i < length out →
    quality_of p.k c (slice_index_or out i [])
    ≡ pair_quality p.k c (slice_index_or (quality_pairs p c) i (0, 0)).0 (slice_index_or (quality_pairs p c) i (0, 0)).1
