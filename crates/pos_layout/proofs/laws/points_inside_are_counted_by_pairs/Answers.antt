use Rattle.pos_layout.proofs.LawsPoints.{inside_by_count}
use Rattle.pos_layout.proofs.laws.points_inside_are_counted_by_pairs.Goals as goal

pub returns : goal.returns
returns c = inside_by_count
