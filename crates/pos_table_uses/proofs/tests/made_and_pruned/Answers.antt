use Rattle.std.proofs.Common.{◌≡◌, ◌+◌, ◌<◌, ◌≤◌, ℕ, List, [], ◌∷◌, sym, ap, subst, arith}
use Rattle.pos_edge.specs.View.{View}
use Rattle.pos_edge.specs.ScratchNames.{ScratchState, StandsOn, fresh_scratch}
use Rattle.pos_table_uses.proofs.tests.made_and_pruned.Goals as goal

-- numbers, found where nothing else is known
size : 640 < 9223372036854775808
size = omega arith

room_left : (from made : ℕ) → from ≡ 0 → made ≤ from + 40 → made ≤ 9960
room_left from made none few = omega arith

-- no file was made yet
fresh_stands : (base : List ℕ) (v : View) → StandsOn (fresh_scratch base) v
fresh_stands base v = record {
  few = omega arith;
  below = λ k d h. absurd (omega arith);
  apart = tt;
  live = λ k d h. absurd (omega arith);
  named = λ told k d h. absurd (omega arith);
}

pub pruned-requires : goal.pruned-requires
pruned-requires g c =
    let s = c.in-Ok.scratch in
    let made = c.in_ok-tables.ensures in
    let fresh : s ≡ fresh_scratch (115 ∷ []) = c.in-Ok.ensures in
    let stands : StandsOn s (g.D.Disk.view c.args.disk.now) = subst (λ (x : ScratchState). StandsOn x (g.D.Disk.view c.args.disk.now)) (sym fresh) (fresh_stands (115 ∷ []) (g.D.Disk.view c.args.disk.now)) in
    let none : s.made ≡ 0 = ap (λ (x : ScratchState). x.made) fresh in
    let ts = made.made.tables in
    (size, (c.requires, (room_left s.made c.forward.new.scratch.made none made.work.most, (made.work.stands stands, (made.made.left, (ts.0, ts.1, λ told. (ts.2 told).inside))))))
