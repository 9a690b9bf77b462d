use Rattle.std.proofs.Common.{◌≡◌, ◌++◌, map, take}
use Rattle.pos_relocate.specs.Numbers.{numbers_of}
use Rattle.pos_relocate.specs.Blocks.{AreApartOver, pointed_of}
use Rattle.pos_relocate.proofs.blocks.add_pointed.Given as goal

-- the first i pairs were put behind their points
abbrev pub invariant-loop-i : goal.invariant-loop-i
invariant-loop-i g l = record {
  put : map g.P.Pointed.pair l.entries.items ≡ map g.P.Pointed.pair l.initial.entries.items ++ pointed_of (numbers_of l.below) (take l.i l.pairs);
  apart : AreApartOver (numbers_of l.below) (take l.i l.pairs);
}
