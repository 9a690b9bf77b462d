use Rattle.std.proofs.Common.{refl}
use Rattle.pos_forward.proofs.waiting.Waiting.make_rest.Goals as goal

pub returns : goal.returns
returns c = record {
  made = c.in_ok-make_each.ensures;
  none = refl;
  room = record { lefts = c.requires.few.room.lefts; rights = c.requires.few.room.rights; places = c.requires.few.room.places };
}
