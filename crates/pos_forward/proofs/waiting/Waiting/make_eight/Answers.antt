use Rattle.std.proofs.Common.{◌-◌, List, refl, sym, subst, ap₂, ◌∙◌}
use Rattle.std.specs.List.{All}
use Rattle.std.specs.Simd.Lanes.{zip2}
use Rattle.pos_tuple.specs.declared.entry.Entry.{Entry}
use Rattle.pos_tuple.specs.Node.{IsEntry, next_entry}
use Rattle.pos_forward.proofs.GatherLemmas.{made-whole, whole-eight}
use Rattle.pos_forward.proofs.waiting.Waiting.make_eight.Goals as goal

pub fx8-made-requires-clause-left : goal.fx8-made-requires-clause-left
fx8-made-requires-clause-left c =
    subst (All (IsEntry c.args.size (c.args.t - 1))) (whole-eight c.args.self.now.count c.args.self.now.left c.requires.eight c.requires.room.lefts) c.requires.fit.left

pub fx8-made-requires-clause-right : goal.fx8-made-requires-clause-right
fx8-made-requires-clause-right c =
    subst (All (IsEntry c.args.size (c.args.t - 1))) (whole-eight c.args.self.now.count c.args.self.now.right c.requires.eight c.requires.room.rights) c.requires.fit.right

pub returns-clause-made : goal.returns-clause-made
returns-clause-made c = record {
  made =
      made-whole c.args.size c.args.t c.fx8-made.result _ c.args.self.now.pairs _ c.args.drafts.now c.add_made.new.drafts
      (c.fx8-made.ensures.entries
      ∙ sym (ap₂ (λ (a b : List Entry). zip2 (next_entry c.args.size c.args.t) a b)
      (whole-eight c.args.self.now.count c.args.self.now.left c.requires.eight c.requires.room.lefts)
      (whole-eight c.args.self.now.count c.args.self.now.right c.requires.eight c.requires.room.rights)))
      (sym (whole-eight c.args.self.now.count c.args.self.now.pairs c.requires.eight c.requires.room.places))
      c.in_ok-add_made.ensures;
  none = refl;
  room = record { lefts = c.requires.room.lefts; rights = c.requires.room.rights; places = c.requires.room.places };
}
