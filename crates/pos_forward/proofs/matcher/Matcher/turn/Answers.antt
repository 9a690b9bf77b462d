use Rattle.std.proofs.Common.{◌≡◌, ◌+◌, length, ap, refl, subst, ◌∙◌}
use Rattle.pos_forward.specs.Waiting.{IsEmptyBucket}
use Rattle.pos_forward.proofs.TakenLemmas.{moved}
use Rattle.pos_forward.proofs.matcher.Matcher.turn.Goals as goal

pub returns : goal.returns
returns c =
    let old = c.args.self.now in
    let count : old.right.first + c.len.result ≡ old.right.first + length old.right.entries.items =
    ap (λ n. old.right.first + n) (c.len.ensures ∙ old.right.entries.ok.0) in
    record {
      pairs = λ k t es drafts h.
          moved k t es old drafts c.swap.new.x c.begin.new.self c.args.next h c.swap.ensures.x_after
          (subst (λ n. IsEmptyBucket n c.args.next c.begin.new.self) count c.begin.ensures) c.requires.behind c.requires.small;
      empty = c.begin.ensures.entries;
      next_is = c.begin.ensures.next_is;
      waiting = refl;
    }
