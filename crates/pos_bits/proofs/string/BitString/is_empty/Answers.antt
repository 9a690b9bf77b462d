use Rattle.std.proofs.Common.{◌≡◌, ap, sym, ◌∙◌, eq-eqb, eqb-true, length}
use Rattle.std.proofs.lemmas.List.{nil_from_length}
use Rattle.pos_bits.proofs.HeldLemmas.{held-len}
use Rattle.pos_bits.proofs.string.BitString.is_empty.Goals as goal

pub returns : goal.returns
returns c =
    let l : length c.args.self.now ≡ c.self.inside.len = held-len c.self.inside.words c.self.inside.len c.args.self.now c.self.invariant c.self.view_is in
    ((λ h. nil_from_length c.args.self.now (l ∙ eqb-true _ _ h)), (λ h. eq-eqb c.self.inside.len 0 (sym l ∙ ap length h)))
