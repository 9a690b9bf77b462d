use Rattle.std.proofs.Common.{ℕ, sym, ap₂, subst}
use Rattle.pos_forward.specs.declared.drafts.Draft.{Draft}
use Rattle.pos_forward.specs.Drafts.{HasDraftBits}
use Rattle.pos_forward.proofs.EntryLemmas.{draft-bits}
use Rattle.pos_forward.proofs.entries.draft_from.Goals as goal

pub returns-clause-draft : goal.returns-clause-draft
returns-clause-draft c =
    let make : ℕ → ℕ → Draft = λ a b. record { y = c.args.entry.now.y; high = a; low = b; left = c.args.pair.0; right = c.args.pair.1 } in
    ap₂ make c.metadata_parts-high.ensures.high c.metadata_parts-high.ensures.low

pub returns-clause-fits : goal.returns-clause-fits
returns-clause-fits c =
    subst (λ (d : Draft). HasDraftBits c.args.size c.args.t d) (sym (returns-clause-draft c))
    (draft-bits c.args.size c.args.t c.args.entry.now c.args.pair c.requires.entry)
