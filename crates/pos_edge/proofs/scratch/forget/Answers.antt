-- The test keeps what it was made with, so what it keeps is a filter.
use Rattle.std.proofs.Common.{◌==◌, not, rules}
use Rattle.std.proofs.lemmas.Bool.Decides.{nat_tests}
use Rattle.std.proofs.lemmas.Fn.{filter_same}
use Rattle.pos_edge.specs.declared.scratch.ScratchFile.{ScratchFile}
use Rattle.pos_edge.proofs.scratch.forget.Goals as goal

pub returns : goal.returns
returns c = filter_same _ (λ (kept : ScratchFile). not (kept.file.0 == c.args.file.0)) _ (λ x b f r. search (rules, nat_tests)) _ _ c.retain.ensures.filtered
