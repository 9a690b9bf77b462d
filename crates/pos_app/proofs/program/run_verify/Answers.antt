use Rattle.std.proofs.Common.{◌≡◌, ◌∙◌, inl}
use Rattle.pos_app.specs.Texts.{verdict_line}
use Rattle.pos_app.proofs.program.run_verify.Goals as goal

pub returns-in-Ok-clause-verdict : goal.returns-in-Ok-clause-verdict
returns-in-Ok-clause-verdict g c =
    let text : c.as_bytes.result.now ≡ verdict_line c.judge-verdict.result = c.as_bytes.ensures.value ∙ c.in-Ok.ensures in
    inl (
      c.judge-verdict.result,
      c.judge-verdict.ensures.right,
      rw (c.status_of.ensures.status, text) at c.say.ensures.said,
    )
