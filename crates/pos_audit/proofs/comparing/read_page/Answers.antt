-- What was read is a page of the file.
use Rattle.std.proofs.Common.{◌≡◌, ◌≤◌, ◌∙◌, length, drop, arith}
use Rattle.std.proofs.lemmas.List.{length-take-le, take_at}
use Rattle.pos_audit.specs.declared.comparing.TheConstants.{PAGE}
use Rattle.pos_audit.proofs.ComparingLemmas.{page_is}
use Rattle.pos_audit.proofs.comparing.read_page.Goals as goal

pub returns-clause-bytes : goal.returns-clause-bytes
returns-clause-bytes g c = λ b h.
    let n = c.min-count.result in
    let got = c.read_at.new.buf in
    let few : n ≤ length c.args.page.now = let e = c.min-count.ensures in let room = c.requires.page in omega arith in
    let len : length got ≡ n = c.read_at.auto.buf ∙ length-take-le n c.args.page.now few in
    take_at got (drop n c.args.page.now) n len
    ∙ page_is b got c.args.at c.min-start.result n c.size-size.result PAGE (c.size-size.ensures ∙ h.size) c.min-start.ensures c.min-count.ensures len
    (c.in_ok-read_at.ensures.ok h.name b h.named h.contents)
