-- What the two pages show.
use Rattle.std.proofs.Common.{take, subst}
use Rattle.pos_layout.specs.Bytes.{part}
use Rattle.pos_audit.specs.Comparisons.{PageAnswer}
use Rattle.pos_audit.specs.declared.comparing.TheConstants.{PAGE}
use Rattle.pos_audit.proofs.ComparingLemmas.{holds_file_read}
use Rattle.pos_audit.proofs.comparing.compare_pages.Goals as goal

pub returns-clause-answer : goal.returns-clause-answer
returns-clause-answer g c = λ b d h k.
    let first = c.in_ok-found_count.ensures.bytes b h in
    let later = holds_file_read c.args.want.0 d _ _ c.in_ok-found_count.ensures.look.reads.kept c.requires.want.live k in
    let second = c.in_ok-want_count.ensures.bytes d later in
    subst (λ ys. PageAnswer c.args.at (part b c.args.at PAGE) ys c.difference.result) second
    (subst (λ xs. PageAnswer c.args.at xs (take c.in_ok-want_count.want_count c.read_page-2.new.page) c.difference.result) first c.difference.ensures)
