-- The first page that differs, or the end of both files.
use Rattle.std.proofs.Common.{◌*◌, ◌≤◌, refl, arith}
use Rattle.pos_audit.specs.declared.comparing.TheConstants.{PAGE}
use Rattle.pos_audit.proofs.ComparingLemmas.{pages_reach, so_far_all, so_far_differs, so_far_next}
use Rattle.pos_audit.proofs.comparing.compare.Goals as goal

pub returns-in-Some-clause-compared : goal.returns-in-Some-clause-compared
returns-in-Some-clause-compared g c =
    so_far_differs c.args.found.0 c.args.want.0 c.loop-number.number (c.loop-number.number * PAGE) _ _ (g.D.Disk.view c.compare_pages.new.disk)
    c.loop-number.invariant.far c.requires.found c.requires.want refl c.in_ok-answer.answer c.in-Some.difference c.in-Some.is c.in_ok-answer.ensures.answer

pub loop-number-preserved : goal.loop-number-preserved
loop-number-preserved g c = record {
  far = so_far_next c.args.found.0 c.args.want.0 c.loop-number.number (c.loop-number.number * PAGE) _ _ (g.D.Disk.view c.compare_pages.new.disk)
      c.loop-number.invariant.far c.requires.found c.requires.want refl c.in_ok-answer.answer c.in-None.is c.in_ok-answer.ensures.look c.in_ok-answer.ensures.answer;
  page = c.in_ok-answer.ensures.page;
  other = c.in_ok-answer.ensures.other;
}

pub returns-clause-compared : goal.returns-clause-compared
returns-clause-compared g c =
    let all : c.div_ceil-pages.result ≤ c.loop-number.number = omega arith in
    let reach = pages_reach c.max-longest.result c.div_ceil-pages.result c.loop-number.number c.div_ceil-pages.ensures all in
    let one : c.size-length.result ≤ PAGE * c.loop-number.number = omega arith in
    let two : c.size.result ≤ PAGE * c.loop-number.number = omega arith in
    so_far_all c.args.found.0 c.args.want.0 c.loop-number.number c.size-length.result c.size.result _ _ c.loop-number.invariant.far c.size-length.ensures c.size.ensures one two
