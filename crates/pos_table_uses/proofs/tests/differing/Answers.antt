use Rattle.std.proofs.Common.{◌+◌, ◌≤◌, ◌∙◌, arith}
use Rattle.pos_marks.proofs.MarkLemmas.{reads_none}
use Rattle.pos_prune.proofs.PassLemmas.{reads_then}
use Rattle.pos_table_uses.proofs.tests.differing.Goals as goal
use Rattle.pos_table_uses.proofs.tests.differing.Goals.{then-branch-noted, else-branch-noted}

pub loop-i-init : goal.loop-i-init
loop-i-init g c = record {
  only = reads_none (g.D.Disk.view c.args.disk.now);
  stands = c.requires.stands;
  sealed = c.requires.sealed;
  places = c.requires.places;
  few = omega arith;
}

pub loop-i-preserved : goal.loop-i-preserved
loop-i-preserved g c =
    let now = c.loop-i.invariant in
    let got = c.in_ok-has.ensures in
    let few : c.if-branch-noted.differing ≤ c.loop-i.i + 1 = elim c.if-branch-noted.branch [
      | then-branch-noted w ↦ (let before = now.few in let more = w.differing-is in omega arith)
      | else-branch-noted w ↦ (let before = now.few in let same = w.differing-is in omega arith)
    ] in
    record {
      only = reads_then (g.D.Disk.view c.args.disk.now) (g.D.Disk.view c.loop-i.disk) (g.D.Disk.view c.has.new.disk) now.only got.only_reads;
      stands = (now.stands.0, got.marked now.stands.0 now.stands.1);
      sealed = got.sealed;
      places = got.same.places ∙ now.places;
      few = few;
    }
