-- A disk that tells nothing meets the contract by what `take` gives.
use Rattle.pos_edge.proofs.Quiets.{remove_quiet, quiet_images, quiet_left, remove_ends, remove_failed, remove_kept, remove_ok, remove_reads, quiet_live}
use Rattle.pos_host.proofs.disk.HostDiskDisk.remove.Goals as goal

pub returns-clause-kept : goal.returns-clause-kept
returns-clause-kept g c =
    let s = quiet_live _ c.requires.live in
    remove_kept c.args.self.now c.take.new.self c.args.file.0 s.0 s.1 c.take.result c.take.ensures

pub returns-clause-reads : goal.returns-clause-reads
returns-clause-reads g c =
    let s = quiet_live _ c.requires.live in
    remove_reads c.args.self.now c.take.new.self c.args.file.0 s.0 s.1 c.take.result c.take.ensures

pub returns-clause-ends : goal.returns-clause-ends
returns-clause-ends g c =
    let s = quiet_live _ c.requires.live in
    remove_ends c.args.self.now c.take.new.self c.args.file.0 s.0 s.1 c.take.result c.take.ensures

pub returns-clause-failed : goal.returns-clause-failed
returns-clause-failed g c =
    let s = quiet_live _ c.requires.live in
    remove_failed c.args.self.now c.take.new.self c.args.file.0 s.0 s.1 c.take.result c.take.ensures

pub returns-clause-images : goal.returns-clause-images
returns-clause-images g c =
    let s = quiet_live _ c.requires.live in
    quiet_images c.args.self.now c.take.new.self c.args.file.0 s.0 s.1 _

pub returns-clause-ok : goal.returns-clause-ok
returns-clause-ok g c =
    let s = quiet_live _ c.requires.live in
    remove_ok c.args.self.now c.take.new.self c.args.file.0 s.0 s.1 c.take.result

pub returns-clause-left : goal.returns-clause-left
returns-clause-left g c =
    let s = quiet_live _ c.requires.live in
    quiet_left c.args.self.now c.take.new.self c.args.file.0 s.0 s.1

pub returns-clause-quiet : goal.returns-clause-quiet
returns-clause-quiet g c =
    let s = quiet_live _ c.requires.live in
    remove_quiet c.args.self.now c.take.new.self c.args.file.0 s.0 s.1 c.take.result c.take.ensures
