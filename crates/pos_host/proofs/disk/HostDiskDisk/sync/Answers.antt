-- A disk that tells nothing meets the contract by what `settle` gives.
use Rattle.pos_edge.proofs.Quiets.{sync_quiet, quiet_contents, quiet_images, sync_failed, sync_ids, sync_kept, sync_ok, sync_reads, quiet_live}
use Rattle.pos_host.proofs.disk.HostDiskDisk.sync.Goals as goal

pub returns-clause-kept : goal.returns-clause-kept
returns-clause-kept g c =
    let s = quiet_live _ c.requires.live in
    sync_kept c.args.self.now c.settle.new.self c.args.file.0 s.0 s.1 c.settle.result c.settle.ensures

pub returns-clause-reads : goal.returns-clause-reads
returns-clause-reads g c =
    let s = quiet_live _ c.requires.live in
    sync_reads c.args.self.now c.settle.new.self c.args.file.0 s.0 s.1 c.settle.result c.settle.ensures

pub returns-clause-ids : goal.returns-clause-ids
returns-clause-ids g c =
    let s = quiet_live _ c.requires.live in
    sync_ids c.args.self.now c.settle.new.self c.args.file.0 s.0 s.1 c.settle.result c.settle.ensures

pub returns-clause-failed : goal.returns-clause-failed
returns-clause-failed g c =
    let s = quiet_live _ c.requires.live in
    sync_failed c.args.self.now c.settle.new.self c.args.file.0 s.0 s.1 c.settle.result c.settle.ensures

pub returns-clause-contents : goal.returns-clause-contents
returns-clause-contents g c =
    let s = quiet_live _ c.requires.live in
    quiet_contents c.args.self.now c.settle.new.self c.args.file.0 s.0 s.1

pub returns-clause-images : goal.returns-clause-images
returns-clause-images g c =
    let s = quiet_live _ c.requires.live in
    quiet_images c.args.self.now c.settle.new.self c.args.file.0 s.0 s.1 _

pub returns-clause-ok : goal.returns-clause-ok
returns-clause-ok g c =
    let s = quiet_live _ c.requires.live in
    sync_ok c.args.self.now c.settle.new.self c.args.file.0 s.0 s.1 c.settle.result

pub returns-clause-quiet : goal.returns-clause-quiet
returns-clause-quiet g c =
    let s = quiet_live _ c.requires.live in
    sync_quiet c.args.self.now c.settle.new.self c.args.file.0 s.0 s.1 c.settle.result c.settle.ensures
