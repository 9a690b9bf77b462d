-- A disk that tells nothing meets the contract by what `read` gives.
use Rattle.pos_edge.proofs.Quiets.{read_quiet, read_failed, read_ids, read_kept, read_ok, read_reads, quiet_live}
use Rattle.pos_host.proofs.disk.HostDiskDisk.read_at.Goals as goal

pub returns-clause-kept : goal.returns-clause-kept
returns-clause-kept g c =
    let s = quiet_live _ c.requires.live in
    read_kept c.args.self.now c.read.new.self c.args.file.0 s.0 s.1 c.read.result c.read.ensures.fits c.read.ensures.gives

pub returns-clause-reads : goal.returns-clause-reads
returns-clause-reads g c =
    let s = quiet_live _ c.requires.live in
    read_reads c.args.self.now c.read.new.self c.args.file.0 s.0 s.1 c.read.result c.read.ensures.gives

pub returns-clause-ids : goal.returns-clause-ids
returns-clause-ids g c =
    let s = quiet_live _ c.requires.live in
    read_ids c.args.self.now c.read.new.self c.args.file.0 s.0 s.1 c.read.result c.read.ensures.gives

pub returns-clause-ok : goal.returns-clause-ok
returns-clause-ok g c =
    let s = quiet_live _ c.requires.live in
    read_ok c.args.self.now c.read.new.self c.args.file.0 s.0 s.1 c.args.at c.read.new.buf c.read.result

pub returns-clause-failed : goal.returns-clause-failed
returns-clause-failed g c =
    let s = quiet_live _ c.requires.live in
    read_failed c.args.self.now c.read.new.self c.args.file.0 s.0 s.1 c.read.result c.read.ensures.gives

pub returns-clause-quiet : goal.returns-clause-quiet
returns-clause-quiet g c =
    let s = quiet_live _ c.requires.live in
    read_quiet c.args.self.now c.read.new.self c.args.file.0 s.0 s.1 c.read.result c.read.ensures.gives
