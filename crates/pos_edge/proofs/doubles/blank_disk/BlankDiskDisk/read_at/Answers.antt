-- It meets the contract by its counts and sizes.
use Rattle.std.proofs.Common.{ap, map, arith, Ok}
use Rattle.pos_edge.specs.BlankDisks.{quiet_of, size_if_live}
use Rattle.pos_edge.specs.Quiet.{QuietReads}
use Rattle.pos_edge.proofs.Quiets.{read_ids, read_kept, read_ok, read_reads, quiet_live}
use Rattle.pos_edge.proofs.doubles.blank_disk.BlankDiskDisk.read_at.Goals as goal

pub returns-clause-kept : goal.returns-clause-kept
returns-clause-kept c =
    let s = quiet_live _ c.requires.live in
    let g : QuietReads (quiet_of c.args.self.now) (Ok tt) (quiet_of c.read.new.self) = (omega arith, c.read.ensures.gives.0, ap (map size_if_live) c.read.ensures.gives.1) in
    read_kept (quiet_of c.args.self.now) (quiet_of c.read.new.self) c.args.file.0 s.0 s.1 (Ok tt) c.read.ensures.fits g

pub returns-clause-reads : goal.returns-clause-reads
returns-clause-reads c =
    let s = quiet_live _ c.requires.live in
    let g : QuietReads (quiet_of c.args.self.now) (Ok tt) (quiet_of c.read.new.self) = (omega arith, c.read.ensures.gives.0, ap (map size_if_live) c.read.ensures.gives.1) in
    read_reads (quiet_of c.args.self.now) (quiet_of c.read.new.self) c.args.file.0 s.0 s.1 (Ok tt) g

pub returns-clause-ids : goal.returns-clause-ids
returns-clause-ids c =
    let s = quiet_live _ c.requires.live in
    let g : QuietReads (quiet_of c.args.self.now) (Ok tt) (quiet_of c.read.new.self) = (omega arith, c.read.ensures.gives.0, ap (map size_if_live) c.read.ensures.gives.1) in
    read_ids (quiet_of c.args.self.now) (quiet_of c.read.new.self) c.args.file.0 s.0 s.1 (Ok tt) g

pub returns-clause-ok : goal.returns-clause-ok
returns-clause-ok c =
    let s = quiet_live _ c.requires.live in
    read_ok (quiet_of c.args.self.now) (quiet_of c.read.new.self) c.args.file.0 s.0 s.1 c.args.at c.read.new.buf (Ok tt)
