-- A disk that tells nothing meets the contract by what `write` gives.
use Rattle.std.proofs.Common.{◌+◌, length}
use Rattle.pos_edge.proofs.Quiets.{write_quiet, quiet_images, write_failed, write_ids, write_kept, write_memory, write_ok, write_reads, quiet_live}
use Rattle.pos_host.proofs.disk.HostDiskDisk.write_at.Goals as goal

pub returns-clause-kept : goal.returns-clause-kept
returns-clause-kept g c =
    let s = quiet_live _ c.requires.live in
    write_kept c.args.self.now c.write.new.self c.args.file.0 s.0 s.1 (c.args.at + length c.args.bytes.now) c.write.result (c.write.ensures s.0 s.1)

pub returns-clause-reads : goal.returns-clause-reads
returns-clause-reads g c =
    let s = quiet_live _ c.requires.live in
    write_reads c.args.self.now c.write.new.self c.args.file.0 s.0 s.1 (c.args.at + length c.args.bytes.now) c.write.result (c.write.ensures s.0 s.1)

pub returns-clause-ids : goal.returns-clause-ids
returns-clause-ids g c =
    let s = quiet_live _ c.requires.live in
    write_ids c.args.self.now c.write.new.self c.args.file.0 s.0 s.1 (c.args.at + length c.args.bytes.now) c.write.result (c.write.ensures s.0 s.1)

pub returns-clause-memory : goal.returns-clause-memory
returns-clause-memory g c =
    let s = quiet_live _ c.requires.live in
    write_memory c.args.self.now c.write.new.self c.args.file.0 s.0 s.1 (c.args.at + length c.args.bytes.now) c.write.result (c.write.ensures s.0 s.1)

pub returns-clause-images : goal.returns-clause-images
returns-clause-images g c =
    let s = quiet_live _ c.requires.live in
    quiet_images c.args.self.now c.write.new.self c.args.file.0 s.0 s.1 _

pub returns-clause-ok : goal.returns-clause-ok
returns-clause-ok g c =
    let s = quiet_live _ c.requires.live in
    write_ok c.args.self.now c.write.new.self c.args.file.0 s.0 s.1 c.args.at c.args.bytes.now c.write.result (c.write.ensures s.0 s.1)

pub returns-clause-failed : goal.returns-clause-failed
returns-clause-failed g c =
    let s = quiet_live _ c.requires.live in
    write_failed c.args.self.now c.write.new.self c.args.file.0 s.0 s.1 c.args.at (length c.args.bytes.now) c.write.result (c.write.ensures s.0 s.1)

pub returns-clause-quiet : goal.returns-clause-quiet
returns-clause-quiet g c =
    let s = quiet_live _ c.requires.live in
    write_quiet c.args.self.now c.write.new.self c.args.file.0 s.0 s.1 (c.args.at + length c.args.bytes.now) c.write.result (c.write.ensures s.0 s.1)
