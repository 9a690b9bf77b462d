use Rattle.std.proofs.Common.{◌<◌, ◌≤◌, length, sym, ap, ◌∙◌, arith}
use Rattle.pos_table_uses.proofs.ReadingLemmas.{read_then, still_stand}
use Rattle.pos_table_uses.proofs.tests.find_reached.Goals as goal

-- numbers, found where nothing else is known
size : 640 < 9223372036854775808
size = omega arith

from_7 : 2 ≤ 7
from_7 = omega arith

to_7 : 7 ≤ 7
to_7 = omega arith

from_6 : 2 ≤ 6
from_6 = omega arith

to_6 : 6 ≤ 7
to_6 = omega arith

from_5 : 2 ≤ 5
from_5 = omega arith

to_5 : 5 ≤ 7
to_5 = omega arith

from_4 : 2 ≤ 4
from_4 = omega arith

to_4 : 4 ≤ 7
to_4 = omega arith

from_3 : 2 ≤ 3
from_3 = omega arith

to_3 : 3 ≤ 7
to_3 = omega arith

pub named_by-requires : goal.named_by-requires
named_by-requires g c =
    (size, (c.requires.size, (from_7, (to_7, (c.requires.stands, ap length c.deref.ensures.value ∙ (c.in_ok-all.ensures ∙ c.count.ensures))))))

pub named_by-requires-2 : goal.named_by-requires-2
named_by-requires-2 g c =
    let s1 = still_stand g.row.K c.args.tables.now c.named_by.new.tables (g.D.Disk.view c.args.disk.now) (g.D.Disk.view c.named_by.new.disk) c.in_ok-t6.ensures.read c.requires.stands in
    (size, (c.requires.size, (from_6, (to_6, (s1, ap length c.deref-2.ensures.value ∙ (c.in_ok-t6.ensures.count ∙ sym (c.in_ok-t6.ensures.read.lists.count 5)))))))

pub named_by-requires-3 : goal.named_by-requires-3
named_by-requires-3 g c =
    let s1 = still_stand g.row.K c.args.tables.now c.named_by.new.tables (g.D.Disk.view c.args.disk.now) (g.D.Disk.view c.named_by.new.disk) c.in_ok-t6.ensures.read c.requires.stands in
    let s2 = still_stand g.row.K c.named_by.new.tables c.named_by-2.new.tables (g.D.Disk.view c.named_by.new.disk) (g.D.Disk.view c.named_by-2.new.disk) c.in_ok-t5.ensures.read s1 in
    (size, (c.requires.size, (from_5, (to_5, (s2, ap length c.deref-3.ensures.value ∙ (c.in_ok-t5.ensures.count ∙ sym (c.in_ok-t5.ensures.read.lists.count 4)))))))

pub named_by-requires-4 : goal.named_by-requires-4
named_by-requires-4 g c =
    let s1 = still_stand g.row.K c.args.tables.now c.named_by.new.tables (g.D.Disk.view c.args.disk.now) (g.D.Disk.view c.named_by.new.disk) c.in_ok-t6.ensures.read c.requires.stands in
    let s2 = still_stand g.row.K c.named_by.new.tables c.named_by-2.new.tables (g.D.Disk.view c.named_by.new.disk) (g.D.Disk.view c.named_by-2.new.disk) c.in_ok-t5.ensures.read s1 in
    let s3 = still_stand g.row.K c.named_by-2.new.tables c.named_by-3.new.tables (g.D.Disk.view c.named_by-2.new.disk) (g.D.Disk.view c.named_by-3.new.disk) c.in_ok-t4.ensures.read s2 in
    (size, (c.requires.size, (from_4, (to_4, (s3, ap length c.deref-4.ensures.value ∙ (c.in_ok-t4.ensures.count ∙ sym (c.in_ok-t4.ensures.read.lists.count 3)))))))

pub named_by-requires-5 : goal.named_by-requires-5
named_by-requires-5 g c =
    let s1 = still_stand g.row.K c.args.tables.now c.named_by.new.tables (g.D.Disk.view c.args.disk.now) (g.D.Disk.view c.named_by.new.disk) c.in_ok-t6.ensures.read c.requires.stands in
    let s2 = still_stand g.row.K c.named_by.new.tables c.named_by-2.new.tables (g.D.Disk.view c.named_by.new.disk) (g.D.Disk.view c.named_by-2.new.disk) c.in_ok-t5.ensures.read s1 in
    let s3 = still_stand g.row.K c.named_by-2.new.tables c.named_by-3.new.tables (g.D.Disk.view c.named_by-2.new.disk) (g.D.Disk.view c.named_by-3.new.disk) c.in_ok-t4.ensures.read s2 in
    let s4 = still_stand g.row.K c.named_by-3.new.tables c.named_by-4.new.tables (g.D.Disk.view c.named_by-3.new.disk) (g.D.Disk.view c.named_by-4.new.disk) c.in_ok-t3.ensures.read s3 in
    (size, (c.requires.size, (from_3, (to_3, (s4, ap length c.deref-5.ensures.value ∙ (c.in_ok-t3.ensures.count ∙ sym (c.in_ok-t3.ensures.read.lists.count 2)))))))

pub returns-clause-read : goal.returns-clause-read
returns-clause-read g c =
    let r2 = read_then g.row.K c.args.tables.now c.named_by.new.tables c.named_by-2.new.tables (g.D.Disk.view c.args.disk.now) (g.D.Disk.view c.named_by.new.disk) (g.D.Disk.view c.named_by-2.new.disk) c.in_ok-t6.ensures.read c.in_ok-t5.ensures.read in
    let r3 = read_then g.row.K c.args.tables.now c.named_by-2.new.tables c.named_by-3.new.tables (g.D.Disk.view c.args.disk.now) (g.D.Disk.view c.named_by-2.new.disk) (g.D.Disk.view c.named_by-3.new.disk) r2 c.in_ok-t4.ensures.read in
    let r4 = read_then g.row.K c.args.tables.now c.named_by-3.new.tables c.named_by-4.new.tables (g.D.Disk.view c.args.disk.now) (g.D.Disk.view c.named_by-3.new.disk) (g.D.Disk.view c.named_by-4.new.disk) r3 c.in_ok-t3.ensures.read in
    let r5 = read_then g.row.K c.args.tables.now c.named_by-4.new.tables c.named_by-5.new.tables (g.D.Disk.view c.args.disk.now) (g.D.Disk.view c.named_by-4.new.disk) (g.D.Disk.view c.named_by-5.new.disk) r4 c.in_ok-t2.ensures.read in
    r5

pub returns-clause-of_table_2 : goal.returns-clause-of_table_2
returns-clause-of_table_2 g c =
    let r2 = read_then g.row.K c.args.tables.now c.named_by.new.tables c.named_by-2.new.tables (g.D.Disk.view c.args.disk.now) (g.D.Disk.view c.named_by.new.disk) (g.D.Disk.view c.named_by-2.new.disk) c.in_ok-t6.ensures.read c.in_ok-t5.ensures.read in
    let r3 = read_then g.row.K c.args.tables.now c.named_by-2.new.tables c.named_by-3.new.tables (g.D.Disk.view c.args.disk.now) (g.D.Disk.view c.named_by-2.new.disk) (g.D.Disk.view c.named_by-3.new.disk) r2 c.in_ok-t4.ensures.read in
    let r4 = read_then g.row.K c.args.tables.now c.named_by-3.new.tables c.named_by-4.new.tables (g.D.Disk.view c.args.disk.now) (g.D.Disk.view c.named_by-3.new.disk) (g.D.Disk.view c.named_by-4.new.disk) r3 c.in_ok-t3.ensures.read in
    c.in_ok-t2.ensures.count ∙ r4.lists.count 1

pub returns-clause-of_table_3 : goal.returns-clause-of_table_3
returns-clause-of_table_3 g c =
    let r2 = read_then g.row.K c.args.tables.now c.named_by.new.tables c.named_by-2.new.tables (g.D.Disk.view c.args.disk.now) (g.D.Disk.view c.named_by.new.disk) (g.D.Disk.view c.named_by-2.new.disk) c.in_ok-t6.ensures.read c.in_ok-t5.ensures.read in
    let r3 = read_then g.row.K c.args.tables.now c.named_by-2.new.tables c.named_by-3.new.tables (g.D.Disk.view c.args.disk.now) (g.D.Disk.view c.named_by-2.new.disk) (g.D.Disk.view c.named_by-3.new.disk) r2 c.in_ok-t4.ensures.read in
    c.in_ok-t3.ensures.count ∙ r3.lists.count 2

pub returns-clause-of_table_4 : goal.returns-clause-of_table_4
returns-clause-of_table_4 g c =
    let r2 = read_then g.row.K c.args.tables.now c.named_by.new.tables c.named_by-2.new.tables (g.D.Disk.view c.args.disk.now) (g.D.Disk.view c.named_by.new.disk) (g.D.Disk.view c.named_by-2.new.disk) c.in_ok-t6.ensures.read c.in_ok-t5.ensures.read in
    c.in_ok-t4.ensures.count ∙ r2.lists.count 3

pub returns-clause-of_table_5 : goal.returns-clause-of_table_5
returns-clause-of_table_5 g c =
    c.in_ok-t5.ensures.count ∙ c.in_ok-t6.ensures.read.lists.count 4

pub returns-clause-of_table_6 : goal.returns-clause-of_table_6
returns-clause-of_table_6 g c = c.in_ok-t6.ensures.count
