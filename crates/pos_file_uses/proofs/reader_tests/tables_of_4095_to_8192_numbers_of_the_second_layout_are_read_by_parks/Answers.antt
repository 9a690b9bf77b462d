use Rattle.std.proofs.Common.{arith}
use Rattle.pos_layout.specs.Layouts.{memo_of}
use Rattle.pos_file_uses.proofs.reader_tests.tables_of_4095_to_8192_numbers_of_the_second_layout_are_read_by_parks.Goals as goal

pub is_read_by_parks-requires-clause-memo : goal.is_read_by_parks-requires-clause-memo
unfolding memo_of
is_read_by_parks-requires-clause-memo g c = omega arith
