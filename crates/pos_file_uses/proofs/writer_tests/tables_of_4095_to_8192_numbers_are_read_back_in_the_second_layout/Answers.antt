use Rattle.std.proofs.Common.{arith}
use Rattle.pos_layout.specs.Layouts.{memo_of}
use Rattle.pos_file_uses.proofs.writer_tests.tables_of_4095_to_8192_numbers_are_read_back_in_the_second_layout.Goals as goal

pub is_read_back-requires-clause-memo : goal.is_read_back-requires-clause-memo
unfolding memo_of
is_read_back-requires-clause-memo g c = omega arith
