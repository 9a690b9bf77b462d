use Rattle.std.proofs.Common.{arith}
use Rattle.pos_layout.specs.Layouts.{memo_of}
use Rattle.pos_file_uses.proofs.writer_tests.a_memo_of_two_bytes_stands_at_byte_176_and_moves_all_behind_it.Goals as goal

pub written-requires-clause-memo : goal.written-requires-clause-memo
unfolding memo_of
written-requires-clause-memo g c = omega arith
