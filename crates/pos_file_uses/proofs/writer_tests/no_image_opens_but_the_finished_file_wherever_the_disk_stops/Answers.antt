use Rattle.std.proofs.Common.{arith}
use Rattle.pos_layout.specs.Layouts.{memo_of}
use Rattle.pos_file_uses.proofs.writer_tests.no_image_opens_but_the_finished_file_wherever_the_disk_stops.Goals as goal

pub stops_anywhere-requires-2 : goal.stops_anywhere-requires-2
unfolding memo_of
stops_anywhere-requires-2 g c = omega arith
