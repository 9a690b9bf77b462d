use Rattle.pos_layout.proofs.AnyReadings.{numbers_point_inside, any_file_reads_values}
use Rattle.pos_layout.proofs.laws.numbers_that_are_read_point_inside.Goals as goal

pub returns-clause-inside : goal.returns-clause-inside
returns-clause-inside c = numbers_point_inside

pub returns-clause-values : goal.returns-clause-values
returns-clause-values c = any_file_reads_values
