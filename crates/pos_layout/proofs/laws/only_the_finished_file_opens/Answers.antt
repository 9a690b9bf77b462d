use Rattle.pos_layout.proofs.FileImages.{tiny_is_closed, shut_is_closed, but_gate_is_the_file, image_is_the_file}
use Rattle.pos_layout.proofs.laws.only_the_finished_file_opens.Goals as goal

pub returns-clause-tiny : goal.returns-clause-tiny
returns-clause-tiny c = tiny_is_closed

pub returns-clause-shut : goal.returns-clause-shut
returns-clause-shut c = shut_is_closed

pub returns-clause-finished : goal.returns-clause-finished
returns-clause-finished c = but_gate_is_the_file

pub returns-clause-any_image : goal.returns-clause-any_image
returns-clause-any_image c = image_is_the_file
