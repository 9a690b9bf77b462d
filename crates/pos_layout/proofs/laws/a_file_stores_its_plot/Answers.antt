use Rattle.pos_layout.proofs.FileBytes.{file-are_bytes}
use Rattle.pos_layout.proofs.FilePlots.{file_memo, file_stores}
use Rattle.pos_layout.proofs.laws.a_file_stores_its_plot.Goals as goal

pub returns-clause-stores : goal.returns-clause-stores
returns-clause-stores c = λ l memo p allowed plot. file_stores l memo p allowed plot

pub returns-clause-well : goal.returns-clause-well
returns-clause-well c = λ l memo p allowed plot inside. record { stores = file_stores l memo p allowed plot; in_range = inside }

pub returns-clause-memo : goal.returns-clause-memo
returns-clause-memo c = λ l memo p allowed plot. file_memo l memo p allowed plot

pub returns-clause-bytes : goal.returns-clause-bytes
returns-clause-bytes c = λ l memo p allowed plot. file-are_bytes l memo p allowed plot
