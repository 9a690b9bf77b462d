-- The faults of the layers below in the words of a plotting run.
use Rattle.pos_edge.specs.declared.disk.CreateFault.{CreateFault}
use Rattle.pos_edge.specs.declared.disk.CreateFault.TheVariants.{Exists as IsTaken, Failed as CreateFailed, Memory as CreateMemory}
use Rattle.pos_edge.specs.declared.scratch.WorkFault.{WorkFault}
use Rattle.pos_edge.specs.declared.scratch.WorkFault.TheVariants.{Exists as ScratchExists, DiskFailed as WorkFailed, Scratch as WorkDamage, Memory as WorkMemory}
use Rattle.pos_forward.specs.declared.faults.ForwardFault.{ForwardFault}
use Rattle.pos_forward.specs.declared.faults.ForwardFault.TheVariants.{TableFull as ForwardFull, Work}
use Rattle.pos_plot.specs.declared.fault.Name.TheVariants.{Plot, Scratch as ScratchFile}
use Rattle.pos_plot.specs.declared.fault.PlotFault.{PlotFault}
use Rattle.pos_plot.specs.declared.fault.PlotFault.TheVariants.{Exists, TableFull, DiskFailed, Scratch, Memory}

-- of the making of the plot file
abbrev pub of_create : CreateFault → PlotFault
of_create IsTaken = Exists Plot
of_create CreateFailed = DiskFailed
of_create CreateMemory = Memory

-- of work on scratch files
abbrev pub of_work : WorkFault → PlotFault
of_work (ScratchExists file) = Exists (ScratchFile file)
of_work WorkFailed = DiskFailed
of_work (WorkDamage damage) = Scratch damage
of_work WorkMemory = Memory

-- of the making of tables
abbrev pub of_forward : ForwardFault → PlotFault
of_forward (ForwardFull table) = TableFull table
of_forward (Work fault) = of_work fault
