-- The refusals of the layers below in the words of an audit.
use Rattle.pos_edge.specs.declared.disk.OpenFault.{OpenFault}
use Rattle.pos_edge.specs.declared.disk.OpenFault.TheVariants.{Absent as IsNotThere, Failed, Memory as OpenMemory}
use Rattle.pos_plot.specs.declared.fault.Name.TheVariants.{Plot, Scratch as ScratchFile}
use Rattle.pos_plot.specs.declared.fault.PlotFault.{PlotFault}
use Rattle.pos_plot.specs.declared.fault.PlotFault.TheVariants.{Exists as IsTaken, TableFull as PlotFull, DiskFailed as PlottingFailed, Scratch as PlotDamage, Memory as PlotMemory}
use Rattle.pos_reader.specs.declared.refusal.OpenRefusal.{OpenRefusal}
use Rattle.pos_reader.specs.declared.refusal.OpenRefusal.TheVariants.{Absent as NoFile, DiskFailed as OpeningFailed, Damage as OpensDamaged, Memory as OpeningMemory}
use Rattle.pos_audit.specs.declared.fault.AuditName.TheVariants.{Second, Scratch as ScratchName}
use Rattle.pos_audit.specs.declared.fault.AuditFault.{AuditFault}
use Rattle.pos_audit.specs.declared.fault.AuditFault.TheVariants.{Absent, Lost, Exists, TableFull, DiskFailed, Damage, Scratch, Memory}

-- of the opening of the plot
abbrev pub of_opening : OpenRefusal → AuditFault
of_opening NoFile = Absent
of_opening OpeningFailed = DiskFailed
of_opening (OpensDamaged damage) = Damage damage
of_opening OpeningMemory = Memory

-- of the making of the second file
abbrev pub of_plotting : PlotFault → AuditFault
of_plotting (IsTaken Plot) = Exists Second
of_plotting (IsTaken (ScratchFile number)) = Exists (ScratchName number)
of_plotting (PlotFull table) = TableFull table
of_plotting PlottingFailed = DiskFailed
of_plotting (PlotDamage damage) = Scratch damage
of_plotting PlotMemory = Memory

-- of the opening of the second file
abbrev pub of_open : OpenFault → AuditFault
of_open IsNotThere = Lost
of_open Failed = DiskFailed
of_open OpenMemory = Memory
