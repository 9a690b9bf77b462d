-- The refusals of the layers below in the words of a conversion.
use Rattle.pos_edge.specs.declared.disk.CreateFault.{CreateFault}
use Rattle.pos_edge.specs.declared.disk.CreateFault.TheVariants.{Exists as IsTaken, Failed as CreateFailed, Memory as CreateMemory}
use Rattle.pos_edge.specs.declared.scratch.WorkFault.{WorkFault}
use Rattle.pos_edge.specs.declared.scratch.WorkFault.TheVariants.{Exists as ScratchExists, DiskFailed as WorkFailed, Scratch as WorkDamage, Memory as WorkMemory}
use Rattle.pos_reader.specs.declared.refusal.ReadRefusal.{ReadRefusal}
use Rattle.pos_reader.specs.declared.refusal.ReadRefusal.TheVariants.{DiskFailed as ReadFailed, Damage as Found}
use Rattle.pos_convert.specs.declared.fault.ConvertFault.{ConvertFault}
use Rattle.pos_convert.specs.declared.fault.ConvertFault.TheVariants.{Exists, DiskFailed, Damage, Memory}

-- of the making of the new file
abbrev pub of_create : CreateFault → ConvertFault
of_create IsTaken = Exists
of_create CreateFailed = DiskFailed
of_create CreateMemory = Memory

-- of the writing of it, which uses no scratch files
abbrev pub of_work : WorkFault → ConvertFault
of_work (ScratchExists file) = Memory
of_work WorkFailed = DiskFailed
of_work (WorkDamage damage) = Memory
of_work WorkMemory = Memory

-- of the reading of the old file
abbrev pub of_reading : ReadRefusal → ConvertFault
of_reading ReadFailed = DiskFailed
of_reading (Found damage) = Damage damage
