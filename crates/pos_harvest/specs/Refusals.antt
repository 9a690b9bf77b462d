-- Why nothing is listed, by why a place was not read. This is for private functions; no public clause speaks of it.
use Rattle.pos_reader.specs.declared.refusal.ReadRefusal.{ReadRefusal}
use Rattle.pos_reader.specs.declared.refusal.ReadRefusal.TheVariants.{DiskFailed, Damage as Found}
use Rattle.pos_harvest.specs.declared.refusal.ListRefusal.{ListRefusal}
use Rattle.pos_harvest.specs.declared.refusal.ListRefusal.TheVariants.{DiskFailed as ListDiskFailed, Damage as ListFound}

-- the same refusal
abbrev pub listed_refusal : ReadRefusal → ListRefusal
listed_refusal DiskFailed = ListDiskFailed
listed_refusal (Found d) = ListFound d
