-- How many bytes each FileId of the real disk knows of; None: it has ended.
use Rattle.std.specs.Prelude.{ℕ, List, map, Option, option_map}
use Rattle.pos_host.specs.declared.open.HostFile.{HostFile}

abbrev pub sizes_of : List (Option HostFile) → List (Option ℕ)
sizes_of handles = map (option_map (λ file. file.size)) handles
