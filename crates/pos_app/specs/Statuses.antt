-- The statuses that a run ends with.
use Rattle.std.specs.Prelude.{ℕ}

-- all was done: the proof is accepted, the text is written
abbrev pub done_status : ℕ
done_status = 0

-- the proof is refused
abbrev pub refused_status : ℕ
refused_status = 1

-- the words are no command
abbrev pub usage_status : ℕ
usage_status = 2

-- the disk failed
abbrev pub disk_fault_status : ℕ
disk_fault_status = 3

-- the file is damaged
abbrev pub damage_status : ℕ
damage_status = 4

-- there is no such file, or there is one where there should be none
abbrev pub name_status : ℕ
name_status = 5

-- a table has too many entries
abbrev pub full_status : ℕ
full_status = 6

-- the sink failed
abbrev pub sink_fault_status : ℕ
sink_fault_status = 7

-- a record of a scratch file was read back out of its range
abbrev pub scratch_status : ℕ
scratch_status = 8

-- memory was wanting
abbrev pub memory_status : ℕ
memory_status = 9

-- a line of the list is not that of a name, or is one too many
abbrev pub list_status : ℕ
list_status = 11
