-- What a crash may leave of a plot file while it is written: that of any file with a gate.
-- Source: this project's plot file format: byte 0, the gate, is 0 until all else is on the disk.
pub use Rattle.pos_gate.specs.Gates.{IsTiny, IsShut, IsTinyOrShut, IsButGate, IsShutOr, EachImageOf, HasBytes, IsFresh, HoldsShut, Holds}
