-- Several calls of which each leaves the count of faults as it was, unless it answers the disk's failure.
use Rattle.std.proofs.Common.{ℕ, ◌≤◌, Result, Ok, Err, ◌∙◌, arith}
use Rattle.pos_edge.specs.Faults.{Rose}
use Rattle.pos_edge.specs.View.{View}
use Rattle.pos_edge.specs.Frame.{SameFaults, SameFaultsBut}

-- a call after others that went well
pub faults_then : {X E : Type 0} (fault : E) (r : Result X E) (a b c : View) → SameFaults a b → SameFaultsBut fault r b c → SameFaultsBut fault r a c
faults_then fault (Ok x) a b c p q = q ∙ p
faults_then fault (Err e) a b c p q = λ other. q other ∙ p

-- a count that rose has risen since every earlier moment, and at every later one
pub Rose-since : (a b c : ℕ) → a ≤ b → Rose b c → Rose a c
Rose-since a b c earlier rose = omega arith

pub Rose-until : (a b c : ℕ) → Rose a b → b ≤ c → Rose a c
Rose-until a b c rose later = omega arith
