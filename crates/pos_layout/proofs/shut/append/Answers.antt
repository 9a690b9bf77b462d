-- A write past the gate of a file with a closed gate, at its end.
use Rattle.std.proofs.Common.{subst, arith}
use Rattle.pos_layout.specs.Images.{HoldsShut}
use Rattle.pos_gate.proofs.GateLemmas.{written_end, on_ok}
use Rattle.pos_layout.proofs.shut.append.Goals as goal

pub write_past-requires-clause-held : goal.write_past-requires-clause-held
write_past-requires-clause-held g c = let held = c.requires.held in (held.0, held.1, omega (arith, held.2))

pub write_past-requires-clause-behind : goal.write_past-requires-clause-behind
write_past-requires-clause-behind g c = let held = c.requires.held in let long = held.1.shut.0 in omega (arith, held.2)

pub returns-clause-ok : goal.returns-clause-ok
returns-clause-ok g c =
    on_ok c.write_past.result (λ wrote b held e.
    subst (λ s. HoldsShut c.args.file.0 s (g.D.Disk.view c.write_past.new.disk)) (written_end c.args.at c.args.piece.now b e) (wrote b held (omega arith)))
    c.write_past.ensures.ok
