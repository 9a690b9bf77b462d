use Rattle.std.proofs.Common.{◌≡◌, ◌+◌, ◌-◌, ◌∙◌, length, drop, arith}
use Rattle.std.proofs.lemmas.List.{length-take-le, length-drop}
use Rattle.std.proofs.lemmas.Slice.{drop-put_mid}
use Rattle.pos_order.proofs.values.put.Goals as goal

pub returns-clause-rest : goal.returns-clause-rest
returns-clause-rest c =
    let len : length c.copy_from_slice.new.self ≡ c.args.at + length c.args.piece.now - c.args.at =
    c.copy_from_slice.ensures.len ∙ length-take-le (c.args.at + length c.args.piece.now - c.args.at) (drop c.args.at c.args.bytes.now) (rw length-drop (omega arith)) in
    drop-put_mid c.args.at (c.args.at + length c.args.piece.now - c.args.at) c.args.bytes.now c.copy_from_slice.new.self (c.args.at + length c.args.piece.now)
    (omega arith) (omega arith) len
