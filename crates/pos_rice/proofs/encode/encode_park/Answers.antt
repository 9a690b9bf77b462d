use Rattle.pos_rice.proofs.CallLemmas.{encoded, near_first}
use Rattle.pos_rice.proofs.encode.encode_park.Goals as goal

pub put_steps-requires-clause-near : goal.put_steps-requires-clause-near
put_steps-requires-clause-near c = near_first c.args.k c.low_width-low.result c.args.numbers.now c.requires.numbers c.low_width-low.ensures.low

pub returns : goal.returns
returns c =
    encoded c.args.k c.low_width-low.result c.from.result c.args.numbers.now c.finish.result.items c.in_ok-writer.writer c.put.new.self c.put-2.new.self c.put_steps.new.writer
    c.requires.numbers c.low_width-low.ensures.low c.in_ok-writer.ensures c.in_ok-put.ensures.ok c.from.ensures c.in_ok-put-2.ensures.ok c.in_ok-put_steps.ensures c.finish.ensures
