use Rattle.std.proofs.Common.{ap, ap₂, ◌∙◌, refl, arith}
use Rattle.pos_blake3.specs.Blake3.{rounds, halves_joined, word_bytes}
use Rattle.pos_blake3.proofs.LaneLemmas.{block_hash}
use Rattle.pos_blake3.proofs.lanes.hash4.Goals as goal

pub returns : goal.returns
returns c =
    let lane_a =
    c.bytes_of.ensures
    ∙ ap word_bytes (c.words_in_lane.ensures
    ∙ c.halves_of4-words.ensures 0 (omega arith)
    ∙ ap halves_joined (c.compress4-state.ensures 0 (omega arith)
    ∙ ap₂ (rounds 7) (c.starts_of.ensures 0 (omega arith)) c.messages_of-message.ensures.lane_a))
    ∙ block_hash c.args.a.now c.args.len c.requires.short (omega arith) c.requires.zeros_a
    in
    let lane_b =
    c.bytes_of-2.ensures
    ∙ ap word_bytes (c.words_in_lane-2.ensures
    ∙ c.halves_of4-words.ensures 1 (omega arith)
    ∙ ap halves_joined (c.compress4-state.ensures 1 (omega arith)
    ∙ ap₂ (rounds 7) (c.starts_of.ensures 1 (omega arith)) c.messages_of-message.ensures.lane_b))
    ∙ block_hash c.args.b.now c.args.len c.requires.short (omega arith) c.requires.zeros_b
    in
    let lane_c =
    c.bytes_of-3.ensures
    ∙ ap word_bytes (c.words_in_lane-3.ensures
    ∙ c.halves_of4-words.ensures 2 (omega arith)
    ∙ ap halves_joined (c.compress4-state.ensures 2 (omega arith)
    ∙ ap₂ (rounds 7) (c.starts_of.ensures 2 (omega arith)) c.messages_of-message.ensures.lane_c))
    ∙ block_hash c.args.c.now c.args.len c.requires.short (omega arith) c.requires.zeros_c
    in
    let lane_d =
    c.bytes_of-4.ensures
    ∙ ap word_bytes (c.words_in_lane-4.ensures
    ∙ c.halves_of4-words.ensures 3 (omega arith)
    ∙ ap halves_joined (c.compress4-state.ensures 3 (omega arith)
    ∙ ap₂ (rounds 7) (c.starts_of.ensures 3 (omega arith)) c.messages_of-message.ensures.lane_d))
    ∙ block_hash c.args.d.now c.args.len c.requires.short (omega arith) c.requires.zeros_d
    in
    rw (lane_a, lane_b, lane_c, lane_d) refl
