use Rattle.std.proofs.Common.{refl}
use Rattle.pos_blake3.specs.Blake3.{message_words}
use Rattle.pos_blake3.specs.Lanes.{lane}
use Rattle.pos_blake3.proofs.lanes.messages_of.Goals as goal

pub returns-clause-lane_a : goal.returns-clause-lane_a
unfolding message_words lane
returns-clause-lane_a c =
    rw (
      c.words_at.ensures,
      c.words_at-2.ensures,
      c.words_at-3.ensures,
      c.words_at-4.ensures,
      c.words_at-5.ensures,
      c.words_at-6.ensures,
      c.words_at-7.ensures,
      c.words_at-8.ensures,
      c.words_at-9.ensures,
      c.words_at-10.ensures,
      c.words_at-11.ensures,
      c.words_at-12.ensures,
      c.words_at-13.ensures,
      c.words_at-14.ensures,
      c.words_at-15.ensures,
      c.words_at-16.ensures,
    ) refl

pub returns-clause-lane_b : goal.returns-clause-lane_b
unfolding message_words lane
returns-clause-lane_b c =
    rw (
      c.words_at.ensures,
      c.words_at-2.ensures,
      c.words_at-3.ensures,
      c.words_at-4.ensures,
      c.words_at-5.ensures,
      c.words_at-6.ensures,
      c.words_at-7.ensures,
      c.words_at-8.ensures,
      c.words_at-9.ensures,
      c.words_at-10.ensures,
      c.words_at-11.ensures,
      c.words_at-12.ensures,
      c.words_at-13.ensures,
      c.words_at-14.ensures,
      c.words_at-15.ensures,
      c.words_at-16.ensures,
    ) refl

pub returns-clause-lane_c : goal.returns-clause-lane_c
unfolding message_words lane
returns-clause-lane_c c =
    rw (
      c.words_at.ensures,
      c.words_at-2.ensures,
      c.words_at-3.ensures,
      c.words_at-4.ensures,
      c.words_at-5.ensures,
      c.words_at-6.ensures,
      c.words_at-7.ensures,
      c.words_at-8.ensures,
      c.words_at-9.ensures,
      c.words_at-10.ensures,
      c.words_at-11.ensures,
      c.words_at-12.ensures,
      c.words_at-13.ensures,
      c.words_at-14.ensures,
      c.words_at-15.ensures,
      c.words_at-16.ensures,
    ) refl

pub returns-clause-lane_d : goal.returns-clause-lane_d
unfolding message_words lane
returns-clause-lane_d c =
    rw (
      c.words_at.ensures,
      c.words_at-2.ensures,
      c.words_at-3.ensures,
      c.words_at-4.ensures,
      c.words_at-5.ensures,
      c.words_at-6.ensures,
      c.words_at-7.ensures,
      c.words_at-8.ensures,
      c.words_at-9.ensures,
      c.words_at-10.ensures,
      c.words_at-11.ensures,
      c.words_at-12.ensures,
      c.words_at-13.ensures,
      c.words_at-14.ensures,
      c.words_at-15.ensures,
      c.words_at-16.ensures,
    ) refl
