use Rattle.std.proofs.Common.{◌≡◌, ◌+◌, ◌-◌, ◌*◌, ◌∙◌, sym, ap, arith, refl, inl, inr, true, false, Some}
use Rattle.std.proofs.lemmas.Option.{slice_get_read}
use Rattle.pos_tuple.specs.Match.{is_match}
use Rattle.pos_verify.proofs.LevelLemmas.{joined_at-read}
use Rattle.pos_verify.proofs.join.Goals as goal

pub returns-then-not-matches-clause-joined : goal.returns-then-not-matches-clause-joined
returns-then-not-matches-clause-joined c =
    let left = slice_get_read c.args.entries.now _ (2 * c.args.pair) c.index-entries-pair.result refl (omega arith) c.index-entries-pair.is in
    let right = slice_get_read c.args.entries.now _ (2 * c.args.pair + 1) c.index-entries-pair-2.result refl c.requires.inside c.index-entries-pair-2.is in
    let no : is_match c.index-entries-pair.result.y c.index-entries-pair-2.result.y ≡ false = sym c.if-not-matches.ensures.tested in
    sym (joined_at-read c.args.size (c.args.level + 1) c.args.entries.now c.args.pair c.index-entries-pair.result c.index-entries-pair-2.result left right ∙ rw no refl)

pub fx-requires-clause-left_y : goal.fx-requires-clause-left_y
fx-requires-clause-left_y c =
    (c.requires.fit c.index-entries-pair.result
    (inl (slice_get_read c.args.entries.now _ (2 * c.args.pair) c.index-entries-pair.result refl (omega arith) c.index-entries-pair.is))).y

pub fx-requires-clause-right_y : goal.fx-requires-clause-right_y
fx-requires-clause-right_y c =
    (c.requires.fit c.index-entries-pair-2.result
    (inr (slice_get_read c.args.entries.now _ (2 * c.args.pair + 1) c.index-entries-pair-2.result refl c.requires.inside c.index-entries-pair-2.is))).y

pub fx-requires-clause-left_meta : goal.fx-requires-clause-left_meta
fx-requires-clause-left_meta c =
    let down : c.args.level + 1 - 1 ≡ c.args.level = omega arith in
    rw down
    (c.requires.fit c.index-entries-pair.result
    (inl (slice_get_read c.args.entries.now _ (2 * c.args.pair) c.index-entries-pair.result refl (omega arith) c.index-entries-pair.is))).metadata

pub fx-requires-clause-right_meta : goal.fx-requires-clause-right_meta
fx-requires-clause-right_meta c =
    let down : c.args.level + 1 - 1 ≡ c.args.level = omega arith in
    rw down
    (c.requires.fit c.index-entries-pair-2.result
    (inr (slice_get_read c.args.entries.now _ (2 * c.args.pair + 1) c.index-entries-pair-2.result refl c.requires.inside c.index-entries-pair-2.is))).metadata

pub returns-clause-joined : goal.returns-clause-joined
returns-clause-joined c =
    let left = slice_get_read c.args.entries.now _ (2 * c.args.pair) c.index-entries-pair.result refl (omega arith) c.index-entries-pair.is in
    let right = slice_get_read c.args.entries.now _ (2 * c.args.pair + 1) c.index-entries-pair-2.result refl c.requires.inside c.index-entries-pair-2.is in
    let yes : is_match c.index-entries-pair.result.y c.index-entries-pair-2.result.y ≡ true = sym c.if-not-matches.ensures.tested in
    ap Some c.fx.ensures.entry
    ∙ sym (joined_at-read c.args.size (c.args.level + 1) c.args.entries.now c.args.pair c.index-entries-pair.result c.index-entries-pair-2.result left right ∙ rw yes refl)
