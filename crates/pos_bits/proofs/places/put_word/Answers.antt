use Rattle.std.proofs.Common.{◌≡◌, ◌+◌, ◌-◌, ◌++◌, take, drop, length, ap, ◌∙◌, arith, drop-drop}
use Rattle.std.proofs.lemmas.List.{drop_all}
use Rattle.pos_bits.proofs.PlacesLemmas.{end-put, word-put}
use Rattle.pos_bits.proofs.places.put_word.Goals as goal

pub returns-then-left-ge8-clause-bits : goal.returns-then-left-ge8-clause-bits
returns-then-left-ge8-clause-bits c =
    let size : c.args.byte + (c.args.byte + 8 - c.args.byte) ≡ c.args.byte + 8 = omega arith in
    word-put c.args.bytes.now c.copy_from_slice.new.self _ c.args.byte c.args.word (omega arith)
    (c.copy_from_slice.ensures.after ∙ c.to_be_bytes.ensures)
    (ap (λ t. take c.args.byte c.args.bytes.now ++ (c.copy_from_slice.new.self ++ t))
    (drop-drop (c.args.byte + 8 - c.args.byte) c.args.byte c.args.bytes.now ∙ ap (λ n. drop n c.args.bytes.now) size))

pub returns-else-left-ge8-clause-bits : goal.returns-else-left-ge8-clause-bits
returns-else-left-ge8-clause-bits c =
    end-put c.args.bytes.now c.copy_from_slice-else-left-ge8.new.self _ c.args.byte c.args.word (length c.args.bytes.now - c.args.byte) (omega arith) (omega arith)
    (c.copy_from_slice-else-left-ge8.ensures.after ∙ ap (take (length c.args.bytes.now - c.args.byte)) c.to_be_bytes-else-left-ge8.ensures)
    (ap (λ t. take c.args.byte c.args.bytes.now ++ (c.copy_from_slice-else-left-ge8.new.self ++ t))
    (drop-drop (length c.args.bytes.now - c.args.byte) c.args.byte c.args.bytes.now ∙ drop_all (c.args.byte + (length c.args.bytes.now - c.args.byte)) c.args.bytes.now (omega arith)))
