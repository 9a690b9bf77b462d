use Rattle.std.proofs.Common.{refl, ap, ◌∙◌, length, [], ◌∷◌, ◌++◌, replicate, set, rules}
use Rattle.std.proofs.lemmas.List.{take_more_set}
use Rattle.pos_layout.specs.Fields.{columns_bytes}
use Rattle.pos_layout.proofs.CodecLemmas.{put_next, whole, header_bytes-is}
use Rattle.pos_layout.proofs.header.encode_header.Goals as goal

pub returns-clause-bytes : goal.returns-clause-bytes
returns-clause-bytes c =
    let h = c.args.header.now in
    let n = c.name.result in
    let k = c.k.result in
    let m = c.to_be_bytes.result in
    let f = c.to_be_bytes-2.result in
    let n1 = put_next 1 1 15 16 (0 ∷ []) n (replicate 176 0) c.put.new.bytes refl c.put.ensures.front refl c.name.ensures.len refl in
    let n2 = put_next 16 16 32 48 ((0 ∷ []) ++ n) h.id.0 c.put.new.bytes c.put-2.new.bytes n1 c.put-2.ensures.front refl (search rules) refl in
    let n3 = take_more_set c.put-2.new.bytes 48 k (search rules) ∙ ap (λ y. y ++ k ∷ []) n2 in
    let n4 = put_next 49 49 2 51 (((0 ∷ []) ++ n) ++ h.id.0 ++ k ∷ []) m (set c.put-2.new.bytes 48 k) c.put-3.new.bytes n3 c.put-3.ensures.front refl (ap length c.to_be_bytes.ensures) refl in
    let n5 = put_next 51 51 5 56 ((((0 ∷ []) ++ n) ++ h.id.0 ++ k ∷ []) ++ m) (replicate 5 0) c.put-3.new.bytes c.put-4.new.bytes n4 c.put-4.ensures.front refl refl refl in
    let n6 = c.put_columns.ensures ∙ ap (λ y. y ++ columns_bytes h.columns) n5 in
    let n7 = put_next 168 168 8 176 (((((((0 ∷ []) ++ n) ++ h.id.0) ++ k ∷ []) ++ m) ++ replicate 5 0) ++ columns_bytes h.columns) f c.put_columns.new.bytes c.put-5.new.bytes n6 c.put-5.ensures.front refl (ap length c.to_be_bytes-2.ensures) refl in
    whole 176 ((((((((0 ∷ []) ++ n) ++ h.id.0) ++ k ∷ []) ++ m) ++ replicate 5 0) ++ columns_bytes h.columns) ++ f) c.put-5.new.bytes (search rules) n7
    ∙ header_bytes-is h.layout h n m (replicate 5 0) f k c.name.ensures.value c.k.ensures.value c.to_be_bytes.ensures refl c.to_be_bytes-2.ensures
