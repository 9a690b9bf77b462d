use Rattle.std.proofs.Common.{◌≡◌, ◌+◌, refl, sym, ap, ◌∙◌, length, take, ◌++◌, arith}
use Rattle.pos_layout.proofs.CodecLemmas.{put_first, put_next, entry_fields-is}
use Rattle.pos_layout.proofs.entry.encode_entry.Goals as goal

pub returns-clause-bytes : goal.returns-clause-bytes
returns-clause-bytes c =
    let e = c.args.entry.now in
    let a = c.to_be_bytes.result in
    let b = c.to_be_bytes-2.result in
    let d = c.to_be_bytes-3.result in
    let x = c.bytes.result.now in
    let f = c.to_be_bytes-4.result in
    let m = c.digest_bytes-digest.result in
    let long : length x ≡ m = ap length c.bytes.ensures.value ∙ (c.requires ∙ sym c.digest_bytes-digest.ensures.value) in
    let n1 = put_first 8 8 a c.put.new.bytes c.put.ensures.front (ap length c.to_be_bytes.ensures) refl in
    let n2 = put_next 8 8 4 12 a b c.put.new.bytes c.put-2.new.bytes n1 c.put-2.ensures.front refl (ap length c.to_be_bytes-2.ensures) refl in
    let n3 = put_next 12 12 4 16 (a ++ b) d c.put-2.new.bytes c.put-3.new.bytes n2 c.put-3.ensures.front refl (ap length c.to_be_bytes-3.ensures) refl in
    let n4 = put_next 16 16 m (16 + m) ((a ++ b) ++ d) x c.put-3.new.bytes c.put-4.new.bytes n3 c.put-4.ensures.front refl long refl in
    let n5 = put_next (16 + m) (16 + m) 8 (24 + m) (((a ++ b) ++ d) ++ x) f c.put-4.new.bytes c.put-5.new.bytes n4 c.put-5.ensures.front refl (ap length c.to_be_bytes-4.ensures) (omega arith) in
    ap (λ j. take (24 + j) c.put-5.new.bytes) (sym c.digest_bytes-digest.ensures.value) ∙ n5 ∙ entry_fields-is e a b d x f c.to_be_bytes.ensures c.to_be_bytes-2.ensures c.to_be_bytes-3.ensures c.bytes.ensures.value c.to_be_bytes-4.ensures
