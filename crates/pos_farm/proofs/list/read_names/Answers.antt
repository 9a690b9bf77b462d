-- A line after another, to the end of the file, to a line that is none, or to as many as there may be.
use Rattle.std.proofs.Common.{◌≡◌, ◌∙◌, ◌+◌, ◌++◌, ◌∷◌, [], inl, inr, ℕ, List, Err, Global, String, Vec, length, map, string_bytes, sym, ap, subst, arith}
use Rattle.std.proofs.lemmas.List.{length-map, length_push, map_push}
use Rattle.std.proofs.lemmas.Result.{err_from_is_err_and}
use Rattle.pos_reader.proofs.ReadLemmas.{reads_then, size_after}
use Rattle.pos_farm.specs.Steps.{IsReadTo}
use Rattle.pos_farm.proofs.NameLemmas.{handed_line, line_fits, not_at_end, read_all, read_bad, read_line, reads_more, same_number, still_held}
use Rattle.pos_farm.proofs.list.read_names.Goals as goal

pub returns-then-at-size-clause-names : goal.returns-then-at-size-clause-names
returns-then-at-size-clause-names g c = λ name b named contents long.
    read_all b c.loop-line.at (map (string_bytes {Z = Global}) c.loop-line.names.items) (c.loop-line.invariant.read name b named contents long)
    (c.if-at-size.true ∙ c.size-size.ensures ∙ long)
    (let many = length-map c.loop-line.names.items (string_bytes {Z = Global}) in let so_many = c.loop-line.invariant.as_many in omega arith)

pub returns-in_err-name-clause-reads : goal.returns-in_err-name-clause-reads
returns-in_err-name-clause-reads g c = reads_more c.loop-line.line _ _ _ (omega arith) c.loop-line.invariant.reads c.in_err-name.ensures.reads

pub returns-in_err-name-clause-line : goal.returns-in_err-name-clause-line
returns-in_err-name-clause-line g c = λ line is name b named contents long.
    let names : List (List ℕ) = map (string_bytes {Z = Global}) c.loop-line.names.items in
    let p = err_from_is_err_and c.from_residual.result c.from_residual.ensures.1 in
    let same = handed_line c.in_err-name.field-0.0 line c.from_residual.result (p.1 ∙ ap (λ e. Err e) p.2) is in
    let none = c.in_err-name.ensures.none line (ap (λ e. Err e) same) in
    let held = still_held c.loop-line.line c.args.file.0 name b _ _ c.loop-line.invariant.reads c.requires.live named contents long in
    let count : line ≡ length names = none.0 ∙ sym c.loop-line.invariant.as_many ∙ sym (length-map c.loop-line.names.items (string_bytes {Z = Global})) in
    read_bad b c.loop-line.at line names (c.loop-line.invariant.read name b named contents long)
    (not_at_end c.loop-line.at c.size-size.result _ (length b) c.loop-line.invariant.within c.if-at-size.false c.size-size.ensures long)
    count (omega (arith, none.0)) (inr (none.1 name b held.named held.contents held.long))

pub returns-in_default-clause-reads : goal.returns-in_default-clause-reads
returns-in_default-clause-reads g c = reads_more c.loop-line.line _ _ _ (omega arith) c.loop-line.invariant.reads c.in_ok-name.ensures.reads

pub loop-line-preserved : goal.loop-line-preserved
loop-line-preserved g c =
    let so_far = c.loop-line.invariant in
    let items = c.loop-line.names.items in
    let name = c.in_ok-name.name in
    let names : List (List ℕ) = map (string_bytes {Z = Global}) items in
    let more = c.in-Ok.ensures.items in
    let long_name : c.len.result ≡ length (string_bytes name) = c.len.ensures ∙ name.bytes.ok.0 in
    record {
      as_many = ap length more ∙ length_push items name ∙ ap (λ n. n + 1) so_far.as_many;
      within = line_fits c.loop-line.at (length (string_bytes name)) c.len.result _ _ c.in_ok-name.ensures.fits
          (size_after c.loop-line.line c.args.file.0 _ _ so_far.reads c.requires.live) long_name;
      reads = reads_then c.loop-line.line 1 _ _ _ so_far.reads c.in_ok-name.ensures.reads;
      quiet = c.in_ok-name.ensures.faults.quiet ∙ so_far.quiet;
      read = λ called b named contents long.
          let held = still_held c.loop-line.line c.args.file.0 called b _ _ so_far.reads c.requires.live named contents long in
          let stands = c.in_ok-name.ensures.name called b held.named held.contents held.long in
          let next = read_line b c.loop-line.at names (string_bytes name) (so_far.read called b named contents long) stands in
          let all : map (string_bytes {Z = Global}) c.push.new.self.items ≡ names ++ string_bytes name ∷ [] =
          ap (map (string_bytes {Z = Global})) more ∙ map_push (string_bytes {Z = Global}) items name in
          subst (λ (listed : List (List ℕ)). IsReadTo b (c.loop-line.at + (c.len.result + 1)) listed) (sym all)
          (subst (λ n. IsReadTo b (c.loop-line.at + (n + 1)) (names ++ string_bytes name ∷ [])) (sym long_name) next);
    }

pub returns-then-at-size-2-clause-names : goal.returns-then-at-size-2-clause-names
returns-then-at-size-2-clause-names g c = λ name b named contents long.
    read_all b c.loop-line.at (map (string_bytes {Z = Global}) c.loop-line.names.items) (c.loop-line.invariant.read name b named contents long)
    (c.if-at-size-2.true ∙ c.size-size.ensures ∙ long)
    (let many = length-map c.loop-line.names.items (string_bytes {Z = Global}) in let so_many = c.loop-line.invariant.as_many in omega arith)

pub returns-else-at-size-2-clause-line : goal.returns-else-at-size-2-clause-line
returns-else-at-size-2-clause-line g c = λ line is name b named contents long.
    let number : line ≡ 256 = same_number {Y = Vec (String Global) Global} line is in
    let many = length-map c.loop-line.names.items (string_bytes {Z = Global}) in
    let so_many = c.loop-line.invariant.as_many in
    read_bad b c.loop-line.at line (map (string_bytes {Z = Global}) c.loop-line.names.items) (c.loop-line.invariant.read name b named contents long)
    (not_at_end c.loop-line.at c.size-size.result _ (length b) c.loop-line.invariant.within c.if-at-size-2.false c.size-size.ensures long)
    (omega (arith, number, many, so_many)) (omega (arith, number)) (inl number)
