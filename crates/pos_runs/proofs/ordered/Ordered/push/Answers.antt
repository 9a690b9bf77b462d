use Rattle.std.proofs.Common.{◌≡◌, ◌+◌, ◌*◌, ◌<◌, ◌++◌, List, [], ◌∷◌, ℕ, false, take, sym, ◌∙◌, subst}
use Rattle.std.proofs.lemmas.List.{with_items_is}
use Rattle.pos_bits.specs.Bits.{bits_of}
use Rattle.pos_runs.specs.Pages.{ListPages, ListStands, ListHolds, per_page}
use Rattle.pos_runs.proofs.ListLemmas.{push-holds}
use Rattle.pos_runs.proofs.ordered.Ordered.push.Goals as goal

pub returns-clause-list : goal.returns-clause-list
returns-clause-list g c = λ (xs : List g.row.R.Denot) holds.
    let w : ℕ = g.R.Record.bit_count in
    let used : ℕ = c.self.inside.used in
    let done = c.in_ok-make_room.ensures in
    let put : take (used * w + w) (bits_of c.append_at.new.bytes) ≡ take (used * w) (bits_of c.self.inside.bytes.items) ++ g.R.Record.code c.args.item.now =
    subst (λ k. take (used * k + w) (bits_of c.append_at.new.bytes) ≡ take (used * k) (bits_of c.self.inside.bytes.items) ++ g.R.Record.code c.args.item.now) c.width-width.ensures
    (subst (λ (bytes : List ℕ). take (used * c.width-width.result + w) (bits_of c.append_at.new.bytes) ≡ take (used * c.width-width.result) (bits_of bytes) ++ g.R.Record.code c.args.item.now)
    c.as_mut_slice.ensures.value c.append_at.ensures.bits) in
    let P : List ℕ → Type 0 = λ bytes. ListHolds {R = g.row.R.Denot} g.R.Record.read w
    (record { file = c.self.inside.file.0; number = c.self.inside.number; count = c.self.inside.count + 1; is_sealed = c.self.inside.is_sealed; written = c.self.inside.written; page = c.self.inside.page; used = used + 1; bytes = bytes })
    (xs ++ c.args.item.now ∷ []) (g.D.Disk.view c.make_room.new.disk) in
    subst P (sym (with_items_is c.self.inside.bytes c.append_at.new.bytes (c.append_at.ensures.len ∙ c.as_mut_slice.ensures.len)))
    (push-holds g.R.Record.read w _ c.append_at.new.bytes c.args.item.now (g.R.Record.code c.args.item.now) (g.D.Disk.view c.make_room.new.disk)
    (subst (λ (s : ListPages). ListStands w s (g.D.Disk.view c.make_room.new.disk)) (sym c.self.view_is) done.stands)
    (subst (λ (s : ListPages). s.is_sealed ≡ false) (sym c.self.view_is) done.room.is_sealed)
    (subst (λ (s : ListPages). s.used < per_page w) (sym c.self.view_is) done.room.used)
    put (g.met.R.Record.code_length c.args.item.now c.requires.size c.requires.fits) (g.met.R.Record.read_code c.args.item.now c.requires.size c.requires.fits) xs
    (subst (λ (s : ListPages). ListHolds {R = g.row.R.Denot} g.R.Record.read w s xs (g.D.Disk.view c.make_room.new.disk)) (sym c.self.view_is) (done.list xs holds)))
