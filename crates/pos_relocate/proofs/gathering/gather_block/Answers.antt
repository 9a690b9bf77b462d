use Rattle.std.proofs.Common.{◌≡◌, ◌+◌, ◌-◌, ◌*◌, ◌^◌, ◌<◌, ◌≤◌, ◌++◌, length, map, Err, List, [], ℕ, refl, sym, ap, ◌∙◌, subst, arith, lit<}
use Rattle.std.specs.Prelude.{slice_index}
use Rattle.std.proofs.lemmas.List.{append-nil}
use Rattle.std.proofs.lemmas.List.Elements.{All-nil}
use Rattle.std.proofs.lemmas.Result.{err_from_is_err_and}
use Rattle.pos_edge.specs.declared.scratch.WorkFault.TheVariants.{Scratch}
use Rattle.pos_lists.specs.Numbering.{AreGathered}
use Rattle.pos_laws.specs.Renumbering.{point_at}
use Rattle.pos_relocate.specs.declared.blocks.Unpacked.{Unpacked}
use Rattle.pos_relocate.specs.Blocks.{AreApartOver, AreInside, AreOf, pointed_of}
use Rattle.pos_relocate.specs.Numbers.{numbers_of}
use Rattle.pos_relocate.specs.Passes.{AreListed}
use Rattle.pos_relocate.proofs.BlockLemmas.{behind_none, block_points, can_unpack, limit_small, none_of, outside_block, point_fault_reading, twice_block}
use Rattle.pos_relocate.proofs.GatheringLemmas.{gathering_done, gathering_exit}
use Rattle.pos_relocate.proofs.gathering.gather_block.Goals as goal

pub unpack-requires : goal.unpack-requires
unpack-requires g c =
    let below = numbers_of c.args.below.now in (
      lit< tt,
      (
        can_unpack g.row.K c.args.t c.args.limit g.P.Pointed.bound below c.args.tables.now (g.D.Disk.view c.args.disk.now) c.requires.can,
        (
          c.requires.order,
          (
            c.requires.there,
            (
              c.requires.chooses,
              subst (λ (us : List Unpacked). AreInside (length below) us) (sym c.clear.ensures.items) (All-nil (λ (u : Unpacked). (u.left < length below) × (u.right < length below))),
            ),
          ),
        ),
      ),
    )

pub add_pointed-requires : goal.add_pointed-requires
add_pointed-requires g c =
    let can = c.requires.can in record {
      numbers = can.below_limit;
      small = limit_small g.row.K c.args.limit can.size.1 can.limited;
      exact = can.exact;
      inside = subst (λ (us : List Unpacked). AreInside (length (numbers_of c.args.below.now)) us) (sym c.deref.ensures.value) c.in_ok-unpack.ensures.inside;
    }

pub returns-in_err-unpack-clause-reading : goal.returns-in_err-unpack-clause-reading
returns-in_err-unpack-clause-reading g c =
    let e = err_from_is_err_and c.from_residual.result c.from_residual.ensures.1 in
    gathering_exit c.from_residual.result e.0 c.in_err-unpack.field-0.0 (g.D.Disk.view c.args.disk.now) (g.D.Disk.view c.unpack.new.disk) e.1 e.2 c.in_err-unpack.ensures.reading

pub returns-in_err-unpack-clause-damage : goal.returns-in_err-unpack-clause-damage
returns-in_err-unpack-clause-damage g c = λ damage is ts p stands chooses told.
    let e = err_from_is_err_and c.from_residual.result c.from_residual.ensures.1 in
    let same : c.in_err-unpack.field-0.0 ≡ Scratch damage = (let x = e.1 in let y = e.2 in cc) in
    outside_block ts c.args.t c.args.limit p (numbers_of c.args.below.now) c.args.tables.now damage c.requires.can.first
    (c.in_err-unpack.ensures.damage damage (ap (λ f. Err f) same) ts p stands chooses told)

pub returns-in_err-add_pointed-clause-reading : goal.returns-in_err-add_pointed-clause-reading
returns-in_err-add_pointed-clause-reading g c =
    let e = err_from_is_err_and c.from_residual-in_err-add_pointed.result c.from_residual-in_err-add_pointed.ensures.1 in
    let a = g.D.Disk.view c.args.disk.now in
    let b = g.D.Disk.view c.unpack.new.disk in
    gathering_exit c.from_residual-in_err-add_pointed.result e.0 c.in_err-add_pointed.field-0.0 a b e.1 e.2
    (point_fault_reading (Unit {0}) c.args.limit c.file-file.result (numbers_of c.args.below.now) c.deref.result.now c.in_err-add_pointed.field-0.0 a b c.in_err-add_pointed.ensures.fault
    c.in_ok-unpack.ensures.reading.only c.in_ok-unpack.ensures.reading.quiet)

pub returns-in_err-add_pointed-clause-damage : goal.returns-in_err-add_pointed-clause-damage
returns-in_err-add_pointed-clause-damage g c = λ damage is ts p stands chooses told.
    let e = err_from_is_err_and c.from_residual-in_err-add_pointed.result c.from_residual-in_err-add_pointed.ensures.1 in
    let same : c.in_err-add_pointed.field-0.0 ≡ Scratch damage = (let x = e.1 in let y = e.2 in cc) in
    let unpacked = c.in_ok-unpack.ensures in
    let are = subst (λ (us : List Unpacked). AreOf ts c.args.t p us) (sym c.deref.ensures.value) (unpacked.found ts p stands chooses told (none_of ts c.args.t p c.clear.new.self.items c.clear.ensures.items)) in
    twice_block ts c.args.t c.args.limit c.file-file.result p (numbers_of c.args.below.now) c.deref.result.now c.args.tables.now c.in_err-add_pointed.field-0.0 damage c.requires.can.first
    c.file-file.ensures are c.in_err-add_pointed.ensures.fault same

pub returns-clause-reading : goal.returns-clause-reading
returns-clause-reading g c = gathering_done tt (g.D.Disk.view c.args.disk.now) (g.D.Disk.view c.unpack.new.disk) c.in_ok-unpack.ensures.reading.only c.in_ok-unpack.ensures.reading.quiet

pub returns-clause-listed : goal.returns-clause-listed
returns-clause-listed g c = λ h.
    let below = numbers_of c.args.below.now in
    let first = map g.P.Pointed.pair c.args.entries.now.items in
    subst (λ (xs : List (ℕ × ℕ)). AreListed c.args.to (2 ^ (2 * g.row.K + 2)) xs) (sym c.in_ok-add_pointed.ensures.ok)
    (subst (λ (us : List Unpacked). AreListed c.args.to (2 ^ (2 * g.row.K + 2)) (first ++ pointed_of below us)) (sym c.deref.ensures.value)
    (c.in_ok-unpack.ensures.listed first (subst (λ (xs : List (ℕ × ℕ)). AreListed c.args.from (2 ^ (2 * g.row.K + 2)) xs) (behind_none below first c.clear.new.self.items c.clear.ensures.items) h)))

pub returns-clause-gathered : goal.returns-clause-gathered
returns-clause-gathered g c = λ ts p stands chooses told h.
    let below = numbers_of c.args.below.now in
    let first = map g.P.Pointed.pair c.args.entries.now.items in
    let point = point_at ts (c.args.t - 2) (slice_index below) in
    subst (λ (xs : List (ℕ × ℕ)). AreGathered p point c.args.to xs) (sym c.in_ok-add_pointed.ensures.ok)
    (subst (λ (us : List Unpacked). AreGathered p point c.args.to (first ++ pointed_of below us)) (sym c.deref.ensures.value)
    (c.in_ok-unpack.ensures.gathered ts p first stands chooses told (subst (λ (xs : List (ℕ × ℕ)). AreGathered p point c.args.from xs) (behind_none below first c.clear.new.self.items c.clear.ensures.items) h)))

pub returns-clause-points : goal.returns-clause-points
returns-clause-points g c = λ ts p stands chooses told h was.
    let below = numbers_of c.args.below.now in
    let first = map g.P.Pointed.pair c.args.entries.now.items in
    let point = point_at ts (c.args.t - 2) (slice_index below) in
    let unpacked = c.in_ok-unpack.ensures in
    block_points ts c.args.t c.args.from c.args.to p below first c.unpack.new.pairs.items c.requires.can.first h
    (unpacked.gathered ts p first stands chooses told (subst (λ (xs : List (ℕ × ℕ)). AreGathered p point c.args.from xs) (behind_none below first c.clear.new.self.items c.clear.ensures.items) h))
    (unpacked.found ts p stands chooses told (none_of ts c.args.t p c.clear.new.self.items c.clear.ensures.items))
    (subst (λ (us : List Unpacked). AreApartOver below us) c.deref.ensures.value c.in_ok-add_pointed.ensures.apart) was
