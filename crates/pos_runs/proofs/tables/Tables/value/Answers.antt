use Rattle.std.proofs.Common.{[], ◌∷◌, map, refl, sym, subst}
use Rattle.pos_runs.specs.Runs.{TablesState, TablesStand, value_record}
use Rattle.pos_runs.proofs.TablesLemmas.{value-got, value-read}
use Rattle.pos_runs.proofs.tables.Tables.value.Goals as goal

pub returns-clause-stands : goal.returns-clause-stands
returns-clause-stands g c = λ ts h.
    value-read g.row.K (c.self.inside.values ∷ c.self.inside.p2 ∷ c.self.inside.p3 ∷ c.self.inside.p4 ∷ c.self.inside.p5 ∷ c.self.inside.p6 ∷ c.self.inside.p7 ∷ c.self.inside.last ∷ []) _ c.get.new.self (g.D.Disk.view c.args.disk.now) (g.D.Disk.view c.get.new.disk) refl
    c.in_ok-found.ensures.read c.in_ok-found.ensures.stands c.in_ok-found.ensures.list ts
    (subst (λ (t : TablesState). TablesStand g.row.K t ts (g.D.Disk.view c.args.disk.now)) (sym c.self.view_is) h)

pub returns-clause-value : goal.returns-clause-value
returns-clause-value g c = λ ts h tells.
    let before : TablesStand g.row.K (c.self.inside.values ∷ c.self.inside.p2 ∷ c.self.inside.p3 ∷ c.self.inside.p4 ∷ c.self.inside.p5 ∷ c.self.inside.p6 ∷ c.self.inside.p7 ∷ c.self.inside.last ∷ []) ts (g.D.Disk.view c.args.disk.now) =
    subst (λ (t : TablesState). TablesStand g.row.K t ts (g.D.Disk.view c.args.disk.now)) (sym c.self.view_is) h in
    value-got ts.values c.args.i c.in_ok-found.found (c.in_ok-found.ensures.value (map value_record ts.values) before.values tells)
