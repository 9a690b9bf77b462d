use Rattle.std.proofs.Common.{[], ◌∷◌, refl, sym, subst, arith}
use Rattle.pos_runs.specs.Runs.{TablesState, TablesStand}
use Rattle.pos_runs.proofs.TablesLemmas.{pair-read}
use Rattle.pos_runs.proofs.tables.Tables.bring_pair.Goals as goal

pub returns-in_ok-reach-in-2-clause-stands : goal.returns-in_ok-reach-in-2-clause-stands
returns-in_ok-reach-in-2-clause-stands g c = λ ts h.
    pair-read g.row.K (c.self.inside.values ∷ c.self.inside.p2 ∷ c.self.inside.p3 ∷ c.self.inside.p4 ∷ c.self.inside.p5 ∷ c.self.inside.p6 ∷ c.self.inside.p7 ∷ c.self.inside.last ∷ []) _ 0 c.reach.new.self (g.D.Disk.view c.args.disk.now) (g.D.Disk.view c.reach.new.disk) (omega arith) refl
    c.in_ok-reach-in-2.ensures.read c.in_ok-reach-in-2.ensures.stands c.in_ok-reach-in-2.ensures.list ts
    (subst (λ (t : TablesState). TablesStand g.row.K t ts (g.D.Disk.view c.args.disk.now)) (sym c.self.view_is) h)

pub returns-in_ok-reach-in-3-clause-stands : goal.returns-in_ok-reach-in-3-clause-stands
returns-in_ok-reach-in-3-clause-stands g c = λ ts h.
    pair-read g.row.K (c.self.inside.values ∷ c.self.inside.p2 ∷ c.self.inside.p3 ∷ c.self.inside.p4 ∷ c.self.inside.p5 ∷ c.self.inside.p6 ∷ c.self.inside.p7 ∷ c.self.inside.last ∷ []) _ 1 c.reach-in-3.new.self (g.D.Disk.view c.args.disk.now) (g.D.Disk.view c.reach-in-3.new.disk) (omega arith) refl
    c.in_ok-reach-in-3.ensures.read c.in_ok-reach-in-3.ensures.stands c.in_ok-reach-in-3.ensures.list ts
    (subst (λ (t : TablesState). TablesStand g.row.K t ts (g.D.Disk.view c.args.disk.now)) (sym c.self.view_is) h)

pub returns-in_ok-reach-in-4-clause-stands : goal.returns-in_ok-reach-in-4-clause-stands
returns-in_ok-reach-in-4-clause-stands g c = λ ts h.
    pair-read g.row.K (c.self.inside.values ∷ c.self.inside.p2 ∷ c.self.inside.p3 ∷ c.self.inside.p4 ∷ c.self.inside.p5 ∷ c.self.inside.p6 ∷ c.self.inside.p7 ∷ c.self.inside.last ∷ []) _ 2 c.reach-in-4.new.self (g.D.Disk.view c.args.disk.now) (g.D.Disk.view c.reach-in-4.new.disk) (omega arith) refl
    c.in_ok-reach-in-4.ensures.read c.in_ok-reach-in-4.ensures.stands c.in_ok-reach-in-4.ensures.list ts
    (subst (λ (t : TablesState). TablesStand g.row.K t ts (g.D.Disk.view c.args.disk.now)) (sym c.self.view_is) h)

pub returns-in_ok-reach-in-5-clause-stands : goal.returns-in_ok-reach-in-5-clause-stands
returns-in_ok-reach-in-5-clause-stands g c = λ ts h.
    pair-read g.row.K (c.self.inside.values ∷ c.self.inside.p2 ∷ c.self.inside.p3 ∷ c.self.inside.p4 ∷ c.self.inside.p5 ∷ c.self.inside.p6 ∷ c.self.inside.p7 ∷ c.self.inside.last ∷ []) _ 3 c.reach-in-5.new.self (g.D.Disk.view c.args.disk.now) (g.D.Disk.view c.reach-in-5.new.disk) (omega arith) refl
    c.in_ok-reach-in-5.ensures.read c.in_ok-reach-in-5.ensures.stands c.in_ok-reach-in-5.ensures.list ts
    (subst (λ (t : TablesState). TablesStand g.row.K t ts (g.D.Disk.view c.args.disk.now)) (sym c.self.view_is) h)

pub returns-in_ok-reach-in-6-clause-stands : goal.returns-in_ok-reach-in-6-clause-stands
returns-in_ok-reach-in-6-clause-stands g c = λ ts h.
    pair-read g.row.K (c.self.inside.values ∷ c.self.inside.p2 ∷ c.self.inside.p3 ∷ c.self.inside.p4 ∷ c.self.inside.p5 ∷ c.self.inside.p6 ∷ c.self.inside.p7 ∷ c.self.inside.last ∷ []) _ 4 c.reach-in-6.new.self (g.D.Disk.view c.args.disk.now) (g.D.Disk.view c.reach-in-6.new.disk) (omega arith) refl
    c.in_ok-reach-in-6.ensures.read c.in_ok-reach-in-6.ensures.stands c.in_ok-reach-in-6.ensures.list ts
    (subst (λ (t : TablesState). TablesStand g.row.K t ts (g.D.Disk.view c.args.disk.now)) (sym c.self.view_is) h)

pub returns-in_ok-reach-in-7-clause-stands : goal.returns-in_ok-reach-in-7-clause-stands
returns-in_ok-reach-in-7-clause-stands g c = λ ts h.
    pair-read g.row.K (c.self.inside.values ∷ c.self.inside.p2 ∷ c.self.inside.p3 ∷ c.self.inside.p4 ∷ c.self.inside.p5 ∷ c.self.inside.p6 ∷ c.self.inside.p7 ∷ c.self.inside.last ∷ []) _ 5 c.reach-in-7.new.self (g.D.Disk.view c.args.disk.now) (g.D.Disk.view c.reach-in-7.new.disk) (omega arith) refl
    c.in_ok-reach-in-7.ensures.read c.in_ok-reach-in-7.ensures.stands c.in_ok-reach-in-7.ensures.list ts
    (subst (λ (t : TablesState). TablesStand g.row.K t ts (g.D.Disk.view c.args.disk.now)) (sym c.self.view_is) h)
