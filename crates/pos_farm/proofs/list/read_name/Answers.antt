-- What one read shows of a line.
use Rattle.std.proofs.Common.{◌≡◌, ◌∙◌, ◌-◌, ℕ, List, Global, length, min, replicate, Some, String, string_bytes, length-take-le, ap, arith}
use Rattle.pos_edge.specs.Frame.{NameOf}
use Rattle.pos_harvest.proofs.CallLemmas.{if_ok}
use Rattle.pos_farm.specs.Steps.{BeginsWith, StandsAt}
use Rattle.pos_farm.proofs.NameLemmas.{name_stands, none_stands, read_is}
use Rattle.pos_farm.proofs.list.read_name.Goals as goal

pub returns-clause-name : goal.returns-clause-name
returns-clause-name g c =
    if_ok c.own_name.result
    (λ (name : String Global). BeginsWith (string_bytes name) c.read_at.new.buf)
    (λ (name : String Global). (called b : List ℕ) → NameOf c.args.file.0 (g.D.Disk.view c.args.disk.now) called → (g.D.Disk.view c.args.disk.now).contents called ≡ Some b
    → (g.D.Disk.view c.args.disk.now).size_of c.args.file.0 ≡ length b → StandsAt b c.args.at (string_bytes name))
    (λ name begins called b named contents long.
    name_stands b c.read_at.new.buf (string_bytes name) c.args.at (length c.read_at.new.buf)
    (read_is b c.read_at.new.buf c.args.at (c.in-Ok.ensures.ok called b named contents)) begins)
    c.own_name.ensures.name

pub returns-clause-none : goal.returns-clause-none
returns-clause-none g c = λ other is.
    let h = c.own_name.ensures.none other is in
    let few : c.min-count.result ≡ min (c.size.result - c.args.at) 1025 = c.min-count.ensures in
    let cut = length-take-le c.min-count.result (replicate 1025 0) (omega (arith, few)) in
    let count : length c.read_at.new.buf ≡ min (c.size.result - c.args.at) 1025 = c.read_at.auto.buf ∙ cut ∙ few in (
      h.0,
      λ called b named contents long.
          none_stands b c.read_at.new.buf c.args.at (length c.read_at.new.buf)
          (read_is b c.read_at.new.buf c.args.at (c.in-Ok.ensures.ok called b named contents))
          (count ∙ ap (λ n. min (n - c.args.at) 1025) (c.size.ensures ∙ long)) h.1,
    )
