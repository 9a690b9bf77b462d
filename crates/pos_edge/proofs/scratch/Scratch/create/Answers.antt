-- The new file stands beside those that were left.
use Rattle.std.proofs.Common.{◌≡◌, ◌<◌, ◌++◌, ◌∷◌, [], refl, rules}
use Rattle.pos_edge.specs.declared.scratch.ScratchFile.{ScratchFile}
use Rattle.pos_edge.specs.Calls.{IsCreated}
use Rattle.pos_edge.specs.ScratchNames.{scratch_name}
use Rattle.pos_edge.proofs.ScratchFiles.{Stand-create}
use Rattle.pos_edge.proofs.scratch.Scratch.create.Goals as goal

pub returns-in-Ok-clause-stands : goal.returns-in-Ok-clause-stands
returns-in-Ok-clause-stands g c =
    let base = c.self.inside.base.bytes.items in
    let made = c.self.inside.made in
    let left = c.self.inside.left.items in
    let file : ScratchFile = record { number = made; file = c.in-Ok.file } in
    let pushed : c.push.new.self.items ≡ left ++ file ∷ [] = search rules in
    let name : c.as_str.result.now ≡ scratch_name base made = search rules in
    let small : made < 10000 = search rules in
    let created : IsCreated (scratch_name base made) file.file.0 (g.D.Disk.view c.args.disk.now) (g.D.Disk.view c.create.new.self) = rw name at c.in-Ok.ensures.ok in
    rw (← c.self.view_is, pushed) (Stand-create base made left file (g.D.Disk.view c.args.disk.now) (g.D.Disk.view c.create.new.self) small refl c.in-Ok.ensures.kept.tells created)
