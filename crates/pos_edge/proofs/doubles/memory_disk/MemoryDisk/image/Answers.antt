-- What is shown is one of the images.
use Rattle.std.proofs.Common.{◌≡◌, sym, subst, rules}
use Rattle.std.specs.Prelude.{IfOk, option_map}
use Rattle.std.proofs.lemmas.Result.{IfOk-weaker}
use Rattle.pos_edge.specs.Log.{IsImage, state_of}
use Rattle.pos_edge.specs.MemoryDisks.{image_after}
use Rattle.pos_edge.proofs.MemoryFrames.{image_told, image_at_clock}
use Rattle.pos_edge.proofs.doubles.memory_disk.MemoryDisk.image.Goals as goal

pub returns-clause-told : goal.returns-clause-told
returns-clause-told c =
    let file = (state_of c.args.name.now c.args.self.now.log).file in
    let shown : IfOk c.map_err.result (λ image. option_map (λ v. v.items) image ≡ image_after c.args.writes file) = search rules in
    IfOk-weaker c.map_err.result (λ image. option_map (λ v. v.items) image ≡ image_after c.args.writes file) _
    (λ image e. image_at_clock c.args.self.now c.args.name.now _ (subst (IsImage file) (sym e) (image_told c.args.writes file))) shown
