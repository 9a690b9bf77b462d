-- The place holds nothing any more.
use Rattle.std.proofs.Common.{◌≡◌, ◌∙◌, ap, set, None, rules}
use Rattle.std.specs.Prelude.{option_map}
use Rattle.pos_host.specs.Handles.{sizes_of}
use Rattle.pos_host.specs.declared.open.HostFile.{HostFile}
use Rattle.pos_edge.proofs.Kept.{map-set_at}
use Rattle.pos_host.proofs.disk.end.Goals as goal

pub returns : goal.returns
returns c =
    let none : c.take.new.self ≡ None = search rules in
    map-set_at (option_map (λ (file : HostFile). file.size)) c.args.handles.now.items c.args.id c.take.new.self
    ∙ ap (λ o. set (sizes_of c.args.handles.now.items) c.args.id (option_map (λ (file : HostFile). file.size) o)) none
