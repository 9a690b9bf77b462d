-- The size that was known is the open file's own.
use Rattle.std.proofs.Common.{◌≡◌, ◌∙◌, sym, ap, set, Some, max}
use Rattle.std.specs.Prelude.{option_map}
use Rattle.std.proofs.lemmas.Option.{none-some, same_Some}
use Rattle.pos_host.specs.Handles.{sizes_of}
use Rattle.pos_host.specs.declared.open.HostFile.{HostFile}
use Rattle.pos_edge.proofs.Kept.{map_get, map-set_at}
use Rattle.pos_host.proofs.disk.raise.Goals as goal

pub returns-in-Some : goal.returns-in-Some
returns-in-Some c = λ size is.
    let read = map_get (option_map (λ (file : HostFile). file.size)) c.args.handles.now.items c.args.id c.index_mut.result.now (Some size) is c.index_mut.ensures.value in
    let known : size ≡ c.in-Some.open.size = same_Some size c.in-Some.open.size (read.1 ∙ ap (option_map (λ (file : HostFile). file.size)) c.in-Some.is) in
    map-set_at (option_map (λ (file : HostFile). file.size)) c.args.handles.now.items c.args.id _
    ∙ ap (λ n. set (sizes_of c.args.handles.now.items) c.args.id (Some n)) (c.max-open.ensures ∙ ap (λ n. max n c.args.end) (sym known))

pub returns-in_default : goal.returns-in_default
returns-in_default c = λ size is.
    let read = map_get (option_map (λ (file : HostFile). file.size)) c.args.handles.now.items c.args.id c.index_mut.result.now (Some size) is c.index_mut.ensures.value in
    absurd (none-some size (sym (ap (option_map (λ (file : HostFile). file.size)) c.in_default.is) ∙ sym read.1))
