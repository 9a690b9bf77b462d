use Rattle.std.proofs.Common.{◌≡◌, true, false, refl, rules}
use Rattle.std.specs.Str.{bytes_eq}
use Rattle.pos_layout.specs.declared.layout.Layout.TheVariants.{Two}
use Rattle.pos_layout.specs.Layouts.{name_of}
use Rattle.pos_layout.specs.Fields.{layout_in, name_in}
use Rattle.pos_layout.proofs.header.layout_in.Goals as goal

pub returns-then-is_named : goal.returns-then-is_named
unfolding layout_in
returns-then-is_named c = let e : bytes_eq (name_in c.args.bytes.now) (name_of Two) ≡ true = search rules in rw e refl

pub returns-else-is_named : goal.returns-else-is_named
unfolding layout_in
returns-else-is_named c = let e : bytes_eq (name_in c.args.bytes.now) (name_of Two) ≡ false = search rules in rw e refl
