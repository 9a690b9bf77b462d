use Rattle.pos_app.proofs.text.header_part.Goals as goal

pub returns : goal.returns
returns c =
    rw (
      c.id.ensures,
      c.k.ensures.value,
      c.size.ensures.size,
      c.count.ensures.count,
      c.count-2.ensures.count,
      c.count-3.ensures.count,
      c.count-4.ensures.count,
      c.count-5.ensures.count,
      c.count-6.ensures.count,
      c.count-7.ensures.count,
      c.length.ensures.length,
    ) at c.header_lines.ensures
