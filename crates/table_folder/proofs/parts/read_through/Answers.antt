use Rattle.std.proofs.Common.{◌∙◌, arith}
use Rattle.table_folder.proofs.Fronts.{part_grows}
use Rattle.table_folder.proofs.parts.read_through.Goals as goal

pub loop-at-preserved : goal.loop-at-preserved
loop-at-preserved g c =
    let inv = c.loop-at.invariant in
    record {
      from = omega arith;
      within = omega (arith, c.in_ok-more.ensures.within);
      contents = c.read_some.ensures.contents ∙ inv.contents;
      size = c.read_some.ensures.size ∙ inv.size;
      room = omega (arith, c.read_some.ensures.length);
      read = λ bytes is.
          c.in_ok-extend_from_slice.ensures.items
          ∙ part_grows c.args.first c.loop-at.at c.in_ok-more.more c.loop-at.part.items c.read_some.new.piece bytes inv.from (inv.read bytes is) (c.in_ok-more.ensures.read bytes (inv.contents ∙ is));
    }
