use Rattle.std.proofs.Common.{◌∙◌, sym, arith}
use Rattle.table_log.proofs.loaded.load_from.Goals as goal

pub invariant_of-result : goal.invariant_of-result
invariant_of-result g c =
    let more = c.in-Ok-replay.ensures in
    record {
      start = c.args.start;
      is_empty = λ shape is. c.requires shape is;
      within = omega (arith, more.within, more.size);
      replayed = λ bytes known. more.replayed bytes (sym more.contents ∙ known);
    }
