use Rattle.std.proofs.Common.{sym, Some}
use Rattle.table_folder.proofs.PlainEnds.{not_longer}
use Rattle.table_folder.proofs.plain.refuse_longer.Goals as goal

pub returns : goal.returns
returns g c bytes is = not_longer c.args.number c.args.begin c.in_ok-end.end bytes (sym c.if-is_longer.ensures) (c.in_ok-end.ensures.ends (Some bytes) is)
