use Rattle.std.proofs.Common.{refl, ap, arith, ◌*◌, ◌/◌}
use Rattle.key_extract.specs.declared.digest.TheConstants.{STARTS}
use Rattle.key_extract.proofs.TextPlaces.{agrees_below, from_table}
use Rattle.key_extract.proofs.digest.byte_place.Goals as goal

pub returns : goal.returns
unfolding agrees_below
returns c = ap (λ start. c.args.room * start / 4096) (from_table STARTS 257 refl c.args.byte (omega arith))
