use Rattle.std.proofs.Common.{ap, ◌∙◌, refl}
use Rattle.hex.specs.Hex.{encode_lower}
use Rattle.checked_log.specs.Hex.{hex_text}
use Rattle.checked_log.proofs.Digits.{written}
use Rattle.checked_log.proofs.hex_digits.hex_of.Goals as goal

pub returns : goal.returns
unfolding hex_text
returns c =
    let told = c.encode_to_slice.ensures in
    let bytes = c.to_be_bytes.ensures in
    written c.encode_to_slice.result (told.fits.1 (rw bytes refl)) told.written ∙ ap encode_lower bytes
