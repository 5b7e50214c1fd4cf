use Rattle.key_extract.proofs.ToldApart.{told_apart}
use Rattle.key_extract.proofs.digest.short_texts_are_told_apart.Goals as goal

pub returns : goal.returns
returns c = told_apart
