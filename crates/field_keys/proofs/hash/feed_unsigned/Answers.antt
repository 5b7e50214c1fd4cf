use Rattle.std.proofs.Common.{ap, ◌∙◌, take}
use Rattle.std.specs.Hash.{le_bytes}
use Rattle.std.specs.Hash.FoldHasher as folding
use Rattle.field_keys.proofs.hash.feed_unsigned.Goals as goal

pub returns-in-Err : goal.returns-in-Err
unfolding le_bytes
returns-in-Err c = c.write.ensures ∙ ap (λ bytes. folding.write c.args.state.now (take 8 bytes)) c.to_le_bytes.ensures
