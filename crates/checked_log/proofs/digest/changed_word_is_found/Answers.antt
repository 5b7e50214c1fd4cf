use Rattle.checked_log.proofs.Changed.{digests_differ}
use Rattle.checked_log.proofs.digest.changed_word_is_found.Goals as goal

pub returns : goal.returns
returns c = digests_differ
