use Rattle.checked_disk.proofs.texts.Texts.begin_at.Goals as goal

pub returns-then-at-eq0-clause-reading : goal.returns-then-at-eq0-clause-reading
returns-then-at-eq0-clause-reading c = λ contents reading. c.rewind.ensures.reading contents
