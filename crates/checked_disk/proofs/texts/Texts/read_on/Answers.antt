use Rattle.checked_disk.proofs.texts.Texts.read_on.Goals as goal

pub returns-then-not-begin_at-clause-reading : goal.returns-then-not-begin_at-clause-reading
returns-then-not-begin_at-clause-reading g c = c.begin_at.ensures.reading (g.F.LogFiles.contents c.args.disk.now.files) c.requires.reading

pub read_some-requires : goal.read_some-requires
read_some-requires g c = record { reading = c.begin_at.ensures.reading (g.F.LogFiles.contents c.args.disk.now.files) c.requires.reading }

pub returns-clause-reading : goal.returns-clause-reading
returns-clause-reading g c = c.hand_out.ensures.reading (g.F.LogFiles.contents c.args.disk.now.files) c.in_ok-read_some.ensures.reading
