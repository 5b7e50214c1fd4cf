use Rattle.std.proofs.Common.{◌<◌, ◌∙◌, [], length, take, rules, ap}
use Rattle.checked_log.specs.Digest.{Front, finished, step}
use Rattle.checked_log.proofs.Pieces.{no_piece}
use Rattle.checked_log.proofs.digest.Digesting.finish.Goals as goal

pub returns : goal.returns
returns c =
    let held : length (take c.self.inside.count c.self.inside.held) < 8 = search rules in
    c.step.ensures ∙ ap (step c.self.inside.number) c.last_word.ensures ∙ no_piece c.self.inside.number _ held ∙ ap (λ (d : Front). finished d []) c.self.view_is
