use Rattle.checked_log.proofs.AsJson.{line_json, mark_json}
use Rattle.checked_log.proofs.law.texts_are_json.Goals as goal

pub returns-clause-line : goal.returns-clause-line
returns-clause-line c = line_json

pub returns-clause-mark : goal.returns-clause-mark
returns-clause-mark c = mark_json
