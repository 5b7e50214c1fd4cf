use Rattle.std.proofs.Common.{◌≡◌, ◌++◌, arith}
use Rattle.std.specs.Option.{option_to_list}
use Rattle.shared_tables.proofs.requests.Requests.end_line.Goals as goal

pub returns-clause-asks : goal.returns-clause-asks
returns-clause-asks c =
    let behind : c.put.new.self ≡ c.args.self.now ++ option_to_list c.end_line-asked.result = grind arith in
    (c.end_line-asked.result, c.end_line-asked.ensures.asks, behind)
