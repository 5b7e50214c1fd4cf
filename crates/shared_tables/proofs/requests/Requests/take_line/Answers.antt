use Rattle.std.proofs.Common.{◌≡◌, ◌++◌, arith}
use Rattle.std.specs.Option.{option_to_list}
use Rattle.shared_tables.proofs.requests.Requests.take_line.Goals as goal

pub returns-clause-asks : goal.returns-clause-asks
returns-clause-asks c =
    let behind : c.put.new.self ≡ c.args.self.now ++ option_to_list c.take_line-asked.result = grind arith in
    (c.take_line-asked.result, c.take_line-asked.ensures.asks, behind)
