use Rattle.std.proofs.Common.{◌≡◌, None, Some, OnOk, IfErr, subst}
use Rattle.container_model.specs.Change.{replace_refusal, with_replaced}
use Rattle.indexed.specs.Orders.{by_key}
use Rattle.indexed.proofs.container.Indexed.replace.Goals as goal

pub returns-clause-allowed : goal.returns-clause-allowed
returns-clause-allowed g c = subst (λ s. OnOk c.replace.result (replace_refusal (by_key g.R.Fields.row_of) s c.args.handle c.args.row ≡ None)) c.self.view_is c.replace.ensures.allowed

pub returns-clause-ok : goal.returns-clause-ok
returns-clause-ok g c = subst (λ s. OnOk c.replace.result (c.replace.new.self ≡ with_replaced (by_key g.R.Fields.row_of) s c.args.handle c.args.row)) c.self.view_is c.replace.ensures.ok

pub returns-clause-why : goal.returns-clause-why
returns-clause-why g c = subst (λ s. IfErr c.replace.result (λ refused. Some refused.why ≡ replace_refusal (by_key g.R.Fields.row_of) s c.args.handle c.args.row)) c.self.view_is c.replace.ensures.why
