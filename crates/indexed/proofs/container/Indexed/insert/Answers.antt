use Rattle.std.proofs.Common.{◌≡◌, None, OnOk, IfErr, unwrap_or, subst}
use Rattle.container_model.specs.declared.refusal.Why.TheVariants.{Memory}
use Rattle.container_model.specs.Insert.{insert_refusal, with_inserted}
use Rattle.indexed.specs.Orders.{by_key}
use Rattle.indexed.proofs.container.Indexed.insert.Goals as goal

pub returns-clause-allowed : goal.returns-clause-allowed
returns-clause-allowed g c = subst (λ s. OnOk c.insert.result (insert_refusal (by_key g.R.Fields.row_of) s c.args.row ≡ None)) c.self.view_is c.insert.ensures.allowed

pub returns-clause-ok : goal.returns-clause-ok
returns-clause-ok g c = subst (λ s. OnOk c.insert.result (c.insert.new.self ≡ with_inserted (by_key g.R.Fields.row_of) s None c.args.row)) c.self.view_is c.insert.ensures.ok

pub returns-clause-why : goal.returns-clause-why
returns-clause-why g c = subst (λ s. IfErr c.insert.result (λ refused. refused.why ≡ unwrap_or (insert_refusal (by_key g.R.Fields.row_of) s c.args.row) Memory)) c.self.view_is c.insert.ensures.why
