use Rattle.std.proofs.Common.{◌≡◌, None, Some, OnOk, IfErr, unwrap_or, subst}
use Rattle.container_model.specs.declared.refusal.Why.TheVariants.{Memory}
use Rattle.container_model.specs.Insert.{insert_at_refusal, with_inserted}
use Rattle.indexed.specs.Orders.{by_key}
use Rattle.indexed.proofs.container.Indexed.insert_at.Goals as goal

pub returns-clause-allowed : goal.returns-clause-allowed
returns-clause-allowed g c = subst (λ s. OnOk c.insert_at.result (insert_at_refusal (by_key g.R.Fields.row_of) s c.args.tag.0 c.args.place c.args.row ≡ None)) c.self.view_is c.insert_at.ensures.allowed

pub returns-clause-ok : goal.returns-clause-ok
returns-clause-ok g c = subst (λ s. OnOk c.insert_at.result (c.insert_at.new.self ≡ with_inserted (by_key g.R.Fields.row_of) s (Some (c.args.tag.0, c.args.place)) c.args.row)) c.self.view_is c.insert_at.ensures.ok

pub returns-clause-why : goal.returns-clause-why
returns-clause-why g c = subst (λ s. IfErr c.insert_at.result (λ refused. refused.why ≡ unwrap_or (insert_at_refusal (by_key g.R.Fields.row_of) s c.args.tag.0 c.args.place c.args.row) Memory)) c.self.view_is c.insert_at.ensures.why
