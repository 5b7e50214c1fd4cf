use Rattle.std.proofs.Common.{◌≡◌, true, cond, Ok, Err, ap, ◌∙◌, subst}
use Rattle.list_model.specs.Place.{find_equal}
use Rattle.container_model.specs.State.{has_key_kind}
use Rattle.container_model.specs.declared.refusal.Why.TheVariants.{Kind}
use Rattle.indexed.specs.Kinds.{kind_of}
use Rattle.indexed.specs.Viewed.{Viewed, members, side}
use Rattle.indexed.proofs.view.View.find.Goals as goal

pub returns : goal.returns
returns g c =
    let v : Viewed g.row.R.Denot = record { all = c.self.inside.records.now; number = c.self.inside.number } in
    let answer = find_equal (side g.R.Fields.row_of v c.args.search.now) (members v) in
    let keyed : has_key_kind (kind_of v.all.specs v.number) ≡ true =
    ap (λ specs. has_key_kind (kind_of specs v.number)) c.self.invariant.declared ∙ (ap has_key_kind c.self.invariant.kind_is ∙ g.met.K.Keyed.keyed) in
    let found : c.find.result ≡ Ok answer = c.find.ensures ∙ ap (λ b. cond b (Ok answer) (Err Kind)) keyed in
    let same : c.unwrap.result ≡ answer = cc in
    subst (λ w. c.unwrap.result ≡ find_equal (side g.R.Fields.row_of w c.args.search.now) (members w)) c.self.view_is same
