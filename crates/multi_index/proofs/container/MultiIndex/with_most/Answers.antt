use Rattle.std.proofs.Common.{ap, sym, subst, arith}
use Rattle.container_model.specs.State.{State, IsState}
use Rattle.container_model.proofs.Inserted.{IsState-empty}
use Rattle.multi_index.proofs.container.MultiIndex.with_most.Goals as goal

-- made with no write and no room, it is made with any number of them
pub invariant_of-result : goal.invariant_of-result
invariant_of-result g c =
    let made = c.in_ok-new.ensures in
    record {
      state = subst (IsState g.E.Extract.has_key g.E.Extract.order_of) (sym (ap (λ (s : State _ _). record s { max = c.args.max; writes = c.args.first_write }) made.made))
          (IsState-empty g.E.Extract.has_key g.E.Extract.order_of c.args.most c.args.keys c.args.specs.items c.args.max c.args.first_write c.requires.keys c.requires.few);
      narrow = c.ranges.max.fits;
      numbered = c.ranges.first_write.fits;
      added = let none = made.none in omega (arith, none);
    }

pub returns : goal.returns
returns g c = ap (λ (s : State _ _). record s { max = c.args.max; writes = c.args.first_write }) c.in_ok-new.ensures.made
