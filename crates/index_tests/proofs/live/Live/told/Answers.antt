use Rattle.std.proofs.Common.{subst}
use Rattle.index_set.specs.Set.{store_of}
use Rattle.index_tests.specs.Tens.{CauseNodes}
use Rattle.index_tests.proofs.live.Live.told.Goals as goal

pub age-first-requires : goal.age-first-requires
age-first-requires c = rw c.store-store.ensures (subst (CauseNodes (store_of c.args.self.now.set)) c.in-Clash.is c.requires).0

pub age-second-requires : goal.age-second-requires
age-second-requires c = rw c.store-store.ensures (subst (CauseNodes (store_of c.args.self.now.set)) c.in-Clash.is c.requires).1
