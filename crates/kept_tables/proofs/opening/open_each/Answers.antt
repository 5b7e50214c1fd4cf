use Rattle.std.proofs.Common.{◌≡◌, [], sym, subst, rules}
use Rattle.std.specs.List.{All}
use Rattle.std.proofs.lemmas.List.Elements.{All-nil, All-push}
use Rattle.kept_tables.specs.Opened.{IsOpened}
use Rattle.kept_tables.proofs.opening.open_each.Goals as goal

pub loop-ready-init : goal.loop-ready-init
loop-ready-init c = let none : c.new-tables.result.items ≡ [] = search rules in (search rules, subst (All IsOpened) (sym none) (All-nil IsOpened))

pub loop-ready-preserved : goal.loop-ready-preserved
loop-ready-preserved c =
    (search rules, subst (All IsOpened) (sym c.in_ok-push.ensures.items) (All-push IsOpened c.loop-ready.tables.items _ c.loop-ready.invariant.1 c.in_ok-opened.ensures.opened))
