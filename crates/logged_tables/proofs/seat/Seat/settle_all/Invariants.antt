use Rattle.std.proofs.Common.{◌≡◌, length, take, None}
use Rattle.std.specs.Prelude.{All}
use Rattle.logged_tables.proofs.Marks.{Settling}
use Rattle.logged_tables.proofs.seat.Seat.settle_all.Given as goal

abbrev pub invariant-loop-place : goal.invariant-loop-place
invariant-loop-place g l = (length l.standing ≡ l.place-end) × (length l.fn.standing ≡ l.place-end) × All (λ mark. mark ≡ None) (take l.place l.standing) × Settling l.self.names l.fn.standing l.place l.standing
