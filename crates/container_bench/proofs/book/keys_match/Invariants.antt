use Rattle.std.proofs.Common.{◌≡◌, ◌<◌, ℕ, slice_index_or}
use Rattle.std.specs.Prelude.{IsTrue}
use Rattle.container_model.specs.declared.handle.Spec.{Spec}
use Rattle.container_model.specs.State.{has_key_kind}
use Rattle.container_bench.proofs.book.keys_match.Given as goal

abbrev pub invariant-loop-index : goal.invariant-loop-index
invariant-loop-index g l = record {
  keyed : (i : ℕ) (d : Spec) → i < l.index → g.E.Extract.has_key l.keys i ≡ has_key_kind (slice_index_or l.specs i d).kind;
  unique : (i : ℕ) (d : Spec) → i < l.index → IsTrue (slice_index_or l.specs i d).unique → IsTrue (has_key_kind (slice_index_or l.specs i d).kind);
}
