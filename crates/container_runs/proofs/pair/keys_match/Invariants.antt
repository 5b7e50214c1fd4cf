use Rattle.std.proofs.Common.{◌≡◌, ◌<◌, ℕ, slice_index_or}
use Rattle.std.specs.Prelude.{IsTrue, is_some}
use Rattle.container_model.specs.declared.handle.Spec.{Spec}
use Rattle.container_model.specs.State.{has_key_kind}
use Rattle.key_extract.specs.Keys.{key_at}
use Rattle.container_runs.proofs.pair.keys_match.Given as goal

abbrev pub invariant-loop-index : goal.invariant-loop-index
invariant-loop-index l = record {
  keyed : (i : ℕ) (d : Spec) → i < l.index → is_some (key_at l.keys i) ≡ has_key_kind (slice_index_or l.specs i d).kind;
  unique : (i : ℕ) (d : Spec) → i < l.index → IsTrue (slice_index_or l.specs i d).unique → IsTrue (has_key_kind (slice_index_or l.specs i d).kind);
}
