-- What readers leave, one after another.
use Rattle.std.proofs.Common.{◌≡◌, ℕ, Result, Ok, Err, refl, sym, ◌∙◌, subst}
use Rattle.std.specs.Prelude.{IfErr}
use Rattle.table_log.specs.declared.disk.Disk.{Ghosts}
use Rattle.table_state.specs.declared.fault.StateWhy.{StateWhy}
use Rattle.table_state.specs.declared.fault.StateWhy.TheVariants as whys
use Rattle.table_state.specs.declared.source.Source.{Source}
use Rattle.table_state.specs.Reading.{IsWithin, ReadsOn}
use Rattle.table_state.specs.Writing.{failures_of_state}

-- whatever was read
pub reads_told : {D T U : Type 0} {X : Ghosts D} {old new : D} {source : Source} {x : T} {y : U} → ReadsOn X old new source (Ok x) → ReadsOn X old new source (Ok y)
reads_told reads = record { within = reads.within; contents = reads.contents; size = reads.size; synced = reads.synced; failures = reads.failures }

module _ {D T U V : Type 0} {X : Ghosts D} {old mid new : D} {source next : Source} {x : T} {y : U} {z : V} where
  -- and then more was
  pub reads_then : ReadsOn X old mid source (Ok x) → ReadsOn X mid new next (Ok y) → ReadsOn X old new next (Ok z)
  reads_then first later = record {
    within = later.within;
    contents = later.contents ∙ first.contents;
    size = later.size ∙ first.size;
    synced = later.synced ∙ first.synced;
    failures = later.failures ∙ first.failures;
  }

-- where the disk was not asked it did not fail
no_failure : {T : Type 0} (r : Result T StateWhy) (count : ℕ) → IfErr r (λ why. why ≡ whys.Disk → ⊥) → failures_of_state r count ≡ count
no_failure (Ok x) count asked = refl
no_failure (Err whys.Memory) count asked = refl
no_failure (Err whys.Table) count asked = refl
no_failure (Err (whys.Line number)) count asked = refl
no_failure (Err whys.Disk) count asked = absurd (asked refl)

module _ {D T U : Type 0} {X : Ghosts D} {old new : D} {source next : Source} {x : T} where
  -- the line that was read was compared, and no disk was asked
  pub reads_confirmed : (r : Result U StateWhy) → ReadsOn X old new source (Ok x) → next ≡ record source { text = next.text } → IfErr r (λ why. why ≡ whys.Disk → ⊥) → ReadsOn X old new next r
  reads_confirmed r reads same asked =
      let within = reads.within in
      let kept : IsWithin (X.size new) (record source { text = next.text }) = record { counted = within.counted; at = within.at; start = within.start; end = within.end; room = within.room } in
      record {
        within = subst (IsWithin (X.size new)) (sym same) kept;
        contents = reads.contents;
        size = reads.size;
        synced = reads.synced;
        failures = reads.failures ∙ sym (no_failure r (X.failures old) asked);
      }
