-- How the serving of connections ends, and what has come of it.
use Rattle.std.specs.Prelude.{◌≡◌, ◌⊎◌, ℕ, List, Option, Some, Err, IsErr, IsErrAnd, codes, length}
use Rattle.std.specs.Io.KnownBytes.{Appends}
use Rattle.table_schema.specs.Shape.{TableShape}
use Rattle.shared_tables.specs.Pass.{PassData, fresh_passes}
use Rattle.table_engine.specs.Devices.{AppendsFront, raised}
use Rattle.table_engine.specs.declared.sink.Sink.{Sink}
use Rattle.table_server.specs.Done.{IsSchema}
use Rattle.table_server.specs.Keeping.{Begins, IsNotBegun, KeepsAfter, Outcome, Tried}
use Rattle.table_server.specs.Making.{Making}
use Rattle.table_server.specs.declared.fault.Fault.TheVariants.{Memory, Write}
use Rattle.table_sockets.specs.Accepting.{Accepting}
use Rattle.table_sockets.specs.Serving.{AreServed}
use Rattle.table_sockets.specs.declared.end.End.{End}

-- what the output is told once the program listens
abbrev pub announcement : List ℕ
announcement = codes "listening\n"

-- From what listens at an address, each worker accepted connections and served them, so many unless it ended before. The workers began with passes that knew
-- nothing, and leave these. Their latest end is this one.
pub record AreAllServed {P L T I O : Type 0} (is_listening : P → L → Type 0) (known : L → Accepting T I O) (place : P) (schema : List TableShape) (workers each : ℕ) (passes : List PassData) (end : End) : Type 0 where
  pub listener : L
  pub listens : is_listening place listener
  pub served : AreServed (known listener) (record { schema = schema; workers = workers }) each (fresh_passes (length schema) workers) passes end

-- Connections were served at an address on the tables of a schema file, which the output was told. Before that the journal's path was tried, if there is one.
-- The threads ended so. What came of them is kept, and that ended so.
pub record Served {R F B M P L T I O : Type 0} (is_at : List ℕ → R → Type 0) (remaining : R → Option (List ℕ)) (making : Making F B M) (contents : M → Option (List ℕ))
    (is_listening : P → L → Type 0) (known : L → Accepting T I O)
    (file : List ℕ) (place : P) (workers each : ℕ) (journal : Option (List ℕ)) (before after : F) (output_before output_after : Option (List ℕ)) (end : End) (outcome : Outcome) : Type 0 where
  pub schema : List TableShape
  pub is_schema : IsSchema is_at remaining (Some file) schema
  pub there : F
  pub tried : Option (Tried B)
  pub begun : Begins making journal file before there tried
  pub announced : Appends output_before output_after announcement
  pub passes : List PassData
  pub served : AreAllServed is_listening known place schema workers each passes end
  pub kept : KeepsAfter making contents tried schema workers passes there after end outcome

-- The output was not told that the program listens, and no file was made: the journal's path was not tried, or refused, or a write to the output failed.
abbrev pub IsUntold : {F B M W : Type 0} → Making F B M → (W → Option (List ℕ)) → List ℕ → Option (List ℕ) → F → F → Sink W → Sink W → Outcome → Type 0
IsUntold {F} {B} making written file journal before after output output' outcome =
    ((output' ≡ output) × (after ≡ before) × IsErr outcome)
    ⊎ (((output' ≡ output) × IsNotBegun making journal file before after × IsErrAnd outcome (λ fault. (fault ≡ Memory) ⊎ (fault ≡ Write)))
    ⊎ ((output'.failures ≡ raised output.failures) × AppendsFront (written output.inner) (written output'.inner) announcement
    × ((tried : Option (Tried B)) × Begins making journal file before after tried) × (outcome ≡ Err Write)))
