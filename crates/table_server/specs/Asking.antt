-- What the program does and how it ends, by what its words ask for.
use Rattle.std.specs.Prelude.{◌≡◌, ◌≢◌, ◌⊎◌, ℕ, List, Option, None, Some, Ok, ⊤}
use Rattle.program_words.specs.Address.{IsAddress, IsNoAddress}
use Rattle.program_words.specs.Asked.{Asking, run, serve}
use Rattle.program_words.specs.declared.address.Address.{Address}
use Rattle.table_engine.specs.Devices.{AppendsFront}
use Rattle.table_engine.specs.declared.source.Source.{Source}
use Rattle.table_server.specs.Done.{Done, EndsInput}
use Rattle.table_engine.specs.declared.sink.Sink.{Sink}
use Rattle.table_server.specs.Keeping.{Outcome}
use Rattle.table_server.specs.Making.{Making}
use Rattle.table_server.specs.Serving.{IsUntold, Served, announcement}
use Rattle.table_sockets.specs.Accepting.{Accepting}
use Rattle.table_sockets.specs.declared.end.End.{End}
use Rattle.table_sockets.specs.declared.end.End.TheVariants.{Fine}

-- The words are wrong, or name no address to listen at.
abbrev pub AsksNothing : Option Asking → Type 0
AsksNothing None = ⊤
AsksNothing (Some (run files)) = ⊥
AsksNothing (Some (serve serving)) = IsNoAddress serving.listen

-- a schema file is named
abbrev pub NamesSchema : Option Asking → Type 0
NamesSchema None = ⊥
NamesSchema (Some (run files)) = files.schema ≢ None
NamesSchema (Some (serve serving)) = ⊤

-- connections are to be served
abbrev pub AsksService : Option Asking → Type 0
AsksService None = ⊥
AsksService (Some (run files)) = ⊥
AsksService (Some (serve serving)) = ⊤

-- what is asked for is done: lines are answered, or connections were served at the address that its text spells, and the journals are kept
abbrev pub DoesAsked : {R F B M L T I O : Type 0} → (List ℕ → R → Type 0) → (R → Option (List ℕ)) → Making F B M → (M → Option (List ℕ))
    → (Address → L → Type 0) → (L → Accepting T I O) → Option Asking → F → F → Option (List ℕ) → Option (List ℕ) → Option (List ℕ) → Option (List ℕ) → Type 0
DoesAsked is_at remaining making contents is_listening known None before after input_before input_after output_before output_after = ⊥
DoesAsked is_at remaining making contents is_listening known (Some (run files)) before after input_before input_after output_before output_after =
    Done is_at remaining files input_before input_after output_before output_after × (after ≡ before)
DoesAsked is_at remaining making contents is_listening known (Some (serve serving)) before after input_before input_after output_before output_after =
    (place : Address) × IsAddress serving.listen place
    × Served is_at remaining making contents is_listening known serving.schema place serving.workers serving.each serving.journal before after output_before output_after Fine (Ok tt)

-- How the program ends, whatever its words ask for. A file is made only by a serving, once the output was told that it listens.
abbrev pub EndsAsked : {R F B M L T I O W : Type 0} → (List ℕ → R → Type 0) → (R → Option (List ℕ)) → Making F B M → (M → Option (List ℕ))
    → (Address → L → Type 0) → (L → Accepting T I O) → (W → Option (List ℕ)) → Option Asking → F → F → Sink W → Sink W → Outcome → Type 0
EndsAsked is_at remaining making contents is_listening known written None before after output output' outcome = after ≡ before
EndsAsked is_at remaining making contents is_listening known written (Some (run files)) before after output output' outcome = after ≡ before
EndsAsked is_at remaining making contents is_listening known written (Some (serve serving)) before after output output' outcome =
    IsUntold making written serving.schema serving.journal before after output output' outcome
    ⊎ ((place : Address) × IsAddress serving.listen place × (end : End)
    × Served is_at remaining making contents is_listening known serving.schema place serving.workers serving.each serving.journal before after
    (written output.inner) (written output'.inner) end outcome)

-- what is asked for reads the input to its end, or does not touch it
abbrev pub LeavesInput : {I : Type 0} → Option Asking → Source I → Source I → Type 0
LeavesInput None before after = ⊥
LeavesInput (Some (run files)) before after = EndsInput files.commands before after
LeavesInput (Some (serve serving)) before after = after ≡ before

-- However the serving of connections ends, the input is not touched, and the output is told that the program listens, a front of that, or nothing.
abbrev pub OnlyAnnounces : {I : Type 0} → Option Asking → Source I → Source I → Option (List ℕ) → Option (List ℕ) → Type 0
OnlyAnnounces None input_before input_after output_before output_after = ⊤
OnlyAnnounces (Some (run files)) input_before input_after output_before output_after = ⊤
OnlyAnnounces (Some (serve serving)) input_before input_after output_before output_after =
    (input_after ≡ input_before) × AppendsFront output_before output_after announcement
