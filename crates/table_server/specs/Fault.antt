-- What a fault of the program is told as.
use Rattle.std.specs.Prelude.{◌≡◌, ◌⊎◌, ℕ, List, Option, Result, Ok, Err, codes, string_bytes}
use Rattle.std.specs.declared.io.ErrorKind.{ErrorKind}
use Rattle.std.specs.declared.io.ErrorKind.TheVariants.{OutOfMemory}
use Rattle.std.specs.Io.KnownBytes.{Appends}
use Rattle.table_engine.specs.Devices.{AppendsFront, raised}
use Rattle.table_engine.specs.declared.sink.Sink.{Sink}
use Rattle.program_words.specs.declared.asked.WordsFault.{WordsFault}
use Rattle.program_words.specs.declared.asked.WordsFault.TheVariants as words
use Rattle.table_schema.specs.declared.fault.SchemaFault.{SchemaFault}
use Rattle.table_schema.specs.declared.fault.SchemaFault.TheVariants as schema
use Rattle.table_engine.specs.declared.stream.StreamFault.{StreamFault}
use Rattle.table_engine.specs.declared.stream.StreamFault.TheVariants as stream
use Rattle.table_server.specs.declared.fault.Fault.{Fault}
use Rattle.table_server.specs.declared.fault.Fault.TheVariants.{Read, Write, Listen, Memory, Words, Address, Schema, Mismatch}

-- the exit status
abbrev pub status_of : Fault → ℕ
status_of Read = 1
status_of Write = 1
status_of Listen = 1
status_of Memory = 1
status_of (Words text) = 2
status_of Address = 2
status_of (Schema fault) = 3
status_of Mismatch = 4

-- the text of a refused schema
abbrev pub schema_text : SchemaFault → List ℕ
schema_text schema.Toml = codes "schema: toml\n"
schema_text schema.Shape = codes "schema: shape\n"
schema_text schema.Limit = codes "schema: limit\n"
schema_text schema.Name = codes "schema: name\n"
schema_text schema.Key = codes "schema: key\n"
schema_text schema.Memory = codes "memory\n"

-- the text for the user, with its newline
abbrev pub text_of : Fault → List ℕ
text_of Read = codes "device: read\n"
text_of Write = codes "device: write\n"
text_of Listen = codes "device: listen\n"
text_of Memory = codes "memory\n"
text_of (Words text) = string_bytes text
text_of Address = codes "listen\n"
text_of (Schema fault) = schema_text fault
text_of Mismatch = codes "mismatch\n"

-- the fault of words that are not read
abbrev pub of_words : WordsFault → Fault
of_words (words.Words text) = Words text
of_words words.Listen = Address
of_words words.Memory = Memory

-- the fault of a schema that is refused
abbrev pub of_schema : SchemaFault → Fault
of_schema schema.Memory = Memory
of_schema refused = Schema refused

-- the fault of a stream that is not served to its end
abbrev pub of_stream : StreamFault → Fault
of_stream stream.Read = Read
of_stream stream.Write = Write
of_stream stream.Memory = Memory

-- the fault of a file that is opened or read, by the kind of its error
abbrev pub of_file : ErrorKind → Fault
of_file OutOfMemory = Memory
of_file _ = Read

-- the fault of a file that is to be written, by the kind of its error
abbrev pub of_written : ErrorKind → Fault
of_written OutOfMemory = Memory
of_written _ = Write

-- the exit status of a call that ends so
abbrev pub status_after : Result (Unit {0}) Fault → ℕ
status_after (Ok _) = 0
status_after (Err fault) = status_of fault

-- The text is written whole, or a write failed behind a front of it.
abbrev pub IsTold : {W : Type 0} → (W → Option (List ℕ)) → Sink W → Sink W → List ℕ → Type 0
IsTold written faults faults' text =
    Appends (written faults.inner) (written faults'.inner) text
    ⊎ ((faults'.failures ≡ raised faults.failures) × AppendsFront (written faults.inner) (written faults'.inner) text)

-- the text of a call that ends so is told, if there is one
abbrev pub Tells : {W : Type 0} → (W → Option (List ℕ)) → Sink W → Sink W → Result (Unit {0}) Fault → Type 0
Tells written faults faults' (Ok _) = faults' ≡ faults
Tells written faults faults' (Err fault) = IsTold written faults faults' (text_of fault)
