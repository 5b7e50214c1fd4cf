-- What is answered to a command, and the line that says it.
use Rattle.std.specs.Prelude.{ℕ, List, [], ◌∷◌, ◌++◌, true, Option, Some, None, codes, map, slice_get}
use Rattle.serde_json.specs.Data.{Data, null, boolean, number, string, array, object, unsigned, Items, no_items, item, Members, no_members, member}
use Rattle.serde_json.specs.Find.{of_integer}
use Rattle.serde_json.specs.Written.{compact_text}
use Rattle.container_model.specs.declared.handle.Handle.{Handle}
use Rattle.key_extract.specs.declared.cell.Cell.{Cell}
use Rattle.key_extract.specs.declared.cell.Cell.TheVariants as cells
use Rattle.table_reply.specs.declared.fault.Fault.{Fault}
use Rattle.table_reply.specs.declared.fault.Fault.TheVariants as faults
use Rattle.table_reply.specs.declared.records.Heading.{Heading}
use Rattle.table_reply.specs.declared.records.Record.{Record}
use Rattle.table_reply.specs.declared.reply.Reply.{Reply}
use Rattle.table_reply.specs.declared.reply.Reply.TheVariants as replies
use Rattle.table_reply.specs.Spelling.{spelling}

-- a cell under the name of its column, which the row may lack
pub record Named : Type 0 where
  pub name : List ℕ
  pub cell : Option Cell

-- a record with its named cells
pub record Listed : Type 0 where
  pub handle : Handle
  pub row : List Named

-- what an answer line says: that a write is done, a record or nothing, a number, the record after one that went or the
-- end, a record with its row, a ban, an erasure by a changed key, two records of one key at a new index, records with their
-- rows, a fault
pub data Answer : Type 0 where
  done : ℕ → Answer
  found : ℕ → Option Handle → Answer
  counted : ℕ → ℕ → Answer
  after : ℕ → Option Handle → Answer
  shown : ℕ → Listed → Answer
  banned : ℕ → List ℕ → Handle → Answer
  erased : ℕ → List ℕ → Handle → Answer
  clash : ℕ → List ℕ → Handle → Handle → Answer
  listed : ℕ → List Listed → Answer
  fault : Fault → Answer

-- the cells of a row under their headings
abbrev pub named : List Heading → List Cell → List Named
named headings row = map (λ h. record { name = h.name; cell = slice_get row h.place }) headings

-- a record as it is shown under the headings
abbrev pub listed_of : List Heading → Record → Listed
listed_of headings r = record { handle = r.handle; row = named headings r.row.now }

-- what a reply says
abbrev pub answer : Reply → Answer
answer (replies.Done at) = done at
answer (replies.Found at h) = found at h
answer (replies.Counted at n) = counted at n
answer (replies.Next at next) = after at next
answer (replies.Banned at index by) = banned at index by
answer (replies.Erased at index by) = erased at index by
answer (replies.Clash at index first second) = clash at index first second
answer (replies.Fault f) = fault f

-- the name of a fault
abbrev pub fault_name : Fault → List ℕ
fault_name faults.Line = codes "line"
fault_name faults.Json = codes "json"
fault_name faults.Command = codes "command"
fault_name faults.Table = codes "table"
fault_name faults.Index = codes "index"
fault_name faults.Kind = codes "kind"
fault_name faults.Row = codes "row"
fault_name faults.Key = codes "key"
fault_name faults.Definition = codes "definition"
fault_name faults.Handle = codes "handle"
fault_name faults.Place = codes "place"
fault_name faults.Order = codes "order"
fault_name faults.Overflow = codes "overflow"
fault_name faults.Full = codes "full"
fault_name faults.Spent = codes "spent"
fault_name faults.Memory = codes "memory"

-- a handle; null for the end, and where nothing is found
abbrev pub handle_data : Option Handle → Data
handle_data None = null
handle_data (Some h) = string (spelling h)

-- a cell as JSON; a missing one is null
abbrev pub data_of : Option Cell → Data
data_of None = null
data_of (Some cells.Null) = null
data_of (Some (cells.Int n)) = number (of_integer n)
data_of (Some (cells.Text s)) = string s
data_of (Some (cells.Bool b)) = boolean b

-- a row's cells as the members of an object, in the order given
abbrev pub row_members : List Named → Members
row_members [] = no_members
row_members (n ∷ ns) = member n.name (data_of n.cell) (row_members ns)

-- a row as a JSON object, its columns in the order given
abbrev pub row_data : List Named → Data
row_data ns = object (row_members ns)

-- a record: its handle and its row
abbrev pub listed_data : Listed → Data
listed_data l = object (member (codes "h") (handle_data (Some l.handle)) (member (codes "r") (row_data l.row) no_members))

-- records in their order
abbrev pub listed_items : List Listed → Items
listed_items [] = no_items
listed_items (l ∷ ls) = item (listed_data l) (listed_items ls)

-- the write number, and the members after it
abbrev pub at_member : ℕ → Members → Members
at_member at ms = member (codes "at") (number (unsigned at)) ms

-- that the command is carried out, and the members after it
abbrev pub ok_member : Members → Members
ok_member ms = member (codes "ok") (boolean true) ms

-- the members where other records stand in the way: the index, what comes of that, and the records
abbrev pub blocked_members : List ℕ → List ℕ → Members → Members
blocked_members index word ms = member (codes "by") (string index) (member (codes "err") (string word) ms)

-- an answer as a JSON value, its members in ascending order of their names
abbrev pub answer_data : Answer → Data
answer_data (done at) = object (at_member at (ok_member no_members))
answer_data (found at h) = object (at_member at (member (codes "h") (handle_data h) (ok_member no_members)))
answer_data (counted at n) = object (at_member at (member (codes "n") (number (unsigned n)) (ok_member no_members)))
answer_data (after at next) = object (at_member at (member (codes "next") (handle_data next) (ok_member no_members)))
answer_data (shown at l) = object (at_member at (member (codes "h") (handle_data (Some l.handle)) (ok_member (member (codes "r") (row_data l.row) no_members))))
answer_data (banned at index by) = object (at_member at (blocked_members index (codes "banned") (member (codes "h") (handle_data (Some by)) no_members)))
answer_data (erased at index by) = object (at_member at (blocked_members index (codes "erased") (member (codes "h") (handle_data (Some by)) no_members)))
answer_data (clash at index first second) =
    object (at_member at (blocked_members index (codes "clash") (member (codes "h") (handle_data (Some first)) (member (codes "h2") (handle_data (Some second)) no_members))))
answer_data (listed at ls) = object (at_member at (ok_member (member (codes "rs") (array (listed_items ls)) no_members)))
answer_data (fault f) = object (member (codes "err") (string (fault_name f)) no_members)

-- the line of an answer, with its newline
unfoldable pub answer_text : Answer → List ℕ
answer_text a = compact_text (answer_data a) ++ codes "\n"
