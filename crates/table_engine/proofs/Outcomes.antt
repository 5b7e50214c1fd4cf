-- The same outcomes, by what else their texts tell.
use Rattle.std.proofs.Common.{ℕ, List}
use Rattle.std.specs.Prelude.{Option}
use Rattle.table_engine.specs.Outcomes.{IsRefused, IsServed, IsUnread, IsUnwritten}
use Rattle.table_engine.specs.declared.sink.Sink.{Sink}
use Rattle.table_engine.specs.declared.source.Source.{Source}

module _ {R W : Type 0} (remaining : R → Option (List ℕ)) (contents : W → Option (List ℕ)) (source source' : Source R) (sink sink' : Sink W) (tells tells' : List ℕ → List ℕ → Type 0) where
  pub served_map : ((bytes text : List ℕ) → tells bytes text → tells' bytes text)
      → IsServed remaining contents source source' sink sink' tells → IsServed remaining contents source source' sink sink' tells'
  served_map f h = record {
    bytes = h.bytes;
    read = h.read;
    ended = h.ended;
    text = h.text;
    is_told = f h.bytes h.text h.is_told;
    written = h.written;
    ends = h.ends;
    all_read = h.all_read;
    all_written = h.all_written;
  }

  pub unread_map : ((bytes text : List ℕ) → tells bytes text → tells' bytes text)
      → IsUnread remaining contents source source' sink sink' tells → IsUnread remaining contents source source' sink sink' tells'
  unread_map f h = record {
    bytes = h.bytes;
    read = h.read;
    text = h.text;
    is_told = f h.bytes h.text h.is_told;
    written = h.written;
    cause = h.cause;
    all_written = h.all_written;
  }

  pub unwritten_map : ((bytes text : List ℕ) → tells bytes text → tells' bytes text)
      → IsUnwritten remaining contents source source' sink sink' tells → IsUnwritten remaining contents source source' sink sink' tells'
  unwritten_map f h = record {
    bytes = h.bytes;
    read = h.read;
    text = h.text;
    is_told = f h.bytes h.text h.is_told;
    written = h.written;
    all_read = h.all_read;
    cause = h.cause;
  }

  pub refused_map : ((bytes text : List ℕ) → tells bytes text → tells' bytes text)
      → IsRefused remaining contents source source' sink sink' tells → IsRefused remaining contents source source' sink sink' tells'
  refused_map f h = record {
    bytes = h.bytes;
    read = h.read;
    text = h.text;
    is_told = f h.bytes h.text h.is_told;
    written = h.written;
    all_read = h.all_read;
    all_written = h.all_written;
  }
