-- How a stream ends, by how its lines were served.
use Rattle.std.proofs.Common.{◌≡◌, ◌⊎◌, inl, inr, ℕ, List, refl, sym, ap, subst}
use Rattle.std.specs.Prelude.{Option, Result, Ok, Err, OnOk}
use Rattle.std.specs.Io.KnownBytes.{Appends}
use Rattle.table_engine.specs.Devices.{AppendsFront}
use Rattle.table_engine.specs.Outcomes.{IsRefused, IsServed, IsUnread, IsUnwritten}
use Rattle.table_engine.specs.declared.sink.Sink.{Sink}
use Rattle.table_engine.specs.declared.source.Source.{Source}
use Rattle.table_engine.specs.declared.stopped.Stopped.{Stopped}
use Rattle.table_engine.specs.declared.stopped.Stopped.TheVariants as stops
use Rattle.logged_tables.specs.declared.fault.OverAt.{OverAt}
use Rattle.logged_tables.specs.declared.fault.ServeFault.{ServeFault}
use Rattle.logged_tables.specs.declared.fault.ServeFault.TheVariants as faults
use Rattle.logged_tables.specs.Found.{IsUnsynced}
use Rattle.logged_tables.specs.Ends.{EndsAs, failed_sink, whole_sink}

pub ends_well : (names : List (List ℕ)) (P Q : Type 0) (served : Result (Unit {0}) (Stopped OverAt)) (end : Result (Unit {0}) ServeFault) → EndsAs names served end → (P → Q) → OnOk served P → OnOk end Q
ends_well names P Q (Ok x) end e f h = subst (λ r. OnOk r Q) (sym e) (f h)
ends_well names P Q (Err stops.Read) end e f h = subst (λ r. OnOk r Q) (sym e) tt
ends_well names P Q (Err stops.Memory) end e f h = subst (λ r. OnOk r Q) (sym e) tt
ends_well names P Q (Err (stops.Refused at)) end e f h = subst (λ r. OnOk r Q) (sym e) tt
ends_well names P Q (Err stops.Write) end (inl e) f h = subst (λ r. OnOk r Q) (sym e) tt
ends_well names P Q (Err stops.Write) end (inr e) f h = subst (λ r. OnOk r Q) (sym e.1) tt

pub was_unread : (names : List (List ℕ)) (served : Result (Unit {0}) (Stopped OverAt)) (end : Result (Unit {0}) ServeFault) → EndsAs names served end → end ≡ Err faults.Read → served ≡ Err stops.Read
was_unread names (Ok x) end e is = absurd (cc)
was_unread names (Err stops.Read) end e is = refl
was_unread names (Err stops.Memory) end e is = absurd (cc)
was_unread names (Err (stops.Refused at)) end e is = absurd (cc)
was_unread names (Err stops.Write) end (inl e) is = absurd (cc)
was_unread names (Err stops.Write) end (inr e) is = let same = e.1 in absurd (cc)

pub was_unwritten : (names : List (List ℕ)) (served : Result (Unit {0}) (Stopped OverAt)) (end : Result (Unit {0}) ServeFault) → EndsAs names served end → end ≡ Err faults.Write → served ≡ Err stops.Write
was_unwritten names (Ok x) end e is = absurd (cc)
was_unwritten names (Err stops.Read) end e is = absurd (cc)
was_unwritten names (Err stops.Memory) end e is = absurd (cc)
was_unwritten names (Err (stops.Refused at)) end e is = absurd (cc)
was_unwritten names (Err stops.Write) end e is = refl

pub was_over : (names : List (List ℕ)) (served : Result (Unit {0}) (Stopped OverAt)) (end : Result (Unit {0}) ServeFault) (at : OverAt) → EndsAs names served end → end ≡ Err (faults.Over at)
    → (IsUnsynced names at × (served ≡ Err stops.Write)) ⊎ (served ≡ Err (stops.Refused at))
was_over names (Ok x) end at e is = absurd (cc)
was_over names (Err stops.Read) end at e is = absurd (cc)
was_over names (Err stops.Memory) end at e is = absurd (cc)
was_over names (Err (stops.Refused other)) end at e is = let same : other ≡ at = cc in inr (ap (λ a. Err (stops.Refused a)) same)
was_over names (Err stops.Write) end at (inl e) is = absurd (cc)
was_over names (Err stops.Write) end at (inr (other, e, found)) is = let same : other ≡ at = cc in inl (subst (λ a. IsUnsynced names a) same found, refl)

-- ---- the same outcomes of a writer within another

module _ {R V W : Type 0} (remaining : R → Option (List ℕ)) (contents : W → Option (List ℕ)) (into : V → W) (source source' : Source R) (sink sink' : Sink V) (writer writer' : W)
    (before : into sink.inner ≡ writer) (after : into sink'.inner ≡ writer') (tells tells' : List ℕ → List ℕ → Type 0) (f : (bytes text : List ℕ) → tells bytes text → tells' bytes text) where
  written_by : (text : List ℕ) → Appends (contents (into sink.inner)) (contents (into sink'.inner)) text → Appends (contents writer) (contents writer') text
  written_by text h = subst (λ w. Appends (contents writer) (contents w) text) after (subst (λ w. Appends (contents w) (contents (into sink'.inner)) text) before h)

  front_by : (text : List ℕ) → AppendsFront (contents (into sink.inner)) (contents (into sink'.inner)) text → AppendsFront (contents writer) (contents writer') text
  front_by text h = subst (λ w. AppendsFront (contents writer) (contents w) text) after (subst (λ w. AppendsFront (contents w) (contents (into sink'.inner)) text) before h)

  pub served_within : IsServed remaining (λ v. contents (into v)) source source' sink sink' tells → IsServed remaining contents source source' (whole_sink writer) (whole_sink writer') tells'
  served_within h = record {
    bytes = h.bytes;
    read = h.read;
    ended = h.ended;
    text = h.text;
    is_told = f h.bytes h.text h.is_told;
    written = written_by h.text h.written;
    ends = h.ends;
    all_read = h.all_read;
    all_written = refl;
  }

  pub unread_within : IsUnread remaining (λ v. contents (into v)) source source' sink sink' tells → IsUnread remaining contents source source' (whole_sink writer) (whole_sink writer') tells'
  unread_within h = record {
    bytes = h.bytes;
    read = h.read;
    text = h.text;
    is_told = f h.bytes h.text h.is_told;
    written = written_by h.text h.written;
    cause = h.cause;
    all_written = refl;
  }

  pub unwritten_within : IsUnwritten remaining (λ v. contents (into v)) source source' sink sink' tells → IsUnwritten remaining contents source source' (whole_sink writer) (failed_sink writer') tells'
  unwritten_within h = record {
    bytes = h.bytes;
    read = h.read;
    text = h.text;
    is_told = f h.bytes h.text h.is_told;
    written = front_by h.text h.written;
    all_read = h.all_read;
    cause = refl;
  }

  pub refused_within : IsRefused remaining (λ v. contents (into v)) source source' sink sink' tells → IsRefused remaining contents source source' (whole_sink writer) (whole_sink writer') tells'
  refused_within h = record {
    bytes = h.bytes;
    read = h.read;
    text = h.text;
    is_told = f h.bytes h.text h.is_told;
    written = front_by h.text h.written;
    all_read = h.all_read;
    all_written = refl;
  }
