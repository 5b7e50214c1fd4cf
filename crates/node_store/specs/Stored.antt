-- What stored links stand for. No public clause cites this module.
use Rattle.std.specs.Prelude.{None, get_or}
use Rattle.node_store.specs.declared.Link.{Link}
use Rattle.node_store.specs.declared.stored.Stored.{Stored}

-- the links
abbrev pub link_of : Stored → Link
link_of s = record { a = get_or s.sides 0 None; b = get_or s.sides 1 None; up = s.up; tag = s.tag; height = s.height; digest = record { high = s.high; low = s.low } }
