-- Lines and marks as JSON values, their members in ascending order of their names.
use Rattle.std.specs.Prelude.{codes}
use Rattle.serde_json.specs.Data.{Data, number, string, object, unsigned, no_members, member}
use Rattle.checked_log.specs.Digest.{digest}
use Rattle.checked_log.specs.Hex.{hex_text}
use Rattle.checked_log.specs.Line.{Entry, line_digest}
use Rattle.checked_log.specs.Mark.{mark_covered}
use Rattle.checked_log.specs.declared.recovery.Link.{Link}

-- a line with a write that is this value
abbrev pub line_data : Entry → Data → Data
line_data e write =
    object
    (member (codes "c") (string (hex_text (line_digest e)))
    (member (codes "d") (number (unsigned e.durable))
    (member (codes "n") (number (unsigned e.number))
    (member (codes "p") (string (hex_text e.before)) (member (codes "w") write no_members)))))

-- a slot of the mark
abbrev pub mark_data : Link → Data
mark_data m =
    object
    (member (codes "c") (string (hex_text (digest (mark_covered m))))
    (member (codes "e") (string (hex_text m.digest)) (member (codes "n") (number (unsigned m.number)) no_members)))
