-- What a line that was read says.
use Rattle.checked_log.specs.Line.{Entry}
use Rattle.checked_log.specs.declared.line.Line.{Line}

abbrev pub said : Line → Entry
said line = record { durable = line.durable; number = line.number; before = line.before; write = line.write.now }
