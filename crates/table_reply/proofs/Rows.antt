-- Worked rows: the lines that tell why an index is not added.
use Rattle.std.proofs.Common.{◌≡◌, codes, refl}
use Rattle.std.specs.Fmt.{digits}
use Rattle.table_reply.specs.declared.fault.Fault.TheVariants.{Definition}
use Rattle.json.specs.Print.{escape_byte}
use Rattle.table_reply.specs.Answer.{answer_text, clash, fault}
use Rattle.table_reply.specs.Spelling.{spelling}

two_of_one_key : answer_text (clash 3 (codes "k") (record { slot = 0; stamp = 1 }) (record { slot = 2; stamp = 3 })) ≡ codes "{\"at\":3,\"by\":\"k\",\"err\":\"clash\",\"h\":\"0:1\",\"h2\":\"2:3\"}\n"
unfolding answer_text spelling digits escape_byte
two_of_one_key = refl

no_definition : answer_text (fault Definition) ≡ codes "{\"err\":\"definition\"}\n"
unfolding answer_text escape_byte
no_definition = refl
