use Rattle.any_index.specs.Keyed.{marks_of}
use Rattle.index_set.proofs.StaysUnique.{unique_restored}
use Rattle.index_set.proofs.Written.{keyed_restored}
use Rattle.index_set.proofs.MarksKept.{same_marks}
use Rattle.index_set.proofs.parts.Parts.put_back.Goals as goal

pub returns-clause-keyed : goal.returns-clause-keyed
returns-clause-keyed g c =
    let r = c.requires.restored in
    keyed_restored g.E.Extract.order_of g.met.E.Extract.order_total c.args.self.now c.requires.sound c.args.n r.before c.requires.node r.keys (marks_of g.E.Extract) (same_marks g.E.Extract.has_key g.E.Extract.order_of g.E.Extract.hash_of g.E.Extract.digest_of g.met.E.Extract.order_total g.met.E.Extract.same_hash g.met.E.Extract.digest_order) r.keyed

pub returns-clause-unique : goal.returns-clause-unique
returns-clause-unique g c before keys h = unique_restored g.E.Extract.order_of g.met.E.Extract.order_total c.args.self.now c.requires.sound c.args.n before c.requires.node keys h
