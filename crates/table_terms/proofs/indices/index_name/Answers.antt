use Rattle.std.proofs.Common.{IsTrue, sym, subst, tests}
use Rattle.std.specs.List.{list_all}
use Rattle.table_reply.specs.Plain.{is_plain}
use Rattle.table_terms.proofs.Declared.{index_name_is_plain}
use Rattle.table_terms.proofs.indices.index_name.Goals as goal

pub unreachable-requires : goal.unreachable-requires
unreachable-requires c =
    let plain = subst (λ name. IsTrue (list_all is_plain name)) (sym c.name_at.ensures.name) (index_name_is_plain c.args.spec.now c.name_at.ensures.valid c.args.index) in
    let no = c.in-None.ensures.plain.1 plain in
    search tests
