use Rattle.std.proofs.Common.{inl, inr, refl, subst, sym, ◌∙◌}
use Rattle.table_folder.specs.Disk.{IsIn}
use Rattle.table_folder.proofs.plain.refuse_plain.Goals as goal

pub returns-in-Some-clause-refused : goal.returns-in-Some-clause-refused
returns-in-Some-clause-refused g c =
    inr (c.in-Some.begin, refl, c.in-Ok.ensures.there c.in-Some.begin (subst (IsIn c.in-Some.begin) (sym c.in-Some.ensures ∙ c.as_slice.ensures.value) (inl refl)))
