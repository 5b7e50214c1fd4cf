-- What a search by a key tells of a table.
use Rattle.std.specs.Prelude.{ℕ, List}
use Rattle.container_model.specs.Find.{counted, found, found_lower, found_rank, found_upper, lower_rank, upper_rank}
use Rattle.table_cmd.specs.declared.command.Value.{Value}
use Rattle.table_terms.specs.declared.kinds.Kinds.{Kinds}
use Rattle.table_terms.specs.declared.kinds.Kinds.TheVariants as kinds
use Rattle.table_terms.specs.Step.{Step}
use Rattle.table_terms.specs.Table.{Cells, TableState, probe_order}
use Rattle.table_terms.specs.Words.{at_key}
use Rattle.table_reads.specs.declared.search.Search.{Search}
use Rattle.table_reads.specs.declared.search.Search.TheVariants as searches
use Rattle.table_reads.specs.Reads.{counted_by, found_by}

-- the kinds of index that the search takes
abbrev pub search_kinds : Search → Kinds
search_kinds searches.Find = kinds.Keyed
search_kinds searches.Count = kinds.Keyed
search_kinds searches.Lower = kinds.Sorted
search_kinds searches.Upper = kinds.Sorted
search_kinds searches.FindRank = kinds.Ranked
search_kinds searches.LowerRank = kinds.Ranked
search_kinds searches.UpperRank = kinds.Ranked

-- the record or the number that it finds by a search key
unfoldable pub search_probe : TableState → Search → ℕ → Cells → Step
search_probe t searches.Find index probe = found_by t (found probe_order t.records index probe)
search_probe t searches.Count index probe = counted_by t (counted probe_order t.records index probe)
search_probe t searches.Lower index probe = found_by t (found_lower probe_order t.records index probe)
search_probe t searches.Upper index probe = found_by t (found_upper probe_order t.records index probe)
search_probe t searches.FindRank index probe = counted_by t (found_rank probe_order t.records index probe)
search_probe t searches.LowerRank index probe = counted_by t (lower_rank probe_order t.records index probe)
search_probe t searches.UpperRank index probe = counted_by t (upper_rank probe_order t.records index probe)

abbrev pub search_step : TableState → Search → List ℕ → List Value → Step
search_step t search name values = at_key t (search_kinds search) name values (search_probe t search)
