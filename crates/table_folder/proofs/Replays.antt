-- Lines that are carried out.
use Rattle.std.proofs.Common.{◌≡◌, ℕ, List, [], ◌∷◌, ◌++◌, Option, Some, None, refl, sym, ap, ◌∙◌}
use Rattle.std.specs.Prelude.{option_and_then}
use Rattle.table_folder.specs.Seen.{IsBroken}
use Rattle.table_log.specs.Loaded.{IsReplayed}
use Rattle.table_log.specs.Loading.{IsUnloaded}
use Rattle.table_log.specs.Log.{after_line, after_lines, replayed}
use Rattle.table_log.specs.declared.fault.OpenWhy.{OpenWhy}
use Rattle.table_log.specs.declared.fault.OpenWhy.TheVariants as whys
use Rattle.table_terms.specs.Table.{TableState}

pub leaves : (start : TableState) (bytes : List ℕ) (torn : ℕ) (table : TableState) → IsReplayed start bytes torn table → replayed start bytes ≡ Some table
leaves start bytes torn table is = ap (after_lines start) (sym is.loaded.lines) ∙ is.loaded.log.leaves

-- no line behind one that is refused is carried out
behind_refused : (start : TableState) (before : List (List ℕ)) (line : List ℕ) (later : List (List ℕ)) (t : TableState) → after_lines start before ≡ Some t → after_line t line ≡ None
    → after_lines start (before ++ line ∷ later) ≡ None
behind_refused start [] line later t accepted refused =
    let same : start ≡ t = cc in
    ap (option_and_then (λ next. after_lines next later)) (ap (λ (x : TableState). after_line x line) same ∙ refused)
behind_refused start (l ∷ before) line later t accepted refused = by (after_line start l) (λ next is. behind_refused next before line later t is refused) accepted
  where
    by : (o : Option TableState) → ((next : TableState) → after_lines next before ≡ Some t → after_lines next (before ++ line ∷ later) ≡ None)
        → option_and_then (λ next. after_lines next before) o ≡ Some t → option_and_then (λ next. after_lines next (before ++ line ∷ later)) o ≡ None
    by None more is = refl
    by (Some next) more is = more next is

pub broken : (start : TableState) (bytes : List ℕ) (why : OpenWhy) (t : TableState) → IsUnloaded start bytes why → replayed start bytes ≡ Some t → IsBroken why
broken start bytes (whys.Line number) t is leaves =
    let none = ap (after_lines start) is.lines ∙ behind_refused start is.before is.line is.later is.table is.accepted is.refused in
    cc
broken start bytes whys.Memory t is leaves = tt
broken start bytes whys.Disk t is leaves = tt
