use Rattle.std.proofs.Common.{rules, ◌≡◌, ◌<◌, ◌∙◌, ap, sym, subst, get_or, length, replicate, None}
use Rattle.std.proofs.lemmas.List.{get_or-replicate, length-replicate}
use Rattle.std.proofs.lemmas.List.Elements.{All-replicate, All-same}
use Rattle.std.specs.Prelude.{Option}
use Rattle.shared_tables.specs.Gathered.{LooksFit}
use Rattle.shared_tables.specs.Journal.{AnsweredData, last_number, own}
use Rattle.shared_tables.specs.Kept.{idle}
use Rattle.shared_tables.proofs.cell.TableCell.new.Goals as goal

pub invariant_of-result : goal.invariant_of-result
invariant_of-result c =
    let items : c.in_ok-tallies.tallies.items ≡ replicate c.args.workers idle = c.in_ok-tallies.ensures.items_if_clones_equal (λ y is. search) in
    let none = c.new-2.ensures.items in
    let no_look : Option AnsweredData = None in
    let looks : c.in_ok-looks.looks.items ≡ replicate c.args.workers no_look = c.in_ok-looks.ensures in
    let fits : Option AnsweredData → Type 0 = LooksFit c.in_ok-spec.spec c.new-2.result.items in (
      record {
        placed = search rules;
        legal = search rules;
        replays = search rules;
        counted = λ session less.
            let below : session < c.args.workers = subst (λ n. session < n) (ap length items ∙ length-replicate c.args.workers idle) less in
            let tally = ap (λ xs. get_or xs session idle) items ∙ get_or-replicate c.args.workers session idle idle below in
            record { count = ap (λ t. t.count) tally ∙ sym (ap (λ js. length (own session js)) none); last = ap (λ t. t.last) tally ∙ sym (ap (λ js. last_number (own session js)) none) };
        few = search rules;
        others = search rules;
      },
      record {
        each = ap length looks ∙ length-replicate c.args.workers no_look ∙ sym (ap length items ∙ length-replicate c.args.workers idle);
        fit = All-same fits c.in_ok-looks.looks.items (replicate c.args.workers no_look) looks (All-replicate fits c.args.workers no_look tt);
      },
    )
