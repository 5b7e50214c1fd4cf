use Rattle.std.proofs.Common.{rules, arith, ◌≡◌, ◌∙◌, true, false, Some, sym, ap, length}
use Rattle.std.specs.Prelude.{nat_lt, option_map}
use Rattle.std.proofs.lemmas.Bool.Decides.{nat_tests}
use Rattle.table_schema.specs.Defined.{is_new_name}
use Rattle.table_schema.specs.Draft.{IndexDraft}
use Rattle.table_schema.proofs.Defined.{not_given, not_good, is_defined, never_none}
use Rattle.table_schema.proofs.define.define_index.Goals as goal

pub returns-in_default-clause-fault : goal.returns-in_default-clause-fault
returns-in_default-clause-fault c =
    let draft : IndexDraft = record { name = c.args.name.now; kind = c.args.kind; unique = c.args.unique; key = option_map (λ texts. texts.now) c.args.key } in
    let room : nat_lt (length c.args.indices.now) 8 ≡ true = grind (arith, nat_tests) in
    let new : is_new_name c.args.indices.now c.args.name.now ≡ true = search rules in
    not_given c.args.columns.now c.args.indices.now draft room new (sym c.given_key.ensures ∙ c.in_default.is)

pub returns-then-not-is_good_key-clause-fault : goal.returns-then-not-is_good_key-clause-fault
returns-then-not-is_good_key-clause-fault c =
    let draft : IndexDraft = record { name = c.args.name.now; kind = c.args.kind; unique = c.args.unique; key = option_map (λ texts. texts.now) c.args.key } in
    let room : nat_lt (length c.args.indices.now) 8 ≡ true = grind (arith, nat_tests) in
    let new : is_new_name c.args.indices.now c.args.name.now ≡ true = search rules in
    let same = c.is_good_key.ensures c.args.name.now in
    let bad : c.is_good_key.result ≡ false = search rules in
    not_good c.args.columns.now c.args.indices.now draft room new c.in-Some.key (sym c.given_key.ensures ∙ c.in-Some.is) (sym same ∙ bad)

pub returns-in_default-copy-clause-fault : goal.returns-in_default-copy-clause-fault
returns-in_default-copy-clause-fault c =
    let draft : IndexDraft = record { name = c.args.name.now; kind = c.args.kind; unique = c.args.unique; key = option_map (λ texts. texts.now) c.args.key } in
    let room : nat_lt (length c.args.indices.now) 8 ≡ true = grind (arith, nat_tests) in
    let new : is_new_name c.args.indices.now c.args.name.now ≡ true = search rules in
    let same = c.is_good_key.ensures c.args.name.now in
    let good : c.is_good_key.result ≡ true = search rules in
    never_none c.args.columns.now c.args.indices.now draft room new c.in-Some.key (sym c.given_key.ensures ∙ c.in-Some.is) (sym same ∙ good)

pub returns-clause-defined : goal.returns-clause-defined
returns-clause-defined c =
    let draft : IndexDraft = record { name = c.args.name.now; kind = c.args.kind; unique = c.args.unique; key = option_map (λ texts. texts.now) c.args.key } in
    let room : nat_lt (length c.args.indices.now) 8 ≡ true = grind (arith, nat_tests) in
    let new : is_new_name c.args.indices.now c.args.name.now ≡ true = search rules in
    let same = c.is_good_key.ensures c.args.name.now in
    let good : c.is_good_key.result ≡ true = search rules in
    is_defined c.args.columns.now c.args.indices.now draft room new c.in-Some.key (sym c.given_key.ensures ∙ c.in-Some.is) (sym same ∙ good)
    ∙ ap (λ name. Some (record { name = name; kind = c.args.kind; unique = c.args.unique; key = c.in-Some.key })) (sym c.in-Ok.ensures)

pub returns-clause-fits : goal.returns-clause-fits
returns-clause-fits c =
    let new : is_new_name c.args.indices.now c.args.name.now ≡ true = search rules in
    let good : c.is_good_key.result ≡ true = search rules in
    record {
      room = grind (arith, nat_tests);
      name = ap (is_new_name c.args.indices.now) c.in-Ok.ensures ∙ new;
      key = sym (c.is_good_key.ensures c.in-Ok.name) ∙ good;
    }
