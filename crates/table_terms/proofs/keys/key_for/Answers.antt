use Rattle.std.proofs.Common.{◌≡◌, ◌<◌, Some, None, Ok, length, get_or, sym, ap, subst, ◌∙◌}
use Rattle.std.specs.Prelude.{slice_get}
use Rattle.list_model.proofs.Lists.{slice_get_at}
use Rattle.table_terms.specs.Words.{index_named}
use Rattle.table_terms.specs.Values.{probe_from}
use Rattle.table_terms.proofs.Keyed.{is_key, key_for_is}
use Rattle.table_terms.proofs.keys.key_for.Goals as goal

pub returns-in-Some-clause-searches : goal.returns-in-Some-clause-searches
returns-in-Some-clause-searches c =
    let item = c.index-indices-index.result in
    let within : c.in-Ok.index < length c.args.spec.now.indices = subst (λ is. c.in-Ok.index < length is) c.indices.ensures.value c.in-Ok.ensures.within in
    let there : slice_get c.args.spec.now.indices c.in-Ok.index ≡ Some item =
    slice_get_at c.args.spec.now.indices c.in-Ok.index item within ∙ ap Some (ap (λ is. get_or is c.in-Ok.index item) (sym c.indices-2.ensures.value) ∙ sym c.index-indices-index.is) in
    let is_probe : probe_from c.args.spec.now.columns item c.args.values.now ≡ Some c.in-Some.probe =
    ap (λ columns. probe_from columns item c.args.values.now) (sym c.columns.ensures.value) ∙ (sym c.in_ok-probe.ensures ∙ c.in-Some.is) in
    is_key c.args.spec.now c.args.values.now c.in-Ok.index item c.in-Some.probe within there is_probe

pub returns-in-Some-clause-key : goal.returns-in-Some-clause-key
returns-in-Some-clause-key c =
    let item = c.index-indices-index.result in
    let within : c.in-Ok.index < length c.args.spec.now.indices = subst (λ is. c.in-Ok.index < length is) c.indices.ensures.value c.in-Ok.ensures.within in
    let there : slice_get c.args.spec.now.indices c.in-Ok.index ≡ Some item =
    slice_get_at c.args.spec.now.indices c.in-Ok.index item within ∙ ap Some (ap (λ is. get_or is c.in-Ok.index item) (sym c.indices-2.ensures.value) ∙ sym c.index-indices-index.is) in
    let named : index_named c.args.kinds c.args.spec.now.indices c.args.name.now ≡ Ok c.in-Ok.index =
    ap (λ is. index_named c.args.kinds is c.args.name.now) (sym c.indices.ensures.value) ∙ sym c.in-Ok.ensures.index in
    let is_probe : probe_from c.args.spec.now.columns item c.args.values.now ≡ Some c.in-Some.probe =
    ap (λ columns. probe_from columns item c.args.values.now) (sym c.columns.ensures.value) ∙ (sym c.in_ok-probe.ensures ∙ c.in-Some.is) in
    sym (key_for_is c.args.spec.now c.args.kinds c.args.name.now c.args.values.now c.in-Ok.index item (Some c.in-Some.probe) named there is_probe)

pub returns-in-None-clause-key : goal.returns-in-None-clause-key
returns-in-None-clause-key c =
    let item = c.index-indices-index.result in
    let within : c.in-Ok.index < length c.args.spec.now.indices = subst (λ is. c.in-Ok.index < length is) c.indices.ensures.value c.in-Ok.ensures.within in
    let there : slice_get c.args.spec.now.indices c.in-Ok.index ≡ Some item =
    slice_get_at c.args.spec.now.indices c.in-Ok.index item within ∙ ap Some (ap (λ is. get_or is c.in-Ok.index item) (sym c.indices-2.ensures.value) ∙ sym c.index-indices-index.is) in
    let named : index_named c.args.kinds c.args.spec.now.indices c.args.name.now ≡ Ok c.in-Ok.index =
    ap (λ is. index_named c.args.kinds is c.args.name.now) (sym c.indices.ensures.value) ∙ sym c.in-Ok.ensures.index in
    let is_probe : probe_from c.args.spec.now.columns item c.args.values.now ≡ None =
    ap (λ columns. probe_from columns item c.args.values.now) (sym c.columns.ensures.value) ∙ (sym c.in_ok-probe.ensures ∙ c.in-None.is) in
    sym (key_for_is c.args.spec.now c.args.kinds c.args.name.now c.args.values.now c.in-Ok.index item None named there is_probe)
