use Rattle.std.proofs.Common.{◌≡◌, ◌<◌, ◌≤◌, ◌∙◌, length, get_or, ap, subst}
use Rattle.wit_features.specs.Features.{with_name}
use Rattle.component_linker.proofs.Opened.{with_names, one_more, all_named}
use Rattle.component_linker.proofs.program.activate.Goals as goal

pub loop-feature-init : goal.loop-feature-init
loop-feature-init c = ap (with_names c.args.session.now) c.requires

pub loop-feature-preserved : goal.loop-feature-preserved
loop-feature-preserved c =
    let fs = c.args.line.now.features.items in
    let i = c.loop-feature.feature-index in
    let x = c.feature-item.result in
    let old = c.loop-feature.session in
    let whole = c.deref-feature-items.ensures.value in
    let here : i < length fs = subst (λ l. i < length l) whole c.loop-feature-test.true in
    let is : x ≡ get_or fs i x = subst (λ l. x ≡ get_or l i x) whole c.feature-item.is in
    one_more c.args.session.now old c.add_feature.new.self fs i x here is c.loop-feature.invariant
    (c.in_ok-add_feature.ensures.ok ∙ ap (λ t. with_names old (with_name old.resolved.features.names t)) c.as_str.ensures.value)

pub returns : goal.returns
returns c =
    let fs = c.args.line.now.features.items in
    let i = c.loop-feature.feature-index in
    let past : length fs ≤ i = subst (λ l. length l ≤ i) c.deref-feature-items.ensures.value c.loop-feature-test.false in
    all_named c.args.session.now c.loop-feature.session c.all_features.new.self c.args.line.now i past c.loop-feature.invariant c.all_features.ensures
