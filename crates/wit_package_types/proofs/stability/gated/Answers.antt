use Rattle.std.proofs.Common.{sym, subst}
use Rattle.std.specs.Prelude.{option_map}
use Rattle.wit_rules.specs.Passed.wit_syntax-AstView as view
use Rattle.wit_rules.specs.declared.gates.Gates.{Gates}
use Rattle.wit_rules.specs.View as rule_view
use Rattle.wit_types.specs.declared.stability.Stability.TheVariants.{Unknown, Unstable, Stable}
use Rattle.wit_package_types.specs.Stability.{IsGated, is_ungated, is_of_feature, is_from_version}
use Rattle.wit_package_types.proofs.stability.gated.Goals as goal

pub returns-in-Ungated : goal.returns-in-Ungated
returns-in-Ungated c = subst (λ (g : Gates). IsGated (rule_view.gates g) Unknown) (sym c.in-Ungated.is) is_ungated

pub returns-in_ok-deprecated-in-OfFeature : goal.returns-in_ok-deprecated-in-OfFeature
returns-in_ok-deprecated-in-OfFeature c =
    subst (λ (g : Gates). IsGated (rule_view.gates g) (Unstable c.in_ok-feature-in-OfFeature.feature c.in_ok-deprecated-in-OfFeature.deprecated)) (sym c.in-OfFeature.is)
    (is_of_feature (view.id c.in-OfFeature.feature) (option_map view.version c.in-OfFeature.deprecated) c.in_ok-feature-in-OfFeature.feature c.in_ok-deprecated-in-OfFeature.deprecated
    c.in_ok-feature-in-OfFeature.ensures.ok c.in_ok-deprecated-in-OfFeature.ensures)

pub returns-in_ok-deprecated-in-FromVersion : goal.returns-in_ok-deprecated-in-FromVersion
returns-in_ok-deprecated-in-FromVersion c =
    subst (λ (g : Gates). IsGated (rule_view.gates g) (Stable c.in_ok-since-in-FromVersion.since c.in_ok-deprecated-in-FromVersion.deprecated)) (sym c.in-FromVersion.is)
    (is_from_version (view.version c.in-FromVersion.since) (option_map view.version c.in-FromVersion.deprecated) c.in_ok-since-in-FromVersion.since c.in_ok-deprecated-in-FromVersion.deprecated
    c.in_ok-since-in-FromVersion.ensures c.in_ok-deprecated-in-FromVersion.ensures)
